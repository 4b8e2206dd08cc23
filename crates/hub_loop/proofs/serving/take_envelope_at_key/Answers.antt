use Rattle.std.proofs.Common.{◌∙◌, ap, refl, sym, None}
use Rattle.std.specs.Option.{option_copied_mut}
use Rattle.hub_loop.proofs.Serves.{taken-nowhere, taken-there}
use Rattle.hub_loop.proofs.serving.take_envelope_at_key.Goals as goal

pub returns-in-Some : goal.returns-in-Some
returns-in-Some g c =
    let was = sym c.get_mut.ensures.value ∙ ap option_copied_mut c.in-Some.is in
    (c.take_past_emptied_queues.result, taken-there c.args.held.now c.args.key c.in-Some.held.now c.take_past_emptied_queues.new.self c.args.steps.now c.take_past_emptied_queues.new.steps c.take_past_emptied_queues.result was c.take_past_emptied_queues.ensures, c.from_answer_of_end.ensures)

pub returns-in-None : goal.returns-in-None
returns-in-None g c =
    let none = sym c.get_mut.ensures.value ∙ ap option_copied_mut c.in-None.is in
    (None, taken-nowhere c.args.held.now c.args.key c.args.steps.now none, refl)
