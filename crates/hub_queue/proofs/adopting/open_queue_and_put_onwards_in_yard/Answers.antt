use Rattle.std.proofs.Common.{ap, ◌∙◌, Err}
use Rattle.hub_queue.specs.Mailboxes.{stands_at}
use Rattle.hub_queue.proofs.NextNames.{keeps_one, keeps_nothing}
use Rattle.hub_queue.proofs.Seating.{new_taker_queue}
use Rattle.hub_queue.proofs.adopting.open_queue_and_put_onwards_in_yard.Goals as goal

pub returns-in-Ok-put_all_or_none-clause-ok : goal.returns-in-Ok-put_all_or_none-clause-ok
returns-in-Ok-put_all_or_none-clause-ok g c = new_taker_queue _ _ _ _ _ c.in-Ok.ensures

pub returns-in-Ok-put_all_or_none-clause-free : goal.returns-in-Ok-put_all_or_none-clause-free
returns-in-Ok-put_all_or_none-clause-free g c =
    let queue = c.in-Ok.queue in
    let lines = ap (λ t. t.lines) c.in-Ok.ensures.at in
    let stands = c.in-Ok-make_onward_for_each_entry.ensures ∙ ap (stands_at queue.keeper.gate queue.queue c.args.end c.args.epoch) lines in
    keeps_nothing queue.keeper.gate queue.queue c.args.end c.args.epoch c.args.lines (g.L.Lends.shown c.args.yard.now) c.in-Ok-make_onward_for_each_entry.onwards.items stands c.in-Ok-put_all_or_none.ensures.free

pub returns-in-Err-Taken-clause-taken : goal.returns-in-Err-Taken-clause-taken
returns-in-Err-Taken-clause-taken g c = λ is.
    let queue = c.in-Ok.queue in
    let lines = ap (λ t. t.lines) c.in-Ok.ensures.at in
    let stands = c.in-Ok-make_onward_for_each_entry.ensures ∙ ap (stands_at queue.keeper.gate queue.queue c.args.end c.args.epoch) lines in
    keeps_one queue.keeper.gate queue.queue c.args.end c.args.epoch c.args.lines (g.L.Lends.shown c.args.yard.now) c.in-Ok-make_onward_for_each_entry.onwards.items c.in-Err-Taken.field-0-0 stands
    (c.in-Err-Taken.ensures.taken c.in-Err-Taken.field-0-0 (ap Err c.in-Err-Taken.field-0-is))
