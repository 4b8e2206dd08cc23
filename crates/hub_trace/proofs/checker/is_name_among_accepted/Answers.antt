use Rattle.std.proofs.Common.{rules, tests, ◌∙◌}
use Rattle.std.proofs.lemmas.Iterator.{YieldsList-from_slice}
use Rattle.std.proofs.lemmas.Iterator.Search.{any_from_yields_List}
use Rattle.hub_trace.specs.declared.log_entry.Delivery.{Delivery}
use Rattle.hub_trace.specs.Fault.{is_name_of}
use Rattle.hub_trace.specs.Views.{delivery_of}
use Rattle.hub_trace.proofs.Faults.{list_any-map}
use Rattle.hub_trace.proofs.checker.is_name_among_accepted.Goals as goal

pub returns : goal.returns
returns c =
    any_from_yields_List (λ x. is_name_of x.posted c.args.posted.now) _ _ _ c.any.ensures.ran (YieldsList-from_slice c.args.accepted.now cc) (λ x b q k. search (rules, tests))
    ∙ list_any-map delivery_of (λ (d : Delivery). is_name_of d.posted c.args.posted.now) c.args.accepted.now
