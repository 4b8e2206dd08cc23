use Rattle.std.proofs.Common.{rules, tests, ◌∙◌}
use Rattle.std.proofs.lemmas.Iterator.{YieldsList-from_slice}
use Rattle.std.proofs.lemmas.Iterator.Search.{any_from_yields_List}
use Rattle.hub_trace.specs.Got.{Receipt}
use Rattle.hub_trace.specs.Fault.{is_name_of}
use Rattle.hub_trace.specs.Views.{receipt_of}
use Rattle.hub_trace.proofs.Faults.{list_any-map}
use Rattle.hub_trace.proofs.checker.is_name_among_got.Goals as goal

pub returns : goal.returns
returns c =
    any_from_yields_List (λ x. is_name_of x.posted c.args.posted.now) _ _ _ c.any.ensures.ran (YieldsList-from_slice c.args.got.now cc) (λ x b q k. search (rules, tests))
    ∙ list_any-map receipt_of (λ (r : Receipt). is_name_of r.delivery.posted c.args.posted.now) c.args.got.now
