use Rattle.hub_core.specs.Shows.{FitsAndShows}
use Rattle.hub_steps.specs.Computation.{step}
use Rattle.hub_steps.specs.Performed.{ComputesAt}
use Rattle.hub_steps.proofs.Computing.{if_ok, stepped}
use Rattle.hub_steps.proofs.entering.take_core_step.Goals as goal

pub returns-clause-answer : goal.returns-clause-answer
returns-clause-answer c =
    let old = c.args.core.now in
    let new = c.step.new.self in
    let refused = c.args.memory_refused in
    let action = c.args.action in
    if_ok (λ o. FitsAndShows old new (record { action = action; memory_refused = refused }) o) (λ o. ComputesAt old new (step refused action) o) (stepped old new refused action) c.step.result c.step.ensures.fits
