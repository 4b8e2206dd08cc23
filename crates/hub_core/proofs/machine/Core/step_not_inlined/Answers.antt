-- What holds of the step that is taken holds of the one that was given, since they are the same.
use Rattle.std.proofs.Common.{◌≡◌, Bool, Result, IfOk, subst, sym}
use Rattle.hub_core.proofs.Words.{Core, Outcome, Action, FitsAndShows}
use Rattle.hub_core.specs.declared.step.Action.TheVariants as action
use Rattle.hub_core.proofs.machine.Core.step_not_inlined.Goals as goal

given : {E : Type 0} (old new : Core) (refused : Bool) (result : Result Outcome E) (a b : Action) → b ≡ a
    → IfOk result (λ o. FitsAndShows old new (record { action = a; memory_refused = refused }) o)
    → IfOk result (λ o. FitsAndShows old new (record { action = b; memory_refused = refused }) o)
given old new refused result a b is fits = subst (λ (x : Action). IfOk result (λ o. FitsAndShows old new (record { action = x; memory_refused = refused }) o)) (sym is) fits

pub returns-in-Enter : goal.returns-in-Enter
returns-in-Enter c =
    given c.args.self.now c.step.new.self c.args.step.memory_refused c.step.result (action.Enter c.in-Enter.sender) c.args.step.action c.in-Enter.is c.step.ensures.fits

pub returns-in-Push : goal.returns-in-Push
returns-in-Push c =
    given c.args.self.now c.step-in-Push.new.self c.args.step.memory_refused c.step-in-Push.result (action.Push c.in-Push.sender c.in-Push.ports c.in-Push.body) c.args.step.action c.in-Push.is c.step-in-Push.ensures.fits

pub returns-in-Leave : goal.returns-in-Leave
returns-in-Leave c =
    given c.args.self.now c.step-in-Leave.new.self c.args.step.memory_refused c.step-in-Leave.result (action.Leave c.in-Leave.sender) c.args.step.action c.in-Leave.is c.step-in-Leave.ensures.fits

pub returns-in-Take : goal.returns-in-Take
returns-in-Take c =
    given c.args.self.now c.step-in-Take.new.self c.args.step.memory_refused c.step-in-Take.result (action.Take c.in-Take.end) c.args.step.action c.in-Take.is c.step-in-Take.ensures.fits
