-- What holds of a queue of running threads at every moment: what it holds and what its passes know show a state of the queue machine.
use Rattle.std.specs.Prelude.{◌≡◌, ℕ, ◌<◌, ◌≤◌, List, [], length, Option, Some, None, slice_get}
use mathlib.Core.Option as maybe
use lib.ListN.{get_elem?}
use Rattle.hub_envelope.specs.declared.envelope.Envelope.{Envelope}
use Rattle.hub_core.specs.QueueMachine.{Queue, IsQueue}
use Rattle.hub_envelope.specs.declared.limits.TheConstants.{MAX_PUT}
use Rattle.hub_queue.specs.declared.store.PutView.{PutView}
use Rattle.hub_queue.specs.declared.store.TakeView.{TakeView}
use Rattle.hub_queue.specs.declared.store.PassView.{PassView}
use Rattle.hub_queue.specs.declared.store.PassView.TheVariants.{Takes, Puts, Both, Spent}

-- a queue that threads share: its end and epoch, how many lines have got a pass, its state, and by number which pass is the taker's and which one each line has
pub record SharedQueue : Type 0 where
  pub end : ℕ
  pub epoch : ℕ
  pub lines : ℕ
  pub state : Queue
  pub taker : ℕ
  pub pass_of : ℕ → Option ℕ

-- the pass is the one of its line, and what it knows is so
pub record IsPutter (q : SharedQueue) (pass : ℕ) (v : PutView) : Type 0 where
  pub within : v.line < q.lines
  pub stands : q.pass_of v.line ≡ Some pass
  pub end : v.end ≡ q.end
  pub epoch : v.epoch ≡ q.epoch
  pub put : v.put ≡ q.state.put v.line

-- the line has no pass any more, and has put this
pub record IsTakenIn (q : SharedQueue) (v : PutView) : Type 0 where
  pub within : v.line < q.lines
  pub no_pass : q.pass_of v.line ≡ None
  pub put : v.put ≡ q.state.put v.line

-- the pass is the taker's, and what it knows is so
pub record IsTaker (q : SharedQueue) (pass : ℕ) (v : TakeView) : Type 0 where
  pub stands : pass ≡ q.taker
  pub end : v.end ≡ q.end
  pub epoch : v.epoch ≡ q.epoch
  pub lines : v.lines ≡ q.lines
  pub got : v.got ≡ q.state.got
  pub known : (i : ℕ) (k : PutView) → slice_get v.known i ≡ Some k → IsTakenIn q k

-- what a pass knows is so
abbrev pub KnowsQueue : SharedQueue → ℕ → PassView → Type 0
KnowsQueue q pass (Takes t) = IsTaker q pass t
KnowsQueue q pass (Puts v) = IsPutter q pass v
KnowsQueue q pass (Both t v) = IsTaker q pass t × IsPutter q pass v
KnowsQueue q pass Spent = Unit {0}

-- The rule: what the queue holds is what a queue of this end and epoch holds after some pushes and pops, and what each pass knows of it is so.
pub record ShowsQueue (items : List Envelope) (views : List PassView) : Type 0 where
  pub shared : SharedQueue
  pub is_queue : IsQueue shared.end shared.epoch shared.lines shared.state
  pub held : shared.state.held ≡ items
  pub unused : (line : ℕ) → shared.lines ≤ line → shared.pass_of line ≡ None
  pub few : (line : ℕ) → length (shared.state.put line) ≤ MAX_PUT
  pub knows : (pass : ℕ) (v : PassView) → get_elem? views pass ≡ maybe.some v → KnowsQueue shared pass v

-- what the first pass of a queue knows: it is the taker's, and no line has a pass
abbrev pub first_view : PassView
first_view = Takes (record { end = 0; epoch = 0; lines = 0; got = []; known = [] })
