-- What each step of a pass makes of what it knows, and what the taker's pass learns.
use Rattle.std.specs.Prelude.{◌≡◌, ℕ, ◌+◌, ◌<◌, ◌≤◌, List, [], ◌∷◌, ◌++◌, length, Some, slice_get}
use Rattle.hub_envelope.specs.declared.envelope.Envelope.{Envelope}
use Rattle.hub_core.specs.Sender.{by}
use Rattle.hub_core.specs.QueueMachine.{Queue, IsNamed, IsQueue}
use Rattle.hub_queue.specs.declared.store.PutView.{PutView}
use Rattle.hub_queue.specs.declared.store.TakeView.{TakeView}
use Rattle.hub_queue.specs.declared.store.PassView.{PassView}
use Rattle.hub_queue.specs.declared.store.PassView.TheVariants.{Takes, Puts, Both, Spent}
use Rattle.hub_envelope.specs.declared.limits.TheConstants.{MAX_PUT}

-- the line has put one envelope more
abbrev pub put_more : PutView → Envelope → PutView
put_more v x = record { end = v.end; epoch = v.epoch; line = v.line; put = v.put ++ x ∷ []; refused = v.refused }

-- the queue has refused one push more of the line
abbrev pub refused_more : PutView → PutView
refused_more v = record { end = v.end; epoch = v.epoch; line = v.line; put = v.put; refused = v.refused + 1 }

-- one envelope more was taken
abbrev pub got_more : TakeView → Envelope → TakeView
got_more t x = record { end = t.end; epoch = t.epoch; lines = t.lines; got = t.got ++ x ∷ []; known = t.known }

-- one line more has a pass, and the queue is of this end and epoch
abbrev pub cut_more : ℕ → ℕ → TakeView → TakeView
cut_more end epoch t = record { end = end; epoch = epoch; lines = t.lines + 1; got = t.got; known = t.known }

-- the view of the line that gets a pass next: it has put nothing
abbrev pub next_put : ℕ → ℕ → TakeView → PutView
next_put end epoch t = record { end = end; epoch = epoch; line = t.lines; put = []; refused = 0 }

-- the pass of one line more was taken in for good
abbrev pub known_more : TakeView → PutView → TakeView
known_more t v = record { end = t.end; epoch = t.epoch; lines = t.lines; got = t.got; known = v ∷ t.known }

-- what a pop tells of the envelope: it bears the name of the queue, and no line has put too many
pub record IsPopped (t : TakeView) (x : Envelope) : Type 0 where
  pub named : IsNamed t.end t.epoch t.lines x
  pub few : length (by x.line.0 (t.got ++ x ∷ [])) ≤ MAX_PUT

-- a push by the pass of a line, and a pop by the taker's
abbrev pub after_put : PassView → Envelope → PassView
after_put (Puts v) x = Puts (put_more v x)
after_put (Takes t) x = Takes t
after_put (Both t v) x = Both t v
after_put Spent x = Spent

abbrev pub after_take : PassView → Envelope → PassView
after_take (Takes t) x = Takes (got_more t x)
after_take (Puts v) x = Puts v
after_take (Both t v) x = Both t v
after_take Spent x = Spent

abbrev pub TellsOf : PassView → Envelope → Type 0
TellsOf (Takes t) x = IsPopped t x
TellsOf (Puts v) x = Unit {0}
TellsOf (Both t v) x = Unit {0}
TellsOf Spent x = Unit {0}

-- the taker's pass cuts off the pass of the next line
abbrev pub taker_left : ℕ → ℕ → PassView → PassView
taker_left end epoch (Takes t) = Takes (cut_more end epoch t)
taker_left end epoch (Puts v) = Puts v
taker_left end epoch (Both t v) = Both t v
taker_left end epoch Spent = Spent

abbrev pub line_cut : ℕ → ℕ → PassView → PassView
line_cut end epoch (Takes t) = Puts (next_put end epoch t)
line_cut end epoch (Puts v) = Spent
line_cut end epoch (Both t v) = Spent
line_cut end epoch Spent = Spent

-- the taker's pass takes in the pass of a line for good
abbrev pub taken_in : PassView → PassView → PassView
taken_in (Takes t) (Puts v) = Takes (known_more t v)
taken_in (Takes t) (Takes u) = Takes t
taken_in (Takes t) (Both u v) = Takes t
taken_in (Takes t) Spent = Takes t
taken_in (Puts v) w = Puts v
taken_in (Both t v) w = Both t v
taken_in Spent w = Spent

-- the pass of a line counts a push that was refused
abbrev pub refusal_counted : PassView → PassView
refusal_counted (Puts v) = Puts (refused_more v)
refusal_counted (Takes t) = Takes t
refusal_counted (Both t v) = Both t v
refusal_counted Spent = Spent

abbrev pub no_more : PassView → PassView
no_more v = Spent

-- the pass of a line hands all that it may do to a new pass
abbrev pub lent_left : PassView → PassView
lent_left v = Spent

abbrev pub lent : PassView → PassView
lent v = v

-- the taker's pass takes in the pass of a line for a while, and gives it back
abbrev pub joined_pass : PassView → PassView → PassView
joined_pass (Takes t) (Puts v) = Both t v
joined_pass (Takes t) (Takes u) = Takes t
joined_pass (Takes t) (Both u v) = Takes t
joined_pass (Takes t) Spent = Takes t
joined_pass (Puts v) w = Puts v
joined_pass (Both t v) w = Both t v
joined_pass Spent w = Spent

abbrev pub taker_again : PassView → PassView
taker_again (Both t v) = Takes t
taker_again (Takes t) = Takes t
taker_again (Puts v) = Puts v
taker_again Spent = Spent

abbrev pub line_again : PassView → PassView
line_again (Both t v) = Puts v
line_again (Takes t) = Spent
line_again (Puts v) = Spent
line_again Spent = Spent

-- The queue holds these, in a state of the queue machine in which the taker has taken what it knows: the state of this end and epoch, with so many lines. Where it holds nothing, line by line what was taken is all that was put.
pub record ShowsHeld (t : TakeView) (items : List Envelope) : Type 0 where
  pub queue : Queue
  pub is_queue : IsQueue t.end t.epoch t.lines queue
  pub got : queue.got ≡ t.got
  pub held : queue.held ≡ items
  pub all : items ≡ [] → (line : ℕ) → by line t.got ≡ queue.put line

-- of each line whose pass was taken in: what was taken of it and what the queue holds of it is what it has put
abbrev pub AccountsFor : TakeView → List Envelope → Type 0
AccountsFor t items = (i : ℕ) (k : PutView) → slice_get t.known i ≡ Some k → by k.line (t.got ++ items) ≡ k.put

-- what the taker's pass learns of what the queue holds
abbrev pub Learnt : PassView → List Envelope → Type 0
Learnt (Takes t) items = ShowsHeld t items × AccountsFor t items
Learnt (Puts v) items = Unit {0}
Learnt (Both t v) items = (v.line < t.lines) × (by v.line (t.got ++ items) ≡ v.put)
Learnt Spent items = Unit {0}
