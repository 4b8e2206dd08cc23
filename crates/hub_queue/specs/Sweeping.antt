-- What a sweep of a closed end comes to.
use Rattle.std.specs.Prelude.{◌≡◌, ◌⊎◌, ℕ, ◌+◌, ◌<◌, Bool, List, [], ◌∷◌, ◌++◌, map, count_by, slice_get, Option, Some, None, Result, Ok, Err}
use Rattle.std.specs.List.{AllByRecursion}
use Rattle.hub_envelope.specs.declared.envelope.Envelope.{Envelope}
use Rattle.hub_core.specs.Sender.{by}
use Rattle.hub_queue.specs.declared.store.PutView.{PutView}
use Rattle.hub_queue.specs.declared.grave.Sweep.{Sweep}
use Rattle.hub_queue.specs.declared.grave.Sweep.TheVariants.{Discarded, StillInside, NoRoom}
use Rattle.hub_queue.specs.declared.settling.Stop.{Stop}
use Rattle.hub_queue.specs.declared.settling.Stop.TheVariants as stop
use Rattle.hub_queue.specs.Graves.{GraveSeat, SweptSeat}
use Rattle.hub_queue.specs.Laws.{got_from, all_put}
use Rattle.hub_queue.specs.TakerQueues.{TakerQueueSeat, TakesThese, IsHeldUp, IsQueueSettled}

-- the same queues, one for one; what was taken more of each, joined in their order, is this
abbrev pub TakesOfEach : List TakerQueueSeat → List TakerQueueSeat → List Envelope → Type 0
TakesOfEach [] [] more = more ≡ []
TakesOfEach [] (q ∷ qs) more = ⊥
TakesOfEach (p ∷ ps) [] more = ⊥
TakesOfEach (p ∷ ps) (q ∷ qs) more = (here : List Envelope) × (rest : List Envelope) × (more ≡ here ++ rest) × TakesThese p q here × TakesOfEach ps qs rest

-- at one of the queues a look found somebody
abbrev pub OneIsHeldUp : List TakerQueueSeat → List TakerQueueSeat → Type 0
OneIsHeldUp [] qs = ⊥
OneIsHeldUp (p ∷ ps) [] = ⊥
OneIsHeldUp (p ∷ ps) (q ∷ qs) = IsHeldUp p q ⊎ OneIsHeldUp ps qs

-- What a sweep of the queues of a closed end comes to. Ok: all are settled, so everything that was put was taken. Still inside: a look found somebody at one of them. What was taken joins what was collected before, queue after queue.
abbrev pub AreSwept : List TakerQueueSeat → List TakerQueueSeat → List Envelope → List Envelope → Result (Unit {0}) Stop → Type 0
AreSwept old new before after (Ok done) = (more : List Envelope) × (after ≡ before ++ more) × TakesOfEach old new more × AllByRecursion IsQueueSettled new
AreSwept old new before after (Err stop.StillInside) = (more : List Envelope) × (after ≡ before ++ more) × TakesOfEach old new more × OneIsHeldUp old new
AreSwept old new before after (Err stop.NoRoom) = (more : List Envelope) × (after ≡ before ++ more) × TakesOfEach old new more

-- What a sweep comes to. Discarded: what is left are all queues of the grave and all that was collected from them, now and before. Still inside and no room: so is the grave that comes back.
abbrev pub IsSwept : GraveSeat → Sweep → Type 0
IsSwept g (Discarded s) = (s.end ≡ g.end) × AreSwept g.queues s.queues g.envelopes s.envelopes (Ok tt)
IsSwept g (StillInside h) = (h.end ≡ g.end) × (h.epoch ≡ g.epoch) × AreSwept g.queues h.queues g.envelopes h.envelopes (Err stop.StillInside)
IsSwept g (NoRoom h) = (h.end ≡ g.end) × (h.epoch ≡ g.epoch) × AreSwept g.queues h.queues g.envelopes h.envelopes (Err stop.NoRoom)

-- the same queues, one for one, of each of which more may have been taken
abbrev pub AreSameQueues : List TakerQueueSeat → List TakerQueueSeat → Type 0
AreSameQueues [] [] = Unit {0}
AreSameQueues [] (q ∷ qs) = ⊥
AreSameQueues (p ∷ ps) [] = ⊥
AreSameQueues (p ∷ ps) (q ∷ qs) = ((more : List Envelope) × TakesThese p q more) × AreSameQueues ps qs

-- what was taken more of these queues are the envelopes of this list: by any test, as many pass
abbrev pub AreTaken : List TakerQueueSeat → List TakerQueueSeat → List Envelope → Type 0
AreTaken ps qs more = (passes : Envelope → Bool) → count_by passes (got_from qs) ≡ count_by passes (got_from ps) + count_by passes more

-- The grave after some sweeps, which did not empty it: the same end and queues. What was collected before comes first, and then what these sweeps took.
pub record IsSweptSoFar (g h : GraveSeat) : Type 0 where
  pub end : h.end ≡ g.end
  pub epoch : h.epoch ≡ g.epoch
  pub queues : AreSameQueues g.queues h.queues
  pub more : List Envelope
  pub taken : AreTaken g.queues h.queues more
  pub envelopes : h.envelopes ≡ g.envelopes ++ more

-- What is left of the grave after some sweeps, of which the last has emptied it. What was collected before comes first, and then what these sweeps took.
pub record IsSweptOut (g : GraveSeat) (s : SweptSeat) : Type 0 where
  pub end : s.end ≡ g.end
  pub queues : AreSameQueues g.queues s.queues
  pub more : List Envelope
  pub taken : AreTaken g.queues s.queues more
  pub envelopes : s.envelopes ≡ g.envelopes ++ more

abbrev pub put_known : Option PutView → List Envelope
put_known (Some k) = k.put
put_known None = []

-- what the line has put in a queue, as its pass told it
abbrev pub put_by : ℕ → TakerQueueSeat → List Envelope
put_by line q = put_known (slice_get q.at.known line)

-- For each line of these queues: what was taken of all of them, joined, is all that the line has put in them, joined.
abbrev pub IsWholeChain : List TakerQueueSeat → Type 0
IsWholeChain qs = (line : ℕ) → AllByRecursion (λ q. line < q.at.lines) qs → by line (got_from qs) ≡ all_put (map (put_by line) qs)
