-- What a post rings.
use Rattle.std.specs.Prelude.{◌≡◌, ◌⊎◌, ℕ, MatchBool, Result, Ok, Err}
use Rattle.hub_bell.specs.Ringing.{IsRung}
use Rattle.hub_bell.specs.Seats.{Done, silent}
use Rattle.hub_core.specs.GateMachine as machine
use Rattle.hub_envelope.specs.declared.envelope.Draft.{Draft}
use Rattle.hub_envelope.specs.declared.ids.EndId.{EndId}
use Rattle.hub_envelope.specs.declared.posted.Posted.{Posted}
use Rattle.hub_queue.specs.declared.stand.Tried.{Tried}
use Rattle.hub_queue.specs.declared.stand.Tried.TheVariants.{Answered, Turned}
use Rattle.hub_queue.specs.declared.error.PostError.{PostError}
use Rattle.hub_queue.specs.Posting.{StaysAt, GoesTo}
use Rattle.hub_queue.specs.Standing.{StandSeat}

-- whoever left a gate by this word has rung for the end where the word has ENABLED, and else has not
abbrev pub IsRungWhere : Done → Done → EndId → ℕ → Type 0
IsRungWhere old new end word = MatchBool (machine.enabled_in word) (IsRung old new end) (new ≡ old)

-- by the word that the line found as it left last
abbrev pub IsRungAt : StandSeat → Done → Type 0
IsRungAt s before = IsRungWhere before s.rung s.name.end s.entry.at.left

-- of one attempt at one queue: a line that was turned has not rung
abbrev pub RingsTried : StandSeat → StandSeat → Tried → Type 0
RingsTried old new (Answered answer) = IsRungAt new old.rung
RingsTried old new (Turned found) = new.rung ≡ old.rung

-- of a line that goes on: where it was let in at a later queue, its bell there had never rung before
abbrev pub RingsOnward : StandSeat → Result Posted (PostError × Draft) → Type 0
RingsOnward new (Ok posted) = IsRungAt new silent
RingsOnward new (Err refused) = Unit {0}

-- An accepted post has rung for the end where it left an enabled gate, and has not where it left another. Before that the bell of the queue had done what it had done before the call, or nothing where the line has gone on in it.
abbrev pub HasRung : StandSeat → StandSeat → Result Posted (PostError × Draft) → Type 0
HasRung old new (Ok posted) = (before : Done) × ((StaysAt old new × (before ≡ old.rung)) ⊎ (GoesTo old new × (before ≡ silent))) × IsRungAt new before
HasRung old new (Err refused) = Unit {0}
