-- How the lines of the listed queues are lent and given back.
use Rattle.std.specs.Prelude.{◌≡◌, ◌≢◌, ℕ, List, slice_get, slice_set, position, is_some, Option, Some, None, Result, Ok, Err, All}
use Rattle.hub_envelope.specs.declared.ids.EndId.{EndId}
use Rattle.hub_queue.specs.Standing.{StandSeat}
use Rattle.hub_clients.specs.declared.error.DirectoryError.{DirectoryError}
use Rattle.hub_clients.specs.declared.error.DirectoryError.TheVariants.{NoSuchEnd, NoLine}
use Rattle.hub_clients.specs.Listings.{ListedSeat, IsFirstOf}

-- the queue with this at one of its lines
abbrev pub with_line : ListedSeat → ℕ → Option StandSeat → ListedSeat
with_line q line now = record { end = q.end; lines = slice_set q.lines line now }

-- Some: the first line with a poster at home was this poster's, and the poster is out now. None: each line is out. Nothing else has changed.
abbrev pub IsTakenOut : ListedSeat → ListedSeat → Option StandSeat → Type 0
IsTakenOut old new (Some p) = (position is_some old.lines ≡ Some p.name.line.0) × (slice_get old.lines p.name.line.0 ≡ Some (Some p)) × (new ≡ with_line old p.name.line.0 None)
IsTakenOut old new None = (position is_some old.lines ≡ None) × (new ≡ old)

-- the poster's line is out
abbrev pub IsOut : ListedSeat → StandSeat → Type 0
IsOut q p = slice_get q.lines p.name.line.0 ≡ Some None

-- Ok: the poster's line was out, and the poster is at home there now. Err: the line isn't out, and the poster comes back. Nothing else has changed.
abbrev pub IsPutBack : ListedSeat → ListedSeat → StandSeat → Result (Unit {0}) StandSeat → Type 0
IsPutBack old new p (Ok _) = IsOut old p × (new ≡ with_line old p.name.line.0 (Some p))
IsPutBack old new p (Err back) = (¬ IsOut old p) × (back ≡ p) × (new ≡ old)

-- Ok: the poster was taken out of the first queue of that number, which is in its place as it is then. NoSuchEnd: no queue of that number is listed. NoLine: the first of that number has each line out. Nothing else has changed.
abbrev pub IsLent : List ListedSeat → List ListedSeat → EndId → Result StandSeat DirectoryError → Type 0
IsLent old new end (Ok p) = (place : ℕ) × (q : ListedSeat) × (r : ListedSeat) × IsFirstOf old end place q × IsTakenOut q r (Some p) × (new ≡ slice_set old place r)
IsLent old new end (Err NoSuchEnd) = All (λ q. q.end ≢ end) old × (new ≡ old)
IsLent old new end (Err NoLine) = (place : ℕ) × (q : ListedSeat) × IsFirstOf old end place q × IsTakenOut q q None × (new ≡ old)

-- Ok: the poster was put back at the first queue of its number, which is in its place as it is then. Err: its line isn't out there, and the poster comes back. Nothing else has changed.
abbrev pub IsGivenBack : List ListedSeat → List ListedSeat → StandSeat → Result (Unit {0}) StandSeat → Type 0
IsGivenBack old new p (Ok _) = (place : ℕ) × (q : ListedSeat) × (r : ListedSeat) × IsFirstOf old p.name.end place q × IsPutBack q r p (Ok tt) × (new ≡ slice_set old place r)
IsGivenBack old new p (Err back) = ((place : ℕ) (q : ListedSeat) → IsFirstOf old p.name.end place q → ¬ IsOut q p) × (back ≡ p) × (new ≡ old)
