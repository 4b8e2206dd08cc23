-- The queues that a directory lists.
use Rattle.std.specs.Prelude.{◌≡◌, ◌≢◌, ℕ, ◌<◌, ◌≤◌, List, length, slice_get, insert, Option, Some, None, All}
use Rattle.std.specs.List.{AllWithin}
use Rattle.std.specs.List.Sorted.{IsNonDecreasingBy}
use Rattle.hub_envelope.specs.declared.limits.TheConstants.{MAX_LINES}
use Rattle.hub_envelope.specs.declared.ids.EndId.{EndId}
use Rattle.hub_queue.specs.Standing.{StandSeat}

-- a listed queue: its number, and at each of its lines the poster, where that is at home
pub record ListedSeat : Type 0 where
  pub end : EndId
  pub lines : List (Option StandSeat)

-- the poster is that of this line of the end
pub record IsPosterOf (end : EndId) (line : ℕ) (p : StandSeat) : Type 0 where
  pub end_is : p.name.end ≡ end
  pub line_is : p.name.line.0 ≡ line

-- the queue has MAX_LINES lines, and each poster at home stands at its own line
pub record IsInPlace (q : ListedSeat) : Type 0 where
  pub count : length q.lines ≡ MAX_LINES
  pub each : (line : ℕ) (p : StandSeat) → slice_get q.lines line ≡ Some (Some p) → IsPosterOf q.end line p

-- the numbers of the queues never fall
abbrev pub IsInOrder : List ListedSeat → Type 0
IsInOrder queues = IsNonDecreasingBy (λ q. q.end.0) queues

-- the queue at this place is the first that is listed under the number
pub record IsFirstOf (queues : List ListedSeat) (end : EndId) (place : ℕ) (q : ListedSeat) : Type 0 where
  pub found : slice_get queues place ≡ Some q
  pub end_is : q.end ≡ end
  pub first : AllWithin (λ other. other.end ≢ end) queues 0 place

-- behind the queues of this or a lower number, and before the others
pub record IsPlaceBehind (queues : List ListedSeat) (end : EndId) (place : ℕ) : Type 0 where
  pub within : place ≤ length queues
  pub before : AllWithin (λ other. other.end.0 ≤ end.0) queues 0 place
  pub behind : AllWithin (λ other. end.0 < other.end.0) queues place (length queues)

-- the queue was listed behind those of its own or a lower number, and nothing else has changed
abbrev pub IsListed : List ListedSeat → List ListedSeat → ListedSeat → Type 0
IsListed old new q = (place : ℕ) × IsPlaceBehind old q.end place × (new ≡ insert old place q)

-- the posters are those of the lines of this end, in order
abbrev pub ArePostersOf : EndId → List StandSeat → Type 0
ArePostersOf end posters = (line : ℕ) (p : StandSeat) → slice_get posters line ≡ Some p → IsPosterOf end line p

-- Some: the place of the first queue of that number. None: no queue of that number is listed.
abbrev pub IsPlaceOf : List ListedSeat → EndId → Option ℕ → Type 0
IsPlaceOf queues end (Some place) = (q : ListedSeat) × IsFirstOf queues end place q
IsPlaceOf queues end None = All (λ q. q.end ≢ end) queues
