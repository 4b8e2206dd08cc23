-- The gate of one queue as a machine (this project's own): what its flags, its lines and the rights of its lines
-- are, what one event makes of them, the one word that shows flags and count, and what holds of each state.
use Rattle.std.specs.Prelude.{◌&&◌, ◌*◌, ◌+◌, ◌/◌, ◌<◌, ◌==◌, ◌||◌, ◌≡◌}
use Rattle.hub_core.specs.Words.{Bool, Inside, IsTrue, List, None, Option, Out, Phase, Some, Turned, bit_and, false, is_some, length, map, not, slice_get, slice_set, sum_by, true, ℕ}

-- three flags; for each line whether it is out, inside or being turned back; the rights at home, by line; and whether they were collected
pub record Gate (R : Type 0) : Type 0 where
  pub enabled : Bool
  pub moved : Bool
  pub closed : Bool
  pub phases : List Phase
  pub homes : List (Option R)
  pub collected : Bool

abbrev pub bit_of : Bool → ℕ
bit_of true = 1
bit_of false = 0

abbrev pub flags_of : Bool → Bool → Bool → ℕ
flags_of enabled moved closed = bit_of enabled + 2 * bit_of moved + 4 * bit_of closed

-- the word with these flags and this count: bit 0 for enabled, bit 1 for moved, bit 2 for closed, and the count from bit 8 on
abbrev pub word_of : Bool → Bool → Bool → ℕ → ℕ
word_of enabled moved closed count = flags_of enabled moved closed + 256 * count

-- the flags and the count that a word shows
abbrev pub has_bit : ℕ → ℕ → Bool
has_bit word bit = not (bit_and word bit == 0)

abbrev pub enabled_in : ℕ → Bool
enabled_in word = has_bit word 1

abbrev pub moved_in : ℕ → Bool
moved_in word = has_bit word 2

abbrev pub closed_in : ℕ → Bool
closed_in word = has_bit word 4

abbrev pub count_in : ℕ → ℕ
count_in word = word / 256

-- a line counts while it is inside or being turned back
abbrev pub weight : Phase → ℕ
weight Out = 0
weight _ = 1

module _ {R : Type 0} where
  -- how many lines are inside or being turned back
  abbrev pub busy : Gate R → ℕ
  busy g = sum_by weight g.phases

  -- moved or closed
  abbrev pub is_shut : Gate R → Bool
  is_shut g = g.moved || g.closed

  -- the word of a state
  abbrev pub word : Gate R → ℕ
  word g = word_of g.enabled g.moved g.closed (busy g)

  -- the gate as it opens: no flag, nobody inside, and each line's right at home
  abbrev pub opened : List R → Gate R
  opened rights = record { enabled = false; moved = false; closed = false; phases = map (λ _. Out) rights; homes = map Some rights; collected = false }

  -- the line is in this phase
  abbrev pub IsAt : Gate R → ℕ → Phase → Type 0
  IsAt g line phase = slice_get g.phases line ≡ Some phase

  abbrev pub with_phase : Gate R → ℕ → Phase → Gate R
  with_phase g line phase = record { enabled = g.enabled; moved = g.moved; closed = g.closed; phases = slice_set g.phases line phase; homes = g.homes; collected = g.collected }

  abbrev pub with_home : Gate R → ℕ → Option R → Gate R
  with_home g line home = record { enabled = g.enabled; moved = g.moved; closed = g.closed; phases = g.phases; homes = slice_set g.homes line home; collected = g.collected }

  abbrev pub with_flags : Gate R → Bool → Bool → Bool → Gate R
  with_flags g enabled moved closed = record { enabled = enabled; moved = moved; closed = closed; phases = g.phases; homes = g.homes; collected = g.collected }

  -- no right is at home any more
  abbrev pub with_none : Gate R → Gate R
  with_none g = record { enabled = g.enabled; moved = g.moved; closed = g.closed; phases = g.phases; homes = map (λ _. None) g.homes; collected = true }

-- what may happen at a gate
pub data Event (R : Type 0) : Type 0 where
  enter : ℕ → Event R
  leave : ℕ → R → Event R
  turn_back : ℕ → Event R
  enable : Event R
  retire : Event R
  close : Event R
  look : Event R

-- what is answered
pub data Answer (R : Type 0) : Type 0 where
  lets_in : R → Answer R
  says_moved : Answer R
  says_closed : Answer R
  -- with the flag enabled
  lets_out : Bool → Answer R
  says_done : Answer R
  says_open : Answer R
  says_inside : ℕ → Answer R
  gives_rights : List R → Answer R
  says_given : Answer R

-- one event: the state before, the answer, and the state after. `owns l r` says that r is a right of the line l.
pub data Steps {R : Type 0} (owns : ℕ → R → Type 0) (g : Gate R) : Event R → Answer R → Gate R → Type 0 where
  -- a line that is out enters: moved comes before closed, and where neither is set it is inside and has its right
  finds_moved : (l : ℕ) → IsAt g l Out → g.moved ≡ true → Steps owns g (enter l) says_moved (with_phase g l Turned)
  finds_closed : (l : ℕ) → IsAt g l Out → g.moved ≡ false → g.closed ≡ true → Steps owns g (enter l) says_closed (with_phase g l Turned)
  goes_in : (l : ℕ) (r : R) → IsAt g l Out → g.moved ≡ false → g.closed ≡ false → slice_get g.homes l ≡ Some (Some r) → Steps owns g (enter l) (lets_in r) (with_home (with_phase g l Inside) l None)
  -- a line that is inside leaves, and its right is at home
  goes_out : (l : ℕ) (r : R) → IsAt g l Inside → owns l r → Steps owns g (leave l r) (lets_out g.enabled) (with_home (with_phase g l Out) l (Some r))
  turns_back : (l : ℕ) → IsAt g l Turned → Steps owns g (turn_back l) says_done (with_phase g l Out)
  -- a flag is set for good
  enables : Steps owns g enable says_done (with_flags g true g.moved g.closed)
  retires : Steps owns g retire says_done (with_flags g g.enabled true g.closed)
  closes : Steps owns g close says_done (with_flags g g.enabled g.moved true)
  -- a look gives all rights, once, where the gate is moved or closed and nobody is inside or being turned back
  gave : g.collected ≡ true → Steps owns g look says_given g
  is_open : g.collected ≡ false → is_shut g ≡ false → Steps owns g look says_open g
  is_busy : g.collected ≡ false → is_shut g ≡ true → 0 < busy g → Steps owns g look (says_inside (busy g)) g
  gives : (rights : List R) → g.collected ≡ false → is_shut g ≡ true → busy g ≡ 0 → g.homes ≡ map Some rights → Steps owns g look (gives_rights rights) (with_none g)

-- a state that a gate comes to, from its opening on
pub data Reached {R : Type 0} (owns : ℕ → R → Type 0) : Gate R → Type 0 where
  opens : (rights : List R) → ((l : ℕ) (r : R) → slice_get rights l ≡ Some r → owns l r) → Reached owns (opened rights)
  goes_on : (g g' : Gate R) (event : Event R) (answer : Answer R) → Reached owns g → Steps owns g event answer g' → Reached owns g'

-- ---- What holds of each state that the machine reaches.

-- whether a line in this phase leaves its right at the gate
abbrev pub leaves_right : Phase → Bool
leaves_right Inside = false
leaves_right _ = true

-- What holds of a gate of so many lines, whatever happened there.
pub record IsGateOf {R : Type 0} (lines : ℕ) (g : Gate R) : Type 0 where
  pub phases : length g.phases ≡ lines
  -- line by line, a right is at home exactly where its line isn't inside and the rights weren't collected
  pub homes : map is_some g.homes ≡ map (λ p. leaves_right p && not g.collected) g.phases
  -- a line is turned, and the rights are collected, only where the gate is moved or closed
  pub turned : (line : ℕ) → IsAt g line Turned → is_shut g ≡ true
  pub shut : g.collected ≡ true → is_shut g ≡ true
  -- where the rights were collected, no line is inside
  pub nobody : g.collected ≡ true → (line : ℕ) → ¬ IsAt g line Inside

-- The laws of the gate machine, whichever rights are those of a line.
pub record GateMachineLaws (R : Type 0) : Type 0 where
  -- as it opens a gate has a line for each right, and each event leaves it a gate of as many lines
  pub opened : (rights : List R) → IsGateOf (length rights) (opened rights)
  pub step : (owns : ℕ → R → Bool) (lines : ℕ) (g after : Gate R) (event : Event R) (answer : Answer R) → Steps (λ line right. IsTrue (owns line right)) g event answer after → IsGateOf lines g → IsGateOf lines after
  -- so each state that is reached from an opening is one
  pub reached : (owns : ℕ → R → Bool) (g : Gate R) → Reached (λ line right. IsTrue (owns line right)) g → IsGateOf (length g.phases) g
  -- where nobody is inside or being turned back and the rights weren't collected, all rights are at home
  pub whole : (lines : ℕ) (g : Gate R) → IsGateOf lines g → g.collected ≡ false → busy g ≡ 0 → (rights : List R) × (length rights ≡ lines) × (g.homes ≡ map Some rights)
