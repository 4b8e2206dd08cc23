-- Which keys of a loop are marked: a bit for each key.
use Rattle.std.specs.Prelude.{◌≡◌, ◌≢◌, ℕ, ◌*◌, ◌/◌, ◌%◌, ◌<◌, ◌≤◌, List, length, slice_index, Option, Some, None}
use Rattle.std.specs.Int.{bit_at}

-- the mark of a key: 1 where it is marked, and else 0
abbrev pub mark_of : List ℕ → ℕ → ℕ
mark_of words key = bit_at (slice_index words (key / 64)) (key % 64)

-- there is a bit for this key
abbrev pub HasBit : List ℕ → ℕ → Type 0
HasBit words key = key < 64 * length words

-- no key is marked from the one up to the other
abbrev pub ClearBetween : List ℕ → ℕ → ℕ → Type 0
ClearBetween words low high = (key : ℕ) → low ≤ key → key < high → mark_of words key ≡ 0

-- the first key that is marked, from this one on
pub record IsFirstFrom (words : List ℕ) (from key : ℕ) : Type 0 where
  pub behind : from ≤ key
  pub set : mark_of words key ≡ 1
  pub clear : ClearBetween words from key

-- the same, if there is one
abbrev pub IsNextMarked : List ℕ → ℕ → Option ℕ → Type 0
IsNextMarked words from None = (key : ℕ) → from ≤ key → mark_of words key ≡ 0
IsNextMarked words from (Some key) = IsFirstFrom words from key

-- the marks of all other keys stay, and all other words
pub record SameBut (key : ℕ) (old new : List ℕ) : Type 0 where
  pub bits : length new ≡ length old
  pub words : (word : ℕ) → word ≢ key / 64 → slice_index new word ≡ slice_index old word
  pub others : (other : ℕ) → other ≢ key → mark_of new other ≡ mark_of old other

-- the names have a bit for each word, which is set exactly where the word has one
pub record HasGroupName (words names : List ℕ) : Type 0 where
  pub most : length words ≤ 1099511627776
  pub few : length names ≤ 1099511627776
  pub covered : length words ≤ 64 * length names
  pub none : (word : ℕ) → mark_of names word ≡ 0 → slice_index words word ≡ 0
  pub some : (word : ℕ) → slice_index words word ≡ 0 → mark_of names word ≡ 0
