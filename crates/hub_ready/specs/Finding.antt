-- Which ends a loop finds at its listener.
use Rattle.std.specs.Prelude.{◌≡◌, ◌⊎◌, ℕ, ◌+◌, ◌/◌, ◌%◌, ◌<◌, ◌≤◌, List, [], ◌∷◌, ◌++◌, length, slice_index, Option, Some, None, ⊤}
use Rattle.std.specs.Int.{bit_at}
use Rattle.hub_bell.specs.declared.board.BoardStep.{BoardStep}
use Rattle.hub_bell.specs.declared.board.BoardStep.TheVariants.{Looked, Set, Took, Stored}
use Rattle.hub_bell.specs.Listening.{taking}
use Rattle.hub_bell.specs.Ready.{names_word, bits_word}
use Rattle.hub_bell.specs.Seats.{BoardSeat}
use Rattle.hub_envelope.specs.declared.ids.EndId.{EndId}
use Rattle.hub_ready.specs.Marking.{mark_of, HasBit}

-- by such a list the number of an end leads to this key: at its number stands one more than the key
abbrev pub LeadsTo : List ℕ → EndId → ℕ → Type 0
LeadsTo listed end key = slice_index listed end.0 ≡ key + 1

-- the key to which the number of an end leads, where one is listed
abbrev pub IsKeyOf : List ℕ → EndId → Option ℕ → Type 0
IsKeyOf listed end None = slice_index listed end.0 ≡ 0
IsKeyOf listed end (Some key) = LeadsTo listed end key

-- the marks have grown, and what was marked is
abbrev pub GrowsMarks : List ℕ → List ℕ → Type 0
GrowsMarks old new = (length old ≤ length new) × ((key : ℕ) → mark_of new key ≡ mark_of old key)

-- what was listed is listed, under the same numbers
abbrev pub SameEntries : List ℕ → List ℕ → Type 0
SameEntries old new = (number : ℕ) → slice_index new number ≡ slice_index old number

-- the step found this value in this word
abbrev pub IsReading : ℕ → ℕ → BoardStep → Type 0
IsReading word value (Looked at found) = (at ≡ word) × (found ≡ value)
IsReading word value (Took at found) = (at ≡ word) × (found ≡ value)
IsReading word value (Set at bits) = ⊥
IsReading word value (Stored at stored) = ⊥

-- one of these steps did
abbrev pub HasRead : ℕ → ℕ → List BoardStep → Type 0
HasRead word value [] = ⊥
HasRead word value (step ∷ steps) = IsReading word value step ⊎ HasRead word value steps

-- The ready bit of the end was found clear: the bit itself, or the one that names the group of its word.
abbrev pub WasClear : EndId → List BoardStep → Type 0
WasClear end steps =
    ((names : ℕ) × HasRead names_word names steps × (bit_at names ((end.0 / 1024) % 64) ≡ 0))
    ⊎ ((bits : ℕ) × HasRead (bits_word end) bits steps × (bit_at bits (end.0 % 64) ≡ 0))

-- the listener has made these steps more, and nothing else
abbrev pub HasStepped : BoardSeat → BoardSeat → List BoardStep → Type 0
HasStepped old new steps = (new.board ≡ old.board) × (new.at ≡ record old.at { steps = old.at.steps ++ steps })

-- the listener has taken these names out, and then whatever it took
abbrev pub TakesNames : BoardSeat → BoardSeat → ℕ → Type 0
TakesNames old new names = (found : ℕ) × (rest : List BoardStep) × (found ≡ 0 → names ≡ 0) × HasStepped old new (taking names_word found names ++ rest)

-- what was marked is marked
abbrev pub KeepsMarks : List ℕ → List ℕ → Type 0
KeepsMarks old new = (length new ≡ length old) × ((key : ℕ) → mark_of old key ≡ 1 → mark_of new key ≡ 1)

-- each key to which the number of an end leads is marked, or the end's bit was found clear
abbrev pub FindsAll : List ℕ → List ℕ → List BoardStep → Type 0
FindsAll listed marks steps = (end : EndId) (key : ℕ) → LeadsTo listed end key → HasBit marks key → (mark_of marks key ≡ 1) ⊎ WasClear end steps

-- the same of the ends whose bits are in the words from the one up to the other
abbrev pub FindsBetween : ℕ → ℕ → List ℕ → List ℕ → List BoardStep → Type 0
FindsBetween low high listed marks steps = (end : EndId) (key : ℕ) → low ≤ (end.0 / 64) % 1024 → (end.0 / 64) % 1024 < high → LeadsTo listed end key → HasBit marks key → (mark_of marks key ≡ 1) ⊎ WasClear end steps

-- each key to which the number of an end leads that has this bit is marked
abbrev pub MarksBit : ℕ → List ℕ → List ℕ → Type 0
MarksBit bit listed marks = (end : EndId) (key : ℕ) → end.0 % 65536 ≡ bit → LeadsTo listed end key → HasBit marks key → mark_of marks key ≡ 1

-- the ready bit of the end was found set
abbrev pub WasSet : EndId → List BoardStep → Type 0
WasSet end steps = (bits : ℕ) × HasRead (bits_word end) bits steps × (bit_at bits (end.0 % 64) ≡ 1)

-- whatever is marked was marked before, or the number of an end leads to it whose bit was found set
abbrev pub MarksFound : List ℕ → List ℕ → List ℕ → List BoardStep → Type 0
MarksFound listed old new steps = (key : ℕ) → mark_of new key ≡ 1 → (mark_of old key ≡ 1) ⊎ ((end : EndId) × LeadsTo listed end key × WasSet end steps)

-- the same of the ends that have one of these bits of a word
abbrev pub MarksOfWord : ℕ → ℕ → List ℕ → List ℕ → List ℕ → Type 0
MarksOfWord word bits listed old new = (key : ℕ) → mark_of new key ≡ 1 → (mark_of old key ≡ 1) ⊎ ((end : EndId) × LeadsTo listed end key × (bits_word end ≡ 16 + word) × (bit_at bits (end.0 % 64) ≡ 1))

-- the same of the ends that have this bit
abbrev pub MarksOfBit : ℕ → List ℕ → List ℕ → List ℕ → Type 0
MarksOfBit bit listed old new = (key : ℕ) → mark_of new key ≡ 1 → (mark_of old key ≡ 1) ⊎ ((end : EndId) × LeadsTo listed end key × (end.0 % 65536 ≡ bit))

-- the same of one number
abbrev pub MarksOfNumber : ℕ → List ℕ → List ℕ → List ℕ → Type 0
MarksOfNumber number listed old new = (key : ℕ) → mark_of new key ≡ 1 → (mark_of old key ≡ 1) ⊎ (slice_index listed number ≡ key + 1)

-- the step took this value out of this word
abbrev pub IsTaking : ℕ → ℕ → BoardStep → Type 0
IsTaking word value (Took at found) = (at ≡ word) × (found ≡ value)
IsTaking word value (Looked at found) = ⊥
IsTaking word value (Set at bits) = ⊥
IsTaking word value (Stored at stored) = ⊥

-- one of these steps did
abbrev pub HasTaken : ℕ → ℕ → List BoardStep → Type 0
HasTaken word value [] = ⊥
HasTaken word value (step ∷ steps) = IsTaking word value step ⊎ HasTaken word value steps

-- each key to which the number of an end leads whose ready bit was taken out is marked
abbrev pub MarksTaken : List ℕ → List ℕ → List BoardStep → Type 0
MarksTaken listed marks steps = (end : EndId) (key bits : ℕ) → HasTaken (bits_word end) bits steps → bit_at bits (end.0 % 64) ≡ 1 → LeadsTo listed end key → HasBit marks key → mark_of marks key ≡ 1

-- nothing was left in the word: 0 was found there, or what was found was taken out
abbrev pub WasEmptied : ℕ → List BoardStep → Type 0
WasEmptied word steps = HasRead word 0 steps ⊎ ((value : ℕ) × HasTaken word value steps)

-- the same of the words of bits from the one up to the other
abbrev pub EmptiesBetween : ℕ → ℕ → List BoardStep → Type 0
EmptiesBetween low high steps = (word : ℕ) → low ≤ word → word < high → WasEmptied (16 + word) steps

-- wherever a step took names out, nothing was left after it in the words that they name
abbrev pub EmptiesNamed : List BoardStep → Type 0
EmptiesNamed [] = ⊤
EmptiesNamed (step ∷ steps) = ((end : EndId) (names : ℕ) → IsTaking names_word names step → bit_at names ((end.0 / 1024) % 64) ≡ 1 → WasEmptied (bits_word end) steps) × EmptiesNamed steps
