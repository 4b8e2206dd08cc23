-- What a ring does.
use Rattle.std.specs.Prelude.{◌≡◌, ℕ, ◌+◌, ◌==◌, ◌&&◌, not, List, [], ◌∷◌, ◌++◌, if◌then◌else◌}
use Rattle.hub_envelope.specs.declared.ids.EndId.{EndId}
use Rattle.hub_bell.specs.declared.board.BoardStep.{BoardStep}
use Rattle.hub_bell.specs.declared.board.BoardStep.TheVariants.{Looked, Set}
use Rattle.hub_bell.specs.Ready.{names_word, asleep_word, bits_word, end_mask, name_mask, is_set}
use Rattle.hub_bell.specs.Seats.{Done}

-- a bit of a word that was found so is left set: the word is loaded, and the bit is set only where it was clear
abbrev pub marking : ℕ → ℕ → ℕ → List BoardStep
marking word mask found = Looked word found ∷ (if is_set found mask then [] else Set word mask ∷ [])

-- a ring finds the end's bit set, or sets it. Where it set the bit, it does the same with the bit that names the bit's word; and where it set that too, it looks whether the listener sleeps
abbrev pub ringing : EndId → ℕ → ℕ → ℕ → List BoardStep
ringing end bits names asleep =
    marking (bits_word end) (end_mask end) bits
    ++ (if is_set bits (end_mask end) then []
    else marking names_word (name_mask end) names
    ++ (if is_set names (name_mask end) then [] else Looked asleep_word asleep ∷ []))

-- the listener is woken where both bits were clear and it slept
abbrev pub wakes_it : EndId → ℕ → ℕ → ℕ → ℕ
wakes_it end bits names asleep =
    if (not (is_set bits (end_mask end)) && not (is_set names (name_mask end))) && (asleep == 1) then 1 else 0

-- a bell was rung once for the end: it did what a ring does where it found the words so
abbrev pub IsRung : Done → Done → EndId → Type 0
IsRung old new end = (bits : ℕ) × (names : ℕ) × (asleep : ℕ)
    × (new ≡ record old { steps = old.steps ++ ringing end bits names asleep; wakes = old.wakes + wakes_it end bits names asleep })
