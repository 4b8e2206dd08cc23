-- What a listener does.
use Rattle.std.specs.Prelude.{◌≡◌, ℕ, ◌+◌, ◌==◌, ◌||◌, not, Bool, true, false, List, [], ◌∷◌, ◌++◌, if◌then◌else◌}
use Rattle.hub_bell.specs.declared.board.BoardStep.{BoardStep}
use Rattle.hub_bell.specs.declared.board.BoardStep.TheVariants.{Looked, Took, Stored}
use Rattle.hub_bell.specs.Ready.{names_word, asleep_word}
use Rattle.hub_bell.specs.Seats.{Done}

-- what is taken out of a word that was loaded: nothing where the load found 0, and else what it had as 0 was left there
abbrev pub taking : ℕ → ℕ → ℕ → List BoardStep
taking word found taken = Looked word found ∷ (if found == 0 then [] else Took word taken ∷ [])

-- this was taken out of the word
abbrev pub IsSwappedOut : Done → Done → ℕ → ℕ → Type 0
IsSwappedOut old new word taken = (found : ℕ) × (new ≡ record old { steps = old.steps ++ taking word found taken }) × (found ≡ 0 → taken ≡ 0)

-- the names of the words with set bits were looked at so often, and were these
unfoldable pub looking : List ℕ → List BoardStep
looking [] = []
looking (found ∷ more) = Looked names_word found ∷ looking more

-- the same, by one who had done this before
abbrev pub looked : Done → List ℕ → Done
looked done looks = record done { steps = done.steps ++ looking looks }

-- some of the looks found a word named
unfoldable pub some_found : List ℕ → Bool
some_found [] = false
some_found (found ∷ more) = not (found == 0) || some_found more

-- the listener said that it sleeps, and looked at the names of the words with set bits; it slept only where it found none, and said that it is awake
abbrev pub HasParked : Done → Done → Type 0
HasParked old new = (names : ℕ)
    × (new ≡ record old { steps = old.steps ++ Stored asleep_word 1 ∷ Looked names_word names ∷ Stored asleep_word 0 ∷ []; sleeps = old.sleeps + (if names == 0 then 1 else 0) })

-- the listener looked some times, and where that found a word named it did nothing else; where it found none, it went to sleep
abbrev pub HasSlept : Done → Done → Type 0
HasSlept old new = (looks : List ℕ)
    × (some_found looks ≡ true → new ≡ looked old looks)
    × (some_found looks ≡ false → HasParked (looked old looks) new)
