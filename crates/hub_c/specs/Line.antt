-- What becomes of a session at a text line, by the status that is answered.
use Rattle.std.specs.Prelude.{◌≡◌, ◌⊎◌, ◌||◌, ◌==◌, ℕ, Bool, true, false, List}
use Rattle.hub_steps.specs.declared.session.Session.{Session}
use Rattle.hub_steps.specs.Session.{GoesOnFrom, IsKindOf, RunsOn, Stays, TakesMemory, TakesMore, is_told, told}

-- the step line was run after those before
abbrev pub RanLine : Session → Session → List ℕ → Type 0
RanLine s t bytes = RunsOn s t bytes × (t.is_lost ≡ false)

-- the text line is no step line, which was told, and nothing was run
abbrev pub BadLine : Session → Session → List ℕ → Type 0
BadLine s t bytes = IsKindOf bytes (told t) × GoesOnFrom s t × (t.is_lost ≡ false)

-- nothing was changed, at a line whose reading or whose steps take memory
abbrev pub NoMemoryLine : Session → Session → List ℕ → Type 0
NoMemoryLine s t bytes = Stays s t × TakesMemory bytes × (t.is_lost ≡ false)

-- the step line was run after those before, and its outcome line is to be made later
abbrev pub NoRoomLine : Session → Session → List ℕ → Type 0
NoRoomLine s t bytes = RunsOn s t bytes × (is_told t ≡ false) × (t.is_lost ≡ false)

-- memory ran out within the steps of this line, which are several, or of an earlier one
abbrev pub LostLine : Session → Session → List ℕ → Type 0
LostLine s t bytes = (t.is_lost ≡ true) × ((s.is_lost ≡ true) ⊎ TakesMore bytes)

-- what was said last is said again, and nothing else was changed
abbrev pub SaysAgain : Session → Session → Type 0
SaysAgain s t = Stays s t × (t.is_lost ≡ s.is_lost)

-- the statuses of an open hub
abbrev pub IsStatus : ℕ → Type 0
IsStatus n = (n ≡ 0) ⊎ ((n ≡ 2) ⊎ ((n ≡ 3) ⊎ ((n ≡ 4) ⊎ (n ≡ 6))))

-- at these two statuses the room has what is said; at any other it is as it was
abbrev pub says_something : ℕ → Bool
says_something n = (n == 0) || (n == 2)
