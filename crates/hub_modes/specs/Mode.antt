-- What the words after the program's name ask for.
use Rattle.std.specs.Prelude.{ℕ, List, [], ◌∷◌, Option, Some, None, codes, bytes_eq, if◌then◌else◌}
use Rattle.hub_modes.specs.declared.program.Mode.{Mode}
use Rattle.hub_modes.specs.declared.program.Mode.TheVariants.{Steps, Run, Check}

-- the mode of that name
abbrev pub mode_named : List ℕ → Option Mode
mode_named word =
    if bytes_eq word (codes "steps") then Some Steps
    else (if bytes_eq word (codes "run") then Some Run else (if bytes_eq word (codes "check") then Some Check else None))

-- one word exactly, and a mode's name
abbrev pub mode_asked : List (List ℕ) → Option Mode
mode_asked [] = None
mode_asked (word ∷ []) = mode_named word
mode_asked (word ∷ other ∷ more) = None
