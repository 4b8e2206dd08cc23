-- All slots of a table are taken, or given back, in one step.
use Rattle.std.specs.Prelude.{ℕ, suc, List, [], ◌∷◌, ◌++◌, map}
use Rattle.std.specs.Option.{option_to_list}
use Rattle.std.specs.Prelude as std
use mathlib.Core.Option.{Option, none}
use Rattle.atomic_table.specs.Table.{Act, keeps, takes, gives, chain}

-- takes the slots k, k + 1, .. with these values, the first of them last
abbrev pub take_from : {S : Type 0} → ℕ → List S → Act S
take_from k [] = keeps
take_from k (x ∷ xs) = chain (take_from (suc k) xs) (takes k x)

-- gives back as many slots as the list has members
abbrev pub give_each : {S : Type 0} → List S → Act S
give_each [] = keeps
give_each (x ∷ xs) = chain gives (give_each xs)

-- the values with the numbers of their slots
abbrev pub numbered : {S : Type 0} → ℕ → List S → List (ℕ × S)
numbered k [] = []
numbered k (x ∷ xs) = (k, x) ∷ numbered (suc k) xs

-- no slot is at home
abbrev pub all_out : {S : Type 0} → List S → List (Option S)
all_out xs = map (λ _. none) xs

-- the values in these slots
abbrev pub values_in : {T : Type 0} → List (ℕ × std.Option T) → List T
values_in [] = []
values_in (x ∷ xs) = option_to_list x.1 ++ values_in xs
