-- A list that was taken apart.
use Rattle.std.specs.Prelude.{◌≡◌, ◌⊎◌, List, [], ◌∷◌}
use Rattle.hub_envelope.specs.declared.ids.EndId.{EndId}

-- The numbers found and those missing are together the list, each in the order of the list.
abbrev pub IsSplit : List EndId → List EndId → List EndId → Type 0
IsSplit [] found missing = (found ≡ []) × (missing ≡ [])
IsSplit (n ∷ ns) found missing =
    ((rest : List EndId) × (found ≡ n ∷ rest) × IsSplit ns rest missing)
    ⊎ ((rest : List EndId) × (missing ≡ n ∷ rest) × IsSplit ns found rest)
