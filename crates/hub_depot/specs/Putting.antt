-- What a list of values leaves in a map of named values.
use Rattle.std.specs.Prelude.{◌≡◌, List, [], ◌∷◌, Some, IsSome, SomeIndex, slice_get, take}
use Rattle.std.specs.FinMap as map
use Rattle.hub_depot.specs.declared.kept_map.Key.{Key}
use Rattle.hub_depot.specs.Key.{key_cmp}

-- the map with each value put under its name, one after the other
abbrev pub with_all : {V : Type 0} → (V → Key) → map.FinMap key_cmp V → List V → map.FinMap key_cmp V
with_all name kept [] = kept
with_all name kept (v ∷ vs) = with_all name (map.insert kept (name v) v) vs

-- the map without these names, the last of which is taken out first
abbrev pub without_all : {V : Type 0} → map.FinMap key_cmp V → List Key → map.FinMap key_cmp V
without_all kept [] = kept
without_all kept (name ∷ names) = map.remove (without_all kept names) name

-- v is one of the values, whose name was kept, or is that of a value before it
abbrev pub IsTakenAmong : {V : Type 0} → (V → Key) → map.FinMap key_cmp V → List V → V → Type 0
IsTakenAmong name kept values v = SomeIndex values (λ k. (slice_get values k ≡ Some v) × IsSome (map.get (with_all name kept (take k values)) (name v)))
