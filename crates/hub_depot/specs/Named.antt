-- What a map of named values keeps true.
use Rattle.std.specs.Prelude.{◌≡◌, IfSome}
use Rattle.std.specs.FinMap as map
use Rattle.hub_depot.specs.declared.kept_map.Key.{Key}
use Rattle.hub_depot.specs.Key.{key_cmp}

-- each value of the map stands under its own name
abbrev pub EachUnderItsName : {V : Type 0} → (V → Key) → map.FinMap key_cmp V → Type 0
EachUnderItsName name m = (k : Key) → IfSome (map.get m k) (λ v. name v ≡ k)
