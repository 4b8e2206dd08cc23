-- What a refusal gives back.
use Rattle.hub_depot.specs.declared.kept_map.DepotError.{DepotError}
use Rattle.hub_depot.specs.declared.kept_map.DepotError.TheVariants.{Taken, OutOfMemory}

-- the value that was not kept
abbrev pub refused_value : {V : Type 0} → DepotError V → V
refused_value (Taken v) = v
refused_value (OutOfMemory v) = v
