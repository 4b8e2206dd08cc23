use Rattle.std.proofs.Common.{ap, sym, subst}
use Rattle.std.specs.FinMap.{from_entries}
use Rattle.hub_depot.specs.Key.{key_cmp}
use Rattle.hub_depot.specs.Named.{EachUnderItsName}
use Rattle.hub_depot.proofs.NamedMap.{named_empty}
use Rattle.hub_depot.proofs.kept_map.KeptMap.empty.Goals as goal

pub invariant_of-result : goal.invariant_of-result
invariant_of-result g c =
    let name = g.V.Named.name in
    subst (EachUnderItsName name) (sym (ap (from_entries {R = key_cmp}) c.new.ensures.empty)) (named_empty name)
