use Rattle.std.proofs.Common.{◌∙◌}
use Rattle.hub_depot.proofs.NamedMap.{empty_from_entries}
use Rattle.hub_depot.proofs.kept_map.KeptMap.destroy_empty.Goals as goal

pub destroy_empty-requires : goal.destroy_empty-requires
destroy_empty-requires g c = empty_from_entries c.self.inside.values.entries (c.self.view_is ∙ c.requires)
