use Rattle.std.proofs.Common.{◌≡◌, IfSome, refl, sym, subst, ◌∙◌}
use Rattle.std.specs.FinMap.{from_entries}
use Rattle.hub_depot.specs.Key.{key_cmp}
use Rattle.hub_depot.specs.Named.{EachUnderItsName}
use Rattle.hub_depot.proofs.NamedMap.{get-key, get-seen, from_entries_removed, named_remove}
use Rattle.hub_depot.proofs.kept_map.KeptMap.take.Goals as goal

pub invariant_of-self : goal.invariant_of-self
invariant_of-self g c =
    let name = g.V.Named.name in
    let before = from_entries {R = key_cmp} c.self.inside.values.entries in
    let removed = from_entries_removed c.self.inside.values.entries c.remove.new.self.entries before c.args.key c.args.key refl refl c.remove.ensures.updates.0 in
    subst (EachUnderItsName name) (sym removed) (named_remove name before c.args.key c.self.invariant)

pub returns-clause-value : goal.returns-clause-value
returns-clause-value g c =
    c.remove.ensures.value ∙ sym (get-seen c.self.inside.values.entries c.args.self.now c.args.key c.args.key c.self.view_is refl)

pub returns-clause-named : goal.returns-clause-named
returns-clause-named g c =
    let found = c.remove.ensures.value ∙ sym (get-key c.self.inside.values.entries c.args.key) in
    subst (λ o. IfSome o (λ v. g.V.Named.name v ≡ c.args.key)) (sym found) (c.self.invariant c.args.key)

pub returns-clause-rest : goal.returns-clause-rest
returns-clause-rest g c =
    from_entries_removed c.self.inside.values.entries c.remove.new.self.entries c.args.self.now c.args.key c.args.key c.self.view_is refl c.remove.ensures.updates.0
