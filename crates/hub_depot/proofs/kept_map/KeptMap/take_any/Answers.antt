use Rattle.std.proofs.Common.{◌≡◌, ◌+◌, IfSome, refl, ap, sym, subst, ◌∙◌}
use Rattle.std.specs.FinMap.{len, from_entries}
use Rattle.hub_depot.specs.Key.{key_cmp}
use Rattle.hub_depot.specs.Named.{EachUnderItsName}
use Rattle.hub_depot.proofs.NamedMap.{get-key, get-seen, from_entries_removed, named_remove, len-removed, some_kept}
use Rattle.hub_depot.proofs.kept_map.KeptMap.take_any.Goals as goal

pub invariant_of-self-2 : goal.invariant_of-self-2
invariant_of-self-2 g c =
    let name = g.V.Named.name in
    let before = from_entries {R = key_cmp} c.self.inside.values.entries in
    let k = c.in_ok-value.field-0-0 in
    let removed = from_entries_removed c.self.inside.values.entries c.pop_first.new.self.entries before k k refl refl c.in_ok-value.ensures.updates.0 in
    subst (EachUnderItsName name) (sym removed) (named_remove name before k c.self.invariant)

-- the value that was taken stood under its name
named : (g : _) (c : goal.In_ok-value g) → c.in_ok-value.field-0-0 ≡ g.V.Named.name c.in_ok-value.value
named g c =
    let k = c.in_ok-value.field-0-0 in
    sym (subst (λ o. IfSome o (λ v. g.V.Named.name v ≡ k)) (get-key c.self.inside.values.entries k ∙ c.in_ok-value.ensures.value) (c.self.invariant k))

pub returns-clause-kept : goal.returns-clause-kept
returns-clause-kept g c =
    get-seen c.self.inside.values.entries c.args.self.now c.in_ok-value.field-0-0 (g.V.Named.name c.in_ok-value.value) c.self.view_is (named g c)
    ∙ c.in_ok-value.ensures.value

pub returns-clause-rest : goal.returns-clause-rest
returns-clause-rest g c =
    from_entries_removed c.self.inside.values.entries c.pop_first.new.self.entries c.args.self.now c.in_ok-value.field-0-0 (g.V.Named.name c.in_ok-value.value)
    c.self.view_is (named g c) c.in_ok-value.ensures.updates.0

pub returns-clause-fewer : goal.returns-clause-fewer
returns-clause-fewer g c =
    let k = c.in_ok-value.field-0-0 in
    let here = get-seen c.self.inside.values.entries c.args.self.now k k c.self.view_is refl ∙ c.in_ok-value.ensures.value in
    ap (λ m. len m + 1) (from_entries_removed c.self.inside.values.entries c.pop_first.new.self.entries c.args.self.now k k c.self.view_is refl c.in_ok-value.ensures.updates.0)
    ∙ len-removed c.args.self.now k c.in_ok-value.value here

pub returns-clause-empty : goal.returns-clause-empty
returns-clause-empty g c =
    let k = c.in_ok-value.field-0-0 in
    let here = get-seen c.self.inside.values.entries c.args.self.now k k c.self.view_is refl ∙ c.in_ok-value.ensures.value in
    (λ wrong. cc, λ nothing. absurd (some_kept c.args.self.now k c.in_ok-value.value here nothing))
