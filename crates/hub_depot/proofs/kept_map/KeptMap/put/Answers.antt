use Rattle.std.proofs.Common.{◌≡◌, false, refl, ap, sym, subst, ◌∙◌}
use Rattle.std.specs.Option.{is_some}
use Rattle.std.specs.FinMap.{get, insert, from_entries}
use Rattle.hub_depot.specs.Key.{key_cmp}
use Rattle.hub_depot.specs.Named.{EachUnderItsName}
use Rattle.hub_depot.proofs.NamedMap.{get-seen, from_entries_inserted, named_insert}
use Rattle.hub_depot.proofs.kept_map.KeptMap.put.Goals as goal
use Rattle.hub_depot.proofs.kept_map.KeptMap.put.Goals.{in-Ok-None, in-Err}

pub returns-then-contains_key-clause-taken : goal.returns-then-contains_key-clause-taken
returns-then-contains_key-clause-taken g c =
    let here = get-seen c.self.inside.values.entries c.args.self.now c.name-key.result (g.V.Named.name c.args.value) c.self.view_is c.name-key.ensures in
    (λ _. ap is_some here ∙ sym c.contains_key.ensures ∙ c.if-contains_key.true, λ _. refl)

-- past the look-up, no value of that name is kept
free : (g : _) (c : goal.Joined-insert g) → is_some (get c.args.self.now (g.V.Named.name c.args.value)) ≡ false
free g c =
    let here = get-seen c.self.inside.values.entries c.args.self.now c.name-key.result (g.V.Named.name c.args.value) c.self.view_is c.name-key.ensures in
    ap is_some here ∙ sym c.contains_key.ensures ∙ c.if-contains_key.false

pub returns-clause-free : goal.returns-clause-free
returns-clause-free g c = elim c.match-insert.branch [ in-Ok-None w ↦ rw w.result-is (free g c) | in-Err w ↦ rw w.result-is tt ]

pub returns-clause-taken : goal.returns-clause-taken
returns-clause-taken g c =
    let none_kept = free g c in
    elim c.match-insert.branch [ in-Ok-None w ↦ (λ refused. cc, λ kept. cc) | in-Err w ↦ (λ refused. cc, λ kept. cc) ]

pub returns-clause-ok : goal.returns-clause-ok
returns-clause-ok g c =
    elim c.match-insert.branch [
      | in-Ok-None w ↦ rw w.result-is (from_entries_inserted c.self.inside.values.entries c.insert.new.self.entries c.args.self.now c.name-key.result
          (g.V.Named.name c.args.value) c.args.value c.self.view_is c.name-key.ensures w.in-Ok-None.ensures.updates.0)
      | in-Err w ↦ rw w.result-is tt
    ]

pub invariant_of-self : goal.invariant_of-self
invariant_of-self g c =
    let name = g.V.Named.name in
    let before = from_entries {R = key_cmp} c.self.inside.values.entries in
    elim c.match-insert.branch [
      | in-Ok-None w ↦
          let inserted : from_entries {R = key_cmp} c.insert.new.self.entries ≡ insert before (name c.args.value) c.args.value =
          from_entries_inserted c.self.inside.values.entries c.insert.new.self.entries before c.name-key.result (name c.args.value) c.args.value refl
          c.name-key.ensures w.in-Ok-None.ensures.updates.0 in
          subst (EachUnderItsName name) (sym inserted) (named_insert name before c.args.value c.self.invariant)
      | in-Err w ↦ subst (λ es. EachUnderItsName name (from_entries {R = key_cmp} es)) {y = c.insert.new.self.entries} (sym w.in-Err.ensures.err) c.self.invariant
    ]
