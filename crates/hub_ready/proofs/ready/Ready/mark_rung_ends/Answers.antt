use Rattle.std.proofs.Common.{◌≡◌, ◌==◌, ◌+◌, ◌++◌, ◌∙◌, inl, inr, refl, ap, arith, rules, w64}
use Rattle.std.proofs.lemmas.Bool.{cases_eq}
use Rattle.std.proofs.lemmas.Nat.Bits.{bit_at-trailing_zeros, bit_at-zero}
use Rattle.std.specs.Int.{trailing_zeros, bit_at}
use Rattle.hub_bell.specs.Listening.{taking}
use Rattle.hub_bell.specs.Ready.{names_word}
use Rattle.hub_ready.proofs.BitLemmas.{cleared}
use Rattle.hub_ready.proofs.FindLemmas.{finds-kept, keeps-both, marks-found, stepped-both, all-found, clear-left, clear-right, emptied-left, emptied-right, named-both, names-emptied, names-marked, taken-both}
use Rattle.hub_ready.proofs.ready.Ready.mark_rung_ends.Goals as goal

pub groups-smaller : goal.groups-smaller
groups-smaller c =
    let lowest = bit_at-trailing_zeros w64 c.groups.left (omega (arith, c.groups-test.true)) (search rules) in
    (cleared c.groups.left _ lowest.0 lowest.1).0

pub groups-preserved : goal.groups-preserved
groups-preserved c =
    let lowest = bit_at-trailing_zeros w64 c.groups.left (omega (arith, c.groups-test.true)) (search rules) in
    let others = (cleared c.groups.left _ lowest.0 lowest.1).1 in
    let kept = c.groups.invariant in
    let did = c.mark_rung_ends_of_group.ensures in
    let front = kept.found.0 in
    let back = did.found.0 in
    let listed : c.mark_rung_ends_of_group.new.self.listed.items ≡ c.groups.self.listed.items = search rules in
    record {
      listed = did.listed ∙ kept.listed;
      keeps = keeps-both _ c.groups.self.marks _ kept.keeps did.keeps;
      found = (
        front ++ back,
        stepped-both _ c.groups.listener _ front back kept.found.1 did.found.1,
        λ group small set gone.
            elim (cases_eq group (trailing_zeros w64 c.groups.left)) [
              | inl same ↦ rw same (finds-kept _ _ c.mark_rung_ends_of_group.new.self.listed.items _ c.mark_rung_ends_of_group.new.self.marks _ back (front ++ back) did.found.2 (search rules) (search rules) (λ end was. clear-right end front back was))
              | inr other ↦ finds-kept _ _ c.groups.self.listed.items _ c.groups.self.marks _ front (front ++ back) (kept.found.2 group small set (λ still. gone (others group small other ∙ still))) listed did.keeps (λ end was. clear-left end front back was)
            ],
      );
      only = (
        kept.only.0 ++ did.only.0,
        stepped-both _ c.groups.listener _ kept.only.0 did.only.0 kept.only.1 did.only.1,
        marks-found c.args.self.now.listed.items _ _ c.groups.self.marks _ kept.only.0 did.only.0 (ap (λ l. l.items) kept.listed) kept.only.2 did.only.2,
      );
      marked = (
        kept.marked.0 ++ did.marked.0,
        stepped-both _ c.groups.listener _ kept.marked.0 did.marked.0 kept.marked.1 did.marked.1,
        taken-both c.groups.self.listed.items c.mark_rung_ends_of_group.new.self.listed.items c.groups.self.marks c.mark_rung_ends_of_group.new.self.marks kept.marked.0 did.marked.0 listed did.keeps kept.marked.2 did.marked.2,
      );
      emptied = (
        kept.emptied.0 ++ did.emptied.0,
        stepped-both _ c.groups.listener _ kept.emptied.0 did.emptied.0 kept.emptied.1 did.emptied.1,
        λ group small set gone word from below.
            elim (cases_eq group (trailing_zeros w64 c.groups.left)) [
              | inl same ↦ emptied-right (16 + word) kept.emptied.0 did.emptied.0 (did.emptied.2 word (omega (arith, same, from)) (omega (arith, same, below)))
              | inr other ↦ emptied-left (16 + word) kept.emptied.0 did.emptied.0 (kept.emptied.2 group small set (λ still. gone (others group small other ∙ still)) word from below)
            ],
        named-both kept.emptied.0 did.emptied.0 kept.emptied.3 did.emptied.3,
      );
    }

pub returns-clause-found : goal.returns-clause-found
returns-clause-found c =
    let taken = c.take_rung_groups-names.ensures in
    let kept = c.groups.invariant in
    let steps = kept.found.0 in
    let none : c.groups.left ≡ 0 = search rules in (
      taking names_word taken.1.0 c.take_rung_groups-names.result ++ steps,
      stepped-both _ c.take_rung_groups-names.new.self _ (taking names_word taken.1.0 c.take_rung_groups-names.result) steps (taken.0, taken.1.1) kept.found.1,
      all-found c.take_rung_groups-names.result taken.1.0 c.groups.self.listed.items c.groups.self.marks steps taken.1.2
          (λ group small set. kept.found.2 group small set (λ still. let clear = ap (λ n. bit_at n group) none ∙ bit_at-zero group in omega (arith, clear, still))),
    )

pub returns-clause-told : goal.returns-clause-told
returns-clause-told c =
    let names = c.take_rung_groups-names.result in
    let taken = c.take_rung_groups-names.ensures in
    let found = c.groups.invariant.found in
    (names, (taken.1.0, found.0, taken.1.2, stepped-both _ c.take_rung_groups-names.new.self _ (taking names_word taken.1.0 names) found.0 (taken.0, taken.1.1) found.1), search rules)

pub returns-clause-marked : goal.returns-clause-marked
returns-clause-marked c =
    let names = c.take_rung_groups-names.result in
    let taken = c.take_rung_groups-names.ensures in
    let kept = c.groups.invariant.marked in
    let first = taking names_word taken.1.0 names in
    (first ++ kept.0, stepped-both _ c.take_rung_groups-names.new.self _ first kept.0 (taken.0, taken.1.1) kept.1, names-marked names taken.1.0 c.groups.self.listed.items c.groups.self.marks kept.0 kept.2)

pub returns-clause-emptied : goal.returns-clause-emptied
returns-clause-emptied c =
    let names = c.take_rung_groups-names.result in
    let taken = c.take_rung_groups-names.ensures in
    let kept = c.groups.invariant.emptied in
    let first = taking names_word taken.1.0 names in
    let none : c.groups.left ≡ 0 = search rules in (
      first ++ kept.0,
      stepped-both _ c.take_rung_groups-names.new.self _ first kept.0 (taken.0, taken.1.1) kept.1,
      names-emptied names taken.1.0 (taken.1.0 == 0) kept.0
          (λ group small set. kept.2 group small set (λ still. let clear = ap (λ n. bit_at n group) none ∙ bit_at-zero group in omega (arith, clear, still)))
          kept.3,
    )

pub returns-clause-only : goal.returns-clause-only
returns-clause-only c =
    let taken = c.take_rung_groups-names.ensures in
    let kept = c.groups.invariant.only in
    let first = taking names_word taken.1.0 c.take_rung_groups-names.result in
    let listed = c.args.self.now.listed.items in
    let marks = c.args.self.now.marks in
    (first ++ kept.0, stepped-both _ c.take_rung_groups-names.new.self _ first kept.0 (taken.0, taken.1.1) kept.1, marks-found listed listed marks marks _ first kept.0 refl (λ key marked. inl marked) kept.2)
