use Rattle.std.proofs.Common.{◌≡◌, ◌+◌, ◌*◌, ◌/◌, ℕ, List, rules, arith, ap, sym, ◌∙◌, inl, inr, slice_index}
use Rattle.std.proofs.lemmas.Bool.{cases_lt}
use Rattle.hub_ready.proofs.FindLemmas.{keeps-both, marks-number}
use Rattle.hub_ready.proofs.ready.Ready.mark_ends_of_bit.Goals as goal

pub loop-row-preserved : goal.loop-row-preserved
loop-row-preserved c =
    let kept = c.loop-row.invariant in
    let did = c.mark_end_if_listed.ensures in
    let row = c.loop-row.row in
    let listed : c.mark_end_if_listed.new.self.listed.items ≡ c.loop-row.self.listed.items = ap (λ l. l.items) did.listed in
    record {
      listed = did.listed ∙ kept.listed;
      keeps = keeps-both _ c.loop-row.self.marks _ kept.keeps did.keeps;
      found = λ end key is below leads has.
          let before = sym (ap (λ (l : List ℕ). slice_index l end.0) listed) ∙ leads in
          elim (cases_lt (end.0 / 65536) row) [
            | inl earlier ↦ did.keeps.1 key (kept.found end key is earlier before (omega (arith, has, did.keeps.0)))
            | inr here ↦
                let number : end.0 ≡ row * 65536 + c.args.bit = omega (arith, is, below, here) in
                did.found key (sym (ap (slice_index c.loop-row.self.listed.items) number) ∙ before) has
          ];
      only = marks-number c.args.bit row c.args.self.now.listed.items _ _ c.loop-row.self.marks _ (search rules) (ap (λ l. l.items) kept.listed) kept.only did.only;
    }
