use Rattle.std.proofs.Common.{◌∙◌, ap, sym, inl, inr, arith, rules, w64}
use Rattle.std.proofs.lemmas.Bool.{cases_eq}
use Rattle.std.proofs.lemmas.Nat.Bits.{bit_at-trailing_zeros}
use Rattle.std.specs.Int.{bit_at, trailing_zeros}
use Rattle.hub_ready.proofs.BitLemmas.{cleared}
use Rattle.hub_ready.proofs.FindLemmas.{marks-kept, keeps-both, marks-bit}
use Rattle.hub_ready.proofs.ready.Ready.mark_ends_of_bits.Goals as goal

pub bits-smaller : goal.bits-smaller
bits-smaller c =
    let lowest = bit_at-trailing_zeros w64 c.bits.left (omega (arith, c.bits-test.true)) (search rules) in
    (cleared c.bits.left _ lowest.0 lowest.1).0

pub bits-preserved : goal.bits-preserved
bits-preserved c =
    let lowest = bit_at-trailing_zeros w64 c.bits.left (omega (arith, c.bits-test.true)) (search rules) in
    let others = (cleared c.bits.left _ lowest.0 lowest.1).1 in
    let kept = c.bits.invariant in
    let did = c.mark_ends_of_bit.ensures in
    record {
      listed = did.listed ∙ kept.listed;
      keeps = keeps-both _ c.bits.self.marks _ kept.keeps did.keeps;
      found = λ bit small set gone.
          elim (cases_eq bit (trailing_zeros w64 c.bits.left)) [
            | inl same ↦ rw same did.found
            | inr other ↦ marks-kept _ c.bits.self.listed.items _ c.bits.self.marks _ (kept.found bit small set (λ still. gone (others bit small other ∙ still))) (search rules) did.keeps
          ];
      left = λ bit small set.
          elim (cases_eq bit (trailing_zeros w64 c.bits.left)) [
            | inl same ↦ ap (bit_at c.args.bits) same ∙ kept.left _ lowest.0 lowest.1
            | inr other ↦ kept.left bit small (sym (others bit small other) ∙ set)
          ];
      only = marks-bit c.args.word c.args.bits (trailing_zeros w64 c.bits.left) c.args.self.now.listed.items _ _ c.bits.self.marks _ lowest.0 (kept.left _ lowest.0 lowest.1) (search rules) (ap (λ l. l.items) kept.listed) kept.only did.only;
    }
