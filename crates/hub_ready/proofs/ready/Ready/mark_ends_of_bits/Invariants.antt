use Rattle.std.proofs.Common.{◌≡◌, ◌<◌, ◌+◌, ◌*◌, ℕ}
use Rattle.std.specs.Int.{bit_at}
use Rattle.hub_ready.specs.Finding.{KeepsMarks, MarksBit, MarksOfWord}
use Rattle.hub_ready.proofs.ready.Ready.mark_ends_of_bits.Given as goal

abbrev pub invariant-bits : goal.invariant-bits
invariant-bits l = record {
  listed : l.self.listed ≡ l.fn.self.listed;
  keeps : KeepsMarks l.fn.self.marks l.self.marks;
  found : (bit : ℕ) → bit < 64 → bit_at l.bits bit ≡ 1 → (bit_at l.left bit ≡ 1 → ⊥) → MarksBit (l.word * 64 + bit) l.self.listed.items l.self.marks;
  left : (bit : ℕ) → bit < 64 → bit_at l.left bit ≡ 1 → bit_at l.bits bit ≡ 1;
  only : MarksOfWord l.word l.bits l.fn.self.listed.items l.fn.self.marks l.self.marks;
}

abbrev pub decreases-bits : goal.decreases-bits
decreases-bits l = l.left
