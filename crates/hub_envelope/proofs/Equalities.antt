-- What the equality tests of the crate's types decide.
use Rattle.std.proofs.Common.{◌≡◌, ℕ, Bool, ◌==◌, List, ap}
use Rattle.std.specs.Bool.{Decides}
use Rattle.std.specs.Cmp.{unsigned_Decides}
use Rattle.std.proofs.lemmas.Slice.Eq.{slice_eq-Decides}
use Rattle.hub_envelope.specs.declared.ids.EndId.{EndId}
use Rattle.hub_envelope.specs.SameEnds.{are_same_ends}

end-Decides : (a b : EndId) → Decides (a.0 == b.0) (a ≡ b)
end-Decides a b = (λ e. ap (λ (n : ℕ). let x : EndId = record { 0 = n } in x) ((unsigned_Decides a.0 b.0).0 e), λ e. (unsigned_Decides a.0 b.0).1 (ap (λ (x : EndId). x.0) e))

-- two port lists pass the test exactly where they are the same list
pub ends-Decides : (xs ys : List EndId) (r : Bool) → r ≡ are_same_ends xs ys → Decides r (xs ≡ ys)
ends-Decides = slice_eq-Decides end-Decides
