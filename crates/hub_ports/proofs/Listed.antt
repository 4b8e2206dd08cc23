-- Whether a list holds the port of a number.
use Rattle.std.proofs.Common.{arith, ◌≡◌, ◌<◌, ◌==◌, ℕ, zero, suc, Bool, true, false, ◌||◌, List, [], ◌∷◌, length, get_or, refl, ap, sym, ◌∙◌, eq-eqb, Contains}
use Rattle.std.specs.List.{list_any}
use Rattle.std.proofs.lemmas.Bool.{eqb-true}
use Rattle.std.proofs.lemmas.Map.Views.{Contains-from_any}
use Rattle.hub_envelope.specs.declared.ids.EndId.{EndId}
use Rattle.hub_ports.specs.Seats.{PortSeat, ends_of, is_numbered}

-- two numbers are the same
abbrev is_end : EndId → EndId → Bool
is_end e n = n.0 == e.0

-- a port is looked for by its number
by_number : (e : EndId) (ps : List PortSeat) → list_any (is_numbered e) ps ≡ list_any (is_end e) (ends_of ps)
by_number e [] = refl
by_number e (p ∷ ps) = ap (λ b. is_numbered e p || b) (by_number e ps)

-- a port that was found is listed
pub found-listed : (e : EndId) (ps : List PortSeat) → list_any (is_numbered e) ps ≡ true → Contains (ends_of ps) e
found-listed e ps h =
    let same : (x y : EndId) → is_end x y ≡ true → x ≡ y = λ x y t. ap (λ (n : ℕ). record { 0 = n }) (sym (eqb-true y.0 x.0 t)) in
    Contains-from_any {eq = is_end} same e (ends_of ps) (sym (by_number e ps) ∙ h)

-- true on either side
or-true : (b c : Bool) → c ≡ true → (b || c) ≡ true
or-true true c h = refl
or-true false c h = h

-- the port at an index is found
found-at : (e : EndId) (ps : List PortSeat) (k : ℕ) → k < length (ends_of ps) → get_or (ends_of ps) k e ≡ e → list_any (is_numbered e) ps ≡ true
found-at e [] k below is = absurd (omega arith)
found-at e (p ∷ ps) zero below is = ap (λ b. b || list_any (is_numbered e) ps) (eq-eqb p.taker.end e.0 (ap (λ (n : EndId). n.0) is))
found-at e (p ∷ ps) (suc k) below is = or-true (is_numbered e p) (list_any (is_numbered e) ps) (found-at e ps k (omega arith) is)

-- a port that is listed is found
pub listed-found : (e : EndId) (ps : List PortSeat) → Contains (ends_of ps) e → list_any (is_numbered e) ps ≡ true
listed-found e ps h = found-at e ps h.0 h.1 h.2
