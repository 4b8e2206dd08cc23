-- Lines that are lent by the first queue of a number, and given back to it.
use Rattle.std.proofs.Common.{◌≡◌, ℕ, ◌<◌, List, set, get_or, refl, sym, ap, ◌∙◌, subst, ⊎_elim, arith, Option, Result, Some, None, Ok, Err}
use Rattle.std.specs.Prelude.{slice_get, ok_or, IfOk, IfSome}
use Rattle.std.proofs.lemmas.Bool.{cases_lt}
use Rattle.std.proofs.lemmas.List.{set-get_or}
use Rattle.std.proofs.lemmas.Option.{get_or_from_slice_get, same_Some}
use Rattle.hub_envelope.specs.declared.ids.EndId.{EndId}
use Rattle.hub_queue.specs.Standing.{StandSeat}
use Rattle.hub_clients.specs.declared.error.DirectoryError.TheVariants.{NoLine}
use Rattle.hub_clients.specs.Lines.{IsTakenOut, IsPutBack, IsLent, IsGivenBack, IsOut}
use Rattle.hub_clients.specs.Listings.{ListedSeat, IsFirstOf}

-- what stands at the place of the first queue of a number
pub first_is : (queues : List ListedSeat) (end : EndId) (place : ℕ) (q now : ListedSeat) → IsFirstOf queues end place q → now ≡ get_or queues place now → IsFirstOf queues end place now
first_is queues end place q now first is = subst (IsFirstOf queues end place) (sym (is ∙ get_or_from_slice_get queues place q now first.found)) first

-- one number has one first queue
pub same_first : (queues : List ListedSeat) (end : EndId) (a b : ℕ) (q r : ListedSeat) → IsFirstOf queues end a q → IsFirstOf queues end b r → r ≡ q
same_first queues end a b q r one other = ⊎_elim
    (λ less. absurd (other.first a q (omega arith) less (ap (λ s. s.end) (get_or_from_slice_get queues a q q one.found) ∙ one.end_is)))
    (λ le. ⊎_elim
    (λ less. absurd (one.first b r (omega arith) less (ap (λ s. s.end) (get_or_from_slice_get queues b r r other.found) ∙ other.end_is)))
    (λ ge. let same : b ≡ a = omega arith in same_Some r q (sym other.found ∙ ap (slice_get queues) same ∙ one.found))
    (cases_lt b a))
    (cases_lt a b)

-- a queue in its place as it was
as_it_was : (queues : List ListedSeat) (place : ℕ) (now r : ListedSeat) → now ≡ get_or queues place now → r ≡ now → set queues place r ≡ queues
as_it_was queues place now r is same = ap (set queues place) (same ∙ is) ∙ set-get_or queues place now

pub lent : (queues : List ListedSeat) (end : EndId) (place : ℕ) (q now r : ListedSeat) (o : Option StandSeat) → IsFirstOf queues end place q → now ≡ get_or queues place now → IsTakenOut now r o → IsLent queues (set queues place r) end (ok_or o NoLine)
lent queues end place q now r None first is out = (place, now, first_is queues end place q now first is, (out.0, refl), as_it_was queues place now r is out.1)
lent queues end place q now r (Some p) first is out = (place, now, r, first_is queues end place q now first is, out, refl)

pub lent_of : (end : EndId) (now : ListedSeat) (o : Option StandSeat) → now.end ≡ end → IfSome o (λ p. (p.name.end ≡ now.end) × (p.name.line.0 < 32)) → IfOk (ok_or o NoLine) (λ p. (p.name.end ≡ end) × (p.name.line.0 < 32))
lent_of end now None same own = tt
lent_of end now (Some p) same own = (own.0 ∙ same, own.1)

pub given_back : (queues : List ListedSeat) (p : StandSeat) (place : ℕ) (q now r : ListedSeat) (o : Result (Unit {0}) StandSeat) → IsFirstOf queues p.name.end place q → now ≡ get_or queues place now → IsPutBack now r p o → IsGivenBack queues (set queues place r) p o
given_back queues p place q now r (Ok u) first is back = (place, now, r, first_is queues p.name.end place q now first is, back, refl)
given_back queues p place q now r (Err x) first is back = (
  λ other s there out. back.0 (subst (λ (s : ListedSeat). IsOut s p) (same_first queues p.name.end place other now s (first_is queues p.name.end place q now first is) there) out),
  back.1,
  as_it_was queues place now r is back.2,
)
