-- An end is asked past the queues from which everything was taken.
use Rattle.std.proofs.Common.{◌≡◌, ℕ, suc, ◌+◌, length, refl, sym, ap, ◌∙◌, subst, ⊎_elim, arith, Option, Some, None}
use Rattle.hub_broadcast.specs.Members.{MemberSeat}
use Rattle.hub_ports.specs.Seats.{PortSeat}
use Rattle.hub_queue.specs.declared.taker.Took.{Took}
use Rattle.hub_queue.specs.declared.taker.Took.TheVariants.{Again}
use Rattle.hub_queue.specs.Counting.{Count}
use Rattle.hub_queue.specs.Taking.{TakerSeat, IsTaken}
use Rattle.hub_loop.specs.Asking.{Leaves, IsHeldTaken, IsHeldAsked}
use Rattle.hub_loop.specs.Holding.{seat_of, with_seat, behind_of}
use Rattle.hub_loop.specs.declared.held.Held.{Held}
use Rattle.hub_loop.specs.declared.held.Held.TheVariants.{Port, Client, Worker, Member, Line}

pub port-taken : (old : Held) (p q : PortSeat) (before after : Count) (took : Took) → old ≡ Port p → IsTaken p.taker q.taker before after took → q.poster ≡ p.poster → IsHeldTaken old (Port q) before after (Some took)
port-taken old p q before after took is taken same =
    (p.taker, q.taker, ap seat_of is, ap (λ x. Port (record { taker = q.taker; poster = x })) same ∙ sym (ap (λ h. with_seat h q.taker) is), taken)

pub client-taken : (old : Held) (s t : TakerSeat) (before after : Count) (took : Took) → old ≡ Client s → IsTaken s t before after took → IsHeldTaken old (Client t) before after (Some took)
client-taken old s t before after took is taken = (s, t, ap seat_of is, sym (ap (λ h. with_seat h t) is), taken)

pub worker-taken : (old : Held) (s t : TakerSeat) (before after : Count) (took : Took) → old ≡ Worker s → IsTaken s t before after took → IsHeldTaken old (Worker t) before after (Some took)
worker-taken old s t before after took is taken = (s, t, ap seat_of is, sym (ap (λ h. with_seat h t) is), taken)

pub member-taken : (old : Held) (m n : MemberSeat) (before after : Count) (took : Took) → old ≡ Member m → IsTaken m.taker n.taker before after took → n ≡ record m { taker = n.taker } → IsHeldTaken old (Member n) before after (Some took)
member-taken old m n before after took is taken same =
    (m.taker, n.taker, ap seat_of is, ap Member same ∙ sym (ap (λ h. with_seat h n.taker) is), taken)

-- whoever takes is put in, and is then who takes
pub seat-with : (h : Held) (s t : TakerSeat) → seat_of h ≡ Some s → seat_of (with_seat h t) ≡ Some t
seat-with (Port p) s t is = refl
seat-with (Client u) s t is = refl
seat-with (Worker u) s t is = refl
seat-with (Member m) s t is = refl
seat-with (Line l) s t is = absurd cc

pub with-twice : (h : Held) (t u : TakerSeat) → with_seat (with_seat h t) u ≡ with_seat h u
with-twice (Port p) t u = refl
with-twice (Client s) t u = refl
with-twice (Worker s) t u = refl
with-twice (Member m) t u = refl
with-twice (Line l) t u = refl

pub with-own : (h : Held) (s : TakerSeat) → seat_of h ≡ Some s → h ≡ with_seat h s
with-own (Port p) s is = let same : p.taker ≡ s = cc in ap (λ t. Port (record { taker = t; poster = p.poster })) same
with-own (Client u) s is = let same : u ≡ s = cc in ap Client same
with-own (Worker u) s is = let same : u ≡ s = cc in ap Worker same
with-own (Member m) s is = let same : m.taker ≡ s = cc in ap (λ t. Member (record m { taker = t })) same
with-own (Line l) s is = absurd cc

-- a taker that has left a queue has one queue less
fewer : (s t : TakerSeat) (before after : Count) → IsTaken s t before after Again → length s.retired ≡ suc (length t.retired)
fewer s t before after taken =
    ⊎_elim
    (λ newest. absurd newest.3)
    (λ (retired : _). ap length retired.1.3 ∙ sym (ap (λ xs. suc (length xs)) retired.1.4))
    taken.1

-- so many queues were left, and so many are still to be left
abbrev pub HasLeftOf : Option TakerSeat → ℕ → Held → Held → Count → Count → Type 0
HasLeftOf None n old new before after = (new ≡ old) × (after ≡ before)
HasLeftOf (Some s) n old new before after = (t : TakerSeat) × (new ≡ with_seat old t) × Leaves n s t before after × (n + length t.retired ≡ length s.retired)

abbrev pub HasLeft : ℕ → Held → Held → Count → Count → Type 0
HasLeft n old new before after = HasLeftOf (seat_of old) n old new before after

start_of : (o : Option TakerSeat) (h : Held) (c : Count) → seat_of h ≡ o → HasLeftOf o 0 h h c c
start_of None h c is = (refl, refl)
start_of (Some s) h c is = (s, with-own h s is, (refl, refl), omega arith)

pub start : (h : Held) (c : Count) → HasLeft 0 h h c c
start h c = start_of (seat_of h) h c refl

-- the taker of the end after the queues were left
stands : (old mid : Held) (s t a : TakerSeat) → seat_of old ≡ Some s → mid ≡ with_seat old t → seat_of mid ≡ Some a → a ≡ t
stands old mid s t a is made held =
    let there : seat_of mid ≡ Some t = ap seat_of made ∙ seat-with old s t is in
    cc

again_of : (o : Option TakerSeat) (n : ℕ) (old mid new : Held) (before c after : Count) → seat_of old ≡ o → HasLeftOf o n old mid before c → IsHeldTaken mid new c after (Some Again) → HasLeftOf o (suc n) old new before after
again_of None n old mid new before c after is left taken =
    let here : seat_of mid ≡ None = ap seat_of left.0 ∙ is in
    absurd cc
again_of (Some s) n old mid new before c after is left taken =
    let t = left.0 in
    let b = taken.1 in
    let same : taken.0 ≡ t = stands old mid s t taken.0 is left.1 taken.2 in
    let took : IsTaken t b c after Again = subst (λ a. IsTaken a b c after Again) same taken.4 in (
      b,
      taken.3 ∙ ap (λ h. with_seat h b) left.1 ∙ with-twice old t b,
      (t, c, left.2, took),
      (let less = fewer t b c after took in omega (arith, left.3, less)),
    )

pub again : (n : ℕ) (old mid new : Held) (before c after : Count) → HasLeft n old mid before c → IsHeldTaken mid new c after (Some Again) → HasLeft (n + 1) old new before after
again n old mid new before c after left taken =
    let one : n + 1 ≡ suc n = omega arith in
    subst (λ k. HasLeft k old new before after) (sym one) (again_of (seat_of old) n old mid new before c after refl left taken)

answered_of : (o : Option TakerSeat) (n : ℕ) (old mid new : Held) (before c after : Count) (took : Took) → seat_of old ≡ o → HasLeftOf o n old mid before c → IsHeldTaken mid new c after (Some took) → (took ≡ Again → ⊥) → IsHeldAsked old new before after (Some took)
answered_of None n old mid new before c after took is left taken other =
    let here : seat_of mid ≡ None = ap seat_of left.0 ∙ is in
    absurd cc
answered_of (Some s) n old mid new before c after took is left taken other =
    let t = left.0 in
    let b = taken.1 in
    let same : taken.0 ≡ t = stands old mid s t taken.0 is left.1 taken.2 in (
      s,
      b,
      is,
      taken.3 ∙ ap (λ h. with_seat h b) left.1 ∙ with-twice old t b,
      record { queues = n; at = t; count = c; left = left.2; taken = subst (λ a. IsTaken a b c after took) same taken.4; last = other },
    )

-- a take that wasn't answered Again ends the asking
pub answered : (n : ℕ) (old mid new : Held) (before c after : Count) (took : Took) → HasLeft n old mid before c → IsHeldTaken mid new c after (Some took) → (took ≡ Again → ⊥) → IsHeldAsked old new before after (Some took)
answered n old mid new before c after took left taken other = answered_of (seat_of old) n old mid new before c after took refl left taken other

nothing_of : (o : Option TakerSeat) (n : ℕ) (old mid new : Held) (before c after : Count) → seat_of old ≡ o → HasLeftOf o n old mid before c → IsHeldTaken mid new c after None → IsHeldAsked old new before after None
nothing_of None n old mid new before c after is left taken = (is, taken.1 ∙ left.0, taken.2 ∙ left.1)
nothing_of (Some s) n old mid new before c after is left taken =
    let there : seat_of mid ≡ Some left.0 = ap seat_of left.1 ∙ seat-with old s left.0 is in
    absurd cc

-- nothing is taken of a line
pub nothing : (n : ℕ) (old mid new : Held) (before c after : Count) → HasLeft n old mid before c → IsHeldTaken mid new c after None → IsHeldAsked old new before after None
nothing n old mid new before c after left taken = nothing_of (seat_of old) n old mid new before c after refl left taken

last_of : (o : Option TakerSeat) (n : ℕ) (old mid new : Held) (before c after : Count) (took : Took) → seat_of old ≡ o → n ≡ behind_of o → HasLeftOf o n old mid before c → IsHeldTaken mid new c after (Some took) → took ≡ Again → ⊥
last_of None n old mid new before c after took is all left taken again =
    let here : seat_of mid ≡ None = ap seat_of left.0 ∙ is in
    absurd cc
last_of (Some s) n old mid new before c after took is all left taken again =
    let t = left.0 in
    let b = taken.1 in
    let same : taken.0 ≡ t = stands old mid s t taken.0 is left.1 taken.2 in
    let less = fewer t b c after (subst (λ w. IsTaken t b c after w) again (subst (λ a. IsTaken a b c after took) same taken.4)) in
    omega (arith, all, left.3, less)

-- once all retired queues were left, no take is answered Again
last : (n : ℕ) (old mid new : Held) (before c after : Count) (took : Took) → n ≡ behind_of (seat_of old) → HasLeft n old mid before c → IsHeldTaken mid new c after (Some took) → took ≡ Again → ⊥
last n old mid new before c after took all left taken again = last_of (seat_of old) n old mid new before c after took refl all left taken again

pub ends : (n : ℕ) (old mid new : Held) (before c after : Count) (answer : Option Took) → n ≡ behind_of (seat_of old) → HasLeft n old mid before c → IsHeldTaken mid new c after answer → IsHeldAsked old new before after answer
ends n old mid new before c after None all left taken = nothing n old mid new before c after left taken
ends n old mid new before c after (Some took) all left taken = answered n old mid new before c after took left taken (last n old mid new before c after took all left taken)
