-- Each enabled end that was asked costs a pop at least.
use Rattle.std.proofs.Common.{◌≡◌, ℕ, zero, suc, ◌+◌, ◌-◌, ◌<◌, ◌≤◌, cond, Bool, false, ◌||◌, List, [], ◌∷◌, ◌++◌, subst, take, length, refl, sym, ap, ◌∙◌, ⊎_elim, arith, Option, Some, None}
use Rattle.std.specs.Prelude.{nat_lt, Err}
use Rattle.std.specs.List.{count_by}
use Rattle.std.proofs.lemmas.Bool.{cases_eq, cases_lt, cond_both}
use Rattle.std.proofs.lemmas.List.{get_or_past, take_all}
use Rattle.std.proofs.lemmas.List.Sums.{sum_by_more}
use Rattle.slab.specs.Slab.{Slab, get}
use Rattle.hub_queue.specs.declared.taker.Took.{Took}
use Rattle.hub_queue.specs.declared.taker.Took.TheVariants.{Got, Empty, Busy, Again, Disabled, Closed}
use Rattle.hub_queue.specs.Counting.{Count}
use Rattle.hub_queue.specs.Taking.{TakerSeat, IsTaken}
use Rattle.hub_loop.specs.Asking.{Leaves, IsAsked, IsHeldAsked}
use Rattle.hub_loop.specs.Holding.{seat_of}
use Rattle.hub_loop.specs.Turning.{is_seat_enabled, is_enabled, IsDue}
use Rattle.hub_loop.specs.Serving.{IsSlotAsked, IsAskedAt, AskedAll, HasOrder, InOrder}
use Rattle.hub_loop.specs.declared.held.Held.{Held}
use Rattle.hub_loop.specs.declared.serving.Served.TheVariants.{Nothing}
use Rattle.hub_loop.specs.States.{DeliveryState, HoldingState}
use Rattle.hub_bell.specs.declared.board.BoardStep.{BoardStep}
use Rattle.hub_loop.proofs.Asks.{seat-with}

-- one for a taker whose newest gate is enabled
abbrev one_if : Bool → ℕ
one_if b = cond b 1 0

one-at-most : (b : Bool) → one_if b ≤ 1
one-at-most b = cond_both b 1 0 (λ n. n ≤ 1) (λ is. omega arith) (λ is. omega arith)

-- the pops of a take
pops-answer : (s t : TakerSeat) (before after : Count) (took : Took) → IsTaken s t before after took → one_if (is_seat_enabled (Some s)) + before.pops ≤ after.pops
pops-answer s t before after Disabled taken =
    let off : ◌≡◌ {A = ℕ} (one_if (is_seat_enabled (Some s))) 0 = ap (λ n. one_if (nat_lt 0 n)) taken.0 in
    let same = ap (λ count. count.pops) taken.2 in
    omega (arith, off, same)
pops-answer s t before after (Got v) taken =
    let one = one-at-most (is_seat_enabled (Some s)) in
    ⊎_elim
    (λ (newest : _). let more = ap (λ count. count.pops) newest.3.2 in omega (arith, one, more))
    (λ (retired : _). let more = ap (λ count. count.pops) retired.1.5.2 in omega (arith, one, more))
    taken.1
pops-answer s t before after Empty taken =
    let one = one-at-most (is_seat_enabled (Some s)) in
    ⊎_elim
    (λ (newest : _). let more = ap (λ count. count.pops) newest.3.1 in omega (arith, one, more))
    (λ (retired : _). absurd retired.1.5)
    taken.1
pops-answer s t before after Busy taken =
    let one = one-at-most (is_seat_enabled (Some s)) in
    ⊎_elim
    (λ (newest : _). absurd newest.3)
    (λ (retired : _). let more = ap (λ count. count.pops) retired.1.5.1 in omega (arith, one, more))
    taken.1
pops-answer s t before after Again taken =
    let one = one-at-most (is_seat_enabled (Some s)) in
    ⊎_elim
    (λ (newest : _). absurd newest.3)
    (λ (retired : _). let more = ap (λ count. count.pops) retired.1.5.2 in omega (arith, one, more))
    taken.1
pops-answer s t before after Closed taken = ⊎_elim (λ (newest : _). absurd newest.3) (λ (retired : _). absurd retired.1.5) taken.1

-- the newest queue stays while others are left
newest-left : (n : ℕ) (s t : TakerSeat) (before after : Count) → Leaves n s t before after → t.newest ≡ s.newest
newest-left zero s t before after left = ap (λ u. u.newest) left.0
newest-left (suc n) s t before after left =
    ⊎_elim
    (λ (newest : _). absurd newest.3)
    (λ (retired : _). ap (λ u. u.newest) retired.0 ∙ newest-left n s left.0 before left.1 left.2)
    left.3.1

pops-leaving : (n : ℕ) (s t : TakerSeat) (before after : Count) → Leaves n s t before after → before.pops ≤ after.pops
pops-leaving zero s t before after left = let same = ap (λ count. count.pops) left.1 in omega (arith, same)
pops-leaving (suc n) s t before after left =
    let earlier = pops-leaving n s left.0 before left.1 left.2 in
    let here = pops-answer left.0 t left.1 after Again left.3 in
    omega (arith, earlier, here)

-- the pops of an asking
pops-asked : (s t : TakerSeat) (before after : Count) (took : Took) → IsAsked s t before after took → one_if (is_seat_enabled (Some s)) + before.pops ≤ after.pops
pops-asked s t before after took came =
    let newest = newest-left came.queues s came.at before came.count came.left in
    let same : one_if (is_seat_enabled (Some came.at)) ≡ one_if (is_seat_enabled (Some s)) = ap (λ p. one_if (nat_lt 0 p.keeper.at.enables)) newest in
    let earlier = pops-leaving came.queues s came.at before came.count came.left in
    let here = pops-answer came.at t came.count after took came.taken in
    omega (arith, same, earlier, here)

pops-held : (old new : Held) (before after : Count) (answer : Option Took) → IsHeldAsked old new before after answer → one_if (is_seat_enabled (seat_of old)) + before.pops ≤ after.pops
pops-held old new before after None came =
    let line : ◌≡◌ {A = ℕ} (one_if (is_seat_enabled (seat_of old))) 0 = ap (λ o. one_if (is_seat_enabled o)) came.0 in
    let same = ap (λ count. count.pops) came.2 in
    omega (arith, line, same)
pops-held old new before after (Some took) came =
    let seat : one_if (is_seat_enabled (seat_of old)) ≡ one_if (is_seat_enabled (Some came.0)) = ap (λ o. one_if (is_seat_enabled o)) came.2 in
    let here = pops-asked came.0 came.1 before after took came.4 in
    omega (arith, seat, here)

pops-slot : (old new : Option Held) (before after : Count) (answer : Option Took) → IsSlotAsked old new before after answer → one_if (is_enabled old) + before.pops ≤ after.pops
pops-slot None new before after answer came = let same = ap (λ count. count.pops) came.1 in omega (arith, same)
pops-slot (Some h) new before after answer came = pops-held h came.0 before after answer came.2

-- how many of so many keys from this one on have an enabled end
abbrev enabled_from : Slab Held → ℕ → ℕ → ℕ
enabled_from held low zero = 0
enabled_from held low (suc n) = enabled_from held low n + one_if (is_enabled (get held (low + n)))

-- a take leaves the newest gate enabled as it was
enables-answer : (s t : TakerSeat) (before after : Count) (took : Took) → IsTaken s t before after took → t.newest.keeper.at.enables ≡ s.newest.keeper.at.enables
enables-answer s t before after Disabled taken = ap (λ u. u.newest.keeper.at.enables) taken.1
enables-answer s t before after (Got v) taken =
    ⊎_elim
    (λ (newest : _). ap (λ u. u.newest.keeper.at.enables) newest.2 ∙ ap (λ p. p.keeper.at.enables) newest.3.0)
    (λ (retired : _). ap (λ u. u.newest.keeper.at.enables) retired.0)
    taken.1
enables-answer s t before after Empty taken =
    ⊎_elim
    (λ (newest : _). ap (λ u. u.newest.keeper.at.enables) newest.2 ∙ ap (λ p. p.keeper.at.enables) newest.3.0)
    (λ (retired : _). absurd retired.1.5)
    taken.1
enables-answer s t before after Busy taken =
    ⊎_elim
    (λ (newest : _). absurd newest.3)
    (λ (retired : _). ap (λ u. u.newest.keeper.at.enables) retired.0)
    taken.1
enables-answer s t before after Again taken =
    ⊎_elim
    (λ (newest : _). absurd newest.3)
    (λ (retired : _). ap (λ u. u.newest.keeper.at.enables) retired.0)
    taken.1
enables-answer s t before after Closed taken = ⊎_elim (λ (newest : _). absurd newest.3) (λ (retired : _). absurd retired.1.5) taken.1

enables-asked : (s t : TakerSeat) (before after : Count) (took : Took) → IsAsked s t before after took → is_seat_enabled (Some t) ≡ is_seat_enabled (Some s)
enables-asked s t before after took came =
    ap (nat_lt 0) (enables-answer came.at t came.count after took came.taken
    ∙ ap (λ p. p.keeper.at.enables) (newest-left came.queues s came.at before came.count came.left))

enables-held : (old new : Held) (before after : Count) (answer : Option Took) → IsHeldAsked old new before after answer → is_seat_enabled (seat_of new) ≡ is_seat_enabled (seat_of old)
enables-held old new before after None came = ap (λ h. is_seat_enabled (seat_of h)) came.1
enables-held old new before after (Some took) came =
    let seat : seat_of new ≡ Some came.1 = ap seat_of came.3 ∙ seat-with old came.0 came.1 came.2 in
    ap is_seat_enabled seat ∙ enables-asked came.0 came.1 before after took came.4 ∙ ap is_seat_enabled (sym came.2)

enables-slot : (old new : Option Held) (before after : Count) (answer : Option Took) → IsSlotAsked old new before after answer → is_enabled new ≡ is_enabled old
enables-slot None new before after answer came = ap is_enabled came.0
enables-slot (Some h) new before after answer came = ap is_enabled came.1 ∙ enables-held h came.0 before after answer came.2

-- under each key an end is enabled as it was, wherever one was asked
enables-at : (old new : Slab Held) (key : ℕ) (before after : Count) (busy : Bool) → IsAskedAt old new key before after (Nothing busy) → (other : ℕ) → is_enabled (get new other) ≡ is_enabled (get old other)
enables-at old new key before after busy at other =
    ⊎_elim
    (λ same. subst (λ k. is_enabled (get new k) ≡ is_enabled (get old k)) (sym same) (enables-slot (get old key) (get new key) before after at.0 at.1.at))
    (λ differs. ap is_enabled (at.1.others other differs))
    (cases_eq other key)

enables-all : (keys : List ℕ) (old new : Slab Held) (before after : Count) (busy : Bool) → AskedAll keys old new before after busy → (other : ℕ) → is_enabled (get new other) ≡ is_enabled (get old other)
enables-all [] old new before after busy gave other = ap (λ s. is_enabled (get s other)) gave.0
enables-all (key ∷ keys) old new before after busy gave other =
    enables-at gave.0 new key gave.1 after gave.3 gave.5 other ∙ enables-all keys old gave.0 before gave.1 gave.2 gave.4 other

-- no asking takes a pop back
pops-all : (keys : List ℕ) (old new : Slab Held) (before after : Count) (busy : Bool) → AskedAll keys old new before after busy → before.pops ≤ after.pops
pops-all [] old new before after busy gave = let same = ap (λ count. count.pops) gave.1 in omega (arith, same)
pops-all (key ∷ keys) old new before after busy gave =
    let earlier = pops-all keys old gave.0 before gave.1 gave.2 gave.4 in
    let here = pops-slot (get gave.0 key) (get new key) gave.1 after gave.5.0 gave.5.1.at in
    omega (arith, earlier, here)

-- the keys that were asked first, and then the others
record Cut (later earlier : List ℕ) (old new : Slab Held) (before after : Count) : Type 0 where
  mid : Slab Held
  count : Count
  was : Bool
  then : Bool
  first : AskedAll earlier old mid before count was
  second : AskedAll later mid new count after then

cut : (later earlier : List ℕ) (old new : Slab Held) (before after : Count) (busy : Bool) → AskedAll (later ++ earlier) old new before after busy → Cut later earlier old new before after
cut [] earlier old new before after busy gave = record { mid = new; count = after; was = busy; then = false; first = gave; second = (refl, refl, refl) }
cut (key ∷ later) earlier old new before after busy gave =
    let c = cut later earlier old gave.0 before gave.1 gave.2 gave.4 in
    record { mid = c.mid; count = c.count; was = c.was; then = gave.3 || c.then; first = c.first; second = (gave.0, gave.1, c.then, gave.3, c.second, gave.5, refl) }

-- each enabled end among keys that were asked in order cost a pop at least
pops-order : (low n : ℕ) (keys : List ℕ) (old new : Slab Held) (before after : Count) (busy : Bool) → HasOrder low n keys → AskedAll keys old new before after busy → enabled_from old low n + before.pops ≤ after.pops
pops-order low zero keys old new before after busy order gave = let all = pops-all keys old new before after busy gave in omega (arith, all)
pops-order low (suc n) keys old new before after busy order gave =
    let c = cut order.0 ((low + n) ∷ order.1) old new before after busy (subst (λ ks. AskedAll ks old new before after busy) order.2 gave) in
    let at = c.first in
    let earlier = pops-order low n order.1 old at.0 before at.1 at.2 order.3 at.4 in
    let there : one_if (is_enabled (get at.0 (low + n))) ≡ one_if (is_enabled (get old (low + n))) = ap one_if (enables-all order.1 old at.0 before at.1 at.2 at.4 (low + n)) in
    let here = pops-slot (get at.0 (low + n)) (get c.mid (low + n)) at.1 c.count at.5.0 at.5.1.at in
    let later = pops-all order.0 c.mid new c.count after c.then c.second in
    omega (arith, earlier, there, here, later)

-- where each is enabled as it was as many are
enabled-same : (old new : Slab Held) (n : ℕ) → ((key : ℕ) → is_enabled (get new key) ≡ is_enabled (get old key)) → enabled_from new 0 n ≡ enabled_from old 0 n
enabled-same old new zero same = refl
enabled-same old new (suc n) same =
    let earlier = enabled-same old new n same in
    let here : one_if (is_enabled (get new (0 + n))) ≡ one_if (is_enabled (get old (0 + n))) = ap one_if (same (0 + n)) in
    omega (arith, earlier, here)

-- the keys up to one, and those from there on
enabled-split : (held : Slab Held) (a b : ℕ) → enabled_from held 0 (b + a) ≡ enabled_from held 0 a + enabled_from held a b
enabled-split held a zero =
    let none : zero + a ≡ a = omega arith in
    let all = ap (enabled_from held 0) none in
    omega (arith, all)
enabled-split held a (suc b) =
    let one : suc b + a ≡ suc (b + a) = omega arith in
    let key : 0 + (b + a) ≡ a + b = omega arith in
    let earlier = enabled-split held a b in
    let here : one_if (is_enabled (get held (0 + (b + a)))) ≡ one_if (is_enabled (get held (a + b))) = ap (λ k. one_if (is_enabled (get held k))) key in
    let all : enabled_from held 0 (suc b + a) ≡ enabled_from held 0 (suc (b + a)) = ap (enabled_from held 0) one in
    omega (arith, earlier, here, all)

-- the slots up to a key, counted one by one
enabled-taken : (held : Slab Held) (n : ℕ) → count_by is_enabled (take n held.slots) ≡ enabled_from held 0 n
enabled-taken held zero = refl
enabled-taken held (suc n) =
    let earlier = enabled-taken held n in
    let here : 0 + n ≡ n = omega arith in
    let next : suc n ≡ n + 1 = omega arith in
    let key = ap (λ k. one_if (is_enabled (get held k))) here in
    let one = ap (λ k. count_by is_enabled (take k held.slots)) next in
    ⊎_elim
    (λ (inside : n < length held.slots).
    let more = sum_by_more (λ slot. one_if (is_enabled slot)) held.slots n None inside in
    omega (arith, earlier, key, one, more))
    (λ (past : length held.slots ≤ n).
    let all : take n held.slots ≡ held.slots = take_all n held.slots past in
    let further : take (n + 1) held.slots ≡ held.slots = take_all (n + 1) held.slots (omega (arith, past)) in
    let same : count_by is_enabled (take (n + 1) held.slots) ≡ count_by is_enabled (take n held.slots) = ap (count_by is_enabled) (further ∙ sym all) in
    let none : ◌≡◌ {A = ℕ} (one_if (is_enabled (get held n))) 0 = ap (λ slot. one_if (is_enabled slot)) (get_or_past held.slots n None past) in
    omega (arith, earlier, key, one, same, none))
    (cases_lt n (length held.slots))

-- an asking of all ends costs a pop at least for each that is enabled
pops-served : (next : ℕ) (busy : Bool) (keys : List ℕ) (old new : Slab Held) (before after : Count) → length old.slots ≤ old.capacity → AskedAll keys old new before after busy → InOrder next old.capacity keys → count_by is_enabled old.slots + before.pops ≤ after.pops
pops-served next busy keys old new before after within gave order =
    let rest = old.capacity - next in
    let c = cut order.0 order.1 old new before after busy (subst (λ ks. AskedAll ks old new before after busy) order.2 gave) in
    let ahead = pops-order next rest order.1 old c.mid before c.count c.was order.3 c.first in
    let behind = pops-order 0 next order.0 c.mid new c.count after c.then order.4 c.second in
    let same = enabled-same old c.mid next (enables-all order.1 old c.mid before c.count c.was c.first) in
    let split = enabled-split old next rest in
    let counted = enabled-taken old (rest + next) in
    let fits : length old.slots ≤ rest + next = omega (arith, within) in
    let all : count_by is_enabled (take (rest + next) old.slots) ≡ count_by is_enabled old.slots = ap (count_by is_enabled) (take_all (rest + next) old.slots fits) in
    omega (arith, ahead, behind, same, split, counted, all)

-- where no delivery was kept and no end gave an envelope
pub pops-due : (kept : Option DeliveryState) (busy : Bool) (old new : HoldingState) (looks : List BoardStep) (before after : Count) → (kept ≡ None → length old.ends.held.slots ≤ old.ends.held.capacity) → IsDue kept old new looks before after (Err busy) → count_by is_enabled old.ends.held.slots + before.pops ≤ after.pops
pops-due None busy old new looks before after within due =
    let served = due.0 in
    pops-served old.ends.next busy served.0 old.ends.held new.ends.held before after (within refl) served.1 served.2
pops-due (Some k) busy old new looks before after within due = absurd cc
