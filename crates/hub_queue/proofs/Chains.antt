-- The queues of an end, one after another: what a take, an adoption and a sweep make of them.
use Rattle.std.proofs.Common.{◌≡◌, ◌≢◌, ℕ, ◌+◌, ◌<◌, ◌≤◌, true, List, [], ◌∷◌, ◌++◌, length, get_or, set, refl, sym, ap, ◌∙◌, subst, inl, inr, arith, append_assoc, append-nil, length-append}
use Rattle.std.specs.Prelude.{nat_lt, Option, Result, Ok, Err}
use Rattle.std.specs.List.{AllByRecursion}
use Rattle.std.proofs.lemmas.Bool.{or_left, or_right}
use Rattle.std.proofs.lemmas.Bool.Decides.{nat_tests}
use Rattle.hub_envelope.specs.declared.envelope.Envelope.{Envelope}
use Rattle.hub_envelope.specs.declared.limits.TheConstants.{MAX_MOVES}
use Rattle.hub_queue.specs.declared.taker.Took.{Took}
use Rattle.hub_queue.specs.declared.taker.Took.TheVariants.{Got, Empty, Busy, Again, Disabled, Closed}
use Rattle.hub_queue.specs.Adopting.{retired_queue}
use Rattle.hub_queue.specs.Counting.{Count}
use Rattle.hub_queue.specs.Ending.{closed_queue}
use Rattle.hub_queue.specs.Mailboxes.{IsNewTakerQueue}
use Rattle.hub_queue.specs.TakerQueues.{TakerQueueSeat, IsShut, IsQueueOf, TakesThese, IsQueueSettled}
use Rattle.hub_queue.specs.Settling.{IsEmptied}
use Rattle.hub_queue.specs.Sweeping.{TakesOfEach, OneIsHeldUp, AreSwept}
use Rattle.hub_queue.specs.declared.settling.Stop.{Stop}
use Rattle.hub_queue.specs.declared.settling.Stop.TheVariants.{StillInside, NoRoom}
use Rattle.hub_queue.specs.Taking.{TakerSeat, AreRetired, IsTakers, IsTakenOff, IsTakenFirst, left_after, left_last}

positive : (n : ℕ) → 0 < n → nat_lt 0 n ≡ true
positive n h = grind (arith, nat_tests)

-- a gate that is retired or closed is shut
pub shut_retired : (p : TakerQueueSeat) → 0 < p.keeper.at.retires → IsShut p
shut_retired p retired = or_left (nat_lt 0 p.keeper.at.retires) (nat_lt 0 p.keeper.at.closes) (positive p.keeper.at.retires retired)

pub shut_closed : (p q : TakerQueueSeat) → q ≡ closed_queue p → IsShut q
shut_closed p q is = subst IsShut (sym is) (or_right (nat_lt 0 p.keeper.at.retires) (nat_lt 0 (p.keeper.at.closes + 1)) (positive (p.keeper.at.closes + 1) (omega arith)))

-- so are those of all retired queues
pub all_shut : (end epoch : ℕ) (ps : List TakerQueueSeat) → AreRetired end epoch ps → AllByRecursion IsShut ps
all_shut end epoch [] all = tt
all_shut end epoch (p ∷ ps) all = (shut_retired p all.1, all_shut end (epoch + 1) ps all.2)

-- what holds of all of two lists holds of all of the two joined
module _ {A : Type 0} (P : A → Type 0) where
  pub all_join : (xs ys : List A) → AllByRecursion P xs → AllByRecursion P ys → AllByRecursion P (xs ++ ys)
  all_join [] ys front back = back
  all_join (x ∷ xs) ys front back = (front.0, all_join xs ys front.1 back)

  pub all_back : (xs ys : List A) → AllByRecursion P (xs ++ ys) → AllByRecursion P ys
  all_back [] ys all = all
  all_back (x ∷ xs) ys all = all_back xs ys all.1

-- a take that doesn't answer Again leaves no queue
pub stays_after : (q : TakerQueueSeat) (rest : List TakerQueueSeat) (took : Took) → (took ≡ Again → ⊥) → left_after q rest took ≡ q ∷ rest
stays_after q rest (Got v) other = refl
stays_after q rest Empty other = refl
stays_after q rest Busy other = refl
stays_after q rest Again other = absurd (other refl)
stays_after q rest Disabled other = refl
stays_after q rest Closed other = refl

pub last_stays : (left : Option TakerQueueSeat) (q : TakerQueueSeat) (took : Took) → (took ≡ Again → ⊥) → left_last left q took ≡ left
last_stays left q (Got v) other = refl
last_stays left q Empty other = refl
last_stays left q Busy other = refl
last_stays left q Again other = absurd (other refl)
last_stays left q Disabled other = refl
last_stays left q Closed other = refl

-- what a take at a retired queue leaves of its name and its gate
taken_off : (end epoch : ℕ) (p q : TakerQueueSeat) (before after : Count) (took : Took) → (took ≡ Again → ⊥) → IsTakenOff p q before after took → IsQueueOf end epoch p × (0 < p.keeper.at.retires) → IsQueueOf end epoch q × (0 < q.keeper.at.retires)
taken_off end epoch p q before after (Got v) other did was = ((did.0.end ∙ was.0.0, did.0.epoch ∙ was.0.1), subst (λ (n : ℕ). 0 < n) (sym did.0.same_gate.retires) was.1)
taken_off end epoch p q before after Busy other did was = ((ap (λ t. t.end) did.0.at ∙ was.0.0, ap (λ t. t.epoch) did.0.at ∙ was.0.1), subst (λ (n : ℕ). 0 < n) (sym did.0.same_gate.retires) was.1)
taken_off end epoch p q before after Again other did was = absurd (other refl)
taken_off end epoch p q before after Empty other did was = absurd did
taken_off end epoch p q before after Disabled other did was = absurd did
taken_off end epoch p q before after Closed other did was = absurd did

-- the taker after a take that leaves no queue
pub taker_stays : (lines : ℕ) (t : TakerSeat) (retired : List TakerQueueSeat) (left : Option TakerQueueSeat) (before after : Count) (took : Took) → (took ≡ Again → ⊥) → IsTakenFirst t.retired retired t.left left before after took → IsTakers lines t → IsTakers lines (record { end = t.end; epoch = t.epoch; retired = retired; newest = t.newest; left = left })
taker_stays lines t retired left before after took other did is =
    let was : AreRetired t.end t.epoch (did.0 ∷ did.2) = subst (AreRetired t.end t.epoch) did.3 is.retired in
    let now : retired ≡ did.1 ∷ did.2 = did.4 ∙ stays_after did.1 did.2 took other in
    let many : length retired ≡ length t.retired = ap length now ∙ sym (ap length did.3) in
    let name = taken_off t.end t.epoch did.0 did.1 before after took other did.5 (was.0, was.1) in record {
      some = is.some;
      lines_are = is.lines_are;
      moves = subst (λ (n : ℕ). t.epoch + n ≤ MAX_MOVES) (sym many) is.moves;
      retired = subst (AreRetired t.end t.epoch) (sym now) (name.0, name.1, was.2);
      newest = subst (λ (n : ℕ). IsQueueOf t.end (t.epoch + n) t.newest) (sym many) is.newest;
    }

-- one retired queue more
retired_snoc : (end epoch : ℕ) (ps : List TakerQueueSeat) (p : TakerQueueSeat) → AreRetired end epoch ps → IsQueueOf end (epoch + length ps) p → 0 < p.keeper.at.retires → AreRetired end epoch (ps ++ p ∷ [])
retired_snoc end epoch [] p all name retired = let none : epoch + 0 ≡ epoch = omega arith in ((name.0, name.1 ∙ none), retired, tt)
retired_snoc end epoch (x ∷ ps) p all name retired =
    let along : epoch + length (x ∷ ps) ≡ epoch + 1 + length ps = omega arith in
    (all.0, all.1, retired_snoc end (epoch + 1) ps p all.2 (name.0, name.1 ∙ along) retired)

-- the taker after an adoption
pub taker_moves : (lines : ℕ) (t : TakerSeat) (older p : TakerQueueSeat) (retired : List TakerQueueSeat) → IsTakers lines t → t.epoch + length t.retired ≢ MAX_MOVES → older ≡ retired_queue t.newest → retired ≡ t.retired ++ older ∷ [] → IsNewTakerQueue t.end (t.epoch + length t.retired + 1) lines p → IsTakers lines (record { end = t.end; epoch = t.epoch; retired = retired; newest = p; left = t.left })
taker_moves lines t older p retired is more older_is retired_is new =
    let moves = is.moves in
    let many : length retired ≡ length t.retired + 1 = ap length retired_is ∙ length-append t.retired (older ∷ []) in
    let end : t.epoch + length retired ≡ t.epoch + length t.retired + 1 = omega arith in record {
      some = is.some;
      lines_are = ap (λ v. v.lines) new.at;
      moves = omega arith;
      retired = subst (AreRetired t.end t.epoch) (sym retired_is) (retired_snoc t.end t.epoch t.retired older is.retired
          (subst (IsQueueOf t.end (t.epoch + length t.retired)) (sym older_is) is.newest)
          (subst (λ (x : TakerQueueSeat). 0 < x.keeper.at.retires) (sym older_is) (omega arith)));
      newest = (ap (λ v. v.end) new.at, ap (λ v. v.epoch) new.at ∙ sym end);
    }

-- the first of a list, and what follows it
module _ {A : Type 0} where
  pub at_front : (xs : List A) (x : A) → 0 < length xs → x ≡ get_or xs 0 x → (rest : List A) × (xs ≡ x ∷ rest)
  at_front [] x low is = absurd (omega arith)
  at_front (y ∷ ys) x low is = (ys, λ i. sym is i ∷ ys)

  pub set_front : (xs : List A) (x y : A) (rest : List A) → xs ≡ x ∷ rest → set xs 0 y ≡ y ∷ rest
  set_front xs x y rest is = ap (λ (l : List A). set l 0 y) is

  -- one more of the queues is done
  pub one_more : (whole now before done left : List A) (index : ℕ) (p q : A) → whole ≡ before ++ left → now ≡ done ++ left → length done ≡ index → index < length now → p ≡ get_or now index p
      → (rest : List A) × (left ≡ p ∷ rest) × (set now index q ≡ done ++ q ∷ rest)
  one_more whole now before done left index p q whole_is now_is count low is =
      let here = split_at done left p (subst (λ (l : List A). length done < length l) now_is (subst (λ (n : ℕ). n < length now) (sym count) low)) (is ∙ (λ i. get_or (now_is i) (sym count i) p)) in
      (here.0, here.1, (λ i. set (now_is i) (sym count i) q) ∙ here.2 q)
    where
      split_at : (done left : List A) (x : A) → length done < length (done ++ left) → x ≡ get_or (done ++ left) (length done) x → (rest : List A) × (left ≡ x ∷ rest) × ((y : A) → set (done ++ left) (length done) y ≡ done ++ y ∷ rest)
      split_at [] [] x low is = absurd (omega arith)
      split_at [] (z ∷ left) x low is = (left, λ i. sym is i ∷ left, λ y. refl)
      split_at (z ∷ done) left x low is = let rest = split_at done left x (omega arith) is in (rest.0, rest.1, λ y. ap (λ (l : List A). z ∷ l) (rest.2 y))

  pub joined_on : (xs : List A) (x : A) (ys : List A) → xs ++ x ∷ ys ≡ (xs ++ x ∷ []) ++ ys
  joined_on xs x ys = sym (append_assoc xs (x ∷ []) ys)

-- what was taken of a queue, and then more
pub more_and_more : (p q r : TakerQueueSeat) (xs ys : List Envelope) → TakesThese p q xs → TakesThese q r ys → TakesThese p r (xs ++ ys)
more_and_more p q r xs ys first second = record {
  queue = second.queue ∙ first.queue;
  same_gate = record {
    gate = second.same_gate.gate ∙ first.same_gate.gate;
    enables = second.same_gate.enables ∙ first.same_gate.enables;
    retires = second.same_gate.retires ∙ first.same_gate.retires;
    closes = second.same_gate.closes ∙ first.same_gate.closes;
  };
  end = second.end ∙ first.end;
  epoch = second.epoch ∙ first.epoch;
  lines = second.lines ∙ first.lines;
  got = second.got ∙ ap (λ (l : List Envelope). l ++ ys) first.got ∙ append_assoc p.at.got xs ys;
}

pub same_queue : (p : TakerQueueSeat) → TakesThese p p []
same_queue p = record { queue = refl; same_gate = record { gate = refl; enables = refl; retires = refl; closes = refl }; end = refl; epoch = refl; lines = refl; got = sym (append-nil p.at.got) }

-- nothing was taken of any queue
pub takes_none : (ps : List TakerQueueSeat) → TakesOfEach ps ps []
takes_none [] = refl
takes_none (p ∷ ps) = ([], [], refl, record { queue = refl; same_gate = record { gate = refl; enables = refl; retires = refl; closes = refl }; end = refl; epoch = refl; lines = refl; got = sym (append-nil p.at.got) }, takes_none ps)

-- what was taken of one queue
pub takes_one : (p q : TakerQueueSeat) (here : List Envelope) → TakesThese p q here → TakesOfEach (p ∷ []) (q ∷ []) here
takes_one p q here took = (here, [], sym (append-nil here), took, refl)

-- what was taken of two lists of queues
pub takes_join : (ps qs ps' qs' : List TakerQueueSeat) (more here : List Envelope) → TakesOfEach ps qs more → TakesOfEach ps' qs' here → TakesOfEach (ps ++ ps') (qs ++ qs') (more ++ here)
takes_join [] [] ps' qs' more here none rest = subst (TakesOfEach ps' qs') (ap (λ (l : List Envelope). l ++ here) (sym none)) rest
takes_join [] (q ∷ qs) ps' qs' more here none rest = absurd none
takes_join (p ∷ ps) [] ps' qs' more here none rest = absurd none
takes_join (p ∷ ps) (q ∷ qs) ps' qs' more here took rest =
    (took.0, took.1 ++ here, ap (λ (l : List Envelope). l ++ here) took.2 ∙ append_assoc took.0 took.1 here, took.3, takes_join ps qs ps' qs' took.1 here took.4 rest)

-- somebody was found at one of the later queues
pub held_later : (ps qs ps' qs' : List TakerQueueSeat) (more : List Envelope) → TakesOfEach ps qs more → OneIsHeldUp ps' qs' → OneIsHeldUp (ps ++ ps') (qs ++ qs')
held_later [] [] ps' qs' more none held = held
held_later [] (q ∷ qs) ps' qs' more none held = absurd none
held_later (p ∷ ps) [] ps' qs' more none held = absurd none
held_later (p ∷ ps) (q ∷ qs) ps' qs' more took held = inr (held_later ps qs ps' qs' took.1 took.4 held)

empty_by : (ps : List TakerQueueSeat) → length ps ≡ 0 → ps ≡ []
empty_by [] none = refl
empty_by (p ∷ ps) none = absurd (omega arith)

-- a sweep that stops at a queue after these, with the rest untouched
stopped_at : (before done rest : List TakerQueueSeat) (p q : TakerQueueSeat) (old new newer more : List Envelope) (stop : Stop) → new ≡ old ++ more → TakesOfEach before done more → IsEmptied p q new newer (Err stop) → AreSwept (before ++ p ∷ rest) (done ++ q ∷ rest) old newer (Err stop)
stopped_at before done rest p q old new newer more StillInside envelopes took did = (
  more ++ did.0,
  did.1 ∙ ap (λ (l : List Envelope). l ++ did.0) envelopes ∙ append_assoc old more did.0,
  takes_join before done (p ∷ rest) (q ∷ rest) more did.0 took (did.0, [], sym (append-nil did.0), did.2, takes_none rest),
  held_later before done (p ∷ rest) (q ∷ rest) more took (inl did.4.0),
)
stopped_at before done rest p q old new newer more NoRoom envelopes took did = (
  more ++ did.0,
  did.1 ∙ ap (λ (l : List Envelope). l ++ did.0) envelopes ∙ append_assoc old more did.0,
  takes_join before done (p ∷ rest) (q ∷ rest) more did.0 took (did.0, [], sym (append-nil did.0), did.2, takes_none rest),
)

-- the first queues of a closed end are emptied, up to this index, and the others are as they were
pub record DoneSoFar (whole now : List TakerQueueSeat) (index : ℕ) (old new : List Envelope) : Type 0 where
  pub before : List TakerQueueSeat
  pub done : List TakerQueueSeat
  pub left : List TakerQueueSeat
  pub more : List Envelope
  pub whole_is : whole ≡ before ++ left
  pub now_is : now ≡ done ++ left
  pub count : length done ≡ index
  pub envelopes : new ≡ old ++ more
  pub took : TakesOfEach before done more
  pub settled : AllByRecursion IsQueueSettled done
  pub shut : AllByRecursion IsShut done

pub none_done : (whole : List TakerQueueSeat) (old : List Envelope) → DoneSoFar whole whole 0 old old
none_done whole old = record { before = []; done = []; left = whole; more = []; whole_is = refl; now_is = refl; count = refl; envelopes = sym (append-nil old); took = refl; settled = tt; shut = tt }

pub last_shut : (whole : List TakerQueueSeat) (last : TakerQueueSeat) → AllByRecursion IsShut (whole ++ last ∷ []) → IsShut last
last_shut whole last all = (all_back IsShut whole (last ∷ []) all).0

module _ (whole now : List TakerQueueSeat) (index : ℕ) (old new : List Envelope) (so_far : DoneSoFar whole now index old new) where
  module _ (p : TakerQueueSeat) (low : index < length now) (is : p ≡ get_or now index p) where
    next_of : (q : TakerQueueSeat) → (rest : List TakerQueueSeat) × (so_far.left ≡ p ∷ rest) × (set now index q ≡ so_far.done ++ q ∷ rest)
    next_of q = one_more whole now so_far.before so_far.done so_far.left index p q so_far.whole_is so_far.now_is so_far.count low is

    left_shut : (last : TakerQueueSeat) → AllByRecursion IsShut (whole ++ last ∷ []) → AllByRecursion IsShut (p ∷ (next_of p).0 ++ last ∷ [])
    left_shut last all =
        let parts : whole ++ last ∷ [] ≡ so_far.before ++ ((p ∷ (next_of p).0) ++ last ∷ []) = ap (λ (l : List TakerQueueSeat). l ++ last ∷ []) (so_far.whole_is ∙ ap (λ (l : List TakerQueueSeat). so_far.before ++ l) (next_of p).1) ∙ append_assoc so_far.before (p ∷ (next_of p).0) (last ∷ []) in
        all_back IsShut so_far.before (p ∷ (next_of p).0 ++ last ∷ []) (subst (AllByRecursion IsShut) parts all)

    pub next_shut : (last : TakerQueueSeat) → AllByRecursion IsShut (whole ++ last ∷ []) → IsShut p
    next_shut last all = (left_shut last all).0

    -- one queue more is emptied
    pub done_more : (q : TakerQueueSeat) (newer : List Envelope) → IsEmptied p q new newer (Ok tt) → DoneSoFar whole (set now index q) (index + 1) old newer
    done_more q newer did =
        let next = next_of q in record {
          before = so_far.before ++ p ∷ [];
          done = so_far.done ++ q ∷ [];
          left = next.0;
          more = so_far.more ++ did.0;
          whole_is = so_far.whole_is ∙ ap (λ (l : List TakerQueueSeat). so_far.before ++ l) next.1 ∙ joined_on so_far.before p next.0;
          now_is = next.2 ∙ joined_on so_far.done q next.0;
          count = length-append so_far.done (q ∷ []) ∙ ap (λ (n : ℕ). n + 1) so_far.count;
          envelopes = did.1 ∙ ap (λ (l : List Envelope). l ++ did.0) so_far.envelopes ∙ append_assoc old so_far.more did.0;
          took = takes_join so_far.before so_far.done (p ∷ []) (q ∷ []) so_far.more did.0 so_far.took (takes_one p q did.0 did.2);
          settled = all_join IsQueueSettled so_far.done (q ∷ []) so_far.settled (did.4, tt);
          shut = all_join IsShut so_far.done (q ∷ []) so_far.shut (did.3, tt);
        }

    -- the next queue isn't emptied
    pub stops : (last q : TakerQueueSeat) (newer : List Envelope) (stop : Stop) → AllByRecursion IsShut (whole ++ last ∷ []) → IsEmptied p q new newer (Err stop) → AllByRecursion IsShut (set now index q ++ last ∷ []) × AreSwept (whole ++ last ∷ []) (set now index q ++ last ∷ []) old newer (Err stop)
    stops last q newer stop all did =
        let next = next_of q in
        let rest = next.0 ++ last ∷ [] in
        let whole_is : whole ++ last ∷ [] ≡ so_far.before ++ p ∷ rest = ap (λ (l : List TakerQueueSeat). l ++ last ∷ []) (so_far.whole_is ∙ ap (λ (l : List TakerQueueSeat). so_far.before ++ l) next.1) ∙ append_assoc so_far.before (p ∷ next.0) (last ∷ []) in
        let now_is : set now index q ++ last ∷ [] ≡ so_far.done ++ q ∷ rest = ap (λ (l : List TakerQueueSeat). l ++ last ∷ []) next.2 ∙ append_assoc so_far.done (q ∷ next.0) (last ∷ []) in
        let later_shut = all_back IsShut (so_far.before ++ p ∷ []) rest (subst (AllByRecursion IsShut) (whole_is ∙ joined_on so_far.before p rest) all) in (
          subst (AllByRecursion IsShut) (sym now_is) (all_join IsShut so_far.done (q ∷ rest) so_far.shut (did.3, later_shut)),
          subst (λ (l : List TakerQueueSeat). AreSwept l (set now index q ++ last ∷ []) old newer (Err stop)) (sym whole_is)
              (subst (λ (l : List TakerQueueSeat). AreSwept (so_far.before ++ p ∷ rest) l old newer (Err stop)) (sym now_is)
              (stopped_at so_far.before so_far.done rest p q old new newer so_far.more stop so_far.envelopes so_far.took did)),
        )

  -- all older queues are emptied, and then the newest
  pub ends : (last q : TakerQueueSeat) (newer : List Envelope) (answer : Result (Unit {0}) Stop) → length now ≤ index → IsEmptied last q new newer answer → AllByRecursion IsShut (now ++ q ∷ []) × AreSwept (whole ++ last ∷ []) (now ++ q ∷ []) old newer answer
  ends last q newer answer high did =
      let longer = ap length so_far.now_is in
      let count = so_far.count in
      let none : so_far.left ≡ [] = empty_by so_far.left (omega (arith, length-append so_far.done so_far.left)) in
      let whole_is : whole ≡ so_far.before = so_far.whole_is ∙ ap (λ (l : List TakerQueueSeat). so_far.before ++ l) none ∙ append-nil so_far.before in
      let now_is : now ≡ so_far.done = so_far.now_is ∙ ap (λ (l : List TakerQueueSeat). so_far.done ++ l) none ∙ append-nil so_far.done in
      subst (λ (l : List TakerQueueSeat). AllByRecursion IsShut (l ++ q ∷ []) × AreSwept (whole ++ last ∷ []) (l ++ q ∷ []) old newer answer) (sym now_is)
      (subst (λ (l : List TakerQueueSeat). AllByRecursion IsShut (so_far.done ++ q ∷ []) × AreSwept (l ++ last ∷ []) (so_far.done ++ q ∷ []) old newer answer) (sym whole_is)
      (ended answer did))
    where
      ended : (answer : Result (Unit {0}) Stop) → IsEmptied last q new newer answer → AllByRecursion IsShut (so_far.done ++ q ∷ []) × AreSwept (so_far.before ++ last ∷ []) (so_far.done ++ q ∷ []) old newer answer
      ended (Ok done) did = (
        all_join IsShut so_far.done (q ∷ []) so_far.shut (did.3, tt),
        (
          so_far.more ++ did.0,
          did.1 ∙ ap (λ (l : List Envelope). l ++ did.0) so_far.envelopes ∙ append_assoc old so_far.more did.0,
          takes_join so_far.before so_far.done (last ∷ []) (q ∷ []) so_far.more did.0 so_far.took (takes_one last q did.0 did.2),
          all_join IsQueueSettled so_far.done (q ∷ []) so_far.settled (did.4, tt),
        ),
      )
      ended (Err stop) did = (
        all_join IsShut so_far.done (q ∷ []) so_far.shut (did.3, tt),
        stopped_at so_far.before so_far.done [] last q old new newer so_far.more stop so_far.envelopes so_far.took did,
      )
