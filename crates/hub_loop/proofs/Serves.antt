-- The ends are asked in turn: those that are found at the listener first, and those at which nothing was posted are passed over.
use Rattle.std.proofs.Common.{◌≡◌, ◌⊎◌, ℕ, zero, suc, ◌+◌, ◌-◌, ◌<◌, ◌≤◌, Bool, true, false, ◌||◌, List, [], ◌∷◌, ◌++◌, Option, Some, None, inl, inr, refl, sym, ap, ◌∙◌, subst, arith, append_assoc, get_or-set_other, length, append-nil}
use Rattle.std.proofs.lemmas.Bool.{cases_eq, cases_lt}
use Rattle.slab.specs.Slab.{Slab, get, with_value}
use Rattle.hub_envelope.specs.declared.envelope.Envelope.{Envelope}
use Rattle.hub_ready.specs.Marking.{mark_of, SameBut, HasBit}
use Rattle.hub_queue.specs.Counting.{Count}
use Rattle.hub_loop.specs.declared.ends.HeldEnds.{HeldEnds}
use Rattle.hub_loop.specs.declared.held.Held.{Held}
use Rattle.hub_queue.specs.declared.taker.Took.{Took}
use Rattle.hub_queue.specs.declared.taker.Took.TheVariants.{Got, Empty, Busy, Again, Disabled, Closed}
use Rattle.hub_loop.specs.Asking.{IsHeldAsked}
use Rattle.hub_loop.specs.Serving.{served_by, IsSlotAsked, IsTakenAtKey, IsAskedAt, AskedAll, HasGiven, HasOrder, IsIn, IsPassedOver, IsEndPassedOver, CameTo, HasPassedKeys, HasWalked, NoneBetween, StayMarked, AskedOrUnmarked, AreMarkedServed, AreEachServed, IsServed}
use Rattle.hub_loop.specs.declared.serving.Served.{Served}
use Rattle.hub_loop.specs.declared.serving.Served.TheVariants.{Given, Nothing}
use Rattle.hub_loop.specs.declared.serving.Which.{Which}
use Rattle.hub_loop.specs.declared.serving.Which.TheVariants.{Marked, Each}
use Rattle.hub_loop.proofs.Marks.{written, all-move}
use Rattle.hub_bell.specs.declared.board.BoardStep.{BoardStep}
use Rattle.hub_bell.specs.Seats.{BoardSeat, Done}
use Rattle.hub_envelope.specs.declared.ids.EndId.{EndId}
use Rattle.hub_ready.specs.declared.ready.Ready.{Ready}
use Rattle.hub_ready.specs.Finding.{KeepsMarks, HasStepped, HasRead, WasClear, LeadsTo, FindsAll}
use Rattle.hub_loop.specs.Holding.{end_held}
use Rattle.hub_loop.specs.Reaching.{IsReached, AreReached}
use Rattle.std.proofs.lemmas.List.{get_or_past}

-- what is held under a key was asked
pub taken-there : (slots : Slab Held) (key : ℕ) (old new : Held) (before after : Count) (answer : Option Took) → get slots key ≡ Some old → IsHeldAsked old new before after answer → IsTakenAtKey slots (with_value slots key new) key before after answer
taken-there slots key old new before after answer was asked = record {
  at = subst (λ slot. IsSlotAsked slot (get (with_value slots key new) key) before after answer) (sym was) (new, written slots key old new was, asked);
  others = λ other differs. get_or-set_other slots.slots key other (Some new) None differs;
  capacity = refl;
}

-- nothing is held there
pub taken-nowhere : (slots : Slab Held) (key : ℕ) (count : Count) → get slots key ≡ None → IsTakenAtKey slots slots key count count None
taken-nowhere slots key count none = record {
  at = subst (λ slot. IsSlotAsked slot slot count count None) (sym none) (refl, refl, refl);
  others = λ other differs. refl;
  capacity = refl;
}

-- what an answer comes to
served-cases : (key : ℕ) (answer : Option Took) → ((busy : Bool) × (served_by key answer ≡ Nothing busy)) ⊎ ((v : Envelope) × (served_by key answer ≡ Given key v))
served-cases key None = inl (false, refl)
served-cases key (Some (Got v)) = inr (v, refl)
served-cases key (Some Busy) = inl (true, refl)
served-cases key (Some Empty) = inl (false, refl)
served-cases key (Some Again) = inl (false, refl)
served-cases key (Some Disabled) = inl (false, refl)
served-cases key (Some Closed) = inl (false, refl)

-- the end that was asked gave an envelope
pub given-at : (old new : Slab Held) (key : ℕ) (before after : Count) (served : Served) → IsAskedAt old new key before after served → ((busy : Bool) → served ≡ Nothing busy → ⊥) → (v : Envelope) × (served ≡ Given key v)
given-at old new key before after served came other =
    elim (served-cases key came.0) [
      | inl none ↦ absurd (other none.0 (came.2 ∙ none.1))
      | inr gave ↦ (gave.0, came.2 ∙ gave.1)
    ]

-- keys that are among others
pub in-left : (key : ℕ) (front back : List ℕ) → IsIn key front → IsIn key (front ++ back)
in-left key [] back is = absurd is
in-left key (k ∷ front) back is =
    elim is [
      | inl here ↦ inl here
      | inr there ↦ inr (in-left key front back there)
    ]

pub in-right : (key : ℕ) (front back : List ℕ) → IsIn key back → IsIn key (front ++ back)
in-right key [] back is = is
in-right key (k ∷ front) back is = inr (in-right key front back is)

pub mark-cases : (marks : List ℕ) (key : ℕ) → (mark_of marks key ≡ 0) ⊎ (mark_of marks key ≡ 1)
mark-cases marks key =
    elim (cases_eq (mark_of marks key) 0) [
      | inl clear ↦ inl clear
      | inr set ↦ inr (omega (arith, set))
    ]

or-assoc : (a b c : Bool) → ((a || b) || c) ≡ (a || (b || c))
or-assoc true b c = refl
or-assoc false b c = refl

-- those that were asked later stand in front
pub asked-join : (keys more : List ℕ) (old mid new : Slab Held) (before c after : Count) (was busy : Bool) → AskedAll keys old mid before c was → AskedAll more mid new c after busy → AskedAll (more ++ keys) old new before after (busy || was)
asked-join keys [] old mid new before c after was busy first second =
    subst (λ b. AskedAll keys old new before after (b || was)) (sym second.2)
    (subst (λ a. AskedAll keys old new before a was) (sym second.1) (subst (λ s. AskedAll keys old s before c was) (sym second.0) first))
asked-join keys (key ∷ more) old mid new before c after was busy first second = (
  second.0,
  second.1,
  second.2 || was,
  second.3,
  asked-join keys more old mid second.0 before c second.1 was second.2 first second.4,
  second.5,
  ap (λ b. b || was) second.6 ∙ or-assoc second.3 second.2 was,
)

pub given-join : (keys more : List ℕ) (old mid new : Slab Held) (before c after : Count) (was : Bool) (key : ℕ) (v : Envelope) → AskedAll keys old mid before c was → HasGiven more mid new c after key v → HasGiven (more ++ keys) old new before after key v
given-join keys more old mid new before c after was key v first given = record {
  middle = given.middle;
  count = given.count;
  busy = given.busy || was;
  earlier = asked-join keys more old mid given.middle before c given.count was given.busy first given.earlier;
  given = given.given;
}

-- keys that were asked later or before leave the order as it is
pub order-later : (low n : ℕ) (keys more : List ℕ) → HasOrder low n keys → HasOrder low n (more ++ keys)
order-later low zero keys more order = tt
order-later low (suc n) keys more order =
    (more ++ order.0, order.1, ap (λ ks. more ++ ks) order.2 ∙ sym (append_assoc more order.0 ((low + n) ∷ order.1)), order.3)

pub order-before : (low n : ℕ) (keys more : List ℕ) → HasOrder low n keys → HasOrder low n (keys ++ more)
order-before low zero keys more order = tt
order-before low (suc n) keys more order =
    (order.0, order.1 ++ more, ap (λ ks. ks ++ more) order.2 ∙ append_assoc order.0 ((low + n) ∷ order.1) more, order-before low n order.1 more order.3)

-- the keys of a range, and then those of the next one
pub order-join : (low m n : ℕ) (keys more : List ℕ) → HasOrder low m keys → HasOrder (low + m) n more → HasOrder low (n + m) (more ++ keys)
order-join low m zero keys more first second =
    let none : m ≡ 0 + m = omega arith in subst (λ n. HasOrder low n (more ++ keys)) none (order-later low m keys more first)
order-join low m (suc n) keys more first second =
    let one : suc (n + m) ≡ suc n + m = omega arith in
    let there : (low + m) + n ≡ low + (n + m) = omega arith in
    subst (λ count. HasOrder low count (more ++ keys)) one (
      second.0,
      second.1 ++ keys,
      ap (λ ks. ks ++ keys) second.2 ∙ append_assoc second.0 (((low + m) + n) ∷ second.1) keys ∙ ap (λ key. second.0 ++ key ∷ (second.1 ++ keys)) there,
      order-join low m n keys second.1 first second.3,
    )

order-more : (low key : ℕ) (keys : List ℕ) → low ≤ key → HasOrder low (key - low) keys → HasOrder low (key + 1 - low) (key ∷ keys)
order-more low key keys le order =
    let one : key + 1 - low ≡ suc (key - low) = omega (arith, le) in
    let there : key ≡ low + (key - low) = omega (arith, le) in
    subst (λ n. HasOrder low n (key ∷ keys)) (sym one) ([], keys, ap (λ k. k ∷ keys) there, order)

-- what was asked or not marked later was asked or not marked
pub unmarked-before : (keys more old mid : List ℕ) (key : ℕ) → StayMarked keys old mid → IsIn key more ⊎ (mark_of mid key ≡ 0) → IsIn key (more ++ keys) ⊎ (mark_of old key ≡ 0)
unmarked-before keys more old mid key stay was =
    elim was [
      | inl is ↦ inl (in-left key more keys is)
      | inr clear ↦
          elim (mark-cases old key) [
            | inl none ↦ inr none
            | inr set ↦
                elim (stay key set) [
                  | inl is ↦ inl (in-right key more keys is)
                  | inr stays ↦ absurd (omega (arith, clear, stays))
                ]
          ]
    ]

-- a walk of no keys
passed-none : (which : Which) (low : ℕ) (marks : List ℕ) → HasPassedKeys which low low [] marks
passed-none Marked low marks = λ key le less. absurd (omega (arith, le, less))
passed-none Each low marks = let none : low - low ≡ 0 = omega arith in subst (λ n. HasOrder low n []) (sym none) tt

-- up to the next key that a walk asks it passes over each
passed-to : (which : Which) (low from to : ℕ) (keys old mid : List ℕ) → StayMarked keys old mid → from ≤ to → HasPassedKeys which low from keys old → NoneBetween which mid from to → HasPassedKeys which low to keys old
passed-to Marked low from to keys old mid stay le passed none = λ key above below.
    elim (cases_lt key from) [
      | inl before ↦ passed key above before
      | inr past ↦ unmarked-before keys [] old mid key stay (inr (none key past below))
    ]
passed-to Each low from to keys old mid stay le passed none =
    let same : from ≡ to = omega (arith, le, none) in subst (λ n. HasOrder low (n - low) keys) same passed

-- and that one was asked
passed-key : (which : Which) (low key : ℕ) (keys marks : List ℕ) → low ≤ key → HasPassedKeys which low key keys marks → HasPassedKeys which low (key + 1) (key ∷ keys) marks
passed-key Marked low key keys marks le passed = λ other above below.
    elim (cases_eq other key) [
      | inl is ↦ inl (inl is)
      | inr differs ↦
          elim (passed other above (omega (arith, below, differs))) [
            | inl was ↦ inl (inr was)
            | inr clear ↦ inr clear
          ]
    ]
passed-key Each low key keys marks le passed = order-more low key keys le passed

-- an asking takes away the mark of its key alone
stay-more : (key : ℕ) (keys old mid new : List ℕ) → StayMarked keys old mid → SameBut key mid new → StayMarked (key ∷ keys) old new
stay-more key keys old mid new stay same = λ other marked.
    elim (stay other marked) [
      | inl is ↦ inl (inr is)
      | inr still ↦
          elim (cases_eq other key) [
            | inl is ↦ inl (inl is)
            | inr differs ↦ inr (same.others other differs ∙ still)
          ]
    ]

-- keys were asked, and then others
pub came-join : (keys more : List ℕ) (old mid new : Slab Held) (before c after : Count) (was busy : Bool) (served : Served) → CameTo keys old mid before c was (Nothing busy) → CameTo more mid new c after busy served → CameTo (more ++ keys) old new before after was served
came-join keys more old mid new before c after was busy (Given key v) first given =
    given-join keys more old mid new before c after first.0 key v first.1 given
came-join keys more old mid new before c after was busy (Nothing now) first second = (
  second.0 || first.0,
  asked-join keys more old mid new before c after first.0 second.0 first.1 second.1,
  second.2 ∙ ap (λ b. second.0 || b) first.2 ∙ sym (or-assoc second.0 first.0 was),
)

-- nothing was walked yet
pub walked-none : (which : Which) (low : ℕ) (at : HeldEnds) (count : Count) (was : Bool) → HasWalked which low low at at count count was (Nothing was)
walked-none which low at count was = ([], (false, (refl, refl, refl), refl), passed-none which low at.ready.marks, λ key marked. inr marked)

-- the next key was asked, and gave none
pub walked-more : (which : Which) (low from key : ℕ) (old mid new : HeldEnds) (before c after : Count) (was busy here : Bool) → low ≤ from → from ≤ key → HasWalked which low from old mid before c was (Nothing busy) → NoneBetween which mid.ready.marks from key → IsAskedAt mid.held new.held key c after (Nothing here) → SameBut key mid.ready.marks new.ready.marks → HasWalked which low (key + 1) old new before after was (Nothing (here || busy))
walked-more which low from key old mid new before c after was busy here above le walked none came same =
    let keys = walked.0 in
    let asked = walked.1 in (
      key ∷ keys,
      (
        here || asked.0,
        (mid.held, c, asked.0, here, asked.1, came, refl),
        ap (λ b. here || b) asked.2 ∙ sym (or-assoc here asked.0 was),
      ),
      passed-key which low key keys old.ready.marks (omega (arith, above, le)) (passed-to which low from key keys old.ready.marks mid.ready.marks walked.3 le walked.2 none),
      stay-more key keys old.ready.marks mid.ready.marks new.ready.marks walked.3 same,
    )

-- the next key was asked, and gave an envelope
pub walked-given : (which : Which) (low from key high : ℕ) (old mid new : HeldEnds) (before c after : Count) (was busy : Bool) (v : Envelope) → low ≤ from → from ≤ key → key < high → HasWalked which low from old mid before c was (Nothing busy) → NoneBetween which mid.ready.marks from key → IsAskedAt mid.held new.held key c after (Given key v) → HasWalked which low high old new before after was (Given key v)
walked-given which low from key high old mid new before c after was busy v above le less walked none came = (
  walked.0,
  record { middle = mid.held; count = c; busy = walked.1.0; earlier = walked.1.1; given = came },
  passed-to which low from key walked.0 old.ready.marks mid.ready.marks walked.3 le walked.2 none,
  omega (arith, above, le),
  less,
)

-- no key is left
pub walked-whole : (which : Which) (low from high : ℕ) (old new : HeldEnds) (before after : Count) (was busy : Bool) → from ≤ high → HasWalked which low from old new before after was (Nothing busy) → NoneBetween which new.ready.marks from high → HasWalked which low high old new before after was (Nothing busy)
walked-whole which low from high old new before after was busy le walked none =
    (walked.0, walked.1, passed-to which low from high walked.0 old.ready.marks new.ready.marks walked.3 le walked.2 none, walked.3)

-- the listener was looked at, and these are the marks then
pub record Gathered (old mid : Ready) (looks : List BoardStep) : Type 0 where
  pub keeps : KeepsMarks old.marks mid.marks
  pub listed : mid.listed ≡ old.listed
  pub finds : FindsAll mid.listed.items mid.marks looks

-- what is not marked then was not marked before
unmarked-found : (old mid : List ℕ) (key : ℕ) → KeepsMarks old mid → mark_of mid key ≡ 0 → mark_of old key ≡ 0
unmarked-found old mid key keeps clear =
    elim (mark-cases old key) [
      | inl none ↦ none
      | inr set ↦ absurd (let still = keeps.1 key set in omega (arith, clear, still))
    ]

-- more may be marked, and what is listed is the same
pub gathered : (slots : Slab Held) (r q : Ready) → KeepsMarks r.marks q.marks → q.listed ≡ r.listed → AreReached slots r → AreReached slots q
gathered slots r q keeps listed reached =
    all-move slots r q (λ key. record {
      bits = omega (arith, keeps.0);
      marks = λ has clear. unmarked-found r.marks q.marks key keeps clear;
      listed = λ end leads. subst (λ l. LeadsTo l.items end key) (sym listed) leads;
    }) reached

-- no steps
pub no-steps : (a : BoardSeat) → HasStepped a a []
no-steps a = (refl, ap (λ (steps : List BoardStep). record a.at { steps = steps }) (sym (append-nil a.at.steps)))

-- steps behind steps
pub steps-join : (a b c : BoardSeat) (front back : List BoardStep) → HasStepped a b front → HasStepped b c back → HasStepped a c (front ++ back)
steps-join a b c front back first second =
    (second.0 ∙ first.0, second.1 ∙ ap (λ (at : Done). record at { steps = at.steps ++ back }) first.1 ∙ ap (λ (steps : List BoardStep). record a.at { steps = steps }) (append_assoc a.at.steps front back))

read-left : (word value : ℕ) (front back : List BoardStep) → HasRead word value front → HasRead word value (front ++ back)
read-left word value [] back read = absurd read
read-left word value (step ∷ front) back read =
    elim read [
      | inl here ↦ inl here
      | inr there ↦ inr (read-left word value front back there)
    ]

clear-left : (end : EndId) (front back : List BoardStep) → WasClear end front → WasClear end (front ++ back)
clear-left end front back clear =
    elim clear [
      | inl name ↦ inl (name.0, read-left _ name.0 front back name.1, name.2)
      | inr bit ↦ inr (bit.0, read-left _ bit.0 front back bit.1, bit.2)
    ]

-- an end that isn't marked then is passed over
passed-end : (end : Option EndId) (held : Held) (old mid : Ready) (key : ℕ) (looks : List BoardStep) → end_held held ≡ end → IsReached old key held → Gathered old mid looks → mark_of mid.marks key ≡ 0 → IsEndPassedOver end (mark_of old.marks key) looks
passed-end None held old mid key looks is reached found clear = tt
passed-end (Some end) held old mid key looks is reached found clear =
    let none = unmarked-found old.marks mid.marks key found.keeps clear in
    let leads : LeadsTo mid.listed.items end key = subst (λ l. LeadsTo l.items end key) (sym found.listed) (reached.1 end is none) in
    let has : HasBit mid.marks key = omega (arith, reached.0, found.keeps.0) in (
      none,
      elim (found.finds end key leads has) [
        | inl marked ↦ absurd (omega (arith, clear, marked))
        | inr was ↦ was
      ],
    )

passed-slot : (slot : Option Held) (slots : Slab Held) (old mid : Ready) (key : ℕ) (looks : List BoardStep) → get slots key ≡ slot → AreReached slots old → Gathered old mid looks → mark_of mid.marks key ≡ 0 → IsPassedOver slot (mark_of old.marks key) looks
passed-slot None slots old mid key looks is reached found clear = tt
passed-slot (Some held) slots old mid key looks is reached found clear = passed-end (end_held held) held old mid key looks refl (reached key held is) found clear

asked-or-passed : (slots : Slab Held) (old mid : Ready) (key : ℕ) (keys : List ℕ) (looks : List BoardStep) → AreReached slots old → Gathered old mid looks → IsIn key keys ⊎ (mark_of mid.marks key ≡ 0) → IsIn key keys ⊎ IsPassedOver (get slots key) (mark_of old.marks key) looks
asked-or-passed slots old mid key keys looks reached found asked =
    elim asked [
      | inl was ↦ inl was
      | inr clear ↦ inr (passed-slot (get slots key) slots old mid key looks refl reached found clear)
    ]

-- where no key can be nothing is held
passed-past : (slots : Slab Held) (mark key : ℕ) (looks : List BoardStep) → length slots.slots ≤ slots.capacity → slots.capacity ≤ key → IsPassedOver (get slots key) mark looks
passed-past slots mark key looks within past =
    let none : get slots key ≡ None = get_or_past slots.slots key None (omega (arith, within, past)) in
    subst (λ slot. IsPassedOver slot mark looks) (sym none) tt

-- the marked ones were walked from the next key on, and then those before it up to this one
passed-behind : (old : HeldEnds) (mid : Ready) (bound : ℕ) (keys more marks : List ℕ) (looks : List BoardStep) → length old.held.slots ≤ old.held.capacity → Gathered old.ready mid looks → AskedOrUnmarked old.next old.held.capacity keys mid.marks → StayMarked keys mid.marks marks → AskedOrUnmarked 0 bound more marks → (key : ℕ) → (old.next ≤ key) ⊎ (key < bound) → IsIn key (more ++ keys) ⊎ IsPassedOver (get old.held key) (mark_of old.ready.marks key) looks
passed-behind old mid bound keys more marks looks within found ahead stay behind key place =
    let passed = asked-or-passed old.held old.ready mid key (more ++ keys) looks old.reached found in
    elim place [
      | inl past ↦
          elim (cases_lt key old.held.capacity) [
            | inl inside ↦
                elim (ahead key past inside) [
                  | inl was ↦ inl (in-right key more keys was)
                  | inr clear ↦ passed (inr clear)
                ]
            | inr out ↦ inr (passed-past old.held (mark_of old.ready.marks key) key looks within out)
          ]
      | inr before ↦ passed (unmarked-before keys more mid.marks marks key stay (behind key (omega arith) before))
    ]

-- the ends, once the listener was looked at
abbrev pub looked : (old : HeldEnds) (mid : Ready) (looks : List BoardStep) → Gathered old.ready mid looks → HeldEnds
looked old mid looks found = record { held = old.held; next = old.next; ready = mid; lines = old.lines; room = old.room; reached = gathered old.held old.ready mid found.keeps found.listed old.reached }

-- a marked end from the next key on gave an envelope
pub marked-ahead : (high : ℕ) (old new : HeldEnds) (mid : Ready) (heard hears : BoardSeat) (looks : List BoardStep) (before after : Count) (was : Bool) (served : Served) → HasStepped heard hears looks → (found : Gathered old.ready mid looks) → HasWalked Marked old.next high (looked old mid looks found) new before after was served → ((busy : Bool) → served ≡ Nothing busy → ⊥) → AreMarkedServed old new heard hears before after was served
marked-ahead high old new mid heard hears looks before after was (Given key v) stepped found walked other = (
  looks,
  stepped,
  walked.0,
  walked.1,
  λ end is.
      elim is [
        | inl here ↦ asked-or-passed old.held old.ready mid end walked.0 looks old.reached found (walked.2 end here.0 here.1)
        | inr wraps ↦ absurd (omega (arith, wraps.0, walked.3))
      ],
)
marked-ahead high old new mid heard hears looks before after was (Nothing busy) stepped found walked other = absurd (other busy refl)

-- the marked ends from the next key on gave none, and then those before it were walked
pub marked-behind : (high : ℕ) (old then new : HeldEnds) (mid : Ready) (heard hears : BoardSeat) (looks : List BoardStep) (before c after : Count) (was busy : Bool) (served : Served) → HasStepped heard hears looks → (found : Gathered old.ready mid looks) → length old.held.slots ≤ old.held.capacity → high ≡ old.held.capacity → HasWalked Marked old.next high (looked old mid looks found) then before c was (Nothing busy) → HasWalked Marked 0 old.next then new c after busy served → AreMarkedServed old new heard hears before after was served
marked-behind high old then new mid heard hears looks before c after was busy (Given key v) stepped found within whole first second = (
  looks,
  stepped,
  second.0 ++ first.0,
  came-join first.0 second.0 old.held then.held new.held before c after was busy (Given key v) first.1 second.1,
  λ end is.
      elim is [
        | inl here ↦ absurd (omega (arith, here.0, here.1, second.4))
        | inr wraps ↦
            passed-behind old mid key first.0 second.0 then.ready.marks looks within found
            (subst (λ n. AskedOrUnmarked old.next n first.0 mid.marks) whole first.2) first.3 second.2 end wraps.1
      ],
)
marked-behind high old then new mid heard hears looks before c after was busy (Nothing now) stepped found within whole first second = (
  looks,
  stepped,
  second.0 ++ first.0,
  came-join first.0 second.0 old.held then.held new.held before c after was busy (Nothing now) first.1 second.1,
  λ end is.
      passed-behind old mid old.next first.0 second.0 then.ready.marks looks within found
      (subst (λ n. AskedOrUnmarked old.next n first.0 mid.marks) whole first.2) first.3 second.2 end
      (elim (cases_lt end old.next) [
        | inl less ↦ inr less
        | inr past ↦ inl past
      ]),
)

-- no end of a range was asked yet
pub each-none : (low : ℕ) (at : HeldEnds) (heard : BoardSeat) (count : Count) (was : Bool) → AreEachServed low low at at heard heard count count was (Nothing was)
each-none low at heard count was =
    let none : low - low ≡ 0 = omega arith in
    ([], no-steps heard, [], (false, (refl, refl, refl), refl), subst (λ n. HasOrder low n []) (sym none) tt)

-- the next part of it was walked
pub each-walked : (low from to : ℕ) (old mid new : HeldEnds) (heard hears : BoardSeat) (before c after : Count) (was busy : Bool) (served : Served) → low ≤ from → from ≤ to → AreEachServed low from old mid heard hears before c was (Nothing busy) → HasWalked Each from to mid new c after busy served → AreEachServed low to old new heard hears before after was served
each-walked low from to old mid new heard hears before c after was busy (Given key v) above le first walked =
    (first.0, first.1, walked.0 ++ first.2, came-join first.2 walked.0 old.held mid.held new.held before c after was busy (Given key v) first.3 walked.1, tt)
each-walked low from to old mid new heard hears before c after was busy (Nothing now) above le first walked =
    let there : from ≡ low + (from - low) = omega (arith, above) in
    let all : (to - from) + (from - low) ≡ to - low = omega (arith, above, le) in (
      first.0,
      first.1,
      walked.0 ++ first.2,
      came-join first.2 walked.0 old.held mid.held new.held before c after was busy (Nothing now) first.3 walked.1,
      subst (λ n. HasOrder low n (walked.0 ++ first.2)) all
          (order-join low (from - low) (to - from) first.2 walked.0 first.4 (subst (λ n. HasOrder n (to - from) walked.0) there walked.2)),
    )

-- then the marked ones were served
pub each-marked : (low from : ℕ) (old mid new : HeldEnds) (heard middle hears : BoardSeat) (before c after : Count) (was busy : Bool) (served : Served) → AreEachServed low from old mid heard middle before c was (Nothing busy) → AreMarkedServed mid new middle hears c after busy served → AreEachServed low from old new heard hears before after was served
each-marked low from old mid new heard middle hears before c after was busy (Given key v) first second = (
  first.0 ++ second.0,
  steps-join heard middle hears first.0 second.0 first.1 second.1,
  second.2 ++ first.2,
  came-join first.2 second.2 old.held mid.held new.held before c after was busy (Given key v) first.3 second.3,
  tt,
)
each-marked low from old mid new heard middle hears before c after was busy (Nothing now) first second = (
  first.0 ++ second.0,
  steps-join heard middle hears first.0 second.0 first.1 second.1,
  second.2 ++ first.2,
  came-join first.2 second.2 old.held mid.held new.held before c after was busy (Nothing now) first.3 second.3,
  order-later low (from - low) first.2 second.2 first.4,
)

-- where an end gave an envelope the range doesn't matter
pub each-given : (low to high : ℕ) (old new : HeldEnds) (heard hears : BoardSeat) (before after : Count) (was : Bool) (served : Served) → AreEachServed low to old new heard hears before after was served → ((busy : Bool) → served ≡ Nothing busy → ⊥) → AreEachServed low high old new heard hears before after was served
each-given low to high old new heard hears before after was (Given key v) came other = came
each-given low to high old new heard hears before after was (Nothing busy) came other = absurd (other busy refl)

end-more : (end : Option EndId) (mark : ℕ) (front back : List BoardStep) → IsEndPassedOver end mark front → IsEndPassedOver end mark (front ++ back)
end-more None mark front back over = tt
end-more (Some end) mark front back over = (over.0, clear-left end front back over.1)

passed-more : (slot : Option Held) (mark : ℕ) (front back : List BoardStep) → IsPassedOver slot mark front → IsPassedOver slot mark (front ++ back)
passed-more None mark front back over = tt
passed-more (Some held) mark front back over = end-more (end_held held) mark front back over

-- a marked end gave an envelope
pub served-first : (old new : HeldEnds) (heard hears : BoardSeat) (before after : Count) (was : Bool) (served : Served) → AreMarkedServed old new heard hears before after was served → ((busy : Bool) → served ≡ Nothing busy → ⊥) → IsServed old new heard hears before after served
served-first old new heard hears before after was (Given key v) came other = (came.0, came.1, (came.2, came.3, came.4))
served-first old new heard hears before after was (Nothing busy) came other = absurd (other busy refl)

-- no marked end gave one: each was asked or passed over, so that it doesn't matter in which order the others are asked then
pub served-then : (low high : ℕ) (old mid new : HeldEnds) (heard middle hears : BoardSeat) (before c after : Count) (was busy : Bool) (served : Served) → AreMarkedServed old mid heard middle before c was (Nothing busy) → AreEachServed low high mid new middle hears c after busy served → ((now : Bool) → served ≡ Nothing now → ⊥) → IsServed old new heard hears before after served
served-then low high old mid new heard middle hears before c after was busy (Given key v) first second other = (
  first.0 ++ second.0,
  steps-join heard middle hears first.0 second.0 first.1 second.1,
  (
    second.2 ++ first.2,
    came-join first.2 second.2 old.held mid.held new.held before c after was busy (Given key v) first.3 second.3,
    λ end is.
        elim (first.4 end tt) [
          | inl one ↦ inl (in-right end second.2 first.2 one)
          | inr over ↦ inr (passed-more (get old.held end) (mark_of old.ready.marks end) first.0 second.0 over)
        ],
  ),
)
served-then low high old mid new heard middle hears before c after was busy (Nothing now) first second other = absurd (other now refl)

or-false : (b : Bool) → (b || false) ≡ b
or-false true = refl
or-false false = refl

-- no end from the next key on gave one either, and then those before it were asked
pub served-last : (high : ℕ) (old mid then new : HeldEnds) (heard middle later hears : BoardSeat) (before c d after : Count) (marked ahead : Bool) (served : Served) → high ≡ old.held.capacity → AreMarkedServed old mid heard middle before c false (Nothing marked) → AreEachServed old.next high mid then middle later c d marked (Nothing ahead) → AreEachServed 0 old.next then new later hears d after ahead served → IsServed old new heard hears before after served
served-last high old mid then new heard middle later hears before c d after marked ahead (Given key v) whole first second third =
    served-then 0 old.next old mid new heard middle hears before c after false marked (Given key v) first (
      second.0 ++ third.0,
      steps-join middle later hears second.0 third.0 second.1 third.1,
      third.2 ++ second.2,
      came-join second.2 third.2 mid.held then.held new.held c d after marked ahead (Given key v) second.3 third.3,
      tt,
    )
    (λ now is. absurd cc)
served-last high old mid then new heard middle later hears before c d after marked ahead (Nothing now) whole first second third =
    let keys = second.2 ++ first.2 in
    let looks = first.0 ++ second.0 in
    let none : old.next - 0 ≡ old.next = omega arith in
    let two = came-join first.2 second.2 old.held mid.held then.held before c d false marked (Nothing ahead) first.3 second.3 in
    let all = came-join keys third.2 old.held then.held new.held before d after false ahead (Nothing now) two third.3 in (
      looks ++ third.0,
      steps-join heard later hears looks third.0 (steps-join heard middle later first.0 second.0 first.1 second.1) third.1,
      (
        third.2 ++ keys,
        subst (AskedAll (third.2 ++ keys) old.held new.held before after) (sym (all.2 ∙ or-false all.0)) all.1,
        (
          third.2,
          keys,
          refl,
          subst (λ n. HasOrder old.next (n - old.next) keys) whole (order-before old.next (high - old.next) second.2 first.2 second.4),
          subst (λ n. HasOrder 0 n third.2) none third.4,
        ),
      ),
    )
