-- How the ends that are held are found, and which are marked.
use Rattle.std.proofs.Common.{◌≡◌, ◌≢◌, ◌⊎◌, ℕ, ◌≤◌, length, Option, Some, None, IsSome, get_or-set_other, inl, inr, refl, sym, ap, ◌∙◌, subst, arith, Bool, List, [], ◌∷◌}
use Rattle.std.proofs.lemmas.Bool.{cases_eq, cases_lt}
use Rattle.std.proofs.lemmas.List.{get_or-set_same, get_or_past}
use Rattle.std.proofs.lemmas.Option.{none-some}
use Rattle.slab.specs.Slab.{Slab, get, with_value, SameValues}
use Rattle.hub_envelope.specs.declared.ids.EndId.{EndId}
use Rattle.hub_ready.specs.declared.ready.Ready.{Ready}
use Rattle.hub_ready.specs.Finding.{GrowsMarks, LeadsTo, SameEntries}
use Rattle.hub_ready.specs.Marking.{mark_of, HasBit, SameBut}
use Rattle.hub_loop.specs.declared.held.Held.{Held}
use Rattle.hub_loop.specs.Holding.{end_held}
use Rattle.hub_loop.specs.Reaching.{IsReached, AreReached}
use Rattle.hub_loop.specs.Serving.{IsListedAt, IsAskedAt, IsSlotAsked, AskedAll}
use Rattle.hub_queue.specs.declared.taker.Took.{Took}
use Rattle.hub_queue.specs.Counting.{Count}
use Rattle.hub_loop.specs.declared.serving.Served.{Served}
use Rattle.std.specs.Prelude.{Result, Ok, Err}
use Rattle.hub_bell.specs.declared.board.BoardStep.{BoardStep}
use Rattle.hub_loop.specs.declared.ends.HeldEnds.{HeldEnds}
use Rattle.hub_loop.specs.declared.serving.Served.TheVariants.{Given, Nothing}
use Rattle.hub_loop.specs.Marking.{AreMarked, AreNewMarked, MarksKept}
use Rattle.hub_loop.specs.States.{DeliveryState, HoldingState}
use Rattle.hub_loop.specs.Turning.{IsDue}

-- what makes an end that was reached be reached still
pub record Moves (r q : Ready) (key : ℕ) : Type 0 where
  pub bits : length r.marks ≤ length q.marks
  pub marks : HasBit r.marks key → mark_of q.marks key ≡ 0 → mark_of r.marks key ≡ 0
  pub listed : (end : EndId) → LeadsTo r.listed.items end key → LeadsTo q.listed.items end key

pub held-moves : (r q : Ready) (key : ℕ) (held : Held) → Moves r q key → IsReached r key held → IsReached q key held
held-moves r q key held moves reached =
    (omega (arith, reached.0, moves.bits), λ end is clear. moves.listed end (reached.1 end is (moves.marks reached.0 clear)))

-- all that is held is reached still
pub all-move : (slots : Slab Held) (r q : Ready) → ((key : ℕ) → Moves r q key) → AreReached slots r → AreReached slots q
all-move slots r q moves reached key held is = held-moves r q key held (moves key) (reached key held is)

-- there is more room, and what was marked and listed is
pub grown : (slots : Slab Held) (r q : Ready) → GrowsMarks r.marks q.marks → SameEntries r.listed.items q.listed.items → AreReached slots r → AreReached slots q
grown slots r q marks listed reached =
    all-move slots r q (λ key. record {
      bits = marks.0;
      marks = λ has clear. sym (marks.1 key) ∙ clear;
      listed = λ end leads. listed end.0 ∙ leads;
    }) reached

-- the same where under one key all may have changed
pub all-but : (old new : Slab Held) (r q : Ready) (key : ℕ) → ((other : ℕ) → other ≢ key → get new other ≡ get old other) → ((other : ℕ) → other ≢ key → Moves r q other) → ((held : Held) → get new key ≡ Some held → IsReached q key held) → AreReached old r → AreReached new q
all-but old new r q key others moves here reached other held is =
    elim (cases_eq other key) [
      | inl same ↦ subst (λ k. IsReached q k held) (sym same) (here held (ap (get new) (sym same) ∙ is))
      | inr differs ↦ held-moves r q other held (moves other differs) (reached other held (sym (others other differs) ∙ is))
    ]

-- less is held
pub fewer : (old new : Slab Held) (r : Ready) → ((key : ℕ) → (get new key ≡ None) ⊎ (get new key ≡ get old key)) → AreReached old r → AreReached new r
fewer old new r less reached key held is =
    elim (less key) [
      | inl gone ↦ absurd (let none : get new key ≡ None = gone in cc)
      | inr same ↦ reached key held (sym same ∙ is)
    ]

-- the same is held
pub same-held : (old new : Slab Held) (r : Ready) → ((key : ℕ) → get new key ≡ get old key) → AreReached old r → AreReached new r
same-held old new r same reached key held is = reached key held (sym (same key) ∙ is)

-- an end that is marked
pub is-marked : (r : Ready) (key : ℕ) (held : Held) → HasBit r.marks key → mark_of r.marks key ≡ 1 → IsReached r key held
is-marked r key held has marked = (has, λ end is clear. absurd (omega (arith, marked, clear)))

-- marks of other keys stay, and what leads there
pub moves-other : (r q : Ready) (key : ℕ) → SameBut key r.marks q.marks → ((end : EndId) (other : ℕ) → other ≢ key → LeadsTo r.listed.items end other → LeadsTo q.listed.items end other) → (other : ℕ) → other ≢ key → Moves r q other
moves-other r q key same listed other differs = record {
  bits = omega (arith, same.bits);
  marks = λ has clear. sym (same.others other differs) ∙ clear;
  listed = λ end leads. listed end other differs leads;
}

-- a key was marked where it has a bit
pub moves-set : (r q : Ready) (key : ℕ) → q.listed ≡ r.listed → SameBut key r.marks q.marks → (HasBit r.marks key → mark_of q.marks key ≡ 1) → (other : ℕ) → Moves r q other
moves-set r q key same_listed same set other = record {
  bits = omega (arith, same.bits);
  marks = λ has clear.
      elim (cases_eq other key) [
        | inl is ↦ absurd (let one = set (subst (HasBit r.marks) is has) in let none : mark_of q.marks key ≡ 0 = subst (λ k. mark_of q.marks k ≡ 0) is clear in omega (arith, one, none))
        | inr differs ↦ sym (same.others other differs) ∙ clear
      ];
  listed = λ end leads. subst (λ l. LeadsTo l.items end other) (sym same_listed) leads;
}

-- a slot that has something has it under its key
pub contained : (slot : Option Held) → IsSome slot → (held : Held) × (slot ≡ Some held)
contained None is = absurd cc
contained (Some held) is = (held, refl)

-- what a borrower leaves under a key that was marked
pub lent : (slots : Slab Held) (r q : Ready) (key : ℕ) (w : Held) → IsSome (get slots key) → q.listed ≡ r.listed → SameBut key r.marks q.marks → (HasBit r.marks key → mark_of q.marks key ≡ 1) → AreReached slots r → AreReached (with_value slots key w) q
lent slots r q key w some listed same set reached =
    let was = contained (get slots key) some in
    let bit : HasBit r.marks key = (reached key was.0 was.1).0 in
    let has : HasBit q.marks key = omega (arith, bit, same.bits) in
    all-but slots (with_value slots key w) r q key
    (λ other differs. get_or-set_other slots.slots key other (Some w) None differs)
    (λ other differs. moves-set r q key listed same set other)
    (λ held is. is-marked q key held has (set bit))
    reached

pub moves-same : (r : Ready) (key : ℕ) → Moves r r key
moves-same r key = record { bits = omega arith; marks = λ has clear. clear; listed = λ end leads. leads }

-- a line needs no finding
pub is-line : (r : Ready) (key : ℕ) (held line : Held) → HasBit r.marks key → held ≡ line → ((end : EndId) → end_held line ≡ Some end → ⊥) → IsReached r key held
is-line r key held line has same none = (has, λ end is clear. absurd (none end (sym (ap end_held same) ∙ is)))

-- what is written under a key where something is held is there
pub written : (slots : Slab Held) (key : ℕ) (old new : Held) → get slots key ≡ Some old → get (with_value slots key new) key ≡ Some new
written slots key old new was =
    elim (cases_lt key (length slots.slots)) [
      | inl less ↦ get_or-set_same slots.slots key (Some new) None less
      | inr past ↦ absurd (none-some old (sym (get_or_past slots.slots key None past) ∙ was))
    ]

-- nothing is held any more
pub is-gone : (r : Ready) (key : ℕ) (slot : Option Held) → slot ≡ None → (held : Held) → slot ≡ Some held → IsReached r key held
is-gone r key slot gone held is = absurd cc

-- what is held after an asking was held before
was-held : (old new : Option Held) (before after : Count) (answer : Option Took) (held : Held) → IsSlotAsked old new before after answer → new ≡ Some held → (was : Held) × (old ≡ Some was)
was-held None new before after answer held came is = absurd (let gone : new ≡ None = came.0 in cc)
was-held (Some was) new before after answer held came is = (was, refl)

-- an end that was asked is marked
pub asked-marked : (old new : Slab Held) (r q : Ready) (key : ℕ) (before after : Count) (came : Served) → IsAskedAt old new key before after came → q.listed ≡ r.listed → SameBut key r.marks q.marks → (HasBit r.marks key → mark_of q.marks key ≡ 1) → AreReached old r → AreReached new q
asked-marked old new r q key before after came at listed same set reached =
    all-but old new r q key at.1.others
    (λ other differs. moves-set r q key listed same set other)
    (λ held is.
    let was = was-held (get old key) (get new key) before after at.0 held at.1.at is in
    let bit : HasBit r.marks key = (reached key was.0 was.1).0 in
    let has : HasBit q.marks key = omega (arith, bit, same.bits) in
    is-marked q key held has (set bit))
    reached

-- an end that was asked has no mark, where its number leads to it
pub asked-cleared : (old new : Slab Held) (r q : Ready) (key : ℕ) (before after : Count) (came : Served) → IsAskedAt old new key before after came → q.listed ≡ r.listed → SameBut key r.marks q.marks → IsListedAt r.listed.items key (get new key) → AreReached old r → AreReached new q
asked-cleared old new r q key before after came at listed same leads reached =
    all-but old new r q key at.1.others
    (moves-other r q key same (λ end other differs was. subst (λ l. LeadsTo l.items end other) (sym listed) was))
    (λ held is.
    let was = was-held (get old key) (get new key) before after at.0 held at.1.at is in
    let bit : HasBit r.marks key = (reached key was.0 was.1).0 in
    let has : HasBit q.marks key = omega (arith, bit, same.bits) in
    (has, λ end number clear. subst (λ l. LeadsTo l.items end key) (sym listed) (leads held end is number)))
    reached

-- the same is held, and the marks are as they were
pub marked-as : (old new : Slab Held) (r q : Ready) → SameValues old new → ((key : ℕ) → mark_of q.marks key ≡ mark_of r.marks key) → AreMarked old r new q
marked-as old new r q same marks key held end is number = inr (sym (same key) ∙ is, marks key)

-- all is as it was
pub kept_same : (ends : HeldEnds) → MarksKept ends ends
kept_same ends = record { marked = λ key held end is number. inr (is, refl); next = refl }

-- one step after another
pub kept_after : {old mid new : HeldEnds} → MarksKept old mid → MarksKept mid new → MarksKept old new
kept_after first second = record {
  marked = λ key held end is number.
      elim (second.marked key held end is number) [
        | inl marked ↦ inl marked
        | inr same ↦
            elim (first.marked key held end same.0 number) [
              | inl marked ↦ inl (same.1 ∙ marked)
              | inr was ↦ inr (was.0, same.1 ∙ was.1)
            ]
      ];
  next = second.next ∙ first.next;
}

-- under one key all may have changed
pub marked-but : (old new : Slab Held) (r q : Ready) (key : ℕ) → ((other : ℕ) → other ≢ key → get new other ≡ get old other) → SameBut key r.marks q.marks → ((held : Held) (end : EndId) → get new key ≡ Some held → end_held held ≡ Some end → mark_of q.marks key ≡ 1) → AreMarked old r new q
marked-but old new r q key others same here other held end is number =
    elim (cases_eq other key) [
      | inl at ↦ inl (subst (λ k. mark_of q.marks k ≡ 1) (sym at) (here held end (ap (get new) (sym at) ∙ is) number))
      | inr differs ↦ inr (sym (others other differs) ∙ is, same.others other differs)
    ]

-- what is changed under a key that is marked
pub marked-lent : (slots : Slab Held) (r q : Ready) (key : ℕ) (w : Held) → IsSome (get slots key) → SameBut key r.marks q.marks → (HasBit r.marks key → mark_of q.marks key ≡ 1) → AreReached slots r → AreMarked slots r (with_value slots key w) q
marked-lent slots r q key w some same set reached =
    let was = contained (get slots key) some in
    marked-but slots (with_value slots key w) r q key
    (λ other differs. get_or-set_other slots.slots key other (Some w) None differs)
    same
    (λ held end is number. set (reached key was.0 was.1).0)

pub same-marks : (key : ℕ) (marks : List ℕ) → SameBut key marks marks
same-marks key marks = record { bits = refl; words = λ word other. refl; others = λ other differs. refl }

-- there is more room, and what was marked and listed is
pub room-grown : (old new : Slab Held) (r q : Ready) → SameValues old new → GrowsMarks r.marks q.marks → SameEntries r.listed.items q.listed.items → AreReached old r → AreReached new q
room-grown old new r q same marks listed reached = grown new r q marks listed (same-held old new r same reached)

-- where nothing is held nothing is found
none-at : (old new : Option Held) (before after : Count) (answer : Option Took) → IsSlotAsked old new before after answer → old ≡ None → new ≡ None
none-at None new before after answer came none = came.0
none-at (Some held) new before after answer came none = absurd cc

none-asked : (old new : Slab Held) (key : ℕ) (before after : Count) (came : Served) → IsAskedAt old new key before after came → (other : ℕ) → get old other ≡ None → get new other ≡ None
none-asked old new key before after came at other none =
    elim (cases_eq other key) [
      | inl same ↦ ap (get new) same ∙ none-at (get old key) (get new key) before after at.0 at.1.at (ap (get old) (sym same) ∙ none)
      | inr differs ↦ at.1.others other differs ∙ none
    ]

none-all : (keys : List ℕ) (old new : Slab Held) (before after : Count) (busy : Bool) → AskedAll keys old new before after busy → (other : ℕ) → get old other ≡ None → get new other ≡ None
none-all [] old new before after busy asked other none = ap (λ s. get s other) asked.0 ∙ none
none-all (key ∷ keys) old new before after busy asked other none =
    none-asked asked.0 new key asked.1 after (Nothing asked.3) asked.5 other
    (none-all keys old asked.0 before asked.1 asked.2 asked.4 other none)

-- where nothing was held before the ends were asked nothing is held then
none-due : (kept : Option DeliveryState) (old new : HoldingState) (looks : List BoardStep) (before after : Count) (due : Result DeliveryState Bool) → IsDue kept old new looks before after due → (key : ℕ) → get old.ends.held key ≡ None → get new.ends.held key ≡ None
none-due (Some k) old new looks before after due is key none = ap (λ (holding : HoldingState). get holding.ends.held key) is.1 ∙ none
none-due None old new looks before after (Ok d) is key none =
    let gave = is.3.1 in
    none-asked gave.middle new.ends.held is.0 gave.count after (Given is.0 is.1) gave.given key
    (none-all is.3.0 old.ends.held gave.middle before gave.count gave.busy gave.earlier key none)
none-due None old new looks before after (Err busy) is key none =
    none-all is.0.0 old.ends.held new.ends.held before after busy is.0.1 key none

-- what a turn has adopted is marked
pub marked-due : (kept : Option DeliveryState) (old mid : HoldingState) (new : HeldEnds) (looks : List BoardStep) (before after : Count) (due : Result DeliveryState Bool) → IsDue kept old mid looks before after due → MarksKept mid.ends new → AreNewMarked old.ends new
marked-due kept old mid new looks before after due is marks key held end none there number =
    elim (marks.marked key held end there number) [
      | inl set ↦ set
      | inr same ↦ absurd (let gone = none-due kept old mid looks before after due is key none in cc (same.0, gone))
    ]

-- a turn that has adopted nothing
pub marked-none : (kept : Option DeliveryState) (old new : HoldingState) (looks : List BoardStep) (before after : Count) (due : Result DeliveryState Bool) → IsDue kept old new looks before after due → AreNewMarked old.ends new.ends
marked-none kept old new looks before after due is = marked-due kept old new new.ends looks before after due is (kept_same new.ends)
