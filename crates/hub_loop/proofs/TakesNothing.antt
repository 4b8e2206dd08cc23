-- Of the ends that give no envelope nothing is taken.
use Rattle.std.proofs.Common.{◌≡◌, ◌≢◌, ℕ, zero, suc, ◌+◌, Bool, List, [], ◌∷◌, ◌++◌, map, refl, sym, ap, ◌∙◌, subst, ⊎_elim, arith, append_assoc, length-append, Option, Some, None}
use Rattle.std.specs.Prelude.{Result, Ok, Err}
use Rattle.slab.specs.Slab.{Slab, get}
use Rattle.hub_envelope.specs.declared.envelope.Envelope.{Envelope}
use Rattle.hub_envelope.specs.declared.ids.EndId.{EndId}
use Rattle.hub_bell.specs.declared.board.BoardStep.{BoardStep}
use Rattle.hub_ports.specs.Seats.{PortSeat}
use Rattle.hub_queue.specs.declared.taker.Took.{Took}
use Rattle.hub_queue.specs.declared.taker.Took.TheVariants.{Got, Empty, Busy, Again, Disabled, Closed}
use Rattle.hub_queue.specs.Counting.{Count}
use Rattle.hub_queue.specs.Taking.{TakerSeat, IsTaken}
use Rattle.hub_loop.specs.Adopting.{IsOneAdopted, AreAdopted}
use Rattle.hub_loop.specs.Asking.{Leaves, IsAsked, IsHeldAsked}
use Rattle.hub_loop.specs.Delivering.{IsDelivered}
use Rattle.hub_loop.specs.Holding.{seat_of, with_seat}
use Rattle.hub_loop.specs.Serving.{served_by, IsSlotAsked, IsAskedAt, AskedAll, HasGiven}
use Rattle.hub_loop.specs.Turning.{got_of, TookNothing, SeatTookNothing, HeldTookNothing, SlotTookNothing, TookNothingBut, Gave, IsDue, IsTurn, TurnState}
use Rattle.hub_loop.specs.declared.held.Held.{Held}
use Rattle.hub_loop.specs.States.{DeliveryState, HoldingState}
use Rattle.hub_loop.specs.declared.serving.Served.TheVariants.{Given, Nothing}
use Rattle.hub_loop.specs.declared.handler.Turn.{Turn}
use Rattle.hub_loop.specs.declared.handler.Turn.TheVariants.{Delivered, Idle, Ending}
use Rattle.hub_loop.proofs.Asks.{seat-with, with-twice, with-own}
use Rattle.std.proofs.lemmas.Bool.{cases_eq}

-- a taker that is as it was took nothing
took-none : (s : TakerSeat) → TookNothing s s
took-none s = record { end = refl; left = []; retired = refl; newest = refl; epoch = omega arith }

-- it took nothing, and then nothing
took-twice : (s t u : TakerSeat) → TookNothing s t → TookNothing t u → TookNothing s u
took-twice s t u first second = record {
  end = second.end ∙ first.end;
  left = first.left ++ second.left;
  retired = first.retired ∙ ap (λ ps. first.left ++ ps) second.retired ∙ sym (append_assoc first.left second.left (map got_of u.retired));
  newest = second.newest ∙ first.newest;
  epoch = let both = length-append first.left second.left in omega (arith, first.epoch, second.epoch, both);
}

-- a queue was left
took-again : (s t : TakerSeat) (before after : Count) → IsTaken s t before after Again → TookNothing s t
took-again s t before after taken =
    ⊎_elim
    (λ (newest : _). absurd newest.3)
    (λ (retired : _). record {
      end = ap (λ u. u.end) retired.0;
      left = got_of retired.1.0 ∷ [];
      retired = ap (map got_of) retired.1.3 ∙ ap (λ ps. got_of retired.1.0 ∷ map got_of ps) (sym retired.1.4);
      newest = ap (λ u. got_of u.newest) retired.0;
      epoch = ap (λ u. u.epoch) retired.0;
    })
    taken.1

-- somebody was found inside the oldest queue
took-busy : (s t : TakerSeat) (before after : Count) → IsTaken s t before after Busy → TookNothing s t
took-busy s t before after taken =
    ⊎_elim
    (λ (newest : _). absurd newest.3)
    (λ (retired : _). record {
      end = ap (λ u. u.end) retired.0;
      left = [];
      retired = ap (map got_of) retired.1.3
          ∙ ap (λ got. got ∷ map got_of retired.1.2) (sym (ap (λ at. at.got) retired.1.5.0.at))
          ∙ ap (map got_of) (sym retired.1.4);
      newest = ap (λ u. got_of u.newest) retired.0;
      epoch = ap (λ u. u.epoch) retired.0 ∙ omega arith;
    })
    taken.1

-- the newest queue held nothing
took-empty : (s t : TakerSeat) (before after : Count) → IsTaken s t before after Empty → TookNothing s t
took-empty s t before after taken =
    ⊎_elim
    (λ (newest : _). record {
      end = ap (λ u. u.end) newest.2;
      left = [];
      retired = ap (map got_of) newest.1 ∙ sym (ap (λ u. map got_of u.retired) newest.2);
      newest = ap (λ u. got_of u.newest) newest.2 ∙ ap got_of newest.3.0;
      epoch = ap (λ u. u.epoch) newest.2 ∙ omega arith;
    })
    (λ (retired : _). absurd retired.1.5)
    taken.1

-- an answer that gives no envelope
took-answer : (key : ℕ) (s t : TakerSeat) (before after : Count) (took : Took) (busy : Bool) → IsTaken s t before after took → Nothing busy ≡ served_by key (Some took) → TookNothing s t
took-answer key s t before after (Got v) busy taken none = absurd cc
took-answer key s t before after Empty busy taken none = took-empty s t before after taken
took-answer key s t before after Busy busy taken none = took-busy s t before after taken
took-answer key s t before after Again busy taken none = took-again s t before after taken
took-answer key s t before after Disabled busy taken none = subst (TookNothing s) (sym taken.1) (took-none s)
took-answer key s t before after Closed busy taken none = ⊎_elim (λ (newest : _). absurd newest.3) (λ (retired : _). absurd retired.1.5) taken.1

-- so many queues were left
took-leaving : (n : ℕ) (s t : TakerSeat) (before after : Count) → Leaves n s t before after → TookNothing s t
took-leaving zero s t before after left = subst (TookNothing s) (sym left.0) (took-none s)
took-leaving (suc n) s t before after left =
    took-twice s left.0 t (took-leaving n s left.0 before left.1 left.2) (took-again left.0 t left.1 after left.3)

-- an end that was asked and gave no envelope
took-asked : (key : ℕ) (s t : TakerSeat) (before after : Count) (took : Took) (busy : Bool) → IsAsked s t before after took → Nothing busy ≡ served_by key (Some took) → TookNothing s t
took-asked key s t before after took busy came none =
    took-twice s came.at t (took-leaving came.queues s came.at before came.count came.left) (took-answer key came.at t came.count after took busy came.taken none)

held-asked : (key : ℕ) (old new : Held) (before after : Count) (answer : Option Took) (busy : Bool) → IsHeldAsked old new before after answer → Nothing busy ≡ served_by key answer → HeldTookNothing old new
held-asked key old new before after None busy came none = subst (λ o. SeatTookNothing o old new) (sym came.0) came.1
held-asked key old new before after (Some took) busy came none =
    subst (λ o. SeatTookNothing o old new) (sym came.2) (came.1, came.3, took-asked key came.0 came.1 before after took busy came.4 none)

slot-asked : (key : ℕ) (old new : Option Held) (before after : Count) (answer : Option Took) (busy : Bool) → IsSlotAsked old new before after answer → Nothing busy ≡ served_by key answer → SlotTookNothing old new
slot-asked key None new before after answer busy came none = tt
slot-asked key (Some h) new before after answer busy came none = (came.0, came.1, held-asked key h came.0 before after answer busy came.2 none)

-- what is held is as it was
held-same : (o : Option TakerSeat) (h : Held) → seat_of h ≡ o → SeatTookNothing o h h
held-same None h is = refl
held-same (Some s) h is = (s, with-own h s is, took-none s)

slot-same : (old new : Option Held) → new ≡ old → SlotTookNothing old new
slot-same None new same = tt
slot-same (Some h) new same = (h, same, held-same (seat_of h) h refl)

-- of what is held nothing was taken, and then nothing
held-twice : (o : Option TakerSeat) (a b c : Held) → seat_of a ≡ o → SeatTookNothing o a b → HeldTookNothing b c → SeatTookNothing o a c
held-twice None a b c is first second =
    let here : seat_of b ≡ None = ap seat_of first ∙ is in
    let then : c ≡ b = subst (λ o. SeatTookNothing o b c) here second in
    then ∙ first
held-twice (Some s) a b c is first second =
    let t = first.0 in
    let here : seat_of b ≡ Some t = ap seat_of first.1 ∙ seat-with a s t is in
    let then : SeatTookNothing (Some t) b c = subst (λ o. SeatTookNothing o b c) here second in (
      then.0,
      then.1 ∙ ap (λ h. with_seat h then.0) first.1 ∙ with-twice a t then.0,
      took-twice s t then.0 first.2 then.2,
    )

slot-twice : (a b c : Option Held) → SlotTookNothing a b → SlotTookNothing b c → SlotTookNothing a c
slot-twice None b c first second = tt
slot-twice (Some h) b c first second =
    let then : SlotTookNothing (Some first.0) c = subst (λ o. SlotTookNothing o c) first.1 second in
    (then.0, then.1, held-twice (seat_of h) h first.0 then.0 refl first.2 then.2)

-- what was held is held unchanged
slot-kept : (a b c : Option Held) → SlotTookNothing a b → ((h : Held) → b ≡ Some h → c ≡ Some h) → SlotTookNothing a c
slot-kept None b c first kept = tt
slot-kept (Some h) b c first kept = (first.0, kept first.0 first.1, first.2)

-- under one key an end was asked, and under the others all is as it was
others-asked : (old new : Slab Held) (key : ℕ) (before after : Count) (came : _) → IsAskedAt old new key before after came → (other : ℕ) → other ≢ key → SlotTookNothing (get old other) (get new other)
others-asked old new key before after came at other differs = slot-same (get old other) (get new other) (at.1.others other differs)

all-asked : (old new : Slab Held) (key : ℕ) (before after : Count) (busy : Bool) → IsAskedAt old new key before after (Nothing busy) → (other : ℕ) → SlotTookNothing (get old other) (get new other)
all-asked old new key before after busy at other =
    ⊎_elim
    (λ same. subst (λ k. SlotTookNothing (get old k) (get new k)) (sym same) (slot-asked key (get old key) (get new key) before after at.0 busy at.1.at at.2))
    (λ differs. others-asked old new key before after (Nothing busy) at other differs)
    (cases_eq other key)

all-asked-none : (keys : List ℕ) (old new : Slab Held) (before after : Count) (busy : Bool) → AskedAll keys old new before after busy → (other : ℕ) → SlotTookNothing (get old other) (get new other)
all-asked-none [] old new before after busy gave other = slot-same (get old other) (get new other) (ap (λ s. get s other) gave.0)
all-asked-none (key ∷ keys) old new before after busy gave other =
    slot-twice (get old other) (get gave.0 other) (get new other)
    (all-asked-none keys old gave.0 before gave.1 gave.2 gave.4 other)
    (all-asked gave.0 new key gave.1 after gave.3 gave.5 other)

-- of the ends under the other keys nothing was taken
others-given : (keys : List ℕ) (key : ℕ) (v : Envelope) (old new : Slab Held) (before after : Count) → HasGiven keys old new before after key v → (other : ℕ) → other ≢ key → SlotTookNothing (get old other) (get new other)
others-given keys key v old new before after given other differs =
    slot-twice (get old other) (get given.middle other) (get new other)
    (all-asked-none keys old given.middle before given.count given.busy given.earlier other)
    (others-asked given.middle new key given.count after (Given key v) given.given other differs)

-- what was held before ports were adopted is held afterwards
one-kept : (p : PortSeat) (old new : HoldingState) (before after : List EndId) (key : ℕ) (h : Held) → IsOneAdopted p old new before after → get old.ends.held key ≡ Some h → get new.ends.held key ≡ Some h
one-kept p old new before after key h one there =
    ⊎_elim
    (λ (held : _).
    let more = held.2 in
    let differs : key ≢ more.0 = λ same. let none : get old.ends.held key ≡ None = ap (get old.ends.held) same ∙ more.1 in absurd cc in
    more.2.others key differs ∙ there)
    (λ (unfit : _). unfit.3 key ∙ there)
    one

adopted-kept : (ps : List PortSeat) (old new : HoldingState) (before after : List EndId) (key : ℕ) (h : Held) → AreAdopted ps old new before after → get old.ends.held key ≡ Some h → get new.ends.held key ≡ Some h
adopted-kept [] old new before after key h did there = did.0.held key ∙ there
adopted-kept (p ∷ ps) old new before after key h did there =
    adopted-kept ps did.0 new did.1 after key h did.3 (one-kept p old did.0 before did.1 key h did.2 there)

-- of the ends under the other keys nothing was taken before the delivery
others-due : (kept : Option DeliveryState) (old new : HoldingState) (looks : List BoardStep) (before after : Count) (d : DeliveryState) (key : ℕ) → IsDue kept old new looks before after (Ok d) → (kept ≡ None → new.ends.next ≡ key + 1 → ⊥) → SlotTookNothing (get old.ends.held key) (get new.ends.held key)
others-due (Some k) old new looks before after d key due gave = slot-same (get old.ends.held key) (get new.ends.held key) (ap (λ holding. get holding.ends.held key) due.1)
others-due None old new looks before after d key due gave =
    let served = due.3 in
    others-given served.0 due.0 due.1 old.ends.held new.ends.held before after served.1 key
    (λ same. gave refl (due.4 ∙ ap (λ k. k + 1) (sym same)))

-- of no end anything was taken where nothing is due
pub all-due : (kept : Option DeliveryState) (old new : HoldingState) (looks : List BoardStep) (before after : Count) (busy : Bool) (key : ℕ) → IsDue kept old new looks before after (Err busy) → SlotTookNothing (get old.ends.held key) (get new.ends.held key)
all-due (Some k) old new looks before after busy key due = slot-same (get old.ends.held key) (get new.ends.held key) (ap (λ holding. get holding.ends.held key) due.1)
all-due None old new looks before after busy key due =
    let served = due.0 in
    all-asked-none served.0 old.ends.held new.ends.held before after busy served.1 key

module _ {H E : Type 0} (leaves refuses : H → Envelope → List EndId → H → Type 0) where
  delivered-kept : (d e : DeliveryState) (before after : HoldingState) (h left : H) (result : Result (Unit {0}) E) → IsDelivered {E = E} leaves refuses d e before after h left result → (key : ℕ) (held : Held) → get before.ends.held key ≡ Some held → get after.ends.held key ≡ Some held
  delivered-kept d e before after h left (Ok done) did key held there = adopted-kept did.0.found before after did.0.missing did.1 key held did.3 there
  delivered-kept d e before after h left (Err error) did key held there =
      ⊎_elim
      (λ (none : _). ap (λ (s : HoldingState). get s.ends.held key) none.2 ∙ there)
      (λ (partly : _). adopted-kept partly.2 before after partly.0.missing partly.1.missing key held partly.5.1 there)
      did.1

  -- a turn takes of no end but the one that gave its envelope
  pub others-turn : (given left : TurnState H) (looks : List BoardStep) (result : Result Turn E) → IsTurn leaves refuses given left looks result → TookNothingBut (Gave given.kept left.holding.ends.next result) given.holding.ends.held left.holding.ends.held
  others-turn given left looks (Ok Ending) turn key gave = slot-same (get given.holding.ends.held key) (get left.holding.ends.held key) (ap (λ (t : TurnState H). get t.holding.ends.held key) turn.0)
  others-turn given left looks (Ok (Idle busy)) turn key gave = all-due given.kept given.holding left.holding looks given.pops left.pops busy key turn.0
  others-turn given left looks (Ok Delivered) turn key gave =
      slot-kept (get given.holding.ends.held key) (get turn.2.ends.held key) (get left.holding.ends.held key)
      (others-due given.kept given.holding turn.2 looks given.pops left.pops turn.0 key turn.3 (λ is behind. gave (subst (λ k. Gave {E = E} k left.holding.ends.next (Ok Delivered) key) (sym is) (turn.6 ∙ behind))))
      (λ held there. delivered-kept turn.0 turn.1 turn.2 left.holding given.handler left.handler (Ok tt) turn.4 key held there)
  others-turn given left looks (Err error) turn key gave =
      slot-kept (get given.holding.ends.held key) (get turn.2.ends.held key) (get left.holding.ends.held key)
      (others-due given.kept given.holding turn.2 looks given.pops left.pops turn.0 key turn.3 (λ is behind. gave (subst (λ k. Gave k left.holding.ends.next (Err error) key) (sym is) (turn.6 ∙ behind))))
      (λ held there. delivered-kept turn.0 turn.1 turn.2 left.holding given.handler left.handler (Err error) turn.4 key held there)
