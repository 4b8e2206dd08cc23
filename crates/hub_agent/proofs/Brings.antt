-- How many ends of a number a loop holds behind each of its calls.
use Rattle.std.proofs.Common.{◌≡◌, ◌≢◌, ◌∙◌, ◌≤◌, ℕ, zero, suc, ◌+◌, ◌==◌, Bool, true, false, if◌then◌else◌, cond, List, [], ◌∷◌, Option, Some, None, Result, Ok, Err, IfOk, count_by, ap, sym, refl, subst, inl, inr, ⊎_elim, arith}
use Rattle.std.proofs.lemmas.Bool.{cases_eq}
use Rattle.slab.specs.Slab.{Slab, SameValues, get}
use Rattle.hub_envelope.specs.declared.envelope.Envelope.{Envelope}
use Rattle.hub_envelope.specs.declared.ids.EndId.{EndId}
use Rattle.hub_logging.specs.Notes.{IsLoggable, Notes, found, not_missing}
use Rattle.hub_loop.specs.Adopting.{AreAdopted, HoldsMore, IsOneAdopted}
use Rattle.hub_loop.specs.Asking.{IsAsked, IsHeldAsked, Leaves}
use Rattle.hub_loop.specs.Delivering.{IsLookedForIn}
use Rattle.hub_loop.specs.Ending.{is_held}
use Rattle.hub_loop.specs.Holding.{seat_of, with_seat}
use Rattle.hub_loop.specs.Serving.{AskedAll, HasGiven, IsSlotAsked, IsTakenAtKey}
use Rattle.hub_loop.specs.States.{DeliveryState, HoldingState, ReceivingState}
use Rattle.hub_loop.specs.Turning.{IsDue, IsTurn, TurnState}
use Rattle.hub_loop.specs.declared.held.Held.{Held}
use Rattle.hub_loop.specs.declared.held.Held.TheVariants.{Port, Client, Worker, Member, Line}
use Rattle.hub_loop.specs.declared.error.LoopError.{LoopError}
use Rattle.hub_loop.specs.declared.handler.Turn.{Turn}
use Rattle.hub_loop.specs.declared.handler.Turn.TheVariants.{Delivered, Idle, Ending}
use Rattle.hub_ports.specs.Seats.{PortSeat, end_of, ends_of}
use Rattle.hub_queue.specs.Counting.{Count}
use Rattle.hub_queue.specs.Taking.{IsTaken, TakerSeat}
use Rattle.hub_queue.specs.declared.taker.Took.{Took}
use Rattle.hub_queue.specs.declared.taker.Took.TheVariants.{Got, Empty, Busy, Again, Disabled, Closed}
use Rattle.hub_agent.specs.Agents.{AgentState}
use Rattle.hub_agent.specs.Owning.{TurnBrings, times}
use Rattle.hub_agent.proofs.Listed.{found_times, listed_once, split_times, times_cons, times_one}
use Rattle.hub_agent.proofs.Owns.{times_both}
use Rattle.hub_agent.proofs.Slots.{count_agree, count_more}
use Rattle.hub_agent.proofs.Turns.{leaves, refuses}

-- how many ends of this number are held
abbrev pub held_in : Slab Held → ℕ → ℕ
held_in held e = count_by (is_held e) held.slots

-- A take leaves the number of its end.
taken_end : (s t : TakerSeat) (before after : Count) (took : Took) → IsTaken s t before after took → t.end ≡ s.end
taken_end s t before after (Got v) taken = ⊎_elim (λ (newest : _). ap (λ (u : TakerSeat). u.end) newest.2) (λ (retired : _). ap (λ (u : TakerSeat). u.end) retired.0) taken.1
taken_end s t before after Empty taken = ⊎_elim (λ (newest : _). ap (λ (u : TakerSeat). u.end) newest.2) (λ (retired : _). ap (λ (u : TakerSeat). u.end) retired.0) taken.1
taken_end s t before after Busy taken = ⊎_elim (λ (newest : _). ap (λ (u : TakerSeat). u.end) newest.2) (λ (retired : _). ap (λ (u : TakerSeat). u.end) retired.0) taken.1
taken_end s t before after Again taken = ⊎_elim (λ (newest : _). ap (λ (u : TakerSeat). u.end) newest.2) (λ (retired : _). ap (λ (u : TakerSeat). u.end) retired.0) taken.1
taken_end s t before after Closed taken = ⊎_elim (λ (newest : _). ap (λ (u : TakerSeat). u.end) newest.2) (λ (retired : _). ap (λ (u : TakerSeat). u.end) retired.0) taken.1
taken_end s t before after Disabled taken = ap (λ (u : TakerSeat). u.end) taken.1

leaving_end : (n : ℕ) (s t : TakerSeat) (before after : Count) → Leaves n s t before after → t.end ≡ s.end
leaving_end zero s t before after left = ap (λ (u : TakerSeat). u.end) left.0
leaving_end (suc n) s t before after left = taken_end left.0 t left.1 after Again left.3 ∙ leaving_end n s left.0 before left.1 left.2

asked_end : (s t : TakerSeat) (before after : Count) (took : Took) → IsAsked s t before after took → t.end ≡ s.end
asked_end s t before after took asked = taken_end asked.at t asked.count after took asked.taken ∙ leaving_end asked.queues s asked.at before asked.count asked.left

abbrev seat_end : Option TakerSeat → ℕ
seat_end None = 0
seat_end (Some t) = t.end

seated : (e : ℕ) (old : Held) (s t : TakerSeat) → seat_of old ≡ Some s → t.end ≡ s.end → is_held e (Some (with_seat old t)) ≡ is_held e (Some old)
seated e (Port p) s t was same = ap (λ n. n == e) (same ∙ sym (ap seat_end was))
seated e (Client c) s t was same = ap (λ n. n == e) (same ∙ sym (ap seat_end was))
seated e (Worker w) s t was same = ap (λ n. n == e) (same ∙ sym (ap seat_end was))
seated e (Member m) s t was same = ap (λ n. n == e) (same ∙ sym (ap seat_end was))
seated e (Line l) s t was same = absurd cc

held_same : (e : ℕ) (old new : Held) (before after : Count) (answer : Option Took) → IsHeldAsked old new before after answer → is_held e (Some new) ≡ is_held e (Some old)
held_same e old new before after None asked = ap (λ (h : Held). is_held e (Some h)) asked.1
held_same e old new before after (Some took) (s, t, was, is, asked) =
    ap (λ (h : Held). is_held e (Some h)) is ∙ seated e old s t was (asked_end s t before after took asked)

slot_same : (e : ℕ) (old new : Option Held) (before after : Count) (answer : Option Took) → IsSlotAsked old new before after answer → is_held e new ≡ is_held e old
slot_same e None new before after answer at = ap (is_held e) at.0
slot_same e (Some held) new before after answer (left, is, asked) = ap (is_held e) is ∙ held_same e held left before after answer asked

-- Nothing changes under the other keys.
pub count_at : (e : ℕ) (old new : Slab Held) (key : ℕ) → is_held e (get new key) ≡ is_held e (get old key) → ((other : ℕ) → other ≢ key → get new other ≡ get old other) → held_in new e ≡ held_in old e
count_at e old new key here others =
    count_agree (is_held e) refl old.slots new.slots (λ k.
    ⊎_elim (λ is. subst (λ j. is_held e (get new j) ≡ is_held e (get old j)) (sym is) here) (λ differs. ap (is_held e) (others k differs)) (cases_eq k key))

pub count_same : (e : ℕ) (old new : Slab Held) → SameValues old new → held_in new e ≡ held_in old e
count_same e old new same = count_agree (is_held e) refl old.slots new.slots (λ k. ap (is_held e) (same k))

pub count_held : (e : ℕ) (old new : Slab Held) (h : Held) → HoldsMore old new h → held_in new e ≡ held_in old e + cond (is_held e (Some h)) 1 0
count_held e old new h (key, none, updates) = count_more (is_held e) refl key old.slots new.slots h none updates.changed updates.others

asked_count : (e : ℕ) (old new : Slab Held) (key : ℕ) (before after : Count) (answer : Option Took) → IsTakenAtKey old new key before after answer → held_in new e ≡ held_in old e
asked_count e old new key before after answer at =
    count_at e old new key (slot_same e (get old key) (get new key) before after answer at.at) at.others

all_count : (e : ℕ) (keys : List ℕ) (old new : Slab Held) (before after : Count) (busy : Bool) → AskedAll keys old new before after busy → held_in new e ≡ held_in old e
all_count e [] old new before after busy asked = ap (λ (s : Slab Held). held_in s e) asked.0
all_count e (key ∷ earlier) old new before after busy (middle, count, was, here, first, last, is) =
    asked_count e middle new key count after last.0 last.1 ∙ all_count e earlier old middle before count was first

given_count : (e key : ℕ) (v : Envelope) (keys : List ℕ) (old new : Slab Held) (before after : Count) → HasGiven keys old new before after key v → held_in new e ≡ held_in old e
given_count e key v keys old new before after given =
    asked_count e given.middle new key given.count after given.given.0 given.given.1 ∙ all_count e keys old given.middle before given.count given.busy given.earlier

-- One port is adopted and held, or it is missing.
one_adopted : (e : ℕ) (p : PortSeat) (old new : HoldingState) (before after : List EndId) → IsOneAdopted p old new before after
    → held_in new.ends.held e + times e after ≡ held_in old.ends.held e + times e before + cond (p.taker.end == e) 1 0
one_adopted e p old new before after (inl (q, received, more, closed, same)) =
    let grown = count_held e old.ends.held new.ends.held (Port q) more in
    let end : q.taker.end ≡ p.taker.end = ap (λ (t : TakerSeat). t.end) received.0.0.new_is in
    let here : ◌≡◌ {A = ℕ} (cond (q.taker.end == e) 1 0) (cond (p.taker.end == e) 1 0) = ap (λ n. cond {A = ℕ} (n == e) 1 0) end in
    let none = ap (times e) same in
    omega (arith, grown, here, none)
one_adopted e p old new before after (inr (error, unfit, received, same, buried, is)) =
    let held = count_same e old.ends.held new.ends.held same in
    let missing = ap (times e) is ∙ times_both e before (end_of p ∷ []) in
    let one = times_one e (end_of p) in
    omega (arith, held, missing, one)

all_adopted : (e : ℕ) (ps : List PortSeat) (old new : HoldingState) (before after : List EndId) → AreAdopted ps old new before after
    → held_in new.ends.held e + times e after ≡ held_in old.ends.held e + times e before + times e (ends_of ps)
all_adopted e [] old new before after (same, is) =
    let held = count_same e old.ends.held new.ends.held same.held in
    let missing = ap (times e) is in
    omega (arith, held, missing)
all_adopted e (p ∷ ps) old new before after (middle, between, one, rest) =
    let first = one_adopted e p old middle before between one in
    let behind = all_adopted e ps middle new between after rest in
    let both = times_cons e (end_of p) (ends_of ps) in
    omega (arith, first, behind, both)

-- Of an envelope that a log can hold, what was adopted is what is to be logged.
notice_step : (e : ℕ) (ports missing : List EndId) (is_notice : Bool) → times e ports ≤ 1 → (is_notice ≡ true → ports ≡ []) → times e ports ≤ times e (if is_notice then [] else not_missing missing ports) + times e missing
notice_step e ports missing true once none = let no_ports = ap (times e) (none refl) in omega (arith, no_ports)
notice_step e ports missing false once none = found_times e missing ports once

to_be_logged : (e : ℕ) (v : Envelope) (missing : List EndId) → IsLoggable v → times e v.ports ≤ times e (found missing v) + times e missing
to_be_logged e v missing (listed, none) = notice_step e v.ports missing v.notice (listed_once e v.ports listed) none

-- what a turn leaves, where it is no error and no delivery was kept
abbrev pub Brought : Turn → HoldingState → HoldingState → Notes → Type 0
Brought Delivered old new left = (e : ℕ) → held_in new.ends.held e ≤ held_in old.ends.held e + times e left.adopted
Brought (Idle busy) old new left = (e : ℕ) → held_in new.ends.held e ≤ held_in old.ends.held e
Brought Ending old new left = (e : ℕ) → held_in new.ends.held e ≤ held_in old.ends.held e

brought_none : (given left : TurnState Notes) (looks : _) (turn : Turn) → given.kept ≡ None → IsTurn {E = LoopError} leaves refuses given left looks (Ok turn) → (left.kept ≡ None) × Brought turn given.holding left.holding left.handler
brought_none given left looks Ending first t =
    (ap (λ (s : TurnState Notes). s.kept) t.0 ∙ first, λ e. let same = ap (λ (s : TurnState Notes). held_in s.holding.ends.held e) t.0 in omega (arith, same))
brought_none given left looks (Idle busy) first t =
    let due = subst (λ k. IsDue k given.holding left.holding looks given.pops left.pops (Err busy)) first t.0 in
    (t.1, λ e. let same = all_count e due.0.0 given.holding.ends.held left.holding.ends.held given.pops left.pops busy due.0.1 in omega (arith, same))
brought_none given left looks Delivered first (d, f, middle, taken_up, (r, missing, looked, adopted, said), none, next) = (
  none,
  λ e.
      let (key, v, is, served, due, mark, same) = subst (λ k. IsDue k given.holding middle looks given.pops left.pops (Ok d)) first taken_up in
      let taken = given_count e key v served.0 given.holding.ends.held middle.ends.held given.pops left.pops served.1 in
      let parts = subst (λ (a : Option ReceivingState). IsLookedForIn a d.envelope r) (ap (λ (x : DeliveryState). x.arrival) is) looked in
      let split = split_times e d.envelope.ports (ends_of r.found) r.missing parts in
      let all = all_adopted e r.found _ _ r.missing missing adopted in
      let logged = to_be_logged e d.envelope missing said.1 in
      let kept = ap (λ (n : Notes). times e n.adopted) said.0 in
      omega (arith, taken, all, split, logged, kept),
)

-- no more is held than before
no_more : (e : ℕ) (old new : HoldingState) (was now : AgentState) → was.ends ≡ old.ends.held → now.ends ≡ new.ends.held → held_in new.ends.held e ≤ held_in old.ends.held e → held_in now.ends e ≤ held_in was.ends e
no_more e old new was now held_was held_now fewer =
    let a = ap (λ s. held_in s e) held_was in
    let b = ap (λ s. held_in s e) held_now in
    omega (arith, a, b, fewer)

-- What a turn leaves of a loop is what the agent has then.
brought : (turn : Turn) (old new : HoldingState) (keeps : Option DeliveryState) (left : Notes) (was now : AgentState) → (was.kept ≡ None → (keeps ≡ None) × Brought turn old new left) → was.ends ≡ old.ends.held → now.ends ≡ new.ends.held → now.kept ≡ keeps → now.notes ≡ left → TurnBrings turn was now
brought Delivered old new keeps left was now gives held_was held_now kept_now notes = λ none.
    let (gone, came) = gives none in (
      kept_now ∙ gone,
      λ e.
          let a = ap (λ s. held_in s e) held_was in
          let b = ap (λ s. held_in s e) held_now in
          let c = came e in
          let d = ap (λ (n : Notes). times e n.adopted) notes in
          omega (arith, a, b, c, d),
    )
brought (Idle busy) old new keeps left was now gives held_was held_now kept_now notes = λ none.
    let (gone, came) = gives none in
    (kept_now ∙ gone, λ e. no_more e old new was now held_was held_now (came e))
brought Ending old new keeps left was now gives held_was held_now kept_now notes = λ none.
    let (gone, came) = gives none in
    (kept_now ∙ gone, λ e. no_more e old new was now held_was held_now (came e))

-- what a turn brings, where it is no error
pub turn_brings : (given left : TurnState Notes) (looks : _) (result : Result Turn LoopError) (was now : AgentState)
    → IsTurn leaves refuses given left looks result → was.ends ≡ given.holding.ends.held → was.kept ≡ given.kept → now.ends ≡ left.holding.ends.held → now.kept ≡ left.kept → now.notes ≡ left.handler → IfOk result (λ turn. TurnBrings turn was now)
turn_brings given left looks (Ok turn) was now t held_was kept_was held_now kept_now notes =
    brought turn given.holding left.holding left.kept left.handler was now (λ (none : was.kept ≡ None). brought_none given left looks turn (sym kept_was ∙ none) t) held_was held_now kept_now notes
turn_brings given left looks (Err error) was now t held_was kept_was held_now kept_now notes = tt
