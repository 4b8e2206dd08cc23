-- What the looks and the takes at one queue come to.
use Rattle.std.proofs.Common.{◌≡◌, ℕ, Bool, true, false, List, [], ◌++◌, refl, sym, ap, ◌∙◌, subst, append-nil}
use Rattle.std.specs.Prelude.{None}
use Rattle.hub_envelope.specs.declared.envelope.Envelope.{Envelope}
use Rattle.hub_core.specs.Sender.{by}
use Rattle.hub_gate.specs.GateSeats.{KeeperSeat}
use Rattle.hub_queue.specs.declared.store.TakeView.{TakeView}
use Rattle.hub_queue.specs.PassSteps.{got_more, IsPopped, AccountsFor}
use Rattle.hub_queue.specs.TakerQueues.{TakerQueueSeat, KnowsAll, KnowsBy, IsShut, SameGate, TakesThese, IsQueueSettled}
use Rattle.hub_queue.specs.Seats.{LineSeat}
use Rattle.hub_queue.specs.Settling.{after_look, IsSettling, IsQueuePop, got_all, IsEmptyHanded}

-- what a pass knows of its lines stays while envelopes are taken
pub knows_got : (b : Bool) (t : TakeView) (x : Envelope) → KnowsBy b t → KnowsBy b (got_more t x)
knows_got true t x knows = knows
knows_got false t x knows = knows

-- a pop takes in no pass
pub knows_pop : (b : Bool) (old new : TakeView) (x : Envelope) → (new ≡ got_more old x) × IsPopped old x → KnowsBy b old → KnowsBy b new
knows_pop b old new x did knows = subst (KnowsBy b) (sym did.0) (knows_got b old x knows)

-- the gate is shut after a look as before
pub shut_looked : (old new : TakerQueueSeat) (settled : Bool) → IsSettling old new settled → IsShut old → IsShut new
shut_looked old new true did shut = subst IsShut (sym did.2) shut
shut_looked old new false did shut = subst IsShut (sym did.1) shut

-- the gate of a queue whose keeper is this
gate_of : (old new : TakerQueueSeat) (keeper : KeeperSeat LineSeat) → new.keeper ≡ keeper → SameGate old (record { queue = old.queue; at = old.at; keeper = keeper }) → SameGate old new
gate_of old new keeper is same = record {
  gate = ap (λ (k : KeeperSeat LineSeat). k.gate) is ∙ same.gate;
  enables = ap (λ (k : KeeperSeat LineSeat). k.at.enables) is ∙ same.enables;
  retires = ap (λ (k : KeeperSeat LineSeat). k.at.retires) is ∙ same.retires;
  closes = ap (λ (k : KeeperSeat LineSeat). k.at.closes) is ∙ same.closes;
}

-- a look takes nothing
pub look_takes : (old new : TakerQueueSeat) → IsSettling old new true → TakesThese old new [] × (new.keeper.at.collected ≡ true) × KnowsAll new.at
look_takes old new did = (
  record {
    queue = ap (λ (p : TakerQueueSeat). p.queue) did.2;
    same_gate = gate_of old new (after_look old.keeper did.0 true) (ap (λ (p : TakerQueueSeat). p.keeper) did.2) (record { gate = refl; enables = refl; retires = refl; closes = refl });
    end = ap (λ (p : TakerQueueSeat). p.at.end) did.2;
    epoch = ap (λ (p : TakerQueueSeat). p.at.epoch) did.2;
    lines = ap (λ (p : TakerQueueSeat). p.at.lines) did.2;
    got = ap (λ (p : TakerQueueSeat). p.at.got) did.2 ∙ sym (append-nil old.at.got);
  },
  ap (λ (p : TakerQueueSeat). p.keeper.at.collected) did.2,
  did.3,
)

-- where all rights are in hand and the queue holds nothing, everything that was put was taken
pub is_settled : (p : TakerQueueSeat) → p.keeper.at.collected ≡ true → KnowsAll p.at → AccountsFor p.at [] → IsQueueSettled p
is_settled p collected knows nothing = record {
  collected = collected;
  each = λ line low.
      let known = knows line low in
      let all = nothing line known.0 known.1 in
      (known.0, known.1, known.2, ap (λ (l : ℕ). by l p.at.got) (sym known.2) ∙ ap (by known.0.line) (sym (append-nil p.at.got)) ∙ all);
}

-- a look that settles, and then a pop of none
pub leaves : (old mid new : TakerQueueSeat) → IsSettling old mid true → IsQueuePop mid new None → TakesThese old new [] × IsQueueSettled new
leaves old mid new after_look popped =
    let same : new ≡ mid = popped.0 ∙ (λ i. record { queue = mid.queue; at = popped.1.0 i; keeper = mid.keeper }) in
    let took = look_takes old mid after_look in
    subst (λ (p : TakerQueueSeat). TakesThese old p [] × IsQueueSettled p) (sym same) (took.0, is_settled mid took.1 took.2 popped.1.2)

-- a look that settles, and then all that the queue holds
module _ (old mid new : TakerQueueSeat) (more : List Envelope) (after_look : IsSettling old mid true) (did : new ≡ record { queue = mid.queue; at = got_all mid.at more; keeper = mid.keeper }) where
  pub takes_more : TakesThese old new more
  takes_more =
      let took = look_takes old mid after_look in subst (λ (p : TakerQueueSeat). TakesThese old p more) (sym did) (record {
        queue = took.0.queue;
        same_gate = record { gate = took.0.same_gate.gate; enables = took.0.same_gate.enables; retires = took.0.same_gate.retires; closes = took.0.same_gate.closes };
        end = took.0.end;
        epoch = took.0.epoch;
        lines = took.0.lines;
        got = ap (λ (l : List Envelope). l ++ more) (took.0.got ∙ append-nil old.at.got);
      })

  pub still_shut : IsShut old → IsShut new
  still_shut shut = subst IsShut (sym did) (shut_looked old mid true after_look shut)

  pub settled_now : IsEmptyHanded new.at → IsQueueSettled new
  settled_now nothing =
      let took = look_takes old mid after_look in
      is_settled new (ap (λ (p : TakerQueueSeat). p.keeper.at.collected) did ∙ took.1) (subst (λ (p : TakerQueueSeat). KnowsAll p.at) (sym did) took.2) nothing.1
