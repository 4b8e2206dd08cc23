use Rattle.std.proofs.Common.{rules, arith, ◌≡◌, sym, ap, ◌∙◌, length}
use Rattle.std.proofs.lemmas.List.{length-map}
use Rattle.hub_core.specs.GateMachine as machine
use Rattle.hub_gate.specs.GateSeats.{keeper_in}
use Rattle.hub_gate.proofs.Looking.{looks_at, told_rights, last_look}
use Rattle.hub_gate.proofs.Emptying.{none_out, ready, holds_values}
use Rattle.hub_gate.proofs.keeper.Keeper.look.Goals as goal

pub load-word-requires : goal.load-word-requires
load-word-requires g c = let kept = c.self.invariant in (search rules, search rules, looks_at g.T.Right.tag _ _ _ kept.2 (none_out _ _ _ _ _ kept.4))

pub collect_rights_from_slots-requires : goal.collect_rights_from_slots-requires
collect_rights_from_slots-requires g c =
    let kept = c.self.invariant in
    let fresh = ready _ _ _ _ _ _ (sym c.take.ensures.value ∙ c.unwrap-rights.ensures) kept.4 in
    let room = fresh.2 in
    let told = told_rights g.T.Right.tag (keeper_in c.self.inside.seat.me.0) c.self.inside.seat.me.1 c.load-word.result c.load-word.new.seat.me c.load-word.ensures.2 fresh.0 (sym c.has_moved_or_closed_flag.ensures ∙ c.if-not-has_moved_or_closed_flag.false) (sym c.inside_line_count-count.ensures.exactly ∙ omega arith) in
    let held = holds_values c.load-word.new.seat.me.1 told.1.0 (ap (λ m. m.1) told.1.3) in
    let slots : c.slot_count-lines.result ≡ length (keeper_in c.self.inside.seat.me.0).tags = c.slot_count-lines.ensures ∙ ap (λ t. t.shared.table_id.slots) c.deref-2.ensures ∙ sym (ap (λ z. z.slots) kept.0.1) ∙ kept.1 in
    record {
      here = search rules;
      held = held.0;
      room = (fresh.1, omega arith);
      count = slots ∙ sym (ap length told.1.2) ∙ length-map told.1.0 g.T.Right.tag ∙ sym (ap length held.1);
    }

pub returns : goal.returns
returns g c =
    let kept = c.self.invariant in
    let fresh = ready _ _ _ _ _ _ (sym c.take.ensures.value ∙ c.unwrap-rights.ensures) kept.4 in
    let none : machine.count_in c.load-word.result ≡ 0 = sym c.inside_line_count-count.ensures.exactly ∙ omega arith in
    let told = told_rights g.T.Right.tag (keeper_in c.self.inside.seat.me.0) c.self.inside.seat.me.1 c.load-word.result c.load-word.new.seat.me c.load-word.ensures.2 fresh.0 (sym c.has_moved_or_closed_flag.ensures ∙ c.if-not-has_moved_or_closed_flag.false) none in
    let held = holds_values c.load-word.new.seat.me.1 told.1.0 (ap (λ m. m.1) told.1.3) in
    last_look g.T.Right.tag _ _ c.self.inside.seat.table_id (keeper_in c.self.inside.seat.me.0) c.load-word.result _ told.1.0 c.self.view_is fresh.0 told.0 none told.1.1 told.1.2 (c.collect_rights_from_slots.ensures.taken ∙ held.1)
    (λ i. record { gate = (c.collect_rights_from_slots.ensures.stays.0 ∙ c.load-word.ensures.0) i; at = (ap keeper_in (c.collect_rights_from_slots.ensures.stays.1 ∙ ap (λ m. m.0) told.1.3)) i })
