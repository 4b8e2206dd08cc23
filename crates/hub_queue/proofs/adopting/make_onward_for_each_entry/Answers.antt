use Rattle.std.proofs.Common.{arith, refl, ◌≡◌, ◌<◌, ◌+◌, ◌++◌, ◌∷◌, [], length, ap, sym, ◌∙◌, length-append}
use Rattle.hub_bell.specs.Seats.{BoardSeat}
use Rattle.hub_gate.proofs.Filling.{popped_last}
use Rattle.hub_core.proofs.Items.{some_is}
use Rattle.hub_queue.specs.Mailboxes.{stands_at}
use Rattle.hub_queue.proofs.Seating.{entry_at, many_entries, next_is, stands_more, stand_holds}
use Rattle.std.specs.Prelude.{slice_get}
use Rattle.hub_queue.proofs.adopting.make_onward_for_each_entry.Goals as goal

pub overflow_cast-name : goal.overflow_cast-name
overflow_cast-name c =
    let many = many_entries _ _ _ _ _ c.requires.open in
    let count = c.loop-line.invariant.count in
    omega arith

pub invariant_of-stand : goal.invariant_of-stand
invariant_of-stand c =
    let kept = c.loop-line.invariant in
    let last = popped_last _ _ _ _ c.pop.ensures.items c.unwrap-entry.ensures in
    let next = next_is c.args.entries.items kept.split.0 c.loop-line.entries.items c.pop.new.self.items c.unwrap-entry.result kept.split.1 last in
    let count = kept.count in
    let longer = ap length last in
    let low : c.loop-line.line < length c.args.entries.items = omega (arith, length-append c.pop.new.self.items (c.unwrap-entry.result ∷ [])) in
    (refl, (stand_holds _ _ _ _ _ _ _ _ c.requires.moves (ap (λ (b : BoardSeat). b.at) c.in_ok-bell.ensures.cases) (some_is _ _ (sym next.1 ∙ ap (slice_get c.args.entries.items) kept.split.2 ∙ entry_at _ _ _ _ _ c.requires.open c.loop-line.line low))).0)

pub invariant_of-push : goal.invariant_of-push
invariant_of-push c =
    let kept = c.loop-line.invariant in
    let last = popped_last _ _ _ _ c.pop.ensures.items c.unwrap-entry.ensures in
    let next = next_is c.args.entries.items kept.split.0 c.loop-line.entries.items c.pop.new.self.items c.unwrap-entry.result kept.split.1 last in
    let count = kept.count in
    let longer = ap length last in
    let low : c.loop-line.line < length c.args.entries.items = omega (arith, length-append c.pop.new.self.items (c.unwrap-entry.result ∷ [])) in
    (stand_holds _ _ _ _ _ _ _ _ c.requires.moves (ap (λ (b : BoardSeat). b.at) c.in_ok-bell.ensures.cases) (some_is _ _ (sym next.1 ∙ ap (slice_get c.args.entries.items) kept.split.2 ∙ entry_at _ _ _ _ _ c.requires.open c.loop-line.line low))).1

pub loop-line-preserved : goal.loop-line-preserved
loop-line-preserved c =
    let kept = c.loop-line.invariant in
    let last = popped_last _ _ _ _ c.pop.ensures.items c.unwrap-entry.ensures in
    let next = next_is c.args.entries.items kept.split.0 c.loop-line.entries.items c.pop.new.self.items c.unwrap-entry.result kept.split.1 last in
    let count = kept.count in
    let longer = ap length last in
    let low : c.loop-line.line < length c.args.entries.items = omega (arith, length-append c.pop.new.self.items (c.unwrap-entry.result ∷ [])) in
    let entry_is = some_is _ _ (sym next.1 ∙ ap (slice_get c.args.entries.items) kept.split.2 ∙ entry_at _ _ _ _ _ c.requires.open c.loop-line.line low) in
    record {
      count = omega (arith, length-append c.pop.new.self.items (c.unwrap-entry.result ∷ []));
      split = (kept.split.0 ++ c.unwrap-entry.result ∷ [], next.0, length-append kept.split.0 (c.unwrap-entry.result ∷ []) ∙ ap (λ n. n + 1) kept.split.2);
      onwards = c.in_ok-push.ensures.items ∙ (λ i. kept.onwards i ++ record { name = record { end = c.args.end; epoch = c.args.epoch; line = record { 0 = c.loop-line.line } }; entry = entry_is i; rung = (c.in_ok-bell.ensures.cases i).at; left = c.none-left.ensures i } ∷ []) ∙ sym (stands_more c.args.queue.now.keeper.gate c.args.queue.now.queue c.args.end c.args.epoch c.loop-line.line);
    }

pub returns : goal.returns
returns c =
    let many = many_entries _ _ _ _ _ c.requires.open in
    let count = c.loop-line.invariant.count in
    let at_end : c.loop-line.line ≡ c.args.queue.now.at.lines = omega arith in
    c.loop-line.invariant.onwards ∙ ap (stands_at c.args.queue.now.keeper.gate c.args.queue.now.queue c.args.end c.args.epoch) at_end
