use Rattle.std.proofs.Common.{rules, arith, ◌≡◌, ◌+◌, ◌++◌, ◌∷◌, [], length, ap, ◌∙◌, sym, length-append}
use Rattle.hub_gate.specs.GateSeats.{keeper_in}
use Rattle.hub_gate.proofs.Opening.{cuts_at, line_seat, line_cut_off, keeper_cut_off, first_more}
use Rattle.hub_gate.proofs.Filling.{popped_last, popped_len}
use Rattle.hub_gate.proofs.Got.{same_parts}
use Rattle.hub_gate.proofs.gate.make_entry_per_line.Goals as goal

pub split_seat-own-requires : goal.split_seat-own-requires
split_seat-own-requires g c =
    let last : c.loop-line.shares.items ≡ c.pop.new.self.items ++ c.unwrap-share.result ∷ [] = popped_last _ _ _ _ c.pop.ensures.items c.unwrap-share.ensures in
    let many : length c.loop-line.shares.items ≡ length c.pop.new.self.items + 1 = popped_len _ _ _ last in
    (search rules, search rules, cuts_at g.T.Right.tag _ _ _ (ap (λ m. m.0) c.loop-line.invariant.1) (omega arith))

pub invariant_of-push_reserved : goal.invariant_of-push_reserved
invariant_of-push_reserved g c =
    let last : c.loop-line.shares.items ≡ c.pop.new.self.items ++ c.unwrap-share.result ∷ [] = popped_last _ _ _ _ c.pop.ensures.items c.unwrap-share.ensures in
    let kept = c.loop-line.invariant in
    let same = (same_parts _ _ _ _ (rw last at kept.3)).1 in
    let seat = line_seat _ _ (line_cut_off _ _ _ (ap (λ m. m.0) kept.1) c.split_seat-own.ensures.4) in
    ((rw same c.requires.table.0, c.split_seat-own.ensures.3 ∙ kept.0 ∙ c.requires.table.1 ∙ sym (ap (λ t. t.shared.table_id) same)), seat.0, sym (ap (λ v. v.line) seat.1))

pub loop-line-preserved : goal.loop-line-preserved
loop-line-preserved g c =
    let last : c.loop-line.shares.items ≡ c.pop.new.self.items ++ c.unwrap-share.result ∷ [] = popped_last _ _ _ _ c.pop.ensures.items c.unwrap-share.ensures in
    let many : length c.loop-line.shares.items ≡ length c.pop.new.self.items + 1 = popped_len _ _ _ last in
    let kept = c.loop-line.invariant in
    let seat = line_seat _ _ (line_cut_off _ _ _ (ap (λ m. m.0) kept.1) c.split_seat-own.ensures.4) in (
      search rules,
      keeper_cut_off _ _ _ _ (ap (λ m. m.0) kept.1) c.split_seat-own.ensures.2 (ap (λ m. m.1) kept.1),
      omega arith,
      (same_parts _ _ _ _ (rw last at kept.3)).0,
      c.push_reserved.ensures.items ∙ (λ i. kept.4 i ++ record { gate = (c.split_seat-own.ensures.3 ∙ kept.0) i; at = seat.1 i } ∷ []) ∙ sym (first_more c.args.seat.now.table_id (keeper_in c.args.seat.now.me.0).tags (keeper_in c.args.seat.now.me.0).rights c.loop-line.line),
      ap length c.push_reserved.ensures.items ∙ length-append c.loop-line.entries.items _ ∙ ap (λ n. n + 1) kept.5,
      search rules,
    )
