use Rattle.std.proofs.Common.{rules, sym, ◌∙◌, Some}
use Rattle.hub_gate.specs.GateSeats.{line_in}
use Rattle.hub_gate.proofs.Lines.{enters_at, told_in, in_front, entered_in}
use Rattle.hub_gate.proofs.entry.Entry.enter.Goals as goal

pub fetch_add-word-requires : goal.fetch_add-word-requires
fetch_add-word-requires g c = (search rules, search rules, enters_at g.T.Right.tag _ _ _ c.self.invariant.1)

pub exchange-requires : goal.exchange-requires
exchange-requires g c =
    let kept = c.self.invariant in
    let told = told_in g.T.Right.tag (line_in c.self.inside.seat.me.0) c.fetch_add-word.result c.fetch_add-word.new.seat.me c.fetch_add-word.ensures.2 (sym c.has_moved_flag.ensures.exactly ∙ c.if-has_moved_flag.false) (sym c.has_closed_flag.ensures.exactly ∙ c.if-has_closed_flag.false) in
    (search rules, (Some told.0, in_front _ _ _ _ _ told.4 kept.2))

pub returns : goal.returns
returns g c =
    let kept = c.self.invariant in
    let not_moved = sym c.has_moved_flag.ensures.exactly ∙ c.if-has_moved_flag.false in
    let not_closed = sym c.has_closed_flag.ensures.exactly ∙ c.if-has_closed_flag.false in
    let told = told_in g.T.Right.tag (line_in c.self.inside.seat.me.0) c.fetch_add-word.result c.fetch_add-word.new.seat.me c.fetch_add-word.ensures.2 not_moved not_closed in
    entered_in g.T.Right.tag _ _ c.exchange.new.seat.table_id (line_in c.self.inside.seat.me.0) c.fetch_add-word.result c.self.inside.line c.fetch_add-word.new.seat.me c.exchange.new.seat.me c.unwrap-right.result c.exchange.result c.self.view_is told not_moved not_closed c.exchange.ensures.2 c.unwrap-right.ensures c.exchange.ensures.3 (c.exchange.ensures.0 ∙ c.fetch_add-word.ensures.0)
