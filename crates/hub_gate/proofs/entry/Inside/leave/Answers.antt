use Rattle.std.proofs.Common.{rules, sym, ap, subst, ◌∙◌, ◌≡◌}
use Rattle.hub_gate.specs.GateSeats.{InsideSeat}
use Rattle.hub_gate.specs.declared.view.LineView.{LineView}
use Rattle.hub_gate.proofs.Lines.{leaves_at, holding, let_out}
use Rattle.hub_gate.proofs.entry.Inside.leave.Goals as goal

pub fetch_sub-word-requires : goal.fetch_sub-word-requires
fetch_sub-word-requires g c =
    let kept = c.self.invariant in
    let held = holding c.self.inside.seat.me c.exchange.new.seat.me c.self.inside.line c.self.inside.right kept.1 kept.2 c.exchange.ensures.3 in
    let tagged = subst (λ (v : InsideSeat g.row.T.Denot). g.T.Right.tag v.right ≡ v.at.tag) (sym c.self.view_is) c.requires in
    (search rules, search rules, leaves_at g.T.Right.tag _ _ c.exchange.new.seat.me c.self.inside.right held.0 (tagged ∙ ap (λ (v : LineView g.row.T.Denot). v.tag) (sym held.1)))

pub invariant_of-result : goal.invariant_of-result
invariant_of-result g c =
    let kept = c.self.invariant in
    let held = holding c.self.inside.seat.me c.exchange.new.seat.me c.self.inside.line c.self.inside.right kept.1 kept.2 c.exchange.ensures.3 in
    let out = let_out g.T.Right.tag _ _ _ c.self.inside.seat.me c.exchange.new.seat.me c.fetch_sub-word.new.seat.me c.self.inside.right c.fetch_sub-word.result c.has_enabled_flag.result c.self.view_is (ap (λ m. m.1) held.0) held.1 c.fetch_sub-word.ensures.2 c.has_enabled_flag.ensures.exactly (c.fetch_sub-word.ensures.0 ∙ c.exchange.ensures.0) in
    (search rules, out.0, kept.2 ∙ sym out.1)

pub returns : goal.returns
returns g c =
    let kept = c.self.invariant in
    let held = holding c.self.inside.seat.me c.exchange.new.seat.me c.self.inside.line c.self.inside.right kept.1 kept.2 c.exchange.ensures.3 in
    let out = let_out g.T.Right.tag _ _ _ c.self.inside.seat.me c.exchange.new.seat.me c.fetch_sub-word.new.seat.me c.self.inside.right c.fetch_sub-word.result c.has_enabled_flag.result c.self.view_is (ap (λ m. m.1) held.0) held.1 c.fetch_sub-word.ensures.2 c.has_enabled_flag.ensures.exactly (c.fetch_sub-word.ensures.0 ∙ c.exchange.ensures.0) in
    record { entry = out.2; step = out.3 }
