use Rattle.std.proofs.Common.{arith, ◌<◌, length, sym, subst}
use Rattle.hub_envelope.specs.declared.limits.TheConstants.{MAX_PUT}
use Rattle.hub_queue.specs.Seats.{LineSeat, IsNameOf, put_view}
use Rattle.hub_queue.proofs.Rule.{puts_at}
use Rattle.hub_queue.proofs.line_right.LineRight.put.Goals as goal

pub push_as-requires-clause-rule : goal.push_as-requires-clause-rule
push_as-requires-clause-rule g c = λ n.
    let kept = c.self.invariant in
    let name = subst (λ (r : LineSeat). IsNameOf r.at c.args.name) (sym c.self.view_is) c.requires.name in
    let room : length (put_view c.self.inside.pass.me.view.client).put < MAX_PUT = omega arith in
    puts_at n _ _ _ _ kept.1 name.end name.epoch name.line kept.2 room
