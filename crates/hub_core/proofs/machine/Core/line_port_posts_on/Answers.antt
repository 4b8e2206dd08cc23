use Rattle.std.proofs.Common.{ℕ, ap, option_map, sym, ◌∙◌}
use Rattle.hub_core.specs.Made.{peer_of}
use Rattle.hub_core.specs.Shows.{end_now}
use Rattle.hub_core.specs.declared.step.Sender.{Sender}
use Rattle.hub_core.proofs.machine.Core.line_port_posts_on.Goals as goal

pub returns : goal.returns
returns c = λ h s.
    let first : ℕ → Sender = λ q. record { end = record { 0 = q }; line = record { 0 = 0 } } in
    ap (option_map first) (c.in_ok-end.ensures ∙ sym (ap (λ n. peer_of n.kind) ((s.0.end c.args.port.0).same ∙ ap end_now c.in_ok-end_at.ensures)))
