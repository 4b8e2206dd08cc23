use Rattle.std.proofs.Common.{◌≡◌, ◌∙◌, ◌<◌, Some, sym, ap, subst, length, slice_get, arith}
use Rattle.hub_fan.proofs.Written.{pushed_beside, pushed_here, written_beside, written_here}
use Rattle.hub_fan.proofs.fan.put_line_in_place.Goals as goal

pub returns-then-line-len-clause-here : goal.returns-then-line-len-clause-here
returns-then-line-len-clause-here g c = written_here c.args.lines.now.items c.args.line (Some c.args.taker) (omega (arith, c.if-line-len.true, c.len.ensures))

pub returns-then-line-len-clause-beside : goal.returns-then-line-len-clause-beside
returns-then-line-len-clause-beside g c = λ j other. written_beside c.args.lines.now.items c.args.line j (Some c.args.taker) other

pub returns-in_ok-push-clause-here : goal.returns-in_ok-push-clause-here
returns-in_ok-push-clause-here g c =
    let last : c.args.line ≡ length c.args.lines.now.items = omega (arith, c.if-line-len.false, c.len.ensures, c.requires) in
    ap (λ xs. slice_get xs c.args.line) c.in_ok-push.ensures.items ∙ (ap (slice_get _) last ∙ pushed_here c.args.lines.now.items (Some c.args.taker))

pub returns-in_ok-push-clause-beside : goal.returns-in_ok-push-clause-beside
returns-in_ok-push-clause-beside g c = λ j other.
    let last : c.args.line ≡ length c.args.lines.now.items = omega (arith, c.if-line-len.false, c.len.ensures, c.requires) in
    ap (λ xs. slice_get xs j) c.in_ok-push.ensures.items ∙ pushed_beside c.args.lines.now.items (Some c.args.taker) j (λ e. other (e ∙ sym last))
