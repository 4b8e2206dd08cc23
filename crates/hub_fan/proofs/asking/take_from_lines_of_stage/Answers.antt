use Rattle.std.proofs.Common.{◌≡◌, ◌∙◌, ◌<◌, ◌+◌, ℕ, sym, ap, subst, length, arith, ⊎_elim}
use Rattle.std.proofs.lemmas.Bool.{cases_lt}
use Rattle.hub_fan.specs.Fans.{AskedWhere}
use Rattle.hub_fan.specs.Turns.{turn_stage}
use Rattle.hub_fan.proofs.Asked.{asked_more, asked_same}
use Rattle.hub_fan.proofs.asking.take_from_lines_of_stage.Goals as goal
use Rattle.hub_fan.proofs.asking.take_from_lines_of_stage.Goals.{then-stage_of_line-stage+in-Empty, else-stage_of_line-stage}

pub loop-line-preserved : goal.loop-line-preserved
loop-line-preserved g c =
    let line = c.loop-line.line in
    let stage : ℕ → ℕ = turn_stage c.args.next c.args.ready in
    let so_far : ℕ → ℕ → Type 0 = λ k j. (stage j ≡ c.args.stage) × (j < k) in
    let low : line < length c.loop-line.lines = omega (arith, c.loop-line-test.true, c.line_range_of_stage-from.ensures.within, c.loop-line.auto.lines) in
    elim c.if-stage_of_line-stage.branch [
      | then-stage_of_line-stage+in-Empty w ↦
          subst (λ ls. AskedWhere (so_far (line + 1)) c.args.lines.now ls) (sym w.lines-is)
          (asked_more (so_far line) (so_far (line + 1)) c.args.lines.now c.loop-line.lines line w.index-lines-line.result w.take_from.new.place low w.in-Empty.ensures
          (λ p. let less = p.1 in absurd (omega (arith, less)))
          (sym c.stage_of_line.ensures ∙ w.if-stage_of_line-stage.true, omega arith)
          (λ j other p. let less = p.1 in (p.0, omega (arith, less)))
          (λ j other p. let less = p.1 in (p.0, omega (arith, less, other)))
          c.loop-line.invariant)
      | else-stage_of_line-stage w ↦
          subst (λ ls. AskedWhere (so_far (line + 1)) c.args.lines.now ls) (sym w.lines-is)
          (asked_same (so_far line) (so_far (line + 1)) c.args.lines.now c.loop-line.lines
          (λ j within p. let less = p.1 in (p.0, omega (arith, less)))
          (λ j within p. let less = p.1 in ⊎_elim
          (λ below. (p.0, below))
          (λ above. let same : line ≡ j = omega (arith, less, above) in absurd (w.if-stage_of_line-stage.false (c.stage_of_line.ensures ∙ (ap stage same ∙ p.0))))
          (cases_lt j line))
          c.loop-line.invariant)
    ]
