use Rattle.std.proofs.Common.{[], ◌∷◌, ◌++◌, Ok, subst}
use Rattle.hub_loop.specs.Looping.{TurnsOnce}
use Rattle.hub_loop.specs.declared.handler.Turn.{Turn}
use Rattle.hub_loop.proofs.Runs.{turned_more}
use Rattle.hub_loop.proofs.event_loop.EventLoop.run_counting_pops.Goals as goal

pub returns-in-Err-clause-ran : goal.returns-in-Err-clause-ran
returns-in-Err-clause-ran g c =
    let kept = c.loop.invariant.2 in
    (kept.0, c.loop.self, kept.1, (c.loop.steps, c.turn.new.steps, c.turn.ensures.looked, c.in-Err.ensures.turn))

pub returns-in-Ok-Ending-clause-ran : goal.returns-in-Ok-Ending-clause-ran
returns-in-Ok-Ending-clause-ran g c =
    let kept = c.loop.invariant.2 in (
      kept.0,
      c.loop.self,
      kept.1,
      subst (λ (turn : Turn). TurnsOnce g.H.Handler.leaves g.H.Handler.refuses c.loop.self c.turn.new.self (Ok turn)) c.in-Ok-Ending.field-0-is
          (c.loop.steps, c.turn.new.steps, c.turn.ensures.looked, c.in-Ok-Ending.ensures.turn),
    )

pub loop-preserved : goal.loop-preserved
loop-preserved g c =
    let kept = c.loop.invariant.2 in (
      tt,
      tt,
      (
        kept.0 ++ c.in-Ok.turn ∷ [],
        turned_more g.H.Handler.leaves g.H.Handler.refuses kept.0 c.in-Ok.turn c.args.self.now c.loop.self c.turn.new.self c.sleep_or_yield_after_turn.new.self kept.1
            (c.loop.steps, c.turn.new.steps, c.turn.ensures.looked, c.in-Ok.ensures.turn) (c.sleep_or_yield_after_turn.ensures.rests, c.sleep_or_yield_after_turn.ensures.same),
      ),
    )
