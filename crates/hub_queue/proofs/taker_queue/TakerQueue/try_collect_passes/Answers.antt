use Rattle.std.proofs.Common.{rules, ◌≡◌, ap, sym, ◌∙◌, subst, true}
use Rattle.std.specs.Prelude.{length}
use Rattle.hub_core.specs.Sender.{by}
use Rattle.hub_queue.specs.declared.store.PassView.TheVariants.{Takes}
use Rattle.hub_queue.specs.TakerQueues.{tags_of, KnowsAll, KnowsBy}
use Rattle.hub_queue.specs.Seats.{take_in}
use Rattle.hub_queue.specs.Settling.{after_look, knowing}
use Rattle.hub_queue.proofs.Rights.{tags_by_count, tags_stay, knows_all}
use Rattle.hub_queue.proofs.taker_queue.TakerQueue.try_collect_passes.Goals as goal

pub absorb_passes_of_lines-requires-clause-rights : goal.absorb_passes_of_lines-requires-clause-rights
absorb_passes_of_lines-requires-clause-rights c =
    let kept = c.self.invariant in
    tags_by_count _ _ _ _ kept.2 c.in-Rights.ensures.tags ∙ (λ i. tags_of (sym c.deref.ensures i).queue.web (length c.in-Rights.rights.items))

pub returns-in-Rights : goal.returns-in-Rights
returns-in-Rights c =
    let kept = c.self.invariant in
    let at : take_in c.absorb_passes_of_lines.new.pass.me.view.client ≡ knowing (take_in c.self.inside.pass.me.view.client) c.in-Rights.rights.items = ap take_in c.absorb_passes_of_lines.ensures.taker in (
      c.in-Rights.ensures.word,
      c.in-Rights.rights.items,
      λ i. record { queue = (c.self.view_is i).queue; at = (at ∙ (λ j. knowing ((c.self.view_is j).at) c.in-Rights.rights.items)) i; keeper = (c.in-Rights.ensures.keeper ∙ (λ j. after_look ((c.self.view_is j).keeper) c.in-Rights.ensures.word true)) i },
      subst KnowsAll (sym at) (knows_all _ (take_in c.self.inside.pass.me.view.client) _ (c.in-Rights.ensures.tags ∙ kept.2.tags)),
    )

pub invariant_of-self : goal.invariant_of-self
invariant_of-self c =
    let kept = c.self.invariant in
    let keeper = c.in-Rights.ensures.keeper in
    let at : take_in c.absorb_passes_of_lines.new.pass.me.view.client ≡ knowing (take_in c.self.inside.pass.me.view.client) c.in-Rights.rights.items = ap take_in c.absorb_passes_of_lines.ensures.taker in (
      search rules,
      c.absorb_passes_of_lines.ensures.taker ∙ ap Takes (sym at),
      tags_stay _ _ _ _ _ (ap (λ t. t.lines) at) (ap (λ k. k.at.tags) keeper) kept.2,
      λ line low. kept.3 line low ∙ ap (λ t. length (by line t.got)) (sym at),
      subst (λ b. KnowsBy b (take_in c.absorb_passes_of_lines.new.pass.me.view.client)) (sym (ap (λ k. k.at.collected) keeper)) (subst KnowsAll (sym at) (knows_all _ (take_in c.self.inside.pass.me.view.client) _ (c.in-Rights.ensures.tags ∙ kept.2.tags))),
    )
