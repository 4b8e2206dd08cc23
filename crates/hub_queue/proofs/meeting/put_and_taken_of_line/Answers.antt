use Rattle.std.proofs.Common.{arith, ◌<◌, ◌++◌, ap, sym, ◌∙◌, length}
use Rattle.hub_core.specs.Sender.{by}
use Rattle.hub_queue.specs.Seats.{put_view, take_in}
use Rattle.hub_queue.proofs.Lending.{lends_at, joins_at, gives_back_at, are_joined, compared}
use Rattle.hub_queue.proofs.Rule.{learns}
use Rattle.hub_queue.proofs.meeting.put_and_taken_of_line.Goals as goal

pub another-lent-requires-clause-rule : goal.another-lent-requires-clause-rule
another-lent-requires-clause-rule g c = lends_at _ _ _ c.right.invariant.1

pub absorb-requires-clause-rule : goal.absorb-requires-clause-rule
absorb-requires-clause-rule g c = joins_at _ _ _ _ _ _ c.queue.invariant.1 (c.another-lent.ensures.rule.1 ∙ c.right.invariant.1)

pub len_as-requires-clause-rule : goal.len_as-requires-clause-rule
len_as-requires-clause-rule g c = learns _ _

pub another-requires-clause-rule : goal.another-requires-clause-rule
another-requires-clause-rule g c =
    let both = are_joined _ _ (take_in c.queue.inside.pass.me.view.client) (put_view c.right.inside.pass.me.view.client) c.queue.invariant.1 (c.another-lent.ensures.rule.1 ∙ c.right.invariant.1) in
    gives_back_at _ _ (take_in c.queue.inside.pass.me.view.client) (put_view c.right.inside.pass.me.view.client) (c.len_as.ensures.queue.2 ∙ c.absorb.ensures.rule ∙ both)

pub bounds-queue-inside-line : goal.bounds-queue-inside-line
bounds-queue-inside-line g c =
    let both = are_joined _ _ (take_in c.queue.inside.pass.me.view.client) (put_view c.right.inside.pass.me.view.client) c.queue.invariant.1 (c.another-lent.ensures.rule.1 ∙ c.right.invariant.1) in
    let low = (compared _ (take_in c.queue.inside.pass.me.view.client) (put_view c.right.inside.pass.me.view.client) _ (c.absorb.ensures.rule ∙ both) c.len_as.ensures.rule).0 in
    let few = c.queue.invariant.2.few in
    let line = c.requires.line ∙ sym (ap (λ r. r.at.line) c.right.view_is) in
    omega arith

pub returns-clause-prefix : goal.returns-clause-prefix
returns-clause-prefix g c =
    let both = are_joined _ _ (take_in c.queue.inside.pass.me.view.client) (put_view c.right.inside.pass.me.view.client) c.queue.invariant.1 (c.another-lent.ensures.rule.1 ∙ c.right.invariant.1) in
    let front = (compared _ (take_in c.queue.inside.pass.me.view.client) (put_view c.right.inside.pass.me.view.client) _ (c.absorb.ensures.rule ∙ both) c.len_as.ensures.rule).1 in
    (front.0, ap (λ r. r.at.put) (sym c.right.view_is) ∙ front.1 ∙ (λ i. by ((c.right.view_is i).at.line) ((c.queue.view_is i).at.got) ++ front.0))

pub returns-clause-got : goal.returns-clause-got
returns-clause-got g c =
    let both = are_joined _ _ (take_in c.queue.inside.pass.me.view.client) (put_view c.right.inside.pass.me.view.client) c.queue.invariant.1 (c.another-lent.ensures.rule.1 ∙ c.right.invariant.1) in
    let low = (compared _ (take_in c.queue.inside.pass.me.view.client) (put_view c.right.inside.pass.me.view.client) _ (c.absorb.ensures.rule ∙ both) c.len_as.ensures.rule).0 in
    let few = c.queue.invariant.2.few in
    let line = c.requires.line ∙ sym (ap (λ r. r.at.line) c.right.view_is) in
    let within : c.args.line.0 < 32 = omega arith in
    c.queue.invariant.3 c.args.line.0 within ∙ (λ i. length (by (c.requires.line i) ((c.queue.view_is i).at.got)))
