use Rattle.std.proofs.Common.{◌≡◌, ◌∙◌, None, Option, ap, subst, sym}
use Rattle.std.specs.Prelude.{IfOk}
use Rattle.hub_loop.specs.Ending.{closing_ends, still_open}
use Rattle.hub_loop.specs.Looping.{HasEnded}
use Rattle.hub_loop.specs.Noticing.{AreEnded}
use Rattle.hub_loop.specs.States.{ClosingState, closed_of, holding_of}
use Rattle.hub_loop.proofs.Endings.{ended-begun, on-err-then, same-loop}
use Rattle.hub_loop.proofs.event_loop.EventLoop.close_all_or_resume_closing.Goals as goal

pub returns-in-Some-clause-ok : goal.returns-in-Some-clause-ok
returns-in-Some-clause-ok g c =
    let old = c.args.self.now in
    let is = sym (ap (λ l. l.closing) c.self.view_is) ∙ sym c.take.ensures.value ∙ c.in-Some.is in
    ended-begun c.in-Some.closing old.holding.closed.graves (still_open old.holding.ends.held old.fetched old.kept) old.holding.closed.noticed old.closing is

pub returns-clause-err : goal.returns-clause-err
returns-clause-err g c =
    let from = c.self.inside in
    let none = sym c.take.ensures.value ∙ c.in_default.is in
    on-err-then c.close_all.result c.close_all.ensures.err
    (λ same. same-loop (record {
      order = from.order;
      listener = from.listener;
      handler = from.handler;
      holding = holding_of from.holding;
      kept = from.kept;
      fetched = from.fetched.items;
      closing = from.closing;
    }) (holding_of c.close_all.new.self) c.close_all.new.kept c.close_all.new.fetched.items c.take.new.self same.0 same.2 same.1 (c.take.ensures.after ∙ sym none)
    ∙ c.self.view_is)

pub returns-clause-ok : goal.returns-clause-ok
returns-clause-ok g c =
    let from = c.self.inside in
    let none : from.closing ≡ None = sym c.take.ensures.value ∙ c.in_default.is in
    let before = closed_of from.holding.closed in
    let all = still_open from.holding.ends.held from.fetched.items from.kept in
    subst (λ l. IfOk c.close_all.result (λ closing. HasEnded l (closing_ends closing) closing.noticed)) c.self.view_is
    (subst (λ (o : Option ClosingState). IfOk c.close_all.result (λ closing. AreEnded o before.graves all (closing_ends closing) before.noticed closing.noticed)) (sym none) c.close_all.ensures.ok)
