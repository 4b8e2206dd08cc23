use Rattle.std.proofs.Common.{inl, subst}
use Rattle.hub_loop.specs.Adopting.{IsFetched, KeepsFetched, SameStored}
use Rattle.hub_loop.specs.States.{holding_of}
use Rattle.std.specs.Prelude.{false}
use Rattle.hub_loop.proofs.Delivers.{fetched, fetched-kept, fetched-same, stored-same}
use Rattle.hub_loop.proofs.Endings.{on-err}
use Rattle.hub_loop.proofs.event_loop.EventLoop.fetch.Goals as goal

pub returns-in_err-reserve-clause-err : goal.returns-in_err-reserve-clause-err
returns-in_err-reserve-clause-err g c =
    let held = c.self.inside.holding in
    on-err c.from_residual.result (subst (λ l. SameStored l.holding (holding_of held)) c.self.view_is (stored-same (holding_of held)))

pub returns-in_err-reserve-clause-kept : goal.returns-in_err-reserve-clause-kept
returns-in_err-reserve-clause-kept g c =
    let new = c.reserve.new.self.items in
    on-err c.from_residual.result (subst (λ l. KeepsFetched c.args.end l.fetched new) c.self.view_is (fetched-same c.self.inside.fetched.items new c.args.end c.reserve.ensures.items))

pub returns-in_default-clause-ok : goal.returns-in_default-clause-ok
returns-in_default-clause-ok g c =
    let held = c.self.inside.holding in
    subst (λ l. IsFetched false l.holding (holding_of held) c.args.end) c.self.view_is (inl (stored-same (holding_of held)))

pub returns-in-Ok-clause-ok : goal.returns-in-Ok-clause-ok
returns-in-Ok-clause-ok g c =
    let old = c.self.inside.holding in
    let new = c.adopt_queue.new.self in
    let is_held = c.in-Ok.is_held in
    subst (λ l. IsFetched is_held l.holding (holding_of new) c.args.end) c.self.view_is
    (fetched is_held c.in-Some.queue (holding_of old) (holding_of new) c.args.end c.in-Some.ensures.queue c.in-Ok.ensures.ok)

pub returns-in-Err-clause-kept : goal.returns-in-Err-clause-kept
returns-in-Err-clause-kept g c =
    let new = c.push_reserved.new.self.items in
    let some = c.in-Some.ensures in
    subst (λ l. KeepsFetched c.args.end l.fetched new) c.self.view_is
    (fetched-kept c.in-Some.queue c.in-Err.queue c.self.inside.fetched.items c.reserve.new.self.items c.take_or_fetch_queue.new.fetched.items new c.args.end
    c.reserve.ensures.items some.queue some.taken c.in-Err.ensures.back c.push_reserved.ensures.items)
