use Rattle.hub_loop.specs.Ending.{closing_ends}
use Rattle.hub_loop.proofs.Endings.{behind-twice}
use Rattle.hub_loop.proofs.sweeping.Shutdown.finish.Goals as goal

pub returns-in_err-close_and_find_more_ports-clause-further : goal.returns-in_err-close_and_find_more_ports-clause-further
returns-in_err-close_and_find_more_ports-clause-further g c =
    let old = c.args.self.now in
    let self = c.loop.self in
    let closed = c.close_and_find_more_ports.new.self in
    behind-twice (closing_ends old) (closing_ends self) (closing_ends closed) old.noticed self.noticed closed.noticed c.loop.invariant.2 c.close_and_find_more_ports.ensures.further

pub returns-then-not-branch-clause-further : goal.returns-then-not-branch-clause-further
returns-then-not-branch-clause-further g c =
    let old = c.args.self.now in
    let self = c.loop.self in
    let closed = c.close_and_find_more_ports.new.self in
    behind-twice (closing_ends old) (closing_ends self) (closing_ends closed) old.noticed self.noticed closed.noticed c.loop.invariant.2 c.close_and_find_more_ports.ensures.further

pub loop-preserved : goal.loop-preserved
loop-preserved g c =
    let old = c.args.self.now in
    let self = c.loop.self in
    let closed = c.close_and_find_more_ports.new.self in
    let behind = behind-twice (closing_ends old) (closing_ends self) (closing_ends closed) old.noticed self.noticed closed.noticed c.loop.invariant.2 c.close_and_find_more_ports.ensures.further in
    (tt, tt, behind)
