use Rattle.std.proofs.Common.{◌<◌, ◌≤◌, ◌∙◌, length, subst, sym, arith}
use Rattle.hub_core.specs.declared.step.Listing.TheVariants.{Good, HoldsTarget, Bad}
use Rattle.hub_core.specs.declared.step.Outcome.TheVariants as outcome
use Rattle.hub_steps.specs.declared.shown.Shown.TheVariants.{Answer, Doomed}
use Rattle.hub_steps.specs.Performed.{ComputesAt}
use Rattle.hub_steps.specs.Unfolding.{send, post}
use Rattle.hub_steps.proofs.Computing.{if_ok, given, post_long, post_listed, doomed}
use Rattle.hub_steps.proofs.posting.post_message.Goals as goal

pub returns-then-listed-gt-MAX_PORTS : goal.returns-then-listed-gt-MAX_PORTS
returns-then-listed-gt-MAX_PORTS c =
    let ports = c.args.ports in
    let many : 16 < length ports = subst (λ ps. 16 < length ps) c.as_slice-listed.ensures (omega arith) in
    post_long c.args.core.now c.args.memory_refused ports c.args.body c.args.sender c.may_post_on_line.result c.may_post_on_line.ensures c.if-not-may_post_on_line.false many

pub returns-in-Good : goal.returns-in-Good
returns-in-Good c =
    let refused = c.args.memory_refused in
    let ports = c.args.ports in
    let few : length ports ≤ 16 = subst (λ ps. length ps ≤ 16) c.as_slice-listed.ensures (omega arith) in
    if_ok (λ shown. ComputesAt c.args.core.now c.enter_push_and_leave.new.core (send refused ports c.args.body c.args.sender) shown) (λ shown. ComputesAt c.args.core.now c.enter_push_and_leave.new.core (post refused ports c.args.body c.args.sender) shown)
    (λ shown did. post_listed c.args.core.now c.enter_push_and_leave.new.core refused ports c.as_slice-listed.result.now c.args.body c.args.sender c.may_post_on_line.result c.check_port_list.result Good shown c.may_post_on_line.ensures c.if-not-may_post_on_line.false few c.as_slice-listed.ensures c.check_port_list.ensures c.in-Good.is did)
    c.enter_push_and_leave.result c.enter_push_and_leave.ensures

pub returns-in_ok-close_listed_ends-in-HoldsTarget : goal.returns-in_ok-close_listed_ends-in-HoldsTarget
returns-in_ok-close_listed_ends-in-HoldsTarget c =
    let refused = c.args.memory_refused in
    let ports = c.args.ports in
    let few : length ports ≤ 16 = subst (λ ps. length ps ≤ 16) c.as_slice-listed.ensures (omega arith) in
    post_listed c.args.core.now c.close_listed_ends.new.core refused ports c.as_slice-listed.result.now c.args.body c.args.sender c.may_post_on_line.result c.check_port_list.result HoldsTarget Doomed c.may_post_on_line.ensures c.if-not-may_post_on_line.false few c.as_slice-listed.ensures c.check_port_list.ensures c.in-HoldsTarget.is
    (doomed c.args.core.now c.close_listed_ends.new.core refused ports c.as_slice-listed.result.now c.args.body c.args.sender c.as_slice-listed.ensures c.in_ok-close_listed_ends-in-HoldsTarget.ensures)

pub returns-in-Bad : goal.returns-in-Bad
returns-in-Bad c =
    let refused = c.args.memory_refused in
    let ports = c.args.ports in
    let few : length ports ≤ 16 = subst (λ ps. length ps ≤ 16) c.as_slice-listed.ensures (omega arith) in
    post_listed c.args.core.now c.args.core.now refused ports c.as_slice-listed.result.now c.args.body c.args.sender c.may_post_on_line.result c.check_port_list.result Bad (Answer outcome.NotNow) c.may_post_on_line.ensures c.if-not-may_post_on_line.false few c.as_slice-listed.ensures c.check_port_list.ensures c.in-Bad.is
    (given c.args.core.now (Answer outcome.NotNow))
