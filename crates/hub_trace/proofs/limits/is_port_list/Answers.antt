use Rattle.std.proofs.Common.{rules}
use Rattle.hub_trace.proofs.PortLists.{test_says}
use Rattle.hub_trace.proofs.limits.is_port_list.Goals as goal

pub returns-then-is_each_end_number_within_limit-clause-test : goal.returns-then-is_each_end_number_within_limit-clause-test
returns-then-is_each_end_number_within_limit-clause-test c = search rules

pub returns-then-is_each_end_number_within_limit-clause-list : goal.returns-then-is_each_end_number_within_limit-clause-list
returns-then-is_each_end_number_within_limit-clause-list c = test_says c.args.ends.now c.are_distinct.result (returns-then-is_each_end_number_within_limit-clause-test c)

pub returns-else-is_each_end_number_within_limit-clause-test : goal.returns-else-is_each_end_number_within_limit-clause-test
returns-else-is_each_end_number_within_limit-clause-test c = search rules

pub returns-else-is_each_end_number_within_limit-clause-list : goal.returns-else-is_each_end_number_within_limit-clause-list
returns-else-is_each_end_number_within_limit-clause-list c = test_says c.args.ends.now c.if-ends-le-MAX_PORTS.value (returns-else-is_each_end_number_within_limit-clause-test c)
