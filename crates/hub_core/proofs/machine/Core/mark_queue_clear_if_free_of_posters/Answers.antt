-- A look that finds nobody makes the next queue clear.
use Rattle.std.proofs.Common.{rules, ◌+◌}
use Rattle.hub_core.proofs.Words.{slice_get_within}
use Rattle.hub_core.proofs.Items.{end_set}
use Rattle.hub_core.specs.contracts.machine.Core.{the_view}
use Rattle.hub_core.proofs.machine.Core.mark_queue_clear_if_free_of_posters.Goals as goal

pub returns : goal.returns
returns c = (search rules, end_set (λ y. record y { looked = y.looked + 1 }) (the_view c.self.inside) c.args.self.now c.args.end.0 c.index_mut.result.now c.self.view_is (slice_get_within c.args.self.now.ends c.args.end.0 c.in-Some.found.now c.in-Some.ensures) c.index_mut.ensures.value)
