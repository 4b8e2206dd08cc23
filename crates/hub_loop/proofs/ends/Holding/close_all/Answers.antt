use Rattle.std.proofs.Common.{ap, rules}
use Rattle.std.proofs.lemmas.List.Sorted.{IsNonDecreasingBy-from_sort_by_key}
use Rattle.hub_loop.specs.Ending.{still_open}
use Rattle.hub_loop.specs.Holding.{number_held}
use Rattle.hub_loop.specs.States.{closed_of}
use Rattle.hub_loop.proofs.Endings.{ended-first}
use Rattle.hub_loop.proofs.ends.Holding.close_all.Goals as goal

pub returns-clause-ok : goal.returns-clause-ok
returns-clause-ok g c =
    let old = c.args.self.now in
    let sorted = c.sort_unstable_by_key in
    ended-first c.new-2.result (closed_of old.closed) (closed_of c.take_all_to_close.new.self.closed) (closed_of c.close_held_ends_keep_held_lines.new.self) (closed_of c.replace-closed.result) (still_open old.ends.held c.args.fetched.now.items c.args.kept.now) c.in_ok-opened.opened.items sorted.new.self.items
    c.new-2.ensures.swept c.in_ok-opened.ensures.taken sorted.ensures.permutation
    (IsNonDecreasingBy-from_sort_by_key (λ h. (number_held h).0) _ sorted.ensures.sorted (λ a r f h. search rules))
    c.take_all_to_close.ensures.closed c.close_held_ends_keep_held_lines.ensures.graves c.close_held_ends_keep_held_lines.ensures.told (ap closed_of c.replace-closed.ensures.value) c.new-2.ensures.same c.new-2.ensures.noticed c.new-2.ensures.sorted
