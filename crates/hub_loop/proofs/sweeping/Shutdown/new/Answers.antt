use Rattle.std.proofs.Common.{rules, sym, subst}
use Rattle.std.specs.List.Sorted.{IsNonDecreasing, IsPermutation}
use Rattle.std.proofs.lemmas.List.Sorted.{IsNonDecreasingBy-from_sort_by_key, IsPermutation-map}
use Rattle.hub_loop.specs.Ending.{grave_ends}
use Rattle.hub_loop.proofs.Endings.{rises}
use Rattle.hub_loop.proofs.sweeping.Shutdown.new.Goals as goal

pub returns-clause-sorted : goal.returns-clause-sorted
returns-clause-sorted c =
    subst (λ items. IsNonDecreasing (grave_ends items)) (sym c.from_vec.ensures.items)
    (rises (λ g. g.end) c.sort_unstable_by_key.new.self.items
    (IsNonDecreasingBy-from_sort_by_key (λ g. g.end) _ c.sort_unstable_by_key.ensures.sorted (λ a r f h. search rules)))

pub returns-clause-same : goal.returns-clause-same
returns-clause-same c =
    let old = c.args.closed.graves.items in
    subst (λ items. IsPermutation (grave_ends old) (grave_ends items)) (sym c.from_vec.ensures.items)
    (IsPermutation-map (λ g. g.end) old c.sort_unstable_by_key.new.self.items c.sort_unstable_by_key.ensures.permutation)
