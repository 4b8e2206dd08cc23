use Rattle.std.specs.Prelude.{◌≡◌, ◌++◌, filter_map}
use Rattle.hub_loop.specs.Holding.{end_held, ends_held}
use Rattle.hub_loop.proofs.ends.HeldEnds.end_numbers.Given as goal

abbrev pub invariant-loop-held : goal.invariant-loop-held
invariant-loop-held l = l.numbers.items ++ filter_map (λ entry. end_held entry.1) l.held-iterator ≡ ends_held l.self.held
