use Rattle.std.proofs.Common.{◌≡◌, ◌+◌, ◌++◌, length, map, vec_len, vec_capacity}
use Rattle.slab.specs.Slab.{entries}
use Rattle.hub_loop.proofs.ending.add_held_ends_to_close.Given as goal

abbrev pub invariant-loop-held : goal.invariant-loop-held
invariant-loop-held l = record {
  items : l.opened.items ++ map (λ entry. entry.1) l.held-iterator ≡ l.fn.opened.items ++ map (λ entry. entry.1) (entries l.fn.held);
  len : vec_len l.opened + length l.held-iterator ≡ vec_len l.fn.opened + length (entries l.fn.held);
  capacity : vec_capacity l.opened ≡ vec_capacity l.fn.opened;
}
