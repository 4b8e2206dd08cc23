use Rattle.std.proofs.Common.{◌+◌, ◌<◌, ◌≤◌, length}
use Rattle.std.specs.BTreeSet.{contains}
use Rattle.std.specs.Ordering.{nat_cmp}
use Rattle.hub_trace.specs.Limits.{AreWithin}
use Rattle.hub_trace.specs.Read.{TellsClosed}
use Rattle.hub_trace.proofs.Reading.{HasGone, IsReadSoFar}
use Rattle.hub_trace.proofs.read.read_logs.Given as goal

abbrev pub invariant-loop-rest : goal.invariant-loop-rest
invariant-loop-rest l = record {
  some : 0 < l.number;
  room : l.number + length l.rest ≤ length l.fn.bytes;
  closed : TellsClosed (contains nat_cmp l.closed) l.logs.items;
  within : AreWithin l.version l.logs.items;
  so_far : IsReadSoFar l.version l.fn.bytes l.number l.logs.items l.rest;
  gone : HasGone l.fn.bytes l.number l.rest;
}

abbrev pub decreases-loop-rest : goal.decreases-loop-rest
decreases-loop-rest l = length l.rest
