use Rattle.hub_script.proofs.Arrays.{IsReadSoFar}
use Rattle.hub_script.proofs.fields.texts_of.Given as goal

-- what was read so far, and what is read of the items that are left, is what is read of all
abbrev pub invariant-loop-item : goal.invariant-loop-item
invariant-loop-item l = IsReadSoFar l.item-items l.texts l.item-index
