-- Which of the ends that a loop holds are marked, so that it asks them.
use Rattle.std.specs.Prelude.{◌≡◌, ◌⊎◌, ℕ, Some, None}
use Rattle.slab.specs.Slab.{Slab, get}
use Rattle.hub_envelope.specs.declared.ids.EndId.{EndId}
use Rattle.hub_ready.specs.declared.ready.Ready.{Ready}
use Rattle.hub_ready.specs.Marking.{mark_of}
use Rattle.hub_loop.specs.declared.ends.HeldEnds.{HeldEnds}
use Rattle.hub_loop.specs.declared.held.Held.{Held}
use Rattle.hub_loop.specs.Holding.{end_held}

-- Each end that is held is marked; or it was held so before, and its mark is as it was.
abbrev pub AreMarked : Slab Held → Ready → Slab Held → Ready → Type 0
AreMarked old before new after =
    (key : ℕ) (held : Held) (end : EndId) → get new key ≡ Some held → end_held held ≡ Some end
    → (mark_of after.marks key ≡ 1) ⊎ ((get old key ≡ Some held) × (mark_of after.marks key ≡ mark_of before.marks key))

-- No mark of an end that is held was taken away, and the next asking begins at the same key.
pub record MarksKept (old new : HeldEnds) : Type 0 where
  pub marked : AreMarked old.held old.ready new.held new.ready
  pub next : new.next ≡ old.next

-- The marks are as they were, and the next asking begins at the same key.
pub record SameMarks (old new : HeldEnds) : Type 0 where
  pub ready : new.ready ≡ old.ready
  pub next : new.next ≡ old.next

-- Each end that is held where nothing was held before is marked.
abbrev pub AreNewMarked : HeldEnds → HeldEnds → Type 0
AreNewMarked old new =
    (key : ℕ) (held : Held) (end : EndId) → get old.held key ≡ None → get new.held key ≡ Some held → end_held held ≡ Some end
    → mark_of new.ready.marks key ≡ 1
