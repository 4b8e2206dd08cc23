-- The passes of a queue as callers see them.
use Rattle.std.specs.Prelude.{◌≡◌, ℕ, List, [], ◌∷◌}
use Rattle.atomic_blocks.specs.Laid.{WebId}
use Rattle.atomic_blocks.specs.declared.web.Seat.{Seat}
use Rattle.crossbeam_queue.specs.declared.seg_queue.Going.{Going}
use Rattle.hub_depot.specs.declared.kept_map.Key.{Key}
use Rattle.hub_queue.specs.declared.store.PutView.{PutView}
use Rattle.hub_queue.specs.declared.store.TakeView.{TakeView}
use Rattle.hub_queue.specs.declared.store.PassView.{PassView}
use Rattle.hub_queue.specs.declared.store.PassView.TheVariants.{Takes, Puts}

-- the right of a line: which queue it is of, and what the line's pass knows
pub record LineSeat : Type 0 where
  pub queue : WebId
  pub at : PutView

-- what a pass knows
abbrev pub known_by : {S T V A : Type 0} → Seat S (Going T V) A → V
known_by pass = pass.me.view.client

-- what the pass of a line knows
abbrev pub put_view : PassView → PutView
put_view (Puts v) = v
put_view _ = record { end = 0; epoch = 0; line = 0; put = []; refused = 0 }

-- what the taker's pass knows
abbrev pub take_in : PassView → TakeView
take_in (Takes t) = t
take_in _ = record { end = 0; epoch = 0; lines = 0; got = []; known = [] }

-- the name is that of the line whose pass knows this
pub record IsNameOf (v : PutView) (name : Key) : Type 0 where
  pub end : name.end.0 ≡ v.end
  pub epoch : name.epoch ≡ v.epoch
  pub line : name.line.0 ≡ v.line

-- the tag of a right names its queue and its line
abbrev pub tag_of : LineSeat → List ℕ
tag_of r = r.queue.0 ∷ r.queue.1 ∷ r.at.line ∷ []
