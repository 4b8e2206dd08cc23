-- The points to which a post comes, as one is told of them.
use Rattle.std.specs.Prelude.{ℕ, zero, suc, List, [], ◌∷◌, ◌++◌, nat_lt, if◌then◌else◌, Option, Result, Ok, Err}
use Rattle.std.specs.Option.{option_map}
use Rattle.hub_envelope.specs.declared.limits.TheConstants.{MAX_HOPS}
use Rattle.hub_depot.specs.declared.kept_map.Key.{Key}
use Rattle.hub_envelope.specs.declared.envelope.Draft.{Draft}
use Rattle.hub_queue.specs.declared.pause.Point.{Point}
use Rattle.hub_queue.specs.declared.pause.Point.TheVariants.{Before, Inside, Pushed, Hopping}
use Rattle.hub_envelope.specs.declared.posted.Posted.{Posted}
use Rattle.hub_queue.specs.declared.stand.Tried.{Tried}
use Rattle.hub_queue.specs.declared.stand.Tried.TheVariants.{Answered, Turned}
use Rattle.hub_queue.specs.declared.error.PostError.{PostError}
use Rattle.hub_queue.specs.declared.error.PostError.TheVariants.{Closed, Moving, OutOfMemory}
use Rattle.hub_queue.specs.Yards.{hops_between}

-- these points more were told, where what was told is shown
abbrev pub told_more : Option (List Point) → List Point → Option (List Point)
told_more told more = option_map (λ points. points ++ more) told

-- of a line that was let in
abbrev pub points_inside : List Point
points_inside = Inside ∷ Pushed ∷ []

-- of one attempt at one queue
abbrev pub points_tried : Tried → List Point
points_tried (Answered answer) = Before ∷ points_inside
points_tried (Turned found) = Before ∷ []

-- of a line that goes on so often, and each time comes before another gate
abbrev pub points_hopping : ℕ → List Point
points_hopping zero = []
points_hopping (suc hops) = points_hopping hops ++ Hopping ∷ Before ∷ []

-- of a line that goes no further: it was let in, or it was turned, or the yard was asked once more in vain
abbrev pub points_refused : ℕ → PostError → List Point
points_refused hops OutOfMemory = points_inside
points_refused hops Closed = []
points_refused hops Moving = if nat_lt hops MAX_HOPS then Hopping ∷ [] else []

abbrev pub points_at_last : ℕ → Result Posted (PostError × Draft) → List Point
points_at_last hops (Ok posted) = points_inside
points_at_last hops (Err refused) = points_refused hops refused.0

-- of a post that goes on from a queue where the line was turned, and of a whole post
abbrev pub points_onward : ℕ → Result Posted (PostError × Draft) → List Point
points_onward hops answer = points_hopping hops ++ points_at_last hops answer

abbrev pub points_of : Key → Key → Result Posted (PostError × Draft) → List Point
points_of from to answer = Before ∷ points_onward (hops_between from to) answer
