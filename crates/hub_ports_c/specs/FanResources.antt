-- What a handle of a fan or of a poster holds, and what a call makes of it.
use Rattle.std.specs.Prelude.{◌≡◌, ◌<◌, ℕ, Bool, true, false, [], ◌∷◌, ◌++◌, slice_get, Some, None}
use Rattle.hub_line.specs.Ends.{posted, IsOver, SamePoster}
use Rattle.hub_fan.specs.Places.{GivesNone, Keeps, Shuts}
use Rattle.hub_fan.specs.Fans.{Drained, EachPlace, IfEnded, IsInUse, Opens, SomeShows, TookInTurn, next_after, with_ended}
use Rattle.hub_fan.specs.declared.closing.FanDrained.{FanDrained}
use Rattle.hub_fan.specs.declared.closing.FanGrave.{FanGrave}
use Rattle.hub_fan.specs.declared.fan.Fan as fans
use Rattle.hub_fan.specs.declared.fan.FanPoster.{FanPoster}
use Rattle.hub_fan.specs.declared.fan.FanTaken.{FanTaken}
use Rattle.hub_fan.specs.declared.fan.FanTaken.TheVariants.{Disabled}
use Rattle.hub_ports_c.specs.declared.resource.Message.{Message}
use Rattle.hub_ports_c.specs.declared.resource.Resource.{Resource}
use Rattle.hub_ports_c.specs.declared.resource.Resource.TheVariants.{Fan, FanGrave as Closed, Poster}

abbrev pub FanOf : Type 0
FanOf = fans.Fan Message

abbrev pub is_fan : Resource → Bool
is_fan (Fan f) = true
is_fan k = false

abbrev pub is_fan_grave : Resource → Bool
is_fan_grave (Closed g) = true
is_fan_grave k = false

abbrev pub is_poster : Resource → Bool
is_poster (Poster p) = true
is_poster k = false

abbrev pub IsPoster : Resource → Type 0
IsPoster k = is_poster k ≡ true

-- a fan was held, and one is, and this holds of the two
abbrev pub AtFan : (FanOf → FanOf → Type 0) → Resource → Resource → Type 0
AtFan P (Fan f) (Fan g) = P f g
AtFan P k l = ⊥

-- a closed fan was held, and one is, and this holds of the two
abbrev pub AtFanGrave : (FanGrave Message → FanGrave Message → Type 0) → Resource → Resource → Type 0
AtFanGrave P (Closed g) (Closed h) = P g h
AtFanGrave P k l = ⊥

-- a poster was held, and one is, and this holds of the two
abbrev pub AtPoster : (FanPoster Message → FanPoster Message → Type 0) → Resource → Resource → Type 0
AtPoster P (Poster p) (Poster q) = P p q
AtPoster P k l = ⊥

-- a fan with no line, which isn't started
abbrev pub IsNewFan : Resource → Type 0
IsNewFan (Fan f) = (f.lines.items ≡ []) × (f.is_started ≡ false)
IsNewFan k = ⊥

-- nothing was opened, taken or started
abbrev pub SameFan : FanOf → FanOf → Type 0
SameFan f g = (g.lines.items ≡ f.lines.items) × (g.next ≡ f.next) × (g.is_started ≡ f.is_started)

-- a line was opened in the lowest place that was free, and this is its poster
abbrev pub OpensLine : ℕ → Resource → FanOf → FanOf → Type 0
OpensLine line (Poster p) f g = (line < 32) × Opens line p.to f.lines.items g.lines.items × ((j : ℕ) → j < line → IsInUse (slice_get f.lines.items j)) × (g.next ≡ f.next) × (g.is_started ≡ f.is_started)
OpensLine line k f g = ⊥

-- there are 32 lines
abbrev pub IsFull : FanOf → FanOf → Type 0
IsFull f g = SameFan f g × ((j : ℕ) → j < 32 → IsInUse (slice_get f.lines.items j))

-- what came of a take
abbrev pub TakesOf : FanTaken Message → FanOf → FanOf → Type 0
TakesOf result f g = ((ready : ℕ) × TookInTurn f.next ready result f.lines.items (with_ended result g.ended g.lines.items))
    × IfEnded (λ i. slice_get g.lines.items i ≡ Some None) result × (g.next ≡ next_after result f.next) × (g.is_started ≡ f.is_started)

-- nothing is taken of a fan that isn't started
abbrev pub IsDisabled : FanOf → FanOf → Type 0
IsDisabled f g = TakesOf Disabled f g × (f.is_started ≡ false)

abbrev pub Starts : FanOf → FanOf → Type 0
Starts f g = (g.lines ≡ f.lines) × (g.next ≡ f.next) × (g.is_started ≡ true)

-- nothing was taken
abbrev pub KeepsAll : FanOf → FanOf → Type 0
KeepsAll f g = EachPlace Keeps f.lines.items g.lines.items × (g.next ≡ f.next) × (g.is_started ≡ f.is_started)

-- each line was looked into, and nothing was found
abbrev pub FindsNoLine : FanOf → FanOf → Type 0
FindsNoLine f g = EachPlace GivesNone f.lines.items g.lines.items

-- of some line a message or the end is known
abbrev pub FindsALine : FanOf → FanOf → Type 0
FindsALine f g = SomeShows f.lines.items g.lines.items

-- The fan became a closed one: each of its lines is closed, and has taken what it had.
abbrev pub ClosesFan : Resource → Resource → Type 0
ClosesFan (Fan f) (Closed g) = EachPlace Shuts f.lines.items g.lines.items
ClosesFan k l = ⊥

-- what a closed fan hands back
abbrev pub DrainsOf : FanDrained Message → FanGrave Message → FanGrave Message → Type 0
DrainsOf result g h = Drained result g.lines.items h.lines.items

abbrev pub PostsToFan : Message → FanPoster Message → FanPoster Message → Type 0
PostsToFan m p q = SamePoster p.to q.to × (posted q.to ≡ posted p.to ++ m ∷ [])

abbrev pub PostsNone : FanPoster Message → FanPoster Message → Type 0
PostsNone p q = SamePoster p.to q.to × (posted q.to ≡ posted p.to)

-- nothing was posted, and nothing can be any more
abbrev pub RefusesOver : FanPoster Message → FanPoster Message → Type 0
RefusesOver p q = PostsNone p q × IsOver q.to
