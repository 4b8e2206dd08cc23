-- What a handle of a group holds, and what a call makes of it.
use Rattle.std.specs.Prelude.{◌≡◌, ◌≢◌, ◌<◌, ◌≤◌, ◌+◌, ℕ, Bool, true, false, All, List, [], ◌∷◌, ◌++◌, length, slice_get}
use Rattle.hub_group.specs.Casts.{CastsAtEach, Leaves}
use Rattle.hub_group.specs.declared.member.CastAnswer.{CastAnswer}
use Rattle.hub_group.specs.declared.group.CastGroup.{CastGroup}
use Rattle.hub_ports_c.specs.declared.resource.Message.{Message}
use Rattle.hub_ports_c.specs.declared.resource.Resource.{Resource}
use Rattle.hub_ports_c.specs.declared.resource.Resource.TheVariants.{Group, Poster}

abbrev pub is_group : Resource → Bool
is_group (Group g) = true
is_group k = false

-- a group was held, and one is, and this holds of the two
abbrev pub AtGroup : (CastGroup Message → CastGroup Message → Type 0) → Resource → Resource → Type 0
AtGroup P (Group g) (Group h) = P g h
AtGroup P k l = ⊥

-- a group with no member
abbrev pub IsNewGroup : Resource → Type 0
IsNewGroup (Group g) = (g.members.items ≡ []) × (g.joined ≡ 0)
IsNewGroup k = ⊥

abbrev pub SameGroup : CastGroup Message → CastGroup Message → Type 0
SameGroup g h = (h.members.items ≡ g.members.items) × (h.joined ≡ g.joined)

-- the poster is the last member's, under a number above all that were given
abbrev pub JoinsGroup : ℕ → Resource → CastGroup Message → CastGroup Message → Type 0
JoinsGroup number (Poster p) g h = (h.members.items ≡ g.members.items ++ record { number = number; poster = p } ∷ []) × (number ≡ g.joined + 1) × (h.joined ≡ number) × All (λ m. m.number < number) g.members.items
JoinsGroup number k g h = ⊥

-- the group has so many members
abbrev pub Counts : ℕ → Resource → Type 0
Counts count (Group g) = count ≡ length g.members.items
Counts count k = ⊥

-- it was cast at each member, and the answers behind theirs are as they were
abbrev pub CastsAll : Message → ℕ → List CastAnswer → List CastAnswer → CastGroup Message → CastGroup Message → Type 0
CastsAll message source before answers g h = CastsAtEach message source g.members.items h.members.items answers
    × ((j : ℕ) → length g.members.items ≤ j → slice_get answers j ≡ slice_get before j) × (h.joined ≡ g.joined)

-- there are more members than room
abbrev pub IsCrowded : ℕ → CastGroup Message → CastGroup Message → Type 0
IsCrowded room g h = SameGroup g h × (room < length g.members.items)

abbrev pub LeavesGroup : ℕ → CastGroup Message → CastGroup Message → Type 0
LeavesGroup number g h = Leaves number g.members.items h.members.items × (h.joined ≡ g.joined)

-- no member has the number
abbrev pub HasNoMember : ℕ → CastGroup Message → CastGroup Message → Type 0
HasNoMember number g h = SameGroup g h × All (λ m. m.number ≢ number) g.members.items
