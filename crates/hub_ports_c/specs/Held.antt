-- What a handle has.
use Rattle.std.specs.Prelude.{ℕ, Bool, true, false, Option, Some, None}
use base.Fml.{Fml, ftrue}
use Rattle.std.specs.Coded.{Coded, coded_option}
use denote.RawPtr.{Ptr}
use Rattle.std.specs.Box.Ownership.{box_owns}
use Rattle.std.specs.declared.alloc.Global.{Global}
use Rattle.std.specs.contracts.impls.GlobalAllocator.TheImpl.{ghosts}
use Rattle.hub_ports_c.specs.declared.resource.Resource.{Resource}
use Rattle.hub_ports_c.specs.Resources.{HasName, is_closed_port, is_open_port}
use Rattle.hub_ports_c.specs.FanResources.{OpensLine, AtFan, is_fan, is_fan_grave, is_poster}
use Rattle.hub_ports_c.specs.GroupResources.{AtGroup, Counts, JoinsGroup, is_group}
use Rattle.hub_ports_c.specs.contracts.resource.Resource.{the_row}

abbrev pub Held : Type 0
Held = Option Resource

abbrev pub held_coded : Coded Held
held_coded = coded_option (the_row.coded)

-- the box of what is held, if something is
abbrev pub slot_owns : Global → Ptr → Held → Fml
slot_owns g p None = ftrue
slot_owns g p (Some x) = box_owns (ghosts.dealloc_token g) the_row p x

abbrev pub is_filled : Held → Bool
is_filled None = false
is_filled (Some x) = true

-- something was held, and something is, and this holds of the two
abbrev pub Both : (Resource → Resource → Type 0) → Held → Held → Type 0
Both P (Some k) (Some l) = P k l
Both P h k = ⊥

-- nothing was held, and two things are, and this holds of them
abbrev pub BothNew : (Resource → Resource → Type 0) → Held → Held → Held → Held → Type 0
BothNew P None None h k = Both P h k
BothNew P h k l m = ⊥

abbrev pub is_port_in : Held → Bool
is_port_in None = false
is_port_in (Some k) = is_open_port k

abbrev pub is_grave_in : Held → Bool
is_grave_in None = false
is_grave_in (Some k) = is_closed_port k

-- a port is held, and its channel has that name
abbrev pub NamesChannel : ℕ → Held → Type 0
NamesChannel name None = ⊥
NamesChannel name (Some k) = HasName name k

-- nothing was held, and something is, of which this holds
abbrev pub New : (Resource → Type 0) → Held → Held → Type 0
New P None (Some k) = P k
New P h k = ⊥

-- something was held of which this holds, and nothing is
abbrev pub GivesAway : (Resource → Type 0) → Held → Held → Type 0
GivesAway P (Some k) None = P k
GivesAway P h k = ⊥

abbrev pub is_fan_in : Held → Bool
is_fan_in None = false
is_fan_in (Some k) = is_fan k

abbrev pub is_fan_grave_in : Held → Bool
is_fan_grave_in None = false
is_fan_grave_in (Some k) = is_fan_grave k

abbrev pub is_poster_in : Held → Bool
is_poster_in None = false
is_poster_in (Some k) = is_poster k

abbrev pub is_group_in : Held → Bool
is_group_in None = false
is_group_in (Some k) = is_group k

-- a line was opened at a fan that is held, and its poster is held, where nothing was
abbrev pub OpensLineIn : ℕ → Held → Held → Held → Held → Type 0
OpensLineIn line old new None (Some p) = Both (AtFan (OpensLine line p)) old new
OpensLineIn line old new h p = ⊥

-- a poster that was held became that of the last member of a group that is held
abbrev pub JoinsIn : ℕ → Held → Held → Held → Held → Type 0
JoinsIn number old new (Some p) None = Both (AtGroup (JoinsGroup number p)) old new
JoinsIn number old new p h = ⊥

-- a group is held, which has so many members
abbrev pub CountsIn : ℕ → Held → Type 0
CountsIn count None = ⊥
CountsIn count (Some k) = Counts count k
