-- What a call makes of a handle.
use Rattle.std.specs.Prelude.{◌≡◌, ℕ, Bool, false}
use Rattle.hub_ports_c.specs.Held.{Both, BothNew, Held, JoinsIn, New, OpensLineIn}
use Rattle.hub_ports_c.specs.declared.handle.Handle.{Handle}
use Rattle.hub_ports_c.specs.declared.resource.Resource.{Resource}

-- something was held, and something is, and this holds of the two
abbrev pub At : (Resource → Resource → Type 0) → Handle → Handle → Type 0
At P old new = Both P old.slot.held new.slot.held

-- nothing was held, and something is, of which this holds
abbrev pub OpensAs : (Resource → Type 0) → Handle → Handle → Type 0
OpensAs P old new = New P old.slot.held new.slot.held

-- what is held is what was held
abbrev pub SameHeld : Handle → Handle → Type 0
SameHeld old new = new.slot.held ≡ old.slot.held

-- no such thing was held, and what is held is what was held
abbrev pub HeldNo : (Held → Bool) → Handle → Handle → Type 0
HeldNo is_such old new = (is_such old.slot.held ≡ false) × SameHeld old new

-- the two ports of a channel are held, where nothing was
abbrev pub BothOpenAs : (Resource → Resource → Type 0) → Handle → Handle → Handle → Handle → Type 0
BothOpenAs P left right left_new right_new = BothNew P left.slot.held right.slot.held left_new.slot.held right_new.slot.held

-- a line was opened at a fan that is held, and its poster is held, where nothing was
abbrev pub OpensLineAt : ℕ → Handle → Handle → Handle → Handle → Type 0
OpensLineAt line old new poster poster_new = OpensLineIn line old.slot.held new.slot.held poster.slot.held poster_new.slot.held

-- a poster that was held became that of the last member of a group that is held
abbrev pub JoinsAt : ℕ → Handle → Handle → Handle → Handle → Type 0
JoinsAt number old new poster poster_new = JoinsIn number old.slot.held new.slot.held poster.slot.held poster_new.slot.held
