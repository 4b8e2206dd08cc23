-- What a look at a gate comes to.
use Rattle.std.specs.Prelude.{◌≡◌, ℕ, ◌<◌, false, true, List, map}
use Rattle.hub_core.specs.GateMachine as machine
use Rattle.hub_gate.specs.declared.keeper.Looked.{Looked}
use Rattle.hub_gate.specs.declared.keeper.Looked.TheVariants.{Open, StillInside, Rights, Given}
use Rattle.hub_gate.specs.GateSeats.{KeeperSeat}
use Rattle.hub_gate.specs.GateRule.{Owns}
use Rattle.hub_gate.specs.GatePlays.{KeeperStep, looked_keeper, has_shut}
use Rattle.hub_gate.specs.AfterRights.{IsOverFrom}

-- one look, which gave no right: one more look is counted, with the count of lines that was found
pub record IsLook {T : Type 0} (tag : T → List ℕ) (old new : KeeperSeat T) (answer : machine.Answer T) : Type 0 where
  pub word : ℕ
  pub step : KeeperStep tag old.at new.at word machine.look answer
  pub keeper : new ≡ record { gate = old.gate; at = looked_keeper old.at word old.at.collected }

-- one look, which gave all rights, in the order of their lines: they were not given before, nobody was counted, and from then on no line is inside and none is let in
pub record IsLast {T : Type 0} (tag : T → List ℕ) (old new : KeeperSeat T) (rights : List T) : Type 0 where
  pub word : ℕ
  pub step : KeeperStep tag old.at new.at word machine.look (machine.gives_rights rights)
  pub tags : map tag rights ≡ old.at.tags
  pub first : old.at.collected ≡ false
  pub shut : has_shut old.at ≡ true
  pub nobody : new.at.found ≡ 0
  pub over : IsOverFrom (Owns tag step.happens.tags) step.happens.after
  pub keeper : new ≡ record { gate = old.gate; at = looked_keeper old.at word true }

abbrev pub IsLooked : {T : Type 0} → (T → List ℕ) → KeeperSeat T → KeeperSeat T → Looked T → Type 0
IsLooked tag old new Open = IsLook tag old new machine.says_open × (old.at.collected ≡ false) × (has_shut old.at ≡ false)
IsLooked tag old new (StillInside count) = IsLook tag old new (machine.says_inside count) × (old.at.collected ≡ false) × (new.at.found ≡ count) × (0 < count) × (has_shut old.at ≡ true)
IsLooked tag old new (Rights rights) = IsLast tag old new rights.items
IsLooked tag old new Given = IsLook tag old new machine.says_given × (old.at.collected ≡ true)
