-- What a take comes to.
use Rattle.std.specs.Prelude.{◌≡◌, List, [], ◌∷◌, ◌++◌}
use Rattle.hub_line.specs.declared.taker.LineTaken.{LineTaken}
use Rattle.hub_line.specs.declared.taker.LineTaken.TheVariants.{Item, Empty, Ended}

-- what was taken before, what came of the take, and what was taken after
abbrev pub Took : {T : Type 0} → List T → LineTaken T → List T → Type 0
Took old (Item x) new = new ≡ old ++ x ∷ []
Took old Empty new = new ≡ old
Took old Ended new = new ≡ old
