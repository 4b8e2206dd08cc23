-- The count of the pops of one taker.
use Rattle.std.specs.Prelude.{ℕ, ◌+◌, Bool, true, false}

-- how many pops were made, and how many of them found none
pub record Count : Type 0 where
  pub pops : ℕ
  pub none : ℕ

-- one pop more
abbrev pub pop_counted : Count → Bool → Count
pop_counted c true = record { pops = c.pops + 1; none = c.none + 1 }
pop_counted c false = record { pops = c.pops + 1; none = c.none }
