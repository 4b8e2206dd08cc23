-- In which order the lines of a fan are asked.
use Rattle.std.specs.Prelude.{ℕ, ◌+◌, ◌*◌, cond, nat_eq, nat_le}
use Rattle.std.specs.Int.{bit_at}

-- Those with a bit come before the others; of either, those from `next` on before those below.
abbrev pub turn_stage : ℕ → ℕ → ℕ → ℕ
turn_stage next ready line = cond (nat_eq (bit_at ready line) 1) 0 2 + cond (nat_le next line) 0 1

-- Of two lines the one of the lower rank is asked first. A fan has fewer than 64 lines.
abbrev pub rank_of : ℕ → ℕ → ℕ → ℕ
rank_of next ready line = turn_stage next ready line * 64 + line
