-- What is written for want of memory.
use Rattle.std.specs.Prelude.{ℕ, List, codes}

abbrev pub out_of_memory : List ℕ
out_of_memory = codes "out of memory\n"
