use Rattle.std.proofs.Common.{◌≡◌, ◌++◌, take}
use Rattle.std.specs.Prelude.{string_bytes}
use Rattle.hub_steps.specs.OutcomeText.{numbers_text}
use Rattle.hub_steps.proofs.text.write_numbers_of_ends.Given as goal

-- the numbers so far were written
abbrev pub invariant-loop-end : goal.invariant-loop-end
invariant-loop-end l = string_bytes l.text ≡ string_bytes l.fn.text ++ numbers_text (take l.end-index l.ends)
