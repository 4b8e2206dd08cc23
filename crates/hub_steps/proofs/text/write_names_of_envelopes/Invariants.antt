use Rattle.std.proofs.Common.{◌≡◌, ◌++◌, take}
use Rattle.std.specs.Prelude.{string_bytes}
use Rattle.hub_steps.specs.OutcomeText.{names_text}
use Rattle.hub_steps.proofs.text.write_names_of_envelopes.Given as goal

-- the names so far were written
abbrev pub invariant-loop-envelope : goal.invariant-loop-envelope
invariant-loop-envelope l = string_bytes l.text ≡ string_bytes l.fn.text ++ names_text (take l.envelope-index l.envelopes)
