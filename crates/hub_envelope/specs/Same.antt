-- When two drafts or envelopes are the same, as a test.
use Rattle.std.specs.Prelude.{◌==◌, Bool, bytes_eq}
use Rattle.std.specs.Bool.{beq}
use Rattle.std.specs.Ordering.{eq_of_both, on}
use Rattle.hub_envelope.specs.declared.envelope.Draft.{Draft}
use Rattle.hub_envelope.specs.declared.envelope.Envelope.{Envelope}
use Rattle.hub_envelope.specs.SameEnds.{are_same_ends}

-- the same agent, text and list, and both or neither a notice
abbrev pub is_same_draft : Draft → Draft → Bool
is_same_draft = eq_of_both (on (λ d. d.agent.0) ◌==◌) (eq_of_both (on (λ d. d.body) bytes_eq) (eq_of_both (on (λ d. d.ports) are_same_ends) (on (λ d. d.notice) beq)))

-- the same name, agent, text and list, and both or neither a notice
abbrev pub is_same_envelope : Envelope → Envelope → Bool
is_same_envelope =
    eq_of_both (on (λ v. v.end.0) ◌==◌)
    (eq_of_both (on (λ v. v.epoch) ◌==◌)
    (eq_of_both (on (λ v. v.line.0) ◌==◌)
    (eq_of_both (on (λ v. v.number) ◌==◌) (eq_of_both (on (λ v. v.agent.0) ◌==◌) (eq_of_both (on (λ v. v.body) bytes_eq) (eq_of_both (on (λ v. v.ports) are_same_ends) (on (λ v. v.notice) beq)))))))
