-- The word that a step finds, and what it shows of the gate.
use Rattle.std.proofs.Common.{◌≡◌, ℕ, ◌≤◌, List, [], ◌∷◌, length, set, get_or, ap, ◌∙◌, arith, Option}
use Rattle.std.specs.Prelude.{sum_by}
use Rattle.std.proofs.lemmas.List.Sums.{sum_by-cons}
use Rattle.atomic_table.specs.Table.{State}
use Rattle.hub_core.specs.declared.line.Phase.{Phase}
use Rattle.hub_core.specs.declared.line.Phase.TheVariants as phase
use Rattle.hub_core.specs.GateMachine as machine
use Rattle.hub_envelope.specs.declared.limits.TheConstants.{MAX_LINES}
use Rattle.hub_gate.specs.declared.word.Flag.{Flag}
use Rattle.hub_gate.specs.declared.view.View.{View}
use Rattle.hub_gate.specs.Flags.{flag_bit}
use Rattle.hub_gate.specs.GateRule.{Owns, ShowsGate}
use Rattle.hub_gate.specs.GatePlays.{Happens}
use Rattle.hub_gate.proofs.Words.{reads_count, flag_among, reads_flag}

pub busy_le : (ps : List Phase) → sum_by machine.weight ps ≤ length ps
busy_le [] = omega arith
busy_le (p ∷ ps) = let r = busy_le ps in let h = light p in omega (arith, sum_by-cons machine.weight p ps)
  where
    light : (p : Phase) → machine.weight p ≤ 1
    light phase.Out = omega arith
    light phase.Inside = omega arith
    light phase.Turned = omega arith

-- the one word becomes another
pub new_word : (words : List ℕ) (n n' : ℕ) (f : ℕ → ℕ) → words ≡ n ∷ [] → f n ≡ n' → set words 0 (f (get_or words 0 0)) ≡ n' ∷ []
new_word words n n' f is e = ap (λ (w : List ℕ). set w 0 (f (get_or w 0 0))) is ∙ ap (λ (k : ℕ). k ∷ []) e

module _ {T : Type 0} (tag : T → List ℕ) (s : State (Option T) (View T)) (shown : ShowsGate tag s) where
  pub found_word : get_or s.words 0 0 ≡ machine.word shown.gate
  found_word = ap (λ (w : List ℕ). get_or w 0 0) shown.word

  pub found_flag : (flag : Flag) → machine.has_bit (get_or s.words 0 0) (flag_bit flag) ≡ flag_among flag shown.gate.enabled shown.gate.moved shown.gate.closed
  found_flag flag = ap (λ (n : ℕ). machine.has_bit n (flag_bit flag)) found_word ∙ reads_flag flag shown.gate.enabled shown.gate.moved shown.gate.closed (machine.busy shown.gate)

  pub found_count : machine.count_in (get_or s.words 0 0) ≡ machine.busy shown.gate
  found_count = ap machine.count_in found_word ∙ reads_count shown.gate.enabled shown.gate.moved shown.gate.closed (machine.busy shown.gate)

  pub few_busy : machine.busy shown.gate ≤ MAX_LINES
  few_busy = let b = busy_le shown.gate.phases in let n = shown.lines in let f = shown.few in omega arith

  -- a step of the machine at the state that the word shows
  abbrev pub happens_now : (event : machine.Event T) (answer : machine.Answer T) (next : machine.Gate T) → machine.Steps (Owns tag shown.tags) shown.gate event answer next → Happens tag (get_or s.words 0 0) event answer
  happens_now event answer next takes_step = record { tags = shown.tags; before = shown.gate; after = next; reached = shown.reached; found = found_word; step = takes_step }
