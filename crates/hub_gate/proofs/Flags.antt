-- Each flag that the keeper sets keeps the rule of its gate.
use Rattle.std.proofs.Common.{◌≡◌, ℕ, ◌+◌, true, List, map, get_or, refl, sym, ap, ◌∙◌, subst, arith, bit_or, Option}
use Rattle.std.specs.Prelude.{◌==◌, nat_lt, if◌then◌else◌}
use Rattle.std.proofs.lemmas.Bool.Decides.{nat_tests}
use mathlib.Core.Option as maybe
use Rattle.atomic_table.specs.Table.{Me, step, keeps, carried_after, Allows}
use Rattle.hub_core.specs.GateMachine as machine
use Rattle.hub_gate.specs.declared.word.Flag.{Flag}
use Rattle.hub_gate.specs.declared.word.Flag.TheVariants.{Enabled, Moved, Closed}
use Rattle.hub_gate.specs.declared.view.View.{View}
use Rattle.hub_gate.specs.declared.view.View.TheVariants.{Keeping}
use Rattle.hub_gate.specs.declared.view.KeeperView.{KeeperView}
use Rattle.hub_gate.specs.Flags.{flag_bit, flag_event, flagged_gate, flagged_keeper}
use Rattle.hub_gate.specs.GateRule.{Tags, slot_of, Owns, IsShownBy, IsGate}
use Rattle.hub_gate.specs.GateSeats.{keeper_in}
use Rattle.hub_gate.specs.GatePlays.{SetsFlag, Sets}
use Rattle.hub_gate.proofs.Found.{new_word}
use Rattle.hub_gate.proofs.KeeperSteps.{steps, at_keeper}
use Rattle.hub_gate.proofs.Seats.{shown_where}
use Rattle.hub_gate.proofs.Words.{or_flag}

one_more : (n : ℕ) → nat_lt 0 (n + 1) ≡ true
one_more n = grind (arith, nat_tests)

-- what the setting of one flag does to the gate and to the keeper's view
record IsSetting {T : Type 0} (owns : ℕ → T → Type 0) (tags : Tags) (g : machine.Gate T) (k : KeeperView T) (flag : Flag) : Type 0 where
  step : machine.Steps owns g (flag_event flag) machine.says_done (flagged_gate flag g)
  phases : (flagged_gate flag g).phases ≡ g.phases
  homes : (flagged_gate flag g).homes ≡ g.homes
  collected : (flagged_gate flag g).collected ≡ g.collected
  next : (flagged_keeper flag k).next ≡ k.next
  rights : (flagged_keeper flag k).rights ≡ k.rights
  shows : IsShownBy k tags g → IsShownBy (flagged_keeper flag k) tags (flagged_gate flag g)

setting : {T : Type 0} (owns : ℕ → T → Type 0) (tags : Tags) (g : machine.Gate T) (k : KeeperView T) (flag : Flag) → IsSetting owns tags g k flag
setting owns tags g k Enabled = record { step = machine.enables; phases = refl; homes = refl; collected = refl; next = refl; rights = refl; shows = λ was. record { tags = was.tags; enabled = one_more k.enables; moved = was.moved; closed = was.closed; collected = was.collected } }
setting owns tags g k Moved = record { step = machine.retires; phases = refl; homes = refl; collected = refl; next = refl; rights = refl; shows = λ was. record { tags = was.tags; enabled = was.enabled; moved = one_more k.retires; closed = was.closed; collected = was.collected } }
setting owns tags g k Closed = record { step = machine.closes; phases = refl; homes = refl; collected = refl; next = refl; rights = refl; shows = λ was. record { tags = was.tags; enabled = was.enabled; moved = was.moved; closed = one_more k.closes; collected = was.collected } }

-- the keeper sets a flag
sets_flag : {T : Type 0} (tag : T → List ℕ) (slots id : ℕ) (k : KeeperView T) (c : List (ℕ × Option T)) (flag : Flag) → Allows (IsGate tag) slots id (Keeping k, c) 0 (λ n. bit_or n (flag_bit flag)) (SetsFlag tag flag (Keeping k, c))
sets_flag tag slots id k c flag s kept fits at small =
    let shown = shown_where tag s id (Keeping k) refl at kept in
    let own = shown.seats id (Keeping k) at in
    let set_now = setting (Owns tag shown.tags) shown.tags shown.gate k flag in
    let taken = steps tag s shown id k own (flagged_keeper flag k) (flagged_gate flag shown.gate) set_now.phases (λ not_yet. (sym set_now.collected ∙ not_yet, set_now.homes)) set_now.next set_now.rights (set_now.shows own.shows) (flag_event flag) machine.says_done (bit_or (get_or s.words 0 0) (flag_bit flag)) s.homes set_now.step
    (new_word s.words (machine.word shown.gate) _ (λ n. bit_or n (flag_bit flag)) shown.word (or_flag flag shown.gate))
    (shown.homes ∙ ap (map slot_of) (sym set_now.homes)) in
    (Keeping (flagged_keeper flag k), keeps, tt, taken.0, (refl, taken.1))

-- a bit is that of one flag
flag_of : ℕ → Flag
flag_of bit = if bit == 1 then Enabled else (if bit == 2 then Moved else Closed)

flag_again : (flag : Flag) → flag_of (flag_bit flag) ≡ flag
unfolding flag_of
flag_again Enabled = refl
flag_again Moved = refl
flag_again Closed = refl

pub sets : {T : Type 0} (tag : T → List ℕ) (slots id bit : ℕ) (flag : Flag) (me : Me (Option T) (View T)) → bit ≡ flag_bit flag → me.0 ≡ Keeping (keeper_in me.0) → Allows (IsGate tag) slots id me 0 (λ n. bit_or n bit) (Sets tag (step slots 0 bit 0 maybe.none) me)
sets {T = T} tag slots id bit flag me bit_is is =
    at_keeper (IsGate tag) slots id (λ n. bit_or n bit) (Sets tag (step slots 0 bit 0 maybe.none)) me is
    (subst (λ (b : ℕ). Allows (IsGate tag) slots id (Keeping (keeper_in me.0), me.1) 0 (λ n. bit_or n b) (Sets tag (step slots 0 b 0 maybe.none) (Keeping (keeper_in me.0), me.1))) (sym bit_is)
    (λ s kept fits at small.
    let allowed = sets_flag tag slots id (keeper_in me.0) me.1 flag s kept fits at small in
    (allowed.0, allowed.1, allowed.2, allowed.3, λ other same. subst (λ (f : Flag). SetsFlag tag f (Keeping (keeper_in me.0), me.1) (get_or s.words 0 0) (allowed.0, carried_after me.1 allowed.1)) (sym (flag_again flag) ∙ ap flag_of same ∙ flag_again other) allowed.4)))
