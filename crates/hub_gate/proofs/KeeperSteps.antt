-- A step of the keeper that leaves all phases keeps the rule of its gate, and is told.
use Rattle.std.proofs.Common.{◌≡◌, ℕ, ◌+◌, ◌≤◌, false, List, [], ◌∷◌, map, length, set, get_or, sym, ap, ◌∙◌, subst, ⊎_elim, inr, length-set, Option, Some}
use Rattle.std.specs.Prelude.{slice_get}
use mathlib.Core.Option.{some}
use mathlib.Core.Option as maybe
use lib.ListN.{get_elem?}
use Rattle.atomic_table.specs.Table.{State, Me, Allows}
use Rattle.atomic_table.proofs.Lists.{at_set}
use Rattle.hub_core.specs.declared.line.Phase.{Phase}
use Rattle.hub_core.specs.GateMachine as machine
use Rattle.hub_gate.specs.declared.view.View.{View}
use Rattle.hub_gate.specs.declared.view.View.TheVariants.{Keeping}
use Rattle.hub_gate.specs.declared.view.KeeperView.{KeeperView}
use Rattle.hub_gate.specs.GateRule.{slot_of, Owns, IsShownBy, IsKeeper, Knows, ShowsGate, IsGate}
use Rattle.hub_gate.specs.GateSeats.{keeper_in}
use Rattle.hub_gate.specs.GatePlays.{KeeperStep}
use Rattle.hub_gate.proofs.Found.{happens_now}
use Rattle.hub_gate.proofs.Seats.{lines_stay}

module _ {T : Type 0} (tag : T → List ℕ) (s : State (Option T) (View T)) (shown : ShowsGate tag s) (id : ℕ) (k : KeeperView T) (own : IsKeeper shown.tags shown.gate (length s.views) id k) where
  -- the keeper's view and the gate become others
  module _ (k' : KeeperView T) (next : machine.Gate T) (same : next.phases ≡ shown.gate.phases) (kept : next.collected ≡ false → (shown.gate.collected ≡ false) × (next.homes ≡ shown.gate.homes)) (as_many : k'.next ≡ k.next) (same_rights : k'.rights ≡ k.rights) (shows : IsShownBy k' shown.tags next) where
    mine : IsKeeper shown.tags next (length s.views) id k'
    mine = record {
      stands = own.stands;
      next = ap (λ (n : ℕ). n + 1) as_many ∙ own.next;
      later = λ l low high. ap (λ (p : List Phase). slice_get p l) same ∙ own.later l (subst (λ (n : ℕ). n ≤ l) as_many low) high;
      rights = λ not_yet l low high.
          ap (λ (h : List (Option T)). slice_get h l) (kept not_yet).1 ∙ own.rights (kept not_yet).0 l (subst (λ (n : ℕ). n ≤ l) as_many low) high ∙ ap (λ (r : List T). Some (slice_get r l)) (sym same_rights);
      shows = shows;
    }

    -- what all seats know after the step
    seats_after : (seat : ℕ) (u : View T) → get_elem? (set s.views id (Keeping k')) seat ≡ some u → Knows shown.tags next (length (set s.views id (Keeping k'))) seat u
    seats_after seat u there =
        subst (λ (n : ℕ). Knows shown.tags next n seat u) (sym (length-set s.views id (Keeping k')))
        (⊎_elim
        (λ me. subst (λ (x : View T). Knows shown.tags next (length s.views) seat x) me.1 (subst (λ (i : ℕ). Knows shown.tags next (length s.views) i (Keeping k')) (sym me.0) mine))
        (λ other. lines_stay shown.tags shown.gate next same kept (length s.views) (length s.views) seat u (λ z. other.0 (z ∙ sym own.stands)) (shown.seats seat u other.1))
        (at_set s.views id seat (Keeping k') u there))

    pub steps : (event : machine.Event T) (answer : machine.Answer T) (n : ℕ) (table_homes : List (maybe.Option (Option T))) → machine.Steps (Owns tag shown.tags) shown.gate event answer next → set s.words 0 n ≡ machine.word next ∷ [] → table_homes ≡ map slot_of next.homes
        → IsGate tag record { words = set s.words 0 n; homes = table_homes; views = set s.views id (Keeping k') } × KeeperStep tag k k' (get_or s.words 0 0) event answer
    steps event answer n table_homes takes_step word homes = (
      inr (record {
        gate = next;
        tags = shown.tags;
        reached = machine.goes_on shown.gate next event answer shown.reached takes_step;
        lines = ap length same ∙ shown.lines;
        few = shown.few;
        word = word;
        homes = homes;
        seats = seats_after;
      }),
      record { happens = happens_now tag s shown event answer next takes_step; before = own.shows; after = shows },
    )

-- what a step of the keeper is allowed, where its seat is given by an equation
pub at_keeper : {T : Type 0} (holds : State (Option T) (View T) → Type 0) (slots id : ℕ) (f : ℕ → ℕ) (then : Me (Option T) (View T) → ℕ → Me (Option T) (View T) → Type 0) (me : Me (Option T) (View T)) → me.0 ≡ Keeping (keeper_in me.0)
    → Allows holds slots id (Keeping (keeper_in me.0), me.1) 0 f (then (Keeping (keeper_in me.0), me.1)) → Allows holds slots id me 0 f (then me)
at_keeper {T = T} holds slots id f then me is =
    let whole : me ≡ (Keeping (keeper_in me.0), me.1) = (λ i. (is i, me.1)) in
    subst (λ (m : Me (Option T) (View T)). Allows holds slots id m 0 f (then m)) (sym whole)
