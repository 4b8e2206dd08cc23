-- What holds of each state that the gate machine reaches.
use Rattle.std.proofs.Common.{◌≡◌, ℕ, zero, suc, ◌≤◌, ◌||◌, Bool, true, false, true≢false, List, [], ◌∷◌, length, set, refl, sym, ap, ◌∙◌, subst, ⊎_elim, arith, length-set, Option, Some, None}
use Rattle.std.specs.Prelude.{slice_get, sum_by}
use Rattle.std.proofs.lemmas.List.Sums.{sum_by-cons}
use Rattle.std.proofs.lemmas.List.{length-map}
use Rattle.hub_core.specs.declared.line.Phase.{Phase}
use Rattle.hub_core.specs.declared.line.Phase.TheVariants.{Out, Inside, Turned}
use Rattle.hub_core.specs.GateMachine.{Gate, opened, is_shut, Steps, finds_moved, finds_closed, goes_in, goes_out, turns_back, enables, retires, closes, gave, is_open, is_busy, gives, Reached, opens, goes_on}
use Rattle.hub_core.specs.GateMachine as machine
use Rattle.hub_gate.specs.GateRule.{has_right_in_hand}
use Rattle.hub_core.proofs.Items.{none_got, some_is, got_within, got_there, got_set, got-map, got_of-map}
use Rattle.hub_gate.proofs.Got.{got_here, got_else}

-- a line that isn't inside has its right at home until all are collected, which they are only in a gate that is moved or closed, with nobody inside
pub record IsFormed {R : Type 0} (owns : ℕ → R → Type 0) (g : Gate R) : Type 0 where
  pub same : length g.homes ≡ length g.phases
  pub home : g.collected ≡ false → (l : ℕ) (p : Phase) → slice_get g.phases l ≡ Some p → has_right_in_hand p ≡ false → (r : R) × (slice_get g.homes l ≡ Some (Some r)) × owns l r
  pub shut : g.collected ≡ true → is_shut g ≡ true
  pub nobody : g.collected ≡ true → (l : ℕ) (p : Phase) → slice_get g.phases l ≡ Some p → has_right_in_hand p ≡ false

-- no line weighs more than all
pub weight_le : (ps : List Phase) (l : ℕ) (p : Phase) → slice_get ps l ≡ Some p → machine.weight p ≤ sum_by machine.weight ps
weight_le [] l p e = none_got p e
weight_le (q ∷ ps) zero p e =
    let is : machine.weight q ≡ machine.weight p = ap machine.weight (some_is q p e) in
    omega (arith, sum_by-cons machine.weight q ps)
weight_le (q ∷ ps) (suc l) p e =
    let r = weight_le ps l p e in
    omega (arith, sum_by-cons machine.weight q ps)

-- where none is busy, none is inside
pub not_inside : (p : Phase) → machine.weight p ≤ 0 → has_right_in_hand p ≡ false
not_inside Out h = refl
not_inside Inside h = absurd (omega arith)
not_inside Turned h = refl

or_right : (a : Bool) → (a || true) ≡ true
or_right true = refl
or_right false = refl

module _ {R : Type 0} (owns : ℕ → R → Type 0) where
  at_first : (rights : List R) → ((l : ℕ) (r : R) → slice_get rights l ≡ Some r → owns l r) → IsFormed owns (opened rights)
  at_first rights own = record {
    same = length-map rights Some ∙ sym (length-map rights (λ (r : R). Out));
    home = λ c l p there out. let was = got_of-map (λ (r : R). Out) rights l p there in (was.0, got-map Some rights l was.0 was.1, own l was.0 was.1);
    shut = λ c. absurd (true≢false (sym c));
    nobody = λ c. absurd (true≢false (sym c));
  }

  module _ (g : Gate R) (formed : IsFormed owns g) where
    -- the line goes from a phase to another, and isn't inside in either
    stays_out : (l : ℕ) (q w : Phase) → slice_get g.phases l ≡ Some q → has_right_in_hand q ≡ false → g.collected ≡ false → (k : ℕ) (p : Phase) → slice_get (set g.phases l w) k ≡ Some p → has_right_in_hand p ≡ false → (r : R) × (slice_get g.homes k ≡ Some (Some r)) × owns k r
    stays_out l q w at not_in c k p there out = ⊎_elim
        (λ mine. formed.home c k q (subst (λ (i : ℕ). slice_get g.phases i ≡ Some q) (sym mine.0) at) not_in)
        (λ other. formed.home c k p other.1 out)
        (got_set g.phases l k w p there)

    -- where nobody is inside, the line goes to a phase that isn't inside either
    stays_empty : (l : ℕ) (w : Phase) → has_right_in_hand w ≡ false → g.collected ≡ true → (k : ℕ) (p : Phase) → slice_get (set g.phases l w) k ≡ Some p → has_right_in_hand p ≡ false
    stays_empty l w not_in c k p there = ⊎_elim
        (λ mine. sym (ap has_right_in_hand mine.1) ∙ not_in)
        (λ other. formed.nobody c k p other.1)
        (got_set g.phases l k w p there)

    -- the slot of a line is there
    pub there_again : (l : ℕ) (r : R) → slice_get g.phases l ≡ Some Inside → slice_get (set g.homes l (Some r)) l ≡ Some (Some r)
    there_again l r at =
        let low = got_within g.phases l Inside at in
        let same = formed.same in
        let was = got_there g.homes l (omega arith) in
        got_here g.homes l (Some r) was.0 was.1

    steps : (g' : Gate R) {event : _} {answer : _} → Steps owns g event answer g' → IsFormed owns g'
    steps g' (finds_moved l at m) = record { same = formed.same ∙ sym (length-set g.phases l Turned); home = stays_out l Out Turned at refl; shut = formed.shut; nobody = stays_empty l Turned refl }
    steps g' (finds_closed l at m c) = record { same = formed.same ∙ sym (length-set g.phases l Turned); home = stays_out l Out Turned at refl; shut = formed.shut; nobody = stays_empty l Turned refl }
    steps g' (goes_in l r at m c there) = record {
      same = length-set g.homes l None ∙ formed.same ∙ sym (length-set g.phases l Inside);
      home = λ open_yet k p now out. ⊎_elim
          (λ mine. absurd (true≢false (ap has_right_in_hand mine.1 ∙ out)))
          (λ other. let was = formed.home open_yet k p other.1 out in (was.0, got_else g.homes l k None other.0 ∙ was.1, was.2))
          (got_set g.phases l k Inside p now);
      shut = formed.shut;
      nobody = λ given. absurd (true≢false (sym (formed.shut given) ∙ (λ i. m i || c i)));
    }
    steps g' (goes_out l r at own) = record {
      same = length-set g.homes l (Some r) ∙ formed.same ∙ sym (length-set g.phases l Out);
      home = λ c k p now out. ⊎_elim
          (λ mine. (r, subst (λ (i : ℕ). slice_get (set g.homes l (Some r)) i ≡ Some (Some r)) (sym mine.0) (there_again l r at), subst (λ (i : ℕ). owns i r) (sym mine.0) own))
          (λ other. let was = formed.home c k p other.1 out in (was.0, got_else g.homes l k (Some r) other.0 ∙ was.1, was.2))
          (got_set g.phases l k Out p now);
      shut = formed.shut;
      nobody = stays_empty l Out refl;
    }
    steps g' (turns_back l at) = record { same = formed.same ∙ sym (length-set g.phases l Out); home = stays_out l Turned Out at refl; shut = formed.shut; nobody = stays_empty l Out refl }
    steps g' enables = record { same = formed.same; home = formed.home; shut = formed.shut; nobody = formed.nobody }
    steps g' retires = record { same = formed.same; home = formed.home; shut = λ c. refl; nobody = formed.nobody }
    steps g' closes = record { same = formed.same; home = formed.home; shut = λ c. or_right g.moved; nobody = formed.nobody }
    steps g' (gave c) = formed
    steps g' (is_open c s) = formed
    steps g' (is_busy c s b) = formed
    steps g' (gives rights c s b h) = record {
      same = length-map g.homes (λ (h : Option R). None) ∙ formed.same;
      home = λ c' l p there out. absurd (true≢false c');
      shut = λ c'. s;
      nobody = λ c' l p there. let h = weight_le g.phases l p there in not_inside p (omega arith);
    }

  pub formed : (g : Gate R) → Reached owns g → IsFormed owns g
  formed g (opens rights own) = at_first rights own
  formed g (goes_on before g' event answer reached step) = steps before (formed before reached) g' step
