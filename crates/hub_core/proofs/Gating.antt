-- The laws of the gate machine.
use Rattle.std.proofs.Common.{◌≡◌, ◌⊎◌, ℕ, zero, suc, ◌≤◌, ◌||◌, ◌&&◌, Bool, true, false, true≢false, List, [], ◌∷◌, length, map, set, refl, sym, ap, ◌∙◌, subst, ⊎_elim, arith, length-set, Option, Some, None, not}
use Rattle.hub_core.proofs.Words.{slice_get, sum_by, is_some, length-map, map-set, sum_by-cons, false_from_ne_true, Phase, Out, Inside, Turned, Gate, IsAt, opened, weight, busy, Steps, finds_moved, finds_closed, goes_in, goes_out, turns_back, enables, retires, closes, gave, is_open, is_busy, gives, Reached, opens, goes_on, leaves_right, IsGateOf, GateMachineLaws, or-true}
use Rattle.hub_core.proofs.Items.{some_is, none_got, got_set, got_of-map}

-- whether the right of a line in this phase is at home
abbrev is_home : Bool → Phase → Bool
is_home collected p = leaves_right p && not collected

-- no line weighs more than all
pub weight_le : (ps : List Phase) (l : ℕ) (p : Phase) → slice_get ps l ≡ Some p → weight p ≤ sum_by weight ps
weight_le [] l p e = none_got p e
weight_le (q ∷ ps) zero p e =
    let is : weight q ≡ weight p = ap weight (some_is q p e) in
    omega (arith, sum_by-cons weight q ps)
weight_le (q ∷ ps) (suc l) p e =
    let r = weight_le ps l p e in
    omega (arith, sum_by-cons weight q ps)

-- a line whose right stays where it is
home_stays : (c : Bool) (ps : List Phase) (l : ℕ) (p w : Phase) → slice_get ps l ≡ Some p → leaves_right p ≡ leaves_right w → map (is_home c) (set ps l w) ≡ map (is_home c) ps
home_stays c [] l p w at same = refl
home_stays c (q ∷ ps) zero p w at same =
    ap (λ b. (b && not c) ∷ map (is_home c) ps) (sym (ap leaves_right (some_is q p at) ∙ same))
home_stays c (q ∷ ps) (suc l) p w at same = ap (λ bs. is_home c q ∷ bs) (home_stays c ps l p w at same)

-- a line whose right is written at home
home_written : {A : Type 0} (f : A → Bool) (c : Bool) (hs : List A) (ps : List Phase) (l : ℕ) (h : A) (w : Phase) → map f hs ≡ map (is_home c) ps → f h ≡ is_home c w → map f (set hs l h) ≡ map (is_home c) (set ps l w)
home_written f c hs ps l h w old here =
    map-set f hs l h ∙ ap (λ bs. set bs l (f h)) old ∙ ap (λ b. set (map (is_home c) ps) l b) here ∙ sym (map-set (is_home c) ps l w)

-- rights that are gone, line by line
abbrev gone : {A : Type 0} (B : Type 0) → A → Option B
gone B _ = None

none_home : {A : Type 0} (B : Type 0) (hs : List A) (ps : List Phase) → length hs ≡ length ps → map is_some (map (gone B) hs) ≡ map (is_home true) ps
none_home B [] [] same = refl
none_home B (h ∷ hs) (Out ∷ ps) same = ap (λ bs. false ∷ bs) (none_home B hs ps (omega arith))
none_home B (h ∷ hs) (Inside ∷ ps) same = ap (λ bs. false ∷ bs) (none_home B hs ps (omega arith))
none_home B (h ∷ hs) (Turned ∷ ps) same = ap (λ bs. false ∷ bs) (none_home B hs ps (omega arith))
none_home B _ _ same = absurd (omega (arith, same))

all_home : {A : Type 0} (rights : List A) → map is_some (map Some rights) ≡ map (is_home false) (map (λ (_ : A). Out) rights)
all_home [] = refl
all_home (r ∷ rights) = ap (λ bs. true ∷ bs) (all_home rights)

-- where no line is inside or turned, each right is at home
rights_of : {A : Type 0} (hs : List (Option A)) (ps : List Phase) → map is_some hs ≡ map (is_home false) ps → sum_by weight ps ≡ 0 → (rights : List A) × (length rights ≡ length ps) × (hs ≡ map Some rights)
rights_of [] [] same none = ([], refl, refl)
rights_of (h ∷ hs) (Inside ∷ ps) same none = absurd (omega (arith, none, sum_by-cons weight Inside ps))
rights_of (h ∷ hs) (Turned ∷ ps) same none = absurd (omega (arith, none, sum_by-cons weight Turned ps))
rights_of (Some r ∷ hs) (Out ∷ ps) same none =
    let rest : map is_some hs ≡ map (is_home false) ps = cc in
    let later = rights_of hs ps rest (omega (arith, none, sum_by-cons weight Out ps)) in
    (r ∷ later.0, ap suc later.1, ap (λ os. Some r ∷ os) later.2)
rights_of _ _ same none = cc

module _ {R : Type 0} where
  pub at_first : (rights : List R) → IsGateOf (length rights) (opened rights)
  at_first rights = record {
    phases = length-map rights (λ _. Out);
    homes = all_home rights;
    turned = λ line at. let was = got_of-map (λ (_ : R). Out) rights line Turned at in cc;
    shut = λ c. absurd (true≢false (sym c));
    nobody = λ c. absurd (true≢false (sym c));
  }

  module _ (lines : ℕ) (g : Gate R) (h : IsGateOf lines g) where
    -- another line is in this phase, or this one is
    still : (l : ℕ) (w p : Phase) (k : ℕ) → (w ≡ p → ⊥) → slice_get (set g.phases l w) k ≡ Some p → slice_get g.phases k ≡ Some p
    still l w p k ne at = ⊎_elim (λ here. absurd (ne here.1)) (λ other. other.1) (got_set g.phases l k w p at)

    homes_many : length g.homes ≡ length g.phases
    homes_many = sym (length-map g.homes is_some) ∙ ap length h.homes ∙ length-map g.phases (is_home g.collected)

    pub after : {owns : ℕ → R → Type 0} (g' : Gate R) {event : _} {answer : _} → Steps owns g event answer g' → IsGateOf lines g'
    after g' (finds_moved l at m) = record {
      phases = length-set g.phases l Turned ∙ h.phases;
      homes = h.homes ∙ sym (home_stays g.collected g.phases l Out Turned at refl);
      turned = λ k there. λ i. m i || g.closed;
      shut = h.shut;
      nobody = λ c k there. h.nobody c k (still l Turned Inside k (λ e. cc) there);
    }
    after g' (finds_closed l at m c) = record {
      phases = length-set g.phases l Turned ∙ h.phases;
      homes = h.homes ∙ sym (home_stays g.collected g.phases l Out Turned at refl);
      turned = λ k there. λ i. m i || c i;
      shut = h.shut;
      nobody = λ c' k there. h.nobody c' k (still l Turned Inside k (λ e. cc) there);
    }
    after g' (goes_in l r at m c there) = record {
      phases = length-set g.phases l Inside ∙ h.phases;
      homes = home_written is_some g.collected g.homes g.phases l None Inside h.homes refl;
      turned = λ k now. h.turned k (still l Inside Turned k (λ e. cc) now);
      shut = h.shut;
      nobody = λ given. absurd (true≢false (sym (h.shut given) ∙ (λ i. m i || c i)));
    }
    after g' (goes_out l r at own) =
        let not_given : g.collected ≡ false = false_from_ne_true g.collected (λ c. h.nobody c l at) in record {
          phases = length-set g.phases l Out ∙ h.phases;
          homes = home_written is_some g.collected g.homes g.phases l (Some r) Out h.homes (sym (ap not not_given));
          turned = λ k now. h.turned k (still l Out Turned k (λ e. cc) now);
          shut = h.shut;
          nobody = λ c k now. h.nobody c k (still l Out Inside k (λ e. cc) now);
        }
    after g' (turns_back l at) = record {
      phases = length-set g.phases l Out ∙ h.phases;
      homes = h.homes ∙ sym (home_stays g.collected g.phases l Turned Out at refl);
      turned = λ k now. h.turned k (still l Out Turned k (λ e. cc) now);
      shut = h.shut;
      nobody = λ c k now. h.nobody c k (still l Out Inside k (λ e. cc) now);
    }
    after g' enables = record { phases = h.phases; homes = h.homes; turned = h.turned; shut = h.shut; nobody = h.nobody }
    after g' retires = record { phases = h.phases; homes = h.homes; turned = λ k at. refl; shut = λ c. refl; nobody = h.nobody }
    after g' closes = record { phases = h.phases; homes = h.homes; turned = λ k at. or-true g.moved; shut = λ c. or-true g.moved; nobody = h.nobody }
    after g' (gave c) = h
    after g' (is_open c s) = h
    after g' (is_busy c s b) = h
    after g' (gives rights c s b home) = record {
      phases = h.phases;
      homes = none_home R g.homes g.phases homes_many;
      turned = h.turned;
      shut = λ c'. s;
      nobody = λ c' k at. let heavy = weight_le g.phases k Inside at in omega (arith, b);
    }

  -- where the rights were collected or nobody is at the gate, no line is inside
  pub nobody_left : (lines : ℕ) (g : Gate R) → IsGateOf lines g → (g.collected ≡ true) ⊎ (busy g ≡ 0) → (line : ℕ) → ¬ IsAt g line Inside
  nobody_left lines g h left line here = ⊎_elim
      (λ given. h.nobody given line here)
      (λ none. let heavy = weight_le g.phases line Inside here in omega (arith, none))
      left

  pub reached_one : {owns : ℕ → R → Type 0} (g : Gate R) → Reached owns g → IsGateOf (length g.phases) g
  reached_one g (opens rights own) =
      let many : length (map (λ (_ : R). Out) rights) ≡ length rights = length-map rights (λ _. Out) in
      subst (λ n. IsGateOf n (opened rights)) (sym many) (at_first rights)
  reached_one g (goes_on before g' event answer reached step) =
      let later : IsGateOf (length before.phases) g' = after (length before.phases) before (reached_one before reached) g' step in
      subst (λ n. IsGateOf n g') (sym later.phases) later

-- all rights of a gate at home
all_rights : {R : Type 0} (lines : ℕ) (g : Gate R) → IsGateOf lines g → g.collected ≡ false → busy g ≡ 0 → (rights : List R) × (length rights ≡ lines) × (g.homes ≡ map Some rights)
all_rights lines g h c none =
    let all = rights_of g.homes g.phases (h.homes ∙ ap (λ b. map (is_home b) g.phases) c) none in
    (all.0, all.1 ∙ h.phases, all.2)

pub prove_gate_machine_laws : {R : Type 0} → GateMachineLaws R
prove_gate_machine_laws = record {
  opened = at_first;
  step = λ owns lines g g' event answer step h. after lines g h g' step;
  reached = λ owns g. reached_one g;
  whole = all_rights;
}
