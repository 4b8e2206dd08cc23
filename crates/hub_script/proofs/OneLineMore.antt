-- What stands before a line, with one line more.
use Rattle.std.proofs.Common.{◌≡◌, ◌⊎◌, ℕ, List, [], ◌∷◌, ◌++◌, get_or, arith, refl, ap, sym, ◌∙◌, subst, inl, inr, append_assoc}
use Rattle.std.specs.List.{All, Any, Contains}
use Rattle.std.proofs.lemmas.List.Elements.{All-nil, All-contains, All-push, Contains-append_left, Contains-get_or, Contains-push, Contains-push_cases, filter_map-append}
use Rattle.hub_script.specs.declared.form.Form.{Form}
use Rattle.hub_script.specs.Before.{Closes, Gets, HoldsAt, Transfers, agent_kind, agent_kinds}

pub Any-before : {X : Type 0} (P : X → Type 0) (xs : List X) (y : X) → Any P xs → Any P (xs ++ y ∷ [])
Any-before P xs y h =
    let c : Contains (xs ++ y ∷ []) h.1 = Contains-append_left xs (y ∷ []) h.1 (h.0, h.2, h.3) in
    (c.0, h.1, c.1, c.2, h.4)

pub Any-cases : {X : Type 0} (P : X → Type 0) (xs : List X) (y : X) → Any P (xs ++ y ∷ []) → Any P xs ⊎ P y
Any-cases P xs y h = by (Contains-push_cases xs y h.1 (h.0, h.2, h.3))
  where
    by : Contains xs h.1 ⊎ (y ≡ h.1) → Any P xs ⊎ P y
    by (inl c) = inl (c.0, h.1, c.1, c.2, h.4)
    by (inr e) = inr (subst P (sym e) h.4)

pub All-from_contains : {X : Type 0} (P : X → Type 0) (xs : List X) → ((x : X) → Contains xs x → P x) → All P xs
All-from_contains P xs h k d l = h (get_or xs k d) (Contains-get_or xs k d l)

pub none_yet : {X : Type 0} (P : X → Type 0) → ¬ Any P []
none_yet P h = absurd (omega (arith, h.2))

-- a list with one element more, where it is split before its last element or at it
abbrev pub IsSplit : {X : Type 0} → List X → X → List X → X → List X → Type 0
IsSplit {X} xs y earlier x later =
    ((later ≡ []) × (y ≡ x) × (xs ≡ earlier)) ⊎ ((rest : List X) × (later ≡ rest ++ y ∷ []) × (xs ≡ earlier ++ x ∷ rest))

pub not_nil : {X : Type 0} (es later : List X) (x : X) → [] ≡ es ++ x ∷ later → ⊥
not_nil [] later x h = cc
not_nil (e ∷ es) later x h = cc

pub split_last : {X : Type 0} (xs earlier later : List X) (y x : X) → xs ++ y ∷ [] ≡ earlier ++ x ∷ later → IsSplit xs y earlier x later
split_last [] [] later y x h = inl (cc, cc, refl)
split_last [] (e ∷ es) later y x h = absurd (not_nil es later x (cc))
split_last (z ∷ xs) [] later y x h = inr (xs, (cc), (cc))
split_last {X} (z ∷ xs) (e ∷ es) later y x h = by (split_last xs es later y x (cc))
  where
    same : z ≡ e
    same = cc

    by : IsSplit xs y es x later → IsSplit (z ∷ xs) y (e ∷ es) x later
    by (inl g) = inl (g.0, g.1, (let rest : xs ≡ es = g.2 in cc))
    by (inr g) = inr (g.0, g.1, (let rest : xs ≡ es ++ x ∷ g.0 = g.2 in cc))

pub All-front : {X : Type 0} (P : X → Type 0) (xs ys : List X) → All P (xs ++ ys) → All P xs
All-front P xs ys h = All-from_contains P xs (λ x c. All-contains P (xs ++ ys) x h (Contains-append_left xs ys x c))

pub at_end : {X : Type 0} (P : X → Type 0) (xs : List X) (y : X) → All P (xs ++ y ∷ []) → P y
at_end P xs y h = All-contains P (xs ++ y ∷ []) y h (Contains-push xs y)

-- ---- what is held

abbrev pub GivesUp : Form → ℕ → List ℕ → Type 0
GivesUp f a n = Transfers f a n ⊎ Closes f a n

pub held_by_last : (before : List Form) (f : Form) (a : ℕ) (n : List ℕ) → Gets f a n → HoldsAt (before ++ f ∷ []) a n
held_by_last before f a n g = record { earlier = before; gaining = f; later = []; split = refl; gets = g; keeps = All-nil (λ x. ¬ GivesUp x a n) }

pub held_still : (before : List Form) (f : Form) (a : ℕ) (n : List ℕ) → HoldsAt before a n → ¬ GivesUp f a n → HoldsAt (before ++ f ∷ []) a n
held_still before f a n h g = record {
  earlier = h.earlier;
  gaining = h.gaining;
  later = h.later ++ f ∷ [];
  split = ap (λ xs. xs ++ f ∷ []) h.split ∙ append_assoc h.earlier (h.gaining ∷ h.later) (f ∷ []);
  gets = h.gets;
  keeps = All-push (λ x. ¬ GivesUp x a n) h.later f h.keeps g;
}

pub held_before : (before : List Form) (f : Form) (a : ℕ) (n : List ℕ) → HoldsAt (before ++ f ∷ []) a n → Gets f a n ⊎ (HoldsAt before a n × (¬ GivesUp f a n))
held_before before f a n h = by (split_last before h.earlier h.later f h.gaining h.split)
  where
    by : IsSplit before f h.earlier h.gaining h.later → Gets f a n ⊎ (HoldsAt before a n × (¬ GivesUp f a n))
    by (inl g) = inl (subst (λ x. Gets x a n) (sym g.1) h.gets)
    by (inr g) =
        let all : All (λ x. ¬ GivesUp x a n) (g.0 ++ f ∷ []) = subst (All (λ x. ¬ GivesUp x a n)) g.1 h.keeps in
        inr (record { earlier = h.earlier; gaining = h.gaining; later = g.0; split = g.2; gets = h.gets; keeps = All-front (λ x. ¬ GivesUp x a n) g.0 (f ∷ []) all }, at_end (λ x. ¬ GivesUp x a n) g.0 f all)

-- ---- agents

pub one_agent_more : (before : List Form) (f : Form) → agent_kinds (before ++ f ∷ []) ≡ agent_kinds before ++ agent_kinds (f ∷ [])
one_agent_more before f = filter_map-append agent_kind before (f ∷ [])
