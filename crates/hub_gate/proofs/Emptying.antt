-- One more right is out of the slot of its line.
use Rattle.std.proofs.Common.{rules, ◌≡◌, ℕ, suc, ◌+◌, ◌<◌, Bool, true, false, true≢false, List, [], ◌∷◌, ◌++◌, map, length, refl, sym, ap, ◌∙◌, subst, arith, append_assoc, append-nil, length-append, Option, Some, None}
use Rattle.std.specs.Prelude.{is_none, MatchOption, IsSome}
use Rattle.std.proofs.lemmas.List.{map-append, length-map}
use Rattle.atomic_table.specs.Table.{Me, rest, turned}
use Rattle.hub_gate.specs.Taking.{numbered, values_in}
use Rattle.hub_core.proofs.Items.{some_is}
use Rattle.hub_gate.proofs.Takings.{turn_once}

abbrev pub nothing : {T : Type 0} → T → Option T
nothing x = None

pub values-numbered : {T : Type 0} (k : ℕ) (xs : List T) → values_in (numbered k (map Some xs)) ≡ xs
values-numbered k [] = refl
values-numbered k (x ∷ xs) = ap (λ l. x ∷ l) (values-numbered (suc k) xs)

-- what is carried, by its values
pub holds_values : {T : Type 0} (carried : List (ℕ × Option T)) (rights : List T) → carried ≡ numbered 0 (map Some rights) → (carried ≡ numbered 0 (map Some (values_in carried))) × (values_in carried ≡ rights)
holds_values carried rights is =
    let values : values_in carried ≡ rights = ap values_in is ∙ values-numbered 0 rights in
    (is ∙ (λ i. numbered 0 (map Some (sym values i))), values)

first_of_all : {T : Type 0} (all items todo : List T) (line : ℕ) → all ≡ items ++ todo → length items ≡ line → line < length all → (x : T) × (later : List T) × (todo ≡ x ∷ later)
first_of_all all items [] line is many lt = let a = ap length is in let b = length-append items [] in absurd (omega arith)
first_of_all all items (x ∷ later) line is many lt = (x, later, refl)

abbrev value_in : {T : Type 0} → Option T → List (ℕ × Option T) → Option T
value_in d [] = d
value_in d (x ∷ xs) = x.1

pub same_value : {T : Type 0} (line : ℕ) (x : T) (found : Option T) (carried : List (ℕ × Option T)) → carried ≡ (line, Some x) ∷ rest carried → carried ≡ (line, found) ∷ rest carried → found ≡ Some x
same_value line x found carried one other = ap (value_in None) (sym other ∙ one)

pub some_of : {T : Type 0} (found : Option T) (x : T) → found ≡ Some x → IsSome found
some_of found x is = search rules

module _ {T V : Type 0} where
  pub starts : (me : Me (Option T) V) (all items : List T) → items ≡ [] → me.1 ≡ numbered 0 (map Some all) → (todo : List T) × (all ≡ items ++ todo) × (length items ≡ 0) × (me ≡ (me.0, numbered 0 (map Some todo) ++ numbered 0 (map nothing items)))
  starts me all items none held = (
    all,
    (λ i. sym none i ++ all),
    ap length none,
    (λ i. (me.0, (held ∙ sym (append-nil (numbered 0 (map Some all))) ∙ (λ j. numbered 0 (map Some all) ++ numbered 0 (map nothing (sym none j)))) i)),
  )

  -- the slot in front has a right
  pub in_turn : (all items todo : List T) (line : ℕ) (v : V) (me : Me (Option T) V) → all ≡ items ++ todo → length items ≡ line → line < length all → me ≡ (v, numbered line (map Some todo) ++ numbered 0 (map nothing items))
      → (x : T) × (later : List T) × (todo ≡ x ∷ later) × (me.1 ≡ (line, Some x) ∷ rest me.1)
  in_turn all items todo line v me is many lt me_is =
      let next = first_of_all all items todo line is many lt in
      let front : me.1 ≡ (line, Some next.0) ∷ (numbered (suc line) (map Some next.1) ++ numbered 0 (map nothing items)) =
      ap (λ (m : Me (Option T) V). m.1) me_is ∙ ap (λ (l : List T). numbered line (map Some l) ++ numbered 0 (map nothing items)) next.2 in
      (next.0, next.1, next.2, front ∙ (λ i. (line, Some next.0) ∷ rest (sym front i)))

  pub emptied_more : (all items new todo : List T) (right : T) (line : ℕ) (v : V) (found : Option T) (me me1 me2 : Me (Option T) V) → all ≡ items ++ todo → length items ≡ line → line < length all
      → me ≡ (v, numbered line (map Some todo) ++ numbered 0 (map nothing items)) → me.1 ≡ (line, found) ∷ rest me.1 → found ≡ Some right → new ≡ items ++ right ∷ []
      → me1 ≡ (me.0, (line, None) ∷ rest me.1) → me2 ≡ (me1.0, turned me1.1)
      → (more : List T) × (all ≡ new ++ more) × (length new ≡ line + 1) × (me2 ≡ (v, numbered (line + 1) (map Some more) ++ numbered 0 (map nothing new)))
  emptied_more all items new todo right line v found me me1 me2 is many lt me_is front got new_is is1 is2 =
      let next = in_turn all items todo line v me is many lt me_is in
      let same : next.0 ≡ right = some_is next.0 right (sym (same_value line next.0 found me.1 next.3 front) ∙ got) in
      let todo_is : todo ≡ right ∷ next.1 = next.2 ∙ (λ i. same i ∷ next.1) in (
        next.1,
        is ∙ (λ i. items ++ todo_is i) ∙ sym (append_assoc items (right ∷ []) next.1) ∙ (λ i. sym new_is i ++ next.1),
        ap length new_is ∙ length-append items (right ∷ []) ∙ ap (λ n. n + 1) many,
        turn_once line (Some right) None (map Some next.1) (map nothing items) v me me1 me2 (length-map items nothing ∙ many) (me_is ∙ (λ i. (v, numbered line (map Some (todo_is i)) ++ numbered 0 (map nothing items)))) is1 is2
            ∙ ap (λ (l : List (Option T)). (v, numbered (line + 1) (map Some next.1) ++ numbered 0 l)) (sym (map-append nothing items (right ∷ [])) ∙ ap (map nothing) (sym new_is)),
      )

-- a keeper that has its list yet has not got the rights
module _ {L : Type 0} (A B : L → Type 0) (E : Type 0) (collected : Bool) where
  pub none_out : (list : Option L) → MatchOption list (collected ≡ true) (λ l. (collected ≡ false) × A l × B l × E) → collected ≡ false → E
  none_out None m e = absurd (true≢false (sym m ∙ e))
  none_out (Some l) m e = m.3

  pub ready : (list : Option L) (l : L) → list ≡ Some l → MatchOption list (collected ≡ true) (λ l. (collected ≡ false) × A l × B l × E) → (collected ≡ false) × A l × B l × E
  ready list l is m = subst (λ (o : Option L). MatchOption o (collected ≡ true) (λ l. (collected ≡ false) × A l × B l × E)) is m
