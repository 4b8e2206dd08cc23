-- All slots are taken, or given back, in one step, and their values are changed one after another.
use Rattle.std.proofs.Common.{◌≡◌, ℕ, suc, ◌+◌, List, [], ◌∷◌, ◌++◌, map, length, set, refl, sym, ap, ◌∙◌, subst, arith, append_assoc, length-append}
use mathlib.Core.Option.{Option, none, some}
use lib.ListN.{get_elem?}
use Rattle.atomic_table.specs.Table.{Me, Valid, homes_after, carried_after, turned, rest}
use Rattle.hub_gate.specs.Taking.{take_from, give_each, numbered, all_out}

set_here : {A : Type 0} (pre : List A) (x y : A) (rest : List A) → set (pre ++ x ∷ rest) (length pre) y ≡ pre ++ y ∷ rest
set_here [] x y rest = refl
set_here (z ∷ pre) x y rest = ap (λ l. z ∷ l) (set_here pre x y rest)

at_here : {A : Type 0} (pre : List A) (x : A) (rest : List A) → get_elem? (pre ++ x ∷ rest) (length pre) ≡ some x
at_here [] x rest = refl
at_here (z ∷ pre) x rest = at_here pre x rest

longer : {A : Type 0} (pre : List A) (x : A) (k : ℕ) → length pre ≡ k → length (pre ++ x ∷ []) ≡ suc k
longer pre x k is = omega (arith, length-append pre (x ∷ []))

module _ {S : Type 0} where
  -- what was taken is carried, the first in front
  pub carried-take_from : (k : ℕ) (xs : List S) → carried_after [] (take_from k xs) ≡ numbered k xs
  carried-take_from k [] = refl
  carried-take_from k (x ∷ xs) = ap (λ c. (k, x) ∷ c) (carried-take_from (suc k) xs)

  -- the slots from the k-th on were at home. After the others are taken, the k-th is still there
  rest_out : (pre : List (Option S)) (x : S) (xs : List S) (c : List (ℕ × S)) (k : ℕ) → length pre ≡ k
      → homes_after ((pre ++ some x ∷ []) ++ map some xs) c (take_from (suc k) xs) ≡ (pre ++ some x ∷ []) ++ all_out xs
      → homes_after (pre ++ some x ∷ map some xs) c (take_from (suc k) xs) ≡ pre ++ some x ∷ all_out xs
  rest_out pre x xs c k is ih =
      ap (λ h. homes_after h c (take_from (suc k) xs)) (sym (append_assoc pre (some x ∷ []) (map some xs))) ∙ ih ∙ append_assoc pre (some x ∷ []) (all_out xs)

  -- once all slots are taken, none is at home
  pub homes-take_from : (pre : List (Option S)) (xs : List S) (c : List (ℕ × S)) (k : ℕ) → length pre ≡ k
      → homes_after (pre ++ map some xs) c (take_from k xs) ≡ pre ++ all_out xs
  homes-take_from pre [] c k is = refl
  homes-take_from pre (x ∷ xs) c k is =
      ap (λ l. set l k none) (rest_out pre x xs c k is (homes-take_from (pre ++ some x ∷ []) xs c (suc k) (longer pre (some x) k is)))
      ∙ subst (λ (n : ℕ). set (pre ++ some x ∷ all_out xs) n none ≡ pre ++ none ∷ all_out xs) is (set_here pre (some x) none (all_out xs))

  pub valid-take_from : (pre : List (Option S)) (xs : List S) (c : List (ℕ × S)) (k : ℕ) → length pre ≡ k
      → Valid (pre ++ map some xs) c (take_from k xs)
  valid-take_from pre [] c k is = tt
  valid-take_from pre (x ∷ xs) c k is = (
    subst (λ h. Valid h c (take_from (suc k) xs)) (append_assoc pre (some x ∷ []) (map some xs)) (valid-take_from (pre ++ some x ∷ []) xs c (suc k) (longer pre (some x) k is)),
    ap (λ h. get_elem? h k) (rest_out pre x xs c k is (homes-take_from (pre ++ some x ∷ []) xs c (suc k) (longer pre (some x) k is)))
        ∙ subst (λ (n : ℕ). get_elem? (pre ++ some x ∷ all_out xs) n ≡ some (some x)) is (at_here pre (some x) (all_out xs)),
  )

  -- what is carried is given back, the first to the slot k
  pub carried-give_each : (k : ℕ) (xs : List S) → carried_after (numbered k xs) (give_each xs) ≡ []
  carried-give_each k [] = refl
  carried-give_each k (x ∷ xs) = carried-give_each (suc k) xs

  pub valid-give_each : (k : ℕ) (xs : List S) (hs : List (Option S)) → Valid hs (numbered k xs) (give_each xs)
  valid-give_each k [] hs = tt
  valid-give_each k (x ∷ xs) hs = (tt, valid-give_each (suc k) xs (set hs k (some x)))

  pub homes-give_each : (pre hs : List (Option S)) (xs : List S) (k : ℕ) → length pre ≡ k → length hs ≡ length xs
      → homes_after (pre ++ hs) (numbered k xs) (give_each xs) ≡ pre ++ map some xs
  homes-give_each pre [] [] k is same = refl
  homes-give_each pre [] (x ∷ xs) k is same = absurd (omega arith)
  homes-give_each pre (h ∷ hs) [] k is same = absurd (omega arith)
  homes-give_each pre (h ∷ hs) (x ∷ xs) k is same =
      ap (λ l. homes_after l (numbered (suc k) xs) (give_each xs))
      (subst (λ (n : ℕ). set (pre ++ h ∷ hs) n (some x) ≡ pre ++ some x ∷ hs) is (set_here pre h (some x) hs) ∙ sym (append_assoc pre (some x ∷ []) hs))
      ∙ homes-give_each (pre ++ some x ∷ []) hs xs (suc k) (longer pre (some x) k is) (omega arith)
      ∙ append_assoc pre (some x ∷ []) (map some xs)

  -- one more value at the end
  pub numbered-snoc : (j : ℕ) (xs : List S) (k : ℕ) (x : S) → j + length xs ≡ k → numbered j xs ++ (k, x) ∷ [] ≡ numbered j (xs ++ x ∷ [])
  numbered-snoc j [] k x is = let e : k ≡ j = omega arith in (λ i. (e i, x) ∷ [])
  numbered-snoc j (y ∷ xs) k x is = ap (λ l. (j, y) ∷ l) (numbered-snoc (suc j) xs k x (omega arith))

  -- the slot in front, of the number k, is turned to the end, behind the k slots that were turned before
  pub turned-numbered : (k : ℕ) (x : S) (rest done : List S) → length done ≡ k
      → turned ((k, x) ∷ (numbered (suc k) rest ++ numbered 0 done)) ≡ numbered (suc k) rest ++ numbered 0 (done ++ x ∷ [])
  turned-numbered k x rest done is = append_assoc (numbered (suc k) rest) (numbered 0 done) ((k, x) ∷ []) ∙ ap (λ l. numbered (suc k) rest ++ l) (numbered-snoc 0 done k x (omega arith))

  -- the slot in front gets another value and is turned to the end
  pub turn_once : {V : Type 0} (line : ℕ) (old new : S) (todo done : List S) (v : V) (me me1 me2 : Me S V) → length done ≡ line → me ≡ (v, numbered line (old ∷ todo) ++ numbered 0 done)
      → me1 ≡ (me.0, (line, new) ∷ rest me.1) → me2 ≡ (me1.0, turned me1.1) → me2 ≡ (v, numbered (line + 1) todo ++ numbered 0 (done ++ new ∷ []))
  turn_once {V = V} line old new todo done v me me1 me2 many is is1 is2 =
      let next : suc line ≡ line + 1 = omega arith in
      is2
      ∙ ap (λ (m : Me S V). (m.0, turned m.1)) (is1 ∙ ap (λ (m : Me S V). (m.0, (line, new) ∷ rest m.1)) is)
      ∙ ap (λ (c : List (ℕ × S)). (v, c)) (turned-numbered line new todo done many ∙ ap (λ (k : ℕ). numbered k todo ++ numbered 0 (done ++ new ∷ [])) next)
