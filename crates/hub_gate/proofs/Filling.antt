-- One more right is in the slot of its line.
use Rattle.std.proofs.Common.{◌≡◌, ℕ, suc, ◌+◌, List, [], ◌∷◌, ◌++◌, map, length, replicate, reverse, sym, ap, ◌∙◌, arith, append_assoc, length-append, Option, Some, None}
use Rattle.std.proofs.lemmas.List.{reverse-append, map-append, length-map}
use Rattle.std.specs.Option.{option_to_list}
use Rattle.atomic_table.specs.Table.{Me, rest, turned}
use Rattle.hub_gate.specs.Taking.{numbered}
use Rattle.hub_gate.proofs.Takings.{turn_once}

-- what was popped, as the last of the list before
pub popped_last : {A : Type 0} (before new : List A) (popped : Option A) (x : A) → before ≡ new ++ option_to_list popped → popped ≡ Some x → before ≡ new ++ x ∷ []
popped_last {A = A} before new popped x is some_x = is ∙ ap (λ (o : Option A). new ++ option_to_list o) some_x

pub popped_len : {A : Type 0} (before new : List A) (x : A) → before ≡ new ++ x ∷ [] → length before ≡ length new + 1
popped_len before new x is = ap length is ∙ length-append new (x ∷ [])

module _ {T V : Type 0} where
  pub filled_more : (all before new done : List T) (right : T) (line : ℕ) (v : V) (me me1 me2 : Me (Option T) V) → before ≡ new ++ right ∷ [] → all ≡ done ++ reverse before → length done ≡ line
      → me ≡ (v, numbered line (replicate (length before) None) ++ numbered 0 (map Some done))
      → me1 ≡ (me.0, (line, Some right) ∷ rest me.1) → me2 ≡ (me1.0, turned me1.1)
      → (more : List T) × (all ≡ more ++ reverse new) × (length more ≡ line + 1) × (me2 ≡ (v, numbered (line + 1) (replicate (length new) None) ++ numbered 0 (map Some more)))
  filled_more all before new done right line v me me1 me2 last all_is many is is1 is2 = (
    done ++ right ∷ [],
    all_is ∙ ap (λ (l : List T). done ++ reverse l) last ∙ ap (λ (l : List T). done ++ l) (reverse-append new (right ∷ [])) ∙ sym (append_assoc done (right ∷ []) (reverse new)),
    (let a = length-append done (right ∷ []) in omega arith),
    turn_once line None (Some right) (replicate (length new) None) (map Some done) v me me1 me2 (length-map done Some ∙ many) (is ∙ ap (λ (n : ℕ). (v, numbered line (replicate n None) ++ numbered 0 (map Some done))) one_more) is1 is2
        ∙ ap (λ (l : List (Option T)). (v, numbered (line + 1) (replicate (length new) None) ++ numbered 0 l)) (sym (map-append Some done (right ∷ []))),
  )
    where
      one_more : length before ≡ suc (length new)
      one_more = let a = ap length last in let b = length-append new (right ∷ []) in omega arith
