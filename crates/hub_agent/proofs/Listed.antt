-- How often an end stands in a list, and in the lists into which it was taken apart.
use Rattle.std.proofs.Common.{◌≡◌, ◌∙◌, ◌≤◌, ℕ, ◌+◌, ◌==◌, ◌||◌, Bool, true, false, not, cond, List, [], ◌∷◌, ap, sym, refl, subst, inl, inr, arith, rules}
use Rattle.std.specs.List.{count_by, list_any}
use Rattle.hub_envelope.specs.declared.ids.EndId.{EndId}
use Rattle.hub_trace.specs.PortList.{are_distinct, lists_end, is_port_list}
use Rattle.hub_logging.specs.Notes.{not_missing}
use Rattle.hub_ports.specs.Splitting.{IsSplit}
use Rattle.hub_agent.specs.Owning.{times}
use Rattle.hub_agent.proofs.Slots.{count_cons}

pub times_cons : (e : ℕ) (x : EndId) (xs : List EndId) → times e (x ∷ xs) ≡ cond (x.0 == e) 1 0 + times e xs
times_cons e x xs = count_cons (λ (end : EndId). end.0 == e) x xs

pub times_one : (e : ℕ) (x : EndId) → times e (x ∷ []) ≡ cond (x.0 == e) 1 0
times_one e x = let h = times_cons e x [] in omega (arith, h)

-- none of the list passes
none_step : (b : Bool) (n : ℕ) (rest : Bool) → (rest ≡ false → n ≡ 0) → (b || rest) ≡ false → cond b 1 0 + n ≡ 0
none_step true n rest behind isnt = absurd cc
none_step false n rest behind isnt = let h = behind isnt in omega (arith, h)

any_none : (p : EndId → Bool) (xs : List EndId) → list_any p xs ≡ false → count_by p xs ≡ 0
any_none p [] isnt = refl
any_none p (x ∷ xs) isnt = count_cons p x xs ∙ none_step (p x) (count_by p xs) (list_any p xs) (any_none p xs) isnt

some_step : (b : Bool) (n : ℕ) (rest : Bool) → (rest ≡ true → 1 ≤ n) → (b || rest) ≡ true → 1 ≤ cond b 1 0 + n
some_step true n rest behind is = omega arith
some_step false n rest behind is = let h = behind is in omega (arith, h)

any_some : (p : EndId → Bool) (xs : List EndId) → list_any p xs ≡ true → 1 ≤ count_by p xs
any_some p [] is = absurd cc
any_some p (x ∷ xs) is = subst (λ n. 1 ≤ n) (sym (count_cons p x xs)) (some_step (p x) (count_by p xs) (list_any p xs) (any_some p xs) is)

-- in a list of different ends each stands once
once_step : (x : EndId) (e : ℕ) (xs : List EndId) (b : Bool) → (x.0 == e) ≡ b → not (lists_end xs x.0) ≡ true → times e xs ≤ 1 → cond b 1 0 + times e xs ≤ 1
once_step x e xs false is new rest = omega (arith, rest)
once_step x e xs true is new rest =
    let same : x.0 ≡ e = search rules in
    let none : lists_end xs x.0 ≡ false = search rules in
    let gone = any_none (λ (end : EndId). end.0 == e) xs (subst (λ n. lists_end xs n ≡ false) same none) in
    omega (arith, gone)

distinct_once : (e : ℕ) (xs : List EndId) → are_distinct xs ≡ true → times e xs ≤ 1
distinct_once e [] is = omega arith
distinct_once e (x ∷ xs) is =
    let new : not (lists_end xs x.0) ≡ true = search rules in
    let rest : are_distinct xs ≡ true = search rules in
    subst (λ n. n ≤ 1) (sym (times_cons e x xs)) (once_step x e xs (x.0 == e) refl new (distinct_once e xs rest))

pub listed_once : (e : ℕ) (xs : List EndId) → is_port_list xs ≡ true → times e xs ≤ 1
listed_once e xs is =
    let distinct : are_distinct xs ≡ true = search rules in
    distinct_once e xs distinct

-- those that aren't missing
kept_step : (missing : List EndId) (x : EndId) (e : ℕ) (rest : List EndId) (is_end kept : Bool) → (x.0 == e) ≡ is_end → not (lists_end missing x.0) ≡ kept → lists_end missing e ≡ false
    → times e (cond kept (x ∷ rest) rest) ≡ cond is_end 1 0 + times e rest
kept_step missing x e rest b true is found none = times_cons e x rest ∙ ap (λ c. cond {A = ℕ} c 1 0 + times e rest) is
kept_step missing x e rest false false is found none = omega arith
kept_step missing x e rest true false is found none =
    let same : x.0 ≡ e = search rules in
    let here : lists_end missing e ≡ true = subst (λ n. lists_end missing n ≡ true) same (search rules) in
    absurd cc

not_missing_times : (e : ℕ) (missing ports : List EndId) → lists_end missing e ≡ false → times e (not_missing missing ports) ≡ times e ports
not_missing_times e missing [] none = refl
not_missing_times e missing (x ∷ ports) none =
    kept_step missing x e (not_missing missing ports) (x.0 == e) (not (lists_end missing x.0)) refl refl none
    ∙ ap (λ n. cond {A = ℕ} (x.0 == e) 1 0 + n) (not_missing_times e missing ports none) ∙ sym (times_cons e x ports)

found_step : (e : ℕ) (missing ports : List EndId) (b : Bool) → lists_end missing e ≡ b → times e ports ≤ 1 → times e ports ≤ times e (not_missing missing ports) + times e missing
found_step e missing ports true is once = let some = any_some (λ (end : EndId). end.0 == e) missing is in omega (arith, some, once)
found_step e missing ports false is once = let same = not_missing_times e missing ports is in omega (arith, same)

-- where each port of a list stands once, one that isn't missing was found
pub found_times : (e : ℕ) (missing ports : List EndId) → times e ports ≤ 1 → times e ports ≤ times e (not_missing missing ports) + times e missing
found_times e missing ports once = found_step e missing ports (lists_end missing e) refl once

-- both parts together are the list
pub split_times : (e : ℕ) (ports found missing : List EndId) → IsSplit ports found missing → times e ports ≡ times e found + times e missing
split_times e [] found missing (first, second) = let f = ap (times e) first in let m = ap (times e) second in omega (arith, f, m)
split_times e (n ∷ ns) found missing (inl (rest, is, split)) =
    let h = split_times e ns rest missing split in
    let f = ap (times e) is ∙ times_cons e n rest in
    let all = times_cons e n ns in
    omega (arith, h, f, all)
split_times e (n ∷ ns) found missing (inr (rest, is, split)) =
    let h = split_times e ns found rest split in
    let m = ap (times e) is ∙ times_cons e n rest in
    let all = times_cons e n ns in
    omega (arith, h, m, all)
