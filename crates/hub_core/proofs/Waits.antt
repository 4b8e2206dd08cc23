-- What waits at an end, queue by queue and line by line, and what is left where an envelope was taken out.
use Rattle.std.proofs.Common.{◌≡◌, ℕ, ◌<◌, ◌≤◌, Bool, true, false, cond, eqb, List, [], ◌∷◌, ◌++◌, refl, sym, ap, subst, ◌∙◌, arith, rules, append-nil, append_assoc, ne_eqb, ⊎_elim, Some}
use Rattle.hub_core.proofs.Words.{filter, AllByRecursion, eqb-true, eqb-false, nat_tests, append_cancel_left, filter-append, Envelope, by, in_queue, Prefix, Rises, cases_lt, false≢true, recursion_from_All, All-from_recursion, Queue, pop_of, popped, IsNamed, IsQueue, HoldsFirst, without_first, taken_out}
use Rattle.hub_core.proofs.Items.{eqb_same, AllByRecursion-append, at_test}

-- ---- filters

pub all_kept : {A : Type 0} (P : A → Type 0) (q : A → Bool) (xs : List A) → AllByRecursion P xs → AllByRecursion P (filter q xs)
all_kept P q [] h = tt
all_kept P q (x ∷ xs) h = at_test (AllByRecursion P) (q x) (x ∷ filter q xs) (filter q xs) (λ _. (h.0, all_kept P q xs h.1)) (λ _. all_kept P q xs h.1)

pub all_back : {A : Type 0} (P : A → Type 0) (xs ys : List A) → AllByRecursion P (xs ++ ys) → AllByRecursion P ys
all_back P [] ys h = h
all_back P (x ∷ xs) ys h = all_back P xs ys h.1

pub all_both : {A : Type 0} (P Q : A → Type 0) (xs : List A) → AllByRecursion P xs → AllByRecursion Q xs → AllByRecursion (λ x. P x × Q x) xs
all_both P Q [] h k = tt
all_both P Q (x ∷ xs) h k = ((h.0, k.0), all_both P Q xs h.1 k.1)

pub filters : {A : Type 0} (p q : A → Bool) (xs : List A) → filter p (filter q xs) ≡ filter q (filter p xs)
filters p q [] = refl
filters p q (x ∷ xs) = elim (p x) as (λ b. p x ≡ b → filter p (filter q (x ∷ xs)) ≡ filter q (cond b (x ∷ filter p xs) (filter p xs))) [
  | true ↦ λ yes. elim (q x) as (λ c. filter p (cond c (x ∷ filter q xs) (filter q xs)) ≡ cond c (x ∷ filter q (filter p xs)) (filter q (filter p xs))) [
    | true ↦ ap (λ b. cond b (x ∷ filter p (filter q xs)) (filter p (filter q xs))) yes ∙ ap (λ ys. x ∷ ys) (filters p q xs)
    | false ↦ filters p q xs
  ]
  | false ↦ λ nope. elim (q x) as (λ c. filter p (cond c (x ∷ filter q xs) (filter q xs)) ≡ filter q (filter p xs)) [
    | true ↦ ap (λ b. cond b (x ∷ filter p (filter q xs)) (filter p (filter q xs))) nope ∙ filters p q xs
    | false ↦ filters p q xs
  ]
] refl

-- the envelopes of a queue bear its epoch
pub of_queue : (k : ℕ) (vs : List Envelope) → AllByRecursion (λ (u : Envelope). u.epoch ≡ k) (in_queue k vs)
of_queue k [] = tt
of_queue k (v ∷ vs) = at_test (AllByRecursion (λ (u : Envelope). u.epoch ≡ k)) (eqb v.epoch k) (v ∷ in_queue k vs) (in_queue k vs) (λ is. (eqb-true v.epoch k is, of_queue k vs)) (λ _. of_queue k vs)

pub all_of_queue : (k : ℕ) (vs : List Envelope) → AllByRecursion (λ (v : Envelope). v.epoch ≡ k) vs → in_queue k vs ≡ vs
all_of_queue k [] h = refl
all_of_queue k (v ∷ vs) h = ap (λ b. cond b (v ∷ in_queue k vs) (in_queue k vs)) (ap (λ n. eqb n k) h.0 ∙ eqb_same k) ∙ ap (λ us. v ∷ us) (all_of_queue k vs h.1)

pub queue_more : (k : ℕ) (vs : List Envelope) (v : Envelope) → v.epoch ≡ k → in_queue k (vs ++ v ∷ []) ≡ in_queue k vs ++ v ∷ []
queue_more k vs v is = filter-append _ vs (v ∷ []) ∙ ap (λ b. in_queue k vs ++ cond b (v ∷ []) []) (ap (λ n. eqb n k) is ∙ eqb_same k)

pub queue_other : (k : ℕ) (vs : List Envelope) (v : Envelope) → (v.epoch ≡ k → ⊥) → in_queue k (vs ++ v ∷ []) ≡ in_queue k vs
queue_other k vs v other = filter-append _ vs (v ∷ []) ∙ ap (λ b. in_queue k vs ++ cond b (v ∷ []) []) (ne_eqb v.epoch k other) ∙ append-nil (in_queue k vs)

-- ---- what is left of a line

pub none_of_queue : (P : Envelope → Type 0) (k : ℕ) (vs : List Envelope) → ((v : Envelope) → P v → v.epoch ≡ k → ⊥) → AllByRecursion P vs → in_queue k vs ≡ []
none_of_queue P k [] other h = refl
none_of_queue P k (v ∷ vs) other h = ap (λ b. cond b (v ∷ in_queue k vs) (in_queue k vs)) (ne_eqb v.epoch k (other v h.0)) ∙ none_of_queue P k vs other h.1

none_left : (u : Envelope) (xs : List Envelope) (b : Bool) → cond b (u ∷ xs) xs ≡ [] → (b ≡ false) × (xs ≡ [])
none_left u xs true h = absurd (search (rules, h))
none_left u xs false h = (refl, h)

-- where nothing is left of the queues below, all that is left is of this queue or later ones
pub from_queue : (t : ℕ) (rs : List Envelope) → ((k : ℕ) → k < t → in_queue k rs ≡ []) → AllByRecursion (λ (u : Envelope). t ≤ u.epoch) rs
from_queue t [] h = tt
from_queue t (u ∷ rs) h = (
  ⊎_elim
      (λ less. absurd (search (rules, sym (eqb_same u.epoch) ∙ (none_left u (in_queue u.epoch rs) (eqb u.epoch u.epoch) (h u.epoch less)).0)))
      (λ from. from)
      (cases_lt u.epoch t),
  from_queue t rs (λ k less. (none_left u (in_queue k rs) (eqb u.epoch k) (h k less)).1),
)

pub rises_back : (xs ys : List Envelope) → Rises (xs ++ ys) → Rises ys
rises_back [] ys h = h
rises_back (x ∷ xs) ys h = rises_back xs ys h.1

past : (t n : ℕ) → t ≤ n → (n ≡ t → ⊥) → t < n
past t n least other = grind (arith, nat_tests)

-- the first that is left is the first of its queue
front_of : (t : ℕ) (rs : List Envelope) (v : Envelope) (ws : List Envelope) → Rises rs → AllByRecursion (λ (u : Envelope). t ≤ u.epoch) rs → in_queue t rs ≡ v ∷ ws → (back : List Envelope) × (rs ≡ v ∷ back)
front_of t [] v ws rises from is = absurd (search (rules, is))
front_of t (u ∷ rs) v ws rises from is = at_test (λ us. us ≡ v ∷ ws → (back : List Envelope) × (u ∷ rs ≡ v ∷ back)) (eqb u.epoch t) (u ∷ in_queue t rs) (in_queue t rs)
    (λ e at. (rs, (let same : u ≡ v = cc in ap (λ w. w ∷ rs) same)))
    (λ e at.
    let other : u.epoch ≡ t → ⊥ = eqb-false u.epoch t e in
    let least : t ≤ u.epoch = from.0 in
    let above : t < u.epoch = past t u.epoch least other in
    absurd (search (rules, sym (none_of_queue (λ (w : Envelope). u.epoch ≤ w.epoch) t rs (λ w high same. absurd (let later : u.epoch ≤ w.epoch = high in omega arith)) rises.0) ∙ at))) is

-- The line of an end: everything below the queue t was taken, and in the queue t the envelopes that wait begin with v.
-- Then what was taken of the line of v, followed by v, is a prefix of what was accepted of it.
pub next_in_line : (t : ℕ) (vs ts rest : List Envelope) (v : Envelope) → Prefix (by v.line.0 ts) (by v.line.0 vs) → Rises (by v.line.0 vs) → ((k : ℕ) → k < t → in_queue k (by v.line.0 ts) ≡ in_queue k (by v.line.0 vs)) → in_queue t vs ≡ in_queue t ts ++ v ∷ rest → Prefix (by v.line.0 (ts ++ v ∷ [])) (by v.line.0 vs)
next_in_line t vs ts rest v p rises behind front =
    let l : ℕ = v.line.0 in
    let left : in_queue t (by l vs) ≡ in_queue t (by l ts) ++ in_queue t p.0 = ap (in_queue t) p.1 ∙ filter-append _ (by l ts) p.0 in
    let right : in_queue t (by l vs) ≡ in_queue t (by l ts) ++ v ∷ by l rest =
    filters _ _ vs ∙ ap (by l) front ∙ filter-append _ (in_queue t ts) (v ∷ rest) ∙ ap (λ b. by l (in_queue t ts) ++ cond b (v ∷ by l rest) (by l rest)) (eqb_same l) ∙ ap (λ us. us ++ v ∷ by l rest) (filters _ _ ts)
    in
    let waits : in_queue t p.0 ≡ v ∷ by l rest = append_cancel_left (in_queue t (by l ts)) (in_queue t p.0) (v ∷ by l rest) (sym left ∙ right) in
    let from : AllByRecursion (λ (u : Envelope). t ≤ u.epoch) p.0 = from_queue t p.0 (λ k less.
    append_cancel_left (in_queue k (by l ts)) (in_queue k p.0) [] (sym (filter-append _ (by l ts) p.0) ∙ ap (in_queue k) (sym p.1) ∙ sym (behind k less) ∙ sym (append-nil (in_queue k (by l ts)))))
    in
    let first = front_of t p.0 v (by l rest) (rises_back (by l ts) p.0 (subst Rises p.1 rises)) from waits in (
      first.0,
      p.1 ∙ ap (λ us. by l ts ++ us) first.1 ∙ sym (append_assoc (by l ts) (v ∷ []) first.0) ∙ ap (λ us. us ++ first.0) (ap (λ b. by l ts ++ cond b (v ∷ []) []) (sym (eqb_same l)) ∙ sym (filter-append _ ts (v ∷ []))),
    )

only_queue : (t : ℕ) (rs : List Envelope) → AllByRecursion (λ (u : Envelope). (t ≤ u.epoch) × (u.epoch ≤ t)) rs → in_queue t rs ≡ [] → rs ≡ []
only_queue t [] h none = refl
only_queue t (u ∷ rs) h none =
    let least : t ≤ u.epoch = h.0.0 in
    let most : u.epoch ≤ t = h.0.1 in
    let same : u.epoch ≡ t = omega arith in
    absurd (search (rules, sym (none_left u (in_queue t rs) (eqb u.epoch t) none).0 ∙ (ap (λ n. eqb n t) same ∙ eqb_same t)))

-- where nothing waits in the queue t, below it everything was taken, and nothing was accepted past it, all of the line was taken
pub all_taken : (t l : ℕ) (vs ts : List Envelope) → Prefix (by l ts) (by l vs) → ((k : ℕ) → k < t → in_queue k (by l ts) ≡ in_queue k (by l vs)) → AllByRecursion (λ (u : Envelope). u.epoch ≤ t) (by l vs) → in_queue t vs ≡ in_queue t ts → by l ts ≡ by l vs
all_taken t l vs ts p behind most drained =
    let none : in_queue t p.0 ≡ [] = append_cancel_left (in_queue t (by l ts)) (in_queue t p.0) [] (sym (filter-append _ (by l ts) p.0) ∙ ap (in_queue t) (sym p.1) ∙ filters _ _ vs ∙ ap (by l) drained ∙ filters _ _ ts ∙ sym (append-nil (in_queue t (by l ts)))) in
    let from : AllByRecursion (λ (u : Envelope). t ≤ u.epoch) p.0 = from_queue t p.0 (λ k less.
    append_cancel_left (in_queue k (by l ts)) (in_queue k p.0) [] (sym (filter-append _ (by l ts) p.0) ∙ ap (in_queue k) (sym p.1) ∙ sym (behind k less) ∙ sym (append-nil (in_queue k (by l ts)))))
    in
    let within : AllByRecursion (λ (u : Envelope). u.epoch ≤ t) p.0 = all_back (λ (u : Envelope). u.epoch ≤ t) (by l ts) p.0 (subst (AllByRecursion (λ (u : Envelope). u.epoch ≤ t)) p.1 most) in
    let left : p.0 ≡ [] = only_queue t p.0 (all_both (λ (u : Envelope). t ≤ u.epoch) (λ u. u.epoch ≤ t) p.0 from within) none in
    sym (p.1 ∙ ap (λ us. by l ts ++ us) left ∙ append-nil (by l ts))

-- ==== A queue after an envelope was taken out, the first of its line.

-- ---- lists without the first of a line

-- an envelope of another line goes before the one that was taken out, or behind it
swapped : (p q : Bool) (u v : Envelope) (ws us : List Envelope) → (p ≡ true → q ≡ true → ⊥) → cond p (v ∷ ws) ws ≡ us → cond p (v ∷ cond q (u ∷ ws) ws) (cond q (u ∷ ws) ws) ≡ cond q (u ∷ us) us
swapped true true u v ws us never is = absurd (never refl refl)
swapped true false u v ws us never is = is
swapped false q u v ws us never is = ap (λ xs. cond q (u ∷ xs) xs) is

-- line by line, the first of a line followed by the others is what was there
first_back : (line l : ℕ) (v : Envelope) (vs rest : List Envelope) → v.line.0 ≡ line → by line vs ≡ v ∷ rest → by l (v ∷ without_first line vs) ≡ by l vs
first_back line l v [] rest mine is = absurd (search (rules, is))
first_back line l v (u ∷ us) rest mine is = elim (eqb u.line.0 line) as (λ b. eqb u.line.0 line ≡ b → cond b (u ∷ by line us) (by line us) ≡ v ∷ rest → by l (v ∷ cond b us (u ∷ without_first line us)) ≡ by l (u ∷ us)) [
  | true ↦ λ _ found. let first : u ≡ v = cc in ap (λ w. by l (w ∷ us)) (sym first)
  | false ↦ λ other found. swapped (eqb v.line.0 l) (eqb u.line.0 l) u v (by l (without_first line us)) (by l us)
      (λ p q. false≢true (sym other ∙ ap (λ n. eqb n line) (eqb-true u.line.0 l q ∙ sym (eqb-true v.line.0 l p) ∙ mine) ∙ eqb_same line))
      (first_back line l v us rest mine found)
] refl is

all_without : (P : Envelope → Type 0) (line : ℕ) (vs : List Envelope) → AllByRecursion P vs → AllByRecursion P (without_first line vs)
all_without P line [] h = tt
all_without P line (u ∷ us) h = at_test (AllByRecursion P) (eqb u.line.0 line) us (u ∷ without_first line us) (λ _. h.1) (λ _. (h.0, all_without P line us h.1))

pub all_front : {A : Type 0} (P : A → Type 0) (xs ys : List A) → AllByRecursion P (xs ++ ys) → AllByRecursion P xs
all_front P [] ys h = tt
all_front P (x ∷ xs) ys h = (h.0, all_front P xs ys h.1)

-- ---- queues

module _ (q : Queue) (v : Envelope) where
  pub some_held : HoldsFirst q v → q.held ≡ [] → ⊥
  some_held first none = absurd (search (rules, sym (ap (by v.line.0) none) ∙ first.1))

  pub queue_taken : (e k n : ℕ) → HoldsFirst q v → IsQueue e k n q → IsQueue e k n (taken_out q v)
  queue_taken e k n first is =
      let P : Envelope → Type 0 = IsNamed e k n in
      let left : List Envelope = without_first v.line.0 q.held in
      let all : AllByRecursion P (q.got ++ q.held) = recursion_from_All P (q.got ++ q.held) is.named in
      let held : AllByRecursion P q.held = all_back P q.got q.held all in
      let mine : AllByRecursion P (v ∷ first.0) = subst (AllByRecursion P) first.1 (all_kept P _ q.held held) in
      let got : AllByRecursion P (q.got ++ v ∷ []) = AllByRecursion-append P q.got (v ∷ []) (all_front P q.got q.held all) (mine.0, tt) in
      record {
        put = λ l. ap (by l) (append_assoc q.got (v ∷ []) left) ∙ filter-append _ q.got (v ∷ left)
            ∙ ap (λ us. by l q.got ++ us) (first_back v.line.0 l v q.held first.0 refl first.1) ∙ sym (filter-append _ q.got q.held) ∙ is.put l;
        named = All-from_recursion P ((q.got ++ v ∷ []) ++ left) (AllByRecursion-append P (q.got ++ v ∷ []) left got (all_without P v.line.0 q.held held));
        numbered = is.numbered;
      }

  -- ---- one of which the same is held, line by line, as a list with the envelope in front

  tail_of : (b : Bool) (xs ys : List Envelope) → cond b (v ∷ xs) xs ≡ cond b (v ∷ ys) ys → xs ≡ ys
  tail_of true xs ys is = cc
  tail_of false xs ys is = is

  module _ (ws : List Envelope) (same : (l : ℕ) → by l q.held ≡ by l (v ∷ ws)) where
    pub first_of : HoldsFirst q v
    first_of = (by v.line.0 ws, same v.line.0 ∙ ap (λ b. cond b (v ∷ by v.line.0 ws) (by v.line.0 ws)) (eqb_same v.line.0))

    pub left_same : (l : ℕ) → by l (taken_out q v).held ≡ by l ws
    left_same l = tail_of (eqb v.line.0 l) (by l (without_first v.line.0 q.held)) (by l ws) (first_back v.line.0 l v q.held first_of.0 refl first_of.1 ∙ same l)

-- what is held first of all is popped
pub pop_takes : (q rest : Queue) (v : Envelope) → popped q ≡ Some (v, rest) → HoldsFirst q v × (rest ≡ taken_out q v)
pop_takes q rest v is = cases q.held refl is
  where
    cases : (held : List Envelope) → q.held ≡ held → pop_of q held ≡ Some (v, rest) → HoldsFirst q v × (rest ≡ taken_out q v)
    cases [] same p = absurd (search (rules, p))
    cases (u ∷ us) same p =
        let line : ℕ = v.line.0 in
        let next : Queue = record { put = q.put; held = us; got = q.got ++ u ∷ [] } in
        let one : Envelope × Queue = (u, next) in
        let other : Envelope × Queue = (v, rest) in
        let both : one ≡ other = cc in
        let first : u ≡ v = ap (λ (w : Envelope × Queue). w.0) both in
        let found : rest ≡ next = sym (ap (λ (w : Envelope × Queue). w.1) both) in
        let here : eqb u.line.0 line ≡ true = ap (λ (w : Envelope). eqb w.line.0 line) first ∙ eqb_same line in
        let as_first : next ≡ record { put = q.put; held = us; got = q.got ++ v ∷ [] } = ap (λ w. record { put = q.put; held = us; got = q.got ++ w ∷ [] }) first in
        let left : without_first line q.held ≡ us = ap (without_first line) same ∙ ap (λ b. cond b us (u ∷ without_first line us)) here in (
          (by line us, ap (by line) same ∙ ap (λ b. cond b (u ∷ by line us) (by line us)) here ∙ ap (λ w. w ∷ by line us) first),
          found ∙ as_first ∙ ap (λ hs. record { put = q.put; held = hs; got = q.got ++ v ∷ [] }) (sym left),
        )
