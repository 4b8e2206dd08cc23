-- Sums and lists over numbers, counts of envelopes line by line, and the queues of an end joined to one list.
use Rattle.std.proofs.Common.{Bool, List, [], ap, arith, cond, eqb, false, length, length-append, refl, rules, suc, sym, true, zero, ℕ, ◌++◌, ◌+◌, ◌<◌, ◌∙◌, ◌∷◌, ◌≡◌, ◌≤◌, ⊎_elim, ltb, map, inl, inr, append-nil, append_assoc, Some, not, ◌&&◌, lt-ltb, ne_eqb}
use Rattle.hub_core.proofs.Words.{AllByRecursion, Envelope, Prefix, by, filter, filter-append, nat_tests, total, cases_eq, slice_get, flat_map, eqb-true, cases_order, le-ltb, eq-eqb, map-append, length-map, append_cancel_left, flat_map-append, in_queue, Rises, up_to, flat_map-map}
use Rattle.hub_core.proofs.Items.{AllByRecursion-weaker, eqb_same, none_got, got_push, at_test}

-- ==== Sums over numbers, and counts of envelopes line by line.

pub total_same : (w u : ℕ → ℕ) (n : ℕ) → ((e : ℕ) → e < n → u e ≡ w e) → total u n ≡ total w n
total_same w u zero h = refl
total_same w u (suc n) h =
    let rest : total u n ≡ total w n = total_same w u n (λ e below. h e (omega arith)) in
    let last : u n ≡ w n = h n (omega arith) in
    omega arith

pub total_less : (w u : ℕ → ℕ) (n : ℕ) → ((e : ℕ) → w e ≤ u e) → total w n ≤ total u n
total_less w u zero h = omega arith
total_less w u (suc n) h =
    let rest : total w n ≤ total u n = total_less w u n h in
    let last : w n ≤ u n = h n in
    omega arith

pub last_not : (e n : ℕ) → e < suc n → (e ≡ n → ⊥) → e < n
last_not e n below other = grind (arith, nat_tests)

-- one term changes
pub total_change : (w u : ℕ → ℕ) (n e : ℕ) → e < n → ((d : ℕ) → (d ≡ e → ⊥) → u d ≡ w d) → total w n + u e ≡ total u n + w e
total_change w u zero e below others = absurd (omega arith)
total_change w u (suc n) e below others = ⊎_elim
    (λ same.
    let new : u e ≡ u n = ap u same in
    let old : w e ≡ w n = ap w same in
    let rest : total u n ≡ total w n = total_same w u n (λ d less. others d (λ at. let no : d ≡ n = at ∙ same in omega arith)) in
    omega arith)
    (λ other.
    let last : u n ≡ w n = others n (λ at. other (sym at)) in
    let rest : total w n + u e ≡ total u n + w e = total_change w u n e (last_not e n below other) others in
    omega arith)
    (cases_eq e n)

-- one term grows
pub total_more : (w u : ℕ → ℕ) (n e k : ℕ) → e < n → u e ≡ w e + k → ((d : ℕ) → (d ≡ e → ⊥) → u d ≡ w d) → total u n ≡ total w n + k
total_more w u n e k below here others = let sum : total w n + u e ≡ total u n + w e = total_change w u n e below others in omega (arith, here)

-- the numbers that come behind add nothing
pub total_past : (w : ℕ → ℕ) (n k : ℕ) → ((i : ℕ) → n ≤ i → w i ≡ 0) → total w (n + k) ≡ total w n
total_past w n zero none = let same : n + 0 ≡ n = omega arith in ap (total w) same
total_past w n (suc k) none =
    let rest : total w (n + k) ≡ total w n = total_past w n k none in
    let last : w (n + k) ≡ 0 = none (n + k) (omega arith) in
    let same : n + suc k ≡ suc (n + k) = omega arith in
    ap (total w) same ∙ omega arith

pub total_nothing : (n : ℕ) → total (λ _. 0) n ≡ 0
total_nothing zero = refl
total_nothing (suc n) = let rest : total (λ _. 0) n ≡ 0 = total_nothing n in omega arith

-- ---- counts

abbrev pub count : (Envelope → Bool) → List Envelope → ℕ
count P vs = length (filter P vs)

abbrev pub bit : Bool → ℕ
bit true = 1
bit false = 0

one_bit : (v : Envelope) (b : Bool) → length (cond b (v ∷ []) []) ≡ bit b
one_bit v true = refl
one_bit v false = refl

pub count_more : (P : Envelope → Bool) (vs : List Envelope) (v : Envelope) → count P (vs ++ v ∷ []) ≡ count P vs + bit (P v)
count_more P vs v = ap length (filter-append P vs (v ∷ [])) ∙ length-append (filter P vs) (filter P (v ∷ [])) ∙ ap (λ n. count P vs + n) (one_bit v (P v))

pub count_append : (P : Envelope → Bool) (vs ws : List Envelope) → count P (vs ++ ws) ≡ count P vs + count P ws
count_append P vs ws = ap length (filter-append P vs ws) ∙ length-append (filter P vs) (filter P ws)

-- one more before the last ones
pub count_between : (P : Envelope → Bool) (vs ws : List Envelope) (v : Envelope) → count P ((vs ++ v ∷ []) ++ ws) ≡ count P (vs ++ ws) + bit (P v)
count_between P vs ws v =
    let more : count P ((vs ++ v ∷ []) ++ ws) ≡ count P (vs ++ v ∷ []) + count P ws = count_append P (vs ++ v ∷ []) ws in
    let one : count P (vs ++ v ∷ []) ≡ count P vs + bit (P v) = count_more P vs v in
    let both : count P (vs ++ ws) ≡ count P vs + count P ws = count_append P vs ws in
    omega arith

count_first : (P : Envelope → Bool) (vs : List Envelope) (v : Envelope) (b : Bool) → length (cond b (v ∷ filter P vs) (filter P vs)) ≡ count P vs + bit b
count_first P vs v true = omega arith
count_first P vs v false = omega arith

pub count_prefix : (P : Envelope → Bool) (ts vs : List Envelope) → Prefix ts vs → count P ts ≤ count P vs
count_prefix P ts vs p =
    let all : count P vs ≡ count P ts + count P p.0 = ap (count P) p.1 ∙ ap length (filter-append P ts p.0) ∙ length-append (filter P ts) (filter P p.0) in
    omega arith

-- the lines, or other numbers, of a list of envelopes are below some number
pub bound_of : (g : Envelope → ℕ) (vs : List Envelope) → (n : ℕ) × AllByRecursion (λ v. g v < n) vs
bound_of g [] = (0, tt)
bound_of g (v ∷ vs) =
    let rest = bound_of g vs in
    let n : ℕ = rest.0 + (g v + 1) in
    (n, (omega arith, AllByRecursion-weaker (λ u. g u < rest.0) (λ u. g u < n) (λ u less. omega arith) vs rest.1))

-- a count is the sum of the counts line by line
by_first : (P : Envelope → Bool) (l : ℕ) (vs : List Envelope) (v : Envelope) (b : Bool) → count P (cond b (v ∷ by l vs) (by l vs)) ≡ count P (by l vs) + cond b (bit (P v)) 0
by_first P l vs v true = count_first P (by l vs) v (P v)
by_first P l vs v false = omega arith

pub count_by_line : (P : Envelope → Bool) (n : ℕ) (vs : List Envelope) → AllByRecursion (λ v. v.line.0 < n) vs → total (λ l. count P (by l vs)) n ≡ count P vs
count_by_line P n [] h = total_nothing n
count_by_line P n (v ∷ vs) h =
    let rest : total (λ l. count P (by l vs)) n ≡ count P vs = count_by_line P n vs h.1 in
    let more : total (λ l. count P (by l (v ∷ vs))) n ≡ total (λ l. count P (by l vs)) n + bit (P v) =
    total_more (λ l. count P (by l vs)) (λ l. count P (by l (v ∷ vs))) n v.line.0 (bit (P v)) h.0
    (by_first P v.line.0 vs v (eqb v.line.0 v.line.0) ∙ ap (λ b. count P (by v.line.0 vs) + cond b (bit (P v)) 0) (eqb_same v.line.0))
    (λ d other.
    let away : eqb v.line.0 d ≡ false = search (rules, nat_tests, λ (is : v.line.0 ≡ d). other (sym is)) in
    by_first P d vs v (eqb v.line.0 d) ∙ ap (λ b. count P (by d vs) + cond b (bit (P v)) 0) away ∙ omega arith)
    in
    let first : count P (v ∷ vs) ≡ count P vs + bit (P v) = count_first P vs v (P v) in
    omega arith

-- where line by line the one list is a prefix of the other, it has no more of anything
pub count_lines : (P : Envelope → Bool) (ts vs : List Envelope) → ((l : ℕ) → Prefix (by l ts) (by l vs)) → count P ts ≤ count P vs
count_lines P ts vs p =
    let few = bound_of (λ v. v.line.0) ts in
    let many = bound_of (λ v. v.line.0) vs in
    let n : ℕ = few.0 + many.0 in
    let taken : total (λ l. count P (by l ts)) n ≡ count P ts = count_by_line P n ts (AllByRecursion-weaker (λ (v : Envelope). v.line.0 < few.0) (λ v. v.line.0 < n) (λ v less. omega arith) ts few.1) in
    let all : total (λ l. count P (by l vs)) n ≡ count P vs = count_by_line P n vs (AllByRecursion-weaker (λ (v : Envelope). v.line.0 < many.0) (λ v. v.line.0 < n) (λ v less. omega arith) vs many.1) in
    let less : total (λ l. count P (by l ts)) n ≤ total (λ l. count P (by l vs)) n = total_less (λ l. count P (by l ts)) (λ l. count P (by l vs)) n (λ l. count_prefix P (by l ts) (by l vs) (p l)) in
    omega arith

-- ==== Lists over the numbers below a bound, and the queues of an end joined to one list.

-- ---- lists over the numbers below a bound

pub length-up_to : (n : ℕ) → length (up_to n) ≡ n
length-up_to zero = refl
length-up_to (suc n) = let rest = length-up_to n in length-append (up_to n) (n ∷ []) ∙ (omega arith)

-- what is found at a number is what the function has there
pub got_of-up_to : {A : Type 0} (w : ℕ → A) (n k : ℕ) (b : A) → slice_get (map w (up_to n)) k ≡ Some b → (k < n) × (w k ≡ b)
got_of-up_to w zero k b is = none_got b is
got_of-up_to w (suc n) k b is = ⊎_elim
    (λ last.
    let count : length (map w (up_to n)) ≡ n = (length-map (up_to n) w ∙ length-up_to n) in
    let same : k ≡ n = last.0 ∙ count in
    (omega arith, ap w same ∙ last.1))
    (λ before. let rest = got_of-up_to w n k b before in let low : k < n = rest.0 in (omega arith, rest.1))
    (got_push (map w (up_to n)) k (w n) b (sym (ap (λ l. slice_get l k) (map-append w (up_to n) (n ∷ []))) ∙ is))

-- ---- queues that are joined

abbrev before : ℕ → List Envelope → List Envelope
before n vs = filter (λ v. ltb v.epoch n) vs

before_none : (n m : ℕ) (vs : List Envelope) → n ≤ m → AllByRecursion (λ (v : Envelope). m ≤ v.epoch) vs → before n vs ≡ []
before_none n m [] less h = refl
before_none n m (v ∷ vs) less h =
    let high : m ≤ v.epoch = h.0 in
    ap (λ b. cond b (v ∷ before n vs) (before n vs)) (le-ltb v.epoch n (omega arith)) ∙ before_none n m vs less h.1

before_first : (vs : List Envelope) → before 0 vs ≡ []
before_first [] = refl
before_first (v ∷ vs) = ap (λ b. cond b (v ∷ before 0 vs) (before 0 vs)) (le-ltb v.epoch 0 (omega arith)) ∙ before_first vs

-- the envelopes of the queues below a bound, followed by those of the next queue
before_more : (n : ℕ) (vs : List Envelope) → Rises vs → before n vs ++ in_queue n vs ≡ before (suc n) vs
before_more n [] h = refl
before_more n (v ∷ vs) h = elim (cases_order v.epoch n) [
  | inl same ↦
      let none : before n vs ≡ [] = before_none n v.epoch vs (omega arith) h.0 in
      let out : ltb v.epoch n ≡ false = le-ltb v.epoch n (omega arith) in
      let here : eqb v.epoch n ≡ true = eq-eqb v.epoch n same in
      let within : ltb v.epoch (suc n) ≡ true = lt-ltb v.epoch (suc n) (omega arith) in
      rw (out, here, within) (ap (λ us. us ++ v ∷ in_queue n vs) none ∙ ap (λ us. v ∷ us) (ap (λ us. us ++ in_queue n vs) (sym none) ∙ before_more n vs h.1))
  | inr (inl low) ↦
      let out : eqb v.epoch n ≡ false = ne_eqb v.epoch n (λ same. absurd (omega arith)) in
      let here : ltb v.epoch n ≡ true = lt-ltb v.epoch n low in
      let within : ltb v.epoch (suc n) ≡ true = lt-ltb v.epoch (suc n) (omega arith) in
      rw (out, here, within) (ap (λ us. v ∷ us) (before_more n vs h.1))
  | inr (inr high) ↦
      let out : eqb v.epoch n ≡ false = ne_eqb v.epoch n (λ same. absurd (omega arith)) in
      let past : ltb v.epoch n ≡ false = le-ltb v.epoch n (omega arith) in
      let later : ltb v.epoch (suc n) ≡ false = le-ltb v.epoch (suc n) (omega arith) in
      rw (out, past, later) (before_more n vs h.1)
]

joined_before : (n : ℕ) (vs : List Envelope) → Rises vs → flat_map (λ k. in_queue k vs) (up_to n) ≡ before n vs
joined_before zero vs h = sym (before_first vs)
joined_before (suc n) vs h =
    flat_map-append (λ k. in_queue k vs) (up_to n) (n ∷ []) ∙ ap (λ us. flat_map (λ k. in_queue k vs) (up_to n) ++ us) (append-nil (in_queue n vs))
    ∙ ap (λ us. us ++ in_queue n vs) (joined_before n vs h) ∙ before_more n vs h

-- the envelopes of n queues from the queue k on, queue by queue
abbrev pub queues_from : ℕ → ℕ → List Envelope → List Envelope
queues_from k zero vs = []
queues_from k (suc n) vs = in_queue k vs ++ queues_from (k + 1) n vs

before_from : (n k : ℕ) (vs : List Envelope) → Rises vs → before k vs ++ queues_from k n vs ≡ before (k + n) vs
before_from zero k vs h = append-nil (before k vs) ∙ ap (λ i. before i vs) (let same : k ≡ k + 0 = omega arith in same)
before_from (suc n) k vs h =
    let place : suc k ≡ k + 1 = omega arith in
    let count : k + 1 + n ≡ k + suc n = omega arith in
    sym (append_assoc (before k vs) (in_queue k vs) (queues_from (k + 1) n vs)) ∙ ap (λ us. us ++ queues_from (k + 1) n vs) (before_more k vs h ∙ ap (λ i. before i vs) place)
    ∙ before_from n (k + 1) vs h ∙ ap (λ i. before i vs) count

none_before : (n : ℕ) (vs : List Envelope) → Rises vs → ((j : ℕ) → j < n → in_queue j vs ≡ []) → before n vs ≡ []
none_before zero vs h none = before_first vs
none_before (suc n) vs h none = sym (before_more n vs h) ∙ ap (λ us. before n vs ++ us) (none n (omega arith)) ∙ append-nil (before n vs) ∙ none_before n vs h (λ j less. none j (omega arith))

-- Envelopes whose epochs never fall, of none of the queues below k and none from the queue k + n on, are those n queues.
pub joined_from : (n k : ℕ) (vs : List Envelope) → Rises vs → ((j : ℕ) → j < k → in_queue j vs ≡ []) → filter (λ (v : Envelope). ltb v.epoch (k + n)) vs ≡ vs → queues_from k n vs ≡ vs
joined_from n k vs h none all = sym (ap (λ us. us ++ queues_from k n vs) (none_before k vs h none)) ∙ before_from n k vs h ∙ all

-- Envelopes of queues below a bound whose epochs never fall are their queues, joined.
pub joined : {A : Type 0} (f : A → List Envelope) (w : ℕ → A) (n : ℕ) (vs : List Envelope) → ((k : ℕ) → f (w k) ≡ in_queue k vs) → Rises vs → filter (λ (v : Envelope). ltb v.epoch n) vs ≡ vs → flat_map f (map w (up_to n)) ≡ vs
joined f w n vs each rises all =
    flat_map-map f w (up_to n) ∙ ap (λ (g : ℕ → List Envelope). flat_map g (up_to n)) (λ i k. each k i) ∙ joined_before n vs rises ∙ all

-- ---- what holds of all

pub all_pass : {A : Type 0} (test : A → Bool) (xs : List A) → AllByRecursion (λ x. test x ≡ true) xs → filter test xs ≡ xs
all_pass test [] h = refl
all_pass test (x ∷ xs) h = ap (λ b. cond b (x ∷ filter test xs) (filter test xs)) h.0 ∙ ap (λ ys. x ∷ ys) (all_pass test xs h.1)

pub none_fail : (test : Envelope → Bool) (vs : List Envelope) → AllByRecursion (λ v. test v ≡ true) vs → filter (λ v. not (test v)) vs ≡ []
none_fail test [] h = refl
none_fail test (v ∷ vs) h = ap (λ b. cond (not b) (v ∷ filter (λ u. not (test u)) vs) (filter (λ u. not (test u)) vs)) h.0 ∙ none_fail test vs h.1

pass_all : (test : Envelope → Bool) (vs : List Envelope) → count (λ v. not (test v)) vs ≤ 0 → filter test vs ≡ vs
pass_all test [] h = refl
pass_all test (v ∷ vs) h = elim (test v) as (λ b. length (cond (not b) (v ∷ filter (λ u. not (test u)) vs) (filter (λ u. not (test u)) vs)) ≤ 0 → cond b (v ∷ filter test vs) (filter test vs) ≡ v ∷ vs) [
  | true ↦ λ few. ap (λ us. v ∷ us) (pass_all test vs few)
  | false ↦ λ few. absurd (omega arith)
] h

-- Where line by line the one list is a prefix of the other, whose envelopes all pass a test, its own pass.
pub prefixes_pass : (test : Envelope → Bool) (ts vs : List Envelope) → ((l : ℕ) → Prefix (by l ts) (by l vs)) → AllByRecursion (λ v. test v ≡ true) vs → filter test ts ≡ ts
prefixes_pass test ts vs prefix all =
    let none : count (λ v. not (test v)) vs ≡ 0 = ap length (none_fail test vs all) in
    let fewer : count (λ v. not (test v)) ts ≤ count (λ v. not (test v)) vs = count_lines (λ v. not (test v)) ts vs prefix in
    pass_all test ts (omega arith)

-- ---- filters, and what is nothing

-- two filters are one
pub filter_both : (p q : Envelope → Bool) (vs : List Envelope) → filter q (filter p vs) ≡ filter (λ v. p v && q v) vs
filter_both p q [] = refl
filter_both p q (v ∷ vs) = elim (p v) as (λ b. filter q (cond b (v ∷ filter p vs) (filter p vs)) ≡ cond (b && q v) (v ∷ filter (λ u. p u && q u) vs) (filter (λ u. p u && q u) vs)) [
  | true ↦ ap (λ us. cond (q v) (v ∷ us) us) (filter_both p q vs)
  | false ↦ filter_both p q vs
]

-- the envelopes of a line bear its number
pub of_line : (l : ℕ) (vs : List Envelope) → AllByRecursion (λ (u : Envelope). u.line.0 ≡ l) (by l vs)
of_line l [] = tt
of_line l (v ∷ vs) = at_test (AllByRecursion (λ (u : Envelope). u.line.0 ≡ l)) (eqb v.line.0 l) (v ∷ by l vs) (by l vs) (λ is. (eqb-true v.line.0 l is, of_line l vs)) (λ _. of_line l vs)

-- where nothing of any line is there, nothing is there
pub nothing_there : (vs : List Envelope) → ((l : ℕ) → by l vs ≡ []) → vs ≡ []
nothing_there [] none = refl
nothing_there (v ∷ vs) none =
    let first : by v.line.0 (v ∷ vs) ≡ v ∷ by v.line.0 vs = ap (λ b. cond b (v ∷ by v.line.0 vs) (by v.line.0 vs)) (eq-eqb v.line.0 v.line.0 refl) in
    absurd (search (rules, sym first ∙ none v.line.0))

-- what adds nothing is nothing
pub nothing_more : (us vs : List Envelope) → us ++ vs ≡ us → vs ≡ []
nothing_more us vs same = append_cancel_left us vs [] (same ∙ sym (append-nil us))
