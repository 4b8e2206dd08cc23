-- The members of the roster: their seats, group by group, and the lists of their numbers.
use Rattle.std.proofs.Common.{◌≡◌, ℕ, List, [], ◌∷◌, true, false, cond, eqb, ◌&&◌, Some, refl, sym, ap, ◌∙◌, arith, rules, subst, Result, Ok, Err, ◌<◌, Bool, ◌++◌, map, ◌||◌, not}
use Rattle.hub_core.proofs.Words.{bytes_eq, ◌==◌, IsSome, nat_tests, BTreeMap, get, WritesThrough, remove_key, lookup, OnErr, BTreeSet, insert_key, slice_cmp, is_eq, nat_cmp, ordering_then, Ordering, Less, is_eq-slice_cmp, and_parts, bytes_eq-Decides, Group, is_same_group, group_cmp, numbers_in, seated_with, seated_without, parted, Parts, group_of, numbers_of, Members, AllByRecursion, filter, Greater, nat_cmp_is, false≢true, eqb-true, EndId, RosterNow, is_of_group, has_end, without, numbers_with, is_in, and-false}
use Rattle.std.specs.BTreeMap as tree
use Rattle.hub_core.proofs.Items.{AllByRecursion-append, at_test}

is_eq-nat_cmp : (a b : ℕ) → is_eq (nat_cmp a b) ≡ (a == b)
is_eq-nat_cmp a b = grind (arith, nat_tests)

both_equal : (p q : Ordering) → is_eq (ordering_then p q) ≡ (is_eq p && is_eq q)
both_equal Less q = refl
both_equal _ q = refl

pub is_same : (x y : Group) → is_eq (group_cmp x y) ≡ is_same_group x y
is_same x y =
    both_equal (slice_cmp nat_cmp x.origin y.origin) (slice_cmp nat_cmp x.name y.name)
    ∙ (λ i. is_eq-slice_cmp x.origin y.origin i && is_eq-slice_cmp x.name y.name i)

equal : (xs ys : List ℕ) → bytes_eq xs ys ≡ true → xs ≡ ys
equal xs ys h = search (rules, bytes_eq-Decides xs ys, h)

pub same_group : (x y : Group) → is_same_group x y ≡ true → x ≡ y
same_group x y h =
    let both = and_parts (bytes_eq x.origin y.origin) (bytes_eq x.name y.name) h in
    λ i. record { origin = equal x.origin y.origin both.0 i; name = equal x.name y.name both.1 i }

-- the numbers of each group after one set is written, by what becomes of those that were there
at_set : (change : List ℕ → List ℕ) (old new : BTreeMap Group (BTreeSet ℕ)) (g : Group) (w : BTreeSet ℕ) → tree.Updates group_cmp old new g (Some w) → w.keys ≡ change (numbers_in (get group_cmp old g)) → (k : Group)
    → numbers_in (get group_cmp new k) ≡ cond (is_same_group g k) (change (numbers_in (get group_cmp old k))) (numbers_in (get group_cmp old k))
at_set change old new g w u wrote k =
    ap numbers_in (u.0 k) ∙ ap (λ b. numbers_in (cond b (Some w) (get group_cmp old k))) (is_same g k)
    ∙ elim (is_same_group g k) as (λ b. is_same_group g k ≡ b → numbers_in (cond b (Some w) (get group_cmp old k)) ≡ cond b (change (numbers_in (get group_cmp old k))) (numbers_in (get group_cmp old k))) [
      | true ↦ λ is. wrote ∙ ap (λ h. change (numbers_in (get group_cmp old h))) (same_group g k is)
      | false ↦ λ _. refl
    ] refl

pub seats : (old new : BTreeMap Group (BTreeSet ℕ)) (g : Group) (n : ℕ) (w : BTreeSet ℕ) → tree.Updates group_cmp old new g (Some w) → w.keys ≡ insert_key nat_cmp (numbers_in (get group_cmp old g)) n → (k : Group) → numbers_in (get group_cmp new k) ≡ seated_with g n k (numbers_in (get group_cmp old k))
seats old new g n w u wrote k = at_set (λ ns. insert_key nat_cmp ns n) old new g w u wrote k

pub rests : (old new : BTreeMap Group (BTreeSet ℕ)) (g : Group) (w : BTreeSet ℕ) → tree.Updates group_cmp old new g (Some w) → w.keys ≡ numbers_in (get group_cmp old g) → (k : Group) → numbers_in (get group_cmp new k) ≡ numbers_in (get group_cmp old k)
rests old new g w u wrote k =
    let old_ones : List ℕ = numbers_in (get group_cmp old k) in
    at_set (λ ns. ns) old new g w u wrote k ∙ at_test (λ ns. ns ≡ old_ones) (is_same_group g k) old_ones old_ones (λ _. refl) (λ _. refl)

-- a set that is written through a reference was there
pub written : (old new : BTreeMap Group (BTreeSet ℕ)) (g : Group) (was w : BTreeSet ℕ) → WritesThrough group_cmp (group_cmp g) old w new → Some was ≡ get group_cmp old g → tree.Updates group_cmp old new g (Some w)
written old new g was w writes there = writes.3 (subst (λ o. IsSome o) there refl)

pub was_there : (old : BTreeMap Group (BTreeSet ℕ)) (g : Group) (was : BTreeSet ℕ) → Some was ≡ get group_cmp old g → was.keys ≡ numbers_in (get group_cmp old g)
was_there old g was there = ap numbers_in there

-- removing a number from a list of numbers
pub removes : (n : ℕ) (xs : List ℕ) → remove_key (λ x. is_eq (nat_cmp n x)) xs ≡ seated_without n xs
removes n [] = refl
removes n (x ∷ xs) = (λ i. cond (is_eq-nat_cmp n x i) xs (x ∷ remove_key (λ y. is_eq (nat_cmp n y)) xs)) ∙ ap (λ ys. cond (eqb n x) xs (x ∷ ys)) (removes n xs)

-- a map that was asked for a missing key holds what it held
pub still : (old mid : BTreeMap Group (BTreeSet ℕ)) → mid.entries ≡ old.entries → (k : Group) → get group_cmp mid k ≡ get group_cmp old k
still old mid same k = ap (λ es. lookup (λ h. is_eq (group_cmp k h)) es) same

pub seats_first : (old mid new : BTreeMap Group (BTreeSet ℕ)) (g : Group) (n : ℕ) (w : BTreeSet ℕ) → mid.entries ≡ old.entries → tree.Updates group_cmp mid new g (Some w) → w.keys ≡ insert_key nat_cmp (numbers_in (get group_cmp old g)) n → (k : Group) → numbers_in (get group_cmp new k) ≡ seated_with g n k (numbers_in (get group_cmp old k))
seats_first old mid new g n w same u wrote k =
    seats mid new g n w u (wrote ∙ ap (λ o. insert_key nat_cmp (numbers_in o) n) (sym (still old mid same g))) k
    ∙ ap (λ o. seated_with g n k (numbers_in o)) (still old mid same k)

-- the seats after one set lost a number
pub leaves : (old new : BTreeMap Group (BTreeSet ℕ)) (g : Group) (n : ℕ) (w : BTreeSet ℕ) → tree.Updates group_cmp old new g (Some w) → w.keys ≡ seated_without n (numbers_in (get group_cmp old g)) → (k : Group) → numbers_in (get group_cmp new k) ≡ parted n (Some g) k (numbers_in (get group_cmp old k))
leaves old new g n w u wrote k = at_set (seated_without n) old new g w u wrote k

pub parts : (old new : Members) (g : Group) (n : ℕ) (was w : BTreeSet ℕ) → new.origins ≡ old.origins → new.groups ≡ old.groups → Some g ≡ group_of old n → WritesThrough group_cmp (group_cmp g) old.seated w new.seated → Some was ≡ get group_cmp old.seated g → w.keys ≡ remove_key (λ x. is_eq (nat_cmp n x)) was.keys → Parts n old new
parts old new g n was w origins groups is writes there removed =
    let u = written old.seated new.seated g was w writes there in
    record {
      origins = origins;
      groups = groups;
      seated = λ k. leaves old.seated new.seated g n w u (removed ∙ removes n was.keys ∙ ap (seated_without n) (was_there old.seated g was there)) k ∙ ap (λ o. parted n o k (numbers_of old k)) is;
    }

pub on_err : {T E : Type 0} (r : Result T E) (P : Type 0) → P → OnErr r P
on_err (Ok x) P p = tt
on_err (Err e) P p = p

-- ==== The members of the roster, as lists of their numbers.

-- ---- groups

bytes_same : (xs : List ℕ) → bytes_eq xs xs ≡ true
bytes_same xs = (bytes_eq-Decides xs xs).1 refl

pub group_same : (g : Group) → is_same_group g g ≡ true
group_same g = rw (bytes_same g.origin, bytes_same g.name) refl

pub group_flips : (g k : Group) → is_same_group g k ≡ is_same_group k g
group_flips g k = elim (is_same_group g k) as (λ b. is_same_group g k ≡ b → b ≡ is_same_group k g) [
  | true ↦ λ is. sym (ap (λ h. is_same_group k h) (same_group g k is) ∙ group_same k)
  | false ↦ λ other. elim (is_same_group k g) as (λ c. is_same_group k g ≡ c → false ≡ c) [
    | true ↦ λ is. absurd (false≢true (sym other ∙ (ap (λ h. is_same_group g h) (same_group k g is) ∙ group_same g)))
    | false ↦ λ _. refl
  ] refl
] refl

-- ---- one number more

-- a number above all others comes last
pub insert_last : (xs : List ℕ) (n : ℕ) → AllByRecursion (λ x. x < n) xs → insert_key nat_cmp xs n ≡ xs ++ n ∷ []
insert_last [] n h = refl
insert_last (x ∷ xs) n h =
    let above : nat_cmp n x ≡ Greater = greater n x h.0 in
    rw above (ap (λ ys. x ∷ ys) (insert_last xs n h.1))
  where
    greater : (n x : ℕ) → x < n → nat_cmp n x ≡ Greater
    greater n x less = sym (nat_cmp_is n x Greater less)

-- the numbers of a group, with an end more
pub numbers_more : (r : RosterNow) (k : Group) (ys : List EndId) (y : EndId) → numbers_with r k (ys ++ y ∷ []) ≡ numbers_with r k ys ++ cond (is_of_group k (r.group y.0)) (y.0 ∷ []) []
numbers_more r k [] y = elim (is_of_group k (r.group y.0)) as (λ b. map (λ (z : EndId). z.0) (cond b (y ∷ []) []) ≡ cond b (y.0 ∷ []) []) [ true ↦ refl | false ↦ refl ]
numbers_more r k (x ∷ xs) y = elim (is_of_group k (r.group x.0)) as (λ b. map (λ (z : EndId). z.0) (cond b (x ∷ filter (λ z. is_of_group k (r.group z.0)) (xs ++ y ∷ [])) (filter (λ z. is_of_group k (r.group z.0)) (xs ++ y ∷ []))) ≡ map (λ (z : EndId). z.0) (cond b (x ∷ filter (λ z. is_of_group k (r.group z.0)) xs) (filter (λ z. is_of_group k (r.group z.0)) xs)) ++ cond (is_of_group k (r.group y.0)) (y.0 ∷ []) []) [
  | true ↦ ap (λ ns. x.0 ∷ ns) (numbers_more r k xs y)
  | false ↦ numbers_more r k xs y
]

-- the numbers of a group are those of members
pub numbers_below : (r : RosterNow) (k : Group) (n : ℕ) (ys : List EndId) → AllByRecursion (λ (y : EndId). y.0 < n) ys → AllByRecursion (λ x. x < n) (numbers_with r k ys)
numbers_below r k n [] h = tt
numbers_below r k n (y ∷ ys) h = at_test (λ zs. AllByRecursion (λ x. x < n) (map (λ (z : EndId). z.0) zs)) (is_of_group k (r.group y.0)) (y ∷ filter (λ z. is_of_group k (r.group z.0)) ys) (filter (λ z. is_of_group k (r.group z.0)) ys) (λ _. (h.0, numbers_below r k n ys h.1)) (λ _. numbers_below r k n ys h.1)

-- groups that are the same at each of these ends
pub numbers_same : (r w : RosterNow) (k : Group) (ys : List EndId) → AllByRecursion (λ (y : EndId). w.group y.0 ≡ r.group y.0) ys → numbers_with w k ys ≡ numbers_with r k ys
numbers_same r w k [] h = refl
numbers_same r w k (y ∷ ys) h =
    ap (λ o. map (λ (z : EndId). z.0) (cond (is_of_group k o) (y ∷ filter (λ z. is_of_group k (w.group z.0)) ys) (filter (λ z. is_of_group k (w.group z.0)) ys))) h.0
    ∙ elim (is_of_group k (r.group y.0)) as (λ b. map (λ (z : EndId). z.0) (cond b (y ∷ filter (λ z. is_of_group k (w.group z.0)) ys) (filter (λ z. is_of_group k (w.group z.0)) ys)) ≡ map (λ (z : EndId). z.0) (cond b (y ∷ filter (λ z. is_of_group k (r.group z.0)) ys) (filter (λ z. is_of_group k (r.group z.0)) ys))) [
      | true ↦ ap (λ ns. y.0 ∷ ns) (numbers_same r w k ys h.1)
      | false ↦ numbers_same r w k ys h.1
    ]

-- ---- one number less

less_first : (r : RosterNow) (k : Group) (x : ℕ) (y : EndId) (ys : List EndId) → x ≡ y.0 → eqb x y.0 ≡ true → numbers_with r k ys ≡ cond (is_of_group k (r.group x)) (seated_without x (numbers_with r k (y ∷ ys))) (numbers_with r k (y ∷ ys))
less_first r k x y ys same is =
    let rest : List ℕ = numbers_with r k ys in
    let at : is_of_group k (r.group x) ≡ is_of_group k (r.group y.0) = ap (λ n. is_of_group k (r.group n)) same in
    elim (is_of_group k (r.group y.0)) as (λ b. rest ≡ cond b (seated_without x (map (λ (z : EndId). z.0) (cond b (y ∷ filter (λ z. is_of_group k (r.group z.0)) ys) (filter (λ z. is_of_group k (r.group z.0)) ys)))) (map (λ (z : EndId). z.0) (cond b (y ∷ filter (λ z. is_of_group k (r.group z.0)) ys) (filter (λ z. is_of_group k (r.group z.0)) ys)))) [
      | true ↦ sym (ap (λ c. cond c rest (y.0 ∷ seated_without x rest)) is)
      | false ↦ refl
    ] ∙ ap (λ b. cond b (seated_without x (numbers_with r k (y ∷ ys))) (numbers_with r k (y ∷ ys))) (sym at)

less_later : (r : RosterNow) (k : Group) (x : ℕ) (y : EndId) (ys : List EndId) → eqb x y.0 ≡ false → numbers_with r k (without x ys) ≡ cond (is_of_group k (r.group x)) (seated_without x (numbers_with r k ys)) (numbers_with r k ys) → numbers_with r k (y ∷ without x ys) ≡ cond (is_of_group k (r.group x)) (seated_without x (numbers_with r k (y ∷ ys))) (numbers_with r k (y ∷ ys))
less_later r k x y ys other more =
    let rest : List ℕ = numbers_with r k ys in
    elim (is_of_group k (r.group y.0)) as (λ b. map (λ (z : EndId). z.0) (cond b (y ∷ filter (λ z. is_of_group k (r.group z.0)) (without x ys)) (filter (λ z. is_of_group k (r.group z.0)) (without x ys))) ≡ cond (is_of_group k (r.group x)) (seated_without x (map (λ (z : EndId). z.0) (cond b (y ∷ filter (λ z. is_of_group k (r.group z.0)) ys) (filter (λ z. is_of_group k (r.group z.0)) ys)))) (map (λ (z : EndId). z.0) (cond b (y ∷ filter (λ z. is_of_group k (r.group z.0)) ys) (filter (λ z. is_of_group k (r.group z.0)) ys)))) [
      | true ↦
          ap (λ ns. y.0 ∷ ns) more
          ∙ elim (is_of_group k (r.group x)) as (λ c. y.0 ∷ cond c (seated_without x rest) rest ≡ cond c (cond (eqb x y.0) rest (y.0 ∷ seated_without x rest)) (y.0 ∷ rest)) [
            | true ↦ sym (ap (λ c. cond c rest (y.0 ∷ seated_without x rest)) other)
            | false ↦ refl
          ]
      | false ↦ more
    ]

either_one : (b : Bool) (xs : List ℕ) → xs ≡ cond b xs xs
either_one true xs = refl
either_one false xs = refl

pub numbers_less : (r : RosterNow) (k : Group) (x : ℕ) (ys : List EndId) → numbers_with r k (without x ys) ≡ cond (is_of_group k (r.group x)) (seated_without x (numbers_with r k ys)) (numbers_with r k ys)
numbers_less r k x [] = either_one (is_of_group k (r.group x)) []
numbers_less r k x (y ∷ ys) = elim (eqb x y.0) as (λ c. eqb x y.0 ≡ c → numbers_with r k (cond c ys (y ∷ without x ys)) ≡ cond (is_of_group k (r.group x)) (seated_without x (numbers_with r k (y ∷ ys))) (numbers_with r k (y ∷ ys))) [
  | true ↦ λ is. less_first r k x y ys (eqb-true x y.0 is) is
  | false ↦ λ other. less_later r k x y ys other (numbers_less r k x ys)
] refl

-- ---- who is there

in_first : (r : RosterNow) (k : Group) (x : ℕ) (y : EndId) (ys : List EndId) → eqb x y.0 ≡ true → x ≡ y.0 → is_in x (numbers_with r k ys) ≡ (has_end x ys && is_of_group k (r.group x)) → is_in x (numbers_with r k (y ∷ ys)) ≡ is_of_group k (r.group x)
in_first r k x y ys is same more = elim (is_of_group k (r.group y.0)) as (λ b. is_of_group k (r.group y.0) ≡ b → is_in x (map (λ (z : EndId). z.0) (cond b (y ∷ filter (λ z. is_of_group k (r.group z.0)) ys) (filter (λ z. is_of_group k (r.group z.0)) ys))) ≡ is_of_group k (r.group x)) [
  | true ↦ λ of. ap (λ c. c || is_in x (numbers_with r k ys)) is ∙ sym (ap (λ n. is_of_group k (r.group n)) same ∙ of)
  | false ↦ λ none. more ∙ ap (λ b. has_end x ys && b) (ap (λ n. is_of_group k (r.group n)) same ∙ none) ∙ and-false (has_end x ys) ∙ sym (ap (λ n. is_of_group k (r.group n)) same ∙ none)
] refl

in_later : (r : RosterNow) (k : Group) (x : ℕ) (y : EndId) (ys : List EndId) → eqb x y.0 ≡ false → is_in x (numbers_with r k ys) ≡ (has_end x ys && is_of_group k (r.group x)) → is_in x (numbers_with r k (y ∷ ys)) ≡ (has_end x ys && is_of_group k (r.group x))
in_later r k x y ys other more = elim (is_of_group k (r.group y.0)) as (λ b. is_in x (map (λ (z : EndId). z.0) (cond b (y ∷ filter (λ z. is_of_group k (r.group z.0)) ys) (filter (λ z. is_of_group k (r.group z.0)) ys))) ≡ (has_end x ys && is_of_group k (r.group x))) [
  | true ↦ ap (λ c. c || is_in x (numbers_with r k ys)) other ∙ more
  | false ↦ more
]

pub is_in_with : (r : RosterNow) (k : Group) (x : ℕ) (ys : List EndId) → is_in x (numbers_with r k ys) ≡ (has_end x ys && is_of_group k (r.group x))
is_in_with r k x [] = refl
is_in_with r k x (y ∷ ys) = elim (eqb x y.0) as (λ c. eqb x y.0 ≡ c → is_in x (numbers_with r k (y ∷ ys)) ≡ ((c || has_end x ys) && is_of_group k (r.group x))) [
  | true ↦ λ is. in_first r k x y ys is (eqb-true x y.0 is) (is_in_with r k x ys)
  | false ↦ λ other. in_later r k x y ys other (is_in_with r k x ys)
] refl

-- ---- destinations

pub others_with : (r : RosterNow) (g : Group) (x : ℕ) (ys : List EndId) → map (λ n. let e : EndId = record { 0 = n } in e) (filter (λ n. not (n == x)) (numbers_with r g ys)) ≡ filter (λ y. is_of_group g (r.group y.0) && not (y.0 == x)) ys
others_with r g x [] = refl
others_with r g x (y ∷ ys) = elim (is_of_group g (r.group y.0)) as (λ b. map (λ n. let e : EndId = record { 0 = n } in e) (filter (λ n. not (n == x)) (map (λ (z : EndId). z.0) (cond b (y ∷ filter (λ z. is_of_group g (r.group z.0)) ys) (filter (λ z. is_of_group g (r.group z.0)) ys)))) ≡ cond (b && not (y.0 == x)) (y ∷ filter (λ z. is_of_group g (r.group z.0) && not (z.0 == x)) ys) (filter (λ z. is_of_group g (r.group z.0) && not (z.0 == x)) ys)) [
  | true ↦ elim (not (y.0 == x)) as (λ c. map (λ n. let e : EndId = record { 0 = n } in e) (cond c (y.0 ∷ filter (λ n. not (n == x)) (numbers_with r g ys)) (filter (λ n. not (n == x)) (numbers_with r g ys))) ≡ cond c (y ∷ filter (λ z. is_of_group g (r.group z.0) && not (z.0 == x)) ys) (filter (λ z. is_of_group g (r.group z.0) && not (z.0 == x)) ys)) [
    | true ↦ ap (λ zs. y ∷ zs) (others_with r g x ys)
    | false ↦ others_with r g x ys
  ]
  | false ↦ others_with r g x ys
]

-- ---- what holds of each

pub all_more : {A : Type 0} (P : A → Type 0) (xs : List A) (x : A) → AllByRecursion P xs → P x → AllByRecursion P (xs ++ x ∷ [])
all_more P xs x h p = AllByRecursion-append P xs (x ∷ []) h (p, tt)

pub all_without : (P : EndId → Type 0) (x : ℕ) (ys : List EndId) → AllByRecursion P ys → AllByRecursion P (without x ys)
all_without P x [] h = tt
all_without P x (y ∷ ys) h = at_test (AllByRecursion P) (eqb x y.0) ys (y ∷ without x ys) (λ _. h.1) (λ _. (h.0, all_without P x ys h.1))

pub all_at : (P : EndId → Type 0) (x : ℕ) (ys : List EndId) → AllByRecursion P ys → has_end x ys ≡ true → P (record { 0 = x })
all_at P x [] h there = absurd (false≢true there)
all_at P x (y ∷ ys) h there = elim (eqb x y.0) as (λ c. eqb x y.0 ≡ c → (c || has_end x ys) ≡ true → P (record { 0 = x })) [
  | true ↦ λ is _. subst (λ n. P (record { 0 = n })) (sym (eqb-true x y.0 is)) h.0
  | false ↦ λ _ later. all_at P x ys h.1 later
] refl there
