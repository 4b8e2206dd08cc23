-- What names name and who holds them, as predicates say it.
use Rattle.std.proofs.Common.{◌≡◌, ◌⊎◌, ℕ, ◌+◌, ◌<◌, ◌≤◌, List, [], ◌∷◌, Bool, true, false, not, cond, ◌&&◌, ◌||◌, Option, Some, None, refl, ap, sym, ◌∙◌, subst, inl, inr, arith}
use Rattle.std.specs.Bool.{Decides, ◌==◌}
use Rattle.std.specs.Cmp.Lexicographic.{bytes_decides}
use Rattle.std.specs.List.{AllZip, Contains}
use Rattle.std.specs.Str.{bytes_eq}
use Rattle.std.proofs.lemmas.Bool.{or_from}
use Rattle.std.proofs.lemmas.Bool.Decides.{Decides-and, Decides-eqb, Decides-like, Decides-not, Decides-or, not_from_Decides}
use Rattle.std.proofs.lemmas.List.Elements.{Contains-append_cases, Contains-append_left, Contains-append_right, Contains-push, Contains-push_cases}
use Rattle.hub_envelope.specs.declared.ids.AgentId.{AgentId}
use Rattle.hub_script.specs.declared.script_reader.NameHolder.{NameHolder}
use Rattle.hub_script.specs.declared.script_reader.NamedEnd.{NamedEnd}
use Rattle.hub_script.specs.declared.script_reader.NameKind.{NameKind}
use Rattle.hub_script.specs.declared.script_reader.NameKind.TheVariants.{Port, Member}
use Rattle.hub_script.specs.Known.{giving, giving_all, holding, is_same_holding, naming_more, taking_more}

-- ---- what a name names

abbrev pub KindAs : NameKind → Type 0 → Type 0 → Type 0
KindAs Port P M = P × (¬ M)
KindAs Member P M = M × (¬ P)

abbrev pub NameAs : Option NamedEnd → Type 0 → Type 0 → Type 0
NameAs None P M = (¬ P) × (¬ M)
NameAs (Some x) P M = KindAs x.kind P M

-- names name ports and members as the two predicates say
abbrev pub NamesAs : (List ℕ → Option NamedEnd) → (List ℕ → Type 0) → (List ℕ → Type 0) → Type 0
NamesAs names P M = (n : List ℕ) → NameAs (names n) (P n) (M n)

kind_like : (kind : NameKind) (P Q M N : Type 0) → (P → Q) → (Q → P) → (M → N) → (N → M) → KindAs kind P M → KindAs kind Q N
kind_like Port P Q M N pq qp mn nm h = (pq h.0, λ x. h.1 (nm x))
kind_like Member P Q M N pq qp mn nm h = (mn h.0, λ x. h.1 (qp x))

pub name_like : (o : Option NamedEnd) (P Q M N : Type 0) → (P → Q) → (Q → P) → (M → N) → (N → M) → NameAs o P M → NameAs o Q N
name_like None P Q M N pq qp mn nm h = ((λ x. h.0 (qp x)), λ x. h.1 (nm x))
name_like (Some x) P Q M N pq qp mn nm h = kind_like x.kind P Q M N pq qp mn nm h

-- ---- one name more

same_text : (m n : List ℕ) → bytes_eq m n ≡ true → m ≡ n
same_text m n h = (bytes_decides m n).0 h

other_text : (m n : List ℕ) → bytes_eq m n ≡ false → ¬ (m ≡ n)
other_text m n h = not_from_Decides (bytes_eq m n) (bytes_decides m n) h

pub port_declared : (names : List ℕ → Option NamedEnd) (P M : List ℕ → Type 0) (m : List ℕ) (x : NamedEnd) → NamesAs names P M → ¬ M m → x.kind ≡ Port
    → NamesAs (naming_more m x names) (λ n. (m ≡ n) ⊎ P n) M
port_declared names P M m x h other kind n = by (bytes_eq m n) refl
  where
    by : (b : Bool) → bytes_eq m n ≡ b → NameAs (cond b (Some x) (names n)) ((m ≡ n) ⊎ P n) (M n)
    by true e = subst (λ k. KindAs k ((m ≡ n) ⊎ P n) (M n)) (sym kind) (inl (same_text m n e), λ g. other (subst M (sym (same_text m n e)) g))
    by false e = name_like (names n) (P n) ((m ≡ n) ⊎ P n) (M n) (M n) (λ p. inr p) (elim [ inl s ↦ absurd (other_text m n e s) | inr p ↦ p ]) (λ g. g) (λ g. g) (h n)

pub member_declared : (names : List ℕ → Option NamedEnd) (P M : List ℕ → Type 0) (m : List ℕ) (x : NamedEnd) → NamesAs names P M → ¬ P m → x.kind ≡ Member
    → NamesAs (naming_more m x names) P (λ n. (m ≡ n) ⊎ M n)
member_declared names P M m x h other kind n = by (bytes_eq m n) refl
  where
    by : (b : Bool) → bytes_eq m n ≡ b → NameAs (cond b (Some x) (names n)) (P n) ((m ≡ n) ⊎ M n)
    by true e = subst (λ k. KindAs k (P n) ((m ≡ n) ⊎ M n)) (sym kind) (inl (same_text m n e), λ g. other (subst P (sym (same_text m n e)) g))
    by false e = name_like (names n) (P n) (P n) (M n) ((m ≡ n) ⊎ M n) (λ g. g) (λ g. g) (λ p. inr p) (elim [ inl s ↦ absurd (other_text m n e s) | inr p ↦ p ]) (h n)

looked : (m n : List ℕ) (x y : NamedEnd) (names : List ℕ → Option NamedEnd) → naming_more m x names n ≡ Some y
    → ((m ≡ n) × (x ≡ y)) ⊎ ((¬ (m ≡ n)) × (names n ≡ Some y))
looked m n x y names = by (bytes_eq m n) refl
  where
    by : (b : Bool) → bytes_eq m n ≡ b → cond b (Some x) (names n) ≡ Some y → ((m ≡ n) × (x ≡ y)) ⊎ ((¬ (m ≡ n)) × (names n ≡ Some y))
    by true e h = inl (same_text m n e, (cc))
    by false e h = inr (other_text m n e, h)

-- ---- numbers of names

-- names have different numbers below the count
pub record IsNumbered (names : List ℕ → Option NamedEnd) (count : ℕ) : Type 0 where
  pub below : (n : List ℕ) (x : NamedEnd) → names n ≡ Some x → x.number < count
  pub apart : (n m : List ℕ) (x y : NamedEnd) → names n ≡ Some x → names m ≡ Some y → x.number ≡ y.number → n ≡ m

pub numbered_more : (names : List ℕ → Option NamedEnd) (count : ℕ) (m : List ℕ) (x : NamedEnd) → IsNumbered names count → x.number ≡ count → IsNumbered (naming_more m x names) (count + 1)
numbered_more names count m x h e = record { below = below_more; apart = apart_more }
  where
    number_of : (y : NamedEnd) → x ≡ y → y.number ≡ count
    number_of y s = sym (ap (λ (z : NamedEnd). z.number) s) ∙ e

    below_more : (n : List ℕ) (y : NamedEnd) → naming_more m x names n ≡ Some y → y.number < count + 1
    below_more n y g = by (looked m n x y names g)
      where
        by : ((m ≡ n) × (x ≡ y)) ⊎ ((¬ (m ≡ n)) × (names n ≡ Some y)) → y.number < count + 1
        by (inl p) = let s : y.number ≡ count = number_of y p.1 in omega arith
        by (inr p) = let s : y.number < count = h.below n y p.1 in omega arith

    apart_more : (n l : List ℕ) (y z : NamedEnd) → naming_more m x names n ≡ Some y → naming_more m x names l ≡ Some z → y.number ≡ z.number → n ≡ l
    apart_more n l y z g k same = by (looked m n x y names g) (looked m l x z names k)
      where
        by : ((m ≡ n) × (x ≡ y)) ⊎ ((¬ (m ≡ n)) × (names n ≡ Some y)) → ((m ≡ l) × (x ≡ z)) ⊎ ((¬ (m ≡ l)) × (names l ≡ Some z)) → n ≡ l
        by (inl p) (inl q) = sym p.0 ∙ q.0
        by (inl p) (inr q) = let s : y.number ≡ count = number_of y p.1 in let t : z.number < count = h.below l z q.1 in absurd (omega arith)
        by (inr p) (inl q) = let s : z.number ≡ count = number_of z q.1 in let t : y.number < count = h.below n y p.1 in absurd (omega arith)
        by (inr p) (inr q) = h.apart n l y z p.1 q.1 same

-- nobody holds a name that isn't counted yet
abbrev pub IsFresh : (NameHolder → Bool) → ℕ → Type 0
IsFresh holds count = (h : NameHolder) → count ≤ h.number → holds h ≡ false

same_holding : (b a : AgentId) (y x : NamedEnd) → Decides (is_same_holding (holding b y) (holding a x)) ((b.0 ≡ a.0) × (y.number ≡ x.number))
same_holding b a y x = Decides-and (b.0 == a.0) (y.number == x.number) (Decides-eqb b.0 a.0) (Decides-eqb y.number x.number)

other_number : (a : AgentId) (x : NamedEnd) (h : NameHolder) → x.number < h.number → is_same_holding (holding a x) h ≡ false
other_number a x h l = by (a.0 == h.agent) (x.number == h.number) (Decides-eqb x.number h.number)
  where
    by : (s t : Bool) → Decides t (x.number ≡ h.number) → (s && t) ≡ false
    by false t d = refl
    by true false d = refl
    by true true d = let e : x.number ≡ h.number = d.0 refl in absurd (omega arith)

pub fresh_with : (holds : NameHolder → Bool) (count more : ℕ) (a : AgentId) (x : NamedEnd) → IsFresh holds count → x.number < more → count ≤ more → IsFresh (taking_more (holding a x) holds) more
fresh_with holds count more a x fresh l u h g = or_from (is_same_holding (holding a x) h) (holds h) (other_number a x h (omega arith)) (fresh h (omega arith))

-- ---- who holds what

-- agents hold the names as the predicate says
abbrev pub HoldsAs : (List ℕ → Option NamedEnd) → (NameHolder → Bool) → (ℕ → List ℕ → Type 0) → Type 0
HoldsAs names holds H = (a : AgentId) (n : List ℕ) (x : NamedEnd) → names n ≡ Some x → Decides (holds (holding a x)) (H a.0 n)

pub holds_like : (names : List ℕ → Option NamedEnd) (holds : NameHolder → Bool) (H G : ℕ → List ℕ → Type 0) → ((a : ℕ) (n : List ℕ) → H a n → G a n) → ((a : ℕ) (n : List ℕ) → G a n → H a n) → HoldsAs names holds H → HoldsAs names holds G
holds_like names holds H G there back h a n x is = Decides-like (holds (holding a x)) (there a.0 n) (back a.0 n) (h a n x is)

-- a name is declared at an agent
pub holds_declared : (names : List ℕ → Option NamedEnd) (holds : NameHolder → Bool) (H : ℕ → List ℕ → Type 0) (count : ℕ) (m : List ℕ) (x : NamedEnd) (b : AgentId)
    → HoldsAs names holds H → IsNumbered names count → IsFresh holds count → x.number ≡ count → ((a : ℕ) → ¬ H a m)
    → HoldsAs (naming_more m x names) (taking_more (holding b x) holds) (λ a n. ((b.0 ≡ a) × (m ≡ n)) ⊎ H a n)
holds_declared names holds H count m x b h numbered fresh number nobody a n y is = by (looked m n x y names is)
  where
    test : Bool
    test = is_same_holding (holding b x) (holding a y)

    by : ((m ≡ n) × (x ≡ y)) ⊎ ((¬ (m ≡ n)) × (names n ≡ Some y)) → Decides (test || holds (holding a y)) (((b.0 ≡ a.0) × (m ≡ n)) ⊎ H a.0 n)
    by (inl p) =
        let level : x.number ≡ y.number = ap (λ (z : NamedEnd). z.number) p.1 in
        let none : holds (holding a y) ≡ false = fresh (holding a y) (omega arith) in
        let nobody_holds : Decides (holds (holding a y)) ⊥ = ((λ t. (let s : true ≡ false = sym t ∙ none in cc)), λ f. absurd f) in
        Decides-like (test || holds (holding a y))
        (elim [ inl q ↦ inl (q.0, p.0) | inr f ↦ absurd f ])
        (elim [ inl q ↦ inl (q.0, level) | inr f ↦ absurd (nobody a.0 (subst (H a.0) (sym p.0) f)) ])
        (Decides-or test (holds (holding a y)) (same_holding b a x y) nobody_holds)
    by (inr p) =
        let low : y.number < count = numbered.below n y p.1 in
        Decides-like (test || holds (holding a y))
        (elim [ inl q ↦ absurd (let e : x.number ≡ y.number = q.1 in omega arith) | inr f ↦ inr f ])
        (elim [ inl q ↦ absurd (p.0 q.1) | inr f ↦ inr f ])
        (Decides-or test (holds (holding a y)) (same_holding b a x y) (h a n y p.1))

same_name : (names : List ℕ → Option NamedEnd) (count : ℕ) (m n : List ℕ) (x y : NamedEnd) → IsNumbered names count → names m ≡ Some x → names n ≡ Some y → m ≡ n → x.number ≡ y.number
same_name names count m n x y numbered is other same = let e : Some x ≡ Some y = sym is ∙ ap names same ∙ other in let s : x ≡ y = cc in ap (λ (z : NamedEnd). z.number) s

same_by_name : (names : List ℕ → Option NamedEnd) (count : ℕ) (m n : List ℕ) (x y : NamedEnd) (b a : AgentId) → IsNumbered names count → names m ≡ Some x → names n ≡ Some y
    → Decides (is_same_holding (holding b x) (holding a y)) ((b.0 ≡ a.0) × (m ≡ n))
same_by_name names count m n x y b a numbered is other =
    Decides-like (is_same_holding (holding b x) (holding a y)) (λ q. (q.0, numbered.apart m n x y is other q.1)) (λ q. (q.0, same_name names count m n x y numbered is other q.1)) (same_holding b a x y)

-- an agent receives a port
pub holds_received : (names : List ℕ → Option NamedEnd) (holds : NameHolder → Bool) (H : ℕ → List ℕ → Type 0) (count : ℕ) (m : List ℕ) (x : NamedEnd) (b : AgentId)
    → HoldsAs names holds H → IsNumbered names count → names m ≡ Some x
    → HoldsAs names (taking_more (holding b x) holds) (λ a n. ((b.0 ≡ a) × (m ≡ n)) ⊎ H a n)
holds_received names holds H count m x b h numbered is a n y other =
    Decides-or (is_same_holding (holding b x) (holding a y)) (holds (holding a y)) (same_by_name names count m n x y b a numbered is other) (h a n y other)

-- an agent gives up what it held
pub holds_given : (names : List ℕ → Option NamedEnd) (holds : NameHolder → Bool) (H : ℕ → List ℕ → Type 0) (count : ℕ) (m : List ℕ) (x : NamedEnd) (b : AgentId)
    → HoldsAs names holds H → IsNumbered names count → names m ≡ Some x
    → HoldsAs names (giving (holding b x) holds) (λ a n. (¬ ((b.0 ≡ a) × (m ≡ n))) × H a n)
holds_given names holds H count m x b h numbered is a n y other =
    Decides-and (not (is_same_holding (holding b x) (holding a y))) (holds (holding a y)) (Decides-not (is_same_holding (holding b x) (holding a y)) (same_by_name names count m n x y b a numbered is other)) (h a n y other)

pub fresh_given : (holds : NameHolder → Bool) (count : ℕ) (g : NameHolder) → IsFresh holds count → IsFresh (giving g holds) count
fresh_given holds count g fresh h l = by (is_same_holding g h) (fresh h l)
  where
    by : (b : Bool) → holds h ≡ false → (not b && holds h) ≡ false
    by true e = refl
    by false e = e

pub fresh_all : (holds : NameHolder → Bool) (count : ℕ) (a : AgentId) (xs : List NamedEnd) → IsFresh holds count → IsFresh (giving_all a xs holds) count
fresh_all holds count a [] fresh = fresh
fresh_all holds count a (x ∷ xs) fresh = fresh_all (giving (holding a x) holds) count a xs (fresh_given holds count (holding a x) fresh)

pub contains_cases : {X : Type 0} (m : X) (ms : List X) (n : X) → Contains (m ∷ ms) n → (m ≡ n) ⊎ Contains ms n
contains_cases m ms n h = by (Contains-append_cases (m ∷ []) ms n h)
  where
    one : Contains [] n ⊎ (m ≡ n) → (m ≡ n) ⊎ Contains ms n
    one (inl c) = absurd (omega (arith, c.1))
    one (inr e) = inl e

    by : Contains (m ∷ []) n ⊎ Contains ms n → (m ≡ n) ⊎ Contains ms n
    by (inl c) = one (Contains-push_cases [] m n c)
    by (inr c) = inr c

pub contains_first : {X : Type 0} (m : X) (ms : List X) → Contains (m ∷ ms) m
contains_first m ms = Contains-append_left (m ∷ []) ms m (Contains-push [] m)

pub contains_rest : {X : Type 0} (m : X) (ms : List X) (n : X) → Contains ms n → Contains (m ∷ ms) n
contains_rest m ms n h = Contains-append_right (m ∷ []) ms n h

-- an agent transfers ports
pub holds_transferred : (names : List ℕ → Option NamedEnd) (holds : NameHolder → Bool) (H : ℕ → List ℕ → Type 0) (count : ℕ) (ms : List (List ℕ)) (xs : List NamedEnd) (b : AgentId)
    → HoldsAs names holds H → IsNumbered names count → AllZip (λ m x. names m ≡ Some x) ms xs
    → HoldsAs names (giving_all b xs holds) (λ a n. (¬ ((b.0 ≡ a) × Contains ms n)) × H a n)
holds_transferred names holds H count [] [] b h numbered are =
    holds_like names holds H (λ a n. (¬ ((b.0 ≡ a) × Contains [] n)) × H a n) (λ a n g. ((λ c. omega (arith, c.1.1)), g)) (λ a n g. g.1) h
holds_transferred names holds H count [] (x ∷ xs) b h numbered are = absurd are
holds_transferred names holds H count (m ∷ ms) [] b h numbered are = absurd are
holds_transferred names holds H count (m ∷ ms) (x ∷ xs) b h numbered are =
    let first : HoldsAs names (giving (holding b x) holds) (λ a n. (¬ ((b.0 ≡ a) × (m ≡ n))) × H a n) = holds_given names holds H count m x b h numbered are.0 in
    holds_like names (giving_all b xs (giving (holding b x) holds)) (λ a n. (¬ ((b.0 ≡ a) × Contains ms n)) × ((¬ ((b.0 ≡ a) × (m ≡ n))) × H a n)) (λ a n. (¬ ((b.0 ≡ a) × Contains (m ∷ ms) n)) × H a n)
    (λ a n g. ((λ c. elim (contains_cases m ms n c.1) [ inl e ↦ g.1.0 (c.0, e) | inr r ↦ g.0 (c.0, r) ]), g.1.1))
    (λ a n g. ((λ c. g.0 (c.0, contains_rest m ms n c.1)), ((λ c. g.0 (c.0, subst (Contains (m ∷ ms)) c.1 (contains_first m ms))), g.1)))
    (holds_transferred names (giving (holding b x) holds) (λ a n. (¬ ((b.0 ≡ a) × (m ≡ n))) × H a n) count ms xs b first numbered are.1)
