-- A form is read of an object exactly where the object has that form.
use Rattle.std.proofs.Common.{◌≡◌, ℕ, List, [], ◌∷◌, Bool, true, false, cond, Option, Some, None, Ok, Err, refl, ap, sym, ◌∙◌, subst, inl, inr}
use Rattle.std.specs.Cmp.Lexicographic.{bytes_decides, slice_cmp}
use Rattle.std.specs.List.{find, list_all}
use Rattle.std.specs.Ordering.{is_eq, match_ordering, nat_cmp}
use Rattle.std.specs.declared.cmp.Ordering.{Ordering}
use Rattle.std.specs.declared.cmp.Ordering.TheVariants.{Less, Equal, Greater}
use Rattle.std.specs.Prelude.{is_some}
use Rattle.std.proofs.lemmas.Bool.{and_from, and_parts}
use Rattle.std.proofs.lemmas.Map.Text.{is_eq-slice_cmp}
use Rattle.serde_json.specs.Data.{Data, null, object, Members, no_members, member}
use Rattle.serde_json.specs.Find.{get, get_member}
use Rattle.hub_text.specs.Reading.{◌>>=◌, some_or}
use Rattle.hub_script.specs.declared.form.Form.{Form}
use Rattle.hub_script.specs.declared.keyword.Keyword.{Keyword}
use Rattle.hub_script.specs.declared.keyword.Keyword.TheVariants.{Agent}
use Rattle.hub_script.specs.declared.keyword.TheConstants.{KEYWORDS}
use Rattle.hub_script.specs.declared.error.ScriptError.TheVariants.{Syntax, UnknownAction}
use Rattle.hub_script.specs.Fields.{field_in, member_names}
use Rattle.hub_script.specs.Form.{fields_in, form_by, form_in, form_with, has_only, object_form}
use Rattle.hub_script.specs.Shapes.{Fields, FieldValue, FormOf, Shape, shape, fields_of, first_name, has_name, keyword_of, shape_of, form_word}
use Rattle.hub_script.specs.Shown.{HasFields, HasForm, HasOnly, HasShape, MayMiss}
use Rattle.hub_script.proofs.FieldsRead.{IsSyntax, bound, field_found, field_is, field_syntax, then_syntax}

-- ---- the fields, in order

fields_are : (fields : Fields) (made : FormOf fields) (d : Data) (f : Form) → HasFields fields made d f → fields_in fields made d ≡ Ok f
fields_are [] made d f h = ap (λ (g : Form). Ok g) h
fields_are (x ∷ fields) made d f h = ap (λ r. r >>= λ value. fields_in fields (made value) d) (field_is x.1 x.0 d h.0 h.1) ∙ fields_are fields (made h.0) d f h.2

fields_found : (fields : Fields) (made : FormOf fields) (d : Data) (f : Form) → fields_in fields made d ≡ Ok f → HasFields fields made d f
fields_found [] made d f h = cc
fields_found (x ∷ fields) made d f h =
    let here = bound (field_in x.1 x.0 d) (λ value. fields_in fields (made value) d) f h in
    (here.0, field_found x.1 x.0 d here.0 here.1, fields_found fields (made here.0) d f here.2)

fields_syntax : (fields : Fields) (made : FormOf fields) (d : Data) → IsSyntax (fields_in fields made d)
fields_syntax [] made d = λ e h. absurd (cc)
fields_syntax (x ∷ fields) made d = then_syntax (field_in x.1 x.0 d) (λ value. fields_in fields (made value) d) (field_syntax x.1 x.0 d) (λ value. fields_syntax fields (made value) d)

shape_is : (s : Shape) (d : Data) (f : Form) → HasShape s d f → form_in s d ≡ Ok f
shape_is (shape fields made) d f h = fields_are fields made d f h

shape_found : (s : Shape) (d : Data) (f : Form) → form_in s d ≡ Ok f → HasShape s d f
shape_found (shape fields made) d f h = fields_found fields made d f h

shape_syntax : (s : Shape) (d : Data) → IsSyntax (form_in s d)
shape_syntax (shape fields made) d = fields_syntax fields made d

-- ---- no other fields

there : (o : Ordering) (e : Data) (rest : Option Data) → is_some rest ≡ true → is_some (match_ordering o rest (Some e) rest) ≡ true
there Less e rest h = h
there Equal e rest h = refl
there Greater e rest h = h

here : (o : Ordering) (e : Data) (rest : Option Data) → is_eq o ≡ true → is_some (match_ordering o rest (Some e) rest) ≡ true
here Less e rest h = absurd (cc)
here Equal e rest h = refl
here Greater e rest h = absurd (cc)

either : (o : Ordering) (e : Data) (rest : Option Data) (b : Bool) → is_some (match_ordering o rest (Some e) rest) ≡ true → (is_eq o ≡ true → b ≡ true) → (is_some rest ≡ true → b ≡ true) → b ≡ true
either Less e rest b h first more = more h
either Equal e rest b h first more = first refl
either Greater e rest b h first more = more h

all_named : (p : List ℕ → Bool) (ms : Members) → ((name : List ℕ) → is_some (get_member name ms) ≡ true → p name ≡ true) → list_all p (member_names ms) ≡ true
all_named p no_members h = refl
all_named p (member l e ms) h =
    and_from (p l) (list_all p (member_names ms))
    (h l (here (slice_cmp nat_cmp l l) e (get_member l ms) (is_eq-slice_cmp l l ∙ (bytes_decides l l).1 refl)))
    (all_named p ms (λ name found. h name (there (slice_cmp nat_cmp name l) e (get_member name ms) found)))

each_named : (p : List ℕ → Bool) (ms : Members) (name : List ℕ) → list_all p (member_names ms) ≡ true → is_some (get_member name ms) ≡ true → p name ≡ true
each_named p no_members name h found = absurd (cc)
each_named p (member l e ms) name h found =
    let parts = and_parts (p l) (list_all p (member_names ms)) h in
    either (slice_cmp nat_cmp name l) e (get_member name ms) (p name) found
    (λ same. subst (λ n. p n ≡ true) (sym ((bytes_decides name l).0 (sym (is_eq-slice_cmp name l) ∙ same))) parts.0)
    (each_named p ms name parts.1)

only_is : (d : Data) (k : Keyword) → HasOnly d k → has_only k d ≡ true
only_is (object ms) k h = all_named (has_name k) ms h
only_is null k h = refl
only_is d k h = refl

only_found : (d : Data) (k : Keyword) → has_only k d ≡ true → HasOnly d k
only_found (object ms) k h name found = each_named (has_name k) ms name h found
only_found null k h name found = absurd (cc)
only_found d k h name found = absurd (cc)

-- ---- the field by which the form is told

pub find_passes : {X : Type 0} (p : X → Bool) (xs : List X) (x : X) → find p xs ≡ Some x → p x ≡ true
find_passes p [] x h = absurd (cc)
find_passes {X} p (y ∷ ys) x h = by (find_passes p ys x) (p y) refl h
  where
    by : (find p ys ≡ Some x → p x ≡ true) → (b : Bool) → p y ≡ b → cond b (Some y) (find p ys) ≡ Some x → p x ≡ true
    by rest true e g = let same : y ≡ x = cc in sym (ap p same) ∙ e
    by rest false e g = rest g

-- what passes fewer tests is found where it passes, and nothing is found where it doesn't
found_too : {X : Type 0} (p q : X → Bool) (xs : List X) (x : X) → ((y : X) → p y ≡ true → q y ≡ true) → find q xs ≡ Some x → p x ≡ true → find p xs ≡ Some x
found_too p q [] x fewer h passes = absurd (cc)
found_too {X} p q (y ∷ ys) x fewer h passes = by (λ g. found_too p q ys x fewer g passes) (q y) refl (p y) refl h
  where
    by : (find q ys ≡ Some x → find p ys ≡ Some x) → (b : Bool) → q y ≡ b → (c : Bool) → p y ≡ c → cond b (Some y) (find q ys) ≡ Some x → cond c (Some y) (find p ys) ≡ Some x
    by rest true e true g h = h
    by rest true e false g h = absurd (let same : y ≡ x = cc in let clash : false ≡ true = sym g ∙ ap p same ∙ passes in cc)
    by rest false e true g h = absurd (let clash : false ≡ true = sym e ∙ fewer y g in cc)
    by rest false e false g h = rest h

-- where none is found, what would be found by other tests doesn't pass
none_found : {X : Type 0} (p q : X → Bool) (xs : List X) (x : X) → find q xs ≡ Some x → find p xs ≡ None → p x ≡ false
none_found p q [] x h none = absurd (cc)
none_found {X} p q (y ∷ ys) x h none = by (none_found p q ys x) (q y) (p y) refl h none
  where
    by : (find q ys ≡ Some x → find p ys ≡ None → p x ≡ false) → (b c : Bool) → p y ≡ c → cond b (Some y) (find q ys) ≡ Some x → cond c (Some y) (find p ys) ≡ None → p x ≡ false
    by rest b true g h none = absurd (cc)
    by rest true false g h none = let same : y ≡ x = cc in sym (ap p same) ∙ g
    by rest false false g h none = rest h none

first_is : (k : Keyword) → find (λ j. has_name k (form_word j)) KEYWORDS ≡ Some k
first_is Agent = refl
first_is k = refl

pub none_has : (p : Keyword → Bool) (k : Keyword) → find p KEYWORDS ≡ None → p k ≡ false
none_has p k = none_found p (λ j. has_name k (form_word j)) KEYWORDS k (first_is k)

-- the first field isn't one that may be missing
abbrev Stays : Shape → Type 0
Stays (shape [] made) = ⊥
Stays (shape (x ∷ fields) made) = (value : FieldValue x.1) → ¬ MayMiss x.1 value

stays : (k : Keyword) → Stays (shape_of k)
stays Agent = λ value h. h
stays k = λ value h. h

has_first : (s : Shape) (d : Data) (f : Form) → Stays s → HasShape s d f → is_some (get (first_name (fields_of s)) d) ≡ true
has_first (shape [] made) d f s h = absurd s
has_first (shape (x ∷ fields) made) d f s h = elim h.1 [ inl shown ↦ ap is_some shown.1 | inr missing ↦ absurd (s h.0 missing.1) ]

pub has_keyword : (d : Data) (f : Form) (h : HasForm d f) → is_some (get (form_word h.keyword) d) ≡ true
has_keyword d f h = has_first (shape_of h.keyword) d f (stays h.keyword) h.fields

keyword_is : (d : Data) (f : Form) (h : HasForm d f) → keyword_of d ≡ Some h.keyword
keyword_is d f h = found_too (λ k. is_some (get (form_word k) d)) (λ k. has_name h.keyword (form_word k)) KEYWORDS h.keyword (λ k. h.only (form_word k)) (first_is h.keyword) (has_keyword d f h)

-- ---- forms

-- an object that has a form is read as that form
pub read_as_shown : (d : Data) (f : Form) → HasForm d f → object_form d ≡ Ok f
unfolding form_with
read_as_shown d f h =
    ap (λ (o : Option Keyword). some_or UnknownAction o >>= λ k. form_with k d) (keyword_is d f h)
    ∙ ap (λ (b : Bool). cond b (form_by h.keyword d) (Err Syntax)) (only_is d h.keyword h.only)
    ∙ shape_is (shape_of h.keyword) d f h.fields

pub form_read : (k : Keyword) (d : Data) (f : Form) → form_with k d ≡ Ok f → HasForm d f
unfolding form_with
form_read k d f = by (has_only k d) refl
  where
    by : (b : Bool) → has_only k d ≡ b → cond b (form_by k d) (Err Syntax) ≡ Ok f → HasForm d f
    by true e h = record { keyword = k; only = only_found d k e; fields = shape_found (shape_of k) d f h }
    by false e h = absurd (cc)

pub only_syntax_with : (k : Keyword) (d : Data) → IsSyntax (form_with k d)
unfolding form_with
only_syntax_with k d = by (has_only k d)
  where
    by : (b : Bool) → IsSyntax (cond b (form_by k d) (Err Syntax))
    by true = shape_syntax (shape_of k) d
    by false = λ e h. cc
