-- What is read of a field is what the field shows, and what is read of none is Syntax.
use Rattle.std.proofs.Common.{◌≡◌, ℕ, ◌<◌, ◌^◌, List, [], ◌∷◌, ◌++◌, Bool, true, false, cond, nat_lt, Option, Some, None, Ok, Err, refl, ap, sym, ◌∙◌, subst, inl, inr, append_assoc, append-nil}
use Rattle.std.specs.Cmp.Lexicographic.{bytes_decides}
use Rattle.std.specs.Prelude.{⊤, codes, option_and_then}
use Rattle.std.specs.Str.{bytes_eq}
use Rattle.std.proofs.lemmas.Bool.{lt-ltb, ltb-true}
use Rattle.serde_json.specs.Data.{Data, null, number, string, array, unsigned, Items, no_items, item}
use Rattle.serde_json.specs.Find.{as_array, as_number, as_str, as_u64, get}
use Rattle.hub_origin.specs.Origin.{origin_answer}
use Rattle.hub_envelope.specs.Answer.{answer_to}
use Rattle.hub_life.specs.Word.{event_of}
use Rattle.hub_text.specs.Reading.{◌>>=◌, some_or}
use Rattle.hub_script.specs.declared.script.AgentKind.{AgentKind}
use Rattle.hub_script.specs.declared.script.AgentKind.TheVariants.{Window, Worker}
use Rattle.hub_script.specs.declared.error.ScriptError.{ScriptError}
use Rattle.hub_script.specs.declared.error.ScriptError.TheVariants.{Syntax}
use Rattle.hub_script.specs.Fields.{ScriptRead, field_in, kind_of, queue_of, small, text_in, texts_at, texts_from, texts_of, two_of, value_in, word_in}
use Rattle.hub_script.specs.Shapes.{BODY, EVENT, FieldType, FieldValue, KIND, LIST, NUMBER, PAIR, QUEUE_WORD, TEXT, URL}
use Rattle.hub_script.specs.Shown.{IsField, kind_word, strings}

-- ---- one reading behind another

pub bound : {A B : Type 0} (r : ScriptRead A) (g : A → ScriptRead B) (b : B) → (r >>= g) ≡ Ok b → (a : A) × (r ≡ Ok a) × (g a ≡ Ok b)
bound (Ok a) g b h = (a, refl, h)
bound (Err e) g b h = absurd (cc)

found : {A : Type 0} (o : Option A) (a : A) → some_or Syntax o ≡ Ok a → o ≡ Some a
found None a h = absurd (cc)
found {A} (Some x) a h = let same : x ≡ a = cc in ap (λ (y : A). Some y) same

abbrev pub IsSyntax : {A : Type 0} → ScriptRead A → Type 0
IsSyntax r = (e : ScriptError) → r ≡ Err e → Syntax ≡ e

or_syntax : {A : Type 0} (o : Option A) → IsSyntax (some_or Syntax o)
or_syntax None e h = cc
or_syntax (Some x) e h = absurd (cc)

pub then_syntax : {A B : Type 0} (r : ScriptRead A) (g : A → ScriptRead B) → IsSyntax r → ((a : A) → IsSyntax (g a)) → IsSyntax (r >>= g)
then_syntax (Ok a) g h k = k a
then_syntax (Err x) g h k = λ e i. h e (let same : x ≡ e = cc in ap (λ y. Err y) same)

-- ---- JSON values

string_found : (d : Data) (s : List ℕ) → as_str d ≡ Some s → d ≡ string s
string_found (string t) s h = let same : t ≡ s = cc in ap string same
string_found null s h = absurd (cc)
string_found d s h = absurd (cc)

array_found : (d : Data) (ds : Items) → as_array d ≡ Some ds → d ≡ array ds
array_found (array xs) ds h = let same : xs ≡ ds = cc in ap array same
array_found null ds h = absurd (cc)
array_found d ds h = absurd (cc)

text_found : (o : Option Data) (s : List ℕ) → some_or Syntax (option_and_then as_str o) ≡ Ok s → o ≡ Some (string s)
text_found None s h = absurd (cc)
text_found (Some d) s h = ap (λ (x : Data). Some x) (string_found d s (found (as_str d) s h))

small_found : (m n : ℕ) → some_or Syntax (small m) ≡ Ok n → (m ≡ n) × (n < 2 ^ 32)
small_found m n = by (nat_lt m (2 ^ 32)) refl
  where
    by : (b : Bool) → nat_lt m (2 ^ 32) ≡ b → some_or Syntax (cond b (Some m) None) ≡ Ok n → (m ≡ n) × (n < 2 ^ 32)
    by true e h = let same : m ≡ n = cc in (same, subst (λ x. x < 2 ^ 32) same (ltb-true m (2 ^ 32) e))
    by false e h = absurd (cc)

number_found : (o : Option Data) (n : ℕ) → some_or Syntax (option_and_then small (option_and_then as_u64 (option_and_then as_number o))) ≡ Ok n → (o ≡ Some (number (unsigned n))) × (n < 2 ^ 32)
number_found (Some (number (unsigned m))) n h = let p : (m ≡ n) × (n < 2 ^ 32) = small_found m n h in (ap (λ x. Some (number (unsigned x))) p.0, p.1)
number_found (Some (number x)) n h = absurd (cc)
number_found (Some d) n h = absurd (cc)
number_found None n h = absurd (cc)

texts_found : (before : List (List ℕ)) (ds : Items) (all : List (List ℕ)) → texts_from before ds ≡ Ok all → (rest : List (List ℕ)) × (ds ≡ strings rest) × (before ++ rest ≡ all)
texts_found before no_items all h = ([], refl, append-nil before ∙ (cc))
texts_found before (item d ds) all h =
    let here = bound (some_or Syntax (as_str d)) (λ text. texts_from (before ++ text ∷ []) ds) all h in
    let more = texts_found (before ++ here.0 ∷ []) ds all here.2 in
    (here.0 ∷ more.0, ap (λ (x : Data). item x ds) (string_found d here.0 (found (as_str d) here.0 here.1)) ∙ ap (item (string here.0)) more.1, sym (append_assoc before (here.0 ∷ []) more.0) ∙ more.2)

array_of : (d : Data) (texts : List (List ℕ)) → texts_of d ≡ Ok texts → d ≡ array (strings texts)
array_of d texts h =
    let items = bound (some_or Syntax (as_array d)) (texts_from []) texts h in
    let all = texts_found [] items.0 texts items.2 in
    array_found d items.0 (found (as_array d) items.0 items.1) ∙ ap array all.1 ∙ ap (λ ts. array (strings ts)) all.2

two_found : (texts : List (List ℕ)) (pair : List ℕ × List ℕ) → two_of texts ≡ Ok pair → texts ≡ pair.0 ∷ pair.1 ∷ []
two_found [] pair h = absurd (cc)
two_found (a ∷ []) pair h = absurd (cc)
two_found (a ∷ b ∷ []) pair h = let same : (a, b) ≡ pair = cc in ap (λ (p : List ℕ × List ℕ). p.0 ∷ p.1 ∷ []) same
two_found (a ∷ b ∷ c ∷ texts) pair h = absurd (cc)

texts_are : (before texts : List (List ℕ)) → texts_from before (strings texts) ≡ Ok (before ++ texts)
texts_are before [] = ap (λ (xs : List (List ℕ)). Ok xs) (sym (append-nil before))
texts_are before (text ∷ texts) = texts_are (before ++ text ∷ []) texts ∙ ap (λ (xs : List (List ℕ)). Ok xs) (append_assoc before (text ∷ []) texts)

texts_syntax : (before : List (List ℕ)) (ds : Items) → IsSyntax (texts_from before ds)
texts_syntax before no_items = λ e h. absurd (cc)
texts_syntax before (item d ds) = then_syntax (some_or Syntax (as_str d)) (λ text. texts_from (before ++ text ∷ []) ds) (or_syntax (as_str d)) (λ text. texts_syntax (before ++ text ∷ []) ds)

array_syntax : (d : Data) → IsSyntax (texts_of d)
array_syntax d = then_syntax (some_or Syntax (as_array d)) (texts_from []) (or_syntax (as_array d)) (texts_syntax [])

two_syntax : (texts : List (List ℕ)) → IsSyntax (two_of texts)
two_syntax [] e h = cc
two_syntax (a ∷ []) e h = cc
two_syntax (a ∷ b ∷ []) e h = absurd (cc)
two_syntax (a ∷ b ∷ c ∷ texts) e h = cc

-- ---- words

word_found : {A : Type 0} (meaning : List ℕ → Option A) (name : List ℕ) (d : Data) (a : A) → word_in meaning name d ≡ Ok a → (word : List ℕ) × (get name d ≡ Some (string word)) × (meaning word ≡ Some a)
word_found meaning name d a h =
    let word = bound (text_in name d) (λ w. some_or Syntax (meaning w)) a h in
    (word.0, text_found (get name d) word.0 word.1, found (meaning word.0) a word.2)

word_is : {A : Type 0} (meaning : List ℕ → Option A) (name : List ℕ) (d : Data) (word : List ℕ) (a : A) → get name d ≡ Some (string word) → meaning word ≡ Some a → word_in meaning name d ≡ Ok a
word_is {A} meaning name d word a h g = ap (λ o. some_or Syntax (option_and_then as_str o) >>= λ w. some_or Syntax (meaning w)) h ∙ ap (λ (o : Option A). some_or Syntax o) g

word_syntax : {A : Type 0} (meaning : List ℕ → Option A) (name : List ℕ) (d : Data) → IsSyntax (word_in meaning name d)
word_syntax meaning name d = then_syntax (text_in name d) (λ w. some_or Syntax (meaning w)) (or_syntax (option_and_then as_str (get name d))) (λ w. or_syntax (meaning w))

-- the first word of several
first_word : {A : Type 0} (shown : A → List ℕ) (word other : List ℕ) (x a : A) (rest : Option A) → other ≡ shown x → (rest ≡ Some a → word ≡ shown a) → cond (bytes_eq word other) (Some x) rest ≡ Some a → word ≡ shown a
first_word {A} shown word other x a rest is more = by (bytes_eq word other) refl
  where
    by : (b : Bool) → bytes_eq word other ≡ b → cond b (Some x) rest ≡ Some a → word ≡ shown a
    by true e h = let same : x ≡ a = cc in (bytes_decides word other).0 e ∙ is ∙ ap shown same
    by false e h = more h

kind_found : (word : List ℕ) (kind : AgentKind) → kind_of word ≡ Some kind → word ≡ kind_word kind
kind_found word kind = first_word kind_word word (codes "window") Window kind _ refl (first_word kind_word word (codes "worker") Worker kind None refl (λ h. absurd (cc)))

kind_is : (kind : AgentKind) → kind_of (kind_word kind) ≡ Some kind
kind_is Window = refl
kind_is Worker = refl

queue_found : (word : List ℕ) (x : ⊤) → queue_of word ≡ Some x → word ≡ codes "queue"
queue_found word x = first_word (λ (y : ⊤). codes "queue") word (codes "queue") tt x None refl (λ h. absurd (cc))

-- ---- fields

shown_is : (name : List ℕ) (d x y : Data) → get name d ≡ Some x → x ≡ y → get name d ≡ Some y
shown_is name d x y h same = h ∙ ap (λ (z : Data). Some z) same

pub field_is : (t : FieldType) (name : List ℕ) (d : Data) (value : FieldValue t) → IsField t name d value → field_in t name d ≡ Ok value
field_is TEXT name d text (inl h) = ap (λ o. some_or Syntax (option_and_then as_str o)) (shown_is name d h.0 (string text) h.1 h.2)
field_is NUMBER name d n (inl h) =
    ap (λ o. some_or Syntax (option_and_then small (option_and_then as_u64 (option_and_then as_number o)))) (shown_is name d h.0 (number (unsigned n)) h.1 h.2.0)
    ∙ ap (λ b. some_or Syntax (cond b (Some n) None)) (lt-ltb n (2 ^ 32) h.2.1)
field_is KIND name d kind (inl h) = word_is kind_of name d (kind_word kind) kind (shown_is name d h.0 (string (kind_word kind)) h.1 h.2) (kind_is kind)
field_is URL name d answer (inl h) =
    ap (λ o. some_or Syntax (option_and_then as_str o) >>= λ url. Ok (origin_answer url)) (shown_is name d h.0 (string h.2.0) h.1 h.2.1) ∙ ap (λ (a : FieldValue URL). Ok a) (sym h.2.2)
field_is PAIR name d texts (inl h) = ap (λ (o : Option Data). some_or Syntax o >>= texts_of >>= two_of) (shown_is name d h.0 (array (strings (texts.0 ∷ texts.1 ∷ []))) h.1 h.2)
field_is BODY name d answer (inl h) = ap (λ (o : Option Data). some_or Syntax o >>= λ v. Ok (answer_to (Some v))) h.1 ∙ ap (λ (a : FieldValue BODY). Ok a) (sym h.2)
field_is LIST name d texts (inl h) = ap texts_at (shown_is name d h.0 (array (strings texts)) h.1 h.2) ∙ texts_are [] texts
field_is LIST name d texts (inr h) = ap texts_at h.0 ∙ ap (λ (ts : List (List ℕ)). Ok ts) (sym h.1)
field_is QUEUE_WORD name d x (inl h) = word_is queue_of name d (codes "queue") x (shown_is name d h.0 (string (codes "queue")) h.1 h.2) refl
field_is EVENT name d event (inl h) = word_is event_of name d h.2.0 event (shown_is name d h.0 (string h.2.0) h.1 h.2.1) h.2.2
field_is t name d value (inr h) = absurd h.1

pub field_found : (t : FieldType) (name : List ℕ) (d : Data) (value : FieldValue t) → field_in t name d ≡ Ok value → IsField t name d value
field_found TEXT name d text h = inl (string text, text_found (get name d) text h, refl)
field_found NUMBER name d n h = let p = number_found (get name d) n h in inl (number (unsigned n), p.0, (refl, p.1))
field_found KIND name d kind h = let word = word_found kind_of name d kind h in inl (string word.0, word.1, ap string (kind_found word.0 kind word.2))
field_found URL name d answer h =
    let url = bound (text_in name d) (λ u. Ok (origin_answer u)) answer h in
    inl (string url.0, text_found (get name d) url.0 url.1, (url.0, refl, (cc)))
field_found PAIR name d texts h =
    let all = bound (value_in name d >>= texts_of) two_of texts h in
    let shown = bound (value_in name d) texts_of all.0 all.1 in
    inl (shown.0, found (get name d) shown.0 shown.1, array_of shown.0 all.0 shown.2 ∙ ap (λ ts. array (strings ts)) (two_found all.0 texts all.2))
field_found BODY name d answer h =
    let shown = bound (value_in name d) (λ v. Ok (answer_to (Some v))) answer h in
    inl (shown.0, found (get name d) shown.0 shown.1, (cc))
field_found LIST name d texts h = by (get name d) refl h
  where
    by : (o : Option Data) → get name d ≡ o → texts_at o ≡ Ok texts → IsField LIST name d texts
    by None e g = inr (e, (cc))
    by (Some x) e g = inl (x, e, array_of x texts g)
field_found QUEUE_WORD name d x h = let word = word_found queue_of name d x h in inl (string word.0, word.1, ap string (queue_found word.0 x word.2))
field_found EVENT name d event h = let word = word_found event_of name d event h in inl (string word.0, word.1, (word.0, refl, word.2))

pub field_syntax : (t : FieldType) (name : List ℕ) (d : Data) → IsSyntax (field_in t name d)
field_syntax TEXT name d = or_syntax (option_and_then as_str (get name d))
field_syntax NUMBER name d = or_syntax (option_and_then small (option_and_then as_u64 (option_and_then as_number (get name d))))
field_syntax KIND name d = word_syntax kind_of name d
field_syntax URL name d = then_syntax (text_in name d) (λ u. Ok (origin_answer u)) (or_syntax (option_and_then as_str (get name d))) (λ u e h. absurd (cc))
field_syntax PAIR name d = then_syntax (value_in name d >>= texts_of) two_of (then_syntax (value_in name d) texts_of (or_syntax (get name d)) array_syntax) two_syntax
field_syntax BODY name d = then_syntax (value_in name d) (λ v. Ok (answer_to (Some v))) (or_syntax (get name d)) (λ v e h. absurd (cc))
field_syntax LIST name d = by (get name d)
  where
    by : (o : Option Data) → IsSyntax (texts_at o)
    by None = λ e h. absurd (cc)
    by (Some x) = array_syntax x
field_syntax QUEUE_WORD name d = word_syntax queue_of name d
field_syntax EVENT name d = word_syntax event_of name d
