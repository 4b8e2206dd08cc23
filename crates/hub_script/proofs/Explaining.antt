-- What an answer says of a text, by the meaning of each refusal.
use Rattle.std.proofs.Common.{◌≡◌, ℕ, List, [], ◌∷◌, ◌++◌, Bool, true, false, cond, Option, Some, None, Result, Ok, Err, refl, ap, sym, ◌∙◌, subst, inl, inr, append_assoc, append-nil}
use Rattle.std.specs.List.{AllZip}
use Rattle.std.specs.Prelude.{is_some}
use Rattle.std.specs.Str.{is_utf8}
use Rattle.serde_json.specs.Data.{Data, null, boolean, number, string, array, object, Members}
use Rattle.serde_json.specs.Find.{get}
use Rattle.serde_json.specs.Read.{read}
use Rattle.hub_text.specs.Reading.{◌>>=◌, some_or}
use Rattle.hub_text.specs.TextLines.{text_lines_of}
use Rattle.hub_script.specs.declared.form.Form.{Form}
use Rattle.hub_script.specs.declared.keyword.Keyword.{Keyword}
use Rattle.hub_script.specs.declared.keyword.TheConstants.{KEYWORDS}
use Rattle.hub_script.specs.declared.error.ScriptError.{ScriptError}
use Rattle.hub_script.specs.declared.error.ScriptError.TheVariants.{Syntax, UnknownAction, UnknownName, DataClone, TooLarge, OutOfMemory}
use Rattle.hub_script.specs.Answers.{IsScriptAnswer, LeavesKnown}
use Rattle.hub_script.specs.Contents.{Contents}
use Rattle.hub_script.specs.Context.{after_form}
use Rattle.hub_script.specs.Fields.{ScriptRead}
use Rattle.hub_script.specs.Form.{form_of, form_with, object_form, object_only, form_in_text}
use Rattle.hub_script.specs.Shapes.{keyword_of, form_word}
use Rattle.hub_script.specs.Known.{Known, nothing}
use Rattle.hub_script.specs.Refusals.{HasNoForm, HasNoKeyword, IsAccepted, IsExplained, IsNoObject, IsSyntaxError, Means}
use Rattle.hub_script.specs.Script.{after_line}
use Rattle.hub_script.specs.Shown.{TextHasForm, IsObject}
use Rattle.hub_script.proofs.FormsRead.{find_passes, form_read, none_has, only_syntax_with, read_as_shown}
use Rattle.hub_script.proofs.Obeying.{parts}
use Rattle.hub_script.proofs.OneLineMore.{IsSplit, not_nil, split_last}
use Rattle.hub_script.proofs.Outcomes.{FormMeans, Outcome, outcome}
use Rattle.hub_script.proofs.Standing.{Stands, at_first}

-- ---- one text line

-- the text line is no object, or it is one
by_object : (P : ScriptRead Form → Type 0) (bytes : List ℕ) → (IsNoObject bytes → P (Err Syntax)) → ((d : Data) → IsObject bytes d → P (object_form d)) → P (form_of bytes)
unfolding form_of form_in_text
by_object P bytes none good = by (is_utf8 bytes) refl (read bytes) refl
  where
    other_value : (d : Data) → read bytes ≡ Some d → ((ms : Members) → d ≡ object ms → ⊥) → IsNoObject bytes
    other_value d e other = record { none = λ x o. (let same : Some d ≡ Some x = sym e ∙ o.value in let is : d ≡ x = cc in other o.members (is ∙ o.is_object)) }

    by_value : (d : Data) → is_utf8 bytes ≡ true → read bytes ≡ Some d → P (object_only d >>= object_form)
    by_value null u e = none (other_value null e (λ ms h. cc))
    by_value (boolean b) u e = none (other_value (boolean b) e (λ ms h. cc))
    by_value (number n) u e = none (other_value (number n) e (λ ms h. cc))
    by_value (string s) u e = none (other_value (string s) e (λ ms h. cc))
    by_value (array ds) u e = none (other_value (array ds) e (λ ms h. cc))
    by_value (object ms) u e = good (object ms) (record { utf8 = u; value = e; members = ms; is_object = refl })

    by : (b : Bool) → is_utf8 bytes ≡ b → (o : Option Data) → read bytes ≡ o → P (cond b (some_or Syntax o >>= object_only >>= object_form) (Err Syntax))
    by false u o e = none (record { none = λ x h. (let clash : false ≡ true = sym u ∙ h.utf8 in cc) })
    by true u None e = none (record { none = λ x h. (let clash : None ≡ Some x = sym e ∙ h.value in cc) })
    by true u (Some d) e = by_value d u e

is_none : {X : Type 0} (o : Option X) → is_some o ≡ false → o ≡ None
is_none None h = refl
is_none (Some x) h = cc

-- an object has no keyword, or no form, or the form that is read
by_form : (P : ScriptRead Form → Type 0) (bytes : List ℕ) (d : Data) → IsObject bytes d → (HasNoKeyword bytes → P (Err UnknownAction)) → (HasNoForm bytes → P (Err Syntax))
    → ((f : Form) → TextHasForm bytes f → P (Ok f)) → P (object_form d)
by_form P bytes d is no_keyword no_form good = by (keyword_of d) refl
  where
    by_read : (k : Keyword) → is_some (get (form_word k) d) ≡ true → object_form d ≡ form_with k d → (r : ScriptRead Form) → form_with k d ≡ r → P r
    by_read k told same (Ok f) e = good f (record { value = d; is_object = is; form = form_read k d f e })
    by_read k told same (Err x) e =
        subst (λ y. P (Err y)) (only_syntax_with k d x e)
        (no_form (record { value = d; is_object = is; keyword = k; told = told; none = λ f h. (let clash : Ok f ≡ Err x = sym (read_as_shown d f h) ∙ same ∙ e in cc) }))

    by : (o : Option Keyword) → keyword_of d ≡ o → P (some_or UnknownAction o >>= λ k. form_with k d)
    by None e = no_keyword (record { value = d; is_object = is; none = λ k. is_none (get (form_word k) d) (none_has (λ x. is_some (get (form_word x) d)) k e) })
    by (Some k) e = by_read k (find_passes (λ x. is_some (get (form_word x) d)) KEYWORDS k e) (ap (λ (o : Option Keyword). some_or UnknownAction o >>= λ x. form_with x d) e) (form_with k d) refl

is_line : (bytes : List ℕ) (f : Form) → form_of bytes ≡ Ok f → TextHasForm bytes f
is_line bytes f = by_object P bytes (λ none h. absurd (cc)) (λ d is. by_form P bytes d is (λ none h. absurd (cc)) (λ none h. absurd (cc)) (λ g line h. (let same : g ≡ f = cc in subst (TextHasForm bytes) same line)))
  where
    P : ScriptRead Form → Type 0
    P r = r ≡ Ok f → TextHasForm bytes f

means_so : (before : List Form) (bytes : List ℕ) (f : Form) (e : ScriptError) → TextHasForm bytes f → FormMeans before f e → Means before bytes e
means_so before bytes f Syntax line (inl h) = IsSyntaxError.not_fitting (record { form = f; text = line; misplaced = h })
means_so before bytes f Syntax line (inr h) = IsSyntaxError.bad_value (record { form = f; text = line; placed = h.0; known = h.1; list = h.2; within = h.3; value = h.4 })
means_so before bytes f UnknownAction line h = absurd h
means_so before bytes f UnknownName line h = record { form = f; text = line; placed = h.0; unknown = h.1 }
means_so before bytes f (DataClone cause) line h = record { form = f; text = line; placed = h.0; known = h.1; list = h.2 }
means_so before bytes f TooLarge line h = record { form = f; text = line; placed = h.0; known = h.1; list = h.2; limit = h.3 }
means_so before bytes f OutOfMemory line h = absurd h

line_means : (before : List Form) (k : Known) (bytes : List ℕ) (e : ScriptError) → Stands before k → after_line k bytes ≡ Err e → Means before bytes e
line_means before k bytes e s =
    by_object P bytes (λ none h. (let is : Syntax ≡ e = cc in subst (Means before bytes) is (IsSyntaxError.no_object none)))
    (λ d is. by_form P bytes d is
    (λ none h. (let told : UnknownAction ≡ e = cc in subst (Means before bytes) told none))
    (λ none h. (let told : Syntax ≡ e = cc in subst (Means before bytes) told (IsSyntaxError.no_form none)))
    (λ f line h. means_so before bytes f e line (subst (Outcome before f) h (outcome before k f s))))
  where
    P : ScriptRead Form → Type 0
    P r = (r >>= after_form k) ≡ Err e → Means before bytes e

-- ---- the lines before it

abbrev pub EachAccepted : List Form → Type 0
EachAccepted forms = (earlier later : List Form) (f : Form) → forms ≡ earlier ++ f ∷ later → IsAccepted earlier f

one_accepted : (forms : List Form) (f : Form) → EachAccepted forms → IsAccepted forms f → EachAccepted (forms ++ f ∷ [])
one_accepted forms f each last earlier later g h = by (split_last forms earlier later f g h)
  where
    by : IsSplit forms f earlier g later → IsAccepted earlier g
    by (inl p) = subst (λ fs. IsAccepted fs g) p.2 (subst (IsAccepted forms) p.1 last)
    by (inr p) = each earlier p.0 g p.2

-- the lines go on, behind those of the forms, with lines of these forms that are accepted
abbrev pub Continues : List Form → List (List ℕ) → Known → Type 0
Continues before lines last = (forms : List Form) × AllZip TextHasForm lines forms × Stands (before ++ forms) last × EachAccepted (before ++ forms)

continues : (before : List Form) (k last : Known) (lines : List (List ℕ)) → Stands before k → EachAccepted before → LeavesKnown k lines last → Continues before lines last
continues before k last [] s each h =
    ([], tt, subst (λ fs. Stands fs last) (sym (append-nil before)) (subst (Stands before) h s), subst EachAccepted (sym (append-nil before)) each)
continues before k last (bytes ∷ lines) s each h =
    let p : (f : Form) × (form_of bytes ≡ Ok f) × (after_form k f ≡ Ok h.0) = parts (form_of bytes) (after_form k) h.0 h.1 in
    let o : IsAccepted before p.0 × Stands (before ++ p.0 ∷ []) h.0 = subst (Outcome before p.0) p.2 (outcome before k p.0 s) in
    let rest : Continues (before ++ p.0 ∷ []) lines last = continues (before ++ p.0 ∷ []) h.0 last lines o.1 (one_accepted before p.0 each o.0) h.2 in
    let same : (before ++ p.0 ∷ []) ++ rest.0 ≡ before ++ p.0 ∷ rest.0 = append_assoc before (p.0 ∷ []) rest.0 in
    (p.0 ∷ rest.0, (is_line bytes p.0 p.1, rest.1), subst (λ fs. Stands fs last) same rest.2, subst EachAccepted same rest.3)

none_accepted : EachAccepted []
none_accepted earlier later f h = absurd (not_nil earlier later f h)

all_accepted : (lines : List (List ℕ)) (last : Known) → LeavesKnown nothing lines last → Continues [] lines last
all_accepted lines last h = continues [] nothing last lines at_first none_accepted h

pub explained : (text : List ℕ) (r : Result Contents (ℕ × ScriptError)) → IsScriptAnswer text r → IsExplained text r
explained text (Ok script) h =
    let c : Continues [] (text_lines_of text) h.0 = all_accepted (text_lines_of text) h.0 h.1 in
    record { forms = c.0; shown = c.1; accepted = c.3 }
explained text (Err e) (inl h) = inl h
explained text (Err e) (inr h) =
    let c : Continues [] h.before h.known = all_accepted h.before h.known h.obeyed in
    inr (record {
      before = h.before;
      refused = h.bad;
      behind = h.behind;
      lines = h.lines;
      number = h.number;
      accepted = record { forms = c.0; shown = c.1; accepted = c.3 };
      means = line_means c.0 h.known h.bad e.1 c.2 h.fails;
    })
