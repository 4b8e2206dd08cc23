-- A text line has one meaning at most: it is accepted, or it is refused in one way.
use Rattle.std.proofs.Common.{◌≡◌, ◌⊎◌, ℕ, ◌+◌, ◌<◌, List, [], ◌∷◌, ◌++◌, length, true, false, Some, None, Ok, refl, ap, sym, ◌∙◌, subst, inl, inr, arith}
use Rattle.std.specs.List.{AllZip}
use Rattle.std.specs.Prelude.{is_some}
use Rattle.std.proofs.lemmas.List.Elements.{All-contains}
use Rattle.serde_json.specs.Data.{Data}
use Rattle.serde_json.specs.Find.{get}
use Rattle.hub_text.specs.TextLines.{text_lines_of}
use Rattle.hub_script.specs.declared.form.Form.{Form}
use Rattle.hub_script.specs.declared.keyword.Keyword.{Keyword}
use Rattle.hub_script.specs.declared.error.ScriptError.{ScriptError}
use Rattle.hub_script.specs.declared.error.ScriptError.TheVariants.{Syntax, UnknownAction, UnknownName, DataClone, TooLarge, OutOfMemory}
use Rattle.hub_script.specs.declared.error.DataCloneCause.{DataCloneCause}
use Rattle.hub_script.specs.declared.error.DataCloneCause.TheVariants.{Source, Twice, Detached}
use Rattle.hub_script.specs.Before.{HoldsAt, IsMember, IsPort, agent_kinds}
use Rattle.hub_script.specs.Form.{object_form}
use Rattle.hub_script.specs.Shapes.{form_word}
use Rattle.hub_script.specs.Laws.{NoScript, NoneAccepted, OneFault, OneRefusal}
use Rattle.hub_script.specs.Refusals.{AreAccepted, AreKnown, CanTransfer, CannotTransfer, HasUnknown, IsAccepted, IsMisplaced, IsRefusedValue, IsSyntaxError, IsTooLarge, Means}
use Rattle.hub_script.specs.Shown.{HasForm, TextHasForm, IsObject}
use Rattle.hub_script.specs.Uses.{agents_named, members_named, names_used, ports_named}
use Rattle.hub_script.proofs.FormsRead.{has_keyword, read_as_shown}
use Rattle.hub_script.proofs.Outcomes.{FormMeans}

-- ---- the tests of a line of one form

not_unknown : (before : List Form) (f : Form) → AreKnown before f → ¬ HasUnknown before f
not_unknown before f known (HasUnknown.no_agent a c l) = let h : a < length (agent_kinds before) = All-contains (λ b. b < length (agent_kinds before)) (agents_named f) a known.agents c in omega arith
not_unknown before f known (HasUnknown.no_port n c h) = h (All-contains (IsPort before) (ports_named f) n known.ports c)
not_unknown before f known (HasUnknown.no_member n c h) = h (All-contains (IsMember before) (members_named f) n known.members c)
not_unknown before f known (HasUnknown.not_held used c h) = h (All-contains (λ (u : ℕ × List ℕ). HoldsAt before u.0 u.1) (names_used f) used known.held c)

may_not : (before : List Form) (f : Form) (cause : DataCloneCause) → CanTransfer before f → ¬ CannotTransfer before f cause
may_not before f Source can h = can.apart h
may_not before f Twice can h = can.different h.1
may_not before f Detached can h = h.2.detached (can.held h.2.agent h.2.port h.2.transfers)

one_cause : (before : List Form) (f : Form) (c d : DataCloneCause) → CannotTransfer before f c → CannotTransfer before f d → c ≡ d
one_cause before f Source Source h g = refl
one_cause before f Source Twice h g = absurd (g.0 h)
one_cause before f Source Detached h g = absurd (g.0 h)
one_cause before f Twice Source h g = absurd (h.0 g)
one_cause before f Twice Twice h g = refl
one_cause before f Twice Detached h g = absurd (g.1 h.1)
one_cause before f Detached Source h g = absurd (h.0 g)
one_cause before f Detached Twice h g = absurd (h.1 g.1)
one_cause before f Detached Detached h g = refl

not_syntax : (before : List Form) (f : Form) → FormMeans before f Syntax → ¬ IsMisplaced before f → AreKnown before f × CanTransfer before f × (¬ IsTooLarge before f) × IsRefusedValue f
not_syntax before f (inl h) placed = absurd (placed h)
not_syntax before f (inr h) placed = (h.1, h.2, h.3, h.4)

one_of_form : (before : List Form) (f : Form) (e g : ScriptError) → FormMeans before f e → FormMeans before f g → e ≡ g
one_of_form before f UnknownAction g h k = absurd h
one_of_form before f OutOfMemory g h k = absurd h
one_of_form before f Syntax Syntax h k = refl
one_of_form before f Syntax UnknownAction h k = absurd k
one_of_form before f Syntax UnknownName h k = absurd (not_unknown before f (not_syntax before f h k.0).0 k.1)
one_of_form before f Syntax (DataClone c) h k = absurd (may_not before f c (not_syntax before f h k.0).1 k.2)
one_of_form before f Syntax TooLarge h k = absurd ((not_syntax before f h k.0).2 k.3)
one_of_form before f Syntax OutOfMemory h k = absurd k
one_of_form before f UnknownName Syntax h k = absurd (not_unknown before f (not_syntax before f k h.0).0 h.1)
one_of_form before f UnknownName UnknownAction h k = absurd k
one_of_form before f UnknownName UnknownName h k = refl
one_of_form before f UnknownName (DataClone c) h k = absurd (not_unknown before f k.1 h.1)
one_of_form before f UnknownName TooLarge h k = absurd (not_unknown before f k.1 h.1)
one_of_form before f UnknownName OutOfMemory h k = absurd k
one_of_form before f (DataClone c) Syntax h k = absurd (may_not before f c (not_syntax before f k h.0).1 h.2)
one_of_form before f (DataClone c) UnknownAction h k = absurd k
one_of_form before f (DataClone c) UnknownName h k = absurd (not_unknown before f h.1 k.1)
one_of_form before f (DataClone c) (DataClone d) h k = ap (λ x. DataClone x) (one_cause before f c d h.2 k.2)
one_of_form before f (DataClone c) TooLarge h k = absurd (may_not before f c k.2 h.2)
one_of_form before f (DataClone c) OutOfMemory h k = absurd k
one_of_form before f TooLarge Syntax h k = absurd ((not_syntax before f k h.0).2 h.3)
one_of_form before f TooLarge UnknownAction h k = absurd k
one_of_form before f TooLarge UnknownName h k = absurd (not_unknown before f h.1 k.1)
one_of_form before f TooLarge (DataClone c) h k = absurd (may_not before f c h.2 k.2)
one_of_form before f TooLarge TooLarge h k = refl
one_of_form before f TooLarge OutOfMemory h k = absurd k

accepted_not : (before : List Form) (f : Form) (e : ScriptError) → IsAccepted before f → ¬ FormMeans before f e
accepted_not before f Syntax a (inl h) = a.placed h
accepted_not before f Syntax a (inr h) = a.value h.4
accepted_not before f UnknownAction a h = h
accepted_not before f UnknownName a h = not_unknown before f a.known h.1
accepted_not before f (DataClone c) a h = may_not before f c a.list h.2
accepted_not before f TooLarge a h = a.within h.3
accepted_not before f OutOfMemory a h = h

-- ---- the line by itself

same_object : (bytes : List ℕ) (d c : Data) → IsObject bytes d → IsObject bytes c → d ≡ c
same_object bytes d c h g = let e : Some d ≡ Some c = sym h.value ∙ g.value in cc

one_form : (bytes : List ℕ) (f g : Form) → TextHasForm bytes f → TextHasForm bytes g → f ≡ g
one_form bytes f g h k =
    let same : k.value ≡ h.value = same_object bytes k.value h.value k.is_object h.is_object in
    let read : object_form k.value ≡ Ok f = ap object_form same ∙ read_as_shown h.value f h.form in
    let e : Ok f ≡ Ok g = sym read ∙ read_as_shown k.value g k.form in cc

-- no object, no keyword, no form, or a form with what its refusal says
Cases : List Form → List ℕ → ScriptError → Type 0
Cases before bytes e =
    (((d : Data) → ¬ IsObject bytes d) × (Syntax ≡ e))
    ⊎ (((d : Data) × IsObject bytes d × ((k : Keyword) → get (form_word k) d ≡ None)) × (UnknownAction ≡ e))
    ⊎ (((d : Data) × (k : Keyword) × IsObject bytes d × (is_some (get (form_word k) d) ≡ true) × ((f : Form) → ¬ HasForm d f)) × (Syntax ≡ e))
    ⊎ ((f : Form) × TextHasForm bytes f × FormMeans before f e)

cases : (before : List Form) (bytes : List ℕ) (e : ScriptError) → Means before bytes e → Cases before bytes e
unfolding Cases
cases before bytes Syntax (IsSyntaxError.no_object h) = inl (h.none, refl)
cases before bytes Syntax (IsSyntaxError.no_form h) = inr (inr (inl ((h.value, h.keyword, h.is_object, h.told, h.none), refl)))
cases before bytes Syntax (IsSyntaxError.not_fitting h) = inr (inr (inr (h.form, h.text, inl h.misplaced)))
cases before bytes Syntax (IsSyntaxError.bad_value h) = inr (inr (inr (h.form, h.text, inr (h.placed, h.known, h.list, h.within, h.value))))
cases before bytes UnknownAction h = inr (inl ((h.value, h.is_object, h.none), refl))
cases before bytes UnknownName h = inr (inr (inr (h.form, h.text, (h.placed, h.unknown))))
cases before bytes (DataClone cause) h = inr (inr (inr (h.form, h.text, (h.placed, h.known, h.list))))
cases before bytes TooLarge h = inr (inr (inr (h.form, h.text, (h.placed, h.known, h.list, h.limit))))
cases before bytes OutOfMemory h = absurd h

-- an object with no keyword has no field by which a form is told
no_keyword : (bytes : List ℕ) (d c : Data) (k : Keyword) → IsObject bytes d → IsObject bytes c → ((j : Keyword) → get (form_word j) d ≡ None) → is_some (get (form_word k) c) ≡ true → ⊥
no_keyword bytes d c k h g none told =
    let same : c ≡ d = same_object bytes c d g h in
    let absent : is_some (get (form_word k) c) ≡ false = ap (λ x. is_some (get (form_word k) x)) same ∙ ap is_some (none k) in
    let clash : true ≡ false = sym told ∙ absent in cc

one_case : (before : List Form) (bytes : List ℕ) (e g : ScriptError) → Cases before bytes e → Cases before bytes g → e ≡ g
unfolding Cases
one_case before bytes e g (inl h) (inl k) = sym h.1 ∙ k.1
one_case before bytes e g (inl h) (inr (inl k)) = absurd (h.0 k.0.0 k.0.1)
one_case before bytes e g (inl h) (inr (inr (inl k))) = sym h.1 ∙ k.1
one_case before bytes e g (inl h) (inr (inr (inr k))) = absurd (h.0 k.1.value k.1.is_object)
one_case before bytes e g (inr (inl h)) (inl k) = absurd (k.0 h.0.0 h.0.1)
one_case before bytes e g (inr (inl h)) (inr (inl k)) = sym h.1 ∙ k.1
one_case before bytes e g (inr (inl h)) (inr (inr (inl k))) = absurd (no_keyword bytes h.0.0 k.0.0 k.0.1 h.0.1 k.0.2 h.0.2 k.0.3)
one_case before bytes e g (inr (inl h)) (inr (inr (inr k))) = absurd (no_keyword bytes h.0.0 k.1.value k.1.form.keyword h.0.1 k.1.is_object h.0.2 (has_keyword k.1.value k.0 k.1.form))
one_case before bytes e g (inr (inr (inl h))) (inl k) = sym h.1 ∙ k.1
one_case before bytes e g (inr (inr (inl h))) (inr (inl k)) = absurd (no_keyword bytes k.0.0 h.0.0 h.0.1 k.0.1 h.0.2 k.0.2 h.0.3)
one_case before bytes e g (inr (inr (inl h))) (inr (inr (inl k))) = sym h.1 ∙ k.1
one_case before bytes e g (inr (inr (inl h))) (inr (inr (inr k))) = absurd (h.0.4 k.0 (subst (λ d. HasForm d k.0) (same_object bytes k.1.value h.0.0 k.1.is_object h.0.2) k.1.form))
one_case before bytes e g (inr (inr (inr h))) (inl k) = absurd (k.0 h.1.value h.1.is_object)
one_case before bytes e g (inr (inr (inr h))) (inr (inl k)) = absurd (no_keyword bytes k.0.0 h.1.value h.1.form.keyword k.0.1 h.1.is_object k.0.2 (has_keyword h.1.value h.0 h.1.form))
one_case before bytes e g (inr (inr (inr h))) (inr (inr (inl k))) = absurd (k.0.4 h.0 (subst (λ d. HasForm d h.0) (same_object bytes h.1.value k.0.0 h.1.is_object k.0.2) h.1.form))
one_case before bytes e g (inr (inr (inr h))) (inr (inr (inr k))) = one_of_form before h.0 e g h.2 (subst (λ f. FormMeans before f g) (one_form bytes k.0 h.0 k.1 h.1) k.2)

pub one_refusal : OneRefusal
one_refusal before bytes e g h k = one_case before bytes e g (cases before bytes e h) (cases before bytes g k)

none_of_case : (before : List Form) (bytes : List ℕ) (f : Form) (e : ScriptError) → TextHasForm bytes f → IsAccepted before f → Cases before bytes e → ⊥
unfolding Cases
none_of_case before bytes f e line a (inl h) = h.0 line.value line.is_object
none_of_case before bytes f e line a (inr (inl h)) = no_keyword bytes h.0.0 line.value line.form.keyword h.0.1 line.is_object h.0.2 (has_keyword line.value f line.form)
none_of_case before bytes f e line a (inr (inr (inl h))) = h.0.4 f (subst (λ d. HasForm d f) (same_object bytes line.value h.0.0 line.is_object h.0.2) line.form)
none_of_case before bytes f e line a (inr (inr (inr h))) = accepted_not before f e a (subst (λ g. FormMeans before g e) (one_form bytes h.0 f h.1 line) h.2)

pub none_accepted : NoneAccepted
none_accepted before bytes f e line a h = none_of_case before bytes f e line a (cases before bytes e h)

-- ---- texts

-- two ways in which a list is split
abbrev pub AreSplit : {X : Type 0} → List X → X → List X → X → Type 0
AreSplit {X} xs x ys y = ((xs ≡ ys) × (x ≡ y)) ⊎ (((mid : List X) × (ys ≡ xs ++ x ∷ mid)) ⊎ ((mid : List X) × (xs ≡ ys ++ y ∷ mid)))

splits : {X : Type 0} (xs behind ys after : List X) (x y : X) → xs ++ x ∷ behind ≡ ys ++ y ∷ after → AreSplit xs x ys y
splits [] behind [] after x y h = inl (refl, cc)
splits [] behind (z ∷ ys) after x y h = inr (inl (ys, (let same : x ≡ z = cc in ap (λ w. w ∷ ys) (sym same))))
splits (z ∷ xs) behind [] after x y h = inr (inr (xs, (let same : z ≡ y = cc in ap (λ w. w ∷ xs) same)))
splits {X} (z ∷ xs) behind (w ∷ ys) after x y h = by (splits xs behind ys after x y (cc))
  where
    head : z ≡ w
    head = cc

    by : AreSplit xs x ys y → AreSplit (z ∷ xs) x (w ∷ ys) y
    by (inl g) = inl ((let rest : xs ≡ ys = g.0 in cc), g.1)
    by (inr (inl g)) = inr (inl (g.0, (let rest : ys ≡ xs ++ x ∷ g.0 = g.1 in cc)))
    by (inr (inr g)) = inr (inr (g.0, (let rest : xs ≡ ys ++ y ∷ g.0 = g.1 in cc)))

-- text lines have one list of forms at most
same_forms : (lines : List (List ℕ)) (fs gs : List Form) → AllZip TextHasForm lines fs → AllZip TextHasForm lines gs → fs ≡ gs
same_forms [] [] [] h k = refl
same_forms [] [] (g ∷ gs) h k = absurd k
same_forms [] (f ∷ fs) gs h k = absurd h
same_forms (l ∷ lines) [] gs h k = absurd h
same_forms (l ∷ lines) (f ∷ fs) [] h k = absurd k
same_forms (l ∷ lines) (f ∷ fs) (g ∷ gs) h k =
    let first : f ≡ g = one_form l f g h.0 k.0 in
    let rest : fs ≡ gs = same_forms lines fs gs h.1 k.1 in
    cc

-- the form of a text line among others, with the forms before it
abbrev pub FormAt : List (List ℕ) → List ℕ → List Form → Type 0
FormAt lines bad forms = (earlier later : List Form) × (f : Form) × (forms ≡ earlier ++ f ∷ later) × AllZip TextHasForm lines earlier × TextHasForm bad f

form_at : (lines : List (List ℕ)) (bad : List ℕ) (behind : List (List ℕ)) (forms : List Form) → AllZip TextHasForm (lines ++ bad ∷ behind) forms → FormAt lines bad forms
form_at [] bad behind [] h = absurd h
form_at [] bad behind (f ∷ forms) h = ([], forms, f, refl, tt, h.0)
form_at (l ∷ lines) bad behind [] h = absurd h
form_at (l ∷ lines) bad behind (f ∷ forms) h =
    let rest : FormAt lines bad forms = form_at lines bad behind forms h.1 in
    (f ∷ rest.0, rest.1, rest.2, ap (λ fs. f ∷ fs) rest.3, (h.0, rest.4), rest.5)

-- a text line that is refused behind accepted ones doesn't stand among accepted ones
not_among : (lines : List (List ℕ)) (bad : List ℕ) (behind all : List (List ℕ)) (e : ScriptError) (a : AreAccepted lines) → Means a.forms bad e → AreAccepted all → all ≡ lines ++ bad ∷ behind → ⊥
not_among lines bad behind all e a means b is =
    let at : FormAt lines bad b.forms = form_at lines bad behind b.forms (subst (λ ls. AllZip TextHasForm ls b.forms) is b.shown) in
    let same : at.0 ≡ a.forms = same_forms lines at.0 a.forms at.4 a.shown in
    none_accepted a.forms bad at.2 e at.5 (subst (λ fs. IsAccepted fs at.2) same (b.accepted at.0 at.1 at.2 at.3)) means

pub one_answer : OneFault
one_answer text n m e g h k = by (splits h.before h.behind k.before k.behind h.refused k.refused (sym h.lines ∙ k.lines))
  where
    means_there : (a : AreAccepted h.before) (b : AreAccepted k.before) → h.before ≡ k.before → h.refused ≡ k.refused → Means b.forms k.refused g → Means a.forms h.refused g
    means_there a b same bad means =
        let forms : b.forms ≡ a.forms = same_forms h.before b.forms a.forms (subst (λ ls. AllZip TextHasForm ls b.forms) (sym same) b.shown) a.shown in
        subst (λ fs. Means fs h.refused g) forms (subst (λ l. Means b.forms l g) (sym bad) means)

    by : AreSplit h.before h.refused k.before k.refused → (n ≡ m) × (e ≡ g)
    by (inl p) = (h.number ∙ ap (λ ls. length ls + 1) p.0 ∙ sym k.number, one_refusal h.accepted.forms h.refused e g h.means (means_there h.accepted k.accepted p.0 p.1 k.means))
    by (inr (inl p)) = absurd (not_among h.before h.refused p.0 k.before e h.accepted h.means k.accepted p.1)
    by (inr (inr p)) = absurd (not_among k.before k.refused p.0 h.before g k.accepted k.means h.accepted p.1)

pub no_script : NoScript
no_script text n e h all = not_among h.before h.refused h.behind (text_lines_of text) e h.accepted h.means all h.lines
