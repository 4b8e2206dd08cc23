-- What is known after the lines so far is what stands in them.
use Rattle.std.proofs.Common.{◌≡◌, ◌⊎◌, ℕ, List, [], ◌∷◌, ◌++◌, length, map, Bool, true, false, not, Option, refl, sym, ◌∙◌, inl, inr, arith, append-nil, length-append}
use Rattle.std.specs.Bool.{Decides}
use Rattle.std.specs.List.{Any}
use Rattle.std.proofs.lemmas.Bool.Decides.{Decides-like}
use Rattle.std.proofs.lemmas.List.Quantifiers.{Any-push}
use Rattle.hub_script.specs.declared.action.Action.{Action}
use Rattle.hub_script.specs.declared.script.AgentKind.{AgentKind}
use Rattle.hub_script.specs.declared.script.DeclaredAgent.{DeclaredAgent}
use Rattle.hub_script.specs.declared.form.ActionForm.{ActionForm}
use Rattle.hub_script.specs.declared.form.Form.{Form}
use Rattle.hub_script.specs.declared.form.Form.TheVariants as form
use Rattle.hub_script.specs.declared.script_reader.NameHolder.{NameHolder}
use Rattle.hub_script.specs.declared.script_reader.NamedEnd.{NamedEnd}
use Rattle.hub_script.specs.Before.{Gets, Hands, HasHanded, HoldsAt, IsAction, IsDeclared, IsMember, IsPort, DeclaresMember, DeclaresPort, agent_kinds}
use Rattle.hub_script.specs.Contents.{Contents, actions, declared_agents, line_count, with_action}
use Rattle.hub_script.specs.Context.{has_no_action}
use Rattle.hub_script.specs.Known.{Known, name_count, nothing}
use Rattle.hub_script.proofs.Naming.{HoldsAs, IsFresh, IsNumbered, NamesAs, holds_like, name_like}
use Rattle.hub_script.proofs.OneLineMore.{Any-before, Any-cases, GivesUp, held_before, held_still, none_yet, not_nil, one_agent_more}

abbrev pub kinds_of : Contents → List AgentKind
kinds_of s = map (λ (a : DeclaredAgent). a.kind) (declared_agents s)

pub record Stands (before : List Form) (k : Known) : Type 0 where
  pub count : line_count k.script ≡ length before
  pub agents : kinds_of k.script ≡ agent_kinds before
  pub acted : Decides (not (has_no_action (actions k.script))) (Any IsAction before)
  pub names : NamesAs k.names (IsPort before) (IsMember before)
  pub numbered : IsNumbered k.names (name_count k.script)
  pub fresh : IsFresh k.holds (name_count k.script)
  pub holds : HoldsAs k.names k.holds (HoldsAt before)
  pub declared : (a : ℕ) (n : List ℕ) → HoldsAt before a n → IsDeclared before n
  pub handed : (a : ℕ) → Decides (k.handed a) (HasHanded before a)

holds_nothing : (a : ℕ) (n : List ℕ) → ¬ HoldsAt [] a n
holds_nothing a n h = not_nil h.earlier h.later h.gaining h.split

pub at_first : Stands [] nothing
at_first = record {
  count = refl;
  agents = refl;
  acted = ((λ e. absurd (let f : false ≡ true = e in cc)), λ h. absurd (none_yet IsAction h));
  names = λ n. ((λ h. none_yet (λ f. DeclaresPort f n) h), λ h. none_yet (λ f. DeclaresMember f n) h);
  numbered = record { below = λ n x e. absurd (cc); apart = λ n m x y e d s. absurd (cc) };
  fresh = λ h l. refl;
  holds = λ a n x e. absurd (cc);
  declared = λ a n h. absurd (holds_nothing a n h);
  handed = λ a. ((λ e. absurd (let f : false ≡ true = e in cc)), λ h. absurd (none_yet (λ f. Hands f a) h));
}

-- ---- what one line more declares

pub declared_before : (before : List Form) (f : Form) (n : List ℕ) → IsDeclared before n → IsDeclared (before ++ f ∷ []) n
declared_before before f n (inl h) = inl (Any-before (λ x. DeclaresPort x n) before f h)
declared_before before f n (inr h) = inr (Any-before (λ x. DeclaresMember x n) before f h)

pub declared_still : (before : List Form) (f : Form) (k : Known) → Stands before k → ((a : ℕ) (n : List ℕ) → Gets f a n → IsDeclared (before ++ f ∷ []) n)
    → (a : ℕ) (n : List ℕ) → HoldsAt (before ++ f ∷ []) a n → IsDeclared (before ++ f ∷ []) n
declared_still before f k s gets a n h = by (held_before before f a n h)
  where
    by : Gets f a n ⊎ (HoldsAt before a n × (¬ GivesUp f a n)) → IsDeclared (before ++ f ∷ []) n
    by (inl g) = gets a n g
    by (inr g) = declared_before before f n (s.declared a n g.0)

-- a line that declares no name leaves what names name
pub same_names : (before : List Form) (f : Form) (k : Known) → Stands before k → ((n : List ℕ) → ¬ DeclaresPort f n) → ((n : List ℕ) → ¬ DeclaresMember f n)
    → NamesAs k.names (IsPort (before ++ f ∷ [])) (IsMember (before ++ f ∷ []))
same_names before f k s no_port no_member n =
    name_like (k.names n) (IsPort before n) (IsPort (before ++ f ∷ []) n) (IsMember before n) (IsMember (before ++ f ∷ []) n)
    (Any-before (λ x. DeclaresPort x n) before f)
    (λ h. elim (Any-cases (λ x. DeclaresPort x n) before f h) [ inl g ↦ g | inr g ↦ absurd (no_port n g) ])
    (Any-before (λ x. DeclaresMember x n) before f)
    (λ h. elim (Any-cases (λ x. DeclaresMember x n) before f h) [ inl g ↦ g | inr g ↦ absurd (no_member n g) ])
    (s.names n)

pub same_handed : (before : List Form) (f : Form) (k : Known) → Stands before k → ((a : ℕ) → ¬ Hands f a) → (a : ℕ) → Decides (k.handed a) (HasHanded (before ++ f ∷ []) a)
same_handed before f k s none a =
    Decides-like (k.handed a) (Any-before (λ x. Hands x a) before f) (λ h. elim (Any-cases (λ x. Hands x a) before f h) [ inl g ↦ g | inr g ↦ absurd (none a g) ]) (s.handed a)

pub same_acted : (before : List Form) (f : Form) (k : Known) → Stands before k → ¬ IsAction f → Decides (not (has_no_action (actions k.script))) (Any IsAction (before ++ f ∷ []))
same_acted before f k s none =
    Decides-like (not (has_no_action (actions k.script))) (Any-before IsAction before f) (λ h. elim (Any-cases IsAction before f h) [ inl g ↦ g | inr g ↦ absurd (none g) ]) s.acted

pub holds_same : (before : List Form) (f : Form) (names : List ℕ → Option NamedEnd) (holds : NameHolder → Bool) → ((a : ℕ) (n : List ℕ) → ¬ Gets f a n) → ((a : ℕ) (n : List ℕ) → ¬ GivesUp f a n)
    → HoldsAs names holds (HoldsAt before) → HoldsAs names holds (HoldsAt (before ++ f ∷ []))
holds_same before f names holds gets gives h =
    holds_like names holds (HoldsAt before) (HoldsAt (before ++ f ∷ []))
    (λ a n g. held_still before f a n g (gives a n))
    (λ a n g. elim (held_before before f a n g) [ inl e ↦ absurd (gets a n e) | inr e ↦ e.0 ]) h

-- ---- actions

some_action : (xs : List Action) (x : Action) → not (has_no_action (xs ++ x ∷ [])) ≡ true
some_action [] x = refl
some_action (y ∷ ys) x = refl

-- the line is an action that leaves these holdings and these agents that have handed their queue on
pub acted : (before : List Form) (k : Known) (at : ℕ) (x : ActionForm) (action : Action) (holds : NameHolder → Bool) (handed : ℕ → Bool) → Stands before k
    → HoldsAs k.names holds (HoldsAt (before ++ form.Action at x ∷ [])) → IsFresh holds (name_count k.script)
    → ((a : ℕ) (n : List ℕ) → Gets (form.Action at x) a n → IsDeclared before n)
    → ((a : ℕ) → Decides (handed a) (HasHanded (before ++ form.Action at x ∷ []) a))
    → Stands (before ++ form.Action at x ∷ []) (record { script = with_action k.script action; names = k.names; holds = holds; handed = handed })
acted before k at x action holds handed s held fresh gets hands = record {
  count = (let n : line_count k.script ≡ length before = s.count in simp length-append (omega arith));
  agents = s.agents ∙ sym (append-nil (agent_kinds before)) ∙ sym (one_agent_more before (form.Action at x));
  acted = ((λ e. Any-push IsAction before (form.Action at x) tt), λ h. some_action (actions k.script) action);
  names = same_names before (form.Action at x) k s (λ n h. h) (λ n h. h);
  numbered = s.numbered;
  fresh = fresh;
  holds = held;
  declared = declared_still before (form.Action at x) k s (λ a n g. declared_before before (form.Action at x) n (gets a n g));
  handed = hands;
}
