-- What is known after a line of each form is what stands there with that line.
use Rattle.std.proofs.Common.{◌≡◌, ◌⊎◌, ℕ, ◌+◌, ◌*◌, List, [], ◌∷◌, ◌++◌, length, ◌||◌, Some, refl, ap, sym, ◌∙◌, subst, inl, inr, arith, append-nil, length-append}
use Rattle.std.specs.Bool.{◌==◌}
use Rattle.std.specs.List.{AllZip, Contains}
use Rattle.std.specs.Prelude.{Result}
use Rattle.std.proofs.lemmas.Bool.Decides.{Decides-eqb, Decides-like, Decides-or}
use Rattle.std.proofs.lemmas.List.{map-append}
use Rattle.std.proofs.lemmas.List.Quantifiers.{Any-push}
use Rattle.hub_origin.specs.declared.origin.OriginError.{OriginError}
use Rattle.hub_envelope.specs.declared.ids.AgentId.{AgentId}
use Rattle.hub_script.specs.declared.action.ActionKind.{ActionKind}
use Rattle.hub_script.specs.declared.script.AgentKind.{AgentKind}
use Rattle.hub_script.specs.declared.script.DeclaredAgent.{DeclaredAgent}
use Rattle.hub_script.specs.declared.form.ActionForm.{ActionForm}
use Rattle.hub_script.specs.declared.form.ActionForm.TheVariants.{Close, Receive, Hand}
use Rattle.hub_script.specs.declared.form.Form.{Form}
use Rattle.hub_script.specs.declared.form.Form.TheVariants as form
use Rattle.hub_script.specs.declared.script_reader.NamedEnd.{NamedEnd}
use Rattle.hub_script.specs.Before.{DeclaresMember, DeclaresPort, Gets, Hands, HoldsAt, IsDeclared, IsMember, IsPort, agent_kinds}
use Rattle.hub_script.specs.Contents.{declared_agents, with_declared, with_channel, with_member}
use Rattle.hub_script.specs.Context.{acting}
use Rattle.hub_script.specs.Known.{Known, declaring, giving, giving_all, holding, name_count, naming_more, next_broadcast_member, next_port, second_port, taking_more, with_handed, with_holds, with_script}
use Rattle.hub_script.proofs.Naming.{IsFresh, IsNumbered, fresh_all, fresh_given, fresh_with, holds_declared, holds_given, holds_like, holds_received, holds_transferred, member_declared, name_like, numbered_more, port_declared}
use Rattle.hub_script.proofs.OneLineMore.{Any-before, Any-cases, GivesUp, held_before, held_by_last, held_still, one_agent_more}
use Rattle.hub_script.proofs.Standing.{Stands, acted, declared_still, holds_same, same_acted, same_handed, same_names}

-- ---- actions

-- an action by which nobody gets or gives up a name, or hands a queue on
pub plainly : (before : List Form) (k : Known) (at : ℕ) (x : ActionForm) (a : AgentId) (kind : ActionKind) → Stands before k
    → ((b : ℕ) (n : List ℕ) → ¬ Gets (form.Action at x) b n) → ((b : ℕ) (n : List ℕ) → ¬ GivesUp (form.Action at x) b n) → ((b : ℕ) → ¬ Hands (form.Action at x) b)
    → Stands (before ++ form.Action at x ∷ []) (acting k a kind)
plainly before k at x a kind s gets gives hands =
    acted before k at x (record { at = a; kind = kind }) k.holds k.handed s
    (holds_same before (form.Action at x) k.names k.holds gets gives s.holds) s.fresh (λ b n g. absurd (gets b n g)) (same_handed before (form.Action at x) k s hands)

pub hands_on : (before : List Form) (k : Known) (at to : ℕ) (kind : ActionKind) → Stands before k
    → Stands (before ++ form.Action at (Hand to) ∷ []) (with_handed (acting k (record { 0 = at }) kind) at)
hands_on before k at to kind s =
    acted before k at (Hand to) (record { at = record { 0 = at }; kind = kind }) k.holds (λ b. (at == b) || k.handed b) s
    (holds_same before (form.Action at (Hand to)) k.names k.holds (λ b n g. g) (λ b n g. elim g [ inl h ↦ h | inr h ↦ h ]) s.holds) s.fresh (λ b n g. absurd g)
    (λ b. Decides-like ((at == b) || k.handed b)
    (elim [ inl e ↦ Any-push (λ x. Hands x b) before (form.Action at (Hand to)) e | inr h ↦ Any-before (λ x. Hands x b) before (form.Action at (Hand to)) h ])
    (λ h. elim (Any-cases (λ x. Hands x b) before (form.Action at (Hand to)) h) [ inl g ↦ inr g | inr e ↦ inl e ])
    (Decides-or (at == b) (k.handed b) (Decides-eqb at b) (s.handed b)))

pub receives : (before : List Form) (k : Known) (at : ℕ) (n : List ℕ) (port : NamedEnd) (kind : ActionKind) → Stands before k → k.names n ≡ Some port → IsPort before n
    → Stands (before ++ form.Action at (Receive n) ∷ []) (with_holds (acting k (record { 0 = at }) kind) (taking_more (holding (record { 0 = at }) port)))
receives before k at n port kind s named is_port =
    acted before k at (Receive n) (record { at = record { 0 = at }; kind = kind }) (taking_more (holding (record { 0 = at }) port) k.holds) k.handed s
    (holds_like k.names (taking_more (holding (record { 0 = at }) port) k.holds) (λ b m. ((at ≡ b) × (n ≡ m)) ⊎ HoldsAt before b m) (HoldsAt (before ++ line ∷ []))
    (λ b m. elim [ inl g ↦ held_by_last before line b m g | inr h ↦ held_still before line b m h (λ g. elim g [ inl t ↦ t | inr t ↦ t ]) ])
    (λ b m h. elim (held_before before line b m h) [ inl g ↦ inl g | inr g ↦ inr g.0 ])
    (holds_received k.names k.holds (HoldsAt before) (name_count k.script) n port (record { 0 = at }) s.holds s.numbered named))
    (fresh_with k.holds (name_count k.script) (name_count k.script) (record { 0 = at }) port s.fresh (s.numbered.below n port named) (omega arith))
    (λ b m g. inl (subst (IsPort before) g.1 is_port))
    (same_handed before line k s (λ b h. h))
  where
    line : Form
    line = form.Action at (Receive n)

pub closes : (before : List Form) (k : Known) (at : ℕ) (n : List ℕ) (end : NamedEnd) (kind : ActionKind) → Stands before k → k.names n ≡ Some end
    → Stands (before ++ form.Action at (Close n) ∷ []) (with_holds (acting k (record { 0 = at }) kind) (giving (holding (record { 0 = at }) end)))
closes before k at n end kind s named =
    acted before k at (Close n) (record { at = record { 0 = at }; kind = kind }) (giving (holding (record { 0 = at }) end) k.holds) k.handed s
    (holds_like k.names (giving (holding (record { 0 = at }) end) k.holds) (λ b m. (¬ ((at ≡ b) × (n ≡ m))) × HoldsAt before b m) (HoldsAt (before ++ line ∷ []))
    (λ b m h. held_still before line b m h.1 (λ g. elim g [ inl t ↦ t | inr c ↦ h.0 c ]))
    (λ b m h. elim (held_before before line b m h) [ inl g ↦ absurd g | inr g ↦ ((λ c. g.1 (inr c)), g.0) ])
    (holds_given k.names k.holds (HoldsAt before) (name_count k.script) n end (record { 0 = at }) s.holds s.numbered named))
    (fresh_given k.holds (name_count k.script) (holding (record { 0 = at }) end) s.fresh)
    (λ b m g. absurd g)
    (same_handed before line k s (λ b h. h))
  where
    line : Form
    line = form.Action at (Close n)

-- an action that transfers ports
pub transfers : (before : List Form) (k : Known) (at : ℕ) (x : ActionForm) (names : List (List ℕ)) (ports : List NamedEnd) (kind : ActionKind) → Stands before k
    → AllZip (λ n p. k.names n ≡ Some p) names ports
    → ((b : ℕ) (n : List ℕ) → ¬ Gets (form.Action at x) b n) → ((b : ℕ) → ¬ Hands (form.Action at x) b)
    → ((b : ℕ) (n : List ℕ) → GivesUp (form.Action at x) b n → (at ≡ b) × Contains names n) → ((b : ℕ) (n : List ℕ) → (at ≡ b) × Contains names n → GivesUp (form.Action at x) b n)
    → Stands (before ++ form.Action at x ∷ []) (with_holds (acting k (record { 0 = at }) kind) (giving_all (record { 0 = at }) ports))
transfers before k at x names ports kind s named gets hands there back =
    acted before k at x (record { at = record { 0 = at }; kind = kind }) (giving_all (record { 0 = at }) ports k.holds) k.handed s
    (holds_like k.names (giving_all (record { 0 = at }) ports k.holds) (λ b m. (¬ ((at ≡ b) × Contains names m)) × HoldsAt before b m) (HoldsAt (before ++ form.Action at x ∷ []))
    (λ b m h. held_still before (form.Action at x) b m h.1 (λ g. h.0 (there b m g)))
    (λ b m h. elim (held_before before (form.Action at x) b m h) [ inl g ↦ absurd (gets b m g) | inr g ↦ ((λ c. g.1 (back b m c)), g.0) ])
    (holds_transferred k.names k.holds (HoldsAt before) (name_count k.script) names ports (record { 0 = at }) s.holds s.numbered named))
    (fresh_all k.holds (name_count k.script) (record { 0 = at }) ports s.fresh)
    (λ b n g. absurd (gets b n g))
    (same_handed before (form.Action at x) k s hands)

-- ---- declarations

pub declares_agent : (before : List Form) (k : Known) (kind : AgentKind) (answer : Result (List ℕ) OriginError) (origin : List ℕ) → Stands before k
    → Stands (before ++ form.Agent kind answer ∷ []) (with_script k (with_declared k.script (record { kind = kind; origin = origin })))
declares_agent before k kind answer origin s = record {
  count = (let n : length k.script.0 + length k.script.1 + length k.script.2 + length k.script.3 ≡ length before = s.count in simp length-append (omega arith));
  agents = map-append (λ (a : DeclaredAgent). a.kind) (declared_agents k.script) (record { kind = kind; origin = origin } ∷ []) ∙ ap (λ kinds. kinds ++ kind ∷ []) s.agents ∙ sym (one_agent_more before line);
  acted = same_acted before line k s (λ h. h);
  names = same_names before line k s (λ n h. h) (λ n h. h);
  numbered = s.numbered;
  fresh = s.fresh;
  holds = holds_same before line k.names k.holds (λ b n g. g) (λ b n g. elim g [ inl h ↦ h | inr h ↦ h ]) s.holds;
  declared = declared_still before line k s (λ b n g. absurd g);
  handed = same_handed before line k s (λ b h. h);
}
  where
    line : Form
    line = form.Agent kind answer

pub declares_member : (before : List Form) (k : Known) (name : List ℕ) (at : ℕ) (on : List ℕ) → Stands before k → ¬ IsDeclared before name
    → Stands (before ++ form.Member name at on ∷ []) (with_script (declaring k name (next_broadcast_member k.script) (record { 0 = at })) (with_member k.script (record { at = record { 0 = at }; name = name; on = on })))
declares_member before k name at on s free = record {
  count = (let n : length k.script.0 + length k.script.1 + length k.script.2 + length k.script.3 ≡ length before = s.count in simp length-append (omega arith));
  agents = s.agents ∙ sym (append-nil (agent_kinds before)) ∙ sym (one_agent_more before line);
  acted = same_acted before line k s (λ h. h);
  names = λ n. name_like (naming_more name member k.names n) (IsPort before n) (IsPort (before ++ line ∷ []) n) ((name ≡ n) ⊎ IsMember before n) (IsMember (before ++ line ∷ []) n)
      (Any-before (λ x. DeclaresPort x n) before line)
      (λ h. elim (Any-cases (λ x. DeclaresPort x n) before line h) [ inl g ↦ g | inr g ↦ absurd g ])
      (elim [ inl e ↦ Any-push (λ x. DeclaresMember x n) before line e | inr h ↦ Any-before (λ x. DeclaresMember x n) before line h ])
      (λ h. elim (Any-cases (λ x. DeclaresMember x n) before line h) [ inl g ↦ inr g | inr e ↦ inl e ])
      (member_declared k.names (IsPort before) (IsMember before) name member s.names (λ h. free (inl h)) refl n);
  numbered = subst (IsNumbered (naming_more name member k.names)) more (numbered_more k.names count name member s.numbered refl);
  fresh = fresh_with k.holds count (count_after) (record { 0 = at }) member s.fresh (omega (arith, more)) (omega (arith, more));
  holds = holds_like (naming_more name member k.names) (taking_more (holding (record { 0 = at }) member) k.holds) (λ b n. ((at ≡ b) × (name ≡ n)) ⊎ HoldsAt before b n) (HoldsAt (before ++ line ∷ []))
      (λ b n. elim [ inl g ↦ held_by_last before line b n g | inr h ↦ held_still before line b n h (λ g. elim g [ inl t ↦ t | inr t ↦ t ]) ])
      (λ b n h. elim (held_before before line b n h) [ inl g ↦ inl g | inr g ↦ inr g.0 ])
      (holds_declared k.names k.holds (HoldsAt before) count name member (record { 0 = at }) s.holds s.numbered s.fresh refl (λ b h. free (s.declared b name h)));
  declared = declared_still before line k s (λ b n g. inr (Any-push (λ x. DeclaresMember x n) before line g.1));
  handed = same_handed before line k s (λ b h. h);
}
  where
    line : Form
    line = form.Member name at on

    member : NamedEnd
    member = next_broadcast_member k.script

    count : ℕ
    count = name_count k.script

    count_after : ℕ
    count_after = 2 * length k.script.1 + length (k.script.2 ++ record { at = record { 0 = at }; name = name; on = on } ∷ [])

    more : count + 1 ≡ count_after
    more = simp length-append (omega arith)

pub declares_channel : (before : List Form) (k : Known) (first second : List ℕ) (at : ℕ) → Stands before k → ¬ IsDeclared before first → ¬ IsDeclared before second → ¬ (first ≡ second)
    → Stands (before ++ form.Channel first second at ∷ [])
    (with_script (declaring (declaring k first (next_port k.script) (record { 0 = at })) second (second_port k.script) (record { 0 = at })) (with_channel k.script (record { at = record { 0 = at }; first = first; second = second })))
declares_channel before k first second at s free other different = record {
  count = (let n : length k.script.0 + length k.script.1 + length k.script.2 + length k.script.3 ≡ length before = s.count in simp length-append (omega arith));
  agents = s.agents ∙ sym (append-nil (agent_kinds before)) ∙ sym (one_agent_more before line);
  acted = same_acted before line k s (λ h. h);
  names = λ n. name_like (naming_more second q (naming_more first p k.names) n) ((second ≡ n) ⊎ ((first ≡ n) ⊎ IsPort before n)) (IsPort (before ++ line ∷ []) n) (IsMember before n) (IsMember (before ++ line ∷ []) n)
      (elim [ inl e ↦ Any-push (λ x. DeclaresPort x n) before line (inr e) | inr (inl e) ↦ Any-push (λ x. DeclaresPort x n) before line (inl e) | inr (inr h) ↦ Any-before (λ x. DeclaresPort x n) before line h ])
      (λ h. elim (Any-cases (λ x. DeclaresPort x n) before line h) [ inl g ↦ inr (inr g) | inr (inl e) ↦ inr (inl e) | inr (inr e) ↦ inl e ])
      (Any-before (λ x. DeclaresMember x n) before line)
      (λ h. elim (Any-cases (λ x. DeclaresMember x n) before line h) [ inl g ↦ g | inr g ↦ absurd g ])
      (port_declared (naming_more first p k.names) (λ m. (first ≡ m) ⊎ IsPort before m) (IsMember before) second q
      (port_declared k.names (IsPort before) (IsMember before) first p s.names (λ h. free (inr h)) refl) (λ h. other (inr h)) refl n);
  numbered = subst (IsNumbered (naming_more second q (naming_more first p k.names))) more (numbered_more (naming_more first p k.names) (count + 1) second q one_numbered refl);
  fresh = fresh_with (taking_more (holding (record { 0 = at }) p) k.holds) (count + 1) count_after (record { 0 = at }) q one_fresh (omega (arith, more)) (omega (arith, more));
  holds = holds_like (naming_more second q (naming_more first p k.names)) (taking_more (holding (record { 0 = at }) q) (taking_more (holding (record { 0 = at }) p) k.holds))
      (λ b n. ((at ≡ b) × (second ≡ n)) ⊎ (((at ≡ b) × (first ≡ n)) ⊎ HoldsAt before b n)) (HoldsAt (before ++ line ∷ []))
      (λ b n. elim [ inl g ↦ held_by_last before line b n (g.0, inr g.1) | inr (inl g) ↦ held_by_last before line b n (g.0, inl g.1) | inr (inr h) ↦ held_still before line b n h (λ g. elim g [ inl t ↦ t | inr t ↦ t ]) ])
      (λ b n h. got b n (held_before before line b n h))
      (holds_declared (naming_more first p k.names) (taking_more (holding (record { 0 = at }) p) k.holds) (λ b n. ((at ≡ b) × (first ≡ n)) ⊎ HoldsAt before b n) (count + 1) second q (record { 0 = at })
      (holds_declared k.names k.holds (HoldsAt before) count first p (record { 0 = at }) s.holds s.numbered s.fresh refl (λ b h. free (s.declared b first h)))
      one_numbered one_fresh refl
      (λ b. elim [ inl g ↦ different g.1 | inr h ↦ other (s.declared b second h) ]));
  declared = declared_still before line k s (λ b n g. inl (Any-push (λ x. DeclaresPort x n) before line g.1));
  handed = same_handed before line k s (λ b h. h);
}
  where
    line : Form
    line = form.Channel first second at

    p : NamedEnd
    p = next_port k.script

    q : NamedEnd
    q = second_port k.script

    count : ℕ
    count = name_count k.script

    count_after : ℕ
    count_after = 2 * length (k.script.1 ++ record { at = record { 0 = at }; first = first; second = second } ∷ []) + length k.script.2

    more : count + 1 + 1 ≡ count_after
    more = simp length-append (omega arith)

    one_numbered : IsNumbered (naming_more first p k.names) (count + 1)
    one_numbered = numbered_more k.names count first p s.numbered refl

    one_fresh : IsFresh (taking_more (holding (record { 0 = at }) p) k.holds) (count + 1)
    one_fresh = fresh_with k.holds count (count + 1) (record { 0 = at }) p s.fresh (omega arith) (omega arith)

    got : (b : ℕ) (n : List ℕ) → Gets line b n ⊎ (HoldsAt before b n × (¬ GivesUp line b n)) → ((at ≡ b) × (second ≡ n)) ⊎ (((at ≡ b) × (first ≡ n)) ⊎ HoldsAt before b n)
    got b n (inl g) = elim g.1 [ inl e ↦ inr (inl (g.0, e)) | inr e ↦ inl (g.0, e) ]
    got b n (inr g) = inr (inr g.0)
