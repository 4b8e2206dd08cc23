-- What each test finds, where what is known is what stands before the text line.
use Rattle.std.proofs.Common.{◌≡◌, ◌⊎◌, ℕ, ◌<◌, ◌≤◌, List, [], ◌∷◌, ◌++◌, length, Bool, true, false, not, ◌||◌, ◌&&◌, nat_lt, nat_le, Option, Some, None, Result, Ok, Err, refl, ap, sym, ◌∙◌, subst, inl, inr, arith}
use Rattle.std.specs.Bool.{Decides, ◌==◌}
use Rattle.std.specs.Cmp.Lexicographic.{bytes_decides}
use Rattle.std.specs.List.{All, Any, Contains, list_all}
use Rattle.std.specs.Prelude.{codes, is_some, slice_get, option_map}
use Rattle.std.specs.Str.{bytes_eq}
use Rattle.std.proofs.lemmas.Bool.{and_cases, and_parts, leb-true, leb-false, ltb-true, ltb-false, not-false, not-true, not_from_false, not_from_true, or_cases, or_parts}
use Rattle.std.proofs.lemmas.Bool.Decides.{Decides-by_and, Decides-eqb, Decides-like, Decides-or, not_from_Decides}
use Rattle.std.proofs.lemmas.List.{length-map}
use Rattle.std.proofs.lemmas.List.Elements.{All-contains}
use Rattle.std.proofs.lemmas.Option.{slice_get-map}
use Rattle.hub_envelope.specs.declared.body.BodyError.{BodyError}
use Rattle.hub_envelope.specs.declared.body.BodyError.TheVariants.{NotJson, NotWhole, TooDeep, TooLong, OutOfMemory as NoMemory}
use Rattle.hub_envelope.specs.declared.limits.TheConstants.{MAX_AGENTS, MAX_PORTS, MAX_SCRIPT_LINES}
use Rattle.hub_script.specs.declared.script.AgentKind.{AgentKind}
use Rattle.hub_script.specs.declared.script.AgentKind.TheVariants.{Window, Worker}
use Rattle.hub_script.specs.declared.script.DeclaredAgent.{DeclaredAgent}
use Rattle.hub_script.specs.declared.form.ActionForm.{ActionForm}
use Rattle.hub_script.specs.declared.form.ActionForm.TheVariants.{Post, Send, Cast, Start, Loaded, Event as LifeEvent, Hand, Fetch}
use Rattle.hub_script.specs.declared.form.Form.{Form}
use Rattle.hub_script.specs.declared.form.Form.TheVariants as form
use Rattle.hub_script.specs.declared.script_reader.NamedEnd.{NamedEnd}
use Rattle.hub_script.specs.declared.script_reader.NameKind.{NameKind}
use Rattle.hub_script.specs.declared.script_reader.NameKind.TheVariants.{Port, Member}
use Rattle.hub_script.specs.Before.{Hands, HasHanded, HoldsAt, IsAction, IsDeclared, IsMember, IsPort, Transfers, agent_kind, agent_kinds}
use Rattle.hub_script.specs.Contents.{actions, declared_agents, line_count}
use Rattle.hub_script.specs.Context.{are_known, declared_as, has_agent_of_number, has_no_action, has_room, has_small_body, has_twice, holds_end, holds_list, is_agent, is_unused, holds_named, is_kind, is_member, is_placed, is_port, is_body_within_limits, is_timely, is_within, lists_source, agent_may_start_queue, names_member, names_port, of_port, stands_in}
use Rattle.hub_script.specs.Known.{Known}
use Rattle.hub_script.specs.Refusals.{AreKnown, HasDetached, HasEvent, HasUnknown, IsMisplaced, IsOwnQueue, IsTooLarge, ListsSource, StandsTwice, StartsQueue}
use Rattle.hub_script.specs.Uses.{agents_named, body_of, members_named, names_declared, names_used, ports_named, transfer_of, transferred}
use Rattle.hub_script.proofs.Naming.{KindAs, NameAs, contains_cases, contains_first, contains_rest}
use Rattle.hub_script.proofs.OneLineMore.{not_nil}
use Rattle.hub_script.proofs.Standing.{Stands}

pub and_true : (b : Bool) → (b && true) ≡ b
and_true true = refl
and_true false = refl

clash : {A : Type 0} → false ≡ true → A
clash e = absurd (cc)

-- ---- lists of tests

-- where not each passes, one doesn't
one_fails : {X : Type 0} (p : X → Bool) (P : X → Type 0) → ((x : X) → Decides (p x) (P x)) → (xs : List X) → list_all p xs ≡ false → (x : X) × Contains xs x × (¬ P x)
one_fails p P d [] h = absurd (cc)
one_fails {X} p P d (x ∷ xs) h = by (p x) (d x) h (one_fails p P d xs)
  where
    by : (b : Bool) → Decides b (P x) → (b && list_all p xs) ≡ false → (list_all p xs ≡ false → (y : X) × Contains xs y × (¬ P y)) → (y : X) × Contains (x ∷ xs) y × (¬ P y)
    by false e g rest = (x, contains_first x xs, not_from_Decides false e refl)
    by true e g rest = let r : (y : X) × Contains xs y × (¬ P y) = rest g in (r.0, contains_rest x xs r.0 r.1, r.2)

each_passes : {X : Type 0} (p : X → Bool) (P : X → Type 0) → ((x : X) → Decides (p x) (P x)) → (xs : List X) → list_all p xs ≡ true → All P xs
each_passes p P d xs h = (Decides-by_and p P (list_all p) d refl (λ _ _. refl) xs).0 h

-- ---- agents

pub agent_count : (before : List Form) (k : Known) → Stands before k → length (declared_agents k.script) ≡ length (agent_kinds before)
agent_count before k s = sym (length-map (declared_agents k.script) (λ (a : DeclaredAgent). a.kind)) ∙ ap length s.agents

pub agent_decides : (before : List Form) (k : Known) (at : ℕ) → Stands before k → Decides (has_agent_of_number k at) (at < length (agent_kinds before))
agent_decides before k at s = by (has_agent_of_number k at) refl
  where
    by : (b : Bool) → nat_lt at (length (declared_agents k.script)) ≡ b → Decides b (at < length (agent_kinds before))
    by true e = ((λ _. (omega (arith, ltb-true at (length (declared_agents k.script)) e, agent_count before k s))), λ _. refl)
    by false e = (clash, λ l. absurd (omega (arith, ltb-false at (length (declared_agents k.script)) e, agent_count before k s)))

is_kind-Decides : (kind other : AgentKind) → Decides (is_kind kind other) (other ≡ kind)
is_kind-Decides Window Window = ((λ e. refl), λ e. refl)
is_kind-Decides Window Worker = ((λ e. absurd (let f : false ≡ true = e in cc)), λ e. absurd (cc))
is_kind-Decides Worker Window = ((λ e. absurd (let f : false ≡ true = e in cc)), λ e. absurd (cc))
is_kind-Decides Worker Worker = ((λ e. refl), λ e. refl)

pub kind_decides : (before : List Form) (k : Known) (kind : AgentKind) (at : ℕ) → Stands before k → Decides (is_agent k kind at) (slice_get (agent_kinds before) at ≡ Some kind)
kind_decides before k kind at s = by (slice_get (declared_agents k.script) at) refl
  where
    kinds : slice_get (agent_kinds before) at ≡ option_map (λ (a : DeclaredAgent). a.kind) (slice_get (declared_agents k.script) at)
    kinds = ap (λ xs. slice_get xs at) (sym s.agents) ∙ slice_get-map (λ (a : DeclaredAgent). a.kind) (declared_agents k.script) at

    by : (o : Option DeclaredAgent) → slice_get (declared_agents k.script) at ≡ o → Decides (declared_as kind o) (slice_get (agent_kinds before) at ≡ Some kind)
    by None e = ((λ f. absurd (let g : false ≡ true = f in cc)), λ f. absurd (let none : slice_get (agent_kinds before) at ≡ None = kinds ∙ ap (option_map (λ (a : DeclaredAgent). a.kind)) e in cc))
    by (Some a) e =
        let some : slice_get (agent_kinds before) at ≡ Some a.kind = kinds ∙ ap (option_map (λ (x : DeclaredAgent). x.kind)) e in
        Decides-like (is_kind kind a.kind) (λ f. some ∙ ap (λ x. Some x) f) (λ f. (let g : Some a.kind ≡ Some kind = sym some ∙ f in cc)) (is_kind-Decides kind a.kind)

-- ---- names

pub port_decides : (before : List Form) (k : Known) (n : List ℕ) → Stands before k → Decides (is_port k n) (IsPort before n)
port_decides before k n s = by (k.names n) (s.names n)
  where
    by_kind : (kind : NameKind) → KindAs kind (IsPort before n) (IsMember before n) → Decides (of_port kind) (IsPort before n)
    by_kind Port said = ((λ _. said.0), λ _. refl)
    by_kind Member said = (clash, λ h. absurd (said.1 h))

    by : (o : Option NamedEnd) → NameAs o (IsPort before n) (IsMember before n) → Decides (names_port o) (IsPort before n)
    by None said = (clash, λ h. absurd (said.0 h))
    by (Some x) said = by_kind x.kind said

member_decides : (before : List Form) (k : Known) (n : List ℕ) → Stands before k → Decides (is_member k n) (IsMember before n)
member_decides before k n s = by (k.names n) (s.names n)
  where
    by_kind : (kind : NameKind) → KindAs kind (IsPort before n) (IsMember before n) → Decides (not (of_port kind)) (IsMember before n)
    by_kind Port said = (clash, λ h. absurd (said.1 h))
    by_kind Member said = ((λ _. said.0), λ _. refl)

    by : (o : Option NamedEnd) → NameAs o (IsPort before n) (IsMember before n) → Decides (names_member o) (IsMember before n)
    by None said = (clash, λ h. absurd (said.1 h))
    by (Some x) said = by_kind x.kind said

held_decides : (before : List Form) (k : Known) (a : ℕ) (n : List ℕ) → Stands before k → Decides (holds_named k a n) (HoldsAt before a n)
held_decides before k a n s = by (k.names n) refl (s.names n)
  where
    by : (o : Option NamedEnd) → k.names n ≡ o → NameAs o (IsPort before n) (IsMember before n) → Decides (holds_end k a o) (HoldsAt before a n)
    by None e said = (clash, λ h. absurd (elim (s.declared a n h) [ inl p ↦ said.0 p | inr m ↦ said.1 m ]))
    by (Some x) e said = s.holds (record { 0 = a }) n x e

free_decides : (before : List Form) (k : Known) (n : List ℕ) → Stands before k → Decides (is_some (k.names n)) (IsDeclared before n)
free_decides before k n s = by (k.names n) (s.names n)
  where
    by_kind : (kind : NameKind) → KindAs kind (IsPort before n) (IsMember before n) → IsDeclared before n
    by_kind Port said = inl said.0
    by_kind Member said = inr said.0

    by : (o : Option NamedEnd) → NameAs o (IsPort before n) (IsMember before n) → Decides (is_some o) (IsDeclared before n)
    by None said = ((λ e. absurd (let f : false ≡ true = e in cc)), elim [ inl h ↦ absurd (said.0 h) | inr h ↦ absurd (said.1 h) ])
    by (Some x) said = ((λ e. by_kind x.kind said), λ h. refl)

-- why a name isn't free, or that it is
pub taken : (before : List Form) (k : Known) (n : List ℕ) → Stands before k → is_unused k n ≡ false → (n ≡ codes "queue") ⊎ IsDeclared before n
taken before k n s = by (bytes_eq n (codes "queue")) (is_some (k.names n)) (bytes_decides n (codes "queue")) (free_decides before k n s)
  where
    by : (b c : Bool) → Decides b (n ≡ codes "queue") → Decides c (IsDeclared before n) → (not b && not c) ≡ false → (n ≡ codes "queue") ⊎ IsDeclared before n
    by true c d e f = inl (d.0 refl)
    by false true d e f = inr (e.0 refl)
    by false false d e f = absurd (let g : true ≡ false = f in cc)

pub free : (before : List Form) (k : Known) (n : List ℕ) → Stands before k → is_unused k n ≡ true → (¬ (n ≡ codes "queue")) × (¬ IsDeclared before n)
free before k n s = by (bytes_eq n (codes "queue")) (is_some (k.names n)) (bytes_decides n (codes "queue")) (free_decides before k n s)
  where
    by : (b c : Bool) → Decides b (n ≡ codes "queue") → Decides c (IsDeclared before n) → (not b && not c) ≡ true → (¬ (n ≡ codes "queue")) × (¬ IsDeclared before n)
    by true c d e f = absurd (let g : false ≡ true = f in cc)
    by false true d e f = absurd (let g : false ≡ true = f in cc)
    by false false d e f = (not_from_Decides false d refl, not_from_Decides false e refl)

-- ---- lists of ports

pub never_in : {X : Type 0} (x : X) → ¬ Contains [] x
never_in x h = absurd (omega (arith, h.1))

stands_decides : (n : List ℕ) (names : List (List ℕ)) → Decides (stands_in n names) (Contains names n)
stands_decides n [] = ((λ e. absurd (let f : false ≡ true = e in cc)), λ h. absurd (omega (arith, h.1)))
stands_decides n (m ∷ names) =
    Decides-like (bytes_eq m n || stands_in n names)
    (elim [ inl e ↦ subst (Contains (m ∷ names)) e (contains_first m names) | inr h ↦ contains_rest m names n h ])
    (contains_cases m names n)
    (Decides-or (bytes_eq m n) (stands_in n names) (bytes_decides m n) (stands_decides n names))

pub twice_cases : (n : List ℕ) (names : List (List ℕ)) → StandsTwice (n ∷ names) → Contains names n ⊎ StandsTwice names
twice_cases n names h = by h.earlier h.first
  where
    by : (earlier : List (List ℕ)) → n ∷ names ≡ earlier ++ h.name ∷ h.later → Contains names n ⊎ StandsTwice names
    by [] e = let name : n ≡ h.name = cc in let rest : names ≡ h.later = cc in inl (subst (Contains names) (sym name) (subst (λ xs. Contains xs h.name) (sym rest) h.second))
    by (m ∷ ms) e = inr (record { name = h.name; earlier = ms; later = h.later; first = (cc); second = h.second })

twice_decides : (names : List (List ℕ)) → Decides (has_twice names) (StandsTwice names)
twice_decides [] = ((λ e. absurd (let f : false ≡ true = e in cc)), λ h. absurd (not_nil h.earlier h.later h.name h.first))
twice_decides (n ∷ names) =
    Decides-like (stands_in n names || has_twice names)
    (elim [ inl c ↦ record { name = n; earlier = []; later = names; first = refl; second = c } | inr h ↦ record { name = h.name; earlier = n ∷ h.earlier; later = h.later; first = ap (λ xs. n ∷ xs) h.first; second = h.second } ])
    (twice_cases n names)
    (Decides-or (stands_in n names) (has_twice names) (stands_decides n names) (twice_decides names))

source_decides : (f : Form) → Decides (lists_source f) (ListsSource f)
source_decides (form.Action at (Post port body transfer)) = stands_decides port transfer
source_decides f = (clash, λ h. absurd h)

pub apart : (f : Form) → not (lists_source f) ≡ true → ¬ ListsSource f
apart f h = not_from_Decides (lists_source f) (source_decides f) (not-true (lists_source f) h)

pub listed : (f : Form) → not (lists_source f) ≡ false → ListsSource f
listed f h = (source_decides f).0 (not-false (lists_source f) h)

pub once : (f : Form) → not (has_twice (transfer_of f)) ≡ true → ¬ StandsTwice (transfer_of f)
once f h = not_from_Decides (has_twice (transfer_of f)) (twice_decides (transfer_of f)) (not-true (has_twice (transfer_of f)) h)

pub twice : (f : Form) → not (has_twice (transfer_of f)) ≡ false → StandsTwice (transfer_of f)
twice f h = (twice_decides (transfer_of f)).0 (not-false (has_twice (transfer_of f)) h)

-- what an action transfers
transfers_so : (at : ℕ) (x : ActionForm) (a : ℕ) (n : List ℕ) → Transfers (form.Action at x) a n → (at ≡ a) × Contains (transferred x) n
transfers_so at (Post port body transfer) a n h = h
transfers_so at (Send to body transfer) a n h = h
transfers_so at x a n h = absurd h

transfers_each : (at : ℕ) (x : ActionForm) (n : List ℕ) → Contains (transferred x) n → Transfers (form.Action at x) at n
transfers_each at (Post port body transfer) n h = (refl, h)
transfers_each at (Send to body transfer) n h = (refl, h)
transfers_each at x n h = absurd (never_in n h)

pub all_held : (before : List Form) (k : Known) (f : Form) → Stands before k → holds_list k f ≡ true → (a : ℕ) (n : List ℕ) → Transfers f a n → HoldsAt before a n
all_held before k (form.Action at x) s h a n t =
    let p : (at ≡ a) × Contains (transferred x) n = transfers_so at x a n t in
    subst (λ b. HoldsAt before b n) p.0 (All-contains (HoldsAt before at) (transferred x) n (each_passes (holds_named k at) (HoldsAt before at) (λ m. held_decides before k at m s) (transferred x) h) p.1)
all_held before k f s h a n t = absurd t

pub detached : (before : List Form) (k : Known) (f : Form) → Stands before k → holds_list k f ≡ false → HasDetached before f
detached before k (form.Action at x) s h =
    let r : (n : List ℕ) × Contains (transferred x) n × (¬ HoldsAt before at n) = one_fails (holds_named k at) (HoldsAt before at) (λ m. held_decides before k at m s) (transferred x) h in
    record { agent = at; port = r.0; transfers = transfers_each at x r.0 r.1; detached = r.2 }
detached before k f s h = absurd (cc)

-- ---- agents and names

pub known : (before : List Form) (k : Known) (f : Form) → Stands before k → are_known k f ≡ true → AreKnown before f
known before k f s h =
    let p = and_parts (list_all (has_agent_of_number k) (agents_named f)) (list_all (is_port k) (ports_named f) && (list_all (is_member k) (members_named f) && list_all (λ used. holds_named k used.0 used.1) (names_used f))) h in
    let q = and_parts (list_all (is_port k) (ports_named f)) (list_all (is_member k) (members_named f) && list_all (λ used. holds_named k used.0 used.1) (names_used f)) p.1 in
    let r = and_parts (list_all (is_member k) (members_named f)) (list_all (λ used. holds_named k used.0 used.1) (names_used f)) q.1 in
    record {
      agents = each_passes (has_agent_of_number k) (λ a. a < length (agent_kinds before)) (λ a. agent_decides before k a s) (agents_named f) p.0;
      ports = each_passes (is_port k) (IsPort before) (λ n. port_decides before k n s) (ports_named f) q.0;
      members = each_passes (is_member k) (IsMember before) (λ n. member_decides before k n s) (members_named f) r.0;
      held = each_passes (λ used. holds_named k used.0 used.1) (λ used. HoldsAt before used.0 used.1) (λ used. held_decides before k used.0 used.1 s) (names_used f) r.1;
    }

pub unknown : (before : List Form) (k : Known) (f : Form) → Stands before k → are_known k f ≡ false → HasUnknown before f
unknown before k f s h = elim (and_cases (list_all (has_agent_of_number k) (agents_named f)) (list_all (is_port k) (ports_named f) && (list_all (is_member k) (members_named f) && list_all (λ used. holds_named k used.0 used.1) (names_used f))) h) [
  | inl e ↦ agent e
  | inr e ↦ (elim (and_cases (list_all (is_port k) (ports_named f)) (list_all (is_member k) (members_named f) && list_all (λ used. holds_named k used.0 used.1) (names_used f)) e) as (λ _. HasUnknown before f) [
    | inl g ↦ port g
    | inr g ↦ (elim (and_cases (list_all (is_member k) (members_named f)) (list_all (λ used. holds_named k used.0 used.1) (names_used f)) g) as (λ _. HasUnknown before f) [ inl m ↦ member m | inr m ↦ held m ])
  ])
]
  where
    agent : list_all (has_agent_of_number k) (agents_named f) ≡ false → HasUnknown before f
    agent e = let r : (a : ℕ) × Contains (agents_named f) a × (¬ (a < length (agent_kinds before))) = one_fails (has_agent_of_number k) (λ a. a < length (agent_kinds before)) (λ a. agent_decides before k a s) (agents_named f) e in HasUnknown.no_agent r.0 r.1 (omega (arith, r.2))

    port : list_all (is_port k) (ports_named f) ≡ false → HasUnknown before f
    port e = let r : (n : List ℕ) × Contains (ports_named f) n × (¬ IsPort before n) = one_fails (is_port k) (IsPort before) (λ n. port_decides before k n s) (ports_named f) e in HasUnknown.no_port r.0 r.1 r.2

    member : list_all (is_member k) (members_named f) ≡ false → HasUnknown before f
    member e = let r : (n : List ℕ) × Contains (members_named f) n × (¬ IsMember before n) = one_fails (is_member k) (IsMember before) (λ n. member_decides before k n s) (members_named f) e in HasUnknown.no_member r.0 r.1 r.2

    held : list_all (λ used. holds_named k used.0 used.1) (names_used f) ≡ false → HasUnknown before f
    held e = let r : (u : ℕ × List ℕ) × Contains (names_used f) u × (¬ HoldsAt before u.0 u.1) = one_fails (λ used. holds_named k used.0 used.1) (λ used. HoldsAt before used.0 used.1) (λ used. held_decides before k used.0 used.1 s) (names_used f) e in HasUnknown.not_held r.0 r.1 r.2

-- ---- limits

pub room : (before : List Form) (k : Known) → Stands before k → has_room k ≡ true → length before < MAX_SCRIPT_LINES
room before k s h = subst (λ n. n < MAX_SCRIPT_LINES) s.count (ltb-true (line_count k.script) MAX_SCRIPT_LINES h)

pub full : (before : List Form) (k : Known) → Stands before k → has_room k ≡ false → MAX_SCRIPT_LINES ≤ length before
full before k s h = subst (λ n. MAX_SCRIPT_LINES ≤ n) s.count (ltb-false (line_count k.script) MAX_SCRIPT_LINES h)

-- why a body isn't small
large_body : (answer : Result (List ℕ) BodyError) → is_body_within_limits answer ≡ false → (answer ≡ Err TooDeep) ⊎ (answer ≡ Err TooLong)
large_body (Ok body) h = absurd (cc)
large_body (Err NotJson) h = absurd (cc)
large_body (Err NotWhole) h = absurd (cc)
large_body (Err TooDeep) h = inl refl
large_body (Err TooLong) h = inr refl
large_body (Err NoMemory) h = absurd (cc)

of_body : (before : List Form) (f : Form) (answer : Result (List ℕ) BodyError) → body_of f ≡ Some answer → is_body_within_limits answer ≡ false → IsTooLarge before f
of_body before f answer is h = elim (large_body answer h) [
  | inl e ↦ IsTooLarge.depth (is ∙ ap (λ a. Some a) e)
  | inr e ↦ IsTooLarge.size (is ∙ ap (λ a. Some a) e)
]

of_action : (before : List Form) (at : ℕ) (x : ActionForm) → has_small_body x ≡ false → IsTooLarge before (form.Action at x)
of_action before at (Post port body transfer) h = of_body before (form.Action at (Post port body transfer)) body refl h
of_action before at (Send to body transfer) h = of_body before (form.Action at (Send to body transfer)) body refl h
of_action before at (Cast member body) h = of_body before (form.Action at (Cast member body)) body refl h
of_action before at x h = absurd (cc)

pub too_large : (before : List Form) (k : Known) (f : Form) → Stands before k → is_within k f ≡ false → IsTooLarge before f
too_large before k (form.Agent kind origin) s h = IsTooLarge.agents refl (subst (λ n. MAX_AGENTS ≤ n) (agent_count before k s) (ltb-false (length (declared_agents k.script)) MAX_AGENTS h))
too_large before k (form.Action at x) s h = elim (and_cases (nat_le (length (transferred x)) MAX_PORTS) (has_small_body x) h) [
  | inl e ↦ IsTooLarge.ports (leb-false (length (transferred x)) MAX_PORTS e)
  | inr e ↦ of_action before at x e
]
too_large before k f s h = absurd (cc)

small_answer : (answer : Result (List ℕ) BodyError) → is_body_within_limits answer ≡ true → (¬ (Some answer ≡ Some (Err TooDeep))) × (¬ (Some answer ≡ Some (Err TooLong)))
small_answer (Ok body) h = ((λ e. cc), λ e. cc)
small_answer (Err NotJson) h = ((λ e. cc), λ e. cc)
small_answer (Err NotWhole) h = ((λ e. cc), λ e. cc)
small_answer (Err TooDeep) h = absurd (cc)
small_answer (Err TooLong) h = absurd (cc)
small_answer (Err NoMemory) h = ((λ e. cc), λ e. cc)

small_body : (at : ℕ) (x : ActionForm) → has_small_body x ≡ true → (¬ (body_of (form.Action at x) ≡ Some (Err TooDeep))) × (¬ (body_of (form.Action at x) ≡ Some (Err TooLong)))
small_body at (Post port body transfer) h = small_answer body h
small_body at (Send to body transfer) h = small_answer body h
small_body at (Cast member body) h = small_answer body h
small_body at x h = ((λ e. cc), λ e. cc)

pub within : (before : List Form) (k : Known) (f : Form) → Stands before k → has_room k ≡ true → is_within k f ≡ true → ¬ IsTooLarge before f
within before k f s free h (IsTooLarge.text_lines l) = let r : length before < MAX_SCRIPT_LINES = room before k s free in omega arith
within before k f s free h (IsTooLarge.agents is l) = few_agents f h is
  where
    few_agents : (g : Form) → is_within k g ≡ true → is_some (agent_kind g) ≡ true → ⊥
    few_agents (form.Agent kind origin) e i = omega (arith, ltb-true (length (declared_agents k.script)) MAX_AGENTS e, agent_count before k s, l)
    few_agents g e i = cc
within before k f s free h (IsTooLarge.ports l) = few_ports f h l
  where
    few_ports : (g : Form) → is_within k g ≡ true → MAX_PORTS < length (transfer_of g) → ⊥
    few_ports (form.Action at x) e m = omega (arith, leb-true (length (transferred x)) MAX_PORTS (and_parts (nat_le (length (transferred x)) MAX_PORTS) (has_small_body x) e).0, m)
    few_ports g e m = omega (arith, m)
within before k f s free h (IsTooLarge.depth is) = not_deep f h is
  where
    not_deep : (g : Form) → is_within k g ≡ true → body_of g ≡ Some (Err TooDeep) → ⊥
    not_deep (form.Action at x) e i = (small_body at x (and_parts (nat_le (length (transferred x)) MAX_PORTS) (has_small_body x) e).1).0 i
    not_deep g e i = cc
within before k f s free h (IsTooLarge.size is) = not_long f h is
  where
    not_long : (g : Form) → is_within k g ≡ true → body_of g ≡ Some (Err TooLong) → ⊥
    not_long (form.Action at x) e i = (small_body at x (and_parts (nat_le (length (transferred x)) MAX_PORTS) (has_small_body x) e).1).1 i
    not_long g e i = cc

-- ---- the place in the script

never_twice : ¬ StandsTwice []
never_twice h = not_nil h.earlier h.later h.name h.first

-- an action whose queue, life and hands are in their place
placed_so : (before : List Form) (at : ℕ) (x : ActionForm) → ((a : ℕ) → StartsQueue (form.Action at x) a → (¬ (slice_get (agent_kinds before) a ≡ Some Worker)) × (¬ HasHanded before a))
    → ((a : ℕ) → HasEvent (form.Action at x) a → ¬ (slice_get (agent_kinds before) a ≡ Some Window)) → ¬ IsOwnQueue (form.Action at x) → ((a : ℕ) → Hands (form.Action at x) a → ¬ HasHanded before a)
    → ¬ IsMisplaced before (form.Action at x)
placed_so before at x starts event own hands (IsMisplaced.declared_late no_action h) = no_action tt
placed_so before at x starts event own hands (IsMisplaced.reserved h) = never_in (codes "queue") h
placed_so before at x starts event own hands (IsMisplaced.declared_before n h d) = never_in n h
placed_so before at x starts event own hands (IsMisplaced.declared_twice h) = never_twice h
placed_so before at x starts event own hands (IsMisplaced.queue_of_worker a h w) = (starts a h).0 w
placed_so before at x starts event own hands (IsMisplaced.queue_handed a h w) = (starts a h).1 w
placed_so before at x starts event own hands (IsMisplaced.event_of_window a h w) = event a h w
placed_so before at x starts event own hands (IsMisplaced.own_queue h) = own h
placed_so before at x starts event own hands (IsMisplaced.handed_again a h g) = hands a h g

-- an own queue that may be started
may_start : (before : List Form) (k : Known) (at a : ℕ) → Stands before k → agent_may_start_queue k at ≡ true → at ≡ a → (¬ (slice_get (agent_kinds before) a ≡ Some Worker)) × (¬ HasHanded before a)
may_start before k at a s h is =
    let both : (is_agent k Worker at ≡ false) × (k.handed at ≡ false) = or_parts (is_agent k Worker at) (k.handed at) (not-true (is_agent k Worker at || k.handed at) h) in
    subst (λ b. (¬ (slice_get (agent_kinds before) b ≡ Some Worker)) × (¬ HasHanded before b)) is
    (not_from_Decides (is_agent k Worker at) (kind_decides before k Worker at s) both.0, not_from_Decides (k.handed at) (s.handed at) both.1)

may_not_start : (before : List Form) (k : Known) (at : ℕ) (f : Form) → Stands before k → agent_may_start_queue k at ≡ false → StartsQueue f at → IsMisplaced before f
may_not_start before k at f s h starts = elim (or_cases (is_agent k Worker at) (k.handed at) (not-false (is_agent k Worker at || k.handed at) h)) [
  | inl e ↦ IsMisplaced.queue_of_worker at starts ((kind_decides before k Worker at s).0 e)
  | inr e ↦ IsMisplaced.queue_handed at starts ((s.handed at).0 e)
]

timely : (before : List Form) (k : Known) (at : ℕ) (x : ActionForm) → Stands before k → is_timely k at x ≡ true → ¬ IsMisplaced before (form.Action at x)
timely before k at (Start n) s h = placed_so before at (Start n) (λ a g. starts a g (or_cases (not (bytes_eq n (codes "queue"))) (agent_may_start_queue k at) h)) (λ a g. absurd g) (λ g. g) (λ a g. absurd g)
  where
    starts : (a : ℕ) → StartsQueue (form.Action at (Start n)) a → (not (bytes_eq n (codes "queue")) ≡ true) ⊎ (agent_may_start_queue k at ≡ true) → (¬ (slice_get (agent_kinds before) a ≡ Some Worker)) × (¬ HasHanded before a)
    starts a g (inl e) = absurd (not_from_Decides (bytes_eq n (codes "queue")) (bytes_decides n (codes "queue")) (not-true (bytes_eq n (codes "queue")) e) g.1)
    starts a g (inr e) = may_start before k at a s e g.0
timely before k at Loaded s h = placed_so before at Loaded (λ a g. may_start before k at a s h g) (λ a g. absurd g) (λ g. g) (λ a g. absurd g)
timely before k at (LifeEvent e) s h =
    let other : ¬ (slice_get (agent_kinds before) at ≡ Some Window) = not_from_Decides (is_agent k Window at) (kind_decides before k Window at s) (not-true (is_agent k Window at) h) in
    placed_so before at (LifeEvent e) (λ a g. absurd g) (λ a g w. other (subst (λ b. slice_get (agent_kinds before) b ≡ Some Window) (sym g) w)) (λ g. g) (λ a g. absurd g)
timely before k at (Hand to) s h =
    let both : (not (at == to) ≡ true) × (not (k.handed at) ≡ true) = and_parts (not (at == to)) (not (k.handed at)) h in
    let first : ¬ HasHanded before at = not_from_Decides (k.handed at) (s.handed at) (not-true (k.handed at) both.1) in
    placed_so before at (Hand to) (λ a g. absurd g) (λ a g. absurd g) (not_from_Decides (at == to) (Decides-eqb at to) (not-true (at == to) both.0)) (λ a g w. first (subst (HasHanded before) (sym g) w))
timely before k at (Fetch from) s h = placed_so before at (Fetch from) (λ a g. absurd g) (λ a g. absurd g) (not_from_Decides (at == from) (Decides-eqb at from) (not-true (at == from) h)) (λ a g. absurd g)
timely before k at x s h = placed_so before at x (λ a g. absurd g) (λ a g. absurd g) (λ g. g) (λ a g. absurd g)

untimely : (before : List Form) (k : Known) (at : ℕ) (x : ActionForm) → Stands before k → is_timely k at x ≡ false → IsMisplaced before (form.Action at x)
untimely before k at (Start n) s h =
    let both : (not (bytes_eq n (codes "queue")) ≡ false) × (agent_may_start_queue k at ≡ false) = or_parts (not (bytes_eq n (codes "queue"))) (agent_may_start_queue k at) h in
    may_not_start before k at (form.Action at (Start n)) s both.1 (refl, (bytes_decides n (codes "queue")).0 (not-false (bytes_eq n (codes "queue")) both.0))
untimely before k at Loaded s h = may_not_start before k at (form.Action at Loaded) s h refl
untimely before k at (LifeEvent e) s h = IsMisplaced.event_of_window at refl ((kind_decides before k Window at s).0 (not-false (is_agent k Window at) h))
untimely before k at (Hand to) s h = elim (and_cases (not (at == to)) (not (k.handed at)) h) [
  | inl e ↦ IsMisplaced.own_queue ((Decides-eqb at to).0 (not-false (at == to) e))
  | inr e ↦ IsMisplaced.handed_again at refl ((s.handed at).0 (not-false (k.handed at) e))
]
untimely before k at (Fetch from) s h = IsMisplaced.own_queue ((Decides-eqb at from).0 (not-false (at == from) h))
untimely before k at x s h = absurd (cc)

-- a declaration that stands before all actions, of names that are free and different
placed_early : (before : List Form) (f : Form) → ¬ Any IsAction before → ((n : List ℕ) → Contains (names_declared f) n → (¬ (n ≡ codes "queue")) × (¬ IsDeclared before n)) → ¬ StandsTwice (names_declared f)
    → ((a : ℕ) → ¬ StartsQueue f a) → ((a : ℕ) → ¬ HasEvent f a) → ¬ IsOwnQueue f → ((a : ℕ) → ¬ Hands f a) → ¬ IsMisplaced before f
placed_early before f early names different starts event own hands (IsMisplaced.declared_late no_action h) = early h
placed_early before f early names different starts event own hands (IsMisplaced.reserved h) = (names (codes "queue") h).0 refl
placed_early before f early names different starts event own hands (IsMisplaced.declared_before n h d) = (names n h).1 d
placed_early before f early names different starts event own hands (IsMisplaced.declared_twice h) = different h
placed_early before f early names different starts event own hands (IsMisplaced.queue_of_worker a h w) = starts a h
placed_early before f early names different starts event own hands (IsMisplaced.queue_handed a h w) = starts a h
placed_early before f early names different starts event own hands (IsMisplaced.event_of_window a h w) = event a h
placed_early before f early names different starts event own hands (IsMisplaced.own_queue h) = own h
placed_early before f early names different starts event own hands (IsMisplaced.handed_again a h g) = hands a h

early : (before : List Form) (k : Known) → Stands before k → has_no_action (actions k.script) ≡ true → ¬ Any IsAction before
early before k s h = not_from_Decides (not (has_no_action (actions k.script))) s.acted (not_from_true (has_no_action (actions k.script)) h)

late : (before : List Form) (k : Known) (f : Form) → Stands before k → ¬ IsAction f → has_no_action (actions k.script) ≡ false → IsMisplaced before f
late before k f s none h = IsMisplaced.declared_late none (s.acted.0 (not_from_false (has_no_action (actions k.script)) h))

is_taken : (before : List Form) (k : Known) (f : Form) (n : List ℕ) → Stands before k → Contains (names_declared f) n → is_unused k n ≡ false → IsMisplaced before f
is_taken before k f n s c h = elim (taken before k n s h) [
  | inl e ↦ IsMisplaced.reserved (subst (Contains (names_declared f)) e c)
  | inr d ↦ IsMisplaced.declared_before n c d
]

abbrev pub IsFresh : List Form → List ℕ → Type 0
IsFresh before n = (¬ (n ≡ codes "queue")) × (¬ IsDeclared before n)

one_fresh : (before : List Form) (name : List ℕ) → IsFresh before name → (n : List ℕ) → Contains (name ∷ []) n → IsFresh before n
one_fresh before name h n c = elim (contains_cases name [] n c) [ inl e ↦ subst (IsFresh before) e h | inr g ↦ absurd (never_in n g) ]

two_fresh : (before : List Form) (first second : List ℕ) → IsFresh before first → IsFresh before second → (n : List ℕ) → Contains (first ∷ second ∷ []) n → IsFresh before n
two_fresh before first second h g n c = elim (contains_cases first (second ∷ []) n c) [ inl e ↦ subst (IsFresh before) e h | inr r ↦ one_fresh before second g n r ]

one_name : (name : List ℕ) → ¬ StandsTwice (name ∷ [])
one_name name h = elim (twice_cases name [] h) [ inl c ↦ never_in name c | inr t ↦ never_twice t ]

two_names : (first second : List ℕ) → ¬ (first ≡ second) → ¬ StandsTwice (first ∷ second ∷ [])
two_names first second differ h = elim (twice_cases first (second ∷ []) h) [ inl c ↦ apart_from c | inr t ↦ one_name second t ]
  where
    apart_from : ¬ Contains (second ∷ []) first
    apart_from c = elim (contains_cases second [] first c) [ inl e ↦ differ (sym e) | inr n ↦ never_in first n ]

-- what a channel's names are tested for
pub record AreFree (k : Known) (first second : List ℕ) : Type 0 where
  pub no_action : has_no_action (actions k.script) ≡ true
  pub one : is_unused k first ≡ true
  pub other : is_unused k second ≡ true
  pub differ : ¬ (first ≡ second)

pub are_free : (k : Known) (first second : List ℕ) (at : ℕ) → is_placed k (form.Channel first second at) ≡ true → AreFree k first second
are_free k first second at h =
    let p = and_parts (has_no_action (actions k.script)) (is_unused k first && is_unused k second && not (bytes_eq first second)) h in
    let q = and_parts (is_unused k first && is_unused k second) (not (bytes_eq first second)) p.1 in
    let r = and_parts (is_unused k first) (is_unused k second) q.0 in
    record { no_action = p.0; one = r.0; other = r.1; differ = not_from_Decides (bytes_eq first second) (bytes_decides first second) (not-true (bytes_eq first second) q.1) }

pub placed : (before : List Form) (k : Known) (f : Form) → Stands before k → is_placed k f ≡ true → ¬ IsMisplaced before f
placed before k (form.Agent kind origin) s h = placed_early before (form.Agent kind origin) (early before k s h) (λ n c. absurd (never_in n c)) never_twice (λ a g. g) (λ a g. g) (λ g. g) (λ a g. g)
placed before k (form.Channel first second at) s h =
    let p : AreFree k first second = are_free k first second at h in
    placed_early before (form.Channel first second at) (early before k s p.no_action) (two_fresh before first second (free before k first s p.one) (free before k second s p.other)) (two_names first second p.differ) (λ a g. g) (λ a g. g) (λ g. g) (λ a g. g)
placed before k (form.Member name at on) s h =
    let p = and_parts (has_no_action (actions k.script)) (is_unused k name) h in
    placed_early before (form.Member name at on) (early before k s p.0) (one_fresh before name (free before k name s p.1)) (one_name name) (λ a g. g) (λ a g. g) (λ g. g) (λ a g. g)
placed before k (form.Action at x) s h = timely before k at x s h

pub misplaced : (before : List Form) (k : Known) (f : Form) → Stands before k → is_placed k f ≡ false → IsMisplaced before f
misplaced before k (form.Agent kind origin) s h = late before k (form.Agent kind origin) s (λ a. a) h
misplaced before k (form.Channel first second at) s h = elim (and_cases (has_no_action (actions k.script)) (is_unused k first && is_unused k second && not (bytes_eq first second)) h) [
  | inl e ↦ late before k f s (λ a. a) e
  | inr e ↦ (elim (and_cases (is_unused k first && is_unused k second) (not (bytes_eq first second)) e) as (λ _. IsMisplaced before f) [
    | inl g ↦ (elim (and_cases (is_unused k first) (is_unused k second) g) as (λ _. IsMisplaced before f) [
      | inl t ↦ is_taken before k f first s (contains_first first (second ∷ [])) t
      | inr t ↦ is_taken before k f second s in_second t
    ])
    | inr g ↦ IsMisplaced.declared_twice (same ((bytes_decides first second).0 (not-false (bytes_eq first second) g)))
  ])
]
  where
    f : Form
    f = form.Channel first second at

    in_second : Contains (first ∷ second ∷ []) second
    in_second = contains_rest first (second ∷ []) second (contains_first second [])

    same : first ≡ second → StandsTwice (first ∷ second ∷ [])
    same e = record { name = second; earlier = []; later = second ∷ []; first = ap (λ n. n ∷ second ∷ []) e; second = contains_first second [] }
misplaced before k (form.Member name at on) s h = elim (and_cases (has_no_action (actions k.script)) (is_unused k name) h) [
  | inl e ↦ late before k (form.Member name at on) s (λ a. a) e
  | inr e ↦ is_taken before k (form.Member name at on) name s (contains_first name []) e
]
misplaced before k (form.Action at x) s h = untimely before k at x s h
