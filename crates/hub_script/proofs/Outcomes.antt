-- What is found of a text line of each form: the meaning of its refusal, or that it is accepted.
use Rattle.std.proofs.Common.{◌≡◌, ◌⊎◌, ℕ, ◌<◌, List, [], ◌∷◌, ◌++◌, length, map, drop, Bool, true, false, not, cond, Option, Some, None, Result, Ok, Err, refl, ap, sym, ◌∙◌, subst, inl, inr, append-nil, append_assoc}
use Rattle.std.specs.List.{AllZip, Contains}
use Rattle.std.specs.Prelude.{⊤, codes}
use Rattle.std.specs.Str.{bytes_eq}
use Rattle.std.proofs.lemmas.Bool.{and_parts}
use Rattle.std.proofs.lemmas.List.Elements.{All-contains}
use Rattle.hub_envelope.specs.declared.body.BodyError.{BodyError}
use Rattle.hub_envelope.specs.declared.ids.AgentId.{AgentId}
use Rattle.hub_envelope.specs.declared.ids.EndId.{EndId}
use Rattle.hub_origin.specs.declared.origin.OriginError.{OriginError}
use Rattle.hub_text.specs.Reading.{◌>>=◌, some_or}
use Rattle.hub_script.specs.declared.action.ActionKind.{ActionKind}
use Rattle.hub_script.specs.declared.action.ActionKind.TheVariants as action
use Rattle.hub_script.specs.declared.script.AgentKind.{AgentKind}
use Rattle.hub_script.specs.declared.form.ActionForm.{ActionForm}
use Rattle.hub_script.specs.declared.form.ActionForm.TheVariants.{Post, Send, Cast, Start, Loaded, Close, Wait, Receive, Order, Event as LifeEvent, Hand, Fetch}
use Rattle.hub_script.specs.declared.form.Form.{Form}
use Rattle.hub_script.specs.declared.form.Form.TheVariants as form
use Rattle.hub_script.specs.declared.script_reader.NamedEnd.{NamedEnd}
use Rattle.hub_script.specs.declared.error.ScriptError.{ScriptError}
use Rattle.hub_script.specs.declared.error.ScriptError.TheVariants.{Syntax, UnknownAction, UnknownName, DataClone, TooLarge, OutOfMemory}
use Rattle.hub_script.specs.declared.error.DataCloneCause.TheVariants.{Source, Twice, Detached}
use Rattle.hub_script.specs.Before.{Gets, Hands, HoldsAt, IsDeclared, IsMember, IsPort, agent_kinds}
use Rattle.hub_script.specs.Context.{acting, adding, adding_action, adding_channel, adding_member, after_form, agent_of, are_known, casting, declared_ends, has_no_action, has_room, has_twice, holds_list, is_unused, is_placed, is_within, lists_source, declared_end_of_name, posting, run, sending, tests, value_or}
use Rattle.hub_script.specs.Contents.{actions, with_declared, with_channel, with_member}
use Rattle.hub_script.specs.Fields.{ScriptRead}
use Rattle.hub_script.specs.Known.{Known, declaring, declared_end, giving, giving_all, holding, next_broadcast_member, next_port, queue_of, second_port, taking_more, with_handed, with_holds, with_script}
use Rattle.hub_script.specs.Refusals.{AreKnown, CanTransfer, CannotTransfer, HasUnknown, IsAccepted, IsMisplaced, IsRefusedValue, IsTooLarge, ListsSource, StandsTwice}
use Rattle.hub_script.specs.Uses.{agents_named, body_of, names_used, others_named, ports_named, transfer_of, form_url}
use Rattle.hub_script.proofs.Continuing.{closes, declares_agent, declares_channel, declares_member, hands_on, plainly, receives, transfers}
use Rattle.hub_script.proofs.Naming.{NameAs, contains_first, contains_rest}
use Rattle.hub_script.proofs.OneLineMore.{GivesUp}
use Rattle.hub_script.proofs.Standing.{Stands}
use Rattle.hub_script.proofs.Tests.{AreFree, agent_decides, all_held, apart, are_free, detached, free, full, known, listed, misplaced, once, placed, too_large, twice, unknown, within}

-- what a refusal says of a line of that form
abbrev pub FormMeans : List Form → Form → ScriptError → Type 0
FormMeans before f Syntax = IsMisplaced before f ⊎ ((¬ IsMisplaced before f) × AreKnown before f × CanTransfer before f × (¬ IsTooLarge before f) × IsRefusedValue f)
FormMeans before f UnknownAction = ⊥
FormMeans before f UnknownName = (¬ IsMisplaced before f) × HasUnknown before f
FormMeans before f (DataClone cause) = (¬ IsMisplaced before f) × AreKnown before f × CannotTransfer before f cause
FormMeans before f TooLarge = (¬ IsMisplaced before f) × AreKnown before f × CanTransfer before f × IsTooLarge before f
FormMeans before f OutOfMemory = ⊥

abbrev pub Outcome : List Form → Form → ScriptRead Known → Type 0
Outcome before f (Ok next) = IsAccepted before f × Stands (before ++ f ∷ []) next
Outcome before f (Err e) = FormMeans before f e

-- ---- a form that passes the tests

record Passes (before : List Form) (k : Known) (f : Form) : Type 0 where
  pub stands : Stands before k
  pub fits : is_placed k f ≡ true
  pub placed : ¬ IsMisplaced before f
  pub known : AreKnown before f
  pub list : CanTransfer before f
  pub within : ¬ IsTooLarge before f

accepts : (before : List Form) (k next : Known) (f : Form) → Passes before k f → ¬ IsRefusedValue f → Stands (before ++ f ∷ []) next → Outcome before f (Ok next)
accepts before k next f p value after = (record { placed = p.placed; known = p.known; list = p.list; within = p.within; value = value }, after)

-- the last test, of a body or a URL
by_value : {E : Type 0} (P : ScriptRead Known → Type 0) (answer : Result (List ℕ) E) (g : List ℕ → ScriptRead Known)
    → ((e : E) → answer ≡ Err e → P (Err Syntax)) → ((x : List ℕ) → answer ≡ Ok x → P (g x)) → P (value_or answer >>= g)
by_value P (Ok x) g bad good = good x refl
by_value P (Err e) g bad good = bad e refl

no_value : (f : Form) → body_of f ≡ None → form_url f ≡ None → ¬ IsRefusedValue f
no_value f no_body no_url (IsRefusedValue.body e h) = (let d : None ≡ Some (Err e) = sym no_body ∙ h in cc)
no_value f no_body no_url (IsRefusedValue.url e h) = (let d : None ≡ Some (Err e) = sym no_url ∙ h in cc)

by_body : (before : List Form) (k : Known) (f : Form) (answer : Result (List ℕ) BodyError) (next : List ℕ → Known) → Passes before k f → body_of f ≡ Some answer → form_url f ≡ None
    → ((b : List ℕ) → Stands (before ++ f ∷ []) (next b)) → Outcome before f (value_or answer >>= λ b. Ok (next b))
by_body before k f answer next p is no_url after =
    by_value (Outcome before f) answer (λ b. Ok (next b))
    (λ e h. inr (p.placed, p.known, p.list, p.within, IsRefusedValue.body e (is ∙ ap (λ r. Some r) h)))
    (λ b h. accepts before k (next b) f p (value b h) (after b))
  where
    value : (b : List ℕ) → answer ≡ Ok b → ¬ IsRefusedValue f
    value b h (IsRefusedValue.body e g) = (let d : Some (Ok b) ≡ Some (Err e) = ap (λ r. Some r) (sym h) ∙ sym is ∙ g in cc)
    value b h (IsRefusedValue.url e g) = (let d : None ≡ Some (Err e) = sym no_url ∙ g in cc)

-- an agent that is named is found
agent_found : (P : ScriptRead Known → Type 0) (before : List Form) (k : Known) (f : Form) (at : ℕ) (g : AgentId → ScriptRead Known) → Passes before k f → Contains (agents_named f) at
    → P (g (record { 0 = at })) → P (agent_of k at >>= g)
agent_found P before k f at g p c good =
    subst (λ b. P (cond b (Ok (record { 0 = at })) (Err UnknownName) >>= g))
    (sym ((agent_decides before k at p.stands).1 (All-contains (λ a. a < length (agent_kinds before)) (agents_named f) at p.known.agents c))) good

-- a name that is declared is found
name_found : {X : Type 0} (P : ScriptRead X → Type 0) (before : List Form) (k : Known) (n : List ℕ) (g : NamedEnd → ScriptRead X) → Stands before k → IsDeclared before n
    → ((x : NamedEnd) → k.names n ≡ Some x → P (g x)) → P (declared_end_of_name k n >>= g)
name_found P before k n g s is good = by (k.names n) refl (s.names n)
  where
    by : (o : Option NamedEnd) → k.names n ≡ o → NameAs o (IsPort before n) (IsMember before n) → P (some_or UnknownName o >>= g)
    by None e said = absurd (elim is [ inl h ↦ said.0 h | inr h ↦ said.1 h ])
    by (Some x) e said = good x e

zip_push : {A B : Type 0} (R : A → B → Type 0) (xs : List A) (ys : List B) (x : A) (y : B) → AllZip R xs ys → R x y → AllZip R (xs ++ x ∷ []) (ys ++ y ∷ [])
zip_push R [] [] x y h r = (r, tt)
zip_push R [] (w ∷ ys) x y h r = absurd h
zip_push R (z ∷ xs) [] x y h r = absurd h
zip_push R (z ∷ xs) (w ∷ ys) x y h r = (h.0, zip_push R xs ys x y h.1 r)

names_found : (P : ScriptRead Known → Type 0) (before : List Form) (k : Known) (found : List (List ℕ)) (xs : List NamedEnd) (names : List (List ℕ)) (g : List NamedEnd → ScriptRead Known) → Stands before k
    → AllZip (λ n x. k.names n ≡ Some x) found xs → ((n : List ℕ) → Contains names n → IsDeclared before n)
    → ((ends : List NamedEnd) → AllZip (λ n x. k.names n ≡ Some x) (found ++ names) ends → P (g ends))
    → P (declared_ends k xs names >>= g)
names_found P before k found xs [] g s are declared good = good xs (subst (λ ns. AllZip (λ n x. k.names n ≡ Some x) ns xs) (sym (append-nil found)) are)
names_found P before k found xs (n ∷ names) g s are declared good =
    each_found (λ x is.
    names_found P before k (found ++ n ∷ []) (xs ++ x ∷ []) names g s (zip_push (λ m y. k.names m ≡ Some y) found xs n x are is)
    (λ m c. declared m (contains_rest n names m c))
    (λ ends zip. good ends (subst (λ ns. AllZip (λ m y. k.names m ≡ Some y) ns ends) (append_assoc found (n ∷ []) names) zip)))
  where
    each_found : ((x : NamedEnd) → k.names n ≡ Some x → P (declared_ends k (xs ++ x ∷ []) names >>= g)) → P (declared_end_of_name k n >>= (λ x. declared_ends k (xs ++ x ∷ []) names) >>= g)
    each_found each = by (k.names n) refl (s.names n)
      where
        by : (o : Option NamedEnd) → k.names n ≡ o → NameAs o (IsPort before n) (IsMember before n) → P (some_or UnknownName o >>= (λ x. declared_ends k (xs ++ x ∷ []) names) >>= g)
        by None e said = absurd (elim (declared n (contains_first n names)) [ inl h ↦ said.0 h | inr h ↦ said.1 h ])
        by (Some x) e said = each x e

port_is : (before : List Form) (k : Known) (f : Form) (n : List ℕ) → Passes before k f → Contains (ports_named f) n → IsDeclared before n
port_is before k f n p c = inl (All-contains (IsPort before) (ports_named f) n p.known.ports c)

used_is : (before : List Form) (k : Known) (f : Form) (a : ℕ) (n : List ℕ) → Passes before k f → Contains (names_used f) (a, n) → IsDeclared before n
used_is before k f a n p c = p.stands.declared a n (All-contains (λ (u : ℕ × List ℕ). HoldsAt before u.0 u.1) (names_used f) (a, n) p.known.held c)

-- ---- what each action adds

-- an action by which nobody gets or gives up a name, or hands a queue on
quiet : (before : List Form) (k : Known) (at : ℕ) (x : ActionForm) (kind : ActionKind) → Passes before k (form.Action at x) → body_of (form.Action at x) ≡ None
    → ((a : ℕ) (n : List ℕ) → ¬ Gets (form.Action at x) a n) → ((a : ℕ) (n : List ℕ) → ¬ GivesUp (form.Action at x) a n) → ((a : ℕ) → ¬ Hands (form.Action at x) a)
    → Outcome before (form.Action at x) (Ok (acting k (record { 0 = at }) kind))
quiet before k at x kind p no_body gets gives hands =
    accepts before k (acting k (record { 0 = at }) kind) (form.Action at x) p (no_value (form.Action at x) no_body refl)
    (plainly before k at x (record { 0 = at }) kind p.stands gets gives hands)

post_adds : (before : List Form) (k : Known) (at : ℕ) (n : List ℕ) (answer : Result (List ℕ) BodyError) (names : List (List ℕ)) → Passes before k (form.Action at (Post n answer names))
    → Outcome before (form.Action at (Post n answer names)) (posting k (record { 0 = at }) n answer names)
unfolding posting
post_adds before k at n answer names p =
    name_found (Outcome before f) before k n (λ port. declared_ends k [] names >>= λ ports. value_or answer >>= λ body. Ok (next port ports body)) p.stands (port_is before k f n p (contains_first n names))
    (λ port is. names_found (Outcome before f) before k [] [] names (λ ports. value_or answer >>= λ body. Ok (next port ports body)) p.stands tt (λ m c. port_is before k f m p (contains_rest n names m c))
    (λ ports zip. by_body before k f answer (next port ports) p refl refl
    (λ b. transfers before k at (Post n answer names) names ports (action.Post (declared_end k.script port) b (map (declared_end k.script) ports)) p.stands zip (λ a m h. h) (λ a h. h) (λ a m. elim [ inl h ↦ h | inr h ↦ absurd h ]) (λ a m h. inl h))))
  where
    f : Form
    f = form.Action at (Post n answer names)

    next : NamedEnd → List NamedEnd → List ℕ → Known
    next port ports body = with_holds (acting k (record { 0 = at }) (action.Post (declared_end k.script port) body (map (declared_end k.script) ports))) (giving_all (record { 0 = at }) ports)

send_adds : (before : List Form) (k : Known) (at to : ℕ) (answer : Result (List ℕ) BodyError) (names : List (List ℕ)) → Passes before k (form.Action at (Send to answer names))
    → Outcome before (form.Action at (Send to answer names)) (sending k (record { 0 = at }) to answer names)
unfolding sending
send_adds before k at to answer names p =
    agent_found (Outcome before f) before k f to (λ b. declared_ends k [] names >>= λ ports. value_or answer >>= λ body. Ok (next b ports body)) p (contains_rest at (to ∷ []) to (contains_first to []))
    (names_found (Outcome before f) before k [] [] names (λ ports. value_or answer >>= λ body. Ok (next (record { 0 = to }) ports body)) p.stands tt (λ m c. port_is before k f m p c)
    (λ ports zip. by_body before k f answer (next (record { 0 = to }) ports) p refl refl
    (λ b. transfers before k at (Send to answer names) names ports (action.Send (queue_of (record { 0 = to })) b (map (declared_end k.script) ports)) p.stands zip (λ a m h. h) (λ a h. h) (λ a m. elim [ inl h ↦ h | inr h ↦ absurd h ]) (λ a m h. inl h))))
  where
    f : Form
    f = form.Action at (Send to answer names)

    next : AgentId → List NamedEnd → List ℕ → Known
    next b ports body = with_holds (acting k (record { 0 = at }) (action.Send (queue_of b) body (map (declared_end k.script) ports))) (giving_all (record { 0 = at }) ports)

cast_adds : (before : List Form) (k : Known) (at : ℕ) (n : List ℕ) (answer : Result (List ℕ) BodyError) → Passes before k (form.Action at (Cast n answer)) → Outcome before (form.Action at (Cast n answer)) (casting k (record { 0 = at }) n answer)
unfolding casting
cast_adds before k at n answer p =
    name_found (Outcome before f) before k n (λ member. value_or answer >>= λ body. Ok (next member body)) p.stands (used_is before k f at n p (contains_first (at, n) []))
    (λ member is. by_body before k f answer (next member) p refl refl
    (λ b. plainly before k at (Cast n answer) (record { 0 = at }) (action.Cast (declared_end k.script member) b) p.stands (λ a m h. h) (λ a m. elim [ inl h ↦ h | inr h ↦ h ]) (λ a h. h)))
  where
    f : Form
    f = form.Action at (Cast n answer)

    next : NamedEnd → List ℕ → Known
    next member body = acting k (record { 0 = at }) (action.Cast (declared_end k.script member) body)

start_adds : (before : List Form) (k : Known) (at : ℕ) (n : List ℕ) → Passes before k (form.Action at (Start n)) → Outcome before (form.Action at (Start n)) (adding_action k (record { 0 = at }) (Start n))
start_adds before k at n p = by (bytes_eq n (codes "queue")) refl
  where
    started : ScriptRead EndId → ScriptRead Known
    started r = r >>= λ end. Ok (acting k (record { 0 = at }) (action.Start end))

    starts : (end : EndId) → Outcome before (form.Action at (Start n)) (Ok (acting k (record { 0 = at }) (action.Start end)))
    starts end = quiet before k at (Start n) (action.Start end) p refl (λ a m h. h) (λ a m. elim [ inl h ↦ h | inr h ↦ h ]) (λ a h. h)

    by : (b : Bool) → bytes_eq n (codes "queue") ≡ b → Outcome before (form.Action at (Start n)) (started (cond b (Ok (queue_of (record { 0 = at }))) (declared_end_of_name k n >>= λ port. Ok (declared_end k.script port))))
    by true e = starts (queue_of (record { 0 = at }))
    by false e =
        name_found (λ r. Outcome before (form.Action at (Start n)) (started r)) before k n (λ port. Ok (declared_end k.script port)) p.stands
        (port_is before k (form.Action at (Start n)) n p (subst (λ b. Contains (cond b [] (n ∷ [])) n) (sym e) (contains_first n [])))
        (λ port is. starts (declared_end k.script port))

close_adds : (before : List Form) (k : Known) (at : ℕ) (n : List ℕ) → Passes before k (form.Action at (Close n)) → Outcome before (form.Action at (Close n)) (adding_action k (record { 0 = at }) (Close n))
close_adds before k at n p =
    name_found (Outcome before f) before k n (λ end. Ok (next end)) p.stands (used_is before k f at n p (contains_first (at, n) []))
    (λ end is. accepts before k (next end) f p (no_value f refl refl) (closes before k at n end (action.Close (declared_end k.script end)) p.stands is))
  where
    f : Form
    f = form.Action at (Close n)

    next : NamedEnd → Known
    next end = with_holds (acting k (record { 0 = at }) (action.Close (declared_end k.script end))) (giving (holding (record { 0 = at }) end))

receive_adds : (before : List Form) (k : Known) (at : ℕ) (n : List ℕ) → Passes before k (form.Action at (Receive n)) → Outcome before (form.Action at (Receive n)) (adding_action k (record { 0 = at }) (Receive n))
receive_adds before k at n p =
    name_found (Outcome before f) before k n (λ port. Ok (next port)) p.stands (inl is_port)
    (λ port is. accepts before k (next port) f p (no_value f refl refl) (receives before k at n port (action.Receive (declared_end k.script port)) p.stands is is_port))
  where
    f : Form
    f = form.Action at (Receive n)

    is_port : IsPort before n
    is_port = All-contains (IsPort before) (n ∷ []) n p.known.ports (contains_first n [])

    next : NamedEnd → Known
    next port = with_holds (acting k (record { 0 = at }) (action.Receive (declared_end k.script port))) (taking_more (holding (record { 0 = at }) port))

-- an action that names another agent
with_other : (before : List Form) (k : Known) (at to : ℕ) (x : ActionForm) (next : AgentId → Known) → Passes before k (form.Action at x) → agents_named (form.Action at x) ≡ at ∷ to ∷ []
    → Outcome before (form.Action at x) (Ok (next (record { 0 = to }))) → Outcome before (form.Action at x) (agent_of k to >>= λ b. Ok (next b))
with_other before k at to x next p is good =
    agent_found (Outcome before (form.Action at x)) before k (form.Action at x) to (λ b. Ok (next b)) p
    (subst (λ xs. Contains xs to) (sym is) (contains_rest at (to ∷ []) to (contains_first to []))) good

action_adds : (before : List Form) (k : Known) (at : ℕ) (x : ActionForm) → Passes before k (form.Action at x) → Outcome before (form.Action at x) (adding_action k (record { 0 = at }) x)
action_adds before k at (Post n answer names) p = post_adds before k at n answer names p
action_adds before k at (Send to answer names) p = send_adds before k at to answer names p
action_adds before k at (Cast n answer) p = cast_adds before k at n answer p
action_adds before k at (Start n) p = start_adds before k at n p
action_adds before k at Loaded p = quiet before k at Loaded (action.Loaded (queue_of (record { 0 = at }))) p refl (λ a n h. h) (λ a n. elim [ inl h ↦ h | inr h ↦ h ]) (λ a h. h)
action_adds before k at (Close n) p = close_adds before k at n p
action_adds before k at (Wait messages) p = quiet before k at (Wait messages) (action.Wait messages) p refl (λ a n h. h) (λ a n. elim [ inl h ↦ h | inr h ↦ h ]) (λ a h. h)
action_adds before k at (Receive n) p = receive_adds before k at n p
action_adds before k at (Order to) p =
    with_other before k at to (Order to) (λ b. acting k (record { 0 = at }) (action.Order b)) p refl
    (quiet before k at (Order to) (action.Order (record { 0 = to })) p refl (λ a n h. h) (λ a n. elim [ inl h ↦ h | inr h ↦ h ]) (λ a h. h))
action_adds before k at (LifeEvent event) p = quiet before k at (LifeEvent event) (action.Event event) p refl (λ a n h. h) (λ a n. elim [ inl h ↦ h | inr h ↦ h ]) (λ a h. h)
action_adds before k at (Hand to) p =
    with_other before k at to (Hand to) (λ b. with_handed (acting k (record { 0 = at }) (action.Hand b)) at) p refl
    (accepts before k (with_handed (acting k (record { 0 = at }) (action.Hand (record { 0 = to }))) at) (form.Action at (Hand to)) p (no_value (form.Action at (Hand to)) refl refl)
    (hands_on before k at to (action.Hand (record { 0 = to })) p.stands))
action_adds before k at (Fetch from) p =
    with_other before k at from (Fetch from) (λ b. acting k (record { 0 = at }) (action.Fetch (queue_of b))) p refl
    (quiet before k at (Fetch from) (action.Fetch (queue_of (record { 0 = from }))) p refl (λ a n h. h) (λ a n. elim [ inl h ↦ h | inr h ↦ h ]) (λ a h. h))

-- ---- what each declaration adds

agent_adds : (before : List Form) (k : Known) (kind : AgentKind) (answer : Result (List ℕ) OriginError) → Passes before k (form.Agent kind answer) → Outcome before (form.Agent kind answer) (adding k (form.Agent kind answer))
agent_adds before k kind answer p =
    by_value (Outcome before f) answer (λ origin. Ok (next origin))
    (λ e h. inr (p.placed, p.known, p.list, p.within, IsRefusedValue.url e (ap (λ r. Some r) h)))
    (λ origin h. accepts before k (next origin) f p (value origin h) (declares_agent before k kind answer origin p.stands))
  where
    f : Form
    f = form.Agent kind answer

    next : List ℕ → Known
    next origin = with_script k (with_declared k.script (record { kind = kind; origin = origin }))

    value : (origin : List ℕ) → answer ≡ Ok origin → ¬ IsRefusedValue f
    value origin h (IsRefusedValue.body e g) = cc
    value origin h (IsRefusedValue.url e g) = (let d : Some (Ok origin) ≡ Some (Err e) = ap (λ r. Some r) (sym h) ∙ g in cc)

channel_adds : (before : List Form) (k : Known) (first second : List ℕ) (at : ℕ) → Passes before k (form.Channel first second at) → Outcome before (form.Channel first second at) (adding_channel k first second at)
unfolding adding_channel
channel_adds before k first second at p =
    let q : AreFree k first second = are_free k first second at p.fits in
    agent_found (Outcome before f) before k f at (λ a. Ok (next a)) p (contains_first at [])
    (accepts before k (next (record { 0 = at })) f p (no_value f refl refl) (declares_channel before k first second at p.stands (free before k first p.stands q.one).1 (free before k second p.stands q.other).1 q.differ))
  where
    f : Form
    f = form.Channel first second at

    next : AgentId → Known
    next a = with_script (declaring (declaring k first (next_port k.script) a) second (second_port k.script) a) (with_channel k.script (record { at = a; first = first; second = second }))

member_adds : (before : List Form) (k : Known) (name : List ℕ) (at : ℕ) (on : List ℕ) → Passes before k (form.Member name at on) → Outcome before (form.Member name at on) (adding_member k name at on)
unfolding adding_member
member_adds before k name at on p =
    agent_found (Outcome before f) before k f at (λ a. Ok (next a)) p (contains_first at [])
    (accepts before k (next (record { 0 = at })) f p (no_value f refl refl) (declares_member before k name at on p.stands (free before k name p.stands (and_parts (has_no_action (actions k.script)) (is_unused k name) p.fits).1).1))
  where
    f : Form
    f = form.Member name at on

    next : AgentId → Known
    next a = with_script (declaring k name (next_broadcast_member k.script) a) (with_member k.script (record { at = a; name = name; on = on }))

adds : (before : List Form) (k : Known) (f : Form) → Passes before k f → Outcome before f (adding k f)
adds before k (form.Agent kind answer) p = agent_adds before k kind answer p
adds before k (form.Channel first second at) p = channel_adds before k first second at p
adds before k (form.Member name at on) p = member_adds before k name at on p
adds before k (form.Action at x) p = agent_found (Outcome before (form.Action at x)) before k (form.Action at x) at (λ a. adding_action k a x) p (contains_first at (others_named x)) (action_adds before k at x p)

-- ---- every form

by_test : (P : ScriptRead ⊤ → Type 0) (e : ScriptError) (b : Bool) (ts : List (ScriptError × Bool)) → (b ≡ false → P (Err e)) → (b ≡ true → P (run ts)) → P (run ((e, b) ∷ ts))
by_test P e true ts bad good = good refl
by_test P e false ts bad good = bad refl

pub outcome : (before : List Form) (k : Known) (f : Form) → Stands before k → Outcome before f (after_form k f)
unfolding after_form
outcome before k f s =
    by_test P Syntax (is_placed k f) (drop 1 ts) (λ h. inl (misplaced before k f s h))
    (λ fits. let p : ¬ IsMisplaced before f = placed before k f s fits in
    by_test P UnknownName (are_known k f) (drop 2 ts) (λ h. (p, unknown before k f s h))
    (λ e. let q : AreKnown before f = known before k f s e in
    by_test P (DataClone Source) (not (lists_source f)) (drop 3 ts) (λ h. (p, q, listed f h))
    (λ e. let a : ¬ ListsSource f = apart f e in
    by_test P (DataClone Twice) (not (has_twice (transfer_of f))) (drop 4 ts) (λ h. (p, q, (a, twice f h)))
    (λ e. let o : ¬ StandsTwice (transfer_of f) = once f e in
    by_test P (DataClone Detached) (holds_list k f) (drop 5 ts) (λ h. (p, q, (a, o, detached before k f s h)))
    (λ e. let l : CanTransfer before f = record { apart = a; different = o; held = all_held before k f s e } in
    by_test P TooLarge (has_room k) (drop 6 ts) (λ h. (p, q, l, IsTooLarge.text_lines (full before k s h)))
    (λ r. by_test P TooLarge (is_within k f) [] (λ h. (p, q, l, too_large before k f s h))
    (λ e. adds before k f (record { stands = s; fits = fits; placed = p; known = q; list = l; within = within before k f s r e }))))))))
  where
    P : ScriptRead ⊤ → Type 0
    P r = Outcome before f (r >>= λ _. adding k f)

    ts : List (ScriptError × Bool)
    ts = tests k f
