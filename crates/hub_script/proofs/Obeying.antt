-- What the tests of a form have found where it is read.
use Rattle.std.proofs.Common.{◌≡◌, ℕ, ◌≤◌, List, [], ◌∷◌, length, Bool, true, false, cond, ◌&&◌, nat_le, Option, Some, None, Ok, Err, refl, ap, sym, ◌∙◌}
use Rattle.std.specs.List.{list_all}
use Rattle.std.specs.Prelude.{⊤}
use Rattle.std.proofs.lemmas.Bool.{and_parts, leb-true, not-true}
use Rattle.hub_envelope.specs.declared.ids.AgentId.{AgentId}
use Rattle.hub_envelope.specs.declared.limits.TheConstants.{MAX_PORTS}
use Rattle.hub_text.specs.Reading.{◌>>=◌}
use Rattle.hub_script.specs.declared.form.ActionForm.{ActionForm}
use Rattle.hub_script.specs.declared.form.ActionForm.TheVariants.{Post, Send, Start, Close}
use Rattle.hub_script.specs.declared.form.Form.{Form}
use Rattle.hub_script.specs.declared.form.Form.TheVariants as form
use Rattle.hub_script.specs.declared.script_reader.NamedEnd.{NamedEnd}
use Rattle.hub_script.specs.declared.script_reader.NameKind.{NameKind}
use Rattle.hub_script.specs.declared.script_reader.NameKind.TheVariants.{Port, Member}
use Rattle.hub_script.specs.declared.error.ScriptError.{ScriptError}
use Rattle.hub_script.specs.Context.{adding, after_form, are_known, has_agent_of_number, has_small_body, has_twice, holds_end, holds_named, is_member, is_port, is_within, lists_source, names_port, of_port, require, run, tests}
use Rattle.hub_script.specs.Fields.{ScriptRead}
use Rattle.hub_script.specs.Known.{Known}
use Rattle.hub_script.specs.Laws.{ClosesHeld, HoldsName, HoldsPort, PostsHeld, SendsHeld, StartsHeld}
use Rattle.hub_script.specs.Uses.{agents_named, members_named, names_used, ports_named, transferred}

-- where the whole is read, so is each part
pub parts : {A B : Type 0} (r : ScriptRead A) (f : A → ScriptRead B) (y : B) → (r >>= f) ≡ Ok y → (x : A) × (r ≡ Ok x) × (f x ≡ Ok y)
parts (Ok x) f y h = (x, refl, h)
parts (Err e) f y h = absurd (cc)

abbrev pub AllPass : List (ScriptError × Bool) → Type 0
AllPass [] = ⊤
AllPass (t ∷ ts) = (t.1 ≡ true) × AllPass ts

all_pass : (ts : List (ScriptError × Bool)) → run ts ≡ Ok tt → AllPass ts
all_pass [] h = tt
all_pass (t ∷ ts) h = by t.1 refl h (all_pass ts)
  where
    by : (b : Bool) → t.1 ≡ b → (require t.0 b >>= λ _. run ts) ≡ Ok tt → (run ts ≡ Ok tt → AllPass ts) → AllPass (t ∷ ts)
    by true e g rest = (e, rest g)
    by false e g rest = absurd (cc)

tested : (k next : Known) (f : Form) → after_form k f ≡ Ok next → AllPass (tests k f)
unfolding after_form
tested k next f h =
    let p : (x : ⊤) × (run (tests k f) ≡ Ok x) × (adding k f ≡ Ok next) = parts (run (tests k f)) (λ _. adding k f) next h in
    all_pass (tests k f) p.1

head_passes : {X : Type 0} (p : X → Bool) (x : X) (xs : List X) → list_all p (x ∷ xs) ≡ true → p x ≡ true
head_passes p x xs h = (and_parts (p x) (list_all p xs) h).0

rest_passes : {X : Type 0} (p : X → Bool) (x : X) (xs : List X) → list_all p (x ∷ xs) ≡ true → list_all p xs ≡ true
rest_passes p x xs h = (and_parts (p x) (list_all p xs) h).1

-- what is known of the ports and of the names that are used
names_pass : (k : Known) (f : Form) → are_known k f ≡ true → (list_all (is_port k) (ports_named f) ≡ true) × (list_all (λ used. holds_named k used.0 used.1) (names_used f) ≡ true)
names_pass k f h =
    let p = and_parts (list_all (has_agent_of_number k) (agents_named f)) (list_all (is_port k) (ports_named f) && (list_all (is_member k) (members_named f) && list_all (λ used. holds_named k used.0 used.1) (names_used f))) h in
    let q = and_parts (list_all (is_port k) (ports_named f)) (list_all (is_member k) (members_named f) && list_all (λ used. holds_named k used.0 used.1) (names_used f)) p.1 in
    (q.0, (and_parts (list_all (is_member k) (members_named f)) (list_all (λ used. holds_named k used.0 used.1) (names_used f)) q.1).1)

holds_name : (k : Known) (a : AgentId) (n : List ℕ) → holds_named k a.0 n ≡ true → HoldsName k a n
holds_name k a n = by (k.names n) refl
  where
    by : (o : Option NamedEnd) → k.names n ≡ o → holds_end k a.0 o ≡ true → HoldsName k a n
    by None e h = absurd (cc)
    by (Some x) e h = record { end = x; named = e; held = h }

holds_port : (k : Known) (a : AgentId) (n : List ℕ) → is_port k n ≡ true → holds_named k a.0 n ≡ true → HoldsPort k a n
holds_port k a n = by (k.names n) refl
  where
    of_kind : (kind : NameKind) → of_port kind ≡ true → kind ≡ Port
    of_kind Port h = refl
    of_kind Member h = absurd (cc)

    by : (o : Option NamedEnd) → k.names n ≡ o → names_port o ≡ true → holds_end k a.0 o ≡ true → HoldsPort k a n
    by None e g h = absurd (cc)
    by (Some x) e g h = record { port = x; named = e; kind = of_kind x.kind g; held = h }

few : (k : Known) (at : ℕ) (x : ActionForm) → is_within k (form.Action at x) ≡ true → length (transferred x) ≤ MAX_PORTS
few k at x h = leb-true (length (transferred x)) MAX_PORTS (and_parts (nat_le (length (transferred x)) MAX_PORTS) (has_small_body x) h).0

pub posts_held : PostsHeld
posts_held k next at n answer names h =
    let t : AllPass (tests k (form.Action at (Post n answer names))) = tested k next (form.Action at (Post n answer names)) h in
    let p = names_pass k (form.Action at (Post n answer names)) t.1.0 in (
      record { 0 = at },
      refl,
      holds_port k (record { 0 = at }) n (head_passes (is_port k) n names p.0) (head_passes (λ (used : ℕ × List ℕ). holds_named k used.0 used.1) (at, n) [] p.1),
      record {
        ports = rest_passes (is_port k) n names p.0;
        apart = not-true (lists_source (form.Action at (Post n answer names))) t.1.1.0;
        different = not-true (has_twice names) t.1.1.1.0;
        held = t.1.1.1.1.0;
        few = few k at (Post n answer names) t.1.1.1.1.1.1.0;
      },
    )

pub sends_held : SendsHeld
sends_held k next at to answer names h =
    let t : AllPass (tests k (form.Action at (Send to answer names))) = tested k next (form.Action at (Send to answer names)) h in (
      record { 0 = at },
      refl,
      record {
        ports = (names_pass k (form.Action at (Send to answer names)) t.1.0).0;
        apart = refl;
        different = not-true (has_twice names) t.1.1.1.0;
        held = t.1.1.1.1.0;
        few = few k at (Send to answer names) t.1.1.1.1.1.1.0;
      },
    )

pub starts_held : StartsHeld
starts_held k next at n h other =
    let t : AllPass (tests k (form.Action at (Start n))) = tested k next (form.Action at (Start n)) h in
    let p = names_pass k (form.Action at (Start n)) t.1.0 in
    let port : list_all (is_port k) (n ∷ []) ≡ true = sym (ap (λ b. list_all (is_port k) (cond b [] (n ∷ []))) other) ∙ p.0 in
    let held : list_all (λ (used : ℕ × List ℕ). holds_named k used.0 used.1) ((at, n) ∷ []) ≡ true = sym (ap (λ b. list_all (λ (used : ℕ × List ℕ). holds_named k used.0 used.1) (cond b [] ((at, n) ∷ []))) other) ∙ p.1 in
    (record { 0 = at }, refl, holds_port k (record { 0 = at }) n (head_passes (is_port k) n [] port) (head_passes (λ (used : ℕ × List ℕ). holds_named k used.0 used.1) (at, n) [] held))

pub closes_held : ClosesHeld
closes_held k next at n h =
    let t : AllPass (tests k (form.Action at (Close n))) = tested k next (form.Action at (Close n)) h in
    let p = names_pass k (form.Action at (Close n)) t.1.0 in
    (record { 0 = at }, refl, holds_name k (record { 0 = at }) n (head_passes (λ (used : ℕ × List ℕ). holds_named k used.0 used.1) (at, n) [] p.1))
