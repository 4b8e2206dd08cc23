-- Who posts on a line, who may enter, and which ports are in flight.
use Rattle.std.proofs.Common.{Bool, List, None, Option, Some, [], ap, append-nil, append_assoc, arith, cond, eqb, false, inl, inr, length, ne_eqb, not, refl, rules, subst, sym, true, ℕ, ◌&&◌, ◌++◌, ◌+◌, ◌<◌, ◌||◌, ◌∙◌, ◌∷◌, ◌≡◌, ◌≤◌, ◌⊎◌, ⊎_elim}
use Rattle.hub_core.proofs.Words.{AgentId, AllByRecursion, CastNow, Client, EndId, EndNow, Envelope, Facts, InFlight, IsAllWaiting, IsNext, IsOfEnd, Kind, LineNow, Member, Out, Place, Port, Prefix, Sender, Sound, SoundPlaces, With, Worker, and_parts, by, eqb-true, false≢true, filter, flights, owner, owner_by, with_agent, is_free, speaker, source_for, port_place_allows_notice, holder, is_at, is_first, is_here, is_holder, is_named, is_out, is_queue, is_released, is_some, is_with, lines_of, list_all, maker_of, may_enter, may_leave_agent, names, naming, no_end, on_line, opened, option_and_then}
use Rattle.hub_core.proofs.Words.{or_right, peer_of, phase_of_line, place, poster, poster_of, running, total, cases_lt}
use Rattle.hub_core.proofs.Nexts.{SweptWith}
use Rattle.hub_core.proofs.Items.{eqb_same, at_test}
use Rattle.hub_core.proofs.SoundLines.{LinesAt, line_there, WaitingAt, all_removed, got_prefix, nothing_more}
use Rattle.hub_core.proofs.Totals.{bit, count, count_append, count_lines, count_more, total_less, total_more}

-- ---- ends that were not made

-- an end that has any fact was made
pub made_of : (f : Facts) (x : ℕ) → ((y : ℕ) → f.ends ≤ y → f.end y ≡ no_end) → (f.end x ≡ no_end → ⊥) → x < f.ends
made_of f x none known = ⊎_elim (λ below. below) (λ past. absurd (known (none x past))) (cases_lt x f.ends)

pub placed_made : (f : Facts) (x : ℕ) (p : Place) → SoundPlaces f → (f.end x).place ≡ Some p → x < f.ends
placed_made f x p s is = made_of f x s.ends (λ none. absurd (search (rules, sym (ap (λ (e : EndNow). e.place) none) ∙ is)))

pub entangled_made : (f : Facts) (x y : ℕ) → SoundPlaces f → peer_of (f.end x).kind ≡ Some y → x < f.ends
entangled_made f x y s is = made_of f x s.ends (λ none. absurd (search (rules, sym (ap (λ (e : EndNow). peer_of e.kind) none) ∙ is)))

no_lines : (x : ℕ) (line : ℕ → LineNow) (vs : List Envelope) → AllByRecursion (IsOfEnd x 0 line) vs → vs ≡ []
no_lines x line [] h = refl
no_lines x line (v ∷ vs) h = absurd (let none : v.line.0 < 0 = h.0.has_line in omega arith)

pub nothing_accepted : (f : Facts) (x : ℕ) → LinesAt f x → f.end x ≡ no_end → f.accepted x ≡ []
nothing_accepted f x h none = no_lines x (f.line x) (f.accepted x) (subst (λ p. AllByRecursion (IsOfEnd x (lines_of p) (f.line x)) (f.accepted x)) (ap (λ (e : EndNow). e.kind) none) h.named)

no_prefix : (ts : List Envelope) → ((l : ℕ) → Prefix (by l ts) []) → ts ≡ []
no_prefix [] h = refl
no_prefix (t ∷ ts) h =
    let p : Prefix (by t.line.0 (t ∷ ts)) [] = h t.line.0 in
    let first : by t.line.0 (t ∷ ts) ≡ t ∷ by t.line.0 ts = ap (λ b. cond b (t ∷ by t.line.0 ts) (by t.line.0 ts)) (eqb_same t.line.0) in
    let none : [] ≡ t ∷ (by t.line.0 ts ++ p.0) = p.1 ∙ ap (λ us. us ++ p.0) first in
    absurd (search (rules, none))

pub nothing_removed : (f : Facts) (x : ℕ) → WaitingAt f x → f.accepted x ≡ [] → f.taken x ++ f.discarded x ≡ []
nothing_removed f x h none = no_prefix (f.taken x ++ f.discarded x) (λ l. subst (λ vs. Prefix (by l (f.taken x ++ f.discarded x)) (by l vs)) none (h.prefix l))

-- ---- posters

-- what the poster of a port's line says: the line is line 0, and the agent has the peer and runs
pub record Speaks (f : Facts) (s : Sender) : Type 0 where
  pub line : s.line.0 ≡ 0
  pub peer : ℕ
  pub entangled : peer_of (f.end s.end.0).kind ≡ Some peer
  pub agent : AgentId
  pub has : (f.end peer).place ≡ Some (With agent)
  pub runs : (f.agent agent.0).runs ≡ true

-- what the poster of a queue's line says: the agent holds the line and runs
pub record HoldsLine (f : Facts) (s : Sender) : Type 0 where
  pub queue : is_queue (f.end s.end.0).kind ≡ true
  pub agent : AgentId
  pub held : (f.line s.end.0 s.line.0).held_by ≡ Some agent
  pub runs : (f.agent agent.0).runs ≡ true

-- what the poster of a broadcast channel's line says: the line is line 0, and the agent's cast goes there next
pub record Casts (f : Facts) (s : Sender) (agent : AgentId) : Type 0 where
  pub line : s.line.0 ≡ 0
  pub maker : AgentId
  pub member : (f.end s.end.0).kind ≡ Some (Member maker)
  pub cast : CastNow
  pub is_open : f.roster.cast ≡ Some cast
  pub first : is_first s.end.0 cast.left ≡ true
  pub source : (f.end cast.source.0).kind ≡ Some (Member agent)

-- an agent that has an end of this place
pub with_found : (p : Option Place) (a : AgentId) → with_agent p ≡ Some a → p ≡ Some (With a)
with_found (Some (With b)) a is = ap (λ q. Some (With q)) (let same : b ≡ a = cc in same)
with_found _ a is = absurd (search (rules, is))

runs_held : (f : Facts) (q : Option AgentId) → is_some (running f.agent q) ≡ true → (a : AgentId) × (q ≡ Some a) × ((f.agent a.0).runs ≡ true)
runs_held f None h = absurd (false≢true h)
runs_held f (Some a) h = (a, refl, elim ((f.agent a.0).runs) as (λ b. is_some (cond b (Some a) None) ≡ true → b ≡ true) [ true ↦ λ _. refl | false ↦ λ no. absurd (false≢true no) ] h)

pub runs_there : (f : Facts) (p : Option Place) → is_some (running f.agent (with_agent p)) ≡ true → (a : AgentId) × (p ≡ Some (With a)) × ((f.agent a.0).runs ≡ true)
runs_there f p h = let r = runs_held f (with_agent p) h in (r.0, with_found p r.0 r.1, r.2)

pub held_by_one : (f : Facts) (s : Sender) → is_queue (f.end s.end.0).kind ≡ true → is_some (running f.agent (f.line s.end.0 s.line.0).held_by) ≡ true → HoldsLine f s
held_by_one f s queue h = let r = runs_held f (f.line s.end.0 s.line.0).held_by h in record { queue = queue; agent = r.0; held = r.1; runs = r.2 }

-- a kind with a maker
pub made_by : (p : Option Kind) → is_some (maker_of p) ≡ true → (a : AgentId) × (p ≡ Some (Member a))
made_by (Some (Member a)) h = (a, refl)
made_by _ h = absurd (false≢true h)

abbrev pub SomeCasts : Facts → Sender → Type 0
SomeCasts f s = (b : AgentId) × Casts f s b

casts_by : (f : Facts) (s : Sender) (a : AgentId) → (f.end s.end.0).kind ≡ Some (Member a) → s.line.0 ≡ 0 → (o : Option CastNow) → f.roster.cast ≡ o → is_some (option_and_then (λ q. maker_of (f.end q.0).kind) (source_for o s.end.0)) ≡ true → (b : AgentId) × Casts f s b
casts_by f s a kind line None is h = absurd (false≢true h)
casts_by f s a kind line (Some c) is h = at_test (λ q. is_some (option_and_then (λ d. maker_of (f.end d.0).kind) q) ≡ true → SomeCasts f s) (is_first s.end.0 c.left) (Some c.source) None
    (λ first made.
    let by = made_by (f.end c.source.0).kind made in
    (by.0, record { line = line; maker = a; member = kind; cast = c; is_open = is; first = first; source = by.1 }))
    (λ _ none. absurd (false≢true none)) h

speaks_by : (f : Facts) (s : Sender) (p : Option Kind) → (f.end s.end.0).kind ≡ p → is_some (poster_of (speaker f s.end.0) (running f.agent (owner_by f.end s.line.0 (f.line s.end.0 s.line.0).held_by p)) s.line.0 p) ≡ true → Speaks f s ⊎ (HoldsLine f s ⊎ SomeCasts f s)
speaks_by f s None is h = absurd (false≢true h)
speaks_by f s (Some (Port q)) is h = at_test (λ p. is_some (running f.agent p) ≡ true → Speaks f s ⊎ (HoldsLine f s ⊎ SomeCasts f s)) (eqb s.line.0 0) (with_agent (f.end q.0).place) None
    (λ line held.
    let there = runs_there f (f.end q.0).place held in
    inl (record { line = eqb-true s.line.0 0 line; peer = q.0; entangled = ap peer_of is; agent = there.0; has = there.1; runs = there.2 }))
    (λ line none. absurd (false≢true none)) h
speaks_by f s (Some Client) is h = inr (inl (held_by_one f s (ap is_queue is) h))
speaks_by f s (Some Worker) is h = inr (inl (held_by_one f s (ap is_queue is) h))
speaks_by f s (Some (Member a)) is h = at_test (λ p. is_some p ≡ true → Speaks f s ⊎ (HoldsLine f s ⊎ SomeCasts f s)) (eqb s.line.0 0) (speaker f s.end.0) None (λ line speaks. inr (inr (casts_by f s a is (eqb-true s.line.0 0 line) f.roster.cast refl speaks))) (λ line none. absurd (false≢true none)) h

pub speaks_of : (f : Facts) (s : Sender) → is_some (poster f s) ≡ true → Speaks f s ⊎ (HoldsLine f s ⊎ SomeCasts f s)
speaks_of f s h = speaks_by f s (f.end s.end.0).kind refl h

-- a port is entangled
pub port_of : (p : Option Kind) (q : ℕ) → peer_of p ≡ Some q → p ≡ Some (Port (record { 0 = q }))
port_of (Some (Port r)) q h = let same : r.0 ≡ q = cc in ap (λ n. Some (Port (record { 0 = n }))) same
port_of _ q h = absurd (search (rules, h))

-- the poster, by what it is read off
pub poster_as : (g : Facts) (s : Sender) (q : ℕ) (a : AgentId) → s.line.0 ≡ 0 → peer_of (g.end s.end.0).kind ≡ Some q → (g.end q).place ≡ Some (With a) → (g.agent a.0).runs ≡ true → poster g s ≡ Some a
poster_as g s q a line peer place runs = let port = port_of (g.end s.end.0).kind q peer in rw (line, port, place, runs) refl

queue_poster : (g : Facts) (s : Sender) (p : Option Kind) → is_queue p ≡ true → poster_of (speaker g s.end.0) (running g.agent (owner_by g.end s.line.0 (g.line s.end.0 s.line.0).held_by p)) s.line.0 p ≡ running g.agent (g.line s.end.0 s.line.0).held_by
queue_poster g s (Some Client) h = refl
queue_poster g s (Some Worker) h = refl
queue_poster g s _ h = absurd (false≢true h)

pub holds_as : (g : Facts) (s : Sender) (k : HoldsLine g s) → poster g s ≡ Some k.agent
holds_as g s k = queue_poster g s (g.end s.end.0).kind k.queue ∙ ap (running g.agent) k.held ∙ ap (λ b. cond b (Some k.agent) None) k.runs

pub casts_as : (g : Facts) (s : Sender) (b : AgentId) → Casts g s b → poster g s ≡ Some b
casts_as g s b k = rw (k.member, k.line, k.is_open, k.first, k.source) refl

-- ---- ports that travel

has_of : (a : AgentId) (p : Option Place) → is_with a p ≡ true → p ≡ Some (With a)
has_of a (Some (With b)) h = let same : a.0 ≡ b.0 = search (rules, h) in ap (λ n. Some (With (record { 0 = n }))) (sym same)
has_of a _ h = absurd (false≢true h)

-- a port of a good list has its own line out and is with the agent
pub travels : (f : Facts) (a : AgentId) (s : Sender) (x : ℕ) (ports : List EndId) → list_all (may_leave_agent f a s) ports ≡ true → names ports x ≡ true → ((f.end x).place ≡ Some (With a)) × (is_free f.line (peer_of (f.end x).kind) ≡ true)
travels f a s x [] all named = absurd (false≢true named)
travels f a s x (p ∷ ps) all named = elim (eqb p.0 x) as (λ b. eqb p.0 x ≡ b → (b || names ps x) ≡ true → ((f.end x).place ≡ Some (With a)) × (is_free f.line (peer_of (f.end x).kind) ≡ true)) [
  | true ↦ λ t _.
      let same : p.0 ≡ x = search (rules, t) in
      let tests = and_parts (may_leave_agent f a s p) (list_all (may_leave_agent f a s) ps) all in
      let first = and_parts (is_with a (f.end p.0).place && is_free f.line (peer_of (f.end p.0).kind)) (not (is_at p.0 (peer_of (f.end s.end.0).kind))) tests.0 in
      let second = and_parts (is_with a (f.end p.0).place) (is_free f.line (peer_of (f.end p.0).kind)) first.0 in
      subst (λ y. ((f.end y).place ≡ Some (With a)) × (is_free f.line (peer_of (f.end y).kind) ≡ true)) same (has_of a (f.end p.0).place second.0, second.1)
  | false ↦ λ t later. travels f a s x ps (and_parts (may_leave_agent f a s p) (list_all (may_leave_agent f a s) ps) all).1 later
] refl named

-- ---- flights

flying : (p : Option Place) → 1 ≤ flights p → p ≡ Some InFlight
flying (Some InFlight) h = refl
flying _ h = absurd (omega arith)

-- a take that fits names ports that are in flight
pub taken_flies : (f : Facts) (e : EndId) (v : Envelope) (x : ℕ) → Sound f → IsNext f e v → (f.end e.0).closed ≡ false → e.0 < f.ends → names v.ports x ≡ true → (f.end x).place ≡ Some InFlight
taken_flies f e v x s n opened made named =
    let P : Envelope → Bool = λ u. names u.ports x in
    let more : count P (f.taken e.0 ++ v ∷ []) ≡ count P (f.taken e.0) + 1 = count_more P (f.taken e.0) v ∙ ap (λ b. count P (f.taken e.0) + bit b) named in
    let within : count P (f.taken e.0 ++ v ∷ []) ≤ count P (f.accepted e.0) = count_lines P (f.taken e.0 ++ v ∷ []) (f.accepted e.0) (got_prefix f e v n (s.waiting e.0)) in
    let gone : ℕ → ℕ = λ d. naming x (f.taken d ++ f.discarded d) in
    let u : ℕ → ℕ = λ d. naming x (f.accepted d) in
    let top : ℕ → ℕ = λ d. cond (eqb d e.0) (gone d + 1) (gone d) in
    let same : gone e.0 ≡ count P (f.taken e.0) = ap (naming x) (nothing_more (f.taken e.0) (f.discarded e.0) ((s.waiting e.0).kept opened)) in
    let grows : total top f.ends ≡ total gone f.ends + 1 = total_more gone top f.ends e.0 1 made (ap (λ b. cond b (gone e.0 + 1) (gone e.0)) (eqb_same e.0)) (λ d other. ap (λ b. cond b (gone d + 1) (gone d)) (ne_eqb d e.0 other)) in
    let mine : gone e.0 + 1 ≤ u e.0 = omega arith in
    let under : total top f.ends ≤ total u f.ends = total_less top u f.ends (λ d. at_test (λ n. n ≤ u d) (eqb d e.0) (gone d + 1) (gone d) (λ t. let here : d ≡ e.0 = search (rules, t) in subst (λ y. gone y + 1 ≤ u y) (sym here) mine) (λ t. count_lines P (f.taken d ++ f.discarded d) (f.accepted d) ((s.waiting d).prefix))) in
    let sum : total u f.ends ≡ total gone f.ends + flights (f.end x).place = s.places.flights x in
    flying (f.end x).place (omega arith)

-- the ports of what a sweep that fits discards

pub named_count : (x : ℕ) (vs : List Envelope) → is_named vs x ≡ true → 1 ≤ naming x vs
named_count x [] h = absurd (false≢true h)
named_count x (v ∷ vs) h = elim (names v.ports x) as (λ b. (b || is_named vs x) ≡ true → 1 ≤ length (cond b (v ∷ filter (λ (u : Envelope). names u.ports x) vs) (filter (λ (u : Envelope). names u.ports x) vs))) [
  | true ↦ λ _. omega arith
  | false ↦ λ later. named_count x vs later
] h

pub unnamed_count : (x : ℕ) (vs : List Envelope) → is_named vs x ≡ false → naming x vs ≡ 0
unnamed_count x [] h = refl
unnamed_count x (v ∷ vs) h = elim (names v.ports x) as (λ b. (b || is_named vs x) ≡ false → length (cond b (v ∷ filter (λ (u : Envelope). names u.ports x) vs) (filter (λ (u : Envelope). names u.ports x) vs)) ≡ 0) [
  | true ↦ λ no. absurd (false≢true (sym no))
  | false ↦ λ later. unnamed_count x vs later
] h

-- what is removed at the ends, with what a sweep discards
pub swept_total : (f : Facts) (e : EndId) (vs : List Envelope) (x : ℕ) → e.0 < f.ends → total (λ d. naming x (f.taken d ++ cond (eqb d e.0) (f.discarded d ++ vs) (f.discarded d))) f.ends ≡ total (λ d. naming x (f.taken d ++ f.discarded d)) f.ends + naming x vs
swept_total f e vs x made =
    let P : Envelope → Bool = λ u. names u.ports x in
    total_more (λ d. naming x (f.taken d ++ f.discarded d)) (λ d. naming x (f.taken d ++ cond (eqb d e.0) (f.discarded d ++ vs) (f.discarded d))) f.ends e.0 (naming x vs) made
    (ap (λ b. naming x (f.taken e.0 ++ cond b (f.discarded e.0 ++ vs) (f.discarded e.0))) (eqb_same e.0) ∙ ap (naming x) (sym (append_assoc (f.taken e.0) (f.discarded e.0) vs)) ∙ count_append P (f.taken e.0 ++ f.discarded e.0) vs)
    (λ d other. ap (λ b. naming x (f.taken d ++ cond b (f.discarded d ++ vs) (f.discarded d))) (ne_eqb d e.0 other))

pub closed_made : (f : Facts) (x : ℕ) → SoundPlaces f → (f.end x).closed ≡ true → x < f.ends
closed_made f x s is = made_of f x s.ends (λ none. absurd (search (rules, sym (ap (λ (e : EndNow). e.closed) none) ∙ is)))

pub swept_within : (f : Facts) (e : EndId) (vs : List Envelope) (x : ℕ) → Sound f → SweptWith f e vs → naming x vs ≤ flights (f.end x).place
swept_within f e vs x s w =
    let P : Envelope → Bool = λ u. names u.ports x in
    let made : e.0 < f.ends = closed_made f e.0 s.places w.is_closed in
    let u : ℕ → ℕ = λ d. naming x (f.accepted d) in
    let top : ℕ → ℕ = λ d. naming x (f.taken d ++ cond (eqb d e.0) (f.discarded d ++ vs) (f.discarded d)) in
    let gone : ℕ → ℕ = λ d. naming x (f.taken d ++ f.discarded d) in
    let grows : total top f.ends ≡ total gone f.ends + naming x vs = swept_total f e vs x made in
    let under : total top f.ends ≤ total u f.ends = total_less top u f.ends (λ d. at_test (λ ws. naming x (f.taken d ++ ws) ≤ u d) (eqb d e.0) (f.discarded d ++ vs) (f.discarded d)
    (λ is.
    let here : d ≡ e.0 = eqb-true d e.0 is in
    let all : IsAllWaiting f d vs = subst (λ y. IsAllWaiting f y vs) (sym here) w.all in
    count_lines P (f.taken d ++ (f.discarded d ++ vs)) (f.accepted d) (λ l. ([], sym (append-nil (by l (f.taken d ++ (f.discarded d ++ vs))) ∙ all_removed f d vs (s.waiting d) all l))))
    (λ is. count_lines P (f.taken d ++ f.discarded d) (f.accepted d) ((s.waiting d).prefix))) in
    let sum : total u f.ends ≡ total gone f.ends + flights (f.end x).place = s.places.flights x in
    omega arith

pub swept_flies : (f : Facts) (e : EndId) (vs : List Envelope) (x : ℕ) → Sound f → SweptWith f e vs → is_named vs x ≡ true → (f.end x).place ≡ Some InFlight
swept_flies f e vs x s w named =
    let one : 1 ≤ naming x vs = named_count x vs named in
    let within : naming x vs ≤ flights (f.end x).place = swept_within f e vs x s w in
    flying (f.end x).place (omega arith)

-- ---- whoever is away keeps the line

pub zeroth_out : (f : Facts) (s : Sender) → s.line.0 ≡ 0 → is_out (f.line s.end.0 0).phase ≡ true → is_out (phase_of_line f s) ≡ true
zeroth_out f s line out = subst (λ l. is_out (f.line s.end.0 l).phase ≡ true) (sym line) out

-- the own poster of a port that may be closed is out, and so is that of one that may be sent
pub released_out : (f : Facts) (p : Option Kind) (x : ℕ) → peer_of p ≡ Some x → is_released f.line p ≡ true → is_out (f.line x 0).phase ≡ true
released_out f p x is free = subst (λ k. is_released f.line k ≡ true) (port_of p x is) free

pub free_port_out : (f : Facts) (p : Option ℕ) (x : ℕ) → p ≡ Some x → is_free f.line p ≡ true → is_out (f.line x 0).phase ≡ true
free_port_out f p x is free = (and_parts (is_out (f.line x 0).phase) (not (f.line x 0).noticed) (subst (λ q. is_free f.line q ≡ true) is free)).0

below : (x n : ℕ) → x < n → (eqb x n ≡ false) × (eqb x (n + 1) ≡ false)
below x n less = (ne_eqb x n (λ is. omega arith), ne_eqb x (n + 1) (λ is. omega arith))

-- the numbers of new ends are not those of an end that was made
pub old_end : (f : Facts) (e e' : EndId) (x : ℕ) → e ≡ record { 0 = f.ends } → e' ≡ record { 0 = f.ends + 1 } → x < f.ends → (eqb x e.0 ≡ false) × (eqb x e'.0 ≡ false)
old_end f e e' x first second less =
    let both = below x f.ends less in
    (ap (λ (d : EndId). eqb x d.0) first ∙ both.0, ap (λ (d : EndId). eqb x d.0) second ∙ both.1)

pub holder_made : (f : Facts) (e : ℕ) → SoundPlaces f → is_some (holder f e) ≡ true → e < f.ends
holder_made f e s h = let there = runs_there f (f.end e).place h in placed_made f e (With there.0) s there.1

-- an agent that runs was made
pub running_made : (f : Facts) (a : AgentId) → SoundPlaces f → (f.agent a.0).runs ≡ true → a.0 < f.agents
running_made f a h runs = ⊎_elim (λ under. under) (λ past. absurd (false≢true (sym (h.agents a.0 past) ∙ runs))) (cases_lt a.0 f.agents)

-- the number of a new end is not that of an end that was made
pub old_one : (f : Facts) (e : EndId) (x : ℕ) → e ≡ record { 0 = f.ends } → x < f.ends → eqb x e.0 ≡ false
old_one f e x first less = ap (λ (d : EndId). eqb x d.0) first ∙ ne_eqb x f.ends (λ is. omega arith)

-- a queue was made
pub queue_is_made : (f : Facts) (x : ℕ) → SoundPlaces f → is_queue (f.end x).kind ≡ true → x < f.ends
queue_is_made f x s is = made_of f x s.ends (λ none. false≢true (sym (ap (λ (e : EndNow). is_queue e.kind) none) ∙ is))

-- the poster of a port's line is that of the agent that has the port
pub port_owned : (f : Facts) (a : AgentId) (s : Sender) (k : Speaks f s) → k.agent.0 ≡ a.0 → is_holder a (owner f s.end.0 s.line.0) ≡ true
port_owned f a s k same =
    let port = port_of (f.end s.end.0).kind k.peer k.entangled in
    rw (port, k.line, k.has) (ap (eqb a.0) same ∙ eqb_same a.0)

-- the poster of a queue's line is that of the agent that holds it
pub line_owned : (f : Facts) (a : AgentId) (s : Sender) (p : Option Kind) → is_queue p ≡ true → (b : AgentId) → (f.line s.end.0 s.line.0).held_by ≡ Some b → b.0 ≡ a.0 → is_holder a (owner_by f.end s.line.0 (f.line s.end.0 s.line.0).held_by p) ≡ true
line_owned f a s (Some Client) queue b held same = ap (is_holder a) held ∙ ap (eqb a.0) same ∙ eqb_same a.0
line_owned f a s (Some Worker) queue b held same = ap (is_holder a) held ∙ ap (eqb a.0) same ∙ eqb_same a.0
line_owned f a s _ queue b held same = absurd (false≢true queue)

-- a queue is no port
pub no_port : (p : Option Kind) (q : ℕ) → is_queue p ≡ true → peer_of p ≡ Some q → ⊥
no_port (Some Client) q h is = absurd (search (rules, is))
no_port (Some Worker) q h is = absurd (search (rules, is))
no_port _ q h is = false≢true h

-- two senders with the same numbers are one
pub same_sender : (s t : Sender) → s.end.0 ≡ t.end.0 → s.line.0 ≡ t.line.0 → s ≡ t
same_sender s t end line = λ i. record { end = record { 0 = end i }; line = record { 0 = line i } }

-- a line that another one isn't stays held
pub still_held : (f : Facts) (s t : Sender) (holder : Option AgentId) (a : AgentId) → (f.line s.end.0 s.line.0).held_by ≡ Some a → (s ≡ t → ⊥) → on_line s.end.0 s.line.0 t holder (f.line s.end.0 s.line.0).held_by ≡ Some a
still_held f s t holder a held other = at_test (λ q. q ≡ Some a) (eqb s.end.0 t.end.0 && eqb s.line.0 t.line.0) holder (f.line s.end.0 s.line.0).held_by
    (λ is. let both = and_parts (eqb s.end.0 t.end.0) (eqb s.line.0 t.line.0) is in absurd (other (same_sender s t (eqb-true s.end.0 t.end.0 both.0) (eqb-true s.line.0 t.line.0 both.1))))
    (λ is. held)

-- ---- broadcast channels

-- an end of some kind was made
pub kind_made : (f : Facts) (x : ℕ) (k : Kind) → SoundPlaces f → (f.end x).kind ≡ Some k → x < f.ends
kind_made f x k s is = made_of f x s.ends (λ none. absurd (search (rules, sym (ap (λ (e : EndNow). e.kind) none) ∙ is)))

-- one end alone is the first
pub not_first : (x y : ℕ) (left : List EndId) → is_first y left ≡ true → (x ≡ y → ⊥) → is_first x left ≡ false
not_first x y [] first other = refl
not_first x y (z ∷ zs) first other = ne_eqb x z.0 (λ is. other (is ∙ sym (eqb-true y z.0 first)))

-- what a poster left that isn't this one
pub left_other : (f : Facts) (t s : Sender) (b : AgentId) → Sound f → is_out (phase_of_line f t) ≡ false → Casts f s b → is_out (on_line s.end.0 s.line.0 t Out (f.line s.end.0 s.line.0).phase) ≡ false → t.end.0 ≡ s.end.0 → ⊥
left_other f t s b h away k after same =
    let low : t.line.0 < lines_of (f.end t.end.0).kind = line_there f t (h.lines t.end.0) (h.places.away t away) in
    let one : lines_of (f.end t.end.0).kind ≡ 1 = ap (λ x. lines_of (f.end x).kind) same ∙ ap lines_of k.member in
    let first : s.line.0 ≡ t.line.0 = let zeroth : s.line.0 ≡ 0 = k.line in omega arith in
    let here : (eqb s.end.0 t.end.0 && eqb s.line.0 t.line.0) ≡ true = rw (sym same, first) (ap (λ c. c && eqb t.line.0 t.line.0) (eqb_same t.end.0) ∙ eqb_same t.line.0) in
    false≢true (sym after ∙ ap (λ c. is_out (cond c Out (f.line s.end.0 s.line.0).phase)) here)

-- ---- who may enter

-- what the poster of a port's line that may enter says: the line is line 0, and the port at the other side has a place where it can be closed
pub record Hears (f : Facts) (s : Sender) : Type 0 where
  pub line : s.line.0 ≡ 0
  pub peer : ℕ
  pub entangled : peer_of (f.end s.end.0).kind ≡ Some peer
  pub here : is_here (f.end peer).place ≡ true

heard_by : (f : Facts) (s : Sender) (p : Option ℕ) → peer_of (f.end s.end.0).kind ≡ p → (eqb s.line.0 0 && is_here (option_and_then (λ q. (f.end q).place) p)) ≡ true → Hears f s
heard_by f s None is h = absurd (false≢true (and_parts (eqb s.line.0 0) false h).1)
heard_by f s (Some q) is h = let both = and_parts (eqb s.line.0 0) (is_here (f.end q).place) h in record { line = eqb-true s.line.0 0 both.0; peer = q; entangled = is; here = both.1 }

pub heard_of : (f : Facts) (s : Sender) → port_place_allows_notice f s ≡ true → Hears f s
heard_of f s h = heard_by f s (peer_of (f.end s.end.0).kind) refl h

pub hears_of : (f : Facts) (s : Sender) → may_enter f s ≡ true → Hears f s ⊎ (HoldsLine f s ⊎ SomeCasts f s)
hears_of f s h = elim (is_some (poster f s)) as (λ b. is_some (poster f s) ≡ b → (b || port_place_allows_notice f s) ≡ true → Hears f s ⊎ (HoldsLine f s ⊎ SomeCasts f s)) [
  | true ↦ λ speaks _. elim (speaks_of f s speaks) [
    | inl k ↦ inl (record { line = k.line; peer = k.peer; entangled = k.entangled; here = ap is_here k.has })
    | inr k ↦ inr k
  ]
  | false ↦ λ _ hears. inl (heard_of f s hears)
] refl h

pub may_as : (g : Facts) (s : Sender) (q : ℕ) → s.line.0 ≡ 0 → peer_of (g.end s.end.0).kind ≡ Some q → is_here (g.end q).place ≡ true → may_enter g s ≡ true
may_as g s q line peer here = or_right (is_some (poster g s)) (port_place_allows_notice g s) (rw (line, peer, here) refl)

pub not_here : (p : Option Place) → p ≡ Some InFlight → is_here p ≡ true → ⊥
not_here p is h = false≢true (sym (ap is_here is) ∙ h)

-- a queue is no broadcast channel
pub no_member : (p : Option Kind) (a : AgentId) → is_queue p ≡ true → p ≡ Some (Member a) → ⊥
no_member p a queue is = false≢true (sym (ap is_queue is) ∙ queue)
