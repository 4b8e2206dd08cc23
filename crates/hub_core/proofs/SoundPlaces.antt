-- Places stay sound.
use Rattle.std.proofs.Common.{Bool, Option, Some, ap, arith, cond, eqb, false, refl, true, ℕ, ◌+◌, ◌<◌, ◌||◌, ◌∙◌, ◌≡◌, None, drop, inl, inr, rules, sym, ◌⊎◌, List, [], ne_eqb, subst, ◌&&◌, ◌++◌, ◌∷◌, ◌≤◌}
use Rattle.hub_core.proofs.Words.{Action, AgentId, Answers, Arrived, EndId, Facts, Gone, InFlight, Kind, Outcome, Place, Sound, SoundPlaces, Swept, With, arrived, closed_after, eqb-true, is_here, is_named, is_queue, is_released, is_some, names, no_end, peer_of, owner, is_holder, is_free, place_after, EndNow, Member, Sender, cast_after, cast_to, ends, false≢true, held_after, is_out, kind_after, lines_of, may_enter, phase_of_line, poster, roster_after, runs_after, port_place_allows_notice, Client, Envelope, Inside, IsNext, MAX_ENDS, Out, Phase, Port}
use Rattle.hub_core.proofs.Words.{Turned, Worker, agents_after, and_parts, ends_after, flights, is_gone, named_envelope, named_notice, naming, opened, total}
use Rattle.hub_core.specs.declared.step.Action.TheVariants as action
use Rattle.hub_core.specs.declared.step.Outcome.TheVariants as outcome
use Rattle.hub_core.proofs.Nexts.{adopted_of, closed_of, got_of, handed_of, member_made_of, new_ends, pushed_of, queue_made_of, swept_of, back_of, cast_of, left_of, line_got_of, none_away, see_of, SweptWith, found_closed_of, found_moved_of, let_in_of, new_agent, noticed_of, started_of, went_on_of, next}
use Rattle.hub_core.proofs.Speakers.{holder_made, runs_there, swept_flies, taken_flies, travels, Casts, Hears, HoldsLine, Speaks, casts_as, entangled_made, hears_of, holds_as, kind_made, left_other, line_owned, may_as, no_port, not_first, not_here, old_end, old_one, zeroth_out, free_port_out, port_owned, poster_as, queue_is_made, released_out, speaks_of, still_held, SomeCasts, closed_made, heard_of, made_of, named_count, nothing_accepted, nothing_removed, placed_made, running_made, same_sender, swept_total, swept_within, unnamed_count}
use Rattle.hub_core.proofs.SoundLines.{line_there, unmade_end, unmade_one}
use Rattle.hub_core.proofs.Items.{at_test, eqb_same}
use Rattle.hub_core.proofs.Totals.{bit, count_between, count_more, total_more, total_past}

-- ==== Where a pair that fits moves an end: from which place to which, and whether the end is closed then.

-- The end goes to the place, and is closed or isn't: it stays; it is made; it is sent by the agent that has it, whose
-- own poster is out there; it arrives from a flight; an agent at which it arrived takes it up; a queue is handed on; what
-- named it is discarded; it is closed.
pub data GoesTo (f : Facts) (x : ℕ) (place : Option Place) (closed : Bool) : Type 0 where
  stays : place ≡ (f.end x).place → closed ≡ (f.end x).closed → GoesTo f x place closed
  new : (a : AgentId) → place ≡ Some (With a) → closed ≡ (f.end x).closed → f.end x ≡ no_end → (f.agent a.0).runs ≡ true → GoesTo f x place closed
  sent : (a : AgentId) → place ≡ Some InFlight → closed ≡ (f.end x).closed → (f.end x).place ≡ Some (With a) → is_free f.line (peer_of (f.end x).kind) ≡ true → GoesTo f x place closed
  came : (a : AgentId) → place ≡ Some (Arrived a) → closed ≡ (f.end x).closed → (f.end x).place ≡ Some InFlight → a.0 < f.agents → GoesTo f x place closed
  taken_up : (a : AgentId) → place ≡ Some (With a) → closed ≡ (f.end x).closed → (f.end x).place ≡ Some (Arrived a) → (f.agent a.0).runs ≡ true → GoesTo f x place closed
  handed_on : (a b : AgentId) → place ≡ Some (Arrived b) → closed ≡ (f.end x).closed → (f.end x).place ≡ Some (With a) → is_queue (f.end x).kind ≡ true → b.0 < f.agents → GoesTo f x place closed
  dropped : place ≡ Some Swept → closed ≡ (f.end x).closed → (f.end x).place ≡ Some InFlight → GoesTo f x place closed
  shut : place ≡ Some Gone → closed ≡ true → is_here (f.end x).place ≡ true → is_released f.line (f.end x).kind ≡ true → GoesTo f x place closed

-- an end more, which an agent made
abbrev pub one_made : Facts → AgentId → Kind → EndId → Facts
one_made f b k e = record f {
  ends = f.ends + 1;
  end = λ x. record (f.end x) { kind = cond (eqb x e.0) (Some k) (f.end x).kind; place = cond (eqb x e.0) (Some (With b)) (f.end x).place };
}

-- an end goes to another place where the pair is about it
moved : (f : Facts) (x : ℕ) (b : Bool) (p : Option Place) → (b ≡ true → GoesTo f x p (f.end x).closed) → GoesTo f x (cond b p (f.end x).place) (f.end x).closed
moved f x true p goes = goes refl
moved f x false p goes = stays refl refl

made_goes : (f : Facts) (e : EndId) (a : AgentId) (x : ℕ) → SoundPlaces f → (f.agent a.0).runs ≡ true → e ≡ record { 0 = f.ends } → GoesTo f x (cond (eqb x e.0) (Some (With a)) (f.end x).place) (f.end x).closed
made_goes f e a x h runs number = moved f x (eqb x e.0) (Some (With a)) (λ is. new a refl refl (unmade_one f e x h.ends number is) runs)

closing : (f : Facts) (x : ℕ) (b : Bool) → (b ≡ true → (is_here (f.end x).place ≡ true) × (is_released f.line (f.end x).kind ≡ true)) → GoesTo f x (cond b (Some Gone) (f.end x).place) (cond b true (f.end x).closed)
closing f x true may = shut refl refl (may refl).0 (may refl).1
closing f x false may = stays refl refl

pub goes_to : (f : Facts) (refused : Bool) → Sound f → (o : Outcome) (a : Action) → Answers f a refused o → (x : ℕ) → GoesTo f x (place_after x (λ y. (f.end y).place) o a) (closed_after x (f.end x).closed o a)
goes_to f refused h (outcome.Ends e e') (action.Channel a) fits x =
    let made = new_ends f a refused e e' fits in
    moved f x (eqb x e.0 || eqb x e'.0) (Some (With a)) (λ is. new a refl refl (unmade_end f e e' x h.places.ends made.1 made.2 is) made.0)
goes_to f refused h (outcome.End e) (action.Client a) fits x = let made = queue_made_of f Client a refused e fits in made_goes f e a x h.places made.runs made.number
goes_to f refused h (outcome.End e) (action.Worker a) fits x = let made = queue_made_of f Worker a refused e fits in made_goes f e a x h.places made.runs made.number
goes_to f refused h (outcome.End e) (action.Member a name) fits x = let made = member_made_of f a refused e fits in made_goes f e a x h.places made.runs made.number
goes_to f refused h (outcome.Accepted n) (action.Push s ports body) fits x =
    let p = pushed_of f s ports body refused n fits in
    moved f x (names ports x) (Some InFlight) (λ named. let may = travels f p.agent s x ports p.leave named in sent p.agent refl refl may.0 may.1)
goes_to f refused h (outcome.Got v) (action.Take e) fits x =
    let served = got_of f e v fits in
    let there = runs_there f (f.end e.0).place served.held in
    moved f x (names v.ports x) (arrived (f.end e.0).place (f.end x).place) (λ named.
    came there.0 (ap (λ p. arrived p (f.end x).place) there.1) refl (taken_flies f e v x h served.serves served.is_open (holder_made f e.0 h.places served.held) named) (h.places.with_made e.0 there.0 there.1))
goes_to f refused h (outcome.Adopted k) (action.Adopt e a) fits x =
    let adopts = adopted_of f e a refused k fits in
    moved f x (eqb x e.0) (Some (With a)) (λ is. taken_up a refl refl (ap (λ y. (f.end y).place) (eqb-true x e.0 is) ∙ adopts.arrived) adopts.runs)
goes_to f refused h outcome.Handed (action.Hand e b) fits x =
    let hands = handed_of f e b fits in
    let there = runs_there f (f.end e.0).place (ap is_some hands.holds) in
    moved f x (eqb x e.0) (Some (Arrived b)) (λ is. handed_on there.0 b refl refl (ap (λ y. (f.end y).place) (eqb-true x e.0 is) ∙ there.1) (ap (λ y. is_queue (f.end y).kind) (eqb-true x e.0 is) ∙ hands.queue) hands.known)
goes_to f refused h (outcome.Discarded vs) (action.Sweep e) fits x =
    moved f x (is_named vs x) (Some Swept) (λ named. dropped refl refl (swept_flies f e vs x h (swept_of f e vs fits) named))
goes_to f refused h outcome.Done (action.Close e) fits x =
    let closes = closed_of f e fits in
    closing f x (eqb x e.0) (λ is. (ap (λ y. is_here (f.end y).place) (eqb-true x e.0 is) ∙ closes.here, ap (λ y. is_released f.line (f.end y).kind) (eqb-true x e.0 is) ∙ closes.released))
goes_to f refused h o a fits x = stays refl refl

-- ==== Whoever is away at a line keeps it, and may enter there, after every pair that fits.

-- an end keeps its kind
pub kind_next : (f : Facts) (refused : Bool) (o : Outcome) (a : Action) → Answers f a refused o → (x : ℕ) → x < f.ends → kind_after x (f.end x).kind o a ≡ (f.end x).kind
kind_next f refused (outcome.Ends e e') (action.Channel a) fits x less =
    let made = new_ends f a refused e e' fits in
    let old = old_end f e e' x made.1 made.2 less in
    rw (old.0, old.1) refl
kind_next f refused (outcome.End e) (action.Client a) fits x less = rw (old_one f e x (queue_made_of f Client a refused e fits).number less) refl
kind_next f refused (outcome.End e) (action.Worker a) fits x less = rw (old_one f e x (queue_made_of f Worker a refused e fits).number less) refl
kind_next f refused (outcome.End e) (action.Member a name) fits x less = rw (old_one f e x (member_made_of f a refused e fits).number less) refl
kind_next f refused o a fits x less = refl

-- an agent whose poster is away runs on
runs_next : (f : Facts) (refused : Bool) (o : Outcome) (a : Action) → Answers f a refused o → (s : Sender) → s.end.0 < f.ends → s.line.0 < lines_of (f.end s.end.0).kind → is_out (phase_of_line f s) ≡ false
    → (b : AgentId) → ((c : AgentId) → b.0 ≡ c.0 → is_holder c (owner f s.end.0 s.line.0) ≡ true) → (f.agent b.0).runs ≡ true → runs_after b.0 (f.agent b.0).runs o a ≡ true
runs_next f refused (outcome.Agent n) (action.Agent origin) fits s made low away b owns runs = at_test (λ r. r ≡ true) (eqb b.0 n.0) true (f.agent b.0).runs (λ _. refl) (λ _. runs)
runs_next f refused (outcome.Ending es) (action.See a) fits s made low away b owns runs =
    at_test (λ r. r ≡ true) (eqb b.0 a.0) false (f.agent b.0).runs (λ same. absurd (false≢true (sym (none_away f a s.end.0 s.line.0 (see_of f a es fits) made low away) ∙ owns a (eqb-true b.0 a.0 same)))) (λ _. runs)
runs_next f refused o a fits s made low away b owns runs = runs

-- ---- ports

-- A port whose own poster is away stays where it can be closed: it is taken up at most.
port_stays : (f : Facts) (s : Sender) (q : ℕ) (p : Option Place) (c : Bool) → GoesTo f q p c → peer_of (f.end q).kind ≡ Some s.end.0 → s.line.0 ≡ 0 → is_out (phase_of_line f s) ≡ false → is_here (f.end q).place ≡ true → (p ≡ (f.end q).place) ⊎ ((a : AgentId) × ((f.end q).place ≡ Some (Arrived a)) × (p ≡ Some (With a)))
port_stays f s q p c (stays is _) back line away here = inl is
port_stays f s q p c (new a is _ none runs) back line away here = absurd (false≢true (sym (ap (λ (d : EndNow). is_here d.place) none) ∙ here))
port_stays f s q p c (sent a is _ at out) back line away here = absurd (false≢true (sym away ∙ zeroth_out f s line (free_port_out f (peer_of (f.end q).kind) s.end.0 back out)))
port_stays f s q p c (came a is _ flew known) back line away here = absurd (not_here (f.end q).place flew here)
port_stays f s q p c (taken_up a is _ at runs) back line away here = inr (a, at, is)
port_stays f s q p c (handed_on a b is _ at queue known) back line away here = absurd (no_port (f.end q).kind s.end.0 queue back)
port_stays f s q p c (dropped is _ flew) back line away here = absurd (not_here (f.end q).place flew here)
port_stays f s q p c (shut is _ _ free) back line away here = absurd (false≢true (sym away ∙ zeroth_out f s line (released_out f (f.end q).kind s.end.0 back free)))

module _ (f : Facts) (refused : Bool) (h : Sound f) (o : Outcome) (a : Action) (fits : Answers f a refused o) (s : Sender) (away : is_out (phase_of_line f s) ≡ false) where
  peer_stays : (q : ℕ) → peer_of (f.end s.end.0).kind ≡ Some q → s.line.0 ≡ 0 → is_here (f.end q).place ≡ true → (((next f a o).end q).place ≡ (f.end q).place) ⊎ ((b : AgentId) × ((f.end q).place ≡ Some (Arrived b)) × (((next f a o).end q).place ≡ Some (With b)))
  peer_stays q entangled line here = port_stays f s q _ _ (goes_to f refused h o a fits q) (h.places.peers s.end.0 q entangled).1 line away here

  still_entangled : (q : ℕ) → peer_of (f.end s.end.0).kind ≡ Some q → peer_of ((next f a o).end s.end.0).kind ≡ Some q
  still_entangled q entangled = ap peer_of (kind_next f refused o a fits s.end.0 (entangled_made f s.end.0 q h.places entangled)) ∙ entangled

  low : s.line.0 < lines_of (f.end s.end.0).kind
  low = line_there f s (h.lines s.end.0) (h.places.away s away)

  -- the poster of a port's line that is away stays
  port_speaker_next : Speaks f s → poster (next f a o) s ≡ poster f s
  port_speaker_next k =
      let has : ((next f a o).end k.peer).place ≡ Some (With k.agent) = elim (peer_stays k.peer k.entangled k.line (ap is_here k.has)) [
        | inl same ↦ same ∙ k.has
        | inr up ↦ absurd (search (rules, sym k.has ∙ up.1))
      ] in
      let runs = runs_next f refused o a fits s (entangled_made f s.end.0 k.peer h.places k.entangled) low away k.agent (λ c same. port_owned f c s k same) k.runs in
      poster_as (next f a o) s k.peer k.agent k.line (still_entangled k.peer k.entangled) has runs ∙ sym (poster_as f s k.peer k.agent k.line k.entangled k.has k.runs)

  -- and such a line may be entered
  port_may_next : Hears f s → may_enter (next f a o) s ≡ true
  port_may_next k = may_as (next f a o) s k.peer k.line (still_entangled k.peer k.entangled) (elim (peer_stays k.peer k.entangled k.line k.here) [
    | inl same ↦ ap is_here same ∙ k.here
    | inr up ↦ ap is_here up.2
  ])

-- ---- queues

-- a line of a queue that is away stays held
held_stays : (f : Facts) (refused : Bool) (o : Outcome) (a : Action) → Answers f a refused o → (s : Sender) → is_out (phase_of_line f s) ≡ false → (b : AgentId) → (f.line s.end.0 s.line.0).held_by ≡ Some b → held_after s.end.0 s.line.0 (f.line s.end.0 s.line.0).held_by o a ≡ Some b
held_stays f refused (outcome.Line l) (action.Line e a) fits s away b held =
    let gets = line_got_of f e a l fits in
    still_held f s (record { end = e; line = l }) (Some a) b held (λ same. absurd (search (rules, sym held ∙ (ap (λ (t : Sender). (f.line t.end.0 t.line.0).held_by) same ∙ gets.free))))
held_stays f refused outcome.Done (action.Back t) fits s away b held =
    let back = back_of f t fits in
    still_held f s t None b held (λ same. absurd (false≢true (sym away ∙ (ap (λ (u : Sender). is_out (phase_of_line f u)) same ∙ back.1))))
held_stays f refused o a fits s away b held = held

-- so the same agent holds it
held_next : (f : Facts) (refused : Bool) → Sound f → (o : Outcome) (a : Action) → Answers f a refused o → (s : Sender) → is_out (phase_of_line f s) ≡ false → (k : HoldsLine f s) → (j : HoldsLine (next f a o) s) × (j.agent ≡ k.agent)
held_next f refused h o a fits s away k =
    let made = queue_is_made f s.end.0 h.places k.queue in
    let low = line_there f s (h.lines s.end.0) (h.places.away s away) in (
      record {
        queue = ap is_queue (kind_next f refused o a fits s.end.0 made) ∙ k.queue;
        agent = k.agent;
        held = held_stays f refused o a fits s away k.agent k.held;
        runs = runs_next f refused o a fits s made low away k.agent (λ c same. line_owned f c s (f.end s.end.0).kind k.queue k.agent k.held same) k.runs;
      },
      refl,
    )

-- ---- broadcast channels

-- a cast stays until the poster of the first line leaves
cast_stays : (f : Facts) (refused : Bool) → Sound f → (o : Outcome) (a : Action) → Answers f a refused o → (s : Sender) → is_out (phase_of_line (next f a o) s) ≡ false → (b : AgentId) (k : Casts f s b) → (roster_after f.roster o a).cast ≡ Some k.cast
cast_stays f refused h (outcome.Destinations ends) (action.Cast e ports body) fits s after b k = absurd (false≢true (sym (cast_of f e ports ends fits).over ∙ ap is_some k.is_open))
cast_stays f refused h outcome.Left (action.Leave t) fits s after b k =
    ap (cast_after t.end.0) k.is_open ∙ ap (λ c. cond c (cast_to k.cast.source k.cast.body (drop 1 k.cast.left)) (Some k.cast)) (not_first t.end.0 s.end.0 k.cast.left k.first (left_other f t s b h (left_of f t fits) k after))
cast_stays f refused h (outcome.Agent n) (action.Agent origin) fits s after b k = k.is_open
cast_stays f refused h (outcome.End e) (action.Member a name) fits s after b k = k.is_open
cast_stays f refused h outcome.Done (action.Part e) fits s after b k = k.is_open
cast_stays f refused h o a fits s after b k = k.is_open

cast_next : (f : Facts) (refused : Bool) → Sound f → (o : Outcome) (a : Action) → Answers f a refused o → (s : Sender) → is_out (phase_of_line (next f a o) s) ≡ false → (b : AgentId) → Casts f s b → Casts (next f a o) s b
cast_next f refused h o a fits s after b k = record {
  line = k.line;
  maker = k.maker;
  member = kind_next f refused o a fits s.end.0 (kind_made f s.end.0 (Member k.maker) h.places k.member) ∙ k.member;
  cast = k.cast;
  is_open = cast_stays f refused h o a fits s after b k;
  first = k.first;
  source = kind_next f refused o a fits k.cast.source.0 (kind_made f k.cast.source.0 (Member b) h.places k.source) ∙ k.source;
}

-- ---- all lines

-- the poster of a line that is away is the same after every pair that fits
pub speaker_next : (f : Facts) (refused : Bool) → Sound f → (o : Outcome) (a : Action) → Answers f a refused o → (s : Sender) → is_out (phase_of_line f s) ≡ false → is_out (phase_of_line (next f a o) s) ≡ false → is_some (poster f s) ≡ true → poster (next f a o) s ≡ poster f s
speaker_next f refused h o a fits s away after speaks = elim (speaks_of f s speaks) [
  | inl k ↦ port_speaker_next f refused h o a fits s away k
  | inr (inl k) ↦ let still = held_next f refused h o a fits s away k in holds_as (next f a o) s still.0 ∙ (ap Some still.1 ∙ sym (holds_as f s k))
  | inr (inr (b, k)) ↦ casts_as (next f a o) s b (cast_next f refused h o a fits s after b k) ∙ sym (casts_as f s b k)
]

-- and such a line may be entered
pub may_next : (f : Facts) (refused : Bool) → Sound f → (o : Outcome) (a : Action) → Answers f a refused o → (s : Sender) → is_out (phase_of_line f s) ≡ false → is_out (phase_of_line (next f a o) s) ≡ false → may_enter f s ≡ true → may_enter (next f a o) s ≡ true
may_next f refused h o a fits s away after may = elim (hears_of f s may) [
  | inl k ↦ port_may_next f refused h o a fits s away k
  | inr (inl k) ↦ ap (λ q. is_some q || port_place_allows_notice (next f a o) s) (holds_as (next f a o) s (held_next f refused h o a fits s away k).0)
  | inr (inr (b, k)) ↦ ap (λ q. is_some q || port_place_allows_notice (next f a o) s) (casts_as (next f a o) s b (cast_next f refused h o a fits s after b k))
]

-- ==== Places stay sound.

-- ---- who is away after a pair

-- after an Enter
away_entered : (f : Facts) (s t : Sender) (p : Phase) → SoundPlaces f → may_enter f t ≡ true → (b : Bool) → (eqb s.end.0 t.end.0 && eqb s.line.0 t.line.0) ≡ b → is_out (cond b p (f.line s.end.0 s.line.0).phase) ≡ false → may_enter f s ≡ true
away_entered f s t p h may true is away =
    let both = and_parts (eqb s.end.0 t.end.0) (eqb s.line.0 t.line.0) is in
    subst (λ u. may_enter f u ≡ true) (sym (same_sender s t (eqb-true s.end.0 t.end.0 both.0) (eqb-true s.line.0 t.line.0 both.1))) may
away_entered f s t p h may false is away = h.away s away

-- ---- flights

put_flights : (f : Facts) (s : Sender) (v : Envelope) (x : ℕ) → SoundPlaces f → s.end.0 < f.ends → (b : Bool) → names v.ports x ≡ b → (b ≡ true → flights (f.end x).place ≡ 0) → total (λ e. naming x (cond (eqb e s.end.0) (f.accepted e ++ v ∷ []) (f.accepted e))) f.ends ≡ total (λ e. naming x (f.taken e ++ f.discarded e)) f.ends + flights (cond b (Some InFlight) (f.end x).place)
put_flights f s v x h made b is landed =
    let P : Envelope → Bool = λ u. names u.ports x in
    let u : ℕ → ℕ = λ e. naming x (cond (eqb e s.end.0) (f.accepted e ++ v ∷ []) (f.accepted e)) in
    let w : ℕ → ℕ = λ e. naming x (f.accepted e) in
    let here : u s.end.0 ≡ w s.end.0 + bit b = ap (λ c. naming x (cond c (f.accepted s.end.0 ++ v ∷ []) (f.accepted s.end.0))) (eqb_same s.end.0) ∙ count_more P (f.accepted s.end.0) v ∙ ap (λ c. w s.end.0 + bit c) is in
    let grows : total u f.ends ≡ total w f.ends + bit b = total_more w u f.ends s.end.0 (bit b) made here (λ d other. ap (λ c. naming x (cond c (f.accepted d ++ v ∷ []) (f.accepted d))) (ne_eqb d s.end.0 other)) in
    let before : total w f.ends ≡ total (λ e. naming x (f.taken e ++ f.discarded e)) f.ends + flights (f.end x).place = h.flights x in
    let more : flights (cond b (Some InFlight) (f.end x).place) ≡ flights (f.end x).place + bit b = elim b as (λ c. (c ≡ true → flights (f.end x).place ≡ 0) → flights (cond c (Some InFlight) (f.end x).place) ≡ flights (f.end x).place + bit c) [
      | true ↦ λ none. let zeroth : flights (f.end x).place ≡ 0 = none refl in omega arith
      | false ↦ λ none. omega arith
    ] landed in
    omega arith

got_flights : (f : Facts) (e : EndId) (v : Envelope) (x : ℕ) (a : AgentId) → Sound f → IsNext f e v → (f.end e.0).closed ≡ false → e.0 < f.ends → (f.end e.0).place ≡ Some (With a) → (b : Bool) → names v.ports x ≡ b → total (λ d. naming x (f.accepted d)) f.ends ≡ total (λ d. naming x (cond (eqb d e.0) (f.taken d ++ v ∷ []) (f.taken d) ++ f.discarded d)) f.ends + flights (cond b (arrived (f.end e.0).place (f.end x).place) (f.end x).place)
got_flights f e v x a h n opened made has b is =
    let P : Envelope → Bool = λ u. names u.ports x in
    let u : ℕ → ℕ = λ d. naming x (cond (eqb d e.0) (f.taken d ++ v ∷ []) (f.taken d) ++ f.discarded d) in
    let w : ℕ → ℕ = λ d. naming x (f.taken d ++ f.discarded d) in
    let here : u e.0 ≡ w e.0 + bit b = ap (λ c. naming x (cond c (f.taken e.0 ++ v ∷ []) (f.taken e.0) ++ f.discarded e.0)) (eqb_same e.0) ∙ count_between P (f.taken e.0) (f.discarded e.0) v ∙ ap (λ c. w e.0 + bit c) is in
    let grows : total u f.ends ≡ total w f.ends + bit b = total_more w u f.ends e.0 (bit b) made here (λ d other. ap (λ c. naming x (cond c (f.taken d ++ v ∷ []) (f.taken d) ++ f.discarded d)) (ne_eqb d e.0 other)) in
    let before : total (λ d. naming x (f.accepted d)) f.ends ≡ total w f.ends + flights (f.end x).place = h.places.flights x in
    let fewer : flights (f.end x).place ≡ bit b + flights (cond b (arrived (f.end e.0).place (f.end x).place) (f.end x).place) = elim b as (λ c. names v.ports x ≡ c → flights (f.end x).place ≡ bit c + flights (cond c (arrived (f.end e.0).place (f.end x).place) (f.end x).place)) [
      | true ↦ λ t.
          let one : flights (f.end x).place ≡ 1 = ap flights (taken_flies f e v x h n opened made t) in
          let none : flights (arrived (f.end e.0).place (f.end x).place) ≡ 0 = ap (λ p. flights (arrived p (f.end x).place)) has in
          omega arith
      | false ↦ λ t. omega arith
    ] is in
    omega arith

swept_flights : (f : Facts) (e : EndId) (vs : List Envelope) (x : ℕ) → Sound f → SweptWith f e vs → e.0 < f.ends → (b : Bool) → is_named vs x ≡ b → total (λ d. naming x (f.accepted d)) f.ends ≡ total (λ d. naming x (f.taken d ++ cond (eqb d e.0) (f.discarded d ++ vs) (f.discarded d))) f.ends + flights (cond b (Some Swept) (f.end x).place)
swept_flights f e vs x h w made true named =
    let one : 1 ≤ naming x vs = named_count x vs named in
    let within : naming x vs ≤ flights (f.end x).place = swept_within f e vs x h w in
    let was : flights (f.end x).place ≡ 1 = ap flights (swept_flies f e vs x h w named) in
    let grows : total (λ d. naming x (f.taken d ++ cond (eqb d e.0) (f.discarded d ++ vs) (f.discarded d))) f.ends ≡ total (λ d. naming x (f.taken d ++ f.discarded d)) f.ends + naming x vs = swept_total f e vs x made in
    let before : total (λ d. naming x (f.accepted d)) f.ends ≡ total (λ d. naming x (f.taken d ++ f.discarded d)) f.ends + flights (f.end x).place = h.places.flights x in
    omega arith
swept_flights f e vs x h w made false named =
    let none : naming x vs ≡ 0 = unnamed_count x vs named in
    let grows : total (λ d. naming x (f.taken d ++ cond (eqb d e.0) (f.discarded d ++ vs) (f.discarded d))) f.ends ≡ total (λ d. naming x (f.taken d ++ f.discarded d)) f.ends + naming x vs = swept_total f e vs x made in
    let before : total (λ d. naming x (f.accepted d)) f.ends ≡ total (λ d. naming x (f.taken d ++ f.discarded d)) f.ends + flights (f.end x).place = h.places.flights x in
    omega arith

-- ---- sums over more ends

-- nothing was accepted at ends that are not made yet
more_flights : (f : Facts) (x k : ℕ) → Sound f → total (λ e. naming x (f.accepted e)) (f.ends + k) ≡ total (λ e. naming x (f.taken e ++ f.discarded e)) (f.ends + k) + flights (f.end x).place
more_flights f x k h =
    let w : ℕ → ℕ = λ d. naming x (f.accepted d) in
    let u : ℕ → ℕ = λ d. naming x (f.taken d ++ f.discarded d) in
    let none_at : (y : ℕ) → f.ends ≤ y → (f.accepted y ≡ []) × (f.taken y ++ f.discarded y ≡ []) = λ y past.
    let nothing = nothing_accepted f y (h.lines y) (h.places.ends y past) in (nothing, nothing_removed f y (h.waiting y) nothing)
    in
    let accepted : total w (f.ends + k) ≡ total w f.ends = total_past w f.ends k (λ i past. ap (naming x) (none_at i past).0) in
    let taken : total u (f.ends + k) ≡ total u f.ends = total_past u f.ends k (λ i past. ap (naming x) (none_at i past).1) in
    let before : total w f.ends ≡ total u f.ends + flights (f.end x).place = h.places.flights x in
    omega arith

-- ---- places that are not in flight

no_flight : (p : Option Place) → is_here p ≡ true → flights p ≡ 0
no_flight (Some InFlight) h = absurd (false≢true h)
no_flight _ h = refl

same_flights : (b : Bool) (q p : Option Place) → flights q ≡ 0 → (b ≡ true → flights p ≡ 0) → flights (cond b q p) ≡ flights p
same_flights b q p none landed = at_test (λ r. flights r ≡ flights p) b q p (λ is. none ∙ sym (landed is)) (λ _. refl)

-- one end goes from a place that is no flight to another
placed_flights : (f : Facts) (x e : ℕ) (q : Option Place) → SoundPlaces f → flights q ≡ 0 → flights (f.end e).place ≡ 0 → total (λ d. naming x (f.accepted d)) f.ends ≡ total (λ d. naming x (f.taken d ++ f.discarded d)) f.ends + flights (cond (eqb x e) q (f.end x).place)
placed_flights f x e q h none landed =
    h.flights x ∙ ap (λ n. total (λ d. naming x (f.taken d ++ f.discarded d)) f.ends + n) (sym (same_flights (eqb x e) q (f.end x).place none (λ is. ap (λ y. flights (f.end y).place) (eqb-true x e is) ∙ landed)))

-- an end is made
made_flights : (f : Facts) (x k : ℕ) (b : Bool) (a : AgentId) → Sound f → (b ≡ true → f.end x ≡ no_end) → total (λ d. naming x (f.accepted d)) (f.ends + k) ≡ total (λ d. naming x (f.taken d ++ f.discarded d)) (f.ends + k) + flights (cond b (Some (With a)) (f.end x).place)
made_flights f x k b a h unmade =
    more_flights f x k h ∙ ap (λ n. total (λ d. naming x (f.taken d ++ f.discarded d)) (f.ends + k) + n) (sym (same_flights b (Some (With a)) (f.end x).place refl (λ is. ap (λ (d : EndNow). flights d.place) (unmade is))))

-- a number that no end has stands for nothing when an end changes
none_else : (f : Facts) (e x : ℕ) (y : Bool → EndNow) → e < f.ends → f.ends ≤ x → y false ≡ no_end → y (eqb x e) ≡ no_end
none_else f e x y less past none = ap y (ne_eqb x e (λ same. omega arith)) ∙ none

moved_none : (f : Facts) (x : ℕ) (b : Bool) (p : Option Place) → f.end x ≡ no_end → (b ≡ true → ⊥) → (let y : EndNow = record (f.end x) { place = cond b p (f.end x).place } in y ≡ no_end)
moved_none f x true p none never = absurd (never refl)
moved_none f x false p none never = none

none_with : (f : Facts) (x : ℕ) (p : Place) → f.end x ≡ no_end → (f.end x).place ≡ Some p → ⊥
none_with f x p none is = absurd (search (rules, sym (ap (λ (e : EndNow). e.place) none) ∙ is))

posted_made : (f : Facts) (s : Sender) → SoundPlaces f → Speaks f s ⊎ (HoldsLine f s ⊎ SomeCasts f s) → s.end.0 < f.ends
posted_made f s h (inl k) = entangled_made f s.end.0 k.peer h k.entangled
posted_made f s h (inr (inl k)) = queue_is_made f s.end.0 h k.queue
posted_made f s h (inr (inr k)) = made_of f s.end.0 h.ends (λ none. absurd (search (rules, sym (ap (λ (d : EndNow). d.kind) none) ∙ k.1.member)))

pub some_own : (f : Facts) (q : Option ℕ) → is_free f.line q ≡ true → is_some q ≡ true
some_own f (Some q) h = refl
some_own f None h = absurd (false≢true h)

-- ---- ends that are made

peers_channel : (f : Facts) (e e' : EndId) → SoundPlaces f → e ≡ record { 0 = f.ends } → e' ≡ record { 0 = f.ends + 1 } → (x y : ℕ) → (b c : Bool) → eqb x e.0 ≡ b → eqb x e'.0 ≡ c → peer_of (cond b (Some (Port e')) (cond c (Some (Port e)) (f.end x).kind)) ≡ Some y → (y < f.ends + 2) × (peer_of (cond (eqb y e.0) (Some (Port e')) (cond (eqb y e'.0) (Some (Port e)) (f.end y).kind)) ≡ Some x)
peers_channel f e e' h first second x y true c is other at =
    let n : e.0 ≡ f.ends = ap (λ (d : EndId). d.0) first in
    let m : e'.0 ≡ f.ends + 1 = ap (λ (d : EndId). d.0) second in
    let target : e'.0 ≡ y = cc in
    let here : x ≡ e.0 = eqb-true x e.0 is in
    let away : eqb y e.0 ≡ false = ne_eqb y e.0 (λ same. omega arith) in
    let mine : eqb y e'.0 ≡ true = ap (eqb y) target ∙ eqb_same y in
    (omega arith, rw (away, mine) (ap Some (sym here)))
peers_channel f e e' h first second x y false true is other at =
    let n : e.0 ≡ f.ends = ap (λ (d : EndId). d.0) first in
    let target : e.0 ≡ y = cc in
    let here : x ≡ e'.0 = eqb-true x e'.0 other in
    let mine : eqb y e.0 ≡ true = ap (eqb y) target ∙ eqb_same y in
    (omega arith, rw mine (ap Some (sym here)))
peers_channel f e e' h first second x y false false is other at =
    let old = h.peers x y at in
    let less : y < f.ends = old.0 in
    let away = old_end f e e' y first second less in
    (omega arith, rw (away.0, away.1) old.1)

ends_channel : (f : Facts) (b : AgentId) (e e' : EndId) (x : ℕ) → SoundPlaces f → e ≡ record { 0 = f.ends } → e' ≡ record { 0 = f.ends + 1 } → f.ends + 2 ≤ x → (next f (action.Channel b) (outcome.Ends e e')).end x ≡ no_end
ends_channel f b e e' x h first second past =
    let n : e.0 ≡ f.ends = ap (λ (d : EndId). d.0) first in
    let m : e'.0 ≡ f.ends + 1 = ap (λ (d : EndId). d.0) second in
    let one : eqb x e.0 ≡ false = ne_eqb x e.0 (λ same. omega arith) in
    let two : eqb x e'.0 ≡ false = ne_eqb x e'.0 (λ same. omega arith) in
    rw (one, two) (h.ends x (omega arith))

one_none : (f : Facts) (b : AgentId) (k : Kind) (e : EndId) (x : ℕ) → SoundPlaces f → e ≡ record { 0 = f.ends } → f.ends + 1 ≤ x → (one_made f b k e).end x ≡ no_end
one_none f b k e x h first past =
    let n : e.0 ≡ f.ends = ap (λ (d : EndId). d.0) first in
    let other : eqb x e.0 ≡ false = ne_eqb x e.0 (λ same. omega arith) in
    rw other (h.ends x (omega arith))

one_peers : (f : Facts) (b : AgentId) (k : Kind) (e : EndId) → SoundPlaces f → peer_of (Some k) ≡ None → e ≡ record { 0 = f.ends } → (x y : ℕ) → (c : Bool) → eqb x e.0 ≡ c → peer_of (cond c (Some k) (f.end x).kind) ≡ Some y → (y < f.ends + 1) × (peer_of (cond (eqb y e.0) (Some k) (f.end y).kind) ≡ Some x)
one_peers f b k e h alone first x y true is at = absurd (search (rules, sym alone ∙ at))
one_peers f b k e h alone first x y false is at =
    let old = h.peers x y at in
    let less : y < f.ends = old.0 in
    (omega arith, rw (old_one f e y first less) old.1)

-- ---- each part, after every pair that fits

few_next : (f : Facts) (refused : Bool) (o : Outcome) (a : Action) → Answers f a refused o → f.ends ≤ MAX_ENDS → ends_after f.ends o a ≤ MAX_ENDS
few_next f refused (outcome.Ends e e') (action.Channel a) fits few = (new_ends f a refused e e' fits).3
few_next f refused (outcome.End e) (action.Client a) fits few = (queue_made_of f Client a refused e fits).few
few_next f refused (outcome.End e) (action.Worker a) fits few = (queue_made_of f Worker a refused e fits).few
few_next f refused (outcome.End e) (action.Member a name) fits few = (member_made_of f a refused e fits).few
few_next f refused o a fits few = few

agents_more : (n : ℕ) (o : Outcome) (a : Action) → n ≤ agents_after n o a
agents_more n (outcome.Agent b) (action.Agent origin) = omega arith
agents_more n o a = omega arith

agents_next : (f : Facts) (refused : Bool) → SoundPlaces f → (o : Outcome) (a : Action) → Answers f a refused o → (x : ℕ) → agents_after f.agents o a ≤ x → runs_after x (f.agent x).runs o a ≡ false
agents_next f refused h (outcome.Agent n) (action.Agent origin) fits x past =
    let number : n.0 ≡ f.agents = new_agent f refused n fits in
    ap (λ b. cond b true (f.agent x).runs) (ne_eqb x n.0 (λ same. omega arith)) ∙ h.agents x (omega arith)
agents_next f refused h (outcome.Ending es) (action.See a) fits x past = at_test (λ r. r ≡ false) (eqb x a.0) false (f.agent x).runs (λ _. refl) (λ _. h.agents x past)
agents_next f refused h o a fits x past = h.agents x past

peers_next : (f : Facts) (refused : Bool) → SoundPlaces f → (o : Outcome) (a : Action) → Answers f a refused o → (x y : ℕ) → peer_of (kind_after x (f.end x).kind o a) ≡ Some y → (y < ends_after f.ends o a) × (peer_of (kind_after y (f.end y).kind o a) ≡ Some x)
peers_next f refused h (outcome.Ends e e') (action.Channel a) fits x y is = let made = new_ends f a refused e e' fits in peers_channel f e e' h made.1 made.2 x y (eqb x e.0) (eqb x e'.0) refl refl is
peers_next f refused h (outcome.End e) (action.Client a) fits x y is = one_peers f a Client e h refl (queue_made_of f Client a refused e fits).number x y (eqb x e.0) refl is
peers_next f refused h (outcome.End e) (action.Worker a) fits x y is = one_peers f a Worker e h refl (queue_made_of f Worker a refused e fits).number x y (eqb x e.0) refl is
peers_next f refused h (outcome.End e) (action.Member a name) fits x y is = one_peers f a (Member a) e h refl (member_made_of f a refused e fits).number x y (eqb x e.0) refl is
peers_next f refused h o a fits x y is = h.peers x y is

none_next : (f : Facts) (refused : Bool) → Sound f → (o : Outcome) (a : Action) → Answers f a refused o → (x : ℕ) → ends_after f.ends o a ≤ x → (next f a o).end x ≡ no_end
none_next f refused h (outcome.Ends e e') (action.Channel a) fits x past = let made = new_ends f a refused e e' fits in ends_channel f a e e' x h.places made.1 made.2 past
none_next f refused h (outcome.End e) (action.Client a) fits x past = one_none f a Client e x h.places (queue_made_of f Client a refused e fits).number past
none_next f refused h (outcome.End e) (action.Worker a) fits x past = one_none f a Worker e x h.places (queue_made_of f Worker a refused e fits).number past
none_next f refused h (outcome.End e) (action.Member a name) fits x past = one_none f a (Member a) e x h.places (member_made_of f a refused e fits).number past
none_next f refused h (outcome.Accepted n) (action.Push s ports body) fits x past =
    let p = pushed_of f s ports body refused n fits in
    let none = h.places.ends x past in
    moved_none f x (names ports x) (Some InFlight) none (λ named. none_with f x (With p.agent) none (travels f p.agent s x ports p.leave named).0)
none_next f refused h (outcome.Got v) (action.Take e) fits x past =
    let served = got_of f e v fits in
    let none = h.places.ends x past in
    moved_none f x (names v.ports x) (arrived (f.end e.0).place (f.end x).place) none (λ named. none_with f x InFlight none (taken_flies f e v x h served.serves served.is_open (holder_made f e.0 h.places served.held) named))
none_next f refused h (outcome.Discarded vs) (action.Sweep e) fits x past =
    let none = h.places.ends x past in
    moved_none f x (is_named vs x) (Some Swept) none (λ named. none_with f x InFlight none (swept_flies f e vs x h (swept_of f e vs fits) named))
none_next f refused h outcome.Started (action.Start e) fits x past =
    none_else f e.0 x (λ b. record (f.end x) { enabled = cond b true (f.end x).enabled }) (holder_made f e.0 h.places (started_of f e fits).1) past (h.places.ends x past)
none_next f refused h outcome.Again (action.Take e) fits x past =
    none_else f e.0 x (λ b. record (f.end x) { taker_stand = cond b ((f.end x).taker_stand + 1) (f.end x).taker_stand }) (holder_made f e.0 h.places (went_on_of f e fits).held) past (h.places.ends x past)
none_next f refused h (outcome.Adopted k) (action.Adopt e a) fits x past =
    none_else f e.0 x (λ b. record (f.end x) { place = cond b (Some (With a)) (f.end x).place; enabled = cond b false (f.end x).enabled; newest = cond b ((f.end x).newest + 1) (f.end x).newest })
    (placed_made f e.0 (Arrived a) h.places (adopted_of f e a refused k fits).arrived) past (h.places.ends x past)
none_next f refused h outcome.Handed (action.Hand e b) fits x past =
    none_else f e.0 x (λ c. record (f.end x) { place = cond c (Some (Arrived b)) (f.end x).place }) (queue_is_made f e.0 h.places (handed_of f e b fits).queue) past (h.places.ends x past)
none_next f refused h outcome.Done (action.Close e) fits x past =
    none_else f e.0 x (λ b. record (f.end x) { closed = cond b true (f.end x).closed; place = cond b (Some Gone) (f.end x).place }) (made_of f e.0 h.places.ends (λ none. false≢true (sym (ap (λ (d : EndNow). is_here d.place) none) ∙ (closed_of f e fits).here))) past (h.places.ends x past)
none_next f refused h o a fits x past = h.places.ends x past

-- what holds of an end at this place: the agent was made; and what is in flight is a port that was made
abbrev Lands : Facts → ℕ → Option Place → Type 0
Lands f x (Some (With a)) = a.0 < f.agents
Lands f x (Some (Arrived a)) = a.0 < f.agents
Lands f x (Some InFlight) = (x < f.ends) × (is_some (peer_of (f.end x).kind) ≡ true)
Lands f x _ = Unit {0}

landed_at : (f : Facts) (x : ℕ) → SoundPlaces f → (p : Option Place) → (f.end x).place ≡ p → Lands f x p
landed_at f x h (Some (With a)) is = h.with_made x a is
landed_at f x h (Some (Arrived a)) is = h.arrived_made x a is
landed_at f x h (Some InFlight) is = (placed_made f x InFlight h is, h.flying x is)
landed_at f x h _ is = tt

lands : (f : Facts) (x : ℕ) (p : Option Place) (c : Bool) → SoundPlaces f → GoesTo f x p c → Lands f x p
lands f x p c h (stays is _) = landed_at f x h p (sym is)
lands f x p c h (new b is _ none runs) = subst (Lands f x) (sym is) (running_made f b h runs)
lands f x p c h (sent b is _ was out) = subst (Lands f x) (sym is) (placed_made f x (With b) h was, some_own f (peer_of (f.end x).kind) out)
lands f x p c h (came b is _ was made) = subst (Lands f x) (sym is) made
lands f x p c h (taken_up b is _ was runs) = subst (Lands f x) (sym is) (running_made f b h runs)
lands f x p c h (handed_on b d is _ was queue made) = subst (Lands f x) (sym is) made
lands f x p c h (dropped is _ was) = subst (Lands f x) (sym is) tt
lands f x p c h (shut is _ here free) = subst (Lands f x) (sym is) tt

gone_next : (f : Facts) (x : ℕ) (p : Option Place) (c : Bool) → SoundPlaces f → GoesTo f x p c → c ≡ is_gone p
gone_next f x p c h (stays is same) = same ∙ h.gone x ∙ sym (ap is_gone is)
gone_next f x p c h (new b is same none runs) = same ∙ ap (λ (d : EndNow). d.closed) none ∙ sym (ap is_gone is)
gone_next f x p c h (sent b is same was out) = same ∙ h.gone x ∙ ap is_gone was ∙ sym (ap is_gone is)
gone_next f x p c h (came b is same was there) = same ∙ h.gone x ∙ ap is_gone was ∙ sym (ap is_gone is)
gone_next f x p c h (taken_up b is same was runs) = same ∙ h.gone x ∙ ap is_gone was ∙ sym (ap is_gone is)
gone_next f x p c h (handed_on b d is same was queue there) = same ∙ h.gone x ∙ ap is_gone was ∙ sym (ap is_gone is)
gone_next f x p c h (dropped is same was) = same ∙ h.gone x ∙ ap is_gone was ∙ sym (ap is_gone is)
gone_next f x p c h (shut is same here free) = same ∙ sym (ap is_gone is)

away_next : (f : Facts) (refused : Bool) → Sound f → (o : Outcome) (a : Action) → Answers f a refused o → (s : Sender) → is_out (phase_of_line (next f a o) s) ≡ false → may_enter (next f a o) s ≡ true
away_next f refused h outcome.In (action.Enter t) fits s away = away_entered f s t Inside h.places (let_in_of f t fits).0.may (eqb s.end.0 t.end.0 && eqb s.line.0 t.line.0) refl away
away_next f refused h outcome.Moved (action.Enter t) fits s away = away_entered f s t Turned h.places (found_moved_of f t fits).0.may (eqb s.end.0 t.end.0 && eqb s.line.0 t.line.0) refl away
away_next f refused h outcome.Closed (action.Enter t) fits s away = away_entered f s t Turned h.places (found_closed_of f t fits).0.may (eqb s.end.0 t.end.0 && eqb s.line.0 t.line.0) refl away
away_next f refused h outcome.Left (action.Leave t) fits s away =
    let before : is_out (phase_of_line f s) ≡ false = at_test (λ p. is_out p ≡ false → is_out (phase_of_line f s) ≡ false) (eqb s.end.0 t.end.0 && eqb s.line.0 t.line.0) Out (phase_of_line f s) (λ _ no. absurd (false≢true (sym no))) (λ _ still. still) away in
    may_next f refused h outcome.Left (action.Leave t) fits s before away (h.places.away s before)
away_next f refused h o a fits s away = may_next f refused h o a fits s away away (h.places.away s away)

flights_next : (f : Facts) (refused : Bool) → Sound f → (o : Outcome) (a : Action) → Answers f a refused o → (x : ℕ) → (let g : Facts = next f a o in total (λ d. naming x (g.accepted d)) g.ends ≡ total (λ d. naming x (g.taken d ++ g.discarded d)) g.ends + flights (g.end x).place)
flights_next f refused h (outcome.Ends e e') (action.Channel a) fits x = let made = new_ends f a refused e e' fits in made_flights f x 2 (eqb x e.0 || eqb x e'.0) a h (unmade_end f e e' x h.places.ends made.1 made.2)
flights_next f refused h (outcome.End e) (action.Client a) fits x = made_flights f x 1 (eqb x e.0) a h (unmade_one f e x h.places.ends (queue_made_of f Client a refused e fits).number)
flights_next f refused h (outcome.End e) (action.Worker a) fits x = made_flights f x 1 (eqb x e.0) a h (unmade_one f e x h.places.ends (queue_made_of f Worker a refused e fits).number)
flights_next f refused h (outcome.End e) (action.Member a name) fits x = made_flights f x 1 (eqb x e.0) a h (unmade_one f e x h.places.ends (member_made_of f a refused e fits).number)
flights_next f refused h (outcome.Accepted n) (action.Push s ports body) fits x =
    let p = pushed_of f s ports body refused n fits in
    put_flights f s (named_envelope s n body ports) x h.places (posted_made f s h.places (speaks_of f s (ap is_some p.speaks))) (names ports x) refl (λ named. ap flights (travels f p.agent s x ports p.leave named).0)
flights_next f refused h (outcome.Accepted n) (action.Notice s) fits x =
    let k = heard_of f s (noticed_of f s refused n fits).hears in
    put_flights f s (named_notice s n) x h.places (entangled_made f s.end.0 k.peer h.places k.entangled) false refl (λ is. absurd (false≢true is))
flights_next f refused h (outcome.Got v) (action.Take e) fits x =
    let served = got_of f e v fits in
    let there = runs_there f (f.end e.0).place served.held in
    got_flights f e v x there.0 h served.serves served.is_open (holder_made f e.0 h.places served.held) there.1 (names v.ports x) refl
flights_next f refused h (outcome.Discarded vs) (action.Sweep e) fits x = let w = swept_of f e vs fits in swept_flights f e vs x h w (closed_made f e.0 h.places w.is_closed) (is_named vs x) refl
flights_next f refused h (outcome.Adopted k) (action.Adopt e a) fits x = placed_flights f x e.0 (Some (With a)) h.places refl (ap flights (adopted_of f e a refused k fits).arrived)
flights_next f refused h outcome.Handed (action.Hand e b) fits x =
    placed_flights f x e.0 (Some (Arrived b)) h.places refl (ap flights (runs_there f (f.end e.0).place (ap is_some (handed_of f e b fits).holds)).1)
flights_next f refused h outcome.Done (action.Close e) fits x = placed_flights f x e.0 (Some Gone) h.places refl (no_flight (f.end e.0).place (closed_of f e fits).here)
flights_next f refused h o a fits x = h.places.flights x

pub places_next : (f : Facts) (refused : Bool) → Sound f → (o : Outcome) (a : Action) → Answers f a refused o → SoundPlaces (next f a o)
places_next f refused h o a fits =
    let goes = goes_to f refused h o a fits in
    let more : f.agents ≤ agents_after f.agents o a = agents_more f.agents o a in
    record {
      few = few_next f refused o a fits h.places.few;
      ends = none_next f refused h o a fits;
      agents = agents_next f refused h.places o a fits;
      peers = peers_next f refused h.places o a fits;
      with_made = λ x b is. let there : b.0 < f.agents = subst (Lands f x) is (lands f x _ _ h.places (goes x)) in omega arith;
      arrived_made = λ x b is. let there : b.0 < f.agents = subst (Lands f x) is (lands f x _ _ h.places (goes x)) in omega arith;
      away = away_next f refused h o a fits;
      flying = λ x is. let was : Lands f x (Some InFlight) = subst (Lands f x) is (lands f x _ _ h.places (goes x)) in ap (λ k. is_some (peer_of k)) (kind_next f refused o a fits x was.0) ∙ was.1;
      gone = λ x. gone_next f x _ _ h.places (goes x);
      flights = flights_next f refused h o a fits;
    }
