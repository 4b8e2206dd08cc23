-- What an answer that fits says of the facts; and the facts of a history with one more pair, for all notions at once.
use Rattle.std.proofs.Common.{◌≡◌, ◌+◌, Bool, true, false, cond, List, length, Option, Some, None, refl, ap, ℕ, zero, suc, ◌<◌, ◌≤◌, eqb, sym, ◌∙◌, arith, rules, inl, inr, ltb-true, leb-false, ltb-false, ◌&&◌, not, nat_lt, ◌||◌, ◌⊎◌, nat_le, ⊎_elim, [], ◌∷◌, ◌++◌, append-nil}
use Rattle.hub_core.proofs.Words.{is_some, MatchBool, list_all, AgentId, EndId, Envelope, MAX_ENDS, MAX_LINES, MAX_MOVES, MAX_PORTS, MAX_AGENTS, Good, HoldsTarget, Bad, Sender, Acceptance, Outcome, Facts, has_one, holder, poster, phase_of_line, is_out, owner, is_holder, name_of, option_map, unwrap_or, is_posting, is_inside, is_good, is_distinct, may_leave_agent, listing_of, push_answer_of, may_enter, port_place_allows_notice, is_here, is_fitting, is_empty, Serves, FitsTake, false≢true, and_parts, or_parts, Place, Arrived, any_below, someone_at, first_failing, lookable, looked, all_settled, IsAllWaiting, FitsSweep, is_arrived, is_released, may_take_over, may_close, is_queue, lines_of, names, LineId, Kind, line_found, free_line, is_casting, destinations, has_end, maker_of, has_away, is_away_of, cases_eq, found_at, put_there, ◌==◌, if◌then◌else◌, fold, flat_map, fold-append, flat_map-append, Out, Action, Pair, History, facts, named_envelope, accepted_by, named_notice, taken_by, agents_after, runs_after, ordered_after, ends_after, kind_after, place_after, closed_after, enabled_after, phase_after, adoptions_after, hops_after, passed_after, noticed_after, held_after, clear_after, discarded_by, roster_after, no_roster, CoreState, core_after, changes_nothing}
use Rattle.hub_core.specs.Legal.{agent_answer, back_answer, cast_answer, channel_answer, line_answer, member_answer, queue_answer, see_answer}
use Rattle.hub_core.specs.Posting.{enter_answer, leave_answer, notice_answer, push_answer}
use Rattle.hub_core.specs.Taking.{adopt_answer, close_answer, hand_answer, hop_answer, look_answer, start_answer}
use Rattle.hub_core.specs.declared.step.Outcome.TheVariants as outcome
use Rattle.hub_core.proofs.Items.{below_last, next_up, or_none, at_test}
use Rattle.hub_core.specs.declared.step.Action.TheVariants as action

-- ==== What an answer that fits says

-- ---- tests, one after another

-- An answer that a test refuses isn't this one, so the test was passed, or wasn't met.
pub pass : {A : Type 0} (t : Bool) {o r rest : A} → o ≡ cond (not t) r rest → (o ≡ r → ⊥) → (t ≡ true) × (o ≡ rest)
pass true h other = (refl, h)
pass false h other = absurd (other h)

pub miss : {A : Type 0} (t : Bool) {o r rest : A} → o ≡ cond t r rest → (o ≡ r → ⊥) → (t ≡ false) × (o ≡ rest)
miss false h other = (refl, h)
miss true h other = absurd (other h)

-- an answer that isn't the one that is given where the test fails
pub hit : {A : Type 0} (t : Bool) {o r rest : A} → o ≡ cond t r rest → (o ≡ rest → ⊥) → (t ≡ true) × (o ≡ r)
hit true h other = (refl, h)
hit false h other = absurd (other h)

-- ---- making

pub new_agent : (f : Facts) (refused : Bool) (a : AgentId) → outcome.Agent a ≡ agent_answer f refused → a.0 ≡ f.agents
new_agent f refused a h =
    let room = miss (nat_le MAX_AGENTS f.agents) (miss refused h (λ is. cc)).1 (λ is. cc) in
    let last : outcome.Agent a ≡ outcome.Agent (record { 0 = f.agents }) = room.1 in
    let same : a ≡ record { 0 = f.agents } = cc in
    ap (λ (b : AgentId). b.0) same

pub new_ends : (f : Facts) (a : AgentId) (refused : Bool) (e e' : EndId) → outcome.Ends e e' ≡ channel_answer f a refused → ((f.agent a.0).runs ≡ true) × (e ≡ record { 0 = f.ends }) × (e' ≡ record { 0 = f.ends + 1 }) × (f.ends + 2 ≤ MAX_ENDS)
new_ends f a refused e e' h =
    let runs = pass (f.agent a.0).runs h (λ is. cc) in
    let room = miss (nat_lt MAX_ENDS (f.ends + 2)) runs.1 (λ is. cc) in
    let last : outcome.Ends e e' ≡ outcome.Ends (record { 0 = f.ends }) (record { 0 = f.ends + 1 }) = (miss refused room.1 (λ is. cc)).1 in
    (runs.0, cc, cc, ltb-false MAX_ENDS (f.ends + 2) room.0)

pub both_tests : (b c : Bool) → (b && not c) ≡ true → (b ≡ true) × (c ≡ false)
both_tests true false h = (refl, refl)
both_tests _ _ h = cc

under_one : (n : ℕ) → n < MAX_ENDS → n + 1 ≤ MAX_ENDS
under_one n less = omega arith

-- a queue that was made
pub record MakesQueue (f : Facts) (kind : Kind) (a : AgentId) (e : EndId) : Type 0 where
  pub runs : (f.agent a.0).runs ≡ true
  pub first : has_one kind a f ≡ false
  pub few : f.ends + 1 ≤ MAX_ENDS
  pub number : e ≡ record { 0 = f.ends }

pub queue_made_of : (f : Facts) (kind : Kind) (a : AgentId) (refused : Bool) (e : EndId) → outcome.End e ≡ queue_answer (not (has_one kind a f)) f a refused → MakesQueue f kind a e
queue_made_of f kind a refused e h =
    let may = pass ((f.agent a.0).runs && not (has_one kind a f)) h (λ is. cc) in
    let room = miss (nat_le MAX_ENDS f.ends) may.1 (λ is. cc) in
    let last : outcome.End e ≡ outcome.End (record { 0 = f.ends }) = (miss refused room.1 (λ is. cc)).1 in
    let both = both_tests (f.agent a.0).runs (has_one kind a f) may.0 in
    record { runs = both.0; first = both.1; few = under_one f.ends (leb-false MAX_ENDS f.ends room.0); number = cc }

-- ---- broadcast channels

-- a broadcast channel that was made
pub record MakesMember (f : Facts) (a : AgentId) (e : EndId) : Type 0 where
  pub runs : (f.agent a.0).runs ≡ true
  pub named : is_some (f.roster.origin a.0) ≡ true
  pub few : f.ends + 1 ≤ MAX_ENDS
  pub number : e ≡ record { 0 = f.ends }

pub member_made_of : (f : Facts) (a : AgentId) (refused : Bool) (e : EndId) → outcome.End e ≡ member_answer f a refused → MakesMember f a e
member_made_of f a refused e h =
    let may = pass ((f.agent a.0).runs && not (is_casting f)) h (λ is. cc) in
    let named = pass (is_some (f.roster.origin a.0)) may.1 (λ is. cc) in
    let room = miss (nat_le MAX_ENDS f.ends) named.1 (λ is. cc) in
    let last : outcome.End e ≡ outcome.End (record { 0 = f.ends }) = (miss refused room.1 (λ is. cc)).1 in
    record { runs = (both_tests (f.agent a.0).runs (is_casting f) may.0).0; named = named.0; few = under_one f.ends (leb-false MAX_ENDS f.ends room.0); number = cc }

-- a cast that began
pub record Begins (f : Facts) (e : EndId) (ends : List EndId) : Type 0 where
  pub over : is_casting f ≡ false
  pub all : ends ≡ destinations f e.0

pub cast_of : (f : Facts) (e : EndId) (ports ends : List EndId) → outcome.Destinations ends ≡ cast_answer (has_end e.0 f.roster.members) (destinations f e.0) f e ports → Begins f e ends
cast_of f e ports ends h =
    let may = pass (is_some (maker_of (f.end e.0).kind) && not (is_casting f)) h (λ is. cc) in
    let seated = pass (has_end e.0 f.roster.members && not (f.end e.0).closed) may.1 (λ is. cc) in
    let held = pass (is_some (holder f e.0)) seated.1 (λ is. cc) in
    let last : outcome.Destinations ends ≡ outcome.Destinations (destinations f e.0) = (pass (is_empty ports) held.1 (λ is. cc)).1 in
    record { over = (both_tests (is_some (maker_of (f.end e.0).kind)) (is_casting f) may.0).1; all = cc }

-- ---- entering and leaving

pub record Entered (f : Facts) (s : Sender) : Type 0 where
  pub may : may_enter f s ≡ true
  pub out : is_out (phase_of_line f s) ≡ true
  pub plain : (f.line s.end.0 s.line.0).noticed ≡ false

abbrev pub is_retired : Facts → Sender → Bool
is_retired f s = nat_lt (f.line s.end.0 s.line.0).stand (f.end s.end.0).newest

-- an Enter that was answered something else than NotNow
pub entered_of : (f : Facts) (s : Sender) {o p : Outcome} → o ≡ cond (not (may_enter f s && is_out (phase_of_line f s) && not (f.line s.end.0 s.line.0).noticed)) outcome.NotNow p → (o ≡ outcome.NotNow → ⊥) → Entered f s × (o ≡ p)
entered_of f s h other =
    let r = pass (may_enter f s && is_out (phase_of_line f s) && not (f.line s.end.0 s.line.0).noticed) h other in
    let plain = both_tests (may_enter f s && is_out (phase_of_line f s)) (f.line s.end.0 s.line.0).noticed r.0 in
    let both = and_parts (may_enter f s) (is_out (phase_of_line f s)) plain.0 in
    (record { may = both.0; out = both.1; plain = plain.1 }, r.1)

pub let_in_of : (f : Facts) (s : Sender) → outcome.In ≡ enter_answer f s → Entered f s × (is_retired f s ≡ false) × ((f.end s.end.0).closed ≡ false)
let_in_of f s h =
    let r = entered_of f s h (λ is. cc) in
    let stays = miss (is_retired f s) r.1 (λ is. cc) in
    (r.0, stays.0, (miss (f.end s.end.0).closed stays.1 (λ is. cc)).0)

moved_when : (retired closed : Bool) → outcome.Moved ≡ cond retired outcome.Moved (cond closed outcome.Closed outcome.In) → retired ≡ true
moved_when true closed h = refl
moved_when false true h = cc
moved_when false false h = cc

pub found_moved_of : (f : Facts) (s : Sender) → outcome.Moved ≡ enter_answer f s → Entered f s × (is_retired f s ≡ true)
found_moved_of f s h =
    let r = entered_of f s h (λ is. cc) in
    (r.0, moved_when (is_retired f s) (f.end s.end.0).closed r.1)

pub found_closed_of : (f : Facts) (s : Sender) → outcome.Closed ≡ enter_answer f s → Entered f s × (is_retired f s ≡ false) × ((f.end s.end.0).closed ≡ true)
found_closed_of f s h =
    let r = entered_of f s h (λ is. cc) in
    let stays = miss (is_retired f s) r.1 (λ is. cc) in
    (r.0, stays.0, (hit (f.end s.end.0).closed stays.1 (λ is. cc)).0)

pub left_of : (f : Facts) (s : Sender) → outcome.Left ≡ leave_answer f s → is_out (phase_of_line f s) ≡ false
left_of f s h = (miss (is_out (phase_of_line f s)) h (λ is. cc)).0

-- ---- pushing

-- a push that was accepted
pub record Pushed (f : Facts) (s : Sender) (ports : List EndId) (n : Acceptance) : Type 0 where
  pub inside : is_inside (phase_of_line f s) ≡ true
  pub plain : (f.line s.end.0 s.line.0).noticed ≡ false
  pub agent : AgentId
  pub speaks : poster f s ≡ Some agent
  pub distinct : is_distinct ports ≡ true
  pub leave : list_all (may_leave_agent f agent s) ports ≡ true
  pub name : n ≡ name_of (put_there f s) f s agent

-- a list is good where its ports are distinct and may leave the agent
listed_good : (leave target : Bool) → is_good (cond (not leave) Bad (cond target HoldsTarget Good)) ≡ true → leave ≡ true
listed_good true target h = refl
listed_good false target h = absurd (false≢true h)

pushed_by : (f : Facts) (s : Sender) (ports : List EndId) (fitting refused : Bool) (n : Acceptance) (q : Option AgentId) → is_inside (phase_of_line f s) ≡ true → (f.line s.end.0 s.line.0).noticed ≡ false → poster f s ≡ q → outcome.Accepted n ≡ unwrap_or (option_map (push_answer_of (put_there f s) f s ports fitting refused) q) outcome.NotNow → Pushed f s ports n
pushed_by f s ports fitting refused n None inside plain is h = cc
pushed_by f s ports fitting refused n (Some a) inside plain is h =
    let r = pass (is_good (listing_of f s ports a) && fitting) (miss (nat_lt MAX_PORTS (length ports)) h (λ many. cc)).1 (λ bad. cc) in
    let last : outcome.Accepted n ≡ outcome.Accepted (name_of (put_there f s) f s a) = (miss refused r.1 (λ no_room. cc)).1 in
    let free = listed_good (is_distinct ports && list_all (may_leave_agent f a s) ports) (names ports s.end.0) (and_parts (is_good (listing_of f s ports a)) fitting r.0).0 in
    let each = and_parts (is_distinct ports) (list_all (may_leave_agent f a s) ports) free in
    record { inside = inside; plain = plain; agent = a; speaks = is; distinct = each.0; leave = each.1; name = cc }

pub pushed_of : (f : Facts) (s : Sender) (ports : List EndId) (body : List ℕ) (refused : Bool) (n : Acceptance) → outcome.Accepted n ≡ push_answer (is_posting f s) (put_there f s) f s ports body refused → Pushed f s ports n
pushed_of f s ports body refused n h =
    let fitting : Bool = is_fitting f.roster.cast (f.end s.end.0).kind ports body in
    let r = pass (is_inside (phase_of_line f s) && not (f.line s.end.0 s.line.0).noticed) h (λ is. cc) in
    let posts = both_tests (is_inside (phase_of_line f s)) (f.line s.end.0 s.line.0).noticed r.0 in
    pushed_by f s ports fitting refused n (poster f s) posts.0 posts.1 refl r.1

-- a notice that was accepted
pub record Noticed (f : Facts) (s : Sender) (n : Acceptance) : Type 0 where
  pub inside : is_inside (phase_of_line f s) ≡ true
  pub plain : (f.line s.end.0 s.line.0).noticed ≡ false
  pub hears : port_place_allows_notice f s ≡ true
  pub name : n ≡ name_of (put_there f s) f s (record { 0 = 0 })

pub noticed_of : (f : Facts) (s : Sender) (refused : Bool) (n : Acceptance) → outcome.Accepted n ≡ notice_answer (is_posting f s) (put_there f s) f s refused → Noticed f s n
noticed_of f s refused n h =
    let r = pass (is_inside (phase_of_line f s) && not (f.line s.end.0 s.line.0).noticed && port_place_allows_notice f s) h (λ is. cc) in
    let last : outcome.Accepted n ≡ outcome.Accepted (name_of (put_there f s) f s (record { 0 = 0 })) = (miss refused r.1 (λ is. cc)).1 in
    let both = and_parts (is_inside (phase_of_line f s) && not (f.line s.end.0 s.line.0).noticed) (port_place_allows_notice f s) r.0 in
    let posts = both_tests (is_inside (phase_of_line f s)) (f.line s.end.0 s.line.0).noticed both.0 in
    record { inside = posts.0; plain = posts.1; hears = both.1; name = cc }

-- ---- taking

pub started_of : (f : Facts) (e : EndId) → outcome.Started ≡ start_answer f e → ((f.end e.0).closed ≡ false) × (is_some (holder f e.0) ≡ true)
started_of f e h =
    let open_end = miss (f.end e.0).closed h (λ is. cc) in
    (open_end.0, (hit (is_some (holder f e.0)) open_end.1 (λ is. cc)).0)

-- a take that was served
pub record Served (f : Facts) (e : EndId) (o : Outcome) : Type 0 where
  pub is_open : (f.end e.0).closed ≡ false
  pub held : is_some (holder f e.0) ≡ true
  pub is_enabled : (f.end e.0).enabled ≡ true
  pub serves : Serves f e o

-- a take that was answered neither Closed nor NotNow nor Disabled was served
pub served_when : (closed held enabled : Bool) (o : Outcome) (P : Type 0) → (o ≡ outcome.Closed → ⊥) → (o ≡ outcome.NotNow → ⊥) → (o ≡ outcome.Disabled → ⊥) → MatchBool closed (o ≡ outcome.Closed) (MatchBool held (MatchBool enabled P (o ≡ outcome.Disabled)) (o ≡ outcome.NotNow)) → (closed ≡ false) × (held ≡ true) × (enabled ≡ true) × P
served_when true held enabled o P x y z h = absurd (x h)
served_when false true true o P x y z h = (refl, refl, refl, h)
served_when false true false o P x y z h = absurd (z h)
served_when false false enabled o P x y z h = absurd (y h)

pub served_of : (f : Facts) (e : EndId) (o : Outcome) → (o ≡ outcome.Closed → ⊥) → (o ≡ outcome.NotNow → ⊥) → (o ≡ outcome.Disabled → ⊥) → FitsTake (Serves f e) f e o → Served f e o
served_of f e o x y z h =
    let r = served_when (f.end e.0).closed (is_some (holder f e.0)) (f.end e.0).enabled o (Serves f e o) x y z h in
    record { is_open = r.0; held = r.1; is_enabled = r.2; serves = r.3 }

pub got_of : (f : Facts) (e : EndId) (v : Envelope) → FitsTake (Serves f e) f e (outcome.Got v) → Served f e (outcome.Got v)
got_of f e v h = served_of f e (outcome.Got v) (λ is. cc) (λ is. cc) (λ is. cc) h

pub went_on_of : (f : Facts) (e : EndId) → FitsTake (Serves f e) f e outcome.Again → Served f e outcome.Again
went_on_of f e h = served_of f e outcome.Again (λ is. cc) (λ is. cc) (λ is. cc) h

-- ---- going on, and adopting

-- a line that goes on
pub record Hops (f : Facts) (s : Sender) (k : ℕ) : Type 0 where
  pub may : may_enter f s ≡ true
  pub out : is_out (phase_of_line f s) ≡ true
  pub retired : is_retired f s ≡ true
  pub number : k ≡ (f.line s.end.0 s.line.0).stand + 1

pub hopped_of : (f : Facts) (s : Sender) (k : ℕ) → outcome.Hopped k ≡ hop_answer f s → Hops f s k
hopped_of f s k h =
    let r = hit (may_enter f s && (is_out (phase_of_line f s) && is_retired f s)) h (λ is. cc) in
    let last : outcome.Hopped k ≡ outcome.Hopped ((f.line s.end.0 s.line.0).stand + 1) = r.1 in
    let both = and_parts (may_enter f s) (is_out (phase_of_line f s) && is_retired f s) r.0 in
    let rest = and_parts (is_out (phase_of_line f s)) (is_retired f s) both.1 in
    record { may = both.0; out = rest.0; retired = rest.1; number = cc }

arrived_at : (a : AgentId) (p : Option Place) → is_arrived a p ≡ true → p ≡ Some (Arrived a)
arrived_at a (Some (Arrived b)) h = let same : a.0 ≡ b.0 = search (rules, h) in ap (λ n. Some (Arrived (record { 0 = n }))) (sym same)
arrived_at a _ h = absurd (false≢true h)

-- an end that was adopted
pub record Adopts (f : Facts) (e : EndId) (a : AgentId) (k : ℕ) : Type 0 where
  pub is_open : (f.end e.0).closed ≡ false
  pub arrived : (f.end e.0).place ≡ Some (Arrived a)
  pub runs : (f.agent a.0).runs ≡ true
  pub number : k ≡ (f.end e.0).newest + 1

pub adopted_of : (f : Facts) (e : EndId) (a : AgentId) (refused : Bool) (k : ℕ) → outcome.Adopted k ≡ adopt_answer f e a refused → Adopts f e a k
adopted_of f e a refused k h =
    let open_end = miss (f.end e.0).closed h (λ is. cc) in
    let may = pass (is_arrived a (f.end e.0).place && (f.agent a.0).runs) open_end.1 (λ is. cc) in
    let room = miss (nat_le MAX_MOVES (f.end e.0).newest) may.1 (λ is. cc) in
    let last : outcome.Adopted k ≡ outcome.Adopted ((f.end e.0).newest + 1) = (miss refused room.1 (λ is. cc)).1 in
    let both = and_parts (is_arrived a (f.end e.0).place) (f.agent a.0).runs may.0 in
    record { is_open = open_end.0; arrived = arrived_at a (f.end e.0).place both.0; runs = both.1; number = cc }

-- ---- closing and sweeping

-- an end that was closed
pub record Closes (f : Facts) (e : EndId) : Type 0 where
  pub is_open : (f.end e.0).closed ≡ false
  pub here : is_here (f.end e.0).place ≡ true
  pub released : is_released f.line (f.end e.0).kind ≡ true

pub closed_of : (f : Facts) (e : EndId) → outcome.Done ≡ close_answer f e → Closes f e
closed_of f e h =
    let open_end = miss (f.end e.0).closed h (λ is. cc) in
    let both = and_parts (is_here (f.end e.0).place) (is_released f.line (f.end e.0).kind) (hit (may_close f e.0) open_end.1 (λ is. cc)).0 in
    record { is_open = open_end.0; here = both.0; released = both.1 }

-- an end that was swept
pub record SweptWith (f : Facts) (e : EndId) (vs : List Envelope) : Type 0 where
  pub is_closed : (f.end e.0).closed ≡ true
  pub settled : all_settled f e.0 ≡ true
  pub all : IsAllWaiting f e.0 vs

swept_when : (closed settled : Bool) (o : Outcome) (P : Type 0) → (o ≡ outcome.Busy → ⊥) → (o ≡ outcome.NotNow → ⊥) → MatchBool closed (MatchBool settled P (o ≡ outcome.Busy)) (o ≡ outcome.NotNow) → (closed ≡ true) × (settled ≡ true) × P
swept_when true true o P x y h = (refl, refl, h)
swept_when true false o P x y h = absurd (x h)
swept_when false settled o P x y h = absurd (y h)

pub swept_of : (f : Facts) (e : EndId) (vs : List Envelope) → FitsSweep f e (outcome.Discarded vs) → SweptWith f e vs
swept_of f e vs h =
    let r = swept_when (f.end e.0).closed (all_settled f e.0) (outcome.Discarded vs) (IsAllWaiting f e.0 vs) (λ is. cc) (λ is. cc) h in
    record { is_closed = r.0; settled = r.1; all = r.2 }

-- each of some queues passes the test
pub each_of : (test : ℕ → Bool) (k n : ℕ) → not (is_some (first_failing test k n)) ≡ true → (i : ℕ) → k ≤ i → i < k + n → test i ≡ true
each_of test k zero h i from below = absurd (omega arith)
each_of test k (suc n) h i from below = at_test (λ q. not (is_some q) ≡ true → test i ≡ true) (test k) (first_failing test (k + 1) n) (Some k)
    (λ here rest. ⊎_elim (λ same. ap test same ∙ here) (λ other. each_of test (k + 1) n rest i (next_up k i from other) (omega arith)) (cases_eq i k))
    (λ _ none. absurd (false≢true none)) h

-- ---- looking

-- the first of some queues that isn't clear
pub record FirstFailing (clear : ℕ → Bool) (k n j : ℕ) : Type 0 where
  pub from : k ≤ j
  pub below : j < k + n
  pub unclear : clear j ≡ false
  pub before : (i : ℕ) → k ≤ i → i < j → clear i ≡ true

pub first_failing_of : (clear : ℕ → Bool) (k n j : ℕ) → first_failing clear k n ≡ Some j → FirstFailing clear k n j
first_failing_of clear k zero j is = absurd (search (rules, is))
first_failing_of clear k (suc n) j is = at_test (λ q. q ≡ Some j → FirstFailing clear k (suc n) j) (clear k) (first_failing clear (k + 1) n) (Some k)
    (λ here later.
    let r = first_failing_of clear (k + 1) n j later in
    let from : k + 1 ≤ j = r.from in
    let below : j < k + 1 + n = r.below in
    record {
      from = omega arith;
      below = omega arith;
      unclear = r.unclear;
      before = λ i low less. ⊎_elim (λ same. ap clear same ∙ here) (λ other. r.before i (next_up k i low other) less) (cases_eq i k);
    })
    (λ here found.
    let same : k ≡ j = cc in
    record { from = omega arith; below = omega arith; unclear = ap clear (sym same) ∙ here; before = λ i low less. absurd (omega arith) }) is

clear_when : (f : Facts) (x k : ℕ) (q : Option ℕ) → outcome.Clear (Some k) ≡ found_at (someone_at f x) q → (q ≡ Some k) × (someone_at f x k ≡ false)
clear_when f x k None h = cc
clear_when f x k (Some j) h = at_test (λ o. outcome.Clear (Some k) ≡ o → (Some j ≡ Some k) × (someone_at f x k ≡ false)) (someone_at f x j) outcome.Busy (outcome.Clear (Some j)) (λ is no. cc) (λ is yes. let same : k ≡ j = cc in (ap Some (sym same), ap (someone_at f x) same ∙ is)) h

busy_when : (f : Facts) (x : ℕ) (q : Option ℕ) → outcome.Busy ≡ found_at (someone_at f x) q → (k : ℕ) × (q ≡ Some k) × (someone_at f x k ≡ true)
busy_when f x None h = cc
busy_when f x (Some j) h = at_test (λ o. outcome.Busy ≡ o → (k : ℕ) × (Some j ≡ Some k) × (someone_at f x k ≡ true)) (someone_at f x j) outcome.Busy (outcome.Clear (Some j)) (λ is yes. (j, refl, is)) (λ is no. cc) h

-- a queue that is looked at
abbrev pub LooksAt : Facts → ℕ → ℕ → Type 0
LooksAt f x k = FirstFailing (f.clear x) (f.end x).taker_stand (lookable (f.end x).taker_stand (f.end x).newest (f.end x).closed) k

-- a queue that became clear
pub record Clears (f : Facts) (x k : ℕ) : Type 0 where
  pub may : ((f.end x).closed || nat_lt (f.end x).taker_stand (f.end x).newest) ≡ true
  pub is_looked : looked f x ≡ Some k
  pub looks : LooksAt f x k
  pub nobody : someone_at f x k ≡ false

pub cleared_of : (f : Facts) (e : EndId) (k : ℕ) → outcome.Clear (Some k) ≡ look_answer (found_at (someone_at f e.0) (looked f e.0)) f e → Clears f e.0 k
cleared_of f e k h =
    let r = hit ((f.end e.0).closed || nat_lt (f.end e.0).taker_stand (f.end e.0).newest) h (λ is. cc) in
    let both = clear_when f e.0 k (looked f e.0) r.1 in
    record { may = r.0; is_looked = both.0; looks = first_failing_of (f.clear e.0) _ _ k both.0; nobody = both.1 }

pub record FindsBusy (f : Facts) (x : ℕ) : Type 0 where
  pub queue : ℕ
  pub is_looked : looked f x ≡ Some queue
  pub looks : LooksAt f x queue
  pub somebody : someone_at f x queue ≡ true

pub look_busy_of : (f : Facts) (e : EndId) → outcome.Busy ≡ look_answer (found_at (someone_at f e.0) (looked f e.0)) f e → FindsBusy f e.0
look_busy_of f e h =
    let r = hit ((f.end e.0).closed || nat_lt (f.end e.0).taker_stand (f.end e.0).newest) h (λ is. cc) in
    let both = busy_when f e.0 (looked f e.0) r.1 in
    record { queue = both.0; is_looked = both.1; looks = first_failing_of (f.clear e.0) _ _ both.0 both.1; somebody = both.2 }

-- a queue that may be looked at is retired, or the newest of a closed end
pub looked_where : (taker newest k : ℕ) (closed : Bool) → taker ≤ newest → k < taker + lookable taker newest closed → (k < newest) ⊎ ((k ≡ newest) × (closed ≡ true))
looked_where taker newest k true within below = ⊎_elim (λ is. inr (is, refl)) (λ other. inl (below_last k newest (omega arith) other)) (cases_eq k newest)
looked_where taker newest k false within below = inl (omega arith)

-- ---- who is at a queue

-- what passes a test below a bound
pub any_of : (test : ℕ → Bool) (n : ℕ) → any_below test n ≡ true → (l : ℕ) × (l < n) × (test l ≡ true)
any_of test zero h = absurd (false≢true h)
any_of test (suc n) h = elim (test n) as (λ b. test n ≡ b → (any_below test n || b) ≡ true → (l : ℕ) × (l < suc n) × (test l ≡ true)) [
  | true ↦ λ is _. (n, omega arith, is)
  | false ↦ λ is rest.
      let r = any_of test n (or_none (any_below test n) ∙ rest) in
      let low : r.0 < n = r.1 in
      (r.0, omega arith, r.2)
] refl h

pub none_of_any : (test : ℕ → Bool) (n l : ℕ) → any_below test n ≡ false → l < n → test l ≡ false
none_of_any test zero l h less = absurd (omega arith)
none_of_any test (suc n) l h less =
    let both = or_parts (any_below test n) (test n) h in
    ⊎_elim (λ is. ap test is ∙ both.1) (λ other. none_of_any test n l both.0 (below_last l n (omega arith) other)) (cases_eq l n)

-- ---- holding lines, and handing

line_when : (runs queue : Bool) (l : LineId) (q : Option ℕ) → outcome.Line l ≡ cond (not runs) outcome.NotNow (cond (not queue) outcome.NoSuchEnd (line_found q)) → (runs ≡ true) × (queue ≡ true) × (q ≡ Some l.0)
line_when true true l (Some n) h = (refl, refl, let same : l ≡ record { 0 = n } = cc in ap Some (sym (ap (λ (k : LineId). k.0) same)))
line_when _ _ l _ h = cc

not_some : {A : Type 0} (q : Option A) → is_some q ≡ false → q ≡ None
not_some None h = refl
not_some (Some a) h = absurd (false≢true (sym h))

-- a line that an agent got
pub record GetsLine (f : Facts) (e : EndId) (a : AgentId) (l : LineId) : Type 0 where
  pub runs : (f.agent a.0).runs ≡ true
  pub queue : is_queue (f.end e.0).kind ≡ true
  pub low : l.0 < MAX_LINES
  pub free : (f.line e.0 l.0).held_by ≡ None

pub line_got_of : (f : Facts) (e : EndId) (a : AgentId) (l : LineId) → outcome.Line l ≡ line_answer (free_line f e.0) f e a → GetsLine f e a l
line_got_of f e a l h =
    let r = line_when (f.agent a.0).runs (is_queue (f.end e.0).kind) l (free_line f e.0) h in
    let found = first_failing_of (λ i. is_some (f.line e.0 i).held_by) 0 MAX_LINES l.0 r.2 in
    let below : l.0 < 0 + MAX_LINES = found.below in
    record { runs = r.0; queue = r.1; low = omega arith; free = not_some (f.line e.0 l.0).held_by found.unclear }

pub back_of : (f : Facts) (s : Sender) → outcome.Done ≡ back_answer f s → (is_some (f.line s.end.0 s.line.0).held_by ≡ true) × (is_out (phase_of_line f s) ≡ true)
back_of f s h = and_parts (is_some (f.line s.end.0 s.line.0).held_by) (is_out (phase_of_line f s)) (hit (is_some (f.line s.end.0 s.line.0).held_by && is_out (phase_of_line f s)) h (λ is. cc)).0

taken_over : (f : Facts) (b : AgentId) (q : Option AgentId) → may_take_over f.agents b q ≡ true → (a : AgentId) × (q ≡ Some a) × (b.0 < f.agents)
taken_over f b None h = absurd (false≢true h)
taken_over f b (Some a) h = (a, refl, ltb-true b.0 f.agents (and_parts (nat_lt b.0 f.agents) (not (eqb a.0 b.0)) h).0)

-- an end that was handed on
pub record Hands (f : Facts) (e : EndId) (b : AgentId) : Type 0 where
  pub is_open : (f.end e.0).closed ≡ false
  pub queue : is_queue (f.end e.0).kind ≡ true
  pub agent : AgentId
  pub holds : holder f e.0 ≡ Some agent
  pub known : b.0 < f.agents

pub handed_of : (f : Facts) (e : EndId) (b : AgentId) → outcome.Handed ≡ hand_answer f e b → Hands f e b
handed_of f e b h =
    let open_end = miss (f.end e.0).closed h (λ is. cc) in
    let may : Bool = may_take_over f.agents b (holder f e.0) in
    let both = and_parts (is_queue (f.end e.0).kind) may (hit (is_queue (f.end e.0).kind && may) open_end.1 (λ is. cc)).0 in
    let over = taken_over f b (holder f e.0) both.1 in
    record { is_open = open_end.0; queue = both.0; agent = over.0; holds = over.1; known = over.2 }

-- ---- ending

pub see_of : (f : Facts) (a : AgentId) (es : List EndId) → outcome.Ending es ≡ see_answer (not (has_away f a)) f a → has_away f a ≡ false
see_of f a es h = (both_tests (nat_lt a.0 f.agents) (has_away f a) (pass (nat_lt a.0 f.agents && not (has_away f a)) h (λ is. cc)).0).1

-- no poster of the agent is away
pub none_away : (f : Facts) (a : AgentId) (x l : ℕ) → has_away f a ≡ false → x < f.ends → l < lines_of (f.end x).kind → is_out (f.line x l).phase ≡ false → is_holder a (owner f x l) ≡ false
none_away f a x l none made low away =
    let at : any_below (is_away_of f a x) (lines_of (f.end x).kind) ≡ false = none_of_any (λ y. any_below (is_away_of f a y) (lines_of (f.end y).kind)) f.ends x none made in
    let here : is_away_of f a x l ≡ false = none_of_any (is_away_of f a x) (lines_of (f.end x).kind) l at low in
    sym (ap (λ b. not b && is_holder a (owner f x l)) away) ∙ here

-- ==== The facts after one more pair

-- the list with what an answered step puts at its end
abbrev pub accepted_after : ℕ → List Envelope → Outcome → Action → List Envelope
accepted_after x vs (outcome.Accepted n) (action.Push s ports body) = if x == s.end.0 then vs ++ named_envelope s n body ports ∷ [] else vs
accepted_after x vs (outcome.Accepted n) (action.Notice s) = if x == s.end.0 then vs ++ named_notice s n ∷ [] else vs
accepted_after x vs _ _ = vs

abbrev pub taken_after : ℕ → List Envelope → Outcome → Action → List Envelope
taken_after x vs (outcome.Got v) (action.Take t) = if x == t.0 then vs ++ v ∷ [] else vs
taken_after x vs _ _ = vs

abbrev pub discarded_after : ℕ → List Envelope → Outcome → Action → List Envelope
discarded_after x vs (outcome.Discarded ws) (action.Sweep t) = if x == t.0 then vs ++ ws else vs
discarded_after x vs _ _ = vs

-- the facts with an answered step; what the step doesn't touch computes to what it was
abbrev pub next : Facts → Action → Outcome → Facts
next f a o = record {
  agents = agents_after f.agents o a;
  ends = ends_after f.ends o a;
  agent = λ x. record { runs = runs_after x (f.agent x).runs o a; ordered = ordered_after x (f.agent x).ordered o a };
  end = λ x. record {
    kind = kind_after x (f.end x).kind o a;
    place = place_after x (λ y. (f.end y).place) o a;
    closed = closed_after x (f.end x).closed o a;
    enabled = enabled_after x (f.end x).enabled o a;
    newest = adoptions_after x (f.end x).newest o a;
    taker_stand = passed_after x (f.end x).taker_stand o a;
  };
  line = λ x l. record {
    phase = phase_after x l (f.line x l).phase o a;
    stand = hops_after x l (f.line x l).stand o a;
    noticed = noticed_after x l (f.line x l).noticed o a;
    held_by = held_after x l (f.line x l).held_by o a;
  };
  clear = λ x k. clear_after x k (f.clear x k) o a;
  accepted = λ x. accepted_after x (f.accepted x) o a;
  taken = λ x. taken_after x (f.taken x) o a;
  discarded = λ x. discarded_after x (f.discarded x) o a;
  roster = roster_after f.roster o a;
}

-- a fold over one more pair
fold_one : {B : Type 0} (f : B → Pair → B) (b : B) (h : History) (p : Pair) → fold f b (h ++ p ∷ []) ≡ f (fold f b h) p
fold_one f b h p = fold-append f b h (p ∷ [])

-- a flat_map over one more pair
flat_map_one : {A : Type 0} (f : Pair → List A) (h : History) (p : Pair) → flat_map f (h ++ p ∷ []) ≡ flat_map f h ++ f p
flat_map_one f h p = flat_map-append f h (p ∷ []) ∙ ap (λ xs. flat_map f h ++ xs) (append-nil (f p))

-- one more where it is of the end, else nothing
pub all_where : {A : Type 0} (b : Bool) (vs ws : List A) → vs ++ cond b ws [] ≡ cond b (vs ++ ws) vs
all_where true vs ws = refl
all_where false vs ws = append-nil vs

pub accepted_one : (x : ℕ) (vs : List Envelope) (o : Outcome) (a : Action) → vs ++ accepted_by x o a ≡ accepted_after x vs o a
accepted_one x vs (outcome.Accepted n) (action.Push s ports body) = all_where (eqb x s.end.0) vs (named_envelope s n body ports ∷ [])
accepted_one x vs (outcome.Accepted n) (action.Notice s) = all_where (eqb x s.end.0) vs (named_notice s n ∷ [])
accepted_one x vs o a = append-nil vs

taken_one : (x : ℕ) (vs : List Envelope) (o : Outcome) (a : Action) → vs ++ taken_by x o a ≡ taken_after x vs o a
taken_one x vs (outcome.Got v) (action.Take t) = all_where (eqb x t.0) vs (v ∷ [])
taken_one x vs o a = append-nil vs

discarded_one : (x : ℕ) (vs : List Envelope) (o : Outcome) (a : Action) → vs ++ discarded_by x o a ≡ discarded_after x vs o a
discarded_one x vs (outcome.Discarded ws) (action.Sweep t) = all_where (eqb x t.0) vs ws
discarded_one x vs o a = append-nil vs

pub facts_next : (h : History) (p : Pair) → facts (h ++ p ∷ []) ≡ next (facts h) p.0.action p.1
facts_next h p = λ i. record {
  agents = fold_one (λ n q. agents_after n q.1 q.0.action) 0 h p i;
  ends = fold_one (λ n q. ends_after n q.1 q.0.action) 0 h p i;
  agent = λ x. record { runs = fold_one (λ r q. runs_after x r q.1 q.0.action) false h p i; ordered = fold_one (λ r q. ordered_after x r q.1 q.0.action) false h p i };
  end = λ x. record {
    kind = fold_one (λ r q. kind_after x r q.1 q.0.action) None h p i;
    place = fold_one {B = ℕ → Option Place} (λ r q y. place_after y r q.1 q.0.action) (λ _. None) h p i x;
    closed = fold_one (λ r q. closed_after x r q.1 q.0.action) false h p i;
    enabled = fold_one (λ r q. enabled_after x r q.1 q.0.action) false h p i;
    newest = fold_one (λ r q. adoptions_after x r q.1 q.0.action) 0 h p i;
    taker_stand = fold_one (λ r q. passed_after x r q.1 q.0.action) 0 h p i;
  };
  line = λ x l. record {
    phase = fold_one (λ r q. phase_after x l r q.1 q.0.action) Out h p i;
    stand = fold_one (λ r q. hops_after x l r q.1 q.0.action) 0 h p i;
    noticed = fold_one (λ r q. noticed_after x l r q.1 q.0.action) false h p i;
    held_by = fold_one (λ r q. held_after x l r q.1 q.0.action) None h p i;
  };
  clear = λ x k. fold_one (λ r q. clear_after x k r q.1 q.0.action) false h p i;
  accepted = λ x. (flat_map_one (λ q. accepted_by x q.1 q.0.action) h p ∙ accepted_one x (flat_map (λ q. accepted_by x q.1 q.0.action) h) p.1 p.0.action) i;
  taken = λ x. (flat_map_one (λ q. taken_by x q.1 q.0.action) h p ∙ taken_one x (flat_map (λ q. taken_by x q.1 q.0.action) h) p.1 p.0.action) i;
  discarded = λ x. (flat_map_one (λ q. discarded_by x q.1 q.0.action) h p ∙ discarded_one x (flat_map (λ q. discarded_by x q.1 q.0.action) h) p.1 p.0.action) i;
  roster = fold_one (λ r q. roster_after r q.1 q.0.action) no_roster h p i;
}

-- ---- the pairs that change something

pub data Change : Action → Outcome → Type 0 where
  agent_made : (origin : Option (List ℕ)) (a : AgentId) → Change (action.Agent origin) (outcome.Agent a)
  channel_made : (a : AgentId) (e e' : EndId) → Change (action.Channel a) (outcome.Ends e e')
  client_made : (a : AgentId) (e : EndId) → Change (action.Client a) (outcome.End e)
  worker_made : (a : AgentId) (e : EndId) → Change (action.Worker a) (outcome.End e)
  member_joined : (a : AgentId) (name : List ℕ) (e : EndId) → Change (action.Member a name) (outcome.End e)
  line_got : (e : EndId) (a : AgentId) (l : LineId) → Change (action.Line e a) (outcome.Line l)
  line_back : (s : Sender) → Change (action.Back s) outcome.Done
  let_in : (s : Sender) → Change (action.Enter s) outcome.In
  found_moved : (s : Sender) → Change (action.Enter s) outcome.Moved
  found_closed : (s : Sender) → Change (action.Enter s) outcome.Closed
  put : (s : Sender) (ports : List EndId) (body : List ℕ) (n : Acceptance) → Change (action.Push s ports body) (outcome.Accepted n)
  notice_put : (s : Sender) (n : Acceptance) → Change (action.Notice s) (outcome.Accepted n)
  left : (s : Sender) → Change (action.Leave s) outcome.Left
  hopped : (s : Sender) (k : ℕ) → Change (action.Hop s) (outcome.Hopped k)
  started : (e : EndId) → Change (action.Start e) outcome.Started
  got : (e : EndId) (v : Envelope) → Change (action.Take e) (outcome.Got v)
  went_on : (e : EndId) → Change (action.Take e) outcome.Again
  cleared : (e : EndId) (k : ℕ) → Change (action.Look e) (outcome.Clear (Some k))
  adopted : (e : EndId) (a : AgentId) (k : ℕ) → Change (action.Adopt e a) (outcome.Adopted k)
  end_closed : (e : EndId) → Change (action.Close e) outcome.Done
  end_swept : (e : EndId) (vs : List Envelope) → Change (action.Sweep e) (outcome.Discarded vs)
  handed : (e : EndId) (b : AgentId) → Change (action.Hand e b) outcome.Handed
  agent_ordered : (a : AgentId) → Change (action.Order a) outcome.Ordered
  agent_ended : (a : AgentId) (es : List EndId) → Change (action.See a) (outcome.Ending es)
  cast_begun : (e : EndId) (ports : List EndId) (body : List ℕ) (ends : List EndId) → Change (action.Cast e ports body) (outcome.Destinations ends)
  member_parted : (e : EndId) → Change (action.Part e) outcome.Done

-- the facts, and what the core keeps, stay as they are
abbrev pub Quiet : Outcome → Action → Type 0
Quiet o a = ((f : Facts) → next f a o ≡ f) × ((c : CoreState) → core_after c o a ≡ c)

-- every other pair is quiet
pub effect : (o : Outcome) (a : Action) → Quiet o a ⊎ Change a o
effect (outcome.Agent n) (action.Agent origin) = inr (agent_made origin n)
effect (outcome.Ends e e') (action.Channel a) = inr (channel_made a e e')
effect (outcome.End e) (action.Client a) = inr (client_made a e)
effect (outcome.End e) (action.Worker a) = inr (worker_made a e)
effect (outcome.End e) (action.Member a name) = inr (member_joined a name e)
effect (outcome.Line l) (action.Line e a) = inr (line_got e a l)
effect outcome.Done (action.Back s) = inr (line_back s)
effect outcome.In (action.Enter s) = inr (let_in s)
effect outcome.Moved (action.Enter s) = inr (found_moved s)
effect outcome.Closed (action.Enter s) = inr (found_closed s)
effect (outcome.Accepted n) (action.Push s ports body) = inr (put s ports body n)
effect (outcome.Accepted n) (action.Notice s) = inr (notice_put s n)
effect outcome.Left (action.Leave s) = inr (left s)
effect (outcome.Hopped k) (action.Hop s) = inr (hopped s k)
effect outcome.Started (action.Start e) = inr (started e)
effect (outcome.Got v) (action.Take e) = inr (got e v)
effect outcome.Again (action.Take e) = inr (went_on e)
effect (outcome.Clear (Some k)) (action.Look e) = inr (cleared e k)
effect (outcome.Adopted k) (action.Adopt e a) = inr (adopted e a k)
effect outcome.Done (action.Close e) = inr (end_closed e)
effect (outcome.Discarded vs) (action.Sweep e) = inr (end_swept e vs)
effect outcome.Handed (action.Hand e b) = inr (handed e b)
effect outcome.Ordered (action.Order a) = inr (agent_ordered a)
effect (outcome.Ending es) (action.See a) = inr (agent_ended a es)
effect (outcome.Destinations ends) (action.Cast e ports body) = inr (cast_begun e ports body ends)
effect outcome.Done (action.Part e) = inr (member_parted e)
effect o a = inl (λ f. refl, λ c. refl)

-- a pair whose answer says so is quiet
changing : {a : Action} {o : Outcome} → Change a o → changes_nothing o a ≡ false
changing (agent_made origin a) = refl
changing _ = refl

pub nothing_changes : (o : Outcome) (a : Action) → changes_nothing o a ≡ true → Quiet o a
nothing_changes o a h = elim (effect o a) [
  | inl quiet ↦ quiet
  | inr change ↦ absurd (false≢true (sym (changing change) ∙ h))
]
