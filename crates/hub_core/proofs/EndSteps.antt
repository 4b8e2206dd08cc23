-- What makes agents and ends, and what moves lines and ends: what the core answers fits, and it shows the facts with the answered step.
use Rattle.std.proofs.Common.{Bool, List, None, Option, Some, [], ap, append_assoc, arith, cond, eqb, false, get_or, inl, inr, length, length-append, length-set, nat_lt, ne_eqb, refl, replicate, rules, set, subst, suc, sym, true, zero, ℕ, ◌&&◌, ◌++◌, ◌+◌, ◌<◌, ◌||◌, ◌∙◌, ◌∷◌, ◌≡◌, ◌≤◌, not, ◌⊎◌}
use Rattle.hub_core.proofs.Words.{Agent, AgentId, AgentNow, AllByRecursion, Arrived, Client, CoreState, End, EndId, EndNow, Envelope, Facts, Gone, Inside, IsOfEnd, Kind, Line, LineNow, MAX_ENDS, Member, Outcome, Port, Sender, ShowsEnd, ShowsFacts, ShowsPut, Sound, With, Worker, change_at, set_at, has_one, adopted_agents, adopted_end, adopting, agent_now, at_queue, closed_end, count_away, count_in_queue, count_of, end_now, ends, eqb-true, false_from_ne_true, false≢true, filter}
use Rattle.hub_core.proofs.Words.{first_agent, is_queue_of, first_line, gone, in_queue, is_here, is_out, is_queue, is_released, is_with, kept_away, length-replicate, line_now, lines_of, nat_tests, new_end, no_end, no_line, one_more, option_map, peer_of, seen, slice_get, slice_get_past, taken, went, and-false}
use Rattle.hub_core.specs.Taking.{adopt_answer, close_answer, hand_answer, hop_answer}
use Rattle.hub_core.specs.Legal.{agent_answer, channel_answer, member_answer, queue_answer}
use Rattle.hub_core.proofs.Counts.{Counted, IsCalmAt, OneEnd, adopted_now, away_more, calm_gone, calm_places, came_away, change_length, come_length, come_now, counted_came, counted_went, counts_at, counts_of, counts_still, end_went, gone_length, gone_now, none_at, none_counted}
use Rattle.hub_core.proofs.Casts.{roster_agent}
use Rattle.hub_core.proofs.Frames.{ShownAfter, ShownWith, Stepped, changed, end_changed, end_restated, end_there, found_end, found_line, line_changed, line_set, recounted, same_queues, with_line}
use Rattle.hub_core.proofs.Nexts.{adopted_of, closed_of, handed_of, hopped_of, member_made_of, new_agent, new_ends, queue_made_of, Change, adopted, agent_made, channel_made, client_made, end_closed, handed, hopped, next, worker_made}
use Rattle.hub_core.proofs.Items.{at_test, each_pushed, eqb_same, set_again}
use Rattle.hub_core.proofs.SoundPlaces.{one_made}
use Rattle.hub_core.proofs.Seeing.{Sees, SoundlyShows, seen_is, with_roster}
use Rattle.hub_core.proofs.Speakers.{nothing_accepted, nothing_removed, placed_made, running_made}
use Rattle.hub_core.proofs.SoundLines.{gone_line, line_there}
use Rattle.hub_core.specs.declared.step.Outcome.TheVariants as outcome
use Rattle.hub_core.specs.declared.step.Action.TheVariants as action

-- ---- Agent

-- each agent after one was made
agent_each : (agents : List Agent) (f : Facts) → ((b : ℕ) → f.agent b ≡ agent_now (slice_get agents b)) → (a : ℕ) → (let y : AgentNow = record (f.agent a) { runs = cond (eqb a (length agents)) true (f.agent a).runs } in y ≡ agent_now (slice_get (agents ++ first_agent ∷ []) a))
agent_each agents f h = each_pushed (λ a b o. let y : AgentNow = record (f.agent a) { runs = cond b true (f.agent a).runs } in y ≡ agent_now o) agents first_agent h
    (ap (λ (x : AgentNow). let y : AgentNow = record x { runs = true } in y) (h (length agents) ∙ ap agent_now (slice_get_past agents (length agents) (omega arith))))

-- of a new agent nothing is counted, as of none
none_kept : (kept : Option Agent → ℕ) (agents : List Agent) (a : ℕ) → kept None ≡ 0 → kept (Some (first_agent)) ≡ 0 → kept (slice_get (agents ++ first_agent ∷ []) a) ≡ kept (slice_get agents a)
none_kept kept [] zero none first = first ∙ sym none
none_kept kept (x ∷ agents) (suc a) none first = none_kept kept agents a none first
none_kept kept _ _ none first = refl

first_none : (j : Kind) → count_of j (Some first_agent) ≡ 0
first_none Client = refl
first_none _ = refl

agent_shown : {agents : List Agent} {ends : List End} {f : Facts} (origin : Option (List ℕ)) (refused : Bool) → SoundlyShows agents ends f → (let n : AgentId = record { 0 = length agents } in outcome.Agent n ≡ agent_answer f refused → Stepped (agents ++ first_agent ∷ []) ends f (action.Agent origin) refused (outcome.Agent n))
agent_shown {agents} {ends} {f} origin refused h answer = record {
  fits = answer;
  shows = record {
    agents = ap (λ m. m + 1) h.agents ∙ sym (length-append agents (first_agent ∷ []));
    agent = agent_each agents f h.agent;
    ends = h.ends;
    end = h.end;
    queues = λ j a. none_kept (count_of j) agents a.0 refl (first_none j) ∙ h.queues j a;
    away = λ a. none_kept kept_away agents a.0 refl refl ∙ h.away a;
  };
}

pub agent_changes : {c : CoreState} {f : Facts} (origin : Option (List ℕ)) (refused : Bool) {o : Outcome} → Sees c f → o ≡ agent_answer f refused → Change (action.Agent origin) o → ShownWith c f (action.Agent origin) refused o
agent_changes {c} {f} origin refused h answer (agent_made p a) =
    let n : AgentId = record { 0 = length c.agents } in
    let same : a ≡ n = ap (λ m. let i : AgentId = record { 0 = m } in i) (new_agent f refused a answer ∙ h.shows.agents) in (
      subst (λ i. Stepped (c.agents ++ first_agent ∷ []) c.ends f (action.Agent origin) refused (outcome.Agent i)) (sym same) (agent_shown origin refused h.shows (ap outcome.Agent (sym same) ∙ answer)),
      roster_agent c.roster f origin refused a h.roster answer,
    )

-- ---- a new end

-- the lines of a new end, and what they put
line_first : (n l : ℕ) → line_now (slice_get (replicate n first_line) l) ≡ no_line
line_first (suc n) (suc l) = line_first n l
line_first _ _ = refl

new_put : (n l i : ℕ) → ShowsPut [] i (slice_get (replicate n first_line) l)
new_put zero l i = tt
new_put (suc n) zero i = refl
new_put (suc n) (suc l) i = new_put n l i

no_queue : (i : ℕ) → (let none : List Envelope = [] in none ≡ get_or (none ∷ []) i none)
no_queue zero = refl
no_queue (suc i) = refl

none_below : (k : ℕ) → nat_lt k 0 ≡ false
none_below k = search (rules, nat_tests)

-- an end that has just been made
new_shown : {now : EndNow} {line : ℕ → LineNow} {clear : ℕ → Bool} {vs ts : List Envelope} (a : AgentId) (k : Kind) → now ≡ end_now (Some (new_end a k)) → ((l : ℕ) → line l ≡ no_line) → ((k : ℕ) → clear k ≡ false) → vs ≡ [] → ts ≡ [] → ShowsEnd now line clear vs ts (Some (new_end a k))
new_shown a k is lines unclear accepted taken =
    rw (accepted, taken) (record {
      same = is;
      count = length-replicate (lines_of (Some k)) first_line ∙ ap (λ (y : EndNow). lines_of y.kind) (sym is);
      lines = λ l. lines l ∙ sym (line_first (lines_of (Some k)) l);
      put = λ l. new_put (lines_of (Some k)) l l;
      queues = record { reached = omega arith; clear_below = λ k from. unclear k ∙ sym (none_below k); count = λ _. refl; inside = λ l at. absurd (search (rules, sym (ap (λ (y : LineNow). y.phase) (lines l)) ∙ at)); behind = λ k less. refl; each = no_queue };
    })

-- an end that was not made
record Nothing (f : Facts) (d : ℕ) : Type 0 where
  now : f.end d ≡ no_end
  lines : (l : ℕ) → f.line d l ≡ no_line
  unclear : (k : ℕ) → f.clear d k ≡ false
  accepted : f.accepted d ≡ []
  removed : f.taken d ++ f.discarded d ≡ []

nothing_at : (f : Facts) (d : ℕ) → Sound f → f.ends ≤ d → Nothing f d
nothing_at f d h past =
    let none : f.end d ≡ no_end = h.places.ends d past in
    let accepted = nothing_accepted f d (h.lines d) none in
    record {
      now = none;
      lines = λ l. (h.lines d).none l (subst (λ p. lines_of p ≤ l) (sym (ap (λ (y : EndNow). y.kind) none)) (omega arith));
      accepted = accepted;
      unclear = λ k. false_from_ne_true (f.clear d k) (λ is. elim ((h.lines d).clear_within k is) [
        | inl less ↦ absurd (let first : (f.end d).newest ≡ 0 = ap (λ (y : EndNow). y.newest) none in let low : k < (f.end d).newest = less in omega arith)
        | inr both ↦ absurd (search (rules, false≢true, sym (ap (λ (y : EndNow). y.closed) none) ∙ both.1))
      ]);
      removed = nothing_removed f d (h.waiting d) accepted;
    }

-- the facts of an end after one was made
abbrev made_end : Facts → AgentId → Kind → ℕ → Bool → EndNow
made_end f a k d fresh = record (f.end d) { kind = cond fresh (Some k) (f.end d).kind; place = cond fresh (Some (With a)) (f.end d).place }

-- What is kept of agents and ends, the facts that it shows, and what making an end asks of them: nothing is known of an
-- end that isn't made, and a port is entangled with one that is, or its own line is out.
module _ (agents : List Agent) (ends : List End) (f : Facts) (a : AgentId) (k : Kind) (h : ShowsFacts agents ends f) (few : f.ends ≤ MAX_ENDS) (known : a.0 < f.agents)
    (nothing : (d : ℕ) → f.ends ≤ d → Nothing f d) (ports : (x : ℕ) (q : EndId) → x < f.ends → (f.end x).kind ≡ Some (Port q) → (is_out (f.line x 0).phase ≡ true) ⊎ (q.0 < f.ends)) where
  abbrev g : Facts
  g = one_made f a k (record { 0 = f.ends })

  old : (d : ℕ) → d < f.ends → eqb d f.ends ≡ false
  old d less = ne_eqb d f.ends (λ is. omega arith)

  end_at : (d : ℕ) → ShowsEnd (made_end f a k d (eqb d f.ends)) (f.line d) (f.clear d) (f.accepted d) (f.taken d ++ f.discarded d) (slice_get (ends ++ new_end a k ∷ []) d)
  end_at d =
      let none = nothing (length ends) (omega (arith, h.ends)) in
      subst (λ n. ShowsEnd (made_end f a k d (eqb d n)) (f.line d) (f.clear d) (f.accepted d) (f.taken d ++ f.discarded d) (slice_get (ends ++ new_end a k ∷ []) d)) (sym h.ends)
      (each_pushed (λ x fresh o. ShowsEnd (made_end f a k x fresh) (f.line x) (f.clear x) (f.accepted x) (f.taken x ++ f.discarded x) o) ends (new_end a k) h.end
      (new_shown a k (ap (λ (y : EndNow). let z : EndNow = record y { kind = Some k; place = Some (With a) } in z) none.now) none.lines none.unclear none.accepted none.removed) d)

  calm : (b : AgentId) (x : ℕ) → x < f.ends → IsCalmAt b f g x
  calm b x less = calm_places b f g x (ap (λ c. cond c (Some k) (f.end x).kind) (old x less)) (λ l. refl) (λ q is. elim (ports x q less is) [
    | inl out ↦ inl out
    | inr there ↦ inr (ap (λ c. is_with b (cond c (Some (With a)) (f.end q.0).place)) (old q.0 there))
  ])

  one_more_end : OneEnd f g f.ends 1 k None (Some (With a))
  one_more_end = record {
    ends = refl;
    made = omega arith;
    none = λ d past. (nothing d past).now;
    was = λ test b. ap (counts_at test b) (nothing f.ends (omega arith)).now ∙ and-false (test None) ∙ sym (and-false (test (Some k)));
    is = ap (λ c. cond c (Some k) (f.end f.ends).kind) (eqb_same f.ends);
    to = ap (λ c. cond c (Some (With a)) (f.end f.ends).place) (eqb_same f.ends);
    kinds = λ d far. ap (λ c. cond c (Some k) (f.end d).kind) (ne_eqb d f.ends far);
    places = λ d far. ap (λ c. cond c (Some (With a)) (f.end d).place) (ne_eqb d f.ends far);
  }

  none_away : (b : AgentId) → count_away b g ≡ count_away b f + 0
  none_away b = away_more b f g refl (calm b) (none_at b g f.ends (λ l. ap (λ (y : LineNow). is_out y.phase) ((nothing f.ends (omega arith)).lines l))) ∙ omega arith

  -- an end more is kept, and shown
  one_shown : ShowsFacts (change_at (one_more k) a.0 agents) (ends ++ new_end a k ∷ []) g
  one_shown =
      let counted : Counted (change_at (one_more k) a.0 agents) g = counted_came agents true one_more_end few (omega (arith, h.agents)) (λ b. refl) none_away (record { queues = h.queues; away = h.away }) in
      record {
        agents = h.agents ∙ sym (come_length k a agents);
        agent = λ x. h.agent x ∙ sym (come_now k a agents x);
        ends = ap (λ n. n + 1) h.ends ∙ sym (length-append ends (new_end a k ∷ []));
        end = end_at;
        queues = counted.queues;
        away = counted.away;
      }

made_shown : {agents : List Agent} {ends : List End} {f : Facts} (a : AgentId) (k : Kind) (e : EndId) → SoundlyShows agents ends f → (f.agent a.0).runs ≡ true → e ≡ record { 0 = f.ends } → ShowsFacts (change_at (one_more k) a.0 agents) (ends ++ new_end a k ∷ []) (one_made f a k e)
made_shown {agents} {ends} {f} a k e h runs number = subst (λ i. ShowsFacts (change_at (one_more k) a.0 agents) (ends ++ new_end a k ∷ []) (one_made f a k i)) (sym number)
    (one_shown agents ends f a k h.shown h.sound.places.few (running_made f a h.sound.places runs) (λ d past. nothing_at f d h.sound past) (λ x q less is. inr (h.sound.places.peers x q.0 (ap peer_of is)).0))

-- ports and members count for no agent
uncounted : (agents : List Agent) (k : Kind) (a : AgentId) → ((x : Agent) → one_more k x ≡ x) → change_at (one_more k) a.0 agents ≡ agents
uncounted agents k a same = elim (slice_get agents a.0) as (λ q. slice_get agents a.0 ≡ q → set_at a.0 agents (option_map (one_more k) q) ≡ agents) [
  | Some x ↦ λ at. ap (λ y. set agents a.0 y) (same x) ∙ set_again agents a.0 x at
  | None ↦ λ _. refl
] refl

-- ---- Channel

-- two ends made, one after the other, are those of a channel
both_made : (b c : Bool) (p q : EndId) (a : AgentId) (y : EndNow) → (b ≡ true → c ≡ true → ⊥)
    → (let one : EndNow = record y { kind = cond c (Some (Port p)) (cond b (Some (Port q)) y.kind); place = cond c (Some (With a)) (cond b (Some (With a)) y.place) } in
    let other : EndNow = record y { kind = cond b (Some (Port q)) (cond c (Some (Port p)) y.kind); place = cond (b || c) (Some (With a)) y.place } in one ≡ other)
both_made true true p q a y never = absurd (never refl refl)
both_made _ _ p q a y never = refl

channel_facts : (f : Facts) (a : AgentId) → (let e : EndId = record { 0 = f.ends } in let p : EndId = record { 0 = f.ends + 1 } in one_made (one_made f a (Port p) e) a (Port e) p ≡ next f (action.Channel a) (outcome.Ends e p))
channel_facts f a =
    let e : EndId = record { 0 = f.ends } in
    let p : EndId = record { 0 = f.ends + 1 } in
    let two : f.ends + 1 + 1 ≡ f.ends + 2 = omega arith in
    let each : (x : ℕ) → (one_made (one_made f a (Port p) e) a (Port e) p).end x ≡ (next f (action.Channel a) (outcome.Ends e p)).end x = λ x.
    both_made (eqb x f.ends) (eqb x (f.ends + 1)) e p a (f.end x) (λ one other. let first : x ≡ f.ends = eqb-true x f.ends one in let second : x ≡ f.ends + 1 = eqb-true x (f.ends + 1) other in omega arith)
    in
    λ i. record f { ends = two i; end = λ x. each x i }

-- the facts after the first of the two ports was made
abbrev one_port : Facts → AgentId → Facts
one_port f a = one_made f a (Port (record { 0 = f.ends + 1 })) (record { 0 = f.ends })

channel_shown : (agents : List Agent) (ends : List End) (f : Facts) (a : AgentId) → SoundlyShows agents ends f → (f.agent a.0).runs ≡ true → f.ends + 1 ≤ MAX_ENDS → (let e : EndId = record { 0 = f.ends } in let p : EndId = record { 0 = f.ends + 1 } in ShowsFacts agents (ends ++ new_end a (Port p) ∷ new_end a (Port e) ∷ []) (next f (action.Channel a) (outcome.Ends e p)))
channel_shown agents ends f a h runs few =
    let e : EndId = record { 0 = f.ends } in
    let p : EndId = record { 0 = f.ends + 1 } in
    let g : Facts = one_port f a in
    let known : a.0 < f.agents = running_made f a h.sound.places runs in
    let first : ShowsFacts agents (ends ++ new_end a (Port p) ∷ []) g = subst (λ kept. ShowsFacts kept (ends ++ new_end a (Port p) ∷ []) g) (uncounted agents (Port p) a (λ x. refl)) (made_shown a (Port p) e h runs refl) in
    let second = one_shown agents (ends ++ new_end a (Port p) ∷ []) g a (Port e) first few known (λ d past. still_nothing d (omega arith)) still_ports in
    subst (ShowsFacts agents (ends ++ new_end a (Port p) ∷ new_end a (Port e) ∷ [])) (channel_facts f a)
    (subst (λ kept. ShowsFacts kept (ends ++ new_end a (Port p) ∷ new_end a (Port e) ∷ []) (one_made g a (Port e) p)) (uncounted agents (Port e) a (λ x. refl))
    (subst (λ es. ShowsFacts (change_at (one_more (Port e)) a.0 agents) es (one_made g a (Port e) p)) (append_assoc ends (new_end a (Port p) ∷ []) (new_end a (Port e) ∷ [])) second))
  where
    still_nothing : (d : ℕ) → f.ends < d → Nothing (one_port f a) d
    still_nothing d past =
        let none = nothing_at f d h.sound (omega arith) in
        let other : eqb d f.ends ≡ false = ne_eqb d f.ends (λ is. omega arith) in
        record { now = rw other none.now; lines = none.lines; unclear = none.unclear; accepted = none.accepted; removed = none.removed }

    still_ports : (x : ℕ) (q : EndId) → x < f.ends + 1 → ((one_port f a).end x).kind ≡ Some (Port q) → (is_out (f.line x 0).phase ≡ true) ⊎ (q.0 < f.ends + 1)
    still_ports x q less is = at_test (λ p. p ≡ Some (Port q) → (is_out (f.line x 0).phase ≡ true) ⊎ (q.0 < f.ends + 1)) (eqb x f.ends) (Some (Port (record { 0 = f.ends + 1 }))) (f.end x).kind
        (λ same _. let here : x ≡ f.ends = eqb-true x f.ends same in inl (ap (λ (y : LineNow). is_out y.phase) ((nothing_at f x h.sound (omega arith)).lines 0)))
        (λ other kind. let there : q.0 < f.ends = (h.sound.places.peers x q.0 (ap peer_of kind)).0 in inr (omega arith)) is

pub channel_changes : {c : CoreState} {f : Facts} (a : AgentId) (refused : Bool) {o : Outcome} → Sees c f → o ≡ channel_answer f a refused → Change (action.Channel a) o → ShownAfter c f (action.Channel a) refused o
channel_changes {c} {f} a refused h answer (channel_made b e p) =
    let made = new_ends f a refused e p answer in
    let room : f.ends + 2 ≤ MAX_ENDS = made.3 in
    let few : f.ends + 1 ≤ MAX_ENDS = omega arith in
    let shows : ShowsFacts c.agents (c.ends ++ new_end a (Port p) ∷ new_end a (Port e) ∷ []) (next f (action.Channel a) (outcome.Ends e p)) =
    subst (λ (i : EndId). ShowsFacts c.agents (c.ends ++ new_end a (Port p) ∷ new_end a (Port i) ∷ []) (next f (action.Channel a) (outcome.Ends i p))) (sym made.1)
    (subst (λ (i : EndId). ShowsFacts c.agents (c.ends ++ new_end a (Port i) ∷ new_end a (Port (record { 0 = f.ends })) ∷ []) (next f (action.Channel a) (outcome.Ends (record { 0 = f.ends }) i))) (sym made.2) (channel_shown c.agents c.ends f a h.shows made.0 few))
    in
    (record { fits = answer; shows = shows }, refl)

-- ---- Client and Worker

pub queue_answered : {c : CoreState} {f : Facts} (k : Kind) (a : AgentId) (refused : Bool) → Sees c f → queue_answer (eqb (count_of k (slice_get c.agents a.0)) 0) (seen c) a refused ≡ queue_answer (not (has_one k a f)) f a refused
queue_answered {c} {f} k a refused h = ap (λ g. queue_answer (eqb (count_of k (slice_get c.agents a.0)) 0) g a refused) (seen_is h) ∙ ap (λ b. queue_answer b f a refused) (ap (λ n. eqb n 0) (h.shows.queues k a) ∙ none_counted (λ x. counts_at (is_queue_of k) a (f.end x)) f.ends)

pub client_changes : {c : CoreState} {f : Facts} (a : AgentId) (refused : Bool) {o : Outcome} → Sees c f → o ≡ queue_answer (not (has_one Client a f)) f a refused → Change (action.Client a) o → ShownAfter c f (action.Client a) refused o
client_changes {c} {f} a refused h answer (client_made b e) = let made = queue_made_of f Client a refused e answer in (record { fits = answer; shows = made_shown a Client e h.shows made.runs made.number }, refl)

pub worker_changes : {c : CoreState} {f : Facts} (a : AgentId) (refused : Bool) {o : Outcome} → Sees c f → o ≡ queue_answer (not (has_one Worker a f)) f a refused → Change (action.Worker a) o → ShownAfter c f (action.Worker a) refused o
worker_changes {c} {f} a refused h answer (worker_made b e) = let made = queue_made_of f Worker a refused e answer in (record { fits = answer; shows = made_shown a Worker e h.shows made.runs made.number }, refl)

-- ---- Member

pub member_shown : (c : CoreState) (f : Facts) (a : AgentId) (name : List ℕ) (refused : Bool) (e : EndId) → Sees c f → outcome.End e ≡ member_answer f a refused → Stepped c.agents (c.ends ++ new_end a (Member a) ∷ []) f (action.Member a name) refused (outcome.End e)
member_shown c f a name refused e h answer =
    let made = member_made_of f a refused e answer in
    let shows = subst (λ kept. ShowsFacts kept (c.ends ++ new_end a (Member a) ∷ []) (one_made f a (Member a) e)) (uncounted c.agents (Member a) a (λ x. refl)) (made_shown a (Member a) e h.shows made.runs made.number) in
    record { fits = answer; shows = with_roster (next f (action.Member a name) (outcome.End e)).roster shows }

-- ==== Hop: what the core answers fits, and it shows the facts with the answered step.

-- ---- a line at the next queue

not_next : (l m : ℕ) (v : Envelope) → (v.line.0 ≡ l → v.epoch ≤ m) → (eqb v.line.0 l && eqb v.epoch (m + 1)) ≡ false
not_next l m v low = elim (eqb v.line.0 l) as (λ b. eqb v.line.0 l ≡ b → (b && eqb v.epoch (m + 1)) ≡ false) [
  | true ↦ λ is. let less : v.epoch ≤ m = low (eqb-true v.line.0 l is) in ne_eqb v.epoch (m + 1) (λ same. omega arith)
  | false ↦ λ is. refl
] refl

-- nothing was accepted of a line in the queue after the one where it stands
nothing_next : (x n : ℕ) (line : ℕ → LineNow) (l m : ℕ) → (line l).stand ≡ m → (vs : List Envelope) → AllByRecursion (IsOfEnd x n line) vs → count_in_queue l (m + 1) vs ≡ 0
nothing_next x n line l m is [] h = refl
nothing_next x n line l m is (v ∷ vs) h =
    ap (λ b. length (cond b (v ∷ filter (λ (u : Envelope). eqb u.line.0 l && eqb u.epoch (m + 1)) vs) (filter (λ (u : Envelope). eqb u.line.0 l && eqb u.epoch (m + 1)) vs)))
    (not_next l m v (λ same. subst (λ k. v.epoch ≤ k) (ap (λ i. (line i).stand) same ∙ is) h.0.epoch))
    ∙ nothing_next x n line l m is vs h.1

-- the line that goes on isn't inside
gone_inside : (old : ℕ → LineNow) (k bound l : ℕ) → (b : Bool) → eqb l k ≡ b → ((old k).phase ≡ Inside → ⊥) → ((old l).phase ≡ Inside → (old l).stand < bound) → (old l).phase ≡ Inside → cond b ((old l).stand + 1) (old l).stand < bound
gone_inside old k bound l true is out kept at = absurd (out (ap (λ i. (old i).phase) (sym (eqb-true l k is)) ∙ at))
gone_inside old k bound l false is out kept at = kept at

-- every end, with this line one further
gone_shown : {agents : List Agent} {ends : List End} {f : Facts} (s : Sender) (x : End) (y : Line) → SoundlyShows agents ends f → slice_get ends s.end.0 ≡ Some x → slice_get x.lines s.line.0 ≡ Some y → is_out (f.line s.end.0 s.line.0).phase ≡ true → (d : ℕ) → ShowsEnd (f.end d) (gone_line f s d) (f.clear d) (f.accepted d) (f.taken d ++ f.discarded d) (slice_get (set ends s.end.0 (with_line x s.line.0 (at_queue (y.epoch + 1) y))) d)
gone_shown {f} s x y h at is out =
    let e : ℕ = s.end.0 in
    let k : ℕ = s.line.0 in
    let shown = end_there e h at in
    let stand : (f.line e k).stand ≡ y.epoch = ap (λ (w : LineNow). w.stand) (shown.lines k ∙ ap line_now is) in
    line_changed s (λ b w. record w { stand = cond b (w.stand + 1) w.stand }) x y (record y { epoch = y.epoch + 1; put = 0 }) h at is refl (λ w. refl)
    (nothing_next e _ (f.line e) k y.epoch stand (f.accepted e) (h.sound.lines e).named)
    (λ l inside. gone_inside (f.line e) k (x.taker + length x.queues) l (eqb l k) refl (λ here. false≢true (sym (ap is_out here) ∙ out)) (shown.queues.inside l) inside)

-- ---- what is answered

pub hop_changes : {c : CoreState} {f : Facts} (s : Sender) (refused : Bool) {o : Outcome} → Sees c f → o ≡ hop_answer f s → Change (action.Hop s) o → ShownAfter c f (action.Hop s) refused o
hop_changes {c} {f} s refused h answer (hopped t k) =
    let hops = hopped_of f s k answer in
    let w = found_line s h.shows (line_there f s (h.shows.sound.lines s.end.0) hops.may) in
    let shown = end_there s.end.0 h.shows w.at in
    let one_on : k ≡ w.y.epoch + 1 = hops.number ∙ ap (λ (z : LineNow). z.stand + 1) (shown.lines s.line.0 ∙ ap line_now w.is) in (
      subst (λ es. Stepped c.agents es f (action.Hop s) refused (outcome.Hopped k)) (sym (line_set c.ends s (at_queue k) w ∙ ap (λ m. set c.ends s.end.0 (with_line w.x s.line.0 (at_queue m w.y))) one_on))
          (changed h.shows answer refl refl refl (length-set c.ends s.end.0 (with_line w.x s.line.0 (at_queue (w.y.epoch + 1) w.y)))
          (counts_still h.shows refl (λ d. refl) (λ d. refl) (λ a d l. refl)) (gone_shown s w.x w.y h.shows w.at w.is hops.out)),
      refl,
    )

-- ==== Hand: what the core answers fits, and it shows the facts with the answered step.

-- ---- an end that was handed on

-- the end with another place
abbrev moved_to : AgentId → End → End
moved_to b x = record x { place = Arrived b }

-- a queue has no poster of its own
queue_released : (f : Facts) (k : Option Kind) → is_queue k ≡ true → is_released f.line k ≡ true
queue_released f (Some (Port q)) h = absurd (false≢true h)
queue_released f _ h = refl

moved_shown : {agents : List Agent} {ends : List End} {f : Facts} (e : EndId) (b : AgentId) (refused : Bool) (x : End) → SoundlyShows agents ends f → slice_get ends e.0 ≡ Some x → outcome.Handed ≡ hand_answer f e b → Stepped (gone x.kind x.place agents) (set ends e.0 (moved_to b x)) f (action.Hand e b) refused outcome.Handed
moved_shown {agents} {ends} {f} e b refused x h at answer =
    let shown = end_there e.0 h at in
    recounted h answer refl refl
    (gone_length x.kind x.place agents) (gone_now x.kind x.place agents) (h.ends ∙ sym (length-set ends e.0 (moved_to b x)))
    (counted_went agents (end_went e.0 x (Some (Arrived b)) h.sound.places shown.same refl (λ d. refl) (λ d. refl)) (λ a. refl)
    (λ a y less. calm_gone a f (next f (action.Hand e b) outcome.Handed) e.0 (Some (Arrived b)) y h.sound.places refl (λ l. refl) (λ q. refl) (queue_released f (f.end e.0).kind (handed_of f e b answer).queue)) (counts_of h))
    (end_changed e.0 (λ c w. record w { place = cond c (Some (Arrived b)) w.place }) x (moved_to b x) h at (λ w. refl)
    (end_restated shown refl (ap (λ (w : EndNow). let v : EndNow = record w { place = Some (Arrived b) } in v) shown.same) refl (same_queues (Arrived b) x.is_enabled shown.queues)))

-- ---- what is answered

pub hand_changes : {c : CoreState} {f : Facts} (e : EndId) (b : AgentId) (refused : Bool) {o : Outcome} → Sees c f → o ≡ hand_answer f e b → Change (action.Hand e b) o → ShownAfter c f (action.Hand e b) refused o
hand_changes {c} {f} e b refused h answer (handed d a) =
    let found = found_end e.0 h.shows (λ none. false≢true (sym (ap (λ (z : EndNow). is_queue z.kind) none) ∙ (handed_of f e b answer).queue)) in
    (subst (λ q. Stepped (went q c.agents) (set_at e.0 c.ends (option_map (moved_to b) q)) f (action.Hand e b) refused outcome.Handed) (sym found.1) (moved_shown e b refused found.0 h.shows found.1 answer), refl)

-- ==== Adopt: what the core answers fits, and it shows the facts with the answered step.

-- ---- an end with a new queue

get_or-one_more : (queues : List (List Envelope)) (i : ℕ) → get_or (queues ++ [] ∷ []) i [] ≡ get_or queues i []
get_or-one_more [] zero = refl
get_or-one_more [] (suc i) = refl
get_or-one_more (q ∷ qs) zero = refl
get_or-one_more (q ∷ qs) (suc i) = get_or-one_more qs i

adopted_one : {now : EndNow} {line : ℕ → LineNow} {clear : ℕ → Bool} {vs ts : List Envelope} {x : End} (a : AgentId) → ShowsEnd now line clear vs ts (Some x) → ShowsEnd (record now { place = Some (With a); enabled = false; newest = now.newest + 1 }) line clear vs ts (Some (adopted_end a x))
adopted_one {line = line} {ts = ts} {x = x} a h =
    let more : length (x.queues ++ [] ∷ []) ≡ length x.queues + 1 = length-append x.queues ([] ∷ []) in
    end_restated h refl (ap (λ (e : EndNow). let d : EndNow = record e { place = Some (With a); enabled = false; newest = e.newest + 1 } in d) h.same) refl (record {
      reached = h.queues.reached;
      clear_below = h.queues.clear_below;
      count = λ opened. let many : x.taker + length x.queues ≡ x.newest + 1 = h.queues.count opened in omega arith;
      inside = λ l at. let within : (line l).stand < x.taker + length x.queues = h.queues.inside l at in omega arith;
      behind = h.queues.behind;
      each = λ i. h.queues.each i ∙ ap (λ q. in_queue (x.taker + i) ts ++ q) (sym (get_or-one_more x.queues i));
    })

adopted_shown : {agents : List Agent} {ends : List End} {f : Facts} (e : EndId) (a : AgentId) (refused : Bool) (x : End) (k : ℕ) → SoundlyShows agents ends f → slice_get ends e.0 ≡ Some x → outcome.Adopted k ≡ adopt_answer f e a refused → Stepped (change_at (adopting (is_released f.line (f.end e.0).kind) x.kind) a.0 agents) (set ends e.0 (adopted_end a x)) f (action.Adopt e a) refused (outcome.Adopted k)
adopted_shown {agents} {ends} {f} e a refused x k h at answer =
    let shown = end_there e.0 h at in
    let known : a.0 < f.agents = running_made f a h.sound.places (adopted_of f e a refused k answer).runs in
    let arrived : (f.end e.0).place ≡ Some (Arrived a) = (adopted_of f e a refused k answer).arrived in
    let nowhere : (c : AgentId) → is_with c (Some x.place) ≡ false = λ c. ap (is_with c) (sym (ap (λ (y : EndNow). y.place) shown.same) ∙ arrived) in
    recounted h answer refl refl
    (change_length (adopting (is_released f.line (f.end e.0).kind) x.kind) agents a.0) (adopted_now (is_released f.line (f.end e.0).kind) x.kind agents a) (h.ends ∙ sym (length-set ends e.0 (adopted_end a x)))
    (counted_came agents (is_released f.line (f.end e.0).kind) (end_went e.0 x (Some (With a)) h.sound.places shown.same refl (λ d. refl) (λ d. refl)) h.sound.places.few (omega (arith, h.agents)) nowhere
    (λ c. came_away c a f (next f (action.Adopt e a) (outcome.Adopted k)) e.0 h.sound.places (placed_made f e.0 x.place h.sound.places (ap (λ (y : EndNow). y.place) shown.same)) refl (λ d. refl) (λ d l. refl) (λ q. refl) (ap (is_with c) arrived) (f.end e.0).kind refl) (counts_of h))
    (end_changed e.0 (λ b w. record w { place = cond b (Some (With a)) w.place; enabled = cond b false w.enabled; newest = cond b (w.newest + 1) w.newest }) x (adopted_end a x) h at (λ w. refl) (adopted_one a shown))

-- ---- what is answered

pub adopt_changes : {c : CoreState} {f : Facts} (e : EndId) (a : AgentId) (refused : Bool) {o : Outcome} → Sees c f → o ≡ adopt_answer f e a refused → Change (action.Adopt e a) o → ShownAfter c f (action.Adopt e a) refused o
adopt_changes {c} {f} e a refused h answer (adopted d b k) =
    let found = found_end e.0 h.shows (λ none. let placed : None ≡ Some (Arrived a) = sym (ap (λ (z : EndNow). z.place) none) ∙ (adopted_of f e a refused k answer).arrived in absurd (search (rules, placed))) in (
      subst (λ r. Stepped (adopted_agents r a (slice_get c.ends e.0) c.agents) (set_at e.0 c.ends (option_map (adopted_end a) (slice_get c.ends e.0))) f (action.Adopt e a) refused (outcome.Adopted k)) (sym (ap (λ g. is_released g.line (g.end e.0).kind) (seen_is h)))
          (subst (λ q. Stepped (adopted_agents (is_released f.line (f.end e.0).kind) a q c.agents) (set_at e.0 c.ends (option_map (adopted_end a) q)) f (action.Adopt e a) refused (outcome.Adopted k)) (sym found.1) (adopted_shown e a refused found.0 k h.shows found.1 answer)),
      refl,
    )

-- ==== Close: what the core answers fits, and it shows the facts with the answered step.

-- ---- a closed end

shut_one : {now : EndNow} {line : ℕ → LineNow} {clear : ℕ → Bool} {vs ts : List Envelope} {x : End} → ShowsEnd now line clear vs ts (Some x) → ShowsEnd (record now { closed = true; place = Some Gone }) line clear vs ts (Some (closed_end x))
shut_one h = end_restated h refl (ap (λ (e : EndNow). let d : EndNow = record e { closed = true; place = Some Gone } in d) h.same) refl
    (record { reached = h.queues.reached; clear_below = h.queues.clear_below; count = λ opened. absurd (false≢true (sym opened)); inside = h.queues.inside; behind = h.queues.behind; each = h.queues.each })

shut_shown : {agents : List Agent} {ends : List End} {f : Facts} (e : EndId) (refused : Bool) (x : End) → SoundlyShows agents ends f → slice_get ends e.0 ≡ Some x → outcome.Done ≡ close_answer f e → Stepped (gone x.kind x.place agents) (set ends e.0 (closed_end x)) f (action.Close e) refused outcome.Done
shut_shown {agents} {ends} {f} e refused x h at answer =
    let shown = end_there e.0 h at in
    recounted h answer refl refl
    (gone_length x.kind x.place agents) (gone_now x.kind x.place agents) (h.ends ∙ sym (length-set ends e.0 (closed_end x)))
    (counted_went agents (end_went e.0 x (Some Gone) h.sound.places shown.same refl (λ d. refl) (λ d. refl)) (λ a. refl)
    (λ a y less. calm_gone a f (next f (action.Close e) outcome.Done) e.0 (Some Gone) y h.sound.places refl (λ l. refl) (λ q. refl) (closed_of f e answer).released) (counts_of h))
    (end_changed e.0 (λ b w. record w { closed = cond b true w.closed; place = cond b (Some Gone) w.place }) x (closed_end x) h at (λ w. refl) (shut_one shown))

-- ---- what is answered

pub close_changes : {c : CoreState} {f : Facts} (e : EndId) (refused : Bool) {o : Outcome} → Sees c f → o ≡ close_answer f e → Change (action.Close e) o → ShownAfter c f (action.Close e) refused o
close_changes {c} {f} e refused h answer (end_closed d) =
    let found = found_end e.0 h.shows (λ none. false≢true (sym (ap (λ (z : EndNow). is_here z.place) none) ∙ (closed_of f e answer).here)) in
    (subst (λ q. Stepped (went q c.agents) (set_at e.0 c.ends (option_map closed_end q)) f (action.Close e) refused outcome.Done) (sym found.1) (shut_shown e refused found.0 h.shows found.1 answer), refl)
