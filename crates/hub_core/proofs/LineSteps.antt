-- What the core answers to Enter, Leave, Line, Back, Order, See, Push and Notice fits, and it shows the facts with the answered step.
use Rattle.std.proofs.Common.{Bool, List, None, Option, Some, [], ap, append_assoc, arith, cond, eqb, false, get_or, inl, inr, leb-true, length, length-append, length-set, lt-ltb, ltb-true, nat_le, nat_lt, ne_eqb, not, refl, rules, set, subst, suc, sym, true, zero, ℕ, ⊎_elim, ◌&&◌, ◌++◌, ◌+◌, ◌-◌, ◌<◌, ◌||◌, ◌∙◌, ◌∷◌, ◌≡◌, ◌≤◌}
use Rattle.hub_core.proofs.Words.{Acceptance, Action, Agent, AgentId, AgentNow, Answers, CoreState, End, EndId, EndNow, Envelope, Facts, InFlight, Inside, Kind, Line, LineNow, MAX_LINES, Member, Out, Outcome, Phase, Place, Port, Sender, ShowsEnd, ShowsFacts, ShowsPut, Sound, Turned, With, change_at, set_at, counted, accept_ends, agent_now, and_parts, any_below, cases_eq, cases_lt, cast_after, change_line, change_owner, count_away, count_in_queue, end_moved, end_now, eqb-true, false≢true, filter}
use Rattle.hub_core.proofs.Words.{filter-append, first_failing, first_free, free_line, has_away, has_queue, held_by, if◌then◌else◌, in_phase, in_queue, is_away_of, is_holder, is_inside, is_out, is_posting, is_queue, is_some, kept_away, kept_lines, le-leb, line_found, line_now, lines_of, may_enter, moved_ends, named_envelope, named_notice, names, no_line, option_map, owner, owner_by, peer_of, phase_of_line, position, position_from, position_from-zero}
use Rattle.hub_core.proofs.Words.{posting_at, posting_line, put_end, seen, slice_get, slice_get_within, total, with_agent, first_line, line_of, may_put, option_and_then, put_there, unwrap_or, count_of, get_or-set_other, get_or-set_same}
use Rattle.hub_core.specs.Legal.{back_answer, line_answer, order_answer, see_answer}
use Rattle.hub_core.specs.Posting.{enter_answer, leave_answer, notice_answer, push_answer}
use Rattle.hub_core.proofs.Counts.{Counted, away_at, calm_held, calm_sent, change_each, change_get, change_length, counted_entered, counted_left, counted_ports, counts_of, counts_still, free_out, none_counted, owner_length, owner_now_away, owner_now_out, phase_away, same_count}
use Rattle.hub_core.proofs.Casts.{recast}
use Rattle.hub_core.proofs.Frames.{FoundLine, ShownAfter, ShownAt, ShownWith, Stepped, changed, end_restated, end_there, found_line, line_changed, line_set, recounted, same_queues}
use Rattle.hub_core.proofs.Nexts.{Entered, back_of, first_failing_of, found_closed_of, found_moved_of, hit, left_of, let_in_of, line_got_of, noticed_of, pushed_of, pass, Change, agent_ended, agent_ordered, found_closed, found_moved, left, let_in, line_back, line_got, next, notice_put, put}
use Rattle.hub_core.proofs.Seeing.{Sees, SoundlyShows, seen_is}
use Rattle.hub_core.proofs.SoundLines.{LinesAt, held_line_as, line_there, phased_line, queue_lines, told_line, inside_of}
use Rattle.hub_core.proofs.Speakers.{hears_of, made_of, no_member, no_port, placed_made, running_made, travels, with_found}
use Rattle.hub_core.proofs.Totals.{bit}
use Rattle.hub_core.proofs.Items.{each_set, eqb_same, got_there, is_there}
use Rattle.hub_core.proofs.SoundPlaces.{some_own}
use Rattle.hub_core.proofs.Waits.{queue_more, queue_other}
use Rattle.hub_core.specs.declared.step.Outcome.TheVariants as outcome
use Rattle.hub_core.specs.declared.step.Action.TheVariants as action

-- ==== Enter and Leave: what the core answers fits, and it shows the facts with the answered step.

-- ---- a line in another phase

-- the end with a line in this phase
abbrev pub with_phase : End → Line → ℕ → Phase → End
with_phase x y k p = record x { lines = set x.lines k (record y { phase = p }) }

-- a line that is inside is at a queue that is kept
phased_inside : (old : ℕ → LineNow) (k bound : ℕ) (p : Phase) (l : ℕ) → (b : Bool) → eqb l k ≡ b → (p ≡ Inside → (old k).stand < bound) → ((old l).phase ≡ Inside → (old l).stand < bound) → cond b p (old l).phase ≡ Inside → (old l).stand < bound
phased_inside old k bound p l true is may kept at = subst (λ i. (old i).stand < bound) (sym (eqb-true l k is)) (may at)
phased_inside old k bound p l false is may kept at = kept at

-- every end, with this line in this phase
pub phased_shown : {agents : List Agent} {ends : List End} {f : Facts} (s : Sender) (p : Phase) (x : End) (y : Line) → SoundlyShows agents ends f → slice_get ends s.end.0 ≡ Some x → slice_get x.lines s.line.0 ≡ Some y → (p ≡ Inside → (f.line s.end.0 s.line.0).stand < x.taker + length x.queues) → (d : ℕ) → ShowsEnd (f.end d) (phased_line f s p d) (f.clear d) (f.accepted d) (f.taken d ++ f.discarded d) (slice_get (set ends s.end.0 (with_phase x y s.line.0 p)) d)
phased_shown {f} s p x y h at is may =
    let shown = end_there s.end.0 h at in
    line_changed s (λ b w. record w { phase = cond b p w.phase }) x y (record y { phase = p }) h at is refl (λ w. refl) (subst (ShowsPut (f.accepted s.end.0) s.line.0) is (shown.put s.line.0))
    (λ l inside. phased_inside (f.line s.end.0) s.line.0 (x.taker + length x.queues) p l (eqb l s.line.0) refl may (shown.queues.inside l) inside)

-- ---- Enter

-- every line of an open end stands at a queue that is kept
stand_kept : (f : Facts) (e l : ℕ) (x : End) → Sound f → ShownAt f e (Some x) → (f.end e).closed ≡ false → (f.line e l).stand < x.taker + length x.queues
stand_kept f e l x s h opened =
    let within : (f.line e l).stand ≤ (f.end e).newest = (s.lines e).stand l in
    let newest : (f.end e).newest ≡ x.newest = ap (λ (z : EndNow). z.newest) h.same in
    let count : x.taker + length x.queues ≡ x.newest + 1 = h.queues.count (sym (ap (λ (z : EndNow). z.closed) h.same) ∙ opened) in
    omega arith

-- an agent that holds a line that may be entered was made
held_made : {agents : List Agent} {ends : List End} {f : Facts} (s : Sender) → SoundlyShows agents ends f → is_queue (f.end s.end.0).kind ≡ true → may_enter f s ≡ true → (b : AgentId) → (f.line s.end.0 s.line.0).held_by ≡ Some b → b.0 < length agents
held_made {agents} {f} s h queue may b is = elim (hears_of f s may) [
  | inl k ↦ absurd (no_port (f.end s.end.0).kind k.peer queue k.entangled)
  | inr other ↦ elim other [
    | inl k ↦
        let same : k.agent ≡ b = search (rules, sym k.held ∙ is) in
        let made : k.agent.0 < f.agents = running_made f k.agent h.sound.places k.runs in
        subst (λ (c : AgentId). c.0 < length agents) same (omega (arith, h.agents))
    | inr k ↦ absurd (no_member (f.end s.end.0).kind k.1.maker queue k.1.member)
  ]
]

-- so was the owner
port_owner : (first : Bool) (p : Option Place) (b : AgentId) → cond first (with_agent p) None ≡ Some b → p ≡ Some (With b)
port_owner true p b is = with_found p b is
port_owner false p b is = absurd (search (rules, is))

owner_made : {agents : List Agent} {ends : List End} {f : Facts} (s : Sender) → SoundlyShows agents ends f → (k : Option Kind) → (f.end s.end.0).kind ≡ k → may_enter f s ≡ true → (b : AgentId) → owner_by f.end s.line.0 (f.line s.end.0 s.line.0).held_by k ≡ Some b → b.0 < length agents
owner_made {agents} {f} s h (Some (Port q)) kind may b is =
    let made : b.0 < f.agents = h.sound.places.with_made q.0 b (port_owner (eqb s.line.0 0) (f.end q.0).place b is) in
    omega (arith, h.agents)
owner_made s h (Some (Member a)) kind may b is = absurd (search (rules, is))
owner_made s h None kind may b is = absurd (search (rules, is))
owner_made {agents} {ends} {f} s h _ kind may b is = held_made s h (ap is_queue kind) may b is

-- one poster more is away, of the line's owner
entered_counts : {agents : List Agent} {ends : List End} {f : Facts} (s : Sender) (x : End) (p : Phase) → SoundlyShows agents ends f → ShownAt f s.end.0 (Some x) → Entered f s → is_out p ≡ false → Counted (change_owner (counted Inside) (owner f s.end.0 s.line.0) agents) (record f { line = phased_line f s p })
entered_counts {agents} {ends} {f} s x p h shown entered away =
    let g : Facts = record f { line = phased_line f s p } in
    let kind : (f.end s.end.0).kind ≡ Some x.kind = ap (λ (z : EndNow). z.kind) shown.same in
    let low : s.line.0 < lines_of (f.end s.end.0).kind = line_there f s (h.sound.lines s.end.0) entered.may in
    let made : s.end.0 < f.ends = made_of f s.end.0 h.sound.places.ends (λ none. absurd (search (rules, sym (ap (λ (z : EndNow). z.kind) none) ∙ kind))) in
    counted_entered agents f g (owner f s.end.0 s.line.0) h.sound.places.few (owner_made s h (f.end s.end.0).kind refl entered.may) refl (λ d. refl) (λ d. refl) (λ a.
    let sum : count_away a f + bit (not (is_out p) && is_holder a (owner f s.end.0 s.line.0)) ≡ count_away a g + bit (is_away_of f a s.end.0 s.line.0) = phase_away a f g s p made low refl (λ d. refl) (λ d. refl) (λ d l. refl) (λ d l. refl) in
    let new : bit (not (is_out p) && is_holder a (owner f s.end.0 s.line.0)) ≡ bit (is_holder a (owner f s.end.0 s.line.0)) = ap (λ b. bit (not b && is_holder a (owner f s.end.0 s.line.0))) away in
    let old : bit (is_away_of f a s.end.0 s.line.0) ≡ 0 = ap (λ b. bit (not b && is_holder a (owner f s.end.0 s.line.0))) entered.out in
    omega arith) (counts_of h)

counted_away : (p : Phase) → is_out p ≡ false → counted p ≡ counted Inside
counted_away Out away = absurd (false≢true (sym away))
counted_away _ away = refl

-- the poster of a line that may be entered is in another phase, and one more is away of its owner
came_shown : (c : CoreState) (f : Facts) (s : Sender) (refused : Bool) (p : Phase) (o : Outcome) → Sees c f → o ≡ enter_answer f s → Entered f s → is_out p ≡ false → (p ≡ Inside → (f.end s.end.0).closed ≡ false)
    → next f (action.Enter s) o ≡ (let g : Facts = record f { line = phased_line f s p } in g) → Stepped (change_owner (counted p) (owner (seen c) s.end.0 s.line.0) c.agents) (change_line (in_phase p) s c.ends) f (action.Enter s) refused o
came_shown c f s refused p o h answer entered away opened after =
    let w = found_line s h.shows (line_there f s (h.shows.sound.lines s.end.0) entered.may) in
    let shown = end_there s.end.0 h.shows w.at in
    let g : Facts = record f { line = phased_line f s p } in
    subst (λ change. Stepped (change_owner change (owner (seen c) s.end.0 s.line.0) c.agents) (change_line (in_phase p) s c.ends) f (action.Enter s) refused o) (sym (counted_away p away))
    (subst (λ q. Stepped (change_owner (counted Inside) q c.agents) (change_line (in_phase p) s c.ends) f (action.Enter s) refused o) (sym (ap (λ g. owner g s.end.0 s.line.0) (seen_is h)))
    (subst (λ es. Stepped (change_owner (counted Inside) (owner f s.end.0 s.line.0) c.agents) es f (action.Enter s) refused o) (sym (line_set c.ends s (in_phase p) w))
    (recounted h.shows answer (ap (λ (k : Facts). k.agents) after) (ap (λ (k : Facts). k.agent) after) (owner_length (counted Inside) (owner f s.end.0 s.line.0) c.agents) (owner_now_away (owner f s.end.0 s.line.0) c.agents)
    (ap (λ (k : Facts). k.ends) after ∙ h.shows.ends ∙ sym (length-set c.ends s.end.0 (with_phase w.x w.y s.line.0 p)))
    (subst (Counted (change_owner (counted Inside) (owner f s.end.0 s.line.0) c.agents)) (sym after) (entered_counts s w.x p h.shows shown entered away))
    (λ d. subst (λ k. ShownAt k d (slice_get (set c.ends s.end.0 (with_phase w.x w.y s.line.0 p)) d)) (sym after) (phased_shown s p w.x w.y h.shows w.at w.is (λ in_side. stand_kept f s.end.0 s.line.0 w.x h.shows.sound shown (opened in_side)) d)))))

pub enter_changes : {c : CoreState} {f : Facts} (s : Sender) (refused : Bool) {o : Outcome} → Sees c f → o ≡ enter_answer f s → Change (action.Enter s) o → ShownAfter c f (action.Enter s) refused o
enter_changes {c} {f} s refused h answer (let_in t) = (came_shown c f s refused Inside outcome.In h answer (let_in_of f s answer).0 refl (λ _. (let_in_of f s answer).2) refl, refl)
enter_changes {c} {f} s refused h answer (found_moved t) = (came_shown c f s refused Turned outcome.Moved h answer (found_moved_of f s answer).0 refl (λ no. cc) refl, refl)
enter_changes {c} {f} s refused h answer (found_closed t) = (came_shown c f s refused Turned outcome.Closed h answer (found_closed_of f s answer).0 refl (λ no. cc) refl, refl)

-- ---- Leave

-- one poster less is away, of the line's owner
left_counts : {agents : List Agent} {ends : List End} {f : Facts} (s : Sender) (x : End) → SoundlyShows agents ends f → ShownAt f s.end.0 (Some x) → is_out (f.line s.end.0 s.line.0).phase ≡ false → Counted (change_owner (counted Out) (owner f s.end.0 s.line.0) agents) (next f (action.Leave s) outcome.Left)
left_counts {agents} {f} s x h shown away =
    let g : Facts = next f (action.Leave s) outcome.Left in
    let kind : (f.end s.end.0).kind ≡ Some x.kind = ap (λ (z : EndNow). z.kind) shown.same in
    let low : s.line.0 < lines_of (f.end s.end.0).kind = line_there f s (h.sound.lines s.end.0) (h.sound.places.away s away) in
    let made : s.end.0 < f.ends = made_of f s.end.0 h.sound.places.ends (λ none. absurd (search (rules, sym (ap (λ (z : EndNow). z.kind) none) ∙ kind))) in
    counted_left agents f g (owner f s.end.0 s.line.0) refl (λ d. refl) (λ d. refl) (λ a.
    let sum : count_away a f + bit (not (is_out Out) && is_holder a (owner f s.end.0 s.line.0)) ≡ count_away a g + bit (is_away_of f a s.end.0 s.line.0) = phase_away a f g s Out made low refl (λ d. refl) (λ d. refl) (λ d l. refl) (λ d l. refl) in
    let old : bit (is_away_of f a s.end.0 s.line.0) ≡ bit (is_holder a (owner f s.end.0 s.line.0)) = ap (λ b. bit (not b && is_holder a (owner f s.end.0 s.line.0))) away in
    omega arith) (counts_of h)

left_shown : (c : CoreState) (f : Facts) (s : Sender) (refused : Bool) → Sees c f → outcome.Left ≡ leave_answer f s → Stepped (change_owner (counted Out) (owner (seen c) s.end.0 s.line.0) c.agents) (change_line (in_phase Out) s c.ends) f (action.Leave s) refused outcome.Left
left_shown c f s refused h answer =
    let away = left_of f s answer in
    let w = found_line s h.shows (line_there f s (h.shows.sound.lines s.end.0) (h.shows.sound.places.away s away)) in
    subst (λ q. Stepped (change_owner (counted Out) q c.agents) (change_line (in_phase Out) s c.ends) f (action.Leave s) refused outcome.Left) (sym (ap (λ g. owner g s.end.0 s.line.0) (seen_is h)))
    (subst (λ es. Stepped (change_owner (counted Out) (owner f s.end.0 s.line.0) c.agents) es f (action.Leave s) refused outcome.Left) (sym (line_set c.ends s (in_phase Out) w))
    (recounted h.shows answer refl refl (owner_length (counted Out) (owner f s.end.0 s.line.0) c.agents) (owner_now_out (owner f s.end.0 s.line.0) c.agents)
    (h.shows.ends ∙ sym (length-set c.ends s.end.0 (with_phase w.x w.y s.line.0 Out))) (left_counts s w.x h.shows (end_there s.end.0 h.shows w.at) away) (phased_shown s Out w.x w.y h.shows w.at w.is (λ no. cc))))

pub leave_changes : {c : CoreState} {f : Facts} (s : Sender) (refused : Bool) {o : Outcome} → Sees c f → o ≡ leave_answer f s → Change (action.Leave s) o → ShownWith c f (action.Leave s) refused o
leave_changes {c} {f} s refused h answer (left t) = (left_shown c f s refused h answer, (recast c.roster (cast_after s.end.0 c.roster.cast) f (next f (action.Leave s) outcome.Left) h.roster refl (λ x k is. is) (λ x a is. is) refl (ap (cast_after s.end.0) h.roster.cast)))

-- ==== Line and Back: what the core answers fits, and it shows the facts with the answered step.

-- ---- a line with another holder

-- the end with a line that this agent holds, or none
abbrev with_holder : End → Line → ℕ → Option AgentId → End
with_holder x y l holder = record x { lines = set x.lines l (record y { held_by = holder }) }

-- every end, with this holder of the line
held_shown : {agents : List Agent} {ends : List End} {f : Facts} (s : Sender) (holder : Option AgentId) (x : End) (y : Line) → SoundlyShows agents ends f → slice_get ends s.end.0 ≡ Some x → slice_get x.lines s.line.0 ≡ Some y → (d : ℕ) → ShowsEnd (f.end d) (held_line_as f s holder d) (f.clear d) (f.accepted d) (f.taken d ++ f.discarded d) (slice_get (set ends s.end.0 (with_holder x y s.line.0 holder)) d)
held_shown {f} s holder x y h at is =
    let shown = end_there s.end.0 h at in
    line_changed s (λ b w. record w { held_by = cond b holder w.held_by }) x y (record y { held_by = holder }) h at is refl (λ w. refl) (subst (ShowsPut (f.accepted s.end.0) s.line.0) is (shown.put s.line.0)) shown.queues.inside

-- ---- the first line that no agent holds

abbrev is_free : Line → Bool
is_free y = not (is_some y.held_by)

free_step : (b : Bool) (p q : Option ℕ) (k : ℕ) → p ≡ q → cond b p (Some k) ≡ cond (not b) (Some k) q
free_step true p q k same = same
free_step false p q k same = refl

free_from : (test : ℕ → Bool) (ys : List Line) (k : ℕ) → ((i : ℕ) (y : Line) → slice_get ys i ≡ Some y → test (k + i) ≡ is_some y.held_by) → first_failing test k (length ys) ≡ position_from is_free k ys
free_from test [] k same = refl
free_from test (y ∷ ys) k same =
    let first : k + 0 ≡ k = omega arith in
    let here : test k ≡ is_some y.held_by = ap test (sym first) ∙ same 0 y refl in
    let rest : first_failing test (k + 1) (length ys) ≡ position_from is_free (k + 1) ys = free_from test ys (k + 1) (λ i z at. let one : k + 1 + i ≡ k + suc i = omega arith in ap test one ∙ same (suc i) z at) in
    ap (λ b. cond b (first_failing test (k + 1) (length ys)) (Some k)) here ∙ free_step (is_some y.held_by) (first_failing test (k + 1) (length ys)) (position_from is_free (k + 1) ys) k rest

-- what is found, within the lines
within_lines : (q : Option ℕ) → ((l : ℕ) → q ≡ Some l → l < MAX_LINES) → option_and_then (λ l. cond (nat_lt l MAX_LINES) (Some l) None) q ≡ q
within_lines None less = refl
within_lines (Some l) less = ap (λ b. cond b (Some l) None) (lt-ltb l MAX_LINES (less l refl))

free_line_kept : (f : Facts) (e : ℕ) (o : Option End) → ShownAt f e o → is_queue (f.end e).kind ≡ true → first_free (kept_lines o) ≡ free_line f e
free_line_kept f e o h queue =
    let many : length (kept_lines o) ≡ MAX_LINES = h.count ∙ queue_lines (f.end e).kind queue in
    let held : first_failing (λ l. is_some (f.line e l).held_by) 0 (length (kept_lines o)) ≡ position_from is_free 0 (kept_lines o) = free_from (λ l. is_some (f.line e l).held_by) (kept_lines o) 0 (λ i y at. let none_more : 0 + i ≡ i = omega arith in ap (λ n. is_some (f.line e n).held_by) none_more ∙ ap (λ (z : LineNow). is_some z.held_by) (h.lines i ∙ ap line_now at)) in
    let same : position is_free (kept_lines o) ≡ free_line f e = position_from-zero is_free (kept_lines o) ∙ sym held ∙ ap (first_failing (λ l. is_some (f.line e l).held_by) 0) many in
    ap (option_and_then (λ l. cond (nat_lt l MAX_LINES) (Some l) None)) same ∙ within_lines (free_line f e) (λ l is.
    let found = first_failing_of (λ i. is_some (f.line e i).held_by) 0 MAX_LINES l is in
    let below : l < 0 + MAX_LINES = found.below in
    omega arith)

-- ---- Line

line_fits_at : (f : Facts) (e : EndId) (a : AgentId) (o : Option End) → ShownAt f e.0 o → line_answer (first_free (kept_lines o)) f e a ≡ line_answer (free_line f e.0) f e a
line_fits_at f e a o shown = elim (is_queue (f.end e.0).kind) as (λ b. is_queue (f.end e.0).kind ≡ b → cond (not (f.agent a.0).runs) outcome.NotNow (cond (not b) outcome.NoSuchEnd (line_found (first_free (kept_lines o)))) ≡ cond (not (f.agent a.0).runs) outcome.NotNow (cond (not b) outcome.NoSuchEnd (line_found (free_line f e.0)))) [
  | true ↦ λ queue. ap (λ q. cond (not (f.agent a.0).runs) outcome.NotNow (line_found q)) (free_line_kept f e.0 o shown queue)
  | false ↦ λ _. refl
] refl

pub line_fits : {c : CoreState} {f : Facts} (e : EndId) (a : AgentId) → Sees c f → line_answer (first_free (kept_lines (slice_get c.ends e.0))) (seen c) e a ≡ line_answer (free_line f e.0) f e a
line_fits {c} {f} e a h = ap (λ g. line_answer (first_free (kept_lines (slice_get c.ends e.0))) g e a) (seen_is h) ∙ line_fits_at f e a (slice_get c.ends e.0) (h.shows.end e.0)

-- a line with this holder, or with none
holder_shown : (c : CoreState) (f : Facts) (s : Sender) (holder : Option AgentId) (a : Action) (refused : Bool) (o : Outcome) → Sees c f → Answers f a refused o → s.line.0 < lines_of (f.end s.end.0).kind → is_out (f.line s.end.0 s.line.0).phase ≡ true
    → next f a o ≡ (let g : Facts = record f { line = held_line_as f s holder } in g) → Stepped c.agents (change_line (held_by holder) s c.ends) f a refused o
holder_shown c f s holder a refused o h answer low out after =
    let w = found_line s h.shows low in
    let g : Facts = record f { line = held_line_as f s holder } in
    subst (λ es. Stepped c.agents es f a refused o) (sym (line_set c.ends s (held_by holder) w))
    (changed h.shows answer (ap (λ (k : Facts). k.agents) after) (ap (λ (k : Facts). k.agent) after) (ap (λ (k : Facts). k.ends) after) (length-set c.ends s.end.0 (with_holder w.x w.y s.line.0 holder))
    (subst (Counted c.agents) (sym after) (counts_still h.shows refl (λ d. refl) (λ d. refl) (λ b. calm_held b f g s holder out (λ d. refl) (λ d. refl) (λ d i. refl) (λ d i. refl))))
    (λ d. subst (λ k. ShownAt k d (slice_get (set c.ends s.end.0 (with_holder w.x w.y s.line.0 holder)) d)) (sym after) (held_shown s holder w.x w.y h.shows w.at w.is d)))

pub line_changes : {c : CoreState} {f : Facts} (e : EndId) (a : AgentId) (refused : Bool) {o : Outcome} → Sees c f → o ≡ line_answer (free_line f e.0) f e a → Change (action.Line e a) o → ShownAfter c f (action.Line e a) refused o
line_changes {c} {f} e a refused h answer (line_got d b l) =
    let s : Sender = record { end = e; line = l } in
    let gets = line_got_of f e a l answer in
    let many : lines_of (f.end e.0).kind ≡ MAX_LINES = queue_lines (f.end e.0).kind gets.queue in
    let low : l.0 < MAX_LINES = gets.low in
    (holder_shown c f s (Some a) (action.Line e a) refused (outcome.Line l) h answer (omega arith) (free_out f s h.shows.sound.places gets.queue gets.free) refl, refl)

-- ---- Back

-- a line that an agent holds is there
held_there : (f : Facts) (s : Sender) → LinesAt f s.end.0 → is_some (f.line s.end.0 s.line.0).held_by ≡ true → s.line.0 < lines_of (f.end s.end.0).kind
held_there f s lines held = ⊎_elim (λ low. low) (λ past. absurd (false≢true (sym (ap (λ (z : LineNow). is_some z.held_by) (lines.none s.line.0 past)) ∙ held))) (cases_lt s.line.0 (lines_of (f.end s.end.0).kind))

pub back_changes : {c : CoreState} {f : Facts} (s : Sender) (refused : Bool) {o : Outcome} → Sees c f → o ≡ back_answer f s → Change (action.Back s) o → ShownAfter c f (action.Back s) refused o
back_changes {c} {f} s refused h answer (line_back t) =
    let back = back_of f s answer in
    (holder_shown c f s None (action.Back s) refused outcome.Done h answer (held_there f s (h.shows.sound.lines s.end.0) back.0) back.1 refl, refl)

-- ==== Order and See: what the core answers fits, and it shows the facts with the answered step.

-- ---- an agent that was ordered, and one that runs no more

-- each agent, one of them changed
now_each : (agents : List Agent) (f : Facts) (a c : ℕ) (change : Agent → Agent) (new : Bool → AgentNow → AgentNow) → ((b : ℕ) → f.agent b ≡ agent_now (slice_get agents b)) → (x : Agent) → slice_get agents a ≡ Some x → new true (agent_now (Some x)) ≡ agent_now (Some (change x)) → ((w : AgentNow) → new false w ≡ w) → new (eqb c a) (f.agent c) ≡ agent_now (slice_get (change_at change a agents) c)
now_each agents f a c change new h x at mine other = elim (eqb c a) as (λ b. eqb c a ≡ b → new b (f.agent c) ≡ agent_now (cond b (option_map change (slice_get agents c)) (slice_get agents c))) [
  | true ↦ λ is. let here : slice_get agents c ≡ Some x = ap (slice_get agents) (eqb-true c a is) ∙ at in ap (new true) (h c ∙ ap agent_now here) ∙ mine ∙ sym (ap (λ o. agent_now (option_map change o)) here)
  | false ↦ λ _. other (f.agent c) ∙ h c
] refl ∙ ap agent_now (sym (change_get change agents a c))

-- the facts with one agent changed, where all that is counted stays the same
agent_set : (c : CoreState) (f : Facts) (a : ℕ) (change : Agent → Agent) (new : Bool → AgentNow → AgentNow) (x : Agent) → Sees c f → slice_get c.agents a ≡ Some x → new true (agent_now (Some x)) ≡ agent_now (Some (change x)) → ((w : AgentNow) → new false w ≡ w)
    → ((z : Agent) → (change z).clients ≡ z.clients) → ((z : Agent) → (change z).workers ≡ z.workers) → ((z : Agent) → (change z).away ≡ z.away) → ShowsFacts (change_at change a c.agents) c.ends (record f { agent = λ d. new (eqb d a) (f.agent d) })
agent_set c f a change new x h at mine other clients workers away = record {
  agents = h.shows.agents ∙ sym (change_length change c.agents a);
  agent = λ d. now_each c.agents f a d change new h.shows.agent x at mine other;
  ends = h.shows.ends;
  end = h.shows.end;
  queues = λ j d. change_each (count_of j) change c.agents a d.0 (λ z. same_count j z (change z) (clients z) (workers z)) ∙ h.shows.queues j d;
  away = λ d. change_each kept_away change c.agents a d.0 away ∙ h.shows.away d;
}

-- ---- Order

pub order_changes : {c : CoreState} {f : Facts} (a : AgentId) (refused : Bool) {o : Outcome} → Sees c f → o ≡ order_answer f a → Change (action.Order a) o → ShownAfter c f (action.Order a) refused o
order_changes {c} {f} a refused h answer (agent_ordered b) =
    let known : a.0 < f.agents = ltb-true a.0 f.agents (hit (nat_lt a.0 f.agents) answer (λ is. cc)).0 in
    let found = got_there c.agents a.0 (omega (arith, h.shows.agents)) in
    (record { fits = answer; shows = agent_set c f a.0 (λ z. record z { is_ordered = true }) (λ b w. record w { ordered = cond b true w.ordered }) found.0 h found.1 refl (λ w. refl) (λ z. refl) (λ z. refl) (λ z. refl) }, refl)

-- ---- See

none_both : (p q : ℕ) → eqb (p + q) 0 ≡ (eqb p 0 && eqb q 0)
none_both zero q = let same : 0 + q ≡ q = omega arith in ap (λ n. eqb n 0) same
none_both (suc p) q = ne_eqb (suc p + q) 0 (λ is. omega arith) ∙ sym (ap (λ b. b && eqb q 0) (ne_eqb (suc p) 0 (λ is. omega arith)))

neither : (b c : Bool) → (not b && not c) ≡ not (b || c)
neither true c = refl
neither false c = refl

-- no poster of the agent is away where the count is nothing
none_away_below : (f : Facts) (a : AgentId) (n : ℕ) → eqb (total (away_at a f) n) 0 ≡ not (any_below (λ x. any_below (is_away_of f a x) (lines_of (f.end x).kind)) n)
none_away_below f a zero = refl
none_away_below f a (suc n) =
    none_both (total (away_at a f) n) (away_at a f n)
    ∙ ap (λ b. b && eqb (away_at a f n) 0) (none_away_below f a n)
    ∙ ap (λ b. not (any_below (λ x. any_below (is_away_of f a x) (lines_of (f.end x).kind)) n) && b) (none_counted (is_away_of f a n) (lines_of (f.end n).kind))
    ∙ neither (any_below (λ x. any_below (is_away_of f a x) (lines_of (f.end x).kind)) n) (any_below (is_away_of f a n) (lines_of (f.end n).kind))

pub see_fits : {c : CoreState} {f : Facts} (a : AgentId) → Sees c f → see_answer (eqb (kept_away (slice_get c.agents a.0)) 0) (seen c) a ≡ see_answer (not (has_away f a)) f a
see_fits {c} {f} a h = ap (λ g. see_answer (eqb (kept_away (slice_get c.agents a.0)) 0) g a) (seen_is h) ∙ ap (λ b. see_answer b f a) (ap (λ n. eqb n 0) (h.shows.away a) ∙ none_away_below f a f.ends)

pub see_changes : {c : CoreState} {f : Facts} (a : AgentId) (refused : Bool) {o : Outcome} → Sees c f → o ≡ see_answer (not (has_away f a)) f a → Change (action.See a) o → ShownAfter c f (action.See a) refused o
see_changes {c} {f} a refused h answer (agent_ended b es) =
    let made = and_parts (nat_lt a.0 f.agents) (not (has_away f a)) (pass (nat_lt a.0 f.agents && not (has_away f a)) answer (λ is. cc)).0 in
    let known : a.0 < f.agents = ltb-true a.0 f.agents made.0 in
    let found = got_there c.agents a.0 (omega (arith, h.shows.agents)) in
    (record { fits = answer; shows = agent_set c f a.0 (λ z. record z { is_running = false }) (λ b w. record w { runs = cond b false w.runs }) found.0 h found.1 refl (λ w. refl) (λ z. refl) (λ z. refl) (λ z. refl) }, refl)

-- ==== Ports that get a new place.

-- an end whose place is another where the list names it
abbrev pub moved_end : List EndId → Place → ℕ → End → End
moved_end ports p e x = if names ports e then record x { place = p } else x

-- the second list of ends is the first with those that the list of ports names at another place
pub record Moves (ports : List EndId) (p : Place) (old new : List End) : Type 0 where
  pub count : length new ≡ length old
  pub each : (e : ℕ) → slice_get new e ≡ option_map (moved_end ports p e) (slice_get old e)

unmoved : (o : Option End) → o ≡ option_map (λ (x : End). x) o
unmoved None = refl
unmoved (Some x) = refl

-- where one port is moved
one_moved : (p : Place) (ends : List End) (q : EndId) (o : Option End) → slice_get ends q.0 ≡ o → Moves (q ∷ []) p ends (set_at q.0 ends (option_map (λ (x : End). record x { place = p }) o))
one_moved p ends q None at = record {
  count = refl;
  each = λ e. elim (eqb q.0 e) as (λ b. eqb q.0 e ≡ b → slice_get ends e ≡ option_map (λ (x : End). cond (b || false) (record x { place = p }) x) (slice_get ends e)) [
    | true ↦ λ same. let none : slice_get ends e ≡ None = ap (slice_get ends) (sym (eqb-true q.0 e same)) ∙ at in rw none refl
    | false ↦ λ _. unmoved (slice_get ends e)
  ] refl;
}
one_moved p ends q (Some x) at = record {
  count = length-set ends q.0 (record x { place = p });
  each = each_set (λ e o. o ≡ option_map (moved_end (q ∷ []) p e) (slice_get ends e)) ends q.0 (record x { place = p }) (slice_get_within ends q.0 x at)
      (sym (ap (option_map (moved_end (q ∷ []) p q.0)) at ∙ ap (λ b. Some (cond (b || false) (record x { place = p }) x)) (eqb_same q.0)))
      (λ e other. unmoved (slice_get ends e) ∙ ap (λ b. option_map (λ (y : End). cond (b || false) (record y { place = p }) y) (slice_get ends e)) (sym (ne_eqb q.0 e (λ same. other (sym same)))));
}

moved_twice : (p : Place) (a b : Bool) (o : Option End) → option_map (λ (x : End). cond b (record x { place = p }) x) (option_map (λ (x : End). cond (a || false) (record x { place = p }) x) o) ≡ option_map (λ (x : End). cond (a || b) (record x { place = p }) x) o
moved_twice p a b None = refl
moved_twice p true true (Some x) = refl
moved_twice p true false (Some x) = refl
moved_twice p false true (Some x) = refl
moved_twice p false false (Some x) = refl

pub moves_of : (ports : List EndId) (p : Place) (ends : List End) → Moves ports p ends (moved_ends ports p ends)
moves_of [] p ends = record { count = refl; each = λ e. unmoved (slice_get ends e) }
moves_of (q ∷ ports) p ends =
    let one = one_moved p ends q (slice_get ends q.0) refl in
    let rest = moves_of ports p (end_moved p ends q) in
    record {
      count = rest.count ∙ one.count;
      each = λ e. rest.each e ∙ ap (option_map (moved_end ports p e)) (one.each e) ∙ moved_twice p (eqb q.0 e) (names ports e) (slice_get ends e);
    }

-- ends that are those with the ports moved
pub moves_to : (ports : List EndId) (p : Place) (ends new : List End) → new ≡ moved_ends ports p ends → Moves ports p ends new
moves_to ports p ends new same = subst (Moves ports p ends) (sym same) (moves_of ports p ends)

-- an end that is moved where the test says so
moved_by : {now : EndNow} {line : ℕ → LineNow} {clear : ℕ → Bool} {vs ts : List Envelope} (x : End) (p : Place) (q : Option Place) (b : Bool) → (b ≡ true → q ≡ Some p) → ShowsEnd now line clear vs ts (Some x) → ShowsEnd (record now { place = cond b q now.place }) line clear vs ts (Some (cond b (record x { place = p }) x))
moved_by x p q true is h =
    end_restated h refl (ap (λ (e : EndNow). let d : EndNow = record e { place = q } in d) h.same ∙ ap (λ r. let d : EndNow = record (end_now (Some x)) { place = r } in d) (is refl)) refl (same_queues p x.is_enabled h.queues)
moved_by x p q false is h = h

none_by : {now : EndNow} {line : ℕ → LineNow} {clear : ℕ → Bool} {vs ts : List Envelope} (q : Option Place) (b : Bool) → (b ≡ true → ⊥) → ShowsEnd now line clear vs ts None → ShowsEnd (record now { place = cond b q now.place }) line clear vs ts None
none_by q true never h = absurd (never refl)
none_by q false never h = h

pub moved_shown : {now : EndNow} {line : ℕ → LineNow} {clear : ℕ → Bool} {vs ts : List Envelope} (o : Option End) (ports : List EndId) (p : Place) (q : Option Place) (d : ℕ) → ShowsEnd now line clear vs ts o → (names ports d ≡ true → (q ≡ Some p) × (o ≡ None → ⊥)) → ShowsEnd (record now { place = cond (names ports d) q now.place }) line clear vs ts (option_map (moved_end ports p d) o)
moved_shown None ports p q d h known = none_by q (names ports d) (λ named. (known named).1 refl) h
moved_shown (Some x) ports p q d h known = moved_by x p q (names ports d) (λ named. (known named).0) h

-- ==== An envelope put on a line: what the core keeps then is what the facts say.

-- one envelope more of the line
count_more : (l k : ℕ) (vs : List Envelope) (v : Envelope) (b : Bool) → (eqb v.line.0 l && eqb v.epoch k) ≡ b → count_in_queue l k (vs ++ v ∷ []) ≡ count_in_queue l k vs + length (cond b (v ∷ []) [])
count_more l k vs v b is =
    ap length (filter-append (λ (u : Envelope). eqb u.line.0 l && eqb u.epoch k) vs (v ∷ []))
    ∙ length-append (filter (λ (u : Envelope). eqb u.line.0 l && eqb u.epoch k) vs) (filter (λ u. eqb u.line.0 l && eqb u.epoch k) (v ∷ []))
    ∙ ap (λ c. count_in_queue l k vs + length (cond c (v ∷ []) [])) is

-- a line on which nothing was put
put_other : (vs : List Envelope) (v : Envelope) (l : ℕ) → (l ≡ v.line.0 → ⊥) → (o : Option Line) → ShowsPut vs l o → ShowsPut (vs ++ v ∷ []) l o
put_other vs v l other None h = tt
put_other vs v l other (Some y) h = count_more l y.epoch vs v false (ap (λ b. b && eqb v.epoch y.epoch) (ne_eqb v.line.0 l (λ is. other (sym is)))) ∙ omega (arith, h)

each_put : (taker at : ℕ) (vs ts : List Envelope) (queues : List (List Envelope)) (v : Envelope) → v.epoch ≡ taker + at → at < length queues → ((i : ℕ) → in_queue (taker + i) vs ≡ in_queue (taker + i) ts ++ get_or queues i []) → (i : ℕ) → in_queue (taker + i) (vs ++ v ∷ []) ≡ in_queue (taker + i) ts ++ get_or (set queues at (get_or queues at [] ++ v ∷ [])) i []
each_put taker at vs ts queues v epoch within each i = ⊎_elim
    (λ same. subst (λ k. in_queue (taker + k) (vs ++ v ∷ []) ≡ in_queue (taker + k) ts ++ get_or (set queues at (get_or queues at [] ++ v ∷ [])) k []) (sym same)
    (queue_more (taker + at) vs v epoch ∙ ap (λ us. us ++ v ∷ []) (each at) ∙ append_assoc (in_queue (taker + at) ts) (get_or queues at []) (v ∷ [])
    ∙ ap (λ q. in_queue (taker + at) ts ++ q) (sym (get_or-set_same queues at (get_or queues at [] ++ v ∷ []) [] within))))
    (λ other. queue_other (taker + i) vs v (λ is. other (omega arith)) ∙ each i ∙ ap (λ q. in_queue (taker + i) ts ++ q) (sym (get_or-set_other queues at i (get_or queues at [] ++ v ∷ []) [] other)))
    (cases_eq i at)

-- the end with an envelope put by a line, which a notice changes and a message doesn't
put_shown : (now : EndNow) (line told : ℕ → LineNow) (clear : ℕ → Bool) (vs ts : List Envelope) (x : End) (y : Line) (v : Envelope) → slice_get x.lines v.line.0 ≡ Some y → v.epoch ≡ y.epoch → has_queue x y.epoch ≡ true
    → (let z : LineNow = record { phase = y.phase; stand = y.epoch; noticed = v.notice; held_by = y.held_by } in told v.line.0 ≡ z) → ((l : ℕ) → (l ≡ v.line.0 → ⊥) → told l ≡ line l) → ((l : ℕ) → (told l).phase ≡ (line l).phase) → ((l : ℕ) → (told l).stand ≡ (line l).stand)
    → ShowsEnd now line clear vs ts (Some x) → ShowsEnd now told clear (vs ++ v ∷ []) ts (Some (put_end x y v))
put_shown now line told clear vs ts x y v is epoch queue mine others phases stands h =
    let within : v.line.0 < length x.lines = slice_get_within x.lines v.line.0 y is in
    let tests = and_parts (nat_le x.taker y.epoch) (nat_lt (y.epoch - x.taker) (length x.queues)) queue in
    let reached : x.taker ≤ y.epoch = leb-true x.taker y.epoch tests.0 in
    let inside : y.epoch - x.taker < length x.queues = ltb-true (y.epoch - x.taker) (length x.queues) tests.1 in
    let next : Line = record y { put = y.put + 1; has_noticed = v.notice; held_by = y.held_by } in
    let many : length (set x.queues (y.epoch - x.taker) (get_or x.queues (y.epoch - x.taker) [] ++ v ∷ [])) ≡ length x.queues = length-set x.queues (y.epoch - x.taker) (get_or x.queues (y.epoch - x.taker) [] ++ v ∷ []) in
    record {
      same = h.same;
      count = length-set x.lines v.line.0 next ∙ h.count;
      lines = each_set (λ l o. told l ≡ line_now o) x.lines v.line.0 next within mine (λ l other. others l other ∙ h.lines l);
      put = each_set (ShowsPut (vs ++ v ∷ [])) x.lines v.line.0 next within
          (count_more v.line.0 y.epoch vs v true (rw (eqb_same v.line.0) (ap (λ k. eqb k y.epoch) epoch ∙ eqb_same y.epoch)) ∙ ap (λ n. n + 1) (subst (ShowsPut vs v.line.0) is (h.put v.line.0)))
          (λ l other. put_other vs v l other (slice_get x.lines l) (h.put l));
      queues = record {
        reached = h.queues.reached;
        clear_below = h.queues.clear_below;
        count = λ opened. ap (λ n. x.taker + n) many ∙ h.queues.count opened;
        inside = λ l at. let low : (line l).stand < x.taker + length x.queues = h.queues.inside l (sym (phases l) ∙ at) in let same : (told l).stand ≡ (line l).stand = stands l in omega arith;
        behind = λ k less. queue_other k vs v (λ same. omega arith) ∙ h.queues.behind k less;
        each = each_put x.taker (y.epoch - x.taker) vs ts x.queues v (epoch ∙ omega arith) inside h.queues.each;
      };
    }

-- every end, with the envelope put and its ports in flight
pub each_shown : {agents : List Agent} {ends new : List End} {f : Facts} (v : Envelope) (x : End) (y : Line) (told : ℕ → ℕ → LineNow) → SoundlyShows agents ends f → slice_get ends v.end.0 ≡ Some x → slice_get x.lines v.line.0 ≡ Some y → v.epoch ≡ y.epoch → has_queue x y.epoch ≡ true
    → (let z : LineNow = record { phase = y.phase; stand = y.epoch; noticed = v.notice; held_by = y.held_by } in told v.end.0 v.line.0 ≡ z) → ((l : ℕ) → (l ≡ v.line.0 → ⊥) → told v.end.0 l ≡ f.line v.end.0 l) → ((l : ℕ) → (told v.end.0 l).phase ≡ (f.line v.end.0 l).phase) → ((l : ℕ) → (told v.end.0 l).stand ≡ (f.line v.end.0 l).stand) → ((d : ℕ) → (d ≡ v.end.0 → ⊥) → told d ≡ f.line d)
    → ((d : ℕ) → names v.ports d ≡ true → d < f.ends) → Moves v.ports InFlight (set ends v.end.0 (put_end x y v)) new
    → (d : ℕ) → ShowsEnd (record (f.end d) { place = cond (names v.ports d) (Some InFlight) (f.end d).place }) (told d) (f.clear d) (cond (eqb d v.end.0) (f.accepted d ++ v ∷ []) (f.accepted d)) (f.taken d ++ f.discarded d) (slice_get new d)
each_shown {ends} {f} v x y told h at is epoch queue mine others phases stands elsewhere made moves d =
    let base : List End = set ends v.end.0 (put_end x y v) in
    let each : (b : ℕ) → ShowsEnd (f.end b) (told b) (f.clear b) (cond (eqb b v.end.0) (f.accepted b ++ v ∷ []) (f.accepted b)) (f.taken b ++ f.discarded b) (slice_get base b) =
    each_set (λ b o. ShowsEnd (f.end b) (told b) (f.clear b) (cond (eqb b v.end.0) (f.accepted b ++ v ∷ []) (f.accepted b)) (f.taken b ++ f.discarded b) o) ends v.end.0 (put_end x y v) (slice_get_within ends v.end.0 x at)
    (subst (λ c. ShowsEnd (f.end v.end.0) (told v.end.0) (f.clear v.end.0) (cond c (f.accepted v.end.0 ++ v ∷ []) (f.accepted v.end.0)) (f.taken v.end.0 ++ f.discarded v.end.0) (Some (put_end x y v))) (sym (eqb_same v.end.0))
    (put_shown (f.end v.end.0) (f.line v.end.0) (told v.end.0) (f.clear v.end.0) (f.accepted v.end.0) (f.taken v.end.0 ++ f.discarded v.end.0) x y v is epoch queue mine others phases stands (end_there v.end.0 h at)))
    (λ b other. subst (λ line. ShowsEnd (f.end b) line (f.clear b) (cond (eqb b v.end.0) (f.accepted b ++ v ∷ []) (f.accepted b)) (f.taken b ++ f.discarded b) (slice_get ends b)) (sym (elsewhere b other))
    (subst (λ c. ShowsEnd (f.end b) (f.line b) (f.clear b) (cond c (f.accepted b ++ v ∷ []) (f.accepted b)) (f.taken b ++ f.discarded b) (slice_get ends b)) (sym (ne_eqb b v.end.0 other)) (h.end b)))
    in
    let same_count : length base ≡ length ends = length-set ends v.end.0 (put_end x y v) in
    subst (ShowsEnd _ _ _ _ _) (sym (moves.each d))
    (moved_shown (slice_get base d) v.ports InFlight (Some InFlight) d (each d) (λ named. (refl, λ none. let there : d < f.ends = made d named in is_there base d (omega (arith, h.ends)) none)))

-- how many ends there are then
pub put_count : (ends new : List End) (e : ℕ) (x : End) (ports : List EndId) → Moves ports InFlight (set ends e x) new → length new ≡ length ends
put_count ends new e x ports moves = moves.count ∙ length-set ends e x

-- a line that is inside is at a queue that is kept
pub queue_kept : (f : Facts) (s : Sender) (x : End) (y : Line) → Sound f → ShownAt f s.end.0 (Some x) → f.line s.end.0 s.line.0 ≡ line_now (Some y) → is_inside (phase_of_line f s) ≡ true → has_queue x y.epoch ≡ true
queue_kept f s x y h shown line inside =
    let lines = h.lines s.end.0 in
    let stand : (f.line s.end.0 s.line.0).stand ≡ y.epoch = ap (λ (z : LineNow). z.stand) line in
    let taker : (f.end s.end.0).taker_stand ≡ x.taker = ap (λ (z : EndNow). z.taker_stand) shown.same in
    let from : (f.end s.end.0).taker_stand ≤ (f.line s.end.0 s.line.0).stand = lines.inside s.line.0 (inside_of (phase_of_line f s) inside) in
    let to : (f.line s.end.0 s.line.0).stand < x.taker + length x.queues = shown.queues.inside s.line.0 (inside_of (phase_of_line f s) inside) in
    let first : nat_le x.taker y.epoch ≡ true = le-leb x.taker y.epoch (omega arith) in
    let second : nat_lt (y.epoch - x.taker) (length x.queues) ≡ true = lt-ltb (y.epoch - x.taker) (length x.queues) (omega arith) in
    rw (first, second) refl

-- ==== Push: what the core answers fits, and it shows the facts with the answered step.

-- every end, with the message put and its ports in flight
pushed_shown : {agents : List Agent} {ends new : List End} {f : Facts} (s : Sender) (ports : List EndId) (body : List ℕ) (refused : Bool) (n : Acceptance) (x : End) (y : Line) → SoundlyShows agents ends f → slice_get ends s.end.0 ≡ Some x → slice_get x.lines s.line.0 ≡ Some y → f.line s.end.0 s.line.0 ≡ line_now (Some y) → n.epoch ≡ y.epoch → has_queue x y.epoch ≡ true → outcome.Accepted n ≡ push_answer (is_posting f s) (put_there f s) f s ports body refused → Moves ports InFlight (set ends s.end.0 (put_end x y (named_envelope s n body ports))) new → Stepped agents new f (action.Push s ports body) refused (outcome.Accepted n)
pushed_shown {agents} {ends} {new} {f} s ports body refused n x y h at is line epoch queue fits moves =
    let v : Envelope = named_envelope s n body ports in
    let p = pushed_of f s ports body refused n fits in
    let plain : y.has_noticed ≡ false = sym (ap (λ (z : LineNow). z.noticed) line) ∙ p.plain in
    changed h fits refl refl refl (put_count ends new s.end.0 (put_end x y v) ports moves)
    (counted_ports (names ports) (λ d. Some InFlight) refl (λ d. refl) (λ d. refl) (λ d named. some_own f (peer_of (f.end d).kind) (travels f p.agent s d ports p.leave named).1) (λ a x less. calm_sent a f (next f (action.Push s ports body) (outcome.Accepted n)) (names ports) x h.sound.places refl (λ l. refl) (λ q. refl) (λ q named. (travels f p.agent s q ports p.leave named).1)) (counts_of h))
    (each_shown v x y f.line h at is epoch queue (line ∙ ap (λ b. let z : LineNow = record { phase = y.phase; stand = y.epoch; noticed = b; held_by = y.held_by } in z) plain) (λ l other. refl) (λ l. refl) (λ l. refl) (λ d other. refl)
    (λ d named. placed_made f d (With p.agent) h.sound.places (travels f p.agent s d ports p.leave named).0) moves)

-- ---- who may put an envelope, and its number

-- whether the line posts, by what is kept of it
pub posting_as : (f : Facts) (s : Sender) (y : LineNow) → f.line s.end.0 s.line.0 ≡ y → is_posting f s ≡ (is_inside y.phase && not y.noticed)
posting_as f s y line = ap (λ (z : LineNow). is_inside z.phase && not z.noticed) line

-- what follows from them, where the number counts for nothing unless the line's poster may put
put_line : (f : Facts) (s : Sender) (x : End) (answer : Bool → ℕ → Outcome) → ((n m : ℕ) → answer false n ≡ answer false m) → Sound f → ShownAt f s.end.0 (Some x) → (q : Option Line) → slice_get x.lines s.line.0 ≡ q → answer (is_some {T = Kind × Line} (option_map (λ z. (x.kind, z)) (posting_line x q))) (unwrap_or q first_line).put ≡ answer (is_posting f s) (put_there f s)
put_line f s x answer none h shown None is = none 0 (put_there f s) ∙ ap (λ b. answer b (put_there f s)) (sym (posting_as f s no_line (shown.lines s.line.0 ∙ ap line_now is)))
put_line f s x answer none h shown (Some y) is =
    let line : f.line s.end.0 s.line.0 ≡ line_now (Some y) = shown.lines s.line.0 ∙ ap line_now is in
    let counted : count_in_queue s.line.0 y.epoch (f.accepted s.end.0) ≡ y.put = subst (ShowsPut (f.accepted s.end.0) s.line.0) is (shown.put s.line.0) in
    let found : Bool → Outcome = λ b. answer (is_some {T = Kind × Line} (option_map (λ z. (x.kind, z)) (cond b (Some y) None))) y.put in
    elim (is_inside y.phase && not y.has_noticed) as (λ b. (is_inside y.phase && not y.has_noticed) ≡ b → found (b && has_queue x y.epoch) ≡ answer (is_posting f s) (put_there f s)) [
      | true ↦ λ posting.
          let mine : is_posting f s ≡ true = posting_as f s (line_now (Some y)) line ∙ posting in
          let inside : is_inside (phase_of_line f s) ≡ true = (and_parts (is_inside (phase_of_line f s)) (not (f.line s.end.0 s.line.0).noticed) mine).0 in
          ap found (queue_kept f s x y h shown line inside)
          ∙ ap (answer true) (sym counted ∙ ap (λ (z : LineNow). count_in_queue s.line.0 z.stand (f.accepted s.end.0)) (sym line)) ∙ ap (λ b. answer b (put_there f s)) (sym mine)
      | false ↦ λ outside. none y.put (put_there f s) ∙ ap (λ b. answer b (put_there f s)) (sym (posting_as f s (line_now (Some y)) line ∙ outside))
    ] refl

put_kept : {c : CoreState} {f : Facts} (s : Sender) (answer : Bool → ℕ → Outcome) → ((n m : ℕ) → answer false n ≡ answer false m) → Sees c f → answer (may_put c.ends s) (line_of c.ends s).put ≡ answer (is_posting f s) (put_there f s)
put_kept {c} {f} s answer none h = at (slice_get c.ends s.end.0) (h.shows.end s.end.0)
  where
    at : (q : Option End) → ShownAt f s.end.0 q → answer (is_some (posting_at s q)) (unwrap_or (slice_get (kept_lines q) s.line.0) first_line).put ≡ answer (is_posting f s) (put_there f s)
    at None shown = none 0 (put_there f s) ∙ ap (λ b. answer b (put_there f s)) (sym (posting_as f s no_line (shown.lines s.line.0)))
    at (Some x) shown = put_line f s x answer none h.shows.sound shown (slice_get x.lines s.line.0) refl

pub push_fits : {c : CoreState} {f : Facts} (s : Sender) (ports : List EndId) (body : List ℕ) (refused : Bool) → Sees c f → push_answer (may_put c.ends s) (line_of c.ends s).put (seen c) s ports body refused ≡ push_answer (is_posting f s) (put_there f s) f s ports body refused
push_fits {c} {f} s ports body refused h = ap (λ g. push_answer (may_put c.ends s) (line_of c.ends s).put g s ports body refused) (seen_is h) ∙ put_kept s (λ b n. push_answer b n f s ports body refused) (λ n m. refl) h

-- ---- what is put

-- the line of a poster that is inside, with the queue at which it stands
pub inside_line : {c : CoreState} {f : Facts} (s : Sender) → Sees c f → is_inside (phase_of_line f s) ≡ true → (w : FoundLine c.ends s) × (f.line s.end.0 s.line.0 ≡ line_now (Some w.y)) × (has_queue w.x w.y.epoch ≡ true)
inside_line {c} {f} s h inside =
    let away : is_out (phase_of_line f s) ≡ false = ap is_out (inside_of (phase_of_line f s) inside) in
    let w = found_line s h.shows (line_there f s (h.shows.sound.lines s.end.0) (h.shows.sound.places.away s away)) in
    let shown = end_there s.end.0 h.shows w.at in
    let line : f.line s.end.0 s.line.0 ≡ line_now (Some w.y) = shown.lines s.line.0 ∙ ap line_now w.is in
    (w, line, queue_kept f s w.x w.y h.shows.sound shown line inside)

-- the ends with an envelope put on a line that is there, and its ports in flight
pub accepted_moves : (ends : List End) (s : Sender) (w : FoundLine ends s) (v : Envelope) → v.end ≡ s.end → v.line ≡ s.line → Moves v.ports InFlight (set ends s.end.0 (put_end w.x w.y v)) (accept_ends ends v)
accepted_moves ends s w v end at_line = moves_to v.ports InFlight (set ends s.end.0 (put_end w.x w.y v)) (accept_ends ends v) (
    ap (λ (t : Sender). moved_ends v.ports InFlight (change_at (λ z. unwrap_or (option_map (λ y. put_end z y v) (slice_get z.lines t.line.0)) z) t.end.0 ends)) (λ i. record { end = end i; line = at_line i })
    ∙ ap (λ q. moved_ends v.ports InFlight (set_at s.end.0 ends (option_map (λ z. unwrap_or (option_map (λ y. put_end z y v) (slice_get z.lines s.line.0)) z) q))) w.at
    ∙ ap (λ q. moved_ends v.ports InFlight (set ends s.end.0 (unwrap_or (option_map (λ y. put_end w.x y v) q) w.x))) w.is)

pub push_changes : {c : CoreState} {f : Facts} (s : Sender) (ports : List EndId) (body : List ℕ) (refused : Bool) {o : Outcome} → Sees c f → o ≡ push_answer (is_posting f s) (put_there f s) f s ports body refused → Change (action.Push s ports body) o → ShownAfter c f (action.Push s ports body) refused o
push_changes {c} {f} s ports body refused h answer (put t ps b n) =
    let p = pushed_of f s ports body refused n answer in
    let found = inside_line s h p.inside in
    let w = found.0 in
    let epoch : n.epoch ≡ w.y.epoch = ap (λ (m : Acceptance). m.epoch) p.name ∙ ap (λ (z : LineNow). z.stand) found.1 in
    (pushed_shown s ports body refused n w.x w.y h.shows w.at w.is found.1 epoch found.2 answer (accepted_moves c.ends s w (named_envelope s n body ports) refl refl), refl)

-- ==== Notice: what the core answers fits, and it shows the facts with the answered step.

-- ---- every end, with the notice put

told_mine : (f : Facts) (s : Sender) (y : Line) → f.line s.end.0 s.line.0 ≡ line_now (Some y) → (let z : LineNow = record { phase = y.phase; stand = y.epoch; noticed = true; held_by = y.held_by } in told_line f s s.end.0 s.line.0 ≡ z)
told_mine f s y line = ap (λ b. let z : LineNow = record (f.line s.end.0 s.line.0) { noticed = cond b true (f.line s.end.0 s.line.0).noticed } in z) (ap (λ b. b && eqb s.line.0 s.line.0) (eqb_same s.end.0) ∙ eqb_same s.line.0)
    ∙ ap (λ (w : LineNow). let z : LineNow = record w { noticed = true } in z) line

told_other : (f : Facts) (s : Sender) (l : ℕ) → (l ≡ s.line.0 → ⊥) → told_line f s s.end.0 l ≡ f.line s.end.0 l
told_other f s l other = ap (λ b. let z : LineNow = record (f.line s.end.0 l) { noticed = cond b true (f.line s.end.0 l).noticed } in z) (ap (λ b. b && eqb l s.line.0) (eqb_same s.end.0) ∙ ne_eqb l s.line.0 other)

noticed_shown : {agents : List Agent} {ends new : List End} {f : Facts} (s : Sender) (refused : Bool) (n : Acceptance) (x : End) (y : Line) → SoundlyShows agents ends f → slice_get ends s.end.0 ≡ Some x → slice_get x.lines s.line.0 ≡ Some y → f.line s.end.0 s.line.0 ≡ line_now (Some y) → n.epoch ≡ y.epoch → has_queue x y.epoch ≡ true → outcome.Accepted n ≡ notice_answer (is_posting f s) (put_there f s) f s refused → Moves [] InFlight (set ends s.end.0 (put_end x y (named_notice s n))) new → Stepped agents new f (action.Notice s) refused (outcome.Accepted n)
noticed_shown {agents} {ends} {new} {f} s refused n x y h at is line epoch queue fits moves =
    let v : Envelope = named_notice s n in
    changed h fits refl refl refl (put_count ends new s.end.0 (put_end x y v) [] moves) (counts_still h refl (λ d. refl) (λ d. refl) (λ a d l. refl))
    (each_shown v x y (told_line f s) h at is epoch queue (told_mine f s y line) (told_other f s) (λ l. refl) (λ l. refl) (λ d other. λ i l. record (f.line d l) { noticed = cond (ne_eqb d s.end.0 other i && eqb l s.line.0) true (f.line d l).noticed }) (λ d named. absurd (false≢true named)) moves)

pub notice_fits : {c : CoreState} {f : Facts} (s : Sender) (refused : Bool) → Sees c f → notice_answer (may_put c.ends s) (line_of c.ends s).put (seen c) s refused ≡ notice_answer (is_posting f s) (put_there f s) f s refused
notice_fits {c} {f} s refused h = ap (λ g. notice_answer (may_put c.ends s) (line_of c.ends s).put g s refused) (seen_is h) ∙ put_kept s (λ b n. notice_answer b n f s refused) (λ n m. refl) h

pub notice_changes : {c : CoreState} {f : Facts} (s : Sender) (refused : Bool) {o : Outcome} → Sees c f → o ≡ notice_answer (is_posting f s) (put_there f s) f s refused → Change (action.Notice s) o → ShownAfter c f (action.Notice s) refused o
notice_changes {c} {f} s refused h answer (notice_put t n) =
    let p = noticed_of f s refused n answer in
    let found = inside_line s h p.inside in
    let w = found.0 in
    let epoch : n.epoch ≡ w.y.epoch = ap (λ (m : Acceptance). m.epoch) p.name ∙ ap (λ (z : LineNow). z.stand) found.1 in
    (noticed_shown s refused n w.x w.y h.shows w.at w.is found.1 epoch found.2 answer (accepted_moves c.ends s w (named_notice s n) refl refl), refl)
