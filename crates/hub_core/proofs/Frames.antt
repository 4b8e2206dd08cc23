-- What a step leaves alone of what is kept, and what it changes.
use Rattle.std.proofs.Common.{◌≡◌, ℕ, ◌+◌, ◌<◌, Bool, true, false, eqb, List, [], length, set, length-set, Option, Some, refl, sym, ap, subst, ◌∙◌, ◌++◌, ne_eqb, ◌&&◌, None, arith}
use Rattle.hub_core.proofs.Words.{Envelope, Place, lines_of, slice_get_within, Line, Sender, Inside, slice_get, Agent, End, Action, Outcome, LineNow, Facts, facts, EndNow, Answers, ShowsEnd, ShowsPut, agent_now, line_now, end_now, ShowsFacts, KeepsQueues, CoreState, core_after, set_at, option_map, change_line, first_line, kept_lines, unwrap_or, ShowsRoster, no_end}
use Rattle.hub_core.proofs.Items.{eqb_same, each_set, each_changed, is_there}
use Rattle.hub_core.proofs.Seeing.{SoundlyShows}
use Rattle.hub_core.proofs.Nexts.{next}
use Rattle.hub_core.proofs.Counts.{Counted}

-- ==== What a step leaves alone: an end whose facts stay the same is shown as before, and where one line changes, so are the others.

-- what is shown of an end
abbrev pub ShownAt : Facts → ℕ → Option End → Type 0
ShownAt f x kept = ShowsEnd (f.end x) (f.line x) (f.clear x) (f.accepted x) (f.taken x ++ f.discarded x) kept

pub end_there : {agents : List Agent} {ends : List End} {f : Facts} {x : End} (e : ℕ) → SoundlyShows agents ends f → slice_get ends e ≡ Some x → ShownAt f e (Some x)
end_there {f = f} e h at = subst (ShownAt f e) at (h.end e)

-- a step's answer, and the facts with it
pub record Stepped (agents : List Agent) (ends : List End) (f : Facts) (a : Action) (refused : Bool) (o : Outcome) : Type 0 where
  pub fits : Answers f a refused o
  pub shows : ShowsFacts agents ends (next f a o)

-- a step that counts the queues of agents anew
pub recounted : {agents new : List Agent} {ends after : List End} {f : Facts} {a : Action} {refused : Bool} {o : Outcome} → SoundlyShows agents ends f → Answers f a refused o → (next f a o).agents ≡ f.agents → (next f a o).agent ≡ f.agent → length new ≡ length agents → ((x : ℕ) → agent_now (slice_get new x) ≡ agent_now (slice_get agents x)) → (next f a o).ends ≡ length after → Counted new (next f a o) → ((x : ℕ) → ShownAt (next f a o) x (slice_get after x)) → Stepped new after f a refused o
recounted h fits same_agents same_agent same_count same_now count counted each = record {
  fits = fits;
  shows = record {
    agents = same_agents ∙ h.agents ∙ sym same_count;
    agent = λ x. ap (λ g. g x) same_agent ∙ h.agent x ∙ sym (same_now x);
    ends = count;
    end = each;
    queues = counted.queues;
    away = counted.away;
  };
}

-- a step that makes no agent and no end
pub changed : {agents : List Agent} {ends after : List End} {f : Facts} {a : Action} {refused : Bool} {o : Outcome} → SoundlyShows agents ends f → Answers f a refused o → (next f a o).agents ≡ f.agents → (next f a o).agent ≡ f.agent → (next f a o).ends ≡ f.ends → length after ≡ length ends → Counted agents (next f a o) → ((x : ℕ) → ShownAt (next f a o) x (slice_get after x)) → Stepped agents after f a refused o
changed h fits same_agents same_agent same_ends count counted each = recounted h fits same_agents same_agent refl (λ x. refl) (same_ends ∙ h.ends ∙ sym count) counted each

-- with no agent and no end the history with no pair is shown
pub shows_first : (agents : List Agent) (ends : List End) → agents ≡ [] → ends ≡ [] → ShowsFacts agents ends (facts [])
shows_first agents ends none nothing = rw (none, nothing) (record {
  agents = refl;
  agent = λ a. refl;
  ends = refl;
  end = λ e. record { same = refl; count = refl; lines = λ l. refl; put = λ l. tt; queues = tt };
  queues = λ j a. refl;
  away = λ a. refl;
})

-- ---- one line

-- The ends, where one line of one end changes: `new` says what becomes of a line, where it is that one and where it isn't.
pub line_changed : {agents : List Agent} {ends : List End} {f : Facts} (s : Sender) (new : Bool → LineNow → LineNow) (x : End) (y z : Line) → SoundlyShows agents ends f → slice_get ends s.end.0 ≡ Some x → slice_get x.lines s.line.0 ≡ Some y
    → new true (line_now (Some y)) ≡ line_now (Some z) → ((w : LineNow) → new false w ≡ w) → ShowsPut (f.accepted s.end.0) s.line.0 (Some z)
    → ((l : ℕ) → (new (eqb l s.line.0) (f.line s.end.0 l)).phase ≡ Inside → (new (eqb l s.line.0) (f.line s.end.0 l)).stand < x.taker + length x.queues)
    → (d : ℕ) → ShowsEnd (f.end d) (λ l. new (eqb d s.end.0 && eqb l s.line.0) (f.line d l)) (f.clear d) (f.accepted d) (f.taken d ++ f.discarded d) (slice_get (set ends s.end.0 (record x { lines = set x.lines s.line.0 z })) d)
line_changed {ends = ends} {f = f} s new x y z h at is mine others put inside =
    let e : ℕ = s.end.0 in
    let k : ℕ = s.line.0 in
    let old = end_there e h at in
    let within : k < length x.lines = slice_get_within x.lines k y is in
    let lines : Bool → ℕ → ℕ → LineNow = λ b d l. new (b && eqb l k) (f.line d l) in
    let after : End = record x { lines = set x.lines k z } in
    let here : ShowsEnd (f.end e) (lines true e) (f.clear e) (f.accepted e) (f.taken e ++ f.discarded e) (Some after) = record {
      same = old.same;
      count = length-set x.lines k z ∙ old.count;
      lines = each_set (λ l o. new (eqb l k) (f.line e l) ≡ line_now o) x.lines k z within
          (ap (λ b. new b (f.line e k)) (eqb_same k) ∙ ap (new true) (old.lines k ∙ ap line_now is) ∙ mine)
          (λ l other. ap (λ b. new b (f.line e l)) (ne_eqb l k other) ∙ others (f.line e l) ∙ old.lines l);
      put = each_set (ShowsPut (f.accepted e)) x.lines k z within put (λ l other. old.put l);
      queues = record { reached = old.queues.reached; clear_below = old.queues.clear_below; count = old.queues.count; inside = inside; behind = old.queues.behind; each = old.queues.each };
    } in
    each_changed (λ d b o. ShowsEnd (f.end d) (lines b d) (f.clear d) (f.accepted d) (f.taken d ++ f.discarded d) o) ends e after (slice_get_within ends e x at) here
    (λ d. subst (λ (ls : ℕ → LineNow). ShowsEnd (f.end d) ls (f.clear d) (f.accepted d) (f.taken d ++ f.discarded d) (slice_get ends d)) (λ i l. sym (others (f.line d l)) i) (h.end d))

-- ---- one end

-- The ends, where one of them changes: `new` says what becomes of an end, where it is that one and where it isn't.
pub end_changed : {agents : List Agent} {ends : List End} {f : Facts} (e : ℕ) (new : Bool → EndNow → EndNow) (x after : End) → SoundlyShows agents ends f → slice_get ends e ≡ Some x → ((w : EndNow) → new false w ≡ w) → ShowsEnd (new true (f.end e)) (f.line e) (f.clear e) (f.accepted e) (f.taken e ++ f.discarded e) (Some after)
    → (d : ℕ) → ShowsEnd (new (eqb d e) (f.end d)) (f.line d) (f.clear d) (f.accepted d) (f.taken d ++ f.discarded d) (slice_get (set ends e after) d)
end_changed {ends = ends} {f = f} e new x after h at others here =
    each_changed (λ d b o. ShowsEnd (new b (f.end d)) (f.line d) (f.clear d) (f.accepted d) (f.taken d ++ f.discarded d) o) ends e after (slice_get_within ends e x at) here
    (λ d. subst (λ w. ShowsEnd w (f.line d) (f.clear d) (f.accepted d) (f.taken d ++ f.discarded d) (slice_get ends d)) (sym (others (f.end d))) (h.end d))

-- an end that is shown as another one with its lines is, with other queues
pub end_restated : {now then : EndNow} {line : ℕ → LineNow} {clear after : ℕ → Bool} {vs ts us : List Envelope} {x y : End} → ShowsEnd now line clear vs ts (Some x) → y.lines ≡ x.lines → then ≡ end_now (Some y) → then.kind ≡ now.kind → KeepsQueues line after vs us y → ShowsEnd then line after vs us (Some y)
end_restated {vs = vs} h lines same kind queues = record {
  same = same;
  count = ap length lines ∙ h.count ∙ ap lines_of (sym kind);
  lines = λ l. h.lines l ∙ ap (λ ys. line_now (slice_get ys l)) (sym lines);
  put = λ l. subst (λ ys. ShowsPut vs l (slice_get ys l)) (sym lines) (h.put l);
  queues = queues;
}

-- the queues of an end don't ask where it is and whether it is enabled
pub same_queues : {line : ℕ → LineNow} {clear : ℕ → Bool} {vs ts : List Envelope} {x : End} (p : Place) (b : Bool) → KeepsQueues line clear vs ts x → (let y : End = record x { place = p; is_enabled = b } in KeepsQueues line clear vs ts y)
same_queues p b h = record { reached = h.reached; clear_below = h.clear_below; count = h.count; inside = h.inside; behind = h.behind; each = h.each }

-- ==== What a step changes of what is kept, where it changes something.

-- ---- an end and a line that are there

pub found_end : {agents : List Agent} {ends : List End} {f : Facts} (e : ℕ) → SoundlyShows agents ends f → (f.end e ≡ no_end → ⊥) → (x : End) × (slice_get ends e ≡ Some x)
found_end {ends} {f} e h there = elim (slice_get ends e) as (λ o. slice_get ends e ≡ o → ShownAt f e o → (x : End) × (slice_get ends e ≡ Some x)) [
  | Some x ↦ λ at _. (x, at)
  | None ↦ λ _ shown. absurd (there shown.same)
] refl (h.end e)

pub record FoundLine (ends : List End) (s : Sender) : Type 0 where
  pub x : End
  pub y : Line
  pub at : slice_get ends s.end.0 ≡ Some x
  pub is : slice_get x.lines s.line.0 ≡ Some y

pub found_line : {agents : List Agent} {ends : List End} {f : Facts} (s : Sender) → SoundlyShows agents ends f → s.line.0 < lines_of (f.end s.end.0).kind → FoundLine ends s
found_line {agents} {ends} {f} s h low =
    let found = found_end s.end.0 h (λ none. let no_lines : lines_of (f.end s.end.0).kind ≡ 0 = ap (λ (z : EndNow). lines_of z.kind) none in omega arith) in
    let shown = end_there s.end.0 h found.1 in
    let count : length found.0.lines ≡ lines_of (f.end s.end.0).kind = shown.count in
    elim (slice_get found.0.lines s.line.0) as (λ q. slice_get found.0.lines s.line.0 ≡ q → FoundLine ends s) [
      | Some y ↦ λ is. record { x = found.0; y = y; at = found.1; is = is }
      | None ↦ λ is. absurd (is_there found.0.lines s.line.0 (omega arith) is)
    ] refl

-- an end with this line
abbrev pub with_line : End → ℕ → Line → End
with_line x l y = record x { lines = set x.lines l y }

pub line_set : (ends : List End) (s : Sender) (change : Line → Line) (w : FoundLine ends s) → change_line change s ends ≡ set ends s.end.0 (with_line w.x s.line.0 (change w.y))
line_set ends s change w =
    ap (λ q. set_at s.end.0 ends (option_map (λ x. with_line x s.line.0 (change (unwrap_or (slice_get (kept_lines q) s.line.0) first_line))) q)) w.at
    ∙ ap (λ q. set ends s.end.0 (with_line w.x s.line.0 (change (unwrap_or q first_line)))) w.is

-- ---- a step by what it was answered

-- what the core keeps after a step, and that the roster stays
abbrev pub ShownAfter : CoreState → Facts → Action → Bool → Outcome → Type 0
ShownAfter c f a refused o = Stepped (core_after c o a).agents (core_after c o a).ends f a refused o × ((core_after c o a).roster ≡ c.roster)

-- the same of a step that changes the roster
abbrev pub ShownWith : CoreState → Facts → Action → Bool → Outcome → Type 0
ShownWith c f a refused o = Stepped (core_after c o a).agents (core_after c o a).ends f a refused o × ShowsRoster (core_after c o a).roster (next f a o)
