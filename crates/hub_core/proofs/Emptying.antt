-- What the core answers to Look, Sweep and Take fits, and it shows the facts with the answered step.
use Rattle.std.proofs.Common.{Bool, List, None, Option, Some, [], ap, append-nil, append_assoc, arith, cond, drop, eqb, false, get_or, leb-false, leb-true, length, length-set, lt-ltb, ltb-false, ltb-true, nat_le, nat_lt, ne_eqb, not, refl, rules, set, subst, suc, sym, true, zero, ℕ, ◌&&◌, ◌++◌, ◌+◌, ◌-◌, ◌<◌, ◌||◌, ◌∙◌, ◌∷◌, ◌≡◌, ◌≤◌, ⊎_elim}
use Rattle.hub_core.proofs.Words.{Agent, AgentId, AllByRecursion, Arrived, CoreState, End, EndId, EndNow, Envelope, Facts, FitsSweep, FitsTake, InFlight, Inside, IsAllWaiting, IsDrained, IsLeft, IsNext, IsOfEnd, KeepsQueues, Line, LineNow, MatchBool, Outcome, Rises, Serves, ShowsEnd, Sound, Swept, with_agent, running, change_at, set_at, TakeServes, With, advanced_end, all_settled, and_parts, any_below, append_cancel_left, arrived, arrived_ends, by, eqb-true, false_from_ne_true, false≢true, filter-append, first_failing, front_taken, holder}
use Rattle.hub_core.proofs.Words.{in_queue, is_anyone_at, is_anyone_from, is_away_at, is_named, is_out, is_settled, is_some, is_with, joined, kept_looked, kept_settled, le-leb, le-ltb, line_now, lines_of, list_any, lookable, looked, moved_ends, names, nat_tests, no_end, option_map, ports_of, seen, slice_get, slice_get_within, someone_at, sweep_outcome_at, cases_eq, cases_lt, FitsTake, ServesAt, found_at, kept_lines, option_and_then, get_or-set_other, get_or-set_same, list_any-append, or-true, or_assoc}
use Rattle.hub_core.specs.Taking.{look_answer, start_answer}
use Rattle.hub_core.specs.declared.step.Outcome.TheVariants as outcome
use Rattle.hub_core.specs.declared.step.Action.TheVariants as action
use Rattle.hub_core.proofs.Counts.{calm_landed, counted_ports, counts_of, counts_still}
use Rattle.hub_core.proofs.Frames.{ShownAfter, found_end, ShownAt, Stepped, changed, end_changed, end_restated, same_queues, end_there}
use Rattle.hub_core.proofs.Nexts.{any_of, each_of, got_of, miss, none_of_any, pass, started_of, swept_of, went_on_of, cleared_of, served_when, Change, cleared, end_swept, got, next, started, went_on}
use Rattle.hub_core.proofs.Items.{AllByRecursion-append, AllByRecursion-weaker, below_last, each_changed, eqb_same, is_there, or_none, at_test}
use Rattle.hub_core.proofs.LineSteps.{Moves, moved_end, moved_shown, moves_of, moves_to}
use Rattle.hub_core.proofs.Seeing.{Sees, seen_is, SoundlyShows}
use Rattle.hub_core.proofs.SoundLines.{line_epochs, nobody_there, nothing_more, rises_joined, same_rises, taken_prefix}
use Rattle.hub_core.proofs.Speakers.{placed_made, runs_there, swept_flies, taken_flies}
use Rattle.hub_core.proofs.Headlines.{rises_one}
use Rattle.hub_core.proofs.Waits.{all_back, all_kept, all_of_queue, all_taken, filters, next_in_line, none_of_queue, of_queue, queue_more, queue_other, rises_back}

-- ==== Who is at a queue: what the core finds is what the facts say.

-- the first number may be tested first
any_front : (test : ℕ → Bool) (n : ℕ) → any_below test (suc n) ≡ (test 0 || any_below (λ l. test (suc l)) n)
any_front test zero = or_none (test 0)
any_front test (suc n) = ap (λ b. b || test (suc n)) (any_front test n) ∙ or_assoc (test 0) (any_below (λ l. test (suc l)) n) (test (suc n))

-- a test of the lines that are kept is the same test of the lines of the facts
any_lines : (q : LineNow → Bool) (test : ℕ → Bool) (ys : List Line) → ((l : ℕ) → test l ≡ q (line_now (slice_get ys l))) → any_below test (length ys) ≡ list_any (λ y. q (line_now (Some y))) ys
any_lines q test [] h = refl
any_lines q test (y ∷ ys) h =
    any_front test (length ys) ∙ ap (λ b. b || any_below (λ l. test (suc l)) (length ys)) (h 0) ∙ ap (λ b. q (line_now (Some y)) || b) (any_lines q (λ l. test (suc l)) ys (λ l. h (suc l)))

pub lines_kept : (f : Facts) (e : ℕ) (x : End) (q : LineNow → Bool) → ShownAt f e (Some x) → list_any (λ y. q (line_now (Some y))) x.lines ≡ any_below (λ l. q (f.line e l)) (lines_of (f.end e).kind)
lines_kept f e x q h = sym (any_lines q (λ l. q (f.line e l)) x.lines (λ l. ap q (h.lines l))) ∙ ap (any_below (λ l. q (f.line e l))) h.count

pub someone_kept : (f : Facts) (e k : ℕ) (x : End) → ShownAt f e (Some x) → is_anyone_at k x.lines ≡ someone_at f e k
someone_kept f e k x h = lines_kept f e x (is_away_at k) h

pub settled_kept : (f : Facts) (e k : ℕ) (x : End) → ShownAt f e (Some x) → x.taker ≤ k → kept_settled x k ≡ is_settled f e k
settled_kept f e k x h from =
    ap (λ b. b || not (is_anyone_at k x.lines)) (sym (h.queues.clear_below k from)) ∙ ap (λ b. f.clear e k || not b) (someone_kept f e k x h)

-- ==== A Take that finds nothing: what the core answers fits, and it shows the facts with the answered step.

-- what waits in the taker's queue of an open end
pub taker_queue_at : (f : Facts) (e : EndId) (x : End) → f.discarded e.0 ≡ [] → ShownAt f e.0 (Some x) → in_queue (f.end e.0).taker_stand (f.accepted e.0) ≡ in_queue (f.end e.0).taker_stand (f.taken e.0) ++ get_or x.queues 0 []
taker_queue_at f e x none h =
    let taker : (f.end e.0).taker_stand ≡ x.taker + 0 = ap (λ (y : EndNow). y.taker_stand) h.same ∙ omega arith in
    subst (λ k. in_queue k (f.accepted e.0) ≡ in_queue k (f.taken e.0) ++ get_or x.queues 0 []) (sym taker)
    (subst (λ us. in_queue (x.taker + 0) (f.accepted e.0) ≡ in_queue (x.taker + 0) us ++ get_or x.queues 0 []) (nothing_more (f.taken e.0) (f.discarded e.0) none) (h.queues.each 0))

drained_queue : (f : Facts) (e : EndId) (x : End) → f.discarded e.0 ≡ [] → ShownAt f e.0 (Some x) → get_or x.queues 0 [] ≡ [] → in_queue (f.end e.0).taker_stand (f.accepted e.0) ≡ in_queue (f.end e.0).taker_stand (f.taken e.0)
drained_queue f e x none h empty =
    let t : ℕ = (f.end e.0).taker_stand in
    taker_queue_at f e x none h ∙ ap (λ q. in_queue t (f.taken e.0) ++ q) empty ∙ append-nil (in_queue t (f.taken e.0))

-- the taker stands at the newest queue
drained_of : (f : Facts) (e : EndId) (x : End) → Sound f → f.discarded e.0 ≡ [] → ShownAt f e.0 (Some x) → get_or x.queues 0 [] ≡ [] → nat_le x.newest x.taker ≡ true → IsDrained f e
drained_of f e x s none h empty last =
    let t : ℕ = (f.end e.0).taker_stand in
    let newest : (f.end e.0).newest ≡ x.newest = ap (λ (y : EndNow). y.newest) h.same in
    let taker : t ≡ x.taker = ap (λ (y : EndNow). y.taker_stand) h.same in
    let within : t ≤ (f.end e.0).newest = (s.lines e.0).taker_stand in
    let reached : x.newest ≤ x.taker = leb-true x.newest x.taker last in
    let same : t ≡ (f.end e.0).newest = omega arith in
    record {
      newest = same;
      all = λ l. all_taken t l (f.accepted e.0) (f.taken e.0) (taken_prefix l (f.taken e.0) (f.discarded e.0) (f.accepted e.0) ((s.waiting e.0).prefix l)) ((s.waiting e.0).behind l)
          (AllByRecursion-weaker (λ (u : Envelope). u.epoch ≤ (f.line e.0 l).stand) (λ u. u.epoch ≤ t) (λ u less. let low : (f.line e.0 l).stand ≤ (f.end e.0).newest = (s.lines e.0).stand l in omega arith) (by l (f.accepted e.0)) (line_epochs e.0 _ (f.line e.0) (f.accepted e.0) l (s.lines e.0).named))
          (drained_queue f e x none h empty);
    }

-- the taker stands at a retired queue
left_of : (f : Facts) (e : EndId) (x : End) → f.discarded e.0 ≡ [] → ShownAt f e.0 (Some x) → get_or x.queues 0 [] ≡ [] → nat_le x.newest x.taker ≡ false → IsLeft f e
left_of f e x none h empty low =
    let t : ℕ = (f.end e.0).taker_stand in
    let newest : (f.end e.0).newest ≡ x.newest = ap (λ (y : EndNow). y.newest) h.same in
    let taker : t ≡ x.taker = ap (λ (y : EndNow). y.taker_stand) h.same in
    let below : x.taker < x.newest = leb-false x.newest x.taker low in
    record {
      retired = omega arith;
      all = λ l. filters _ _ (f.taken e.0) ∙ ap (by l) (sym (drained_queue f e x none h empty)) ∙ sym (filters _ _ (f.accepted e.0));
    }

-- ---- the taker goes on

reached_next : (taker looked : ℕ) → (b : Bool) → nat_lt looked (taker + 1) ≡ b → taker + 1 ≤ cond b (taker + 1) looked
reached_next taker looked true is = omega arith
reached_next taker looked false is = ltb-false looked (taker + 1) is

clear_next : (taker looked k : ℕ) → taker ≤ looked → taker + 1 ≤ k → (b : Bool) → nat_lt looked (taker + 1) ≡ b → nat_lt k looked ≡ nat_lt k (cond b (taker + 1) looked)
clear_next taker looked k reached from true is =
    let low : looked < taker + 1 = ltb-true looked (taker + 1) is in
    le-ltb k looked (omega arith) ∙ sym (le-ltb k (taker + 1) from)
clear_next taker looked k reached from false is = refl

get_or-drop : (queues : List (List Envelope)) (i : ℕ) → get_or (drop 1 queues) i [] ≡ get_or queues (suc i) []
get_or-drop [] i = refl
get_or-drop (q ∷ qs) i = refl

length-drop : (queues : List (List Envelope)) (n : ℕ) → length queues ≡ n + 1 → length (drop 1 queues) ≡ n
length-drop [] n is = absurd (omega (arith, is))
length-drop (q ∷ qs) n is = omega (arith, is)

advanced_queues : {line : ℕ → LineNow} {clear : ℕ → Bool} {vs ts : List Envelope} (x : End) → x.is_closed ≡ false → x.taker < x.newest → get_or x.queues 0 [] ≡ [] → KeepsQueues line clear vs ts x → KeepsQueues line clear vs ts (advanced_end x)
advanced_queues {line = line} {vs = vs} {ts = ts} x opened low empty h =
    let many : x.taker + length x.queues ≡ x.newest + 1 = h.count opened in
    let rest : length x.queues ≡ (x.newest - x.taker) + 1 = omega arith in
    let fewer : length (drop 1 x.queues) ≡ x.newest - x.taker = length-drop x.queues (x.newest - x.taker) rest in
    record {
      reached = reached_next x.taker x.looked (nat_lt x.looked (x.taker + 1)) refl;
      clear_below = λ k from. h.clear_below k (omega (arith, from)) ∙ clear_next x.taker x.looked k h.reached from (nat_lt x.looked (x.taker + 1)) refl;
      count = λ _. omega arith;
      inside = λ l at. let within : (line l).stand < x.taker + length x.queues = h.inside l at in omega arith;
      behind = λ k less. ⊎_elim
          (λ is.
          let same : x.taker + 0 ≡ k = omega arith in
          subst (λ j. in_queue j vs ≡ in_queue j ts) same (h.each 0 ∙ ap (λ q. in_queue (x.taker + 0) ts ++ q) empty ∙ append-nil (in_queue (x.taker + 0) ts)))
          (λ other. h.behind k (below_last k x.taker less other))
          (cases_eq k x.taker);
      each = λ i.
          let shift : x.taker + suc i ≡ x.taker + 1 + i = omega arith in
          subst (λ j. in_queue j vs ≡ in_queue j ts ++ get_or x.queues (suc i) []) shift (h.each (suc i)) ∙ ap (λ q. in_queue (x.taker + 1 + i) ts ++ q) (sym (get_or-drop x.queues i));
    }

advanced_shown : {now : EndNow} {line : ℕ → LineNow} {clear : ℕ → Bool} {vs ts : List Envelope} (x : End) → x.is_closed ≡ false → x.taker < x.newest → get_or x.queues 0 [] ≡ [] → ShowsEnd now line clear vs ts (Some x) → ShowsEnd (record now { taker_stand = now.taker_stand + 1 }) line clear vs ts (Some (advanced_end x))
advanced_shown x opened low empty h = end_restated h refl (ap (λ (e : EndNow). let d : EndNow = record e { taker_stand = e.taker_stand + 1 } in d) h.same) refl (advanced_queues x opened low empty h.queues)

-- ---- what is answered

pub left_by : (f : Facts) (e : EndId) (x : End) → Sound f → ShownAt f e.0 (Some x) → (f.end e.0).closed ≡ false → get_or x.queues 0 [] ≡ [] → (last settled : Bool) → nat_le x.newest x.taker ≡ last → kept_settled x x.taker ≡ settled → Serves f e (cond last outcome.Empty (cond settled outcome.Again outcome.Busy))
left_by f e x h shown opened empty true settled is found = drained_of f e x h ((h.waiting e.0).kept opened) shown empty is
left_by f e x h shown opened empty false settled is found =
    let taker : (f.end e.0).taker_stand ≡ x.taker = ap (λ (y : EndNow). y.taker_stand) shown.same in
    let same : is_settled f e.0 (f.end e.0).taker_stand ≡ settled = ap (is_settled f e.0) taker ∙ sym (settled_kept f e.0 x.taker x shown (omega arith)) ∙ found in
    let left = left_of f e x ((h.waiting e.0).kept opened) shown empty is in
    at_test (Serves f e) settled outcome.Again outcome.Busy (λ is. (left, same ∙ is)) (λ is. (left, same ∙ is))

-- every end, with the taker of one further
pub went_on_shown : {agents : List Agent} {ends : List End} {f : Facts} (e : EndId) (refused : Bool) (x : End) → SoundlyShows agents ends f → slice_get ends e.0 ≡ Some x → (f.end e.0).closed ≡ false → get_or x.queues 0 [] ≡ [] → (f.end e.0).taker_stand < (f.end e.0).newest → FitsTake (Serves f e) f e outcome.Again → Stepped agents (set ends e.0 (advanced_end x)) f (action.Take e) refused outcome.Again
went_on_shown {ends} {f} e refused x h at opened empty retired fits =
    let shown = end_there e.0 h at in
    let low : x.taker < x.newest = subst (λ (y : EndNow). y.taker_stand < y.newest) shown.same retired in
    let still : x.is_closed ≡ false = sym (ap (λ (y : EndNow). y.closed) shown.same) ∙ opened in
    changed h fits refl refl refl (length-set ends e.0 (advanced_end x)) (counts_still h refl (λ d. refl) (λ d. refl) (λ a d l. refl))
    (end_changed e.0 (λ b w. record w { taker_stand = cond b (w.taker_stand + 1) w.taker_stand }) x (advanced_end x) h at (λ w. refl) (advanced_shown x still low empty shown))

-- ==== Look: what the core answers fits, and it shows the facts with the answered step.

-- ---- the queue that is looked at

-- where the queues from k on are clear exactly below a number, that is the first that isn't
first_below : (clear : ℕ → Bool) (k n last : ℕ) → k ≤ last → ((i : ℕ) → k ≤ i → clear i ≡ nat_lt i last) → first_failing clear k n ≡ cond (nat_lt last (k + n)) (Some last) None
first_below clear k zero last from h = ap (λ b. cond b (Some last) None) (sym (le-ltb last (k + 0) (omega arith)))
first_below clear k (suc n) last from h = ap (λ b. cond b (first_failing clear (k + 1) n) (Some k)) (h k (omega arith)) ∙ at_test (λ q. q ≡ cond (nat_lt last (k + suc n)) (Some last) None) (nat_lt k last) (first_failing clear (k + 1) n) (Some k)
    (λ is.
    let sum : k + 1 + n ≡ k + suc n = omega arith in
    first_below clear (k + 1) n last (let less : k < last = ltb-true k last is in omega arith) (λ i more. h i (omega (arith, more))) ∙ ap (λ m. cond (nat_lt last m) (Some last) None) sum)
    (λ is.
    let most : last ≤ k = ltb-false k last is in
    let same : k ≡ last = omega arith in
    ap Some same ∙ ap (λ b. cond b (Some last) None) (sym (lt-ltb last (k + suc n) (omega arith))))

last_or : (n m : ℕ) → nat_lt n (m + 1) ≡ (nat_lt n m || eqb n m)
last_or n m = grind (arith, nat_tests)

looked_within : (taker newest last : ℕ) (closed : Bool) → taker ≤ newest → nat_lt last (taker + lookable taker newest closed) ≡ (nat_lt last newest || (closed && eqb last newest))
looked_within taker newest last true within =
    let sum : taker + (newest - taker + 1) ≡ newest + 1 = omega arith in
    ap (nat_lt last) sum ∙ last_or last newest
looked_within taker newest last false within =
    let sum : taker + (newest - taker + 0) ≡ newest = omega arith in
    ap (nat_lt last) sum ∙ or_none (nat_lt last newest)

looked_kept : (f : Facts) (e : ℕ) (x : End) → ShownAt f e (Some x) → (f.end e).taker_stand ≤ (f.end e).newest → looked f e ≡ kept_looked x
looked_kept f e x h within =
    let low : x.taker ≤ x.newest = subst (λ (y : EndNow). y.taker_stand ≤ y.newest) h.same within in
    ap (λ (y : EndNow). first_failing (f.clear e) y.taker_stand (lookable y.taker_stand y.newest y.closed)) h.same
    ∙ first_below (f.clear e) x.taker (lookable x.taker x.newest x.is_closed) x.looked h.queues.reached h.queues.clear_below
    ∙ ap (λ b. cond b (Some x.looked) None) (looked_within x.taker x.newest x.looked x.is_closed low)

-- ---- what is answered

found_kept : (f : Facts) (e : ℕ) (x : End) → ShownAt f e (Some x) → (q : Option ℕ) → found_at (λ k. is_anyone_at k x.lines) q ≡ found_at (someone_at f e) q
found_kept f e x h None = refl
found_kept f e x h (Some k) = ap (λ b. cond b outcome.Busy (outcome.Clear (Some k))) (someone_kept f e k x h)

-- an end that isn't there isn't looked at
look_none : (f : Facts) (e : EndId) (o : Outcome) → f.end e.0 ≡ no_end → look_answer o f e ≡ outcome.NotNow
look_none f e o none = ap (λ (y : EndNow). cond (y.closed || nat_lt y.taker_stand y.newest) o outcome.NotNow) none

-- ---- a queue that became clear

clear_more : (i last : ℕ) (b c : Bool) → b ≡ nat_lt i last → eqb i last ≡ c → cond c true b ≡ nat_lt i (last + 1)
clear_more i last b true is same = let here : i ≡ last = eqb-true i last same in sym (lt-ltb i (last + 1) (omega arith))
clear_more i last b false is other = is ∙ sym (last_or i last ∙ ap (λ c. nat_lt i last || c) other ∙ sym (or_none (nat_lt i last)))

cleared_queues : {line : ℕ → LineNow} {clear : ℕ → Bool} {vs ts : List Envelope} {x : End} → KeepsQueues line clear vs ts x → KeepsQueues line (λ i. cond (eqb i x.looked) true (clear i)) vs ts (record x { looked = x.looked + 1 })
cleared_queues {clear = clear} {x = x} h = record {
  reached = let reached : x.taker ≤ x.looked = h.reached in omega arith;
  clear_below = λ i from. clear_more i x.looked (clear i) (eqb i x.looked) (h.clear_below i from) refl;
  count = h.count;
  inside = h.inside;
  behind = h.behind;
  each = h.each;
}

cleared_shown : {agents : List Agent} {ends : List End} {f : Facts} (e : EndId) (refused : Bool) (x : End) → SoundlyShows agents ends f → slice_get ends e.0 ≡ Some x → outcome.Clear (Some x.looked) ≡ look_answer (found_at (someone_at f e.0) (looked f e.0)) f e → Stepped agents (set ends e.0 (record x { looked = x.looked + 1 })) f (action.Look e) refused (outcome.Clear (Some x.looked))
cleared_shown {ends} {f} e refused x h at answer =
    let y : End = record x { looked = x.looked + 1 } in
    let shown = end_there e.0 h at in
    changed h answer refl refl refl (length-set ends e.0 y) (counts_still h refl (λ d. refl) (λ d. refl) (λ a d l. refl))
    (each_changed (λ d b q. ShowsEnd (f.end d) (f.line d) (λ i. cond (b && eqb i x.looked) true (f.clear d i)) (f.accepted d) (f.taken d ++ f.discarded d) q) ends e.0 y (slice_get_within ends e.0 x at)
    (end_restated shown refl shown.same refl (cleared_queues shown.queues)) h.end)

-- ---- Look

pub look_fits : {c : CoreState} {f : Facts} (e : EndId) → Sees c f → (let o : Option End = slice_get c.ends e.0 in look_answer (found_at (λ k. is_anyone_at k (kept_lines o)) (option_and_then kept_looked o)) (seen c) e ≡ look_answer (found_at (someone_at f e.0) (looked f e.0)) f e)
look_fits {c} {f} e h = let o : Option End = slice_get c.ends e.0 in ap (λ g. look_answer (found_at (λ k. is_anyone_at k (kept_lines o)) (option_and_then kept_looked o)) g e) (seen_is h) ∙ at o (h.shows.end e.0)
  where
    at : (o : Option End) → ShownAt f e.0 o → look_answer (found_at (λ k. is_anyone_at k (kept_lines o)) (option_and_then kept_looked o)) f e ≡ look_answer (found_at (someone_at f e.0) (looked f e.0)) f e
    at None shown = look_none f e _ shown.same ∙ sym (look_none f e _ shown.same)
    at (Some x) shown = ap (λ w. look_answer w f e) (found_kept f e.0 x shown (kept_looked x) ∙ ap (found_at (someone_at f e.0)) (sym (looked_kept f e.0 x shown (h.shows.sound.lines e.0).taker_stand)))

look_found : (n k : ℕ) (b : Bool) → cond b (Some n) None ≡ Some k → k ≡ n
look_found n k true is = cc
look_found n k false is = cc

pub look_changes : {c : CoreState} {f : Facts} (e : EndId) (refused : Bool) {o : Outcome} → Sees c f → o ≡ look_answer (found_at (someone_at f e.0) (looked f e.0)) f e → Change (action.Look e) o → ShownAfter c f (action.Look e) refused o
look_changes {c} {f} e refused h answer (cleared d k) =
    let found = found_end e.0 h.shows (λ none. let is : outcome.Clear (Some k) ≡ outcome.NotNow = answer ∙ look_none f e _ none in cc) in
    let x : End = found.0 in
    let number : k ≡ x.looked = look_found x.looked k (nat_lt x.looked x.newest || (x.is_closed && eqb x.looked x.newest)) (sym (looked_kept f e.0 x (end_there e.0 h.shows found.1) (h.shows.sound.lines e.0).taker_stand) ∙ (cleared_of f e k answer).is_looked) in (
      subst (λ n. Stepped c.agents (set_at e.0 c.ends (option_map (λ (y : End). record y { looked = y.looked + 1 }) (slice_get c.ends e.0))) f (action.Look e) refused (outcome.Clear (Some n))) (sym number)
          (subst (λ q. Stepped c.agents (set_at e.0 c.ends (option_map (λ (y : End). record y { looked = y.looked + 1 }) q)) f (action.Look e) refused (outcome.Clear (Some x.looked))) (sym found.1)
          (cleared_shown e refused x h.shows found.1 (ap (λ n. outcome.Clear (Some n)) (sym number) ∙ answer))),
      refl,
    )

-- ==== Sweep: what the core answers fits, and it shows the facts with the answered step.

-- ---- tests

none_below : (test : ℕ → Bool) (n : ℕ) → ((l : ℕ) → l < n → test l ≡ false) → any_below test n ≡ false
none_below test zero h = refl
none_below test (suc n) h = rw (none_below test n (λ l less. h l (omega (arith, less)))) (h n (omega arith))

some_below : (test : ℕ → Bool) (n l : ℕ) → l < n → test l ≡ true → any_below test n ≡ true
some_below test zero l less is = absurd (omega (arith, less))
some_below test (suc n) l less is = ⊎_elim
    (λ same. ap (λ b. any_below test n || b) (ap test (sym same) ∙ is) ∙ or-true (any_below test n))
    (λ other. ap (λ b. b || test n) (some_below test n l (below_last l n (omega (arith, less)) other) is))
    (cases_eq l n)

rises_by : (l : ℕ) (vs : List Envelope) → Rises vs → Rises (by l vs)
rises_by l [] h = tt
rises_by l (v ∷ vs) h = at_test Rises (eqb v.line.0 l) (v ∷ by l vs) (by l vs) (λ _. (all_kept (λ (u : Envelope). v.epoch ≤ u.epoch) (λ (u : Envelope). eqb u.line.0 l) vs h.0, rises_by l vs h.1)) (λ _. rises_by l vs h.1)

-- ---- whether every queue is settled

-- a line whose poster is inside or being turned back at a queue from this one on
abbrev away_from : ℕ → LineNow → Bool
away_from k y = not (is_out y.phase) && nat_le k y.stand

each_all : (test : ℕ → Bool) (k n : ℕ) → ((i : ℕ) → k ≤ i → i < k + n → test i ≡ true) → not (is_some (first_failing test k n)) ≡ true
each_all test k zero h = refl
each_all test k (suc n) h = rw (h k (omega arith) (omega arith)) (each_all test (k + 1) n (λ i from below. h i (omega (arith, from)) (omega (arith, below))))

no_test : (away : Bool) (k m stand : ℕ) → m ≤ k → (away && nat_le m stand) ≡ false → (away && eqb stand k) ≡ false
no_test false k m stand from none = refl
no_test true k m stand from none = ne_eqb stand k (λ same. false≢true (sym none ∙ le-leb m stand (omega arith)))

module _ (f : Facts) (e : ℕ) (x : End) (s : Sound f) (h : ShownAt f e (Some x)) where
  nobody_from : is_anyone_from x.looked x.lines ≡ false → all_settled f e ≡ true
  nobody_from none =
      let taker : (f.end e).taker_stand ≡ x.taker = ap (λ (y : EndNow). y.taker_stand) h.same in
      let lines : any_below (λ l. away_from x.looked (f.line e l)) (lines_of (f.end e).kind) ≡ false = sym (lines_kept f e x (away_from x.looked) h) ∙ none in
      each_all (is_settled f e) (f.end e).taker_stand ((f.end e).newest - (f.end e).taker_stand + 1) (λ k from below.
      elim (nat_lt k x.looked) as (λ b. nat_lt k x.looked ≡ b → is_settled f e k ≡ true) [
        | true ↦ λ is. ap (λ b. b || not (someone_at f e k)) (h.queues.clear_below k (omega arith) ∙ is)
        | false ↦ λ is.
            let at : x.looked ≤ k = ltb-false k x.looked is in
            let nobody : someone_at f e k ≡ false = none_below (λ l. is_away_at k (f.line e l)) (lines_of (f.end e).kind) (λ l low. no_test (not (is_out (f.line e l).phase)) k x.looked (f.line e l).stand at (none_of_any (λ i. away_from x.looked (f.line e i)) (lines_of (f.end e).kind) l lines low)) in
            ap (λ b. f.clear e k || not b) nobody ∙ or-true (f.clear e k)
      ] refl)

  somebody_from : is_anyone_from x.looked x.lines ≡ true → all_settled f e ≡ false
  somebody_from some =
      let found = any_of (λ l. away_from x.looked (f.line e l)) (lines_of (f.end e).kind) (sym (lines_kept f e x (away_from x.looked) h) ∙ some) in
      let both = and_parts (not (is_out (f.line e found.0).phase)) (nat_le x.looked (f.line e found.0).stand) found.2 in
      let k : ℕ = (f.line e found.0).stand in
      let from : x.looked ≤ k = leb-true x.looked k both.1 in
      let taker : (f.end e).taker_stand ≡ x.taker = ap (λ (y : EndNow). y.taker_stand) h.same in
      let reached : x.taker ≤ x.looked = h.queues.reached in
      let within : k ≤ (f.end e).newest = (s.lines e).stand found.0 in
      let unclear : f.clear e k ≡ false = h.queues.clear_below k (omega arith) ∙ le-ltb k x.looked from in
      let there : someone_at f e k ≡ true = some_below (λ l. is_away_at k (f.line e l)) (lines_of (f.end e).kind) found.0 found.1 (rw (both.0) (eqb_same k)) in
      false_from_ne_true (all_settled f e) (λ all. false≢true (sym (ap (λ b. b || not (someone_at f e k)) unclear ∙ ap not there) ∙ each_of (is_settled f e) (f.end e).taker_stand ((f.end e).newest - (f.end e).taker_stand + 1) all k (omega arith) (omega arith)))

-- ---- what is kept is all that waits

-- queues from the epoch t on; each holds only envelopes of its own epoch
abbrev AreFrom : ℕ → List (List Envelope) → Type 0
AreFrom t queues = (i : ℕ) → AllByRecursion (λ (v : Envelope). v.epoch ≡ t + i) (get_or queues i [])

rest_from : (t : ℕ) (q : List Envelope) (qs : List (List Envelope)) → AreFrom t (q ∷ qs) → AreFrom (t + 1) qs
rest_from t q qs h = λ i. AllByRecursion-weaker (λ (v : Envelope). v.epoch ≡ t + suc i) (λ v. v.epoch ≡ t + 1 + i) (λ v is. omega arith) (get_or qs i []) (h (suc i))

joined_rises : (t : ℕ) (queues : List (List Envelope)) → AreFrom t queues → AllByRecursion (λ (v : Envelope). t ≤ v.epoch) (joined queues) × Rises (joined queues)
joined_rises t [] h = (tt, tt)
joined_rises t (q ∷ qs) h =
    let rest = joined_rises (t + 1) qs (rest_from t q qs h) in
    let later = AllByRecursion-weaker (λ (v : Envelope). t + 1 ≤ v.epoch) (λ v. t ≤ v.epoch) (λ v more. omega arith) (joined qs) rest.0 in (
      AllByRecursion-append (λ (v : Envelope). t ≤ v.epoch) q (joined qs) (AllByRecursion-weaker (λ (v : Envelope). v.epoch ≡ t + 0) (λ v. t ≤ v.epoch) (λ v is. omega arith) q (h 0)) later,
      rises_joined t q (joined qs) (same_rises (t + 0) q (h 0)) rest.1 (AllByRecursion-weaker (λ (v : Envelope). v.epoch ≡ t + 0) (λ v. v.epoch ≤ t) (λ v is. omega arith) q (h 0)) later,
    )

joined_behind : (t k : ℕ) (queues : List (List Envelope)) → AreFrom t queues → k < t → in_queue k (joined queues) ≡ []
joined_behind t k queues h less = none_of_queue (λ (v : Envelope). t ≤ v.epoch) k (joined queues) (λ v least same. absurd (let from : t ≤ v.epoch = least in omega arith)) (joined_rises t queues h).0

joined_queue : (t i : ℕ) (queues : List (List Envelope)) → AreFrom t queues → in_queue (t + i) (joined queues) ≡ get_or queues i []
joined_queue t i [] h = refl
joined_queue t zero (q ∷ qs) h =
    filter-append _ q (joined qs) ∙ ap (λ us. us ++ in_queue (t + 0) (joined qs)) (all_of_queue (t + 0) q (h 0))
    ∙ ap (λ us. q ++ us) (joined_behind (t + 1) (t + 0) qs (rest_from t q qs h) (omega arith)) ∙ append-nil q
joined_queue t (suc i) (q ∷ qs) h =
    let shift : t + 1 + i ≡ t + suc i = omega arith in
    filter-append _ q (joined qs) ∙ ap (λ us. us ++ in_queue (t + suc i) (joined qs)) (none_of_queue (λ (v : Envelope). v.epoch ≡ t + 0) (t + suc i) q (λ v is same. absurd (let first : v.epoch ≡ t + 0 = is in omega arith)) (h 0))
    ∙ ap (λ k. in_queue k (joined qs)) (sym shift) ∙ joined_queue (t + 1) i qs (rest_from t q qs h)

all_back_of : (us vs : List Envelope) (P : Envelope → Type 0) → AllByRecursion P (us ++ vs) → AllByRecursion P vs
all_back_of [] vs P h = h
all_back_of (u ∷ us) vs P h = all_back_of us vs P h.1

module _ (f : Facts) (e : ℕ) (x : End) (s : Sound f) (h : ShownAt f e (Some x)) where
  abbrev removed : List Envelope
  removed = f.taken e ++ f.discarded e

  are_from : AreFrom x.taker x.queues
  are_from i = all_back_of (in_queue (x.taker + i) removed) (get_or x.queues i []) (λ (v : Envelope). v.epoch ≡ x.taker + i) (subst (AllByRecursion (λ (v : Envelope). v.epoch ≡ x.taker + i)) (h.queues.each i) (of_queue (x.taker + i) (f.accepted e)))

  -- queue by queue, what is kept is what was accepted and not removed
  kept_queue : (k : ℕ) → in_queue k (f.accepted e) ≡ in_queue k removed ++ in_queue k (joined x.queues)
  kept_queue k = ⊎_elim
      (λ less. h.queues.behind k less ∙ sym (append-nil (in_queue k removed)) ∙ ap (λ us. in_queue k removed ++ us) (sym (joined_behind x.taker k x.queues are_from less)))
      (λ from.
      let place : x.taker + (k - x.taker) ≡ k = omega arith in
      subst (λ m. in_queue m (f.accepted e) ≡ in_queue m removed ++ in_queue m (joined x.queues)) place
      (h.queues.each (k - x.taker) ∙ ap (λ us. in_queue (x.taker + (k - x.taker)) removed ++ us) (sym (joined_queue x.taker (k - x.taker) x.queues are_from))))
      (cases_lt k x.taker)

  kept_line : (l : ℕ) → by l (removed ++ joined x.queues) ≡ by l (f.accepted e)
  kept_line l =
      let p = (s.waiting e).prefix l in
      let suffix : Rises p.0 = rises_back (by l removed) p.0 (subst Rises p.1 ((s.lines e).rising l)) in
      let mine : Rises (by l (joined x.queues)) = rises_by l (joined x.queues) (joined_rises x.taker x.queues are_from).1 in
      let same : by l (joined x.queues) ≡ p.0 = rises_one (by l (joined x.queues)) p.0 mine suffix (λ k.
      append_cancel_left (in_queue k (by l removed)) (in_queue k (by l (joined x.queues))) (in_queue k p.0)
      (ap (λ us. us ++ in_queue k (by l (joined x.queues))) (filters _ _ removed) ∙ ap (λ us. by l (in_queue k removed) ++ us) (filters _ _ (joined x.queues)) ∙ sym (filter-append _ (in_queue k removed) (in_queue k (joined x.queues)))
      ∙ ap (by l) (sym (kept_queue k)) ∙ sym (filters _ _ (f.accepted e)) ∙ ap (in_queue k) p.1 ∙ filter-append _ (by l removed) p.0)) in
      filter-append _ removed (joined x.queues) ∙ ap (λ us. by l removed ++ us) same ∙ sym p.1

  all_waiting : IsAllWaiting f e (joined x.queues)
  all_waiting = record { rises = (joined_rises x.taker x.queues are_from).1; all = kept_line }

  -- the end with its queues emptied
  swept_one : x.is_closed ≡ true → ((l : ℕ) → (f.line e l).phase ≡ Inside → ⊥) → ShowsEnd (f.end e) (f.line e) (f.clear e) (f.accepted e) (f.taken e ++ (f.discarded e ++ joined x.queues)) (Some (record x { queues = [] }))
  swept_one closed nobody = end_restated h refl h.same refl (record {
    reached = h.queues.reached;
    clear_below = h.queues.clear_below;
    count = λ opened. absurd (search (rules, false≢true, sym opened ∙ closed));
    inside = λ l at. absurd (nobody l at);
    behind = λ k less. all_kept_of k;
    each = λ i. all_kept_of (x.taker + i) ∙ sym (append-nil (in_queue (x.taker + i) (f.taken e ++ (f.discarded e ++ joined x.queues))));
  })
    where
      all_kept_of : (k : ℕ) → in_queue k (f.accepted e) ≡ in_queue k (f.taken e ++ (f.discarded e ++ joined x.queues))
      all_kept_of k = kept_queue k ∙ sym (filter-append _ removed (joined x.queues)) ∙ ap (in_queue k) (append_assoc (f.taken e) (f.discarded e) (joined x.queues))

-- ---- the ports of what was discarded

named_ports : (d : ℕ) (vs : List Envelope) → names (ports_of vs) d ≡ is_named vs d
named_ports d [] = refl
named_ports d (v ∷ vs) = list_any-append (λ p. eqb p.0 d) v.ports (ports_of vs) ∙ ap (λ b. names v.ports d || b) (named_ports d vs)

-- every end, with what waited discarded and its ports swept
swept_shown : {agents : List Agent} {ends : List End} {f : Facts} (e : EndId) (refused : Bool) (x : End) → SoundlyShows agents ends f → slice_get ends e.0 ≡ Some x → x.is_closed ≡ true → all_settled f e.0 ≡ true → FitsSweep f e (outcome.Discarded (joined x.queues)) → Stepped agents (moved_ends (ports_of (joined x.queues)) Swept (set ends e.0 (record x { queues = [] }))) f (action.Sweep e) refused (outcome.Discarded (joined x.queues))
swept_shown {ends} {f} e refused x h at closed settled fits =
    let vs : List Envelope = joined x.queues in
    let y : End = record x { queues = [] } in
    let base : List End = set ends e.0 y in
    let moves = moves_of (ports_of vs) Swept base in
    let shown = end_there e.0 h at in
    let each : (d : ℕ) → ShowsEnd (f.end d) (f.line d) (f.clear d) (f.accepted d) (f.taken d ++ cond (eqb d e.0) (f.discarded d ++ vs) (f.discarded d)) (slice_get base d) =
    each_changed (λ d b o. ShowsEnd (f.end d) (f.line d) (f.clear d) (f.accepted d) (f.taken d ++ cond b (f.discarded d ++ vs) (f.discarded d)) o) ends e.0 y (slice_get_within ends e.0 x at)
    (swept_one f e.0 x h.sound shown closed (λ l inside. nobody_there f e.0 l (h.sound.lines e.0) settled inside)) h.end
    in
    let same_count : length base ≡ length ends = length-set ends e.0 y in
    changed h fits refl refl refl (moves.count ∙ same_count)
    (counted_ports (is_named vs) (λ d. Some Swept) refl (λ d. refl) (λ d. refl) (λ d named. h.sound.places.flying d (swept_flies f e vs d h.sound (swept_of f e vs fits) named)) (λ b x less. calm_landed b f (next f (action.Sweep e) (outcome.Discarded vs)) (is_named vs) (λ d. Some Swept) x refl (λ l. refl) (λ q. refl) (λ q named. swept_flies f e vs q h.sound (swept_of f e vs fits) named) (λ q. refl)) (counts_of h)) (λ d.
    subst (ShowsEnd _ _ _ _ _) (sym (moves.each d))
    (subst (λ b. ShowsEnd (record (f.end d) { place = cond b (Some Swept) (f.end d).place }) (f.line d) (f.clear d) (f.accepted d) (f.taken d ++ cond (eqb d e.0) (f.discarded d ++ vs) (f.discarded d)) (option_map (moved_end (ports_of vs) Swept d) (slice_get base d))) (named_ports d vs)
    (moved_shown (slice_get base d) (ports_of vs) Swept (Some Swept) d (each d) (λ named. (
      refl,
      λ none.
          let there : d < f.ends = placed_made f d InFlight h.sound.places (swept_flies f e vs d h.sound (swept_of f e vs fits) (sym (named_ports d vs) ∙ named)) in
          is_there base d (omega (arith, h.ends)) none,
    )))))

-- ---- what is answered

fits_open : (f : Facts) (e : EndId) → (f.end e.0).closed ≡ false → FitsSweep f e outcome.NotNow
fits_open f e opened = rw opened refl

sweep_by : (f : Facts) (e : EndId) (x : End) → Sound f → ShownAt f e.0 (Some x) → (closed anyone : Bool) → x.is_closed ≡ closed → is_anyone_from x.looked x.lines ≡ anyone → FitsSweep f e (cond (not closed) outcome.NotNow (cond anyone outcome.Busy (outcome.Discarded (joined x.queues))))
sweep_by f e x s shown false anyone opened who = fits_open f e (ap (λ (y : EndNow). y.closed) shown.same ∙ opened)
sweep_by f e x s shown true true closed who = rw ((ap (λ (y : EndNow). y.closed) shown.same ∙ closed), (somebody_from f e.0 x s shown who)) refl
sweep_by f e x s shown true false closed who = rw ((ap (λ (y : EndNow). y.closed) shown.same ∙ closed), (nobody_from f e.0 x s shown who)) (all_waiting f e.0 x s shown)

pub sweep_fits : (f : Facts) (e : EndId) (o : Option End) → Sound f → ShownAt f e.0 o → FitsSweep f e (sweep_outcome_at o)
sweep_fits f e None s shown = fits_open f e (ap (λ (y : EndNow). y.closed) shown.same)
sweep_fits f e (Some x) s shown = sweep_by f e x s shown x.is_closed (is_anyone_from x.looked x.lines) refl refl

pub sweep_changes : {c : CoreState} {f : Facts} (e : EndId) (refused : Bool) {o : Outcome} → Sees c f → o ≡ sweep_outcome_at (slice_get c.ends e.0) → FitsSweep f e o → Change (action.Sweep e) o → ShownAfter c f (action.Sweep e) refused o
sweep_changes {c} {f} e refused h says fits (end_swept d vs) =
    let swept = swept_of f e vs fits in
    let found = found_end e.0 h.shows (λ none. false≢true (sym (ap (λ (z : EndNow). z.closed) none) ∙ swept.is_closed)) in
    let x : End = found.0 in
    let shown = end_there e.0 h.shows found.1 in
    let last : outcome.Discarded vs ≡ outcome.Discarded (joined x.queues) = (miss (is_anyone_from x.looked x.lines) (pass x.is_closed (says ∙ ap sweep_outcome_at found.1) (λ is. cc)).1 (λ is. cc)).1 in
    let all : vs ≡ joined x.queues = cc in (
      subst (λ us. Stepped c.agents (moved_ends (ports_of us) Swept (set_at e.0 c.ends (option_map (λ (y : End). record y { queues = [] }) (slice_get c.ends e.0)))) f (action.Sweep e) refused (outcome.Discarded us)) (sym all)
          (subst (λ q. Stepped c.agents (moved_ends (ports_of (joined x.queues)) Swept (set_at e.0 c.ends (option_map (λ (y : End). record y { queues = [] }) q))) f (action.Sweep e) refused (outcome.Discarded (joined x.queues))) (sym found.1)
          (swept_shown e refused x h.shows found.1 (sym (ap (λ (z : EndNow). z.closed) shown.same) ∙ swept.is_closed) swept.settled (subst (λ us. FitsSweep f e (outcome.Discarded us)) all fits))),
      refl,
    )

-- ==== Start and Take: what the core answers fits, and it shows the facts with the answered step.

-- ---- Start

-- the ends, one of them enabled
started_shown : {agents : List Agent} {ends : List End} {f : Facts} (e : EndId) (refused : Bool) (x : End) → SoundlyShows agents ends f → slice_get ends e.0 ≡ Some x → outcome.Started ≡ start_answer f e → Stepped agents (set ends e.0 (record x { is_enabled = true })) f (action.Start e) refused outcome.Started
started_shown {ends} {f} e refused x h at answer =
    let shown_at = end_there e.0 h at in
    changed h answer refl refl refl (length-set ends e.0 (record x { is_enabled = true })) (counts_still h refl (λ d. refl) (λ d. refl) (λ a d l. refl))
    (end_changed e.0 (λ b w. record w { enabled = cond b true w.enabled }) x (record x { is_enabled = true }) h at (λ w. refl)
    (end_restated shown_at refl (ap (λ (w : EndNow). let v : EndNow = record w { enabled = true } in v) shown_at.same) refl (same_queues x.place true shown_at.queues)))

pub start_changes : {c : CoreState} {f : Facts} (e : EndId) (refused : Bool) {o : Outcome} → Sees c f → o ≡ start_answer f e → Change (action.Start e) o → ShownAfter c f (action.Start e) refused o
start_changes {c} {f} e refused h answer (started d) =
    let found = found_end e.0 h.shows (λ none. false≢true (sym (ap (λ (z : EndNow). is_some (running f.agent (with_agent z.place))) none) ∙ (started_of f e answer).1)) in
    (subst (λ q. Stepped c.agents (set_at e.0 c.ends (option_map (λ (x : End). record x { is_enabled = true }) q)) f (action.Start e) refused outcome.Started) (sym found.1) (started_shown e refused found.0 h.shows found.1 answer), refl)

-- ---- Take

-- what the front of the taker's queue says of its envelope
pub record Front (f : Facts) (e : EndId) (v : Envelope) : Type 0 where
  pub end : v.end.0 ≡ e.0
  pub epoch : v.epoch ≡ (f.end e.0).taker_stand

front_at : (f : Facts) (e : EndId) (x : End) (v : Envelope) (rest : List Envelope) → Sound f → f.discarded e.0 ≡ [] → ShownAt f e.0 (Some x) → get_or x.queues 0 [] ≡ v ∷ rest → Front f e v
front_at f e x v rest s none h front =
    let t : ℕ = (f.end e.0).taker_stand in
    let at : in_queue t (f.accepted e.0) ≡ in_queue t (f.taken e.0) ++ v ∷ rest = taker_queue_at f e x none h ∙ ap (λ q. in_queue t (f.taken e.0) ++ q) front in
    let epochs = all_back (λ (u : Envelope). u.epoch ≡ t) (in_queue t (f.taken e.0)) (v ∷ rest) (subst (AllByRecursion (λ (u : Envelope). u.epoch ≡ t)) at (of_queue t (f.accepted e.0))) in
    let named = all_back _ (in_queue t (f.taken e.0)) (v ∷ rest) (subst (AllByRecursion (IsOfEnd e.0 _ (f.line e.0))) at (all_kept _ (λ (u : Envelope). eqb u.epoch t) (f.accepted e.0) (s.lines e.0).named)) in
    record { end = named.0.end; epoch = epochs.0 }

-- the envelope at the front is the next of its line
next_of : (f : Facts) (e : EndId) (x : End) (v : Envelope) (rest : List Envelope) → Sound f → f.discarded e.0 ≡ [] → ShownAt f e.0 (Some x) → get_or x.queues 0 [] ≡ v ∷ rest → IsNext f e v
next_of f e x v rest s none h front =
    let t : ℕ = (f.end e.0).taker_stand in
    let here = front_at f e x v rest s none h front in
    record {
      end = here.end;
      epoch = here.epoch;
      order = next_in_line t (f.accepted e.0) (f.taken e.0) rest v (taken_prefix v.line.0 (f.taken e.0) (f.discarded e.0) (f.accepted e.0) ((s.waiting e.0).prefix v.line.0)) ((s.lines e.0).rising v.line.0) ((s.waiting e.0).behind v.line.0)
          (taker_queue_at f e x none h ∙ ap (λ q. in_queue t (f.taken e.0) ++ q) front);
    }

some_queue : (queues : List (List Envelope)) (v : Envelope) (rest : List Envelope) → get_or queues 0 [] ≡ v ∷ rest → 0 < length queues
some_queue [] v rest is = absurd (search (rules, is))
some_queue (q ∷ qs) v rest is = omega arith

-- each queue of the end after its front was taken
each_taken : (taker : ℕ) (vs ts : List Envelope) (queues : List (List Envelope)) (v : Envelope) (rest : List Envelope) → v.epoch ≡ taker → get_or queues 0 [] ≡ v ∷ rest → ((i : ℕ) → in_queue (taker + i) vs ≡ in_queue (taker + i) ts ++ get_or queues i []) → (i : ℕ) → in_queue (taker + i) vs ≡ in_queue (taker + i) (ts ++ v ∷ []) ++ get_or (set queues 0 rest) i []
each_taken taker vs ts queues v rest epoch front each zero =
    each 0 ∙ ap (λ q. in_queue (taker + 0) ts ++ q) front ∙ sym (append_assoc (in_queue (taker + 0) ts) (v ∷ []) rest)
    ∙ ap (λ us. us ++ rest) (sym (queue_more (taker + 0) ts v (epoch ∙ omega arith)))
    ∙ ap (λ q. in_queue (taker + 0) (ts ++ v ∷ []) ++ q) (sym (get_or-set_same queues 0 rest [] (some_queue queues v rest front)))
each_taken taker vs ts queues v rest epoch front each (suc i) =
    each (suc i)
    ∙ ap (λ us. us ++ get_or queues (suc i) []) (sym (queue_other (taker + suc i) ts v (λ is. omega arith)))
    ∙ ap (λ q. in_queue (taker + suc i) (ts ++ v ∷ []) ++ q) (sym (get_or-set_other queues 0 (suc i) rest [] (λ is. omega arith)))

-- the end with another content of the taker's queue
abbrev with_taker_queue : End → List Envelope → End
with_taker_queue x rest = record x { queues = set x.queues 0 rest }

-- the end whose front was taken
taken_end : (f : Facts) (e : EndId) (x : End) (v : Envelope) (rest : List Envelope) → Sound f → f.discarded e.0 ≡ [] → ShownAt f e.0 (Some x) → get_or x.queues 0 [] ≡ v ∷ rest → ShowsEnd (f.end e.0) (f.line e.0) (f.clear e.0) (f.accepted e.0) (f.taken e.0 ++ v ∷ []) (Some (with_taker_queue x rest))
taken_end f e x v rest s none h front =
    let taker : v.epoch ≡ x.taker = (front_at f e x v rest s none h front).epoch ∙ ap (λ (y : EndNow). y.taker_stand) h.same in
    let same : f.taken e.0 ++ f.discarded e.0 ≡ f.taken e.0 = nothing_more (f.taken e.0) (f.discarded e.0) none in
    end_restated h refl h.same refl (record {
      reached = h.queues.reached;
      clear_below = h.queues.clear_below;
      count = λ opened. ap (λ n. x.taker + n) (length-set x.queues 0 rest) ∙ h.queues.count opened;
      inside = λ l at. subst (λ n. (f.line e.0 l).stand < x.taker + n) (sym (length-set x.queues 0 rest)) (h.queues.inside l at);
      behind = λ k less. h.queues.behind k less ∙ ap (in_queue k) same ∙ sym (queue_other k (f.taken e.0) v (λ is. omega arith));
      each = each_taken x.taker (f.accepted e.0) (f.taken e.0) x.queues v rest taker front (λ i. subst (λ us. in_queue (x.taker + i) (f.accepted e.0) ≡ in_queue (x.taker + i) us ++ get_or x.queues i []) same (h.queues.each i));
    })

-- every end, with the envelope taken and its ports arrived
got_shown : {agents : List Agent} {ends new : List End} {f : Facts} (e : EndId) (refused : Bool) (x : End) (a : AgentId) (v : Envelope) (rest : List Envelope) → SoundlyShows agents ends f → slice_get ends e.0 ≡ Some x → (f.end e.0).place ≡ Some (With a) → (f.end e.0).closed ≡ false → FitsTake (Serves f e) f e (outcome.Got v) → get_or x.queues 0 [] ≡ v ∷ rest → IsNext f e v → new ≡ moved_ends v.ports (Arrived a) (set ends e.0 (with_taker_queue x rest)) → Stepped agents new f (action.Take e) refused (outcome.Got v)
got_shown {ends} {new} {f} e refused x a v rest h at has opened fits front n leaves =
    let base : List End = set ends e.0 (with_taker_queue x rest) in
    let moves : Moves v.ports (Arrived a) base new = moves_to v.ports (Arrived a) base new leaves in
    let shown = end_there e.0 h at in
    let none : f.discarded e.0 ≡ [] = (h.sound.waiting e.0).kept opened in
    let each : (d : ℕ) → ShowsEnd (f.end d) (f.line d) (f.clear d) (f.accepted d) (cond (eqb d e.0) (f.taken d ++ v ∷ []) (f.taken d) ++ f.discarded d) (slice_get base d) =
    each_changed (λ d b o. ShowsEnd (f.end d) (f.line d) (f.clear d) (f.accepted d) (cond b (f.taken d ++ v ∷ []) (f.taken d) ++ f.discarded d) o) ends e.0 (with_taker_queue x rest) (slice_get_within ends e.0 x at)
    (subst (λ us. ShowsEnd (f.end e.0) (f.line e.0) (f.clear e.0) (f.accepted e.0) us (Some (with_taker_queue x rest))) (sym (nothing_more (f.taken e.0 ++ v ∷ []) (f.discarded e.0) none)) (taken_end f e x v rest h.sound none shown front)) h.end
    in
    let made : e.0 < f.ends = placed_made f e.0 (With a) h.sound.places has in
    let same_count : length base ≡ length ends = length-set ends e.0 (with_taker_queue x rest) in
    changed h fits refl refl refl (moves.count ∙ same_count)
    (counted_ports (names v.ports) (λ d. arrived (f.end e.0).place (f.end d).place) refl (λ d. refl) (λ d. refl) (λ d named. h.sound.places.flying d (taken_flies f e v d h.sound n opened made named)) (λ b x less. calm_landed b f (next f (action.Take e) (outcome.Got v)) (names v.ports) (λ d. arrived (f.end e.0).place (f.end d).place) x refl (λ l. refl) (λ q. refl) (λ q named. taken_flies f e v q h.sound n opened made named) (λ q. ap (λ p. is_with b (arrived p (f.end q).place)) has)) (counts_of h)) (λ d.
    subst (ShowsEnd _ _ _ _ _) (sym (moves.each d))
    (moved_shown (slice_get base d) v.ports (Arrived a) (arrived (f.end e.0).place (f.end d).place) d (each d) (λ named. (
      ap (λ p. arrived p (f.end d).place) has,
      λ none.
          let there : d < f.ends = placed_made f d InFlight h.sound.places (taken_flies f e v d h.sound n opened made named) in
          is_there base d (omega (arith, h.ends)) none,
    ))))

-- ---- the tests of a take, one after another

-- what is served at an open, enabled end fits
take_served : (f : Facts) (e : EndId) (x : End) → Sound f → ShownAt f e.0 (Some x) → (f.end e.0).closed ≡ false → (o : Outcome) → TakeServes x o → Serves f e o
take_served f e x h shown opened (outcome.Got v) front = next_of f e x v (drop 1 (get_or x.queues 0 [])) h ((h.waiting e.0).kept opened) shown front
take_served f e x h shown opened o served = subst (Serves f e) (sym served.1) (left_by f e x h shown opened served.0 (nat_le x.newest x.taker) (kept_settled x x.taker) refl refl)

-- nobody has an end that isn't there
unheld : (f : Facts) (e : EndId) → f.end e.0 ≡ no_end → is_some (holder f e.0) ≡ true → ⊥
unheld f e none held = false≢true (sym (ap (λ (y : EndNow). is_some (running f.agent (with_agent y.place))) none) ∙ held)

-- what is served where a running agent has the end
served_at : (f : Facts) (e : EndId) (o : Outcome) → Sound f → (q : Option End) → ShownAt f e.0 q → (f.end e.0).closed ≡ false → is_some (holder f e.0) ≡ true → ServesAt q o → Serves f e o
served_at f e o h None shown opened held served = absurd (unheld f e shown.same held)
served_at f e o h (Some x) shown opened held served = take_served f e x h shown opened o served

match_to : (closed held enabled : Bool) (o : Outcome) (P Q : Type 0) → (closed ≡ false → held ≡ true → P → Q) → MatchBool closed (o ≡ outcome.Closed) (MatchBool held (MatchBool enabled P (o ≡ outcome.Disabled)) (o ≡ outcome.NotNow)) → MatchBool closed (o ≡ outcome.Closed) (MatchBool held (MatchBool enabled Q (o ≡ outcome.Disabled)) (o ≡ outcome.NotNow))
match_to true held enabled o P Q to h = h
match_to false true true o P Q to h = to refl refl h
match_to false true false o P Q to h = h
match_to false false enabled o P Q to h = h

-- the same of what the core keeps
take_seen : {c : CoreState} {f : Facts} (e : EndId) (o : Outcome) → Sees c f → (let P : Outcome → Type 0 = ServesAt (slice_get c.ends e.0) in FitsTake P (seen c) e o → FitsTake P f e o)
take_seen {c} {f} e o h t = subst (λ g. FitsTake (ServesAt (slice_get c.ends e.0)) g e o) (seen_is h) t

pub take_fits : {c : CoreState} {f : Facts} (e : EndId) (o : Outcome) → Sees c f → FitsTake (ServesAt (slice_get c.ends e.0)) (seen c) e o → FitsTake (Serves f e) f e o
take_fits {c} {f} e o h t = match_to (f.end e.0).closed (is_some (holder f e.0)) (f.end e.0).enabled o _ _ (λ opened held. served_at f e o h.shows.sound (slice_get c.ends e.0) (h.shows.end e.0) opened held) (take_seen e o h t)

-- what was served at an end that is there
serves_there : {c : CoreState} {f : Facts} (e : EndId) (o : Outcome) → (o ≡ outcome.NotNow → ⊥) → (o ≡ outcome.Closed → ⊥) → (o ≡ outcome.Disabled → ⊥) → Sees c f → FitsTake (ServesAt (slice_get c.ends e.0)) (seen c) e o → (x : End) × (slice_get c.ends e.0 ≡ Some x) × TakeServes x o
serves_there {c} {f} e o n k d h t =
    let r = served_when (f.end e.0).closed (is_some (holder f e.0)) (f.end e.0).enabled o (ServesAt (slice_get c.ends e.0) o) k n d (take_seen e o h t) in
    let found = found_end e.0 h.shows (λ none. unheld f e none r.1) in
    (found.0, found.1, subst (λ q. ServesAt q o) found.1 r.3)

pub take_changes : {c : CoreState} {f : Facts} (e : EndId) (refused : Bool) {o : Outcome} → Sees c f → FitsTake (ServesAt (slice_get c.ends e.0)) (seen c) e o → FitsTake (Serves f e) f e o → Change (action.Take e) o → ShownAfter c f (action.Take e) refused o
take_changes {c} {f} e refused h says fits (got d v) =
    let there = serves_there e (outcome.Got v) (λ is. cc) (λ is. cc) (λ is. cc) h says in
    let x : End = there.0 in
    let served = got_of f e v fits in
    let has = runs_there f (f.end e.0).place served.held in
    let held : holder f e.0 ≡ Some has.0 = ap (λ p. running f.agent (with_agent p)) has.1 ∙ ap (λ b. cond b (Some has.0) None) has.2 in (
      subst (λ p. Stepped c.agents (arrived_ends p v.ports (change_at front_taken e.0 c.ends)) f (action.Take e) refused (outcome.Got v)) (sym (ap (λ g. holder g e.0) (seen_is h) ∙ held))
          (got_shown e refused x has.0 v (drop 1 (get_or x.queues 0 [])) h.shows there.1 has.1 served.is_open fits there.2 served.serves (ap (λ q. moved_ends v.ports (Arrived has.0) (set_at e.0 c.ends (option_map front_taken q))) there.1)),
      refl,
    )
take_changes {c} {f} e refused h says fits (went_on d) =
    let there = serves_there e outcome.Again (λ is. cc) (λ is. cc) (λ is. cc) h says in
    let served = went_on_of f e fits in (
      subst (λ q. Stepped c.agents (set_at e.0 c.ends (option_map advanced_end q)) f (action.Take e) refused outcome.Again) (sym there.1)
          (went_on_shown e refused there.0 h.shows there.1 served.is_open there.2.0 served.serves.0.retired fits),
      refl,
    )
