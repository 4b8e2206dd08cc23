-- What every legal history keeps: the headline, the laws beside it, and what becomes of each accepted envelope.
use Rattle.std.proofs.Common.{take, Bool, List, None, Option, Some, [], ap, append-nil, append_assoc, arith, cond, drop, eqb, false, get_or, inl, inr, length, length-append, lt-ltb, ltb-false, ltb-true, map, nat_lt, ne_eqb, not, refl, rules, subst, suc, sym, true, zero, ℕ, ⊎_elim, ◌&&◌, ◌++◌, ◌+◌, ◌-◌, ◌<◌, ◌∙◌, ◌∷◌, ◌≡◌, ◌≤◌}
use Rattle.hub_core.proofs.Words.{Action, AllByRecursion, Answers, Core, End, EndId, Envelope, Facts, Fates, Fits, FitsSweep, FitsTake, Headline, History, InOrder, Inside, IsAllWaiting, IsBusyAt, IsDrained, IsDrainedAt, IsLeft, IsNext, IsTurned, KeepsQueues, KeepsTheLine, Legal, LegalAfter, LineNow, MatchBool, NoticeIsLast, OneAnswer, Out, Outcome, Pair, Phase, Prefix, Rises, SameIsJoined, Sender, Serves, Shows, Sound, Step, Sweeps, Turned, TurnedPutsNothing, accepted, accepted_by, all_settled, and_from, and_parts, by, cases_lt, closed_after, discarded}
use Rattle.hub_core.proofs.Words.{discarded_by, ends, answered, eq-eqb, eqb-true, ext_get_or, facts, false_from_ne_true, false≢true, filter, filter-append, flat_map, flat_map-append, flights, get_or-append_seam, get_or_append_left, port_place_allows_notice, holder, in_queue, is_away_at, is_inside, is_line, is_out, is_some, leaves, lines_of, list_any, map-append, names, naming, not-false, not-true, numbers, on_line, opened, or_from, or_left, or_parts, or_right, phase_of_line, place, poster, posts, same_name, slice_get, someone_at, taken, taken_by, total, up_to, waiting, drop-append_seam, take-append_seam}
use Rattle.hub_core.proofs.SoundPlaces.{speaker_next}
use Rattle.hub_core.proofs.Nexts.{SweptWith, any_of, found_closed_of, found_moved_of, got_of, let_in_of, noticed_of, pushed_of, served_of, swept_of, facts_next, next}
use Rattle.hub_core.proofs.Sames.{by_pairs, legal_apart, legal_at, legal_joined, turned_leaves, turned_same}
use Rattle.hub_core.proofs.Items.{AllByRecursion-append, AllByRecursion-weaker, at_test, eqb_same}
use Rattle.hub_core.proofs.SoundLines.{Numbered, by_more, on_place, got_prefix, inside_of, nobody_there, taken_prefix}
use Rattle.hub_core.proofs.Sounds.{sound_legal}
use Rattle.hub_core.proofs.Totals.{all_pass, count_append, count_lines, filter_both, joined, length-up_to, none_fail, nothing_more, nothing_there, of_line, total_same, bound_of}
use Rattle.hub_core.proofs.Waits.{all_back, all_both, all_kept, filters, queue_more}
use Rattle.hub_core.proofs.Speakers.{nothing_accepted, nothing_removed}
use Rattle.hub_core.proofs.Frames.{ShownAt}
use Rattle.hub_core.specs.declared.step.Outcome.TheVariants as outcome
use Rattle.hub_core.specs.declared.step.Action.TheVariants as action

-- ---- a prefix of numbered envelopes is numbered

get_or-up_to : (n i d : ℕ) → i < n → get_or (up_to n) i d ≡ i
get_or-up_to zero i d h = absurd (omega arith)
get_or-up_to (suc n) i d h = ⊎_elim
    (λ below. get_or_append_left (up_to n) (n ∷ []) d i (subst (λ m. i < m) (sym (length-up_to n)) below) ∙ get_or-up_to n i d below)
    (λ past.
    let last : i ≡ n = omega arith in
    rw last (subst (λ m. get_or (up_to n ++ n ∷ []) m d ≡ n) (length-up_to n) (get_or-append_seam (up_to n) n [] d)))
    (cases_lt i n)

front_numbered : (ns ms : List ℕ) → Numbered (ns ++ ms) → Numbered ns
front_numbered ns ms h = ext_get_or 0 ns (up_to (length ns)) (sym (length-up_to (length ns))) (λ i within.
    let total : i < length (ns ++ ms) = rw (length-append ns ms) (omega arith) in
    sym (get_or_append_left ns ms 0 i within) ∙ ap (λ us. get_or us i 0) h ∙ get_or-up_to (length (ns ++ ms)) i 0 total ∙ sym (get_or-up_to (length ns) i 0 within))

numbers_prefix : (line epoch : ℕ) (ts vs : List Envelope) → Prefix (by line ts) (by line vs) → (rest : List ℕ) × (numbers line epoch vs ≡ numbers line epoch ts ++ rest)
numbers_prefix line epoch ts vs p = (
  map (λ (v : Envelope). v.number) (filter (λ (v : Envelope). eqb v.epoch epoch) p.0),
  ap (map (λ (v : Envelope). v.number)) (sym (both vs) ∙ ap (filter (λ (v : Envelope). eqb v.epoch epoch)) p.1 ∙ filter-append _ (by line ts) p.0 ∙ ap (λ us. us ++ filter (λ (v : Envelope). eqb v.epoch epoch) p.0) (both ts))
      ∙ map-append _ (filter (λ (v : Envelope). eqb v.line.0 line && eqb v.epoch epoch) ts) (filter (λ (v : Envelope). eqb v.epoch epoch) p.0),
)
  where
    both : (us : List Envelope) → filter (λ (v : Envelope). eqb v.epoch epoch) (by line us) ≡ filter (λ v. eqb v.line.0 line && eqb v.epoch epoch) us
    both us = filter_both (λ v. eqb v.line.0 line) (λ v. eqb v.epoch epoch) us

-- ---- a poster that is turned back

on_line_turned : (b : Bool) (p q : Phase) → (b ≡ true → ⊥) → q ≡ Turned → cond b p q ≡ Turned
on_line_turned true p q never h = absurd (never refl)
on_line_turned false p q never h = h

-- the phase of a line that both numbers name
phase_there : (f : Facts) (s t : Sender) → is_line s t ≡ true → phase_of_line f s ≡ phase_of_line f t
phase_there f s t is = on_place (λ e l. (f.line e l).phase ≡ phase_of_line f t) t s.end.0 s.line.0 is refl

not_out : (f : Facts) (s t : Sender) → phase_of_line f s ≡ Turned → is_out (phase_of_line f t) ≡ true → is_line s t ≡ true → ⊥
not_out f s t turned out is = absurd (search (rules, false≢true, sym (ap is_out (sym (phase_there f s t is) ∙ turned)) ∙ out))

-- it stays so until it leaves
turned_next : (f : Facts) (refused : Bool) (o : Outcome) (a : Action) (s : Sender) → Answers f a refused o → phase_of_line f s ≡ Turned → leaves s o a ≡ false → phase_of_line (next f a o) s ≡ Turned
turned_next f refused outcome.In (action.Enter t) s fits turned stays = on_line_turned (is_line s t) Inside (phase_of_line f s) (not_out f s t turned (let_in_of f t fits).0.out) turned
turned_next f refused outcome.Moved (action.Enter t) s fits turned stays = on_line_turned (is_line s t) Turned (phase_of_line f s) (not_out f s t turned (found_moved_of f t fits).0.out) turned
turned_next f refused outcome.Closed (action.Enter t) s fits turned stays = on_line_turned (is_line s t) Turned (phase_of_line f s) (not_out f s t turned (found_closed_of f t fits).0.out) turned
turned_next f refused outcome.Left (action.Leave t) s fits turned stays = on_line_turned (is_line s t) Out (phase_of_line f s) (λ is. false≢true (sym stays ∙ is)) turned
turned_next f refused o a s fits turned stays = turned

-- and posts nothing meanwhile
posts_inside : (f : Facts) (s t : Sender) → phase_of_line f s ≡ Turned → is_inside (phase_of_line f t) ≡ true → (b : Bool) → is_line s t ≡ b → b ≡ false
posts_inside f s t turned inside false is = refl
posts_inside f s t turned inside true is = absurd (search (rules, false≢true, sym (ap is_inside (sym (phase_there f s t is) ∙ turned)) ∙ inside))

no_posts : (f : Facts) (refused : Bool) (o : Outcome) (a : Action) (s : Sender) → Answers f a refused o → phase_of_line f s ≡ Turned → posts s o a ≡ false
no_posts f refused (outcome.Accepted n) (action.Push t ports body) s fits turned = posts_inside f s t turned (pushed_of f t ports body refused n fits).inside (is_line s t) refl
no_posts f refused (outcome.Accepted n) (action.Notice t) s fits turned = posts_inside f s t turned (noticed_of f t refused n fits).inside (is_line s t) refl
no_posts f refused o a s fits turned = refl

turned_on : (past : History) (s : Sender) (middle after : History) → LegalAfter past (middle ++ after) → phase_of_line (facts past) s ≡ Turned → AllByRecursion (λ (p : Pair). leaves s p.1 p.0.action ≡ false) middle → AllByRecursion (λ (p : Pair). posts s p.1 p.0.action ≡ false) middle
turned_on past s [] after l turned stays = tt
turned_on past s (p ∷ middle) after l turned stays = (
  no_posts (facts past) p.0.memory_refused p.1 p.0.action s l.0 turned,
  turned_on (past ++ p ∷ []) s middle after l.1
      (ap (λ (f : Facts). phase_of_line f s) (facts_next past p) ∙ turned_next (facts past) p.0.memory_refused p.1 p.0.action s l.0 turned stays.0) stays.1,
)

same_line : (s : Sender) → is_line s s ≡ true
same_line s = rw (eqb_same s.end.0) (eqb_same s.line.0)

here_turned : (f : Facts) (s : Sender) (o : Outcome) → IsTurned o → phase_of_line (next f (action.Enter s) o) s ≡ Turned
here_turned f s o (inl is) = rw is (ap (λ b. cond b Turned (phase_of_line f s)) (same_line s))
here_turned f s o (inr is) = rw is (ap (λ b. cond b Turned (phase_of_line f s)) (same_line s))

turned_from : (h before middle after : History) (s : Sender) (refused : Bool) (o : Outcome) → Legal h → IsTurned o → h ≡ before ++ answered (action.Enter s) refused o ∷ (middle ++ after) → AllByRecursion (λ (p : Pair). leaves s p.1 p.0.action ≡ false) middle → AllByRecursion (λ (p : Pair). posts s p.1 p.0.action ≡ false) middle
turned_from h before middle after s refused o l turned is stays =
    let at = legal_at h before (middle ++ after) (answered (action.Enter s) refused o) l is in
    turned_on (before ++ answered (action.Enter s) refused o ∷ []) s middle after at.2
    (ap (λ (f : Facts). phase_of_line f s) (facts_next before (answered (action.Enter s) refused o)) ∙ here_turned (facts before) s o turned) stays

-- ---- what a take is answered

closed_of : (closed : Bool) (o : Outcome) (P : Type 0) → closed ≡ true → MatchBool closed (o ≡ outcome.Closed) P → o ≡ outcome.Closed
closed_of true o P is h = h
closed_of false o P is h = absurd (false≢true is)

closed_takes : (h before after : History) (e : EndId) (refused : Bool) (o : Outcome) → Legal h → h ≡ before ++ answered (action.Take e) refused o ∷ after → ((facts before).end e.0).closed ≡ true → o ≡ outcome.Closed
closed_takes h before after e refused o l is closed =
    let at = legal_at h before after (answered (action.Take e) refused o) l is in
    closed_of ((facts before).end e.0).closed o _ closed at.1

empty_at : (h before after : History) (e : EndId) (refused : Bool) → Legal h → h ≡ before ++ answered (action.Take e) refused outcome.Empty ∷ after → IsDrainedAt before e.0
empty_at h before after e refused l is =
    let at = legal_at h before after (answered (action.Take e) refused outcome.Empty) l is in
    let served = served_of (facts before) e outcome.Empty (λ is. cc) (λ is. cc) (λ is. cc) at.1 in
    record { is_open = served.is_open; is_enabled = served.is_enabled; all = served.serves.all }

-- the line whose poster is inside or being turned back at a queue that isn't settled
pub record Waits (f : Facts) (x k : ℕ) : Type 0 where
  pub line : ℕ
  pub low : line < lines_of (f.end x).kind
  pub away : is_out (f.line x line).phase ≡ false
  pub there : (f.line x line).stand ≡ k

pub waits_of : (f : Facts) (x k : ℕ) → someone_at f x k ≡ true → Waits f x k
waits_of f x k h =
    let found = any_of (λ l. is_away_at k (f.line x l)) (lines_of (f.end x).kind) h in
    let both = and_parts (not (is_out (f.line x found.0).phase)) (eqb (f.line x found.0).stand k) found.2 in
    record { line = found.0; low = found.1; away = not-true (is_out (f.line x found.0).phase) both.0; there = eqb-true (f.line x found.0).stand k both.1 }

busy_at : (h before after : History) (e : EndId) (refused : Bool) → Legal h → h ≡ before ++ answered (action.Take e) refused outcome.Busy ∷ after → IsBusyAt before e.0
busy_at h before after e refused l is =
    let at = legal_at h before after (answered (action.Take e) refused outcome.Busy) l is in
    let served = served_of (facts before) e outcome.Busy (λ is. cc) (λ is. cc) (λ is. cc) at.1 in
    let stand : ℕ = ((facts before).end e.0).taker_stand in
    let unsettled = or_parts ((facts before).clear e.0 stand) (not (someone_at (facts before) e.0 stand)) served.serves.1 in
    let who = waits_of (facts before) e.0 stand (not-false (someone_at (facts before) e.0 stand) unsettled.1) in
    record { is_open = served.is_open; is_enabled = served.is_enabled; retired = served.serves.0.retired; line = who.line; away = who.away; there = who.there }

-- ---- the headline

pub headline : (h : History) → Legal h → Headline h
headline h l =
    let s : Sound (facts h) = sound_legal h l in
    record {
      prefix = λ e line. taken_prefix line (taken h e) (discarded h e) (accepted h e) ((s.waiting e).prefix line);
      accepted_once = λ e line epoch. (s.lines e).numbered line epoch;
      taken_once = λ e line epoch.
          let p = numbers_prefix line epoch (taken h e) (accepted h e) (taken_prefix line (taken h e) (discarded h e) (accepted h e) ((s.waiting e).prefix line)) in
          front_numbered (numbers line epoch (taken h e)) p.0 (subst Numbered p.1 ((s.lines e).numbered line epoch));
      closed = λ before after e refused o is closed. closed_takes h before after e refused o l is closed;
      turned = λ before middle after t refused o turned is stays. turned_from h before middle after t refused o l turned is stays;
      same = λ before after t refused again o turned nowhere is. turned_same before t refused again o turned nowhere (legal_at h before after (answered (action.Enter t) refused o) l is).1;
      same_but_destination = λ before after t refused again o turned there is. turned_leaves before t refused again o turned (legal_at h before after (answered (action.Enter t) refused o) l is).1;
      empty = λ before after e refused is. empty_at h before after e refused l is;
      busy = λ before after e refused is. busy_at h before after e refused l is;
    }

-- ---- the laws beside it

pub keeps_the_line : KeepsTheLine
keeps_the_line = record {
  held = λ h s l away. (sound_legal h l).places.away s away;
  kept = λ h p s a l fits away still posts.
      ap (λ (f : Facts). poster f s) (facts_next h p) ∙ speaker_next (facts h) p.0.memory_refused (sound_legal h l) p.1 p.0.action fits s away (ap (λ (f : Facts). is_out (phase_of_line f s)) (sym (facts_next h p)) ∙ still) (ap is_some posts) ∙ posts;
}

refused_by : (may : Bool) (rest o : Outcome) → may ≡ false → o ≡ cond (not may) outcome.NotNow rest → o ≡ outcome.NotNow
refused_by true rest o is h = absurd (false≢true (sym is))
refused_by false rest o is h = h

pub turned_puts_nothing : TurnedPutsNothing
turned_puts_nothing = record {
  push = λ h s ports body refused o turned fits. refused_by _ _ o (ap (λ p. is_inside p && not ((facts h).line s.end.0 s.line.0).noticed) turned) fits;
  notice = λ h s refused o turned fits. refused_by _ _ o (ap (λ p. is_inside p && not ((facts h).line s.end.0 s.line.0).noticed && port_place_allows_notice (facts h) s) turned) fits;
}

pub same_is_joined : SameIsJoined
same_is_joined h k l m = (
  (λ same g. (
    (λ joined. legal_joined [] k g m ((same g).0 (legal_apart [] h g joined).1)),
    (λ joined. legal_joined [] h g l ((same g).1 (legal_apart [] k g joined).1)),
  )),
  (λ joined g. (
    (λ after. (legal_apart [] k g ((joined g).0 (legal_joined [] h g l after))).1),
    (λ after. (legal_apart [] h g ((joined g).1 (legal_joined [] k g m after))).1),
  )),
)

-- ==== The names of envelopes: those of a line that is numbered are distinct, and so they tell what is left of it.

-- ---- distinct numbers

abbrev AreDistinctNumbers : List ℕ → Type 0
AreDistinctNumbers [] = Unit {0}
AreDistinctNumbers (n ∷ ns) = AllByRecursion (λ m. eqb n m ≡ false) ns × AreDistinctNumbers ns

distinct_more : (ns : List ℕ) (n : ℕ) → AreDistinctNumbers ns → AllByRecursion (λ m. m < n) ns → AreDistinctNumbers (ns ++ n ∷ [])
distinct_more [] n h low = (tt, tt)
distinct_more (m ∷ ns) n h low =
    let less : m < n = low.0 in
    (AllByRecursion-append (λ k. eqb m k ≡ false) ns (n ∷ []) h.0 (ne_eqb m n (λ same. absurd (omega arith)), tt), distinct_more ns n h.1 low.1)

up_to_below : (n : ℕ) → AllByRecursion (λ m. m < n) (up_to n)
up_to_below zero = tt
up_to_below (suc n) = AllByRecursion-append (λ m. m < suc n) (up_to n) (n ∷ []) (AllByRecursion-weaker (λ m. m < n) (λ m. m < suc n) (λ m less. omega arith) (up_to n) (up_to_below n)) (omega arith, tt)

up_to_distinct : (n : ℕ) → AreDistinctNumbers (up_to n)
up_to_distinct zero = tt
up_to_distinct (suc n) = distinct_more (up_to n) n (up_to_distinct n) (up_to_below n)

-- ---- distinct names

abbrev pub AreDistinct : List Envelope → Type 0
AreDistinct [] = Unit {0}
AreDistinct (v ∷ vs) = AllByRecursion (λ u. same_name v u ≡ false) vs × AreDistinct vs

-- the parts of a name
record IsSameName (v w : Envelope) : Type 0 where
  line : v.line.0 ≡ w.line.0
  epoch : v.epoch ≡ w.epoch
  number : v.number ≡ w.number

parts_of : (v w : Envelope) → same_name v w ≡ true → IsSameName v w
parts_of v w is =
    let line = and_parts (eqb v.line.0 w.line.0) (eqb v.epoch w.epoch && eqb v.number w.number) is in
    let rest = and_parts (eqb v.epoch w.epoch) (eqb v.number w.number) line.1 in
    record { line = eqb-true v.line.0 w.line.0 line.0; epoch = eqb-true v.epoch w.epoch rest.0; number = eqb-true v.number w.number rest.1 }

same_of : (v w : Envelope) → IsSameName v w → same_name v w ≡ true
same_of v w is = and_from _ _ (eq-eqb v.line.0 w.line.0 is.line) (and_from _ _ (eq-eqb v.epoch w.epoch is.epoch) (eq-eqb v.number w.number is.number))

other_name : (v w : Envelope) → (IsSameName v w → ⊥) → same_name v w ≡ false
other_name v w other = false_from_ne_true (same_name v w) (λ is. other (parts_of v w is))

-- the numbers of a line and a queue, without the first envelope
rest_distinct : (b : Bool) (v : Envelope) (us : List Envelope) → AreDistinctNumbers (map (λ (u : Envelope). u.number) (cond b (v ∷ us) us)) → AreDistinctNumbers (map (λ (u : Envelope). u.number) us)
rest_distinct true v us h = h.1
rest_distinct false v us h = h

first_distinct : (b : Bool) (v : Envelope) (us : List Envelope) → b ≡ true → AreDistinctNumbers (map (λ (u : Envelope). u.number) (cond b (v ∷ us) us)) → AllByRecursion (λ m. eqb v.number m ≡ false) (map (λ (u : Envelope). u.number) us)
first_distinct true v us is h = h.0
first_distinct false v us is h = absurd (false≢true is)

-- an envelope whose number none of its line and queue has
no_other : (v : Envelope) (vs : List Envelope) → AllByRecursion (λ m. eqb v.number m ≡ false) (numbers v.line.0 v.epoch vs) → AllByRecursion (λ u. same_name v u ≡ false) vs
no_other v [] h = tt
no_other v (u ∷ vs) h = elim (eqb u.line.0 v.line.0 && eqb u.epoch v.epoch) as (λ b. (eqb u.line.0 v.line.0 && eqb u.epoch v.epoch) ≡ b → AllByRecursion (λ m. eqb v.number m ≡ false) (map (λ (w : Envelope). w.number) (cond b (u ∷ filter (λ w. eqb w.line.0 v.line.0 && eqb w.epoch v.epoch) vs) (filter (λ w. eqb w.line.0 v.line.0 && eqb w.epoch v.epoch) vs))) → AllByRecursion (λ w. same_name v w ≡ false) (u ∷ vs)) [
  | true ↦ λ _ numbered. (other_name v u (λ is. false≢true (sym numbered.0 ∙ eq-eqb v.number u.number is.number)), no_other v vs numbered.1)
  | false ↦ λ away numbered. (
    other_name v u (λ is. false≢true (sym away ∙ and_from _ _ (eq-eqb u.line.0 v.line.0 (sym is.line)) (eq-eqb u.epoch v.epoch (sym is.epoch)))),
    no_other v vs numbered,
  )
] refl h

all_distinct : (vs : List Envelope) → ((l k : ℕ) → AreDistinctNumbers (numbers l k vs)) → AreDistinct vs
all_distinct [] h = tt
all_distinct (v ∷ vs) h = (
  no_other v vs (first_distinct (eqb v.line.0 v.line.0 && eqb v.epoch v.epoch) v _ (and_from _ _ (eq-eqb v.line.0 v.line.0 refl) (eq-eqb v.epoch v.epoch refl)) (h v.line.0 v.epoch)),
  all_distinct vs (λ l k. rest_distinct (eqb v.line.0 l && eqb v.epoch k) v _ (h l k)),
)

-- envelopes that are numbered 0, 1, 2 and so on, line by line and queue by queue, have distinct names
pub distinct : (vs : List Envelope) → ((l k : ℕ) → numbers l k vs ≡ up_to (length (numbers l k vs))) → AreDistinct vs
distinct vs numbered = all_distinct vs (λ l k. subst AreDistinctNumbers (sym (numbered l k)) (up_to_distinct (length (numbers l k vs))))

pub two_names : (before middle after : List Envelope) (v w : Envelope) → AreDistinct (before ++ v ∷ (middle ++ w ∷ after)) → same_name v w ≡ false
two_names [] middle after v w d = (all_back (λ u. same_name v u ≡ false) middle (w ∷ after) d.0).0
two_names (u ∷ before) middle after v w d = two_names before middle after v w d.1

kept_distinct : (q : Envelope → Bool) (vs : List Envelope) → AreDistinct vs → AreDistinct (filter q vs)
kept_distinct q [] d = tt
kept_distinct q (v ∷ vs) d = at_test AreDistinct (q v) (v ∷ filter q vs) (filter q vs) (λ _. (all_kept (λ u. same_name v u ≡ false) q vs d.0, kept_distinct q vs d.1)) (λ _. kept_distinct q vs d.1)

-- none of the last bears the name of one of the first
apart : (us ws : List Envelope) → AreDistinct (us ++ ws) → AllByRecursion (λ w. AllByRecursion (λ u. same_name u w ≡ false) us) ws
apart [] ws d = nothing_to_show ws
  where
    nothing_to_show : (ws : List Envelope) → AllByRecursion (λ w. Unit {0}) ws
    nothing_to_show [] = tt
    nothing_to_show (w ∷ ws) = (tt, nothing_to_show ws)
apart (u ∷ us) ws d = all_both (λ w. same_name u w ≡ false) (λ w. AllByRecursion (λ x. same_name x w ≡ false) us) ws (all_back (λ w. same_name u w ≡ false) us ws d.0) (apart us ws d.1)

-- ---- what is left

-- whether one of the envelopes has the name
abbrev is_gone : List Envelope → Envelope → Bool
is_gone gone v = list_any (same_name v) gone

all_gone : (vs : List Envelope) → AllByRecursion (λ v. is_gone vs v ≡ true) vs
all_gone [] = tt
all_gone (v ∷ vs) = (
  or_left _ _ (same_of v v (record { line = refl; epoch = refl; number = refl })),
  AllByRecursion-weaker (λ u. is_gone vs u ≡ true) (λ u. is_gone (v ∷ vs) u ≡ true) (λ u is. or_right _ _ is) vs (all_gone vs),
)

-- an envelope of the line that has the name of none of that line
not_gone : (l : ℕ) (v : Envelope) (gone : List Envelope) → v.line.0 ≡ l → AllByRecursion (λ u. same_name u v ≡ false) (by l gone) → is_gone gone v ≡ false
not_gone l v [] line h = refl
not_gone l v (u ∷ gone) line h = at_test (λ us. AllByRecursion (λ w. same_name w v ≡ false) us → is_gone (u ∷ gone) v ≡ false) (eqb u.line.0 l) (u ∷ by l gone) (by l gone)
    (λ _ none. or_from _ _ (other_name v u (λ is. false≢true (sym none.0 ∙ same_of u v (record { line = sym is.line; epoch = sym is.epoch; number = sym is.number })))) (not_gone l v gone line none.1))
    (λ away none. or_from _ _ (other_name v u (λ is. false≢true (sym away ∙ eq-eqb u.line.0 l (sym is.line ∙ line)))) (not_gone l v gone line none)) h

-- Of a line whose first envelopes are gone, those whose names are not gone are the rest.
pub rest_left : (l : ℕ) (gone whole rest : List Envelope) → AreDistinct whole → by l whole ≡ by l gone ++ rest → by l (filter (λ v. not (list_any (same_name v) gone)) whole) ≡ rest
rest_left l gone whole rest d is =
    let left : Envelope → Bool = λ v. not (is_gone gone v) in
    let line : AreDistinct (by l gone ++ rest) = subst AreDistinct is (kept_distinct (λ v. eqb v.line.0 l) whole d) in
    let lines : AllByRecursion (λ (u : Envelope). u.line.0 ≡ l) rest = all_back (λ (u : Envelope). u.line.0 ≡ l) (by l gone) rest (subst (AllByRecursion (λ (u : Envelope). u.line.0 ≡ l)) is (of_line l whole)) in
    let first : filter left (by l gone) ≡ [] = none_fail (is_gone gone) (by l gone) (all_kept (λ v. is_gone gone v ≡ true) _ gone (all_gone gone)) in
    let last : filter left rest ≡ rest = all_pass left rest
    (AllByRecursion-weaker (λ (v : Envelope). (v.line.0 ≡ l) × AllByRecursion (λ u. same_name u v ≡ false) (by l gone)) (λ v. left v ≡ true) (λ v both. ap not (not_gone l v gone both.0 both.1)) rest
    (all_both (λ (v : Envelope). v.line.0 ≡ l) (λ v. AllByRecursion (λ u. same_name u v ≡ false) (by l gone)) rest lines (apart (by l gone) rest line)))
    in
    filters _ _ whole ∙ ap (filter left) is ∙ filter-append left (by l gone) rest ∙ ap (λ us. us ++ filter left rest) first ∙ last

-- ==== What becomes of each accepted envelope of a legal history.

-- ---- taken, discarded and waiting

names_distinct : (h : History) (e : ℕ) → Legal h → AreDistinct (accepted h e)
names_distinct h e legal = distinct (accepted h e) ((sound_legal h legal).lines e).numbered

-- of a line what was removed, then what waits, is what was accepted
line_parts : (h : History) (e l : ℕ) → Legal h → by l (accepted h e) ≡ by l (taken h e ++ discarded h e) ++ by l (waiting h e)
line_parts h e l legal =
    let prefix = ((sound_legal h legal).waiting e).prefix l in
    prefix.1 ∙ ap (λ us. by l (taken h e ++ discarded h e) ++ us) (sym (rest_left l (taken h e ++ discarded h e) (accepted h e) prefix.0 (names_distinct h e legal) prefix.1))

-- ---- ports in flight

-- what names a port is among what was removed or waits
naming_parts : (h : History) (e x : ℕ) → Legal h → naming x (accepted h e) ≡ naming x (taken h e ++ discarded h e) + naming x (waiting h e)
naming_parts h e x legal =
    let gone : List Envelope = taken h e ++ discarded h e in
    let line : (l : ℕ) → by l (accepted h e) ≡ by l (gone ++ waiting h e) = λ l. line_parts h e l legal ∙ sym (filter-append _ gone (waiting h e)) in
    let most : naming x (gone ++ waiting h e) ≤ naming x (accepted h e) = count_lines (λ v. names v.ports x) (gone ++ waiting h e) (accepted h e) (λ l. ([], line l ∙ sym (append-nil (by l (gone ++ waiting h e))))) in
    let least : naming x (accepted h e) ≤ naming x (gone ++ waiting h e) = count_lines (λ v. names v.ports x) (accepted h e) (gone ++ waiting h e) (λ l. ([], sym (line l) ∙ sym (append-nil (by l (accepted h e))))) in
    let both : naming x (gone ++ waiting h e) ≡ naming x gone + naming x (waiting h e) = count_append (λ v. names v.ports x) gone (waiting h e) in
    omega arith

total_sum : (w u : ℕ → ℕ) (n : ℕ) → total (λ e. w e + u e) n ≡ total w n + total u n
total_sum w u zero = refl
total_sum w u (suc n) = let rest : total (λ e. w e + u e) n ≡ total w n + total u n = total_sum w u n in omega arith

flying : (h : History) (x : ℕ) → Legal h → total (λ e. naming x (waiting h e)) (ends h) ≡ flights (place h x)
flying h x legal =
    let removed : ℕ → ℕ = λ e. naming x (taken h e ++ discarded h e) in
    let left : ℕ → ℕ = λ e. naming x (waiting h e) in
    let each : total (λ e. naming x (accepted h e)) (ends h) ≡ total (λ e. removed e + left e) (ends h) = total_same (λ e. removed e + left e) (λ e. naming x (accepted h e)) (ends h) (λ e _. naming_parts h e x legal) in
    let sum : total (λ e. removed e + left e) (ends h) ≡ total removed (ends h) + total left (ends h) = total_sum removed left (ends h) in
    let sound : total (λ e. naming x (accepted h e)) (ends h) ≡ total removed (ends h) + flights (place h x) = (sound_legal h legal).places.flights x in
    omega arith

-- a number that no end has accepts nothing
only_at_ends : (h : History) (e : ℕ) → Legal h → ends h ≤ e → accepted h e ≡ []
only_at_ends h e legal past =
    let sound : Sound (facts h) = sound_legal h legal in
    nothing_accepted (facts h) e (sound.lines e) (sound.places.ends e past)

-- ---- after a Sweep

-- a Sweep that was answered Discarded leaves nothing
swept_all : (f : Facts) (e : EndId) (vs : List Envelope) → SweptWith f e vs → (l : ℕ) → by l (f.taken e.0 ++ (f.discarded e.0 ++ vs)) ≡ by l (f.accepted e.0)
swept_all f e vs w l = ap (by l) (sym (append_assoc (f.taken e.0) (f.discarded e.0) vs)) ∙ w.all.all l

-- a closed end at which nobody is inside and nothing waits, and at which so much was accepted
record IsQuiet (closed : Bool) (phase : ℕ → Phase) (accepted taken discarded whole : List Envelope) : Type 0 where
  is_closed : closed ≡ true
  nobody : (l : ℕ) → phase l ≡ Inside → ⊥
  all : (l : ℕ) → by l (taken ++ discarded) ≡ by l accepted
  same : accepted ≡ whole

abbrev QuietAt : Facts → ℕ → List Envelope → Type 0
QuietAt f x whole = IsQuiet (f.end x).closed (λ l. (f.line x l).phase) (f.accepted x) (f.taken x) (f.discarded x) whole

module _ (f : Facts) (x : ℕ) (whole : List Envelope) (h : QuietAt f x whole) where
  -- what only an open end answers was answered at another end
  not_open : (e : ℕ) → (f.end e).closed ≡ false → eqb x e ≡ false
  not_open e opened = false_from_ne_true (eqb x e) (λ is. false≢true (sym opened ∙ ap (λ y. (f.end y).closed) (sym (eqb-true x e is)) ∙ h.is_closed))

  -- a poster that is inside is so at another end
  not_inside : (s : Sender) → is_inside (phase_of_line f s) ≡ true → eqb x s.end.0 ≡ false
  not_inside s inside = false_from_ne_true (eqb x s.end.0) (λ is. h.nobody s.line.0 (ap (λ y. (f.line y s.line.0).phase) (eqb-true x s.end.0 is) ∙ inside_of (phase_of_line f s) inside))

  quiet_phased : (s : Sender) (p : Phase) → (p ≡ Inside → eqb x s.end.0 ≡ false) → IsQuiet (f.end x).closed (λ l. on_line x l s p (f.line x l).phase) (f.accepted x) (f.taken x) (f.discarded x) whole
  quiet_phased s p away = record {
    is_closed = h.is_closed;
    nobody = λ l is. at_test (λ q. q ≡ Inside → ⊥) (eqb x s.end.0 && eqb l s.line.0) p (f.line x l).phase (λ on inside. false≢true (sym (away inside) ∙ (and_parts (eqb x s.end.0) (eqb l s.line.0) on).0)) (λ _ inside. h.nobody l inside) is;
    all = h.all;
    same = h.same;
  }

  quiet_put : (b : Bool) (vs : List Envelope) → b ≡ false → IsQuiet (f.end x).closed (λ l. (f.line x l).phase) (cond b vs (f.accepted x)) (f.taken x) (f.discarded x) whole
  quiet_put true vs is = absurd (false≢true (sym is))
  quiet_put false vs is = h

  quiet_got : (b : Bool) (vs : List Envelope) → b ≡ false → IsQuiet (f.end x).closed (λ l. (f.line x l).phase) (f.accepted x) (cond b vs (f.taken x)) (f.discarded x) whole
  quiet_got true vs is = absurd (false≢true (sym is))
  quiet_got false vs is = h

  quiet_closed : (b : Bool) → IsQuiet (cond b true (f.end x).closed) (λ l. (f.line x l).phase) (f.accepted x) (f.taken x) (f.discarded x) whole
  quiet_closed true = record { is_closed = refl; nobody = h.nobody; all = h.all; same = h.same }
  quiet_closed false = h

  quiet_swept : (e : EndId) (vs : List Envelope) (b : Bool) → SweptWith f e vs → eqb x e.0 ≡ b → IsQuiet (f.end x).closed (λ l. (f.line x l).phase) (f.accepted x) (f.taken x) (cond b (f.discarded x ++ vs) (f.discarded x)) whole
  quiet_swept e vs false w is = h
  quiet_swept e vs true w is = record {
    is_closed = h.is_closed;
    nobody = h.nobody;
    all = subst (λ y. (l : ℕ) → by l (f.taken y ++ (f.discarded y ++ vs)) ≡ by l (f.accepted y)) (sym (eqb-true x e.0 is)) (swept_all f e vs w);
    same = h.same;
  }

-- it stays so with every pair that fits
quiet_next : (f : Facts) (refused : Bool) (x : ℕ) (whole : List Envelope) → QuietAt f x whole → (o : Outcome) (a : Action) → Answers f a refused o → QuietAt (next f a o) x whole
quiet_next f refused x whole h outcome.In (action.Enter s) fits = quiet_phased f x whole h s Inside (λ _. not_open f x whole h s.end.0 (let_in_of f s fits).2)
quiet_next f refused x whole h outcome.Moved (action.Enter s) fits = quiet_phased f x whole h s Turned (λ is. cc)
quiet_next f refused x whole h outcome.Closed (action.Enter s) fits = quiet_phased f x whole h s Turned (λ is. cc)
quiet_next f refused x whole h (outcome.Accepted n) (action.Push s ports body) fits = quiet_put f x whole h (eqb x s.end.0) _ (not_inside f x whole h s (pushed_of f s ports body refused n fits).inside)
quiet_next f refused x whole h (outcome.Accepted n) (action.Notice s) fits = quiet_put f x whole h (eqb x s.end.0) _ (not_inside f x whole h s (noticed_of f s refused n fits).inside)
quiet_next f refused x whole h outcome.Left (action.Leave s) fits = quiet_phased f x whole h s Out (λ is. cc)
quiet_next f refused x whole h (outcome.Got v) (action.Take e) fits = quiet_got f x whole h (eqb x e.0) _ (not_open f x whole h e.0 (got_of f e v fits).is_open)
quiet_next f refused x whole h outcome.Done (action.Close e) fits = quiet_closed f x whole h (eqb x e.0)
quiet_next f refused x whole h (outcome.Discarded vs) (action.Sweep e) fits = quiet_swept f x whole h e vs (eqb x e.0) (swept_of f e vs fits) refl
quiet_next f refused x whole h o a fits = h

quiet_more : (h : History) (p : Pair) (x : ℕ) (whole : List Envelope) → QuietAt (facts h) x whole → Fits h p → QuietAt (facts (h ++ p ∷ [])) x whole
quiet_more h p x whole quiet fits =
    subst (λ f. QuietAt f x whole) (sym (facts_next h p)) (quiet_next (facts h) p.0.memory_refused x whole quiet p.1 p.0.action fits)

-- and a Sweep that was answered Discarded leaves its end so
quiet_first : (f : Facts) (e : EndId) (vs : List Envelope) → Sound f → SweptWith f e vs → QuietAt (next f (action.Sweep e) (outcome.Discarded vs)) e.0 (f.accepted e.0)
quiet_first f e vs sound w = record {
  is_closed = w.is_closed;
  nobody = λ l inside. nobody_there f e.0 l (sound.lines e.0) w.settled inside;
  all = λ l. ap (λ b. by l (f.taken e.0 ++ cond b (f.discarded e.0 ++ vs) (f.discarded e.0))) (eqb_same e.0) ∙ swept_all f e vs w l;
  same = refl;
}

quiet_after : (h before after : History) (e : EndId) (refused : Bool) (vs : List Envelope) → Legal h → h ≡ before ++ answered (action.Sweep e) refused (outcome.Discarded vs) ∷ after → QuietAt (facts h) e.0 (accepted before e.0)
quiet_after h before after e refused vs legal is =
    let p : Pair = answered (action.Sweep e) refused (outcome.Discarded vs) in
    let whole : List Envelope = accepted before e.0 in
    let at = legal_at h before after p legal is in
    let first : QuietAt (facts (before ++ p ∷ [])) e.0 whole = subst (λ f. QuietAt f e.0 whole) (sym (facts_next before p)) (quiet_first (facts before) e vs (sound_legal before at.0) (swept_of (facts before) e vs at.1)) in
    subst (λ k. QuietAt (facts k) e.0 whole) (append_assoc before (p ∷ []) after ∙ sym is) (by_pairs (λ k. QuietAt (facts k) e.0 whole) (λ k q quiet fits. quiet_more k q e.0 whole quiet fits) (before ++ p ∷ []) after first at.2)

nothing_waits : (h before after : History) (e : EndId) (refused : Bool) (vs : List Envelope) → Legal h → h ≡ before ++ answered (action.Sweep e) refused (outcome.Discarded vs) ∷ after → waiting h e.0 ≡ []
nothing_waits h before after e refused vs legal is =
    let quiet = quiet_after h before after e refused vs legal is in
    nothing_there (waiting h e.0) (λ l. nothing_more (by l (taken h e.0 ++ discarded h e.0)) (by l (waiting h e.0)) (sym (line_parts h e.0 l legal) ∙ sym (quiet.all l)))

-- ---- the laws

pub fates : (h : History) → Legal h → Fates h
fates h legal = record {
  parts = λ e line. (line_parts h e line legal ∙ ap (λ us. us ++ by line (waiting h e)) (filter-append _ (taken h e) (discarded h e)) ∙ append_assoc (by line (taken h e)) (by line (discarded h e)) (by line (waiting h e)));
  once = λ e before middle after v w is. two_names before middle after v w (subst AreDistinct is (names_distinct h e legal));
  swept = λ before after e refused vs is. nothing_waits h before after e refused vs legal is;
  nothing_more = λ before after e refused vs is. (quiet_after h before after e refused vs legal is).same;
  in_flight = λ x. flying h x legal;
  at_ends = λ e past. only_at_ends h e legal past;
}

pub notice_is_last : NoticeIsLast
notice_is_last h e line before after v legal is noticed = ((sound_legal h legal).lines e).last line before after v is noticed

-- ==== What a Sweep discards, where what is discarded is in order: there is one list of it.

-- ---- a closed end takes nothing more

stays_closed : (x : ℕ) (closed : Bool) (o : Outcome) (a : Action) → closed ≡ true → closed_after x closed o a ≡ true
stays_closed x closed outcome.Done (action.Close t) is = elim (eqb x t.0) as (λ b. cond b true closed ≡ true) [ true ↦ refl | false ↦ is ]
stays_closed x closed o a is = is

takes_none : (f : Facts) (e : ℕ) (refused : Bool) (o : Outcome) (a : Action) → (f.end e).closed ≡ true → ((t : EndId) (v : Envelope) → a ≡ action.Take t → o ≡ outcome.Got v → FitsTake (Serves f t) f t (outcome.Got v)) → taken_by e o a ≡ []
takes_none f e refused (outcome.Got v) (action.Take t) closed fits = at_test (λ us. us ≡ []) (eqb e t.0) (v ∷ []) []
    (λ is.
    let here : e ≡ t.0 = search (rules, is) in
    absurd (search (rules, false≢true, sym (got_of f t v (fits t v refl refl)).is_open ∙ (ap (λ y. (f.end y).closed) (sym here) ∙ closed))))
    (λ is. refl)
takes_none f e refused o a closed fits = refl

pub taken_closed : (past rest : History) (e : ℕ) → LegalAfter past rest → ((facts past).end e).closed ≡ true → taken (past ++ rest) e ≡ taken past e
taken_closed past [] e l closed = ap (λ h. taken h e) (append-nil past)
taken_closed past (p ∷ rest) e l closed =
    let still : ((facts (past ++ p ∷ [])).end e).closed ≡ true = ap (λ (f : Facts). (f.end e).closed) (facts_next past p) ∙ stays_closed e ((facts past).end e).closed p.1 p.0.action closed in
    let none : taken_by e p.1 p.0.action ≡ [] = takes_none (facts past) e p.0.memory_refused p.1 p.0.action closed (λ t v is got. (subst (FitsTake (Serves (facts past) t) (facts past) t) got (subst (λ b. Answers (facts past) b p.0.memory_refused p.1) is l.0))) in
    let one : taken (past ++ p ∷ []) e ≡ taken past e =
    flat_map-append (λ (q : Pair). taken_by e q.1 q.0.action) past (p ∷ []) ∙ ap (λ us. taken past e ++ (us ++ [])) none ∙ append-nil (taken past e) in
    ap (λ h. taken h e) (sym (append_assoc past (p ∷ []) rest)) ∙ taken_closed (past ++ p ∷ []) rest e l.1 still ∙ one

-- ---- what a sweep discards, queue by queue

same_front : {A : Type 0} (us bs xs ys : List A) → us ++ xs ≡ bs ++ ys → length us ≡ length bs → us ≡ bs
same_front us bs xs ys is count = sym (take-append_seam us xs) ∙ ap (take (length us)) is ∙ ap (λ n. take n (bs ++ ys)) count ∙ take-append_seam bs ys

-- what waits in a queue, by the facts
abbrev pub left_in : Facts → ℕ → ℕ → List Envelope
left_in f e k = drop (length (in_queue k (f.taken e ++ f.discarded e))) (in_queue k (f.accepted e))

swept_queue : (past rest : History) (s : Step) (e : EndId) (vs : List Envelope) → s.action ≡ action.Sweep e → LegalAfter past ((s, outcome.Discarded vs) ∷ rest) → ((facts past).end e.0).closed ≡ true → IsAllWaiting (facts past) e.0 vs → InOrder (past ++ (s, outcome.Discarded vs) ∷ rest) → (k : ℕ) → in_queue k vs ≡ left_in (facts past) e.0 k
swept_queue past rest s e vs is l closed all order k =
    let p : Pair = (s, outcome.Discarded vs) in
    let h : History = past ++ p ∷ rest in
    let gone : List Envelope = taken past e.0 ++ discarded past e.0 in
    let more : List Envelope = flat_map (λ (q : Pair). discarded_by e.0 q.1 q.0.action) rest in
    let one : discarded_by e.0 (outcome.Discarded vs) s.action ≡ vs = ap (discarded_by e.0 (outcome.Discarded vs)) is ∙ ap (λ b. cond b vs []) (eqb_same e.0) in
    let thrown : discarded h e.0 ≡ discarded past e.0 ++ (vs ++ more) = flat_map-append (λ (q : Pair). discarded_by e.0 q.1 q.0.action) past (p ∷ rest) ∙ ap (λ us. discarded past e.0 ++ (us ++ more)) one in
    let removed : taken h e.0 ++ discarded h e.0 ≡ gone ++ (vs ++ more) =
    ap (λ us. us ++ discarded h e.0) (taken_closed past (p ∷ rest) e.0 l closed) ∙ ap (λ us. taken past e.0 ++ us) thrown ∙ sym (append_assoc (taken past e.0) (discarded past e.0) (vs ++ more)) in
    let after : List Envelope = flat_map (λ (q : Pair). accepted_by e.0 q.1 q.0.action) (p ∷ rest) in
    let put : in_queue k (accepted h e.0) ≡ in_queue k (accepted past e.0) ++ in_queue k after =
    ap (in_queue k) (flat_map-append (λ (q : Pair). accepted_by e.0 q.1 q.0.action) past (p ∷ rest)) ∙ filter-append _ (accepted past e.0) after in
    let front = order.each e.0 k in
    let cut : in_queue k (gone ++ (vs ++ more)) ≡ (in_queue k gone ++ in_queue k vs) ++ in_queue k more =
    filter-append _ gone (vs ++ more) ∙ ap (λ us. in_queue k gone ++ us) (filter-append _ vs more) ∙ sym (append_assoc (in_queue k gone) (in_queue k vs) (in_queue k more)) in
    let both : in_queue k (accepted past e.0) ++ in_queue k after ≡ (in_queue k gone ++ in_queue k vs) ++ (in_queue k more ++ front.0) =
    sym put ∙ front.1 ∙ ap (λ us. us ++ front.0) (ap (in_queue k) removed ∙ cut) ∙ append_assoc (in_queue k gone ++ in_queue k vs) (in_queue k more) front.0 in
    let fewer : length (in_queue k (gone ++ vs)) ≤ length (in_queue k (accepted past e.0)) = count_lines (λ u. eqb u.epoch k) (gone ++ vs) (accepted past e.0) (λ line. ([], sym (append-nil (by line (gone ++ vs)) ∙ all.all line))) in
    let usmany : length (in_queue k (accepted past e.0)) ≤ length (in_queue k (gone ++ vs)) = count_lines (λ u. eqb u.epoch k) (accepted past e.0) (gone ++ vs) (λ line. ([], all.all line ∙ sym (append-nil (by line (accepted past e.0))))) in
    let sum : length (in_queue k (gone ++ vs)) ≡ length (in_queue k gone ++ in_queue k vs) = ap length (filter-append _ gone vs) in
    let whole : in_queue k (accepted past e.0) ≡ in_queue k gone ++ in_queue k vs = same_front (in_queue k (accepted past e.0)) (in_queue k gone ++ in_queue k vs) (in_queue k after) (in_queue k more ++ front.0) both (omega arith) in
    sym (ap (drop (length (in_queue k gone))) whole ∙ drop-append_seam (in_queue k gone) (in_queue k vs))

-- ---- lists whose epochs never fall

below_all : (n m : ℕ) (vs : List Envelope) → n ≤ m → AllByRecursion (λ (v : Envelope). v.epoch < n) vs → filter (λ (v : Envelope). nat_lt v.epoch m) vs ≡ vs
below_all n m vs less all = all_pass (λ (v : Envelope). nat_lt v.epoch m) vs (AllByRecursion-weaker (λ (v : Envelope). v.epoch < n) (λ v. nat_lt v.epoch m ≡ true) (λ v low. lt-ltb v.epoch m (omega arith)) vs all)

pub rises_one : (us vs : List Envelope) → Rises us → Rises vs → ((k : ℕ) → in_queue k us ≡ in_queue k vs) → us ≡ vs
rises_one us vs r q same =
    let one = bound_of (λ v. v.epoch) us in
    let two = bound_of (λ v. v.epoch) vs in
    let n : ℕ = one.0 + two.0 in
    let first : flat_map (λ (ws : List Envelope). ws) (map (λ k. in_queue k us) (up_to n)) ≡ us = joined (λ (ws : List Envelope). ws) (λ k. in_queue k us) n us (λ k. refl) r (below_all one.0 n us (omega arith) one.1) in
    let second : flat_map (λ (ws : List Envelope). ws) (map (λ k. in_queue k vs) (up_to n)) ≡ vs = joined (λ (ws : List Envelope). ws) (λ k. in_queue k vs) n vs (λ k. refl) q (below_all two.0 n vs (omega arith) two.1) in
    sym first ∙ (λ i. flat_map (λ (ws : List Envelope). ws) (map (λ k. same k i) (up_to n))) ∙ second

-- ---- one answer

sweep_when : (closed settled : Bool) (P Q : Type 0) (o p : Outcome) → (closed ≡ true → P → Q → o ≡ p) → MatchBool closed (MatchBool settled P (o ≡ outcome.Busy)) (o ≡ outcome.NotNow) → MatchBool closed (MatchBool settled Q (p ≡ outcome.Busy)) (p ≡ outcome.NotNow) → o ≡ p
sweep_when true true P Q o p k a b = k refl a b
sweep_when _ _ P Q o p k a b = a ∙ sym b

sweeps_one : (h first second : History) (s : Step) (e : EndId) (o p : Outcome) → s.action ≡ action.Sweep e → LegalAfter h ((s, o) ∷ first) → LegalAfter h ((s, p) ∷ second) → ((facts h).end e.0).closed ≡ true → Sweeps (facts h) e.0 o → Sweeps (facts h) e.0 p → InOrder (h ++ (s, o) ∷ first) → InOrder (h ++ (s, p) ∷ second) → o ≡ p
sweeps_one h first second s e (outcome.Discarded us) (outcome.Discarded vs) is l m closed a b i j =
    ap outcome.Discarded (rises_one us vs a.rises b.rises (λ n. swept_queue h first s e us is l closed a i n ∙ sym (swept_queue h second s e vs is m closed b j n)))
sweeps_one h first second s e (outcome.Discarded us) _ is l m closed a b i j = absurd b
sweeps_one h first second s e _ p is l m closed a b i j = absurd a

pub sweep_one : (h first second : History) (s : Step) (e : EndId) (o p : Outcome) → s.action ≡ action.Sweep e → LegalAfter h ((s, o) ∷ first) → LegalAfter h ((s, p) ∷ second) → FitsSweep (facts h) e o → FitsSweep (facts h) e p → InOrder (h ++ (s, o) ∷ first) → InOrder (h ++ (s, p) ∷ second) → o ≡ p
sweep_one h first second s e o p is l m a b i j =
    sweep_when ((facts h).end e.0).closed (all_settled (facts h) e.0) (Sweeps (facts h) e.0 o) (Sweeps (facts h) e.0 p) o p
    (λ closed v w. sweeps_one h first second s e o p is l m closed v w i j) a b

-- ==== In order, queue by queue; and that legal histories in order have one answer to each step.

-- ---- what a core shows is in order

queue_in_order : (line : ℕ → LineNow) (clear : ℕ → Bool) (vs ts : List Envelope) (x : End) (k : ℕ) → KeepsQueues line clear vs ts x → (b : Bool) → nat_lt k x.taker ≡ b → Prefix (in_queue k ts) (in_queue k vs)
queue_in_order line clear vs ts x k h true is = ([], h.behind k (ltb-true k x.taker is) ∙ sym (append-nil (in_queue k ts)))
queue_in_order line clear vs ts x k h false is =
    let from : x.taker ≤ k = ltb-false k x.taker is in
    let place : x.taker + (k - x.taker) ≡ k = omega arith in
    (get_or x.queues (k - x.taker) [], subst (λ m. in_queue m vs ≡ in_queue m ts ++ get_or x.queues (k - x.taker) []) place (h.each (k - x.taker)))

end_in_order : (f : Facts) (e k : ℕ) (o : Option End) → Sound f → ShownAt f e o → Prefix (in_queue k (f.taken e ++ f.discarded e)) (in_queue k (f.accepted e))
end_in_order f e k None s h =
    let accepted = nothing_accepted f e (s.lines e) h.same in
    let removed = nothing_removed f e (s.waiting e) accepted in
    rw (accepted, removed) ([], refl)
end_in_order f e k (Some x) s h = queue_in_order (f.line e) (f.clear e) (f.accepted e) (f.taken e ++ f.discarded e) x k h.queues (nat_lt k x.taker) refl

pub shows_in_order : (core : Core) (h : History) → Shows core h → InOrder h
shows_in_order core h s = record { each = λ e k. end_in_order (facts h) e k (slice_get core.ends e) (sound_legal h s.2) (s.0.end e) }

-- ---- one answer

-- what stands in a list that begins so
nth_of : (vs ms xs ys : List Envelope) (v d : Envelope) → vs ++ ms ≡ xs ++ v ∷ ys → length xs < length vs → get_or vs (length xs) d ≡ v
nth_of vs ms xs ys v d is within = sym (get_or_append_left vs ms d (length xs) within) ∙ ap (λ us. get_or us (length xs) d) is ∙ get_or-append_seam xs v ys d

-- the envelope that was got is the first of its queue that waits
first_waiting : (past rest : History) (s : Step) (e : EndId) (v d : Envelope) → s.action ≡ action.Take e → Sound (facts past) → IsNext (facts past) e v → InOrder (past ++ (s, outcome.Got v) ∷ rest) → (let k = ((facts past).end e.0).taker_stand in get_or (in_queue k (accepted past e.0)) (length (in_queue k (taken past e.0))) d ≡ v)
first_waiting past rest s e v d is h n order =
    let k : ℕ = ((facts past).end e.0).taker_stand in
    let p : Pair = (s, outcome.Got v) in
    let more : List Envelope = flat_map (λ (q : Pair). taken_by e.0 q.1 q.0.action) rest in
    let one : taken_by e.0 (outcome.Got v) s.action ≡ v ∷ [] = ap (taken_by e.0 (outcome.Got v)) is ∙ ap (λ b. cond b (v ∷ []) []) (eqb_same e.0) in
    let all_taken : taken (past ++ p ∷ rest) e.0 ≡ taken past e.0 ++ v ∷ more = flat_map-append (λ (q : Pair). taken_by e.0 q.1 q.0.action) past (p ∷ rest) ∙ ap (λ us. taken past e.0 ++ (us ++ more)) one in
    let cut : in_queue k (taken (past ++ p ∷ rest) e.0) ≡ in_queue k (taken past e.0) ++ v ∷ in_queue k more =
    ap (in_queue k) all_taken ∙ filter-append _ (taken past e.0) (v ∷ more) ∙ ap (λ b. in_queue k (taken past e.0) ++ cond b (v ∷ in_queue k more) (in_queue k more)) (eq-eqb v.epoch k n.epoch) in
    let after : List Envelope = flat_map (λ (q : Pair). accepted_by e.0 q.1 q.0.action) (p ∷ rest) in
    let all_accepted : in_queue k (accepted (past ++ p ∷ rest) e.0) ≡ in_queue k (accepted past e.0) ++ in_queue k after =
    ap (in_queue k) (flat_map-append (λ (q : Pair). accepted_by e.0 q.1 q.0.action) past (p ∷ rest)) ∙ filter-append _ (accepted past e.0) after in
    let front = order.each e.0 k in
    let gone : List Envelope = discarded (past ++ p ∷ rest) e.0 in
    let removed : in_queue k (taken (past ++ p ∷ rest) e.0 ++ gone) ≡ (in_queue k (taken past e.0) ++ v ∷ in_queue k more) ++ in_queue k gone =
    filter-append _ (taken (past ++ p ∷ rest) e.0) gone ∙ ap (λ us. us ++ in_queue k gone) cut in
    let both : in_queue k (accepted past e.0) ++ in_queue k after ≡ in_queue k (taken past e.0) ++ v ∷ ((in_queue k more ++ in_queue k gone) ++ front.0) =
    sym all_accepted ∙ front.1 ∙ ap (λ us. us ++ front.0) (removed ∙ append_assoc (in_queue k (taken past e.0)) (v ∷ in_queue k more) (in_queue k gone)) ∙ append_assoc (in_queue k (taken past e.0)) (v ∷ (in_queue k more ++ in_queue k gone)) front.0 in
    let fewer : length (in_queue k (taken past e.0 ++ v ∷ [])) ≤ length (in_queue k (accepted past e.0)) = count_lines (λ u. eqb u.epoch k) (taken past e.0 ++ v ∷ []) (accepted past e.0) (got_prefix (facts past) e v n (h.waiting e.0)) in
    let longer : length (in_queue k (taken past e.0 ++ v ∷ [])) ≡ length (in_queue k (taken past e.0)) + 1 = ap length (queue_more k (taken past e.0) v n.epoch) ∙ length-append (in_queue k (taken past e.0)) (v ∷ []) in
    nth_of (in_queue k (accepted past e.0)) (in_queue k after) (in_queue k (taken past e.0)) ((in_queue k more ++ in_queue k gone) ++ front.0) v d both (omega arith)

-- an end that is drained gives nothing
not_drained : (f : Facts) (e : EndId) (v : Envelope) → IsNext f e v → IsDrained f e → ⊥
not_drained f e v n d =
    let l : ℕ = v.line.0 in
    let more : by l (f.taken e.0 ++ v ∷ []) ≡ by l (f.taken e.0) ++ v ∷ [] = by_more l (f.taken e.0) v true (eqb_same l) in
    let whole : by l (f.taken e.0) ≡ (by l (f.taken e.0) ++ v ∷ []) ++ n.order.0 = d.all l ∙ n.order.1 ∙ ap (λ us. us ++ n.order.0) more in
    let counts : length (by l (f.taken e.0)) ≡ length (by l (f.taken e.0)) + 1 + length n.order.0 = ap length whole ∙ length-append (by l (f.taken e.0) ++ v ∷ []) n.order.0 ∙ ap (λ m. m + length n.order.0) (length-append (by l (f.taken e.0)) (v ∷ [])) in
    omega arith

-- nor does a queue that is left
not_left : (f : Facts) (e : EndId) (v : Envelope) → IsNext f e v → IsLeft f e → ⊥
not_left f e v n d =
    let l : ℕ = v.line.0 in
    let t : ℕ = (f.end e.0).taker_stand in
    let more : by l (f.taken e.0 ++ v ∷ []) ≡ by l (f.taken e.0) ++ v ∷ [] = by_more l (f.taken e.0) v true (eqb_same l) in
    let whole : in_queue t (by l (f.accepted e.0)) ≡ in_queue t (by l (f.taken e.0) ++ v ∷ []) ++ in_queue t n.order.0 = ap (in_queue t) (n.order.1 ∙ ap (λ us. us ++ n.order.0) more) ∙ filter-append _ (by l (f.taken e.0) ++ v ∷ []) n.order.0 in
    let cut : in_queue t (by l (f.taken e.0) ++ v ∷ []) ≡ in_queue t (by l (f.taken e.0)) ++ v ∷ [] = queue_more t (by l (f.taken e.0)) v n.epoch in
    let counts : length (in_queue t (by l (f.taken e.0))) ≡ length (in_queue t (by l (f.taken e.0))) + 1 + length (in_queue t n.order.0) =
    ap length (d.all l ∙ whole ∙ ap (λ us. us ++ in_queue t n.order.0) cut) ∙ length-append (in_queue t (by l (f.taken e.0)) ++ v ∷ []) (in_queue t n.order.0) ∙ ap (λ m. m + length (in_queue t n.order.0)) (length-append (in_queue t (by l (f.taken e.0))) (v ∷ [])) in
    omega arith

-- the taker's queue isn't both the newest and retired
not_both : (f : Facts) (e : EndId) → IsDrained f e → IsLeft f e → ⊥
not_both f e d l =
    let last : (f.end e.0).taker_stand ≡ (f.end e.0).newest = d.newest in
    let low : (f.end e.0).taker_stand < (f.end e.0).newest = l.retired in
    omega arith

serves_one : (h first second : History) (s : Step) (e : EndId) (o p : Outcome) → s.action ≡ action.Take e → Sound (facts h) → Serves (facts h) e o → Serves (facts h) e p → InOrder (h ++ (s, o) ∷ first) → InOrder (h ++ (s, p) ∷ second) → o ≡ p
serves_one h first second s e (outcome.Got v) (outcome.Got w) is x a b i j = ap outcome.Got (sym (first_waiting h first s e v v is x a i) ∙ first_waiting h second s e w v is x b j)
serves_one h first second s e (outcome.Got v) outcome.Empty is x a b i j = absurd (not_drained (facts h) e v a b)
serves_one h first second s e outcome.Empty (outcome.Got w) is x a b i j = absurd (not_drained (facts h) e w b a)
serves_one h first second s e outcome.Empty outcome.Empty is x a b i j = refl
serves_one h first second s e (outcome.Got v) outcome.Busy is x a b i j = absurd (not_left (facts h) e v a b.0)
serves_one h first second s e (outcome.Got v) outcome.Again is x a b i j = absurd (not_left (facts h) e v a b.0)
serves_one h first second s e outcome.Busy (outcome.Got w) is x a b i j = absurd (not_left (facts h) e w b a.0)
serves_one h first second s e outcome.Again (outcome.Got w) is x a b i j = absurd (not_left (facts h) e w b a.0)
serves_one h first second s e outcome.Empty outcome.Busy is x a b i j = absurd (not_both (facts h) e a b.0)
serves_one h first second s e outcome.Empty outcome.Again is x a b i j = absurd (not_both (facts h) e a b.0)
serves_one h first second s e outcome.Busy outcome.Empty is x a b i j = absurd (not_both (facts h) e b a.0)
serves_one h first second s e outcome.Again outcome.Empty is x a b i j = absurd (not_both (facts h) e b a.0)
serves_one h first second s e outcome.Busy outcome.Busy is x a b i j = refl
serves_one h first second s e outcome.Again outcome.Again is x a b i j = refl
serves_one h first second s e outcome.Busy outcome.Again is x a b i j = absurd (false≢true (sym a.1 ∙ b.1))
serves_one h first second s e outcome.Again outcome.Busy is x a b i j = absurd (false≢true (sym b.1 ∙ a.1))
serves_one h first second s e (outcome.Got v) _ is x a b i j = absurd b
serves_one h first second s e outcome.Empty _ is x a b i j = absurd b
serves_one h first second s e outcome.Busy _ is x a b i j = absurd b
serves_one h first second s e outcome.Again _ is x a b i j = absurd b
serves_one h first second s e _ p is x a b i j = absurd a

-- the tests of a take have one answer, where what is served has
take_one : (closed held enabled : Bool) (P Q : Type 0) (o p : Outcome) → (P → Q → o ≡ p) → MatchBool closed (o ≡ outcome.Closed) (MatchBool held (MatchBool enabled P (o ≡ outcome.Disabled)) (o ≡ outcome.NotNow)) → MatchBool closed (p ≡ outcome.Closed) (MatchBool held (MatchBool enabled Q (p ≡ outcome.Disabled)) (p ≡ outcome.NotNow)) → o ≡ p
take_one true held enabled P Q o p k a b = a ∙ sym b
take_one false true true P Q o p k a b = k a b
take_one false true false P Q o p k a b = a ∙ sym b
take_one false false enabled P Q o p k a b = a ∙ sym b

-- an answer that is a function of the facts, but for that of a Take and of a Sweep
answers_one : (h first second : History) (s : Step) (a : Action) (o p : Outcome) → s.action ≡ a → Sound (facts h) → LegalAfter h ((s, o) ∷ first) → LegalAfter h ((s, p) ∷ second) → Answers (facts h) a s.memory_refused o → Answers (facts h) a s.memory_refused p → InOrder (h ++ (s, o) ∷ first) → InOrder (h ++ (s, p) ∷ second) → o ≡ p
answers_one h first second s (action.Take e) o p is x l m a b i j =
    take_one ((facts h).end e.0).closed (is_some (holder (facts h) e.0)) ((facts h).end e.0).enabled (Serves (facts h) e o) (Serves (facts h) e p) o p
    (λ v w. serves_one h first second s e o p is x v w i j) a b
answers_one h first second s (action.Sweep e) o p is x l m a b i j = sweep_one h first second s e o p is l m a b i j
answers_one h first second s _ o p is x l m a b i j = a ∙ sym b

pub one_answer : OneAnswer
one_answer h first second s o p l m i j =
    let at = legal_at (h ++ (s, o) ∷ first) h first (s, o) l refl in
    let also = legal_at (h ++ (s, p) ∷ second) h second (s, p) m refl in
    answers_one h first second s s.action o p refl (sound_legal h at.0) (at.1, at.2) (also.1, also.2) at.1 also.1 i j
