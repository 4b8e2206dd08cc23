-- After each pair that fits, the mailbox of each end shows what is known there; so the facts of every legal history are sound.
use Rattle.std.proofs.Common.{◌≡◌, ◌⊎◌, ℕ, suc, ◌+◌, ◌<◌, ◌≤◌, true, false, eqb, List, [], ◌∷◌, ◌++◌, length, map, refl, sym, ap, subst, ◌∙◌, inl, inr, ⊎_elim, arith, append-nil, Some, Bool, None, append_assoc, rules}
use Rattle.hub_core.proofs.Words.{slice_get, flat_map, AllByRecursion, false≢true, false_from_ne_true, or_cases, cases_lt, length-map, filter-append, recursion_from_All, Envelope, Out, Inside, Turned, LineNow, Facts, lines_of, up_to, numbers, is_distinct, by, in_queue, Rises, IsOfEnd, Gate, is_shut, Queue, IsNamed, Mailbox, GateAt, QueueAt, IsMailbox, OneRight, Action, Answers, Fits, History, Legal, Outcome, Pair, Sound, SoundPlaces, after_pair, facts, first_mailbox, mailbox, mailbox_from}
use Rattle.hub_core.proofs.Items.{got_there, AllByRecursion-append, AllByRecursion-weaker}
use Rattle.hub_core.proofs.Totals.{filter_both, of_line}
use Rattle.hub_core.proofs.MailboxShown.{view, ShownAt, Standing, standing}
use Rattle.hub_core.proofs.MailboxStepping.{chain_laws}
use Rattle.hub_core.proofs.PairQueues.{put_epochs, got_epochs, put_there, got_there_in}
use Rattle.hub_core.proofs.SoundLines.{LinesAt, MarksAt, line_epochs, marks_next, WaitingAt, LeavingsAt, all_by_lines, rises_joined, same_rises, leavings_next}
use Rattle.hub_core.proofs.Waits.{all_kept, all_both, filters, none_of_queue}
use Rattle.hub_core.proofs.Sames.{by_pairs}
use Rattle.hub_core.proofs.MailboxOf.{Kept, kept_next, new_shown}
use Rattle.hub_core.proofs.Nexts.{facts_next, next}
use Rattle.hub_core.proofs.SoundPlaces.{places_next}

-- ==== Where a mailbox shows what is known of an end, its lines and what waits there are sound.

-- ---- queues that are joined

module _ (g : Queue → List Envelope) where
  all_joined : (P : Envelope → Type 0) (qs : List Queue) → ((k : ℕ) (q : Queue) → slice_get qs k ≡ Some q → AllByRecursion P (g q)) → AllByRecursion P (flat_map g qs)
  all_joined P [] each = tt
  all_joined P (q ∷ qs) each = AllByRecursion-append P (g q) (flat_map g qs) (each 0 q refl) (all_joined P qs (λ k u there. each (suc k) u there))

  -- the envelopes of queues from n on, queue by queue
  rises_from : (n : ℕ) (qs : List Queue) → ((k : ℕ) (q : Queue) → slice_get qs k ≡ Some q → AllByRecursion (λ (v : Envelope). v.epoch ≡ n + k) (g q)) → Rises (flat_map g qs)
  rises_from n [] each = tt
  rises_from n (q ∷ qs) each =
      let first : AllByRecursion (λ (v : Envelope). v.epoch ≡ n) (g q) = AllByRecursion-weaker (λ (v : Envelope). v.epoch ≡ n + 0) (λ v. v.epoch ≡ n) (λ v is. let same : v.epoch ≡ n + 0 = is in omega arith) (g q) (each 0 q refl) in
      rises_joined n (g q) (flat_map g qs) (same_rises n (g q) first)
      (rises_from (n + 1) qs (λ k u there. AllByRecursion-weaker (λ (v : Envelope). v.epoch ≡ n + suc k) (λ v. v.epoch ≡ n + 1 + k) (λ v is. let same : v.epoch ≡ n + suc k = is in omega arith) (g u) (each (suc k) u there)))
      (AllByRecursion-weaker (λ (v : Envelope). v.epoch ≡ n) (λ v. v.epoch ≤ n) (λ v is. let same : v.epoch ≡ n = is in omega arith) (g q) first)
      (all_joined (λ v. n ≤ v.epoch) qs (λ k u there. AllByRecursion-weaker (λ (v : Envelope). v.epoch ≡ n + suc k) (λ v. n ≤ v.epoch) (λ v is. let same : v.epoch ≡ n + suc k = is in omega arith) (g u) (each (suc k) u there)))

  rises_all : (qs : List Queue) → ((k : ℕ) (q : Queue) → slice_get qs k ≡ Some q → AllByRecursion (λ (v : Envelope). v.epoch ≡ k) (g q)) → Rises (flat_map g qs)
  rises_all qs each = rises_from 0 qs (λ k q at. AllByRecursion-weaker (λ (v : Envelope). v.epoch ≡ k) (λ v. v.epoch ≡ 0 + k) (λ v is. let same : v.epoch ≡ k = is in omega arith) (g q) (each k q at))

-- ---- the end

module _ (f : Facts) (e : ℕ) (m : Mailbox OneRight) (is : ShownAt f e m) (marks : MarksAt f e) (leavings : LeavingsAt f e) where
  abbrev lines : ℕ
  lines = lines_of (f.end e).kind

  abbrev newest : ℕ
  newest = (f.end e).newest

  abbrev taker : ℕ
  taker = (f.end e).taker_stand

  abbrev accepted : List Envelope
  accepted = f.accepted e

  abbrev stand : ℕ → ℕ
  stand l = (f.line e l).stand

  box : IsMailbox e lines m
  box = is.is_mailbox

  stands : (l : ℕ) → l < lines → Standing lines m l (stand l) (f.line e l).phase
  stands l low = standing e (view f e) m is l low

  stand_within : (l : ℕ) → stand l ≤ newest
  stand_within l = ⊎_elim
      (λ low.
      let within : stand l < length m.gates = box.stands_within l (stand l) (stands l low).stands in
      let count : length m.gates ≡ newest + 1 = is.gates in
      omega arith)
      (λ past. let first : stand l ≡ 0 = ap (λ (y : LineNow). y.stand) (marks.none l past) in omega arith)
      (cases_lt l lines)

  taker_within : taker ≤ newest
  taker_within =
      let within : m.taker < length m.gates = box.taker_within in
      let count : length m.gates ≡ newest + 1 = is.gates in
      let at : m.taker ≡ taker = is.taker_at in
      omega arith

  -- ---- gates

  -- a line that isn't out is one of the end
  not_out : (l : ℕ) → ((f.line e l).phase ≡ Out → ⊥) → l < lines
  not_out l other = ⊎_elim (λ low. low) (λ past. absurd (other (ap (λ (y : LineNow). y.phase) (marks.none l past)))) (cases_lt l lines)

  -- a gate that is shut is retired, or the newest of a closed end
  shut_where : (k : ℕ) (g : Gate OneRight) → GateAt m k g → is_shut g ≡ true → k ≤ newest → (k < newest) ⊎ ((k ≡ newest) × ((f.end e).closed ≡ true))
  shut_where k g at shut within = ⊎_elim
      (λ older. inl older)
      (λ last.
      let count : length m.gates ≡ newest + 1 = is.gates in
      let same : k ≡ newest = omega arith in
      let still : g.moved ≡ false = box.newest k g at (omega arith) in
      ⊎_elim
      (λ moved. absurd (false≢true (sym still ∙ moved)))
      (λ closed. inr (same, sym (is.flags k g (omega arith) at).1 ∙ closed))
      (or_cases g.moved g.closed shut))
      (cases_lt k newest)

  clear_where : (k : ℕ) → f.clear e k ≡ true → (k < newest) ⊎ ((k ≡ newest) × ((f.end e).closed ≡ true))
  clear_where k clear = ⊎_elim
      (λ within.
      let count : length m.gates ≡ newest + 1 = is.gates in
      let there = got_there m.gates k (omega arith) in
      shut_where k there.0 there.1 ((box.each_gate k there.0 there.1).shut (is.given k there.0 there.1 ∙ clear)) (omega arith))
      (λ past. absurd (false≢true (sym (leavings.unclear k (omega arith)) ∙ clear)))
      (cases_lt k (newest + 1))

  turned_where : (l : ℕ) → (f.line e l).phase ≡ Turned → (stand l < newest) ⊎ ((f.end e).closed ≡ true)
  turned_where l turned =
      let y : Standing lines m l (stand l) (f.line e l).phase = stands l (not_out l (λ out. cc)) in
      elim (shut_where (stand l) y.gate y.is_gate (y.sound.turned l (y.phase ∙ ap Some turned)) (stand_within l)) [
        | inl older ↦ inl older
        | inr last ↦ inr last.1
      ]

  inside_from : (l : ℕ) → (f.line e l).phase ≡ Inside → taker ≤ stand l
  inside_from l inside =
      let y : Standing lines m l (stand l) (f.line e l).phase = stands l (not_out l (λ out. cc)) in
      let from : m.taker ≤ stand l = box.inside_from_taker l (stand l) y.gate y.is_gate (y.phase ∙ ap Some inside) in
      let at : m.taker ≡ taker = is.taker_at in
      omega arith

  inside_unclear : (l : ℕ) → (f.line e l).phase ≡ Inside → f.clear e (stand l) ≡ false
  inside_unclear l inside =
      let y : Standing lines m l (stand l) (f.line e l).phase = stands l (not_out l (λ out. cc)) in
      false_from_ne_true (f.clear e (stand l)) (λ clear. y.sound.nobody (is.given (stand l) y.gate y.is_gate ∙ clear) l (y.phase ∙ ap Some inside))

  -- ---- envelopes

  -- what is said of each envelope of a line, by the name that it bears
  abbrev IsOfLine : Envelope → Type 0
  IsOfLine v = (v.end.0 ≡ e) × (v.line.0 < lines) × (v.epoch ≤ stand v.line.0)

  named_in : (l k : ℕ) (q : Queue) → QueueAt m k q → AllByRecursion (λ (v : Envelope). IsNamed e k lines v × (v.line.0 ≡ l)) (q.put l)
  named_in l k q at = subst (AllByRecursion (λ (v : Envelope). IsNamed e k lines v × (v.line.0 ≡ l))) ((box.each_queue k q at).put l)
      (all_both (IsNamed e k lines) (λ (v : Envelope). v.line.0 ≡ l) (by l (q.got ++ q.held)) (all_kept (IsNamed e k lines) _ (q.got ++ q.held) (recursion_from_All (IsNamed e k lines) (q.got ++ q.held) (box.each_queue k q at).named)) (of_line l (q.got ++ q.held)))

  of_line_in : (l k : ℕ) (q : Queue) → QueueAt m k q → AllByRecursion IsOfLine (q.put l)
  of_line_in l k q at = ⊎_elim
      (λ ahead. ⊎_elim
      (λ low. subst (AllByRecursion IsOfLine) (sym (box.nothing_put_ahead l (stand l) k q (stands l low).stands at ahead)) tt)
      (λ past. AllByRecursion-weaker (λ (v : Envelope). IsNamed e k lines v × (v.line.0 ≡ l)) IsOfLine (λ v both. let low : v.line.0 < lines = both.0.line in let same : v.line.0 ≡ l = both.1 in absurd (omega arith)) (q.put l) (named_in l k q at))
      (cases_lt l lines))
      (λ within. AllByRecursion-weaker (λ (v : Envelope). IsNamed e k lines v × (v.line.0 ≡ l)) IsOfLine (λ v both.
      let epoch : v.epoch ≡ k = both.0.epoch in
      let same : stand v.line.0 ≡ stand l = ap stand both.1 in
      (both.0.end, both.0.line, omega arith)) (q.put l) (named_in l k q at))
      (cases_lt (stand l) k)

  named : AllByRecursion (IsOfEnd e lines (f.line e)) accepted
  named = AllByRecursion-weaker (λ (v : Envelope). IsOfLine v × (is_distinct v.ports ≡ true)) (IsOfEnd e lines (f.line e)) (λ v both. record { end = both.0.0; has_line = both.0.1; epoch = both.0.2; ports = both.1 }) accepted
      (all_both IsOfLine (λ (v : Envelope). is_distinct v.ports ≡ true) accepted (all_by_lines IsOfLine accepted (λ l. subst (AllByRecursion IsOfLine) (is.put l) (all_joined (λ q. q.put l) IsOfLine m.queues (of_line_in l)))) marks.ports)

  numbered : (l k : ℕ) → numbers l k accepted ≡ up_to (length (numbers l k accepted))
  numbered l k =
      let number : Envelope → ℕ = λ v. v.number in
      let queue : numbers l k accepted ≡ map number (in_queue k (by l accepted)) = ap (map number) (sym (filter_both (λ v. eqb v.line.0 l) (λ v. eqb v.epoch k) accepted)) in
      let many : length m.queues ≡ length m.gates = box.queues in
      let count : length m.gates ≡ newest + 1 = is.gates in
      ⊎_elim
      (λ within.
      let there = got_there m.queues k within in
      let q : Queue = there.0 in
      let put : in_queue k (by l accepted) ≡ q.put l = ap (in_queue k) (sym (is.put l)) ∙ put_there e lines m box l k q there.1 in
      subst (λ ns. ns ≡ up_to (length ns)) (sym (queue ∙ ap (map number) put)) ((box.each_queue k q there.1).numbered l ∙ ap up_to (sym (length-map (q.put l) number))))
      (λ past.
      let none : in_queue k (by l accepted) ≡ [] = none_of_queue (λ (v : Envelope). v.epoch ≤ stand l) k (by l accepted) (λ v low same. absurd (let within : stand l ≤ newest = stand_within l in let reached : v.epoch ≤ stand l = low in omega arith)) (line_epochs e lines (f.line e) accepted l named) in
      subst (λ ns. ns ≡ up_to (length ns)) (sym (queue ∙ ap (map number) none)) refl)
      (cases_lt k (length m.queues))

  pub lines_shown : LinesAt f e
  lines_shown = record {
    stand = stand_within;
    taker_stand = taker_within;
    none = marks.none;
    named = named;
    rising = λ l. subst Rises (is.put l) (rises_all (λ q. q.put l) m.queues (put_epochs e lines m box l));
    numbered = numbered;
    clear_within = clear_where;
    turned = turned_where;
    inside = inside_from;
    inside_unclear = inside_unclear;
    messages = marks.messages;
    last = marks.last;
  }

  -- ---- what waits

  -- a queue that the taker has left gave all that was put there
  behind : (l k : ℕ) → k < taker → in_queue k (by l (f.taken e)) ≡ in_queue k (by l accepted)
  behind l k low =
      let many : length m.queues ≡ length m.gates = box.queues in
      let within : m.taker < length m.gates = box.taker_within in
      let at : m.taker ≡ taker = is.taker_at in
      let there = got_there m.queues k (omega arith) in
      let q : Queue = there.0 in
      let none : q.held ≡ [] = box.nothing_held_before k q there.1 (omega arith) in
      let put : in_queue k (by l accepted) ≡ by l q.got = ap (in_queue k) (sym (is.put l)) ∙ put_there e lines m box l k q there.1 ∙ sym ((box.each_queue k q there.1).put l) ∙ ap (λ us. by l (q.got ++ us)) none ∙ ap (by l) (append-nil q.got) in
      let got : in_queue k (by l (f.taken e ++ f.discarded e)) ≡ by l q.got = filters _ _ (f.taken e ++ f.discarded e) ∙ ap (λ us. by l (in_queue k us)) (sym is.got) ∙ ap (by l) (got_there_in e lines m box k q there.1) in
      let later : in_queue k (by l (f.discarded e)) ≡ [] = none_of_queue (λ (v : Envelope). taker ≤ v.epoch) k (by l (f.discarded e)) (λ v high same. absurd (let from : taker ≤ v.epoch = high in omega arith)) (all_kept (λ (v : Envelope). taker ≤ v.epoch) _ (f.discarded e) leavings.from) in
      sym (append-nil (in_queue k (by l (f.taken e)))) ∙ ap (λ us. in_queue k (by l (f.taken e)) ++ us) (sym later) ∙ sym (filter-append _ (by l (f.taken e)) (by l (f.discarded e))) ∙ ap (in_queue k) (sym (filter-append _ (f.taken e) (f.discarded e))) ∙ got ∙ sym put

  pub waiting_shown : WaitingAt f e
  waiting_shown = record {
    prefix = λ l. let front = chain_laws.chain e lines m box l in (front.0, sym (is.put l) ∙ front.1 ∙ ap (λ us. by l us ++ front.0) is.got);
    rising = subst Rises is.got (rises_all (λ q. q.got) m.queues (got_epochs e lines m box));
    reached = leavings.reached;
    behind = behind;
    kept = leavings.kept;
    nobody = leavings.nobody;
    swept = leavings.swept;
  }

-- ==== After each pair that fits, the mailbox of each end shows what is known there; so the facts of every legal history are sound.

-- ---- the mailbox, one pair later

from_one : (e : ℕ) (m : Mailbox OneRight) (past h : History) (p : Pair) → mailbox_from e m past (h ++ p ∷ []) ≡ after_pair (facts (past ++ h)) e (mailbox_from e m past h) p.1 p.0.action
from_one e m past [] p = ap (λ k. after_pair (facts k) e m p.1 p.0.action) (sym (append-nil past))
from_one e m past (q ∷ h) p =
    let between : Mailbox OneRight = after_pair (facts past) e m q.1 q.0.action in
    from_one e between (past ++ q ∷ []) h p ∙ ap (λ k. after_pair (facts k) e (mailbox_from e between (past ++ q ∷ []) h) p.1 p.0.action) (append_assoc past (q ∷ []) h)

pub mailbox_one : (h : History) (p : Pair) (e : ℕ) → mailbox (h ++ p ∷ []) e ≡ after_pair (facts h) e (mailbox h e) p.1 p.0.action
mailbox_one h p e = from_one e (first_mailbox None) [] h p

-- ---- what is kept

-- What each pair that fits keeps: the mailbox of each end shows what is known there, and so does what no mailbox shows.
record AreKept (f : Facts) (m : ℕ → Mailbox OneRight) : Type 0 where
  marks : (e : ℕ) → MarksAt f e
  leavings : (e : ℕ) → LeavingsAt f e
  places : SoundPlaces f
  boxes : (e : ℕ) → Kept f e (m e)

sound_of : (f : Facts) (m : ℕ → Mailbox OneRight) → AreKept f m → Sound f
sound_of f m k = record {
  lines = λ e. lines_shown f e (m e) (k.boxes e).shown (k.marks e) (k.leavings e);
  waiting = λ e. waiting_shown f e (m e) (k.boxes e).shown (k.marks e) (k.leavings e);
  places = k.places;
}

are_kept_next : (f : Facts) (m : ℕ → Mailbox OneRight) (refused : Bool) (o : Outcome) (a : Action) → AreKept f m → Answers f a refused o → AreKept (next f a o) (λ e. after_pair f e (m e) o a)
are_kept_next f m refused o a k fits =
    let sound : Sound f = sound_of f m k in
    record {
      marks = marks_next f refused sound.places.ends sound.lines k.marks o a fits;
      leavings = leavings_next f refused sound.lines sound.waiting k.leavings o a fits;
      places = places_next f refused sound o a fits;
      boxes = λ e. kept_next f e (m e) sound refused o a fits (k.boxes e);
    }

nothing_there : (before after : List Envelope) (v : Envelope) → (let none : List Envelope = [] in none ≡ before ++ v ∷ after) → after ≡ []
nothing_there [] after v is = absurd (search (rules, is))
nothing_there (b ∷ before) after v is = absurd (search (rules, is))

sound_first : Sound (facts [])
sound_first = record {
  lines = λ x. record {
    stand = λ l. omega arith;
    taker_stand = omega arith;
    none = λ l past. refl;
    named = tt;
    rising = λ l. tt;
    numbered = λ l k. refl;
    clear_within = λ k is. cc;
    turned = λ l is. cc;
    inside = λ l is. cc;
    inside_unclear = λ l is. cc;
    messages = λ l is. tt;
    last = λ l before after v is notice. nothing_there before after v is;
  };
  waiting = λ x. record { prefix = λ l. ([], refl); rising = tt; reached = tt; behind = λ l k less. refl; kept = λ is. refl; nobody = λ l is. refl; swept = inl refl };
  places = record {
    few = omega arith;
    ends = λ x past. refl;
    agents = λ a past. refl;
    peers = λ x y is. cc;
    with_made = λ x a is. cc;
    arrived_made = λ x a is. cc;
    away = λ s away. cc;
    flying = λ x is. cc;
    gone = λ x. refl;
    flights = λ x. refl;
  };
}

kept_first : AreKept (facts []) (mailbox [])
kept_first = record {
  marks = λ e. record { none = λ l past. refl; ports = tt; messages = λ l is. tt; last = (sound_first.lines e).last };
  leavings = λ e. record { unclear = λ k past. refl; reached = tt; from = tt; kept = λ is. refl; nobody = λ l is. refl; swept = inl refl };
  places = sound_first.places;
  boxes = λ e. record { shown = new_shown (facts []) e sound_first (omega arith) None; events = []; runs = refl; put = refl };
}

kept_after : (h : History) (p : Pair) → AreKept (facts h) (mailbox h) → Fits h p → AreKept (facts (h ++ p ∷ [])) (mailbox (h ++ p ∷ []))
kept_after h p k fits =
    subst (λ f. AreKept f (mailbox (h ++ p ∷ []))) (sym (facts_next h p))
    (subst (AreKept (next (facts h) p.0.action p.1)) (λ i e. sym (mailbox_one h p e) i) (are_kept_next (facts h) (mailbox h) p.0.memory_refused p.1 p.0.action k fits))

kept_legal : (h : History) → Legal h → AreKept (facts h) (mailbox h)
kept_legal h legal = by_pairs (λ k. AreKept (facts k) (mailbox k)) kept_after [] h kept_first legal

pub sound_legal : (h : History) → Legal h → Sound (facts h)
sound_legal h legal = sound_of (facts h) (mailbox h) (kept_legal h legal)

pub box_legal : (h : History) → Legal h → (e : ℕ) → Kept (facts h) e (mailbox h e)
box_legal h legal = (kept_legal h legal).boxes
