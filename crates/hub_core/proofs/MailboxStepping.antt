-- Each event keeps what a mailbox promises.
use Rattle.std.proofs.Common.{◌≡◌, ◌≢◌, ◌⊎◌, ℕ, zero, ◌+◌, ◌<◌, ◌≤◌, true, false, List, [], ◌∷◌, ◌++◌, length, set, refl, sym, ap, subst, ◌∙◌, inl, inr, ⊎_elim, arith, length-set, length-append, Some, None, append-nil, append_assoc, cond, eqb, ne_eqb, suc, true≢false}
use Rattle.hub_core.proofs.Words.{slice_get, cases_lt, cases_eq, length-map, Out, Inside, Gate, IsAt, opened, Steps, retires, IsGateOf, Queue, new_queue, IsQueue, Mailbox, new_mailbox, GateAt, StandsAt, IsNewest, IsMailbox, with_gate, with_stand, with_taker, with_new, IsSettled, HoldsNothing, ChainLaws, Envelope, Grows, HappensAt, HoldsFirst, MailboxEvent, MailboxStep, MayPush, MaySweep, Phase, Prefix, QueueAt, Turned, adds, advances, by, closes, eqb-true, filter-append, finds_closed, finds_moved, finds_none, flat_map, gate_steps, goes_in, goes_out}
use Rattle.hub_core.proofs.Words.{got_from, got_in, hops, popped, pushed, pushes, put_by, put_in, sweeps, taken_out, takes, turns_back, with_queue}
use Rattle.hub_core.specs.GateMachine as machine
use Rattle.hub_core.proofs.Items.{got_within, got_there, got_same_at, got-map, got_of-map, at_written, at_pushed, got_same, got_set, none_got, pairs_written, some_is, slice_get-set_other, at_test}
use Rattle.hub_core.proofs.Gating.{at_first, after, nobody_left}
use Rattle.hub_core.proofs.Queueing.{at_first_queue, none_held, after_push}
use Rattle.hub_core.proofs.Waits.{pop_takes, queue_taken, some_held}

-- ==== A mailbox after a line or the taker went on, or a queue was added.

-- a gate as it opens has all lines out
module _ {R : Type 0} (rights : List R) where
  pub opened_out : (line : ℕ) → line < length rights → IsAt (opened rights) line Out
  opened_out line low = let there = got_there rights line low in got-map (λ (_ : R). Out) rights line there.0 there.1

  opened_empty : (line : ℕ) → ¬ IsAt (opened rights) line Inside
  opened_empty line here = let was = got_of-map (λ (_ : R). Out) rights line Inside here in cc

-- a retired gate is moved, and else as it was
record IsRetired {R : Type 0} (g g' : Gate R) : Type 0 where
  phases : g'.phases ≡ g.phases
  moved : g'.moved ≡ true
  closed : g'.closed ≡ g.closed

retired_gate : {R : Type 0} {owns : ℕ → R → Type 0} (g g' : Gate R) {answer : machine.Answer R} → Steps owns g machine.retire answer g' → IsRetired g g'
retired_gate g g' retires = record { phases = refl; moved = refl; closed = refl }

module _ {R : Type 0} (end lines : ℕ) (m : Mailbox R) (is : IsMailbox end lines m) where
  pub hopped_kept : (line k : ℕ) (g : Gate R) → StandsAt m line k → k + 1 < length m.gates → GateAt m k g → IsAt g line Out → IsMailbox end lines (with_stand m line (k + 1))
  hopped_kept line k g stands older at_g out = record {
    queues = is.queues;
    stands = length-set m.stands line (k + 1) ∙ is.stands;
    stands_within = at_written m.stands line (k + 1) (λ l p. p < length m.gates) older (λ l p _ there. is.stands_within l p there);
    taker_within = is.taker_within;
    each_gate = is.each_gate;
    each_queue = is.each_queue;
    retired = is.retired;
    newest = is.newest;
    out_elsewhere = λ l place j f there at_f ne. at_written m.stands line (k + 1) (λ i p. j ≢ p → IsAt f i Out)
        (λ other. ⊎_elim
        (λ here. subst (λ (h : Gate R). IsAt h line Out) (got_same_at m.gates k j g f (sym here) at_g at_f) out)
        (λ else. is.out_elsewhere line k j f stands at_f else)
        (cases_eq j k))
        (λ i p _ found other. is.out_elsewhere i p j f found at_f other) l place there ne;
    nothing_put_ahead = λ l place j q there at_q later. at_written m.stands line (k + 1) (λ i p. p < j → q.put i ≡ [])
        (λ behind. is.nothing_put_ahead line k j q stands at_q (omega arith))
        (λ i p _ found behind. is.nothing_put_ahead i p j q found at_q behind) l place there later;
    inside_from_taker = is.inside_from_taker;
    nothing_got_ahead = is.nothing_got_ahead;
    nothing_held_before = is.nothing_held_before;
    in_turn = is.in_turn;
    nothing_got_while_open = is.nothing_got_while_open;
  }

  pub advanced_kept : m.taker + 1 < length m.gates → IsSettled m m.taker → HoldsNothing m m.taker → IsMailbox end lines (with_taker m (m.taker + 1))
  advanced_kept older s h = record {
    queues = is.queues;
    stands = is.stands;
    stands_within = is.stands_within;
    taker_within = older;
    each_gate = is.each_gate;
    each_queue = is.each_queue;
    retired = is.retired;
    newest = is.newest;
    out_elsewhere = is.out_elsewhere;
    nothing_put_ahead = is.nothing_put_ahead;
    inside_from_taker = λ line k g at here.
        let high = is.inside_from_taker line k g at here in ⊎_elim
        (λ same.
        let one : g ≡ s.gate = got_same_at m.gates k m.taker g s.gate same at s.is_gate in
        absurd (nobody_left lines s.gate (is.each_gate m.taker s.gate s.is_gate) s.left line (ap (λ (f : Gate R). slice_get f.phases line) (sym one) ∙ here)))
        (λ other. omega arith)
        (cases_eq k m.taker);
    nothing_got_ahead = is.nothing_got_ahead;
    nothing_held_before = λ k q at low. ⊎_elim
        (λ lower. is.nothing_held_before k q at lower)
        (λ high.
        let one : h.queue ≡ q = got_same_at m.queues m.taker k h.queue q (omega arith) h.is_queue at in
        ap (λ (u : Queue). u.held) (sym one) ∙ none_held h.queue h.nothing)
        (cases_lt k m.taker);
    in_turn = is.in_turn;
    nothing_got_while_open = λ k last g q newest at shut there later. is.nothing_got_while_open k last g q newest at shut there (omega arith);
  }

  -- one queue more
  module _ {owns : ℕ → R → Type 0} (k : ℕ) (g g' : Gate R) (rights : List R) (newest : IsNewest m k) (at : GateAt m k g) (open_yet : g.closed ≡ false)
      (step : Steps owns g machine.retire machine.says_done g') (many : length rights ≡ lines) where
    -- what holds of the retired gate, of the older and of the new one holds of each
    each_gate : (P : ℕ → Gate R → Type 0) → P k g' → ((j : ℕ) (f : Gate R) → GateAt m j f → j < k → P j f) → P (k + 1) (opened rights)
        → (j : ℕ) (f : Gate R) → slice_get (set m.gates k g' ++ opened rights ∷ []) j ≡ Some f → P j f
    each_gate P here older new = at_pushed (set m.gates k g') (opened rights) P
        (at_written m.gates k g' P here (λ j f ne there. let low = got_within m.gates j f there in older j f there (omega arith)))
        (subst (λ i. P i (opened rights)) (newest ∙ sym (length-set m.gates k g')) new)

    pub added_kept : IsMailbox end lines (with_new (with_gate m k g') rights)
    added_kept =
        let of : IsRetired g g' = retired_gate g g' step in
        let gates : length (set m.gates k g' ++ opened rights ∷ []) ≡ length m.gates + 1 = length-append (set m.gates k g') (opened rights ∷ []) ∙ ap (λ n. n + 1) (length-set m.gates k g') in
        let queues : length (m.queues ++ new_queue ∷ []) ≡ length m.queues + 1 = length-append m.queues (new_queue ∷ []) in
        let same : length m.queues ≡ length m.gates = is.queues in record {
          queues = queues ∙ ap (λ n. n + 1) is.queues ∙ sym gates;
          stands = is.stands;
          stands_within = λ line j there. let low = is.stands_within line j there in omega arith;
          taker_within = let low = is.taker_within in omega arith;
          each_gate = each_gate (λ j f. IsGateOf lines f) (after lines g (is.each_gate k g at) g' step) (λ j f there _. is.each_gate j f there) (subst (λ n. IsGateOf n (opened rights)) many (at_first rights));
          each_queue = at_pushed m.queues new_queue (λ j q. IsQueue end j lines q) is.each_queue (at_first_queue end (length m.queues) lines);
          retired = each_gate (λ j f. j + 1 < length (set m.gates k g' ++ opened rights ∷ []) → (f.moved ≡ true) × (f.closed ≡ false))
              (λ _. (of.moved, of.closed ∙ open_yet))
              (λ j f there low _. is.retired j f there (omega arith))
              (λ past. absurd (omega arith));
          newest = each_gate (λ j f. j + 1 ≡ length (set m.gates k g' ++ opened rights ∷ []) → f.moved ≡ false)
              (λ last. absurd (omega arith))
              (λ j f there low last. absurd (omega arith))
              (λ last. refl);
          out_elsewhere = λ line place j f stands there ne. each_gate (λ i h. i ≢ place → IsAt h line Out)
              (λ other. ap (λ ps. slice_get ps line) of.phases ∙ is.out_elsewhere line place k g stands at other)
              (λ i h found _ other. is.out_elsewhere line place i h stands found other)
              (λ _. let low = got_within m.stands line place stands in let all = is.stands in opened_out rights line (omega arith)) j f there ne;
          nothing_put_ahead = λ line place j q stands there later. at_pushed m.queues new_queue (λ i u. place < i → u.put line ≡ [])
              (λ i u found behind. is.nothing_put_ahead line place i u stands found behind)
              (λ _. refl) j q there later;
          inside_from_taker = λ line j f there here. each_gate (λ i h. IsAt h line Inside → m.taker ≤ i)
              (λ now. is.inside_from_taker line k g at (sym (ap (λ ps. slice_get ps line) of.phases) ∙ now))
              (λ i h found _ now. is.inside_from_taker line i h found now)
              (λ now. absurd (opened_empty rights line now)) j f there here;
          nothing_got_ahead = λ line j newer f q there here found later. at_pushed m.queues new_queue (λ i u. j < i → u.got ≡ [])
              (λ i u at_u behind. each_gate (λ n h. IsAt h line Inside → n < i → u.got ≡ [])
              (λ now low. is.nothing_got_ahead line k i g u at (sym (ap (λ ps. slice_get ps line) of.phases) ∙ now) at_u low)
              (λ n h at_h _ now low. is.nothing_got_ahead line n i h u at_h now at_u low)
              (λ now low. absurd (opened_empty rights line now)) j f there here behind)
              (λ _. refl) newer q found later;
          nothing_held_before = at_pushed m.queues new_queue (λ j q. j < m.taker → q.held ≡ []) is.nothing_held_before (λ _. refl);
          in_turn = λ older newer p q at_p at_q later. at_pushed m.queues new_queue (λ j u. j < newer → (u.held ≡ []) ⊎ (q.got ≡ []))
              (λ j u at_u low. at_pushed m.queues new_queue (λ n w. j < n → (u.held ≡ []) ⊎ (w.got ≡ []))
              (λ n w at_w between. is.in_turn j n u w at_u at_w between)
              (λ _. inr refl) newer q at_q low)
              (λ low. inl refl) older p at_p later;
          nothing_got_while_open = λ j last f q now there shut found later. at_pushed m.queues new_queue (λ i u. m.taker < i → u.got ≡ [])
              (λ i u at_u behind. is.nothing_got_while_open i k g u newest at open_yet at_u behind)
              (λ _. refl) j q found later;
        }

-- the only item of a list of one
pub only : {A : Type 0} (a : A) (P : ℕ → A → Type 0) → P zero a → (j : ℕ) (b : A) → slice_get (a ∷ []) j ≡ Some b → P j b
only a P here j b at = at_pushed [] a P (λ i c there. cc) here j b at

-- a new mailbox
pub new_kept : {R : Type 0} (end : ℕ) (rights : List R) → IsMailbox end (length rights) (new_mailbox rights)
new_kept {R = R} end rights = record {
  queues = refl;
  stands = length-map rights (λ _. 0);
  stands_within = λ line k there. let was = got_of-map (λ (_ : R). 0) rights line k there in let is : 0 ≡ k = was.2 in omega arith;
  taker_within = omega arith;
  each_gate = only (opened rights) (λ _ g. IsGateOf (length rights) g) (at_first rights);
  each_queue = only new_queue (λ k q. IsQueue end k (length rights) q) (at_first_queue end 0 (length rights));
  retired = only (opened rights) (λ k g. k + 1 < 1 → (g.moved ≡ true) × (g.closed ≡ false)) (λ past. absurd (omega arith));
  newest = only (opened rights) (λ k g. k + 1 ≡ 1 → g.moved ≡ false) (λ _. refl);
  out_elsewhere = λ line place k g stands there ne.
      let was = got_of-map {B = ℕ} (λ (_ : R). 0) rights line place stands in
      only (opened rights) (λ _ f. IsAt f line Out) (opened_out rights line (got_within rights line was.0 was.1)) k g there;
  nothing_put_ahead = λ line place k q stands there later. only new_queue (λ _ u. u.put line ≡ []) refl k q there;
  inside_from_taker = λ line k g there here. omega arith;
  nothing_got_ahead = λ line k newer g q there here found later. only new_queue (λ _ u. u.got ≡ []) refl newer q found;
  nothing_held_before = only new_queue (λ k q. k < 0 → q.held ≡ []) (λ _. refl);
  in_turn = λ older newer p q at_p at_q later. inl (only new_queue (λ _ u. u.held ≡ []) refl older p at_p);
  nothing_got_while_open = λ k last g q newest there shut found later. only new_queue (λ _ u. u.got ≡ []) refl k q found;
}

-- ==== What was taken out of the queues of a mailbox is a prefix of what was put there.

-- what was taken and what was put, joined over the queues
abbrev gots : List Queue → List Envelope
gots qs = flat_map (λ q. q.got) qs

abbrev puts : ℕ → List Queue → List Envelope
puts line qs = flat_map (λ q. q.put line) qs

-- what the law needs of the queues
record IsChain (line : ℕ) (qs : List Queue) : Type 0 where
  each : (k : ℕ) (q : Queue) → slice_get qs k ≡ Some q → by line (q.got ++ q.held) ≡ q.put line
  in_turn : (older newer : ℕ) (p q : Queue) → slice_get qs older ≡ Some p → slice_get qs newer ≡ Some q → older < newer → (p.held ≡ []) ⊎ (q.got ≡ [])

newer_ones : (line : ℕ) (q : Queue) (qs : List Queue) → IsChain line (q ∷ qs) → IsChain line qs
newer_ones line q qs c = record {
  each = λ k p at. c.each (suc k) p at;
  in_turn = λ older newer p r at_p at_r later. c.in_turn (suc older) (suc newer) p r at_p at_r (omega arith);
}

-- where each queue has given nothing or the first holds nothing, all have given nothing or the first holds nothing
first_or_none : (held : List Envelope) (qs : List Queue) → ((k : ℕ) (q : Queue) → slice_get qs k ≡ Some q → (held ≡ []) ⊎ (q.got ≡ [])) → (held ≡ []) ⊎ (gots qs ≡ [])
first_or_none held [] each = inr refl
first_or_none held (q ∷ qs) each = ⊎_elim
    (λ nothing. inl nothing)
    (λ none. ⊎_elim
    (λ nothing. inl nothing)
    (λ rest. inr (ap (λ us. us ++ gots qs) none ∙ rest))
    (first_or_none held qs (λ k p at. each (suc k) p at)))
    (each zero q refl)

chained : (line : ℕ) (qs : List Queue) → IsChain line qs → Prefix (by line (gots qs)) (puts line qs)
chained line [] c = ([], refl)
chained line (q ∷ qs) c =
    let all : by line (q.got ++ q.held) ≡ q.put line = c.each zero q refl in
    let further : Prefix (by line (gots qs)) (puts line qs) = chained line qs (newer_ones line q qs c) in
    let mine : List Envelope = by line q.got in
    let left : List Envelope = by line q.held in ⊎_elim
    (λ nothing.
    let given : q.put line ≡ mine = sym all ∙ ap (λ hs. by line (q.got ++ hs)) nothing ∙ ap (by line) (append-nil q.got) in (
      further.0,
      ap (λ us. us ++ puts line qs) given ∙ ap (λ us. mine ++ us) further.1 ∙ sym (append_assoc mine (by line (gots qs)) further.0)
          ∙ ap (λ us. us ++ further.0) (sym (filter-append _ q.got (gots qs))),
    ))
    (λ none.
    let given : q.put line ≡ mine ++ left = sym all ∙ filter-append _ q.got q.held in
    let first : by line (q.got ++ gots qs) ≡ mine = ap (λ us. by line (q.got ++ us)) none ∙ ap (by line) (append-nil q.got) in (
      left ++ puts line qs,
      ap (λ us. us ++ puts line qs) given ∙ append_assoc mine left (puts line qs) ∙ ap (λ us. us ++ (left ++ puts line qs)) (sym first),
    ))
    (first_or_none q.held qs (λ k p at. c.in_turn zero (suc k) q p refl at (omega arith)))

-- queues that hold nothing have given all
all_given : (line : ℕ) (qs : List Queue) → ((k : ℕ) (q : Queue) → slice_get qs k ≡ Some q → by line (q.got ++ q.held) ≡ q.put line) → ((k : ℕ) (q : Queue) → slice_get qs k ≡ Some q → q.held ≡ []) → by line (gots qs) ≡ puts line qs
all_given line [] each nothing = refl
all_given line (q ∷ qs) each nothing =
    let given : by line q.got ≡ q.put line = ap (by line) (sym (append-nil q.got)) ∙ ap (λ hs. by line (q.got ++ hs)) (sym (nothing zero q refl)) ∙ each zero q refl in
    filter-append _ q.got (gots qs) ∙ ap (λ us. us ++ by line (gots qs)) given ∙ ap (λ us. q.put line ++ us) (all_given line qs (λ k p at. each (suc k) p at) (λ k p at. nothing (suc k) p at))

module _ {R : Type 0} (end lines : ℕ) (m : Mailbox R) where
  pub chain : IsMailbox end lines m → (line : ℕ) → Prefix (by line (got_from m)) (put_by m line)
  chain is line = chained line m.queues (record { each = λ k q at. (is.each_queue k q at).put line; in_turn = is.in_turn })

  pub drained : (q : Queue) → IsMailbox end lines m → IsNewest m m.taker → QueueAt m m.taker q → popped q ≡ None → (line : ℕ) → by line (got_from m) ≡ put_by m line
  drained q is newest at none line = all_given line m.queues (λ k p there. (is.each_queue k p there).put line) (λ k p there.
      let low = got_within m.queues k p there in
      let many = is.queues in ⊎_elim
      (λ older. is.nothing_held_before k p there older)
      (λ last.
      let same : q ≡ p = got_same_at m.queues m.taker k q p (omega arith) at there in
      ap (λ (u : Queue). u.held) (sym same) ∙ none_held q none)
      (cases_lt k m.taker))

-- ==== What an event adds to what was put into a mailbox, and to what was taken out.

-- what a list of queues has, joined
module _ (f : Queue → List Envelope) where
  -- queues that have nothing
  pub nothing_joined : (qs : List Queue) → ((j : ℕ) (u : Queue) → slice_get qs j ≡ Some u → f u ≡ []) → flat_map f qs ≡ []
  nothing_joined [] none = refl
  nothing_joined (q ∷ qs) none = ap (λ us. us ++ flat_map f qs) (none zero q refl) ∙ nothing_joined qs (λ j u at. none (suc j) u at)

  -- one queue has more, and the newer have nothing
  one_more : (qs : List Queue) (k : ℕ) (q q' : Queue) (vs : List Envelope) → slice_get qs k ≡ Some q → f q' ≡ f q ++ vs → ((j : ℕ) (u : Queue) → slice_get qs j ≡ Some u → k < j → f u ≡ []) → flat_map f (set qs k q') ≡ flat_map f qs ++ vs
  one_more [] k q q' vs at more none = none_got q at
  one_more (p ∷ qs) zero q q' vs at more none =
      let rest : flat_map f qs ≡ [] = nothing_joined qs (λ j u there. none (suc j) u there (omega arith)) in
      let same : p ≡ q = some_is p q at in
      let before : f q ≡ f p ++ flat_map f qs = ap f (sym same) ∙ sym (ap (λ us. f p ++ us) rest ∙ append-nil (f p)) in
      ap (λ us. f q' ++ us) rest ∙ append-nil (f q') ∙ more ∙ ap (λ us. us ++ vs) before
  one_more (p ∷ qs) (suc k) q q' vs at more none =
      ap (λ us. f p ++ us) (one_more qs k q q' vs at more (λ j u there later. none (suc j) u there (omega arith))) ∙ sym (append_assoc (f p) (flat_map f qs) vs)

  -- one queue more, which has nothing
  one_new : (qs : List Queue) (q : Queue) → f q ≡ [] → flat_map f (qs ++ q ∷ []) ≡ flat_map f qs
  one_new [] q none = ap (λ us. us ++ []) none
  one_new (p ∷ qs) q none = ap (λ us. f p ++ us) (one_new qs q none)

  -- one queue has what it had
  one_same : (qs : List Queue) (k : ℕ) (q q' : Queue) → slice_get qs k ≡ Some q → f q' ≡ f q → flat_map f (set qs k q') ≡ flat_map f qs
  one_same [] k q q' at same = refl
  one_same (p ∷ qs) zero q q' at same = ap (λ us. us ++ flat_map f qs) (same ∙ ap f (sym (some_is p q at)))
  one_same (p ∷ qs) (suc k) q q' at same = ap (λ us. f p ++ us) (one_same qs k q q' at same)

module _ {R : Type 0} (m after : Mailbox R) where
  pub same_grows : after.queues ≡ m.queues → Grows m [] [] after
  same_grows same = record {
    puts = λ line. ap (flat_map (λ q. q.put line)) same ∙ sym (append-nil (put_by m line));
    gots = ap (flat_map (λ q. q.got)) same ∙ sym (append-nil (got_from m));
  }

  pub new_grows : after.queues ≡ m.queues ++ new_queue ∷ [] → Grows m [] [] after
  new_grows same = record {
    puts = λ line. ap (flat_map (λ q. q.put line)) same ∙ one_new (λ q. q.put line) m.queues new_queue refl ∙ sym (append-nil (put_by m line));
    gots = ap (flat_map (λ q. q.got)) same ∙ one_new (λ q. q.got) m.queues new_queue refl ∙ sym (append-nil (got_from m));
  }

module _ {R : Type 0} (end lines : ℕ) (m : Mailbox R) (is : IsMailbox end lines m) where
  pub push_grows : (k : ℕ) (q : Queue) (v : Envelope) → StandsAt m v.line.0 k → QueueAt m k q → Grows m (v ∷ []) [] (with_queue m k (pushed q v))
  push_grows k q v stands at = record {
    puts = λ line. at_test (λ us. put_by (with_queue m k (pushed q v)) line ≡ put_by m line ++ us) (eqb v.line.0 line) (v ∷ []) []
        (λ mine.
        let same : v.line.0 ≡ line = eqb-true v.line.0 line mine in
        one_more (λ u. u.put line) m.queues k q (pushed q v) (v ∷ []) at (ap (λ b. cond b (q.put line ++ v ∷ []) (q.put line)) mine)
        (λ j u there later. is.nothing_put_ahead line k j u (subst (λ l. StandsAt m l k) same stands) there later))
        (λ other.
        one_same (λ u. u.put line) m.queues k q (pushed q v) at (ap (λ b. cond b (q.put line ++ v ∷ []) (q.put line)) other) ∙ sym (append-nil (put_by m line)));
    gots = one_same (λ u. u.got) m.queues k q (pushed q v) at refl ∙ sym (append-nil (got_from m));
  }

  pub pop_grows : (k : ℕ) (q : Queue) (v : Envelope) → QueueAt m k q → HoldsFirst q v → Grows m [] (v ∷ []) (with_queue m k (taken_out q v))
  pop_grows k q v at first = record {
    puts = λ line. one_same (λ u. u.put line) m.queues k q (taken_out q v) at refl ∙ sym (append-nil (put_by m line));
    gots = one_more (λ u. u.got) m.queues k q (taken_out q v) (v ∷ []) at refl (λ j u there later. ⊎_elim
        (λ none. absurd (some_held q v first none))
        (λ none. none)
        (is.in_turn k j q u at there later));
  }

-- ==== A mailbox after an event of one of its gates.

-- what another gate at epoch k has to keep
pub record Keeps {R : Type 0} (lines : ℕ) (m : Mailbox R) (k : ℕ) (g g' : Gate R) : Type 0 where
  pub gate : IsGateOf lines g'
  pub moved : g'.moved ≡ g.moved
  pub closed : k + 1 < length m.gates → g'.closed ≡ g.closed
  pub still_open : g'.closed ≡ false → g.closed ≡ false
  pub out : (line place : ℕ) → StandsAt m line place → k ≢ place → IsAt g line Out → IsAt g' line Out
  pub inside : (line : ℕ) → IsAt g' line Inside → IsAt g line Inside ⊎ IsNewest m k

module _ {R : Type 0} (end lines : ℕ) (m : Mailbox R) (is : IsMailbox end lines m) where
  gate_written : (k : ℕ) (g g' : Gate R) → GateAt m k g → Keeps lines m k g g' → IsMailbox end lines (with_gate m k g')
  gate_written k g g' at c =
      let many : length (set m.gates k g') ≡ length m.gates = length-set m.gates k g' in record {
        queues = is.queues ∙ sym many;
        stands = is.stands;
        stands_within = λ line j there. let low = is.stands_within line j there in omega arith;
        taker_within = let low = is.taker_within in omega arith;
        each_gate = at_written m.gates k g' (λ j f. IsGateOf lines f) c.gate (λ j f _ there. is.each_gate j f there);
        each_queue = is.each_queue;
        retired = at_written m.gates k g' (λ j f. j + 1 < length (set m.gates k g') → (f.moved ≡ true) × (f.closed ≡ false))
            (λ older. let old = is.retired k g at (omega arith) in (c.moved ∙ old.0, c.closed (omega arith) ∙ old.1))
            (λ j f _ there older. is.retired j f there (omega arith));
        newest = at_written m.gates k g' (λ j f. j + 1 ≡ length (set m.gates k g') → f.moved ≡ false)
            (λ last. c.moved ∙ is.newest k g at (last ∙ many))
            (λ j f _ there last. is.newest j f there (last ∙ many));
        out_elsewhere = λ line place j f stands there ne. at_written m.gates k g' (λ i h. i ≢ place → IsAt h line Out)
            (λ other. c.out line place stands other (is.out_elsewhere line place k g stands at other))
            (λ i h _ here other. is.out_elsewhere line place i h stands here other) j f there ne;
        nothing_put_ahead = is.nothing_put_ahead;
        inside_from_taker = λ line j f there here. at_written m.gates k g' (λ i h. IsAt h line Inside → m.taker ≤ i)
            (λ now. ⊎_elim (λ was. is.inside_from_taker line k g at was) (λ last. let low = is.taker_within in omega arith) (c.inside line now))
            (λ i h _ found now. is.inside_from_taker line i h found now) j f there here;
        nothing_got_ahead = λ line j newer f q there here at_q later. at_written m.gates k g' (λ i h. IsAt h line Inside → i < newer → q.got ≡ [])
            (λ now behind. ⊎_elim
            (λ was. is.nothing_got_ahead line k newer g q at was at_q behind)
            (λ last. let low = got_within m.queues newer q at_q in let same = is.queues in absurd (omega arith))
            (c.inside line now))
            (λ i h _ found now behind. is.nothing_got_ahead line i newer h q found now at_q behind) j f there here later;
        nothing_held_before = is.nothing_held_before;
        in_turn = is.in_turn;
        nothing_got_while_open = λ j last f q newest there shut at_q later. at_written m.gates k g' (λ i h. i + 1 ≡ length m.gates → h.closed ≡ false → q.got ≡ [])
            (λ now open_yet. is.nothing_got_while_open j k g q now at (c.still_open open_yet) at_q later)
            (λ i h _ found now open_yet. is.nothing_got_while_open j i h q now found open_yet at_q later) last f there (newest ∙ many) shut;
      }

  -- a gate that isn't moved is the newest
  is_last : (k : ℕ) (g : Gate R) → GateAt m k g → g.moved ≡ false → IsNewest m k
  is_last k g at unmoved =
      let low = got_within m.gates k g at in ⊎_elim
      (λ older. absurd (true≢false (sym ((is.retired k g at older).0) ∙ unmoved)))
      (λ last. let P : k + 1 ≡ length m.gates = omega arith in P)
      (cases_lt (k + 1) (length m.gates))

  module _ (k : ℕ) (g g' : Gate R) (at : GateAt m k g) (ok : IsGateOf lines g') where
    -- a line that stands there goes to another phase
    phase_kept : (l : ℕ) (w : Phase) → StandsAt m l k → g'.phases ≡ set g.phases l w → g'.moved ≡ g.moved → g'.closed ≡ g.closed → (w ≡ Inside → g.moved ≡ false) → Keeps lines m k g g'
    phase_kept l w stands phases moved closed free = record {
      gate = ok;
      moved = moved;
      closed = λ _. closed;
      still_open = λ is_open. sym closed ∙ is_open;
      out = λ line place there ne was.
          let other : line ≢ l = λ same. ne (got_same_at m.stands l line k place (sym same) stands there) in
          ap (λ ps. slice_get ps line) phases ∙ slice_get-set_other g.phases l line w other ∙ was;
      inside = λ line here. ⊎_elim
          (λ mine. inr (is_last k g at (free mine.1)))
          (λ other. inl other.1)
          (got_set g.phases l line w Inside (sym (ap (λ ps. slice_get ps line) phases) ∙ here));
    }

    -- all lines stay as they were
    lines_kept : g'.phases ≡ g.phases → g'.moved ≡ g.moved → (k + 1 < length m.gates → g'.closed ≡ g.closed) → (g'.closed ≡ false → g.closed ≡ false) → Keeps lines m k g g'
    lines_kept phases moved closed still_open = record {
      gate = ok;
      moved = moved;
      closed = closed;
      still_open = still_open;
      out = λ line place there ne was. ap (λ ps. slice_get ps line) phases ∙ was;
      inside = λ line here. inl (sym (ap (λ ps. slice_get ps line) phases) ∙ here);
    }

  module _ {owns : ℕ → R → Type 0} where
    keeps : (k : ℕ) (g g' : Gate R) {event : machine.Event R} {answer : machine.Answer R} → GateAt m k g → IsGateOf lines g' → Steps owns g event answer g' → HappensAt m k event → Keeps lines m k g g'
    keeps k g g' at ok (finds_moved l at_l m') there = phase_kept k g g' at ok l Turned there refl refl refl (λ e. cc)
    keeps k g g' at ok (finds_closed l at_l m' c) there = phase_kept k g g' at ok l Turned there refl refl refl (λ e. cc)
    keeps k g g' at ok (goes_in l r at_l m' c home) there = phase_kept k g g' at ok l Inside there refl refl refl (λ _. m')
    keeps k g g' at ok (goes_out l r at_l own) there = phase_kept k g g' at ok l Out there refl refl refl (λ e. cc)
    keeps k g g' at ok (turns_back l at_l) there = phase_kept k g g' at ok l Out there refl refl refl (λ e. cc)
    keeps k g g' at ok retires there = absurd there
    keeps k g g' at ok closes there = lines_kept k g g' at ok refl refl (λ older. absurd (omega (arith, there))) (λ h. absurd (true≢false h))
    keeps k g g' at ok _ there = lines_kept k g g' at ok refl refl (λ _. refl) (λ h. h)

    pub at_gate_kept : (k : ℕ) (g g' : Gate R) {event : machine.Event R} {answer : machine.Answer R} → GateAt m k g → HappensAt m k event → Steps owns g event answer g' → IsMailbox end lines (with_gate m k g')
    at_gate_kept k g g' at there step =
        gate_written k g g' at (keeps k g g' at (after lines g (is.each_gate k g at) g' step) step there)

-- ==== A mailbox after an envelope was put in or taken out.

-- where a pop may happen
record MayPop {R : Type 0} (m : Mailbox R) (k : ℕ) : Type 0 where
  before : (older : ℕ) (p : Queue) → QueueAt m older p → older < k → p.held ≡ []
  nobody : (older line : ℕ) (g : Gate R) → GateAt m older g → older < k → ¬ IsAt g line Inside
  shut : (last : ℕ) (g : Gate R) → IsNewest m last → GateAt m last g → g.closed ≡ false → ¬ (m.taker < k)

module _ {R : Type 0} (end lines : ℕ) (m : Mailbox R) (is : IsMailbox end lines m) where
  pub pushed_kept : (k : ℕ) (g : Gate R) (q : Queue) (v : Envelope) → StandsAt m v.line.0 k → GateAt m k g → IsAt g v.line.0 Inside → QueueAt m k q → MayPush end k lines q v → IsMailbox end lines (with_queue m k (pushed q v))
  pushed_kept k g q v stands at_g inside at_q may = record {
    queues = length-set m.queues k (pushed q v) ∙ is.queues;
    stands = is.stands;
    stands_within = is.stands_within;
    taker_within = is.taker_within;
    each_gate = is.each_gate;
    each_queue = at_written m.queues k (pushed q v) (λ j u. IsQueue end j lines u) (after_push end k lines q v may (is.each_queue k q at_q)) (λ j u _ there. is.each_queue j u there);
    retired = is.retired;
    newest = is.newest;
    out_elsewhere = is.out_elsewhere;
    nothing_put_ahead = λ line place j u there found later. at_written m.queues k (pushed q v) (λ i w. place < i → w.put line ≡ [])
        (λ behind.
        let other : v.line.0 ≢ line = λ same. let here : k ≡ place = got_same_at m.stands v.line.0 line k place same stands there in omega arith in
        ap (λ b. cond b (q.put line ++ v ∷ []) (q.put line)) (ne_eqb v.line.0 line other) ∙ is.nothing_put_ahead line place k q there at_q behind)
        (λ i w _ at behind. is.nothing_put_ahead line place i w there at behind) j u found later;
    inside_from_taker = is.inside_from_taker;
    nothing_got_ahead = λ line j newer f u at_f here there later. at_written m.queues k (pushed q v) (λ i w. j < i → w.got ≡ [])
        (λ behind. is.nothing_got_ahead line j k f q at_f here at_q behind)
        (λ i w _ at behind. is.nothing_got_ahead line j i f w at_f here at behind) newer u there later;
    nothing_held_before = at_written m.queues k (pushed q v) (λ j u. j < m.taker → u.held ≡ [])
        (λ low. let high = is.inside_from_taker v.line.0 k g at_g inside in absurd (omega arith))
        (λ j u _ there low. is.nothing_held_before j u there low);
    in_turn = pairs_written m.queues k (pushed q v) (λ p u. (p.held ≡ []) ⊎ (u.got ≡ []))
        (λ j u there later. inr (is.nothing_got_ahead v.line.0 k j g u at_g inside there later))
        (λ j p there later. is.in_turn j k p q there at_q later)
        is.in_turn;
    nothing_got_while_open = λ j last f u newest at_f shut there later. at_written m.queues k (pushed q v) (λ i w. m.taker < i → w.got ≡ [])
        (λ behind. is.nothing_got_while_open k last f q newest at_f shut at_q behind)
        (λ i w _ at behind. is.nothing_got_while_open i last f w newest at_f shut at behind) j u there later;
  }

  popped_kept : (k : ℕ) (q : Queue) (v : Envelope) → MayPop m k → QueueAt m k q → HoldsFirst q v → IsMailbox end lines (with_queue m k (taken_out q v))
  popped_kept k q v may at_q first =
      let rest : Queue = taken_out q v in record {
        queues = length-set m.queues k rest ∙ is.queues;
        stands = is.stands;
        stands_within = is.stands_within;
        taker_within = is.taker_within;
        each_gate = is.each_gate;
        each_queue = at_written m.queues k rest (λ j u. IsQueue end j lines u) (queue_taken q v end k lines first (is.each_queue k q at_q)) (λ j u _ there. is.each_queue j u there);
        retired = is.retired;
        newest = is.newest;
        out_elsewhere = is.out_elsewhere;
        nothing_put_ahead = λ line place j u there found later. at_written m.queues k rest (λ i w. place < i → w.put line ≡ [])
            (λ behind. is.nothing_put_ahead line place k q there at_q behind)
            (λ i w _ at behind. is.nothing_put_ahead line place i w there at behind) j u found later;
        inside_from_taker = is.inside_from_taker;
        nothing_got_ahead = λ line j newer f u at_f here there later. at_written m.queues k rest (λ i w. j < i → w.got ≡ [])
            (λ behind. absurd (may.nobody j line f at_f behind here))
            (λ i w _ at behind. is.nothing_got_ahead line j i f w at_f here at behind) newer u there later;
        nothing_held_before = at_written m.queues k rest (λ j u. j < m.taker → u.held ≡ [])
            (λ low. absurd (some_held q v first (is.nothing_held_before k q at_q low)))
            (λ j u _ there low. is.nothing_held_before j u there low);
        in_turn = pairs_written m.queues k rest (λ p u. (p.held ≡ []) ⊎ (u.got ≡ []))
            (λ j u there later. ⊎_elim (λ none. absurd (some_held q v first none)) (λ none. inr none) (is.in_turn k j q u at_q there later))
            (λ j p there later. inl (may.before j p there later))
            is.in_turn;
        nothing_got_while_open = λ j last f u newest at_f shut there later. at_written m.queues k rest (λ i w. m.taker < i → w.got ≡ [])
            (λ behind. absurd (may.shut last f newest at_f shut behind))
            (λ i w _ at behind. is.nothing_got_while_open i last f w newest at_f shut at behind) j u there later;
      }

  pub taken_kept : (q : Queue) (v : Envelope) → QueueAt m m.taker q → HoldsFirst q v → IsMailbox end lines (with_queue m m.taker (taken_out q v))
  taken_kept q v at_q first = popped_kept m.taker q v (record {
    before = λ older p at low. is.nothing_held_before older p at low;
    nobody = λ older line g at low here. let high = is.inside_from_taker line older g at here in omega arith;
    shut = λ last g newest at shut later. omega arith;
  }) at_q first

  pub swept_kept : (k : ℕ) (q : Queue) (v : Envelope) → MaySweep m k → QueueAt m k q → HoldsFirst q v → IsMailbox end lines (with_queue m k (taken_out q v))
  swept_kept k q v may at_q first = popped_kept k q v (record {
    before = λ older p at low. ⊎_elim
        (λ low. is.nothing_held_before older p at low)
        (λ high.
        let s : HoldsNothing m older = may.nothing older high low in
        let same : s.queue ≡ p = got_same m.queues older s.queue p s.is_queue at in
        ap (λ (u : Queue). u.held) (sym same) ∙ none_held s.queue s.nothing)
        (cases_lt older m.taker);
    nobody = λ older line g at low here. ⊎_elim
        (λ lower. let high = is.inside_from_taker line older g at here in omega arith)
        (λ high.
        let s : IsSettled m older = may.settled older high (omega arith) in
        let same : g ≡ s.gate = got_same m.gates older g s.gate at s.is_gate in
        nobody_left lines s.gate (is.each_gate older s.gate s.is_gate) s.left line (ap (λ (f : Gate R). slice_get f.phases line) (sym same) ∙ here))
        (cases_lt older m.taker);
    shut = λ last g newest at shut later.
        let place : may.newest ≡ last = let n = may.is_newest in omega arith in
        let same : may.gate ≡ g = got_same_at m.gates may.newest last may.gate g place may.is_gate at in
        true≢false (sym may.closed ∙ ap (λ (f : Gate R). f.closed) same ∙ shut);
  }) at_q first

-- ==== The laws of mailboxes.

module _ {R : Type 0} {owns : ℕ → ℕ → R → Type 0} (end lines : ℕ) where
  pub step_kept : (m after : Mailbox R) {event : MailboxEvent R} → IsMailbox end lines m → MailboxStep owns end lines m event after → IsMailbox end lines after
  step_kept m after is (gate_steps k g g' event answer at there step) = at_gate_kept end lines m is k g g' at there step
  step_kept m after is (pushes k g q v stands at_g inside at_q may) = pushed_kept end lines m is k g q v stands at_g inside at_q may
  step_kept m after is (takes q v at_q first) = taken_kept end lines m is q v at_q first
  step_kept m after is (sweeps k q v may at_q first) = swept_kept end lines m is k q v may at_q first
  step_kept m after is (finds_none k q at_q none) = is
  step_kept m after is (hops line k g stands older at_g out) = hopped_kept end lines m is line k g stands older at_g out
  step_kept m after is (advances older settled nothing) = advanced_kept end lines m is older settled nothing
  step_kept m after is (adds k g g' rights newest at open_yet step many own) = added_kept end lines m is k g g' rights newest at open_yet step many

  pub step_grows : (m after : Mailbox R) {event : MailboxEvent R} → IsMailbox end lines m → MailboxStep owns end lines m event after → Grows m (put_in event) (got_in event) after
  step_grows m after is (pushes k g q v stands at_g inside at_q may) = push_grows end lines m is k q v stands at_q
  step_grows m after is (takes q v at_q first) = pop_grows end lines m is m.taker q v at_q first
  step_grows m after is (sweeps k q v may at_q first) = pop_grows end lines m is k q v at_q first
  step_grows m after is (adds k g g' rights newest at open_yet step many own) = new_grows m after refl
  step_grows m after is _ = same_grows m after refl

pub chain_laws : {R : Type 0} → ChainLaws R
chain_laws = record {
  opened = new_kept;
  step = λ owns end lines m after event step is. step_kept end lines m after is step;
  pops = pop_takes;
  grows = λ owns end lines m after event step is. step_grows end lines m after is step;
  chain = chain;
  drained = drained;
}
