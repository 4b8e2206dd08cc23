-- The pairs that are events of queues: what is put there and taken out, looks, and sweeps.
use Rattle.std.proofs.Common.{◌≡◌, ◌≢◌, ℕ, zero, suc, ◌<◌, Bool, true, eqb, List, [], ◌∷◌, ◌++◌, length, refl, sym, ap, subst, ◌∙◌, arith, append-nil, append_assoc, Some, None, ◌⊎◌, ◌+◌, ◌-◌, ◌≤◌, ◌&&◌, false, true≢false, cond, map, inl, inr, ⊎_elim, not, ltb, lt-ltb, Option}
use Rattle.hub_core.proofs.Words.{slice_get, flat_map, filter, AllByRecursion, append_cancel_left, filter-append, recursion_from_All, Envelope, EndId, Inside, Sender, Acceptance, Facts, named_envelope, named_notice, lines_of, by, in_queue, count_in_queue, phase_of_line, Queue, IsNamed, MayPush, is_some, pushed, pop_of, Mailbox, QueueAt, put_by, got_from, IsMailbox, push, pop, MailboxStep, pushes, takes, finds_none, HoldsFirst, taken_out, with_queue, HoldsNothing, OneRight, IsNext, sum_by, MatchBool, false≢true, not-true, not-false, and_parts, or_parts, eqb-true}
use Rattle.hub_core.proofs.Words.{eq-eqb, cases_eq, cases_lt, or_cases, or_left, or_right, length-map, sum_by-cons, Phase, Out, is_out, is_away_at, someone_at, is_settled, all_settled, FitsSweep, Sound, Gate, weight, busy, is_shut, IsAt, with_none, is_busy, gives, IsGateOf, GateAt, StandsAt, at_gate, gate_steps, with_gate, IsSettled, busy_at, rights_of, finds_busy, unsettled, IsAllWaiting, IsOfEnd, popped, MailboxEvent, sweeps, MaySweep, sweeping}
use Rattle.hub_core.proofs.Items.{eqb_same, AllByRecursion-weaker, set_again, is_out_of, slice_get-set_same, slice_get-set_other, none_got, some_is, got_there, got_within, got_same}
use Rattle.hub_core.proofs.Waits.{all_kept, filters, queue_more, all_of_queue, none_of_queue, all_front, first_of, left_same}
use Rattle.hub_core.proofs.Nexts.{Pushed, Noticed, any_of, none_of_any, FirstFailing, first_failing_of, LooksAt, Clears, FindsBusy, looked_where, SweptWith, each_of}
use Rattle.hub_core.proofs.SoundLines.{MayPut, message_may, notice_may, LinesAt, by_more, inside_of}
use Rattle.hub_core.proofs.MailboxStepping.{nothing_joined, step_kept}
use Rattle.hub_core.proofs.Totals.{filter_both, nothing_there, queues_from, joined_from, prefixes_pass, nothing_more}
use Rattle.hub_core.proofs.MailboxShown.{view, ShownAt, IsShown, HasRight, Leads, one_step, event_grows, Standing, standing, queue_shown, clear_shown, Runs}
use Rattle.hub_core.specs.declared.step.Outcome.TheVariants as outcome
use Rattle.hub_core.specs.GateMachine as machine
use Rattle.hub_core.proofs.Gating.{weight_le, prove_gate_machine_laws}

-- ==== The pairs that are events of a queue: a Push or a Notice that was accepted, and a pop, which finds an envelope or none.

-- ---- what was put in a queue and taken out of it, by what was put and taken at the end

-- what is joined of one queue where the others have nothing
module _ (f : Queue → List Envelope) where
  only_one : (qs : List Queue) (k : ℕ) (q : Queue) → slice_get qs k ≡ Some q → ((j : ℕ) (u : Queue) → j ≢ k → slice_get qs j ≡ Some u → f u ≡ []) → flat_map f qs ≡ f q
  only_one [] k q at none = none_got q at
  only_one (p ∷ qs) zero q at none =
      ap (λ us. f p ++ us) (nothing_joined f qs (λ j u there. none (suc j) u (λ same. absurd (omega arith)) there)) ∙ append-nil (f p) ∙ ap f (some_is p q at)
  only_one (p ∷ qs) (suc k) q at none =
      ap (λ us. us ++ flat_map f qs) (none zero p (λ same. absurd (omega arith)) refl) ∙ only_one qs k q at (λ j u other there. none (suc j) u (λ same. other (omega arith)) there)

joined_filter : (p : Envelope → Bool) (f : Queue → List Envelope) (qs : List Queue) → filter p (flat_map f qs) ≡ flat_map (λ q. filter p (f q)) qs
joined_filter p f [] = refl
joined_filter p f (q ∷ qs) = filter-append p (f q) (flat_map f qs) ∙ ap (λ us. filter p (f q) ++ us) (joined_filter p f qs)

-- of what is joined, the envelopes of a queue are those that it has
in_joined : (f : Queue → List Envelope) (qs : List Queue) (k : ℕ) (q : Queue) → slice_get qs k ≡ Some q → ((j : ℕ) (u : Queue) → slice_get qs j ≡ Some u → AllByRecursion (λ (v : Envelope). v.epoch ≡ j) (f u)) → in_queue k (flat_map f qs) ≡ f q
in_joined f qs k q at each =
    joined_filter (λ v. eqb v.epoch k) f qs
    ∙ only_one (λ u. in_queue k (f u)) qs k q at (λ j u other there. none_of_queue (λ (v : Envelope). v.epoch ≡ j) k (f u) (λ v is same. other (sym is ∙ same)) (each j u there))
    ∙ all_of_queue k (f q) (each k q at)

module _ (e n : ℕ) (m : Mailbox OneRight) (is : IsMailbox e n m) where
  -- the envelopes of a queue bear its epoch
  of_epoch : (k : ℕ) (q : Queue) → QueueAt m k q → AllByRecursion (λ (v : Envelope). v.epoch ≡ k) (q.got ++ q.held)
  of_epoch k q at = AllByRecursion-weaker (IsNamed e k n) (λ v. v.epoch ≡ k) (λ v named. named.epoch) (q.got ++ q.held) (recursion_from_All (IsNamed e k n) (q.got ++ q.held) (is.each_queue k q at).named)

  pub put_epochs : (line k : ℕ) (q : Queue) → QueueAt m k q → AllByRecursion (λ (v : Envelope). v.epoch ≡ k) (q.put line)
  put_epochs line k q at = subst (AllByRecursion (λ (v : Envelope). v.epoch ≡ k)) ((is.each_queue k q at).put line) (all_kept (λ (v : Envelope). v.epoch ≡ k) _ (q.got ++ q.held) (of_epoch k q at))

  pub got_epochs : (k : ℕ) (q : Queue) → QueueAt m k q → AllByRecursion (λ (v : Envelope). v.epoch ≡ k) q.got
  got_epochs k q at = all_front (λ (v : Envelope). v.epoch ≡ k) q.got q.held (of_epoch k q at)

  pub put_there : (line k : ℕ) (q : Queue) → QueueAt m k q → in_queue k (put_by m line) ≡ q.put line
  put_there line k q at = in_joined (λ u. u.put line) m.queues k q at (put_epochs line)

  pub got_there_in : (k : ℕ) (q : Queue) → QueueAt m k q → in_queue k (got_from m) ≡ q.got
  got_there_in k q at = in_joined (λ u. u.got) m.queues k q at got_epochs

  -- line by line a queue holds what was put there and not taken out
  pub held_there : (k l : ℕ) (q : Queue) (ws : List Envelope) → QueueAt m k q → in_queue k (put_by m l) ≡ in_queue k (by l (got_from m)) ++ ws → by l q.held ≡ ws
  held_there k l q ws at left = append_cancel_left (by l q.got) (by l q.held) ws
      (sym (filter-append _ q.got q.held) ∙ (is.each_queue k q at).put l ∙ sym (put_there l k q at) ∙ left ∙ ap (λ us. us ++ ws) (filters _ _ (got_from m) ∙ ap (by l) (got_there_in k q at)))

  -- a queue holds nothing once, line by line, everything that was put there was taken out
  pub holds_nothing : (k : ℕ) → k < length m.gates → ((l : ℕ) → in_queue k (by l (got_from m)) ≡ in_queue k (put_by m l)) → HoldsNothing m k
  holds_nothing k within all =
      let many : length m.queues ≡ length m.gates = is.queues in
      let there = got_there m.queues k (omega arith) in
      let q : Queue = there.0 in
      record { queue = q; is_queue = there.1; nothing = ap (pop_of q) (nothing_there q.held (λ l. held_there k l q [] there.1 (sym (all l) ∙ sym (append-nil (in_queue k (by l (got_from m))))))) }

-- ---- Push and Notice

-- an envelope that may be put on its line is a push
accepted_there : (f : Facts) (s : Sender) (v : Envelope) (m : Mailbox OneRight) → ShownAt f s.end.0 m → MayPut f s v
    → Leads s.end.0 (lines_of (f.end s.end.0).kind) m (push v ∷ []) (record (view f s.end.0) { accepted = f.accepted s.end.0 ++ v ∷ [] })
accepted_there f s v m is p =
    let e : ℕ = s.end.0 in
    let l : ℕ = v.line.0 in
    let k : ℕ = (f.line e l).stand in
    let lines : ℕ = lines_of (f.end e).kind in
    let low : l < lines = subst (λ i. i < lines) (sym p.line) p.there in
    let y : Standing lines m l (f.line e l).stand (f.line e l).phase = standing e (view f e) m is l low in
    let within : k < length m.gates = is.is_mailbox.stands_within l k y.stands in
    let many : length m.queues ≡ length m.gates = is.is_mailbox.queues in
    let there = got_there m.queues k (omega arith) in
    let q : Queue = there.0 in
    let after : Mailbox OneRight = with_queue m k (pushed q v) in
    let counted_there : count_in_queue l k (f.accepted e) ≡ length (q.put l) = ap length (sym (filter_both (λ v. eqb v.line.0 l) (λ v. eqb v.epoch k) (f.accepted e))) ∙ ap (λ us. length (in_queue k us)) (sym (is.put l)) ∙ ap length (put_there e lines m is.is_mailbox l k q there.1) in
    let number : v.number ≡ length (q.put l) = p.number ∙ ap (λ i. count_in_queue i (f.line e i).stand (f.accepted e)) (sym p.line) ∙ counted_there in
    let epoch : v.epoch ≡ k = p.epoch ∙ ap (λ i. (f.line e i).stand) (sym p.line) in
    let may : MayPush e k lines q v = record { named = record { end = p.end; epoch = epoch; line = low }; number = number } in
    let inside : (f.line e l).phase ≡ Inside = ap (λ i. (f.line e i).phase) p.line ∙ inside_of (phase_of_line f s) p.inside in
    let step : MailboxStep HasRight e lines m (push v) after = pushes k y.gate q v y.stands y.is_gate (y.phase ∙ ap Some inside) there.1 may in
    one_step e lines m after (push v) _ step
    (subst (λ vs. IsShown e (record (view f e) { accepted = f.accepted e ++ v ∷ []; removed = vs }) after) (append-nil (f.taken e ++ f.discarded e))
    (queue_shown e (view f e) m is k (pushed q v) (v ∷ []) [] (step_kept e lines m after is.is_mailbox step) (event_grows e lines m after _ is.is_mailbox step)))

pub pushed_there : (f : Facts) (s : Sender) (ports : List EndId) (body : List ℕ) (n : Acceptance) (m : Mailbox OneRight) → ShownAt f s.end.0 m → LinesAt f s.end.0 → Pushed f s ports n
    → Leads s.end.0 (lines_of (f.end s.end.0).kind) m (push (named_envelope s n body ports) ∷ []) (record (view f s.end.0) { accepted = f.accepted s.end.0 ++ named_envelope s n body ports ∷ [] })
pushed_there f s ports body n m is lines_at p = accepted_there f s (named_envelope s n body ports) m is (message_may f s ports body n lines_at p)

-- a mailbox doesn't show which lines put a notice
pub noticed_there : (f : Facts) (s : Sender) (n : Acceptance) (m : Mailbox OneRight) → ShownAt f s.end.0 m → Noticed f s n
    → Leads s.end.0 (lines_of (f.end s.end.0).kind) m (push (named_notice s n) ∷ []) (record (view f s.end.0) { accepted = f.accepted s.end.0 ++ named_notice s n ∷ [] })
noticed_there f s n m is p = accepted_there f s (named_notice s n) m is (notice_may f s n p)

-- line by line a queue holds what was accepted there and neither taken nor discarded
pub held_of : (f : Facts) (e : ℕ) (m : Mailbox OneRight) → ShownAt f e m → (k l : ℕ) (q : Queue) (ws : List Envelope) → QueueAt m k q → in_queue k (by l (f.accepted e)) ≡ in_queue k (by l (f.taken e ++ f.discarded e)) ++ ws → by l q.held ≡ ws
held_of f e m is k l q ws at left = held_there e (lines_of (f.end e).kind) m is.is_mailbox k l q ws at (ap (in_queue k) (is.put l) ∙ left ∙ ap (λ us. in_queue k (by l us) ++ ws) (sym is.got))

-- ---- pops at the taker's queue

-- the next of its line is held first of its line, where nothing was discarded
next_held : (f : Facts) (x : EndId) (m : Mailbox OneRight) (v : Envelope) (q : Queue) → ShownAt f x.0 m → f.discarded x.0 ≡ [] → IsNext f x v → QueueAt m m.taker q → HoldsFirst q v
next_held f x m v q is kept next at =
    let l : ℕ = v.line.0 in
    let t : ℕ = (f.end x.0).taker_stand in
    let taken : List Envelope = by l (f.taken x.0) in
    let rest : List Envelope = in_queue t next.order.0 in
    let whole : in_queue t (by l (f.accepted x.0)) ≡ in_queue t (taken ++ v ∷ []) ++ rest =
    ap (in_queue t) (next.order.1 ∙ ap (λ us. us ++ next.order.0) (by_more l (f.taken x.0) v true (eqb_same l))) ∙ filter-append _ (taken ++ v ∷ []) next.order.0
    in
    let removed : by l (f.taken x.0 ++ f.discarded x.0) ≡ taken = ap (λ us. by l (f.taken x.0 ++ us)) kept ∙ ap (by l) (append-nil (f.taken x.0)) in (
      rest,
      held_of f x.0 m is t l q (v ∷ rest) (subst (λ k. QueueAt m k q) is.taker_at at)
          (whole ∙ ap (λ us. us ++ rest) (queue_more t taken v next.epoch) ∙ append_assoc (in_queue t taken) (v ∷ []) rest ∙ ap (λ us. in_queue t us ++ (v ∷ rest)) (sym removed)),
    )

-- one that finds an envelope
pub taken_there : (f : Facts) (x : EndId) (m : Mailbox OneRight) (v : Envelope) → ShownAt f x.0 m → f.discarded x.0 ≡ [] → IsNext f x v
    → Leads x.0 (lines_of (f.end x.0).kind) m (pop (f.end x.0).taker_stand (Some v) ∷ []) (record (view f x.0) { removed = (f.taken x.0 ++ v ∷ []) ++ f.discarded x.0 })
taken_there f x m v is kept next =
    let e : ℕ = x.0 in
    let lines : ℕ = lines_of (f.end e).kind in
    let within : m.taker < length m.gates = is.is_mailbox.taker_within in
    let many : length m.queues ≡ length m.gates = is.is_mailbox.queues in
    let there = got_there m.queues m.taker (omega arith) in
    let q : Queue = there.0 in
    let after : Mailbox OneRight = with_queue m m.taker (taken_out q v) in
    let step : MailboxStep HasRight e lines m (pop m.taker (Some v)) after = takes q v there.1 (next_held f x m v q is kept next there.1) in
    let last : (f.taken e ++ f.discarded e) ++ v ∷ [] ≡ (f.taken e ++ v ∷ []) ++ f.discarded e =
    ap (λ us. (f.taken e ++ us) ++ v ∷ []) kept ∙ ap (λ us. us ++ v ∷ []) (append-nil (f.taken e)) ∙ sym (append-nil (f.taken e ++ v ∷ [])) ∙ ap (λ us. (f.taken e ++ v ∷ []) ++ us) (sym kept)
    in
    let grown : IsShown e (record (view f e) { accepted = f.accepted e ++ []; removed = (f.taken e ++ f.discarded e) ++ v ∷ [] }) after =
    queue_shown e (view f e) m is m.taker (taken_out q v) [] (v ∷ []) (step_kept e lines m after is.is_mailbox step) (event_grows e lines m after _ is.is_mailbox step)
    in
    subst (λ k. Leads e lines m (pop k (Some v) ∷ []) (record (view f e) { removed = (f.taken e ++ v ∷ []) ++ f.discarded e })) is.taker_at
    (one_step e lines m after (pop m.taker (Some v)) (record (view f e) { removed = (f.taken e ++ v ∷ []) ++ f.discarded e }) step
    (subst (λ us. IsShown e (record (view f e) { accepted = us; removed = (f.taken e ++ v ∷ []) ++ f.discarded e }) after) (append-nil (f.accepted e))
    (subst (λ us. IsShown e (record (view f e) { accepted = f.accepted e ++ []; removed = us }) after) last grown)))

-- the taker's queue, where everything that was accepted there was taken
pub taken_all : (f : Facts) (e : ℕ) (m : Mailbox OneRight) → ShownAt f e m → f.discarded e ≡ [] → ((l : ℕ) → in_queue (f.end e).taker_stand (by l (f.taken e)) ≡ in_queue (f.end e).taker_stand (by l (f.accepted e))) → HoldsNothing m m.taker
taken_all f e m is kept all =
    let t : ℕ = (f.end e).taker_stand in
    holds_nothing e (lines_of (f.end e).kind) m is.is_mailbox m.taker is.is_mailbox.taker_within (λ l.
    let got : got_from m ≡ f.taken e = is.got ∙ ap (λ us. f.taken e ++ us) kept ∙ append-nil (f.taken e) in
    ap (λ k. in_queue k (by l (got_from m))) is.taker_at ∙ ap (λ us. in_queue t (by l us)) got ∙ all l ∙ sym (ap (in_queue t) (is.put l)) ∙ sym (ap (λ k. in_queue k (put_by m l)) is.taker_at))

-- one that finds none
pub none_there : (f : Facts) (e : ℕ) (m : Mailbox OneRight) → ShownAt f e m → HoldsNothing m m.taker → MailboxStep HasRight e (lines_of (f.end e).kind) m (pop (f.end e).taker_stand None) m
none_there f e m is nothing = subst (λ k. MailboxStep HasRight e (lines_of (f.end e).kind) m (pop k None) m) is.taker_at (finds_none m.taker nothing.queue nothing.is_queue nothing.nothing)

-- ==== Who is at a gate, and the pairs that are looks: at a queue where somebody is, and at one that becomes clear.

-- ---- counts

heavy : (p : Phase) → is_out p ≡ false → 0 < weight p
heavy Out h = absurd (false≢true (sym h))
heavy _ h = omega arith

all_out : (ps : List Phase) → ((l : ℕ) (p : Phase) → slice_get ps l ≡ Some p → p ≡ Out) → sum_by weight ps ≡ 0
all_out [] out = refl
all_out (p ∷ ps) out =
    let first : weight p ≡ 0 = ap weight (out zero p refl) in
    let rest : sum_by weight ps ≡ 0 = all_out ps (λ l q there. out (suc l) q there) in
    omega (arith, sum_by-cons weight p ps)

-- a line that stands at the queue, and isn't away there
out_where : (out here : Bool) → here ≡ true → (not out && here) ≡ false → out ≡ true
out_where true here at away = refl
out_where false here at away = absurd (false≢true (sym away ∙ at))

-- there is one list of so many rights
same_rights : (xs ys : List OneRight) → length xs ≡ length ys → xs ≡ ys
same_rights [] [] same = refl
same_rights (x ∷ xs) (y ∷ ys) same = ap (λ zs. tt ∷ zs) (same_rights xs ys (omega arith))
same_rights _ _ same = absurd (omega arith)

-- ---- a Sweep that finds somebody

pub record SweepsBusy (f : Facts) (x : ℕ) : Type 0 where
  pub is_closed : (f.end x).closed ≡ true
  pub queue : ℕ
  pub is_unsettled : unsettled f x ≡ Some queue
  pub looks : FirstFailing (is_settled f x) (f.end x).taker_stand ((f.end x).newest - (f.end x).taker_stand + 1) queue

busy_when : (closed settled : Bool) → MatchBool closed (MatchBool settled ⊥ (outcome.Busy ≡ outcome.Busy)) (outcome.Busy ≡ outcome.NotNow) → (closed ≡ true) × (settled ≡ false)
busy_when true true h = absurd h
busy_when true false h = (refl, refl)
busy_when false settled h = cc

found_one : (q : Option ℕ) → not (is_some q) ≡ false → (k : ℕ) × (q ≡ Some k)
found_one None h = absurd (true≢false h)
found_one (Some k) h = (k, refl)

pub sweep_busy_of : (f : Facts) (e : EndId) → FitsSweep f e outcome.Busy → SweepsBusy f e.0
sweep_busy_of f e h =
    let r = busy_when (f.end e.0).closed (all_settled f e.0) h in
    let found = found_one (unsettled f e.0) r.1 in
    record { is_closed = r.0; queue = found.0; is_unsettled = found.1; looks = first_failing_of (is_settled f e.0) _ _ found.0 found.1 }

-- ---- who is at a gate

module _ (f : Facts) (e : ℕ) (m : Mailbox OneRight) (is : ShownAt f e m) where
  abbrev lines : ℕ
  lines = lines_of (f.end e).kind

  module _ (k : ℕ) (g : Gate OneRight) (at : GateAt m k g) where
    somebody_there : someone_at f e k ≡ true → 0 < busy g
    somebody_there some =
        let away = any_of (λ l. is_away_at k (f.line e l)) lines some in
        let l : ℕ = away.0 in
        let both = and_parts (not (is_out (f.line e l).phase)) (eqb (f.line e l).stand k) away.2 in
        let y : Standing lines m l (f.line e l).stand (f.line e l).phase = standing e (view f e) m is l away.1 in
        let same : (f.line e l).stand ≡ k = eqb-true (f.line e l).stand k both.1 in
        let one : y.gate ≡ g = got_same m.gates k y.gate g (subst (λ j. GateAt m j y.gate) same y.is_gate) at in
        let there : IsAt g l (f.line e l).phase = subst (λ (u : Gate OneRight). IsAt u l (f.line e l).phase) one y.phase in
        let least : weight (f.line e l).phase ≤ busy g = weight_le g.phases l (f.line e l).phase there in
        let more : 0 < weight (f.line e l).phase = heavy (f.line e l).phase (not-true (is_out (f.line e l).phase) both.0) in
        omega arith

    out_at : (l : ℕ) (p : Phase) → someone_at f e k ≡ false → IsAt g l p → p ≡ Out
    out_at l p none there =
        let count : length g.phases ≡ lines = (is.is_mailbox.each_gate k g at).phases in
        let within : l < length g.phases = got_within g.phases l p there in
        let low : l < lines = omega arith in
        let y : Standing lines m l (f.line e l).stand (f.line e l).phase = standing e (view f e) m is l low in
        let away : is_away_at k (f.line e l) ≡ false = none_of_any (λ i. is_away_at k (f.line e i)) lines l none low in
        ⊎_elim
        (λ same.
        let here : IsAt g l (f.line e l).phase = is.phases l k g (subst (λ j. StandsAt m l j) same y.stands) at in
        let out : (f.line e l).phase ≡ Out = is_out_of (f.line e l).phase (out_where (is_out (f.line e l).phase) (eqb (f.line e l).stand k) (eq-eqb (f.line e l).stand k same) away) in
        some_is p Out (sym there ∙ here ∙ ap Some out))
        (λ other. some_is p Out (sym there ∙ is.is_mailbox.out_elsewhere l (f.line e l).stand k g y.stands at (λ same. other (sym same))))
        (cases_eq (f.line e l).stand k)

    nobody_there : someone_at f e k ≡ false → busy g ≡ 0
    nobody_there none = all_out g.phases (λ l p there. out_at l p none there)

  -- the gate of a retired queue, and the newest one of a closed end, are shut
  shut_there : (k : ℕ) (g : Gate OneRight) → GateAt m k g → (k < (f.end e).newest) ⊎ ((k ≡ (f.end e).newest) × ((f.end e).closed ≡ true)) → is_shut g ≡ true
  shut_there k g at which =
      let count : length m.gates ≡ (f.end e).newest + 1 = is.gates in ⊎_elim
      (λ older. or_left g.moved g.closed (is.is_mailbox.retired k g at (omega arith)).0)
      (λ last. let same : k ≡ (f.end e).newest = last.0 in or_right g.moved g.closed ((is.flags k g (omega arith) at).1 ∙ last.1))
      which

  -- a settled queue
  pub settled_there : (k : ℕ) → k < length m.gates → is_settled f e k ≡ true → IsSettled m k
  settled_there k within settled =
      let gate = got_there m.gates k within in
      record {
        gate = gate.0;
        is_gate = gate.1;
        left = ⊎_elim
            (λ clear. inl (is.given k gate.0 gate.1 ∙ clear))
            (λ none. inr (nobody_there k gate.0 gate.1 (not-true (someone_at f e k) none)))
            (or_cases (f.clear e k) (not (someone_at f e k)) settled);
      }

  -- a look that finds somebody at a shut gate leaves it
  pub busy_there : (k : ℕ) → k < length m.gates → (k < (f.end e).newest) ⊎ ((k ≡ (f.end e).newest) × ((f.end e).closed ≡ true)) → f.clear e k ≡ false → someone_at f e k ≡ true → MailboxStep HasRight e lines m (finds_busy m k) m
  busy_there k within which unclear some =
      let gate = got_there m.gates k within in
      let g : Gate OneRight = gate.0 in
      let told : busy_at (slice_get m.gates k) ≡ busy g = ap busy_at gate.1 in
      let same : with_gate m k g ≡ m = ap (λ gs. record m { gates = gs }) (set_again m.gates k g gate.1) in
      let step : MailboxStep HasRight e lines m (at_gate k machine.look (machine.says_inside (busy g))) (with_gate m k g) =
      gate_steps k g g machine.look (machine.says_inside (busy g)) gate.1 tt (is_busy (is.given k g gate.1 ∙ unclear) (shut_there k g gate.1 which) (somebody_there k g gate.1 some))
      in
      subst (λ n. MailboxStep HasRight e lines m (at_gate k machine.look (machine.says_inside n)) m) (sym told)
      (subst (λ after. MailboxStep HasRight e lines m (at_gate k machine.look (machine.says_inside (busy g))) after) same step)

  -- ---- Look

  looks_where : (k : ℕ) → Sound f → LooksAt f e k → (k < (f.end e).newest) ⊎ ((k ≡ (f.end e).newest) × ((f.end e).closed ≡ true))
  looks_where k sound looks = looked_where (f.end e).taker_stand (f.end e).newest k (f.end e).closed ((sound.lines e).taker_stand) looks.below

  looks_within : (k : ℕ) → (k < (f.end e).newest) ⊎ ((k ≡ (f.end e).newest) × ((f.end e).closed ≡ true)) → k < length m.gates
  looks_within k which =
      let count : length m.gates ≡ (f.end e).newest + 1 = is.gates in ⊎_elim
      (λ older. omega arith)
      (λ last. let same : k ≡ (f.end e).newest = last.0 in omega arith)
      which

  pub look_busy_there : Sound f → (b : FindsBusy f e) → MailboxStep HasRight e lines m (finds_busy m b.queue) m
  look_busy_there sound b =
      let which = looks_where b.queue sound b.looks in
      busy_there b.queue (looks_within b.queue which) which b.looks.unclear b.somebody

  -- ---- Sweep

  pub sweep_busy_there : Sound f → (b : SweepsBusy f e) → MailboxStep HasRight e lines m (finds_busy m b.queue) m
  sweep_busy_there sound b =
      let k : ℕ = b.queue in
      let neither = or_parts (f.clear e k) (not (someone_at f e k)) b.looks.unclear in
      let below : k < (f.end e).taker_stand + ((f.end e).newest - (f.end e).taker_stand + 1) = b.looks.below in
      let taker : (f.end e).taker_stand ≤ (f.end e).newest = (sound.lines e).taker_stand in
      let which = ⊎_elim (λ older. inl older) (λ from. inr (let last : k ≡ (f.end e).newest = omega arith in last, b.is_closed)) (cases_lt k (f.end e).newest) in
      busy_there k (looks_within k which) which neither.0 (not-false (someone_at f e k) neither.1)

  pub cleared_there : (k : ℕ) → Sound f → Clears f e k → Leads e lines m (at_gate k machine.look (machine.gives_rights (rights_of m)) ∷ []) (record (view f e) { clear = λ i. cond (eqb i k) true (f.clear e i) })
  cleared_there k sound clears =
      let which = looks_where k sound clears.looks in
      let gate = got_there m.gates k (looks_within k which) in
      let g : Gate OneRight = gate.0 in
      let ok : IsGateOf lines g = is.is_mailbox.each_gate k g gate.1 in
      let kept : g.collected ≡ false = is.given k g gate.1 ∙ clears.looks.unclear in
      let none : busy g ≡ 0 = nobody_there k g gate.1 clears.nobody in
      let all = prove_gate_machine_laws.whole lines g ok kept none in
      let many : length (rights_of m) ≡ lines = length-map m.stands (λ (_ : ℕ). tt) ∙ is.is_mailbox.stands in
      let rights : all.0 ≡ rights_of m = same_rights all.0 (rights_of m) (all.1 ∙ sym many) in
      let step : MailboxStep HasRight e lines m (at_gate k machine.look (machine.gives_rights (rights_of m))) (with_gate m k (with_none g)) =
      gate_steps k g (with_none g) machine.look (machine.gives_rights (rights_of m)) gate.1 tt
      (gives (rights_of m) kept (shut_there k g gate.1 which) none (all.2 ∙ ap (map Some) rights))
      in
      one_step e lines m (with_gate m k (with_none g)) _ _ step
      (clear_shown e (view f e) m is k g (with_none g) gate.1 refl refl refl refl (step_kept e lines m (with_gate m k (with_none g)) is.is_mailbox step))

-- ==== A Sweep as pops at each queue from the taker's to the newest, until none is found.

-- what was accepted at an end is of queues up to the newest
accepted_below : (f : Facts) (e : ℕ) → Sound f → AllByRecursion (λ (v : Envelope). ltb v.epoch ((f.end e).newest + 1) ≡ true) (f.accepted e)
accepted_below f e sound =
    AllByRecursion-weaker (IsOfEnd e (lines_of (f.end e).kind) (f.line e)) (λ v. ltb v.epoch ((f.end e).newest + 1) ≡ true) (λ v is.
    let low : v.epoch ≤ (f.line e v.line.0).stand = is.epoch in
    let stand : (f.line e v.line.0).stand ≤ (f.end e).newest = (sound.lines e).stand v.line.0 in
    lt-ltb v.epoch ((f.end e).newest + 1) (omega arith)) (f.accepted e) (sound.lines e).named

module _ (f : Facts) (e : ℕ) (vs : List Envelope) where
  abbrev line_count : ℕ
  line_count = lines_of (f.end e).kind

  abbrev taker : ℕ
  taker = (f.end e).taker_stand

  abbrev newest : ℕ
  newest = (f.end e).newest

  abbrev removed : List Envelope
  removed = f.taken e ++ f.discarded e

  -- how many queues there are from the taker's on
  abbrev many : ℕ
  many = newest - taker + 1

  -- ---- the envelopes, queue by queue

  module _ (sound : Sound f) (all : IsAllWaiting f e vs) where
    -- behind the taker nothing waits
    none_behind : (j : ℕ) → j < taker → in_queue j vs ≡ []
    none_behind j less = nothing_there (in_queue j vs) (λ l.
        let whole : by l (f.accepted e) ≡ by l (f.taken e) ++ (by l (f.discarded e) ++ by l vs) =
        sym (all.all l) ∙ filter-append _ removed vs ∙ ap (λ us. us ++ by l vs) (filter-append _ (f.taken e) (f.discarded e)) ∙ append_assoc (by l (f.taken e)) (by l (f.discarded e)) (by l vs)
        in
        let front : List Envelope = in_queue j (by l (f.taken e)) in
        let rest : in_queue j (by l (f.discarded e) ++ by l vs) ≡ [] =
        nothing_more front (in_queue j (by l (f.discarded e) ++ by l vs)) (sym (filter-append _ (by l (f.taken e)) (by l (f.discarded e) ++ by l vs)) ∙ ap (in_queue j) (sym whole) ∙ sym ((sound.waiting e).behind l j less))
        in
        filters _ _ vs ∙ last_nothing (in_queue j (by l (f.discarded e))) (in_queue j (by l vs)) (sym (filter-append _ (by l (f.discarded e)) (by l vs)) ∙ rest))
      where
        last_nothing : (us ws : List Envelope) → us ++ ws ≡ [] → ws ≡ []
        last_nothing [] ws h = h
        last_nothing (u ∷ us) ws h = cc

    -- nothing waits past the newest queue
    none_past_newest : filter (λ (v : Envelope). ltb v.epoch (newest + 1)) vs ≡ vs
    none_past_newest =
        let test : Envelope → Bool = λ v. ltb v.epoch (newest + 1) in
        let whole : filter test (removed ++ vs) ≡ removed ++ vs =
        prefixes_pass test (removed ++ vs) (f.accepted e) (λ l. ([], sym (all.all l) ∙ sym (append-nil (by l (removed ++ vs))))) (accepted_below f e sound)
        in
        let front : filter test removed ≡ removed = prefixes_pass test removed (f.accepted e) (sound.waiting e).prefix (accepted_below f e sound) in
        append_cancel_left removed (filter test vs) vs (ap (λ us. us ++ filter test vs) (sym front) ∙ sym (filter-append test removed vs) ∙ whole)

    -- what waits is what the queues from the taker's to the newest hold
    all_queues : queues_from taker many vs ≡ vs
    all_queues =
        let within : taker ≤ newest = (sound.lines e).taker_stand in
        let bound : newest + 1 ≡ taker + many = omega arith in
        joined_from many taker vs all.rises none_behind (ap (λ n. filter (λ (v : Envelope). ltb v.epoch n) vs) (sym bound) ∙ none_past_newest)

  -- ---- the pops

  -- The mailbox in a sweep: so much was removed, the queues before k were popped until none was found, and the queues
  -- from some queue on hold what they held.
  record Sweeping (gone : List Envelope) (k untouched : ℕ) (m : Mailbox OneRight) : Type 0 where
    shown : IsShown e (record (view f e) { removed = gone }) m
    settled : (j : ℕ) → taker ≤ j → j ≤ newest → IsSettled m j
    nothing : (j : ℕ) → taker ≤ j → j < k → HoldsNothing m j
    ahead : (j : ℕ) (q : Queue) → untouched ≤ j → QueueAt m j q → (l : ℕ) → by l q.held ≡ by l (in_queue j vs)

  -- the pops at the queue k lead to a mailbox from which the sweep goes on
  abbrev Drains : List Envelope → ℕ → Mailbox OneRight → List Envelope → Type 0
  Drains gone k m ws = (after : Mailbox OneRight) × Sweeping (gone ++ ws) (k + 1) (k + 1) after × ((events : List (MailboxEvent OneRight)) (last : Mailbox OneRight) → Runs e line_count after events last → Runs e line_count m (map (λ v. pop k (Some v)) ws ++ (pop k None ∷ events)) last)

  module _ (closed : (f.end e).closed ≡ true) where
    may_sweep : (gone : List Envelope) (k untouched : ℕ) (m : Mailbox OneRight) → Sweeping gone k untouched m → taker ≤ k → k ≤ newest → MaySweep m k
    may_sweep gone k untouched m s from within =
        let count : length m.gates ≡ newest + 1 = s.shown.gates in
        let place : m.taker ≡ taker = s.shown.taker_at in
        let gate = got_there m.gates newest (omega arith) in
        record {
          newest = newest;
          gate = gate.0;
          is_newest = sym count;
          is_gate = gate.1;
          closed = (s.shown.flags newest gate.0 (sym count) gate.1).1 ∙ closed;
          from = omega arith;
          settled = λ j low high. s.settled j (omega arith) (omega arith);
          nothing = λ j low less. s.nothing j (omega arith) less;
        }

    -- one envelope is popped
    popped_one : (gone : List Envelope) (k : ℕ) (m : Mailbox OneRight) (rest : Queue) (v : Envelope) → Sweeping gone k (k + 1) m → MailboxStep HasRight e line_count m (pop k (Some v)) (with_queue m k rest) → Sweeping (gone ++ v ∷ []) k (k + 1) (with_queue m k rest)
    popped_one gone k m rest v s step = record {
      shown = subst (λ us. IsShown e (record (view f e) { accepted = us; removed = gone ++ v ∷ [] }) (with_queue m k rest)) (append-nil (f.accepted e))
          (queue_shown e (record (view f e) { removed = gone }) m s.shown k rest [] (v ∷ []) (step_kept e line_count m (with_queue m k rest) s.shown.is_mailbox step) (event_grows e line_count m (with_queue m k rest) _ s.shown.is_mailbox step));
      settled = λ j low high. let old = s.settled j low high in record { gate = old.gate; is_gate = old.is_gate; left = old.left };
      nothing = λ j low less.
          let old : HoldsNothing m j = s.nothing j low less in
          record { queue = old.queue; is_queue = slice_get-set_other m.queues k j rest (λ same. absurd (omega arith)) ∙ old.is_queue; nothing = old.nothing };
      ahead = λ j u later there. s.ahead j u later (sym (slice_get-set_other m.queues k j rest (λ same. absurd (omega arith))) ∙ there);
    }

    -- the queue k holds nothing any more
    queue_done : (gone : List Envelope) (k : ℕ) (m : Mailbox OneRight) → Sweeping gone k (k + 1) m → HoldsNothing m k → Sweeping gone (k + 1) (k + 1) m
    queue_done gone k m s none = record {
      shown = s.shown;
      settled = s.settled;
      nothing = λ j low less. ⊎_elim
          (λ same. subst (HoldsNothing m) (sym same) none)
          (λ other. s.nothing j low (omega arith))
          (cases_eq j k);
      ahead = s.ahead;
    }

    drained : (ws gone : List Envelope) (k : ℕ) (m : Mailbox OneRight) (q : Queue) → Sweeping gone k (k + 1) m → taker ≤ k → k ≤ newest → QueueAt m k q → ((l : ℕ) → by l q.held ≡ by l ws) → Drains gone k m ws
    drained [] gone k m q s from within at held =
        let none : popped q ≡ None = ap (pop_of q) (nothing_there q.held held) in (
          m,
          subst (λ us. Sweeping us (k + 1) (k + 1) m) (sym (append-nil gone)) (queue_done gone k m s (record { queue = q; is_queue = at; nothing = none })),
          (λ events last runs. (m, finds_none k q at none, runs)),
        )
    drained (v ∷ ws) gone k m q s from within at held =
        let rest : Queue = taken_out q v in
        let after : Mailbox OneRight = with_queue m k rest in
        let step : MailboxStep HasRight e line_count m (pop k (Some v)) after = sweeps k q v (may_sweep gone k (k + 1) m s from within) at (first_of q v ws held) in
        let there : QueueAt after k rest = slice_get-set_same m.queues k rest (got_within m.queues k q at) in
        let more : Drains (gone ++ v ∷ []) k after ws = drained ws (gone ++ v ∷ []) k after rest (popped_one gone k m rest v s step) from within there (left_same q v ws held) in
        (more.0, subst (λ us. Sweeping us (k + 1) (k + 1) more.0) (append_assoc gone (v ∷ []) ws) more.1, (λ events last runs. (after, step, more.2 events last runs)))

    -- the queues from k on
    swept_from : (n k : ℕ) (gone : List Envelope) (m : Mailbox OneRight) → k + n ≡ newest + 1 → taker ≤ k → Sweeping gone k k m → Leads e line_count m (sweeping vs k n) (record (view f e) { removed = gone ++ queues_from k n vs })
    swept_from zero k gone m count from s = (m, refl, subst (λ us. IsShown e (record (view f e) { removed = us }) m) (sym (append-nil gone)) s.shown)
    swept_from (suc n) k gone m count from s =
        let gates : length m.gates ≡ newest + 1 = s.shown.gates in
        let queues : length m.queues ≡ length m.gates = s.shown.is_mailbox.queues in
        let there = got_there m.queues k (omega arith) in
        let mid : Sweeping gone k (k + 1) m = record { shown = s.shown; settled = s.settled; nothing = s.nothing; ahead = λ j q later at. s.ahead j q (omega arith) at } in
        let here : Drains gone k m (in_queue k vs) = drained (in_queue k vs) gone k m there.0 mid from (omega arith) there.1 (s.ahead k there.0 (omega arith) there.1) in
        let rest : Leads e line_count here.0 (sweeping vs (k + 1) n) (record (view f e) { removed = (gone ++ in_queue k vs) ++ queues_from (k + 1) n vs }) =
        swept_from n (k + 1) (gone ++ in_queue k vs) here.0 (omega arith) (omega arith) here.1
        in (
          rest.0,
          here.2 (sweeping vs (k + 1) n) rest.0 rest.1,
          subst (λ us. IsShown e (record (view f e) { removed = us }) rest.0) (append_assoc gone (in_queue k vs) (queues_from (k + 1) n vs)) rest.2,
        )

-- a Sweep pops all that waits
pub swept_there : (f : Facts) (x : EndId) (m : Mailbox OneRight) (vs : List Envelope) → ShownAt f x.0 m → Sound f → SweptWith f x vs
    → Leads x.0 (lines_of (f.end x.0).kind) m (sweeping vs (f.end x.0).taker_stand ((f.end x.0).newest - (f.end x.0).taker_stand + 1)) (record (view f x.0) { removed = f.taken x.0 ++ (f.discarded x.0 ++ vs) })
swept_there f x m vs is sound s =
    let e : ℕ = x.0 in
    let t : ℕ = (f.end e).taker_stand in
    let n : ℕ = (f.end e).newest - t + 1 in
    let within : t ≤ (f.end e).newest = (sound.lines e).taker_stand in
    let count : length m.gates ≡ (f.end e).newest + 1 = is.gates in
    let place : m.taker ≡ t = is.taker_at in
    let first : Sweeping f e vs (f.taken e ++ f.discarded e) t t m = record {
      shown = is;
      settled = λ j low high. settled_there f e m is j (omega arith) (each_of (is_settled f e) t n s.settled j low (omega arith));
      nothing = λ j low less. absurd (omega arith);
      ahead = λ j q from at l. held_of f e m is j l q (by l (in_queue j vs)) at
          (ap (in_queue j) (sym (s.all.all l) ∙ filter-append _ (f.taken e ++ f.discarded e) vs) ∙ filter-append _ (by l (f.taken e ++ f.discarded e)) (by l vs)
          ∙ ap (λ us. in_queue j (by l (f.taken e ++ f.discarded e)) ++ us) (filters _ _ vs));
    } in
    let last : (f.taken e ++ f.discarded e) ++ queues_from t n vs ≡ f.taken e ++ (f.discarded e ++ vs) =
    ap (λ us. (f.taken e ++ f.discarded e) ++ us) (all_queues f e vs sound s.all) ∙ append_assoc (f.taken e) (f.discarded e) vs
    in
    subst (λ us. Leads e (lines_of (f.end e).kind) m (sweeping vs t n) (record (view f e) { removed = us })) last
    (swept_from f e vs s.is_closed n t (f.taken e ++ f.discarded e) m (omega arith) (omega arith) first)
