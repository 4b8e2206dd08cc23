-- The mailbox of an end goes on by the events of each pair that fits.
use Rattle.std.proofs.Common.{Bool, List, None, Option, Some, [], ap, arith, cond, eqb, false, inl, length, not, refl, subst, sym, true, ℕ, ◌&&◌, ◌++◌, ◌+◌, ◌-◌, ◌<◌, ◌∷◌, ◌≡◌, ◌≤◌, set, ◌∙◌, append_assoc, append-nil, length-set, length-append, zero, suc, map, replicate, ⊎_elim, ne_eqb}
use Rattle.hub_core.proofs.Words.{Action, Answers, Client, EndId, Facts, FitsSweep, FitsTake, HoldsNothing, Inside, IsDrained, IsLeft, IsSettled, Kind, Mailbox, MailboxEvent, Member, OneRight, Out, Outcome, Port, Sound, Turned, Worker, add, advance, at_gate, close, enable, enter, eqb-true, Serves, found_at, events_of, finds_busy, finds_busy_at, gives_rights, hop, in_queue, kind_after, leaving, lets_in, lines_of, look, looked, named_envelope, named_notice, not-false, opened, or_parts, pop, push, rights_of, says_closed, says_done, says_moved, someone_at}
use Rattle.hub_core.proofs.Words.{sweeping, unsettled, flat_map, slice_get, get_or_from_slice_get, append_cancel_left, filter-append, Envelope, Prefix, Gate, Steps, finds_moved, Queue, new_queue, pushed, QueueAt, got_from, IsMailbox, put_in, got_in, MailboxStep, gate_steps, pushes, takes, sweeps, finds_none, hops, advances, adds, HoldsFirst, without_first, taken_out, with_gate, with_queue, with_stand, with_new, Happen, gate_after, with_gate_after, with_queue_after, after_event, after_events, false≢true, false_from_ne_true, flat_map-append}
use Rattle.hub_core.proofs.Words.{length-replicate, Phase, EndNow, LineNow, accepted_by, ends_after, by, no_end, no_line, IsAt, new_mailbox, first_mailbox, made_as, after_pair, eq-eqb, cases_eq}
use Rattle.hub_core.specs.Taking.{look_answer}
use Rattle.hub_core.specs.declared.step.Action.TheVariants as action
use Rattle.hub_core.specs.declared.step.Outcome.TheVariants as outcome
use Rattle.hub_core.proofs.Nexts.{FindsBusy, adopted_of, cleared_of, got_of, hopped_of, look_busy_of, noticed_of, pushed_of, swept_of, went_on_of, served_of, new_ends, queue_made_of, member_made_of, next, accepted_one}
use Rattle.hub_core.proofs.MailboxShown.{IsShown, Leads, ShownAt, View, at_end_or, view, HasRight, Runs}
use Rattle.hub_core.proofs.PairGates.{closed_there, entered, left_line, started_there, turned_closed, turned_moved, with_line, adopted_there, hopped_there, went_on_there, with_next, with_queue_new, with_taker_at}
use Rattle.hub_core.proofs.PairQueues.{SweepsBusy, busy_there, cleared_there, look_busy_there, settled_there, sweep_busy_of, sweep_busy_there, none_there, noticed_there, pushed_there, taken_all, taken_there, swept_there, got_there_in}
use Rattle.hub_core.specs.GateMachine as machine
use Rattle.hub_core.proofs.Items.{eqb_same, slice_get-set_same, got_within, at_written, at_pushed, got_of-map}
use Rattle.hub_core.proofs.Waits.{queue_more, queue_other, some_held}
use Rattle.hub_core.proofs.MailboxStepping.{step_grows, step_kept, chain_laws, only, opened_out}
use Rattle.hub_core.proofs.Speakers.{nothing_accepted, nothing_removed}

-- ==== Each pair of a history is events of the mailbox of an end, or leaves it.

-- an end that the pair doesn't make
not_made : (b : Bool) (k : Kind) (q : Option Kind) → cond b (Some k) q ≡ None → (b ≡ false) × (q ≡ None)
not_made true k q is = cc
not_made false k q is = (refl, is)

module _ (f : Facts) (e : ℕ) (m : Mailbox OneRight) (sound : Sound f) (shown : ShownAt f e m) where
  abbrev lines : ℕ → ℕ
  lines y = lines_of (f.end y).kind

  -- what is proved for the end of the step holds for this end where it is the same, and another end stays
  at_step : (x : ℕ) (events : ℕ → List (MailboxEvent OneRight)) (w : ℕ → Bool → View) → IsShown e (w e false) m → (ShownAt f x m → Leads x (lines x) m (events x) (w x true)) → Leads e (lines e) m (cond (eqb e x) (events e) []) (w e (eqb e x))
  at_step x events w still there = at_end_or e (lines e) m (events e) (w e) (eqb e x) still
      (λ here. subst (λ y. ShownAt f y m → Leads y (lines y) m (events y) (w y true)) (sym (eqb-true e x here)) there shown)

  -- nothing was discarded at an open end
  none_discarded : (x : ℕ) → (f.end x).closed ≡ false → f.discarded x ≡ []
  none_discarded x opened = (sound.waiting x).kept opened

  made_channel : (x y : EndId) → cond (eqb e x.0) (Some (Port y)) (cond (eqb e y.0) (Some (Port x)) None) ≡ None
      → IsShown e (record (view f e) { kind = cond (eqb e x.0) (Some (Port y)) (cond (eqb e y.0) (Some (Port x)) (f.end e).kind) }) m
  made_channel x y none =
      let first = not_made (eqb e x.0) (Port y) (cond (eqb e y.0) (Some (Port x)) None) none in
      let second = not_made (eqb e y.0) (Port x) None first.1 in
      subst (λ b. IsShown e (record (view f e) { kind = cond b (Some (Port y)) (cond (eqb e y.0) (Some (Port x)) (f.end e).kind) }) m) (sym first.0)
      (subst (λ b. IsShown e (record (view f e) { kind = cond b (Some (Port x)) (f.end e).kind }) m) (sym second.0) shown)

  made_queue : (x : EndId) (k : Kind) → cond (eqb e x.0) (Some k) None ≡ None → IsShown e (record (view f e) { kind = cond (eqb e x.0) (Some k) (f.end e).kind }) m
  made_queue x k none = subst (λ b. IsShown e (record (view f e) { kind = cond b (Some k) (f.end e).kind }) m) (sym (not_made (eqb e x.0) k None none).0) shown

  -- ---- takes that find no envelope

  -- a retired queue, from which everything was taken
  left_all : (x : EndId) → ShownAt f x.0 m → (f.end x.0).closed ≡ false → IsLeft f x → HoldsNothing m m.taker
  left_all x there opened empty = taken_all f x.0 m there (none_discarded x.0 opened) empty.all

  -- the events after a pop that found none
  pop_first : (x : ℕ) (events : List (MailboxEvent OneRight)) (w : View) → ShownAt f x m → HoldsNothing m m.taker → Leads x (lines x) m events w → Leads x (lines x) m (pop (f.end x).taker_stand None ∷ events) w
  pop_first x events w there nothing done = (done.0, (m, none_there f x m there nothing, done.1), done.2)

  went_on_at : (x : EndId) → FitsTake (Serves f x) f x outcome.Again → ShownAt f x.0 m → Leads x.0 (lines x.0) m (pop (f.end x.0).taker_stand None ∷ advance ∷ []) (with_taker_at f x.0 true)
  went_on_at x fits there =
      let served = went_on_of f x fits in
      let empty : IsLeft f x = served.serves.0 in
      let nothing : HoldsNothing m m.taker = left_all x there served.is_open empty in
      let count : length m.gates ≡ (f.end x.0).newest + 1 = there.gates in
      let retired : (f.end x.0).taker_stand < (f.end x.0).newest = empty.retired in
      let settled : IsSettled m m.taker = subst (IsSettled m) (sym there.taker_at) (settled_there f x.0 m there (f.end x.0).taker_stand (omega arith) served.serves.1) in
      pop_first x.0 (advance ∷ []) (with_taker_at f x.0 true) there nothing (went_on_there f x.0 m there retired settled nothing)

  empty_at : (x : EndId) → FitsTake (Serves f x) f x outcome.Empty → ShownAt f x.0 m → Leads x.0 (lines x.0) m (pop (f.end x.0).taker_stand None ∷ []) (view f x.0)
  empty_at x fits there =
      let served = served_of f x outcome.Empty (λ is. cc) (λ is. cc) (λ is. cc) fits in
      let all : IsDrained f x = served.serves in
      let nothing : HoldsNothing m m.taker = taken_all f x.0 m there (none_discarded x.0 served.is_open) (λ l. ap (in_queue (f.end x.0).taker_stand) (all.all l)) in
      pop_first x.0 [] (view f x.0) there nothing (m, refl, there)

  busy_at_taker : (x : EndId) → FitsTake (Serves f x) f x outcome.Busy → ShownAt f x.0 m → Leads x.0 (lines x.0) m (finds_busy m (f.end x.0).taker_stand ∷ pop (f.end x.0).taker_stand None ∷ []) (view f x.0)
  busy_at_taker x fits there =
      let served = served_of f x outcome.Busy (λ is. cc) (λ is. cc) (λ is. cc) fits in
      let empty : IsLeft f x = served.serves.0 in
      let t : ℕ = (f.end x.0).taker_stand in
      let count : length m.gates ≡ (f.end x.0).newest + 1 = there.gates in
      let retired : t < (f.end x.0).newest = empty.retired in
      let neither = or_parts (f.clear x.0 t) (not (someone_at f x.0 t)) served.serves.1 in
      let look_step = busy_there f x.0 m there t (omega arith) (inl retired) neither.0 (not-false (someone_at f x.0 t) neither.1) in
      (m, (m, look_step, (m, none_there f x.0 m there (left_all x there served.is_open empty), refl)), there)

  looked_busy_at : (x : EndId) → outcome.Busy ≡ look_answer (found_at (someone_at f x.0) (looked f x.0)) f x → ShownAt f x.0 m → Leads x.0 (lines x.0) m (finds_busy_at m (looked f x.0)) (view f x.0)
  looked_busy_at x fits there =
      let busy : FindsBusy f x.0 = look_busy_of f x fits in
      subst (λ o. Leads x.0 (lines x.0) m (finds_busy_at m o) (view f x.0)) (sym busy.is_looked) (m, (m, look_busy_there f x.0 m there sound busy, refl), there)

  swept_busy_at : (x : EndId) → FitsSweep f x outcome.Busy → ShownAt f x.0 m → Leads x.0 (lines x.0) m (finds_busy_at m (unsettled f x.0)) (view f x.0)
  swept_busy_at x fits there =
      let busy : SweepsBusy f x.0 = sweep_busy_of f x fits in
      subst (λ o. Leads x.0 (lines x.0) m (finds_busy_at m o) (view f x.0)) (sym busy.is_unsettled) (m, (m, sweep_busy_there f x.0 m there sound busy, refl), there)

  -- ---- all pairs

  -- a pair that doesn't make the end
  pub goes : (refused : Bool) (o : Outcome) (a : Action) → Answers f a refused o → kind_after e None o a ≡ None → Leads e (lines e) m (events_of f e m o a) (view (next f a o) e)
  goes refused (outcome.Ends x y) (action.Channel a) fits made = (m, refl, made_channel x y made)
  goes refused (outcome.End x) (action.Client a) fits made = (m, refl, made_queue x Client made)
  goes refused (outcome.End x) (action.Worker a) fits made = (m, refl, made_queue x Worker made)
  goes refused (outcome.End x) (action.Member a name) fits made = (m, refl, made_queue x (Member a) made)
  goes refused outcome.In (action.Enter s) fits made =
      at_step s.end.0 (λ y. at_gate (f.line y s.line.0).stand (enter s.line.0) (lets_in tt) ∷ []) (λ y. with_line f y s.line.0 Inside) shown (λ there. entered f s m there (sound.lines s.end.0) fits)
  goes refused outcome.Moved (action.Enter s) fits made =
      at_step s.end.0 (λ y. at_gate (f.line y s.line.0).stand (enter s.line.0) says_moved ∷ []) (λ y. with_line f y s.line.0 Turned) shown (λ there. turned_moved f s m there (sound.lines s.end.0) fits)
  goes refused outcome.Closed (action.Enter s) fits made =
      at_step s.end.0 (λ y. at_gate (f.line y s.line.0).stand (enter s.line.0) says_closed ∷ []) (λ y. with_line f y s.line.0 Turned) shown (λ there. turned_closed f s m there (sound.lines s.end.0) fits)
  goes refused (outcome.Accepted n) (action.Push s ports body) fits made =
      at_step s.end.0 (λ y. push (named_envelope s n body ports) ∷ [])
      (λ y b. record (view f y) { accepted = cond b (f.accepted y ++ named_envelope s n body ports ∷ []) (f.accepted y) }) shown
      (λ there. pushed_there f s ports body n m there (sound.lines s.end.0) (pushed_of f s ports body refused n fits))
  goes refused (outcome.Accepted n) (action.Notice s) fits made =
      at_step s.end.0 (λ y. push (named_notice s n) ∷ []) (λ y b. record (view f y) { accepted = cond b (f.accepted y ++ named_notice s n ∷ []) (f.accepted y) }) shown
      (λ there. noticed_there f s n m there (noticed_of f s refused n fits))
  goes refused outcome.Left (action.Leave s) fits made =
      at_step s.end.0 (λ y. leaving m (f.line y s.line.0).stand s.line.0 (f.line y s.line.0).phase ∷ []) (λ y. with_line f y s.line.0 Out) shown (λ there. left_line f s m there sound fits)
  goes refused (outcome.Hopped k) (action.Hop s) fits made =
      let may = hopped_of f s k fits in
      at_step s.end.0 (λ y. hop s.line.0 ∷ []) (λ y. with_next f y s.line.0) shown (λ there. hopped_there f s m there (sound.lines s.end.0) may.may may.out may.retired)
  goes refused outcome.Started (action.Start x) fits made =
      at_step x.0 (λ y. at_gate (f.end y).newest enable says_done ∷ []) (λ y b. record (view f y) { enabled = cond b true (f.end y).enabled }) shown (λ there. started_there f x.0 m there)
  goes refused (outcome.Got v) (action.Take x) fits made =
      let served = got_of f x v fits in
      at_step x.0 (λ y. pop (f.end y).taker_stand (Some v) ∷ []) (λ y b. record (view f y) { removed = cond b (f.taken y ++ v ∷ []) (f.taken y) ++ f.discarded y }) shown
      (λ there. taken_there f x m v there (none_discarded x.0 served.is_open) served.serves)
  goes refused outcome.Again (action.Take x) fits made =
      at_step x.0 (λ y. pop (f.end y).taker_stand None ∷ advance ∷ []) (λ y. with_taker_at f y) shown (λ there. went_on_at x fits there)
  goes refused (outcome.Clear (Some k)) (action.Look x) fits made =
      at_step x.0 (λ y. at_gate k look (gives_rights (rights_of m)) ∷ []) (λ y b. record (view f y) { clear = λ i. cond (b && eqb i k) true (f.clear y i) }) shown
      (λ there. cleared_there f x.0 m there k sound (cleared_of f x k fits))
  goes refused (outcome.Adopted k) (action.Adopt x a) fits made =
      at_step x.0 (λ y. add (rights_of m) ∷ []) (λ y. with_queue_new f y) shown
      (λ there. adopted_there f x.0 m there sound (adopted_of f x a refused k fits).is_open)
  goes refused outcome.Done (action.Close x) fits made =
      at_step x.0 (λ y. at_gate (f.end y).newest close says_done ∷ []) (λ y b. record (view f y) { closed = cond b true (f.end y).closed }) shown (λ there. closed_there f x.0 m there)
  goes refused (outcome.Discarded vs) (action.Sweep x) fits made =
      at_step x.0 (λ y. sweeping vs (f.end y).taker_stand ((f.end y).newest - (f.end y).taker_stand + 1)) (λ y b. record (view f y) { removed = f.taken y ++ cond b (f.discarded y ++ vs) (f.discarded y) }) shown
      (λ there. swept_there f x m vs there sound (swept_of f x vs fits))
  goes refused outcome.Empty (action.Take x) fits made =
      at_step x.0 (λ y. pop (f.end y).taker_stand None ∷ []) (λ y _. view f y) shown (λ there. empty_at x fits there)
  goes refused outcome.Busy (action.Take x) fits made =
      at_step x.0 (λ y. finds_busy m (f.end y).taker_stand ∷ pop (f.end y).taker_stand None ∷ []) (λ y _. view f y) shown (λ there. busy_at_taker x fits there)
  goes refused outcome.Busy (action.Look x) fits made =
      at_step x.0 (λ y. finds_busy_at m (looked f y)) (λ y _. view f y) shown (λ there. looked_busy_at x fits there)
  goes refused outcome.Busy (action.Sweep x) fits made =
      at_step x.0 (λ y. finds_busy_at m (unsettled f y)) (λ y _. view f y) shown (λ there. swept_busy_at x fits there)
  goes refused o a fits made = (m, refl, shown)

-- ==== Events of a mailbox, one after another: what they lead to is one, and they keep its queues in order.

-- ---- what an event leads to is one

gate_one : {R : Type 0} {owns : ℕ → R → Type 0} (g g' : Gate R) {event : machine.Event R} {answer : machine.Answer R} → Steps owns g event answer g' → g' ≡ gate_after g event answer
gate_one g g' (finds_moved l out moved) = refl
gate_one g g' _ = refl

module _ {R : Type 0} {owns : ℕ → ℕ → R → Type 0} {end lines : ℕ} where
  step_one : (m after : Mailbox R) {event : MailboxEvent R} → MailboxStep owns end lines m event after → after ≡ after_event m event
  step_one m after (gate_steps k g g' event answer at there step) = ap (with_gate m k) (gate_one g g' step ∙ ap (λ u. gate_after u event answer) (sym (get_or_from_slice_get m.gates k g (opened []) at)))
  step_one m after (pushes k g q v stands at_g inside at_q may) =
      ap (λ u. with_queue m k (pushed u v)) (sym (get_or_from_slice_get m.queues k q new_queue at_q)) ∙ ap (λ j. with_queue_after m j (λ u. pushed u v)) (sym may.named.epoch)
  step_one m after (takes q v at_q first) = ap (λ u. with_queue m m.taker (taken_out u v)) (sym (get_or_from_slice_get m.queues m.taker q new_queue at_q))
  step_one m after (sweeps k q v may at_q first) = ap (λ u. with_queue m k (taken_out u v)) (sym (get_or_from_slice_get m.queues k q new_queue at_q))
  step_one m after (finds_none k q at_q none) = refl
  step_one m after (hops line k g stands older at_g out) = ap (λ j. with_stand m line (j + 1)) (sym (get_or_from_slice_get m.stands line k 0 stands))
  step_one m after (advances older settled nothing) = refl
  step_one m after (adds k g g' rights newest at open_yet step many own) =
      let last : k ≡ length m.gates - 1 = omega arith in
      ap (λ u. with_new (with_gate m k u) rights) (gate_one g g' step ∙ ap (λ u. gate_after u machine.retire machine.says_done) (sym (get_or_from_slice_get m.gates k g (opened []) at)))
      ∙ ap (λ j. with_new (with_gate_after m j machine.retire machine.says_done) rights) last

-- what the events put in, and what they take out
abbrev pub puts : List (MailboxEvent OneRight) → List Envelope
puts events = flat_map put_in events

abbrev gots : List (MailboxEvent OneRight) → List Envelope
gots events = flat_map got_in events

module _ (e lines : ℕ) where
  pub runs_one : (events : List (MailboxEvent OneRight)) (m after : Mailbox OneRight) → Runs e lines m events after → after ≡ after_events m events
  runs_one [] m after is = is
  runs_one (event ∷ events) m after r = runs_one events r.0 after r.2 ∙ ap (λ b. after_events b events) (step_one m r.0 r.1)

  pub runs_happen : (events : List (MailboxEvent OneRight)) (m after : Mailbox OneRight) → Runs e lines m events after → Happen e lines m events
  runs_happen [] m after is = tt
  runs_happen (event ∷ events) m after r =
      let same : r.0 ≡ after_event m event = step_one m r.0 r.1 in
      (subst (MailboxStep HasRight e lines m event) same r.1, subst (λ b. Happen e lines b events) same (runs_happen events r.0 after r.2))

  pub runs_joined : (events more : List (MailboxEvent OneRight)) (m between after : Mailbox OneRight) → Runs e lines m events between → Runs e lines between more after → Runs e lines m (events ++ more) after
  runs_joined [] more m between after is rest = subst (λ b. Runs e lines b more after) is rest
  runs_joined (event ∷ events) more m between after r rest = (r.0, r.1, runs_joined events more r.0 between after r.2 rest)

  pub runs_kept : (events : List (MailboxEvent OneRight)) (m after : Mailbox OneRight) → IsMailbox e lines m → Runs e lines m events after → IsMailbox e lines after
  runs_kept [] m after is same = subst (IsMailbox e lines) (sym same) is
  runs_kept (event ∷ events) m after is r = runs_kept events r.0 after (step_kept e lines m r.0 is r.1) r.2

  runs_got : (events : List (MailboxEvent OneRight)) (m after : Mailbox OneRight) → IsMailbox e lines m → Runs e lines m events after → got_from after ≡ got_from m ++ gots events
  runs_got [] m after is same = ap got_from same ∙ sym (append-nil (got_from m))
  runs_got (event ∷ events) m after is r =
      runs_got events r.0 after (step_kept e lines m r.0 is r.1) r.2 ∙ ap (λ us. us ++ gots events) (step_grows e lines m r.0 is r.1).gots ∙ append_assoc (got_from m) (got_in event) (gots events)

  -- ---- queues in order

  -- queue by queue, what was taken out and what is held are these envelopes in their order
  pub record Ordered (vs : List Envelope) (m : Mailbox OneRight) : Type 0 where
    pub each : (k : ℕ) (q : Queue) → QueueAt m k q → in_queue k vs ≡ q.got ++ q.held
    pub past : (k : ℕ) → length m.queues ≤ k → in_queue k vs ≡ []

  -- where what is held begins with the envelope that is taken out, the others are left in their order
  front_taken : (q : Queue) (v : Envelope) (us ws : List Envelope) → HoldsFirst q v → q.held ++ us ≡ v ∷ ws → q.held ≡ v ∷ without_first v.line.0 q.held
  front_taken q v us ws first is = cases q.held refl
    where
      cases : (held : List Envelope) → q.held ≡ held → q.held ≡ v ∷ without_first v.line.0 q.held
      cases [] none = absurd (some_held q v first none)
      cases (u ∷ rest) held =
          let begins : u ∷ (rest ++ us) ≡ v ∷ ws = ap (λ hs. hs ++ us) (sym held) ∙ is in
          let same : u ≡ v = cc in
          let here : eqb u.line.0 v.line.0 ≡ true = ap (λ (w : Envelope). eqb w.line.0 v.line.0) same ∙ eqb_same v.line.0 in
          let left : without_first v.line.0 q.held ≡ rest = ap (without_first v.line.0) held ∙ ap (λ b. cond b rest (u ∷ without_first v.line.0 rest)) here in
          held ∙ ap (λ w. w ∷ rest) same ∙ ap (λ hs. v ∷ hs) (sym left)

  module _ (m : Mailbox OneRight) (vs more : List Envelope) (o : Ordered vs m) where
    no_more : (k : ℕ) → in_queue k (vs ++ []) ≡ in_queue k vs
    no_more k = ap (in_queue k) (append-nil vs)

    same_ordered : (after : Mailbox OneRight) → after.queues ≡ m.queues → Ordered (vs ++ []) after
    same_ordered after same = record {
      each = λ k q at. no_more k ∙ o.each k q (ap (λ qs. slice_get qs k) (sym same) ∙ at);
      past = λ k low. no_more k ∙ o.past k (subst (λ qs. length qs ≤ k) same low);
    }

    -- what the queues gave at last is a beginning of what was put there
    abbrev Begins : Mailbox OneRight → Type 0
    Begins after = (k : ℕ) → Prefix (in_queue k (got_from after)) (in_queue k (vs ++ more))

    taken_ordered : (k : ℕ) (q : Queue) (v : Envelope) → IsMailbox e lines (with_queue m k (taken_out q v)) → Begins (with_queue m k (taken_out q v)) → QueueAt m k q → HoldsFirst q v → Ordered (vs ++ []) (with_queue m k (taken_out q v))
    taken_ordered k q v is front at first =
        let there = slice_get-set_same m.queues k (taken_out q v) (got_within m.queues k q at) in
        let r = front k in
        let whole : (q.got ++ q.held) ++ in_queue k more ≡ (q.got ++ v ∷ []) ++ r.0 =
        ap (λ us. us ++ in_queue k more) (sym (o.each k q at)) ∙ sym (filter-append _ vs more) ∙ r.1 ∙ ap (λ us. us ++ r.0) (got_there_in e lines (with_queue m k (taken_out q v)) is k (taken_out q v) there)
        in
        let begins : q.held ++ in_queue k more ≡ v ∷ r.0 =
        append_cancel_left q.got (q.held ++ in_queue k more) (v ∷ r.0) (sym (append_assoc q.got q.held (in_queue k more)) ∙ whole ∙ append_assoc q.got (v ∷ []) r.0)
        in
        let held : q.held ≡ v ∷ without_first v.line.0 q.held = front_taken q v (in_queue k more) r.0 first begins in
        record {
          each = at_written m.queues k (taken_out q v) (λ j u. in_queue j (vs ++ []) ≡ u.got ++ u.held)
              (no_more k ∙ o.each k q at ∙ ap (λ us. q.got ++ us) held ∙ sym (append_assoc q.got (v ∷ []) (without_first v.line.0 q.held)))
              (λ j u _ found. no_more j ∙ o.each j u found);
          past = λ j low. no_more j ∙ o.past j (subst (λ n. n ≤ j) (length-set m.queues k (taken_out q v)) low);
        }

  step_ordered : (m after : Mailbox OneRight) (vs more : List Envelope) → (o : Ordered vs m) → IsMailbox e lines after → Begins m vs more o after → {event : MailboxEvent OneRight} → MailboxStep HasRight e lines m event after → Ordered (vs ++ put_in event) after
  step_ordered m after vs more o is front (gate_steps k g g' event answer at there step) = same_ordered m vs more o after refl
  step_ordered m after vs more o is front (pushes k g q v stands at_g inside at_q may) = record {
    each = at_written m.queues k (pushed q v) (λ j u. in_queue j (vs ++ v ∷ []) ≡ u.got ++ u.held)
        (queue_more k vs v may.named.epoch ∙ ap (λ us. us ++ v ∷ []) (o.each k q at_q) ∙ append_assoc q.got q.held (v ∷ []))
        (λ j u other found. queue_other j vs v (λ same. other (sym same ∙ may.named.epoch)) ∙ o.each j u found);
    past = λ j low.
        let many : length (set m.queues k (pushed q v)) ≡ length m.queues = length-set m.queues k (pushed q v) in
        let within = got_within m.queues k q at_q in
        let epoch : v.epoch ≡ k = may.named.epoch in
        queue_other j vs v (λ same. omega arith) ∙ o.past j (omega arith);
  }
  step_ordered m after vs more o is front (takes q v at_q first) = taken_ordered m vs more o m.taker q v is front at_q first
  step_ordered m after vs more o is front (sweeps k q v may at_q first) = taken_ordered m vs more o k q v is front at_q first
  step_ordered m after vs more o is front (finds_none k q at_q none) = same_ordered m vs more o after refl
  step_ordered m after vs more o is front (hops line k g stands older at_g out) = same_ordered m vs more o after refl
  step_ordered m after vs more o is front (advances older settled nothing) = same_ordered m vs more o after refl
  step_ordered m after vs more o is front (adds k g g' rights newest at open_yet step many own) = record {
    each = at_pushed m.queues new_queue (λ j u. in_queue j (vs ++ []) ≡ u.got ++ u.held) (λ j u found. no_more m vs more o j ∙ o.each j u found) (no_more m vs more o (length m.queues) ∙ o.past (length m.queues) (omega arith));
    past = λ j low.
        let count : length (m.queues ++ new_queue ∷ []) ≡ length m.queues + 1 = length-append m.queues (new_queue ∷ []) in
        no_more m vs more o j ∙ o.past j (omega arith);
  }

  -- Where at last the queues gave a beginning of what was put there, they were in order all the while.
  pub runs_ordered : (events : List (MailboxEvent OneRight)) (m after : Mailbox OneRight) (vs : List Envelope) → IsMailbox e lines m → Runs e lines m events after → Ordered vs m
      → ((k : ℕ) → Prefix (in_queue k (got_from after)) (in_queue k (vs ++ puts events))) → Ordered (vs ++ puts events) after
  runs_ordered [] m after vs is same o front = subst (Ordered (vs ++ [])) (sym same) (subst (λ us. Ordered us m) (sym (append-nil vs)) o)
  runs_ordered (event ∷ events) m after vs is r o front =
      let b : Mailbox OneRight = r.0 in
      let kept : IsMailbox e lines b = step_kept e lines m b is r.1 in
      let begun : (k : ℕ) → Prefix (in_queue k (got_from b)) (in_queue k (vs ++ puts (event ∷ events))) = λ k. (
        in_queue k (gots events) ++ (front k).0,
        (front k).1 ∙ ap (λ us. us ++ (front k).0) (ap (in_queue k) (runs_got events b after kept r.2) ∙ filter-append _ (got_from b) (gots events))
            ∙ append_assoc (in_queue k (got_from b)) (in_queue k (gots events)) (front k).0,
      ) in
      let joined : (vs ++ put_in event) ++ puts events ≡ vs ++ puts (event ∷ events) = append_assoc vs (put_in event) (puts events) in
      subst (λ us. Ordered us after) joined
      (runs_ordered events b after (vs ++ put_in event) kept r.2 (step_ordered m b vs (puts (event ∷ events)) o kept begun r.1)
      (λ k. subst (λ us. Prefix (in_queue k (got_from after)) (in_queue k us)) (sym joined) (front k)))

-- ==== The mailbox of an end goes on by the events of each pair that fits.

-- ---- what the events of a pair put in

none_put : (b : Bool) (events : List (MailboxEvent OneRight)) → puts events ≡ [] → puts (cond b events []) ≡ []
none_put true events none = none
none_put false events none = refl

one_put : (b : Bool) (v : Envelope) → puts (cond b (push v ∷ []) []) ≡ cond b (v ∷ []) []
one_put true v = refl
one_put false v = refl

leaving_puts : (m : Mailbox OneRight) (k line : ℕ) (p : Phase) → puts (leaving m k line p ∷ []) ≡ []
leaving_puts m k line Out = refl
leaving_puts m k line _ = refl

look_puts : (m : Mailbox OneRight) (o : Option ℕ) → puts (finds_busy_at m o) ≡ []
look_puts m None = refl
look_puts m (Some k) = refl

pops_put : (k : ℕ) (vs : List Envelope) (events : List (MailboxEvent OneRight)) → puts (map (λ v. pop k (Some v)) vs ++ events) ≡ puts events
pops_put k [] events = refl
pops_put k (v ∷ vs) events = pops_put k vs events

sweeping_puts : (vs : List Envelope) (k n : ℕ) → puts (sweeping vs k n) ≡ []
sweeping_puts vs k zero = refl
sweeping_puts vs k (suc n) = pops_put k (in_queue k vs) (pop k None ∷ sweeping vs (k + 1) n) ∙ sweeping_puts vs (k + 1) n

-- that is what the pair has accepted
puts_of : (f : Facts) (e : ℕ) (m : Mailbox OneRight) (o : Outcome) (a : Action) → puts (events_of f e m o a) ≡ accepted_by e o a
puts_of f e m outcome.In (action.Enter s) = none_put (eqb e s.end.0) _ refl
puts_of f e m outcome.Moved (action.Enter s) = none_put (eqb e s.end.0) _ refl
puts_of f e m outcome.Closed (action.Enter s) = none_put (eqb e s.end.0) _ refl
puts_of f e m outcome.Left (action.Leave s) = none_put (eqb e s.end.0) _ (leaving_puts m _ _ (f.line e s.line.0).phase)
puts_of f e m (outcome.Accepted n) (action.Push s ports body) = one_put (eqb e s.end.0) _
puts_of f e m (outcome.Accepted n) (action.Notice s) = one_put (eqb e s.end.0) _
puts_of f e m (outcome.Hopped k) (action.Hop s) = none_put (eqb e s.end.0) _ refl
puts_of f e m outcome.Started (action.Start x) = none_put (eqb e x.0) _ refl
puts_of f e m (outcome.Got v) (action.Take x) = none_put (eqb e x.0) _ refl
puts_of f e m outcome.Empty (action.Take x) = none_put (eqb e x.0) _ refl
puts_of f e m outcome.Busy (action.Take x) = none_put (eqb e x.0) _ refl
puts_of f e m outcome.Again (action.Take x) = none_put (eqb e x.0) _ refl
puts_of f e m outcome.Busy (action.Look x) = none_put (eqb e x.0) _ (look_puts m _)
puts_of f e m (outcome.Clear (Some k)) (action.Look x) = none_put (eqb e x.0) _ refl
puts_of f e m (outcome.Adopted n) (action.Adopt x a) = none_put (eqb e x.0) _ refl
puts_of f e m outcome.Done (action.Close x) = none_put (eqb e x.0) _ refl
puts_of f e m outcome.Busy (action.Sweep x) = none_put (eqb e x.0) _ (look_puts m _)
puts_of f e m (outcome.Discarded vs) (action.Sweep x) = none_put (eqb e x.0) _ (sweeping_puts vs _ _)
puts_of f e m o a = refl

-- ---- the pairs that make an end

data Makes (f : Facts) (e : ℕ) (o : Outcome) (a : Action) : Type 0 where
  makes : (k : Kind) → kind_after e None o a ≡ Some k → f.ends ≤ e → view (next f a o) e ≡ record (view f e) { kind = ((next f a o).end e).kind } → Makes f e o a
  leaves : kind_after e None o a ≡ None → (e < ends_after f.ends o a → e < f.ends) → Makes f e o a

makes_one : (f : Facts) (e : ℕ) (x : EndId) (k : Kind) (a : Action) → x ≡ record { 0 = f.ends } → kind_after e None (outcome.End x) a ≡ cond (eqb e x.0) (Some k) None → ends_after f.ends (outcome.End x) a ≡ f.ends + 1
    → view (next f a (outcome.End x)) e ≡ record (view f e) { kind = ((next f a (outcome.End x)).end e).kind } → Makes f e (outcome.End x) a
makes_one f e x k a first kind count same =
    let number : x.0 ≡ f.ends = ap (λ (n : EndId). n.0) first in
    ⊎_elim
    (λ is. makes k (kind ∙ ap (λ b. cond b (Some k) None) (eq-eqb e x.0 is)) (omega arith) same)
    (λ differ. leaves (kind ∙ ap (λ b. cond b (Some k) None) (ne_eqb e x.0 differ)) (λ within. let below : e < f.ends + 1 = subst (λ n. e < n) count within in omega arith))
    (cases_eq e x.0)

makes_or : (f : Facts) (e : ℕ) (refused : Bool) (o : Outcome) (a : Action) → Answers f a refused o → Makes f e o a
makes_or f e refused (outcome.Ends x y) (action.Channel a) fits =
    let new = new_ends f a refused x y fits in
    let first : x.0 ≡ f.ends = ap (λ (n : EndId). n.0) new.1 in
    let second : y.0 ≡ f.ends + 1 = ap (λ (n : EndId). n.0) new.2 in
    ⊎_elim
    (λ is. makes (Port y) (ap (λ b. cond b (Some (Port y)) (cond (eqb e y.0) (Some (Port x)) None)) (eq-eqb e x.0 is)) (omega arith) refl)
    (λ not_first.
    let other : eqb e x.0 ≡ false = ne_eqb e x.0 not_first in ⊎_elim
    (λ is. makes (Port x) (ap (λ b. cond b (Some (Port y)) (cond (eqb e y.0) (Some (Port x)) None)) other ∙ ap (λ b. cond b (Some (Port x)) None) (eq-eqb e y.0 is)) (omega arith) refl)
    (λ not_second. leaves (ap (λ b. cond b (Some (Port y)) (cond (eqb e y.0) (Some (Port x)) None)) other ∙ ap (λ b. cond b (Some (Port x)) None) (ne_eqb e y.0 not_second)) (λ within. omega arith))
    (cases_eq e y.0))
    (cases_eq e x.0)
makes_or f e refused (outcome.End x) (action.Client a) fits = makes_one f e x Client (action.Client a) (queue_made_of f Client a refused x fits).number refl refl refl
makes_or f e refused (outcome.End x) (action.Worker a) fits = makes_one f e x Worker (action.Worker a) (queue_made_of f Worker a refused x fits).number refl refl refl
makes_or f e refused (outcome.End x) (action.Member a name) fits = makes_one f e x (Member a) (action.Member a name) (member_made_of f a refused x fits).number refl refl refl
makes_or f e refused o a fits = leaves refl (λ within. within)

-- ---- an end as it is made

module _ (f : Facts) (e : ℕ) (sound : Sound f) (past : f.ends ≤ e) where
  unmade : f.end e ≡ no_end
  unmade = sound.places.ends e past

  no_line_there : (l : ℕ) → f.line e l ≡ no_line
  no_line_there l = (sound.lines e).none l (subst (λ (x : EndNow). lines_of x.kind ≤ l) (sym unmade) (omega arith))

  unclear : (k : ℕ) → f.clear e k ≡ false
  unclear k = false_from_ne_true (f.clear e k) (λ is. ⊎_elim
      (λ low. let first : (f.end e).newest ≡ 0 = ap (λ (x : EndNow). x.newest) unmade in omega arith)
      (λ last. false≢true (sym (ap (λ (x : EndNow). x.closed) unmade) ∙ last.1))
      ((sound.lines e).clear_within k is))

  none_accepted : f.accepted e ≡ []
  none_accepted = nothing_accepted f e (sound.lines e) unmade

  pub new_shown : (kind : Option Kind) → IsShown e (record (view f e) { kind = kind }) (first_mailbox kind)
  new_shown kind =
      let rights : List OneRight = replicate (lines_of kind) tt in record {
        is_mailbox = subst (λ n. IsMailbox e n (new_mailbox rights)) (length-replicate (lines_of kind) tt) (chain_laws.opened e rights);
        gates = ap (λ (x : EndNow). x.newest + 1) (sym unmade);
        put = λ l. ap (by l) (sym none_accepted);
        got = sym (nothing_removed f e (sound.waiting e) none_accepted);
        flags = λ k g _ at. only (opened rights) (λ _ u. (u.enabled ≡ (f.end e).enabled) × (u.closed ≡ (f.end e).closed)) (ap (λ (x : EndNow). x.enabled) (sym unmade), ap (λ (x : EndNow). x.closed) (sym unmade)) k g at;
        given = λ k g at. only (opened rights) (λ j u. u.collected ≡ f.clear e j) (sym (unclear 0)) k g at;
        stands = λ l k at. ap (λ (y : LineNow). y.stand) (no_line_there l) ∙ (got_of-map (λ (_ : OneRight). 0) rights l k at).2;
        phases = λ l k g stands at.
            let right = got_of-map {B = ℕ} (λ (_ : OneRight). 0) rights l k stands in
            only (opened rights) (λ _ u. IsAt u l (f.line e l).phase) (opened_out rights l (got_within rights l right.0 right.1) ∙ ap Some (sym (ap (λ (y : LineNow). y.phase) (no_line_there l)))) k g at;
        taker_at = ap (λ (x : EndNow). x.taker_stand) (sym unmade);
      }

-- ---- one pair more

-- the mailbox shows what is known of the end, and came about by events from the one that was made
pub record Kept (f : Facts) (e : ℕ) (m : Mailbox OneRight) : Type 0 where
  pub shown : ShownAt f e m
  pub events : List (MailboxEvent OneRight)
  pub runs : Runs e (lines_of (f.end e).kind) (first_mailbox (f.end e).kind) events m
  pub put : puts events ≡ f.accepted e

module _ (f : Facts) (e : ℕ) (m : Mailbox OneRight) (sound : Sound f) (refused : Bool) (o : Outcome) (a : Action) (fits : Answers f a refused o) where
  abbrev line_count : ℕ
  line_count = lines_of (f.end e).kind

  abbrev events_here : List (MailboxEvent OneRight)
  events_here = events_of f e m o a

  -- the kind of an end that the pair makes
  kind_made : (k : Kind) → kind_after e None o a ≡ Some k → f.ends ≤ e → ((next f a o).end e).kind ≡ Some k
  kind_made k is past = ap (λ q. kind_after e q o a) (ap (λ (x : EndNow). x.kind) (unmade f e sound past)) ∙ is

  pub same_after : kind_after e None o a ≡ None → after_pair f e m o a ≡ after_events m events_here
  same_after none = ap (λ q. made_as q (after_events m events_here)) none

  pub new_after : f.ends ≤ e → e < (next f a o).ends → after_pair f e m o a ≡ first_mailbox ((next f a o).end e).kind
  new_after past within = elim (makes_or f e refused o a fits) [
    | makes k is _ same ↦ ap (λ q. made_as q (after_events m events_here)) is ∙ ap first_mailbox (sym (kind_made k is past))
    | leaves is old ↦ absurd (let low = old within in omega arith)
  ]

  -- an end that is there isn't made
  pub old_end : e < f.ends → kind_after e None o a ≡ None
  old_end within = elim (makes_or f e refused o a fits) [
    | makes k is past same ↦ absurd (omega arith)
    | leaves is old ↦ is
  ]

  pub happen_here : kind_after e None o a ≡ None → ShownAt f e m → Happen e line_count m events_here
  happen_here none shown = let done = goes f e m sound shown refused o a fits none in runs_happen e line_count events_here m done.0 done.1

  goes_on_from : kind_after e None o a ≡ None → Kept f e m → Kept (next f a o) e (after_pair f e m o a)
  goes_on_from none k =
      let done = goes f e m sound k.shown refused o a fits none in
      let after : Mailbox OneRight = after_pair f e m o a in
      let same : done.0 ≡ after = runs_one e line_count events_here m done.0 done.1 ∙ sym (same_after none) in
      let shown : ShownAt (next f a o) e after = subst (ShownAt (next f a o) e) same done.2 in
      let runs : Runs e line_count m events_here after = subst (Runs e line_count m events_here) same done.1 in
      let same_lines : line_count ≡ lines_of ((next f a o).end e).kind = sym (runs_kept e line_count events_here m after k.shown.is_mailbox runs).stands ∙ shown.is_mailbox.stands in
      record {
        shown = shown;
        events = k.events ++ events_here;
        runs = subst (λ n. Runs e n (new_mailbox (replicate n tt)) (k.events ++ events_here) after) same_lines
            (runs_joined e line_count k.events events_here (first_mailbox (f.end e).kind) m after k.runs runs);
        put = flat_map-append put_in k.events events_here ∙ ap (λ us. us ++ puts events_here) k.put ∙ ap (λ us. f.accepted e ++ us) (puts_of f e m o a) ∙ accepted_one e (f.accepted e) o a;
      }

  pub kept_next : Kept f e m → Kept (next f a o) e (after_pair f e m o a)
  kept_next before = elim (makes_or f e refused o a fits) [
    | leaves is old ↦ goes_on_from is before
    | makes k is past same ↦
        let kind : ((next f a o).end e).kind ≡ Some k = kind_made k is past in
        let known : view (next f a o) e ≡ record (view f e) { kind = Some k } = same ∙ ap (λ q. record (view f e) { kind = q }) kind in
        subst (Kept (next f a o) e) (sym (ap (λ q. made_as q (after_events m events_here)) is)) (record {
          shown = subst (λ v. IsShown e v (first_mailbox (Some k))) (sym known) (new_shown f e sound past (Some k));
          events = [];
          runs = ap first_mailbox (sym kind);
          put = sym (ap (λ (v : View). v.accepted) same ∙ none_accepted f e sound past);
        })
  ]
