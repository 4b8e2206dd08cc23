-- The pairs that are events of gates: of a line at its gate, a Start and a Close; and those that move a line or the taker, or add
-- a queue.
use Rattle.std.proofs.Common.{◌≡◌, ℕ, ◌+◌, ◌<◌, ◌≤◌, ◌&&◌, Bool, true, false, true≢false, cond, eqb, [], ◌∷◌, length, map, set, refl, sym, ap, subst, ◌∙◌, ⊎_elim, arith, Option, Some, None, not, ltb-true, ltb-false, List, append-nil, length-set, length-append, ne_eqb}
use Rattle.hub_core.proofs.Words.{slice_get, is_some, false≢true, false_from_ne_true, or_from, cases_lt, Phase, Out, Inside, Turned, Sender, LineNow, Facts, lines_of, is_out, Sound, Gate, IsAt, with_phase, with_home, with_flags, finds_moved, finds_closed, goes_in, goes_out, turns_back, enables, closes, leaves_right, IsGateOf, Mailbox, IsNewest, at_gate, MailboxStep, gate_steps, with_gate, OneRight, enabled_of, leaving, eq-eqb, length-map, opened, retires, GateAt, StandsAt, hop, advance, add, hops, advances, adds, with_stand, with_taker, with_new, IsSettled, HoldsNothing, Grows, rights_of, phase_of_line, may_enter}
use Rattle.hub_core.specs.Posting.{enter_answer, leave_answer}
use Rattle.hub_core.specs.declared.step.Outcome.TheVariants as outcome
use Rattle.hub_core.specs.GateMachine as machine
use Rattle.hub_core.proofs.Items.{got_there, got-map, got_of-map, got_within, at_written, at_pushed, is_out_of}
use Rattle.hub_core.proofs.Nexts.{is_retired, let_in_of, found_moved_of, found_closed_of, left_of}
use Rattle.hub_core.proofs.SoundLines.{line_there, LinesAt}
use Rattle.hub_core.proofs.MailboxStepping.{step_kept}
use Rattle.hub_core.proofs.MailboxShown.{View, view, ShownAt, HasRight, Leads, one_step, Standing, standing, phase_shown, flags_shown, IsShown, event_grows}

-- ==== The pairs that are events of a line at its gate, a Start, and a Close.

-- ---- what is said of phases and rights

one_right : (o : Option OneRight) → is_some o ≡ true → o ≡ Some tt
one_right None h = absurd (false≢true h)
one_right (Some r) h = refl

-- then the right of a line that is out is at home
right_home : (lines : ℕ) (g : Gate OneRight) (l : ℕ) → IsGateOf lines g → g.collected ≡ false → IsAt g l Out → slice_get g.homes l ≡ Some (Some tt)
right_home lines g l h kept out =
    let there : slice_get (map (λ p. leaves_right p && not g.collected) g.phases) l ≡ Some (not g.collected) = got-map (λ p. leaves_right p && not g.collected) g.phases l Out out in
    let home = got_of-map is_some g.homes l (not g.collected) (ap (λ bs. slice_get bs l) h.homes ∙ there) in
    home.1 ∙ ap Some (one_right home.0 (home.2 ∙ ap not kept))

-- ---- events of a line

-- the end with a line in this phase, where the step is at this end
abbrev pub with_line : Facts → ℕ → ℕ → Phase → Bool → View
with_line f e l p here = record (view f e) { phase = λ i. cond (here && eqb i l) p (f.line e i).phase }

module _ (f : Facts) (s : Sender) (m : Mailbox OneRight) (is : ShownAt f s.end.0 m) where
  abbrev here : LineNow
  here = f.line s.end.0 s.line.0

  abbrev lines : ℕ
  lines = lines_of (f.end s.end.0).kind

  pub at_line : s.line.0 < lines → Standing lines m s.line.0 here.stand here.phase
  at_line low = standing s.end.0 (view f s.end.0) m is s.line.0 low

  moves : (y : Standing lines m s.line.0 here.stand here.phase) (g' : Gate OneRight) (event : machine.Event OneRight) (answer : machine.Answer OneRight) (p : Phase) → MailboxStep HasRight s.end.0 lines m (at_gate here.stand event answer) (with_gate m here.stand g') → g'.phases ≡ set y.gate.phases s.line.0 p → g'.enabled ≡ y.gate.enabled → g'.closed ≡ y.gate.closed → g'.collected ≡ y.gate.collected
      → Leads s.end.0 lines m (at_gate here.stand event answer ∷ []) (with_line f s.end.0 s.line.0 p true)
  moves y g' event answer p step phases same_enabled same_closed same_given =
      one_step s.end.0 lines m (with_gate m here.stand g') _ (with_line f s.end.0 s.line.0 p true) step
      (phase_shown s.end.0 (view f s.end.0) m is s.line.0 here.stand y.gate g' p here.phase y.stands y.is_gate y.phase phases same_enabled same_closed same_given (step_kept s.end.0 lines m (with_gate m here.stand g') is.is_mailbox step))

  pub out_there : (y : Standing lines m s.line.0 here.stand here.phase) → is_out here.phase ≡ true → IsAt y.gate s.line.0 Out
  out_there y out = y.phase ∙ ap Some (is_out_of here.phase out)

  -- the line stands at the newest gate where it isn't at a retired one
  at_newest : (y : Standing lines m s.line.0 here.stand here.phase) → is_retired f s ≡ false → IsNewest m here.stand
  at_newest y fresh =
      let reached : (f.end s.end.0).newest ≤ here.stand = ltb-false here.stand (f.end s.end.0).newest fresh in
      let within : here.stand < length m.gates = is.is_mailbox.stands_within s.line.0 here.stand y.stands in
      let count : length m.gates ≡ (f.end s.end.0).newest + 1 = is.gates in
      omega arith

  pub at_retired : is_retired f s ≡ true → here.stand + 1 < length m.gates
  at_retired old =
      let low : here.stand < (f.end s.end.0).newest = ltb-true here.stand (f.end s.end.0).newest old in
      let count : length m.gates ≡ (f.end s.end.0).newest + 1 = is.gates in
      omega arith

  pub entered : LinesAt f s.end.0 → outcome.In ≡ enter_answer f s → Leads s.end.0 lines m (at_gate here.stand (machine.enter s.line.0) (machine.lets_in tt) ∷ []) (with_line f s.end.0 s.line.0 Inside true)
  entered lines_at fits =
      let why = let_in_of f s fits in
      let y : Standing lines m s.line.0 here.stand here.phase = at_line (line_there f s lines_at why.0.may) in
      let newest : IsNewest m here.stand = at_newest y why.1 in
      let moved : y.gate.moved ≡ false = is.is_mailbox.newest here.stand y.gate y.is_gate newest in
      let closed : y.gate.closed ≡ false = (is.flags here.stand y.gate newest y.is_gate).1 ∙ why.2 in
      let out : IsAt y.gate s.line.0 Out = out_there y why.0.out in
      let home : slice_get y.gate.homes s.line.0 ≡ Some (Some tt) = right_home lines y.gate s.line.0 y.sound (false_from_ne_true y.gate.collected (λ given. false≢true (sym (or_from y.gate.moved y.gate.closed moved closed) ∙ y.sound.shut given))) out in
      moves y (with_home (with_phase y.gate s.line.0 Inside) s.line.0 None) (machine.enter s.line.0) (machine.lets_in tt) Inside
      (gate_steps here.stand y.gate _ (machine.enter s.line.0) (machine.lets_in tt) y.is_gate y.stands (goes_in s.line.0 tt out moved closed home)) refl refl refl refl

  pub turned_moved : LinesAt f s.end.0 → outcome.Moved ≡ enter_answer f s → Leads s.end.0 lines m (at_gate here.stand (machine.enter s.line.0) machine.says_moved ∷ []) (with_line f s.end.0 s.line.0 Turned true)
  turned_moved lines_at fits =
      let why = found_moved_of f s fits in
      let y : Standing lines m s.line.0 here.stand here.phase = at_line (line_there f s lines_at why.0.may) in
      let moved : y.gate.moved ≡ true = (is.is_mailbox.retired here.stand y.gate y.is_gate (at_retired why.1)).0 in
      moves y (with_phase y.gate s.line.0 Turned) (machine.enter s.line.0) machine.says_moved Turned
      (gate_steps here.stand y.gate _ (machine.enter s.line.0) machine.says_moved y.is_gate y.stands (finds_moved s.line.0 (out_there y why.0.out) moved)) refl refl refl refl

  pub turned_closed : LinesAt f s.end.0 → outcome.Closed ≡ enter_answer f s → Leads s.end.0 lines m (at_gate here.stand (machine.enter s.line.0) machine.says_closed ∷ []) (with_line f s.end.0 s.line.0 Turned true)
  turned_closed lines_at fits =
      let why = found_closed_of f s fits in
      let y : Standing lines m s.line.0 here.stand here.phase = at_line (line_there f s lines_at why.0.may) in
      let newest : IsNewest m here.stand = at_newest y why.1 in
      let moved : y.gate.moved ≡ false = is.is_mailbox.newest here.stand y.gate y.is_gate newest in
      let closed : y.gate.closed ≡ true = (is.flags here.stand y.gate newest y.is_gate).1 ∙ why.2 in
      moves y (with_phase y.gate s.line.0 Turned) (machine.enter s.line.0) machine.says_closed Turned
      (gate_steps here.stand y.gate _ (machine.enter s.line.0) machine.says_closed y.is_gate y.stands (finds_closed s.line.0 (out_there y why.0.out) moved closed)) refl refl refl refl

  left_from : (p : Phase) → here.phase ≡ p → is_out p ≡ false → Standing lines m s.line.0 here.stand here.phase → Leads s.end.0 lines m (leaving m here.stand s.line.0 p ∷ []) (with_line f s.end.0 s.line.0 Out true)
  left_from Out at away y = absurd (true≢false away)
  left_from Inside at away y =
      let told : enabled_of (slice_get m.gates here.stand) ≡ y.gate.enabled = ap enabled_of y.is_gate in
      subst (λ b. Leads s.end.0 lines m (at_gate here.stand (machine.leave s.line.0 tt) (machine.lets_out b) ∷ []) (with_line f s.end.0 s.line.0 Out true)) (sym told)
      (moves y (with_home (with_phase y.gate s.line.0 Out) s.line.0 (Some tt)) (machine.leave s.line.0 tt) (machine.lets_out y.gate.enabled) Out
      (gate_steps here.stand y.gate _ (machine.leave s.line.0 tt) (machine.lets_out y.gate.enabled) y.is_gate y.stands (goes_out s.line.0 tt (y.phase ∙ ap Some at) refl)) refl refl refl refl)
  left_from Turned at away y =
      moves y (with_phase y.gate s.line.0 Out) (machine.turn_back s.line.0) machine.says_done Out
      (gate_steps here.stand y.gate _ (machine.turn_back s.line.0) machine.says_done y.is_gate y.stands (turns_back s.line.0 (y.phase ∙ ap Some at))) refl refl refl refl

  pub left_line : Sound f → outcome.Left ≡ leave_answer f s → Leads s.end.0 lines m (leaving m here.stand s.line.0 here.phase ∷ []) (with_line f s.end.0 s.line.0 Out true)
  left_line sound fits =
      let away : is_out here.phase ≡ false = left_of f s fits in
      left_from here.phase refl away (⊎_elim
      (λ low. at_line low)
      (λ past. absurd (true≢false (ap (λ (y : LineNow). is_out y.phase) (sym ((sound.lines s.end.0).none s.line.0 past)) ∙ away)))
      (cases_lt s.line.0 lines))

-- ---- Start and Close

module _ (f : Facts) (e : ℕ) (m : Mailbox OneRight) (is : ShownAt f e m) where
  abbrev newest : ℕ
  newest = (f.end e).newest

  abbrev end_lines : ℕ
  end_lines = lines_of (f.end e).kind

  newest_gate : (g : Gate OneRight) × (slice_get m.gates newest ≡ Some g)
  newest_gate = let count : length m.gates ≡ newest + 1 = is.gates in got_there m.gates newest (omega arith)

  pub started_there : Leads e end_lines m (at_gate newest machine.enable machine.says_done ∷ []) (record (view f e) { enabled = true })
  started_there =
      let last : IsNewest m newest = sym is.gates in
      let g : Gate OneRight = newest_gate.0 in
      let g' : Gate OneRight = with_flags g true g.moved g.closed in
      let step : MailboxStep HasRight e end_lines m (at_gate newest machine.enable machine.says_done) (with_gate m newest g') = gate_steps newest g g' machine.enable machine.says_done newest_gate.1 last enables in
      one_step e end_lines m (with_gate m newest g') _ (record (view f e) { enabled = true }) step
      (flags_shown e (view f e) m is newest g g' true (f.end e).closed newest_gate.1 last refl refl ((is.flags newest g last newest_gate.1).1) refl (step_kept e end_lines m (with_gate m newest g') is.is_mailbox step))

  pub closed_there : Leads e end_lines m (at_gate newest machine.close machine.says_done ∷ []) (record (view f e) { closed = true })
  closed_there =
      let last : IsNewest m newest = sym is.gates in
      let g : Gate OneRight = newest_gate.0 in
      let g' : Gate OneRight = with_flags g g.enabled g.moved true in
      let step : MailboxStep HasRight e end_lines m (at_gate newest machine.close machine.says_done) (with_gate m newest g') = gate_steps newest g g' machine.close machine.says_done newest_gate.1 last closes in
      one_step e end_lines m (with_gate m newest g') _ (record (view f e) { closed = true }) step
      (flags_shown e (view f e) m is newest g g' (f.end e).enabled true newest_gate.1 last refl ((is.flags newest g last newest_gate.1).0) refl refl (step_kept e end_lines m (with_gate m newest g') is.is_mailbox step))

-- ==== The pairs that move a line or the taker to the next queue, and the one that adds a queue.

-- ---- Hop

-- the end with a line at the next queue, where the step is at this end
abbrev pub with_next : Facts → ℕ → ℕ → Bool → View
with_next f e l here = record (view f e) { stand = λ i. cond (here && eqb i l) ((f.line e i).stand + 1) (f.line e i).stand }

pub hopped_there : (f : Facts) (s : Sender) (m : Mailbox OneRight) → ShownAt f s.end.0 m → LinesAt f s.end.0 → may_enter f s ≡ true → is_out (phase_of_line f s) ≡ true → is_retired f s ≡ true → Leads s.end.0 (lines_of (f.end s.end.0).kind) m (hop s.line.0 ∷ []) (with_next f s.end.0 s.line.0 true)
hopped_there f s m is lines_at may out_of retired =
    let e : ℕ = s.end.0 in
    let l : ℕ = s.line.0 in
    let lines : ℕ = lines_of (f.end e).kind in
    let y : Standing lines m l (f.line e l).stand (f.line e l).phase = at_line f s m is (line_there f s lines_at may) in
    let k : ℕ = (f.line e l).stand in
    let after : Mailbox OneRight = with_stand m l (k + 1) in
    let out : IsAt y.gate l Out = out_there f s m is y out_of in
    let step : MailboxStep HasRight e lines m (hop l) after = hops l k y.gate y.stands (at_retired f s m is retired) y.is_gate out in
    one_step e lines m after (hop l) (with_next f e l true) step (record {
      is_mailbox = step_kept e lines m after is.is_mailbox step;
      gates = is.gates;
      put = is.put;
      got = is.got;
      flags = is.flags;
      given = is.given;
      stands = at_written m.stands l (k + 1) (λ i j. cond (eqb i l) ((f.line e i).stand + 1) (f.line e i).stand ≡ j)
          (ap (λ b. cond b (k + 1) k) (eq-eqb l l refl))
          (λ i j other there. ap (λ b. cond b ((f.line e i).stand + 1) (f.line e i).stand) (ne_eqb i l other) ∙ is.stands i j there);
      phases = λ i j g there at_g. at_written m.stands l (k + 1) (λ n place. GateAt m place g → IsAt g n (f.line e n).phase)
          (λ at. is.is_mailbox.out_elsewhere l k (k + 1) g y.stands at (λ same. absurd (omega arith)) ∙ sym out ∙ y.phase)
          (λ n place other found at. is.phases n place g found at) i j there at_g;
      taker_at = is.taker_at;
    })

-- ---- the taker

abbrev pub with_taker_at : Facts → ℕ → Bool → View
with_taker_at f e here = record (view f e) { taker = cond here ((f.end e).taker_stand + 1) (f.end e).taker_stand }

pub went_on_there : (f : Facts) (e : ℕ) (m : Mailbox OneRight) → ShownAt f e m → (f.end e).taker_stand < (f.end e).newest → IsSettled m m.taker → HoldsNothing m m.taker → Leads e (lines_of (f.end e).kind) m (advance ∷ []) (with_taker_at f e true)
went_on_there f e m is retired settled nothing =
    let lines : ℕ = lines_of (f.end e).kind in
    let at : m.taker ≡ (f.end e).taker_stand = is.taker_at in
    let count : length m.gates ≡ (f.end e).newest + 1 = is.gates in
    let after : Mailbox OneRight = with_taker m (m.taker + 1) in
    let step : MailboxStep HasRight e lines m advance after = advances (omega arith) settled nothing in
    one_step e lines m after advance (with_taker_at f e true) step (record {
      is_mailbox = step_kept e lines m after is.is_mailbox step;
      gates = is.gates;
      put = is.put;
      got = is.got;
      flags = is.flags;
      given = is.given;
      stands = is.stands;
      phases = is.phases;
      taker_at = ap (λ n. n + 1) at;
    })

-- ---- Adopt

-- the end with a new queue, which isn't enabled, where the step is at this end
abbrev pub with_queue_new : Facts → ℕ → Bool → View
with_queue_new f e here = record (view f e) { newest = cond here ((f.end e).newest + 1) (f.end e).newest; enabled = cond here false (f.end e).enabled }

module _ (f : Facts) (e : ℕ) (m : Mailbox OneRight) (is : ShownAt f e m) (sound : Sound f) (opened_yet : (f.end e).closed ≡ false) where
  abbrev line_count : ℕ
  line_count = lines_of (f.end e).kind

  abbrev last_gate : ℕ
  last_gate = (f.end e).newest

  abbrev rights : List OneRight
  rights = rights_of m

  -- the last_gate gate as it is retired
  abbrev retired : Gate OneRight → Gate OneRight
  retired g = with_flags g g.enabled true g.closed

  abbrev after : Gate OneRight → Mailbox OneRight
  after g = with_new (with_gate m last_gate (retired g)) rights

  count : length m.gates ≡ last_gate + 1
  count = is.gates

  written : (g : Gate OneRight) → length (set m.gates last_gate (retired g)) ≡ last_gate + 1
  written g = length-set m.gates last_gate (retired g) ∙ count

  unclear : f.clear e (last_gate + 1) ≡ false
  unclear = false_from_ne_true (f.clear e (last_gate + 1)) (λ clear. ⊎_elim
      (λ less. absurd (omega arith))
      (λ last. let same : last_gate + 1 ≡ last_gate = last.0 in absurd (omega arith))
      ((sound.lines e).clear_within (last_gate + 1) clear))

  -- what holds of the retired gate, of the others that were there and of the new one holds of each
  each_gate : (g : Gate OneRight) (P : ℕ → Gate OneRight → Type 0) → P last_gate (retired g) → ((j : ℕ) (u : Gate OneRight) → GateAt m j u → P j u) → P (last_gate + 1) (opened rights) → (j : ℕ) (u : Gate OneRight) → GateAt (after g) j u → P j u
  each_gate g P here others new = at_pushed (set m.gates last_gate (retired g)) (opened rights) P
      (at_written m.gates last_gate (retired g) P here (λ j u _ there. others j u there))
      (subst (λ i. P i (opened rights)) (sym (written g)) new)

  shown : (g : Gate OneRight) → GateAt m last_gate g → MailboxStep HasRight e line_count m (add rights) (after g) → IsShown e (with_queue_new f e true) (after g)
  shown g at step =
      let grows : Grows m [] [] (after g) = event_grows e line_count m (after g) (add rights) is.is_mailbox step in
      let many : length (after g).gates ≡ last_gate + 1 + 1 = length-append (set m.gates last_gate (retired g)) (opened rights ∷ []) ∙ ap (λ n. n + 1) (written g) in
      record {
        is_mailbox = step_kept e line_count m (after g) is.is_mailbox step;
        gates = many;
        put = λ l. grows.puts l ∙ append-nil _ ∙ is.put l;
        got = grows.gots ∙ append-nil _ ∙ is.got;
        flags = λ k u last there. each_gate g (λ j v. j + 1 ≡ last_gate + 1 + 1 → (v.enabled ≡ false) × (v.closed ≡ (f.end e).closed))
            (λ now. absurd (omega arith))
            (λ j v found now. let low : j < length m.gates = got_within m.gates j v found in let many_before = count in absurd (omega arith))
            (λ _. (refl, sym opened_yet)) k u there (last ∙ many);
        given = each_gate g (λ j v. v.collected ≡ f.clear e j) (is.given last_gate g at) is.given (sym unclear);
        stands = is.stands;
        phases = λ l k u stands there. each_gate g (λ j v. StandsAt m l j → IsAt v l (f.line e l).phase)
            (λ here. is.phases l last_gate g here at)
            (λ j v found here. is.phases l j v here found)
            (λ here. let low : last_gate + 1 < length m.gates = is.is_mailbox.stands_within l (last_gate + 1) here in let many_before = count in absurd (omega arith)) k u there stands;
        taker_at = is.taker_at;
      }

  pub adopted_there : Leads e line_count m (add rights ∷ []) (with_queue_new f e true)
  adopted_there =
      let many = count in
      let gate = got_there m.gates last_gate (omega arith) in
      let g : Gate OneRight = gate.0 in
      let closed : g.closed ≡ false = (is.flags last_gate g (sym count) gate.1).1 ∙ opened_yet in
      let step : MailboxStep HasRight e line_count m (add rights) (after g) =
      adds last_gate g (retired g) rights (sym count) gate.1 closed retires (length-map m.stands (λ (_ : ℕ). tt) ∙ is.is_mailbox.stands) (λ line right there. refl)
      in
      one_step e line_count m (after g) (add rights) (with_queue_new f e true) step (shown g gate.1 step)
