-- A mailbox that shows what is known of an end, and what it shows after an event.
use Rattle.std.proofs.Common.{◌≡◌, ◌≢◌, ℕ, ◌+◌, ◌<◌, Bool, true, false, cond, eqb, List, [], ◌∷◌, ◌++◌, length, set, refl, sym, ap, subst, ◌∙◌, arith, append-nil, length-set, Option, Some, ne_eqb}
use Rattle.hub_core.proofs.Words.{IsTrue, slice_get, eqb-true, eqb-false, eq-eqb, filter-append, Envelope, Phase, History, Facts, facts, lines_of, by, Gate, IsAt, IsGateOf, Queue, Mailbox, GateAt, StandsAt, IsNewest, put_by, got_from, IsMailbox, MailboxEvent, MailboxStep, put_in, got_in, with_gate, with_queue, ShowsMailbox, Grows, OneRight, has_right, Kind}
use Rattle.hub_core.proofs.Items.{slice_get-set_same, slice_get-set_other, got_within, got_there, got_same_at, at_written, at_test}
use Rattle.hub_core.proofs.MailboxStepping.{chain_laws}

-- what is known of an end, as far as a mailbox shows it
pub record View : Type 0 where
  pub kind : Option Kind
  pub newest : ℕ
  pub taker : ℕ
  pub enabled : Bool
  pub closed : Bool
  pub phase : ℕ → Phase
  pub stand : ℕ → ℕ
  pub clear : ℕ → Bool
  pub accepted : List Envelope
  pub removed : List Envelope

abbrev pub view : Facts → ℕ → View
view f e = record {
  kind = (f.end e).kind;
  newest = (f.end e).newest;
  taker = (f.end e).taker_stand;
  enabled = (f.end e).enabled;
  closed = (f.end e).closed;
  phase = λ l. (f.line e l).phase;
  stand = λ l. (f.line e l).stand;
  clear = f.clear e;
  accepted = f.accepted e;
  removed = f.taken e ++ f.discarded e;
}

-- the mailbox shows this of the end
pub record IsShown (e : ℕ) (v : View) (m : Mailbox OneRight) : Type 0 where
  pub is_mailbox : IsMailbox e (lines_of v.kind) m
  pub gates : length m.gates ≡ v.newest + 1
  pub put : (l : ℕ) → put_by m l ≡ by l v.accepted
  pub got : got_from m ≡ v.removed
  pub flags : (k : ℕ) (g : Gate OneRight) → IsNewest m k → GateAt m k g → (g.enabled ≡ v.enabled) × (g.closed ≡ v.closed)
  pub given : (k : ℕ) (g : Gate OneRight) → GateAt m k g → g.collected ≡ v.clear k
  pub stands : (l k : ℕ) → StandsAt m l k → v.stand l ≡ k
  pub phases : (l k : ℕ) (g : Gate OneRight) → StandsAt m l k → GateAt m k g → IsAt g l (v.phase l)
  pub taker_at : m.taker ≡ v.taker

abbrev pub ShownAt : Facts → ℕ → Mailbox OneRight → Type 0
ShownAt f e m = IsShown e (view f e) m

pub of_history : (h : History) (e : ℕ) (m : Mailbox OneRight) → ShowsMailbox h e [] m → ShownAt (facts h) e m
of_history h e m s = record {
  is_mailbox = s.is_mailbox;
  gates = s.gates;
  put = s.put;
  got = s.got ∙ append-nil ((facts h).taken e ++ (facts h).discarded e);
  flags = s.flags;
  given = s.given;
  stands = s.stands;
  phases = s.phases;
  taker_at = s.taker;
}

pub to_history : (h : History) (e : ℕ) (m : Mailbox OneRight) → ShownAt (facts h) e m → ShowsMailbox h e [] m
to_history h e m s = record {
  is_mailbox = s.is_mailbox;
  gates = s.gates;
  put = s.put;
  got = s.got ∙ sym (append-nil ((facts h).taken e ++ (facts h).discarded e));
  flags = s.flags;
  given = s.given;
  stands = s.stands;
  phases = s.phases;
  taker = s.taker_at;
}

-- ---- steps

-- what the right of a line is
abbrev pub HasRight : ℕ → ℕ → OneRight → Type 0
HasRight k line right = IsTrue (has_right k line right)

-- from the one mailbox the events, one after another, lead to the other
abbrev pub Runs : (e lines : ℕ) → Mailbox OneRight → List (MailboxEvent OneRight) → Mailbox OneRight → Type 0
Runs e lines m [] after = after ≡ m
Runs e lines m (event ∷ events) after = (between : Mailbox OneRight) × MailboxStep HasRight e lines m event between × Runs e lines between events after

-- the events lead to a mailbox that shows this of the end
abbrev pub Leads : (e lines : ℕ) → Mailbox OneRight → List (MailboxEvent OneRight) → View → Type 0
Leads e lines m events w = (after : Mailbox OneRight) × Runs e lines m events after × IsShown e w after

pub one_step : (e lines : ℕ) (m after : Mailbox OneRight) (event : MailboxEvent OneRight) (w : View) → MailboxStep HasRight e lines m event after → IsShown e w after → Leads e lines m (event ∷ []) w
one_step e lines m after event w step shown = (after, (after, step, refl), shown)

pub event_grows : (e lines : ℕ) (m after : Mailbox OneRight) (event : MailboxEvent OneRight) → IsMailbox e lines m → MailboxStep HasRight e lines m event after → Grows m (put_in event) (got_in event) after
event_grows e lines m after event is step = chain_laws.grows has_right e lines m after event step is

-- events of a step at this end, and none where the step is at another one
pub at_end_or : (e lines : ℕ) (m : Mailbox OneRight) (events : List (MailboxEvent OneRight)) (w : Bool → View) (b : Bool) → IsShown e (w false) m → (b ≡ true → Leads e lines m events (w true)) → Leads e lines m (cond b events []) (w b)
at_end_or e lines m events w true shown here = here refl
at_end_or e lines m events w false shown here = (m, refl, shown)

-- ---- where a line stands, and in which phase

pub record Standing (lines : ℕ) (m : Mailbox OneRight) (l k : ℕ) (p : Phase) : Type 0 where
  pub gate : Gate OneRight
  pub stands : StandsAt m l k
  pub is_gate : GateAt m k gate
  pub phase : IsAt gate l p
  pub sound : IsGateOf lines gate

-- What a gate that is written at epoch k has to show. Its lines are those that stand there, and the others stay.
pub record Writes (v : View) (m : Mailbox OneRight) (k : ℕ) (g' : Gate OneRight) (enabled closed : Bool) (phase : ℕ → Phase) (clear : ℕ → Bool) : Type 0 where
  pub flags : IsNewest m k → (g'.enabled ≡ enabled) × (g'.closed ≡ closed)
  pub other_flags : (k ≢ v.newest) → (enabled ≡ v.enabled) × (closed ≡ v.closed)
  pub given : g'.collected ≡ clear k
  pub other_given : (i : ℕ) → i ≢ k → clear i ≡ v.clear i
  pub phases : (l : ℕ) → StandsAt m l k → IsAt g' l (phase l)
  pub other_phases : (l i : ℕ) → i ≢ k → StandsAt m l i → phase l ≡ v.phase l

module _ (e : ℕ) (v : View) (m : Mailbox OneRight) (is : IsShown e v m) where
  pub standing : (l : ℕ) → l < lines_of v.kind → Standing (lines_of v.kind) m l (v.stand l) (v.phase l)
  standing l low =
      let box : IsMailbox e (lines_of v.kind) m = is.is_mailbox in
      let many : length m.stands ≡ lines_of v.kind = box.stands in
      let place = got_there m.stands l (omega arith) in
      let same : v.stand l ≡ place.0 = is.stands l place.0 place.1 in
      let stands : StandsAt m l (v.stand l) = subst (StandsAt m l) (sym same) place.1 in
      let gate = got_there m.gates (v.stand l) (box.stands_within l (v.stand l) stands) in
      record {
        gate = gate.0;
        stands = stands;
        is_gate = gate.1;
        phase = is.phases l (v.stand l) gate.0 stands gate.1;
        sound = box.each_gate (v.stand l) gate.0 gate.1;
      }

  -- another gate at epoch k
  pub gate_shown : (k : ℕ) (g g' : Gate OneRight) (enabled closed : Bool) (phase : ℕ → Phase) (clear : ℕ → Bool) → GateAt m k g → Writes v m k g' enabled closed phase clear → IsMailbox e (lines_of v.kind) (with_gate m k g')
      → IsShown e (record v { enabled = enabled; closed = closed; phase = phase; clear = clear }) (with_gate m k g')
  gate_shown k g g' enabled closed phase clear at writes after =
      let count : length (set m.gates k g') ≡ length m.gates = length-set m.gates k g' in
      let many : length m.gates ≡ v.newest + 1 = is.gates in
      record {
        is_mailbox = after;
        gates = count ∙ is.gates;
        put = is.put;
        got = is.got;
        flags = λ i h newest there. at_written m.gates k g' (λ j u. j + 1 ≡ length (set m.gates k g') → (u.enabled ≡ enabled) × (u.closed ≡ closed))
            (λ last. writes.flags (last ∙ count))
            (λ j u other found last.
            let old = is.flags j u (last ∙ count) found in
            let same = writes.other_flags (λ here. other (omega arith)) in
            (old.0 ∙ sym same.0, old.1 ∙ sym same.1)) i h there newest;
        given = at_written m.gates k g' (λ j u. u.collected ≡ clear j) writes.given (λ j u other found. is.given j u found ∙ sym (writes.other_given j other));
        stands = is.stands;
        phases = λ l i h there at_h. at_written m.gates k g' (λ j u. StandsAt m l j → IsAt u l (phase l))
            (λ here. writes.phases l here)
            (λ j u other found here. is.phases l j u here found ∙ ap Some (sym (writes.other_phases l j other here))) i h at_h there;
        taker_at = is.taker_at;
      }

  -- a line that stands at a gate goes to another phase there
  pub phase_shown : (l k : ℕ) (g g' : Gate OneRight) (p q : Phase) → StandsAt m l k → GateAt m k g → IsAt g l q → g'.phases ≡ set g.phases l p → g'.enabled ≡ g.enabled → g'.closed ≡ g.closed → g'.collected ≡ g.collected → IsMailbox e (lines_of v.kind) (with_gate m k g')
      → IsShown e (record v { phase = λ i. cond (eqb i l) p (v.phase i) }) (with_gate m k g')
  phase_shown l k g g' p q stands at was phases same_enabled same_closed same_given after =
      gate_shown k g g' v.enabled v.closed (λ i. cond (eqb i l) p (v.phase i)) v.clear at (record {
        flags = λ last. let old = is.flags k g last at in (same_enabled ∙ old.0, same_closed ∙ old.1);
        other_flags = λ _. (refl, refl);
        given = same_given ∙ is.given k g at;
        other_given = λ i _. refl;
        phases = λ i there. at_test (IsAt g' i) (eqb i l) p (v.phase i)
            (λ t.
            let same : i ≡ l = eqb-true i l t in
            let written : slice_get g'.phases l ≡ Some p = ap (λ ps. slice_get ps l) phases ∙ slice_get-set_same g.phases l p (got_within g.phases l q was) in
            subst (λ x. slice_get g'.phases x ≡ Some p) (sym same) written)
            (λ t. ap (λ ps. slice_get ps i) phases ∙ slice_get-set_other g.phases l i p (eqb-false i l t) ∙ is.phases i k g there at);
        other_phases = λ i j other there. ap (λ b. cond b p (v.phase i)) (ne_eqb i l (λ same. other (got_same_at m.stands i l j k same there stands)));
      }) after

  -- the newest gate has other flags
  pub flags_shown : (k : ℕ) (g g' : Gate OneRight) (enabled closed : Bool) → GateAt m k g → IsNewest m k → g'.phases ≡ g.phases → g'.enabled ≡ enabled → g'.closed ≡ closed → g'.collected ≡ g.collected → IsMailbox e (lines_of v.kind) (with_gate m k g')
      → IsShown e (record v { enabled = enabled; closed = closed }) (with_gate m k g')
  flags_shown k g g' enabled closed at newest phases now_enabled now_closed same_given after =
      let many : length m.gates ≡ v.newest + 1 = is.gates in
      gate_shown k g g' enabled closed v.phase v.clear at (record {
        flags = λ last. (now_enabled, now_closed);
        other_flags = λ other. absurd (other (omega arith));
        given = same_given ∙ is.given k g at;
        other_given = λ i _. refl;
        phases = λ i there. ap (λ ps. slice_get ps i) phases ∙ is.phases i k g there at;
        other_phases = λ i j _ _. refl;
      }) after

  -- the rights of a gate were collected
  pub clear_shown : (k : ℕ) (g g' : Gate OneRight) → GateAt m k g → g'.phases ≡ g.phases → g'.enabled ≡ g.enabled → g'.closed ≡ g.closed → g'.collected ≡ true → IsMailbox e (lines_of v.kind) (with_gate m k g')
      → IsShown e (record v { clear = λ i. cond (eqb i k) true (v.clear i) }) (with_gate m k g')
  clear_shown k g g' at phases same_enabled same_closed now after =
      gate_shown k g g' v.enabled v.closed v.phase (λ i. cond (eqb i k) true (v.clear i)) at (record {
        flags = λ last. let old = is.flags k g last at in (same_enabled ∙ old.0, same_closed ∙ old.1);
        other_flags = λ _. (refl, refl);
        given = now ∙ sym (ap (λ b. cond b true (v.clear k)) (eq-eqb k k refl));
        other_given = λ i other. ap (λ b. cond b true (v.clear i)) (ne_eqb i k other);
        phases = λ i there. ap (λ ps. slice_get ps i) phases ∙ is.phases i k g there at;
        other_phases = λ i j _ _. refl;
      }) after

  -- a queue has more that was put or taken
  pub queue_shown : (k : ℕ) (q : Queue) (put got : List Envelope) → IsMailbox e (lines_of v.kind) (with_queue m k q) → Grows m put got (with_queue m k q)
      → IsShown e (record v { accepted = v.accepted ++ put; removed = v.removed ++ got }) (with_queue m k q)
  queue_shown k q put got after grows = record {
    is_mailbox = after;
    gates = is.gates;
    put = λ l. grows.puts l ∙ ap (λ us. us ++ by l put) (is.put l) ∙ sym (filter-append _ v.accepted put);
    got = grows.gots ∙ ap (λ us. us ++ got) is.got;
    flags = is.flags;
    given = is.given;
    stands = is.stands;
    phases = is.phases;
    taker_at = is.taker_at;
  }
