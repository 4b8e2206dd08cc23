-- What a mailbox doesn't show of the lines of an end, and of what waits there, stays so with each pair that fits.
use Rattle.std.proofs.Common.{Bool, List, None, Option, Some, [], ap, append-nil, append_assoc, arith, cond, eqb, false, inl, inr, length, ne_eqb, not, refl, rules, subst, sym, true, ℕ, ⊎_elim, ◌&&◌, ◌++◌, ◌+◌, ◌-◌, ◌<◌, ◌||◌, ◌∙◌, ◌∷◌, ◌≡◌, ◌≤◌, ◌⊎◌}
use Rattle.hub_core.proofs.Words.{Acceptance, Action, AgentId, AllByRecursion, Answers, Client, EndId, EndNow, Envelope, Facts, Inside, IsAllWaiting, IsNext, IsOfEnd, Kind, LineNow, MAX_LINES, Member, Out, Outcome, Phase, Port, Prefix, Rises, Sender, SoundLines, SoundWaiting, Turned, Worker, owner_by, with_agent, name_of, put_there, all_settled, and_parts, append_cancel_left, by, cases_eq, cases_lt, count_in_queue, eq-eqb, eqb-false, eqb-true, false≢true, filter-append, port_place_allows_notice, holder, in_queue, is_away_at, is_distinct, is_here, is_inside, is_queue, is_settled, is_some}
use Rattle.hub_core.proofs.Words.{lines_of, may_enter, named_envelope, named_notice, no_end, no_line, not-true, on_line, opened, option_and_then, or_cases, peer_of, phase_of_line, poster, poster_of, running, someone_at, speaker, up_to}
use Rattle.hub_core.proofs.Nexts.{Noticed, Pushed, SweptWith, cleared_of, each_of, found_closed_of, found_moved_of, got_of, hopped_of, let_in_of, line_got_of, looked_where, member_made_of, new_ends, none_of_any, noticed_of, pushed_of, queue_made_of, swept_of, went_on_of, next}
use Rattle.hub_core.proofs.Items.{AllByRecursion-append, AllByRecursion-weaker, at_test, eqb_same}
use Rattle.hub_core.proofs.Totals.{nothing_there}
use Rattle.hub_core.proofs.Waits.{from_queue}
use Rattle.hub_core.specs.declared.step.Outcome.TheVariants as outcome
use Rattle.hub_core.specs.declared.step.Action.TheVariants as action

-- what is said of the lines of an end
abbrev pub LinesAt : Facts → ℕ → Type 0
LinesAt f x = SoundLines x (lines_of (f.end x).kind) (f.end x).newest (f.end x).taker_stand (f.end x).closed (f.line x) (f.clear x) (f.accepted x)

-- What a mailbox doesn't show of them: a number that no line has is out, at the first queue; each envelope has different
-- ports; and a notice is the last of its line.
pub record Marks (lines : ℕ) (line : ℕ → LineNow) (accepted : List Envelope) : Type 0 where
  pub none : (l : ℕ) → lines ≤ l → line l ≡ no_line
  pub ports : AllByRecursion (λ v. is_distinct v.ports ≡ true) accepted
  pub messages : (l : ℕ) → (line l).noticed ≡ false → AllByRecursion (λ v. v.notice ≡ false) (by l accepted)
  pub last : (l : ℕ) (before after : List Envelope) (v : Envelope) → by l accepted ≡ before ++ v ∷ after → v.notice ≡ true → after ≡ []

abbrev pub MarksAt : Facts → ℕ → Type 0
MarksAt f x = Marks (lines_of (f.end x).kind) (f.line x) (f.accepted x)

-- ---- making

-- a number that no end had has no lines
fewest : (p q : Option Kind) → p ≡ None → lines_of p ≤ lines_of q
fewest p q none = subst (λ r. lines_of r ≤ lines_of q) (sym none) (omega arith)

more_lines : (b c : Bool) (u w : Kind) (p : Option Kind) → ((b || c) ≡ true → p ≡ None) → lines_of p ≤ lines_of (cond b (Some u) (cond c (Some w) p))
more_lines true c u w p new = fewest p (Some u) (new refl)
more_lines false true u w p new = fewest p (Some w) (new refl)
more_lines false false u w p new = omega arith

one_more_line : (b : Bool) (u : Kind) (p : Option Kind) → (b ≡ true → p ≡ None) → lines_of p ≤ lines_of (cond b (Some u) p)
one_more_line true u p new = fewest p (Some u) (new refl)
one_more_line false u p new = omega arith

-- the numbers of ends that are made are new
abbrev pub IsUnmade : Facts → Type 0
IsUnmade f = (x : ℕ) → f.ends ≤ x → f.end x ≡ no_end

pub unmade_end : (f : Facts) (e e' : EndId) (x : ℕ) → IsUnmade f → e ≡ record { 0 = f.ends } → e' ≡ record { 0 = f.ends + 1 } → (eqb x e.0 || eqb x e'.0) ≡ true → f.end x ≡ no_end
unmade_end f e e' x none first second is = elim (or_cases (eqb x e.0) (eqb x e'.0) is) [
  | inl t ↦ let same : x ≡ f.ends = eqb-true x e.0 t ∙ ap (λ (d : EndId). d.0) first in none x (omega arith)
  | inr t ↦ let same : x ≡ f.ends + 1 = eqb-true x e'.0 t ∙ ap (λ (d : EndId). d.0) second in none x (omega arith)
]

pub unmade_one : (f : Facts) (e : EndId) (x : ℕ) → IsUnmade f → e ≡ record { 0 = f.ends } → eqb x e.0 ≡ true → f.end x ≡ no_end
unmade_one f e x none first is = let same : x ≡ f.ends = eqb-true x e.0 is ∙ ap (λ (d : EndId). d.0) first in none x (omega arith)

-- an end that has more lines now
grown : (n m : ℕ) (line : ℕ → LineNow) (vs : List Envelope) → n ≤ m → Marks n line vs → Marks m line vs
grown n m line vs more s = record { none = λ l past. s.none l (omega arith); ports = s.ports; messages = s.messages; last = s.last }

-- and one that was made of a kind
made_marks : (f : Facts) (e : EndId) (k : Kind) (x : ℕ) → IsUnmade f → e ≡ record { 0 = f.ends } → MarksAt f x → Marks (lines_of (cond (eqb x e.0) (Some k) (f.end x).kind)) (f.line x) (f.accepted x)
made_marks f e k x none number = grown _ _ (f.line x) (f.accepted x) (one_more_line (eqb x e.0) k (f.end x).kind (λ is. ap (λ (d : EndNow). d.kind) (unmade_one f e x none number is)))

-- ---- phases

-- the lines of an end, one line in this phase
abbrev pub phased_line : Facts → Sender → Phase → ℕ → ℕ → LineNow
phased_line f t p x l = record (f.line x l) { phase = on_line x l t p (f.line x l).phase }

-- what holds of the line of a step holds of each number that passes the test for it
pub on_place : (P : ℕ → ℕ → Type 0) (t : Sender) (x l : ℕ) → (eqb x t.end.0 && eqb l t.line.0) ≡ true → P t.end.0 t.line.0 → P x l
on_place P t x l is there =
    let both = and_parts (eqb x t.end.0) (eqb l t.line.0) is in
    subst (λ y. P y l) (sym (eqb-true x t.end.0 both.0)) (subst (P t.end.0) (sym (eqb-true l t.line.0 both.1)) there)

-- A line is one of its end, or such that no line may be so.
abbrev MayCome : Facts → Sender → LineNow → Type 0
MayCome f t y = (y ≡ no_line) ⊎ (t.line.0 < lines_of (f.end t.end.0).kind)

-- the lines of an end where one changes, but not in whether a notice was put
changed_line : (f : Facts) (t : Sender) (x : ℕ) (new : Bool → LineNow → LineNow) → MayCome f t (new true no_line) → ((y : LineNow) → new false y ≡ y) → ((b : Bool) (y : LineNow) → (new b y).noticed ≡ y.noticed) → MarksAt f x → Marks (lines_of (f.end x).kind) (λ l. new (eqb x t.end.0 && eqb l t.line.0) (f.line x l)) (f.accepted x)
changed_line f t x new may others noticed s = record {
  none = λ l past. none l past (eqb x t.end.0 && eqb l t.line.0) refl;
  ports = s.ports;
  messages = λ l plain. s.messages l (sym (noticed (eqb x t.end.0 && eqb l t.line.0) (f.line x l)) ∙ plain);
  last = s.last;
}
  where
    none : (l : ℕ) → lines_of (f.end x).kind ≤ l → (b : Bool) → (eqb x t.end.0 && eqb l t.line.0) ≡ b → new b (f.line x l) ≡ no_line
    none l past false is = others (f.line x l) ∙ s.none l past
    none l past true is = elim may [
      | inl same ↦ ap (new true) (s.none l past) ∙ same
      | inr less ↦ let bound : l < lines_of (f.end x).kind = on_place (λ y k. k < lines_of (f.end y).kind) t x l is less in absurd (omega arith)
    ]

phased : (f : Facts) (t : Sender) (p : Phase) (x : ℕ) → MayCome f t (record no_line { phase = p }) → MarksAt f x → Marks (lines_of (f.end x).kind) (phased_line f t p x) (f.accepted x)
phased f t p x may s = changed_line f t x (λ b y. record y { phase = cond b p y.phase }) may (λ y. refl) (λ b y. refl) s

-- a line that an agent holds is one of its end
held_line : (f : Facts) (s : Sender) → LinesAt f s.end.0 → is_some (running f.agent (f.line s.end.0 s.line.0).held_by) ≡ true → s.line.0 < lines_of (f.end s.end.0).kind
held_line f s h held = ⊎_elim (λ under. under) (λ past. absurd (false≢true (sym (ap (λ (y : LineNow). is_some (running f.agent y.held_by)) (h.none s.line.0 past)) ∙ held))) (cases_lt s.line.0 (lines_of (f.end s.end.0).kind))

-- a line with a poster is one of its end
some_line : (f : Facts) (s : Sender) → LinesAt f s.end.0 → (p : Option Kind) → (f.end s.end.0).kind ≡ p → is_some (poster_of (speaker f s.end.0) (running f.agent (owner_by f.end s.line.0 (f.line s.end.0 s.line.0).held_by p)) s.line.0 p) ≡ true → s.line.0 < lines_of p
some_line f s h None is speaks = absurd (false≢true speaks)
some_line f s h (Some (Port q)) is speaks = at_test (λ q. is_some (running f.agent q) ≡ true → s.line.0 < 1) (eqb s.line.0 0) (with_agent (f.end q.0).place) None (λ zeroth _. let first : s.line.0 ≡ 0 = eqb-true s.line.0 0 zeroth in omega arith) (λ _ no. absurd (false≢true no)) speaks
some_line f s h (Some Client) is speaks = subst (λ p. s.line.0 < lines_of p) is (held_line f s h speaks)
some_line f s h (Some Worker) is speaks = subst (λ p. s.line.0 < lines_of p) is (held_line f s h speaks)
some_line f s h (Some (Member a)) is speaks = at_test (λ q. is_some q ≡ true → s.line.0 < 1) (eqb s.line.0 0) (speaker f s.end.0) None (λ zeroth _. let first : s.line.0 ≡ 0 = eqb-true s.line.0 0 zeroth in omega arith) (λ _ no. absurd (false≢true no)) speaks

heard_line : (f : Facts) (l : ℕ) (p : Option Kind) → (eqb l 0 && is_here (option_and_then (λ q. (f.end q).place) (peer_of p))) ≡ true → l < lines_of p
heard_line f l (Some (Port q)) h = let zeroth : l ≡ 0 = eqb-true l 0 (and_parts (eqb l 0) (is_here (f.end q.0).place) h).0 in omega arith
heard_line f l _ h = absurd (false≢true ((and_parts (eqb l 0) false h).1))

-- a line that may be entered is one of its end
pub line_there : (f : Facts) (s : Sender) → LinesAt f s.end.0 → may_enter f s ≡ true → s.line.0 < lines_of (f.end s.end.0).kind
line_there f s lines h = elim (is_some (poster f s)) as (λ b. is_some (poster f s) ≡ b → (b || port_place_allows_notice f s) ≡ true → s.line.0 < lines_of (f.end s.end.0).kind) [
  | true ↦ λ speaks _. some_line f s lines (f.end s.end.0).kind refl speaks
  | false ↦ λ _ hears. heard_line f s.line.0 (f.end s.end.0).kind hears
] refl h

-- ---- pushing

-- the envelopes of a line, with one more
pub by_more : (line : ℕ) (ts : List Envelope) (v : Envelope) (b : Bool) → eqb v.line.0 line ≡ b → by line (ts ++ v ∷ []) ≡ by line ts ++ cond b (v ∷ []) []
by_more line ts v b is = filter-append _ ts (v ∷ []) ∙ ap (λ c. by line ts ++ cond c (v ∷ []) []) is

-- what was accepted of a line is of queues that the line came to
pub line_epochs : (x n : ℕ) (line : ℕ → LineNow) (vs : List Envelope) (l : ℕ) → AllByRecursion (IsOfEnd x n line) vs → AllByRecursion (λ (u : Envelope). u.epoch ≤ (line l).stand) (by l vs)
line_epochs x n line [] l h = tt
line_epochs x n line (v ∷ vs) l h = at_test (AllByRecursion (λ (u : Envelope). u.epoch ≤ (line l).stand)) (eqb v.line.0 l) (v ∷ by l vs) (by l vs) (λ t. let same : v.line.0 ≡ l = search (rules, t) in (subst (λ k. v.epoch ≤ (line k).stand) same h.0.epoch, line_epochs x n line vs l h.1)) (λ t. line_epochs x n line vs l h.1)

-- numbers
abbrev pub Numbered : List ℕ → Type 0
Numbered ns = ns ≡ up_to (length ns)

-- an envelope that may be put on a line now
pub record MayPut (f : Facts) (s : Sender) (v : Envelope) : Type 0 where
  pub end : v.end.0 ≡ s.end.0
  pub line : v.line.0 ≡ s.line.0
  pub epoch : v.epoch ≡ (f.line s.end.0 s.line.0).stand
  pub number : v.number ≡ count_in_queue s.line.0 (f.line s.end.0 s.line.0).stand (f.accepted s.end.0)
  pub ports : is_distinct v.ports ≡ true
  pub there : s.line.0 < lines_of (f.end s.end.0).kind
  pub inside : is_inside (phase_of_line f s) ≡ true
  pub plain : (f.line s.end.0 s.line.0).noticed ≡ false

may_put_now : (f : Facts) (s : Sender) (n : Acceptance) (a : AgentId) (v : Envelope) → v ≡ record (named_notice s n) { body = v.body; ports = v.ports; notice = v.notice } → n ≡ name_of (put_there f s) f s a → is_distinct v.ports ≡ true → s.line.0 < lines_of (f.end s.end.0).kind → is_inside (phase_of_line f s) ≡ true → (f.line s.end.0 s.line.0).noticed ≡ false → MayPut f s v
may_put_now f s n a v is name ports there inside plain = record {
  end = ap (λ (u : Envelope). u.end.0) is;
  line = ap (λ (u : Envelope). u.line.0) is;
  epoch = ap (λ (u : Envelope). u.epoch) is ∙ ap (λ (m : Acceptance). m.epoch) name;
  number = ap (λ (u : Envelope). u.number) is ∙ ap (λ (m : Acceptance). m.number) name;
  ports = ports;
  there = there;
  inside = inside;
  plain = plain;
}

pub message_may : (f : Facts) (s : Sender) (ports : List EndId) (body : List ℕ) (n : Acceptance) → LinesAt f s.end.0 → Pushed f s ports n → MayPut f s (named_envelope s n body ports)
message_may f s ports body n h p = may_put_now f s n p.agent _ refl p.name p.distinct (some_line f s h (f.end s.end.0).kind refl (ap is_some p.speaks)) p.inside p.plain

pub notice_may : (f : Facts) (s : Sender) (n : Acceptance) → Noticed f s n → MayPut f s (named_notice s n)
notice_may f s n p = may_put_now f s n (record { 0 = 0 }) _ refl p.name refl (heard_line f s.line.0 (f.end s.end.0).kind p.hears) p.inside p.plain

-- of a line with messages alone, a notice put now is the last
only_last : (vs before after : List Envelope) (v u : Envelope) → AllByRecursion (λ (w : Envelope). w.notice ≡ false) vs → vs ++ v ∷ [] ≡ before ++ u ∷ after → u.notice ≡ true → after ≡ []
only_last [] [] after v u h is notice = cc
only_last [] (b ∷ []) after v u h is notice = cc
only_last [] (b ∷ c ∷ before) after v u h is notice = cc
only_last (w ∷ vs) [] after v u h is notice = let same : w ≡ u = cc in absurd (false≢true (sym h.0 ∙ (ap (λ (x : Envelope). x.notice) same ∙ notice)))
only_last (w ∷ vs) (b ∷ before) after v u h is notice = let rest : vs ++ v ∷ [] ≡ before ++ u ∷ after = cc in only_last vs before after v u h.1 rest notice

last_put : (vs : List Envelope) (v : Envelope) (l : ℕ) → (v.line.0 ≡ l → AllByRecursion (λ (w : Envelope). w.notice ≡ false) (by l vs)) → ((before after : List Envelope) (u : Envelope) → by l vs ≡ before ++ u ∷ after → u.notice ≡ true → after ≡ []) → (before after : List Envelope) (u : Envelope) → by l (vs ++ v ∷ []) ≡ before ++ u ∷ after → u.notice ≡ true → after ≡ []
last_put vs v l plain old before after u is notice = ⊎_elim
    (λ mine. only_last (by l vs) before after v u (plain mine) (sym (by_more l vs v true (eq-eqb v.line.0 l mine)) ∙ is) notice)
    (λ other. old before after u (sym (by_more l vs v false (ne_eqb v.line.0 l other) ∙ append-nil (by l vs)) ∙ is) notice)
    (cases_eq v.line.0 l)

messages_put : (vs : List Envelope) (v : Envelope) (l : ℕ) → AllByRecursion (λ (w : Envelope). w.notice ≡ false) (by l vs) → (v.line.0 ≡ l → v.notice ≡ false) → AllByRecursion (λ (w : Envelope). w.notice ≡ false) (by l (vs ++ v ∷ []))
messages_put vs v l old mine = subst (AllByRecursion (λ (w : Envelope). w.notice ≡ false)) (sym (by_more l vs v (eqb v.line.0 l) refl))
    (AllByRecursion-append (λ (w : Envelope). w.notice ≡ false) (by l vs) (cond (eqb v.line.0 l) (v ∷ []) []) old (at_test (AllByRecursion (λ (w : Envelope). w.notice ≡ false)) (eqb v.line.0 l) (v ∷ []) [] (λ is. (mine (eqb-true v.line.0 l is), tt)) (λ _. tt)))

-- the lines of the end, where at most what was noticed changes
put_lines : (f : Facts) (s : Sender) (v : Envelope) (x : ℕ) → MayPut f s v → MarksAt f x → x ≡ s.end.0 → (line : ℕ → LineNow) → ((l : ℕ) → lines_of (f.end x).kind ≤ l → line l ≡ no_line)
    → ((l : ℕ) → (line l).noticed ≡ false → ((f.line x l).noticed ≡ false) × (v.line.0 ≡ l → v.notice ≡ false)) → Marks (lines_of (f.end x).kind) line (f.accepted x ++ v ∷ [])
put_lines f s v x p h here line none noticed =
    let plain : (f.line x s.line.0).noticed ≡ false = ap (λ y. (f.line y s.line.0).noticed) here ∙ p.plain in
    record {
      none = none;
      ports = AllByRecursion-append (λ (u : Envelope). is_distinct u.ports ≡ true) (f.accepted x) (v ∷ []) h.ports (p.ports, tt);
      messages = λ l is. messages_put (f.accepted x) v l (h.messages l (noticed l is).0) (noticed l is).1;
      last = λ l. last_put (f.accepted x) v l (λ same. h.messages l (ap (λ i. (f.line x i).noticed) (sym same ∙ p.line) ∙ plain)) (h.last l);
    }

put_at : (f : Facts) (s : Sender) (v : Envelope) (x : ℕ) → MayPut f s v → v.notice ≡ false → MarksAt f x → (b : Bool) → eqb x s.end.0 ≡ b → Marks (lines_of (f.end x).kind) (f.line x) (cond b (f.accepted x ++ v ∷ []) (f.accepted x))
put_at f s v x p message h false is = h
put_at f s v x p message h true is = put_lines f s v x p h (eqb-true x s.end.0 is) (f.line x) h.none (λ l plain. (plain, λ _. message))

-- a line on which a notice was put
abbrev pub told_line : Facts → Sender → ℕ → ℕ → LineNow
told_line f t x l = record (f.line x l) { noticed = on_line x l t true (f.line x l).noticed }

told_none : (f : Facts) (s : Sender) (x l : ℕ) → s.line.0 < lines_of (f.end x).kind → lines_of (f.end x).kind ≤ l → f.line x l ≡ no_line → (c : Bool) → eqb l s.line.0 ≡ c → (let y : LineNow = record (f.line x l) { noticed = cond c true (f.line x l).noticed } in y ≡ no_line)
told_none f s x l low past none true is = absurd (let same : l ≡ s.line.0 = eqb-true l s.line.0 is in omega arith)
told_none f s x l low past none false is = none

told_false : (l m : ℕ) (old : Bool) → (c : Bool) → eqb l m ≡ c → cond c true old ≡ false → (old ≡ false) × (l ≡ m → ⊥)
told_false l m old true is h = absurd (false≢true (sym h))
told_false l m old false is h = (h, eqb-false l m is)

notice_at : (f : Facts) (s : Sender) (v : Envelope) (x : ℕ) → MayPut f s v → MarksAt f x → (b : Bool) → eqb x s.end.0 ≡ b → Marks (lines_of (f.end x).kind) (λ l. record (f.line x l) { noticed = cond (b && eqb l s.line.0) true (f.line x l).noticed }) (cond b (f.accepted x ++ v ∷ []) (f.accepted x))
notice_at f s v x p h false is = h
notice_at f s v x p h true is =
    let here : x ≡ s.end.0 = eqb-true x s.end.0 is in
    let low : s.line.0 < lines_of (f.end x).kind = subst (λ y. s.line.0 < lines_of (f.end y).kind) (sym here) p.there in
    put_lines f s v x p h here (λ l. record (f.line x l) { noticed = cond (eqb l s.line.0) true (f.line x l).noticed }) (λ l past. told_none f s x l low past (h.none l past) (eqb l s.line.0) refl)
    (λ l plain. let both = told_false l s.line.0 (f.line x l).noticed (eqb l s.line.0) refl plain in (both.0, λ same. absurd (both.1 (sym same ∙ p.line))))

-- ---- going on

-- a line at the next queue
abbrev pub gone_line : Facts → Sender → ℕ → ℕ → LineNow
gone_line f t x l = record (f.line x l) { stand = cond (eqb x t.end.0 && eqb l t.line.0) ((f.line x l).stand + 1) (f.line x l).stand }

-- ---- who is inside

-- nobody is inside a queue at which nobody is
pub nobody_inside : (f : Facts) (x k l : ℕ) → LinesAt f x → someone_at f x k ≡ false → (f.line x l).phase ≡ Inside → (f.line x l).stand ≡ k → ⊥
nobody_inside f x k l s none inside at = ⊎_elim
    (λ low.
    let there : is_away_at k (f.line x l) ≡ true = rw (inside, at) (eqb_same k) in
    false≢true (sym (none_of_any (λ i. is_away_at k (f.line x i)) (lines_of (f.end x).kind) l none low) ∙ there))
    (λ high. absurd (search (rules, sym (ap (λ (y : LineNow). y.phase) (s.none l high)) ∙ inside)))
    (cases_lt l (lines_of (f.end x).kind))

-- a line inside is at none of the settled queues
pub inside_unsettled : (f : Facts) (x k l : ℕ) → LinesAt f x → is_settled f x k ≡ true → (f.line x l).phase ≡ Inside → (f.line x l).stand ≡ k → ⊥
inside_unsettled f x k l s settled inside at = elim (f.clear x k) as (λ b. f.clear x k ≡ b → (b || not (someone_at f x k)) ≡ true → ⊥) [
  | true ↦ λ clear _. false≢true (sym (s.inside_unclear l inside) ∙ (ap (f.clear x) at ∙ clear))
  | false ↦ λ _ none. nobody_inside f x k l s (not-true (someone_at f x k) none) inside at
] refl settled

-- ---- holding

-- a line that another agent holds, or none
abbrev pub held_line_as : Facts → Sender → Option AgentId → ℕ → ℕ → LineNow
held_line_as f t holder x l = record (f.line x l) { held_by = on_line x l t holder (f.line x l).held_by }

held : (f : Facts) (t : Sender) (holder : Option AgentId) (x : ℕ) → MayCome f t (record no_line { held_by = holder }) → MarksAt f x → Marks (lines_of (f.end x).kind) (held_line_as f t holder x) (f.accepted x)
held f t holder x may s = changed_line f t x (λ b y. record y { held_by = cond b holder y.held_by }) may (λ y. refl) (λ b y. refl) s

-- the lines of a queue are those that agents hold
pub queue_lines : (p : Option Kind) → is_queue p ≡ true → lines_of p ≡ MAX_LINES
queue_lines (Some Client) h = refl
queue_lines (Some Worker) h = refl
queue_lines _ h = absurd (false≢true h)

-- ---- every pair that changes something

pub marks_next : (f : Facts) (refused : Bool) → IsUnmade f → ((x : ℕ) → LinesAt f x) → ((x : ℕ) → MarksAt f x) → (o : Outcome) (a : Action) → Answers f a refused o → (x : ℕ) → MarksAt (next f a o) x
marks_next f refused none h m (outcome.Ends e e') (action.Channel a) fits x =
    let made = new_ends f a refused e e' fits in
    grown (lines_of (f.end x).kind) _ (f.line x) (f.accepted x) (more_lines (eqb x e.0) (eqb x e'.0) (Port e') (Port e) (f.end x).kind (λ is. ap (λ (d : EndNow). d.kind) (unmade_end f e e' x none made.1 made.2 is))) (m x)
marks_next f refused none h m (outcome.End e) (action.Client a) fits x = made_marks f e Client x none (queue_made_of f Client a refused e fits).number (m x)
marks_next f refused none h m (outcome.End e) (action.Worker a) fits x = made_marks f e Worker x none (queue_made_of f Worker a refused e fits).number (m x)
marks_next f refused none h m (outcome.End e) (action.Member a name) fits x = made_marks f e (Member a) x none (member_made_of f a refused e fits).number (m x)
marks_next f refused none h m (outcome.Line l) (action.Line e a) fits x =
    let gets = line_got_of f e a l fits in
    held f (record { end = e; line = l }) (Some a) x (inr (subst (λ n. l.0 < n) (sym (queue_lines (f.end e.0).kind gets.queue)) gets.low)) (m x)
marks_next f refused none h m outcome.Done (action.Back s) fits x = held f s None x (inl refl) (m x)
marks_next f refused none h m outcome.In (action.Enter s) fits x = phased f s Inside x (inr (line_there f s (h s.end.0) (let_in_of f s fits).0.may)) (m x)
marks_next f refused none h m outcome.Moved (action.Enter s) fits x = phased f s Turned x (inr (line_there f s (h s.end.0) (found_moved_of f s fits).0.may)) (m x)
marks_next f refused none h m outcome.Closed (action.Enter s) fits x = phased f s Turned x (inr (line_there f s (h s.end.0) (found_closed_of f s fits).0.may)) (m x)
marks_next f refused none h m (outcome.Accepted n) (action.Push s ports body) fits x = put_at f s (named_envelope s n body ports) x (message_may f s ports body n (h s.end.0) (pushed_of f s ports body refused n fits)) refl (m x) (eqb x s.end.0) refl
marks_next f refused none h m (outcome.Accepted n) (action.Notice s) fits x = notice_at f s (named_notice s n) x (notice_may f s n (noticed_of f s refused n fits)) (m x) (eqb x s.end.0) refl
marks_next f refused none h m outcome.Left (action.Leave s) fits x = phased f s Out x (inl refl) (m x)
marks_next f refused none h m (outcome.Hopped k) (action.Hop s) fits x = changed_line f s x (λ b y. record y { stand = cond b (y.stand + 1) y.stand }) (inr (line_there f s (h s.end.0) (hopped_of f s k fits).may)) (λ y. refl) (λ b y. refl) (m x)
marks_next f refused none h m o a fits x = m x

-- ==== What a mailbox doesn't show of what waits stays so with each pair that fits.

abbrev pub WaitingAt : Facts → ℕ → Type 0
WaitingAt f x = SoundWaiting (f.end x).taker_stand (f.end x).closed (f.line x) (f.accepted x) (f.taken x) (f.discarded x)

-- What a mailbox doesn't show of it, where what was taken and what was discarded is one, and a queue that it hasn't is
-- none. No queue past the newest is clear. What was taken is of queues that the taker came to, and what was discarded of
-- no older ones than the taker's. Nothing is discarded while the end is open or a line is inside, and where something
-- was discarded nothing waits.
pub record Leavings (newest taker : ℕ) (closed : Bool) (line : ℕ → LineNow) (clear : ℕ → Bool) (accepted taken discarded : List Envelope) : Type 0 where
  pub unclear : (k : ℕ) → newest < k → clear k ≡ false
  pub reached : AllByRecursion (λ v. v.epoch ≤ taker) taken
  pub from : AllByRecursion (λ v. taker ≤ v.epoch) discarded
  pub kept : closed ≡ false → discarded ≡ []
  pub nobody : (l : ℕ) → (line l).phase ≡ Inside → discarded ≡ []
  pub swept : (discarded ≡ []) ⊎ ((l : ℕ) → by l (taken ++ discarded) ≡ by l accepted)

abbrev pub LeavingsAt : Facts → ℕ → Type 0
LeavingsAt f x = Leavings (f.end x).newest (f.end x).taker_stand (f.end x).closed (f.line x) (f.clear x) (f.accepted x) (f.taken x) (f.discarded x)

-- what was removed from the queues, where nothing was discarded
pub nothing_more : (ts ds : List Envelope) → ds ≡ [] → ts ++ ds ≡ ts
nothing_more ts ds none = ap (λ us. ts ++ us) none ∙ append-nil ts

-- what was taken of a line is a prefix too
pub taken_prefix : (l : ℕ) (ts ds vs : List Envelope) → Prefix (by l (ts ++ ds)) (by l vs) → Prefix (by l ts) (by l vs)
taken_prefix l ts ds vs p = (by l ds ++ p.0, p.1 ∙ ap (λ us. us ++ p.0) (filter-append _ ts ds) ∙ append_assoc (by l ts) (by l ds) p.0)

pub inside_of : (p : Phase) → is_inside p ≡ true → p ≡ Inside
inside_of Inside h = refl
inside_of _ h = cc

-- ---- lines

-- the lines changed: one may be inside only where nothing was discarded
relined : (n t : ℕ) (closed : Bool) (line after : ℕ → LineNow) (clear : ℕ → Bool) (vs ts ds : List Envelope) → ((l : ℕ) → (after l).phase ≡ Inside → ds ≡ []) → Leavings n t closed line clear vs ts ds → Leavings n t closed after clear vs ts ds
relined n t closed line after clear vs ts ds nobody h = record { unclear = h.unclear; reached = h.reached; from = h.from; kept = h.kept; nobody = nobody; swept = h.swept }

left_phased : (f : Facts) (t : Sender) (p : Phase) (x : ℕ) → (p ≡ Inside → f.discarded t.end.0 ≡ []) → LeavingsAt f x → Leavings (f.end x).newest (f.end x).taker_stand (f.end x).closed (phased_line f t p x) (f.clear x) (f.accepted x) (f.taken x) (f.discarded x)
left_phased f t p x may h = relined _ _ _ (f.line x) _ _ _ _ _ (λ l is. at_test (λ q. q ≡ Inside → f.discarded x ≡ []) (eqb x t.end.0 && eqb l t.line.0) p (f.line x l).phase
    (λ on inside. let here : x ≡ t.end.0 = eqb-true x t.end.0 (and_parts (eqb x t.end.0) (eqb l t.line.0) on).0 in ap f.discarded here ∙ may inside)
    (λ on inside. h.nobody l inside) is) h

-- ---- pushing

left_put : (f : Facts) (s : Sender) (v : Envelope) (x : ℕ) → MayPut f s v → LeavingsAt f x → (b : Bool) → eqb x s.end.0 ≡ b → Leavings (f.end x).newest (f.end x).taker_stand (f.end x).closed (f.line x) (f.clear x) (cond b (f.accepted x ++ v ∷ []) (f.accepted x)) (f.taken x) (f.discarded x)
left_put f s v x p h false is = h
left_put f s v x p h true is = record {
  unclear = h.unclear;
  reached = h.reached;
  from = h.from;
  kept = h.kept;
  nobody = h.nobody;
  swept = inl (h.nobody s.line.0 (ap (λ y. (f.line y s.line.0).phase) (eqb-true x s.end.0 is) ∙ inside_of (phase_of_line f s) p.inside));
}

-- ---- taking

got_line : (f : Facts) (e : EndId) (v : Envelope) (line : ℕ) → IsNext f e v → Prefix (by line (f.taken e.0)) (by line (f.accepted e.0)) → (b : Bool) → eqb v.line.0 line ≡ b → Prefix (by line (f.taken e.0 ++ v ∷ [])) (by line (f.accepted e.0))
got_line f e v line n old true is =
    let same : v.line.0 ≡ line = search (rules, is) in subst (λ l. Prefix (by l (f.taken e.0 ++ v ∷ [])) (by l (f.accepted e.0))) same n.order
got_line f e v line n old false is =
    let kept : by line (f.taken e.0 ++ v ∷ []) ≡ by line (f.taken e.0) = by_more line (f.taken e.0) v false is ∙ append-nil (by line (f.taken e.0)) in
    subst (λ us. Prefix us (by line (f.accepted e.0))) (sym kept) old

-- what was taken with the envelope that comes next is a prefix too
pub got_prefix : (f : Facts) (e : EndId) (v : Envelope) → IsNext f e v → WaitingAt f e.0 → (l : ℕ) → Prefix (by l (f.taken e.0 ++ v ∷ [])) (by l (f.accepted e.0))
got_prefix f e v n h l = got_line f e v l n (taken_prefix l (f.taken e.0) (f.discarded e.0) (f.accepted e.0) (h.prefix l)) (eqb v.line.0 l) refl

left_got : (f : Facts) (e : EndId) (v : Envelope) (x : ℕ) → IsNext f e v → (f.end e.0).closed ≡ false → LeavingsAt f x → (b : Bool) → eqb x e.0 ≡ b → Leavings (f.end x).newest (f.end x).taker_stand (f.end x).closed (f.line x) (f.clear x) (f.accepted x) (cond b (f.taken x ++ v ∷ []) (f.taken x)) (f.discarded x)
left_got f e v x n opened h false is = h
left_got f e v x n opened h true is =
    let here : x ≡ e.0 = eqb-true x e.0 is in
    let epoch : v.epoch ≡ (f.end x).taker_stand = n.epoch ∙ ap (λ y. (f.end y).taker_stand) (sym here) in
    record {
      unclear = h.unclear;
      reached = AllByRecursion-append (λ (u : Envelope). u.epoch ≤ (f.end x).taker_stand) (f.taken x) (v ∷ []) h.reached (omega arith, tt);
      from = h.from;
      kept = h.kept;
      nobody = h.nobody;
      swept = inl (h.kept (ap (λ y. (f.end y).closed) here ∙ opened));
    }

left_went : (f : Facts) (e : EndId) (x : ℕ) → (f.end e.0).closed ≡ false → LeavingsAt f x → (b : Bool) → eqb x e.0 ≡ b → Leavings (f.end x).newest (cond b ((f.end x).taker_stand + 1) (f.end x).taker_stand) (f.end x).closed (f.line x) (f.clear x) (f.accepted x) (f.taken x) (f.discarded x)
left_went f e x opened h false is = h
left_went f e x opened h true is = record {
  unclear = h.unclear;
  reached = AllByRecursion-weaker (λ (u : Envelope). u.epoch ≤ (f.end x).taker_stand) (λ u. u.epoch ≤ (f.end x).taker_stand + 1) (λ u less. omega arith) (f.taken x) h.reached;
  from = subst (AllByRecursion (λ (u : Envelope). (f.end x).taker_stand + 1 ≤ u.epoch)) (sym (h.kept (ap (λ y. (f.end y).closed) (eqb-true x e.0 is) ∙ opened))) tt;
  kept = h.kept;
  nobody = h.nobody;
  swept = h.swept;
}

-- ---- queues that are clear

left_cleared : (f : Facts) (e : EndId) (k x : ℕ) → k ≤ (f.end e.0).newest → LeavingsAt f x → (b : Bool) → eqb x e.0 ≡ b → Leavings (f.end x).newest (f.end x).taker_stand (f.end x).closed (f.line x) (λ i. cond (b && eqb i k) true (f.clear x i)) (f.accepted x) (f.taken x) (f.discarded x)
left_cleared f e k x low h false is = h
left_cleared f e k x low h true is = record {
  unclear = λ i past.
      let newest : (f.end x).newest ≡ (f.end e.0).newest = ap (λ y. (f.end y).newest) (eqb-true x e.0 is) in
      ap (λ c. cond c true (f.clear x i)) (ne_eqb i k (λ same. absurd (omega arith))) ∙ h.unclear i past;
  reached = h.reached;
  from = h.from;
  kept = h.kept;
  nobody = h.nobody;
  swept = h.swept;
}

left_longer : (f : Facts) (x : ℕ) → LeavingsAt f x → (b : Bool) → Leavings (cond b ((f.end x).newest + 1) (f.end x).newest) (f.end x).taker_stand (f.end x).closed (f.line x) (f.clear x) (f.accepted x) (f.taken x) (f.discarded x)
left_longer f x h false = h
left_longer f x h true = record { unclear = λ k past. h.unclear k (omega arith); reached = h.reached; from = h.from; kept = h.kept; nobody = h.nobody; swept = h.swept }

-- ---- closing and sweeping

left_shut : (f : Facts) (x : ℕ) → LeavingsAt f x → (b : Bool) → Leavings (f.end x).newest (f.end x).taker_stand (cond b true (f.end x).closed) (f.line x) (f.clear x) (f.accepted x) (f.taken x) (f.discarded x)
left_shut f x h false = h
left_shut f x h true = record { unclear = h.unclear; reached = h.reached; from = h.from; kept = λ is. absurd (false≢true (sym is)); nobody = h.nobody; swept = h.swept }

pub all_by_lines : (P : Envelope → Type 0) (vs : List Envelope) → ((l : ℕ) → AllByRecursion P (by l vs)) → AllByRecursion P vs
all_by_lines P [] h = tt
all_by_lines P (v ∷ vs) h =
    let mine : AllByRecursion P (v ∷ by v.line.0 vs) = subst (λ b. AllByRecursion P (cond b (v ∷ by v.line.0 vs) (by v.line.0 vs))) (eqb_same v.line.0) (h v.line.0) in (
      mine.0,
      all_by_lines P vs (λ l. at_test (λ us. AllByRecursion P us → AllByRecursion P (by l vs)) (eqb v.line.0 l) (v ∷ by l vs) (by l vs) (λ _ both. both.1) (λ _ rest. rest) (h l)),
    )

pub same_rises : (t : ℕ) (vs : List Envelope) → AllByRecursion (λ (v : Envelope). v.epoch ≡ t) vs → Rises vs
same_rises t [] h = tt
same_rises t (v ∷ vs) h =
    let first : v.epoch ≡ t = h.0 in
    (AllByRecursion-weaker (λ (u : Envelope). u.epoch ≡ t) (λ u. v.epoch ≤ u.epoch) (λ u is. omega arith) vs h.1, same_rises t vs h.1)

pub rises_joined : (t : ℕ) (us vs : List Envelope) → Rises us → Rises vs → AllByRecursion (λ (u : Envelope). u.epoch ≤ t) us → AllByRecursion (λ (u : Envelope). t ≤ u.epoch) vs → Rises (us ++ vs)
rises_joined t [] vs r q low high = q
rises_joined t (u ∷ us) vs r q low high =
    let first : u.epoch ≤ t = low.0 in (
      AllByRecursion-append (λ (w : Envelope). u.epoch ≤ w.epoch) us vs r.0 (AllByRecursion-weaker (λ (w : Envelope). t ≤ w.epoch) (λ w. u.epoch ≤ w.epoch) (λ w more. let least : t ≤ w.epoch = more in omega arith) vs high),
      rises_joined t us vs r.1 q low.1 high,
    )

module _ (f : Facts) (x : ℕ) (vs : List Envelope) (h : WaitingAt f x) (all : IsAllWaiting f x vs) where
  -- what waited of a line
  split_line : (l : ℕ) → by l (f.taken x ++ f.discarded x) ++ by l vs ≡ by l (f.accepted x)
  split_line l = sym (filter-append _ (f.taken x ++ f.discarded x) vs) ∙ all.all l

  none_behind : f.discarded x ≡ [] → (l k : ℕ) → k < (f.end x).taker_stand → in_queue k (by l vs) ≡ []
  none_behind none l k less =
      let removed : f.taken x ++ f.discarded x ≡ f.taken x = nothing_more (f.taken x) (f.discarded x) none in
      let line : by l (f.taken x) ++ by l vs ≡ by l (f.accepted x) = ap (λ us. by l us ++ by l vs) (sym removed) ∙ split_line l in
      append_cancel_left (in_queue k (by l (f.taken x))) (in_queue k (by l vs)) [] (sym (filter-append _ (by l (f.taken x)) (by l vs)) ∙ ap (in_queue k) line ∙ sym (h.behind l k less) ∙ sym (append-nil (in_queue k (by l (f.taken x)))))

  -- is of the taker's queue or later ones
  from_taker : f.discarded x ≡ [] → AllByRecursion (λ (u : Envelope). (f.end x).taker_stand ≤ u.epoch) vs
  from_taker none = all_by_lines (λ (u : Envelope). (f.end x).taker_stand ≤ u.epoch) vs (λ l. from_queue (f.end x).taker_stand (by l vs) (λ k less. none_behind none l k less))

  nothing_left : ((l : ℕ) → by l (f.taken x ++ f.discarded x) ≡ by l (f.accepted x)) → vs ≡ []
  nothing_left done = nothing_there vs (λ l. append_cancel_left (by l (f.taken x ++ f.discarded x)) (by l vs) [] (split_line l ∙ sym (done l) ∙ sym (append-nil (by l (f.taken x ++ f.discarded x)))))

  swept_from : AllByRecursion (λ (u : Envelope). (f.end x).taker_stand ≤ u.epoch) (f.discarded x) → AllByRecursion (λ (u : Envelope). (f.end x).taker_stand ≤ u.epoch) (f.discarded x ++ vs)
  swept_from old = AllByRecursion-append (λ (u : Envelope). (f.end x).taker_stand ≤ u.epoch) (f.discarded x) vs old (elim h.swept [
    | inl none ↦ from_taker none
    | inr done ↦ subst (AllByRecursion (λ (u : Envelope). (f.end x).taker_stand ≤ u.epoch)) (sym (nothing_left done)) tt
  ])

  -- everything is removed now
  pub all_removed : (l : ℕ) → by l (f.taken x ++ (f.discarded x ++ vs)) ≡ by l (f.accepted x)
  all_removed l = ap (by l) (sym (append_assoc (f.taken x) (f.discarded x) vs)) ∙ all.all l

-- nobody is inside an end whose queues are all settled
pub nobody_there : (f : Facts) (x l : ℕ) → LinesAt f x → all_settled f x ≡ true → (f.line x l).phase ≡ Inside → ⊥
nobody_there f x l s settled inside =
    let reached : (f.end x).taker_stand ≤ (f.line x l).stand = s.inside l inside in
    let within : (f.line x l).stand ≤ (f.end x).newest = s.stand l in
    inside_unsettled f x (f.line x l).stand l s (each_of (is_settled f x) (f.end x).taker_stand ((f.end x).newest - (f.end x).taker_stand + 1) settled (f.line x l).stand reached (omega arith)) inside refl

left_swept : (f : Facts) (e : EndId) (vs : List Envelope) (x : ℕ) → SweptWith f e vs → LinesAt f x → WaitingAt f x → LeavingsAt f x → (b : Bool) → eqb x e.0 ≡ b → Leavings (f.end x).newest (f.end x).taker_stand (f.end x).closed (f.line x) (f.clear x) (f.accepted x) (f.taken x) (cond b (f.discarded x ++ vs) (f.discarded x))
left_swept f e vs x w s h old false is = old
left_swept f e vs x w s h old true is =
    let here : x ≡ e.0 = eqb-true x e.0 is in
    let all : IsAllWaiting f x vs = subst (λ y. IsAllWaiting f y vs) (sym here) w.all in
    record {
      unclear = old.unclear;
      reached = old.reached;
      from = swept_from f x vs h all old.from;
      kept = λ opened. absurd (search (rules, false≢true, sym opened ∙ (ap (λ y. (f.end y).closed) here ∙ w.is_closed)));
      nobody = λ l inside. absurd (nobody_there f x l s (ap (all_settled f) here ∙ w.settled) inside);
      swept = inr (all_removed f x vs h all);
    }

pub leavings_next : (f : Facts) (refused : Bool) → ((x : ℕ) → LinesAt f x) → ((x : ℕ) → WaitingAt f x) → ((x : ℕ) → LeavingsAt f x) → (o : Outcome) (a : Action) → Answers f a refused o → (x : ℕ) → LeavingsAt (next f a o) x
leavings_next f refused lines waits h outcome.In (action.Enter s) fits x = left_phased f s Inside x (λ _. (h s.end.0).kept (let_in_of f s fits).2) (h x)
leavings_next f refused lines waits h outcome.Moved (action.Enter s) fits x = left_phased f s Turned x (λ is. cc) (h x)
leavings_next f refused lines waits h outcome.Closed (action.Enter s) fits x = left_phased f s Turned x (λ is. cc) (h x)
leavings_next f refused lines waits h (outcome.Accepted n) (action.Push s ports body) fits x = left_put f s (named_envelope s n body ports) x (message_may f s ports body n (lines s.end.0) (pushed_of f s ports body refused n fits)) (h x) (eqb x s.end.0) refl
leavings_next f refused lines waits h (outcome.Accepted n) (action.Notice s) fits x =
    let still = left_put f s (named_notice s n) x (notice_may f s n (noticed_of f s refused n fits)) (h x) (eqb x s.end.0) refl in
    relined _ _ _ (f.line x) _ _ _ _ _ (h x).nobody still
leavings_next f refused lines waits h outcome.Left (action.Leave s) fits x = left_phased f s Out x (λ is. cc) (h x)
leavings_next f refused lines waits h (outcome.Hopped k) (action.Hop s) fits x = relined _ _ _ (f.line x) _ _ _ _ _ (h x).nobody (h x)
leavings_next f refused lines waits h (outcome.Got v) (action.Take e) fits x = let served = got_of f e v fits in left_got f e v x served.serves served.is_open (h x) (eqb x e.0) refl
leavings_next f refused lines waits h outcome.Again (action.Take e) fits x = left_went f e x (went_on_of f e fits).is_open (h x) (eqb x e.0) refl
leavings_next f refused lines waits h (outcome.Clear (Some k)) (action.Look e) fits x =
    let clears = cleared_of f e k fits in
    let low : k ≤ (f.end e.0).newest = ⊎_elim (λ less. omega arith) (λ last. let same : k ≡ (f.end e.0).newest = last.0 in omega arith) (looked_where (f.end e.0).taker_stand (f.end e.0).newest k (f.end e.0).closed (lines e.0).taker_stand clears.looks.below) in
    left_cleared f e k x low (h x) (eqb x e.0) refl
leavings_next f refused lines waits h (outcome.Adopted k) (action.Adopt e a) fits x = left_longer f x (h x) (eqb x e.0)
leavings_next f refused lines waits h outcome.Done (action.Close e) fits x = left_shut f x (h x) (eqb x e.0)
leavings_next f refused lines waits h (outcome.Discarded vs) (action.Sweep e) fits x = left_swept f e vs x (swept_of f e vs fits) (lines x) (waits x) (h x) (eqb x e.0) refl
leavings_next f refused lines waits h (outcome.Line l) (action.Line e a) fits x = relined _ _ _ (f.line x) _ _ _ _ _ (h x).nobody (h x)
leavings_next f refused lines waits h outcome.Done (action.Back s) fits x = relined _ _ _ (f.line x) _ _ _ _ _ (h x).nobody (h x)
leavings_next f refused lines waits h o a fits x = h x
