-- Each step of a line keeps the rule of its gate.
use Rattle.std.proofs.Common.{◌≡◌, ◌≢◌, ℕ, zero, suc, ◌+◌, ◌-◌, ◌%◌, ◌^◌, ◌<◌, ◌||◌, Bool, true, false, true≢false, List, [], ◌∷◌, map, length, set, get_or, refl, sym, ap, ◌∙◌, subst, inr, ⊎_elim, arith, length-set, Option, Some, None}
use Rattle.std.specs.Prelude.{slice_get, sum_by, unwrap_or, MatchBool}
use mathlib.Core.Option.{some, none, some-injective, some-ne-none}
use mathlib.Core.Option as maybe
use lib.ListN.{get_elem?}
use Rattle.atomic_table.specs.Table.{State, Me, Act, Valid, step, keeps, takes, gives, stepped, carried_after, rest, Allows}
use Rattle.atomic_table.proofs.Lists.{at_set}
use Rattle.hub_core.specs.declared.line.Phase.{Phase}
use Rattle.hub_core.specs.declared.line.Phase.TheVariants as phase
use Rattle.hub_core.specs.GateMachine as machine
use Rattle.hub_gate.specs.declared.entry.Refusal.{Refusal}
use Rattle.hub_gate.specs.declared.entry.Refusal.TheVariants.{Moved, Closed}
use Rattle.hub_gate.specs.declared.word.Flag.TheVariants as flag
use Rattle.hub_gate.specs.declared.view.View.{View}
use Rattle.hub_gate.specs.declared.view.View.TheVariants.{LineOut, LineInside, LineTurned}
use Rattle.hub_gate.specs.declared.view.LineView.{LineView}
use Rattle.hub_gate.specs.GateRule.{slot_of, Owns, has_right_in_hand, IsLine, Knows, ShowsGate, IsGate}
use Rattle.atomic_table.specs.Seated.{TableId}
use Rattle.hub_gate.specs.GateSeats.{EntrySeat, InsideSeat, line_in}
use Rattle.hub_gate.specs.Entering.{IsLetIn, IsLetOut, left_seat}
use Rattle.hub_gate.specs.GatePlays.{entered_line, left_line, turned_line, Happens, IsTurned, IsIn, Enters, Leaves, TurnsBack}
use Rattle.hub_gate.proofs.Cases.{match_true, match_false, case_true, case_false}
use Rattle.hub_gate.proofs.Found.{new_word, found_flag, few_busy, happens_now}
use Rattle.hub_core.proofs.Items.{none_got, some_is}
use Rattle.hub_gate.proofs.Got.{got_here, got_else, set-map, sum_by-got_set}
use Rattle.hub_gate.proofs.Formed.{formed, there_again}
use Rattle.hub_gate.proofs.AfterRights.{let_in_before}
use Rattle.hub_gate.proofs.Seats.{shown_where, at_within, after, others_stay}
use Rattle.hub_gate.proofs.Words.{counts_up, counts_down}

home_there : {T : Type 0} (homes : List (Option T)) (l : ℕ) (r : T) → slice_get homes l ≡ Some (Some r) → get_elem? (map slot_of homes) l ≡ some (some (Some r))
home_there [] l r e = none_got (Some r) e
home_there (h ∷ homes) zero r e = ap (λ (o : Option _). some (slot_of o)) (some_is h (Some r) e)
home_there (h ∷ homes) (suc l) r e = home_there homes l r e

-- a line makes a step: it goes from one phase to another
module _ {T : Type 0} (tag : T → List ℕ) (s : State (Option T) (View T)) (shown : ShowsGate tag s) (id : ℕ) (v : LineView T) (p : Phase) (own : IsLine shown.tags shown.gate id v p) (low : id < length s.views) where
  -- how many are busy after the line went to another phase
  busy_after : (q : Phase) → sum_by machine.weight (set shown.gate.phases v.line q) + machine.weight p ≡ machine.busy shown.gate + machine.weight q
  busy_after q = sum_by-got_set machine.weight shown.gate.phases v.line p q own.at

  no_wrap : machine.busy shown.gate < 2 ^ 32
  no_wrap = let few = few_busy tag s shown in omega arith

  abbrev word_now : ℕ
  word_now = get_or s.words 0 0

  -- one more is busy
  pub up : (q : Phase) → machine.weight p ≡ 0 → machine.weight q ≡ 1 → (homes : List (Option T)) → set s.words 0 ((word_now + 256) % 2 ^ 64) ≡ machine.word (after shown.gate v.line q homes) ∷ []
  up q was one homes =
      let b = busy_after q in
      let more : machine.busy shown.gate + 1 ≡ sum_by machine.weight (set shown.gate.phases v.line q) = omega arith in
      new_word s.words (machine.word shown.gate) _ (λ n. (n + 256) % 2 ^ 64) shown.word
      (counts_up shown.gate.enabled shown.gate.moved shown.gate.closed (machine.busy shown.gate) no_wrap ∙ ap (machine.word_of shown.gate.enabled shown.gate.moved shown.gate.closed) more)

  -- one less is busy
  pub down : machine.weight p ≡ 1 → (homes : List (Option T)) → set s.words 0 ((word_now + (2 ^ 64 - 256)) % 2 ^ 64) ≡ machine.word (after shown.gate v.line phase.Out homes) ∷ []
  down one homes =
      let b = busy_after phase.Out in
      let room = no_wrap in
      let less : machine.busy shown.gate ≡ sum_by machine.weight (set shown.gate.phases v.line phase.Out) + 1 = omega arith in
      new_word s.words (machine.word shown.gate) _ (λ n. (n + (2 ^ 64 - 256)) % 2 ^ 64) shown.word
      (ap (λ (k : ℕ). (machine.word_of shown.gate.enabled shown.gate.moved shown.gate.closed k + (2 ^ 64 - 256)) % 2 ^ 64) less
      ∙ counts_down shown.gate.enabled shown.gate.moved shown.gate.closed (sum_by machine.weight (set shown.gate.phases v.line phase.Out)) (omega arith))

  -- the line is in the phase q, whatever else its view shows
  pub in_phase : (q : Phase) (homes : List (Option T)) (v' : LineView T) → v'.line ≡ v.line → v'.tag ≡ v.tag → (has_right_in_hand q ≡ false → shown.gate.collected ≡ false → slice_get homes v'.line ≡ Some v'.home) → IsLine shown.tags (after shown.gate v.line q homes) id v' q
  in_phase q homes v' line_is tag_is home = record {
    stands = own.stands ∙ ap (λ (l : ℕ). l + 1) (sym line_is);
    at = ap (slice_get (set shown.gate.phases v.line q)) line_is ∙ got_here shown.gate.phases v.line q p own.at;
    tag = ap (slice_get shown.tags) line_is ∙ own.tag ∙ ap Some (sym tag_is);
    home = home;
  }

  -- the rights of the other lines are at home as they were
  abbrev pub Elsewhere : List (Option T) → Type 0
  Elsewhere homes = (m : ℕ) → m ≢ v.line → slice_get homes m ≡ slice_get shown.gate.homes m

  -- what all seats know after the step
  seats_after : (q : Phase) (homes : List (Option T)) → Elsewhere homes → (w : View T) → Knows shown.tags (after shown.gate v.line q homes) (length s.views) id w
      → (seat : ℕ) (u : View T) → get_elem? (set s.views id w) seat ≡ some u → Knows shown.tags (after shown.gate v.line q homes) (length (set s.views id w)) seat u
  seats_after q homes elsewhere w mine seat u there =
      subst (λ (n : ℕ). Knows shown.tags (after shown.gate v.line q homes) n seat u) (sym (length-set s.views id w))
      (⊎_elim
      (λ me. subst (λ (x : View T). Knows shown.tags (after shown.gate v.line q homes) (length s.views) seat x) me.1 (subst (λ (i : ℕ). Knows shown.tags (after shown.gate v.line q homes) (length s.views) i w) (sym me.0) mine))
      (λ other. let stands = own.stands in others_stay shown.tags shown.gate v.line q homes elsewhere (length s.views) seat u (λ z. other.0 (z ∙ sym stands)) (omega arith) (shown.seats seat u other.1))
      (at_set s.views id seat w u there))

  -- the rule after the step, and what it tells
  pub goes : (q : Phase) (homes : List (Option T)) → Elsewhere homes → (event : machine.Event T) (answer : machine.Answer T) (table_homes : List (maybe.Option (Option T))) (n : ℕ) (w : View T) → machine.Steps (Owns tag shown.tags) shown.gate event answer (after shown.gate v.line q homes)
      → set s.words 0 n ≡ machine.word (after shown.gate v.line q homes) ∷ [] → table_homes ≡ map slot_of homes → Knows shown.tags (after shown.gate v.line q homes) (length s.views) id w
      → IsGate tag record { words = set s.words 0 n; homes = table_homes; views = set s.views id w } × Happens tag word_now event answer
  goes q homes elsewhere event answer table_homes n w takes_step word homes_are mine = (
    inr (record {
      gate = after shown.gate v.line q homes;
      tags = shown.tags;
      reached = machine.goes_on shown.gate (after shown.gate v.line q homes) event answer shown.reached takes_step;
      lines = length-set shown.gate.phases v.line q ∙ shown.lines;
      few = shown.few;
      word = word;
      homes = homes_are;
      seats = seats_after q homes elsewhere w mine;
    }),
    happens_now tag s shown event answer (after shown.gate v.line q homes) takes_step,
  )

-- the line enters
module _ {T : Type 0} (tag : T → List ℕ) (slots id : ℕ) (v : LineView T) (s : State (Option T) (View T)) (shown : ShowsGate tag s) (at : get_elem? s.views id ≡ some (LineOut v)) where
  abbrev own : IsLine shown.tags shown.gate id v phase.Out
  own = shown.seats id (LineOut v) at

  abbrev low : id < length s.views
  low = at_within s.views id (LineOut v) at

  abbrev found : ℕ
  found = get_or s.words 0 0

  abbrev word_then : ℕ
  word_then = (get_or s.words 0 0 + 256) % 2 ^ 64

  -- the line is being turned back
  turns : (refusal : Refusal) (answer : machine.Answer T) → machine.Steps (Owns tag shown.tags) shown.gate (machine.enter v.line) answer (machine.with_phase shown.gate v.line phase.Turned)
      → IsGate tag (stepped s 0 word_then id [] (LineTurned (entered_line v found (Some refusal))) keeps) × IsTurned tag v refusal answer found (LineTurned (entered_line v found (Some refusal)), [])
  turns refusal answer takes_step =
      let went = goes tag s shown id v phase.Out own low phase.Turned shown.gate.homes (λ m other. refl) (machine.enter v.line) answer s.homes word_then (LineTurned (entered_line v found (Some refusal))) takes_step
      (up tag s shown id v phase.Out own low phase.Turned refl refl shown.gate.homes)
      shown.homes
      (in_phase tag s shown id v phase.Out own low phase.Turned shown.gate.homes (entered_line v found (Some refusal)) refl refl (λ out. own.home refl)) in
      (went.0, (went.1, refl))

  -- the line is inside, and has its right
  passes : (r : T) → slice_get shown.gate.homes v.line ≡ Some (Some r) → Owns tag shown.tags v.line r → v.home ≡ Some r → shown.gate.moved ≡ false → shown.gate.closed ≡ false
      → Valid s.homes [] (takes v.line (Some r)) × IsGate tag (stepped s 0 word_then id [] (LineInside (entered_line v found None)) (takes v.line (Some r))) × IsIn tag v found (LineInside (entered_line v found None), (v.line, Some r) ∷ [])
  passes r home owns own_home not_moved not_closed =
      let went = goes tag s shown id v phase.Out own low phase.Inside (set shown.gate.homes v.line None) (λ m other. got_else shown.gate.homes v.line m None other) (machine.enter v.line) (machine.lets_in r) (set s.homes v.line none) word_then (LineInside (entered_line v found None))
      (machine.goes_in v.line r own.at not_moved not_closed home)
      (up tag s shown id v phase.Out own low phase.Inside refl refl (set shown.gate.homes v.line None))
      (ap (λ (h : List (maybe.Option (Option T))). set h v.line none) shown.homes ∙ set-map slot_of shown.gate.homes v.line None)
      (in_phase tag s shown id v phase.Out own low phase.Inside (set shown.gate.homes v.line None) (entered_line v found None) refl refl (λ out. absurd (true≢false out))) in (
        ap (λ (h : List (maybe.Option (Option T))). get_elem? h v.line) shown.homes ∙ home_there shown.gate.homes v.line r home,
        went.0,
        (r, went.1, some_is (tag r) v.tag (sym owns ∙ own.tag), own_home, refl),
      )

  abbrev Result : Type 0
  Result = (w : View T) × (a : Act (Option T)) × Valid s.homes [] a × IsGate tag (stepped s 0 word_then id [] w a) × Enters tag (step slots 0 256 0 none) (LineOut v, []) found (w, carried_after [] a)

  -- in a gate that is neither moved nor closed the right that the line's view shows is at home
  right_home : shown.gate.moved ≡ false → shown.gate.closed ≡ false → (r : T) × (slice_get shown.gate.homes v.line ≡ Some (Some r)) × Owns tag shown.tags v.line r × (v.home ≡ Some r)
  right_home m c = by_collected shown.gate.collected refl
    where
      by_collected : (b : Bool) → shown.gate.collected ≡ b → (r : T) × (slice_get shown.gate.homes v.line ≡ Some (Some r)) × Owns tag shown.tags v.line r × (v.home ≡ Some r)
      by_collected true e = absurd (true≢false (sym ((formed (Owns tag shown.tags) shown.gate shown.reached).shut e) ∙ (λ i. m i || c i)))
      by_collected false e =
          let there = (formed (Owns tag shown.tags) shown.gate shown.reached).home e v.line phase.Out own.at refl in
          (there.0, there.1, there.2, some_is v.home (Some there.0) (sym (own.home refl e) ∙ there.1))

  enters_by : (m c : Bool) → shown.gate.moved ≡ m → shown.gate.closed ≡ c → Result
  enters_by true c is_m is_c =
      let t = turns Moved machine.says_moved (machine.finds_moved v.line own.at is_m) in
      (LineTurned (entered_line v found (Some Moved)), keeps, tt, t.0, match_true (machine.moved_in found) _ _ (found_flag tag s shown flag.Moved ∙ is_m) t.1)
  enters_by false true is_m is_c =
      let t = turns Closed machine.says_closed (machine.finds_closed v.line own.at is_m is_c) in
      (LineTurned (entered_line v found (Some Closed)), keeps, tt, t.0, match_false (machine.moved_in found) _ _ (found_flag tag s shown flag.Moved ∙ is_m) (match_true (machine.closed_in found) _ _ (found_flag tag s shown flag.Closed ∙ is_c) t.1))
  enters_by false false is_m is_c =
      let r = right_home is_m is_c in
      let p = passes r.0 r.1 r.2 r.3 is_m is_c in
      (LineInside (entered_line v found None), takes v.line (Some r.0), p.0, p.1, match_false (machine.moved_in found) _ _ (found_flag tag s shown flag.Moved ∙ is_m) (match_false (machine.closed_in found) _ _ (found_flag tag s shown flag.Closed ∙ is_c) p.2))

pub enters : {T : Type 0} (tag : T → List ℕ) (slots id : ℕ) (v : LineView T) → Allows (IsGate tag) slots id (LineOut v, []) 0 (λ n. (n + 256) % 2 ^ 64) (Enters tag (step slots 0 256 0 none) (LineOut v, []))
enters tag slots id v s kept fits at small =
    let shown = shown_where tag s id (LineOut v) refl at kept in
    enters_by tag slots id v s shown at shown.gate.moved shown.gate.closed refl refl

pub enters_at : {T : Type 0} (tag : T → List ℕ) (slots id : ℕ) (me : Me (Option T) (View T)) → me ≡ (LineOut (line_in me.0), []) → Allows (IsGate tag) slots id me 0 (λ n. (n + 256) % 2 ^ 64) (Enters tag (step slots 0 256 0 none) me)
enters_at {T = T} tag slots id me is = subst (λ (m : Me (Option T) (View T)). Allows (IsGate tag) slots id m 0 (λ n. (n + 256) % 2 ^ 64) (Enters tag (step slots 0 256 0 none) m)) (sym is) (enters tag slots id (line_in me.0))

abbrev carried_right : {T : Type 0} → T → List (ℕ × Option T) → T
carried_right d [] = d
carried_right d (x ∷ xs) = unwrap_or x.1 d

-- the line leaves with its right
pub leaves : {T : Type 0} (tag : T → List ℕ) (slots id : ℕ) (v : LineView T) (r : T) → tag r ≡ v.tag
    → Allows (IsGate tag) slots id (LineInside v, (v.line, Some r) ∷ []) 0 (λ n. (n + (2 ^ 64 - 256)) % 2 ^ 64) (Leaves tag (step slots 0 256 0 none) (LineInside v, (v.line, Some r) ∷ []))
leaves {T = T} tag slots id v r same_tag s kept fits at small =
    let shown = shown_where tag s id (LineInside v) refl at kept in
    let own = shown.seats id (LineInside v) at in
    let low = at_within s.views id (LineInside v) at in
    let found : ℕ = get_or s.words 0 0 in
    let then : LineView T = left_line v r found in
    let enabled_is : machine.enabled_in found ≡ shown.gate.enabled = found_flag tag s shown flag.Enabled in
    let went = goes tag s shown id v phase.Inside own low phase.Out (set shown.gate.homes v.line (Some r)) (λ m other. got_else shown.gate.homes v.line m (Some r) other) (machine.leave v.line r) (machine.lets_out shown.gate.enabled) (set s.homes v.line (some (Some r))) ((found + (2 ^ 64 - 256)) % 2 ^ 64) (LineOut then)
    (machine.goes_out v.line r own.at (own.tag ∙ ap Some (sym same_tag)))
    (down tag s shown id v phase.Inside own low refl (set shown.gate.homes v.line (Some r)))
    (ap (λ (h : List (maybe.Option (Option T))). set h v.line (some (Some r))) shown.homes ∙ set-map slot_of shown.gate.homes v.line (Some r))
    (in_phase tag s shown id v phase.Inside own low phase.Out (set shown.gate.homes v.line (Some r)) then refl refl (λ out not_yet. there_again (Owns tag shown.tags) shown.gate (formed (Owns tag shown.tags) shown.gate shown.reached) v.line r own.at)) in
    let happens = subst (λ (e : Bool). Happens tag found (machine.leave v.line r) (machine.lets_out e)) (sym enabled_is) went.1 in (
      LineOut then,
      gives,
      tt,
      went.0,
      λ right is. subst (λ (x : T). (◌≡◌ {A = Me (Option T) (View T)} (LineOut then, []) (LineOut (left_line v x found), [])) × Happens tag found (machine.leave v.line x) (machine.lets_out (machine.enabled_in found))) (one_right right is) (refl, happens),
    )
  where
    one_right : (right : T) → ◌≡◌ {A = List (ℕ × Option T)} ((v.line, Some r) ∷ []) ((v.line, Some right) ∷ []) → r ≡ right
    one_right right is = ap (carried_right r) is

pub leaves_at : {T : Type 0} (tag : T → List ℕ) (slots id : ℕ) (me : Me (Option T) (View T)) (r : T) → me ≡ (LineInside (line_in me.0), ((line_in me.0).line, Some r) ∷ []) → tag r ≡ (line_in me.0).tag
    → Allows (IsGate tag) slots id me 0 (λ n. (n + (2 ^ 64 - 256)) % 2 ^ 64) (Leaves tag (step slots 0 256 0 none) me)
leaves_at {T = T} tag slots id me r is same_tag = subst (λ (m : Me (Option T) (View T)). Allows (IsGate tag) slots id m 0 (λ n. (n + (2 ^ 64 - 256)) % 2 ^ 64) (Leaves tag (step slots 0 256 0 none) m)) (sym is) (leaves tag slots id (line_in me.0) r same_tag)

-- the line turns back
pub turns_back : {T : Type 0} (tag : T → List ℕ) (slots id : ℕ) (v : LineView T) → Allows (IsGate tag) slots id (LineTurned v, []) 0 (λ n. (n + (2 ^ 64 - 256)) % 2 ^ 64) (TurnsBack tag (step slots 0 256 0 none) (LineTurned v, []))
turns_back {T = T} tag slots id v s kept fits at small =
    let shown = shown_where tag s id (LineTurned v) refl at kept in
    let own = shown.seats id (LineTurned v) at in
    let low = at_within s.views id (LineTurned v) at in
    let went = goes tag s shown id v phase.Turned own low phase.Out shown.gate.homes (λ m other. refl) (machine.turn_back v.line) machine.says_done s.homes ((get_or s.words 0 0 + (2 ^ 64 - 256)) % 2 ^ 64) (LineOut (turned_line v (get_or s.words 0 0)))
    (machine.turns_back v.line own.at)
    (down tag s shown id v phase.Turned own low refl shown.gate.homes)
    shown.homes
    (in_phase tag s shown id v phase.Turned own low phase.Out shown.gate.homes (turned_line v (get_or s.words 0 0)) refl refl (λ out. own.home refl)) in
    (LineOut (turned_line v (get_or s.words 0 0)), keeps, tt, went.0, (refl, went.1))

pub turns_back_at : {T : Type 0} (tag : T → List ℕ) (slots id : ℕ) (me : Me (Option T) (View T)) (v : LineView T) → me ≡ (LineTurned v, []) → Allows (IsGate tag) slots id me 0 (λ n. (n + (2 ^ 64 - 256)) % 2 ^ 64) (TurnsBack tag (step slots 0 256 0 none) me)
turns_back_at {T = T} tag slots id me v is = subst (λ (m : Me (Option T) (View T)). Allows (IsGate tag) slots id m 0 (λ n. (n + (2 ^ 64 - 256)) % 2 ^ 64) (TurnsBack tag (step slots 0 256 0 none) m)) (sym is) (turns_back tag slots id v)

-- what an entry that found no flag, or one, is told
module _ {T : Type 0} (tag : T → List ℕ) (v : LineView T) (word : ℕ) (after : Me (Option T) (View T)) (told : MatchBool (machine.moved_in word) (IsTurned tag v Moved machine.says_moved word after) (MatchBool (machine.closed_in word) (IsTurned tag v Closed machine.says_closed word after) (IsIn tag v word after))) where
  told_open : machine.moved_in word ≡ false → MatchBool (machine.closed_in word) (IsTurned tag v Closed machine.says_closed word after) (IsIn tag v word after)
  told_open m = case_false (machine.moved_in word) _ _ m told

  pub told_in : machine.moved_in word ≡ false → machine.closed_in word ≡ false → IsIn tag v word after
  told_in m c = case_false (machine.closed_in word) _ _ c (told_open m)

-- the entry that let its line in, as callers see it
pub entered_in : {T : Type 0} (tag : T → List ℕ) (entry : EntrySeat T) (gate gate1 : TableId) (v : LineView T) (word line : ℕ) (me me1 : Me (Option T) (View T)) (right : T) (taken : Option T) → record { gate = gate; at = v } ≡ entry → IsIn tag v word me → machine.moved_in word ≡ false → machine.closed_in word ≡ false
    → me.1 ≡ (line, taken) ∷ rest me.1 → taken ≡ Some right → me1 ≡ (me.0, (line, None) ∷ rest me.1) → gate1 ≡ gate → (gate1 ≡ entry.gate) × (line_in me1.0 ≡ entered_line entry.at (line_in me1.0).found None) × (tag right ≡ entry.at.tag) × (entry.at.home ≡ Some right) × IsLetIn tag entry.at.line (line_in me1.0).found right
entered_in {T = T} tag entry gate gate1 v word line me me1 right taken was told not_moved not_closed front got is1 stays =
    let same : told.0 ≡ right = ap (carried_right told.0) (sym (ap (λ (m : Me (Option T) (View T)). m.1) told.4) ∙ front) ∙ ap (λ (o : Option T). unwrap_or o told.0) got in
    let happens : Happens tag word (machine.enter v.line) (machine.lets_in right) = subst (λ (r : T). Happens tag word (machine.enter v.line) (machine.lets_in r)) same told.1 in
    let view : line_in me1.0 ≡ entered_line v word None = ap (λ (m : Me (Option T) (View T)). line_in m.0) is1 ∙ ap (λ (m : Me (Option T) (View T)). line_in m.0) told.4 in
    let found : word ≡ (line_in me1.0).found = sym (ap (λ (u : LineView T). u.found) view) in
    subst (λ (e : EntrySeat T). (gate1 ≡ e.gate) × (line_in me1.0 ≡ entered_line e.at (line_in me1.0).found None) × (tag right ≡ e.at.tag) × (e.at.home ≡ Some right) × IsLetIn tag e.at.line (line_in me1.0).found right) was (
      stays,
      view ∙ (λ i. entered_line v (found i) None),
      ap tag (sym same) ∙ told.2,
      told.3 ∙ ap Some same,
      subst (λ (n : ℕ). IsLetIn tag v.line n right) found (record {
        happens = happens;
        not_moved = not_moved;
        not_closed = not_closed;
        before_rights = let_in_before (Owns tag happens.tags) happens.before happens.after right happens.reached happens.step;
      }),
    )

-- the seat of a line that is inside, with its right back in the slot
pub holding : {T : Type 0} (me me1 : Me (Option T) (View T)) (line : ℕ) (right : T) → me ≡ (LineInside (line_in me.0), (line, None) ∷ []) → line ≡ (line_in me.0).line → me1 ≡ (me.0, (line, Some right) ∷ rest me.1)
    → (me1 ≡ (LineInside (line_in me1.0), ((line_in me1.0).line, Some right) ∷ [])) × (line_in me1.0 ≡ line_in me.0)
holding {T = T} me me1 line right is at is1 =
    let first : me1.0 ≡ me.0 = ap (λ (m : Me (Option T) (View T)). m.0) is1 in
    let same : line_in me1.0 ≡ line_in me.0 = ap line_in first in
    let there : line ≡ (line_in me1.0).line = at ∙ ap (λ (v : LineView T). v.line) (sym same) in (
      is1 ∙ ap (λ (m : Me (Option T) (View T)). (m.0, (line, Some right) ∷ rest m.1)) is ∙ (λ i. (LineInside (sym same i), (there i, Some right) ∷ [])),
      same,
    )

-- what the leave of a line comes to, as its callers see it
pub let_out : {T : Type 0} (tag : T → List ℕ) (inside : InsideSeat T) (gate gate2 : TableId) (me me1 me2 : Me (Option T) (View T)) (right : T) (word : ℕ) (enabled : Bool) → record { gate = gate; at = line_in me.0; right = right } ≡ inside → me1.1 ≡ ((line_in me1.0).line, Some right) ∷ [] → line_in me1.0 ≡ line_in me.0
    → ((x : T) → me1.1 ≡ ((line_in me1.0).line, Some x) ∷ [] → (me2 ≡ (LineOut (left_line (line_in me1.0) x word), [])) × Happens tag word (machine.leave (line_in me1.0).line x) (machine.lets_out (machine.enabled_in word)))
    → enabled ≡ machine.enabled_in word → gate2 ≡ gate
    → (me2 ≡ (LineOut (line_in me2.0), [])) × ((line_in me2.0).line ≡ (line_in me.0).line) × (◌≡◌ {A = EntrySeat T} (record { gate = gate2; at = line_in me2.0 }) (left_seat inside (line_in me2.0).left)) × IsLetOut tag inside (line_in me2.0).left enabled
let_out {T = T} tag inside gate gate2 me me1 me2 right word enabled was held same told found stays =
    let then = told right held in
    let v : LineView T = left_line (line_in me.0) right word in
    let left : me2 ≡ (LineOut v, []) = then.0 ∙ (λ i. (LineOut (left_line (same i) right word), [])) in
    let at : line_in me2.0 ≡ v = ap (λ (m : Me (Option T) (View T)). line_in m.0) left in
    let word_is : word ≡ (line_in me2.0).left = sym (ap (λ (u : LineView T). u.left) at) in
    let happens : Happens tag word (machine.leave (line_in me.0).line right) (machine.lets_out enabled) =
    subst (λ (u : LineView T). Happens tag word (machine.leave u.line right) (machine.lets_out enabled)) same (subst (λ (b : Bool). Happens tag word (machine.leave (line_in me1.0).line right) (machine.lets_out b)) (sym found) then.1) in (
      left ∙ (λ i. (LineOut (sym at i), [])),
      ap (λ (u : LineView T). u.line) at,
      subst (λ (s : InsideSeat T). ◌≡◌ {A = EntrySeat T} (record { gate = gate2; at = line_in me2.0 }) (left_seat s (line_in me2.0).left)) was (λ i. record { gate = stays i; at = (at ∙ (λ j. left_line (line_in me.0) right (word_is j))) i }),
      subst (λ (s : InsideSeat T). IsLetOut tag s (line_in me2.0).left enabled) was (subst (λ (n : ℕ). Happens tag n (machine.leave (line_in me.0).line right) (machine.lets_out enabled)) word_is happens, found ∙ ap machine.enabled_in word_is),
    )

-- the one slot of a seat stands in front
pub in_front : {S V : Type 0} (me : Me S V) (w : V) (k line : ℕ) (x : S) → me ≡ (w, (k, x) ∷ []) → line ≡ k → me.1 ≡ (line, x) ∷ rest me.1
in_front {S = S} {V = V} me w k line x is e =
    let one : me.1 ≡ (k, x) ∷ [] = ap (λ (m : Me S V). m.1) is in
    one ∙ (λ i. (sym e i, x) ∷ rest (sym one i))
