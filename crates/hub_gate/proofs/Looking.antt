-- The keeper's look keeps the rule of its gate, and gives all rights where nobody is inside a shut one.
use Rattle.std.proofs.Common.{◌≡◌, ℕ, suc, ◌<◌, ◌≤◌, ◌||◌, Bool, true, false, true≢false, eqb, List, [], ◌∷◌, map, length, set, get_or, refl, sym, ap, ◌∙◌, subst, arith, Option, Some, None}
use Rattle.std.specs.Prelude.{slice_get, MatchBool}
use Rattle.std.proofs.lemmas.Bool.Decides.{nat_tests}
use mathlib.Core.Option.{some, none}
use mathlib.Core.Option as maybe
use lib.ListN.{get_elem?}
use Rattle.atomic_table.specs.Table.{State, Me, Act, Valid, step, keeps, stepped, carried_after, homes_after, Allows}
use Rattle.hub_core.specs.GateMachine as machine
use Rattle.hub_envelope.specs.declared.limits.TheConstants.{MAX_LINES}
use Rattle.hub_gate.specs.declared.word.Flag.TheVariants.{Moved, Closed}
use Rattle.hub_gate.specs.declared.view.View.{View}
use Rattle.hub_gate.specs.declared.view.View.TheVariants.{Keeping}
use Rattle.hub_gate.specs.declared.view.KeeperView.{KeeperView}
use Rattle.hub_gate.specs.GateRule.{Tags, slot_of, Owns, IsShownBy, IsKeeper, ShowsGate, IsGate}
use Rattle.atomic_table.specs.Seated.{TableId}
use Rattle.hub_gate.specs.GateSeats.{KeeperSeat, keeper_in}
use Rattle.hub_gate.specs.Looking.{IsLast}
use Rattle.hub_gate.specs.GatePlays.{looked_keeper, has_shut, KeeperStep, IsSeen, IsGiven, SeesOpen, SeesBusy, SeesShut, LooksAt, Looks}
use Rattle.hub_gate.specs.Taking.{take_from, all_out}
use Rattle.hub_core.proofs.Items.{some_is, got_there}
use Rattle.hub_gate.proofs.Formed.{formed, weight_le, not_inside}
use Rattle.hub_gate.proofs.AfterRights.{over_from}
use Rattle.hub_gate.proofs.Cases.{match_true, match_false, case_true, case_false}
use Rattle.hub_gate.proofs.Found.{new_word, found_flag, found_count, few_busy}
use Rattle.hub_gate.proofs.KeeperSteps.{steps, at_keeper}
use Rattle.hub_gate.proofs.Opening.{slots-opened}
use Rattle.hub_gate.proofs.Seats.{shown_where}
use Rattle.hub_gate.proofs.Takings.{carried-take_from, homes-take_from, valid-take_from}

-- rights that are all at home, in order
all_there : {T : Type 0} (tag : T → List ℕ) (homes : List (Option T)) (tags : Tags) → length homes ≡ length tags
    → ((l : ℕ) → l < length homes → (r : T) × (slice_get homes l ≡ Some (Some r)) × (slice_get tags l ≡ Some (tag r))) → (rights : List T) × (homes ≡ map Some rights) × (map tag rights ≡ tags)
all_there tag [] [] same at = ([], refl, refl)
all_there tag [] (t ∷ tags) same at = absurd (omega arith)
all_there tag (h ∷ homes) [] same at = absurd (omega arith)
all_there tag (h ∷ homes) (t ∷ tags) same at =
    let first = at 0 (omega arith) in
    let others = all_there tag homes tags (omega arith) (λ l lt. at (suc l) (omega arith)) in (
      first.0 ∷ others.0,
      (λ i. some_is h (Some first.0) first.1 i ∷ others.1 i),
      (λ i. sym (some_is t (tag first.0) first.2) i ∷ others.2 i),
    )

abbrev no_right : {T : Type 0} → Option T → Option T
no_right o = None

all_none : {T : Type 0} (rights : List T) → all_out (map Some rights) ≡ map slot_of (map no_right (map Some rights))
all_none [] = refl
all_none (r ∷ rights) = ap (λ l. none ∷ l) (all_none rights)

equal_zero : (n : ℕ) → eqb n 0 ≡ true → n ≡ 0
equal_zero n e = grind (arith, nat_tests)

is_positive : (n : ℕ) → 0 < n → eqb n 0 ≡ false
is_positive n h = grind (arith, nat_tests)

not_zero : (n : ℕ) → eqb n 0 ≡ false → 0 < n
not_zero n e = grind (arith, nat_tests)

module _ {T : Type 0} (tag : T → List ℕ) (slots id : ℕ) (k : KeeperView T) (c : List (ℕ × Option T)) (s : State (Option T) (View T)) (shown : ShowsGate tag s) (at : get_elem? s.views id ≡ some (Keeping k)) where
  abbrev own : IsKeeper shown.tags shown.gate (length s.views) id k
  own = shown.seats id (Keeping k) at

  abbrev word_now : ℕ
  word_now = get_or s.words 0 0

  shut_is : (machine.moved_in word_now || machine.closed_in word_now) ≡ machine.is_shut shown.gate
  shut_is = λ i. found_flag tag s shown Moved i || found_flag tag s shown Closed i

  -- the keeper's view shows whether the gate is shut
  set_is : has_shut k ≡ machine.is_shut shown.gate
  set_is = λ i. own.shows.moved i || own.shows.closed i

  same_word : set s.words 0 word_now ≡ machine.word shown.gate ∷ []
  same_word = new_word s.words (machine.word shown.gate) _ (λ n. n) shown.word refl

  abbrev Result : (ℕ → Me (Option T) (View T) → Type 0) → Type 0
  Result told = (w : View T) × (a : Act (Option T)) × Valid s.homes c a × IsGate tag (stepped s 0 word_now id c w a) × told word_now (w, carried_after c a)

  -- the look gives no right
  sees : (answer : machine.Answer T) → machine.Steps (Owns tag shown.tags) shown.gate machine.look answer shown.gate → Result (IsSeen tag k c answer)
  sees answer takes_step =
      let then : KeeperView T = looked_keeper k word_now k.collected in
      let shows : IsShownBy then shown.tags shown.gate = record { tags = own.shows.tags; enabled = own.shows.enabled; moved = own.shows.moved; closed = own.shows.closed; collected = own.shows.collected } in
      let taken = steps tag s shown id k own then shown.gate refl (λ not_yet. (not_yet, refl)) refl refl shows machine.look answer word_now s.homes takes_step same_word shown.homes in
      (Keeping then, keeps, tt, taken.0, (taken.1, refl))

  -- where none is busy and the rights were not given, all are at home
  rights_there : machine.busy shown.gate ≡ 0 → shown.gate.collected ≡ false → (rights : List T) × (shown.gate.homes ≡ map Some rights) × (map tag rights ≡ shown.tags)
  rights_there none_busy open_yet =
      let well = formed (Owns tag shown.tags) shown.gate shown.reached in
      let same = well.same in
      let lines = shown.lines in
      all_there tag shown.gate.homes shown.tags (omega arith) (λ l lt.
      let p = got_there shown.gate.phases l (omega arith) in
      let h = weight_le shown.gate.phases l p.0 p.1 in
      well.home open_yet l p.0 p.1 (not_inside p.0 (omega arith)))

  -- the look gives all rights
  gets : c ≡ [] → machine.is_shut shown.gate ≡ true → machine.busy shown.gate ≡ 0 → shown.gate.collected ≡ false → Result (IsGiven tag k)
  gets none_out shut none_busy open_yet =
      let there = rights_there none_busy open_yet in
      let rights : List T = there.0 in
      let next : machine.Gate T = machine.with_none shown.gate in
      let then : KeeperView T = looked_keeper k word_now true in
      let shows : IsShownBy then shown.tags next = record { tags = own.shows.tags; enabled = own.shows.enabled; moved = own.shows.moved; closed = own.shows.closed; collected = refl } in
      let homes : s.homes ≡ map some (map Some rights) = shown.homes ∙ ap (map slot_of) there.1 ∙ slots-opened rights in
      let away : homes_after s.homes c (take_from 0 (map Some rights)) ≡ map slot_of next.homes =
      (λ i. homes_after (homes i) c (take_from 0 (map Some rights))) ∙ homes-take_from [] (map Some rights) c 0 refl ∙ all_none rights ∙ ap (λ (h : List (Option T)). map slot_of (map no_right h)) (sym there.1) in
      let taken = steps tag s shown id k own then next refl (λ not_yet. absurd (true≢false not_yet)) refl refl shows machine.look (machine.gives_rights rights) word_now (homes_after s.homes c (take_from 0 (map Some rights)))
      (machine.gives rights open_yet shut none_busy there.1) same_word away in (
        Keeping then,
        take_from 0 (map Some rights),
        subst (λ (h : List (maybe.Option (Option T))). Valid h c (take_from 0 (map Some rights))) (sym homes) (valid-take_from [] (map Some rights) c 0 refl),
        taken.0,
        (
          rights,
          taken.1,
          there.2 ∙ sym own.shows.tags,
          ap (λ (d : List (ℕ × Option T)). (Keeping then, d)) (ap (λ (d : List (ℕ × Option T)). carried_after d (take_from 0 (map Some rights))) none_out ∙ carried-take_from 0 (map Some rights)),
        ),
      )

  -- what is told under another name
  retold : (told told' : ℕ → Me (Option T) (View T) → Type 0) → ((after : Me (Option T) (View T)) → told word_now after → told' word_now after) → Result told → Result told'
  retold told told' f r = (r.0, r.1, r.2, r.3, f (r.0, carried_after c r.1) r.4)

  abbrev Told : ℕ → Me (Option T) (View T) → Type 0
  Told found after = MatchBool k.collected (IsSeen tag k c machine.says_given found after) (LooksAt tag k c found after)

  -- what is told of a gate that is moved or closed
  shut_told : (b : Bool) → k.collected ≡ false → machine.is_shut shown.gate ≡ true → eqb (machine.busy shown.gate) 0 ≡ b → (after : Me (Option T) (View T)) → MatchBool b (IsGiven tag k word_now after) (SeesBusy tag k c word_now after) → Told word_now after
  shut_told b is_collected is_shut is_none after t =
      match_false k.collected (IsSeen tag k c machine.says_given word_now after) (LooksAt tag k c word_now after) is_collected
      (match_true (machine.moved_in word_now || machine.closed_in word_now) (SeesShut tag k c word_now after) (SeesOpen tag k c word_now after) (shut_is ∙ is_shut)
      (set_is ∙ is_shut, subst (λ (x : Bool). MatchBool x (IsGiven tag k word_now after) (SeesBusy tag k c word_now after)) (sym (ap (λ (n : ℕ). eqb n 0) (found_count tag s shown) ∙ is_none)) t))

  busy_told : 0 < machine.busy shown.gate → (after : Me (Option T) (View T)) → IsSeen tag k c (machine.says_inside (machine.busy shown.gate)) word_now after → SeesBusy tag k c word_now after
  busy_told some_busy after t = (subst (λ (n : ℕ). 0 < n) (sym (found_count tag s shown)) some_busy, subst (λ (n : ℕ). n ≤ MAX_LINES) (sym (found_count tag s shown)) (few_busy tag s shown), subst (λ (n : ℕ). IsSeen tag k c (machine.says_inside n) word_now after) (sym (found_count tag s shown)) t)

  looks_by : (collected shut none_busy : Bool) → k.collected ≡ collected → machine.is_shut shown.gate ≡ shut → eqb (machine.busy shown.gate) 0 ≡ none_busy → (k.collected ≡ false → c ≡ []) → Result Told
  looks_by true shut none_busy is_collected is_shut is_none free =
      retold (IsSeen tag k c machine.says_given) Told (λ after t. match_true k.collected (IsSeen tag k c machine.says_given word_now after) (LooksAt tag k c word_now after) is_collected t)
      (sees machine.says_given (machine.gave (sym own.shows.collected ∙ is_collected)))
  looks_by false false none_busy is_collected is_shut is_none free =
      retold (IsSeen tag k c machine.says_open) Told
      (λ after t. match_false k.collected (IsSeen tag k c machine.says_given word_now after) (LooksAt tag k c word_now after) is_collected
      (match_false (machine.moved_in word_now || machine.closed_in word_now) (SeesShut tag k c word_now after) (SeesOpen tag k c word_now after) (shut_is ∙ is_shut) (set_is ∙ is_shut, t)))
      (sees machine.says_open (machine.is_open (sym own.shows.collected ∙ is_collected) is_shut))
  looks_by false true false is_collected is_shut is_none free =
      let some_busy = not_zero (machine.busy shown.gate) is_none in
      retold (IsSeen tag k c (machine.says_inside (machine.busy shown.gate))) Told (λ after t. shut_told false is_collected is_shut is_none after (busy_told some_busy after t))
      (sees (machine.says_inside (machine.busy shown.gate)) (machine.is_busy (sym own.shows.collected ∙ is_collected) is_shut some_busy))
  looks_by false true true is_collected is_shut is_none free =
      retold (IsGiven tag k) Told (λ after t. shut_told true is_collected is_shut is_none after t)
      (gets (free is_collected) is_shut (equal_zero (machine.busy shown.gate) is_none) (sym own.shows.collected ∙ is_collected))

pub looks : {T : Type 0} (tag : T → List ℕ) (slots id : ℕ) (k : KeeperView T) (c : List (ℕ × Option T)) → (k.collected ≡ false → c ≡ []) → Allows (IsGate tag) slots id (Keeping k, c) 0 (λ n. n) (Looks tag (step slots 0 0 0 none) (Keeping k, c))
looks tag slots id k c free s kept fits at small =
    let shown = shown_where tag s id (Keeping k) refl at kept in
    looks_by tag slots id k c s shown at k.collected (machine.is_shut shown.gate) (eqb (machine.busy shown.gate) 0) refl refl refl free

pub looks_at : {T : Type 0} (tag : T → List ℕ) (slots id : ℕ) (me : Me (Option T) (View T)) → me.0 ≡ Keeping (keeper_in me.0) → ((keeper_in me.0).collected ≡ false → me.1 ≡ []) → Allows (IsGate tag) slots id me 0 (λ n. n) (Looks tag (step slots 0 0 0 none) me)
looks_at tag slots id me is free = at_keeper (IsGate tag) slots id (λ n. n) (Looks tag (step slots 0 0 0 none)) me is (looks tag slots id (keeper_in me.0) me.1 free)

-- what a keeper's look is told, by its cases
module _ {T : Type 0} (tag : T → List ℕ) (k : KeeperView T) (c : List (ℕ × Option T)) (word : ℕ) (after : Me (Option T) (View T)) (told : MatchBool k.collected (IsSeen tag k c machine.says_given word after) (LooksAt tag k c word after)) where
  pub told_more : k.collected ≡ false → LooksAt tag k c word after
  told_more e = case_false k.collected _ _ e told

  pub told_open : k.collected ≡ false → (machine.moved_in word || machine.closed_in word) ≡ false → SeesOpen tag k c word after
  told_open e f = case_false (machine.moved_in word || machine.closed_in word) _ _ f (told_more e)

  told_shut : k.collected ≡ false → (machine.moved_in word || machine.closed_in word) ≡ true → SeesShut tag k c word after
  told_shut e f = case_true (machine.moved_in word || machine.closed_in word) _ _ f (told_more e)

  pub told_rights : k.collected ≡ false → (machine.moved_in word || machine.closed_in word) ≡ true → machine.count_in word ≡ 0 → (has_shut k ≡ true) × IsGiven tag k word after
  told_rights e f h = let shut = told_shut e f in (shut.0, case_true (eqb (machine.count_in word) 0) _ _ (ap (λ (n : ℕ). eqb n 0) h) shut.1)

-- the look that gave the rights, as the keeper's callers see it
pub last_look : {T : Type 0} (tag : T → List ℕ) (old new : KeeperSeat T) (gate : TableId) (k : KeeperView T) (word : ℕ) (rights given : List T) → record { gate = gate; at = k } ≡ old → k.collected ≡ false → has_shut k ≡ true → machine.count_in word ≡ 0
    → KeeperStep tag k (looked_keeper k word true) word machine.look (machine.gives_rights given) → map tag given ≡ k.tags → rights ≡ given → new ≡ record { gate = gate; at = looked_keeper k word true } → IsLast tag old new rights
last_look {T = T} tag old new gate k word rights given was first shut empty one_step tags same now =
    let then : KeeperSeat T = record { gate = gate; at = looked_keeper k word true } in
    let before : KeeperSeat T = record { gate = gate; at = k } in
    let told : KeeperStep tag k (looked_keeper k word true) word machine.look (machine.gives_rights rights) = subst (λ (l : List T). KeeperStep tag k (looked_keeper k word true) word machine.look (machine.gives_rights l)) (sym same) one_step in
    let last : IsLast tag before then rights = record {
      word = word;
      step = told;
      tags = ap (map tag) same ∙ tags;
      first = first;
      shut = shut;
      nobody = empty;
      over = over_from (Owns tag told.happens.tags) told.happens.after (machine.goes_on told.happens.before told.happens.after machine.look (machine.gives_rights rights) told.happens.reached told.happens.step) (sym told.after.collected);
      keeper = refl;
    } in
    subst (λ (n : KeeperSeat T). IsLast tag old n rights) (sym now) (subst (λ (o : KeeperSeat T). IsLast tag o then rights) was last)
