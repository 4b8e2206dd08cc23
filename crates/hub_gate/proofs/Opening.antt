-- How a gate comes into being: each step of its opening keeps the rule.
use Rattle.std.proofs.Common.{◌≡◌, ℕ, zero, suc, ◌+◌, ◌<◌, ◌≤◌, Bool, true, false, true≢false, List, [], ◌∷◌, ◌++◌, map, length, set, get_or, replicate, refl, sym, ap, ◌∙◌, subst, inl, inr, ⊎_elim, arith, length-set, length-append, Option, Some, None}
use Rattle.std.specs.Prelude.{slice_get, nat_lt}
use Rattle.std.proofs.lemmas.List.Sums.{sum_by-cons}
use Rattle.std.proofs.lemmas.List.{length-map}
use Rattle.std.proofs.lemmas.Option.{slice_get-get_or}
use mathlib.Core.Option.{some, none, some-injective, some-ne-none}
use mathlib.Core.Option as maybe
use lib.ListN.{get_elem?}
use Rattle.atomic_table.specs.Table.{State, Me, step, Valid, opening, Allows, Splits}
use Rattle.atomic_table.specs.Seated.{TableId}
use Rattle.atomic_table.proofs.Lists.{at_set}
use Rattle.hub_core.specs.declared.line.Phase.TheVariants as phase
use Rattle.hub_core.specs.GateMachine as machine
use Rattle.hub_envelope.specs.declared.limits.TheConstants.{MAX_LINES}
use Rattle.hub_gate.specs.declared.view.View.{View}
use Rattle.hub_gate.specs.declared.view.View.TheVariants.{Fresh, Filling, Keeping, LineOut}
use Rattle.hub_gate.specs.declared.view.LineView.{LineView}
use Rattle.hub_gate.specs.declared.view.KeeperView.{KeeperView}
use Rattle.hub_gate.specs.GateRule.{Tags, keeper_at, new_line, cut_off, next_line, keeper_left, line_right, slot_of, IsKeeper, Knows, ShowsGate, IsNew, IsGate}
use Rattle.hub_gate.specs.GateSeats.{EntrySeat, line_in, keeper_in, first_entries, IsOpened}
use Rattle.hub_gate.specs.GatePlays.{tags_in, Gathers, Opens}
use Rattle.hub_gate.specs.Taking.{take_from, give_each, numbered, values_in}
use Rattle.hub_gate.proofs.Emptying.{values-numbered}
use Rattle.hub_core.proofs.Items.{got-map, got_there}
use Rattle.hub_gate.proofs.Seats.{one_seat, at_end, shown_where, lines_stay}
use Rattle.hub_gate.proofs.Takings.{carried-take_from, valid-take_from, carried-give_each, homes-give_each, valid-give_each}

-- a line that is out doesn't count
none_busy : {T : Type 0} (rights : List T) → machine.busy (machine.opened rights) ≡ 0
none_busy [] = refl
none_busy (r ∷ rights) = let rest = none_busy rights in omega (arith, sum_by-cons machine.weight phase.Out (map (λ _. phase.Out) rights))

pub slots-opened : {T : Type 0} (rights : List T) → map slot_of (map Some rights) ≡ map some (map Some rights)
slots-opened [] = refl
slots-opened (r ∷ rights) = ap (λ l. some (Some r) ∷ l) (slots-opened rights)

same_word : (words : List ℕ) → words ≡ 0 ∷ [] → set words 0 (get_or words 0 0) ≡ 0 ∷ []
same_word words is = ap (λ (w : List ℕ). set w 0 (get_or w 0 0)) is

tags_is : {T : Type 0} (t u : Tags) → ◌≡◌ {A = View T} (Fresh t) (Fresh u) → t ≡ u
tags_is t u e = ap tags_in e

abbrev is_filling : {T : Type 0} → View T → Bool
is_filling (Filling t) = true
is_filling _ = false

module _ {T : Type 0} (tag : T → List ℕ) where
  pub begins : (tags : Tags) (n : ℕ) → n ≡ length tags → IsGate tag (opening (0 ∷ []) (replicate n None) (Fresh tags))
  begins tags n is = inl (tags, refl, inl (refl, ap (λ (k : ℕ). map some (replicate k None)) is))

  pub gathers : (slots id : ℕ) (tags : Tags) → Allows (IsGate tag) slots id (Fresh tags, []) 0 (λ n. n) (Gathers (step slots 0 0 0 none) (Fresh tags, []))
  gathers slots id tags s kept fits at small = ⊎_elim
      (λ (new : IsNew s). ⊎_elim
      (λ here.
      let mine = one_seat {T = T} (Fresh new.0) (Fresh tags) s.views id here.0 at in
      let is : new.0 ≡ tags = tags_is {T = T} new.0 tags mine.1 in
      let taken : List (Option T) = replicate (length tags) None in
      let homes : s.homes ≡ map some taken = here.1 ∙ ap (λ (t : Tags). map some (replicate (length t) None)) is in (
        Filling tags,
        take_from 0 taken,
        subst (λ (h : List (maybe.Option (Option T))). Valid h [] (take_from 0 taken)) (sym homes) (valid-take_from [] taken [] 0 refl),
        inl (tags, same_word s.words new.1, inr (ap (λ (l : List (View T)). set l id (Filling tags)) here.0 ∙ ap (λ (i : ℕ). set (Fresh new.0 ∷ []) i (Filling tags)) mine.0)),
        ap (λ (c : List (ℕ × Option T)). (Filling tags, c)) (carried-take_from 0 taken),
      ))
      (λ filled. let other = (one_seat {T = T} (Filling new.0) (Fresh tags) s.views id filled at).1 in absurd (true≢false (ap is_filling other)))
      new.2)
      (λ shown. absurd (shown.seats id (Fresh tags) at)) kept

  -- the seat has all slots in hand, each with the right of its line
  pub opens : (slots id : ℕ) (tags : Tags) (rights : List T) → map tag rights ≡ tags → length rights ≤ MAX_LINES → slots ≡ length rights
      → Allows (IsGate tag) slots id (Filling tags, numbered 0 (map Some rights)) 0 (λ n. n) (Opens (step slots 0 0 0 none) (Filling tags, numbered 0 (map Some rights)))
  opens slots id tags rights tags_are few many s kept fits at small = ⊎_elim
      (λ (new : IsNew s). ⊎_elim
      (λ here. let other = (one_seat {T = T} (Fresh new.0) (Filling tags) s.views id here.0 at).1 in absurd (true≢false (sym (ap is_filling other))))
      (λ filled.
      let mine = one_seat {T = T} (Filling new.0) (Filling tags) s.views id filled at in
      let views : set s.views id (Keeping (keeper_at tags rights 0)) ≡ Keeping (keeper_at tags rights 0) ∷ [] = ap (λ (l : List (View T)). set l id (Keeping (keeper_at tags rights 0))) filled ∙ ap (λ (i : ℕ). set (Filling new.0 ∷ []) i (Keeping (keeper_at tags rights 0))) mine.0 in
      let same : length s.homes ≡ length (map Some rights) = fits ∙ many ∙ sym (length-map rights Some) in (
        Keeping (keeper_at tags rights 0),
        give_each (map Some rights),
        valid-give_each 0 (map Some rights) s.homes,
        inr (record {
          gate = machine.opened rights;
          tags = tags;
          reached = machine.opens rights (λ l r there. ap (λ (t : Tags). slice_get t l) (sym tags_are) ∙ got-map tag rights l r there);
          lines = length-map rights (λ _. phase.Out) ∙ sym (length-map rights tag) ∙ ap length tags_are;
          few = let e = length-map rights tag in let e' = ap length tags_are in omega arith;
          word = same_word s.words new.1 ∙ (λ i. machine.word_of false false false (sym (none_busy rights) i) ∷ []);
          homes = homes-give_each [] s.homes (map Some rights) 0 refl same ∙ sym (slots-opened rights);
          seats = subst (λ (l : List (View T)). (seat : ℕ) (v : View T) → get_elem? l seat ≡ some v → Knows tags (machine.opened rights) (length l) seat v) (sym views) (seated tags rights tags_are);
        }),
        (λ i. (Keeping (keeper_at tags (sym (values-numbered 0 rights) i) 0), carried-give_each 0 (map Some rights) i)),
      ))
      new.2)
      (λ shown. absurd (shown.seats id (Filling tags) at)) kept
    where
      seated : (tags : Tags) (rights : List T) → map tag rights ≡ tags → (seat : ℕ) (v : View T) → get_elem? (Keeping (keeper_at tags rights 0) ∷ []) seat ≡ some v → Knows tags (machine.opened rights) 1 seat v
      seated tags rights tags_are zero v there = subst (λ (w : View T). Knows tags (machine.opened rights) 1 0 w) (some-injective (Keeping (keeper_at tags rights 0)) v there) (record {
        stands = refl;
        next = omega arith;
        later = λ l low high. let e = length-map rights tag in let e' = ap length tags_are in let t = got_there rights l (omega arith) in got-map (λ _. phase.Out) rights l t.0 t.1;
        rights = λ not_yet l low high. let e = length-map rights tag in let e' = ap length tags_are in let t = got_there rights l (omega arith) in got-map Some rights l t.0 t.1 ∙ ap Some (sym t.1);
        shows = record { tags = refl; enabled = refl; moved = refl; closed = refl; collected = refl };
      })
      seated tags rights tags_are (suc seat) v there = absurd (some-ne-none v (sym there))

  -- the keeper's seat cuts off the seat of the next line
  module _ (id : ℕ) (k : KeeperView T) (lt : k.next < length k.tags) (s : State (Option T) (View T)) (shown : ShowsGate tag s) (mine : IsKeeper shown.tags shown.gate (length s.views) id k) where
    abbrev cut_views : List (View T)
    cut_views = set s.views id (Keeping (cut_off k))

    more : length (cut_views ++ LineOut (next_line k) ∷ []) ≡ length s.views + 1
    more = let a = length-append cut_views (LineOut (next_line k) ∷ []) in let b = length-set s.views id (Keeping (cut_off k)) in omega arith

    abbrev KnowsNow : ℕ → View T → Type 0
    KnowsNow seat v = Knows shown.tags shown.gate (length (cut_views ++ LineOut (next_line k) ∷ [])) seat v

    keeper_cut : KnowsNow id (Keeping (cut_off k))
    keeper_cut = record {
      stands = mine.stands;
      next = let n = mine.next in omega (arith, more);
      later = λ l low high. mine.later l (omega arith) high;
      rights = λ not_yet l low high. mine.rights not_yet l (omega arith) high;
      shows = record { tags = mine.shows.tags; enabled = mine.shows.enabled; moved = mine.shows.moved; closed = mine.shows.closed; collected = mine.shows.collected };
    }

    line_cut : KnowsNow (length cut_views) (LineOut (next_line k))
    line_cut = record {
      stands = length-set s.views id (Keeping (cut_off k)) ∙ sym mine.next;
      at = let many = ap length mine.shows.tags in mine.later k.next (omega arith) (omega arith);
      tag = ap (λ (t : Tags). slice_get t k.next) (sym mine.shows.tags) ∙ slice_get-get_or k.tags k.next [] lt;
      home = λ out not_yet. let many = ap length mine.shows.tags in mine.rights not_yet k.next (omega arith) (omega arith);
    }

    seated_now : (seat : ℕ) (v : View T) → get_elem? (cut_views ++ LineOut (next_line k) ∷ []) seat ≡ some v → KnowsNow seat v
    seated_now seat v there = ⊎_elim
        (λ old. ⊎_elim
        (λ me. subst (λ (w : View T). KnowsNow seat w) me.1 (subst (λ (i : ℕ). KnowsNow i (Keeping (cut_off k))) (sym me.0) keeper_cut))
        (λ other. lines_stay shown.tags shown.gate shown.gate refl (λ not_yet. (not_yet, refl)) (length s.views) (length (cut_views ++ LineOut (next_line k) ∷ [])) seat v (λ z. other.0 (z ∙ sym mine.stands)) (shown.seats seat v other.1))
        (at_set s.views id seat (Keeping (cut_off k)) v old))
        (λ new. subst (λ (w : View T). KnowsNow seat w) new.1 (subst (λ (i : ℕ). KnowsNow i (LineOut (next_line k))) (sym new.0) line_cut))
        (at_end cut_views (LineOut (next_line k)) v seat there)

  pub cuts : (id : ℕ) (k : KeeperView T) → k.next < length k.tags → Splits (IsGate tag) id (Keeping k) (Keeping (cut_off k)) (LineOut (next_line k))
  cuts id k lt s kept at =
      let shown = shown_where tag s id (Keeping k) refl at kept in
      inr (record {
        gate = shown.gate;
        tags = shown.tags;
        reached = shown.reached;
        lines = shown.lines;
        few = shown.few;
        word = shown.word;
        homes = shown.homes;
        seats = seated_now id k lt s shown (shown.seats id (Keeping k) at);
      })

  -- the keeper's seat may be cut where its view is given by an equation
  pub cuts_at : (id : ℕ) (v : View T) (k : KeeperView T) → v ≡ Keeping k → k.next < length k.tags → Splits (IsGate tag) id v (keeper_left v) (line_right v)
  cuts_at id v k is lt = subst (λ (u : View T). Splits (IsGate tag) id u (keeper_left u) (line_right u)) (sym is) (cuts id k lt)

  pub gathers_at : (slots id : ℕ) (me : Me (Option T) (View T)) (tags : Tags) → me ≡ (Fresh tags, []) → Allows (IsGate tag) slots id me 0 (λ n. n) (Gathers (step slots 0 0 0 none) me)
  gathers_at slots id me tags is = subst (λ (m : Me (Option T) (View T)). Allows (IsGate tag) slots id m 0 (λ n. n) (Gathers (step slots 0 0 0 none) m)) (sym is) (gathers slots id tags)

  pub opens_at : (slots id : ℕ) (me : Me (Option T) (View T)) (tags : Tags) (rights : List T) → me ≡ (Filling tags, numbered 0 (map Some rights)) → map tag rights ≡ tags → length rights ≤ MAX_LINES → slots ≡ length rights
      → Allows (IsGate tag) slots id me 0 (λ n. n) (Opens (step slots 0 0 0 none) me)
  opens_at slots id me tags rights is tags_are few many = subst (λ (m : Me (Option T) (View T)). Allows (IsGate tag) slots id m 0 (λ n. n) (Opens (step slots 0 0 0 none) m)) (sym is) (opens slots id tags rights tags_are few many)

-- a line's seat, as its entry keeps it
pub line_seat : {T : Type 0} (me : Me (Option T) (View T)) (v : LineView T) → me ≡ (LineOut v, []) → (me ≡ (LineOut (line_in me.0), [])) × (line_in me.0 ≡ v)
line_seat {T = T} me v is = (is ∙ ap (λ (u : LineView T). (LineOut u, [])) (sym (ap (λ (m : Me (Option T) (View T)). line_in m.0) is)), ap (λ (m : Me (Option T) (View T)). line_in m.0) is)

-- the seat that was cut off, by the view of the seat that it was cut from
pub line_cut_off : {T : Type 0} (v : View T) (k : KeeperView T) (me : Me (Option T) (View T)) → v ≡ Keeping k → me ≡ (line_right v, []) → me ≡ (LineOut (next_line k), [])
line_cut_off {T = T} v k me is cut = cut ∙ ap (λ (u : View T). (line_right u, [])) is

pub keeper_cut_off : {T : Type 0} (v : View T) (k : KeeperView T) (c : List (ℕ × Option T)) (me : Me (Option T) (View T)) → v ≡ Keeping k → me ≡ (keeper_left v, c) → c ≡ [] → me ≡ (Keeping (cut_off k), [])
keeper_cut_off {T = T} v k c me is cut none_out = cut ∙ (λ i. (keeper_left (is i), none_out i))

-- the entries of the first lines, and one more
pub first_more : {T : Type 0} (gate : TableId) (tags : Tags) (rights : List T) (line : ℕ) → first_entries gate tags rights (line + 1) ≡ first_entries gate tags rights line ++ record { gate = gate; at = new_line line (get_or tags line []) (slice_get rights line) } ∷ []
first_more gate tags rights line = let e : line + 1 ≡ suc line = omega arith in ap (first_entries gate tags rights) e

-- the seat after it has taken all slots
pub gathered : {T : Type 0} (tag : T → List ℕ) (rights : List T) (me me1 : Me (Option T) (View T)) → me ≡ (Fresh (map tag rights), []) → me1 ≡ (Filling (tags_in me.0), numbered 0 (replicate (length (tags_in me.0)) None)) → me1 ≡ (Filling (map tag rights), numbered 0 (replicate (length rights) None))
gathered {T = T} tag rights me me1 is is1 =
    is1 ∙ ap (λ (m : Me (Option T) (View T)). (Filling (tags_in m.0), numbered 0 (replicate (length (tags_in m.0)) None))) is
    ∙ ap (λ (n : ℕ). (Filling (map tag rights), numbered 0 (replicate n None))) (length-map rights tag)

-- the seat after it has put the rights there
pub filled_with : {T : Type 0} (tag : T → List ℕ) (rights : List T) (me1 me2 : Me (Option T) (View T)) → me1 ≡ (Filling (map tag rights), numbered 0 (replicate (length rights) None)) → me2 ≡ (me1.0, numbered 0 (map Some rights)) → me2 ≡ (Filling (map tag rights), numbered 0 (map Some rights))
filled_with {T = T} tag rights me1 me2 is1 is2 = is2 ∙ ap (λ (m : Me (Option T) (View T)). (m.0, numbered 0 (map Some rights))) is1

-- the seat after it has opened the gate
pub open_at : {T : Type 0} (tag : T → List ℕ) (rights : List T) (me2 me3 : Me (Option T) (View T)) → me2 ≡ (Filling (map tag rights), numbered 0 (map Some rights)) → me3 ≡ (Keeping (keeper_at (tags_in me2.0) (values_in me2.1) 0), []) → me3 ≡ (Keeping (keeper_at (map tag rights) rights 0), [])
open_at {T = T} tag rights me2 me3 is2 is3 = is3 ∙ ap (λ (m : Me (Option T) (View T)). (Keeping (keeper_at (tags_in m.0) (values_in m.1) 0), [])) is2 ∙ ap (λ (r : List T). (Keeping (keeper_at (map tag rights) r 0), [])) (values-numbered 0 rights)

-- the gate that was opened, as its caller sees it
pub just_opened : {T : Type 0} (tag : T → List ℕ) (rights : List T) (me me1 : Me (Option T) (View T)) (gate gate1 : TableId) (entries : List (EntrySeat T)) → me ≡ (Keeping (keeper_at (map tag rights) rights 0), []) → me1 ≡ (Keeping (keeper_at (keeper_in me.0).tags (keeper_in me.0).rights (length (keeper_in me.0).tags)), [])
    → entries ≡ first_entries gate (keeper_in me.0).tags (keeper_in me.0).rights (length (keeper_in me.0).tags) → gate1 ≡ gate → IsOpened tag rights (record { gate = gate1; at = keeper_in me1.0 }) entries
just_opened {T = T} tag rights me me1 gate gate1 entries is is1 entries_are stays =
    let same : (keeper_in me.0).tags ≡ map tag rights = ap (λ (m : Me (Option T) (View T)). (keeper_in m.0).tags) is in
    let given : (keeper_in me.0).rights ≡ rights = ap (λ (m : Me (Option T) (View T)). (keeper_in m.0).rights) is in
    let many : length (keeper_in me.0).tags ≡ length rights = ap length same ∙ length-map rights tag in
    let keeper : keeper_in me1.0 ≡ keeper_at (map tag rights) rights (length rights) = ap (λ (m : Me (Option T) (View T)). keeper_in m.0) is1 ∙ (λ i. keeper_at (same i) (given i) (many i)) in record {
      keeper_is = keeper;
      entries_are = entries_are ∙ (λ i. first_entries (sym stays i) (same i) (given i) (many i));
      shows = record {
        tags = ap (λ (k : KeeperView T). k.tags) keeper;
        enabled = ap (λ (k : KeeperView T). nat_lt 0 k.enables) keeper;
        moved = ap (λ (k : KeeperView T). nat_lt 0 k.retires) keeper;
        closed = ap (λ (k : KeeperView T). nat_lt 0 k.closes) keeper;
        collected = ap (λ (k : KeeperView T). k.collected) keeper;
      };
      reached = machine.opens rights (λ line right there. got-map tag rights line right there);
    }
