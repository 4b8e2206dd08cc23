-- What the other seats know stays so while one seat makes a step.
use Rattle.std.proofs.Common.{◌≡◌, ◌≢◌, ◌⊎◌, ℕ, zero, suc, ◌+◌, ◌<◌, Bool, true, false, true≢false, List, [], ◌∷◌, ◌++◌, length, set, refl, sym, ap, ◌∙◌, inl, inr, ⊎_elim, arith, Option}
use Rattle.std.specs.Prelude.{slice_get}
use mathlib.Core.Option.{some, some-injective, some-ne-none}
use lib.ListN.{get_elem?}
use Rattle.atomic_table.specs.Table.{State}
use Rattle.hub_core.specs.declared.line.Phase.{Phase}
use Rattle.hub_core.specs.GateMachine as machine
use Rattle.hub_gate.specs.declared.view.View.{View}
use Rattle.hub_gate.specs.declared.view.View.TheVariants.{Fresh, Filling, Keeping, LineOut, LineInside, LineTurned}
use Rattle.hub_gate.specs.GateRule.{Tags, Knows, ShowsGate, IsGate}
use Rattle.hub_gate.proofs.Got.{got_else}

abbrev pub is_opening : {T : Type 0} → View T → Bool
is_opening (Fresh t) = true
is_opening (Filling t) = true
is_opening _ = false

-- the only seat is at the front
pub one_seat : {T : Type 0} (a v : View T) (l : List (View T)) (id : ℕ) → l ≡ a ∷ [] → get_elem? l id ≡ some v → (id ≡ 0) × (a ≡ v)
one_seat {T = T} a v l id is at = only id (sym (ap (λ (k : List (View T)). get_elem? k id) is) ∙ at)
  where
    only : (id : ℕ) → get_elem? (a ∷ []) id ≡ some v → (id ≡ 0) × (a ≡ v)
    only zero e = (refl, some-injective a v e)
    only (suc id) e = absurd (some-ne-none v (sym e))

pub at_within : {A : Type 0} (l : List A) (i : ℕ) (a : A) → get_elem? l i ≡ some a → i < length l
at_within [] i a e = absurd (some-ne-none a (sym e))
at_within (x ∷ xs) zero a e = omega arith
at_within (x ∷ xs) (suc i) a e = let h = at_within xs i a e in omega arith

-- what stands in a list with one more at its end
pub at_end : {A : Type 0} (l : List A) (a b : A) (j : ℕ) → get_elem? (l ++ a ∷ []) j ≡ some b → (get_elem? l j ≡ some b) ⊎ ((j ≡ length l) × (a ≡ b))
at_end [] a b zero e = inr (refl, some-injective a b e)
at_end [] a b (suc j) e = absurd (some-ne-none b (sym e))
at_end (x ∷ xs) a b zero e = inl e
at_end (x ∷ xs) a b (suc j) e = ⊎_elim (λ t. inl t) (λ t. inr (ap suc t.0, t.1)) (at_end xs a b j e)

module _ {T : Type 0} where
  -- a gate at which a line or the keeper has a seat is open
  pub shown_where : (tag : T → List ℕ) (s : State (Option T) (View T)) (id : ℕ) (v : View T) → is_opening v ≡ false → get_elem? s.views id ≡ some v → IsGate tag s → ShowsGate tag s
  shown_where tag s id v not_new at (inr shown) = shown
  shown_where tag s id v not_new at (inl new) = ⊎_elim
      (λ here. let other = (one_seat (Fresh new.0) v s.views id here.0 at).1 in absurd (true≢false (ap is_opening other ∙ not_new)))
      (λ filled. let other = (one_seat (Filling new.0) v s.views id filled at).1 in absurd (true≢false (ap is_opening other ∙ not_new)))
      new.2

  -- a line's seat doesn't look at the keeper's flags, nor at how many seats there are. The rights at home stay until they are collected.
  pub lines_stay : (tags : Tags) (g : machine.Gate T) (g' : machine.Gate T) → g'.phases ≡ g.phases → (g'.collected ≡ false → (g.collected ≡ false) × (g'.homes ≡ g.homes)) → (seats seats' seat : ℕ) (v : View T) → seat ≢ 0 → Knows tags g seats seat v → Knows tags g' seats' seat v
  lines_stay tags g g' same kept seats seats' seat (Fresh t) ne k = k
  lines_stay tags g g' same kept seats seats' seat (Filling t) ne k = k
  lines_stay tags g g' same kept seats seats' seat (Keeping u) ne k = let z = k.stands in absurd (ne z)
  lines_stay tags g g' same kept seats seats' seat (LineOut u) ne k = record { stands = k.stands; at = ap (λ (p : List Phase). slice_get p u.line) same ∙ k.at; tag = k.tag; home = λ out not_yet. ap (λ (h : List (Option T)). slice_get h u.line) (kept not_yet).1 ∙ k.home out (kept not_yet).0 }
  lines_stay tags g g' same kept seats seats' seat (LineInside u) ne k = record { stands = k.stands; at = ap (λ (p : List Phase). slice_get p u.line) same ∙ k.at; tag = k.tag; home = λ out not_yet. ap (λ (h : List (Option T)). slice_get h u.line) (kept not_yet).1 ∙ k.home out (kept not_yet).0 }
  lines_stay tags g g' same kept seats seats' seat (LineTurned u) ne k = record { stands = k.stands; at = ap (λ (p : List Phase). slice_get p u.line) same ∙ k.at; tag = k.tag; home = λ out not_yet. ap (λ (h : List (Option T)). slice_get h u.line) (kept not_yet).1 ∙ k.home out (kept not_yet).0 }

  -- the gate after a step of the line l
  abbrev pub after : machine.Gate T → ℕ → Phase → List (Option T) → machine.Gate T
  after g l p homes = record { enabled = g.enabled; moved = g.moved; closed = g.closed; phases = set g.phases l p; homes = homes; collected = g.collected }

  -- another line's seat, and the keeper's, know what they knew
  pub others_stay : (tags : Tags) (g : machine.Gate T) (l : ℕ) (p : Phase) (homes : List (Option T)) → ((m : ℕ) → m ≢ l → slice_get homes m ≡ slice_get g.homes m) → (seats seat : ℕ) (v : View T) → seat ≢ l + 1 → l + 1 < seats → Knows tags g seats seat v → Knows tags (after g l p homes) seats seat v
  others_stay tags g l p homes elsewhere seats seat (Fresh t) ne low k = k
  others_stay tags g l p homes elsewhere seats seat (Filling t) ne low k = k
  others_stay tags g l p homes elsewhere seats seat (Keeping u) ne low k = record {
    stands = k.stands;
    next = k.next;
    later = λ m from to. got_else g.phases l m p (λ e. let n = k.next in absurd (omega arith)) ∙ k.later m from to;
    rights = λ not_yet m from to. elsewhere m (λ e. let n = k.next in absurd (omega arith)) ∙ k.rights not_yet m from to;
    shows = record { tags = k.shows.tags; enabled = k.shows.enabled; moved = k.shows.moved; closed = k.shows.closed; collected = k.shows.collected };
  }
  others_stay tags g l p homes elsewhere seats seat (LineOut u) ne low k =
      let other : u.line ≢ l = (λ e. let z = k.stands in ne (z ∙ ap (λ (i : ℕ). i + 1) e)) in
      record { stands = k.stands; at = got_else g.phases l u.line p other ∙ k.at; tag = k.tag; home = λ out not_yet. elsewhere u.line other ∙ k.home out not_yet }
  others_stay tags g l p homes elsewhere seats seat (LineInside u) ne low k =
      let other : u.line ≢ l = (λ e. let z = k.stands in ne (z ∙ ap (λ (i : ℕ). i + 1) e)) in
      record { stands = k.stands; at = got_else g.phases l u.line p other ∙ k.at; tag = k.tag; home = λ out not_yet. elsewhere u.line other ∙ k.home out not_yet }
  others_stay tags g l p homes elsewhere seats seat (LineTurned u) ne low k =
      let other : u.line ≢ l = (λ e. let z = k.stands in ne (z ∙ ap (λ (i : ℕ). i + 1) e)) in
      record { stands = k.stands; at = got_else g.phases l u.line p other ∙ k.at; tag = k.tag; home = λ out not_yet. elsewhere u.line other ∙ k.home out not_yet }
