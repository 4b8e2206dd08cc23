-- The names of the lines at the next queue of an end, and a yard that keeps a stand under one of them.
use Rattle.std.proofs.Common.{◌≡◌, ◌≢◌, ℕ, zero, suc, ◌<◌, Bool, true≢false, cond, is_some, List, [], ◌∷◌, length, take, refl, sym, ap, ◌∙◌, subst, arith, Option, Some, None, IfSome}
use Rattle.std.specs.Prelude.{All, IsSome, IsNone, slice_get, slice_index_or}
use Rattle.std.specs.FinMap as map
use Rattle.std.specs.FinMap.{get-insert}
use Rattle.std.proofs.lemmas.Option.{slice_get_within, get_or_from_slice_get}
use Rattle.atomic_blocks.specs.Laid.{WebId}
use Rattle.atomic_table.specs.Seated.{TableId}
use Rattle.hub_depot.specs.declared.kept_map.Key.{Key}
use Rattle.hub_depot.specs.Putting.{with_all, IsTakenAmong}
use Rattle.hub_depot.proofs.Keys.{keys_total}
use Rattle.hub_envelope.specs.declared.ids.EndId.{EndId}
use Rattle.hub_core.proofs.Items.{some_is}
use Rattle.hub_queue.specs.Adopting.{name_at, KeepsName}
use Rattle.hub_queue.specs.Mailboxes.{new_stand, stands_at}
use Rattle.hub_queue.specs.Standing.{StandSeat}
use Rattle.hub_queue.specs.Yards.{Yard}
use Rattle.hub_queue.proofs.Below.{many_below, at_below}
use Rattle.hub_queue.proofs.Hops.{other_key}

-- stands of other names don't hide what was kept under a name
under_others : (kept : Yard) (stands : List StandSeat) (k : Key) → ((j : ℕ) (s : StandSeat) → slice_get stands j ≡ Some s → s.name ≢ k) → IsSome (map.get (with_all (λ (s : StandSeat). s.name) kept stands) k) → IsSome (map.get kept k)
under_others kept [] k apart some = some
under_others kept (s ∷ stands) k apart some =
    let other = other_key k s.name (λ same. apart 0 s refl (sym same)) _ refl in
    subst IsSome (get-insert keys_total kept s.name s k ∙ ap (λ (b : Bool). cond b (Some s) (map.get kept k)) other) (under_others (map.insert kept s.name s) stands k (λ j t there. apart (suc j) t there) some)

-- what stands in the front of a list
in_front : {A : Type 0} (xs : List A) (i j : ℕ) (x : A) → slice_get (take i xs) j ≡ Some x → (j < i) × (slice_get xs j ≡ Some x)
in_front xs zero j x there = let low = slice_get_within [] j x there in absurd (omega arith)
in_front [] (suc i) j x there = let low = slice_get_within [] j x there in absurd (omega arith)
in_front (y ∷ xs) (suc i) zero x there = (omega arith, there)
in_front (y ∷ xs) (suc i) (suc j) x there = let rest = in_front xs i j x there in let low = rest.0 in (omega arith, rest.1)

module _ (gate : TableId) (web : WebId) (end : EndId) (epoch lines : ℕ) where
  abbrev next_stands : List StandSeat
  next_stands = stands_at gate web end epoch lines

  stand_there : (i : ℕ) → i < lines → slice_get next_stands i ≡ Some (new_stand gate web end epoch i)
  stand_there i low = at_below (λ i. new_stand gate web end epoch i) (λ n. stands_at gate web end epoch n) refl (λ n. refl) lines i low

  as_many : length next_stands ≡ lines
  as_many = many_below (λ i. new_stand gate web end epoch i) (λ n. stands_at gate web end epoch n) refl (λ n. refl) lines

  named_so : (i : ℕ) (s : StandSeat) → slice_get next_stands i ≡ Some s → (i < lines) × (s.name ≡ name_at end epoch i)
  named_so i s there =
      let low = slice_get_within next_stands i s there in
      let many = as_many in
      let within : i < lines = omega arith in
      (within, ap (λ (t : StandSeat). t.name) (some_is s (new_stand gate web end epoch i) (sym there ∙ stand_there i within)))

  -- a stand whose name was taken, among those of the lines
  keeps_name : (kept : Yard) (s : StandSeat) → IsTakenAmong (λ (t : StandSeat). t.name) kept next_stands s → KeepsName end epoch lines kept
  keeps_name kept s (i, low, at) =
      let mine = named_so i s at.0 in
      let apart : (j : ℕ) (t : StandSeat) → slice_get (take i next_stands) j ≡ Some t → t.name ≢ s.name = λ j t there same.
      let earlier = in_front next_stands i j t there in
      let its = named_so j t earlier.1 in
      let line = ap (λ (k : Key). k.line.0) (sym its.1 ∙ same ∙ mine.1) in
      let before = earlier.0 in
      absurd (omega arith) in
      (i, mine.0, subst (λ (k : Key). IsSome (map.get kept k)) mine.1 (under_others kept (take i next_stands) s.name apart at.1))

  -- so it is where the yard shows what it keeps
  pub keeps_one : (yard : Option Yard) (stands : List StandSeat) (s : StandSeat) → stands ≡ next_stands → IfSome yard (λ kept. IsTakenAmong (λ (t : StandSeat). t.name) kept stands s) → IfSome yard (KeepsName end epoch lines)
  keeps_one None stands s are taken = tt
  keeps_one (Some kept) stands s are taken = keeps_name kept s (subst (λ (l : List StandSeat). IsTakenAmong (λ (t : StandSeat). t.name) kept l s) are taken)

  keeps_none : (kept : Yard) → All (λ (s : StandSeat). IsNone (map.get kept s.name)) next_stands → ¬ KeepsName end epoch lines kept
  keeps_none kept free (line, low, some) =
      let many = as_many in
      let within : line < length next_stands = omega arith in
      let mine : StandSeat = new_stand gate web end epoch line in
      let is : slice_index_or next_stands line mine ≡ mine = get_or_from_slice_get next_stands line mine mine (stand_there line low) in
      let none = free line mine within in
      true≢false (sym some ∙ ap (λ (s : StandSeat). is_some (map.get kept s.name)) (sym is) ∙ none)

  pub keeps_nothing : (yard : Option Yard) (stands : List StandSeat) → stands ≡ next_stands → IfSome yard (λ kept. All (λ (s : StandSeat). IsNone (map.get kept s.name)) stands) → IfSome yard (λ kept. ¬ KeepsName end epoch lines kept)
  keeps_nothing None stands are free = tt
  keeps_nothing (Some kept) stands are free = keeps_none kept (subst (λ (l : List StandSeat). All (λ (s : StandSeat). IsNone (map.get kept s.name)) l) are free)

-- the numbers are given by equations
pub keeps_by : (yard : Option Yard) (end end' : EndId) (epoch epoch' lines lines' : ℕ) → end ≡ end' → epoch ≡ epoch' → lines ≡ lines' → IfSome yard (KeepsName end epoch lines) → IfSome yard (KeepsName end' epoch' lines')
keeps_by yard end end' epoch epoch' lines lines' same_end same_epoch same_lines keeps =
    subst (λ (n : ℕ). IfSome yard (KeepsName end' epoch' n)) same_lines (subst (λ (k : ℕ). IfSome yard (KeepsName end' k lines)) same_epoch (subst (λ (e : EndId). IfSome yard (KeepsName e epoch lines)) same_end keeps))

pub keeps_none_by : (yard : Option Yard) (end end' : EndId) (epoch epoch' lines lines' : ℕ) → end ≡ end' → epoch ≡ epoch' → lines ≡ lines' → IfSome yard (λ kept. ¬ KeepsName end epoch lines kept) → IfSome yard (λ kept. ¬ KeepsName end' epoch' lines' kept)
keeps_none_by yard end end' epoch epoch' lines lines' same_end same_epoch same_lines keeps =
    subst (λ (n : ℕ). IfSome yard (λ kept. ¬ KeepsName end' epoch' n kept)) same_lines (subst (λ (k : ℕ). IfSome yard (λ kept. ¬ KeepsName end' k lines kept)) same_epoch (subst (λ (e : EndId). IfSome yard (λ kept. ¬ KeepsName e epoch lines kept)) same_end keeps))
