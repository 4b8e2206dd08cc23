-- The numbers of the listed queues never fall.
use Rattle.std.proofs.Common.{◌≡◌, ◌≢◌, ℕ, ◌<◌, ◌≤◌, true, false, ltb, leb, List, length, get_or, refl, ap, ◌∙◌, ⊎_elim, arith}
use Rattle.std.specs.Prelude.{All, insert}
use Rattle.std.specs.List.{AllWithin}
use Rattle.std.specs.List.Sorted.{IsPartitionPoint}
use Rattle.std.proofs.lemmas.Bool.{cases_lt, leb-true, leb-false, ltb-true, ltb-false}
use Rattle.std.proofs.lemmas.List.{get_or_default}
use Rattle.std.proofs.lemmas.List.Sorted.{IsNonDecreasingBy-insert}
use Rattle.std.proofs.lemmas.Option.{slice_get_read}
use Rattle.hub_envelope.specs.declared.ids.EndId.{EndId}
use Rattle.hub_clients.specs.Listings.{ListedSeat, IsInOrder, IsFirstOf, IsPlaceBehind}

-- the queues whose numbers are below this one stand in front
module _ (queues : List ListedSeat) (end : EndId) (place : ℕ) (point : IsPartitionPoint (λ q. ltb q.end.0 end.0 ≡ true) (λ q. ltb q.end.0 end.0 ≡ false) queues place) where
  -- none of them has this number
  pub before : AllWithin (λ other. other.end ≢ end) queues 0 place
  before k d le low same =
      let number : (get_or queues k d).end.0 ≡ end.0 = ap (λ e. e.0) same in
      let below = ltb-true _ _ (point.0 k d le low) in
      omega arith

  -- the next one is the first of this number, if it has it
  pub first_found : (q : ListedSeat) → place < length queues → q ≡ get_or queues place q → q.end ≡ end → IsFirstOf queues end place q
  first_found q low is same = record { found = slice_get_read queues (length queues) place q refl low is; end_is = same; first = before }

  -- no queue has this number where the next one hasn't
  pub none_found : IsInOrder queues → (q : ListedSeat) → place < length queues → q ≡ get_or queues place q → q.end ≢ end → All (λ other. other.end ≢ end) queues
  none_found order q low is other k d within same =
      let number : (get_or queues k d).end.0 ≡ end.0 = ap (λ e. e.0) same in
      let here : q.end.0 ≡ (get_or queues place d).end.0 = ap (λ s. s.end.0) (is ∙ get_or_default queues place q d low) in
      let not_below : end.0 ≤ (get_or queues place d).end.0 = ltb-false _ _ (point.1 place d (omega arith) low) in
      let above : place ≤ k = ⊎_elim (λ less. absurd (before k d (omega arith) less same)) (λ le. le) (cases_lt k place) in
      let kept = order place k d above within in
      let e : q.end.0 ≡ end.0 = omega arith in
      other (λ i. record { 0 = e i })

  -- nor where there is no next one
  pub none_left : length queues ≤ place → All (λ other. other.end ≢ end) queues
  none_left past k d within = before k d (omega arith) (omega arith)

-- the queues whose numbers are at most this one stand in front
pub behind_them : (queues : List ListedSeat) (end : EndId) (place : ℕ) → place ≤ length queues → IsPartitionPoint (λ q. leb q.end.0 end.0 ≡ true) (λ q. leb q.end.0 end.0 ≡ false) queues place → IsPlaceBehind queues end place
behind_them queues end place within point = record {
  within = within;
  before = λ k d le low. leb-true _ _ (point.0 k d le low);
  behind = λ k d le low. leb-false _ _ (point.1 k d le low);
}

-- a queue that is listed there leaves the numbers in order
pub in_order : (queues : List ListedSeat) (q : ListedSeat) (place : ℕ) → IsPlaceBehind queues q.end place → IsInOrder queues → IsInOrder (insert queues place q)
in_order queues q place there order = IsNonDecreasingBy-insert (λ s. s.end.0) queues place q order there.within (λ k d low. there.before k d (omega arith) low) (λ k d le low. let h = there.behind k d le low in omega arith)
