-- Each poster at its own line of its queue.
use Rattle.std.proofs.Common.{◌≡◌, ℕ, zero, suc, ◌<◌, List, [], ◌∷◌, map, length, set, refl, sym, ap, ◌∙◌, subst, arith, Option, Some, None, false, get_or}
use Rattle.std.specs.Prelude.{slice_get, position, is_some, IfSome}
use Rattle.std.proofs.lemmas.List.{length-set}
use Rattle.std.proofs.lemmas.List.Quantifiers.{position-Some}
use Rattle.std.proofs.lemmas.Option.{slice_get_read, slice_get_within, same_Some}
use Rattle.hub_envelope.specs.declared.limits.TheConstants.{MAX_LINES}
use Rattle.hub_envelope.specs.declared.ids.EndId.{EndId}
use Rattle.hub_queue.specs.Mailboxes.{IsOpenMailbox, new_stand, new_stands}
use Rattle.hub_queue.specs.Standing.{StandSeat}
use Rattle.hub_queue.specs.Taking.{TakerSeat}
use Rattle.hub_queue.proofs.Below.{many_below, at_below}
use Rattle.hub_clients.specs.Lines.{with_line, IsTakenOut}
use Rattle.hub_clients.specs.Listings.{ListedSeat, IsPosterOf, IsInPlace, ArePostersOf}
use Rattle.hub_clients.specs.NewQueues.{listed_of}

-- a poster that stands there once another line's is out stood there before
still_there : {A : Type 0} (l : List (Option A)) (i j : ℕ) (p : A) → slice_get (set l i None) j ≡ Some (Some p) → slice_get l j ≡ Some (Some p)
still_there [] i j p e = e
still_there (x ∷ xs) zero zero p e = cc
still_there (x ∷ xs) zero (suc j) p e = e
still_there (x ∷ xs) (suc i) zero p e = e
still_there (x ∷ xs) (suc i) (suc j) p e = still_there xs i j p e

-- a line whose poster is out
pub taken_out : (q : ListedSeat) (line : ℕ) → IsInPlace q → IsInPlace (with_line q line None)
taken_out q line held = record {
  count = length-set q.lines line None ∙ held.count;
  each = λ i p e. held.each i p (still_there q.lines line i p e);
}

-- the posters of a queue whose lines are all at home
pub all_home : (end : EndId) (posters : List StandSeat) → ArePostersOf end posters → (line : ℕ) (p : StandSeat) → slice_get (map Some posters) line ≡ Some (Some p) → IsPosterOf end line p
all_home end posters own line p e = own line p (unwrapped posters line p e)
  where
    unwrapped : (xs : List StandSeat) (i : ℕ) (y : StandSeat) → slice_get (map Some xs) i ≡ Some (Some y) → slice_get xs i ≡ Some y
    unwrapped [] i y e = cc
    unwrapped (x ∷ xs) zero y e = same_Some (Some x) (Some y) e
    unwrapped (x ∷ xs) (suc i) y e = unwrapped xs i y e

-- the posters of a new mailbox are those of its lines, in order
pub opened_posters : (end : EndId) (lines : ℕ) (t : TakerSeat) (posters : List StandSeat) → IsOpenMailbox end lines t posters → (length posters ≡ lines) × ArePostersOf end posters
opened_posters end lines t posters opened =
    let stand : ℕ → StandSeat = new_stand t.newest.keeper.gate t.newest.queue end 0 in
    let stands : ℕ → List StandSeat = new_stands t.newest.keeper.gate t.newest.queue end in
    let many : length posters ≡ lines = ap length opened.posters_are ∙ many_below stand stands refl (λ n. refl) lines in (
      many,
      λ line p e.
          let within : line < length posters = slice_get_within posters line p e in
          let is : stand line ≡ p = same_Some (stand line) p (sym (at_below stand stands refl (λ n. refl) lines line (omega arith)) ∙ ap (λ (l : List StandSeat). slice_get l line) (sym opened.posters_are) ∙ e) in
          record { end_is = ap (λ s. s.name.end) (sym is); line_is = ap (λ s. s.name.line.0) (sym is) },
    )

-- what was taken out of the first line whose poster is at home
pub first_taken : (q : ListedSeat) (line : ℕ) (r : Option StandSeat) → IsInPlace q → position is_some q.lines ≡ Some line → r ≡ get_or q.lines line r → IsTakenOut q (with_line q line None) r
first_taken q line None held first is = absurd (let yes = (position-Some is_some q.lines line None first).1 in let no : is_some (get_or q.lines line None) ≡ false = ap is_some (sym is) in cc)
first_taken q line (Some p) held first is =
    let found : slice_get q.lines line ≡ Some (Some p) = slice_get_read q.lines (length q.lines) line (Some p) refl (position-Some is_some q.lines line None first).0 is in
    let own : line ≡ p.name.line.0 = sym (held.each line p found).line_is in
    (first ∙ ap (λ i. Some i) own, subst (λ i. slice_get q.lines i ≡ Some (Some p)) own found, ap (λ i. with_line q i None) own)

-- it is of the queue, and of one of its lines
pub own_taken : (q : ListedSeat) (line : ℕ) (r : Option StandSeat) → IsInPlace q → position is_some q.lines ≡ Some line → r ≡ get_or q.lines line r → IfSome r (λ p. (p.name.end ≡ q.end) × (p.name.line.0 < 32))
own_taken q line None held first is = tt
own_taken q line (Some p) held first is =
    let within = (position-Some is_some q.lines line None first).0 in
    let own = held.each line p (slice_get_read q.lines (length q.lines) line (Some p) refl within is) in
    let count = held.count in
    let same = own.line_is in
    (own.end_is, omega arith)

-- what is listed of a mailbox are exactly its posters
pub listed_is : (end : EndId) (t : TakerSeat) (posters : List StandSeat) (l : ListedSeat) → IsOpenMailbox end MAX_LINES t posters → l ≡ record { end = end; lines = map Some posters } → l ≡ listed_of t
listed_is end t posters l opened is =
    let same : t.end ≡ end.0 = ap (λ (u : TakerSeat). u.end) opened.taker_is in
    let stands : posters ≡ new_stands t.newest.keeper.gate t.newest.queue (record { 0 = t.end }) MAX_LINES = opened.posters_are ∙ ap (λ (e : ℕ). new_stands t.newest.keeper.gate t.newest.queue (record { 0 = e }) MAX_LINES) (sym same) in
    is ∙ (λ i. record { end = record { 0 = sym same i }; lines = map Some (stands i) })
