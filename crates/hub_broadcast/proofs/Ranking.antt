-- The ends of a roster rise.
use Rattle.std.proofs.Common.{◌≡◌, ◌≢◌, ℕ, zero, suc, ◌+◌, ◌<◌, ◌≤◌, ◌==◌, ◌&&◌, Bool, true, false, not, cond, Result, Ok, Err, List, [], ◌∷◌, ◌++◌, All, Any, map, length, get_or, nat_lt, bytes_eq, true≢false, ◌-◌, refl, sym, ap, subst, ◌∙◌, arith}
use Rattle.std.proofs.lemmas.Bool.{and_parts, ltb-true, ltb-false}
use Rattle.std.proofs.lemmas.Bool.Decides.{Decides-eqb}
use Rattle.std.proofs.lemmas.List.Elements.{All-append, All-cons, All-head, All-nil, All-same, All-tail, All-weaker}
use Rattle.std.specs.Prelude.{filter, MatchBool}
use Rattle.hub_envelope.specs.declared.envelope.Draft.{Draft}
use Rattle.hub_envelope.specs.declared.ids.AgentId.{AgentId}
use Rattle.hub_envelope.specs.declared.ids.EndId.{EndId}
use Rattle.hub_envelope.specs.declared.limits.TheConstants.{MAX_ENDS}
use Rattle.hub_envelope.specs.declared.posted.Posted.{Posted}
use Rattle.hub_queue.specs.declared.error.PostError.{PostError}
use Rattle.hub_queue.specs.Mailboxes.{new_stand}
use Rattle.hub_queue.specs.Posting.{IsPosted}
use Rattle.hub_queue.specs.Standing.{StandSeat}
use Rattle.hub_broadcast.specs.declared.casting.CastOutcome.{CastOutcome}
use Rattle.hub_broadcast.specs.Casting.{AreDestinations, IsBroadcast, IsDelivered, IsOutcomeAt, post_answer}
use Rattle.hub_broadcast.specs.Destinations.{destinations_in, is_destination, is_of_end}
use Rattle.hub_broadcast.specs.Joining.{IsJoined}
use Rattle.hub_broadcast.specs.Members.{MemberSeat, SubscriptionSeat}
use Rattle.hub_broadcast.specs.Ranks.{KeepsOrder}
use Rattle.hub_broadcast.specs.Rising.{IsRising, RiseBetween}
use Rattle.hub_broadcast.proofs.Casts.{cast_to}
use Rattle.hub_broadcast.proofs.Naming.{stood_end}

number_of : SubscriptionSeat → ℕ
number_of s = s.poster.name.end.0

pub lower : (low least high : ℕ) (ns : List ℕ) → low ≤ least → RiseBetween least high ns → RiseBetween low high ns
lower low least high [] below rise = omega arith
lower low least high (n ∷ ns) below (first, rest) = (omega arith, rest)

-- one number more, which is the bound
push : (low high : ℕ) (ns : List ℕ) → RiseBetween low high ns → RiseBetween low (high + 1) (ns ++ high ∷ [])
push low high [] rise = (rise, omega arith)
push low high (n ∷ ns) (first, rest) = (first, push (n + 1) high ns rest)

-- some of the members, in their order
some_rise : (p : SubscriptionSeat → Bool) (low high : ℕ) (roster : List SubscriptionSeat) → RiseBetween low high (map (λ s. s.poster.name.end.0) roster) → RiseBetween low high (map (λ s. s.poster.name.end.0) (filter p roster))
some_rise p low high [] rise = rise
some_rise p low high (s ∷ rest) (first, behind) =
    let more : RiseBetween (s.poster.name.end.0 + 1) high (map (λ s. s.poster.name.end.0) (filter p rest)) = some_rise p (s.poster.name.end.0 + 1) high rest behind in
    elim (p s) as (λ b. RiseBetween low high (map (λ r. r.poster.name.end.0) (cond b (s ∷ filter p rest) (filter p rest)))) [
      | true ↦ (first, more)
      | false ↦ lower low (s.poster.name.end.0 + 1) high (map (λ r. r.poster.name.end.0) (filter p rest)) (omega arith) more
    ]

map_ends : (roster : List SubscriptionSeat) → map (λ e. e.0) (map (λ s. s.poster.name.end) roster) ≡ map (λ s. s.poster.name.end.0) roster
map_ends [] = refl
map_ends (s ∷ rest) = ap (λ l. s.poster.name.end.0 ∷ l) (map_ends rest)

map_push : (roster : List SubscriptionSeat) (s : SubscriptionSeat) → map (λ r. r.poster.name.end.0) (roster ++ s ∷ []) ≡ map (λ r. r.poster.name.end.0) roster ++ s.poster.name.end.0 ∷ []
map_push [] s = refl
map_push (r ∷ rest) s = ap (λ l. r.poster.name.end.0 ∷ l) (map_push rest s)

-- a post leaves the member at its end
posted_end : (old new : StandSeat) (draft : Draft) (answer : Result Posted (PostError × Draft)) → IsPosted old new draft answer → new.name.end ≡ old.name.end
posted_end old new draft (Ok posted) is = stood_end old new is.0 is.1 is.2
posted_end old new draft (Err refused) is = stood_end old new is.0 is.1 is.2

end_stays : (b : Bool) (s t : SubscriptionSeat) (draft : Draft) (here : List (EndId × CastOutcome)) → MatchBool b ((outcome : CastOutcome) × (here ≡ (s.poster.name.end, outcome) ∷ []) × IsDelivered s t draft outcome) ((here ≡ []) × (t ≡ s)) → t.poster.name.end ≡ s.poster.name.end
end_stays true s t draft here (outcome, told, delivered) = posted_end s.poster t.poster draft (post_answer outcome draft) delivered.posted
end_stays false s t draft here (told, same) = ap (λ r. r.poster.name.end) same

ends_stay : (source : MemberSeat) (draft : Draft) (old new : List SubscriptionSeat) (outcomes : List (EndId × CastOutcome)) → IsBroadcast source draft old new outcomes → map (λ s. s.poster.name.end.0) new ≡ map (λ s. s.poster.name.end.0) old
ends_stay source draft [] new outcomes (new_is, told) = ap (map (λ s. s.poster.name.end.0)) new_is
ends_stay source draft (s ∷ rest) new outcomes (t, later, here, behind, new_is, told, at, more) =
    let first : t.poster.name.end ≡ s.poster.name.end = end_stays (is_destination source s) s t draft here at in
    let others : map (λ r. r.poster.name.end.0) later ≡ map (λ r. r.poster.name.end.0) rest = ends_stay source draft rest later behind more in
    ap (map (λ r. r.poster.name.end.0)) new_is ∙ (λ i. (first i).0 ∷ others i)

joined_end : (number : ℕ) (agent : AgentId) (origin name : List ℕ) (old new : List SubscriptionSeat) (m : MemberSeat) → (is : IsJoined number agent origin name old new m) → is.is_new.poster.name.end.0 ≡ number
joined_end number agent origin name old new m is =
    let one : is.is_new.poster ∷ [] ≡ new_stand is.is_new.opened.newest.keeper.gate is.is_new.opened.newest.queue (record { 0 = number }) 0 0 ∷ [] = is.is_new.mailbox.posters_are in
    let same : is.is_new.poster ≡ new_stand is.is_new.opened.newest.keeper.gate is.is_new.opened.newest.queue (record { 0 = number }) 0 0 = cc in
    ap (λ p. p.name.end.0) same

pub keeps_order : KeepsOrder
keeps_order = record {
  join = λ drawn agent origin name old new m is rising.
      let numbers : map (λ s. s.poster.name.end.0) new ≡ map (λ s. s.poster.name.end.0) old ++ drawn ∷ [] =
      ap (map (λ s. s.poster.name.end.0)) is.roster ∙ map_push old (record { origin = origin; name = name; poster = is.is_new.poster }) ∙ ap (λ n. map (λ s. s.poster.name.end.0) old ++ n ∷ []) (joined_end drawn agent origin name old new m is) in
      subst (λ l. RiseBetween 0 (drawn + 1) l) (sym numbers) (push 0 drawn (map (λ s. s.poster.name.end.0) old) rising);
  leave = λ drawn end old rising. some_rise (λ s. not (is_of_end end s)) 0 drawn old rising;
  cast = λ drawn source draft old new outcomes is rising. subst (λ l. RiseBetween 0 drawn l) (sym (ends_stay source draft old new outcomes is)) rising;
  destinations_rise = λ drawn source roster rising. subst (λ l. RiseBetween 0 drawn l) (sym (map_ends (filter (is_destination source) roster))) (some_rise (is_destination source) 0 drawn roster rising);
}

-- one member more, whose number is above those of all others
push_above : (low high : ℕ) (roster : List SubscriptionSeat) (s : SubscriptionSeat) → RiseBetween low high (map (λ r. r.poster.name.end.0) roster)
    → All (λ r. r.poster.name.end.0 < s.poster.name.end.0) roster → low ≤ s.poster.name.end.0 → s.poster.name.end.0 < high → RiseBetween low high (map (λ r. r.poster.name.end.0) (roster ++ s ∷ []))
push_above low high [] s rise below least few = (least, omega arith)
push_above low high (r ∷ rest) s (first, behind) below least few =
    let here : r.poster.name.end.0 < s.poster.name.end.0 = All-head (λ x. x.poster.name.end.0 < s.poster.name.end.0) r rest below in
    (first, push_above (r.poster.name.end.0 + 1) high rest s behind (All-tail (λ x. x.poster.name.end.0 < s.poster.name.end.0) r rest below) (omega arith) few)

pub joined_rises : (high number : ℕ) (shown old now new : List SubscriptionSeat) (s : SubscriptionSeat) (b : Bool) → b ≡ true → MatchBool b (All (λ r. r.poster.name.end.0 < number) shown) (Any (λ r. number ≤ r.poster.name.end.0) shown)
    → old ≡ shown → now ≡ old → new ≡ now ++ s ∷ [] → IsRising high old → s.poster.name.end.0 ≡ number → number < high → IsRising high new
joined_rises high number shown old now new s false never told shown_is now_is new_is rising is few = absurd (true≢false (sym never))
joined_rises high number shown old now new s true all below shown_is now_is new_is rising is few =
    let under : All (λ r. r.poster.name.end.0 < s.poster.name.end.0) old = subst (λ (n : ℕ). All (λ (r : SubscriptionSeat). r.poster.name.end.0 < n) old) (sym is) (subst (λ (l : List SubscriptionSeat). All (λ (r : SubscriptionSeat). r.poster.name.end.0 < number) l) (sym shown_is) below) in
    subst (IsRising high) (sym (new_is ∙ ap (λ l. l ++ s ∷ []) now_is)) (push_above 0 high old s rising under (omega arith) (omega arith))

-- the last number is the highest
pub up_to_last : (low high k : ℕ) (roster : List SubscriptionSeat) (newest : SubscriptionSeat) → k + 1 ≡ length roster → newest ≡ get_or roster k newest
    → RiseBetween low high (map (λ r. r.poster.name.end.0) roster) → All (λ r. r.poster.name.end.0 ≤ newest.poster.name.end.0) roster
up_to_last low high k [] newest len at rise = All-nil (λ r. r.poster.name.end.0 ≤ newest.poster.name.end.0)
up_to_last low high zero (s ∷ []) newest len at rise =
    let same : newest.poster.name.end.0 ≡ s.poster.name.end.0 = ap (λ (r : SubscriptionSeat). r.poster.name.end.0) at in
    let here : s.poster.name.end.0 ≤ newest.poster.name.end.0 = omega arith in
    All-cons (λ r. r.poster.name.end.0 ≤ newest.poster.name.end.0) s [] here (All-nil (λ r. r.poster.name.end.0 ≤ newest.poster.name.end.0))
up_to_last low high (suc k) (s ∷ []) newest len at rise = absurd (omega arith)
up_to_last low high zero (s ∷ r ∷ rest) newest len at rise = absurd (omega arith)
up_to_last low high (suc k) (s ∷ r ∷ rest) newest len at (first, behind) =
    let others = up_to_last (s.poster.name.end.0 + 1) high k (r ∷ rest) newest (omega arith) at behind in
    let next : r.poster.name.end.0 ≤ newest.poster.name.end.0 = All-head (λ x. x.poster.name.end.0 ≤ newest.poster.name.end.0) r rest others in
    let above : s.poster.name.end.0 + 1 ≤ r.poster.name.end.0 = behind.0 in
    let here : s.poster.name.end.0 ≤ newest.poster.name.end.0 = omega arith in
    All-cons (λ x. x.poster.name.end.0 ≤ newest.poster.name.end.0) s (r ∷ rest) here others

-- where the last number is below another all are, and else it is one that isn't
below_told : (b : Bool) (number : ℕ) (roster : List SubscriptionSeat) (newest : SubscriptionSeat) → b ≡ nat_lt newest.poster.name.end.0 number → 0 < length roster → newest ≡ get_or roster (length roster - 1) newest → IsRising MAX_ENDS roster
    → MatchBool b (All (λ s. s.poster.name.end.0 < number) roster) (Any (λ s. number ≤ s.poster.name.end.0) roster)
below_told true number roster newest is some at rising =
    let low : newest.poster.name.end.0 < number = ltb-true newest.poster.name.end.0 number (sym is) in
    let lower_too : (s : SubscriptionSeat) → s.poster.name.end.0 ≤ newest.poster.name.end.0 → s.poster.name.end.0 < number = λ s h. omega arith in
    All-weaker (λ s. s.poster.name.end.0 ≤ newest.poster.name.end.0) (λ s. s.poster.name.end.0 < number) lower_too roster (up_to_last 0 MAX_ENDS (length roster - 1) roster newest (omega arith) at rising)
below_told false number roster newest is some at rising =
    (length roster - 1, newest, omega arith, sym at, ltb-false newest.poster.name.end.0 number (sym is))

pub below_read : (b : Bool) (number : ℕ) (shown items read : List SubscriptionSeat) (newest : SubscriptionSeat) (end : EndId) → items ≡ shown → read ≡ items → IsRising MAX_ENDS items → 0 < length read → newest ≡ get_or read (length read - 1) newest
    → end ≡ newest.poster.name.end → b ≡ nat_lt end.0 number → MatchBool b (All (λ s. s.poster.name.end.0 < number) shown) (Any (λ s. number ≤ s.poster.name.end.0) shown)
below_read b number shown items read newest end shown_is read_is rising some at end_is test =
    let rises : IsRising MAX_ENDS read = subst (IsRising MAX_ENDS) (sym read_is) rising in
    subst (λ (l : List SubscriptionSeat). MatchBool b (All (λ s. s.poster.name.end.0 < number) l) (Any (λ s. number ≤ s.poster.name.end.0) l)) (read_is ∙ shown_is)
    (below_told b number read newest (test ∙ ap (λ (e : EndId). nat_lt e.0 number) end_is) some at rises)

-- a destination isn't the source
differs : (p q : Bool) (m n : ℕ) → (p && (q && not (m == n))) ≡ true → m ≢ n
differs p q m n is = λ same. true≢false (sym (and_parts q (not (m == n)) (and_parts p (q && not (m == n)) is).1).1 ∙ ap not ((Decides-eqb m n).1 same))

-- the outcome doesn't stand under the end of this number, and what was accepted bears the end under which it stands
abbrev pub IsToldApart : ℕ → EndId × CastOutcome → Type 0
IsToldApart number o = (o.0.0 ≢ number) × IsOutcomeAt o.0 o.1

here_told : (source : MemberSeat) (b : Bool) (s t : SubscriptionSeat) (draft : Draft) (here : List (EndId × CastOutcome)) → is_destination source s ≡ b
    → MatchBool b ((outcome : CastOutcome) × (here ≡ (s.poster.name.end, outcome) ∷ []) × IsDelivered s t draft outcome) ((here ≡ []) × (t ≡ s)) → All (IsToldApart source.taker.end) here
here_told source true s t draft here goes (outcome, told, delivered) =
    let apart : s.poster.name.end.0 ≢ source.taker.end = differs (bytes_eq s.origin source.origin) (bytes_eq s.name source.name) s.poster.name.end.0 source.taker.end goes in
    All-same (IsToldApart source.taker.end) here ((s.poster.name.end, outcome) ∷ []) told
    (All-cons (IsToldApart source.taker.end) (s.poster.name.end, outcome) [] (apart, delivered.named) (All-nil (IsToldApart source.taker.end)))
here_told source false s t draft here goes (told, same) = All-same (IsToldApart source.taker.end) here [] told (All-nil (IsToldApart source.taker.end))

each_told : (source : MemberSeat) (draft : Draft) (old new : List SubscriptionSeat) (outcomes : List (EndId × CastOutcome)) → IsBroadcast source draft old new outcomes → All (IsToldApart source.taker.end) outcomes
each_told source draft [] new outcomes (new_is, told) = All-same (IsToldApart source.taker.end) outcomes [] told (All-nil (IsToldApart source.taker.end))
each_told source draft (s ∷ rest) new outcomes (t, later, here, behind, new_is, told, at, more) =
    All-same (IsToldApart source.taker.end) outcomes (here ++ behind) told
    (All-append (IsToldApart source.taker.end) here behind (here_told source (is_destination source s) s t draft here refl at) (each_told source draft rest later behind more))

map_told : (outcomes : List (EndId × CastOutcome)) → map (λ e. e.0) (map (λ o. o.0) outcomes) ≡ map (λ o. o.0.0) outcomes
map_told [] = refl
map_told (o ∷ outcomes) = ap (λ l. o.0.0 ∷ l) (map_told outcomes)

-- what is told of the destinations of a roster whose ends rise
pub are_destinations : (source : MemberSeat) (draft : Draft) (old new : List SubscriptionSeat) (outcomes : List (EndId × CastOutcome)) → IsBroadcast source draft old new outcomes → IsRising MAX_ENDS old → AreDestinations source outcomes
are_destinations source draft old new outcomes is rising =
    let told = each_told source draft old new outcomes is in
    let ends : map (λ o. o.0.0) outcomes ≡ map (λ e. e.0) (destinations_in source old) = sym (map_told outcomes) ∙ ap (map (λ e. e.0)) (cast_to source draft old new outcomes is) in
    record {
      rise = subst (λ l. RiseBetween 0 MAX_ENDS l) (sym ends) (keeps_order.destinations_rise MAX_ENDS source old rising);
      others = λ k d low. (told k d low).0;
      named = λ k d low. (told k d low).1;
    }
