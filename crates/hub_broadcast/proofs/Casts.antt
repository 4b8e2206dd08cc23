-- A cast, one member of the roster after the other.
use Rattle.std.proofs.Common.{◌≡◌, ℕ, ◌+◌, ◌<◌, ◌≤◌, Bool, true, false, cond, Option, Some, List, [], ◌∷◌, ◌++◌, All, length, map, take, drop, set, get_or, refl, sym, ap, subst, ◌∙◌, append_assoc, arith, length-set}
use Rattle.std.specs.Prelude.{filter, count_by, IfSome, MatchBool}
use Rattle.std.proofs.lemmas.List.{take-append-le, take_all, take_more, take_more_set, drop_more, drop-set-lt, append-nil, map-append, set-get_or}
use Rattle.std.proofs.lemmas.List.Elements.{All-pop}
use Rattle.std.proofs.lemmas.List.Sums.{sum_by-drop_more}
use Rattle.std.specs.Option.{option_to_list}
use Rattle.hub_envelope.specs.declared.envelope.Draft.{Draft}
use Rattle.hub_envelope.specs.declared.ids.EndId.{EndId}
use Rattle.hub_broadcast.specs.declared.casting.CastOutcome.{CastOutcome}
use Rattle.hub_broadcast.specs.Casting.{IsBroadcast, IsBroadcastAt, IsDelivered}
use Rattle.hub_broadcast.specs.Destinations.{destinations_in, is_destination}
use Rattle.hub_broadcast.specs.Members.{MemberSeat, SubscriptionSeat}

module _ (source : MemberSeat) (draft : Draft) where
  -- one member more
  pub cast_more : (old new : List SubscriptionSeat) (outcomes here : List (EndId × CastOutcome)) (s t : SubscriptionSeat) → IsBroadcast source draft old new outcomes → IsBroadcastAt source draft s t here → IsBroadcast source draft (old ++ s ∷ []) (new ++ t ∷ []) (outcomes ++ here)
  cast_more [] new outcomes here s t before at =
      (t, [], here, [], ap (λ l. l ++ t ∷ []) before.0, ap (λ l. l ++ here) before.1 ∙ sym (append-nil here), at, (refl, refl))
  cast_more (r ∷ rest) new outcomes here s t (u, later, first, behind, new_is, outcomes_are, at_first, before) at =
      (u, later ++ t ∷ [], first, behind ++ here, ap (λ l. l ++ t ∷ []) new_is, ap (λ l. l ++ here) outcomes_are ∙ append_assoc first behind here, at_first, cast_more rest later behind here s t before at)

  -- the ends under which the outcomes stand
  abbrev pub ends_of : List (EndId × CastOutcome) → List EndId
  ends_of outcomes = map (λ o. o.0) outcomes

  ends_here : (b : Bool) (s t : SubscriptionSeat) (here : List (EndId × CastOutcome)) (rest : List SubscriptionSeat)
      → MatchBool b ((outcome : CastOutcome) × (here ≡ (s.poster.name.end, outcome) ∷ []) × IsDelivered s t draft outcome) ((here ≡ []) × (t ≡ s))
      → ends_of here ++ map (λ r. r.poster.name.end) rest ≡ map (λ r. r.poster.name.end) (cond b (s ∷ rest) rest)
  ends_here true s t here rest (outcome, here_is, delivered) = ap (λ l. ends_of l ++ map (λ r. r.poster.name.end) rest) here_is
  ends_here false s t here rest (here_is, same) = ap (λ l. ends_of l ++ map (λ r. r.poster.name.end) rest) here_is

  -- a cast goes to the destinations, each once, in order
  pub cast_to : (old new : List SubscriptionSeat) (outcomes : List (EndId × CastOutcome)) → IsBroadcast source draft old new outcomes → ends_of outcomes ≡ destinations_in source old
  cast_to [] new outcomes (new_is, outcomes_are) = ap ends_of outcomes_are
  cast_to (s ∷ rest) new outcomes (t, later, here, behind, new_is, outcomes_are, at, more) =
      ap ends_of outcomes_are ∙ map-append (λ o. o.0) here behind ∙ ap (λ l. ends_of here ++ l) (cast_to rest later behind more) ∙ ends_here (is_destination source s) s t here (filter (is_destination source) rest) at

  -- The first members were cast to, as far as they are destinations, and the others are as they were.
  pub record IsBroadcastSoFar (old now : List SubscriptionSeat) (i : ℕ) (outcomes : List (EndId × CastOutcome)) : Type 0 where
    pub cast : IsBroadcast source draft (take i old) (take i now) outcomes
    pub rest : drop i now ≡ drop i old
    pub len : length now ≡ length old

  pub cast_step : (old now : List SubscriptionSeat) (i : ℕ) (outcomes here : List (EndId × CastOutcome)) (s t : SubscriptionSeat)
      → i < length now → s ≡ get_or now i s → IsBroadcastSoFar old now i outcomes → IsBroadcastAt source draft s t here → IsBroadcastSoFar old (set now i t) (i + 1) (outcomes ++ here)
  cast_step old now i outcomes here s t low read before at =
      let low_old : i < length old = omega (arith, before.len) in
      let both : get_or now i s ∷ drop (i + 1) now ≡ get_or old i s ∷ drop (i + 1) old = sym (drop_more now i s low) ∙ before.rest ∙ drop_more old i s low_old in
      let rest : drop (i + 1) now ≡ drop (i + 1) old = cc in
      let here_is : s ≡ get_or old i s = cc in
      let old_is : take (i + 1) old ≡ take i old ++ s ∷ [] = take_more old i s low_old ∙ ap (λ x. take i old ++ x ∷ []) (sym here_is) in
      record {
        cast = subst (λ l. IsBroadcast source draft l (take (i + 1) (set now i t)) (outcomes ++ here)) (sym old_is)
            (subst (λ l. IsBroadcast source draft (take i old ++ s ∷ []) l (outcomes ++ here)) (sym (take_more_set now i t low))
            (cast_more (take i old) (take i now) outcomes here s t before.cast at));
        rest = drop-set-lt (i + 1) now i t (omega arith) ∙ rest;
        len = length-set now i t ∙ before.len;
      }

-- how many destinations are left at a member: those behind it, and itself where it is one
pub left_at : (source : MemberSeat) (now : List SubscriptionSeat) (i : ℕ) (s : SubscriptionSeat) → i < length now → s ≡ get_or now i s
    → count_by (is_destination source) (drop i now) ≡ cond (is_destination source s) 1 0 + count_by (is_destination source) (drop (i + 1) now)
left_at source now i s low read =
    sum_by-drop_more (λ r. cond (is_destination source r) 1 0) now i s low ∙ ap (λ r. cond (is_destination source r) 1 0 + count_by (is_destination source) (drop (i + 1) now)) (sym read)

-- the last draft of some that are all the same
pub last_draft : (draft : Draft) (before after : List Draft) (popped : Option Draft) (one : Draft) → before ≡ after ++ option_to_list popped → popped ≡ Some one → All (λ d. d ≡ draft) before → All (λ d. d ≡ draft) after × (one ≡ draft)
last_draft draft before after popped one split some_one all =
    let parts = All-pop (λ d. d ≡ draft) before after popped split all in
    (parts.0, subst (λ (o : Option Draft). IfSome o (λ d. d ≡ draft)) some_one parts.1)

module _ (source : MemberSeat) (draft : Draft) (old now next : List SubscriptionSeat) (i : ℕ) (s : SubscriptionSeat) (low : i < length now) (read : s ≡ get_or now i s) where
  -- a member that is a destination, where the draft was posted
  pub posted_step : (outcomes told : List (EndId × CastOutcome)) (t : SubscriptionSeat) (end : EndId) (outcome : CastOutcome) (one : Draft)
      → IsBroadcastSoFar source draft old now i outcomes → is_destination source s ≡ true → one ≡ draft → IsDelivered s t one outcome → end ≡ s.poster.name.end
      → next ≡ set now i t → told ≡ outcomes ++ (end, outcome) ∷ [] → IsBroadcastSoFar source draft old next (i + 1) told
  posted_step outcomes told t end outcome one before goes same delivered end_is next_is told_is =
      let here : List (EndId × CastOutcome) = (end, outcome) ∷ [] in
      let post : IsDelivered s t draft outcome = subst (λ d. IsDelivered s t d outcome) same delivered in
      let here_is : here ≡ (s.poster.name.end, outcome) ∷ [] = ap (λ e. (e, outcome) ∷ []) end_is in
      let at : IsBroadcastAt source draft s t here = subst (λ b. MatchBool b ((o : CastOutcome) × (here ≡ (s.poster.name.end, o) ∷ []) × IsDelivered s t draft o) ((here ≡ []) × (t ≡ s))) (sym goes) (outcome, here_is, post) in
      subst (λ l. IsBroadcastSoFar source draft old l (i + 1) told) (sym next_is)
      (subst (λ l. IsBroadcastSoFar source draft old (set now i t) (i + 1) l) (sym told_is) (cast_step source draft old now i outcomes here s t low read before at))

  -- a member that is none
  pub passed_step : (outcomes told : List (EndId × CastOutcome)) → IsBroadcastSoFar source draft old now i outcomes → is_destination source s ≡ false → next ≡ now → told ≡ outcomes → IsBroadcastSoFar source draft old next (i + 1) told
  passed_step outcomes told before goes next_is told_is =
      let here : List (EndId × CastOutcome) = [] in
      let at : IsBroadcastAt source draft s s here = subst (λ b. MatchBool b ((o : CastOutcome) × (here ≡ (s.poster.name.end, o) ∷ []) × IsDelivered s s draft o) ((here ≡ []) × (s ≡ s))) (sym goes) (refl, refl) in
      let kept : set now i s ≡ now = ap (λ r. set now i r) read ∙ set-get_or now i s in
      subst (λ l. IsBroadcastSoFar source draft old l (i + 1) told) (kept ∙ sym next_is)
      (subst (λ l. IsBroadcastSoFar source draft old (set now i s) (i + 1) l) (append-nil outcomes ∙ sym told_is) (cast_step source draft old now i outcomes here s s low read before at))

  -- one destination less is left behind one
  pub left_behind : (before after : ℕ) (t : SubscriptionSeat) → before ≡ count_by (is_destination source) (drop i now) → after + 1 ≡ before → is_destination source s ≡ true → next ≡ set now i t → after ≡ count_by (is_destination source) (drop (i + 1) next)
  left_behind before after t were fewer goes next_is =
      let rest : drop (i + 1) next ≡ drop (i + 1) now = ap (drop (i + 1)) next_is ∙ drop-set-lt (i + 1) now i t (omega arith) in
      let count : count_by (is_destination source) (drop i now) ≡ 1 + count_by (is_destination source) (drop (i + 1) now) = left_at source now i s low read ∙ ap (λ b. cond b 1 0 + count_by (is_destination source) (drop (i + 1) now)) goes in
      let same : count_by (is_destination source) (drop (i + 1) next) ≡ count_by (is_destination source) (drop (i + 1) now) = ap (count_by (is_destination source)) rest in
      omega arith

  pub left_beside : (before : ℕ) → before ≡ count_by (is_destination source) (drop i now) → is_destination source s ≡ false → next ≡ now → before ≡ count_by (is_destination source) (drop (i + 1) next)
  left_beside before were goes next_is =
      let count : count_by (is_destination source) (drop i now) ≡ 0 + count_by (is_destination source) (drop (i + 1) now) = left_at source now i s low read ∙ ap (λ b. cond b 1 0 + count_by (is_destination source) (drop (i + 1) now)) goes in
      let same : count_by (is_destination source) (drop (i + 1) next) ≡ count_by (is_destination source) (drop (i + 1) now) = ap (λ l. count_by (is_destination source) (drop (i + 1) l)) next_is in
      omega arith

-- what a slice of a whole list has become is the list
pub written_back : (len : ℕ) (new rest : List SubscriptionSeat) → length new ≡ len → take len (new ++ rest) ≡ new
written_back len new rest is =
    let low : len ≤ length new = omega arith in
    rw take-append-le (take_all len new (omega arith))
