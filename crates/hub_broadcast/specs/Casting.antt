-- What a cast comes to.
use Rattle.std.specs.Prelude.{◌≡◌, ◌≢◌, ℕ, [], ◌∷◌, ◌++◌, false, All, List, map, MatchBool, Result, Ok, Err}
use Rattle.hub_envelope.specs.declared.envelope.Draft.{Draft}
use Rattle.hub_envelope.specs.declared.ids.EndId.{EndId}
use Rattle.hub_envelope.specs.declared.posted.Posted.{Posted}
use Rattle.hub_queue.specs.declared.error.PostError.{PostError}
use Rattle.hub_queue.specs.declared.error.PostError.TheVariants as refusal
use Rattle.hub_queue.specs.Posting.{IsPosted}
use Rattle.hub_broadcast.specs.declared.casting.CastOutcome.{CastOutcome}
use Rattle.hub_broadcast.specs.declared.casting.CastOutcome.TheVariants.{Accepted, Closed, OutOfMemory, Moving}
use Rattle.hub_broadcast.specs.Destinations.{is_destination}
use Rattle.hub_broadcast.specs.Members.{MemberSeat, SubscriptionSeat}
use Rattle.hub_broadcast.specs.Rising.{Rise}

-- what is posted at each destination
abbrev pub cast_draft : MemberSeat → List ℕ → Draft
cast_draft source body = record { agent = source.agent; body = body; ports = []; notice = false }

-- the answer of a post, of which this is told
abbrev pub post_answer : CastOutcome → Draft → Result Posted (PostError × Draft)
post_answer (Accepted posted) draft = Ok posted
post_answer Closed draft = Err (refusal.Closed, draft)
post_answer OutOfMemory draft = Err (refusal.OutOfMemory, draft)
post_answer Moving draft = Err (refusal.Moving, draft)

-- what was accepted bears this end in its name
abbrev pub IsOutcomeAt : EndId → CastOutcome → Type 0
IsOutcomeAt end (Accepted posted) = posted.end ≡ end
IsOutcomeAt end Closed = Unit {0}
IsOutcomeAt end OutOfMemory = Unit {0}
IsOutcomeAt end Moving = Unit {0}

-- the draft was posted once at the member, with this outcome; an accepted one bears the member's end in its name
pub record IsDelivered (old new : SubscriptionSeat) (draft : Draft) (outcome : CastOutcome) : Type 0 where
  pub same : new ≡ record old { poster = new.poster }
  pub posted : IsPosted old.poster new.poster draft (post_answer outcome draft)
  pub named : IsOutcomeAt old.poster.name.end outcome

-- at a destination the draft was posted once, and its outcome stands under its end; any other member is as it was
abbrev pub IsBroadcastAt : MemberSeat → Draft → SubscriptionSeat → SubscriptionSeat → List (EndId × CastOutcome) → Type 0
IsBroadcastAt source draft old new here =
    MatchBool (is_destination source old) ((outcome : CastOutcome) × (here ≡ (old.poster.name.end, outcome) ∷ []) × IsDelivered old new draft outcome) ((here ≡ []) × (new ≡ old))

-- so it is at each member of the roster, in order
abbrev pub IsBroadcast : MemberSeat → Draft → List SubscriptionSeat → List SubscriptionSeat → List (EndId × CastOutcome) → Type 0
IsBroadcast source draft [] new outcomes = (new ≡ []) × (outcomes ≡ [])
IsBroadcast source draft (s ∷ rest) new outcomes =
    (t : SubscriptionSeat) × (later : List SubscriptionSeat) × (here : List (EndId × CastOutcome)) × (behind : List (EndId × CastOutcome))
    × (new ≡ t ∷ later) × (outcomes ≡ here ++ behind) × IsBroadcastAt source draft s t here × IsBroadcast source draft rest later behind

-- The ends under which the outcomes stand rise, so no destination comes twice; none is the source's; and what was accepted at an end bears that very end.
pub record AreDestinations (source : MemberSeat) (outcomes : List (EndId × CastOutcome)) : Type 0 where
  pub rise : Rise (map (λ o. o.0.0) outcomes)
  pub others : All (λ o. o.0.0 ≢ source.taker.end) outcomes
  pub named : All (λ o. IsOutcomeAt o.0 o.1) outcomes
