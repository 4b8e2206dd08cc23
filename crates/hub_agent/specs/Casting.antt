-- What a cast of an agent comes to.
use Rattle.std.specs.Prelude.{◌≡◌, ◌≢◌, ◌⊎◌, ℕ, All, List, [], Option, IfSome}
use Rattle.hub_broadcast.specs.Casting.{IsBroadcast, cast_draft}
use Rattle.hub_locked.specs.Lending.{IsDoneIn}
use Rattle.hub_broadcast.specs.Members.{MemberSeat, SubscriptionSeat}
use Rattle.hub_broadcast.specs.declared.casting.CastOutcome.{CastOutcome}
use Rattle.hub_envelope.specs.declared.ids.EndId.{EndId}
use Rattle.hub_logging.specs.Notes.{Notes}
use Rattle.hub_agent.specs.Entries.{WritesEntries, cast_entries}

-- The source isn't in the roster: nothing is posted, and nothing is written.
abbrev pub IsCastRefused : Option (List SubscriptionSeat) → Option (List SubscriptionSeat) → MemberSeat → Notes → Notes → Type 0
IsCastRefused old new source before now =
    (new ≡ old) × IfSome old (λ was. All (λ s. s.poster.name.end.0 ≢ source.taker.end) was) × WritesEntries [] before now

-- The body was cast once in the roster that is shown. Of that very cast each accepted post is written, in order, and nothing else.
abbrev pub HasCast : Option (List SubscriptionSeat) → Option (List SubscriptionSeat) → MemberSeat → List ℕ → Notes → Notes → Type 0
HasCast old new source body before now =
    ((outcomes : List (EndId × CastOutcome)) × IsDoneIn old new (λ was is. IsBroadcast source (cast_draft source body) was is outcomes) × WritesEntries (cast_entries body outcomes) before now)
    ⊎ IsCastRefused old new source before now
