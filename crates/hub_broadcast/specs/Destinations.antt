-- Where a cast goes (WHATWG HTML, "Broadcasting to other browsing contexts").
use Rattle.std.specs.Prelude.{◌==◌, ◌&&◌, Bool, bytes_eq, filter, List, map, not}
use Rattle.hub_envelope.specs.declared.ids.EndId.{EndId}
use Rattle.hub_broadcast.specs.Members.{MemberSeat, SubscriptionSeat}

-- whether this is the end of the member
abbrev pub is_of_end : EndId → SubscriptionSeat → Bool
is_of_end end s = s.poster.name.end.0 == end.0

-- whether the member has the origin and the name of the source, and isn't the source
abbrev pub is_destination : MemberSeat → SubscriptionSeat → Bool
is_destination source s = bytes_eq s.origin source.origin && (bytes_eq s.name source.name && not (s.poster.name.end.0 == source.taker.end))

-- the members of the source's origin and name but the source, in the order in which they joined
abbrev pub destinations_in : MemberSeat → List SubscriptionSeat → List EndId
destinations_in source roster = map (λ s. s.poster.name.end) (filter (is_destination source) roster)
