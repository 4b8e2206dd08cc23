use Rattle.std.proofs.Common.{◌≡◌, ◌<◌, List, [], length, vec_len, inr, refl, ap, sym, subst, ◌∙◌}
use Rattle.hub_envelope.specs.declared.ids.EndId.{EndId}
use Rattle.hub_ports.specs.declared.error.SendRefusal.TheVariants.{Doomed, TooManyPorts, Strayed}
use Rattle.hub_queue.specs.Putting.{lent_list}
use Rattle.hub_ports.specs.Refusing.{carried_body}
use Rattle.hub_ports.specs.Seats.{ends_of}
use Rattle.hub_ports.specs.Sending.{IsRefusedAtLine, draft_of}
use Rattle.hub_ports.proofs.Flights.{flight-whole, flown_back}
use Rattle.hub_ports.proofs.Refused.{IsNoList, flight-no-list, refused_by_line, refused_by_flight, strayed-no-list, told_so}
use Rattle.hub_ports.proofs.Splits.{ends-begun, split-same}
use Rattle.hub_ports.proofs.sending.put_in_flight_and_post.Goals as goal

pub returns-in_default-clause-sent : goal.returns-in_default-clause-sent
returns-in_default-clause-sent g c = λ closings. (inr refl, (refl, refl))

pub returns-in_default-with_capacity-clause-sent : goal.returns-in_default-with_capacity-clause-sent
returns-in_default-with_capacity-clause-sent g c = λ closings. (inr refl, (refl, refl))

pub take_ports_back_from_flight-requires-clause-begun : goal.take_ports_back_from_flight-requires-clause-begun
take_ports_back_from_flight-requires-clause-begun g c =
    ends-begun (vec_len c.put_ports_in_flight.new.ports) c.put_ports_in_flight.new.ports.items c.args.parcel.now.ports.items c.as_slice-in-Err.result.now c.in-Err.ensures.stayed
    (c.as_slice-in-Err.ensures.value ∙ c.in-Ok.ensures ∙ ap ends_of c.as_slice.ensures.value)

pub returns-in-Err-clause-sent : goal.returns-in-Err-clause-sent
returns-in-Err-clause-sent g c = λ closings.
    let named = c.as_slice-in-Err.ensures.value ∙ c.in-Ok.ensures ∙ ap ends_of c.as_slice.ensures.value in
    let all : c.take_ports_back_from_flight.new.missing.items ≡ [] → c.refusal_unless_ports_missing.result ≡ c.in-Err.refusal = λ none. c.refusal_unless_ports_missing.ensures.whole (c.as_slice-in-Err-2.ensures.value ∙ none) in
    let some : 0 < length c.take_ports_back_from_flight.new.missing.items → c.refusal_unless_ports_missing.result ≡ Strayed = λ more. c.refusal_unless_ports_missing.ensures.strayed (subst (λ (l : List EndId). 0 < length l) (sym c.as_slice-in-Err-2.ensures.value) more) in
    refused_by_flight c.args.line.now (draft_of c.args.agent (carried_body c.args.parcel.now) c.args.parcel.now.ports.items) c.args.parcel.now.ports.items
    (record { body = c.args.parcel.now.body; ports = c.take_ports_back_from_flight.new.ports; missing = c.take_ports_back_from_flight.new.missing }) closings
    c.in-Err.refusal c.refusal_unless_ports_missing.result c.in-Err.ensures.refusal refl (split-same _ _ _ _ _ _ named refl refl c.take_ports_back_from_flight.ensures.split) all some

pub returns-in-Err-clause-left : goal.returns-in-Err-clause-left
returns-in-Err-clause-left g c =
    let all : c.take_ports_back_from_flight.new.missing.items ≡ [] → c.refusal_unless_ports_missing.result ≡ c.in-Err.refusal = λ none. c.refusal_unless_ports_missing.ensures.whole (c.as_slice-in-Err-2.ensures.value ∙ none) in
    let some : 0 < length c.take_ports_back_from_flight.new.missing.items → c.refusal_unless_ports_missing.result ≡ Strayed = λ more. c.refusal_unless_ports_missing.ensures.strayed (subst (λ (l : List EndId). 0 < length l) (sym c.as_slice-in-Err-2.ensures.value) more) in
    let apart : IsNoList c.refusal_unless_ports_missing.result = told_so IsNoList c.in-Err.refusal c.refusal_unless_ports_missing.result c.take_ports_back_from_flight.new.missing.items (flight-no-list c.in-Err.refusal c.in-Err.ensures.refusal) strayed-no-list all some in
    (refl, λ doomed. absurd (apart.0 doomed))

pub returns-in-Err-clause-many : goal.returns-in-Err-clause-many
returns-in-Err-clause-many g c =
    let all : c.take_ports_back_from_flight.new.missing.items ≡ [] → c.refusal_unless_ports_missing.result ≡ c.in-Err.refusal = λ none. c.refusal_unless_ports_missing.ensures.whole (c.as_slice-in-Err-2.ensures.value ∙ none) in
    let some : 0 < length c.take_ports_back_from_flight.new.missing.items → c.refusal_unless_ports_missing.result ≡ Strayed = λ more. c.refusal_unless_ports_missing.ensures.strayed (subst (λ (l : List EndId). 0 < length l) (sym c.as_slice-in-Err-2.ensures.value) more) in
    let apart : IsNoList c.refusal_unless_ports_missing.result = told_so IsNoList c.in-Err.refusal c.refusal_unless_ports_missing.result c.take_ports_back_from_flight.new.missing.items (flight-no-list c.in-Err.refusal c.in-Err.ensures.refusal) strayed-no-list all some in
    λ is. let same : c.refusal_unless_ports_missing.result ≡ TooManyPorts = cc in absurd (apart.1 same)

pub returns-in-Err-clause-doomed : goal.returns-in-Err-clause-doomed
returns-in-Err-clause-doomed g c =
    let all : c.take_ports_back_from_flight.new.missing.items ≡ [] → c.refusal_unless_ports_missing.result ≡ c.in-Err.refusal = λ none. c.refusal_unless_ports_missing.ensures.whole (c.as_slice-in-Err-2.ensures.value ∙ none) in
    let some : 0 < length c.take_ports_back_from_flight.new.missing.items → c.refusal_unless_ports_missing.result ≡ Strayed = λ more. c.refusal_unless_ports_missing.ensures.strayed (subst (λ (l : List EndId). 0 < length l) (sym c.as_slice-in-Err-2.ensures.value) more) in
    let apart : IsNoList c.refusal_unless_ports_missing.result = told_so IsNoList c.in-Err.refusal c.refusal_unless_ports_missing.result c.take_ports_back_from_flight.new.missing.items (flight-no-list c.in-Err.refusal c.in-Err.ensures.refusal) strayed-no-list all some in
    λ is. let same : c.refusal_unless_ports_missing.result ≡ Doomed = cc in absurd (apart.0 same)

pub returns-in-Err-clause-flown : goal.returns-in-Err-clause-flown
returns-in-Err-clause-flown g c =
    let named = c.as_slice-in-Err.ensures.value ∙ c.in-Ok.ensures ∙ ap ends_of c.as_slice.ensures.value in
    let all : c.take_ports_back_from_flight.new.missing.items ≡ [] → c.refusal_unless_ports_missing.result ≡ c.in-Err.refusal = λ none. c.refusal_unless_ports_missing.ensures.whole (c.as_slice-in-Err-2.ensures.value ∙ none) in
    let some : 0 < length c.take_ports_back_from_flight.new.missing.items → c.refusal_unless_ports_missing.result ≡ Strayed = λ more. c.refusal_unless_ports_missing.ensures.strayed (subst (λ (l : List EndId). 0 < length l) (sym c.as_slice-in-Err-2.ensures.value) more) in
    flown_back (g.L.Lends.shown c.args.flight.now) _ _ c.args.parcel.now.ports.items c.put_ports_in_flight.new.ports.items c.as_slice-in-Err.result.now
    (record { body = c.args.parcel.now.body; ports = c.take_ports_back_from_flight.new.ports; missing = c.take_ports_back_from_flight.new.missing }) c.in-Err.refusal c.refusal_unless_ports_missing.result
    (flight-whole c.in-Err.refusal c.in-Err.ensures.refusal) c.put_ports_in_flight.ensures.flown c.take_ports_back_from_flight.ensures.back named all

pub returns-in-Err-post_lent_body_and_ports-clause-sent : goal.returns-in-Err-post_lent_body_and_ports-clause-sent
returns-in-Err-post_lent_body_and_ports-clause-sent g c = λ closings.
    let draft = draft_of c.args.agent (carried_body c.args.parcel.now) c.args.parcel.now.ports.items in
    let list : c.in-Ok-try_from_vec.listed ≡ draft.ports = c.in-Ok-try_from_vec.ensures.ok ∙ c.in-Ok.ensures ∙ ap ends_of c.as_slice.ensures.value in
    let refused = subst (λ (ends : List EndId). IsRefusedAtLine c.args.line.now c.post_lent_body_and_ports.new.self (record draft { ports = ends }) c.in-Err-post_lent_body_and_ports.error) list c.in-Err-post_lent_body_and_ports.ensures.posted in
    let back = c.in-Err-post_lent_body_and_ports.ensures.left.1 in
    let out = c.unwrap-listed.ensures in
    let same : c.unwrap-listed.result ≡ c.in-Ok-try_from_vec.listed = cc in
    let named : c.as_slice-in-Err-post_lent_body_and_ports.result.now ≡ draft.ports = c.as_slice-in-Err-post_lent_body_and_ports.ensures.listed ∙ same ∙ list in
    let all : c.take_ports_back_from_flight-in-Err-post_lent_body_and_ports.new.missing.items ≡ [] → c.refusal_unless_ports_missing-in-Err-post_lent_body_and_ports.result ≡ c.from_post_error.result = λ none. c.refusal_unless_ports_missing-in-Err-post_lent_body_and_ports.ensures.whole (c.as_slice-in-Err-post_lent_body_and_ports-2.ensures.value ∙ none) in
    let some : 0 < length c.take_ports_back_from_flight-in-Err-post_lent_body_and_ports.new.missing.items → c.refusal_unless_ports_missing-in-Err-post_lent_body_and_ports.result ≡ Strayed = λ more. c.refusal_unless_ports_missing-in-Err-post_lent_body_and_ports.ensures.strayed (subst (λ (l : List EndId). 0 < length l) (sym c.as_slice-in-Err-post_lent_body_and_ports-2.ensures.value) more) in
    refused_by_line c.args.line.now c.post_lent_body_and_ports.new.self draft c.args.parcel.now.ports.items
    (record { body = c.post_lent_body_and_ports.new.body; ports = c.take_ports_back_from_flight-in-Err-post_lent_body_and_ports.new.ports; missing = c.take_ports_back_from_flight-in-Err-post_lent_body_and_ports.new.missing }) closings
    c.from_post_error.result c.refusal_unless_ports_missing-in-Err-post_lent_body_and_ports.result c.in-Err-post_lent_body_and_ports.error c.from_post_error.ensures (ap lent_list c.in-Err-post_lent_body_and_ports.ensures.left.0)
    (split-same _ _ _ _ _ _ named refl refl c.take_ports_back_from_flight-in-Err-post_lent_body_and_ports.ensures.split) refused all some
