-- Messages that were refused.
use Rattle.std.proofs.Common.{arith, ◌≡◌, ◌≢◌, ◌<◌, List, [], ◌∷◌, length, Err, refl, ap, sym, subst, inl, inr, ◌⊎◌, ◌∙◌}
use Rattle.hub_envelope.specs.declared.envelope.Draft.{Draft}
use Rattle.hub_envelope.specs.declared.ids.EndId.{EndId}
use Rattle.hub_queue.specs.declared.error.PostError.{PostError}
use Rattle.hub_queue.specs.declared.error.PostError.TheVariants as why
use Rattle.hub_queue.specs.Posting.{IsPosted}
use Rattle.hub_queue.specs.Standing.{StandSeat}
use Rattle.hub_ports.specs.declared.error.SendRefusal.{SendRefusal}
use Rattle.hub_ports.specs.declared.closing.ClosedPort.{ClosedPort}
use Rattle.hub_ports.specs.declared.error.SendRefusal.TheVariants.{Closed, Moving, OutOfMemory, Doomed, TooManyPorts, Strayed, Taken}
use Rattle.hub_ports.specs.declared.parcel.Parcel.{Parcel}
use Rattle.hub_ports.specs.Refusing.{carried_body, error_with, refusal_of, IsOfFlight}
use Rattle.hub_ports.specs.Seats.{PortSeat, ends_of}
use Rattle.hub_ports.specs.Sending.{IsRefusedAtLine, CameBack, IsUnsent}
use Rattle.hub_ports.specs.Splitting.{IsSplit}
use Rattle.hub_ports.proofs.Splits.{split-whole}

-- the error where all ports came back from a line
whole_line : (old new : StandSeat) (draft : Draft) (ports : List PortSeat) (parcel : Parcel) (closings : List ClosedPort) (why : PostError) → IsRefusedAtLine old new draft why → CameBack draft (carried_body parcel) parcel.ports.items → IsUnsent old new draft ports (error_with (refusal_of why) parcel closings)
whole_line old new draft ports parcel closings why.Closed h came = (h, came)
whole_line old new draft ports parcel closings why.Moving h came = (h, came)
whole_line old new draft ports parcel closings why.OutOfMemory h came = (inl h, came)

-- the error where all ports came back that were kept out of flight
whole_flight : (s : StandSeat) (draft : Draft) (ports : List PortSeat) (parcel : Parcel) (closings : List ClosedPort) (r : SendRefusal) → IsOfFlight r → CameBack draft (carried_body parcel) parcel.ports.items → IsUnsent s s draft ports (error_with r parcel closings)
whole_flight s draft ports parcel closings OutOfMemory h came = (inr refl, came)
whole_flight s draft ports parcel closings Taken h came = (refl, came)
whole_flight s draft ports parcel closings Closed h came = absurd h
whole_flight s draft ports parcel closings Moving h came = absurd h
whole_flight s draft ports parcel closings Doomed h came = absurd h
whole_flight s draft ports parcel closings TooManyPorts h came = absurd h
whole_flight s draft ports parcel closings Strayed h came = absurd h

-- the error that is told: the whole one, or which ports are missing
told : (old new : StandSeat) (draft : Draft) (ports : List PortSeat) (parcel : Parcel) (closings : List ClosedPort) (whole r : SendRefusal) (ms : List EndId) → parcel.missing.items ≡ ms → carried_body parcel ≡ draft.body → IsSplit draft.ports (ends_of parcel.ports.items) parcel.missing.items → ((why : PostError) × IsRefusedAtLine old new draft why) ⊎ (new ≡ old)
    → (CameBack draft (carried_body parcel) parcel.ports.items → IsUnsent old new draft ports (error_with whole parcel closings)) → (parcel.missing.items ≡ [] → r ≡ whole) → (0 < length parcel.missing.items → r ≡ Strayed) → IsUnsent old new draft ports (error_with r parcel closings)
told old new draft ports parcel closings whole r [] is same split h came all some =
    subst (λ (x : SendRefusal). IsUnsent old new draft ports (error_with x parcel closings)) (sym (all is)) (came (same, split-whole draft.ports (ends_of parcel.ports.items) parcel.missing.items split is))
told old new draft ports parcel closings whole r (m ∷ ms) is same split h came all some =
    let many = ap length is in
    let count : 0 < length parcel.missing.items = omega arith in
    subst (λ (x : SendRefusal). IsUnsent old new draft ports (error_with x parcel closings)) (sym (some count)) (h, same, count, split)

-- the line refused the parcel
pub refused_by_line : (old new : StandSeat) (draft : Draft) (ports : List PortSeat) (parcel : Parcel) (closings : List ClosedPort) (r told_as : SendRefusal) (why : PostError) → r ≡ refusal_of why → carried_body parcel ≡ draft.body → IsSplit draft.ports (ends_of parcel.ports.items) parcel.missing.items → IsRefusedAtLine old new draft why
    → (parcel.missing.items ≡ [] → told_as ≡ r) → (0 < length parcel.missing.items → told_as ≡ Strayed) → IsUnsent old new draft ports (error_with told_as parcel closings)
refused_by_line old new draft ports parcel closings r told_as why which same split h all some =
    told old new draft ports parcel closings (refusal_of why) told_as parcel.missing.items refl same split (inl (why, h)) (whole_line old new draft ports parcel closings why h)
    (λ none. all none ∙ which) some

-- a port was kept out of flight
pub refused_by_flight : (s : StandSeat) (draft : Draft) (ports : List PortSeat) (parcel : Parcel) (closings : List ClosedPort) (r told_as : SendRefusal) → IsOfFlight r → carried_body parcel ≡ draft.body → IsSplit draft.ports (ends_of parcel.ports.items) parcel.missing.items → (parcel.missing.items ≡ [] → told_as ≡ r) → (0 < length parcel.missing.items → told_as ≡ Strayed) → IsUnsent s s draft ports (error_with told_as parcel closings)
refused_by_flight s draft ports parcel closings r told_as of same split all some =
    told s s draft ports parcel closings r told_as parcel.missing.items refl same split (inr refl) (whole_flight s draft ports parcel closings r of) all some

-- what holds of the refusal, and of ports that have strayed, holds of what is told
pub told_so : (P : SendRefusal → Type 0) (r told_as : SendRefusal) (missing : List EndId) → P r → P Strayed → (missing ≡ [] → told_as ≡ r) → (0 < length missing → told_as ≡ Strayed) → P told_as
told_so P r told_as [] whole strayed all some = subst P (sym (all refl)) whole
told_so P r told_as (m ∷ ms) whole strayed all some = subst P (sym (some (omega arith))) strayed

-- neither a line nor a flight dooms a list, or finds it too long
abbrev pub IsNoList : SendRefusal → Type 0
IsNoList r = (r ≢ Doomed) × (r ≢ TooManyPorts)

pub line-no-list : (why : PostError) (r : SendRefusal) → r ≡ refusal_of why → IsNoList r
line-no-list why.Closed r is = (λ x. let wrong = sym is ∙ x in cc, λ x. let wrong = sym is ∙ x in cc)
line-no-list why.Moving r is = (λ x. let wrong = sym is ∙ x in cc, λ x. let wrong = sym is ∙ x in cc)
line-no-list why.OutOfMemory r is = (λ x. let wrong = sym is ∙ x in cc, λ x. let wrong = sym is ∙ x in cc)

pub flight-no-list : (r : SendRefusal) → IsOfFlight r → IsNoList r
flight-no-list OutOfMemory h = (λ x. cc, λ x. cc)
flight-no-list Taken h = (λ x. cc, λ x. cc)
flight-no-list Closed h = absurd h
flight-no-list Moving h = absurd h
flight-no-list Doomed h = absurd h
flight-no-list TooManyPorts h = absurd h
flight-no-list Strayed h = absurd h

pub strayed-no-list : IsNoList Strayed
strayed-no-list = (λ x. cc, λ x. cc)
