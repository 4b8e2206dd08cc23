-- What becomes of an envelope that was taken.
use Rattle.std.specs.Prelude.{◌≡◌, ◌⊎◌, List, Option, Some, None, Result, Ok, Err}
use Rattle.hub_envelope.specs.declared.envelope.Envelope.{Envelope}
use Rattle.hub_envelope.specs.declared.ids.EndId.{EndId}
use Rattle.hub_ports.specs.Seats.{PortSeat, ends_of}
use Rattle.hub_ports.specs.Splitting.{IsSplit}
use Rattle.hub_loop.specs.Adopting.{AreAdopted, ArePartlyAdopted}
use Rattle.hub_loop.specs.States.{DeliveryState, HoldingState, ReceivingState}

-- These are the ports of the delivery once they were looked for: what is known of them already, or what was found of the envelope's list and what is missing, each in order.
abbrev pub IsLookedForIn : Option ReceivingState → Envelope → ReceivingState → Type 0
IsLookedForIn None v r = IsSplit v.ports (ends_of r.found) r.missing
IsLookedForIn (Some known) v r = r ≡ known

abbrev pub IsLookedFor : DeliveryState → ReceivingState → Type 0
IsLookedFor d r = IsLookedForIn d.arrival d.envelope r

module _ {H E : Type 0} (leaves refuses : H → Envelope → List EndId → H → Type 0) where
  -- The ports that were found were adopted in order, and the handler is as it may be once it was told the envelope with those that are missing. After an error the same envelope is in hand, with the ports that were not adopted yet, if they were looked for; and the handler is as it was, or as it may be once it refused the envelope with those that are missing.
  abbrev pub IsDelivered : DeliveryState → DeliveryState → HoldingState → HoldingState → H → H → Result (Unit {0}) E → Type 0
  IsDelivered old new before after h left (Ok done) =
      (r : ReceivingState) × (missing : List EndId) × IsLookedFor old r × AreAdopted r.found before after r.missing missing × leaves h old.envelope missing left
  IsDelivered old new before after h left (Err error) =
      (new.envelope ≡ old.envelope)
      × (((old.arrival ≡ None) × (new.arrival ≡ None) × (after ≡ before) × (left ≡ h))
      ⊎ ((r : ReceivingState) × (s : ReceivingState) × (done : List PortSeat) × IsLookedFor old r × (new.arrival ≡ Some s) × ArePartlyAdopted r s before after done
      × ((left ≡ h) ⊎ refuses h old.envelope s.missing left)))
