-- Why a parcel was not posted, what is left in it, and the error that is told where nothing was lent.
use Rattle.std.specs.Prelude.{◌≡◌, ℕ, List, [], None, Result, Ok, Err}
use Rattle.hub_envelope.specs.declared.posted.Posted.{Posted}
use Rattle.hub_queue.specs.declared.error.PostError.{PostError}
use Rattle.hub_queue.specs.declared.error.PostError.TheVariants as why
use Rattle.hub_queue.specs.Putting.{lent_list}
use Rattle.hub_ports.specs.declared.closing.ClosedPort.{ClosedPort}
use Rattle.hub_ports.specs.declared.error.PortError.{PortError}
use Rattle.hub_ports.specs.declared.error.PortError.TheVariants as error
use Rattle.hub_ports.specs.declared.error.SendRefusal.{SendRefusal}
use Rattle.hub_ports.specs.declared.error.SendRefusal.TheVariants.{Closed, Moving, OutOfMemory, Doomed, TooManyPorts, Strayed, Taken}
use Rattle.hub_ports.specs.declared.parcel.Parcel.{Parcel}

-- the refusal of a line
abbrev pub refusal_of : PostError → SendRefusal
refusal_of why.Closed = Closed
refusal_of why.Moving = Moving
refusal_of why.OutOfMemory = OutOfMemory

-- a port is kept out of flight for these two reasons alone
abbrev pub IsOfFlight : SendRefusal → Type 0
IsOfFlight OutOfMemory = Unit {0}
IsOfFlight Taken = Unit {0}
IsOfFlight _ = ⊥

-- the text of the body in a parcel
abbrev pub carried_body : Parcel → List ℕ
carried_body parcel = lent_list parcel.body

-- the error that tells of a refusal what came back in the parcel, and which ports were closed
abbrev pub error_with : SendRefusal → Parcel → List ClosedPort → PortError
error_with Closed parcel closings = error.Closed (carried_body parcel) parcel.ports
error_with Moving parcel closings = error.Moving (carried_body parcel) parcel.ports
error_with OutOfMemory parcel closings = error.OutOfMemory (carried_body parcel) parcel.ports
error_with Doomed parcel closings = error.Doomed closings
error_with TooManyPorts parcel closings = error.TooManyPorts (carried_body parcel) parcel.ports
error_with Strayed parcel closings = error.Strayed parcel.missing (carried_body parcel) parcel.ports
error_with Taken parcel closings = error.Taken (carried_body parcel) parcel.ports

-- the answer that tells the same
abbrev pub answer_with : Result Posted SendRefusal → Parcel → List ClosedPort → Result Posted PortError
answer_with (Ok posted) parcel closings = Ok posted
answer_with (Err refusal) parcel closings = Err (error_with refusal parcel closings)

-- What was accepted is gone from the parcel. Of what was refused the body is there as it was, and of a doomed list no port is.
abbrev pub LeavesIn : Result Posted SendRefusal → Parcel → Parcel → Type 0
LeavesIn (Ok posted) old new = (new.body ≡ None) × (new.ports.items ≡ [])
LeavesIn (Err refusal) old new = (new.body ≡ old.body) × (refusal ≡ Doomed → new.ports.items ≡ [])
