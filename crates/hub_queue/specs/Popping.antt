-- What one pop comes to.
use Rattle.std.specs.Prelude.{◌≡◌, [], Option, Some, None}
use Rattle.hub_envelope.specs.declared.envelope.Envelope.{Envelope}
use Rattle.hub_queue.specs.declared.store.TakeView.{TakeView}
use Rattle.hub_queue.specs.PassSteps.{got_more, IsPopped, ShowsHeld, AccountsFor}

-- An envelope: it is taken. None: nothing is taken, and what was taken is what a state of the queue machine has taken that holds nothing; of each line whose pass was taken in it is all that the line has put.
abbrev pub IsPop : TakeView → TakeView → Option Envelope → Type 0
IsPop old new (Some x) = (new ≡ got_more old x) × IsPopped old x
IsPop old new None = (new ≡ old) × ShowsHeld old [] × AccountsFor old []
