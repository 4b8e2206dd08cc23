-- Turns of a run, one after the other.
use Rattle.std.proofs.Common.{◌≡◌, List, [], ◌∷◌, ◌++◌, Ok, refl, subst}
use Rattle.hub_envelope.specs.declared.envelope.Envelope.{Envelope}
use Rattle.hub_envelope.specs.declared.ids.EndId.{EndId}
use Rattle.hub_loop.specs.declared.handler.Turn.{Turn}
use Rattle.hub_loop.specs.Looping.{HasRested, HasTurned, LoopState, TurnsOnce}

-- one turn more
pub turned_more : {H : Type 0} (leaves refuses : H → Envelope → List EndId → H → Type 0) (turns : List Turn) (turn : Turn) (old mid turned new : LoopState H) → HasTurned leaves refuses turns old mid → TurnsOnce leaves refuses mid turned (Ok turn) → HasRested turn turned new → HasTurned leaves refuses (turns ++ turn ∷ []) old new
turned_more leaves refuses [] turn old mid turned new before once rest = (turned, new, subst (λ l. TurnsOnce leaves refuses l turned (Ok turn)) before once, rest, refl)
turned_more leaves refuses (t ∷ ts) turn old mid turned new (first, rested, made, rests, more) once rest =
    (first, rested, made, rests, turned_more leaves refuses ts turn rested mid turned new more once rest)
