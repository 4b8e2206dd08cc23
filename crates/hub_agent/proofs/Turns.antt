-- What a turn leaves of the notes of an agent: a delivery is written down, and nothing else.
use Rattle.std.proofs.Common.{◌≡◌, List, Result, Ok, Err, IfOk, ap, subst, sym}
use Rattle.hub_envelope.specs.declared.envelope.Envelope.{Envelope}
use Rattle.hub_envelope.specs.declared.ids.EndId.{EndId}
use Rattle.hub_logging.specs.Notes.{IsLoggable, Notes, notes_of}
use Rattle.hub_loop.specs.Turning.{IsTurn, TurnState}
use Rattle.hub_loop.specs.declared.error.LoopError.{LoopError}
use Rattle.hub_loop.specs.declared.handler.Turn.{Turn}
use Rattle.hub_loop.specs.declared.handler.Turn.TheVariants.{Delivered, Idle, Ending}
use Rattle.hub_agent.specs.Entries.{TurnLeaves}

-- what a delivery leaves of the notes
abbrev pub leaves : Notes → Envelope → List EndId → Notes → Type 0
leaves before envelope missing after = (after ≡ notes_of before envelope missing) × IsLoggable envelope

-- a delivery that is refused leaves the notes as they were
abbrev pub refuses : Notes → Envelope → List EndId → Notes → Type 0
refuses before envelope missing after = after ≡ before

turned : (given left : TurnState Notes) (looks : _) (turn : Turn) → IsTurn {E = LoopError} leaves refuses given left looks (Ok turn) → TurnLeaves turn given.handler left.handler
turned given left looks Ending t = ap (λ (s : TurnState Notes). s.handler) t.0
turned given left looks (Idle busy) t = t.2
turned given left looks Delivered t = (t.0.envelope, t.4.1, t.4.4.0)

-- where a turn is no error, the notes that were taken out behind it are those that it left of the notes put in
pub counted : (given left : TurnState Notes) (taken now : Notes) (looks : _) (result : Result Turn LoopError)
    → IsTurn leaves refuses given left looks result → taken ≡ left.handler → given.handler ≡ now → IfOk result (λ turn. TurnLeaves turn now taken)
counted given left taken now looks (Ok turn) t gave same =
    subst (λ (n : Notes). TurnLeaves turn n taken) same
    (subst (λ (n : Notes). TurnLeaves turn given.handler n) (sym gave) (turned given left looks turn t))
counted given left taken now looks (Err e) t gave same = tt
