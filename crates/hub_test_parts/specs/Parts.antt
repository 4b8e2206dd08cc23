-- What the parts of tests tell of what was posted.
use Rattle.std.specs.Prelude.{◌≡◌, ℕ, false, List, [], Result, Ok, Err}
use Rattle.hub_envelope.specs.Answer.{answer_of}
use Rattle.hub_envelope.specs.declared.envelope.Draft.{Draft}
use Rattle.hub_envelope.specs.declared.ids.AgentId.{AgentId}
use Rattle.hub_envelope.specs.declared.posted.Posted.{Posted}
use Rattle.hub_queue.specs.declared.error.PostError.{PostError}
use Rattle.hub_queue.specs.Posting.{IsPosted}
use Rattle.hub_queue.specs.Standing.{StandSeat}

-- the draft of a message of this agent with the body that the text stands for, and no ports
abbrev pub IsDraftOf : AgentId → List ℕ → Draft → Type 0
IsDraftOf agent text draft = (draft.agent ≡ agent) × (answer_of text ≡ Ok draft.body) × (draft.ports ≡ []) × (draft.notice ≡ false)

-- A draft of the text was posted over the line. It was accepted under this epoch and this number, or refused for this reason.
abbrev pub IsTextPosted : StandSeat → StandSeat → List ℕ → Result (ℕ × ℕ) PostError → Type 0
IsTextPosted old new text (Ok name) =
    (draft : Draft) × (posted : Posted) × IsDraftOf (record { 0 = 0 }) text draft × IsPosted old new draft (Ok posted)
    × (posted.end ≡ old.name.end) × (posted.line ≡ old.name.line) × (name ≡ (posted.epoch, posted.number))
IsTextPosted old new text (Err why) =
    (draft : Draft) × IsDraftOf (record { 0 = 0 }) text draft × IsPosted old new draft (Err (why, draft))
