-- What a text is answered that is to be a body.
use Rattle.std.specs.Prelude.{◌≡◌, ℕ, ◌<◌, ◌≤◌, List, length, nat_lt, if◌then◌else◌, Option, Some, None, Result, Ok, Err}
use Rattle.serde_json.specs.Data.{Data, depth}
use Rattle.serde_json.specs.Read.{read}
use Rattle.serde_json.specs.Written.{has_float, compact_text}
use Rattle.hub_envelope.specs.Whole.{IsWhole}
use Rattle.hub_envelope.specs.Profile.{IsInProfile}
use Rattle.hub_envelope.specs.declared.body.BodyError.{BodyError}
use Rattle.hub_envelope.specs.declared.body.BodyError.TheVariants.{NotJson, NotWhole, TooDeep, TooLong, OutOfMemory}
use Rattle.hub_envelope.specs.declared.limits.TheConstants.{MAX_NESTING, MAX_BODY_BYTES}

-- the answer to what a text reads as: the first test that it fails is named
abbrev pub answer_to : Option Data → Result (List ℕ) BodyError
answer_to None = Err NotJson
answer_to (Some d) =
    if has_float d then Err NotWhole else (if nat_lt MAX_NESTING (depth d) then Err TooDeep else (if nat_lt MAX_BODY_BYTES (length (compact_text d)) then Err TooLong else Ok (compact_text d)))

-- the body that a text stands for, as its compact text, or why there is none; unless memory runs out
unfoldable pub answer_of : List ℕ → Result (List ℕ) BodyError
answer_of text = answer_to (read text)

-- by cases, what an answer says of the text; want of memory says nothing
abbrev pub IsAnswerTo : List ℕ → Result (List ℕ) BodyError → Type 0
IsAnswerTo text (Ok body) = (d : Data) × (read text ≡ Some d) × IsInProfile d × (body ≡ compact_text d)
IsAnswerTo text (Err NotJson) = read text ≡ None
IsAnswerTo text (Err NotWhole) = (d : Data) × (read text ≡ Some d) × ¬ IsWhole d
IsAnswerTo text (Err TooDeep) = (d : Data) × (read text ≡ Some d) × IsWhole d × (MAX_NESTING < depth d)
IsAnswerTo text (Err TooLong) =
    (d : Data) × (read text ≡ Some d) × IsWhole d × (depth d ≤ MAX_NESTING) × (MAX_BODY_BYTES < length (compact_text d))
IsAnswerTo text (Err OutOfMemory) = Unit {0}
