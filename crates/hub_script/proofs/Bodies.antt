-- The value of a field as a body.
use Rattle.std.proofs.Common.{◌≡◌, ℕ, List, Option, Some, Ok, ap, sym, ◌∙◌}
use Rattle.hub_text.specs.Reading.{◌>>=◌}
use Rattle.serde_json.specs.Data.{Data}
use Rattle.serde_json.specs.Read.{read}
use Rattle.hub_envelope.specs.Answer.{answer_of, answer_to}
use Rattle.hub_script.specs.Fields.{field_in, value_in}
use Rattle.hub_script.specs.Shapes.{BODY}

-- a text that reads to the value of a field is answered as the field is
pub answered : (name : List ℕ) (d v : Data) (text : List ℕ) → value_in name d ≡ Ok v → read text ≡ Some v → field_in BODY name d ≡ Ok (answer_of text)
unfolding answer_of
answered name d v text found reads =
    ap (λ r. r >>= λ (x : Data). Ok (answer_to (Some x))) found ∙ ap (λ (o : Option Data). Ok (answer_to o)) (sym reads)
