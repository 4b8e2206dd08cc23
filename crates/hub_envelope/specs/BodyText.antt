-- What a body is: a text that stands for a value of the profile.
use Rattle.std.specs.Prelude.{◌≡◌, ℕ, List, Some, IsUtf8}
use Rattle.serde_json.specs.Data.{Data}
use Rattle.serde_json.specs.Read.{read}
use Rattle.serde_json.specs.Written.{compact_text}
use Rattle.hub_envelope.specs.Profile.{IsInProfile}

-- the text is UTF-8, and the compact text of the value of the profile that it reads to
pub record IsBodyText (text : List ℕ) : Type 0 where
  pub value : Data
  pub reads : read text ≡ Some value
  pub profile : IsInProfile value
  pub compact : text ≡ compact_text value
  pub utf8 : IsUtf8 text
