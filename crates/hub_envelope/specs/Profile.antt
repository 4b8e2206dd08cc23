-- The profile: which JSON values a body may be.
use Rattle.std.specs.Prelude.{◌≤◌, length}
use Rattle.serde_json.specs.Data.{Data, depth}
use Rattle.serde_json.specs.Written.{compact_text}
use Rattle.hub_envelope.specs.Whole.{IsWhole}
use Rattle.hub_envelope.specs.KeyOrder.{IsKeyOrdered}
use Rattle.hub_envelope.specs.declared.limits.TheConstants.{MAX_NESTING, MAX_BODY_BYTES}

-- whole numbers, limited nesting (a scalar nests 0 deep, an array or object one more than its deepest
-- member), limited length of the text with no space, and each object's keys once and in byte order
pub record IsInProfile (d : Data) : Type 0 where
  pub whole : IsWhole d
  pub nested : depth d ≤ MAX_NESTING
  pub short : length (compact_text d) ≤ MAX_BODY_BYTES
  pub ordered : IsKeyOrdered d
