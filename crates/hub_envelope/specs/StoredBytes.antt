-- The bytes of a text, wherever it lies.
use Rattle.std.specs.Prelude.{ℕ, List, string_bytes}
use Rattle.hub_envelope.specs.declared.stored_text.StoredText.{StoredText}
use Rattle.hub_envelope.specs.declared.stored_text.StoredText.TheVariants.{Inline, Allocated}

abbrev pub stored_bytes : StoredText → List ℕ
stored_bytes (Inline text) = text.bytes
stored_bytes (Allocated text) = string_bytes text
