-- The text of a log line.
use Rattle.std.proofs.Common.{◌≡◌, ℕ, List, Bool, true, false, cond, Err, refl, ap}
use Rattle.std.specs.Str.{is_utf8, IsUtf8}
use Rattle.std.proofs.lemmas.Str.{is_utf8-from_IsUtf8, IsUtf8-from_is_utf8}
use Rattle.hub_trace.specs.declared.error.LogError.TheVariants.{BadLine}
use Rattle.hub_trace.specs.declared.log_version.LogVersion.{LogVersion}
use Rattle.hub_trace.specs.LogLine.{log_line_of, log_line_in}

utf8_at : (bytes : List ℕ) (b : Bool) → is_utf8 bytes ≡ b → (IsUtf8 bytes → ⊥) → b ≡ false
utf8_at bytes true e h = absurd (h (IsUtf8-from_is_utf8 bytes e))
utf8_at bytes false e h = refl

pub not_utf8 : (v : LogVersion) (bytes : List ℕ) → (IsUtf8 bytes → ⊥) → log_line_of v bytes ≡ Err BadLine
unfolding log_line_of
not_utf8 v bytes h = ap (λ b. cond b (log_line_in v bytes) (Err BadLine)) (utf8_at bytes (is_utf8 bytes) refl h)

pub text_line : (v : LogVersion) (bytes : List ℕ) → IsUtf8 bytes → log_line_of v bytes ≡ log_line_in v bytes
unfolding log_line_of
text_line v bytes valid = ap (λ b. cond b (log_line_in v bytes) (Err BadLine)) (is_utf8-from_IsUtf8 bytes valid)
