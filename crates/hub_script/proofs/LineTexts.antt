-- The text of a script line.
use Rattle.std.proofs.Common.{◌≡◌, ℕ, List, Bool, true, false, cond, Result, Ok, Err, refl, ap}
use Rattle.std.specs.Prelude.{IfErr, OnOk}
use Rattle.std.specs.Str.{is_utf8, IsUtf8}
use Rattle.std.proofs.lemmas.Str.{is_utf8-from_IsUtf8, IsUtf8-from_is_utf8}
use Rattle.hub_script.specs.declared.error.ScriptError.TheVariants.{Syntax}
use Rattle.hub_script.specs.Form.{form_of, form_in_text}

utf8_at : (bytes : List ℕ) (b : Bool) → is_utf8 bytes ≡ b → (IsUtf8 bytes → ⊥) → b ≡ false
utf8_at bytes true e h = absurd (h (IsUtf8-from_is_utf8 bytes e))
utf8_at bytes false e h = refl

pub not_utf8 : (bytes : List ℕ) → (IsUtf8 bytes → ⊥) → form_of bytes ≡ Err Syntax
unfolding form_of
not_utf8 bytes h = ap (λ b. cond b (form_in_text bytes) (Err Syntax)) (utf8_at bytes (is_utf8 bytes) refl h)

pub form_of_text : (bytes : List ℕ) → IsUtf8 bytes → form_of bytes ≡ form_in_text bytes
unfolding form_of
form_of_text bytes valid = ap (λ b. cond b (form_in_text bytes) (Err Syntax)) (is_utf8-from_IsUtf8 bytes valid)

-- what holds of each answer
pub on_value : {T E : Type 0} (r : Result T E) (P : Type 0) → P → OnOk r P
on_value (Ok x) P h = h
on_value (Err e) P h = tt

pub on_error : {T E : Type 0} (r : Result T E) (memory : E) (P : Type 0) → P → IfErr r (λ e. e ≡ memory → P)
on_error (Ok x) memory P h = tt
on_error (Err e) memory P h = λ _. h

pub valid : (bytes : List ℕ) → IsUtf8 bytes → is_utf8 bytes ≡ true
valid bytes h = is_utf8-from_IsUtf8 bytes h
