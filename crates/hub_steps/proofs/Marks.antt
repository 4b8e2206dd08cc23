-- The mark at the front of a line.
use Rattle.std.proofs.Common.{◌≡◌, ℕ, List, [], ◌∷◌, Bool, true, false, cond, eqb, refl, sym, ap, ◌∙◌}
use Rattle.std.proofs.lemmas.Bool.{ne_eqb}
use Rattle.std.proofs.Common.{Ok, Err, ◌⊎◌, inl, inr}
use Rattle.std.specs.Str.{is_utf8, IsUtf8}
use Rattle.std.proofs.lemmas.Str.{is_utf8-from_IsUtf8, IsUtf8-from_is_utf8}
use Rattle.hub_steps.specs.declared.step_line.Command.{Command}
use Rattle.hub_steps.specs.declared.step_line.StepLineError.TheVariants.{BadUtf8}
use Rattle.hub_steps.specs.declared.step_line.StepLineError.{StepLineError}
use Rattle.hub_steps.specs.StepLine.{mark, step_line_with, step_line_of, command_in}

pub no_mark : (text : List ℕ) → ((rest : List ℕ) → text ≡ 33 ∷ rest → ⊥) → (false, text) ≡ mark text
no_mark [] h = refl
no_mark (b ∷ text) h =
    let other : eqb b 33 ≡ false = ne_eqb b 33 (λ e. h text (ap (λ x. x ∷ text) e)) in
    rw other refl

utf8_at : (bytes : List ℕ) (b : Bool) → is_utf8 bytes ≡ b → (IsUtf8 bytes → ⊥) → b ≡ false
utf8_at bytes true e h = absurd (h (IsUtf8-from_is_utf8 bytes e))
utf8_at bytes false e h = refl

pub not_utf8 : (bytes : List ℕ) → (IsUtf8 bytes → ⊥) → step_line_of bytes ≡ Err BadUtf8
unfolding step_line_of
not_utf8 bytes h = ap (λ b. cond b (step_line_with (mark bytes).0 (command_in (mark bytes).1)) (Err BadUtf8)) (utf8_at bytes (is_utf8 bytes) refl h)

pub text_line : (bytes : List ℕ) (refused : Bool) (text : List ℕ) → IsUtf8 bytes → (refused, text) ≡ mark bytes → step_line_of bytes ≡ step_line_with refused (command_in text)
unfolding step_line_of
text_line bytes refused text valid marked =
    ap (λ b. cond b (step_line_with (mark bytes).0 (command_in (mark bytes).1)) (Err BadUtf8)) (is_utf8-from_IsUtf8 bytes valid)
    ∙ ap (λ (m : Bool × List ℕ). step_line_with m.0 (command_in m.1)) (sym marked)

pub is_line : (bytes : List ℕ) (refused : Bool) (text : List ℕ) (command : Command) → IsUtf8 bytes → (refused, text) ≡ mark bytes → command_in text ≡ Ok command
    → step_line_of bytes ≡ Ok (record { command = command; memory_refused = refused })
is_line bytes refused text command valid marked read = text_line bytes refused text valid marked ∙ ap (step_line_with refused) read

pub fails_line : (memory e : StepLineError) (bytes : List ℕ) (refused : Bool) (text : List ℕ) → IsUtf8 bytes → (refused, text) ≡ mark bytes → (e ≡ memory) ⊎ (command_in text ≡ Err e) → (e ≡ memory) ⊎ (step_line_of bytes ≡ Err e)
fails_line memory e bytes refused text valid marked (inl h) = inl h
fails_line memory e bytes refused text valid marked (inr h) = inr (text_line bytes refused text valid marked ∙ ap (step_line_with refused) h)
