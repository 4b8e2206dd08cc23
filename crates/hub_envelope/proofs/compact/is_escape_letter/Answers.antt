-- Each letter is that of the short escape of one byte.
use Rattle.std.proofs.Common.{◌≡◌, ◌⊎◌, ℕ, ◌∷◌, [], inl, inr, refl, subst, sym}
use Rattle.json.specs.Print.{escape_byte}
use Rattle.hub_envelope.proofs.compact.is_escape_letter.Goals as goal

-- a byte with that short escape
abbrev Escapes : ℕ → Type 0
Escapes letter = (byte : ℕ) × (escape_byte byte ≡ 92 ∷ letter ∷ [])

escaped : (byte letter code : ℕ) → escape_byte byte ≡ 92 ∷ code ∷ [] → letter ≡ code → Escapes letter
escaped byte letter code e is = (byte, subst (λ l. escape_byte byte ≡ 92 ∷ l ∷ []) (sym is) e)

letters : (letter : ℕ) → (letter ≡ 34) ⊎ ((letter ≡ 92) ⊎ ((letter ≡ 98) ⊎ ((letter ≡ 102) ⊎ ((letter ≡ 110) ⊎ ((letter ≡ 114) ⊎ (letter ≡ 116)))))) → Escapes letter
unfolding escape_byte
letters l (inl e) = escaped 34 l 34 refl e
letters l (inr (inl e)) = escaped 92 l 92 refl e
letters l (inr (inr (inl e))) = escaped 8 l 98 refl e
letters l (inr (inr (inr (inl e)))) = escaped 12 l 102 refl e
letters l (inr (inr (inr (inr (inl e))))) = escaped 10 l 110 refl e
letters l (inr (inr (inr (inr (inr (inl e)))))) = escaped 13 l 114 refl e
letters l (inr (inr (inr (inr (inr (inr e)))))) = escaped 9 l 116 refl e

pub returns-in-34 : goal.returns-in-34
returns-in-34 c = λ _. letters c.args.letter c.in-34.is
