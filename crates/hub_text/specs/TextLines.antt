-- The lines of an input.
use Rattle.std.specs.Prelude.{ℕ, List, [], ◌∷◌, ◌==◌, if◌then◌else◌}

-- the lines with a byte more at the front of the first
abbrev pub onto_first : ℕ → List (List ℕ) → List (List ℕ)
onto_first b [] = (b ∷ []) ∷ []
onto_first b (line ∷ lines) = (b ∷ line) ∷ lines

-- Each LF ends a text line and is no part of it. What comes after the last LF is a text line unless it is empty.
unfoldable pub text_lines_of : List ℕ → List (List ℕ)
text_lines_of [] = []
text_lines_of (b ∷ bytes) = if b == 10 then [] ∷ text_lines_of bytes else onto_first b (text_lines_of bytes)
