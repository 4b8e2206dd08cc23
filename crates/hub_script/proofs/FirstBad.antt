-- An answer, by cases.
use Rattle.std.proofs.Common.{◌≡◌, ℕ, ◌+◌, List, [], ◌∷◌, ◌++◌, length, Ok, Err, inl, inr, refl, ap, arith}
use Rattle.hub_text.specs.Reading.{AreLinesReadAs}
use Rattle.hub_text.specs.TextLines.{text_lines_of}
use Rattle.hub_script.specs.declared.error.ScriptError.TheVariants.{OutOfMemory}
use Rattle.hub_script.specs.Answers.{IsScriptAnswer, LeavesKnown}
use Rattle.hub_script.specs.Contents.{Contents}
use Rattle.hub_script.specs.Fields.{ScriptRead}
use Rattle.hub_script.specs.Known.{Known, nothing}
use Rattle.hub_script.specs.Script.{ScriptAnswer, after_line, going_on, script_from, script_of}

-- the lines from the n-th on are read to the script, or the first bad one among them is told
abbrev pub IsAnswerFrom : ℕ → Known → List (List ℕ) → ScriptAnswer → Type 0
IsAnswerFrom n k lines (Ok script) = (last : Known) × LeavesKnown k lines last × (script ≡ last.script)
IsAnswerFrom n k lines (Err e) =
    (before : List (List ℕ)) × (bad : List ℕ) × (behind : List (List ℕ)) × (at : Known) × (lines ≡ before ++ bad ∷ behind) × (e.0 ≡ n + length before) × LeavesKnown k before at × (after_line at bad ≡ Err e.1)

one_line : (n : ℕ) (k next : Known) (bytes : List ℕ) (lines : List (List ℕ)) (r : ScriptAnswer) → after_line k bytes ≡ Ok next → IsAnswerFrom (n + 1) next lines r → IsAnswerFrom n k (bytes ∷ lines) r
one_line n k next bytes lines (Ok script) obeys h = (h.0, (next, obeys, h.1), h.2)
one_line n k next bytes lines (Err e) obeys h = (bytes ∷ h.0, h.1, h.2, h.3, ap (λ ls. bytes ∷ ls) h.4, (let at : e.0 ≡ n + 1 + length h.0 = h.5 in omega arith), (next, obeys, h.6), h.7)

by_line : (n : ℕ) (k : Known) (bytes : List ℕ) (lines : List (List ℕ)) (r : ScriptRead Known) → after_line k bytes ≡ r
    → ((next : Known) → IsAnswerFrom (n + 1) next lines (script_from (n + 1) next lines))
    → IsAnswerFrom n k (bytes ∷ lines) (going_on n r (λ next. script_from (n + 1) next lines))
by_line n k bytes lines (Ok next) is more = one_line n k next bytes lines (script_from (n + 1) next lines) is (more next)
by_line n k bytes lines (Err e) is more = ([], bytes, lines, k, refl, omega arith, refl, is)

answers_from : (n : ℕ) (k : Known) (lines : List (List ℕ)) → IsAnswerFrom n k lines (script_from n k lines)
unfolding script_from
answers_from n k [] = (k, refl, refl)
answers_from n k (bytes ∷ lines) = by_line n k bytes lines (after_line k bytes) refl (λ next. answers_from (n + 1) next lines)

told : (text : List ℕ) (r : ScriptAnswer) → IsAnswerFrom 1 nothing (text_lines_of text) r → IsScriptAnswer text r
told text (Ok script) h = h
told text (Err e) h = inr (record {
  before = h.0;
  bad = h.1;
  behind = h.2;
  known = h.3;
  lines = h.4;
  number = omega (arith, h.5);
  obeyed = h.6;
  fails = h.7;
})

-- what a reader answers, by cases
pub by_cases : (text : List ℕ) (r : ScriptAnswer) → AreLinesReadAs OutOfMemory (λ (s : Contents). s) r (script_of text) → IsScriptAnswer text r
by_cases text (Ok script) h = told text (Ok script) (rw h at (answers_from 1 nothing (text_lines_of text)))
by_cases text (Err e) (inl h) = inl h
by_cases text (Err e) (inr h) = told text (Err e) (rw h at (answers_from 1 nothing (text_lines_of text)))
