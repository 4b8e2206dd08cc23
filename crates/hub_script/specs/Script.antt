-- What a script says: line after line, with what the lines before it say.
use Rattle.std.specs.Prelude.{ℕ, ◌+◌, List, [], ◌∷◌, Result, Ok, Err}
use Rattle.hub_text.specs.Reading.{◌>>=◌}
use Rattle.hub_text.specs.TextLines.{text_lines_of}
use Rattle.hub_script.specs.declared.error.ScriptError.{ScriptError}
use Rattle.hub_script.specs.Contents.{Contents}
use Rattle.hub_script.specs.Context.{after_form}
use Rattle.hub_script.specs.Fields.{ScriptRead}
use Rattle.hub_script.specs.Form.{form_of}
use Rattle.hub_script.specs.Known.{Known, nothing}

-- a script, or the number of the first bad text line and what is wrong with it
abbrev pub ScriptAnswer : Type 0
ScriptAnswer = Result Contents (ℕ × ScriptError)

-- what is known after a text line, or the first test that it fails
abbrev pub after_line : Known → List ℕ → ScriptRead Known
after_line k bytes = form_of bytes >>= after_form k

-- what is read behind the text line of that number
abbrev pub going_on : ℕ → ScriptRead Known → (Known → ScriptAnswer) → ScriptAnswer
going_on n (Err e) more = Err (n, e)
going_on n (Ok k) more = more k

-- the script of the text lines from number n on
unfoldable pub script_from : ℕ → Known → List (List ℕ) → ScriptAnswer
script_from n k [] = Ok k.script
script_from n k (bytes ∷ lines) = going_on n (after_line k bytes) (λ next. script_from (n + 1) next lines)

-- the script that the bytes spell, or its first bad text line, counted from 1
abbrev pub script_of : List ℕ → ScriptAnswer
script_of bytes = script_from 1 nothing (text_lines_of bytes)
