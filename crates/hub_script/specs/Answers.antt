-- By cases, in plain words, what an answer says of a script.
use Rattle.std.specs.Prelude.{◌≡◌, ◌⊎◌, ℕ, ◌+◌, List, [], ◌∷◌, ◌++◌, length, true, Result, Ok, Err}
use Rattle.std.specs.Str.{is_utf8}
use Rattle.hub_text.specs.TextLines.{text_lines_of}
use Rattle.hub_script.specs.declared.error.ScriptError.{ScriptError}
use Rattle.hub_script.specs.declared.error.ScriptError.TheVariants.{OutOfMemory}
use Rattle.hub_script.specs.Contents.{Contents}
use Rattle.hub_script.specs.Known.{Known, nothing}
use Rattle.hub_script.specs.Script.{after_line}

-- each text line obeys the rules after those before it, and this is known after the last
abbrev pub LeavesKnown : Known → List (List ℕ) → Known → Type 0
LeavesKnown k [] last = k ≡ last
LeavesKnown k (bytes ∷ lines) last = (next : Known) × (after_line k bytes ≡ Ok next) × LeavesKnown next lines last

-- the text line of that number is the first that doesn't obey them, and this is the first test that it fails
pub record IsFirstBad (text : List ℕ) (n : ℕ) (e : ScriptError) : Type 0 where
  pub before : List (List ℕ)
  pub bad : List ℕ
  pub behind : List (List ℕ)
  pub known : Known
  pub lines : text_lines_of text ≡ before ++ bad ∷ behind
  pub number : n ≡ length before + 1
  pub obeyed : LeavesKnown nothing before known
  pub fails : after_line known bad ≡ Err e

-- the text line of that number is UTF-8, and those before it obey the rules
pub record ReadingTakesMemoryAt (text : List ℕ) (n : ℕ) : Type 0 where
  pub before : List (List ℕ)
  pub line : List ℕ
  pub behind : List (List ℕ)
  pub known : Known
  pub lines : text_lines_of text ≡ before ++ line ∷ behind
  pub number : n ≡ length before + 1
  pub obeyed : LeavesKnown nothing before known
  pub utf8 : is_utf8 line ≡ true

-- running out of memory says nothing of the text
abbrev pub IsScriptAnswer : List ℕ → Result Contents (ℕ × ScriptError) → Type 0
IsScriptAnswer text (Ok script) = (k : Known) × LeavesKnown nothing (text_lines_of text) k × (script ≡ k.script)
IsScriptAnswer text (Err e) = (e.1 ≡ OutOfMemory) ⊎ IsFirstBad text e.0 e.1
