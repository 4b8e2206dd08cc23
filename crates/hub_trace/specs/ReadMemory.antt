-- At which log lines memory may run out.
use Rattle.std.specs.Prelude.{◌≡◌, ◌⊎◌, ℕ, ◌+◌, Bool, ◌||◌, ◌&&◌, false, true, List, ◌∷◌, ◌++◌, length, Option, Some, None, codes, bytes_eq, is_some}
use Rattle.std.specs.Result.{IsOk}
use Rattle.hub_text.specs.TextLines.{text_lines_of}
use Rattle.hub_text.specs.Word.{cut}
use Rattle.hub_trace.specs.declared.log_version.LogVersion.{LogVersion}
use Rattle.hub_trace.specs.LogLine.{log_line_of}
use Rattle.hub_trace.specs.Read.{HasHeaderOf}

-- the test of what comes after the first space, where there is one
abbrev pub of_rest : (List ℕ → Bool) → Option (List ℕ × List ℕ) → Bool
of_rest test None = false
of_rest test (Some parts) = test parts.1

-- a LIST and a BODY, in place of `notice`
abbrev pub has_message : List ℕ → Bool
has_message text = is_some (cut 32 text)

-- the same behind `E L EP:N`
abbrev pub delivers_message : List ℕ → Bool
delivers_message text = of_rest (λ line. of_rest (λ name. of_rest has_message (cut 32 name)) (cut 32 line)) (cut 32 text)

abbrev pub is_delivery : List ℕ → Bool
is_delivery name = bytes_eq name (codes "put") || bytes_eq name (codes "got")

abbrev pub line_reads : Option (List ℕ × List ℕ) → Bool
line_reads None = false
line_reads (Some parts) = is_delivery parts.0 && delivers_message parts.1

-- whether memory may run out while the bytes of a log line are read
abbrev pub log_reads_memory : List ℕ → Bool
log_reads_memory bytes = line_reads (cut 32 bytes)

-- a log line whose reading takes memory, or by which the logs grow
abbrev pub ReadingTakesMemory : LogVersion → List ℕ → Type 0
ReadingTakesMemory v bytes = (log_reads_memory bytes ≡ true) ⊎ IsOk (log_line_of v bytes)

-- the text line of that number, below the header, takes memory
pub record TakesMemoryAt (bytes : List ℕ) (n : ℕ) : Type 0 where
  pub version : LogVersion
  pub header : HasHeaderOf version bytes
  pub before : List (List ℕ)
  pub line : List ℕ
  pub behind : List (List ℕ)
  pub lines : text_lines_of bytes ≡ before ++ line ∷ behind
  pub number : n ≡ length before + 1
  pub takes : ReadingTakesMemory version line
