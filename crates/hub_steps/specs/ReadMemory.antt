-- Which text lines have a part whose reading takes memory: a body, a list, a name or a URL.
use Rattle.std.specs.Prelude.{ℕ, Bool, ◌||◌, List, Option, Some, None, codes, bytes_eq}
use Rattle.hub_text.specs.Word.{cut}
use Rattle.hub_steps.specs.StepLine.{mark}

-- the steps of these names have such a part
abbrev pub has_part : List ℕ → Bool
has_part name = bytes_eq name (codes "post") || (bytes_eq name (codes "push") || (bytes_eq name (codes "cast") || (bytes_eq name (codes "member") || bytes_eq name (codes "agent"))))

-- the first word of a text
abbrev pub word_at_front : List ℕ → Option (List ℕ × List ℕ) → List ℕ
word_at_front text None = text
word_at_front text (Some parts) = parts.0

abbrev pub text_reads_memory : List ℕ → Bool
text_reads_memory text = has_part (word_at_front text (cut 32 text))

-- whether memory may run out while the bytes of a text line are read
abbrev pub reads_memory : List ℕ → Bool
reads_memory bytes = text_reads_memory (mark bytes).1
