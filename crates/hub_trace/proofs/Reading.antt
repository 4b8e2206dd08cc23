-- Reading logs line by line, as a loop does.
use Rattle.std.proofs.Common.{◌≡◌, ℕ, ◌+◌, ◌<◌, List, [], ◌∷◌, ◌++◌, length, append_assoc, length-append, true, false, cond, bytes_eq, Option, Some, None, Ok, Err, ◌⊎◌, inl, inr, refl, sym, ap, subst, ◌∙◌, arith}
use Rattle.hub_trace.specs.declared.log_version.LogVersion.{LogVersion}
use Rattle.hub_trace.specs.LogVersion.{header_of, version_of}
use Rattle.hub_trace.specs.declared.read.TheConstants.{LOGS_END}
use Rattle.hub_trace.specs.declared.error.LogError.{LogError}
use Rattle.hub_trace.specs.declared.error.LogError.TheVariants as error
use Rattle.hub_trace.specs.Accepted.{AgentLog}
use Rattle.hub_text.specs.TextLines.{text_lines_of}
use Rattle.hub_trace.specs.LogLine.{LogRead}
use Rattle.hub_trace.specs.Read.{ComesAt, HasHeader, HasHeaderOf, HasOtherHeader, after_log_line, below_header, line_added, logs_below, logs_from, logs_of}
use Rattle.hub_trace.specs.ReadMemory.{ReadingTakesMemory, TakesMemoryAt}
use Rattle.hub_trace.proofs.BadLines.{bad_line}
use Rattle.hub_trace.proofs.Versions.{header_found}

-- what is read of the rest, after the logs so far and a line of that number, is what is read of all
abbrev pub IsReadSoFar : LogVersion → List ℕ → ℕ → List AgentLog → List ℕ → Type 0
IsReadSoFar v bytes n logs rest = logs_from v (n + 1) logs (text_lines_of rest) ≡ logs_of bytes

-- the text lines before the rest are gone, as many as were counted
abbrev pub HasGone : List ℕ → ℕ → List ℕ → Type 0
HasGone bytes n rest = (before : List (List ℕ)) × (text_lines_of bytes ≡ before ++ text_lines_of rest) × (n ≡ length before)

pub one_gone : (bytes : List ℕ) (n : ℕ) (rest line after : List ℕ) → HasGone bytes n rest → text_lines_of rest ≡ line ∷ text_lines_of after → HasGone bytes (n + 1) after
one_gone bytes n rest line after gone cut = (
  gone.0 ++ line ∷ [],
  gone.1 ∙ ap (λ lines. gone.0 ++ lines) cut ∙ sym (append_assoc gone.0 (line ∷ []) (text_lines_of after)),
  (let count : n ≡ length gone.0 = gone.2 in simp length-append (omega arith)),
)

pub takes_at : (v : LogVersion) (bytes : List ℕ) (n : ℕ) (rest line after : List ℕ) → HasHeaderOf v bytes → HasGone bytes n rest → text_lines_of rest ≡ line ∷ text_lines_of after → ReadingTakesMemory v line → TakesMemoryAt bytes (n + 1)
takes_at v bytes n rest line after header gone cut takes = record {
  version = v;
  header = header;
  before = gone.0;
  line = line;
  behind = text_lines_of after;
  lines = gone.1 ∙ ap (λ lines. gone.0 ++ lines) cut;
  number = ap (λ k. k + 1) gone.2;
  takes = takes;
}

pub other_header : (bytes header rest : List ℕ) → text_lines_of bytes ≡ header ∷ text_lines_of rest → version_of header ≡ None → logs_of bytes ≡ Err (1, error.BadHeader)
other_header bytes header rest cut none =
    ap below_header cut ∙ ap (λ (o : Option LogVersion). logs_below o (text_lines_of rest)) none

pub no_bytes : (bytes : List ℕ) → length bytes ≡ 0 → text_lines_of bytes ≡ []
unfolding text_lines_of
no_bytes [] h = refl
no_bytes (b ∷ bytes) h = absurd (omega arith)

pub nothing_read : (bytes : List ℕ) → length bytes ≡ 0 → logs_of bytes ≡ Ok []
nothing_read bytes h = ap below_header (no_bytes bytes h)

one_line : (v : LogVersion) (bytes : List ℕ) (n : ℕ) (logs : List AgentLog) (rest line after : List ℕ) → IsReadSoFar v bytes n logs rest → text_lines_of rest ≡ line ∷ text_lines_of after
    → logs_of bytes ≡ cond (bytes_eq line LOGS_END.now) (Ok logs) (after_log_line (n + 1) (line_added v logs line) (λ longer. logs_from v (n + 1 + 1) longer (text_lines_of after)))
unfolding logs_from
one_line v bytes n logs rest line after so_far cut = sym so_far ∙ ap (logs_from v (n + 1) logs) cut

pub at_end : (v : LogVersion) (bytes : List ℕ) (n : ℕ) (logs : List AgentLog) (rest line after : List ℕ) → IsReadSoFar v bytes n logs rest → text_lines_of rest ≡ line ∷ text_lines_of after
    → bytes_eq line LOGS_END.now ≡ true → logs_of bytes ≡ Ok logs
at_end v bytes n logs rest line after so_far cut ends =
    one_line v bytes n logs rest line after so_far cut
    ∙ ap (λ b. cond b (Ok logs) (after_log_line (n + 1) (line_added v logs line) (λ longer. logs_from v (n + 1 + 1) longer (text_lines_of after)))) ends

further : (v : LogVersion) (bytes : List ℕ) (n : ℕ) (logs : List AgentLog) (rest line after : List ℕ) → IsReadSoFar v bytes n logs rest → text_lines_of rest ≡ line ∷ text_lines_of after
    → bytes_eq line LOGS_END.now ≡ false → logs_of bytes ≡ after_log_line (n + 1) (line_added v logs line) (λ longer. logs_from v (n + 1 + 1) longer (text_lines_of after))
further v bytes n logs rest line after so_far cut ends =
    one_line v bytes n logs rest line after so_far cut
    ∙ ap (λ b. cond b (Ok logs) (after_log_line (n + 1) (line_added v logs line) (λ longer. logs_from v (n + 1 + 1) longer (text_lines_of after)))) ends

pub one_more : (v : LogVersion) (bytes : List ℕ) (n : ℕ) (logs longer : List AgentLog) (rest line after : List ℕ) → IsReadSoFar v bytes n logs rest → text_lines_of rest ≡ line ∷ text_lines_of after
    → bytes_eq line LOGS_END.now ≡ false → line_added v logs line ≡ Ok longer → IsReadSoFar v bytes (n + 1) longer after
one_more v bytes n logs longer rest line after so_far cut ends added =
    sym (further v bytes n logs rest line after so_far cut ends ∙ ap (λ (r : LogRead (List AgentLog)). after_log_line (n + 1) r (λ x. logs_from v (n + 1 + 1) x (text_lines_of after))) added)

pub refused : (v : LogVersion) (e : LogError) (bytes : List ℕ) (n : ℕ) (logs : List AgentLog) (rest line after : List ℕ) → IsReadSoFar v bytes n logs rest → text_lines_of rest ≡ line ∷ text_lines_of after
    → bytes_eq line LOGS_END.now ≡ false → (e ≡ error.OutOfMemory) ⊎ (line_added v logs line ≡ Err e) → (e ≡ error.OutOfMemory) ⊎ (logs_of bytes ≡ Err (n + 1, e))
refused v e bytes n logs rest line after so_far cut ends (inl memory) = inl memory
refused v e bytes n logs rest line after so_far cut ends (inr bad) =
    inr (further v bytes n logs rest line after so_far cut ends ∙ ap (λ (r : LogRead (List AgentLog)). after_log_line (n + 1) r (λ x. logs_from v (n + 1 + 1) x (text_lines_of after))) bad)

pub comes_below : (v : LogVersion) (e : LogError) (bytes : List ℕ) (n : ℕ) (logs : List AgentLog) (line : List ℕ) → HasHeader bytes → 0 < n → (e ≡ error.OutOfMemory) ⊎ (line_added v logs line ≡ Err e) → ComesAt bytes (n + 1) e
comes_below v e bytes n logs line header some (inl memory) = subst (ComesAt bytes (n + 1)) (sym memory) (omega arith, header)
comes_below v e bytes n logs line header some (inr bad) = subst (ComesAt bytes (n + 1)) (sym (bad_line v logs line e bad)) (omega arith, header)

pub all_read : (v : LogVersion) (bytes : List ℕ) (n : ℕ) (logs : List AgentLog) (rest : List ℕ) → IsReadSoFar v bytes n logs rest → length rest ≡ 0 → logs_of bytes ≡ Ok logs
unfolding logs_from
all_read v bytes n logs rest so_far empty = sym so_far ∙ ap (logs_from v (n + 1) logs) (no_bytes rest empty)

heads : (h : List ℕ) (r : List (List ℕ)) (xs : List (List ℕ)) → xs ≡ h ∷ r → xs ≡ [] → ⊥
heads h r xs is none = let wrong : h ∷ r ≡ [] = sym is ∙ none in cc

pub no_other : (bytes : List ℕ) → HasHeader bytes → HasOtherHeader bytes → ⊥
no_other bytes (v, (rest, is)) other =
    let same : other.0 ∷ other.1 ≡ header_of v ∷ rest = sym other.2 ∙ is in
    let first : other.0 ≡ header_of v = cc in
    other.3 v first

pub none_other : (bytes : List ℕ) → length bytes ≡ 0 → HasOtherHeader bytes → ⊥
none_other bytes empty other = heads other.0 other.1 (text_lines_of bytes) other.2 (no_bytes bytes empty)

-- the first line, where a version was found in it
pub has_header_of : (v : LogVersion) (bytes header rest : List ℕ) → text_lines_of bytes ≡ header ∷ text_lines_of rest → version_of header ≡ Some v → HasHeaderOf v bytes
has_header_of v bytes header rest cut is = (text_lines_of rest, (cut ∙ ap (λ h. h ∷ text_lines_of rest) (header_found header v is)))
