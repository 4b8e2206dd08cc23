-- Reading lines one after the other, as a loop does.
use Rattle.std.proofs.Common.{◌≡◌, ℕ, ◌+◌, List, [], ◌∷◌, ◌++◌, length, true, eqb, Ok, Err, refl, sym, ap, ◌∙◌, append_assoc, arith}
use Rattle.std.proofs.lemmas.Bool.{eqb-true}
use Rattle.hub_text.specs.TextLines.{text_lines_of}
use Rattle.std.proofs.lemmas.List.{append-nil}
use Rattle.hub_steps.specs.declared.step_line.StepLine.{StepLine}
use Rattle.hub_steps.specs.declared.step_line.StepLineError.{StepLineError}
use Rattle.hub_steps.specs.StepLine.{step_line_of}
use Rattle.hub_steps.specs.Steps.{at_line, steps_from, ReadSteps}
use Rattle.hub_steps.specs.UnderWay.{with_front}

-- nothing was read before
pub starts_reading : (read : ReadSteps) → with_front [] read ≡ read
starts_reading (Ok lines) = refl
starts_reading (Err bad) = refl

regroup : (front : List StepLine) (n : ℕ) (line : StepLine) (read : ReadSteps) → with_front front (at_line n (Ok line) read) ≡ with_front (front ++ line ∷ []) read
regroup front n line (Ok lines) = ap (λ (xs : List StepLine). Ok xs) (sym (append_assoc front (line ∷ []) lines))
regroup front n line (Err bad) = refl

pub goes_on : (front : List StepLine) (n : ℕ) (lines more : List (List ℕ)) (bytes : List ℕ) (line : StepLine) (total : ReadSteps) → lines ≡ bytes ∷ more → step_line_of bytes ≡ Ok line
    → with_front front (steps_from n lines) ≡ total → with_front (front ++ line ∷ []) (steps_from (n + 1) more) ≡ total
unfolding steps_from
goes_on front n lines more bytes line total cut read so_far =
    let one : with_front front (steps_from n lines) ≡ with_front (front ++ line ∷ []) (steps_from (n + 1) more) = rw (cut, read) (regroup front n line (steps_from (n + 1) more)) in
    sym one ∙ so_far

pub is_bad : (front : List StepLine) (n : ℕ) (lines more : List (List ℕ)) (bytes : List ℕ) (kind : StepLineError) (total : ReadSteps) → lines ≡ bytes ∷ more → step_line_of bytes ≡ Err kind
    → with_front front (steps_from n lines) ≡ total → total ≡ Err (n, kind)
unfolding steps_from
is_bad front n lines more bytes kind total cut read so_far =
    let one : with_front front (steps_from n lines) ≡ Err (n, kind) = rw (cut, read) refl in
    sym so_far ∙ one

pub is_done : (front : List StepLine) (n : ℕ) (total : ReadSteps) → with_front front (steps_from n []) ≡ total → total ≡ Ok front
unfolding steps_from
is_done front n total so_far = sym so_far ∙ ap (λ (xs : List StepLine). Ok xs) (append-nil front)

pub no_lines : (bytes : List ℕ) → eqb (length bytes) 0 ≡ true → text_lines_of bytes ≡ []
unfolding text_lines_of
no_lines [] h = refl
no_lines (b ∷ bytes) h = absurd (let e : length (b ∷ bytes) ≡ 0 = eqb-true (length (b ∷ bytes)) 0 h in omega arith)

-- lines were read before, and what is left was read without a bad line
pub is_whole : (front back : List StepLine) (read total : ReadSteps) → with_front front read ≡ total → read ≡ Ok back → total ≡ Ok (front ++ back)
is_whole front back (Ok lines) total so_far e = sym so_far ∙ ap (λ (r : ReadSteps). with_front front r) e
is_whole front back (Err bad) total so_far e = cc

-- a bad line is left
pub is_unread : (front : List StepLine) (bad : ℕ × StepLineError) (read total : ReadSteps) → with_front front read ≡ total → read ≡ Err bad → total ≡ Err bad
is_unread front bad read total so_far e = sym so_far ∙ ap (λ (r : ReadSteps). with_front front r) e
