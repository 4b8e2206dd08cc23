-- A run of step lines that are read one after the other, once they were tested.
use Rattle.std.proofs.Common.{◌≡◌, ℕ, ◌+◌, List, [], ◌∷◌, ◌++◌, Option, Result, Ok, Err, refl, sym, ap, subst, ◌∙◌, append_assoc, append-nil}
use Rattle.std.specs.Io.KnownBytes.{Appends, Keeps}
use Rattle.hub_core.specs.declared.machine.Core.{Core}
use Rattle.hub_engine.specs.declared.status.Device.{Device}
use Rattle.hub_engine.specs.declared.status.ExitStatus.{ExitStatus}
use Rattle.hub_engine.specs.Beginning.{AppendsBeginning}
use Rattle.hub_engine.specs.Engine.{Writes}
use Rattle.hub_engine.proofs.Bytes.{appends_nothing}
use Rattle.hub_steps.specs.declared.shown.Shown.{Shown}
use Rattle.hub_steps.specs.declared.step_line.StepLine.{StepLine}
use Rattle.hub_steps.specs.Lives.{AllLives}
use Rattle.hub_steps.specs.Unfolding.{lives_after}
use Rattle.hub_steps.specs.Output.{IsCutShort, IsRunOutput}
use Rattle.hub_steps.specs.Performed.{PerformsAt}
use Rattle.hub_steps.specs.ShownText.{shown_line}
use Rattle.hub_steps.specs.StepLine.{step_line_of}
use Rattle.hub_steps.specs.Steps.{at_line, steps_from, ReadSteps}
use Rattle.hub_steps.specs.StepText.{IsStepText}
use Rattle.hub_steps.specs.UnderWay.{AreRun, AreLinesTold}
use Rattle.hub_steps.proofs.Running.{answers, sends, ends, cut_begun, flush_failed}

-- the step lines were read of the text lines; of a front the text was told, and the others are left
pub record IsUnderWay (lines : List StepLine) (rest : List (List ℕ)) (old now : Option (List ℕ)) (core : Core) (lives : AllLives) (kept : List ℕ) : Type 0 where
  pub front : List StepLine
  pub back : List StepLine
  pub number : ℕ
  pub told : AreLinesTold old now core lives kept front
  pub whole : lines ≡ front ++ back
  pub left : steps_from number rest ≡ Ok back

-- of what was run nothing has gone out
pub unsent : (old : Option (List ℕ)) (core : Core) (lives : AllLives) (kept : List ℕ) (front : List StepLine) → AreRun core lives kept front → AreLinesTold old old core lives kept front
unsent old core lives kept front run = record { sent = []; run = run; out = appends_nothing old }

pub sets_out : (rest : List (List ℕ)) (old : Option (List ℕ)) (core : Core) (lives : AllLives) (kept : List ℕ) (front back : List StepLine) (n : ℕ) → AreRun core lives kept front → steps_from n rest ≡ Ok back → IsUnderWay (front ++ back) rest old old core lives kept
sets_out rest old core lives kept front back n run left = record { front = front; back = back; number = n; told = unsent old core lives kept front run; whole = refl; left = left }

first_of : (n : ℕ) (line : StepLine) (read : ReadSteps) (back : List StepLine) → at_line n (Ok line) read ≡ Ok back → (more : List StepLine) × (read ≡ Ok more) × (back ≡ line ∷ more)
first_of n line (Ok lines) back e = (lines, refl, cc)
first_of n line (Err bad) back e = cc

-- a text line was answered
pub goes_on : (lines : List StepLine) (rest after : List (List ℕ)) (bytes : List ℕ) (line : StepLine) (old now : Option (List ℕ)) (core next : Core) (lives later : AllLives) (kept longer : List ℕ) → rest ≡ bytes ∷ after → step_line_of bytes ≡ Ok line → IsUnderWay lines rest old now core lives kept
    → (shown : Shown) × PerformsAt core next lives line shown × (later ≡ lives_after line.command shown lives) × (longer ≡ kept ++ shown_line shown)
    → IsUnderWay lines after old now next later longer
unfolding steps_from
goes_on lines rest after bytes line old now core next lives later kept longer cut read u x =
    let one : at_line u.number (Ok line) (steps_from (u.number + 1) after) ≡ Ok u.back = subst (λ r. at_line u.number r (steps_from (u.number + 1) after) ≡ Ok u.back) read (subst (λ ls. steps_from u.number ls ≡ Ok u.back) cut u.left) in
    let more = first_of u.number line (steps_from (u.number + 1) after) u.back one in
    record {
      front = u.front ++ line ∷ [];
      back = more.0;
      number = u.number + 1;
      told = answers old now core next lives later kept longer u.front line x.0 u.told x.1 x.2 x.3;
      whole = u.whole ∙ ap (λ xs. u.front ++ xs) more.2 ∙ sym (append_assoc u.front (line ∷ []) more.0);
      left = more.1;
    }

-- what was kept has gone out
pub goes_out : (lines : List StepLine) (rest : List (List ℕ)) (old now next : Option (List ℕ)) (core : Core) (lives : AllLives) (kept none : List ℕ) → IsUnderWay lines rest old now core lives kept → Appends now next kept → none ≡ [] → IsUnderWay lines rest old next core lives none
goes_out lines rest old now next core lives kept none u out e =
    record { front = u.front; back = u.back; number = u.number; told = sends old now next core lives kept none u.front u.told out e; whole = u.whole; left = u.left }

no_more : (n : ℕ) (rest : List (List ℕ)) (back : List StepLine) → rest ≡ [] → steps_from n rest ≡ Ok back → back ≡ []
unfolding steps_from
no_more n [] [] e read = refl
no_more n [] (line ∷ back) e read = cc
no_more n (bytes ∷ rest) back e read = cc

-- no text line is left
comes_to_end : (lines : List StepLine) (rest : List (List ℕ)) (old now : Option (List ℕ)) (core : Core) (lives : AllLives) (kept : List ℕ) → rest ≡ [] → (u : IsUnderWay lines rest old now core lives kept) → lines ≡ u.front
comes_to_end lines rest old now core lives kept e u =
    u.whole ∙ ap (λ xs. u.front ++ xs) (no_more u.number rest u.back e u.left) ∙ append-nil u.front

pub is_told : (lines : List StepLine) (rest : List (List ℕ)) (old now next : Option (List ℕ)) (core : Core) (lives : AllLives) (kept : List ℕ) → rest ≡ [] → IsUnderWay lines rest old now core lives kept → kept ≡ [] → Keeps now next
    → (text : List ℕ) × IsStepText lines text × Appends old next text
is_told lines rest old now next core lives kept e u none keeps =
    let t = ends old now next core lives kept u.front u.told none keeps in
    (t.0, subst (λ ls. IsStepText ls t.0) (sym (comes_to_end lines rest old now core lives kept e u)) t.1, t.2)

-- a write failed
pub is_begun : (lines : List StepLine) (rest : List (List ℕ)) (old now next : Option (List ℕ)) (core : Core) (lives : AllLives) (kept : List ℕ) → IsUnderWay lines rest old now core lives kept → AppendsBeginning now next kept
    → (text : List ℕ) × IsCutShort lines text × AppendsBeginning old next text
is_begun lines rest old now next core lives kept u b = cut_begun old now next core lives kept u.front u.back lines u.told u.whole b

-- the last flush failed
pub is_unflushed : (lines : List StepLine) (rest : List (List ℕ)) (old now next : Option (List ℕ)) (core : Core) (lives : AllLives) (kept : List ℕ) → IsUnderWay lines rest old now core lives kept → kept ≡ [] → Keeps now next
    → (text : List ℕ) × IsCutShort lines text × AppendsBeginning old next text
is_unflushed lines rest old now next core lives kept u none keeps = flush_failed old now next core lives kept u.front u.back lines u.told u.whole none keeps

-- memory ran out, and what cuts a run short did so
pub is_cut : (lines : List StepLine) (rest : List (List ℕ)) (old now next : Option (List ℕ)) (core : Core) (lives : AllLives) (kept same : List ℕ) (r : Result ExitStatus Device) → same ≡ kept → IsUnderWay lines rest old now core lives kept
    → ((old : Option (List ℕ)) (core : Core) (lives : AllLives) (front back : List StepLine) → AreLinesTold old now core lives same front → Writes (IsRunOutput (front ++ back)) old next r)
    → Writes (IsRunOutput lines) old next r
is_cut lines rest old now next core lives kept same r e u cuts =
    subst (λ ls. Writes (IsRunOutput ls) old next r) (sym u.whole) (cuts old core lives u.front u.back (subst (λ k. AreLinesTold old now core lives k u.front) (sym e) u.told))
