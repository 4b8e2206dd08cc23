-- Step lines have one text.
use Rattle.std.proofs.Common.{◌≡◌, List, [], ◌∷◌, ◌++◌, ℕ, sym, ap, subst, ◌∙◌, append_assoc, append-nil}
use Rattle.hub_core.specs.History.{History}
use Rattle.hub_core.specs.Facts.{facts}
use Rattle.hub_core.specs.Legal.{Legal}
use Rattle.hub_core.specs.Laws.{InOrder}
use Rattle.hub_core.proofs.Headlines.{one_answer}
use Rattle.hub_steps.specs.declared.step_line.StepLine.{StepLine}
use Rattle.hub_steps.specs.ShownText.{shown_line}
use Rattle.hub_steps.specs.Computation.{Computation, MayGive, pair, pure, ask_then, step_then}
use Rattle.hub_steps.specs.Lives.{AllLives}
use Rattle.hub_steps.specs.Unfolding.{lives_after, core_steps}
use Rattle.hub_steps.specs.StepText.{Runs, OneText}

-- ---- two runs of one computation

-- both whole histories are legal and in order
pub record Whole (h k : History) : Type 0 where
  pub left : Legal h
  pub right : Legal k
  pub left_order : InOrder h
  pub right_order : InOrder k

whole_as : {h k m n : History} → h ≡ m → k ≡ n → Whole h k → Whole m n
whole_as a b w = record { left = subst Legal a w.left; right = subst Legal b w.right; left_order = subst InOrder a w.left_order; right_order = subst InOrder b w.right_order }

-- what two runs have in common
pub record Agree {X : Type 0} (more also : History) (x y : X) : Type 0 where
  pub pairs : more ≡ also
  pub value : x ≡ y

-- whatever a computation gives after one history in two whole histories is the same
agrees : {X : Type 0} → (steps : Computation X) (h first second more also : History) (x y : X) → MayGive steps h more x → MayGive steps h also y → Whole (h ++ (more ++ first)) (h ++ (also ++ second)) → Agree more also x y
agrees (pure v) h first second more also x y is it w = record { pairs = is.0 ∙ sym it.0; value = is.1 ∙ sym it.1 }
agrees (ask_then on) h first second more also x y is it w = agrees (on (facts h)) h first second more also x y is it w
agrees (step_then refused a on) h first second more also x y is it w =
    let o = is.0 in
    let rest = is.1 in
    let left = it.1 in
    let both = whole_as (ap (λ m. h ++ (m ++ first)) is.2) (ap (λ m. h ++ (m ++ second)) it.2) w in
    let answer : o ≡ it.0 = one_answer h (rest ++ first) (left ++ second) (record { action = a; memory_refused = refused }) o it.0 both.left both.right both.left_order both.right_order in
    let moved = whole_as (sym (append_assoc h (pair refused a o ∷ []) (rest ++ first))) (ap (λ q. h ++ (pair refused a q ∷ (left ++ second))) (sym answer) ∙ sym (append_assoc h (pair refused a o ∷ []) (left ++ second))) both in
    let later : MayGive (on o) (h ++ pair refused a o ∷ []) left y = subst (λ q. MayGive (on q) (h ++ pair refused a q ∷ []) left y) (sym answer) it.3 in
    let same = agrees (on o) (h ++ pair refused a o ∷ []) first second rest left x y is.3 later moved in
    record { pairs = is.2 ∙ ap (λ q. pair refused a q ∷ rest) answer ∙ ap (λ m. pair refused a it.0 ∷ m) same.pairs ∙ sym it.2; value = same.value }

-- ---- all lines

-- the history of a run begins with the pairs before it
runs_on : (past : History) (lives : AllLives) (lines : List StepLine) (text : List ℕ) (after : History) (last : AllLives) → Runs past lives lines text after last → (rest : History) × (after ≡ past ++ rest)
runs_on past lives [] text after last r = ([], r.1 ∙ sym (append-nil past))
runs_on past lives (l ∷ lines) text after last r =
    let back = runs_on (past ++ r.0) (lives_after l.command r.1 lives) lines r.2 after last r.5 in
    (r.0 ++ back.0, back.1 ∙ append_assoc past r.0 back.0)

texts_agree : (h : History) (lives : AllLives) (lines : List StepLine) (text words : List ℕ) (after end : History) (last final : AllLives) → Runs h lives lines text after last → Runs h lives lines words end final → Whole after end → text ≡ words
texts_agree h lives [] text words after end last final r s w = r.0 ∙ sym s.0
texts_agree h lives (l ∷ lines) text words after end last final r s w =
    let first = runs_on (h ++ r.0) (lives_after l.command r.1 lives) lines r.2 after last r.5 in
    let second = runs_on (h ++ s.0) (lives_after l.command s.1 lives) lines s.2 end final s.5 in
    let moved = whole_as (first.1 ∙ append_assoc h r.0 first.0) (second.1 ∙ append_assoc h s.0 second.0) w in
    let agree = agrees (core_steps lives l.memory_refused l.command) h first.0 second.0 r.0 s.0 r.1 s.1 r.3.unfolds s.3.unfolds moved in
    let runs : Runs (h ++ r.0) (lives_after l.command r.1 lives) lines s.2 end final =
    subst (λ o. Runs (h ++ r.0) (lives_after l.command o lives) lines s.2 end final) (sym agree.value) (subst (λ m. Runs (h ++ m) (lives_after l.command s.1 lives) lines s.2 end final) (sym agree.pairs) s.5) in
    let rest : r.2 ≡ s.2 = texts_agree (h ++ r.0) (lives_after l.command r.1 lives) lines r.2 s.2 after end last final r.5 runs w in
    r.4 ∙ ap (λ o. shown_line o ++ r.2) agree.value ∙ ap (λ t. shown_line s.1 ++ t) rest ∙ sym s.4

pub one_text : OneText
one_text lines first second a b =
    texts_agree [] [] lines first second a.history b.history a.lives b.lives a.runs b.runs (record { left = a.legal; right = b.legal; left_order = a.in_order; right_order = b.in_order })
