-- Step lines that come one at a time, and what was said to all of them.
use Rattle.std.proofs.Common.{◌≡◌, ℕ, ◌+◌, List, [], ◌∷◌, ◌++◌, Ok, cond, refl, sym, ap, subst, ◌∙◌, append_assoc, append-nil}
use Rattle.hub_core.specs.declared.machine.Core.{Core}
use Rattle.hub_engine.specs.declared.status.ExitStatus.TheVariants as status
use Rattle.hub_text.specs.TextLines.{text_lines_of}
use Rattle.hub_steps.specs.declared.session.Reply.{Reply}
use Rattle.hub_steps.specs.declared.session.Reply.TheVariants as reply
use Rattle.hub_steps.specs.declared.session.Session.{Session}
use Rattle.hub_steps.specs.declared.shown.Shown.{Shown}
use Rattle.hub_steps.specs.declared.step_line.StepLine.{StepLine}
use Rattle.hub_steps.specs.Lives.{AllLives}
use Rattle.hub_steps.specs.Unfolding.{lives_after}
use Rattle.hub_steps.specs.Output.{IsStepsOutput}
use Rattle.hub_steps.specs.Performed.{PerformsAt}
use Rattle.hub_steps.specs.Session.{AreTurns, HasRun, Makes, SaidIsTheText, Turn, all_said, texts_run, told, was_run}
use Rattle.hub_steps.specs.ShownText.{shown_line}
use Rattle.hub_steps.specs.StepLine.{step_line_of}
use Rattle.hub_steps.specs.Steps.{at_line, steps_from}
use Rattle.hub_steps.specs.StepText.{IsStepText}
use Rattle.hub_steps.specs.UnderWay.{AreRun}
use Rattle.hub_steps.proofs.OneText.{one_text}
use Rattle.hub_steps.proofs.Running.{runs_on, is_text}

-- a line was performed, and then what it shows was told
pub ran_line : (core next last : Core) (lives later kept : AllLives) (line : StepLine) (shown : Shown) (said : List ℕ) → PerformsAt core next lives line shown → later ≡ lives_after line.command shown lives
    → ((text : List ℕ) (lines : List StepLine) → AreRun next later text lines → AreRun last kept text lines) → said ≡ shown_line shown → (text : List ℕ) (lines : List StepLine) → AreRun core lives text lines → AreRun last kept (text ++ said) (lines ++ line ∷ [])
ran_line core next last lives later kept line shown said did lived still says text lines run =
    still (text ++ said) (lines ++ line ∷ []) (runs_on core next lives later text (text ++ said) lines line shown run did lived (ap (λ t. text ++ t) says))

-- more text lines are read, numbered from n, and what is said to them comes behind the text so far
record Ends (n : ℕ) (texts : List (List ℕ)) (said text : List ℕ) (lines : List StepLine) : Type 0 where
  more : List StepLine
  read : steps_from n texts ≡ Ok more
  last : Session
  run : HasRun last (text ++ said) (lines ++ more)

reads_one : (n : ℕ) (bytes : List ℕ) (texts : List (List ℕ)) (line : StepLine) (more : List StepLine) → step_line_of bytes ≡ Ok line → steps_from (n + 1) texts ≡ Ok more → steps_from n (bytes ∷ texts) ≡ Ok (line ∷ more)
unfolding steps_from
reads_one n bytes texts line more first rest = ap (λ r. at_line n r (steps_from (n + 1) texts)) first ∙ ap (λ r. at_line n (Ok line) r) rest

ends_here : (n : ℕ) (s : Session) (text : List ℕ) (lines : List StepLine) → HasRun s text lines → Ends n [] [] text lines
unfolding steps_from
ends_here n s text lines run =
    record { more = []; read = refl; last = s; run = subst (λ t. HasRun s t (lines ++ [])) (sym (append-nil text)) (subst (λ ls. HasRun s text ls) (sym (append-nil lines)) run) }

-- a text line that was run, before the others
runs_first : (n : ℕ) (bytes said others text : List ℕ) (texts : List (List ℕ)) (lines : List StepLine) (line : StepLine) → step_line_of bytes ≡ Ok line → Ends (n + 1) texts others (text ++ said) (lines ++ line ∷ []) → Ends n (bytes ∷ texts) (said ++ others) text lines
runs_first n bytes said others text texts lines line read ends =
    record {
      more = line ∷ ends.more;
      read = reads_one n bytes texts line ends.more read ends.read;
      last = ends.last;
      run = subst (λ t. HasRun ends.last t (lines ++ line ∷ ends.more)) (append_assoc text said others)
          (subst (λ ls. HasRun ends.last ((text ++ said) ++ others) ls) (append_assoc lines (line ∷ []) ends.more) ends.run);
    }

-- a turn before the others, by its reply
takes_turn : (r : Reply) (n : ℕ) (s after : Session) (bytes others text : List ℕ) (texts : List (List ℕ)) (lines : List StepLine) → HasRun s text lines → Makes r s after bytes
    → ((m : ℕ) (longer : List ℕ) (all : List StepLine) → HasRun after longer all → Ends m texts others longer all) → Ends n (cond (was_run r) (bytes ∷ texts) texts) (cond (was_run r) (told after ++ others) others) text lines
takes_turn reply.Ran n s after bytes others text texts lines run made go =
    runs_first n bytes (told after) others text texts lines made.0 made.1 (go (n + 1) (text ++ told after) (lines ++ made.0 ∷ []) (made.2 text lines run))
takes_turn reply.RanUntold n s after bytes others text texts lines run made go =
    runs_first n bytes (told after) others text texts lines made.0 made.1 (go (n + 1) (text ++ told after) (lines ++ made.0 ∷ []) (made.2 text lines run))
takes_turn reply.Bad n s after bytes others text texts lines run made go = go n text lines (made text lines run)
takes_turn reply.NoMemory n s after bytes others text texts lines run made go = go n text lines (made text lines run)
takes_turn reply.Lost n s after bytes others text texts lines run made go = absurd made

takes_turns : (n : ℕ) (s : Session) (ts : List Turn) (text : List ℕ) (lines : List StepLine) → HasRun s text lines → AreTurns s ts → Ends n (texts_run ts) (all_said ts) text lines
takes_turns n s [] text lines run turns = ends_here n s text lines run
takes_turns n s (t ∷ ts) text lines run turns =
    takes_turn t.reply n s t.after t.bytes (all_said ts) text (texts_run ts) lines run turns.0 (λ m longer all more. takes_turns m t.after ts longer all more turns.1)

same_text : (lines : List StepLine) (texts : List (List ℕ)) (said input text : List ℕ) → steps_from 1 texts ≡ Ok lines → IsStepText lines said → text_lines_of input ≡ texts → IsStepsOutput input status.Success text → text ≡ said
same_text lines texts said input text read is same out =
    let other : Ok out.0 ≡ Ok lines = sym out.1 ∙ ap (steps_from 1) same ∙ read in
    let one : out.0 ≡ lines = cc in
    one_text lines text said (subst (λ ls. IsStepText ls text) one out.2) is

pub said_is_the_text : SaidIsTheText
said_is_the_text s ts fresh turns =
    let e : Ends 1 (texts_run ts) (all_said ts) [] [] = takes_turns 1 s ts [] [] fresh turns in
    (e.more, e.read, is_text e.run, λ input text same out. same_text e.more (texts_run ts) (all_said ts) input text e.read (is_text e.run) same out)
