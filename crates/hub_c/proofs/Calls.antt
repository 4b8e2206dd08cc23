-- Calls for one hub are turns of its session.
use Rattle.std.proofs.Common.{◌≡◌, ◌⊎◌, ℕ, List, [], ◌∷◌, ◌++◌, true, false, Some, None, Ok, refl, sym, ap, subst, inl, inr, ◌∙◌}
use Rattle.std.specs.Prelude.{◌||◌, ◌==◌}
use Rattle.hub_steps.specs.declared.session.Reply.{Reply}
use Rattle.hub_steps.specs.declared.session.Reply.TheVariants as reply
use Rattle.hub_steps.specs.declared.session.Session.{Session}
use Rattle.hub_steps.specs.Session as session
use Rattle.hub_steps.specs.Session.{AreTurns, GoesOnFrom, HasRun, RunsOn, Turn, told}
use Rattle.hub_steps.specs.Steps.{steps_from}
use Rattle.hub_steps.specs.StepText.{IsStepText}
use Rattle.hub_steps.proofs.Sessions.{said_is_the_text}
use Rattle.hub_c.specs.Calls.{AreCalls, Call, IsCall, CallsSayTheText, said_in_calls, lines_of_calls}
use Rattle.hub_c.specs.Held.{BothHeld, HeldSession}
use Rattle.hub_c.specs.Line.{BadLine, NoMemoryLine, NoRoomLine, RanLine}

-- the turns of these calls, from a session on
record AreAlso (s : Session) (cs : List Call) : Type 0 where
  turns : List Turn
  are : AreTurns s turns
  texts : session.texts_run turns ≡ lines_of_calls cs
  said : session.all_said turns ≡ said_in_calls cs

-- a call that has run its text line, before the others
runs_first : (s t : Session) (r : Reply) (c : Call) (cs : List Call) → c.after ≡ Some t → session.was_run r ≡ true → (c.answer == 0 || c.answer == 4) ≡ true → session.Makes r s t c.bytes → AreAlso t cs → AreAlso s (c ∷ cs)
runs_first s t r c cs held run same made also =
    record {
      turns = record { bytes = c.bytes; reply = r; after = t } ∷ also.turns;
      are = (made, also.are);
      texts = rw (run, same) (ap (λ ts. c.bytes ∷ ts) also.texts);
      said = rw (run, same) (rw held (ap (λ x. told t ++ x) also.said));
    }

-- a call that has run nothing, before the others
runs_nothing : (s t : Session) (r : Reply) (c : Call) (cs : List Call) → session.was_run r ≡ false → (c.answer == 0 || c.answer == 4) ≡ false → session.Makes r s t c.bytes → AreAlso t cs → AreAlso s (c ∷ cs)
runs_nothing s t r c cs run same made also =
    record {
      turns = record { bytes = c.bytes; reply = r; after = t } ∷ also.turns;
      are = (made, also.are);
      texts = rw (run, same) also.texts;
      said = rw (run, same) also.said;
    }

is_run : (n : ℕ) → (n ≡ 0) ⊎ (n ≡ 4) → (n == 0 || n == 4) ≡ true
is_run n (inl e) = rw e refl
is_run n (inr e) = rw e refl

isnt_run : (n : ℕ) → (n ≡ 2) ⊎ (n ≡ 3) → (n == 0 || n == 4) ≡ false
isnt_run n (inl e) = rw e refl
isnt_run n (inr e) = rw e refl

-- a hub that is called has a session, and still has one
both_held : (P : Session → Session → Type 0) (s : Session) (k : HeldSession) → BothHeld P (Some s) k → (t : Session) × (k ≡ Some t) × P s t
both_held P s None both = absurd both
both_held P s (Some t) both = (t, refl, both)

one_call : (s : Session) (c : Call) (cs : List Call) → IsCall (Some s) c → ((t : Session) → c.after ≡ Some t → AreAlso t cs) → AreAlso s (c ∷ cs)
one_call s c cs (inl x) go =
    let b = both_held (λ s t. RanLine s t c.bytes) s c.after x.1 in
    runs_first s b.0 reply.Ran c cs b.1 refl (is_run c.answer (inl x.0)) b.2.0 (go b.0 b.1)
one_call s c cs (inr (inl x)) go =
    let b = both_held (λ s t. NoRoomLine s t c.bytes) s c.after x.1 in
    runs_first s b.0 reply.RanUntold c cs b.1 refl (is_run c.answer (inr x.0)) b.2.0 (go b.0 b.1)
one_call s c cs (inr (inr (inl x))) go =
    let b = both_held (λ s t. BadLine s t c.bytes) s c.after x.1 in
    runs_nothing s b.0 reply.Bad c cs refl (isnt_run c.answer (inl x.0)) b.2.1 (go b.0 b.1)
one_call s c cs (inr (inr (inr x))) go =
    let b = both_held (λ s t. NoMemoryLine s t c.bytes) s c.after x.1 in
    runs_nothing s b.0 reply.NoMemory c cs refl (isnt_run c.answer (inr x.0)) b.2.0.0 (go b.0 b.1)

are_turns : (s : Session) (cs : List Call) → AreCalls (Some s) cs → AreAlso s cs
are_turns s [] calls = record { turns = []; are = tt; texts = refl; said = refl }
are_turns s (c ∷ cs) calls = one_call s c cs calls.0 (λ t held. are_turns t cs (subst (λ h. AreCalls h cs) held calls.1))

pub said_is_text : CallsSayTheText
said_is_text None cs fresh calls = absurd fresh
said_is_text (Some s) cs fresh calls =
    let also = are_turns s cs calls in
    let law = said_is_the_text s also.turns fresh.0 also.are in (
      law.0,
      subst (λ ts. steps_from 1 ts ≡ Ok law.0) also.texts law.1,
      subst (λ text. IsStepText law.0 text) also.said law.2,
      λ input text same out. law.3 input text (same ∙ sym also.texts) out ∙ also.said,
    )
