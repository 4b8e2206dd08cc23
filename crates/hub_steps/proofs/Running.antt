-- Lines that were run, and what has gone out of their text.
use Rattle.std.proofs.Common.{◌≡◌, ℕ, List, [], ◌∷◌, ◌++◌, Bool, true, false, Option, Result, Ok, Err, refl, sym, ap, subst, ◌∙◌, append_assoc, append-nil}
use Rattle.std.specs.Result.{is_err, OnOk, OnErr}
use Rattle.std.specs.Io.KnownBytes.{Appends, Keeps}
use Rattle.hub_core.specs.declared.machine.Core.{Core}
use Rattle.hub_core.specs.History.{History}
use Rattle.hub_core.specs.Shows.{Shows}
use Rattle.hub_engine.specs.declared.status.Device.{Device}
use Rattle.hub_engine.specs.declared.status.ExitStatus.{ExitStatus}
use Rattle.hub_engine.specs.declared.status.ExitStatus.TheVariants as exit
use Rattle.hub_steps.specs.declared.step_line.StepLine.{StepLine}
use Rattle.hub_engine.specs.Beginning.{AppendsBeginning}
use Rattle.hub_steps.specs.declared.shown.Shown.{Shown}
use Rattle.hub_steps.specs.ShownText.{shown_line}
use Rattle.hub_steps.specs.Lives.{AllLives}
use Rattle.hub_steps.specs.Unfolding.{lives_after}
use Rattle.hub_steps.specs.Performed.{Performs, PerformsAt}
use Rattle.hub_steps.specs.StepText.{Runs, IsStepText}
use Rattle.hub_steps.specs.UnderWay.{AreRun, AreLinesTold}
use Rattle.hub_engine.specs.OutOfMemory.{out_of_memory}
use Rattle.hub_engine.specs.Engine.{Says, Writes}
use Rattle.hub_steps.specs.Output.{IsCutShort, IsRunOutput}
use Rattle.hub_core.proofs.Headlines.{shows_in_order}
use Rattle.hub_steps.proofs.Computing.{legal_append}
use Rattle.hub_engine.proofs.Bytes.{appends_more, appends_kept, begins_after, begins_kept, begins_longer}

runs_more : (past : History) (lives : AllLives) (lines : List StepLine) (text : List ℕ) (h : History) (last : AllLives) (line : StepLine) (more : History) (shown : Shown) → Runs past lives lines text h last → Performs h last line more shown
    → Runs past lives (lines ++ line ∷ []) (text ++ shown_line shown) (h ++ more) (lives_after line.command shown last)
runs_more past lives [] text h last line more shown r p =
    (more, shown, [], subst (λ l. Performs past l line more shown) r.2 (subst (λ k. Performs k last line more shown) r.1 p), ap (λ t. t ++ shown_line shown) r.0 ∙ sym (append-nil (shown_line shown)), (refl, ap (λ k. k ++ more) r.1, ap (lives_after line.command shown) r.2))
runs_more past lives (l ∷ lines) text h last line more shown r p =
    (r.0, r.1, r.2 ++ shown_line shown, r.3, ap (λ t. t ++ shown_line shown) r.4 ∙ append_assoc (shown_line r.1) r.2 (shown_line shown), runs_more (past ++ r.0) (lives_after l.command r.1 lives) lines r.2 h last line more shown r.5 p)

-- what was run is a step text
pub is_text : {core : Core} {lives : AllLives} {text : List ℕ} {lines : List StepLine} → (r : AreRun core lives text lines) → IsStepText lines text
is_text {core = core} {lives = lives} r = record { history = r.history; lives = lives; runs = r.runs; legal = r.legal; in_order = shows_in_order core r.history r.shows }

told_as : {old now : Option (List ℕ)} {core : Core} {lives : AllLives} {kept : List ℕ} {lines : List StepLine} → (a : AreLinesTold old now core lives kept lines) → a.sent ++ kept ≡ a.sent → IsStepText lines a.sent
told_as {lines = lines} a text = subst (IsStepText lines) text (is_text a.run)

pub starts : (core : Core) (lives : AllLives) (kept : List ℕ) → kept ≡ [] → lives ≡ [] → Shows core [] → AreRun core lives kept []
starts core lives kept none unborn shows = record { history = []; runs = (none, refl, unborn); legal = tt; shows = shows }

-- one more line was run
pub runs_on : (core next : Core) (lives later : AllLives) (text longer : List ℕ) (lines : List StepLine) (line : StepLine) (shown : Shown) → AreRun core lives text lines → PerformsAt core next lives line shown → later ≡ lives_after line.command shown lives
    → longer ≡ text ++ shown_line shown → AreRun next later longer (lines ++ line ∷ [])
runs_on core next lives later text longer lines line shown r performs lived e =
    let x = performs r.history r.shows in
    record {
      history = r.history ++ x.0;
      runs = subst (λ l. Runs [] [] (lines ++ line ∷ []) longer (r.history ++ x.0) l) (sym lived)
          (subst (λ t. Runs [] [] (lines ++ line ∷ []) t (r.history ++ x.0) (lives_after line.command shown lives)) (sym e) (runs_more [] [] lines text r.history lives line x.0 shown r.runs x.1));
      legal = legal_append [] r.history x.0 r.legal x.1.legal;
      shows = x.2;
    }

pub answers : (old now : Option (List ℕ)) (core next : Core) (lives later : AllLives) (kept longer : List ℕ) (lines : List StepLine) (line : StepLine) (shown : Shown) → AreLinesTold old now core lives kept lines → PerformsAt core next lives line shown → later ≡ lives_after line.command shown lives
    → longer ≡ kept ++ shown_line shown → AreLinesTold old now next later longer (lines ++ line ∷ [])
answers old now core next lives later kept longer lines line shown a performs lived e =
    let text : a.sent ++ longer ≡ (a.sent ++ kept) ++ shown_line shown = ap (λ t. a.sent ++ t) e ∙ sym (append_assoc a.sent kept (shown_line shown)) in
    record { sent = a.sent; run = runs_on core next lives later (a.sent ++ kept) (a.sent ++ longer) lines line shown a.run performs lived text; out = a.out }

pub sends : (old now next : Option (List ℕ)) (core : Core) (lives : AllLives) (kept none : List ℕ) (lines : List StepLine) → AreLinesTold old now core lives kept lines → Appends now next kept → none ≡ [] → AreLinesTold old next core lives none lines
sends old now next core lives kept none lines a out e =
    let text : a.sent ++ kept ≡ (a.sent ++ kept) ++ none = sym (append-nil (a.sent ++ kept)) ∙ ap (λ t. (a.sent ++ kept) ++ t) (sym e) in
    record { sent = a.sent ++ kept; run = subst (λ t. AreRun core lives t lines) text a.run; out = appends_more old now next a.sent kept a.out out }

pub ends : (old now next : Option (List ℕ)) (core : Core) (lives : AllLives) (kept : List ℕ) (lines : List StepLine) → AreLinesTold old now core lives kept lines → kept ≡ [] → Keeps now next → (text : List ℕ) × IsStepText lines text × Appends old next text
ends old now next core lives kept lines a e keeps =
    let text : a.sent ++ kept ≡ a.sent = ap (λ t. a.sent ++ t) e ∙ append-nil a.sent in
    (a.sent, told_as a text, appends_kept old now next a.sent a.out keeps)

-- the text of the first lines, and out of memory
pub cut_short : (old now : Option (List ℕ)) (core : Core) (lives : AllLives) (kept : List ℕ) (front back lines : List StepLine) → AreLinesTold old now core lives kept front → lines ≡ front ++ back
    → (said : List ℕ) × IsCutShort lines (said ++ out_of_memory) × (now_sent : List ℕ) × (said ≡ now_sent ++ kept) × Appends old now now_sent
cut_short old now core lives kept front back lines a e = (a.sent ++ kept, (front, back, a.sent ++ kept, e, is_text a.run, refl), a.sent, refl, a.out)

pub cut_begun : (old now next : Option (List ℕ)) (core : Core) (lives : AllLives) (kept : List ℕ) (front back lines : List StepLine) → AreLinesTold old now core lives kept front → lines ≡ front ++ back → AppendsBeginning now next kept
    → (text : List ℕ) × IsCutShort lines text × AppendsBeginning old next text
cut_begun old now next core lives kept front back lines a e b =
    ((a.sent ++ kept) ++ out_of_memory, (front, back, a.sent ++ kept, e, is_text a.run, refl), begins_longer old next (a.sent ++ kept) out_of_memory (begins_after old now next a.sent kept a.out b))

pub cut_ended : (old now next : Option (List ℕ)) (core : Core) (lives : AllLives) (kept : List ℕ) (front back lines : List StepLine) → AreLinesTold old now core lives kept front → lines ≡ front ++ back → kept ≡ [] → Appends now next out_of_memory
    → (text : List ℕ) × IsCutShort lines text × Appends old next text
cut_ended old now next core lives kept front back lines a e none b =
    let text : a.sent ++ kept ≡ a.sent = ap (λ t. a.sent ++ t) none ∙ append-nil a.sent in
    (a.sent ++ out_of_memory, (front, back, a.sent, e, told_as a text, refl), appends_more old now next a.sent out_of_memory a.out b)

pub cut_ending : (old now next : Option (List ℕ)) (core : Core) (lives : AllLives) (kept : List ℕ) (front back lines : List StepLine) → AreLinesTold old now core lives kept front → lines ≡ front ++ back → kept ≡ [] → AppendsBeginning now next out_of_memory
    → (text : List ℕ) × IsCutShort lines text × AppendsBeginning old next text
cut_ending old now next core lives kept front back lines a e none b =
    let text : a.sent ++ kept ≡ a.sent = ap (λ t. a.sent ++ t) none ∙ append-nil a.sent in
    (a.sent ++ out_of_memory, (front, back, a.sent, e, told_as a text, refl), begins_after old now next a.sent out_of_memory a.out b)

pub cut_writes : (old now next : Option (List ℕ)) (core : Core) (lives : AllLives) (kept : List ℕ) (front back lines : List StepLine) (r : Result ExitStatus Device) → AreLinesTold old now core lives kept front → lines ≡ front ++ back → kept ≡ [] → Writes (Says exit.OutOfMemory out_of_memory) now next r
    → Writes (IsRunOutput lines) old next r
cut_writes old now next core lives kept front back lines (Ok s) a e none w =
    let t = cut_ended old now next core lives kept front back lines a e none (subst (Appends now next) w.1.1 w.2) in
    (t.0, subst (λ u. IsRunOutput lines u t.0) (sym w.1.0) t.1, t.2)
cut_writes old now next core lives kept front back lines (Err failed) a e none w =
    let t = cut_ending old now next core lives kept front back lines a e none (subst (AppendsBeginning now next) w.2.1 w.3) in
    (exit.OutOfMemory, t.0, t.1, t.2)

pub flush_failed : (old now next : Option (List ℕ)) (core : Core) (lives : AllLives) (kept : List ℕ) (front back lines : List StepLine) → AreLinesTold old now core lives kept front → lines ≡ front ++ back → kept ≡ [] → Keeps now next
    → (text : List ℕ) × IsCutShort lines text × AppendsBeginning old next text
flush_failed old now next core lives kept front back lines a e none keeps =
    let text : a.sent ++ kept ≡ a.sent = ap (λ t. a.sent ++ t) none ∙ append-nil a.sent in
    (a.sent ++ out_of_memory, (front, back, a.sent, e, told_as a text, refl), begins_kept old now next a.sent out_of_memory a.out keeps)

pub err_says : {T E : Type 0} (r : Result T E) (P : Type 0) (b : Bool) → b ≡ is_err r → b ≡ true → OnErr r P → P
err_says (Ok x) P b e f h = cc
err_says (Err x) P b e f h = h

pub ok_says : {T E : Type 0} (r : Result T E) (P : Type 0) (b : Bool) → b ≡ is_err r → b ≡ false → OnOk r P → P
ok_says (Ok x) P b e f h = h
ok_says (Err x) P b e f h = cc
