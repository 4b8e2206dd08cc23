-- A step of the core from one value to another, and the clauses of `Core::step` that follow.
use Rattle.std.proofs.Common.{◌<◌, length, sym, ap, subst, ◌∙◌, ◌≡◌, Some, Result, Ok, Err, refl, IfOk, MatchResult, ℕ, Bool, true, List, [], ◌∷◌, ◌++◌, None, inl, inr}
use Rattle.hub_core.proofs.Words.{slice_get, Core, Member, facts, ShowsFacts, StillShows, SameContent, AgentId, Client, Worker, CoreState, core_after, queue_core, Outcome, OnErr, false≢true, EndId, member_made, is_seated, unwrap_or, has_end, MemberLeaves, PartLeaves, seen, Step, Action, Facts, Answers, Fits, History, InOrder, takes_memory, Shows, ShowsRoster, FitsAndShows, changes_nothing}
use Rattle.hub_core.specs.Legal.{member_answer, part_answer}
use Rattle.hub_core.proofs.Sounds.{sound_legal}
use Rattle.hub_core.proofs.Speakers.{kind_made}
use Rattle.hub_core.specs.declared.step.Action.TheVariants as action
use Rattle.hub_core.specs.declared.step.Outcome.TheVariants as outcome
use Rattle.hub_core.proofs.Seeing.{Sees, SoundlyShows, seen_is}
use Rattle.hub_core.proofs.Casts.{part_answered, part_shown, same_members, leaves_roster, roster_member, roster_part, shows_still, stays}
use Rattle.hub_core.proofs.EndSteps.{member_shown}
use Rattle.hub_core.proofs.Frames.{ShownAfter, ShownWith, Stepped}
use Rattle.hub_core.proofs.Nexts.{next, facts_next, Change, effect, nothing_changes}
use Rattle.hub_core.proofs.Headlines.{shows_in_order}
use Rattle.hub_core.proofs.Sames.{legal_after_one}

-- ==== A core that didn't change still shows what it showed.

-- the same agents, ends and roster show the same
pub same_shown : (old new : Core) → SameContent old new → StillShows old new
same_shown old new same = λ h shows. (
  subst (λ es. ShowsFacts new.agents es (facts h)) (sym same.1) (subst (λ gs. ShowsFacts gs old.ends (facts h)) (sym same.0) shows.0),
  record {
    agents = ap length same.2.members.origins ∙ shows.1.agents;
    origins = λ a. shows.1.origins a ∙ ap (λ os. unwrap_or (slice_get os a) None) (sym same.2.members.origins);
    groups = λ x a is.
        let made : x < length old.ends = subst (λ n. x < n) shows.0.ends (kind_made (facts h) x (Member a) (sound_legal h shows.2).places is) in
        shows.1.groups x a is ∙ sym (same.2.members.groups x made);
    seated = λ k. same.2.members.seated k ∙ shows.1.seated k;
    each = shows.1.each;
    cast = shows.1.cast ∙ sym same.2.cast;
  },
  shows.2,
)

pub client_core : (a : AgentId) (c : CoreState) (o : Outcome) → queue_core a Client c o ≡ core_after c o (action.Client a)
client_core a c (outcome.Clear (Some k)) = refl
client_core a c _ = refl

pub worker_core : (a : AgentId) (c : CoreState) (o : Outcome) → queue_core a Worker c o ≡ core_after c o (action.Worker a)
worker_core a c (outcome.Clear (Some k)) = refl
worker_core a c _ = refl

-- After all that the old core shows the step got an answer that fits, and the new core shows what is so then; where
-- the answer says that nothing changed all is as before.
pub record Took (a : Action) (refused : Bool) (old new : CoreState) (o : Outcome) : Type 0 where
  pub shown : (f : Facts) → SoundlyShows old.agents old.ends f → ShowsRoster old.roster f → Stepped new.agents new.ends f a refused o × ShowsRoster new.roster (next f a o)
  pub same : changes_nothing o a ≡ true → SameContent old new

pub same_content : (old new : CoreState) → new ≡ old → SameContent old new
same_content old new same = (
  ap (λ (c : CoreState). c.agents) same,
  ap (λ (c : CoreState). c.ends) same,
  same_members (length old.ends) old.roster new.roster (ap (λ (c : CoreState). c.roster) same),
)

-- a step by what it was answered, and what it changed
pub took_where : (a : Action) (refused : Bool) (old new : CoreState) (o : Outcome) → new ≡ core_after old o a → ((f : Facts) → Sees old f → Answers f a refused o) → ((f : Facts) → Sees old f → Answers f a refused o → Change a o → ShownWith old f a refused o) → Took a refused old new o
took_where a refused old new o leaves fits changes = record {
  shown = λ f s w.
      let h : Sees old f = record { shows = s; roster = w } in
      let fit : Answers f a refused o = fits f h in
      subst (λ (c : CoreState). Stepped c.agents c.ends f a refused o × ShowsRoster c.roster (next f a o)) (sym leaves) (elim (effect o a) [
        | inl quiet ↦ subst (λ (c : CoreState). Stepped c.agents c.ends f a refused o × ShowsRoster c.roster (next f a o)) (sym (quiet.1 old)) (record { fits = fit; shows = subst (ShowsFacts old.agents old.ends) (sym (quiet.0 f)) s.shown }, subst (ShowsRoster old.roster) (sym (quiet.0 f)) w)
        | inr change ↦ changes f h fit change
      ]);
  same = λ nothing. same_content old new (leaves ∙ (nothing_changes o a nothing).1 old);
}

-- a step that leaves the roster
pub took_by : (a : Action) (refused : Bool) (old new : CoreState) (o : Outcome) → new ≡ core_after old o a → leaves_roster a ≡ true → ((f : Facts) → Sees old f → Answers f a refused o) → ((f : Facts) → Sees old f → Answers f a refused o → Change a o → ShownAfter old f a refused o) → Took a refused old new o
took_by a refused old new o leaves kept fits changes = took_where a refused old new o leaves fits (λ f h fit change.
    let after = changes f h fit change in
    (after.0, subst (λ r. ShowsRoster r (next f a o)) (sym after.1) (shows_still old.roster f (next f a o) h.roster (stays f a refused o h.shows.sound fit kept))))

-- a step that changed nothing
stayed : (a : Action) (refused : Bool) (old new : CoreState) (o : Outcome) → new ≡ record old { roster = new.roster } → new.roster ≡ old.roster → ((f : Facts) → next f a o ≡ f) → ((f : Facts) → Sees old f → Answers f a refused o) → Took a refused old new o
stayed a refused old new o leaves roster quiet fits =
    let same : new ≡ old = leaves ∙ ap (λ r. let c : CoreState = record old { roster = r } in c) roster in
    record {
      shown = λ f s w. subst (λ (c : CoreState). Stepped c.agents c.ends f a refused o × ShowsRoster c.roster (next f a o)) (sym same) (
        record { fits = fits f (record { shows = s; roster = w }); shows = subst (ShowsFacts old.agents old.ends) (sym (quiet f)) s.shown },
        subst (ShowsRoster old.roster) (sym (quiet f)) w,
      );
      same = λ nothing. same_content old new same;
    }

pub member_took : (a : AgentId) (name : List ℕ) (refused : Bool) (old new : CoreState) (o : Outcome) → o ≡ member_answer (seen old) a refused → MemberLeaves a.0 name old.roster o new.roster → new ≡ record old { ends = member_made a old.ends o; roster = new.roster } → Took (action.Member a name) refused old new o
member_took a name refused old new (outcome.End e) says leaves same = record {
  shown = λ f s w.
      let h : Sees old f = record { shows = s; roster = w } in
      let answer : outcome.End e ≡ member_answer f a refused = says ∙ ap (λ g. member_answer g a refused) (seen_is h) in
      (subst (λ (c : CoreState). Stepped c.agents c.ends f (action.Member a name) refused (outcome.End e)) (sym same) (member_shown old f a name refused e h answer), roster_member old.roster new.roster f a name refused e s.sound w answer leaves);
  same = λ nothing. absurd (false≢true nothing);
}
member_took a name refused old new (outcome.Clear None) says leaves same = stayed (action.Member a name) refused old new (outcome.Clear None) same leaves (λ f. refl) (λ f h. says ∙ ap (λ g. member_answer g a refused) (seen_is h))
member_took a name refused old new (outcome.Clear (Some k)) says leaves same = stayed (action.Member a name) refused old new (outcome.Clear (Some k)) same leaves (λ f. refl) (λ f h. says ∙ ap (λ g. member_answer g a refused) (seen_is h))
member_took a name refused old new o says leaves same = stayed (action.Member a name) refused old new o same leaves (λ f. refl) (λ f h. says ∙ ap (λ g. member_answer g a refused) (seen_is h))

pub part_took : (e : EndId) (refused : Bool) (old new : CoreState) (o : Outcome) → o ≡ part_answer (is_seated old.roster.members e.0) (seen old) → PartLeaves e.0 old.roster o new.roster → new ≡ record old { roster = new.roster } → Took (action.Part e) refused old new o
part_took e refused old new outcome.Done says leaves same = record {
  shown = λ f s w.
      let answer : outcome.Done ≡ part_answer (has_end e.0 f.roster.members) f = says ∙ part_answered e (record { shows = s; roster = w }) in
      (subst (λ (c : CoreState). Stepped c.agents c.ends f (action.Part e) refused outcome.Done) (sym same) (part_shown e refused s answer), roster_part old.roster new.roster f e w answer leaves);
  same = λ nothing. absurd (false≢true nothing);
}
part_took e refused old new (outcome.Clear None) says leaves same = stayed (action.Part e) refused old new (outcome.Clear None) same leaves (λ f. refl) (λ f h. says ∙ part_answered e h)
part_took e refused old new (outcome.Clear (Some k)) says leaves same = stayed (action.Part e) refused old new (outcome.Clear (Some k)) same leaves (λ f. refl) (λ f h. says ∙ part_answered e h)
part_took e refused old new o says leaves same = stayed (action.Part e) refused old new o same leaves (λ f. refl) (λ f h. says ∙ part_answered e h)

-- what a step that can't fail was answered
abbrev ok : Outcome → Result Outcome (Unit {0})
ok o = Ok o

fits_of : (step : Step) (a : Action) (old new : CoreState) (o : Outcome) → step.action ≡ a → Took a step.memory_refused old new o → FitsAndShows old new step o
fits_of step a old new o is t = λ h s.
    let at = t.shown (facts h) (record { shown = s.0; sound = sound_legal h s.2 }) s.1 in
    let longer : facts (h ++ (step, o) ∷ []) ≡ next (facts h) a o = facts_next h (step, o) ∙ ap (λ b. next (facts h) b o) is in
    let fits : Fits h (step, o) = subst (λ b. Answers (facts h) b step.memory_refused o) (sym is) at.0.fits in
    (fits, (subst (ShowsFacts new.agents new.ends) (sym longer) at.0.shows, subst (ShowsRoster new.roster) (sym longer) at.1, legal_after_one [] h (step, o) s.2 fits))

same_of : (step : Step) (a : Action) (old new : CoreState) (o : Outcome) → step.action ≡ a → Took a step.memory_refused old new o → changes_nothing o step.action ≡ true → SameContent old new
same_of step a old new o is t nothing = t.same (subst (λ b. changes_nothing o b ≡ true) is nothing)

-- an action did what a step has to do
abbrev pub Acted : {E : Type 0} → Step → CoreState → CoreState → Result Outcome E → Type 0
Acted step old new r = MatchResult r (λ o. FitsAndShows old new step o × (changes_nothing o step.action ≡ true → SameContent old new)) (λ _. SameContent old new × (takes_memory step.action ≡ true))

pub told : (step : Step) (a : Action) (old new : CoreState) (o : Outcome) → step.action ≡ a → Took a step.memory_refused old new o → Acted step old new (ok o)
told step a old new o is t = (fits_of step a old new o is t, same_of step a old new o is t)

-- the same of one that can fail for want of memory
pub told_or : {E Q : Type 0} {P : Outcome → Type 0} (step : Step) (a : Action) (old new : CoreState) (r : Result Outcome E) → step.action ≡ a → takes_memory a ≡ true → MatchResult r P (λ _. Q) → (Q → SameContent old new) → ((o : Outcome) → P o → Took a step.memory_refused old new o) → Acted step old new r
told_or step a old new (Ok o) is takes both same took = told step a old new o is (took o both)
told_or step a old new (Err e) is takes both same took = (same both, ap takes_memory is ∙ takes)

-- what each clause of a step then says
pub step_told : {E : Type 0} (step : Step) (old new : CoreState) (r : Result Outcome E) → Acted step old new r → record {
  fits : IfOk r (FitsAndShows old new step);
  unchanged : IfOk r (λ o. changes_nothing o step.action ≡ true → SameContent old new);
  err : OnErr r (SameContent old new);
  still : IfOk r (λ o. changes_nothing o step.action ≡ true → StillShows old new);
  err_still : OnErr r (StillShows old new);
  memory : OnErr r (takes_memory step.action ≡ true);
  in_order : (h : History) → Shows new h → InOrder h;
}
step_told step old new (Ok o) (fits, same) = record {
  fits = fits;
  unchanged = same;
  err = tt;
  still = λ nothing. same_shown old new (same nothing);
  err_still = tt;
  memory = tt;
  in_order = shows_in_order new;
}
step_told step old new (Err e) (same, takes) = record {
  fits = tt;
  unchanged = tt;
  err = same;
  still = tt;
  err_still = same_shown old new same;
  memory = takes;
  in_order = shows_in_order new;
}
