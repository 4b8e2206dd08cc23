-- What the table and its rule say of any events.
use Rattle.std.proofs.Common.{◌≡◌, ◌⊎◌, ℕ, ◌+◌, ◌-◌, ◌<◌, ◌≤◌, ◌||◌, Bool, true, false, true≢false, List, [], ◌∷◌, Result, Ok, Err, refl, sym, ap, ◌∙◌, subst, inl, inr, ⊎_elim, arith, if◌then◌else◌}
use Rattle.std.specs.Prelude.{nat_lt}
use Rattle.std.specs.Result.{result_unwrap_or}
use Rattle.std.proofs.lemmas.Bool.Decides.{nat_tests}
use Rattle.hub_life.specs.declared.life.State.{State}
use Rattle.hub_life.specs.declared.life.State.TheVariants.{Parsed, Installing, Installed, Activating, Activated, Redundant}
use Rattle.hub_life.specs.declared.life.Event.{Event}
use Rattle.hub_life.specs.declared.life.Event.TheVariants.{Install, Activate, Extend, Settle, Fail, Returned, Discard, Terminate}
use Rattle.hub_life.specs.declared.life.LifeError.{LifeError}
use Rattle.hub_life.specs.declared.life.LifeError.TheVariants.{WrongState, TooManyExtensions, NoExtension}
use Rattle.hub_envelope.specs.declared.limits.TheConstants.{MAX_EXTENSIONS}
use Rattle.hub_life.specs.Lifecycle.{Progress, Cell, wrong, to, plus, minus, done, handles, entered, start, cell_at, cell, at_cell, state_after, settled, is_failure}
use Rattle.hub_life.specs.Course.{after, after_all, stage_of, is_waiting, IsSound}

-- both values of a choice
either_way : {A : Type 0} (F : A → Type 0) (b : Bool) (x y : A) → (b ≡ true → F x) → (b ≡ false → F y) → F (if b then x else y)
either_way F true x y chosen other = chosen refl
either_way F false x y chosen other = other refl

-- what holds of each cell of a row holds at the column of any event
cell_at-keeps : (P : Cell → Type 0) (a b c d e f g : Cell) → P a → P b → P c → P d → P e → P f → P g → (event : Event) → P (cell_at a b c d e f g event)
cell_at-keeps P a b c d e f g pa pb pc pd pe pf pg Install = pa
cell_at-keeps P a b c d e f g pa pb pc pd pe pf pg Activate = pb
cell_at-keeps P a b c d e f g pa pb pc pd pe pf pg Extend = pc
cell_at-keeps P a b c d e f g pa pb pc pd pe pf pg Settle = pd
cell_at-keeps P a b c d e f g pa pb pc pd pe pf pg Fail = pd
cell_at-keeps P a b c d e f g pa pb pc pd pe pf pg Returned = pe
cell_at-keeps P a b c d e f g pa pb pc pd pe pf pg Discard = pf
cell_at-keeps P a b c d e f g pa pb pc pd pe pf pg Terminate = pg

-- a worker with one extension more, with one less, and with its handler returned
abbrev opened : Progress → Progress
opened p = record p { open_extensions = p.open_extensions + 1 }

abbrev closed : Progress → Bool → Progress
closed p fails = record p { open_extensions = p.open_extensions - 1; failed = p.failed || fails }

abbrev returned : Progress → Progress
returned p = record p { handling = false }

-- F holds wherever this cell leads
abbrev Leads : (Progress → Type 0) → Progress → Cell → Type 0
Leads F p wrong = F p
Leads F p (to state) = F (entered state)
Leads F p plus = p.open_extensions < MAX_EXTENSIONS → F (opened p)
Leads F p minus = (fails : Bool) → F (settled (closed p fails))
Leads F p done = F p × F (settled (returned p))

at_cell-leads : (F : Progress → Type 0) (c : Cell) (p : Progress) (event : Event) → F p → Leads F p c → F (result_unwrap_or (at_cell c p event) p)
at_cell-leads F wrong p event same there = same
at_cell-leads F (to state) p event same there = there
at_cell-leads F plus p event same there =
    either_way (λ (r : Result Progress LifeError). F (result_unwrap_or r p)) (nat_lt p.open_extensions MAX_EXTENSIONS) (Ok (opened p)) (Err TooManyExtensions) (λ room. there (less p.open_extensions MAX_EXTENSIONS room)) (λ _. same)
  where
    less : (a b : ℕ) → nat_lt a b ≡ true → a < b
    less a b e = grind (arith, nat_tests)
at_cell-leads F minus p event same there =
    either_way (λ (r : Result Progress LifeError). F (result_unwrap_or r p)) (nat_lt 0 p.open_extensions) (Ok (settled (closed p (is_failure event)))) (Err NoExtension) (λ _. there (is_failure event)) (λ _. same)
at_cell-leads F done p event same there =
    either_way (λ (r : Result Progress LifeError). F (result_unwrap_or r p)) p.handling (Ok (settled (returned p))) (Err WrongState) (λ _. there.1) (λ _. same)

settled-keeps : (F : Progress → Type 0) (p : Progress) → (is_waiting p ≡ true → F p) → F (entered (state_after p.state p.failed)) → F (settled p)
settled-keeps F p waiting over = either_way F (is_waiting p) p (entered (state_after p.state p.failed)) waiting (λ _. over)

-- where a worker waits, and for how much
entered-sound : (state : State) → IsSound (entered state)
entered-sound Parsed = record { waits = refl; limit = omega arith; over = λ _. refl }
entered-sound Installing = record { waits = refl; limit = omega arith; over = λ quiet. absurd (true≢false quiet) }
entered-sound Installed = record { waits = refl; limit = omega arith; over = λ _. refl }
entered-sound Activating = record { waits = refl; limit = omega arith; over = λ quiet. absurd (true≢false quiet) }
entered-sound Activated = record { waits = refl; limit = omega arith; over = λ _. refl }
entered-sound Redundant = record { waits = refl; limit = omega arith; over = λ _. refl }

waiting-sound : (p : Progress) → handles p.state ≡ true → p.open_extensions ≤ MAX_EXTENSIONS → is_waiting p ≡ true → IsSound p
waiting-sound p busy limit waiting = record { waits = waiting ∙ sym busy; limit = limit; over = λ quiet. absurd (true≢false (sym busy ∙ quiet)) }

settled-sound : (p : Progress) → handles p.state ≡ true → p.open_extensions ≤ MAX_EXTENSIONS → IsSound (settled p)
settled-sound p busy limit = settled-keeps IsSound p (waiting-sound p busy limit) (entered-sound (state_after p.state p.failed))

or_true : (a b : Bool) → b ≡ true → (a || b) ≡ true
or_true true b e = refl
or_true false b e = e

opened-waits : (n : ℕ) → nat_lt 0 (n + 1) ≡ true
opened-waits n = grind (arith, nat_tests)

sound_in : (state : State) (p : Progress) (event : Event) → p.state ≡ state → IsSound p → IsSound (result_unwrap_or (at_cell (cell state event) p event) p)
sound_in state p event is sound = at_cell-leads IsSound (cell state event) p event sound (there state is event)
  where
    limit : p.open_extensions ≤ MAX_EXTENSIONS
    limit = sound.limit

    opens : handles p.state ≡ true → p.open_extensions < MAX_EXTENSIONS → IsSound (opened p)
    opens busy room = waiting-sound (opened p) busy (omega arith) (or_true p.handling _ (opened-waits p.open_extensions))

    closes : handles p.state ≡ true → (fails : Bool) → IsSound (settled (closed p fails))
    closes busy fails = settled-sound (closed p fails) busy (omega (arith, limit))

    returns : handles p.state ≡ true → IsSound p × IsSound (settled (returned p))
    returns busy = (sound, settled-sound (returned p) busy limit)

    there : (s : State) → p.state ≡ s → (e : Event) → Leads IsSound p (cell s e)
    there Parsed at e = cell_at-keeps (Leads IsSound p) _ _ _ _ _ _ _ (entered-sound Installing) sound sound sound sound sound (entered-sound Parsed) e
    there Installing at e = cell_at-keeps (Leads IsSound p) _ _ _ _ _ _ _ sound sound (opens (ap handles at)) (closes (ap handles at)) (returns (ap handles at)) sound (entered-sound Redundant) e
    there Installed at e = cell_at-keeps (Leads IsSound p) _ _ _ _ _ _ _ sound (entered-sound Activating) sound sound sound (entered-sound Redundant) (entered-sound Installed) e
    there Activating at e = cell_at-keeps (Leads IsSound p) _ _ _ _ _ _ _ sound sound (opens (ap handles at)) (closes (ap handles at)) (returns (ap handles at)) sound (entered-sound Activated) e
    there Activated at e = cell_at-keeps (Leads IsSound p) _ _ _ _ _ _ _ sound sound sound sound sound (entered-sound Redundant) (entered-sound Activated) e
    there Redundant at e = cell_at-keeps (Leads IsSound p) _ _ _ _ _ _ _ sound sound sound sound sound sound (entered-sound Redundant) e

sound_from : (p : Progress) (events : List Event) → IsSound p → IsSound (after_all p events)
sound_from p [] sound = sound
sound_from p (event ∷ events) sound = sound_from (after p event) events (sound_in p.state p event refl sound)

pub sound : (events : List Event) → IsSound (after_all start events)
sound events = sound_from start events (entered-sound Parsed)

-- no event leads back
state_after-forward : (state : State) (failed : Bool) → stage_of state ≤ stage_of (state_after state failed)
state_after-forward Parsed failed = omega arith
state_after-forward Installing failed = either_way (λ (s : State). 1 ≤ stage_of s) failed Redundant Installed (λ _. omega arith) (λ _. omega arith)
state_after-forward Installed failed = omega arith
state_after-forward Activating failed = omega arith
state_after-forward Activated failed = omega arith
state_after-forward Redundant failed = omega arith

abbrev IsAhead : State → Progress → Type 0
IsAhead state q = stage_of state ≤ stage_of q.state

pub forward : (p : Progress) (event : Event) → stage_of p.state ≤ stage_of (after p event).state
forward p event = at_cell-leads (IsAhead p.state) (cell p.state event) p event (omega arith) (there p.state refl event)
  where
    stays : stage_of p.state ≤ stage_of p.state
    stays = omega arith

    settles : (q : Progress) → q.state ≡ p.state → stage_of p.state ≤ stage_of (settled q).state
    settles q same = settled-keeps (IsAhead p.state) q (λ _. subst (λ (s : State). stage_of p.state ≤ stage_of s) (sym same) stays) (subst (λ (s : State). stage_of s ≤ stage_of (state_after q.state q.failed)) same (state_after-forward q.state q.failed))

    ahead : (s t : State) → p.state ≡ s → stage_of s ≤ stage_of t → stage_of p.state ≤ stage_of t
    ahead s t at h = subst (λ (u : State). stage_of u ≤ stage_of t) (sym at) h

    there : (s : State) → p.state ≡ s → (e : Event) → Leads (IsAhead p.state) p (cell s e)
    there Parsed at e = cell_at-keeps (Leads (IsAhead p.state) p) _ _ _ _ _ _ _ (ahead Parsed Installing at (omega arith)) stays stays stays stays stays (ahead Parsed Parsed at (omega arith)) e
    there Installing at e = cell_at-keeps (Leads (IsAhead p.state) p) _ _ _ _ _ _ _ stays stays (λ _. stays) (λ fails. settles (closed p fails) refl) (stays, settles (returned p) refl) stays (ahead Installing Redundant at (omega arith)) e
    there Installed at e = cell_at-keeps (Leads (IsAhead p.state) p) _ _ _ _ _ _ _ stays (ahead Installed Activating at (omega arith)) stays stays stays (ahead Installed Redundant at (omega arith)) (ahead Installed Installed at (omega arith)) e
    there Activating at e = cell_at-keeps (Leads (IsAhead p.state) p) _ _ _ _ _ _ _ stays stays (λ _. stays) (λ fails. settles (closed p fails) refl) (stays, settles (returned p) refl) stays (ahead Activating Activated at (omega arith)) e
    there Activated at e = cell_at-keeps (Leads (IsAhead p.state) p) _ _ _ _ _ _ _ stays stays stays stays stays (ahead Activated Redundant at (omega arith)) (ahead Activated Activated at (omega arith)) e
    there Redundant at e = cell_at-keeps (Leads (IsAhead p.state) p) _ _ _ _ _ _ _ stays stays stays stays stays stays (ahead Redundant Redundant at (omega arith)) e

-- a failed install
abbrev HasFailed : Progress → Type 0
HasFailed q = ((q.state ≡ Installing) × (q.failed ≡ true)) ⊎ (q.state ≡ Redundant)

or_left : (a b : Bool) → a ≡ true → (a || b) ≡ true
or_left a b e = ap (λ (c : Bool). c || b) e

settled-failed : (q : Progress) → q.state ≡ Installing → q.failed ≡ true → HasFailed (settled q)
settled-failed q at failed = settled-keeps HasFailed q (λ _. inl (at, failed)) (inr (ap (λ (s : State). state_after s q.failed) at ∙ ap (state_after Installing) failed))

failed_after : (p : Progress) (event : Event) → HasFailed p → HasFailed (after p event)
failed_after p event (inl h) =
    subst (λ (s : State). HasFailed (result_unwrap_or (at_cell (cell s event) p event) p)) (sym h.0)
    (at_cell-leads HasFailed (cell Installing event) p event (inl h)
    (cell_at-keeps (Leads HasFailed p) _ _ _ _ _ _ _ (inl h) (inl h) (λ _. inl h) (λ fails. settled-failed (closed p fails) h.0 (or_left p.failed fails h.1)) (inl h, settled-failed (returned p) h.0 h.1) (inl h) (inr refl) event))
failed_after p event (inr h) =
    subst (λ (s : State). HasFailed (result_unwrap_or (at_cell (cell s event) p event) p)) (sym h)
    (at_cell-leads HasFailed (cell Redundant event) p event (inr h)
    (cell_at-keeps (Leads HasFailed p) _ _ _ _ _ _ _ (inr h) (inr h) (inr h) (inr h) (inr h) (inr h) (inr refl) event))

failed_from : (p : Progress) (events : List Event) → HasFailed p → HasFailed (after_all p events)
failed_from p [] h = h
failed_from p (event ∷ events) h = failed_from (after p event) events (failed_after p event h)

pub failed_install : (p : Progress) (events : List Event) → p.state ≡ Installing → p.failed ≡ true → ((after_all p events).state ≡ Installing) ⊎ ((after_all p events).state ≡ Redundant)
failed_install p events at failed = ⊎_elim (λ h. inl h.0) (λ h. inr h) (failed_from p events (inl (at, failed)))

-- an activation, come what may
abbrev IsOnItsWay : Progress → Type 0
IsOnItsWay q = (q.state ≡ Activating) ⊎ (q.state ≡ Activated)

settled-on_its_way : (q : Progress) → q.state ≡ Activating → IsOnItsWay (settled q)
settled-on_its_way q at = settled-keeps IsOnItsWay q (λ _. inl at) (inr (ap (λ (s : State). state_after s q.failed) at))

pub activation : (p : Progress) (event : Event) → p.state ≡ Activating → IsOnItsWay (after p event)
activation p event at =
    subst (λ (s : State). IsOnItsWay (result_unwrap_or (at_cell (cell s event) p event) p)) (sym at)
    (at_cell-leads IsOnItsWay (cell Activating event) p event (inl at)
    (cell_at-keeps (Leads IsOnItsWay p) _ _ _ _ _ _ _ (inl at) (inl at) (λ _. inl at) (λ fails. settled-on_its_way (closed p fails) at) (inl at, settled-on_its_way (returned p) at) (inl at) (inr refl) event))
