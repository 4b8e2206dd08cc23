-- What looks one after another come to.
use Rattle.std.proofs.Common.{ℕ, List, [], ◌∷◌, ◌++◌, ◌≡◌, ◌∙◌, ◌==◌, ◌||◌, sym, refl, ap, false, not}
use Rattle.std.proofs.Math.Bool.{or_assoc, or-false}
use Rattle.std.proofs.lemmas.List.{append_assoc, append-nil}
use Rattle.hub_bell.specs.declared.board.BoardStep.TheVariants.{Looked}
use Rattle.hub_bell.specs.Ready.{names_word}
use Rattle.hub_bell.specs.Seats.{Done, BoardSeat}
use Rattle.hub_bell.specs.Listening.{looking, looked, some_found}

looking-append : (looks more : List ℕ) → looking (looks ++ more) ≡ looking looks ++ looking more
unfolding looking
looking-append [] more = refl
looking-append (found ∷ looks) more = ap (λ steps. Looked names_word found ∷ steps) (looking-append looks more)

some_found-append : (looks more : List ℕ) → some_found (looks ++ more) ≡ (some_found looks || some_found more)
unfolding some_found
some_found-append [] more = refl
some_found-append (found ∷ looks) more = ap (λ b. not (found == 0) || b) (some_found-append looks more) ∙ sym (or_assoc (not (found == 0)) (some_found looks) (some_found more))

pub none_found : some_found [] ≡ false
unfolding some_found
none_found = refl

pub looked_none : (done : Done) → looked done [] ≡ done
unfolding looking
looked_none done = ap (λ steps. record done { steps = steps }) (append-nil done.steps)

-- one more look, after looks that found nothing
pub one_more_found : (looks : List ℕ) (found : ℕ) → some_found looks ≡ false → some_found (looks ++ found ∷ []) ≡ not (found == 0)
unfolding some_found
one_more_found looks found none = some_found-append looks (found ∷ []) ∙ ap (λ b. b || some_found (found ∷ [])) none ∙ or-false (not (found == 0))

looked_more : (done : Done) (looks : List ℕ) (found : ℕ) → record (looked done looks) { steps = (looked done looks).steps ++ Looked names_word found ∷ [] } ≡ looked done (looks ++ found ∷ [])
unfolding looking
looked_more done looks found = ap (λ steps. record done { steps = steps }) (append_assoc done.steps (looking looks) (Looked names_word found ∷ []) ∙ ap (λ more. done.steps ++ more) (sym (looking-append looks (found ∷ []))))

pub one_more_look : (start before after : BoardSeat) (looks : List ℕ) (found : ℕ)
    → before ≡ record start { at = looked start.at looks }
    → after ≡ record before { at = record before.at { steps = before.at.steps ++ Looked names_word found ∷ [] } }
    → after ≡ record start { at = looked start.at (looks ++ found ∷ []) }
one_more_look start before after looks found was looks_more =
    looks_more
    ∙ ap {A = BoardSeat} (λ seat. record seat { at = record seat.at { steps = seat.at.steps ++ Looked names_word found ∷ [] } }) was
    ∙ ap {A = Done} (λ at. record start { at = at }) (looked_more start.at looks found)
