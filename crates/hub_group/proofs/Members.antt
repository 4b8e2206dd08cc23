-- The members of a group, asked one after the other, and one that leaves.
use Rattle.std.proofs.Common.{◌≡◌, ◌≢◌, ◌∙◌, ◌<◌, ◌≤◌, ◌+◌, ◌==◌, sym, ap, subst, refl, ℕ, Option, Some, List, ◌∷◌, ◌++◌, length, length-set, position, remove, add-one, set, get_or, take, drop, slice_get, arith}
use Rattle.std.proofs.lemmas.List.{drop_more, take-append-drop}
use Rattle.std.proofs.lemmas.List.Quantifiers.{position-Some}
use Rattle.std.proofs.lemmas.Bool.{eqb-true}
use Rattle.std.proofs.lemmas.Option.{slice_get-get_or}
use Rattle.hub_fan.proofs.Written.{each_written, written_beside, written_here}
use Rattle.hub_group.specs.declared.member.CastAnswer.{CastAnswer}
use Rattle.hub_group.specs.declared.member.GroupMember.{GroupMember}
use Rattle.hub_group.specs.Casts.{Casts, CastsAt, CastsAtEach, Leaves}

module _ {M : Type 0} (message : M) (source : ℕ) where
  -- it was cast at the first members, and the others are as they were
  abbrev pub CastsBelow : ℕ → List (GroupMember M) → List (GroupMember M) → List CastAnswer → List CastAnswer → Type 0
  CastsBelow k old now before answers = (length now ≡ length old)
      × ((j : ℕ) → j < length old → (j < k → CastsAt message source (slice_get old j) (slice_get now j) (slice_get answers j)) × (k ≤ j → slice_get now j ≡ slice_get old j))
      × ((j : ℕ) → k ≤ j → slice_get answers j ≡ slice_get before j)

  pub casts_none : (members : List (GroupMember M)) (answers : List CastAnswer) → CastsBelow 0 members members answers answers
  casts_none members answers = (refl, (λ j low. ((λ none. absurd (omega (arith, none))), (λ more. refl))), (λ j more. refl))

  pub casts_more : (k : ℕ) (old now : List (GroupMember M)) (before answers : List CastAnswer) (m n : GroupMember M) (a : CastAnswer)
      → k < length now → k < length answers → Casts message source (get_or now k m) n a → CastsBelow k old now before answers → CastsBelow (k + 1) old (set now k n) before (set answers k a)
  casts_more k old now before answers m n a low room cast done =
      let same : Some (get_or now k m) ≡ slice_get old k = sym (slice_get-get_or now k m low) ∙ (done.1 k (subst (λ l. k < l) done.0 low)).1 (omega arith) in (
        length-set now k n ∙ done.0,
        each_written (λ j o. j < length old → (j < k + 1 → CastsAt message source (slice_get old j) o (slice_get (set answers k a) j)) × (k + 1 ≤ j → o ≡ slice_get old j)) now k n low
            (λ within. (
              (λ less. subst (λ b. CastsAt message source (slice_get old k) (Some n) b) (sym (written_here answers k a room))
                  (subst (λ o. CastsAt message source o (Some n) (Some a)) same cast)),
              (λ more. absurd (omega (arith, more))),
            ))
            (λ j other within. (
              (λ less. subst (λ b. CastsAt message source (slice_get old j) (slice_get now j) b) (sym (written_beside answers k j a other)) ((done.1 j within).0 (omega (arith, less, other)))),
              (λ more. (done.1 j within).1 (omega (arith, more))),
            )),
        (λ j more. written_beside answers k j a (λ e. absurd (omega (arith, more, e))) ∙ done.2 j (omega (arith, more))),
      )

module _ {M : Type 0} where
  -- the member of this number is gone
  pub leaves : (number place : ℕ) (old new : List (GroupMember M)) (m : GroupMember M)
      → position (λ x. x.number == number) old ≡ Some place → m ≡ get_or old place m → new ≡ remove old place → Leaves number old new
  leaves number place old new m found read gone =
      let at = position-Some (λ x. x.number == number) old place m found in (
        take place old,
        m,
        drop (place + 1) old,
        ap (λ x. x.number) read ∙ eqb-true _ _ at.1,
        sym (take-append-drop place old) ∙ ap (λ xs. take place old ++ xs) (drop_more old place m at.0 ∙ ap (λ x. x ∷ drop (place + 1) old) (sym read)),
        gone ∙ ap (λ n. take place old ++ drop n old) (sym (add-one place)),
      )
