-- The places of a fan, changed one after the other.
use Rattle.std.proofs.Common.{◌≡◌, ◌≢◌, ◌∙◌, ◌<◌, ◌≤◌, ◌+◌, sym, subst, refl, ℕ, Option, Some, None, List, length, length-set, set, get_or, slice_get, IfSome, arith, ⊎_elim}
use Rattle.std.proofs.lemmas.Bool.{cases_lt}
use Rattle.std.proofs.lemmas.Option.{slice_get-get_or}
use Rattle.hub_fan.specs.Places.{GivesNone, Keeps, Place, StaysEnded, StillWaits}
use Rattle.hub_fan.specs.Fans.{AtOne, AtPlace, EachPlace, Places}
use Rattle.hub_fan.proofs.Written.{each_written, written_here, written_beside}

module _ {M : Type 0} where
  -- this holds of the first places, and the others are as they were
  abbrev pub DoneBelow : (Place M → Place M → Type 0) → ℕ → Places M → Places M → Type 0
  DoneBelow R k old now = (length now ≡ length old) × ((j : ℕ) → j < length old → (j < k → AtPlace R (slice_get old j) (slice_get now j)) × (k ≤ j → slice_get now j ≡ slice_get old j))

  pub done_none : (R : Place M → Place M → Type 0) (xs : Places M) → DoneBelow R 0 xs xs
  done_none R xs = (refl, λ j low. ((λ none. absurd (omega (arith, none))), (λ more. refl)))

  same_there : (R : Place M → Place M → Type 0) (k : ℕ) (old now : Places M) (x : Place M) → k < length now → DoneBelow R k old now → Some (get_or now k x) ≡ slice_get old k
  same_there R k old now x low done = sym (slice_get-get_or now k x low) ∙ (done.1 k (subst (λ n. k < n) done.0 low)).1 (omega arith)

  pub done_more : (R : Place M → Place M → Type 0) (k : ℕ) (old now : Places M) (x y : Place M) → k < length now → R (get_or now k x) y → DoneBelow R k old now → DoneBelow R (k + 1) old (set now k y)
  done_more R k old now x y low holds done = (
    length-set now k y ∙ done.0,
    each_written (λ j n. j < length old → (j < k + 1 → AtPlace R (slice_get old j) n) × (k + 1 ≤ j → n ≡ slice_get old j)) now k y low
        (λ within. ((λ less. subst (λ o. AtPlace R o (Some y)) (same_there R k old now x low done) holds), (λ more. absurd (omega (arith, more)))))
        (λ j other within. ((λ less. (done.1 j within).0 (omega (arith, less, other))), (λ more. (done.1 j within).1 (omega (arith, more))))),
  )

  pub done_all : (R : Place M → Place M → Type 0) (k : ℕ) (old now : Places M) → length now ≤ k → DoneBelow R k old now → EachPlace R old now
  done_all R k old now all done = let len = done.0 in (done.0, λ j within. (done.1 j within).0 (omega (arith, all, within, len)))

  keeps_same : (o : Option (Place M)) → AtPlace Keeps o o
  keeps_same None = tt
  keeps_same (Some None) = tt
  keeps_same (Some (Some t)) = (((refl, refl, refl, refl), refl), refl)

  pub none_keeps : (o n : Place M) → GivesNone o n → Keeps o n
  none_keeps (Some t) (Some u) h = (h.0, h.1)
  none_keeps None None h = tt
  none_keeps (Some t) None h = absurd h
  none_keeps None (Some u) h = absurd h

  pub ended_keeps : (o n : Place M) → StaysEnded o n → Keeps o n
  ended_keeps (Some t) (Some u) h = (h.0, h.1)
  ended_keeps None None h = tt
  ended_keeps (Some t) None h = absurd h
  ended_keeps None (Some u) h = absurd h

  pub waits_keeps : (o n : Place M) → StillWaits o n → Keeps o n
  waits_keeps (Some t) (Some u) h = (h.0, h.1)
  waits_keeps None None h = absurd h
  waits_keeps (Some t) None h = absurd h
  waits_keeps None (Some u) h = absurd h

  at_place_more : (R S : Place M → Place M → Type 0) → ((o n : Place M) → R o n → S o n) → (o n : Option (Place M)) → AtPlace R o n → AtPlace S o n
  at_place_more R S more (Some o) (Some n) h = more o n h
  at_place_more R S more None None h = tt
  at_place_more R S more (Some o) None h = absurd h
  at_place_more R S more None (Some n) h = absurd h

  pub done_weaker : (R S : Place M → Place M → Type 0) → ((o n : Place M) → R o n → S o n) → (k : ℕ) (old now : Places M) → DoneBelow R k old now → DoneBelow S k old now
  done_weaker R S more k old now done = (done.0, λ j within. ((λ less. at_place_more R S more _ _ ((done.1 j within).0 less)), (done.1 j within).1))

  kept_at : (k : ℕ) (old now : Places M) → DoneBelow Keeps k old now → (j : ℕ) → j < length old → AtPlace Keeps (slice_get old j) (slice_get now j)
  kept_at k old now done j within = ⊎_elim (λ less. (done.1 j within).0 less) (λ most. subst (λ n. AtPlace Keeps (slice_get old j) n) (sym ((done.1 j within).1 most)) (keeps_same (slice_get old j))) (cases_lt j k)

  pub kept : (k : ℕ) (old now : Places M) → DoneBelow Keeps k old now → EachPlace Keeps old now
  kept k old now done = (done.0, kept_at k old now done)

  -- one place was changed behind those
  pub done_one : (R : Place M → Place M → Type 0) (k : ℕ) (old now : Places M) (x y : Place M) → k < length now → R (get_or now k x) y → DoneBelow Keeps k old now
      → (length (set now k y) ≡ length old) × AtOne R (slice_get old k) (slice_get (set now k y) k) × ((j : ℕ) → j < length old → j ≢ k → AtPlace Keeps (slice_get old j) (slice_get (set now k y) j))
  done_one R k old now x y low holds done = (
    length-set now k y ∙ done.0,
    subst (λ n. AtOne R (slice_get old k) n) (sym (written_here now k y low)) (subst (λ o. AtOne R o (Some y)) (same_there Keeps k old now x low done) holds),
    (λ j within other. subst (λ n. AtPlace Keeps (slice_get old j) n) (sym (written_beside now k j y other)) (kept_at k old now done j within)),
  )

  -- a place that was found to wait does so as one more is changed
  pub waits_more : (k : ℕ) (old now : Places M) (y : Place M) (o : Option ℕ) → IfSome o (λ i. (i < k) × AtOne StillWaits (slice_get old i) (slice_get now i)) → IfSome o (λ i. (i < k + 1) × AtOne StillWaits (slice_get old i) (slice_get (set now k y) i))
  waits_more k old now y None h = tt
  waits_more k old now y (Some i) h = let less = h.0 in (omega (arith, less), subst (λ n. AtOne StillWaits (slice_get old i) n) (sym (written_beside now k i y (omega (arith, less)))) h.1)

pub some_none : (x : ℕ) → Some x ≡ None → ⊥
some_none x e = cc
