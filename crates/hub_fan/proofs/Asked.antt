-- The lines of a fan, asked one after the other.
use Rattle.std.proofs.Common.{◌≡◌, ◌≢◌, ◌∙◌, ◌<◌, ◌≤◌, ◌+◌, ◌*◌, sym, subst, refl, ℕ, Option, Some, List, length, length-set, set, get_or, slice_get, arith, ⊎_elim}
use Rattle.std.proofs.lemmas.Bool.{cases_lt}
use Rattle.std.proofs.lemmas.Option.{slice_get-get_or}
use Rattle.hub_fan.specs.Places.{Ends, Gives, GivesNone, Place}
use Rattle.hub_fan.specs.Fans.{AskedIf, AskedWhere, AtOne, AtPlace, IfFrom, OneAsked, Places, TookFrom}
use Rattle.hub_fan.specs.declared.fan.FanTaken.{FanTaken}
use Rattle.hub_fan.specs.declared.fan.FanTaken.TheVariants.{Message, Empty, Ended, Disabled}
use Rattle.hub_fan.proofs.Written.{each_written, written_here, written_beside}

module _ {M : Type 0} where
  -- nothing was asked yet
  pub asked_none : (P : ℕ → Type 0) (xs : Places M) → ((j : ℕ) → j < length xs → P j → ⊥) → AskedWhere P xs xs
  asked_none P xs none = (refl, λ j low. ((λ p. absurd (none j low p)), (λ no. refl)))

  -- the same, told in other words
  pub asked_same : (P Q : ℕ → Type 0) (old new : Places M) → ((j : ℕ) → j < length old → P j → Q j) → ((j : ℕ) → j < length old → Q j → P j) → AskedWhere P old new → AskedWhere Q old new
  asked_same P Q old new to from asked = (asked.0, λ j low. ((λ q. (asked.1 j low).0 (from j low q)), (λ no. (asked.1 j low).1 (λ p. no (to j low p)))))

  -- a place that wasn't asked is as it was
  as_it_was : (P : ℕ → Type 0) (old now : Places M) (i : ℕ) (x : Place M) → i < length now → (P i → ⊥) → AskedWhere P old now → Some (get_or now i x) ≡ slice_get old i
  as_it_was P old now i x low not asked = sym (slice_get-get_or now i x low) ∙ (asked.1 i (subst (λ n. i < n) asked.0 low)).1 not

  -- one more was asked, and gave nothing
  pub asked_more : (P Q : ℕ → Type 0) (old now : Places M) (i : ℕ) (x y : Place M) → i < length now → GivesNone (get_or now i x) y → (P i → ⊥) → Q i → ((j : ℕ) → j ≢ i → P j → Q j) → ((j : ℕ) → j ≢ i → Q j → P j)
      → AskedWhere P old now → AskedWhere Q old (set now i y)
  asked_more P Q old now i x y low none not here to from asked = (
    length-set now i y ∙ asked.0,
    each_written (λ j n. j < length old → AskedIf (Q j) (slice_get old j) n) now i y low
        (λ within. ((λ q. subst (λ o. AtPlace GivesNone o (Some y)) (as_it_was P old now i x low not asked) none), (λ no. absurd (no here))))
        (λ j other within. ((λ q. (asked.1 j within).0 (from j other q)), (λ no. (asked.1 j within).1 (λ p. no (to j other p))))),
  )

  -- one more was asked, of which this holds
  pub asked_one : (P : ℕ → Type 0) (R : Place M → Place M → Type 0) (old now : Places M) (i : ℕ) (x y : Place M) → i < length now → R (get_or now i x) y → (P i → ⊥) → AskedWhere P old now → OneAsked i R P old (set now i y)
  asked_one P R old now i x y low holds not asked = (
    length-set now i y ∙ asked.0,
    subst (λ n. AtOne R (slice_get old i) n) (sym (written_here now i y low)) (subst (λ o. AtOne R o (Some y)) (as_it_was P old now i x low not asked) holds),
    (λ j within other. subst (λ n. AskedIf (P j) (slice_get old j) n) (sym (written_beside now i j y other)) (asked.1 j within)),
  )

  module _ (P Q : Type 0) (o m n : Option (Place M)) (before : AskedIf P o m) (then : AskedIf Q m n) where
    asked_first : P → (Q → ⊥) → AtPlace GivesNone o n
    asked_first p not = subst (λ x. AtPlace GivesNone o x) (sym (then.1 not)) (before.0 p)

    asked_second : (P → ⊥) → Q → AtPlace GivesNone o n
    asked_second not q = subst (λ x. AtPlace GivesNone x n) (before.1 not) (then.0 q)

    asked_neither : (P → ⊥) → (Q → ⊥) → n ≡ o
    asked_neither not nor = then.1 nor ∙ before.1 not

  module _ (stage : ℕ → ℕ) (s : ℕ) (old now new : Places M) (before : AskedWhere (λ j. stage j < s) old now) where
    -- the places of one stage more were asked
    pub asked_stage : AskedWhere (λ j. stage j ≡ s) now new → AskedWhere (λ j. stage j < s + 1) old new
    asked_stage then = (
      then.0 ∙ before.0,
      λ j within.
          let b = before.1 j within in let t = then.1 j (subst (λ n. j < n) (sym before.0) within) in (
            (λ low. ⊎_elim
                (λ less. asked_first (stage j < s) (stage j ≡ s) _ _ _ b t less (λ e. absurd (omega (arith, less, e))))
                (λ most. asked_second (stage j < s) (stage j ≡ s) _ _ _ b t (λ less. absurd (omega (arith, less, most))) (omega (arith, low, most)))
                (cases_lt (stage j) s)),
            (λ no. asked_neither (stage j < s) (stage j ≡ s) _ _ _ b t (λ less. no (omega (arith, less))) (λ e. no (omega (arith, e)))),
          ),
    )

    -- a place of one stage more gave something
    pub asked_stage_one : (i : ℕ) (R : Place M → Place M → Type 0) → stage i ≡ s → i < length old → length old < 64
        → OneAsked i R (λ j. (stage j ≡ s) × (j < i)) now new → OneAsked i R (λ j. stage j * 64 + j < stage i * 64 + i) old new
    asked_stage_one i R at low few then = (
      then.0 ∙ before.0,
      subst (λ o. AtOne R o (slice_get new i)) ((before.1 i low).1 (λ less. absurd (omega (arith, less, at)))) then.1,
      (λ j within other.
          let b = before.1 j within in let t = then.2 j (subst (λ n. j < n) (sym before.0) within) other in (
            (λ rank. ⊎_elim
                (λ less. asked_first (stage j < s) ((stage j ≡ s) × (j < i)) _ _ _ b t less (λ e. absurd (omega (arith, less, e.0))))
                (λ most. asked_second (stage j < s) ((stage j ≡ s) × (j < i)) _ _ _ b t (λ less. absurd (omega (arith, less, most)))
                (let same : stage j ≡ s = omega (arith, rank, most, at, within, low, few) in (same, omega (arith, rank, same, at))))
                (cases_lt (stage j) s)),
            (λ no. asked_neither (stage j < s) ((stage j ≡ s) × (j < i)) _ _ _ b t
                (λ less. no (omega (arith, less, at, within, few)))
                (λ e. let same = e.0 in let less = e.1 in no (omega (arith, same, less, at)))),
          )),
    )

    -- so it is with whatever came of it
    pub took_stage : (result : FanTaken M) → (result ≡ Disabled → ⊥) → (result ≡ Empty → ⊥) → length old < 64
        → IfFrom (λ i. (stage i ≡ s) × (i < length now)) result → TookFrom (λ j. stage j ≡ s) (λ i j. (stage j ≡ s) × (j < i)) result now new
        → TookFrom (λ j. Unit {0}) (λ i j. stage j * 64 + j < stage i * 64 + i) result old new
    took_stage (Message i m) some full few from then = asked_stage_one i (Gives m) from.0 (subst (λ n. i < n) before.0 from.1) few then
    took_stage (Ended i) some full few from then = asked_stage_one i Ends from.0 (subst (λ n. i < n) before.0 from.1) few then
    took_stage Empty some full few from then = absurd (full refl)
    took_stage Disabled some full few from then = absurd (some refl)
