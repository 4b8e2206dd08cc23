-- Once the rights of a gate were given, no line is inside it and none is let in.
use Rattle.std.proofs.Common.{◌≡◌, ℕ, ◌||◌, Bool, true, false, true≢false, refl, sym, ◌∙◌}
use Rattle.hub_core.specs.declared.line.Phase.TheVariants.{Inside}
use Rattle.hub_core.specs.GateMachine.{Gate, is_shut, Answer, lets_in, Steps, goes_in, gives, Reached, goes_on}
use Rattle.hub_gate.specs.AfterRights.{Follows, stays, goes_further, IsOver, IsOverFrom}
use Rattle.hub_gate.proofs.Formed.{formed}

module _ {R : Type 0} (owns : ℕ → R → Type 0) where
  -- what an answer that lets a line in says of the gate
  abbrev Admits : Gate R → Answer R → Type 0
  Admits g (lets_in right) = is_shut g ≡ false
  Admits g _ = Unit {0}

  admits : (g g' : Gate R) {event : _} {answer : _} → Steps owns g event answer g' → Admits g answer
  admits g g' (goes_in l r at m c there) = λ i. m i || c i
  admits g g' _ = tt

  -- rights that were given stay so
  stay_given : (g g' : Gate R) {event : _} {answer : _} → Steps owns g event answer g' → g.collected ≡ true → g'.collected ≡ true
  stay_given g g' (gives rights c s b h) is = refl
  stay_given g g' _ is = is

  pub over : (g : Gate R) → Reached owns g → g.collected ≡ true → IsOver owns g
  over g reached given =
      let well = formed owns g reached in record {
        nobody = λ line at. true≢false (well.nobody given line Inside at);
        turns_all = λ line right after step. true≢false (sym (well.shut given) ∙ admits g after step);
      }

  -- before the rights were given a line may be let in
  pub let_in_before : (g g' : Gate R) {event : _} (right : R) → Reached owns g → Steps owns g event (lets_in right) g' → g.collected ≡ false
  let_in_before g g' right reached step = by_given g.collected refl
    where
      by_given : (b : Bool) → g.collected ≡ b → g.collected ≡ false
      by_given false is = is
      by_given true is = absurd (true≢false (sym ((formed owns g reached).shut is) ∙ admits g g' step))

  reached_later : (g g' : Gate R) → Reached owns g → Follows owns g g' → Reached owns g'
  reached_later g g' reached stays = reached
  reached_later g g' reached (goes_further between g'' event answer before step) = goes_on between g'' event answer (reached_later g between reached before) step

  given_later : (g g' : Gate R) → g.collected ≡ true → Follows owns g g' → g'.collected ≡ true
  given_later g g' given stays = given
  given_later g g' given (goes_further between g'' event answer before step) = stay_given between g'' step (given_later g between given before)

  pub over_from : (g : Gate R) → Reached owns g → g.collected ≡ true → IsOverFrom owns g
  over_from g reached given later follows = over later (reached_later g later reached follows) (given_later g later given follows)
