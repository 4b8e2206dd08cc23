-- How a line goes over the yard from queue to queue, and what a watch is told of it.
use Rattle.std.proofs.Common.{◌≡◌, ◌≢◌, ℕ, zero, suc, ◌+◌, ◌<◌, Bool, true, false, cond, List, [], ◌∷◌, ◌++◌, append_assoc, append-nil, refl, sym, ap, ◌∙◌, subst, arith, option_map, Option, Some, None, IfSome, Result, Ok, Err}
use Rattle.std.specs.Ordering.{eq_by_cmp}
use Rattle.std.specs.FinMap as map
use Rattle.std.specs.FinMap.{get-remove}
use Rattle.std.proofs.lemmas.Map.Views.{tells_apart}
use Rattle.hub_depot.specs.declared.kept_map.Key.{Key}
use Rattle.hub_depot.specs.Key.{key_cmp}
use Rattle.hub_depot.proofs.Keys.{exact_keys, keys_total}
use Rattle.hub_envelope.specs.declared.envelope.Draft.{Draft}
use Rattle.hub_queue.specs.declared.store.PutView.{PutView}
use Rattle.hub_queue.specs.declared.pause.Point.{Point}
use Rattle.hub_queue.specs.declared.pause.Point.TheVariants.{Before, Hopping}
use Rattle.hub_envelope.specs.declared.posted.Posted.{Posted}
use Rattle.hub_queue.specs.declared.error.PostError.{PostError}
use Rattle.hub_queue.specs.Posting.{StaysAt, name_after}
use Rattle.hub_queue.specs.Standing.{StandSeat, FollowsStand}
use Rattle.hub_queue.specs.Trying.{IsAnswered, gone_to}
use Rattle.hub_queue.specs.Watching.{told_more, points_inside, points_hopping, points_refused, points_at_last, points_onward}
use Rattle.hub_queue.specs.Yards.{Yard, hops_between, without_next, IsStandOf, GoesNoFurther, IsHeldBack, IsHoppedOver}

-- The yard: what is left of it after so many hops

pub other_key : (a b : Key) → a ≢ b → (same : Bool) → eq_by_cmp key_cmp a b ≡ same → same ≡ false
other_key a b apart true is = absurd (apart (tells_apart exact_keys a b is))
other_key a b apart false is = refl

later_key : (name : Key) (before after : ℕ) → before < after → eq_by_cmp key_cmp (name_after name after) (name_after name before) ≡ false
later_key name before after low = other_key (name_after name after) (name_after name before) (λ same. let epoch = ap (λ (k : Key). k.epoch) same in absurd (omega arith)) _ refl

-- the stands at the queues behind are still there
still_there : (yard : Yard) (name : Key) (hops after : ℕ) → hops < after → map.get (without_next name hops yard) (name_after name after) ≡ map.get yard (name_after name after)
still_there yard name zero after low = refl
still_there yard name (suc hops) after low =
    get-remove keys_total (without_next name hops yard) (name_after name (suc hops)) (name_after name after)
    ∙ ap (λ b. cond b None (map.get (without_next name hops yard) (name_after name after))) (later_key name (suc hops) after low)
    ∙ still_there yard name hops after (omega arith)

hops_are : (from to : Key) (hops : ℕ) → to ≡ name_after from hops → hops_between from to ≡ hops
hops_are from to hops named = let epoch = ap (λ (k : Key). k.epoch) named in omega arith

next_of : (from here : Key) (hops : ℕ) → here ≡ name_after from hops → name_after here 1 ≡ name_after from (suc hops)
next_of from here hops named =
    let sum : from.epoch + hops + 1 ≡ from.epoch + suc hops = omega arith in
    ap (λ (k : Key). name_after k 1) named ∙ ap (λ (n : ℕ). record { end = from.end; epoch = n; line = from.line }) sum

-- the line went over the yard so often, and stands where the last stand that it took does
pub record WentOver (was now : Option Yard) (from : Key) (here : StandSeat) (hops : ℕ) : Type 0 where
  pub yard : now ≡ option_map (λ y. without_next from hops y) was
  pub stand : 0 < hops → IfSome was (λ y. IsStandOf y here)

pub went_nowhere : (was : Option Yard) (here : StandSeat) → WentOver was was here.name here 0
went_nowhere None here = record { yard = refl; stand = λ some. absurd (omega arith) }
went_nowhere (Some was) here = record { yard = refl; stand = λ some. absurd (omega arith) }

-- it goes on once more
module _ (from : Key) (here next : StandSeat) (hops : ℕ) (named : here.name ≡ name_after from hops) (next_named : next.name ≡ name_after here.name 1) where
  pub went_on : (was now later : Option Yard) → WentOver was now from here hops → IfSome now (λ y. Some next ≡ map.get y (name_after here.name 1)) → later ≡ option_map (λ y. map.remove y (name_after here.name 1)) now → WentOver was later from (gone_to here next) (suc hops)
  went_on None now later went found rest = record { yard = rest ∙ ap (option_map (λ y. map.remove y (name_after here.name 1))) went.yard; stand = λ some. tt }
  went_on (Some was) now later went found rest =
      let key = next_of from here.name hops named in
      let left : Yard = without_next from hops was in
      let in_yard : Some next ≡ map.get left (name_after here.name 1) = subst (λ (o : Option Yard). IfSome o (λ y. Some next ≡ map.get y (name_after here.name 1))) went.yard found in
      record {
        yard = rest ∙ ap (option_map (λ y. map.remove y (name_after here.name 1))) went.yard ∙ ap (λ (k : Key). Some (map.remove left k)) key;
        stand = λ some. (next, ap (map.get was) (next_named ∙ key) ∙ sym (still_there was from hops (suc hops) (omega arith)) ∙ sym (in_yard ∙ ap (map.get left) key), refl, refl);
      }

-- and stays there while it tries to post
pub went_and_stays : (was now : Option Yard) (from : Key) (there here : StandSeat) (hops : ℕ) → StaysAt there here → WentOver was now from there hops → WentOver was now from here hops
went_and_stays None now from there here hops stays went = record { yard = went.yard; stand = λ some. tt }
went_and_stays (Some was) now from there here hops stays went = record {
  yard = went.yard;
  stand = λ some. let old = went.stand some in (old.0, ap (map.get was) stays.name ∙ old.1, stays.gate ∙ old.2, stays.queue ∙ old.3);
}

-- it takes the stand at the next queue, goes on, and stands there, where `seen` is how the code sees where it stood
pub went_there : (was now later : Option Yard) (from : Key) (here seen next there : StandSeat) (hops : ℕ) → here.name ≡ name_after from hops → seen ≡ here → FollowsStand seen.name next → WentOver was now from here hops → IfSome now (λ y. Some next ≡ map.get y (name_after seen.name 1)) → later ≡ option_map (λ y. map.remove y (name_after seen.name 1)) now → StaysAt (gone_to here next) there → WentOver was later from there (hops + 1) × (there.name ≡ name_after from (hops + 1))
went_there was now later from here seen next there hops named same is_next went found rest stays =
    let next_named : next.name ≡ name_after here.name 1 = is_next.name_is ∙ ap (λ (s : StandSeat). name_after s.name 1) same in
    let in_yard = subst (λ (s : StandSeat). IfSome now (λ y. Some next ≡ map.get y (name_after s.name 1))) same found in
    let left = subst (λ (s : StandSeat). later ≡ option_map (λ y. map.remove y (name_after s.name 1)) now) same rest in
    let once_more : suc hops ≡ hops + 1 = omega arith in
    subst (λ (h : ℕ). WentOver was later from there h × (there.name ≡ name_after from h)) once_more (
      went_and_stays was later from (gone_to here next) there (suc hops) stays (went_on from here next hops named next_named was now later went in_yard left),
      stays.name ∙ next_named ∙ next_of from here.name hops named,
    )

-- the post ends there
pub hopped : (was now : Option Yard) (from : Key) (here : StandSeat) (hops : ℕ) (answer : Result Posted (PostError × Draft)) → here.name ≡ name_after from hops → WentOver was now from here hops → IfSome now (λ y. IsHeldBack y hops here answer) → IsHoppedOver was now from here answer
hopped None now from here hops answer named went held = went.yard
hopped (Some was) None from here hops answer named went held = let wrong = went.yard in cc
hopped (Some was) (Some now) from here hops answer named went held =
    let many = hops_are from here.name hops named in
    let is : now ≡ without_next from hops was = cc (went.yard) in
    record {
      yard = is ∙ ap (λ (h : ℕ). without_next from h was) (sym many);
      stand = λ some. went.stand (subst (λ (h : ℕ). 0 < h) many some);
      moving = subst (λ (h : ℕ). IsHeldBack now h here answer) (sym many) held;
    }

-- where it was let in it isn't held back
pub held_by_none : (now : Option Yard) (hops : ℕ) (here : StandSeat) (old new : PutView) (draft : Draft) (answer : Result Posted (PostError × Draft)) → IsAnswered old new draft answer → IfSome now (λ y. IsHeldBack y hops here answer)
held_by_none None hops here old new draft answer answered = tt
held_by_none (Some now) hops here old new draft (Ok posted) answered = tt
held_by_none (Some now) hops here old new draft (Err refused) answered = subst (GoesNoFurther now hops here) (sym answered.2) tt

-- The watch

pub told_twice : (o : Option (List Point)) (xs ys : List Point) → told_more (told_more o xs) ys ≡ told_more o (xs ++ ys)
told_twice None xs ys = refl
told_twice (Some points) xs ys = ap Some (append_assoc points xs ys)

pub told_nothing : (o : Option (List Point)) → o ≡ told_more o []
told_nothing None = refl
told_nothing (Some points) = ap Some (sym (append-nil points))

-- of one hop more, and of what was told at the next gate
pub told_hop : (o before asked after : Option (List Point)) (hops : ℕ) (last : List Point) → before ≡ told_more o (points_hopping hops) → asked ≡ told_more before (Hopping ∷ []) → after ≡ told_more asked (Before ∷ last) → after ≡ told_more o (points_hopping (hops + 1) ++ last)
told_hop o before asked after hops last was hopping tried =
    let so_far : List Point = points_hopping hops in
    let once_more : suc hops ≡ hops + 1 = omega arith in
    tried
    ∙ ap (λ s. told_more s (Before ∷ last)) (hopping ∙ ap (λ s. told_more s (Hopping ∷ [])) was ∙ told_twice o so_far (Hopping ∷ []))
    ∙ told_twice o (so_far ++ Hopping ∷ []) (Before ∷ last)
    ∙ ap (told_more o) (append_assoc so_far (Hopping ∷ []) (Before ∷ last) ∙ sym (append_assoc so_far (Hopping ∷ Before ∷ []) last) ∙ ap (λ (h : ℕ). points_hopping h ++ last) once_more)

pub told_hop_alone : (o before asked after : Option (List Point)) (hops : ℕ) → before ≡ told_more o (points_hopping hops) → asked ≡ told_more before (Hopping ∷ []) → after ≡ told_more asked (Before ∷ []) → after ≡ told_more o (points_hopping (hops + 1))
told_hop_alone o before asked after hops was hopping tried = told_hop o before asked after hops [] was hopping tried ∙ ap (told_more o) (append-nil (points_hopping (hops + 1)))

at_last_inside : (hops : ℕ) (old new : PutView) (draft : Draft) (answer : Result Posted (PostError × Draft)) → IsAnswered old new draft answer → points_at_last hops answer ≡ points_inside
at_last_inside hops old new draft (Ok posted) answered = refl
at_last_inside hops old new draft (Err refused) answered = ap (points_refused hops) answered.2

-- of a line that was let in after so many hops
pub told_answered : (o : Option (List Point)) (after : Option (List Point)) (from to : Key) (hops : ℕ) (old new : PutView) (draft : Draft) (answer : Result Posted (PostError × Draft)) → to ≡ name_after from hops → IsAnswered old new draft answer → after ≡ told_more o (points_hopping hops ++ points_inside) → after ≡ told_more o (points_onward (hops_between from to) answer)
told_answered o after from to hops old new draft answer named answered told =
    let many = hops_are from to hops named in
    told
    ∙ ap (λ (l : List Point). told_more o (points_hopping hops ++ l)) (sym (at_last_inside hops old new draft answer answered))
    ∙ ap (λ (h : ℕ). told_more o (points_onward h answer)) (sym many)
