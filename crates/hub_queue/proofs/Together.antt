-- A poster and a taker of one mailbox stay so, whatever they do.
use Rattle.std.proofs.Common.{◌≡◌, ℕ, suc, ◌≤◌, List, [], ◌∷◌, ◌++◌, refl, sym, ap, ◌∙◌, subst, ⊎_elim, arith}
use Rattle.std.specs.Prelude.{None, Result, Ok, Err}
use Rattle.hub_depot.specs.declared.kept_map.Key.{Key}
use Rattle.hub_envelope.specs.declared.envelope.Draft.{Draft}
use Rattle.hub_envelope.specs.declared.ids.EndId.{EndId}
use Rattle.hub_queue.specs.declared.store.PutView.{PutView}
use Rattle.hub_envelope.specs.declared.posted.Posted.{Posted}
use Rattle.hub_queue.specs.declared.error.PostError.{PostError}
use Rattle.hub_queue.specs.declared.taker.Took.{Took}
use Rattle.hub_queue.specs.declared.taker.Took.TheVariants.{Got, Empty, Busy, Again, Disabled, Closed}
use Rattle.hub_queue.specs.Adopting.{IsMoved, retired_queue}
use Rattle.hub_queue.specs.Counting.{Count}
use Rattle.hub_queue.specs.Mailboxes.{new_stand, new_stands, IsOpenMailbox}
use Rattle.hub_queue.specs.Meetings.{AreTogether}
use Rattle.hub_queue.specs.TakerQueues.{TakerQueueSeat}
use Rattle.hub_queue.specs.Posting.{StoodAs, IsPosted}
use Rattle.hub_queue.specs.Standing.{StandSeat}
use Rattle.hub_queue.specs.Taking.{TakerSeat, IsTakenAt, IsTakenOff, TakesNewest, TakesRetired, IsTaken, enabled_queue, first_of, first_queue, started, epoch_after}
use Rattle.hub_queue.proofs.Below.{parts_snoc}
use Rattle.hub_queue.proofs.Chains.{stays_after}
use Rattle.hub_queue.proofs.Hopping.{goes_later}

stood_so : (t : TakerSeat) (old new : StandSeat) (before : PutView) (entered : ℕ) → StoodAs old new before entered → AreTogether old t → AreTogether new t
stood_so t old new before entered stood with = ⊎_elim
    (λ stays. record {
      of_one = λ at.
          let was = with.of_one (ap (λ (k : Key). k.end.0) (sym stays.0.name) ∙ at.0, ap (λ (k : Key). k.epoch) (sym stays.0.name) ∙ at.1) in
          stays.0.queue ∙ was;
      not_before = subst (λ (n : ℕ). t.epoch ≤ n) (ap (λ (k : Key). k.epoch) (sym stays.0.name)) with.not_before;
    })
    (λ goes. let later = goes_later old new goes.0 in let was = with.not_before in record {
      of_one = λ at. let same = at.1 in absurd (omega arith);
      not_before = omega arith;
    })
    stood

-- after a post, whatever was answered
pub post_keeps : (t : TakerSeat) (old new : StandSeat) (draft : Draft) (answer : Result Posted (PostError × Draft)) → IsPosted old new draft answer → AreTogether old t → AreTogether new t
post_keeps t old new draft (Ok p) posted with = stood_so t old new posted.0 posted.1 posted.2 with
post_keeps t old new draft (Err e) posted with = stood_so t old new posted.0 posted.1 posted.2 with

-- the taker has this epoch and its first queue is this one
abbrev SameFirst : TakerSeat → TakerSeat → Type 0
SameFirst old new = (new.end ≡ old.end) × (new.epoch ≡ old.epoch) × ((first_queue new).queue ≡ (first_queue old).queue)

same_first : (s : StandSeat) (old new : TakerSeat) → SameFirst old new → AreTogether s old → AreTogether s new
same_first s old new same with = record {
  of_one = λ at. with.of_one (at.0 ∙ same.0, at.1 ∙ same.1) ∙ sym same.2;
  not_before = subst (λ (n : ℕ). n ≤ s.name.epoch) (sym same.1) with.not_before;
}

-- a take that doesn't answer Again leaves which queue is first
newest_stays : (p q : TakerQueueSeat) (before after : Count) (took : Took) → IsTakenAt p q before after took → q.queue ≡ p.queue
newest_stays p q before after (Got v) did = ap (λ (x : TakerQueueSeat). x.queue) did.0
newest_stays p q before after Empty did = ap (λ (x : TakerQueueSeat). x.queue) did.0
newest_stays p q before after Disabled did = absurd did
newest_stays p q before after Busy did = absurd did
newest_stays p q before after Again did = absurd did
newest_stays p q before after Closed did = absurd did

retired_stays : (p q : TakerQueueSeat) (before after : Count) (took : Took) → (took ≡ Again → ⊥) → IsTakenOff p q before after took → q.queue ≡ p.queue
retired_stays p q before after (Got v) other did = did.0.queue
retired_stays p q before after Busy other did = did.0.queue
retired_stays p q before after Again other did = absurd (other refl)
retired_stays p q before after Empty other did = absurd did
retired_stays p q before after Disabled other did = absurd did
retired_stays p q before after Closed other did = absurd did

retired_keeps : (old new : TakerSeat) (before after : Count) (took : Took) → (took ≡ Again → ⊥) → epoch_after old.epoch took ≡ old.epoch → TakesRetired old new before after took → SameFirst old new
retired_keeps old new before after took other epoch did = (
  ap (λ (t : TakerSeat). t.end) did.0,
  ap (λ (t : TakerSeat). t.epoch) did.0 ∙ epoch,
  ap (λ (l : List TakerQueueSeat). (first_of l new.newest).queue) (did.1.4 ∙ stays_after did.1.1 did.1.2 took other)
      ∙ retired_stays did.1.0 did.1.1 before after took other did.1.5
      ∙ ap (λ (l : List TakerQueueSeat). (first_of l old.newest).queue) (sym did.1.3),
)

newest_keeps : (old new : TakerSeat) (before after : Count) (took : Took) → TakesNewest old new before after took → SameFirst old new
newest_keeps old new before after took did = (
  ap (λ (t : TakerSeat). t.end) did.2,
  ap (λ (t : TakerSeat). t.epoch) did.2,
  ap (λ (t : TakerSeat). (first_queue t).queue) did.2 ∙ newest_stays old.newest did.0 before after took did.3 ∙ ap (λ (l : List TakerQueueSeat). (first_of l old.newest).queue) (sym did.1),
)

-- after a take that leaves no queue, whatever was taken
pub take_keeps : (s : StandSeat) (old new : TakerSeat) (before after : Count) (took : Took) → (took ≡ Again → ⊥) → IsTaken old new before after took → AreTogether s old → AreTogether s new
take_keeps s old new before after (Got v) other did with = ⊎_elim (λ n. same_first s old new (newest_keeps old new before after (Got v) n) with) (λ r. same_first s old new (retired_keeps old new before after (Got v) other refl r) with) did.1
take_keeps s old new before after Empty other did with = ⊎_elim (λ n. same_first s old new (newest_keeps old new before after Empty n) with) (λ r. same_first s old new (retired_keeps old new before after Empty other refl r) with) did.1
take_keeps s old new before after Busy other did with = ⊎_elim (λ n. same_first s old new (newest_keeps old new before after Busy n) with) (λ r. same_first s old new (retired_keeps old new before after Busy other refl r) with) did.1
take_keeps s old new before after Again other did with = absurd (other refl)
take_keeps s old new before after Closed other did with = ⊎_elim (λ n. same_first s old new (newest_keeps old new before after Closed n) with) (λ r. same_first s old new (retired_keeps old new before after Closed other refl r) with) did.1
take_keeps s old new before after Disabled other did with = subst (AreTogether s) (sym did.1) with

-- as the mailbox is opened, for its last line
pub opened_together : (end : EndId) (n : ℕ) (t : TakerSeat) (posters rest : List StandSeat) (s : StandSeat) → IsOpenMailbox end (suc n) t posters → posters ≡ rest ++ s ∷ [] → AreTogether s t
opened_together end n t posters rest s opened last =
    let p : TakerQueueSeat = t.newest in
    let is : new_stand p.keeper.gate p.queue end 0 n ≡ s = (parts_snoc (new_stands p.keeper.gate p.queue end n) rest (new_stand p.keeper.gate p.queue end 0 n) s (sym opened.posters_are ∙ last)).1 in
    subst (AreTogether s) (sym opened.taker_is)
    (subst (λ (x : StandSeat). AreTogether x (record { end = end.0; epoch = 0; retired = []; newest = p; left = None })) is (record { of_one = λ at. refl; not_before = omega arith }))

-- after a start
pub start_keeps : (s : StandSeat) (t : TakerSeat) → AreTogether s t → AreTogether s (started t)
start_keeps s t with = same_first s t (started t) (refl, refl, first_started t.retired) with
  where
    first_started : (ps : List TakerQueueSeat) → (first_of ps (enabled_queue t.newest)).queue ≡ (first_of ps t.newest).queue
    first_started [] = refl
    first_started (p ∷ ps) = refl

-- after an adoption, whatever was answered
pub moved_keeps : (s : StandSeat) (old new : TakerSeat) → IsMoved old new → AreTogether s old → AreTogether s new
moved_keeps s old new moved with = same_first s old new (
  ap (λ (t : TakerSeat). t.end) moved.new_is,
  ap (λ (t : TakerSeat). t.epoch) moved.new_is,
  ap (λ (t : TakerSeat). (first_queue t).queue) moved.new_is ∙ first_moved old.retired,
) with
  where
    first_moved : (ps : List TakerQueueSeat) → (first_of (ps ++ retired_queue old.newest ∷ []) new.newest).queue ≡ (first_of ps old.newest).queue
    first_moved [] = refl
    first_moved (p ∷ ps) = refl
