-- What is taken of the queues of an end, one after another.
use Rattle.std.proofs.Common.{◌≡◌, ◌⊎◌, List, [], ◌∷◌, ◌++◌, refl, sym, ap, ◌∙◌, subst, ⊎_elim, append_assoc, append-nil}
use Rattle.std.proofs.lemmas.List.Elements.{filter-append}
use Rattle.hub_envelope.specs.declared.envelope.Envelope.{Envelope}
use Rattle.hub_core.specs.Sender.{by, Prefix}
use Rattle.hub_core.proofs.Queueing.{prove_queue_laws}
use Rattle.hub_queue.specs.declared.store.PassView.TheVariants.{Takes, Puts}
use Rattle.hub_queue.specs.declared.taker.Took.{Took}
use Rattle.hub_queue.specs.declared.taker.Took.TheVariants.{Got, Empty, Busy, Again, Disabled, Closed}
use Rattle.hub_queue.specs.Adopting.{retired_queue}
use Rattle.hub_queue.specs.Counting.{Count}
use Rattle.hub_queue.specs.Laws.{TakenIsPrefix, NothingTaken, ahead_of, NothingAhead, TakesInTurn, got_from, all_put, ChainIsPrefix}
use Rattle.hub_queue.specs.TakerQueues.{TakerQueueSeat}
use Rattle.hub_queue.specs.SharedQueue.{ShowsQueue}
use Rattle.hub_queue.specs.Taking.{TakerSeat, IsTaken, TakesNewest, TakesRetired, enabled_queue, first_of, left_after}
use Rattle.hub_queue.proofs.Chains.{all_join, all_back}

pub taken_prefix : TakenIsPrefix ShowsQueue
taken_prefix items views shows taker pass t v takes puts =
    let mine = shows.knows taker (Takes t) takes in
    let theirs = shows.knows pass (Puts v) puts in
    let is = prove_queue_laws.prefix shows.shared.end shows.shared.epoch shows.shared.lines shows.shared.state shows.is_queue v.line in
    (is.0, theirs.put ∙ is.1 ∙ ap (λ (l : List Envelope). by v.line l ++ is.0) (sym mine.got))

-- nothing was taken of the queues behind the first
behind_first : (ps : List TakerQueueSeat) (p : TakerQueueSeat) (rest : List TakerQueueSeat) (newest : TakerQueueSeat) → ps ≡ p ∷ rest → NothingTaken (ahead_of ps newest) → NothingTaken (rest ++ newest ∷ [])
behind_first ps p rest newest is none = subst (λ (l : List TakerQueueSeat). NothingTaken (ahead_of l newest)) is none

behind_next : (rest : List TakerQueueSeat) (newest : TakerQueueSeat) → NothingTaken (rest ++ newest ∷ []) → NothingTaken (ahead_of rest newest)
behind_next [] newest none = tt
behind_next (p ∷ rest) newest none = none.1

started_ahead : (ps : List TakerQueueSeat) (p : TakerQueueSeat) → NothingTaken (ahead_of ps p) → NothingTaken (ahead_of ps (enabled_queue p))
started_ahead [] p none = tt
started_ahead (q ∷ ps) p none = all_join (λ (r : TakerQueueSeat). r.at.got ≡ []) ps (enabled_queue p ∷ []) (all_front ps (p ∷ []) none) (all_back (λ (r : TakerQueueSeat). r.at.got ≡ []) ps (p ∷ []) none)
  where
    all_front : (xs ys : List TakerQueueSeat) → NothingTaken (xs ++ ys) → NothingTaken xs
    all_front [] ys all = tt
    all_front (x ∷ xs) ys all = (all.0, all_front xs ys all.1)

moved_ahead : (ps : List TakerQueueSeat) (p newest : TakerQueueSeat) → newest.at.got ≡ [] → NothingTaken (ahead_of ps p) → NothingTaken (ahead_of (ps ++ retired_queue p ∷ []) newest)
moved_ahead [] p newest none all = (none, tt)
moved_ahead (q ∷ ps) p newest none all = all_join (λ (r : TakerQueueSeat). r.at.got ≡ []) (ps ++ retired_queue p ∷ []) (newest ∷ []) (same_got ps (p ∷ []) (retired_queue p) p refl all) (none, tt)
  where
    same_got : (xs ys : List TakerQueueSeat) (x y : TakerQueueSeat) → x.at.got ≡ y.at.got → NothingTaken (xs ++ y ∷ []) → NothingTaken (xs ++ x ∷ [])
    same_got [] ys x y same all = (same ∙ all.0, tt)
    same_got (z ∷ xs) ys x y same all = (all.0, same_got xs ys x y same all.1)

taken_first : (old new : TakerSeat) (before after : Count) (took : Took) → TakesRetired old new before after took → NothingAhead old → NothingAhead new
taken_first old new before after took did none =
    let rest : NothingTaken (did.1.2 ++ old.newest ∷ []) = behind_first old.retired did.1.0 did.1.2 old.newest did.1.3 none in
    let newest : new.newest ≡ old.newest = ap (λ (t : TakerSeat). t.newest) did.0 in
    subst (λ (p : TakerQueueSeat). NothingTaken (ahead_of new.retired p)) (sym newest)
    (subst (λ (l : List TakerQueueSeat). NothingTaken (ahead_of l old.newest)) (sym did.1.4) (after_take took))
  where
    after_take : (took : Took) → NothingTaken (ahead_of (left_after did.1.1 did.1.2 took) old.newest)
    after_take Again = behind_next did.1.2 old.newest (behind_first old.retired did.1.0 did.1.2 old.newest did.1.3 none)
    after_take (Got v) = behind_first old.retired did.1.0 did.1.2 old.newest did.1.3 none
    after_take Empty = behind_first old.retired did.1.0 did.1.2 old.newest did.1.3 none
    after_take Busy = behind_first old.retired did.1.0 did.1.2 old.newest did.1.3 none
    after_take Disabled = behind_first old.retired did.1.0 did.1.2 old.newest did.1.3 none
    after_take Closed = behind_first old.retired did.1.0 did.1.2 old.newest did.1.3 none

taken_newest : (old new : TakerSeat) (before after : Count) (took : Took) → TakesNewest old new before after took → NothingAhead new
taken_newest old new before after took did = subst (λ (t : TakerSeat). NothingAhead t) (sym did.2) tt

taken : (old new : TakerSeat) (before after : Count) (took : Took) → TakesNewest old new before after took ⊎ TakesRetired old new before after took → NothingAhead old → NothingAhead new
taken old new before after took did none = ⊎_elim (λ n. taken_newest old new before after took n) (λ r. taken_first old new before after took r none) did

pub in_turn : TakesInTurn
in_turn = record {
  opened = λ end lines t posters opened. subst (λ (x : TakerSeat). NothingAhead x) (sym opened.taker_is) tt;
  start = λ t none. started_ahead t.retired t.newest none;
  take = λ old new before after took did none. took_any old new before after took did none;
  adopt = λ old new moved none. subst (λ (x : TakerSeat). NothingAhead x) (sym moved.new_is) (moved_ahead old.retired old.newest new.newest (ap (λ v. v.got) moved.newest.at) none);
}
  where
    took_any : (old new : TakerSeat) (before after : Count) (took : Took) → IsTaken old new before after took → NothingAhead old → NothingAhead new
    took_any old new before after (Got v) did none = taken old new before after (Got v) did.1 none
    took_any old new before after Empty did none = taken old new before after Empty did.1 none
    took_any old new before after Busy did none = taken old new before after Busy did.1 none
    took_any old new before after Again did none = taken old new before after Again did.1 none
    took_any old new before after Closed did none = taken old new before after Closed did.1 none
    took_any old new before after Disabled did none = subst (λ (x : TakerSeat). NothingAhead x) (sym did.1) none

-- nothing taken joins to nothing
none_joined : (ps : List TakerQueueSeat) → NothingTaken ps → got_from ps ≡ []
none_joined [] none = refl
none_joined (p ∷ ps) none = (λ i. none.0 i ++ got_from ps) ∙ none_joined ps none.1

-- what was taken of the queues of a taker was taken of the first of them
got_first : (ps : List TakerQueueSeat) (newest : TakerQueueSeat) → NothingTaken (ahead_of ps newest) → got_from (ps ++ newest ∷ []) ≡ (first_of ps newest).at.got
got_first [] newest none = append-nil newest.at.got
got_first (p ∷ ps) newest none = ap (λ (l : List Envelope). p.at.got ++ l) (none_joined (ps ++ newest ∷ []) none) ∙ append-nil p.at.got

pub chain_prefix : ChainIsPrefix
chain_prefix line [] t before ahead now all first none = subst (λ (l : List (List Envelope)). Prefix (by line (got_from (t.retired ++ t.newest ∷ []))) (all_put (l ++ now ∷ ahead))) (sym all) (
  first.0 ++ all_put ahead,
  ap (λ (l : List Envelope). l ++ all_put ahead) first.1 ∙ append_assoc _ first.0 (all_put ahead) ∙ ap (λ (l : List Envelope). by line l ++ (first.0 ++ all_put ahead)) (sym (got_first t.retired t.newest none)),
)
chain_prefix line (p ∷ left) t [] ahead now all first none = absurd all
chain_prefix line (p ∷ left) t (put ∷ before) ahead now all first none =
    let rest = chain_prefix line left t before ahead now all.1 first none in
    let later : List Envelope = got_from (left ++ t.retired ++ t.newest ∷ []) in (
      rest.0,
      ap (λ (l : List Envelope). put ++ l) rest.1
          ∙ sym (append_assoc put (by line later) rest.0)
          ∙ ap (λ (l : List Envelope). (l ++ by line later) ++ rest.0) (sym all.0)
          ∙ ap (λ (l : List Envelope). l ++ rest.0) (sym (filter-append _ p.at.got later)),
    )
