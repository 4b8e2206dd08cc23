-- A grave is swept again and again.
use Rattle.std.proofs.Common.{◌≡◌, ◌+◌, Bool, cond, List, [], ◌∷◌, ◌++◌, refl, sym, ap, ◌∙◌, arith, append_assoc, append-nil}
use Rattle.std.specs.Prelude.{count_by}
use Rattle.std.specs.List.{AllByRecursion}
use Rattle.std.proofs.lemmas.List.Elements.{filter-append}
use Rattle.hub_core.specs.Sender.{by}
use Rattle.std.proofs.lemmas.List.Concat.{flat_map-cons}
use Rattle.std.proofs.lemmas.List.Sums.{sum_by-append}
use Rattle.hub_envelope.specs.declared.envelope.Envelope.{Envelope}
use Rattle.hub_queue.specs.declared.grave.Sweep.TheVariants.{Discarded, StillInside, NoRoom}
use Rattle.hub_queue.specs.Graves.{GraveSeat, SweptSeat}
use Rattle.hub_queue.specs.Laws.{got_from}
use Rattle.hub_queue.specs.TakerQueues.{TakerQueueSeat, IsQueueSettled}
use Rattle.hub_queue.specs.Sweeping.{TakesOfEach, AreSameQueues, AreTaken, IsSwept, IsSweptSoFar, IsSweptOut, IsWholeChain, put_by, put_known}
use Rattle.hub_queue.proofs.Chains.{more_and_more, same_queue}

same_queues : (ps : List TakerQueueSeat) → AreSameQueues ps ps
same_queues [] = tt
same_queues (p ∷ ps) = (([], same_queue p), same_queues ps)

-- a sweep more
swept_queues : (ps qs rs : List TakerQueueSeat) (more : List Envelope) → AreSameQueues ps qs → TakesOfEach qs rs more → AreSameQueues ps rs
swept_queues [] [] [] more same takes = tt
swept_queues [] [] (r ∷ rs) more same takes = takes
swept_queues [] (q ∷ qs) rs more same takes = absurd same
swept_queues (p ∷ ps) [] rs more same takes = absurd same
swept_queues (p ∷ ps) (q ∷ qs) [] more same takes = absurd takes
swept_queues (p ∷ ps) (q ∷ qs) (r ∷ rs) more ((xs, first), rest) (here, others, split, takes, behind) = ((xs ++ here, more_and_more p q r xs here first takes), swept_queues ps qs rs others rest behind)

count_append : (passes : Envelope → Bool) (xs ys : List Envelope) → count_by passes (xs ++ ys) ≡ count_by passes xs + count_by passes ys
count_append passes xs ys = sum_by-append (λ x. cond (passes x) 1 0) xs ys

-- what was taken of these queues is what was taken of the first, and of the others
count_first : (passes : Envelope → Bool) (p : TakerQueueSeat) (ps : List TakerQueueSeat) → count_by passes (got_from (p ∷ ps)) ≡ count_by passes p.at.got + count_by passes (got_from ps)
count_first passes p ps = ap (count_by passes) (flat_map-cons (λ (q : TakerQueueSeat). q.at.got) p ps) ∙ count_append passes p.at.got (got_from ps)

taken_here : (ps qs : List TakerQueueSeat) (more : List Envelope) → TakesOfEach ps qs more → AreTaken ps qs more
taken_here [] [] more takes passes =
    let none : count_by passes more ≡ 0 = ap (count_by passes) takes in
    omega arith
taken_here [] (q ∷ qs) more takes passes = absurd takes
taken_here (p ∷ ps) [] more takes passes = absurd takes
taken_here (p ∷ ps) (q ∷ qs) more (here, others, split, takes, behind) passes =
    let now : count_by passes (got_from (q ∷ qs)) ≡ count_by passes q.at.got + count_by passes (got_from qs) = count_first passes q qs in
    let was : count_by passes (got_from (p ∷ ps)) ≡ count_by passes p.at.got + count_by passes (got_from ps) = count_first passes p ps in
    let first : count_by passes q.at.got ≡ count_by passes p.at.got + count_by passes here = ap (count_by passes) takes.got ∙ count_append passes p.at.got here in
    let rest : count_by passes (got_from qs) ≡ count_by passes (got_from ps) + count_by passes others = taken_here ps qs others behind passes in
    let all : count_by passes more ≡ count_by passes here + count_by passes others = ap (count_by passes) split ∙ count_append passes here others in
    omega arith

-- a sweep more
taken_more : (ps qs rs : List TakerQueueSeat) (so_far more : List Envelope) → AreTaken ps qs so_far → TakesOfEach qs rs more → AreTaken ps rs (so_far ++ more)
taken_more ps qs rs so_far more before takes passes =
    let first : count_by passes (got_from qs) ≡ count_by passes (got_from ps) + count_by passes so_far = before passes in
    let second : count_by passes (got_from rs) ≡ count_by passes (got_from qs) + count_by passes more = taken_here qs rs more takes passes in
    let both : count_by passes (so_far ++ more) ≡ count_by passes so_far + count_by passes more = count_append passes so_far more in
    omega arith

none_taken : (ps : List TakerQueueSeat) → AreTaken ps ps []
none_taken ps passes = let none : count_by passes [] ≡ 0 = refl in omega arith

pub not_swept : (g : GraveSeat) → IsSweptSoFar g g
not_swept g = record { end = refl; epoch = refl; queues = same_queues g.queues; more = []; taken = none_taken g.queues; envelopes = sym (append-nil g.envelopes) }

pub swept_more : (g h k : GraveSeat) → IsSweptSoFar g h → IsSwept h (StillInside k) → IsSweptSoFar g k
swept_more g h k so_far (end, epoch, swept) = record {
  end = end ∙ so_far.end;
  epoch = epoch ∙ so_far.epoch;
  queues = swept_queues g.queues h.queues k.queues swept.0 so_far.queues swept.2;
  more = so_far.more ++ swept.0;
  taken = taken_more g.queues h.queues k.queues so_far.more swept.0 so_far.taken swept.2;
  envelopes = swept.1 ∙ ap (λ (l : List Envelope). l ++ swept.0) so_far.envelopes ∙ append_assoc g.envelopes so_far.more swept.0;
}

pub swept_no_room : (g h k : GraveSeat) → IsSweptSoFar g h → IsSwept h (NoRoom k) → IsSweptSoFar g k
swept_no_room g h k so_far (end, epoch, swept) = record {
  end = end ∙ so_far.end;
  epoch = epoch ∙ so_far.epoch;
  queues = swept_queues g.queues h.queues k.queues swept.0 so_far.queues swept.2;
  more = so_far.more ++ swept.0;
  taken = taken_more g.queues h.queues k.queues so_far.more swept.0 so_far.taken swept.2;
  envelopes = swept.1 ∙ ap (λ (l : List Envelope). l ++ swept.0) so_far.envelopes ∙ append_assoc g.envelopes so_far.more swept.0;
}

pub swept_out : (g h : GraveSeat) (s : SweptSeat) → IsSweptSoFar g h → IsSwept h (Discarded s) → IsSweptOut g s
swept_out g h s so_far (end, swept) = record {
  end = end ∙ so_far.end;
  queues = swept_queues g.queues h.queues s.queues swept.0 so_far.queues swept.2;
  more = so_far.more ++ swept.0;
  taken = taken_more g.queues h.queues s.queues so_far.more swept.0 so_far.taken swept.2;
  envelopes = swept.1 ∙ ap (λ (l : List Envelope). l ++ swept.0) so_far.envelopes ∙ append_assoc g.envelopes so_far.more swept.0;
}

-- what was taken of settled queues is all that was put in them
pub whole_chain : (qs : List TakerQueueSeat) → AllByRecursion IsQueueSettled qs → IsWholeChain qs
whole_chain [] settled line low = refl
whole_chain (q ∷ qs) settled line low =
    let known = settled.0.each line low.0 in
    let here : by line q.at.got ≡ put_by line q = known.3 ∙ ap put_known (sym known.1) in
    ap (by line) (flat_map-cons (λ (p : TakerQueueSeat). p.at.got) q qs) ∙ filter-append _ q.at.got (got_from qs)
    ∙ (λ i. here i ++ whole_chain qs settled.1 line low.1 i)
