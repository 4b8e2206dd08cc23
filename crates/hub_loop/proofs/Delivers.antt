-- A delivery goes on where it has stopped, and its ports are adopted one after another.
use Rattle.std.proofs.Common.{◌≡◌, Bool, true, false, List, [], ◌∷◌, ◌++◌, refl, sym, ap, ◌∙◌, subst, ⊎_elim, inl, inr, append_assoc, append-nil, ℕ, Option, Some, None}
use Rattle.std.specs.List.Sorted.{IsPermutation}
use Rattle.std.proofs.lemmas.List.Sorted.{IsPermutation-refl, IsPermutation-sym, IsPermutation-to_front, IsPermutation-trans}
use Rattle.slab.specs.Slab.{Slab, SameValues}
use Rattle.hub_clients.specs.declared.handed.HandedQueue.{HandedQueue}
use Rattle.hub_clients.specs.Handing.{taker_of}
use Rattle.hub_envelope.specs.declared.ids.EndId.{EndId}
use Rattle.hub_ports.specs.Seats.{PortSeat, ends_of}
use Rattle.hub_loop.specs.declared.held.Held.{Held}
use Rattle.hub_loop.specs.Adopting.{HoldsMore, SameClosed, SameStored, IsPortBuried, IsOneAdopted, AreAdopted, ArePartlyAdopted, IsFetched, IsQueueAdopted, IsTakenFrom, KeepsFetched}
use Rattle.hub_loop.specs.States.{ClosedState, HoldingState, ReceivingState, DeliveryState}
use Rattle.std.specs.Prelude.{Result, Ok, Err}
use Rattle.hub_envelope.specs.declared.envelope.Envelope.{Envelope}
use Rattle.hub_ports.specs.Splitting.{IsSplit}
use Rattle.hub_loop.specs.Delivering.{IsLookedForIn}
use Rattle.hub_bell.specs.declared.board.BoardStep.{BoardStep}
use Rattle.hub_ready.specs.Finding.{HasStepped}
use Rattle.hub_queue.specs.Counting.{Count}
use Rattle.hub_loop.specs.Looping.{LoopState}
use Rattle.hub_loop.specs.Serving.{IsServedMarked, AreServed, next_after}
use Rattle.hub_loop.specs.declared.serving.Served.{Served}
use Rattle.hub_loop.specs.declared.serving.Served.TheVariants.{Given, Nothing}
use Rattle.hub_loop.specs.Turning.{IsDue}

-- what was held before may be told of another slab that holds the same
pub holds-after : (old mid new : Slab Held) (h : Held) → SameValues old mid → HoldsMore mid new h → HoldsMore old new h
holds-after old mid new h same more =
    (more.0, sym (same more.0) ∙ more.1, record { changed = more.2.changed; others = λ k other. more.2.others k other ∙ same k })

closed-after : (old mid new : ClosedState) → SameClosed old mid → SameClosed mid new → SameClosed old new
closed-after old mid new first second = (second.0 ∙ first.0, second.1 ∙ first.1)

pub buried-after : (p : PortSeat) (old mid new : ClosedState) → SameClosed old mid → IsPortBuried p mid new → IsPortBuried p old new
buried-after p old mid new same buried =
    (buried.0, buried.1, buried.2, buried.3, buried.4 ∙ ap (λ graves. graves ++ buried.0 ∷ []) same.0, buried.5 ∙ ap (λ noticed. noticed ++ buried.1 ∷ []) same.1)

one-after : (p : PortSeat) (old mid new : HoldingState) (before after : List EndId) → SameStored old mid → IsOneAdopted p mid new before after → IsOneAdopted p old new before after
one-after p old mid new before after same one =
    ⊎_elim
    (λ (held : _). inl (held.0, held.1, holds-after old.ends.held mid.ends.held new.ends.held _ same.held held.2, closed-after old.closed mid.closed new.closed same.closed held.3, held.4))
    (λ (unfit : _). inr (unfit.0, unfit.1, unfit.2, (λ k. unfit.3 k ∙ same.held k), buried-after p old.closed mid.closed new.closed same.closed unfit.4, unfit.5))
    one

pub stored-same : (s : HoldingState) → SameStored s s
stored-same s = record { held = λ k. refl; closed = (refl, refl) }

-- one port more
pub adopts-more : (ps : List PortSeat) (p : PortSeat) (old mid new : HoldingState) (a b c : List EndId) → AreAdopted ps old mid a b → IsOneAdopted p mid new b c → AreAdopted (ps ++ p ∷ []) old new a c
adopts-more [] p old mid new a b c did one =
    (new, c, one-after p old mid new a c did.0 (subst (λ x. IsOneAdopted p mid new x c) did.1 one), (stored-same new, refl))
adopts-more (q ∷ ps) p old mid new a b c did one =
    (did.0, did.1, did.2, adopts-more ps p did.0 mid new did.1 b c did.3 one)

-- the same is held afterwards
pub adopts-same : (ps : List PortSeat) (old mid new : HoldingState) (a b : List EndId) → AreAdopted ps old mid a b → SameStored mid new → AreAdopted ps old new a b
adopts-same [] old mid new a b did same =
    (record { held = λ k. same.held k ∙ did.0.held k; closed = closed-after old.closed mid.closed new.closed did.0.closed same.closed }, did.1)
adopts-same (q ∷ ps) old mid new a b did same =
    (did.0, did.1, did.2, adopts-same ps did.0 mid new did.1 b did.3 same)

-- one port more was adopted or refused for good
pub partly-more : (old mid new : ReceivingState) (before between after : HoldingState) (p : PortSeat) → ((done : List PortSeat) × ArePartlyAdopted old mid before between done) → mid.found ≡ p ∷ new.found → IsOneAdopted p between after mid.missing new.missing → (done : List PortSeat) × ArePartlyAdopted old new before after done
partly-more old mid new before between after p partly first one = (
  partly.0 ++ p ∷ [],
  (
    partly.1.0 ∙ ap (λ ps. partly.0 ++ ps) first ∙ sym (append_assoc partly.0 (p ∷ []) new.found),
    adopts-more partly.0 p before between after old.missing mid.missing new.missing partly.1.1 one,
  ),
)

-- nothing more was done
pub partly-same : (old mid new : ReceivingState) (before between after : HoldingState) → ((done : List PortSeat) × ArePartlyAdopted old mid before between done) → new.found ≡ mid.found → SameStored between after → new.missing ≡ mid.missing → (done : List PortSeat) × ArePartlyAdopted old new before after done
partly-same old mid new before between after partly found same missing = (
  partly.0,
  (
    partly.1.0 ∙ ap (λ ps. partly.0 ++ ps) (sym found),
    subst (λ m. AreAdopted partly.0 before after old.missing m) (sym missing)
        (adopts-same partly.0 before between after old.missing mid.missing partly.1.1 same),
  ),
)

-- no port is left
pub all-done : (old new : ReceivingState) (before after : HoldingState) → ((done : List PortSeat) × ArePartlyAdopted old new before after done) → new.found ≡ [] → AreAdopted old.found before after old.missing new.missing
all-done old new before after partly none =
    let all : old.found ≡ partly.0 = partly.1.0 ∙ ap (λ ps. partly.0 ++ ps) none ∙ append-nil partly.0 in
    subst (λ ps. AreAdopted ps before after old.missing new.missing) (sym all) partly.1.1

-- a queue that was adopted or refused for good was fetched
pub fetched : (held : Bool) (q : HandedQueue) (old new : HoldingState) (end : EndId) → (taker_of q).end ≡ end.0 → IsQueueAdopted q old new held → IsFetched held old new end
fetched true q old new end is did = (q, is, did)
fetched false q old new end is did = inr (q, is, did)

-- the queues that were fetched are those that were
pub fetched-same : (old new : List HandedQueue) (end : EndId) → new ≡ old → KeepsFetched end old new
fetched-same old new end same = inl (subst (IsPermutation old) (sym same) (IsPermutation-refl old))

-- a queue that could not be adopted is kept
pub fetched-kept : (q back : HandedQueue) (old at rest new : List HandedQueue) (end : EndId) → at ≡ old → (taker_of q).end ≡ end.0 → IsTakenFrom q at rest → back ≡ q → new ≡ rest ++ back ∷ [] → KeepsFetched end old new
fetched-kept q back old at rest new end was is taken same more =
    let front = IsPermutation-sym (rest ++ q ∷ []) (q ∷ rest) (IsPermutation-to_front rest q) in
    let behind = subst (IsPermutation (q ∷ rest)) (sym (more ∙ ap (λ b. rest ++ b ∷ []) same)) front in
    elim taken [
      | inl none ↦ inr (q, is, subst (λ l. IsPermutation (q ∷ l) new) (none ∙ was) behind)
      | inr moved ↦ inl (IsPermutation-trans old (q ∷ rest) new (subst (λ l. IsPermutation l (q ∷ rest)) was moved) behind)
    ]

-- the ports were not looked for before
pub looked-new : (o : Option ReceivingState) (v : Envelope) (r : ReceivingState) → o ≡ None → IsSplit v.ports (ends_of r.found) r.missing → IsLookedForIn o v r
looked-new None v r is split = split
looked-new (Some s) v r is split = absurd cc

-- they were
pub looked-old : (o : Option ReceivingState) (v : Envelope) (r : ReceivingState) → o ≡ Some r → IsLookedForIn o v r
looked-old None v r is = absurd cc
looked-old (Some s) v r is = cc

-- what a loop took up is told of its value, and of the value that it then has
pub taken-up : {H : Type 0} (inside old after new : LoopState H) (looks : List BoardStep) (before then : Count) (had due : Result DeliveryState Bool) → inside ≡ old → after ≡ new → HasStepped inside.listener new.listener looks → had ≡ due → IsDue inside.kept inside.holding new.holding looks before then had → HasStepped old.listener after.listener looks × IsDue old.kept old.holding after.holding looks before then due
taken-up inside old after new looks before then had due was is stepped came taken = (
  subst (λ l. HasStepped l.listener after.listener looks) was (subst (λ l. HasStepped inside.listener l.listener looks) (sym is) stepped),
  subst (λ l. IsDue l.kept l.holding after.holding looks before then due) was
      (subst (λ l. IsDue inside.kept inside.holding l.holding looks before then due) (sym is) (subst (IsDue inside.kept inside.holding new.holding looks before then) came taken)),
)

-- the delivery that was kept goes on
pub due-kept : (kept : Option DeliveryState) (holding : HoldingState) (count : Count) (d : DeliveryState) → kept ≡ Some d → IsDue kept holding holding [] count count (Ok d)
due-kept None holding count d is = absurd cc
due-kept (Some k) holding count d is = (let same : d ≡ k = cc in ap Ok same, refl, refl, refl)

-- no end gave an envelope where no delivery was kept
pub due-nothing : (kept : Option DeliveryState) (old new : HoldingState) (looks : List BoardStep) (before after : Count) (served : Served) (busy : Bool) (due : Result DeliveryState Bool) → kept ≡ None → served ≡ Nothing busy → due ≡ Err busy → AreServed old.ends.next old.ends.held new.ends.held old.ends.ready.marks looks before after served → new.ends.next ≡ next_after old.ends.next served → new.closed ≡ old.closed → IsDue kept old new looks before after due
due-nothing kept old new looks before after served busy due none is came did next closed =
    subst (λ k. IsDue k old new looks before after due) (sym none)
    (subst (IsDue None old new looks before after) (sym came) (
      subst (AreServed old.ends.next old.ends.held new.ends.held old.ends.ready.marks looks before after) is did,
      next ∙ ap (next_after old.ends.next) is,
      closed,
    ))

-- an end gave one
pub due-given : (kept : Option DeliveryState) (old new : HoldingState) (looks : List BoardStep) (before after : Count) (served : Served) (key : ℕ) (v : Envelope) (d : DeliveryState) (due : Result DeliveryState Bool) → kept ≡ None → served ≡ Given key v → due ≡ Ok d → d ≡ record { envelope = v; arrival = None } → AreServed old.ends.next old.ends.held new.ends.held old.ends.ready.marks looks before after served → IsServedMarked new.ends.ready.marks served → new.ends.next ≡ next_after old.ends.next served → new.closed ≡ old.closed → IsDue kept old new looks before after due
due-given kept old new looks before after served key v d due none is came made did marked next closed =
    subst (λ k. IsDue k old new looks before after due) (sym none)
    (subst (IsDue None old new looks before after) (sym came) (
      key,
      v,
      made,
      subst (AreServed old.ends.next old.ends.held new.ends.held old.ends.ready.marks looks before after) is did,
      next ∙ ap (next_after old.ends.next) is,
      subst (IsServedMarked new.ends.ready.marks) is marked,
      closed,
    ))
