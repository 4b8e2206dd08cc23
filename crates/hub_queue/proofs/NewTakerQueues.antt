-- How a queue comes into being with its gate.
use Rattle.std.proofs.Common.{◌≡◌, ℕ, zero, suc, ◌<◌, ◌≤◌, Bool, List, [], ◌∷◌, ◌++◌, map, length, refl, sym, ap, ◌∙◌, subst, inl, inr, ⊎_elim, arith, length-append, get_or, replicate}
use Rattle.std.proofs.lemmas.List.{map-append}
use Rattle.atomic_blocks.specs.Laid.{WebId}
use Rattle.hub_envelope.specs.declared.envelope.Envelope.{Envelope}
use Rattle.hub_core.specs.Sender.{by}
use Rattle.hub_envelope.specs.declared.limits.TheConstants.{MAX_LINES}
use Rattle.hub_gate.specs.GateSeats.{EntrySeat, KeeperSeat, IsOpened}
use Rattle.hub_queue.specs.declared.store.TakeView.{TakeView}
use Rattle.hub_queue.specs.declared.store.PassView.{PassView}
use Rattle.hub_queue.specs.declared.store.PassView.TheVariants.{Takes}
use Rattle.hub_queue.specs.Opening.{MayCut, new_right, new_rights, new_take, cut_so_far, IsOpenTakerQueue}
use Rattle.hub_queue.specs.TakerQueues.{CountsTaken, tags_of, HasTags, KnowsBy}
use Rattle.hub_queue.specs.Seats.{LineSeat, tag_of, take_in}

-- the end and epoch that a proof picks are those of the call
pub name_as : (e e' k k' : ℕ) (t : TakeView) → e ≡ e' → k ≡ k' → MayCut e k t → MayCut e' k' t
name_as e e' k k' t same_end same_epoch name = ⊎_elim (λ none. inl none) (λ same. inr (same.0 ∙ same_end, same.1 ∙ same_epoch)) name

pub tags_are : (web : WebId) (e k n : ℕ) → map tag_of (new_rights web e k n) ≡ tags_of web n
tags_are web e k zero = refl
tags_are web e k (suc n) = map-append tag_of (new_rights web e k n) (new_right web e k n ∷ []) ∙ ap (λ (l : List (List ℕ)). l ++ tag_of (new_right web e k n) ∷ []) (tags_are web e k n)

pub as_many : (web : WebId) (e k n : ℕ) → length (new_rights web e k n) ≡ n
as_many web e k zero = refl
as_many web e k (suc n) = let rest = as_many web e k n in omega (arith, length-append (new_rights web e k n) (new_right web e k n ∷ []))

cut_named : (e k n : ℕ) → 0 < n → cut_so_far e k n ≡ new_take e k n
cut_named e k zero some = absurd (omega arith)
cut_named e k (suc n) some = refl

-- the taker's pass and the keeper of a gate that was opened are those of a queue
pub queue_holds : (web : WebId) (e k n : ℕ) (w : PassView) (rights : List LineSeat) (keeper : KeeperSeat LineSeat) (entries : List (EntrySeat LineSeat)) → 0 < n → n ≤ MAX_LINES → w ≡ Takes (cut_so_far e k n) → rights ≡ new_rights web e k n → IsOpened tag_of rights keeper entries
    → (w ≡ Takes (take_in w)) × HasTags web (take_in w) keeper × KnowsBy keeper.at.collected (take_in w) × IsOpenTakerQueue e k n (record { queue = web; at = take_in w; keeper = keeper }) entries
queue_holds web e k n w rights keeper entries some few is rights_are opened =
    let view : take_in w ≡ new_take e k n = ap take_in is ∙ cut_named e k n some in
    let lines : (take_in w).lines ≡ n = ap (λ (t : TakeView). t.lines) view in
    let opened_now = subst (λ (r : List LineSeat). IsOpened tag_of r keeper entries) rights_are opened in (
      is ∙ ap (λ (w : PassView). Takes (take_in w)) (sym is),
      record {
        tags = ap (λ k. k.tags) opened_now.keeper_is ∙ tags_are web e k n ∙ ap (tags_of web) (sym lines);
        few = subst (λ (m : ℕ). m ≤ MAX_LINES) (sym lines) few;
      },
      subst (λ (b : Bool). KnowsBy b (take_in w)) (sym (ap (λ k. k.collected) opened_now.keeper_is)) (ap (λ (t : TakeView). t.known) view),
      record { at = view; keeper = opened_now.keeper_is; entries_are = opened_now.entries_are },
    )

-- so many zeros
abbrev pub zeros_of : ℕ → List ℕ
zeros_of n = replicate n 0

-- nothing was taken of any line
pub none_counted : (got : List Envelope) (taken : List ℕ) → got ≡ [] → taken ≡ zeros_of MAX_LINES → CountsTaken got taken
none_counted got taken none zeros line low = ap (λ (l : List ℕ). get_or l line 0) zeros ∙ zero_at MAX_LINES line ∙ ap (λ (l : List Envelope). length (by line l)) (sym none)
  where
    zero_at : (n i : ℕ) → get_or (zeros_of n) i 0 ≡ 0
    zero_at zero i = refl
    zero_at (suc n) zero = refl
    zero_at (suc n) (suc i) = zero_at n i
