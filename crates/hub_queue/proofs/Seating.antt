-- The posters of a queue that was just opened.
use Rattle.std.proofs.Common.{◌≡◌, ℕ, suc, ◌+◌, ◌<◌, ◌≤◌, List, [], ◌∷◌, ◌++◌, map, length, reverse, get_or, refl, sym, ap, ◌∙◌, subst, arith, append_assoc, Option, Some, None}
use Rattle.std.specs.Prelude.{slice_get}
use Rattle.std.proofs.lemmas.List.{reverse-append, length-map}
use Rattle.std.proofs.lemmas.Option.{slice_get-get_or}
use Rattle.atomic_blocks.specs.Laid.{WebId}
use Rattle.atomic_table.specs.Seated.{TableId}
use Rattle.hub_envelope.specs.declared.ids.EndId.{EndId}
use Rattle.hub_envelope.specs.declared.limits.TheConstants.{MAX_MOVES}
use Rattle.hub_gate.specs.GateRule.{Tags, new_line, keeper_at}
use Rattle.hub_gate.specs.GateSeats.{EntrySeat, first_entries}
use Rattle.hub_core.proofs.Items.{some_is, got-map}
use Rattle.hub_queue.specs.Mailboxes.{new_stand, new_stands, stands_at, IsNewTakerQueue, IsOpenMailbox}
use Rattle.hub_queue.specs.Opening.{new_right, new_rights, IsOpenTakerQueue}
use Rattle.hub_queue.specs.TakerQueues.{TakerQueueSeat}
use Rattle.hub_bell.specs.Seats.{Done, silent}
use Rattle.hub_queue.specs.Standing.{StandSeat, IsStand, IsUnused}
use Rattle.hub_queue.specs.Seats.{LineSeat, tag_of}
use Rattle.hub_queue.proofs.Below.{many_below, at_below}
use Rattle.hub_queue.proofs.NewTakerQueues.{tags_are, as_many}

right_at : (web : WebId) (e k n i : ℕ) → i < n → slice_get (new_rights web e k n) i ≡ Some (new_right web e k i)
right_at web e k n i low = at_below (λ i. new_right web e k i) (λ n. new_rights web e k n) refl (λ n. refl) n i low

-- the entry of a line of a gate with these tags and rights
abbrev entry_of : TableId → Tags → List LineSeat → ℕ → EntrySeat LineSeat
entry_of gate tags rights i = record { gate = gate; at = new_line i (get_or tags i []) (slice_get rights i) }

-- the entries of a new queue are those of its lines, in order
pub entry_at : (end : EndId) (epoch lines : ℕ) (p : TakerQueueSeat) (entries : List (EntrySeat LineSeat)) → IsOpenTakerQueue end.0 epoch lines p entries → (i : ℕ) → i < length entries → slice_get entries i ≡ Some (new_stand p.keeper.gate p.queue end epoch i).entry
entry_at end epoch lines p entries opened i low =
    let rights : List LineSeat = new_rights p.queue end.0 epoch lines in
    let tags : Tags = map tag_of rights in
    let many : length rights ≡ lines = as_many p.queue end.0 epoch lines in
    let same_count : length entries ≡ length rights = ap length opened.entries_are ∙ many_below (entry_of p.keeper.gate tags rights) (λ n. first_entries p.keeper.gate tags rights n) refl (λ n. refl) (length rights) in
    let own : slice_get rights i ≡ Some (new_right p.queue end.0 epoch i) = right_at p.queue end.0 epoch lines i (omega arith) in
    let longer = length-map rights tag_of in
    let tagged : slice_get tags i ≡ Some (tag_of (new_right p.queue end.0 epoch i)) = got-map tag_of rights i _ own in
    let tag_is : get_or tags i [] ≡ tag_of (new_right p.queue end.0 epoch i) = some_is _ _ (sym (slice_get-get_or tags i [] (omega arith)) ∙ tagged) in
    ap (λ (l : List (EntrySeat LineSeat)). slice_get l i) opened.entries_are
    ∙ at_below (entry_of p.keeper.gate tags rights) (λ n. first_entries p.keeper.gate tags rights n) refl (λ n. refl) (length rights) i (omega arith)
    ∙ (λ j. Some (record { gate = p.keeper.gate; at = new_line i (tag_is j) (own j) }))

-- as many entries as lines
pub many_entries : (end : EndId) (epoch lines : ℕ) (p : TakerQueueSeat) (entries : List (EntrySeat LineSeat)) → IsOpenTakerQueue end.0 epoch lines p entries → length entries ≡ lines
many_entries end epoch lines p entries opened =
    let rights : List LineSeat = new_rights p.queue end.0 epoch lines in
    ap length opened.entries_are ∙ many_below (entry_of p.keeper.gate (map tag_of rights) rights) (λ n. first_entries p.keeper.gate (map tag_of rights) rights n) refl (λ n. refl) (length rights) ∙ as_many p.queue end.0 epoch lines

-- what is popped off the list that was turned round is the next of the list
pub next_is : {A : Type 0} (all done before left : List A) (x : A) → all ≡ done ++ reverse before → before ≡ left ++ x ∷ [] → (all ≡ (done ++ x ∷ []) ++ reverse left) × (slice_get all (length done) ≡ Some x)
next_is {A = A} all done before left x is last =
    let turned : reverse before ≡ x ∷ reverse left = ap reverse last ∙ reverse-append left (x ∷ []) in
    let parts : all ≡ done ++ x ∷ reverse left = is ∙ ap (λ (l : List A). done ++ l) turned in
    (parts ∙ sym (append_assoc done (x ∷ []) (reverse left)), ap (λ (l : List A). slice_get l (length done)) parts ∙ here done x (reverse left))
  where
    here : (xs : List A) (y : A) (ys : List A) → slice_get (xs ++ y ∷ ys) (length xs) ≡ Some y
    here [] y ys = refl
    here (z ∷ xs) y ys = here xs y ys

-- the first lines of an end, and one more
pub stands_more : (gate : TableId) (web : WebId) (end : EndId) (epoch line : ℕ) → stands_at gate web end epoch (line + 1) ≡ stands_at gate web end epoch line ++ new_stand gate web end epoch line ∷ []
stands_more gate web end epoch line = let e : line + 1 ≡ suc line = omega arith in ap (stands_at gate web end epoch) e

-- a line with this entry, at a queue of this epoch
abbrev pub stand_of : EndId → ℕ → ℕ → EntrySeat LineSeat → Done → List (Option (EntrySeat LineSeat)) → StandSeat
stand_of end epoch line entry rung left = record { name = record { end = end; epoch = epoch; line = record { 0 = line } }; entry = entry; rung = rung; left = left }

-- a line that has just got its entry stands at the queue, and has put nothing
pub stand_holds : (gate : TableId) (web : WebId) (end : EndId) (epoch line : ℕ) (entry : EntrySeat LineSeat) (rung : Done) (left : List (Option (EntrySeat LineSeat))) → epoch ≤ MAX_MOVES → rung ≡ silent → entry ≡ (new_stand gate web end epoch line).entry → IsStand (stand_of end epoch line entry rung left) × IsUnused (stand_of end epoch line entry rung left)
stand_holds gate web end epoch line entry rung left few quiet is = subst (λ (x : EntrySeat LineSeat). IsStand (stand_of end epoch line x rung left) × IsUnused (stand_of end epoch line x rung left)) (sym is) (
  record {
    home = refl;
    name = record { end = refl; epoch = refl; line = refl };
    line = refl;
    moves = few;
  },
  record { put = record { put = refl; refused = refl }; enters = refl; quiet = quiet },
)

-- the queue is new
pub new_taker_queue : (e k n : ℕ) (p : TakerQueueSeat) (entries : List (EntrySeat LineSeat)) → IsOpenTakerQueue e k n p entries → IsNewTakerQueue e k n p
new_taker_queue e k n p entries opened = record {
  at = opened.at;
  keeper = opened.keeper ∙ (λ i. keeper_at (tags_are p.queue e k n i) (new_rights p.queue e k n) (as_many p.queue e k n i));
}

pub mailbox_opened : (end : EndId) (lines : ℕ) (p : TakerQueueSeat) (entries : List (EntrySeat LineSeat)) (posters : List StandSeat) → IsOpenTakerQueue end.0 0 lines p entries → posters ≡ new_stands p.keeper.gate p.queue end p.at.lines → IsOpenMailbox end lines (record { end = end.0; epoch = 0; retired = []; newest = p; left = None }) posters
mailbox_opened end lines p entries posters opened posters_are =
    let same : p.at.lines ≡ lines = ap (λ t. t.lines) opened.at in record {
      taker_is = refl;
      newest = new_taker_queue end.0 0 lines p entries opened;
      posters_are = posters_are ∙ ap (new_stands p.keeper.gate p.queue end) same;
    }
