-- The last word of a gate shows what its keeper knows.
use Rattle.std.proofs.Common.{◌≡◌, ℕ, ◌≤◌, List, length, refl, sym, ap, ◌∙◌, arith, Option}
use mathlib.Core.Option.{some}
use lib.ListN.{get_elem?}
use Rattle.atomic_table.specs.Table.{Final, Seen}
use Rattle.hub_core.specs.GateMachine as machine
use Rattle.hub_gate.specs.declared.view.View.{View}
use Rattle.hub_gate.specs.declared.view.View.TheVariants.{Keeping}
use Rattle.hub_gate.specs.declared.view.KeeperView.{KeeperView}
use Rattle.hub_gate.specs.GateRule.{IsKeeper, ShowsGate, IsGate}
use Rattle.hub_gate.specs.LastWord.{IsLastWord}
use Rattle.hub_gate.proofs.EveryGate.{word_shows}
use Rattle.hub_gate.proofs.Seats.{shown_where}

at_most : (count busy phases tags own : ℕ) → count ≡ busy → busy ≤ phases → phases ≡ tags → own ≡ tags → count ≤ own
at_most count busy phases tags own is le lines same = omega arith

same_word : (n m : ℕ) → some n ≡ some m → n ≡ m
same_word n m e = cc

module _ {T : Type 0} (tag : T → List ℕ) where
  pub last_word : (id : ℕ) (k : KeeperView T) (v : View T) (words : List ℕ) (slots : List (Option T)) (word : ℕ) → v ≡ Keeping k → Final (Seen (IsGate tag) id v) words slots → get_elem? words 0 ≡ some word → IsLastWord k word
  last_word id k v words slots word is final at =
      let s = final.0 in
      let seen : get_elem? s.views id ≡ some (Keeping k) = final.1.1 ∙ ap some is in
      let shown : ShowsGate tag s = shown_where tag s id (Keeping k) refl seen final.1.0 in
      let own : IsKeeper shown.tags shown.gate (length s.views) id k = shown.seats id (Keeping k) seen in
      let its : word ≡ machine.word shown.gate = same_word word (machine.word shown.gate) (sym at ∙ ap (λ (l : List ℕ). get_elem? l 0) (sym final.2 ∙ shown.word)) in
      let shows = word_shows tag shown.gate in
      record {
        enabled = ap machine.enabled_in its ∙ shows.enabled ∙ sym own.shows.enabled;
        moved = ap machine.moved_in its ∙ shows.moved ∙ sym own.shows.moved;
        closed = ap machine.closed_in its ∙ shows.closed ∙ sym own.shows.closed;
        count = at_most (machine.count_in word) (machine.busy shown.gate) (length shown.gate.phases) (length shown.tags) (length k.tags) (ap machine.count_in its ∙ shows.count) shows.at_most shown.lines (ap length own.shows.tags);
      }
