-- The laws of all gates.
use Rattle.std.proofs.Common.{◌≡◌, ℕ, ◌+◌, ◌*◌, List, sym, ◌∙◌, refl, arith}
use Rattle.hub_core.specs.declared.line.Phase.{Phase}
use Rattle.hub_core.specs.declared.line.Phase.TheVariants.{Out, Inside, Turned}
use Rattle.hub_core.specs.GateMachine as machine
use Rattle.hub_core.specs.GateMachine.{Gate, Steps, finds_moved, finds_closed, goes_in, goes_out, turns_back, enables, retires, closes}
use Rattle.hub_gate.specs.declared.word.Flag.TheVariants as flag
use Rattle.hub_gate.specs.declared.view.View.TheVariants.{Keeping, LineInside}
use Rattle.hub_gate.specs.GateRule.{Owns, IsGate}
use Rattle.hub_gate.specs.GateLaws.{NoneInAfterRights, NoSeatInAfterRights, ChangesWord, EachStepChangesTheWord, TheWordShowsTheGate}
use Rattle.hub_gate.proofs.AfterRights.{over, over_from}
use Rattle.hub_gate.proofs.Found.{busy_le}
use Rattle.hub_gate.proofs.Got.{sum_by-got_set}
use Rattle.hub_gate.proofs.Seats.{shown_where}
use Rattle.hub_gate.proofs.Words.{or_flag, reads_flag, reads_count}

pub none_in : {T : Type 0} (tag : T → List ℕ) → NoneInAfterRights tag
none_in tag tags g later reached given follows = over_from (Owns tag tags) g reached given later follows

pub no_seat_in : {T : Type 0} (tag : T → List ℕ) → NoSeatInAfterRights (IsGate tag)
no_seat_in tag s kept keeper seat k v at given there =
    let shown = shown_where tag s keeper (Keeping k) refl at kept in
    let own = shown.seats keeper (Keeping k) at in
    let line = shown.seats seat (LineInside v) there in
    (over (Owns tag shown.tags) shown.gate shown.reached (sym own.shows.collected ∙ given)).nobody v.line line.at

-- one line more or less in the word
one_more : (F n m : ℕ) → m ≡ n + 1 → F + 256 * m ≡ F + 256 * n + 256
one_more F n m is = omega arith

module _ {R : Type 0} (owns : ℕ → R → Type 0) (g : Gate R) where
  abbrev flags : ℕ
  flags = machine.flags_of g.enabled g.moved g.closed

  -- a line goes from a phase to another
  busy_with : (l : ℕ) (p q : Phase) → machine.IsAt g l p → machine.busy (machine.with_phase g l q) + machine.weight p ≡ machine.busy g + machine.weight q
  busy_with l p q at = sum_by-got_set machine.weight g.phases l p q at

  word_up : (l : ℕ) (q : Phase) → machine.IsAt g l Out → machine.weight q ≡ 1 → machine.word (machine.with_phase g l q) ≡ machine.word g + 256
  word_up l q at one = let b = busy_with l Out q at in one_more flags (machine.busy g) (machine.busy (machine.with_phase g l q)) (omega arith)

  word_down : (l : ℕ) (p : Phase) → machine.IsAt g l p → machine.weight p ≡ 1 → machine.word g ≡ machine.word (machine.with_phase g l Out) + 256
  word_down l p at one = let b = busy_with l p Out at in one_more flags (machine.busy (machine.with_phase g l Out)) (machine.busy g) (omega arith)

  changes_word : (g' : Gate R) {event : _} {answer : _} → Steps owns g event answer g' → ChangesWord event (machine.word g) (machine.word g')
  changes_word g' (finds_moved l at m) = word_up l Turned at refl
  changes_word g' (finds_closed l at m c) = word_up l Turned at refl
  changes_word g' (goes_in l r at m c there) = word_up l Inside at refl
  changes_word g' (goes_out l r at own) = word_down l Inside at refl
  changes_word g' (turns_back l at) = word_down l Turned at refl
  changes_word g' enables = sym (or_flag flag.Enabled g)
  changes_word g' retires = sym (or_flag flag.Moved g)
  changes_word g' closes = sym (or_flag flag.Closed g)
  changes_word g' _ = refl

pub each_step : {T : Type 0} (tag : T → List ℕ) → EachStepChangesTheWord tag
each_step tag tags g after event answer step = changes_word (Owns tag tags) g after step

pub word_shows : {T : Type 0} (tag : T → List ℕ) → TheWordShowsTheGate tag
word_shows tag g = record {
  enabled = reads_flag flag.Enabled g.enabled g.moved g.closed (machine.busy g);
  moved = reads_flag flag.Moved g.enabled g.moved g.closed (machine.busy g);
  closed = reads_flag flag.Closed g.enabled g.moved g.closed (machine.busy g);
  count = reads_count g.enabled g.moved g.closed (machine.busy g);
  at_most = busy_le g.phases;
}
