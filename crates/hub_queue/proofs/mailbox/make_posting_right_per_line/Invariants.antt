use Rattle.std.proofs.Common.{◌≡◌}
use Rattle.std.specs.Arc.{arc_value}
use Rattle.crossbeam_queue.specs.SegTies.{IsSegPassOf}
use Rattle.hub_queue.specs.declared.store.PassView.TheVariants.{Takes}
use Rattle.hub_queue.specs.Opening.{cut_so_far, new_rights}
use Rattle.hub_queue.specs.Seats.{known_by}
use Rattle.hub_queue.proofs.mailbox.make_posting_right_per_line.Given as goal

abbrev pub ghosts-split_line_pass_off_taker_pass : goal.ghosts-split_line_pass_off_taker_pass
ghosts-split_line_pass_off_taker_pass a = record { end = a.end.0; epoch = a.epoch }

abbrev pub invariant-loop-line : goal.invariant-loop-line
invariant-loop-line l = record {
  queue : IsSegPassOf (arc_value l.store).queue l.pass;
  taker : known_by l.pass ≡ Takes (cut_so_far l.end.0 l.epoch l._line);
  rights : l.rights.items ≡ new_rights (arc_value l.store).queue.web l.end.0 l.epoch l._line;
}
