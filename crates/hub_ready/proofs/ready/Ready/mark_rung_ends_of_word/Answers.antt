use Rattle.hub_bell.specs.Listening.{taking}
use Rattle.std.proofs.Common.{◌+◌, rules}
use Rattle.hub_ready.proofs.FindLemmas.{marks-taken, word-emptied, word-found, word-marked}
use Rattle.hub_ready.proofs.ready.Ready.mark_rung_ends_of_word.Goals as goal

pub returns-clause-found : goal.returns-clause-found
returns-clause-found c =
    let taken = c.take_bits_of_word-bits.ensures in
    (taking (16 + c.args.word) taken.1.0 c.take_bits_of_word-bits.result, (taken.0, taken.1.1), word-found c.args.word c.take_bits_of_word-bits.result taken.1.0 c.mark_ends_of_bits.new.self.listed.items c.mark_ends_of_bits.new.self.marks taken.1.2 c.mark_ends_of_bits.ensures.found)

pub returns-clause-only : goal.returns-clause-only
returns-clause-only c =
    let taken = c.take_bits_of_word-bits.ensures in
    (taking (16 + c.args.word) taken.1.0 c.take_bits_of_word-bits.result, (taken.0, taken.1.1), marks-taken c.args.word c.take_bits_of_word-bits.result taken.1.0 _ _ c.mark_ends_of_bits.new.self.marks taken.1.2 c.mark_ends_of_bits.ensures.only)

pub returns-clause-marked : goal.returns-clause-marked
returns-clause-marked c =
    let taken = c.take_bits_of_word-bits.ensures in
    (taking (16 + c.args.word) taken.1.0 c.take_bits_of_word-bits.result, (taken.0, taken.1.1), word-marked c.args.word c.take_bits_of_word-bits.result taken.1.0 c.mark_ends_of_bits.new.self.listed.items c.mark_ends_of_bits.new.self.marks (search rules) c.mark_ends_of_bits.ensures.found)

pub returns-clause-emptied : goal.returns-clause-emptied
returns-clause-emptied c =
    let taken = c.take_bits_of_word-bits.ensures in
    let emptied = word-emptied c.args.word c.take_bits_of_word-bits.result taken.1.0 in
    (taking (16 + c.args.word) taken.1.0 c.take_bits_of_word-bits.result, (taken.0, taken.1.1), emptied.0, emptied.1)
