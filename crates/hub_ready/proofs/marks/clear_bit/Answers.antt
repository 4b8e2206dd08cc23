use Rattle.std.proofs.Common.{◌≡◌, ◌/◌, ◌∙◌, slice_index}
use Rattle.std.proofs.lemmas.Grind.{get_or_default_zero}
use Rattle.hub_ready.proofs.BitLemmas.{clear-clear, clear-others}
use Rattle.hub_ready.proofs.marks.clear_bit.Goals as goal

pub returns-clause-clear : goal.returns-clause-clear
returns-clause-clear c =
    let is : c.index_mut.result.now ≡ slice_index c.args.words.now.items (c.args.key / 64) = c.index_mut.ensures.value ∙ get_or_default_zero _ _ _ c.requires in
    rw is (clear-clear c.args.words.now.items c.args.key c.requires)

pub returns-clause-others : goal.returns-clause-others
returns-clause-others c =
    let is : c.index_mut.result.now ≡ slice_index c.args.words.now.items (c.args.key / 64) = c.index_mut.ensures.value ∙ get_or_default_zero _ _ _ c.requires in
    rw is (clear-others c.args.words.now.items c.args.key c.requires)
