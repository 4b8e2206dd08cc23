use Rattle.std.proofs.Common.{◌≡◌, ◌/◌, ◌∙◌, slice_index}
use Rattle.std.proofs.lemmas.Grind.{get_or_default_zero}
use Rattle.hub_ready.proofs.BitLemmas.{set-set, set-others}
use Rattle.hub_ready.proofs.marks.set_bit.Goals as goal

pub returns-clause-set : goal.returns-clause-set
returns-clause-set c =
    let is : c.index_mut.result.now ≡ slice_index c.args.words.now.items (c.args.key / 64) = c.index_mut.ensures.value ∙ get_or_default_zero _ _ _ c.requires in
    rw is (set-set c.args.words.now.items c.args.key c.requires)

pub returns-clause-others : goal.returns-clause-others
returns-clause-others c =
    let is : c.index_mut.result.now ≡ slice_index c.args.words.now.items (c.args.key / 64) = c.index_mut.ensures.value ∙ get_or_default_zero _ _ _ c.requires in
    rw is (set-others c.args.words.now.items c.args.key c.requires)
