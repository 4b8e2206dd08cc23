use Rattle.std.proofs.Common.{◌≡◌, refl, length, lit<, true, false, sym, ◌∙◌, arith, subst, bytes_eq, codes}
use Rattle.std.specs.Str.Iter.{split_text, split_has_more, split_pattern}
use Rattle.std.proofs.lemmas.List.{length_push}
use Rattle.std.proofs.lemmas.Iterator.Consumers.{YieldsList-turn, YieldsList-end}
use Rattle.std.proofs.lemmas.Iterator.Splits.{YieldsList-from_str_split}
use Rattle.hub_text.specs.EndList.{Adds}
use Rattle.hub_text.proofs.EndLists.{all_read, one_more, refused, ReadSoFar}
use Rattle.hub_text.proofs.end_list.read_ends.Goals as goal

pub loop-number-init : goal.loop-number-init
loop-number-init c = rw c.none-ends.ensures refl

pub returns-then-not-branch : goal.returns-then-not-branch
returns-then-not-branch c =
    let list = c.args.word.now in
    let other : bytes_eq list (codes "-") ≡ false = sym c.eq.ensures ∙ c.if-eq.false in
    let text : split_text c.into_iter-number-iterator.result ≡ list = cc in
    let more : split_has_more c.into_iter-number-iterator.result ≡ true = cc in
    let at : split_pattern c.into_iter-number-iterator.result ≡ 44 = cc in
    let turn = YieldsList-turn (YieldsList-from_str_split 44 list (lit< tt) text more at) c.loop-number.yielded _ c.loop-number.yielded_by _ _ c.in-Some.number c.in-Some.is c.next.ensures.steps in
    let none = subst (λ b. Adds c.args.max c.loop-number.ends c.in-Some.number.now b c.read_and_add_end.new.ends) c.if-not-branch.true c.in_ok-read_and_add_end.ensures in
    sym (refused c.args.max list c.loop-number.ends (length c.loop-number.yielded) c.in-Some.number.now other turn c.loop-number.invariant none)

pub loop-number-preserved : goal.loop-number-preserved
loop-number-preserved c =
    let list = c.args.word.now in
    let text : split_text c.into_iter-number-iterator.result ≡ list = cc in
    let more : split_has_more c.into_iter-number-iterator.result ≡ true = cc in
    let at : split_pattern c.into_iter-number-iterator.result ≡ 44 = cc in
    let turn = YieldsList-turn (YieldsList-from_str_split 44 list (lit< tt) text more at) c.loop-number.yielded _ c.loop-number.yielded_by _ _ c.in-Some.number c.in-Some.is c.next.ensures.steps in
    let added = subst (λ b. Adds c.args.max c.loop-number.ends c.in-Some.number.now b c.read_and_add_end.new.ends) c.if-not-branch.false c.in_ok-read_and_add_end.ensures in
    subst (ReadSoFar c.args.max list c.read_and_add_end.new.ends) (sym (length_push c.loop-number.yielded c.in-Some.number))
    (one_more c.args.max list c.loop-number.ends c.read_and_add_end.new.ends (length c.loop-number.yielded) c.in-Some.number.now turn c.loop-number.invariant added)

pub returns : goal.returns
returns c =
    let list = c.args.word.now in
    let other : bytes_eq list (codes "-") ≡ false = sym c.eq.ensures ∙ c.if-eq.false in
    let text : split_text c.into_iter-number-iterator.result ≡ list = cc in
    let more : split_has_more c.into_iter-number-iterator.result ≡ true = cc in
    let at : split_pattern c.into_iter-number-iterator.result ≡ 44 = cc in
    let done = YieldsList-end (YieldsList-from_str_split 44 list (lit< tt) text more at) c.loop-number.yielded _ c.loop-number.yielded_by _ _ c.in-None.is c.next.ensures.steps in
    sym (all_read c.args.max list c.loop-number.ends (length c.loop-number.yielded) other (omega (arith, done.1)) c.loop-number.invariant)
