use Rattle.std.proofs.Common.{◌∙◌, ap, ℕ}
use Rattle.hub_core.proofs.Words.{nat_cmp, BTreeMap, BTreeSet, insert_key, Group, numbers_in}
use Rattle.hub_core.proofs.Seats.{seats, seats_first, rests, written, was_there, on_err}
use Rattle.hub_core.proofs.roster.add_to_group.Goals as goal

pub returns-in_err-insert-clause-err : goal.returns-in_err-insert-clause-err
returns-in_err-insert-clause-err c = on_err _ _
    (rests c.args.seated.now (c.get_mut.follows.lender c.insert.new.self) c.args.group _ (written c.args.seated.now (c.get_mut.follows.lender c.insert.new.self) c.args.group c.in-Some.numbers.now _ (c.get_mut.follows.holds _) c.in-Some.ensures.value)
    (c.in_err-insert.ensures.err ∙ was_there c.args.seated.now c.args.group c.in-Some.numbers.now c.in-Some.ensures.value))

pub returns-in-Some-clause-ok : goal.returns-in-Some-clause-ok
returns-in-Some-clause-ok c =
    seats c.args.seated.now (c.get_mut.follows.lender c.insert.new.self) c.args.group c.args.number _ (written c.args.seated.now (c.get_mut.follows.lender c.insert.new.self) c.args.group c.in-Some.numbers.now _ (c.get_mut.follows.holds _) c.in-Some.ensures.value)
    (c.in_ok-insert.ensures.keys ∙ ap (λ ks. insert_key nat_cmp ks c.args.number) (was_there c.args.seated.now c.args.group c.in-Some.numbers.now c.in-Some.ensures.value))

pub returns-clause-ok : goal.returns-clause-ok
returns-clause-ok c =
    seats_first c.args.seated.now c.get_mut.follows.lender-at-none c.insert-3.new.self c.args.group c.args.number _ (ap (λ (m : BTreeMap Group (BTreeSet ℕ)). m.entries) c.get_mut.follows.holds-at-none) c.in_ok-insert-3.ensures.updates
    (c.in_ok-insert-2.ensures.keys ∙ ap (λ ks. insert_key nat_cmp ks c.args.number) (c.new-numbers.ensures.empty ∙ ap numbers_in c.in_default.ensures.value))
