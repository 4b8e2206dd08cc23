use Rattle.std.proofs.Common.{◌+◌, ◌<◌, ◌^◌, ◌/◌, arith, rules, w64}
use Rattle.std.proofs.lemmas.Nat.Bits.{bit_at-trailing_zeros}
use Rattle.hub_ready.proofs.BitLemmas.{moved-none, moved-set, moved-clear, moved-small}
use Rattle.hub_ready.proofs.marks.first_set_bit_from.Goals as goal

pub returns-then-rest-eq0-clause-none : goal.returns-then-rest-eq0-clause-none
returns-then-rest-eq0-clause-none c = moved-none c.args.word c.args.from c.if-rest-eq0.true

pub returns-clause-some : goal.returns-clause-some
returns-clause-some c =
    let some : 0 < c.args.word / 2 ^ c.args.from = omega (arith, c.if-rest-eq0.false) in
    let fits : c.args.word / 2 ^ c.args.from < 2 ^ 64 = search rules in
    let lowest = bit_at-trailing_zeros w64 (c.args.word / 2 ^ c.args.from) some fits in
    let set = moved-set c.args.word c.args.from some fits in
    let small : c.args.from + lib.Count.count_trailing_zeros 64 (c.args.word / 2 ^ c.args.from) < 64 = moved-small c.args.word c.args.from some fits (search rules) in (
      omega arith,
      small,
      set,
      moved-clear c.args.word c.args.from some fits,
    )
