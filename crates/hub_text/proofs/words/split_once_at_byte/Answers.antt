use Rattle.std.proofs.Common.{◌≡◌, ℕ, ◌<◌, length, get_or, false, eqb, option_map, rules, arith, sym, ap, ◌∙◌}
use Rattle.std.proofs.lemmas.Grind.{common_steps}
use Rattle.std.proofs.lemmas.Str.{IsCharBoundary-after_ascii}
use Rattle.hub_text.proofs.Cuts.{IsFirst, is_byte, cut_there, cut_nowhere}
use Rattle.hub_text.proofs.words.split_once_at_byte.Goals as goal

pub returns-in_err-end : goal.returns-in_err-end
returns-in_err-end c =
    let text = c.args.text.now in
    let none : (k : ℕ) → k < length text → eqb (get_or text k 0) c.args.byte ≡ false = search rules in
    ap (λ r. option_map (λ x. (x.0.now, x.1.now)) r) c.from_residual.ensures ∙ sym (cut_nowhere c.args.byte text none)

pub range_from-requires : goal.range_from-requires
range_from-requires c =
    let text = c.args.text.now in
    let end = c.in_ok-end.end in
    let first : IsFirst c.args.byte text end = record { within = search rules; here = search rules; before = search rules } in
    λ _. IsCharBoundary-after_ascii text end c.utf8.text first.within (omega (arith, c.requires, is_byte c.args.byte text end first))

pub returns : goal.returns
returns c =
    let text = c.args.text.now in
    let end = c.in_ok-end.end in
    let first : IsFirst c.args.byte text end = record { within = search rules; here = search rules; before = search rules } in
    let word = c.range.ensures.value in
    let rest = c.range_from.ensures.value in
    grind (arith, common_steps, word, rest, cut_there c.args.byte text end first)
