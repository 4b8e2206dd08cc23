use Rattle.std.proofs.Common.{◌+◌, take, ◌∷◌, ap, sym, ◌∙◌, arith}
use Rattle.hub_text.specs.TextLines.{text_lines_of}
use Rattle.hub_text.proofs.FirstTextLine.{first_of, last_of, whole_rest, no_rest, is_end, no_end}
use Rattle.hub_text.proofs.words.split_off_first_text_line.Goals as goal

pub returns-in-Some-clause-line : goal.returns-in-Some-clause-line
returns-in-Some-clause-line c =
    let bytes = c.args.bytes.now in
    let end = c.in-Some.end in
    let h = c.in-Some.ensures in
    first_of bytes end h.0.high (is_end bytes end h.1) (λ i lt. no_end bytes i (h.0.before i (omega arith) lt))
    ∙ ap (λ xs. take end bytes ∷ text_lines_of xs) (sym (whole_rest bytes (end + 1)))

pub returns-in-None-clause-line : goal.returns-in-None-clause-line
returns-in-None-clause-line c =
    let bytes = c.args.bytes.now in
    last_of bytes c.requires (λ k lt. no_end bytes k (c.in-None.ensures k (omega arith) lt))
    ∙ ap (λ xs. bytes ∷ text_lines_of xs) (sym (no_rest bytes))
