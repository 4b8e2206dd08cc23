use Rattle.std.proofs.Common.{◌≡◌, ◌+◌, [], length, refl, Ok, Err, sym, ap, ◌∙◌, arith, inl, inr}
use Rattle.std.proofs.lemmas.Bool.{eqb-true}
use Rattle.hub_text.specs.TextLines.{text_lines_of}
use Rattle.hub_script.specs.Contents.{Contents}
use Rattle.hub_script.specs.Known.{Known}
use Rattle.hub_script.specs.Reader.{known}
use Rattle.hub_script.specs.Script.{script_from}
use Rattle.hub_script.proofs.Explaining.{explained}
use Rattle.hub_script.proofs.FirstBad.{by_cases}
use Rattle.hub_script.proofs.Reading.{all_read, one_more, one_obeys, refused, takes_at}
use Rattle.hub_script.proofs.script.Script.read.Goals as goal

pub returns-in-Err-clause-reads : goal.returns-in-Err-clause-reads
returns-in-Err-clause-reads c =
    elim c.in-Err.ensures.says [
      | inl h ↦ inl h
      | inr h ↦ inr (refused c.args.text.now c.loop-rest.number (known c.loop-rest.reader) c.loop-rest.rest.now c.split_off_first_text_line.result.0.now c.split_off_first_text_line.result.1.now c.in-Err.error c.split_off_first_text_line.ensures.line h c.loop-rest.invariant.so_far)
    ]

pub returns-in-Err-clause-cases : goal.returns-in-Err-clause-cases
returns-in-Err-clause-cases c = by_cases c.args.text.now (Err (c.loop-rest.number + 1, c.in-Err.error)) (returns-in-Err-clause-reads c)

pub returns-in-Err-clause-refusals : goal.returns-in-Err-clause-refusals
returns-in-Err-clause-refusals c = explained c.args.text.now (Err (c.loop-rest.number + 1, c.in-Err.error)) (returns-in-Err-clause-cases c)

pub returns-in-Err-clause-memory : goal.returns-in-Err-clause-memory
returns-in-Err-clause-memory c = λ memory. takes_at c.args.text.now c.loop-rest.number (known c.loop-rest.reader) c.loop-rest.rest.now c.split_off_first_text_line.result.0.now c.split_off_first_text_line.result.1.now c.split_off_first_text_line.ensures.line c.loop-rest.invariant.obeyed (c.in-Err.ensures.memory memory)

pub loop-rest-init : goal.loop-rest-init
loop-rest-init c = record {
  so_far = ap (λ (k : Known). script_from 1 k (text_lines_of c.args.text.now)) c.new-reader.ensures;
  obeyed = ([], refl, refl, sym c.new-reader.ensures);
  room = omega arith;
}

pub loop-rest-preserved : goal.loop-rest-preserved
loop-rest-preserved c = record {
  so_far = one_more c.args.text.now c.loop-rest.number (known c.loop-rest.reader) (known c.add_line.new.self) c.loop-rest.rest.now c.split_off_first_text_line.result.0.now c.split_off_first_text_line.result.1.now c.split_off_first_text_line.ensures.line c.in_default.ensures.says c.loop-rest.invariant.so_far;
  obeyed = one_obeys c.args.text.now c.loop-rest.number (known c.loop-rest.reader) (known c.add_line.new.self) c.loop-rest.rest.now c.split_off_first_text_line.result.0.now c.split_off_first_text_line.result.1.now c.split_off_first_text_line.ensures.line c.in_default.ensures.says c.loop-rest.invariant.obeyed;
  room = omega (arith, c.split_off_first_text_line.ensures.shorter);
}

pub returns-clause-reads : goal.returns-clause-reads
returns-clause-reads c =
    let empty : length c.loop-rest.rest.now ≡ 0 = eqb-true (length c.loop-rest.rest.now) 0 (sym c.is_empty.ensures ∙ c.loop-rest-test.false) in
    all_read c.args.text.now c.loop-rest.number (known c.loop-rest.reader) c.loop-rest.rest.now empty c.loop-rest.invariant.so_far ∙ ap (λ (x : Contents). Ok x) (sym c.into_script.ensures)

pub returns-clause-cases : goal.returns-clause-cases
returns-clause-cases c = by_cases c.args.text.now (Ok c.into_script.result) (returns-clause-reads c)

pub returns-clause-refusals : goal.returns-clause-refusals
returns-clause-refusals c = explained c.args.text.now (Ok c.into_script.result) (returns-clause-cases c)
