use Rattle.std.proofs.Common.{rules, ◌≡◌, ◌+◌, List, [], ◌∷◌, Option, Some, None, length, refl, true, false, bytes_eq, Ok, Err, inr, sym, ap, ◌∙◌, arith}
use Rattle.std.proofs.lemmas.Bool.{eqb-true}
use Rattle.hub_trace.specs.declared.read.TheConstants.{LOGS_END}
use Rattle.hub_trace.specs.declared.error.LogError.TheVariants as error
use Rattle.hub_trace.specs.Accepted.{AgentLog}
use Rattle.hub_trace.specs.LogVersion.{version_of}
use Rattle.hub_trace.specs.declared.log_version.LogVersion.{LogVersion}
use Rattle.hub_text.specs.TextLines.{text_lines_of}
use Rattle.hub_trace.specs.Read.{HasHeader, below_header, logs_below, logs_from}
use Rattle.hub_trace.proofs.Reading.{nothing_read, none_other, no_other, other_header, at_end, comes_below, refused, one_more, one_gone, all_read, has_header_of, takes_at}
use Rattle.hub_trace.proofs.WrittenLogs.{read_back}
use Rattle.hub_trace.proofs.read.read_logs.Goals as goal

pub returns-then-is_empty-clause-bad_header : goal.returns-then-is_empty-clause-bad_header
returns-then-is_empty-clause-bad_header c = λ other.
    let empty : length c.args.bytes.now ≡ 0 = eqb-true (length c.args.bytes.now) 0 (sym c.is_empty.ensures ∙ c.if-is_empty.true) in
    absurd (none_other c.args.bytes.now empty other)

pub returns-then-is_empty-clause-reads : goal.returns-then-is_empty-clause-reads
returns-then-is_empty-clause-reads c =
    let empty : length c.args.bytes.now ≡ 0 = eqb-true (length c.args.bytes.now) 0 (sym c.is_empty.ensures ∙ c.if-is_empty.true) in
    nothing_read c.args.bytes.now empty ∙ ap (λ (logs : List AgentLog). Ok logs) (sym c.new-logs.ensures.items)

pub returns-in_default-clause-written : goal.returns-in_default-clause-written
returns-in_default-clause-written c =
    let header = c.split_off_first_text_line.result.0.now in
    let none : version_of header ≡ None = sym c.of_header.ensures ∙ c.in_default.is in
    read_back (λ (v : List AgentLog). v) c.args.bytes.now (Err (1, error.BadHeader)) (inr (other_header c.args.bytes.now header c.split_off_first_text_line.result.1.now c.split_off_first_text_line.ensures.line none))

pub returns-then-eq-clause-bad_header : goal.returns-then-eq-clause-bad_header
returns-then-eq-clause-bad_header c = λ other.
    let header = c.split_off_first_text_line.result.0.now in
    let found : version_of header ≡ Some c.in-Some.version = sym c.of_header.ensures ∙ c.in-Some.is in
    let has : HasHeader c.args.bytes.now = (c.in-Some.version, has_header_of c.in-Some.version c.args.bytes.now header c.split_off_first_text_line.result.1.now c.split_off_first_text_line.ensures.line found) in
    absurd (no_other c.args.bytes.now has other)

pub returns-in-Err-clause-bad_header : goal.returns-in-Err-clause-bad_header
returns-in-Err-clause-bad_header c = λ other.
    let header = c.split_off_first_text_line.result.0.now in
    let found : version_of header ≡ Some c.in-Some.version = sym c.of_header.ensures ∙ c.in-Some.is in
    let has : HasHeader c.args.bytes.now = (c.in-Some.version, has_header_of c.in-Some.version c.args.bytes.now header c.split_off_first_text_line.result.1.now c.split_off_first_text_line.ensures.line found) in
    absurd (no_other c.args.bytes.now has other)

pub returns-clause-bad_header : goal.returns-clause-bad_header
returns-clause-bad_header c = λ other.
    let header = c.split_off_first_text_line.result.0.now in
    let found : version_of header ≡ Some c.in-Some.version = sym c.of_header.ensures ∙ c.in-Some.is in
    let has : HasHeader c.args.bytes.now = (c.in-Some.version, has_header_of c.in-Some.version c.args.bytes.now header c.split_off_first_text_line.result.1.now c.split_off_first_text_line.ensures.line found) in
    absurd (no_other c.args.bytes.now has other)

pub returns-then-eq-clause-reads : goal.returns-then-eq-clause-reads
returns-then-eq-clause-reads c =
    let line = c.split_off_first_text_line-in-loop-rest.result.0.now in
    let ends : bytes_eq line LOGS_END.now ≡ true = sym (ap (bytes_eq line) c.as_bytes.ensures.value) ∙ sym c.eq.ensures ∙ c.if-eq.true in
    at_end c.in-Some.version c.args.bytes.now c.loop-rest.number c.loop-rest.logs.items c.loop-rest.rest.now line c.split_off_first_text_line-in-loop-rest.result.1.now c.loop-rest.invariant.so_far c.split_off_first_text_line-in-loop-rest.ensures.line ends

pub returns-in-Err-clause-reads : goal.returns-in-Err-clause-reads
returns-in-Err-clause-reads c =
    let line = c.split_off_first_text_line-in-loop-rest.result.0.now in
    let goes_on : bytes_eq line LOGS_END.now ≡ false = sym (ap (bytes_eq line) c.as_bytes.ensures.value) ∙ sym c.eq.ensures ∙ c.if-eq.false in
    refused c.in-Some.version c.in-Err.error c.args.bytes.now c.loop-rest.number c.loop-rest.logs.items c.loop-rest.rest.now line c.split_off_first_text_line-in-loop-rest.result.1.now c.loop-rest.invariant.so_far c.split_off_first_text_line-in-loop-rest.ensures.line goes_on c.in-Err.ensures.says

pub loop-rest-init : goal.loop-rest-init
loop-rest-init c =
    let header = c.split_off_first_text_line.result.0.now in
    let lines = text_lines_of c.split_off_first_text_line.result.1.now in
    let found : version_of header ≡ Some c.in-Some.version = sym c.of_header.ensures ∙ c.in-Some.is in
    record {
      some = omega arith;
      room = omega (arith, c.split_off_first_text_line.ensures.shorter);
      closed = search rules;
      within = search rules;
      so_far =
          ap (λ (logs : List AgentLog). logs_from c.in-Some.version 2 logs lines) c.new-logs.ensures.items
          ∙ sym (ap below_header c.split_off_first_text_line.ensures.line ∙ ap (λ (v : Option LogVersion). logs_below v lines) found);
      gone = (header ∷ [], c.split_off_first_text_line.ensures.line, refl);
    }

pub loop-rest-preserved : goal.loop-rest-preserved
loop-rest-preserved c =
    let line = c.split_off_first_text_line-in-loop-rest.result.0.now in
    let goes_on : bytes_eq line LOGS_END.now ≡ false = sym (ap (bytes_eq line) c.as_bytes.ensures.value) ∙ sym c.eq.ensures ∙ c.if-eq.false in
    record {
      some = omega arith;
      room = omega (arith, c.split_off_first_text_line-in-loop-rest.ensures.shorter);
      closed = c.in_default-add_line_to_logs.ensures.closed;
      within = c.in_default-add_line_to_logs.ensures.within c.loop-rest.invariant.within;
      gone = one_gone c.args.bytes.now c.loop-rest.number c.loop-rest.rest.now line c.split_off_first_text_line-in-loop-rest.result.1.now c.loop-rest.invariant.gone c.split_off_first_text_line-in-loop-rest.ensures.line;
      so_far = one_more c.in-Some.version c.args.bytes.now c.loop-rest.number c.loop-rest.logs.items c.add_line_to_logs.new.logs.items c.loop-rest.rest.now line c.split_off_first_text_line-in-loop-rest.result.1.now c.loop-rest.invariant.so_far c.split_off_first_text_line-in-loop-rest.ensures.line goes_on c.in_default-add_line_to_logs.ensures.says;
    }

pub returns-clause-reads : goal.returns-clause-reads
returns-clause-reads c =
    let empty : length c.loop-rest.rest.now ≡ 0 = eqb-true (length c.loop-rest.rest.now) 0 (sym c.is_empty-in-loop-rest.ensures ∙ c.loop-rest-test.false) in
    all_read c.in-Some.version c.args.bytes.now c.loop-rest.number c.loop-rest.logs.items c.loop-rest.rest.now c.loop-rest.invariant.so_far empty

pub returns-then-eq-clause-written : goal.returns-then-eq-clause-written
returns-then-eq-clause-written c = read_back (λ (v : List AgentLog). v) c.args.bytes.now (Ok c.loop-rest.logs.items) (returns-then-eq-clause-reads c)

pub returns-in-Err-clause-written : goal.returns-in-Err-clause-written
returns-in-Err-clause-written c = read_back (λ (v : List AgentLog). v) c.args.bytes.now (Err (c.loop-rest.number + 1, c.in-Err.error)) (returns-in-Err-clause-reads c)

pub returns-clause-written : goal.returns-clause-written
returns-clause-written c = read_back (λ (v : List AgentLog). v) c.args.bytes.now (Ok c.loop-rest.logs.items) (returns-clause-reads c)

pub returns-in-Err-clause-errors : goal.returns-in-Err-clause-errors
returns-in-Err-clause-errors c =
    let header = c.split_off_first_text_line.result.0.now in
    let found : version_of header ≡ Some c.in-Some.version = sym c.of_header.ensures ∙ c.in-Some.is in
    let has : HasHeader c.args.bytes.now = (c.in-Some.version, has_header_of c.in-Some.version c.args.bytes.now header c.split_off_first_text_line.result.1.now c.split_off_first_text_line.ensures.line found) in
    comes_below c.in-Some.version c.in-Err.error c.args.bytes.now c.loop-rest.number c.loop-rest.logs.items c.split_off_first_text_line-in-loop-rest.result.0.now has c.loop-rest.invariant.some c.in-Err.ensures.says

pub returns-in-Err-clause-memory : goal.returns-in-Err-clause-memory
returns-in-Err-clause-memory c = λ memory.
    let header = c.split_off_first_text_line.result.0.now in
    let found : version_of header ≡ Some c.in-Some.version = sym c.of_header.ensures ∙ c.in-Some.is in
    takes_at c.in-Some.version c.args.bytes.now c.loop-rest.number c.loop-rest.rest.now c.split_off_first_text_line-in-loop-rest.result.0.now c.split_off_first_text_line-in-loop-rest.result.1.now
    (has_header_of c.in-Some.version c.args.bytes.now header c.split_off_first_text_line.result.1.now c.split_off_first_text_line.ensures.line found)
    c.loop-rest.invariant.gone c.split_off_first_text_line-in-loop-rest.ensures.line (c.in-Err.ensures.memory memory)
