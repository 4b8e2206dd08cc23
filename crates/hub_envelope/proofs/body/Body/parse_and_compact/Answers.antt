use Rattle.std.proofs.lemmas.Str.{IsUtf8-string_bytes}
use Rattle.std.proofs.Common.{◌<◌, ◌≤◌, length, Ok, Err, ap, sym, subst, ◌∙◌, inl, inr, arith, true≢false}
use Rattle.serde_json.specs.Data.{depth}
use Rattle.serde_json.specs.View.{view}
use Rattle.serde_json.specs.Written.{has_float, compact_text}
use Rattle.hub_envelope.specs.BodyText.{IsBodyText}
use Rattle.hub_envelope.specs.declared.limits.TheConstants.{MAX_NESTING, MAX_BODY_BYTES}
use Rattle.hub_envelope.proofs.Answers.{answer_of-not_json, answer_of-not_whole, answer_of-too_deep, answer_of-too_long, answer_of-body, IsInProfile-read, IsAnswerTo-equal, read-nonempty, from_not_true, from_not_false}
use Rattle.hub_envelope.proofs.body.Body.parse_and_compact.Goals as goal
use Rattle.hub_envelope.proofs.body.Body.parse_and_compact.Goals.{then-is_memory, else-is_memory}

pub returns-in-Err-clause-err : goal.returns-in-Err-clause-err
returns-in-Err-clause-err c =
    elim c.if-is_memory.branch [
      | then-is_memory w ↦ inl w.result-is
      | else-is_memory w ↦
          let unread = c.in-Err.ensures.err (λ memory. true≢false (sym (c.is_memory.ensures.1 memory) ∙ w.if-is_memory.false)) in
          inr (answer_of-not_json c.args.text.now unread ∙ ap Err (sym w.result-is))
    ]

pub returns-then-not-json_value_has_whole_numbers-clause-err : goal.returns-then-not-json_value_has_whole_numbers-clause-err
returns-then-not-json_value_has_whole_numbers-clause-err c =
    let float = from_not_false (has_float (view c.in-Ok.value)) _ c.json_value_has_whole_numbers.ensures c.if-not-json_value_has_whole_numbers.true in
    inr (answer_of-not_whole c.args.text.now (view c.in-Ok.value) c.in-Ok.ensures.ok float)

pub returns-then-not-json_value_has_whole_numbers-clause-cases : goal.returns-then-not-json_value_has_whole_numbers-clause-cases
returns-then-not-json_value_has_whole_numbers-clause-cases c =
    let float = from_not_false (has_float (view c.in-Ok.value)) _ c.json_value_has_whole_numbers.ensures c.if-not-json_value_has_whole_numbers.true in
    IsAnswerTo-equal c.args.text.now _ (answer_of-not_whole c.args.text.now (view c.in-Ok.value) c.in-Ok.ensures.ok float)

pub returns-then-not-json_value_nests_within-clause-err : goal.returns-then-not-json_value_nests_within-clause-err
returns-then-not-json_value_nests_within-clause-err c =
    let d = view c.in-Ok.value in
    let whole = from_not_true (has_float d) _ c.json_value_has_whole_numbers.ensures c.if-not-json_value_has_whole_numbers.false in
    let deep : MAX_NESTING < depth d = grind arith in
    inr (answer_of-too_deep c.args.text.now d c.in-Ok.ensures.ok whole deep)

pub returns-then-not-json_value_nests_within-clause-cases : goal.returns-then-not-json_value_nests_within-clause-cases
returns-then-not-json_value_nests_within-clause-cases c =
    let d = view c.in-Ok.value in
    let whole = from_not_true (has_float d) _ c.json_value_has_whole_numbers.ensures c.if-not-json_value_has_whole_numbers.false in
    let deep : MAX_NESTING < depth d = grind arith in
    IsAnswerTo-equal c.args.text.now _ (answer_of-too_deep c.args.text.now d c.in-Ok.ensures.ok whole deep)

pub returns-in_default-clause-memory : goal.returns-in_default-clause-memory
returns-in_default-clause-memory c = λ _. read-nonempty c.args.text.now (view c.in-Ok.value) c.in-Ok.ensures.ok

pub returns-then-len-gt-MAX_BODY_BYTES-clause-err : goal.returns-then-len-gt-MAX_BODY_BYTES-clause-err
returns-then-len-gt-MAX_BODY_BYTES-clause-err c =
    let d = view c.in-Ok.value in
    let whole = from_not_true (has_float d) _ c.json_value_has_whole_numbers.ensures c.if-not-json_value_has_whole_numbers.false in
    let nested : depth d ≤ MAX_NESTING = grind arith in
    let long : MAX_BODY_BYTES < length (compact_text d) = grind (arith, ap length (c.in-Ok-to_string.ensures.text whole)) in
    inr (answer_of-too_long c.args.text.now d c.in-Ok.ensures.ok whole nested long)

pub returns-then-len-gt-MAX_BODY_BYTES-clause-cases : goal.returns-then-len-gt-MAX_BODY_BYTES-clause-cases
returns-then-len-gt-MAX_BODY_BYTES-clause-cases c =
    let d = view c.in-Ok.value in
    let whole = from_not_true (has_float d) _ c.json_value_has_whole_numbers.ensures c.if-not-json_value_has_whole_numbers.false in
    let nested : depth d ≤ MAX_NESTING = grind arith in
    let long : MAX_BODY_BYTES < length (compact_text d) = grind (arith, ap length (c.in-Ok-to_string.ensures.text whole)) in
    IsAnswerTo-equal c.args.text.now _ (answer_of-too_long c.args.text.now d c.in-Ok.ensures.ok whole nested long)

pub invariant_of-result : goal.invariant_of-result
invariant_of-result c =
    let d = view c.in-Ok.value in
    let whole = from_not_true (has_float d) _ c.json_value_has_whole_numbers.ensures c.if-not-json_value_has_whole_numbers.false in
    let nested : depth d ≤ MAX_NESTING = grind arith in
    let text = c.in-Ok-to_string.ensures.text whole in
    let short : length (compact_text d) ≤ MAX_BODY_BYTES = grind (arith, ap length text) in
    subst IsBodyText (sym c.of_string.ensures) (record { value = d; reads = c.in-Ok-to_string.ensures.reads_back (omega arith); profile = IsInProfile-read c.args.text.now d c.in-Ok.ensures.ok whole nested short; compact = text; utf8 = IsUtf8-string_bytes c.in-Ok-to_string.text })

pub returns-clause-ok : goal.returns-clause-ok
returns-clause-ok c =
    let d = view c.in-Ok.value in
    let whole = from_not_true (has_float d) _ c.json_value_has_whole_numbers.ensures c.if-not-json_value_has_whole_numbers.false in
    let nested : depth d ≤ MAX_NESTING = grind arith in
    let text = c.in-Ok-to_string.ensures.text whole in
    let short : length (compact_text d) ≤ MAX_BODY_BYTES = grind (arith, ap length text) in
    answer_of-body c.args.text.now d c.in-Ok.ensures.ok (IsInProfile-read c.args.text.now d c.in-Ok.ensures.ok whole nested short) ∙ ap Ok (sym (c.of_string.ensures ∙ text))

pub returns-clause-cases : goal.returns-clause-cases
returns-clause-cases c = IsAnswerTo-equal c.args.text.now _ (returns-clause-ok c)
