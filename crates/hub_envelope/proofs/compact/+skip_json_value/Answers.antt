use Rattle.std.proofs.Common.{ℕ, ◌∷◌, List, [], Option, option_map, ap, sym, ◌∙◌, subst}
use Rattle.hub_envelope.specs.Compact.{IsFront}
use Rattle.hub_envelope.proofs.Fronts.{front-null, front-true, front-false, word_at, from_match, last_item, one_more_item, front-no_items, front-items, last_member, one_more_member, front-no_members, front-members}
use Rattle.hub_envelope.proofs.compact.+skip_json_value.Goals as goal

pub skip_array_items-returns-then-first-eq93 : goal.skip_array_items-returns-then-first-eq93
skip_array_items-returns-then-first-eq93 t c =
    let after = c.in_ok-first.after.now in
    front-no_items c.args.levels c.args.text.now after (c.in_ok-first.ensures.cases.0 ∙ ap (λ b. b ∷ after) c.if-first-eq93.true)

pub skip_array_items-loop-mark-preserved : goal.skip_array_items-loop-mark-preserved
skip_array_items-loop-mark-preserved t c = λ after more.
    let rest = c.in_ok-mark.after.now in
    let left = c.in_ok-mark.ensures.cases.0 ∙ ap (λ b. b ∷ rest) c.in-44.is in
    let front = subst (λ l. IsFront c.args.levels c.loop-mark.rest.now l) left c.in_ok-skip_json_value.ensures in
    c.loop-mark.invariant after (one_more_item c.args.levels c.loop-mark.rest.now rest after front more)

pub skip_array_items-returns-in-93 : goal.skip_array_items-returns-in-93
skip_array_items-returns-in-93 t c =
    let rest = c.in_ok-mark.after.now in
    let left = c.in_ok-mark.ensures.cases.0 ∙ ap (λ b. b ∷ rest) c.in-93.is in
    let front = subst (λ l. IsFront c.args.levels c.loop-mark.rest.now l) left c.in_ok-skip_json_value.ensures in
    front-items c.args.levels c.args.text.now rest (c.loop-mark.invariant rest (last_item c.args.levels c.loop-mark.rest.now rest front))

pub skip_object_members-returns-then-first-eq125 : goal.skip_object_members-returns-then-first-eq125
skip_object_members-returns-then-first-eq125 t c =
    let after = c.in_ok-first.after.now in
    front-no_members c.args.levels c.args.text.now after (c.in_ok-first.ensures.cases.0 ∙ ap (λ b. b ∷ after) c.if-first-eq125.true)

pub skip_object_members-loop-key-preserved : goal.skip_object_members-loop-key-preserved
skip_object_members-loop-key-preserved t c = λ after more.
    let rest = c.in_ok-mark.after.now in
    let value = c.in_ok-key.value.now in
    let before : Option (List ℕ) = option_map (λ k. k.now) c.loop-key.before in
    let left = c.in_ok-mark.ensures.cases.0 ∙ ap (λ b. b ∷ rest) c.in-44.is in
    let front = subst (λ l. IsFront c.args.levels value l) left c.in_ok-skip_json_value.ensures in
    c.loop-key.invariant after (one_more_member c.args.levels before c.loop-key.rest.now c.in_ok-key.key.now value rest after c.in_ok-key.ensures front (c.is_key_in_order.ensures c.if-not-is_key_in_order.false) more)

pub skip_object_members-returns-in-125 : goal.skip_object_members-returns-in-125
skip_object_members-returns-in-125 t c =
    let rest = c.in_ok-mark.after.now in
    let value = c.in_ok-key.value.now in
    let before : Option (List ℕ) = option_map (λ k. k.now) c.loop-key.before in
    let left = c.in_ok-mark.ensures.cases.0 ∙ ap (λ b. b ∷ rest) c.in-125.is in
    let front = subst (λ l. IsFront c.args.levels value l) left c.in_ok-skip_json_value.ensures in
    front-members c.args.levels c.args.text.now rest
    (c.loop-key.invariant rest (last_member c.args.levels before c.loop-key.rest.now c.in_ok-key.key.now value rest c.in_ok-key.ensures front (c.is_key_in_order.ensures c.if-not-is_key_in_order.false)))

pub skip_json_value-returns-in-110 : goal.skip_json_value-returns-in-110
skip_json_value-returns-in-110 t c =
    let text = c.args.text.now in
    let rest = c.in_ok-first.rest.now in
    let word = 117 ∷ 108 ∷ 108 ∷ [] in
    from_match _ _ _ c.strip_prefix.result
    (λ left h. front-null c.args.levels text left.now (word_at text rest word c.in_ok-first.first.now 110 c.in_ok-first.ensures.cases.0 c.in-110.is h.0 ∙ ap (λ l. 110 ∷ 117 ∷ 108 ∷ 108 ∷ l) (sym h.1))) c.strip_prefix.ensures.cases

pub skip_json_value-returns-in-116 : goal.skip_json_value-returns-in-116
skip_json_value-returns-in-116 t c =
    let text = c.args.text.now in
    let rest = c.in_ok-first.rest.now in
    let word = 114 ∷ 117 ∷ 101 ∷ [] in
    from_match _ _ _ c.strip_prefix-in-116.result
    (λ left h. front-true c.args.levels text left.now (word_at text rest word c.in_ok-first.first.now 116 c.in_ok-first.ensures.cases.0 c.in-116.is h.0 ∙ ap (λ l. 116 ∷ 114 ∷ 117 ∷ 101 ∷ l) (sym h.1))) c.strip_prefix-in-116.ensures.cases

pub skip_json_value-returns-in-102 : goal.skip_json_value-returns-in-102
skip_json_value-returns-in-102 t c =
    let text = c.args.text.now in
    let rest = c.in_ok-first.rest.now in
    let word = 97 ∷ 108 ∷ 115 ∷ 101 ∷ [] in
    from_match _ _ _ c.strip_prefix-in-102.result
    (λ left h. front-false c.args.levels text left.now (word_at text rest word c.in_ok-first.first.now 102 c.in_ok-first.ensures.cases.0 c.in-102.is h.0 ∙ ap (λ l. 102 ∷ 97 ∷ 108 ∷ 115 ∷ 101 ∷ l) (sym h.1))) c.strip_prefix-in-102.ensures.cases
