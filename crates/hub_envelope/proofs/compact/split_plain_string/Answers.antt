use Rattle.std.proofs.Common.{◌≡◌, ℕ, ◌+◌, ◌<◌, ◌∷◌, ◌++◌, take, length, false, get_or, ap, ◌∙◌, rules}
use Rattle.json.specs.Print.{quoted}
use Rattle.json.specs.Run.{is_stop}
use Rattle.hub_envelope.proofs.Fronts.{string_at, from_index}
use Rattle.hub_envelope.proofs.compact.split_plain_string.Goals as goal

pub returns : goal.returns
returns c =
    let inside = c.in_ok-quote.inside.now in
    let end = c.in_ok-end.end in
    let plain : (k : ℕ) → k < end → is_stop (get_or inside k 0) ≡ false = search rules in
    let before : end < length inside = search rules in
    string_at c.args.text.now inside end (c.in_ok-quote.ensures.cases.0 ∙ ap (λ b. b ∷ inside) c.if-quote-ne34.false) before c.if-inside-end-ne34.false plain
    ∙ ap (λ rest. quoted (take end inside) ++ rest) (from_index (end + 1) inside)
