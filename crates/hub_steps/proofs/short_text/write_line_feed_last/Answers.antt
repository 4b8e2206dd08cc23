use Rattle.std.proofs.Common.{◌∷◌, ◌∙◌, List, ℕ, ap, arith, rules}
use Rattle.std.proofs.lemmas.List.{drop_all}
use Rattle.hub_steps.proofs.short_text.write_line_feed_last.Goals as goal

pub returns-clause-written : goal.returns-clause-written
returns-clause-written c = c.prepend_text.ensures.written ∙ ap (λ (rest : List ℕ). 10 ∷ rest) (drop_all 128 c.args.line.now (search (rules, arith)))
