use Rattle.std.proofs.Common.{sym, ◌∙◌, inr}
use Rattle.json.specs.Value.{value_view}
use Rattle.hub_script.proofs.JsonData.{read_in_range, read_out_of_range}
use Rattle.hub_script.proofs.read_form.read_json_with_numbers_in_range.Goals as goal

pub returns-then-are_numbers_in_range-clause-says : goal.returns-then-are_numbers_in_range-clause-says
returns-then-are_numbers_in_range-clause-says c = read_in_range c.args.text.now (value_view c.in_ok-value.value) c.in_ok-value.ensures.says (sym c.are_numbers_in_range.ensures ∙ c.if-are_numbers_in_range.true)

pub returns-clause-says : goal.returns-clause-says
returns-clause-says c = inr (read_out_of_range c.args.text.now (value_view c.in_ok-value.value) c.in_ok-value.ensures.says (sym c.are_numbers_in_range.ensures ∙ c.if-are_numbers_in_range.false))
