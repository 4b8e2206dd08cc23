use Rattle.std.proofs.Common.{◌≡◌, ◌∙◌, Some, subst, sym, ap}
use Rattle.hub_text.specs.Reading.{IsReadAs}
use Rattle.json.specs.Print.{print}
use Rattle.json.specs.Tree.{json_tokens}
use Rattle.json.specs.Value.{value_view}
use Rattle.serde_json.specs.Read.{read}
use Rattle.hub_script.specs.declared.error.ScriptError.TheVariants.{OutOfMemory}
use Rattle.hub_script.specs.JsonData.{IsWritable, data_in, data_of}
use Rattle.hub_script.proofs.Bodies.{answered}
use Rattle.hub_script.proofs.JsonData.{reads_back}
use Rattle.hub_script.proofs.fields.body_in.Goals as goal

pub to_vec-requires : goal.to_vec-requires
to_vec-requires c = let writable : IsWritable (value_view c.in_ok-value.value.now) = c.in_ok-value.ensures.writable c.requires.writable in writable.numbers

pub returns : goal.returns
returns c =
    let value = value_view c.in_ok-value.value.now in
    let writable : IsWritable value = c.in_ok-value.ensures.writable c.requires.writable in
    let same = rw c.unwrap.ensures at c.from_utf8.ensures.cases in
    let text : c.unwrap.result.now ≡ print (json_tokens value) = same.0 ∙ c.deref.ensures.value ∙ c.in_ok-bytes.ensures.text in
    let reads : read c.unwrap.result.now ≡ Some (data_of value) = ap read text ∙ reads_back value writable in
    subst (IsReadAs OutOfMemory (λ x. x) c.parse_body.result) (sym (answered c.args.name.now (data_in c.args.line.now) (data_of value) c.unwrap.result.now c.in_ok-value.ensures.says reads)) c.parse_body.ensures
