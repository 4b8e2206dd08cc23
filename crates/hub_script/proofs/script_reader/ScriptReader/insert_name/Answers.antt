use Rattle.std.proofs.Common.{ap, sym, ◌∙◌, ◌≡◌, Ok, List, ℕ, Option}
use Rattle.std.specs.String.{string_bytes}
use Rattle.hub_script.specs.declared.script_reader.NamedEnd.{NamedEnd}
use Rattle.hub_script.specs.Known.{naming_more, with_names}
use Rattle.hub_script.specs.Reader.{known}
use Rattle.hub_script.proofs.Changes.{names_one_more}
use Rattle.hub_script.proofs.script_reader.ScriptReader.insert_name.Goals as goal

pub returns : goal.returns
returns c =
    let old = c.args.self.now in
    let key : string_bytes c.in_ok-key.key ≡ c.args.name.now = c.in_ok-key.ensures.ok ∙ c.as_str.ensures in
    sym (ap (λ (names : List ℕ → Option NamedEnd). Ok (with_names (known old) names))
    (names_one_more old.names c.insert.new.self (string_bytes c.in_ok-key.key) c.args.named c.in_ok-insert.ensures.updates
    ∙ ap (λ (n : List ℕ). naming_more n c.args.named (known old).names) key))
