use Rattle.std.proofs.Common.{rules, ◌≡◌, List, ◌∷◌, ap, sym, ◌∙◌}
use Rattle.hub_script.specs.declared.script_reader.NamedEnd.{NamedEnd}
use Rattle.hub_script.specs.Known.{Known, giving_all, with_holds}
use Rattle.hub_script.specs.Reader.{known}
use Rattle.hub_script.proofs.script_reader.ScriptReader.mark_ports_released_by_agent.Goals as goal

pub loop-first-preserved : goal.loop-first-preserved
loop-first-preserved c =
    let a = c.args.agent in
    let now = known c.loop-first.self in
    let split : c.loop-first.rest.now ≡ c.in-Some.first.now ∷ c.in-Some.others.now = search rules in
    ap (λ (k : Known). with_holds k (giving_all a c.in-Some.others.now)) c.mark_released_by_agent.ensures
    ∙ ap (λ (xs : List NamedEnd). with_holds now (giving_all a xs)) (sym split)
    ∙ c.loop-first.invariant
