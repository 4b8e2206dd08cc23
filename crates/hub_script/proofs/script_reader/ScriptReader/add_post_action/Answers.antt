use Rattle.std.proofs.Common.{◌≡◌, ◌∙◌, Ok, map, ap, sym}
use Rattle.hub_envelope.specs.declared.ids.EndId.{EndId}
use Rattle.hub_script.specs.declared.action.ActionKind.TheVariants as action
use Rattle.hub_script.specs.Context.{acting}
use Rattle.hub_script.specs.Known.{Known, declared_end}
use Rattle.hub_script.specs.Reader.{known}
use Rattle.hub_script.proofs.Posting.{posted, transferred}
use Rattle.hub_script.proofs.script_reader.ScriptReader.add_post_action.Goals as goal

pub returns : goal.returns
returns c =
    let k = known c.args.self.now in
    let a = c.args.agent in
    let body = c.in_ok-body.body in
    let ports = c.in_ok-ports.ports.items in
    let port = declared_end k.script c.in_ok-source.source in
    let listed : map (declared_end k.script) c.as_slice.result.now ≡ c.in_ok-transfer.transfer = cc (c.in_ok-transfer.ensures) in
    let acted : acting k a (action.Post port body c.in_ok-transfer.transfer) ≡ known c.push_action.new.self =
    ap (λ (e : EndId). acting k a (action.Post e body c.in_ok-transfer.transfer)) (sym c.id_of_named_end-port.ensures) ∙ cc (c.in_ok-push_action.ensures) in
    posted k c.args.port.now c.args.body c.args.transfer.now a c.in_ok-source.source ports body c.in_ok-source.ensures c.in_ok-ports.ensures.says c.in_ok-body.ensures
    ∙ ap (λ (x : Known). Ok x) (transferred k (known c.push_action.new.self) (known c.mark_ports_released_by_agent.new.self) a (λ ends. action.Post port body ends) ports c.as_slice.result.now c.as_slice-2.result.now c.in_ok-transfer.transfer
    c.as_slice.ensures.value c.as_slice-2.ensures.value listed acted c.mark_ports_released_by_agent.ensures)
