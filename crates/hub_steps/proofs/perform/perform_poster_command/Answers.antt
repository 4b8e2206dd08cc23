use Rattle.std.proofs.Common.{sym, subst, IfOk}
use Rattle.hub_steps.specs.declared.step_line.PosterCommand.{PosterCommand}
use Rattle.hub_steps.specs.declared.step_line.PosterCommand.TheVariants as poster
use Rattle.hub_steps.specs.Performed.{ComputesAt}
use Rattle.hub_steps.specs.Unfolding.{line_steps, on_line_of}
use Rattle.hub_steps.proofs.Computing.{if_ok, named}
use Rattle.hub_steps.proofs.perform.perform_poster_command.Goals as goal

pub returns-in-Post-clause-performed : goal.returns-in-Post-clause-performed
returns-in-Post-clause-performed c =
    let refused = c.args.memory_refused in
    let old = c.args.core.now in
    let new = c.post_message.new.core in
    let s = c.in-Some.sender in
    let ports = c.in-Post.ports in
    let body = c.in-Post.body in
    let steps = line_steps refused (poster.Post ports body) in
    subst (λ (command : PosterCommand). IfOk c.post_message.result (λ shown. ComputesAt old new (on_line_of c.args.poster (line_steps refused command)) shown)) (sym c.in-Post.is)
    (if_ok (λ shown. ComputesAt old new (steps s) shown) (λ shown. ComputesAt old new (on_line_of c.args.poster steps) shown) (λ shown. named old new c.args.poster s steps shown c.in-Some.ensures) c.post_message.result c.post_message.ensures)
