use Rattle.std.proofs.Common.{◌∙◌, ◌++◌, ap, append-nil, refl, sym}
use Rattle.std.specs.Prelude.{option_to_list}
use Rattle.hub_loop.proofs.Endings.{buries, lines-stay, notices-closed, notices-line}
use Rattle.hub_loop.proofs.ending.Closed.close_held_end_or_keep_held_line.Goals as goal

pub returns-in-Some-clause-graves : goal.returns-in-Some-clause-graves
returns-in-Some-clause-graves g c =
    buries c.args.opened c.in-Ok.field-0 c.args.self.now.graves.items c.add_closed_port.new.self.graves.items c.in-Ok.ensures.ok c.add_closed_port.ensures.graves

pub returns-in-Some-clause-told : goal.returns-in-Some-clause-told
returns-in-Some-clause-told g c =
    let before = c.args.self.now.noticed.items in
    notices-closed c.args.opened c.in-Ok.field-0 before c.add_closed_port.new.self.noticed.items c.in-Ok.ensures.ok
    (c.add_closed_port.ensures.noticed ∙ ap (λ port. before ++ option_to_list port) (sym c.in-Some.is))

pub returns-in-None-clause-graves : goal.returns-in-None-clause-graves
returns-in-None-clause-graves g c =
    buries c.args.opened c.in-Ok.field-0 c.args.self.now.graves.items c.push_reserved.new.self.items c.in-Ok.ensures.ok c.push_reserved.ensures.items

pub returns-in-None-clause-told : goal.returns-in-None-clause-told
returns-in-None-clause-told g c =
    let before = c.args.self.now.noticed.items in
    notices-closed c.args.opened c.in-Ok.field-0 before before c.in-Ok.ensures.ok
    (sym (append-nil before) ∙ ap (λ port. before ++ option_to_list port) (sym c.in-None.is))

pub returns-in-Err-clause-graves : goal.returns-in-Err-clause-graves
returns-in-Err-clause-graves g c =
    lines-stay c.args.opened c.in-Err.poster c.args.self.now.graves.items c.in-Err.ensures.err

pub returns-in-Err-clause-told : goal.returns-in-Err-clause-told
returns-in-Err-clause-told g c =
    notices-line c.args.opened c.in-Err.poster c.args.self.now.noticed.items c.args.self.now.noticed.items c.in-Err.ensures.err refl
