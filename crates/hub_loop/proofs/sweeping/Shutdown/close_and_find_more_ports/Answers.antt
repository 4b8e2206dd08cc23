use Rattle.std.proofs.Common.{◌++◌, refl, subst}
use Rattle.hub_loop.specs.Ending.{closing_ends, grave_ends, swept_ends}
use Rattle.hub_loop.specs.Noticing.{NamedBehind}
use Rattle.hub_loop.proofs.Endings.{behind-swept}
use Rattle.hub_loop.proofs.sweeping.Shutdown.close_and_find_more_ports.Goals as goal

pub returns-in_err-close_ports_found_in_envelopes-clause-further : goal.returns-in_err-close_ports_found_in_envelopes-clause-further
returns-in_err-close_ports_found_in_envelopes-clause-further g c =
    let from = c.self.inside in
    let then = grave_ends c.close_ports_found_in_envelopes.new.graves.items in
    let told = c.close_ports_found_in_envelopes.new.noticed.items in
    subst (λ s. NamedBehind (closing_ends s) (swept_ends from.swept.items ++ then) s.noticed told) c.self.view_is
    (behind-swept (swept_ends from.swept.items) (grave_ends from.graves.items) then (swept_ends from.swept.items ++ then) from.noticed.items told c.close_ports_found_in_envelopes.ensures refl)

pub returns-in_err-sweep_all_graves-clause-further : goal.returns-in_err-sweep_all_graves-clause-further
returns-in_err-sweep_all_graves-clause-further g c =
    let from = c.self.inside in
    let all = swept_ends c.sweep_all_graves.new.swept.items ++ grave_ends c.sweep_all_graves.new.graves.items in
    let told = c.close_ports_found_in_envelopes.new.noticed.items in
    subst (λ s. NamedBehind (closing_ends s) all s.noticed told) c.self.view_is
    (behind-swept (swept_ends from.swept.items) (grave_ends from.graves.items) (grave_ends c.close_ports_found_in_envelopes.new.graves.items) all from.noticed.items told c.close_ports_found_in_envelopes.ensures c.sweep_all_graves.ensures.same)

pub returns-clause-further : goal.returns-clause-further
returns-clause-further g c =
    let from = c.self.inside in
    let all = swept_ends c.sweep_all_graves.new.swept.items ++ grave_ends c.sweep_all_graves.new.graves.items in
    let told = c.close_ports_found_in_envelopes.new.noticed.items in
    subst (λ s. NamedBehind (closing_ends s) all s.noticed told) c.self.view_is
    (behind-swept (swept_ends from.swept.items) (grave_ends from.graves.items) (grave_ends c.close_ports_found_in_envelopes.new.graves.items) all from.noticed.items told c.close_ports_found_in_envelopes.ensures c.sweep_all_graves.ensures.same)
