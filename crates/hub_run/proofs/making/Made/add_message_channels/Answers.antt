use Rattle.std.proofs.Common.{◌≡◌, ◌<◌, ◌≤◌, ◌∙◌, ◌+◌, Ok, ap, get_or, length, rules}
use Rattle.hub_script.specs.Contents.{channels}
use Rattle.hub_agent.specs.Given.{ports_from}
use Rattle.hub_run.proofs.Gives.{gives_all, gives_numbered, gives_two, ports_next}
use Rattle.hub_run.proofs.making.Made.add_message_channels.Goals as goal

pub loop-declared-preserved : goal.loop-declared-preserved
loop-declared-preserved g c =
    let was = c.loop-declared.invariant in
    let done = c.loop-declared.declared-index in
    let inside : done < length (channels c.args.script.now) = search rules in
    let here : c.declared-item.result ≡ get_or (channels c.args.script.now) done c.declared-item.result = c.declared-item.is ∙ ap (λ all. get_or all done c.declared-item.result) c.channels-declared-items.ensures.channels in
    let drawn = c.loop-declared.self.ends.drawn in
    let at = c.declared-item.result.at in
    let old = c.loop-declared.self.agents.items in
    let mid = c.give_end_before_run.new.self.agents.items in
    let new = c.give_end_before_run-in-loop-declared.new.self.agents.items in
    record {
      given = ports_next c.args.script.now done drawn c.declared-item.result c.args.self.now.agents.items old new inside here was.drawn was.given
          (gives_two {E = Unit {0}} (Ok (tt {0})) at (record { 0 = drawn }) (record { 0 = drawn + 1 }) old mid new
          (gives_numbered {E = Unit {0}} (Ok (tt {0})) at c.in_ok-port.port (record { 0 = drawn }) old mid c.in_ok-port.ensures.first c.in_ok-give_end_before_run.ensures.given)
          (gives_numbered {E = Unit {0}} (Ok (tt {0})) at c.in_ok-port.other (record { 0 = drawn + 1 }) mid new c.in_ok-port.ensures.second c.in_ok-give_end_before_run-2.ensures.given));
      drawn = search rules;
    }

pub returns-clause-given : goal.returns-clause-given
returns-clause-given g c =
    let all : length (channels c.args.script.now) ≤ c.loop-declared.declared-index = search rules in
    gives_all (λ k cs. ports_from c.args.script.now k 0 cs) c.loop-declared.declared-index (channels c.args.script.now) c.args.self.now.agents.items c.loop-declared.self.agents.items all c.loop-declared.invariant.given
