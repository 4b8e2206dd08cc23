use Rattle.std.proofs.Common.{◌≡◌, ◌<◌, ◌≤◌, ◌∙◌, Ok, ap, get_or, length, rules}
use Rattle.hub_script.specs.Contents.{members}
use Rattle.hub_agent.specs.Given.{members_from}
use Rattle.hub_run.proofs.Gives.{gives_all, gives_numbered, members_next}
use Rattle.hub_run.proofs.making.Made.add_broadcast_members.Goals as goal

pub loop-declared-preserved : goal.loop-declared-preserved
loop-declared-preserved g c =
    let was = c.loop-declared.invariant in
    let done = c.loop-declared.declared-index in
    let inside : done < length (members c.args.script.now) = search rules in
    let here : c.declared-item.result ≡ get_or (members c.args.script.now) done c.declared-item.result = c.declared-item.is ∙ ap (λ all. get_or all done c.declared-item.result) c.broadcast_members-declared-items.ensures.members in
    let drawn = c.loop-declared.self.ends.drawn in
    let old = c.loop-declared.self.agents.items in
    let new = c.give_end_before_run.new.self.agents.items in
    record {
      given = members_next c.args.script.now done drawn c.declared-item.result c.args.self.now.agents.items old new inside here was.drawn was.given
          (gives_numbered {E = Unit {0}} (Ok (tt {0})) c.declared-item.result.at c.in_ok-member.member (record { 0 = drawn }) old new c.in_ok-member.ensures.end c.in_ok-give_end_before_run.ensures.given);
      drawn = search rules;
    }

pub returns : goal.returns
returns g c =
    let all : length (members c.args.script.now) ≤ c.loop-declared.declared-index = search rules in
    record { given = gives_all (λ k ms. members_from c.args.script.now k 0 ms) c.loop-declared.declared-index (members c.args.script.now) c.args.self.now.agents.items c.loop-declared.self.agents.items all c.loop-declared.invariant.given }
