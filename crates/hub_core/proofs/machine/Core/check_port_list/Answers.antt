-- What the core is asked is what the facts say.
use Rattle.std.proofs.Common.{◌∙◌, ap, sym}
use Rattle.hub_core.proofs.Sounds.{sound_legal}
use Rattle.hub_core.proofs.Seeing.{seen_is}
use Rattle.hub_core.specs.Kept.{seen}
use Rattle.hub_core.specs.Posting.{listing, listing_of}
use Rattle.hub_core.proofs.Words.{Bad, option_map, unwrap_or}
use Rattle.hub_core.proofs.machine.Core.check_port_list.Goals as goal

pub returns : goal.returns
returns c = λ h s.
    c.check_port_list_of_agent.ensures ∙ ap (λ q. unwrap_or (option_map (listing_of (seen c.args.self.now) c.args.sender c.args.ports.now) q) Bad) (sym c.in-Some-agent_posting_on_line.is ∙ c.agent_posting_on_line.ensures)
    ∙ ap (λ g. listing g c.args.sender c.args.ports.now) (seen_is (record { shows = record { shown = s.0; sound = sound_legal h s.2 }; roster = s.1 }))
