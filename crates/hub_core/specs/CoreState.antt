-- What the core keeps.
use Rattle.hub_core.specs.Words.{Agent, Coded, End, List, code_by, coded_list, coded×, refl}
use Rattle.hub_core.specs.contracts.agent.Agent as agent
use Rattle.hub_core.specs.contracts.end.End as end
use Rattle.hub_core.specs.contracts.roster.Roster as roster
use Rattle.hub_core.specs.declared.roster.Roster.{Roster}

-- the agents and the ends, by number, and the roster of broadcast channels
pub record CoreState : Type 0 where
  pub agents : List Agent
  pub ends : List End
  pub roster : Roster

abbrev pub core_coded : Coded CoreState
core_coded =
    code_by (List Agent × (List End × Roster)) (coded× (coded_list agent.the_row.coded) (coded× (coded_list end.the_row.coded) roster.the_row.coded)) (λ c. (c.agents, (c.ends, c.roster)))
    (λ p. record { agents = p.0; ends = p.1.0; roster = p.1.1 }) (λ _. refl)
