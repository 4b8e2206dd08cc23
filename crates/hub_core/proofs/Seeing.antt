-- What the core keeps, seen as facts: it shows sound facts, and answers as they do.
use Rattle.std.proofs.Common.{◌≡◌, List, [], sym}
use Rattle.hub_core.proofs.Words.{Agent, End, Facts, Sound, ShowsFacts, RosterNow, CoreState, no_roster, seen, ShowsRoster, facts}

-- ==== What a core shows of a legal history: its facts are sound as well.

-- agents and ends are those of the facts, which are sound
pub record SoundlyShows (kept_agents : List Agent) (kept_ends : List End) (f : Facts) : Type 0 where
  pub shown : ShowsFacts kept_agents kept_ends f
  pub open shown use *
  pub sound : Sound f

-- nothing that is kept of agents and ends asks for the roster
pub with_roster : {agents : List Agent} {ends : List End} {f : Facts} (roster : RosterNow) → ShowsFacts agents ends f → ShowsFacts agents ends (record f { roster = roster })
with_roster roster h = record { agents = h.agents; agent = h.agent; ends = h.ends; end = h.end; queues = h.queues; away = h.away }

-- ==== What the core keeps, seen as facts, answers as the facts do that it shows.

-- the facts that a core keeps
abbrev pub kept_part : Facts → Facts
kept_part f = record (facts []) {
  agents = f.agents;
  ends = f.ends;
  agent = f.agent;
  end = f.end;
  line = f.line;
  roster = record no_roster { origin = f.roster.origin; cast = f.roster.cast };
}

-- the core shows these facts
pub record Sees (c : CoreState) (f : Facts) : Type 0 where
  pub shows : SoundlyShows c.agents c.ends f
  pub roster : ShowsRoster c.roster f

pub seen_is : {c : CoreState} {f : Facts} → Sees c f → seen c ≡ kept_part f
seen_is {c} {f} h = λ i. record (facts []) {
  agents = sym h.shows.agents i;
  ends = sym h.shows.ends i;
  agent = λ a. sym (h.shows.agent a) i;
  end = λ x. sym (h.shows.end x).same i;
  line = λ x l. sym ((h.shows.end x).lines l) i;
  roster = record no_roster { origin = λ a. sym (h.roster.origins a) i; cast = sym h.roster.cast i };
}
