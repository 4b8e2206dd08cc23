-- Which agents have an origin, which broadcast channels are members of the roster, and the cast that isn't over (WHATWG
-- HTML, "Broadcasting to other browsing contexts").
use Rattle.std.specs.Prelude.{if◌then◌else◌, ◌&&◌, ◌++◌, ◌==◌, ◌∷◌}
use Rattle.hub_core.specs.Words.{Action, Bool, EndId, Group, List, None, Option, Outcome, Some, [], bytes_eq, drop, false, fold, list_any, option_map, ℕ}
use Rattle.hub_core.specs.declared.step.Action.TheVariants as action
use Rattle.hub_core.specs.declared.step.Outcome.TheVariants as outcome
use Rattle.hub_core.specs.History.{History}

-- a cast with destinations left, in order
pub record CastNow : Type 0 where
  pub source : EndId
  pub body : List ℕ
  pub left : List EndId

-- the origin of each agent; the origin and name of each broadcast channel, where the number is one's; the members in
-- the order in which they joined; and the cast that isn't over
pub record RosterNow : Type 0 where
  pub origin : ℕ → Option (List ℕ)
  pub group : ℕ → Option Group
  pub members : List EndId
  pub cast : Option CastNow

abbrev pub no_roster : RosterNow
no_roster = record { origin = λ _. None; group = λ _. None; members = []; cast = None }

-- the channels of that name of an agent with this origin
abbrev pub group_named : Option (List ℕ) → List ℕ → Option Group
group_named origin name = option_map (λ o. let g : Group = record { origin = o; name = name } in g) origin

-- the same origin and the same name
abbrev pub is_same_group : Group → Group → Bool
is_same_group g k = bytes_eq g.origin k.origin && bytes_eq g.name k.name

abbrev pub is_of_group : Group → Option Group → Bool
is_of_group g None = false
is_of_group g (Some k) = is_same_group g k

-- whether the list has the end
abbrev pub has_end : ℕ → List EndId → Bool
has_end x ends = list_any (λ y. x == y.0) ends

-- the list without the end, where it has it
abbrev pub without : ℕ → List EndId → List EndId
without x [] = []
without x (y ∷ ys) = if x == y.0 then ys else y ∷ without x ys

-- a cast to these destinations, which is over where there are none
abbrev pub cast_to : EndId → List ℕ → List EndId → Option CastNow
cast_to source body [] = None
cast_to source body (y ∷ ys) = Some (record { source = source; body = body; left = y ∷ ys })

-- whether the body is that of the cast
abbrev pub has_body : List ℕ → Option CastNow → Bool
has_body body None = false
has_body body (Some c) = bytes_eq body c.body

-- whether the end is the first of these
abbrev pub is_first : ℕ → List EndId → Bool
is_first x [] = false
is_first x (y ∷ ys) = x == y.0

-- the cast after a poster left the end: where that was the first destination left, it is done with
abbrev pub cast_after : ℕ → Option CastNow → Option CastNow
cast_after x None = None
cast_after x (Some c) = if is_first x c.left then cast_to c.source c.body (drop 1 c.left) else Some c

-- the source of a cast that goes to the end next
abbrev pub source_for : Option CastNow → ℕ → Option EndId
source_for None x = None
source_for (Some c) x = if is_first x c.left then Some c.source else None

abbrev pub roster_after : RosterNow → Outcome → Action → RosterNow
roster_after r (outcome.Agent a) (action.Agent origin) = record r { origin = λ x. if x == a.0 then origin else r.origin x }
roster_after r (outcome.End e) (action.Member a name) = record r {
  group = λ x. if x == e.0 then group_named (r.origin a.0) name else r.group x;
  members = r.members ++ e ∷ [];
}
roster_after r (outcome.Destinations ends) (action.Cast e ports body) = record r { cast = cast_to e body ends }
roster_after r outcome.Left (action.Leave s) = record r { cast = cast_after s.end.0 r.cast }
roster_after r outcome.Done (action.Part e) = record r { members = without e.0 r.members }
roster_after r _ _ = r

-- An agent has its origin from its making on. A broadcast channel has the origin of its agent and its own name, and is a
-- member from its making on until it parts. A cast goes to its destinations, one after the other: each is done with when
-- the poster leaves it.
abbrev pub roster : History → RosterNow
roster h = fold (λ r p. roster_after r p.1 p.0.action) no_roster h
