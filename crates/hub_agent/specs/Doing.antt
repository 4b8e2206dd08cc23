-- What an actor has done of a list of actions, one after the other.
use Rattle.std.specs.Prelude.{◌≡◌, ◌<◌, ◌==◌, ℕ, Bool, true, false, List, [], ◌∷◌, ◌++◌, length, map, take}
use Rattle.std.specs.List.{filter}
use Rattle.hub_envelope.specs.declared.ids.AgentId.{AgentId}
use Rattle.hub_script.specs.declared.action.Action.{Action}
use Rattle.hub_script.specs.declared.action.ActionKind.{ActionKind}
use Rattle.hub_agent.specs.declared.actor.Acted.{Acted}

-- the actions of the agent, in the order of the script
abbrev pub actions_of : AgentId → List Action → List ActionKind
actions_of agent all = map (λ a. a.kind) (filter (λ a. a.at.0 == agent.0) all)

-- An actor A looks for the order to end and is told whether it came, and does an action.
module _ {A : Type 0} (looks : A → Bool → A → Type 0) (acts : A → ActionKind → A → Type 0) where
  -- each action was done, and before each the actor looked for the order, which had not come
  abbrev pub DidAll : List ActionKind → A → A → Type 0
  DidAll [] before after = after ≡ before
  DidAll (action ∷ later) before after =
      (seen : A) × (done : A) × looks before false seen × acts seen action done × DidAll later done after

  -- so many of all actions were done; the order came before the next one, or there was no next one
  abbrev pub IsStopped : List ActionKind → ℕ → Bool → A → A → Type 0
  IsStopped all done true last after = (done < length all) × looks last true after
  IsStopped all done false last after = (done ≡ length all) × (after ≡ last)

  -- the first actions were done, up to the last or to the order
  abbrev pub HasActed : List ActionKind → Acted → A → A → Type 0
  HasActed all acted before after = (last : A) × DidAll (take acted.done all) before last × IsStopped all acted.done acted.ordered last after

module _ {A : Type 0} (looks : A → Bool → A → Type 0) (acts fails : A → ActionKind → A → Type 0) where
  -- the first actions were done, and the next one failed, before which no order had come
  abbrev pub HasFailed : List ActionKind → A → A → Type 0
  HasFailed all before after =
      (first : List ActionKind) × (action : ActionKind) × (later : List ActionKind) × (all ≡ first ++ action ∷ later)
      × (last : A) × (seen : A) × DidAll looks acts first before last × looks last false seen × fails seen action after
