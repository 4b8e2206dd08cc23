-- What was done of a list of actions, as they are done one by one.
use Rattle.std.proofs.Common.{◌≡◌, ◌∙◌, ◌==◌, ◌+◌, ◌<◌, ℕ, suc, length, get_or, take, drop, if◌then◌else◌, List, [], ◌∷◌, ◌++◌, Bool, true, false, Result, Ok, Err, OnErr, map, filter, ap, sym, refl, subst, arith}
use Rattle.std.proofs.lemmas.List.{append-nil, map-append, take-append-drop, length-append}
use Rattle.std.proofs.Math.Seq.{drop-cons, take-add}
use Rattle.std.proofs.lemmas.List.Elements.{filter-append}
use Rattle.hub_envelope.specs.declared.ids.AgentId.{AgentId}
use Rattle.hub_script.specs.declared.action.Action.{Action}
use Rattle.hub_script.specs.declared.action.ActionKind.{ActionKind}
use Rattle.hub_agent.specs.Doing.{DidAll, HasActed, actions_of}

-- the actions of an agent among those of two lists
pub actions_both : (agent : AgentId) (xs ys : List Action) → actions_of agent (xs ++ ys) ≡ actions_of agent xs ++ actions_of agent ys
actions_both agent xs ys = ap (map (λ a. a.kind)) (filter-append (λ a. a.at.0 == agent.0) xs ys) ∙ map-append (λ a. a.kind) (filter (λ a. a.at.0 == agent.0) xs) (filter (λ a. a.at.0 == agent.0) ys)

-- one action of the agent more
own_action : (agent : AgentId) (x : Action) (later : List Action) → (x.at.0 == agent.0) ≡ true → actions_of agent (x ∷ later) ≡ x.kind ∷ actions_of agent later
own_action agent x later own = ap (λ b. map (λ a. a.kind) (if b then x ∷ filter (λ a. a.at.0 == agent.0) later else filter (λ a. a.at.0 == agent.0) later)) own

other_action : (agent : AgentId) (x : Action) (later : List Action) → (x.at.0 == agent.0) ≡ false → actions_of agent (x ∷ later) ≡ actions_of agent later
other_action agent x later other = ap (λ b. map (λ a. a.kind) (if b then x ∷ filter (λ a. a.at.0 == agent.0) later else filter (λ a. a.at.0 == agent.0) later)) other

-- the first actions, with one more
split : (all : List Action) (i : ℕ) (x : Action) → i < length all → x ≡ get_or all i x → take (i + 1) all ≡ take i all ++ x ∷ []
split all i x below is = take-add i 1 all ∙ ap (λ ys. take i all ++ take 1 ys) (drop-cons all i x below ∙ ap (λ u. u ∷ drop (suc i) all) (sym is))

-- the action at which a list is split
parts : (all : List Action) (i : ℕ) (x : Action) → i < length all → x ≡ get_or all i x → all ≡ take i all ++ x ∷ drop (suc i) all
parts all i x below is = sym (take-append-drop i all) ∙ ap (λ ys. take i all ++ ys) (drop-cons all i x below ∙ ap (λ u. u ∷ drop (suc i) all) (sym is))

pub own_taken : (agent : AgentId) (all : List Action) (i : ℕ) (x : Action) → i < length all → x ≡ get_or all i x → (x.at.0 == agent.0) ≡ true
    → actions_of agent (take (i + 1) all) ≡ actions_of agent (take i all) ++ x.kind ∷ []
own_taken agent all i x below is own = ap (actions_of agent) (split all i x below is) ∙ actions_both agent (take i all) (x ∷ []) ∙ ap (λ ys. actions_of agent (take i all) ++ ys) (own_action agent x [] own)

pub other_taken : (agent : AgentId) (all : List Action) (i : ℕ) (x : Action) → i < length all → x ≡ get_or all i x → (x.at.0 == agent.0) ≡ false
    → actions_of agent (take (i + 1) all) ≡ actions_of agent (take i all)
other_taken agent all i x below is other =
    ap (actions_of agent) (split all i x below is) ∙ actions_both agent (take i all) (x ∷ []) ∙ ap (λ ys. actions_of agent (take i all) ++ ys) (other_action agent x [] other) ∙ append-nil (actions_of agent (take i all))

-- those before an action of the agent, that action, and those behind it
pub own_parts : (agent : AgentId) (all : List Action) (i : ℕ) (x : Action) → i < length all → x ≡ get_or all i x → (x.at.0 == agent.0) ≡ true
    → actions_of agent all ≡ actions_of agent (take i all) ++ x.kind ∷ actions_of agent (drop (suc i) all)
own_parts agent all i x below is own =
    ap (actions_of agent) (parts all i x below is) ∙ actions_both agent (take i all) (x ∷ drop (suc i) all) ∙ ap (λ ys. actions_of agent (take i all) ++ ys) (own_action agent x (drop (suc i) all) own)

-- as many of a list as its front has
pub front : {X : Type 0} (xs ys : List X) → take (length xs) (xs ++ ys) ≡ xs
front [] ys = refl
front (x ∷ xs) ys = ap (λ zs. x ∷ zs) (front xs ys)

pub front_below : {X : Type 0} (xs : List X) (y : X) (ys : List X) → length xs < length (xs ++ y ∷ ys)
front_below xs y ys = subst (λ n. length xs < n) (sym (length-append xs (y ∷ ys))) (omega arith)

module _ {A : Type 0} (looks : A → Bool → A → Type 0) (acts : A → ActionKind → A → Type 0) where
  pub did_more : (all : List ActionKind) (action : ActionKind) (before last seen after : A)
      → DidAll looks acts all before last → looks last false seen → acts seen action after → DidAll looks acts (all ++ action ∷ []) before after
  did_more [] action before last seen after same looked acted =
      (seen, after, subst (λ (s : A). looks s false seen) same looked, acted, refl)
  did_more (a ∷ later) action before last seen after (s, d, l, act, rest) looked acted = (s, d, l, act, did_more later action d last seen after rest looked acted)

  -- the order has come before the next action
  pub stopped : (all first later : List ActionKind) (action : ActionKind) (n : ℕ) (before last after : A)
      → all ≡ first ++ action ∷ later → n ≡ length first → DidAll looks acts first before last → looks last true after
      → HasActed looks acts all (record { done = n; ordered = true }) before after
  stopped all first later action n before last after is count did looked = (
    last,
    subst (λ xs. DidAll looks acts xs before last) (sym (ap (take n) is ∙ ap (λ m. take m (first ++ action ∷ later)) count ∙ front first (action ∷ later))) did,
    (subst (λ m. m < length all) (sym count) (subst (λ xs. length first < length xs) (sym is) (front_below first action later)), looked),
  )

pub of_error : {T E : Type 0} {X : Type 0} (result : Result T E) → X → OnErr result X
of_error (Ok r) x = tt
of_error (Err e) x = x

-- an action more was counted
pub counted : {X : Type 0} (xs : List X) (x : X) (n : ℕ) → n ≡ length xs → n + 1 ≡ length (xs ++ x ∷ [])
counted xs x n is = ap (λ m. m + 1) is ∙ sym (length-append xs (x ∷ []))

module _ {A : Type 0} (looks : A → Bool → A → Type 0) (acts : A → ActionKind → A → Type 0) where
  pub did_own : (agent : AgentId) (all : List Action) (i : ℕ) (x : Action) (before last seen after now : A) → i < length all → x ≡ get_or all i x → (x.at.0 == agent.0) ≡ true
      → now ≡ after → DidAll looks acts (actions_of agent (take i all)) before last → looks last false seen → acts seen x.kind after
      → DidAll looks acts (actions_of agent (take (i + 1) all)) before now
  did_own agent all i x before last seen after now below is own same did looked acted =
      subst (λ (xs : List ActionKind). DidAll looks acts xs before now) (sym (own_taken agent all i x below is own))
      (subst (λ a. DidAll looks acts (actions_of agent (take i all) ++ x.kind ∷ []) before a) (sym same)
      (did_more looks acts (actions_of agent (take i all)) x.kind before last seen after did looked acted))

  pub did_other : (agent : AgentId) (all : List Action) (i : ℕ) (x : Action) (before last now : A) → i < length all → x ≡ get_or all i x → (x.at.0 == agent.0) ≡ false
      → now ≡ last → DidAll looks acts (actions_of agent (take i all)) before last → DidAll looks acts (actions_of agent (take (i + 1) all)) before now
  did_other agent all i x before last now below is other same did =
      subst (λ (xs : List ActionKind). DidAll looks acts xs before now) (sym (other_taken agent all i x below is other))
      (subst (λ a. DidAll looks acts (actions_of agent (take i all)) before a) (sym same) did)
