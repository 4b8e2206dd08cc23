-- What each kind of action comes to, of what its call says.
use Rattle.std.proofs.Common.{◌≡◌, [], Result, Ok, Err, OnOk, ap, refl, inl, inr, arith}
use Rattle.hub_envelope.specs.declared.ids.AgentId.{AgentId}
use Rattle.hub_envelope.specs.declared.ids.EndId.{EndId}
use Rattle.hub_life.specs.declared.life.Event.{Event as LifeEvent}
use Rattle.hub_script.specs.declared.action.ActionKind.TheVariants.{Start, Loaded, Order, Event, Hand}
use Rattle.hub_agent.specs.Agents.{AgentState, Changes, StartsEnd, StartsClientQueue}
use Rattle.hub_agent.specs.Owning.{Accounts, HoldsNoMore}
use Rattle.hub_agent.specs.Acting.{Acts}
use Rattle.hub_agent.proofs.Actions.{accounts_same, load_accounts, start_accounts}
use Rattle.hub_agent.proofs.Brings.{held_in}
use Rattle.hub_agent.proofs.Writing.{writes_same}

-- what is said of an action together
pub acts_of : {X E : Type 0} (A B C D : Type 0) (r : Result X E) → OnOk r A → OnOk r B → C → OnOk r D → OnOk r (A × (C × B) × D)
acts_of A B C D (Ok x) a b c d = (a, (c, b), d)
acts_of A B C D (Err e) a b c d = tt

pub acts_while : {X E : Type 0} (A C D : Type 0) (r : Result X E) → OnOk r A → C → OnOk r D → OnOk r (A × C × D)
acts_while A C D (Ok x) a c d = (a, c, d)
acts_while A C D (Err e) a c d = tt

pub started_acts : (end : EndId) (before now : AgentState) → StartsEnd end before now → Acts (Start end) before now
started_acts end before now starts = (([], refl, writes_same before.notes now.notes (ap (λ (a : AgentState). a.notes) starts.0)), starts, start_accounts end before now starts)

pub loaded_acts : (queue : EndId) (before now : AgentState) → StartsClientQueue queue before now → Acts (Loaded queue) before now
loaded_acts queue before now starts = (([], refl, writes_same before.notes now.notes (ap (λ (a : AgentState). a.notes) starts.0)), starts, load_accounts queue before now starts)

-- an action that leaves the notes and what is held
same_acts : (before now : AgentState) → now.notes ≡ before.notes → now.kept ≡ before.kept → now.ends ≡ before.ends → Accounts before now
same_acts before now notes kept ends = accounts_same before now notes kept (λ e. let h = ap (λ s. held_in s e) ends in omega (arith, h))

pub ordered_acts : (to : AgentId) (before now : AgentState) → Changes (Order to) before now → Acts (Order to) before now
ordered_acts to before now is =
    (([], refl, writes_same before.notes now.notes (ap (λ (a : AgentState). a.notes) is)), is, same_acts before now (ap (λ (a : AgentState). a.notes) is) (ap (λ (a : AgentState). a.kept) is) (ap (λ (a : AgentState). a.ends) is))

pub lived_acts : (event : LifeEvent) (before now : AgentState) → Changes (Event event) before now → Acts (Event event) before now
lived_acts event before now is =
    (([], refl, writes_same before.notes now.notes (ap (λ (a : AgentState). a.notes) is)), is, same_acts before now (ap (λ (a : AgentState). a.notes) is) (ap (λ (a : AgentState). a.kept) is) (ap (λ (a : AgentState). a.ends) is))

pub hand_acts : {X E : Type 0} (r : Result X E) (to : AgentId) (before now : AgentState) → OnOk r (Changes (Hand to) before now) → OnOk r (HoldsNoMore before now) → OnOk r (Acts (Hand to) before now)
hand_acts (Ok x) to before now (inl is) fewer =
    (([], refl, writes_same before.notes now.notes (ap (λ (a : AgentState). a.notes) is)), inl is, accounts_same before now (ap (λ (a : AgentState). a.notes) is) (ap (λ (a : AgentState). a.kept) is) fewer)
hand_acts (Ok x) to before now (inr is) fewer =
    (([], refl, writes_same before.notes now.notes (ap (λ (a : AgentState). a.notes) is)), inr is, accounts_same before now (ap (λ (a : AgentState). a.notes) is) (ap (λ (a : AgentState). a.kept) is) fewer)
hand_acts (Err x) to before now changes fewer = tt
