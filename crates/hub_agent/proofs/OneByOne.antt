-- What is written of a list of actions, as the actions are done one by one.
use Rattle.std.proofs.Common.{◌≡◌, ◌≢◌, ℕ, length, take, List, [], ◌∷◌, ◌++◌, Bool, true, false, Result, Ok, IfOk, sym, refl, inl, subst, arith}
use Rattle.std.proofs.lemmas.List.Elements.{All-nil}
use Rattle.hub_envelope.specs.declared.posted.Posted.{Posted}
use Rattle.hub_agent.specs.Doing.{DidAll, HasActed, IsStopped}
use Rattle.hub_agent.specs.declared.actor.Acted.{Acted}
use Rattle.hub_script.specs.declared.action.ActionKind.{ActionKind}
use Rattle.hub_script.specs.declared.action.ActionKind.TheVariants.{Post, Send, Cast, Start, Loaded, Close, Wait, Receive, Order, Event, Hand, Fetch}
use Rattle.hub_trace.specs.declared.log_entry.LogEntry.{LogEntry}
use Rattle.hub_agent.specs.Entries.{AreLoggedFor, IsLoggedFor}
use Rattle.hub_agent.specs.Agents.{AgentState, LooksFor}
use Rattle.hub_agent.specs.Owning.{has}
use Rattle.hub_agent.specs.Acting.{Acts, ActsAll, ActsFirst, IsStoppedAt}
use Rattle.hub_agent.proofs.Actions.{acts_own}
use Rattle.hub_agent.proofs.Owns.{leaves_both, leaves_none}
use Rattle.hub_agent.proofs.Writing.{writes_both, writes_same}

-- of an action that isn't done nothing is written
nothing : (action : ActionKind) → IsLoggedFor action []
nothing (Post port body transfer) = inl refl
nothing (Send queue body transfer) = inl refl
nothing (Cast member body) = ([], refl, omega arith, All-nil (λ (posted : Posted). posted.end.0 ≢ member.0))
nothing (Close end) = inl refl
nothing (Wait messages) = ([], refl, tt)
nothing (Receive port) = ([], refl, tt)
nothing (Fetch queue) = ([], [], refl, ([], refl, tt), inl refl)
nothing (Start end) = refl
nothing (Loaded queue) = refl
nothing (Order to) = refl
nothing (Event event) = refl
nothing (Hand to) = refl

none_done : (all : List ActionKind) → AreLoggedFor all []
none_done [] = refl
none_done (action ∷ later) = ([], [], refl, nothing action, none_done later)

-- nor of those behind the ones that were done
pub no_more : (all later : List ActionKind) (entries : List LogEntry) → AreLoggedFor all entries → AreLoggedFor (all ++ later) entries
no_more [] later entries none = subst (AreLoggedFor later) (sym none) (none_done later)
no_more (a ∷ all) later entries (first, rest, is, logged, behind) = (first, rest, is, logged, no_more all later rest behind)

-- an action before others
acts_before : (action : ActionKind) (later : List ActionKind) (before now after : AgentState) → Acts action before now → ActsAll later now after → ActsAll (action ∷ later) before after
acts_before action later before now after act (rest, all, behind, own) =
    let (first, logged, is) = act.0 in (
      first ++ rest,
      (first, rest, refl, logged, all),
      writes_both first rest before.notes now.notes after.notes is behind,
      λ none.
          let (kept, one) = acts_own action before now first logged is act.2 none in
          let (keeps, two) = own kept in
          (keeps, leaves_both (has before) (has now) (has after) first rest one two),
    )

acts_none : (a : AgentState) → ActsAll [] a a
acts_none a = ([], refl, writes_same a.notes a.notes refl, λ none. (none, leaves_none (has a)))

-- what a look and an action of an agent leave of it
abbrev pub looks : AgentState → Bool → AgentState → Type 0
looks before seen after = LooksFor before seen after

abbrev pub acts : AgentState → ActionKind → AgentState → Type 0
acts before action after = Acts action before after

-- its looks change nothing but its seat at the order
did_all : (all : List ActionKind) (before now : AgentState) → DidAll looks acts all before now → ActsAll all before now
did_all [] before now is = subst (ActsAll [] before) (sym is) (acts_none before)
did_all (action ∷ later) before now (seen, done, look, act, did) =
    subst (λ (a : AgentState). ActsAll (action ∷ later) a now) look.1 (acts_before action later seen done now act (did_all later done now did))

stopped_at : (all some : List ActionKind) (done : ℕ) (ordered : Bool) (before last now : AgentState) → IsStopped looks acts all done ordered last now → ActsAll some before last → IsStoppedAt ordered done (length all) × ActsAll some before now
stopped_at all some done true before last now (below, look) did = (below, subst (ActsAll some before) (sym look.1) did)
stopped_at all some done false before last now (is, same) did = (is, subst (ActsAll some before) (sym same) did)

acted_first : (all : List ActionKind) (acted : Acted) (before now : AgentState) → HasActed looks acts all acted before now → ActsFirst acted all before now
acted_first all acted before now (last, did, stopped) =
    let (at, acts) = stopped_at all (take acted.done all) acted.done acted.ordered before last now stopped (did_all (take acted.done all) before last did) in
    record { acts = acts; stopped = at }

pub acted_so : {E : Type 0} (all : List ActionKind) (before now : AgentState) (result : Result Acted E) (acted : Acted) → result ≡ Ok acted → IfOk result (λ acted. HasActed looks acts all acted before now) → ActsFirst acted all before now
acted_so all before now result acted is did = acted_first all acted before now (subst (λ r. IfOk r (λ acted. HasActed looks acts all acted before now)) is did)
