-- What an agent's loop holds, and what is said of it.
use Rattle.std.proofs.Common.{◌≡◌, ◌∙◌, Bool, false, List, Option, Result, Ok, Err, OnOk, ap, inr, subst}
use Rattle.slab.specs.Slab.{Slab}
use Rattle.hub_envelope.specs.declared.ids.EndId.{EndId}
use Rattle.hub_loop.specs.declared.closed.ClosedEnd.{ClosedEnd}
use Rattle.hub_loop.specs.declared.held.Held.{Held}
use Rattle.hub_broadcast.specs.Members.{SubscriptionSeat}
use Rattle.hub_loop.specs.Closing.{ClosesEnd, left_by}
use Rattle.hub_loop.specs.Starting.{StartsClient, StartsPort}
use Rattle.hub_loop.specs.Looking.{HoldsNoPort}
use Rattle.hub_agent.specs.Agents.{AgentState, ClosesOwn}

-- what holds anyway holds where it is no error
pub on_ok : {X E P : Type 0} (r : Result X E) → P → OnOk r P
on_ok (Ok x) p = p
on_ok (Err e) p = tt

-- the end that was closed is held no more
pub closed_held : (end : EndId) (before now : AgentState) (old : Slab Held) (was : Option (List SubscriptionSeat)) (closed : ClosedEnd) → old ≡ before.ends → was ≡ before.roster → ClosesEnd old now.ends was now.roster end closed → ClosesOwn end before now
closed_held end before now old was closed same roster (held, is, more, done, left) =
    subst (λ (ends : Slab Held). ClosesOwn end (record before { ends = ends }) now) same (inr (held, is, more, left ∙ ap (left_by held) roster))

-- where no such port is held the queue was started, or nothing
pub no_port : (old mid new : Slab Held) (end : EndId) (asked started : Bool) → asked ≡ false → StartsPort old mid end asked → StartsClient mid new end started → HoldsNoPort old end × StartsClient old new end started
no_port old mid new end asked started refused port client =
    let none = subst (StartsPort old mid end) refused port in
    (none.0, subst (λ (ends : Slab Held). StartsClient ends new end started) none.1 client)
