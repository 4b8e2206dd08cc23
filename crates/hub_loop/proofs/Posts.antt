-- What a post from a loop leaves.
use Rattle.std.proofs.Common.{◌≡◌, ◌∙◌, ℕ, List, Result, Option, IfSome, IfNone, Some, None, get_or-set_other, ap, refl, subst, sym}
use Rattle.std.proofs.lemmas.Option.{same_Some}
use Rattle.slab.specs.Slab.{Slab, get, with_value}
use Rattle.hub_envelope.specs.declared.ids.AgentId.{AgentId}
use Rattle.hub_envelope.specs.declared.posted.Posted.{Posted}
use Rattle.hub_ready.specs.declared.ready.Ready.{Ready}
use Rattle.hub_ports.specs.declared.error.PortError.{PortError}
use Rattle.hub_ports.specs.Seats.{PortSeat}
use Rattle.hub_queue.specs.Standing.{StandSeat}
use Rattle.hub_loop.specs.declared.held.Held.{Held}
use Rattle.hub_loop.specs.declared.held.Held.TheVariants.{Port, Client, Worker, Member, Line}
use Rattle.hub_loop.specs.declared.posting.Way.{Way}
use Rattle.hub_loop.specs.declared.posting.Way.TheVariants as way
use Rattle.hub_loop.specs.Holding.{at_stand, end_held, stand_held}
use Rattle.hub_loop.specs.Looking.{IsFound, IsSlotOf, IsWay, LacksWay}
use Rattle.hub_loop.specs.Posting.{IsPostedOver}
use Rattle.hub_loop.specs.Reaching.{AreReached}
use Rattle.hub_loop.proofs.Marks.{all-but, moves-same, written}

-- where its line stands is no part of the number of an end
pub at-stand-end : (held : Held) (stand : StandSeat) → end_held (at_stand held stand) ≡ end_held held
at-stand-end (Port p) stand = refl
at-stand-end (Client t) stand = refl
at-stand-end (Worker t) stand = refl
at-stand-end (Member m) stand = refl
at-stand-end (Line l) stand = refl

-- an end keeps its number in a post
pub posted-end : {A : Type 0} (told : A → Result Posted PortError) (agent : AgentId) (body : List ℕ) (ports : List PortSeat) (old new : Held) (result : Option A) → IfSome result (λ answer. IsPostedOver agent body ports old new (told answer)) → IfNone result (new ≡ old) → end_held new ≡ end_held old
posted-end told agent body ports old new (Some answer) (line, stand, is, sent, left) same = ap end_held left ∙ at-stand-end old stand
posted-end told agent body ports old new None posted same = ap end_held same

-- where nothing was found nothing goes this way
pub way-lacks : (w : Way) (slots : Slab Held) → IsFound (IsWay w) slots None → LacksWay w slots
way-lacks w slots none held (key, at) is = none key (subst (IsSlotOf (IsWay w)) (sym at) is)

-- what goes some way has a line
pub way-posts : (w : Way) (held : Held) → IsWay w held → stand_held held ≡ None → ⊥
way-posts (way.Port end) (Port p) is none = absurd cc
way-posts (way.Port end) (Client t) is none = let no = is.0 in absurd cc
way-posts (way.Port end) (Worker t) is none = let no = is.0 in absurd cc
way-posts (way.Port end) (Member m) is none = let no = is.0 in absurd cc
way-posts (way.Port end) (Line l) is none = let no = is.0 in absurd cc
way-posts (way.Line end) (Port p) is none = is
way-posts (way.Line end) (Client t) is none = is
way-posts (way.Line end) (Worker t) is none = is
way-posts (way.Line end) (Member m) is none = is
way-posts (way.Line end) (Line l) is none = absurd cc

-- what has the same number under its key is found as before
pub same-end : (slots : Slab Held) (r : Ready) (key : ℕ) (old new : Held) → get slots key ≡ Some old → end_held new ≡ end_held old → AreReached slots r → AreReached (with_value slots key new) r
same-end slots r key old new was same reached =
    all-but slots (with_value slots key new) r r key
    (λ other differs. get_or-set_other slots.slots key other (Some new) None differs)
    (λ other differs. moves-same r other)
    (λ held is.
    let here = reached key old was in
    let there = same_Some new held (sym (written slots key old new was) ∙ is) in
    (here.0, λ end number clear. here.1 end (sym same ∙ ap end_held there ∙ number) clear))
    reached
