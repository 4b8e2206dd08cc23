-- Ports that a doomed message closes one after another.
use Rattle.std.proofs.Common.{arith, ◌≡◌, ℕ, zero, suc, ◌<◌, ◌≤◌, List, [], ◌∷◌, ◌++◌, length, refl, ap, sym, inl, inr, ◌∙◌, subst, append_assoc, length-append, Option, Some, None, Ok, Err}
use Rattle.hub_envelope.specs.Notice.{notice_draft}
use Rattle.hub_envelope.specs.declared.envelope.Draft.{Draft}
use Rattle.hub_envelope.specs.declared.ids.EndId.{EndId}
use Rattle.hub_queue.specs.declared.store.PutView.{PutView}
use Rattle.hub_queue.specs.declared.error.PostError.{PostError}
use Rattle.hub_queue.specs.declared.error.PostError.TheVariants as why
use Rattle.hub_envelope.specs.declared.posted.Posted.{Posted}
use Rattle.hub_queue.specs.Ending.{IsClosed, closed_queue}
use Rattle.hub_queue.specs.Graves.{GraveSeat}
use Rattle.hub_queue.specs.Left.{unrung, IsNewestOf}
use Rattle.hub_queue.specs.Posting.{StoodAs, LeavesBehind, IsPosted, IsSeen}
use Rattle.hub_queue.specs.Standing.{StandSeat}
use Rattle.hub_queue.specs.TakerQueues.{TakerQueueSeat}
use Rattle.hub_queue.specs.Taking.{TakerSeat}
use Rattle.hub_queue.proofs.Below.{parts_snoc}
use Rattle.hub_ports.specs.declared.closing.ClosedPort.{ClosedPort}
use Rattle.hub_ports.specs.declared.closing.Noticed.{Noticed}
use Rattle.hub_ports.specs.declared.closing.Noticed.TheVariants as noticed
use Rattle.hub_ports.specs.Closing.{IsNoticed, IsTold, IsDoomedAs, AreDoomed}
use Rattle.hub_ports.specs.Seats.{PortSeat}

leaves_unrung : (old : StandSeat) (hops : ℕ) (left : _) → LeavesBehind old hops left → LeavesBehind (unrung old) hops left
leaves_unrung old zero left h = tt
leaves_unrung old (suc hops) [] h = absurd h
leaves_unrung old (suc zero) (e ∷ left) h = h
leaves_unrung old (suc (suc hops)) (e ∷ left) h = (h.0, leaves_unrung old (suc hops) left h.1)

stood_unrung : (old new : StandSeat) (before : PutView) (entered : ℕ) → StoodAs old new before entered → StoodAs (unrung old) (unrung new) before entered
stood_unrung old new before entered (inl h) = inl (record { name = h.0.name; gate = h.0.gate; queue = h.0.queue; left = h.0.left }, h.1, h.2)
stood_unrung old new before entered (inr h) = inr (record { hops = h.0.hops; some = h.0.some; few = h.0.few; name = h.0.name; left = leaves_unrung old h.0.hops new.left h.0.left }, h.1, h.2, h.3)

posted_unrung : (old new : StandSeat) (draft : Draft) (posted : Posted) → IsPosted old new draft (Ok posted) → IsPosted (unrung old) (unrung new) draft (Ok posted)
posted_unrung old new draft posted h = (h.0, h.1, stood_unrung old new h.0 h.1 h.2, h.3)

seen_unrung : (s : StandSeat) (entered : ℕ) (error : PostError) → IsSeen s entered error → IsSeen (unrung s) entered error
seen_unrung s entered why.Closed h = record { entered_again = h.entered_again; found = h.found }
seen_unrung s entered why.Moving h = record { entered_again = h.entered_again; found = h.found }
seen_unrung s entered why.OutOfMemory h = tt

refused_unrung : (old new : StandSeat) (draft : Draft) (error : PostError) → IsPosted old new draft (Err (error, draft)) → IsPosted (unrung old) (unrung new) draft (Err (error, draft))
refused_unrung old new draft error h = (h.0, h.1, stood_unrung old new h.0 h.1 h.2, h.3, h.4, seen_unrung new h.1 error h.5)

-- what became of a notice doesn't depend on what the bell of the line has done
noticed_unrung : (old new : StandSeat) (n : Noticed) → IsNoticed old new n → IsNoticed (unrung old) (unrung new) n
noticed_unrung old new (noticed.Put posted) h = posted_unrung old new notice_draft posted h
noticed_unrung old new noticed.PeerClosed h = refused_unrung old new notice_draft why.Closed h
noticed_unrung old new noticed.Moving h = refused_unrung old new notice_draft why.Moving h
noticed_unrung old new noticed.OutOfMemory (inl h) = inl (refused_unrung old new notice_draft why.OutOfMemory h)
noticed_unrung old new noticed.OutOfMemory (inr same) = inr (ap unrung same)

newest_shut : (t : TakerSeat) (g : GraveSeat) (q : TakerQueueSeat) → IsClosed t g → IsNewestOf g q → q ≡ closed_queue t.newest
newest_shut t g q closed (older, newest) =
    sym ((parts_snoc t.retired older (closed_queue t.newest) q (sym (ap (λ (grave : GraveSeat). grave.queues) closed) ∙ newest)).1)

-- a port was closed, and its notice put or refused on its line
told_line : (p : PortSeat) (spent : StandSeat) (c : ClosedPort) → c.line ≡ Some (unrung spent) → c.end ≡ record { 0 = p.taker.end } → IsNoticed p.poster spent c.noticed → IsTold p c
told_line p spent c line same told = (same, (unrung spent, line, noticed_unrung p.poster spent c.noticed told))

pub told_one : (p : PortSeat) (spent : StandSeat) (end : EndId) (n : Noticed) (c : ClosedPort) → c ≡ record { end = end; queue = None; line = Some (unrung spent); noticed = n } → end ≡ record { 0 = p.taker.end } → IsNoticed p.poster spent n → IsTold p c
told_one p spent end n c is same told =
    told_line p spent c (ap (λ (c : ClosedPort). c.line) is) (ap (λ (c : ClosedPort). c.end) is ∙ same) (subst (IsNoticed p.poster spent) (sym (ap (λ (c : ClosedPort). c.noticed) is)) told)

-- and what shows its newest queue
pub doomed_one : (p : PortSeat) (g : GraveSeat) (spent : StandSeat) (end : EndId) (n : Noticed) (c : ClosedPort) (q : TakerQueueSeat) → c ≡ record { end = end; queue = None; line = Some (unrung spent); noticed = n } → end ≡ record { 0 = p.taker.end } → IsClosed p.taker g → IsNewestOf g q → IsNoticed p.poster spent n → IsDoomedAs p (record c { queue = Some q })
doomed_one p g spent end n c q is same closed newest told = (
  told_one p spent end n c is same told,
  ap Some (newest_shut p.taker g q closed newest),
)

-- one more was closed
pub doomed_more : (ps : List PortSeat) (cs : List ClosedPort) (p : PortSeat) (c : ClosedPort) → AreDoomed ps cs → IsDoomedAs p c → AreDoomed (ps ++ p ∷ []) (cs ++ c ∷ [])
doomed_more [] cs p c h one = (c, [], ap (λ xs. xs ++ c ∷ []) h, one, refl)
doomed_more (q ∷ ps) cs p c h one =
    (h.0, h.1 ++ c ∷ [], ap (λ xs. xs ++ c ∷ []) h.2, h.3, doomed_more ps h.1 p c h.4 one)

-- as many closings as ports
length_doomed : (ps : List PortSeat) (cs : List ClosedPort) → AreDoomed ps cs → length cs ≡ length ps
length_doomed [] cs h = ap length h
length_doomed (q ∷ ps) cs h = ap length h.2 ∙ ap (λ n. suc n) (length_doomed ps h.1 h.4)

-- there is room for the closing of the next port
pub room_left : (most : ℕ) (all done rest after : List PortSeat) (p : PortSeat) (cs : List ClosedPort) → length all ≤ most → all ≡ done ++ rest → rest ≡ p ∷ after → AreDoomed done cs → length cs < most
room_left most all done rest after p cs few split next h =
    let whole = ap length (split ∙ ap (λ xs. done ++ xs) next) in
    let each = length_doomed done cs h in
    omega (arith, length-append done (p ∷ after))

-- what is left after the next port
pub next_left : (all done rest after : List PortSeat) (p : PortSeat) → all ≡ done ++ rest → rest ≡ p ∷ after → all ≡ done ++ p ∷ [] ++ after
next_left all done rest after p split next = split ∙ ap (λ xs. done ++ xs) next ∙ sym (append_assoc done (p ∷ []) after)
