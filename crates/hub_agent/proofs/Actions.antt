-- What an agent has of ends behind each action, by what it writes.
use Rattle.std.proofs.Common.{◌≡◌, ◌∙◌, ◌≤◌, ◌⊎◌, ℕ, ◌+◌, ◌==◌, Bool, true, false, cond, List, [], ◌∷◌, map, Option, Some, None, Result, Ok, Err, OnOk, ap, sym, refl, subst, inl, inr, arith}
use Rattle.std.specs.List.{flat_map}
use Rattle.std.proofs.lemmas.List.Sums.{sum_by-cons}
use Rattle.slab.specs.Slab.{Slab, get, with_value}
use Rattle.hub_envelope.specs.declared.ids.AgentId.{AgentId}
use Rattle.hub_envelope.specs.declared.ids.EndId.{EndId}
use Rattle.hub_envelope.specs.declared.posted.Posted.{Posted}
use Rattle.hub_broadcast.specs.Members.{SubscriptionSeat}
use Rattle.hub_clients.specs.Handing.{taker_of, IsHandedAdopted}
use Rattle.hub_clients.specs.declared.handed.HandedQueue.{HandedQueue}
use Rattle.hub_clients.specs.declared.handed.HandedQueue.TheVariants as handed
use Rattle.hub_logging.specs.Notes.{Notes, delivered}
use Rattle.hub_loop.specs.Adopting.{HoldsMore, IsFetched}
use Rattle.hub_loop.specs.States.{HoldingState}
use Rattle.hub_loop.specs.Closing.{ClosesEnd}
use Rattle.hub_loop.specs.declared.posting.Way.{Way}
use Rattle.hub_loop.specs.Posting.{PostsThrough}
use Rattle.hub_loop.specs.declared.closed.ClosedEnd.{ClosedEnd}
use Rattle.hub_loop.specs.declared.handler.Turn.{Turn}
use Rattle.hub_loop.specs.declared.handler.Turn.TheVariants.{Delivered, Idle, Ending}
use Rattle.hub_queue.specs.Taking.{TakerSeat}
use Rattle.hub_loop.specs.Ending.{is_held}
use Rattle.hub_loop.specs.Holding.{at_stand, end_held, held_queue}
use Rattle.hub_loop.specs.Starting.{StartsClient, StartsPort}
use Rattle.hub_loop.specs.declared.held.Held.{Held}
use Rattle.hub_loop.specs.declared.held.Held.TheVariants as held
use Rattle.hub_ports.specs.Seats.{PortSeat, ends_of}
use Rattle.hub_ports.specs.Sending.{IsSent}
use Rattle.hub_ports.specs.declared.error.PortError.{PortError}
use Rattle.hub_ports.specs.declared.error.PortError.TheVariants as error
use Rattle.hub_queue.specs.Standing.{StandSeat}
use Rattle.hub_script.specs.declared.action.ActionKind.{ActionKind}
use Rattle.hub_script.specs.declared.action.ActionKind.TheVariants.{Post, Send, Cast, Start, Loaded, Close, Wait, Receive, Order, Event, Hand, Fetch}
use Rattle.hub_trace.specs.Accepted.{AgentLog, message_at}
use Rattle.hub_trace.specs.declared.log_entry.LogEntry.{LogEntry}
use Rattle.hub_trace.specs.declared.log_entry.LogEntry.TheVariants.{Put, Got, Adopted, Closed}
use Rattle.hub_agent.specs.Agents.{AgentState, KeepsButNotes, StartsEnd, StartsClientQueue}
use Rattle.hub_agent.specs.Entries.{AreAdoptedOf, AreAdoptions, AreClosings, AreEndings, AreTurnEntries, AreTurnsLogged, IsCastLogged, IsCloseLogged, IsClosing, IsFetchLogged, IsLoggedFor, IsPostLogged, IsTurnLogged, TurnLeaves, WritesEntries, answer_entries, ports_listed}
use Rattle.hub_agent.specs.Owning.{Accounts, HoldsNoMore, LeavesOwn, TurnBrings, gained, gained_by, has, lost, lost_by, times}
use Rattle.hub_agent.specs.Posting.{given_back}
use Rattle.hub_agent.proofs.Brings.{count_held, count_same, held_in}
use Rattle.hub_agent.proofs.Listed.{split_times, times_cons, times_one}
use Rattle.hub_agent.proofs.Owns.{gained_both, lost_both, only_gained, only_lost}
use Rattle.hub_agent.proofs.Slots.{count_set}
use Rattle.hub_agent.proofs.Walking.{doomed_closings}

lost_cons : (e : ℕ) (x : LogEntry) (xs : List LogEntry) → lost e (x ∷ xs) ≡ lost_by e x + lost e xs
lost_cons e x xs = sum_by-cons (lost_by e) x xs

gained_cons : (e : ℕ) (x : LogEntry) (xs : List LogEntry) → gained e (x ∷ xs) ≡ gained_by e x + gained e xs
gained_cons e x xs = sum_by-cons (gained_by e) x xs

-- nothing is gained by these entries, and nothing is lost by them
abbrev GainsNone : List LogEntry → Type 0
GainsNone entries = (e : ℕ) → gained e entries ≡ 0

abbrev LosesNone : List LogEntry → Type 0
LosesNone entries = (e : ℕ) → lost e entries ≡ 0

closing_gains : (end : EndId) (entries : List LogEntry) → IsClosing end entries → GainsNone entries
closing_gains end entries (inl is) = λ e. ap (gained e) is
closing_gains end entries (inr (posted, is)) = λ e. ap (gained e) is

pub closing_loses : (end : EndId) (entries : List LogEntry) → IsClosing end entries → (e : ℕ) → lost e entries ≡ times e (end ∷ [])
closing_loses end entries (inl is) = λ e. let h = ap (lost e) is in omega (arith, h)
closing_loses end entries (inr (posted, is)) = λ e. let h = ap (lost e) is in omega (arith, h)

closings_gain : (ends : List EndId) (entries : List LogEntry) → AreClosings ends entries → GainsNone entries
closings_gain [] entries is = λ e. ap (gained e) is
closings_gain (end ∷ ends) entries (first, rest, is, one, more) = λ e.
    let all = ap (gained e) is ∙ gained_both e first rest in
    let here = closing_gains end first one e in
    let behind = closings_gain ends rest more e in
    omega (arith, all, here, behind)

closings_lose : (ends : List EndId) (entries : List LogEntry) → AreClosings ends entries → (e : ℕ) → lost e entries ≡ times e ends
closings_lose [] entries is = λ e. ap (lost e) is
closings_lose (end ∷ ends) entries (first, rest, is, one, more) = λ e.
    let all = ap (lost e) is ∙ lost_both e first rest in
    let here = closing_loses end first one e in
    let behind = closings_lose ends rest more e in
    let split = times_cons e end ends in
    let single = times_one e end in
    omega (arith, all, here, behind, split, single)

pub post_gains : (ports : List EndId) (body : List ℕ) (entries : List LogEntry) → IsPostLogged ports body entries → GainsNone entries
post_gains ports body entries (inl is) = λ e. ap (gained e) is
post_gains ports body entries (inr (inl (posted, is))) = λ e. ap (gained e) is
post_gains ports body entries (inr (inr closed)) = closings_gain ports entries closed

posts_none : (body : List ℕ) (all : List Posted) → GainsNone (map (λ posted. Put (message_at posted [] body)) all) × LosesNone (map (λ posted. Put (message_at posted [] body)) all)
posts_none body [] = (λ e. refl, λ e. refl)
posts_none body (posted ∷ all) =
    let rest = posts_none body all in (
      (λ e. let h = gained_cons e (Put (message_at posted [] body)) (map (λ p. Put (message_at p [] body)) all) in let r = rest.0 e in omega (arith, h, r)),
      λ e. let h = lost_cons e (Put (message_at posted [] body)) (map (λ p. Put (message_at p [] body)) all) in let r = rest.1 e in omega (arith, h, r),
    )

cast_none : (member : EndId) (body : List ℕ) (entries : List LogEntry) → IsCastLogged member body entries → GainsNone entries × LosesNone entries
cast_none member body entries (all, is, rise, others) =
    let both = posts_none body all in
    (λ e. ap (gained e) is ∙ both.0 e, λ e. ap (lost e) is ∙ both.1 e)

pub close_gains : (end : EndId) (entries : List LogEntry) → IsCloseLogged end entries → GainsNone entries
close_gains end entries (inl is) = λ e. ap (gained e) is
close_gains end entries (inr closing) = closing_gains end entries closing

adopted_loses : (ends : List EndId) (entries : List LogEntry) → AreAdoptedOf ends entries → LosesNone entries
adopted_loses [] entries is = λ e. ap (lost e) is
adopted_loses (end ∷ ends) entries (inl adopted) = adopted_loses ends entries adopted
adopted_loses (end ∷ ends) entries (inr (epoch, rest, is, adopted)) = λ e.
    let all = ap (lost e) is ∙ lost_cons e (Adopted end epoch) rest in
    let behind = adopted_loses ends rest adopted e in
    omega (arith, all, behind)

turn_loses : (entries : List LogEntry) → IsTurnLogged entries → LosesNone entries
turn_loses entries (inl is) = λ e. ap (lost e) is
turn_loses entries (inr (d, adoptions, is, adopted)) = λ e.
    let all = ap (lost e) is ∙ lost_cons e (Got d) adoptions in
    let behind = adopted_loses (ports_listed d.content) adoptions adopted e in
    omega (arith, all, behind)

each_loses : (turns : List (List LogEntry)) → AreTurnEntries turns → LosesNone (flat_map (λ turn. turn) turns)
each_loses [] none = λ e. refl
each_loses (turn ∷ turns) (first, rest) = λ e.
    let all = lost_both e turn (flat_map (λ t. t) turns) in
    let here = turn_loses turn first e in
    let behind = each_loses turns rest e in
    omega (arith, all, here, behind)

turns_lose : (entries : List LogEntry) → AreTurnsLogged entries → LosesNone entries
turns_lose entries (turns, is, all) = λ e. ap (lost e) is ∙ each_loses turns all e

fetch_loses : (queue : EndId) (entries : List LogEntry) → IsFetchLogged queue entries → LosesNone entries
fetch_loses queue entries (turns, last, is, all, inl none) = λ e.
    let both = ap (lost e) is ∙ lost_both e turns last in
    let first = turns_lose turns all e in
    let then = ap (lost e) none in
    omega (arith, both, first, then)
fetch_loses queue entries (turns, last, is, all, inr (epoch, adopted)) = λ e.
    let both = ap (lost e) is ∙ lost_both e turns last in
    let first = turns_lose turns all e in
    let then = ap (lost e) adopted in
    omega (arith, both, first, then)

-- By an action either nothing is gained or nothing is lost.
one_kind : (action : ActionKind) (entries : List LogEntry) → IsLoggedFor action entries → GainsNone entries ⊎ LosesNone entries
one_kind (Post port body transfer) entries logged = inl (post_gains transfer body entries logged)
one_kind (Send queue body transfer) entries logged = inl (post_gains transfer body entries logged)
one_kind (Cast member body) entries logged = inl (cast_none member body entries logged).0
one_kind (Close end) entries logged = inl (close_gains end entries logged)
one_kind (Wait messages) entries logged = inr (turns_lose entries logged)
one_kind (Receive port) entries logged = inr (turns_lose entries logged)
one_kind (Fetch queue) entries logged = inr (fetch_loses queue entries logged)
one_kind (Start end) entries is = inl (λ e. ap (gained e) is)
one_kind (Loaded queue) entries is = inl (λ e. ap (gained e) is)
one_kind (Order to) entries is = inl (λ e. ap (gained e) is)
one_kind (Event event) entries is = inl (λ e. ap (gained e) is)
one_kind (Hand to) entries is = inl (λ e. ap (gained e) is)

kind_leaves : (own left : ℕ → ℕ) (entries : List LogEntry) → GainsNone entries ⊎ LosesNone entries → ((e : ℕ) → left e + lost e entries ≤ own e + gained e entries) → LeavesOwn own entries left
kind_leaves own left entries (inl none) total = only_lost own left entries none total
kind_leaves own left entries (inr none) total = only_gained own left entries none total

-- the account by what was written
pub written_account : (before now : AgentState) (entries : List LogEntry) → WritesEntries entries before.notes now.notes → Accounts before now → before.kept ≡ None
    → (now.kept ≡ None) × ((e : ℕ) → has now e + lost e entries ≤ has before e + gained e entries)
written_account before now entries written accounts none =
    let (kept, total) = accounts none in (
      kept,
      λ e.
          let all = total e in
          let l = ap (λ (log : AgentLog). lost e log.1) written ∙ lost_both e before.notes.log.1 entries in
          let g = ap (λ (log : AgentLog). gained e log.1) written ∙ gained_both e before.notes.log.1 entries in
          omega (arith, all, l, g),
    )

pub accounts_by : (before now : AgentState) (entries : List LogEntry) → WritesEntries entries before.notes now.notes → (before.kept ≡ None → now.kept ≡ None)
    → ((e : ℕ) → has now e + lost e entries ≤ has before e + gained e entries) → Accounts before now
accounts_by before now entries written kept total none = (
  kept none,
  λ e.
      let all = total e in
      let l = ap (λ (log : AgentLog). lost e log.1) written ∙ lost_both e before.notes.log.1 entries in
      let g = ap (λ (log : AgentLog). gained e log.1) written ∙ gained_both e before.notes.log.1 entries in
      omega (arith, all, l, g),
)

-- the same log, and no more ends
pub accounts_same : (before now : AgentState) → now.notes ≡ before.notes → now.kept ≡ before.kept → HoldsNoMore before now → Accounts before now
accounts_same before now notes kept fewer none = (
  kept ∙ none,
  λ e.
      let h = fewer e in
      let l = ap (λ n. lost e n.log.1) notes in
      let g = ap (λ n. gained e n.log.1) notes in
      omega (arith, h, l, g),
)

pub accounts_both : (a b c : AgentState) → Accounts a b → Accounts b c → Accounts a c
accounts_both a b c first then none =
    let (kept, one) = first none in
    let (keeps, two) = then kept in (
      keeps,
      λ e. let x = one e in let y = two e in omega (arith, x, y),
    )

-- the same log and the same ends afterwards
pub accounts_kept : (before mid now : AgentState) → now.notes ≡ mid.notes → now.kept ≡ mid.kept → now.ends ≡ mid.ends → Accounts before mid → Accounts before now
accounts_kept before mid now notes kept ends first =
    accounts_both before mid now first (accounts_same mid now notes kept (λ e. let h = ap (λ s. held_in s e) ends in omega (arith, h)))

-- an action that was done leaves the agent its own
pub acts_own : (action : ActionKind) (before now : AgentState) (entries : List LogEntry) → IsLoggedFor action entries → WritesEntries entries before.notes now.notes → Accounts before now
    → before.kept ≡ None → (now.kept ≡ None) × LeavesOwn (has before) entries (has now)
acts_own action before now entries logged written accounts none =
    let (kept, total) = written_account before now entries written accounts none in
    (kept, kind_leaves (has before) (has now) entries (one_kind action entries logged) total)

endings_gain : (entries : List LogEntry) → AreEndings entries → GainsNone entries
endings_gain [] none = λ e. refl
endings_gain (Put d ∷ entries) (notice, rest) = λ e. let h = gained_cons e (Put d) entries in let r = endings_gain entries rest e in omega (arith, h, r)
endings_gain (Closed end ∷ entries) rest = λ e. let h = gained_cons e (Closed end) entries in let r = endings_gain entries rest e in omega (arith, h, r)
endings_gain (Got d ∷ entries) never = absurd never
endings_gain (Adopted end epoch ∷ entries) never = absurd never

-- at the end only what is there is closed
pub endings_own : (own : ℕ → ℕ) (entries : List LogEntry) → AreEndings entries → ((e : ℕ) → lost e entries ≤ own e) → LeavesOwn own entries (λ e. 0)
endings_own own entries ended fewer =
    only_lost own (λ e. 0) entries (endings_gain entries ended) (λ e. let h = fewer e in let g = endings_gain entries ended e in omega (arith, h, g))

-- adoptions
pub adoptions_gain : (ends : List EndId) (entries : List LogEntry) → AreAdoptions ends entries → (e : ℕ) → (gained e entries ≡ times e ends) × (lost e entries ≡ 0)
adoptions_gain [] entries is = λ e. (ap (gained e) is, ap (lost e) is)
adoptions_gain (end ∷ ends) entries (epoch, rest, is, more) = λ e.
    let g = ap (gained e) is ∙ gained_cons e (Adopted end epoch) rest in
    let l = ap (lost e) is ∙ lost_cons e (Adopted end epoch) rest in
    let (r, s) = adoptions_gain ends rest more e in
    let split = times_cons e end ends in
    let single = times_one e end in
    (omega (arith, g, r, split, single), omega (arith, l, s))

-- the end of that number is held once
abbrev end_number : Option EndId → ℕ
end_number None = 0
end_number (Some end) = end.0

end_times : (e : ℕ) (h : Held) (end : EndId) → end_held h ≡ Some end → cond (is_held e (Some h)) 1 0 ≡ times e (end ∷ [])
end_times e (held.Port p) end is = ap (λ n. cond {A = ℕ} (n == e) 1 0) (ap end_number is) ∙ sym (times_one e end)
end_times e (held.Client t) end is = ap (λ n. cond {A = ℕ} (n == e) 1 0) (ap end_number is) ∙ sym (times_one e end)
end_times e (held.Worker t) end is = ap (λ n. cond {A = ℕ} (n == e) 1 0) (ap end_number is) ∙ sym (times_one e end)
end_times e (held.Member m) end is = ap (λ n. cond {A = ℕ} (n == e) 1 0) (ap end_number is) ∙ sym (times_one e end)
end_times e (held.Line l) end is = absurd cc

-- it holds the end of that number besides
pub holds_end : (old new : Slab Held) (h : Held) (end : EndId) → HoldsMore old new h → end_held h ≡ Some end → (e : ℕ) → held_in new e ≡ held_in old e + times e (end ∷ [])
holds_end old new h end more is e =
    let a = count_held e old new h more in
    let b = end_times e h end is in
    omega (arith, a, b)

-- something else is under the key of an end that is held, of the same number
pub held_again : (e : ℕ) (slots : Slab Held) (key : ℕ) (h w : Held) → get slots key ≡ Some h → is_held e (Some w) ≡ is_held e (Some h) → held_in (with_value slots key w) e ≡ held_in slots e
held_again e slots key h w at same = count_set (is_held e) refl slots.slots key h w at same

pub port_started : (e : ℕ) (old new : Slab Held) (end : EndId) (started : Bool) → StartsPort old new end started → held_in new e ≡ held_in old e
port_started e old new end true (key, port, at, is, now) = ap (λ s. held_in s e) now ∙ held_again e old key (held.Port port) _ at refl
port_started e old new end false (none, now) = ap (λ s. held_in s e) now

pub client_started : (e : ℕ) (old new : Slab Held) (end : EndId) (started : Bool) → StartsClient old new end started → held_in new e ≡ held_in old e
client_started e old new end true (key, queue, at, is, now) = ap (λ s. held_in s e) now ∙ held_again e old key (held.Client queue) _ at refl
client_started e old new end false (none, now) = ap (λ s. held_in s e) now

pub start_accounts : (end : EndId) (before now : AgentState) → StartsEnd end before now → Accounts before now
start_accounts end before now (keeps, inl started) =
    accounts_same before now (ap (λ (a : AgentState). a.notes) keeps) (ap (λ (a : AgentState). a.kept) keeps)
    (λ e. let h = port_started e before.ends now.ends end true started in omega (arith, h))
start_accounts end before now (keeps, inr (none, (was, started))) =
    accounts_same before now (ap (λ (a : AgentState). a.notes) keeps) (ap (λ (a : AgentState). a.kept) keeps)
    (λ e. let h = client_started e before.ends now.ends end was started in omega (arith, h))

pub load_accounts : (queue : EndId) (before now : AgentState) → StartsClientQueue queue before now → Accounts before now
load_accounts queue before now (keeps, (was, started)) =
    accounts_same before now (ap (λ (a : AgentState). a.notes) keeps) (ap (λ (a : AgentState). a.kept) keeps)
    (λ e. let h = client_started e before.ends now.ends queue was started in omega (arith, h))

-- what a post has lost, with what has come back
pub answer_loses : (old new : StandSeat) (agent : AgentId) (body posted_body : List ℕ) (ports : List PortSeat) (answer : Result Posted PortError) → IsSent old new agent posted_body ports answer
    → (e : ℕ) → lost e (answer_entries (ends_of ports) body answer) + times e (ends_of (given_back answer)) ≤ times e (ends_of ports)
answer_loses old new agent body posted_body ports (Ok posted) sent e =
    let h = lost_cons e (Put (message_at posted (ends_of ports) body)) [] in omega (arith, h)
answer_loses old new agent body posted_body ports (Err (error.Doomed closings)) sent e =
    let h = closings_lose (ends_of ports) _ (doomed_closings ports closings sent.1) e in omega (arith, h)
answer_loses old new agent body posted_body ports (Err (error.Closed b back)) sent e = let h = ap (times e) sent.1.1 in omega (arith, h)
answer_loses old new agent body posted_body ports (Err (error.Moving b back)) sent e = let h = ap (times e) sent.1.1 in omega (arith, h)
answer_loses old new agent body posted_body ports (Err (error.OutOfMemory b back)) sent e = let h = ap (times e) sent.1.1 in omega (arith, h)
answer_loses old new agent body posted_body ports (Err (error.TooManyPorts b back)) sent e = let h = ap (λ ps. times e (ends_of ps)) sent.2 in omega (arith, h)
answer_loses old new agent body posted_body ports (Err (error.Strayed missing b back)) sent e = let h = split_times e (ends_of ports) (ends_of back.items) missing.items sent.3 in omega (arith, h)
answer_loses old new agent body posted_body ports (Err (error.Taken b back)) sent e = let h = ap (times e) sent.1.1 in omega (arith, h)

-- where a line stands is no part of the ends that are held
stand_same : (e : ℕ) (h : Held) (stand : StandSeat) → is_held e (Some (at_stand h stand)) ≡ is_held e (Some h)
stand_same e (held.Port p) stand = refl
stand_same e (held.Client t) stand = refl
stand_same e (held.Worker t) stand = refl
stand_same e (held.Member m) stand = refl
stand_same e (held.Line l) stand = refl

-- a post leaves the ends that are held
pub sent_same : (w : Way) (agent : AgentId) (body : List ℕ) (ports : List PortSeat) (old new : Slab Held) (answer : Result Posted PortError) → PostsThrough agent body ports w old new answer → (e : ℕ) → held_in new e ≡ held_in old e
sent_same w agent body ports old new answer (key, h, line, stand, at, goes, is, sent, now) e = ap (λ s. held_in s e) now ∙ held_again e old key h _ at (stand_same e h stand)

-- A delivery and the adoptions that were logged.
pub delivered_accounts : (before told now : AgentState) → TurnLeaves Delivered before.notes told.notes → TurnBrings Delivered before told
    → ((entries : List LogEntry) × AreAdoptions told.notes.adopted entries × WritesEntries entries told.notes now.notes) → KeepsButNotes told now → Accounts before now
delivered_accounts before told now (v, missing, is) brings (entries, adopted, written) keeps none =
    let (kept, came) = brings none in (
      ap (λ (a : AgentState). a.kept) keeps ∙ kept,
      λ e.
          let held = ap (λ (a : AgentState). has a e) keeps in
          let more = came e in
          let (g, l) = adoptions_gain told.notes.adopted entries adopted e in
          let lost_here = ap (λ (log : AgentLog). lost e log.1) written ∙ lost_both e told.notes.log.1 entries in
          let gained_here = ap (λ (log : AgentLog). gained e log.1) written ∙ gained_both e told.notes.log.1 entries in
          let lost_told = ap (λ (n : Notes). lost e n.log.1) is ∙ lost_both e before.notes.log.1 (Got (delivered v) ∷ []) in
          let gained_told = ap (λ (n : Notes). gained e n.log.1) is ∙ gained_both e before.notes.log.1 (Got (delivered v) ∷ []) in
          omega (arith, held, more, g, l, lost_here, gained_here, lost_told, gained_told),
    )

-- any other turn
pub other_accounts : (turn : Turn) (before now : AgentState) → TurnLeaves turn before.notes now.notes → TurnBrings turn before now → (turn ≡ Delivered → ⊥) → Accounts before now
other_accounts Delivered before now left brings differs none = absurd (differs refl)
other_accounts (Idle busy) before now left brings differs none = let (kept, fewer) = brings none in (kept, (accounts_same before (record now { kept = before.kept }) left refl fewer none).1)
other_accounts Ending before now left brings differs none = let (kept, fewer) = brings none in (kept, (accounts_same before (record now { kept = before.kept }) left refl fewer none).1)

-- a queue that was fetched
fetched_end : (q h : HandedQueue) → IsHandedAdopted q (Ok h) → (taker_of h).end ≡ (taker_of q).end
fetched_end (handed.Client t) h (u, is, adopted) = ap (λ x. (taker_of x).end) is ∙ ap (λ (s : TakerSeat). s.end) adopted.0.new_is
fetched_end (handed.Worker t) h (u, is, (moved, adopted, now)) = ap (λ x. (taker_of x).end) is ∙ ap (λ (s : TakerSeat). s.end) now ∙ ap (λ (s : TakerSeat). s.end) adopted.0.new_is

fetched_count : (e n : ℕ) (h : HandedQueue) → (taker_of h).end ≡ n → ◌≡◌ {A = ℕ} (cond (is_held e (Some (held_queue h))) 1 0) (cond (n == e) 1 0)
fetched_count e n (handed.Client t) is = ap (λ m. cond {A = ℕ} (m == e) 1 0) is
fetched_count e n (handed.Worker t) is = ap (λ m. cond {A = ℕ} (m == e) 1 0) is

queue_held : (e : ℕ) (old new : HoldingState) (end : EndId) → IsFetched true old new end → held_in new.ends.held e ≡ held_in old.ends.held e + times e (end ∷ [])
queue_held e old new end (q, is, (h, same, more, closed)) =
    let a = count_held e old.ends.held new.ends.held (held_queue h) more in
    let b = fetched_count e (taker_of q).end h (fetched_end q h same) in
    let c : ◌≡◌ {A = ℕ} (cond ((taker_of q).end == e) 1 0) (cond (end.0 == e) 1 0) = ap (λ m. cond {A = ℕ} (m == e) 1 0) is in
    let d = times_one e end in
    omega (arith, a, b, c, d)

no_queue_held : (e : ℕ) (old new : HoldingState) (end : EndId) → IsFetched false old new end → held_in new.ends.held e ≡ held_in old.ends.held e
no_queue_held e old new end (inl same) = count_same e old.ends.held new.ends.held same.held
no_queue_held e old new end (inr (q, is, (error, unfit, refused, same, buried))) = count_same e old.ends.held new.ends.held same

pub fetched_accounts : (before now : AgentState) (old mid : HoldingState) (end : EndId) (started : Bool) → before.ends ≡ old.ends.held → IsFetched true old mid end → StartsClient mid.ends.held now.ends end started
    → ((epoch : ℕ) × WritesEntries (Adopted end epoch ∷ []) before.notes now.notes) → now.kept ≡ before.kept → Accounts before now
fetched_accounts before now old mid end started same came starts (epoch, written) kept =
    accounts_by before now (Adopted end epoch ∷ []) written (λ none. kept ∙ none) (λ e.
    let a = ap (λ s. held_in s e) same in
    let b = queue_held e old mid end came in
    let c = client_started e mid.ends.held now.ends end started starts in
    let g = gained_cons e (Adopted end epoch) [] in
    let l = lost_cons e (Adopted end epoch) [] in
    omega (arith, a, b, c, g, l))

pub not_fetched_accounts : (before now : AgentState) (old : HoldingState) (new : HoldingState) (end : EndId) → before.ends ≡ old.ends.held → IsFetched false old new end → now.ends ≡ new.ends.held → now.notes ≡ before.notes → now.kept ≡ before.kept → Accounts before now
not_fetched_accounts before now old new end same came is notes kept =
    accounts_same before now notes kept (λ e.
    let a = ap (λ s. held_in s e) same in
    let b = no_queue_held e old new end came in
    let c = ap (λ s. held_in s e) is in
    omega (arith, a, b, c))

-- an end that was closed
pub closed_accounts : {X E : Type 0} (result : Result X E) (before now : AgentState) {was is : Option (List SubscriptionSeat)} (old : Slab Held) (end : EndId) (closed : ClosedEnd) (entries : List LogEntry) → IsClosing end entries → old ≡ before.ends → ClosesEnd old now.ends was is end closed
    → OnOk result (WritesEntries entries before.notes now.notes) → now.kept ≡ before.kept → OnOk result (Accounts before now)
closed_accounts (Ok x) before now old end closed entries closing same (h, is, more, done, left) written kept =
    accounts_by before now entries written (λ none. kept ∙ none) (λ e.
    let a = ap (λ s. held_in s e) same in
    let b = holds_end now.ends old h end more is e in
    let g = closing_gains end entries closing e in
    let l = closing_loses end entries closing e in
    omega (arith, a, b, g, l))
closed_accounts (Err x) before now old end closed entries closing same closes written kept = tt

pub cast_accounts : {X E : Type 0} (result : Result X E) (before now : AgentState) (member : EndId) (body : List ℕ) → OnOk result ((entries : List LogEntry) × IsCastLogged member body entries × WritesEntries entries before.notes now.notes)
    → now.ends ≡ before.ends → now.kept ≡ before.kept → OnOk result (Accounts before now)
cast_accounts (Ok x) before now member body (entries, logged, written) ends kept =
    let (gains, loses) = cast_none member body entries logged in
    accounts_by before now entries written (λ none. kept ∙ none) (λ e.
    let a = ap (λ s. held_in s e) ends in
    let g = gains e in
    let l = loses e in
    omega (arith, a, g, l))
cast_accounts (Err x) before now member body written ends kept = tt
