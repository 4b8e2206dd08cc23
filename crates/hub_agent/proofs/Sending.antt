-- What a post of an agent comes to: what is taken out of its loop and held again, and what that makes of its log and its ends.
use Rattle.std.specs.Prelude.{IfOk, false}
use Rattle.std.specs.Result.{result_and}
use Rattle.std.proofs.Common.{◌≡◌, ◌≢◌, ◌∙◌, ◌≤◌, ◌<◌, ℕ, zero, suc, Vec, ◌+◌, Bool, cond, List, [], ◌∷◌, ◌++◌, length, take, drop, get_or, count_by, Option, Some, None, Result, Ok, Err, OnOk, ap, sym, refl, subst, inl, inr, arith}
use Rattle.std.specs.declared.alloc.Global.{Global}
use Rattle.slab.specs.Slab.{Slab}
use Rattle.hub_envelope.specs.declared.ids.AgentId.{AgentId}
use Rattle.hub_envelope.specs.declared.ids.EndId.{EndId}
use Rattle.hub_envelope.specs.declared.posted.Posted.{Posted}
use Rattle.hub_logging.specs.Notes.{Notes}
use Rattle.hub_loop.specs.Adopting.{HoldsMore}
use Rattle.hub_loop.specs.Ending.{is_held}
use Rattle.hub_loop.specs.Holding.{end_held}
use Rattle.hub_loop.specs.Looking.{HoldsNoEnd, HoldsNoLine, LacksWay}
use Rattle.hub_loop.specs.Posting.{PostsThrough}
use Rattle.hub_loop.specs.declared.held.Held.{Held}
use Rattle.hub_loop.specs.declared.held.Held.TheVariants as held
use Rattle.hub_loop.specs.declared.posting.Way.{Way}
use Rattle.hub_loop.specs.declared.posting.Way.TheVariants as way
use Rattle.hub_ports.specs.Seats.{PortSeat, end_of, ends_of}
use Rattle.hub_ports.specs.declared.error.PortError.{PortError}
use Rattle.hub_ports.specs.Sending.{IsSent}
use Rattle.hub_queue.specs.Standing.{StandSeat}
use Rattle.hub_script.specs.declared.action.ActionKind.TheVariants.{Post, Send}
use Rattle.hub_trace.specs.declared.log_entry.LogEntry.{LogEntry}
use Rattle.hub_agent.specs.Agents.{AgentState, KeepsElse}
use Rattle.hub_agent.specs.Entries.{IsPostLogged, WritesEntries, answer_entries, log_and}
use Rattle.hub_agent.specs.Owning.{Accounts, has, lost, times}
use Rattle.hub_agent.specs.Posting.{HasLine, HoldsAlike, HoldsEach, LacksNext, LacksOne, LacksPort, PostsOver, SendsOrReturns, SendsTo, TakesOut, given_back, passes}
use Rattle.hub_agent.specs.Acting.{Acts}
use Rattle.hub_agent.proofs.Actions.{accounts_by, answer_loses, post_gains, sent_same}
use Rattle.hub_agent.proofs.Brings.{count_held, held_in}
use Rattle.hub_agent.proofs.Listed.{times_cons}
use Rattle.hub_agent.proofs.Slots.{count_cons, count_more}
use Rattle.hub_agent.proofs.Walking.{answer_logged}
use Rattle.hub_agent.proofs.Writing.{writes_same}

-- how many of what is held pass the test, and how many of these ports
abbrev among : (Held → Bool) → Slab Held → ℕ
among test slots = count_by (passes test) slots.slots

abbrev among_ports : (Held → Bool) → List PortSeat → ℕ
among_ports test ports = count_by (λ p. test (held.Port p)) ports

more_among : (test : Held → Bool) (old new : Slab Held) (h : Held) → HoldsMore old new h → among test new ≡ among test old + cond (test h) 1 0
more_among test old new h (key, none, updates) = count_more (passes test) refl key old.slots new.slots h none updates.changed updates.others

each_among : (test : Held → Bool) (ports : List PortSeat) (old new : Slab Held) → HoldsEach ports old new → among test new ≡ among test old + among_ports test ports
each_among test [] old new same = let a = ap (among test) same in omega (arith, a)
each_among test (p ∷ ports) old new (more, one, rest) =
    let a = more_among test old more (held.Port p) one in
    let b = each_among test ports more new rest in
    let c = count_cons (λ (q : PortSeat). test (held.Port q)) p ports in
    omega (arith, a, b, c)

out_among : (test : Held → Bool) (ports : List PortSeat) (old new : Slab Held) → TakesOut ports old new → among test old ≡ among test new + among_ports test ports
out_among test [] old new same = let a = ap (among test) same in omega (arith, a)
out_among test (p ∷ ports) old new (less, one, rest) =
    let a = more_among test less old (held.Port p) one in
    let b = out_among test ports less new rest in
    let c = count_cons (λ (q : PortSeat). test (held.Port q)) p ports in
    omega (arith, a, b, c)

-- What was taken out is held again.
alike_again : (ports : List PortSeat) (old out new : Slab Held) → TakesOut ports old out → HoldsEach ports out new → HoldsAlike old new
alike_again ports old out new taken held test =
    let a = out_among test ports old out taken in
    let b = each_among test ports out new held in
    omega (arith, a, b)

-- So is something else that was taken out last.
alike_with : (ports : List PortSeat) (old out less again new : Slab Held) (h : Held) → TakesOut ports old out → HoldsMore less out h → HoldsMore less again h → HoldsEach ports again new → HoldsAlike old new
alike_with ports old out less again new h taken one more held test =
    let a = out_among test ports old out taken in
    let b = each_among test ports again new held in
    let c = more_among test less out h one in
    let d = more_among test less again h more in
    omega (arith, a, b, c, d)

-- one port more was taken out
takes_more : (ports : List PortSeat) (old out less : Slab Held) (p : PortSeat) → TakesOut ports old out → HoldsMore less out (held.Port p) → TakesOut (ports ++ p ∷ []) old less
takes_more [] old out less p same more = (less, subst (λ (s : Slab Held). HoldsMore less s (held.Port p)) same more, refl)
takes_more (q ∷ ports) old out less p (mid, one, rest) more = (mid, one, takes_more ports mid out less p rest more)

passing_ends : (e : ℕ) (slots : List (Option Held)) → count_by (passes (λ h. is_held e (Some h))) slots ≡ count_by (is_held e) slots
passing_ends e [] = refl
passing_ends e (None ∷ rest) =
    let a = count_cons (passes (λ (h : Held). is_held e (Some h))) None rest in
    let b = count_cons (is_held e) None rest in
    let c = passing_ends e rest in
    omega (arith, a, b, c)
passing_ends e (Some h ∷ rest) =
    let a = count_cons (passes (λ (k : Held). is_held e (Some k))) (Some h) rest in
    let b = count_cons (is_held e) (Some h) rest in
    let c = passing_ends e rest in
    omega (arith, a, b, c)

-- so many of these ports have the number
ports_held : (e : ℕ) (ports : List PortSeat) → among_ports (λ h. is_held e (Some h)) ports ≡ times e (ends_of ports)
ports_held e [] = refl
ports_held e (p ∷ ports) =
    let a = count_cons (λ (q : PortSeat). is_held e (Some (held.Port q))) p ports in
    let b = ports_held e ports in
    let c = times_cons e (end_of p) (ends_of ports) in
    omega (arith, a, b, c)

-- How many ends of a number are held, by these ports.
each_held : (e : ℕ) (ports : List PortSeat) (old new : Slab Held) → HoldsEach ports old new → held_in new e ≡ held_in old e + times e (ends_of ports)
each_held e ports old new holds =
    let a = each_among (λ h. is_held e (Some h)) ports old new holds in
    let b = passing_ends e old.slots in
    let c = passing_ends e new.slots in
    let d = ports_held e ports in
    omega (arith, a, b, c, d)

out_held : (e : ℕ) (ports : List PortSeat) (old new : Slab Held) → TakesOut ports old new → held_in old e ≡ held_in new e + times e (ends_of ports)
out_held e ports old new taken =
    let a = out_among (λ h. is_held e (Some h)) ports old new taken in
    let b = passing_ends e old.slots in
    let c = passing_ends e new.slots in
    let d = ports_held e ports in
    omega (arith, a, b, c, d)

alike_held : (e : ℕ) (old new : Slab Held) → HoldsAlike old new → held_in new e ≡ held_in old e
alike_held e old new alike = sym (passing_ends e new.slots) ∙ alike (λ h. is_held e (Some h)) ∙ passing_ends e old.slots

-- a line is no end
lined_held : (queue : EndId) (e : ℕ) (old new : Slab Held) → HasLine queue old new → held_in new e ≡ held_in old e
lined_held queue e old new (inl same) = ap (λ s. held_in s e) same
lined_held queue e old new (inr (line, to, more)) = let a = count_held e old new (held.Line line) more in omega (arith, a)

-- the ports are held besides, one after another, unless one isn't
pub one_more : {E : Type 0} (r was now : Result (Unit {0}) E) (first b c : Slab Held) (port : PortSeat) (before after all : List PortSeat) → now ≡ result_and r was → before ≡ port ∷ after → OnOk r (HoldsMore b c (held.Port port))
    → OnOk was ((new : Slab Held) → HoldsEach before b new → HoldsEach all first new) → OnOk now ((new : Slab Held) → HoldsEach after c new → HoldsEach all first new)
one_more (Ok x) (Ok y) now first b c port before after all is split more holds =
    subst (λ n. OnOk n ((new : Slab Held) → HoldsEach after c new → HoldsEach all first new)) (sym is)
    (λ new rest. holds new (subst (λ (ports : List PortSeat). HoldsEach ports b new) (sym split) (c, more, rest)))
one_more (Ok x) (Err y) now first b c port before after all is split more holds = subst (λ n. OnOk n ((new : Slab Held) → HoldsEach after c new → HoldsEach all first new)) (sym is) tt
one_more (Err x) was now first b c port before after all is split more holds = subst (λ n. OnOk n ((new : Slab Held) → HoldsEach after c new → HoldsEach all first new)) (sym is) tt

none_left : (ports : List PortSeat) (s : Slab Held) → length ports ≡ 0 → HoldsEach ports s s
none_left [] s none = refl
none_left (p ∷ ports) s none = absurd (omega (arith, none))

pub all_held : {E : Type 0} (r : Result (Unit {0}) E) (first last : Slab Held) (left all : List PortSeat) → length left ≡ 0 → OnOk r ((new : Slab Held) → HoldsEach left last new → HoldsEach all first new) → OnOk r (HoldsEach all first last)
all_held (Ok x) first last left all none holds = holds last (none_left left last none)
all_held (Err x) first last left all none holds = tt

-- what is told of an answer: what is logged, and what it loses
answer_told : (old new : StandSeat) (agent : AgentId) (body : List ℕ) (ports : List PortSeat) (transfer : List EndId) (answer : Result Posted PortError) → ends_of ports ≡ transfer → IsSent old new agent body ports answer
    → IsPostLogged transfer body (answer_entries transfer body answer) × ((e : ℕ) → lost e (answer_entries transfer body answer) + times e (ends_of (given_back answer)) ≤ times e transfer)
answer_told old new agent body ports transfer answer are sent = (
  answer_logged old new agent body body ports transfer answer are sent,
  subst (λ es. (e : ℕ) → lost e (answer_entries es body answer) + times e (ends_of (given_back answer)) ≤ times e es) are (answer_loses old new agent body body ports answer sent),
)

-- The same ends are held behind what was sent, and so much is told of its answer.
sends_told : (w : Way) (agent : AgentId) (body : List ℕ) (ports : List PortSeat) (out sent : Slab Held) (transfer : List EndId) (answer : Result Posted PortError) → ends_of ports ≡ transfer → PostsThrough agent body ports w out sent answer
    → ((e : ℕ) → held_in sent e ≡ held_in out e) × IsPostLogged transfer body (answer_entries transfer body answer) × ((e : ℕ) → lost e (answer_entries transfer body answer) + times e (ends_of (given_back answer)) ≤ times e transfer)
sends_told w agent body ports out sent transfer answer are (key, h, line, stand, at, goes, is, was_sent, new) =
    let (logged, loses) = answer_told line stand agent body ports transfer answer are was_sent in
    (sent_same w agent body ports out sent answer (key, h, line, stand, at, goes, is, was_sent, new), logged, loses)

-- What is written of a post is what may be, and the agent accounts for its ends.
post_told : (w : Way) (transfer : List EndId) (body : List ℕ) (old : Slab Held) (before now : AgentState) → PostsOver w transfer body old now.ends before.notes now.notes → ((e : ℕ) → held_in old e ≡ has before e) → now.kept ≡ before.kept
    → ((entries : List LogEntry) × IsPostLogged transfer body entries × WritesEntries entries before.notes now.notes) × Accounts before now
post_told w transfer body old before now (inl (ports, answer, out, sent, are, taken, sends, back, written)) counts kept =
    let (same, logged, loses) = sends_told w before.notes.log.0 body ports out sent transfer answer are sends in
    let entries = answer_entries transfer body answer in (
      (entries, logged, written),
      accounts_by before now entries written (λ none. kept ∙ none) (λ e.
          let a = out_held e ports old out taken in
          let b = ap (times e) are in
          let c = same e in
          let d = each_held e (given_back answer) sent now.ends back in
          let f = loses e in
          let g = post_gains transfer body entries logged e in
          let h = counts e in
          omega (arith, a, b, c, d, f, g, h)),
    )
post_told w transfer body old before now (inr (written, alike, reason)) counts kept = (
  ([], inl refl, written),
  accounts_by before now [] written (λ none. kept ∙ none) (λ e.
      let a = alike_held e old now.ends alike in
      let b = counts e in
      omega (arith, a, b)),
)

pub post_acts : {X E : Type 0} (r : Result X E) (port : EndId) (body : List ℕ) (transfer : List EndId) (before now : AgentState) → OnOk r (PostsOver (way.Port port) transfer body before.ends now.ends before.notes now.notes) → KeepsElse before now → OnOk r (Acts (Post port body transfer) before now)
post_acts (Ok x) port body transfer before now posts keeps =
    let (logged, accounts) = post_told (way.Port port) transfer body before.ends before now posts (λ e. refl) (ap (λ (a : AgentState). a.kept) keeps) in
    (logged, (keeps, posts), accounts)
post_acts (Err x) port body transfer before now posts keeps = tt

pub send_acts : {X E : Type 0} (r : Result X E) (queue : EndId) (body : List ℕ) (transfer : List EndId) (before now : AgentState) → OnOk r (SendsTo queue transfer body before.ends now.ends before.notes now.notes) → KeepsElse before now → OnOk r (Acts (Send queue body transfer) before now)
send_acts (Ok x) queue body transfer before now (lined, line, posts) keeps =
    let (logged, accounts) = post_told (way.Line queue) transfer body lined before now posts (λ e. lined_held queue e before.ends lined line) (ap (λ (a : AgentState). a.kept) keeps) in
    (logged, (keeps, (lined, line, posts)), accounts)
send_acts (Err x) queue body transfer before now sends keeps = tt

-- one of the ports was lacking
pub has_lacked : (w : Way) (transfer : List EndId) (body : List ℕ) (old new : Slab Held) (before now : Notes) → now ≡ before → LacksOne transfer old new → PostsOver w transfer body old new before now
has_lacked w transfer body old new before now same (alike, (ports, out, taken, next)) = inr (writes_same before now same, alike, (ports, out, taken, inl next))

-- What was sent is settled: what came back is held again, and the answer is logged.
settled : (w : Way) (transfer : List EndId) (body : List ℕ) (ports : Vec PortSeat Global) (answer : Result Posted PortError) (old out sent new : Slab Held) (before now : Notes) → ends_of ports.items ≡ transfer → TakesOut ports.items old out
    → SendsOrReturns w before.log.0 body ports out sent answer → HoldsEach (given_back answer) sent new → WritesEntries (answer_entries transfer body answer) before now → PostsOver w transfer body old new before now
settled w transfer body ports answer old out sent new before now are taken (inl sends) back written = inl (ports.items, answer, out, sent, are, taken, sends, back, written)
settled w transfer body ports answer old out sent new before now are taken (inr (lacking, same, is)) back written =
    inr (
      subst (λ a. WritesEntries (answer_entries transfer body a) before now) is written,
      alike_again ports.items old out new taken (subst (λ (s : Slab Held). HoldsEach ports.items s new) same (subst (λ a. HoldsEach (given_back a) sent new) is back)),
      (ports.items, out, taken, inr lacking),
    )

-- the same as the calls say it
pub has_settled : {X E : Type 0} (logged : Result X E) (w : Way) (listed transfer : List EndId) (agent : AgentId) (copy body : List ℕ) (ports : Vec PortSeat Global) (back : List PortSeat) (answer : Result Posted PortError) (old out lent sent new : Slab Held) (before was wrote now : Notes)
    → ends_of ports.items ≡ transfer → listed ≡ transfer → agent ≡ before.log.0 → copy ≡ body → TakesOut ports.items old out → lent ≡ out → SendsOrReturns w agent copy ports lent sent answer
    → back ≡ given_back answer → HoldsEach back sent new → was ≡ before → OnOk logged (WritesEntries (answer_entries listed body answer) was wrote) → now ≡ wrote → OnOk logged (PostsOver w transfer body old new before now)
has_settled (Ok x) w listed transfer agent copy body ports back answer old out lent sent new before was wrote now are list whose same taken is sends came holds first written last =
    settled w transfer body ports answer old out sent new before now are taken
    (subst (λ (s : Slab Held). SendsOrReturns w before.log.0 body ports s sent answer) is
    (subst (λ (b : List ℕ). SendsOrReturns w before.log.0 b ports lent sent answer) same (subst (λ (a : AgentId). SendsOrReturns w a copy ports lent sent answer) whose sends)))
    (subst (λ (ps : List PortSeat). HoldsEach ps sent new) came holds)
    (ap (λ (n : Notes). n.log) last ∙ subst (λ es. WritesEntries (answer_entries es body answer) was wrote) list written ∙ ap (λ (n : Notes). log_and n.log (answer_entries transfer body answer)) first)
has_settled (Err x) w listed transfer agent copy body ports back answer old out lent sent new before was wrote now are list whose same taken is sends came holds first written last = tt

-- where no line to the queue is held nothing goes over one
no_way : (queue : EndId) (slots : Slab Held) → HoldsNoLine slots queue → LacksWay (way.Line queue) slots
no_way queue slots none (held.Port p) at is = is
no_way queue slots none (held.Client t) at is = is
no_way queue slots none (held.Worker t) at is = is
no_way queue slots none (held.Member m) at is = is
no_way queue slots none (held.Line l) at is = none l at is

-- No line could be had, so nothing was sent.
pub no_line : (queue : EndId) (transfer : List EndId) (body : List ℕ) (old new : Slab Held) (before now : Notes) → HasLine queue old new → HoldsNoLine new queue → now ≡ before → SendsTo queue transfer body old new before now
no_line queue transfer body old new before now line none same = (new, line, inr (writes_same before now same, (λ test. refl), ([], new, refl, inr (no_way queue new none))))

pub sent_over : {X E : Type 0} (r : Result X E) (queue : EndId) (transfer : List EndId) (body : List ℕ) (old lined new : Slab Held) (before was now : Notes) → HasLine queue old lined → was ≡ before → OnOk r (PostsOver (way.Line queue) transfer body lined new was now) → OnOk r (SendsTo queue transfer body old new before now)
sent_over (Ok x) queue transfer body old lined new before was now line same posts = (lined, line, subst (λ (n : Notes). PostsOver (way.Line queue) transfer body lined new n now) same posts)
sent_over (Err x) queue transfer body old lined new before was now line same posts = tt

-- both are no errors
pub both_of : {X E A B : Type 0} (r s both : Result X E) (x : X) → both ≡ result_and r s → both ≡ Ok x → OnOk r A → OnOk s B → A × B
both_of (Ok a) (Ok b) both x is ok first then = (first, then)
both_of (Ok a) (Err b) both x is ok first then = let no = sym is ∙ ok in absurd cc
both_of (Err a) s both x is ok first then = let no = sym is ∙ ok in absurd cc

-- a list up to one of its ends, that end, and those behind it
split_at : (ends : List EndId) (i : ℕ) (d : EndId) → i < length ends → ends ≡ take i ends ++ get_or ends i d ∷ drop (suc i) ends
split_at [] i d below = absurd (omega (arith, below))
split_at (x ∷ xs) zero d below = refl
split_at (x ∷ xs) (suc i) d below = ap (λ (ys : List EndId). x ∷ ys) (split_at xs i d (omega (arith, below)))

-- the next end of the list is lacking
lacks_next : (ends : List EndId) (i : ℕ) (d : EndId) (ports : List PortSeat) (slots : Slab Held) → i < length ends → ends_of ports ≡ take i ends → LacksPort slots (get_or ends i d) → LacksNext ends ports slots
lacks_next ends i d ports slots below are lacking = (
  get_or ends i d,
  drop (suc i) ends,
  split_at ends i d below ∙ ap (λ (first : List EndId). first ++ get_or ends i d ∷ drop (suc i) ends) (sym are),
  lacking,
)

-- one port more was taken out
pub takes_one : (ports more : List PortSeat) (old lent out less : Slab Held) (h : Held) (p : PortSeat) → TakesOut ports old out → lent ≡ out → h ≡ held.Port p → HoldsMore less lent h → more ≡ ports ++ p ∷ [] → TakesOut more old less
takes_one ports more old lent out less h p taken same is one all =
    subst (λ (ps : List PortSeat). TakesOut ps old less) (sym all)
    (takes_more ports old out less p taken (subst (λ (s : Slab Held). HoldsMore less s (held.Port p)) same (subst (λ (k : Held). HoldsMore less lent k) is one)))

-- nothing is held of the number of the next one
pub lacks_none : (ends : List EndId) (i : ℕ) (d : EndId) (ports : List PortSeat) (old lent out less new : Slab Held) → i < length ends → ends_of ports ≡ take i ends → TakesOut ports old out → lent ≡ out → HoldsNoEnd lent (get_or ends i d) → less ≡ lent
    → HoldsEach ports less new → LacksOne ends old new
lacks_none ends i d ports old lent out less new below are taken same none left held =
    let again = subst (λ (s : Slab Held). HoldsEach ports s new) (left ∙ same) held in
    (alike_again ports old out new taken again, (ports, out, taken, lacks_next ends i d ports out below are (inl (subst (λ (s : Slab Held). HoldsNoEnd s (get_or ends i d)) same none))))

-- what is held of that number is no port
pub lacks_other : (ends : List EndId) (i : ℕ) (d : EndId) (ports : List PortSeat) (old lent out less again new : Slab Held) (h back : Held) → i < length ends → ends_of ports ≡ take i ends → TakesOut ports old out → lent ≡ out → end_held h ≡ Some (get_or ends i d)
    → HoldsMore less lent h → back ≡ h → ((port : PortSeat) → h ≢ held.Port port) → HoldsMore less again back → HoldsEach ports again new → LacksOne ends old new
lacks_other ends i d ports old lent out less again new h back below are taken same end one is other more held =
    let was = subst (λ (s : Slab Held). HoldsMore less s h) same one in (
      alike_with ports old out less again new h taken was (subst (λ (k : Held). HoldsMore less again k) is more) held,
      (ports, out, taken, lacks_next ends i d ports out below are (inr (h, (was.0, was.2.changed), end, other))),
    )

-- where no line was had, and what is held is as it was, still no line to the queue is held
pub none_had : {E : Type 0} (r : Result Bool E) (old new : Slab Held) (queue : EndId) → IfOk r (λ has. has ≡ false → new ≡ old) → HoldsNoLine old queue → IfOk r (λ has. has ≡ false → HoldsNoLine new queue)
none_had (Ok has) old new queue same none = λ is. subst (λ slots. HoldsNoLine slots queue) (sym (same is)) none
none_had (Err e) old new queue same none = tt
