-- What is written while a list is walked.
use Rattle.std.proofs.Common.{◌≡◌, ◌≢◌, ◌∙◌, ◌+◌, ◌≤◌, ℕ, All, List, [], ◌∷◌, ◌++◌, map, Option, Some, None, Result, Ok, Err, OnOk, ap, sym, refl, inl, inr, subst, arith}
use Rattle.std.proofs.lemmas.Grind.{flat_map-append}
use Rattle.std.proofs.lemmas.List.{append-nil}
use Rattle.std.proofs.lemmas.List.Elements.{All-cons, All-head, All-nil, All-tail}
use Rattle.hub_broadcast.specs.Casting.{AreDestinations}
use Rattle.hub_broadcast.specs.Members.{MemberSeat}
use Rattle.hub_broadcast.specs.Rising.{RiseBetween}
use Rattle.hub_broadcast.proofs.Ranking.{IsToldApart, lower}
use Rattle.hub_broadcast.specs.declared.casting.CastOutcome.{CastOutcome}
use Rattle.hub_broadcast.specs.declared.casting.CastOutcome.TheVariants.{Accepted, Closed, Moving, OutOfMemory}
use Rattle.hub_envelope.specs.declared.ids.EndId.{EndId}
use Rattle.hub_logging.specs.Notes.{Notes}
use Rattle.hub_envelope.specs.declared.ids.AgentId.{AgentId}
use Rattle.hub_envelope.specs.declared.limits.TheConstants.{MAX_ENDS}
use Rattle.hub_envelope.specs.declared.posted.Posted.{Posted}
use Rattle.hub_ports.specs.declared.closing.ClosedPort.{ClosedPort}
use Rattle.hub_loop.specs.Looking.{Holds}
use Rattle.hub_loop.specs.declared.held.Held.TheVariants.{Member}
use Rattle.hub_ports.specs.Closing.{AreDoomed}
use Rattle.hub_ports.specs.Seats.{PortSeat, ends_of}
use Rattle.hub_ports.specs.Sending.{IsSent}
use Rattle.hub_ports.specs.declared.closing.Noticed.{Noticed}
use Rattle.hub_ports.specs.declared.closing.Noticed.TheVariants as notice
use Rattle.hub_ports.specs.declared.error.PortError.{PortError}
use Rattle.hub_ports.specs.declared.error.PortError.TheVariants as error
use Rattle.hub_queue.specs.Standing.{StandSeat}
use Rattle.hub_trace.specs.Accepted.{message_at}
use Rattle.hub_trace.specs.declared.log_entry.LogEntry.{LogEntry}
use Rattle.hub_trace.specs.declared.log_entry.LogEntry.TheVariants.{Put, Adopted}
use Rattle.hub_agent.specs.Agents.{AgentState, CastsFrom}
use Rattle.hub_agent.specs.Casting.{HasCast}
use Rattle.hub_agent.specs.Entries.{AreAdoptions, AreClosings, IsCastLogged, IsCloseLogged, IsClosing, IsPostLogged, WritesEntries, answer_entries, cast_entries, closed_entries, closing_entries, doomed_entries, log_and, outcome_entries}
use Rattle.hub_agent.proofs.Writing.{writes_both}

-- these ends were adopted, and nothing else is written
abbrev pub Adopts : List EndId → Notes → Notes → Type 0
Adopts ends before after = (entries : List LogEntry) × AreAdoptions ends entries × WritesEntries entries before after

adoptions_more : (ends : List EndId) (end : EndId) (epoch : ℕ) (entries : List LogEntry) → AreAdoptions ends entries → AreAdoptions (ends ++ end ∷ []) (entries ++ Adopted end epoch ∷ [])
adoptions_more [] end epoch entries is = (epoch, [], ap (λ (es : List LogEntry). es ++ Adopted end epoch ∷ []) is, refl)
adoptions_more (e ∷ ends) end epoch entries (at, rest, is, adopted) =
    (at, rest ++ Adopted end epoch ∷ [], ap (λ (es : List LogEntry). es ++ Adopted end epoch ∷ []) is, adoptions_more ends end epoch rest adopted)

-- one end more
pub adopts_more : (ends all : List EndId) (end : EndId) (before now after : Notes) → all ≡ ends ++ end ∷ [] → Adopts ends before now → ((epoch : ℕ) × WritesEntries (Adopted end epoch ∷ []) now after) → Adopts all before after
adopts_more ends all end before now after is (entries, adopted, written) (epoch, more) =
    (entries ++ Adopted end epoch ∷ [], subst (λ (es : List EndId). AreAdoptions es (entries ++ Adopted end epoch ∷ [])) (sym is) (adoptions_more ends end epoch entries adopted), writes_both entries (Adopted end epoch ∷ []) before now after written more)

-- the same since the notes were as before but for what is listed
pub adopts_since : {X E : Type 0} (result : Result X E) (listed ends : List EndId) (before mid now : Notes) → listed ≡ ends → mid.log ≡ before.log → OnOk result (Adopts listed mid now) → OnOk result (Adopts ends before now)
adopts_since (Ok x) listed ends before mid now is same (entries, all, written) = (entries, subst (λ (es : List EndId). AreAdoptions es entries) is all, written ∙ ap (λ log. log_and log entries) same)
adopts_since (Err x) listed ends before mid now is same adopts = tt

-- one post more of a cast
pub cast_more : (body : List ℕ) (outcomes all : List (EndId × CastOutcome)) (o : EndId × CastOutcome) (before now after : Notes) → all ≡ outcomes ++ o ∷ [] → WritesEntries (cast_entries body outcomes) before now → WritesEntries (outcome_entries body o.1) now after → WritesEntries (cast_entries body all) before after
cast_more body outcomes all o before now after is written more =
    writes_both (cast_entries body outcomes) (outcome_entries body o.1) before now after written more
    ∙ ap (λ (es : List LogEntry). log_and before.log es)
    (ap (λ (es : List LogEntry). cast_entries body outcomes ++ es) (sym (append-nil (outcome_entries body o.1)))
    ∙ sym (flat_map-append (λ (p : EndId × CastOutcome). outcome_entries body p.1) outcomes (o ∷ []))
    ∙ ap (cast_entries body) (sym is))

-- the posts of a cast that were accepted
cast_logged : (body : List ℕ) (member low high : ℕ) (outcomes : List (EndId × CastOutcome)) → RiseBetween low high (map (λ o. o.0.0) outcomes) → All (IsToldApart member) outcomes
    → (all : List Posted) × (cast_entries body outcomes ≡ map (λ posted. Put (message_at posted [] body)) all) × RiseBetween low high (map (λ posted. posted.end.0) all) × All (λ posted. posted.end.0 ≢ member) all
cast_logged body member low high [] rise told = ([], refl, rise, All-nil (λ (posted : Posted). posted.end.0 ≢ member))
cast_logged body member low high ((end, Accepted posted) ∷ outcomes) (least, behind) told =
    let (all, is, rise, others) = cast_logged body member (end.0 + 1) high outcomes behind (All-tail (IsToldApart member) (end, Accepted posted) outcomes told) in
    let here : IsToldApart member (end, Accepted posted) = All-head (IsToldApart member) (end, Accepted posted) outcomes told in (
      posted ∷ all,
      ap (λ (es : List LogEntry). Put (message_at posted [] body) ∷ es) is,
      subst (λ (e : EndId). (low ≤ e.0) × RiseBetween (e.0 + 1) high (map (λ (p : Posted). p.end.0) all)) (sym here.1) (least, rise),
      All-cons (λ (p : Posted). p.end.0 ≢ member) posted all (subst (λ (e : EndId). e.0 ≢ member) (sym here.1) here.0) others,
    )
cast_logged body member low high ((end, Closed) ∷ outcomes) (least, behind) told =
    cast_logged body member low high outcomes (lower low (end.0 + 1) high (map (λ o. o.0.0) outcomes) (omega arith) behind) (All-tail (IsToldApart member) (end, Closed) outcomes told)
cast_logged body member low high ((end, Moving) ∷ outcomes) (least, behind) told =
    cast_logged body member low high outcomes (lower low (end.0 + 1) high (map (λ o. o.0.0) outcomes) (omega arith) behind) (All-tail (IsToldApart member) (end, Moving) outcomes told)
cast_logged body member low high ((end, OutOfMemory) ∷ outcomes) (least, behind) told =
    cast_logged body member low high outcomes (lower low (end.0 + 1) high (map (λ o. o.0.0) outcomes) (omega arith) behind) (All-tail (IsToldApart member) (end, OutOfMemory) outcomes told)

pub cast_of : {X E : Type 0} (result : Result X E) (source : MemberSeat) (member : EndId) (body : List ℕ) (told outcomes : List (EndId × CastOutcome)) (old now new : Notes) → source.taker.end ≡ member.0 → AreDestinations source told → outcomes ≡ told
    → old ≡ now → OnOk result (WritesEntries (cast_entries body outcomes) old new) → OnOk result ((entries : List LogEntry) × IsCastLogged member body entries × WritesEntries entries now new)
cast_of (Ok x) source member body told outcomes old now new at is listed same written =
    let others : All (λ (o : EndId × CastOutcome). o.0.0 ≢ member.0) told = subst (λ (n : ℕ). All (λ (o : EndId × CastOutcome). o.0.0 ≢ n) told) at is.others in
    let apart : All (IsToldApart member.0) told = λ k d low. (others k d low, is.named k d low) in
    let logged : IsCastLogged member body (cast_entries body told) = cast_logged body member.0 0 MAX_ENDS told is.rise apart in
    (cast_entries body outcomes, subst (λ (os : List (EndId × CastOutcome)). IsCastLogged member body (cast_entries body os)) (sym listed) logged, written ∙ ap (λ (n : Notes). log_and n.log (cast_entries body outcomes)) same)
cast_of (Err e) source member body told outcomes old now new at is listed same written = tt

-- the same at the end that a member has, and of notes as they were
pub cast_at : {X E : Type 0} (result : Result X E) (end : ℕ) (member : EndId) (body : List ℕ) (old now new : Notes) → end ≡ member.0 → old ≡ now
    → OnOk result ((entries : List LogEntry) × IsCastLogged (record { 0 = end }) body entries × WritesEntries entries old new) → OnOk result ((entries : List LogEntry) × IsCastLogged member body entries × WritesEntries entries now new)
cast_at (Ok x) end member body old now new at same (entries, logged, written) =
    (entries, subst (λ (e : ℕ). IsCastLogged (record { 0 = e }) body entries) at logged, written ∙ ap (λ (n : Notes). log_and n.log entries) same)
cast_at (Err e) end member body old now new at same written = tt

-- the cast of a member that is held
pub cast_from : {X E : Type 0} (result : Result X E) (end : EndId) (body : List ℕ) (inside before now : AgentState) (member : MemberSeat) → inside ≡ before → Holds inside.ends (Member member) → member.taker.end ≡ end.0
    → OnOk result (HasCast inside.roster now.roster member body inside.notes now.notes) → OnOk result (CastsFrom end body before now)
cast_from (Ok x) end body inside before now member same held at cast =
    inr (member, subst (λ (a : AgentState). Holds a.ends (Member member)) same held, at, subst (λ (a : AgentState). HasCast a.roster now.roster member body a.notes now.notes) same cast)
cast_from (Err e) end body inside before now member same held at cast = tt

-- one closing more
pub doomed_more : (closings all : List ClosedPort) (c : ClosedPort) (before now after : Notes) → all ≡ closings ++ c ∷ [] → WritesEntries (doomed_entries closings) before now → WritesEntries (closing_entries c.end c.noticed) now after → WritesEntries (doomed_entries all) before after
doomed_more closings all c before now after is written more =
    writes_both (doomed_entries closings) (closing_entries c.end c.noticed) before now after written more
    ∙ ap (λ (es : List LogEntry). (before.log.0, before.log.1 ++ es))
    (ap (λ (es : List LogEntry). doomed_entries closings ++ es) (sym (append-nil (closing_entries c.end c.noticed)))
    ∙ sym (flat_map-append (λ (d : ClosedPort). closing_entries d.end d.noticed) closings (c ∷ []))
    ∙ ap doomed_entries (sym is))

-- an end that was closed, a port with what became of its notice
is_closing : (end : EndId) (noticed : Noticed) → IsClosing end (closing_entries end noticed)
is_closing end (notice.Put posted) = inr (posted, refl)
is_closing end notice.PeerClosed = inl refl
is_closing end notice.Moving = inl refl
is_closing end notice.OutOfMemory = inl refl

pub closed_so : (end : EndId) (port : Option ClosedPort) → IsClosing end (closed_entries end port)
closed_so end None = inl refl
closed_so end (Some port) = is_closing end port.noticed

pub close_of : {X E : Type 0} (result : Result X E) (end : EndId) (port : Option ClosedPort) (old now new : Notes) → old ≡ now → OnOk result (WritesEntries (closed_entries end port) old new)
    → OnOk result ((entries : List LogEntry) × IsCloseLogged end entries × WritesEntries entries now new)
close_of (Ok x) end port old now new same written = (closed_entries end port, inr (closed_so end port), written ∙ ap (λ (n : Notes). log_and n.log (closed_entries end port)) same)
close_of (Err e) end port old now new same written = tt

-- the ports that a doomed post has closed are those that it was to transfer
pub doomed_closings : (ports : List PortSeat) (closings : List ClosedPort) → AreDoomed ports closings → AreClosings (ends_of ports) (doomed_entries closings)
doomed_closings [] closings none = ap doomed_entries none
doomed_closings (p ∷ ps) closings (c, rest, is, doomed, more) =
    (closing_entries c.end c.noticed, doomed_entries rest, ap doomed_entries is, subst (λ (end : EndId). IsClosing end (closing_entries c.end c.noticed)) doomed.0.0 (is_closing c.end c.noticed), doomed_closings ps rest more)

-- what is logged of the answer to a post of these ports
pub answer_logged : (old new : StandSeat) (agent : AgentId) (body posted_body : List ℕ) (ports : List PortSeat) (ends : List EndId) (answer : Result Posted PortError) → ends_of ports ≡ ends → IsSent old new agent posted_body ports answer → IsPostLogged ends body (answer_entries ends body answer)
answer_logged old new agent body posted_body ports ends (Ok posted) is sent = inr (inl (posted, refl))
answer_logged old new agent body posted_body ports ends (Err (error.Doomed closings)) is sent =
    inr (inr (subst (λ (es : List EndId). AreClosings es (doomed_entries closings)) is (doomed_closings ports closings sent.1)))
answer_logged old new agent body posted_body ports ends (Err (error.Closed b back)) is sent = inl refl
answer_logged old new agent body posted_body ports ends (Err (error.Moving b back)) is sent = inl refl
answer_logged old new agent body posted_body ports ends (Err (error.OutOfMemory b back)) is sent = inl refl
answer_logged old new agent body posted_body ports ends (Err (error.TooManyPorts b back)) is sent = inl refl
answer_logged old new agent body posted_body ports ends (Err (error.Strayed missing b back)) is sent = inl refl
answer_logged old new agent body posted_body ports ends (Err (error.Taken b back)) is sent = inl refl
