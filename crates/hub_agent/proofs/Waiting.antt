-- What is written while an agent takes turns.
use Rattle.std.proofs.Common.{◌≡◌, ◌∙◌, ℕ, Bool, true, false, not, if◌then◌else◌, List, [], ◌∷◌, ◌++◌, ap, sym, refl, inl, inr, subst}
use Rattle.std.specs.List.{flat_map}
use Rattle.std.proofs.lemmas.Grind.{flat_map-append}
use Rattle.std.proofs.lemmas.List.{append-nil}
use Rattle.hub_envelope.specs.Naming.{posted_of}
use Rattle.hub_envelope.specs.declared.envelope.Envelope.{Envelope}
use Rattle.hub_envelope.specs.declared.ids.EndId.{EndId}
use Rattle.hub_envelope.specs.declared.posted.Posted.{Posted}
use Rattle.hub_logging.specs.Notes.{Notes, delivered, not_missing, notes_of}
use Rattle.hub_loop.specs.declared.handler.Turn.{Turn}
use Rattle.hub_loop.specs.declared.handler.Turn.TheVariants.{Delivered, Idle, Ending}
use Rattle.hub_trace.specs.declared.log_entry.LogEntry.{LogEntry}
use Rattle.hub_trace.specs.declared.log_entry.LogEntry.TheVariants.{Got}
use Rattle.hub_trace.specs.Accepted.{message_at, notice_at}
use Rattle.hub_trace.specs.PortList.{lists_end}
use Rattle.hub_agent.specs.Entries.{AreAdoptedOf, AreAdoptions, AreTurnEntries, AreTurnsLogged, IsComeLogged, IsTurnLogged, IsWaitLogged, TurnLeaves, WritesEntries, log_and, ports_listed}
use Rattle.hub_agent.specs.declared.acting.Awaited.{Awaited}
use Rattle.hub_agent.specs.declared.acting.Awaited.TheVariants.{Messages, Port, Queue}
use Rattle.hub_agent.proofs.Writing.{log_and_both, writes_both, writes_same}

-- an agent has written a turn
abbrev pub Turns : Notes → Notes → Type 0
Turns before after = (entries : List LogEntry) × IsTurnLogged entries × WritesEntries entries before after

pub turn_none : (before after : Notes) → after ≡ before → Turns before after
turn_none before after same = ([], inl refl, writes_same before after same)

-- any other turn leaves the notes as they were
pub other_turn : (turn : Turn) (before after : Notes) → TurnLeaves turn before after → (turn ≡ Delivered → ⊥) → Turns before after
other_turn Delivered before after left differs = absurd (differs refl)
other_turn (Idle busy) before after left differs = turn_none before after left
other_turn Ending before after left differs = turn_none before after left

-- one port more of a list, of which those that aren't missing are adopted
adopted_more : (is_found : Bool) (found : List EndId) (port : EndId) (ports : List EndId) → ((entries : List LogEntry) → AreAdoptions found entries → AreAdoptedOf ports entries)
    → (entries : List LogEntry) → AreAdoptions (if is_found then port ∷ found else found) entries → AreAdoptedOf (port ∷ ports) entries
adopted_more true found port ports behind entries (epoch, rest, is, adopted) = inr (epoch, rest, is, behind rest adopted)
adopted_more false found port ports behind entries adopted = inl (behind entries adopted)

adopted_of : (missing ports : List EndId) (entries : List LogEntry) → AreAdoptions (not_missing missing ports) entries → AreAdoptedOf ports entries
adopted_of missing [] entries none = none
adopted_of missing (port ∷ ports) entries adopted = adopted_more (not (lists_end missing port.0)) (not_missing missing ports) port ports (adopted_of missing ports) entries adopted

-- the ports that were found are of those that the log says were delivered
found_of : (is_notice : Bool) (posted : Posted) (body : List ℕ) (missing ports : List EndId) (entries : List LogEntry) → AreAdoptions (if is_notice then [] else not_missing missing ports) entries
    → AreAdoptedOf (ports_listed (if is_notice then notice_at posted else message_at posted ports body).content) entries
found_of true posted body missing ports entries none = none
found_of false posted body missing ports entries adopted = adopted_of missing ports entries adopted

-- a delivery, and then the adoptions
pub turn_told : (before told after : Notes) → ((e : Envelope) × (missing : List EndId) × (told ≡ notes_of before e missing)) → ((entries : List LogEntry) × AreAdoptions told.adopted entries × WritesEntries entries told after) → Turns before after
turn_told before told after (e, missing, is) (entries, all, written) = (
  Got (delivered e) ∷ entries,
  inr (delivered e, entries, refl, found_of e.notice (posted_of e) e.body missing e.ports entries (subst (λ (ends : List EndId). AreAdoptions ends entries) (ap (λ (n : Notes). n.adopted) is) all)),
  written ∙ ap (λ (n : Notes). log_and n.log entries) is ∙ log_and_both before.log (Got (delivered e) ∷ []) entries,
)

-- an agent has written turns
abbrev pub TurnsAll : Notes → Notes → Type 0
TurnsAll before after = (entries : List LogEntry) × AreTurnsLogged entries × WritesEntries entries before after

turns_and : (turns : List (List LogEntry)) (turn : List LogEntry) → AreTurnEntries turns → IsTurnLogged turn → AreTurnEntries (turns ++ turn ∷ [])
turns_and [] turn all one = (one, tt)
turns_and (t ∷ turns) turn all one = (all.0, turns_and turns turn all.1 one)

pub turns_more : (before now after : Notes) → TurnsAll before now → Turns now after → TurnsAll before after
turns_more before now after (entries, (turns, is, all), written) (more, one, behind) = (
  entries ++ more,
  (
    turns ++ more ∷ [],
    ap (λ (es : List LogEntry). es ++ more) is ∙ ap (λ (es : List LogEntry). flat_map (λ t. t) turns ++ es) (sym (append-nil more)) ∙ sym (flat_map-append (λ (t : List LogEntry). t) turns (more ∷ [])),
    turns_and turns more all one,
  ),
  writes_both entries more before now after written behind,
)

-- nothing came, so nothing is written of it
pub not_come : (awaited : Awaited) (before now after : Notes) → TurnsAll before now → ((entries : List LogEntry) × IsComeLogged awaited false entries × WritesEntries entries now after) → TurnsAll before after
not_come (Messages seen count) before now later (entries, turns, written) (none, is, same) = (entries, turns, same ∙ ap (log_and now.log) is ∙ ap (λ (es : List LogEntry). (now.log.0, es)) (append-nil now.log.1) ∙ written)
not_come (Port port) before now later (entries, turns, written) (none, is, same) = (entries, turns, same ∙ ap (log_and now.log) is ∙ ap (λ (es : List LogEntry). (now.log.0, es)) (append-nil now.log.1) ∙ written)
not_come (Queue queue) before now later (entries, turns, written) (none, is, same) = (entries, turns, same ∙ ap (log_and now.log) is ∙ ap (λ (es : List LogEntry). (now.log.0, es)) (append-nil now.log.1) ∙ written)

-- an agent has written what it may while it waits
abbrev pub Waits : Awaited → Notes → Notes → Type 0
Waits awaited before after = (entries : List LogEntry) × IsWaitLogged awaited entries × WritesEntries entries before after

-- the order to end came
pub stops : (awaited : Awaited) (before after : Notes) → TurnsAll before after → Waits awaited before after
stops (Messages seen count) before after all = all
stops (Port port) before after all = all
stops (Queue queue) before after (entries, turns, written) = (entries, (entries, [], sym (append-nil entries), turns, inl refl), written)

-- what it waited for has come
pub has_come : (awaited : Awaited) (before now after : Notes) → TurnsAll before now → ((entries : List LogEntry) × IsComeLogged awaited true entries × WritesEntries entries now after) → Waits awaited before after
has_come (Messages seen count) before now after all came = not_come (Messages seen count) before now after all came
has_come (Port port) before now after all came = not_come (Port port) before now after all came
has_come (Queue queue) before now after (entries, turns, written) (last, (epoch, is), behind) =
    (entries ++ last, (entries, last, refl, turns, inr (epoch, is)), writes_both entries last before now after written behind)
