-- The messages that are put by what is written of actions, of turns and of the end.
use Rattle.std.proofs.Common.{◌≡◌, ◌∙◌, ℕ, replicate, length, List, [], ◌∷◌, ◌++◌, map, ap, sym, refl, inl, inr, subst}
use Rattle.std.proofs.lemmas.List.{append-nil}
use Rattle.std.proofs.lemmas.List.Elements.{filter_map-append}
use Rattle.std.specs.List.{cons_option, flat_map}
use Rattle.hub_envelope.specs.declared.ids.EndId.{EndId}
use Rattle.hub_envelope.specs.declared.posted.Posted.{Posted}
use Rattle.hub_script.specs.declared.action.ActionKind.{ActionKind}
use Rattle.hub_script.specs.declared.action.ActionKind.TheVariants.{Post, Send, Cast, Start, Loaded, Close, Wait, Receive, Order, Event, Hand, Fetch}
use Rattle.hub_trace.specs.Accepted.{message_at}
use Rattle.hub_trace.specs.declared.log_entry.LogEntry.{LogEntry}
use Rattle.hub_trace.specs.declared.log_entry.LogEntry.TheVariants.{Put, Got, Adopted, Closed}
use Rattle.hub_agent.specs.Entries.{AreAdoptedOf, AreClosings, AreEndings, AreLoggedFor, AreTurnEntries, AreTurnsLogged, IsCloseLogged, IsClosing, IsFetchLogged, IsLoggedFor, IsPostLogged, IsTurnLogged, ports_listed}
use Rattle.hub_agent.specs.Posts.{Message, message_in, message_put, messages_put}
use Rattle.hub_agent.specs.Acting.{ArePutFor, AreEntriesFor, IsNoneOr, IsPutFor}

-- These entries put no message.
abbrev Silent : List LogEntry → Type 0
Silent entries = messages_put entries ≡ []

both : (xs ys : List LogEntry) → messages_put (xs ++ ys) ≡ messages_put xs ++ messages_put ys
both xs ys = filter_map-append message_put xs ys

silent_both : (entries xs ys : List LogEntry) → entries ≡ xs ++ ys → Silent xs → Silent ys → Silent entries
silent_both entries xs ys is first second =
    ap messages_put is ∙ both xs ys ∙ ap (λ (ms : List Message). ms ++ messages_put ys) first ∙ second

silent_as : (entries others : List LogEntry) → entries ≡ others → Silent others → Silent entries
silent_as entries others is silent = ap messages_put is ∙ silent

closing_silent : (end : EndId) (entries : List LogEntry) → IsClosing end entries → Silent entries
closing_silent end entries (inl closed) = ap messages_put closed
closing_silent end entries (inr (posted, noticed)) = ap messages_put noticed

closings_silent : (ends : List EndId) (entries : List LogEntry) → AreClosings ends entries → Silent entries
closings_silent [] entries is = ap messages_put is
closings_silent (end ∷ ends) entries (first, rest, is, closing, closed) =
    silent_both entries first rest is (closing_silent end first closing) (closings_silent ends rest closed)

post_put : (ports : List EndId) (body : List ℕ) (entries : List LogEntry) → IsPostLogged ports body entries → IsNoneOr (ports, body) (messages_put entries)
post_put ports body entries (inl none) = inl (ap messages_put none)
post_put ports body entries (inr (inl (posted, is))) = inr (ap messages_put is)
post_put ports body entries (inr (inr closed)) = inl (closings_silent ports entries closed)

cast_put : (body : List ℕ) (all : List Posted) → messages_put (map (λ posted. Put (message_at posted [] body)) all) ≡ replicate (length all) ([], body)
cast_put body [] = refl
cast_put body (posted ∷ all) = ap (λ (ms : List Message). ([], body) ∷ ms) (cast_put body all)

close_silent : (end : EndId) (entries : List LogEntry) → IsCloseLogged end entries → Silent entries
close_silent end entries (inl none) = ap messages_put none
close_silent end entries (inr closing) = closing_silent end entries closing

adopted_silent : (ends : List EndId) (entries : List LogEntry) → AreAdoptedOf ends entries → Silent entries
adopted_silent [] entries is = ap messages_put is
adopted_silent (end ∷ ends) entries (inl adopted) = adopted_silent ends entries adopted
adopted_silent (end ∷ ends) entries (inr (epoch, rest, is, adopted)) =
    silent_as entries (Adopted end epoch ∷ rest) is (adopted_silent ends rest adopted)

turn_silent : (entries : List LogEntry) → IsTurnLogged entries → Silent entries
turn_silent entries (inl none) = ap messages_put none
turn_silent entries (inr (d, adoptions, is, adopted)) =
    silent_as entries (Got d ∷ adoptions) is (adopted_silent (ports_listed d.content) adoptions adopted)

each_silent : (turns : List (List LogEntry)) → AreTurnEntries turns → Silent (flat_map (λ turn. turn) turns)
each_silent [] none = refl
each_silent (turn ∷ turns) (first, rest) =
    silent_both _ turn (flat_map (λ t. t) turns) refl (turn_silent turn first) (each_silent turns rest)

turns_silent : (entries : List LogEntry) → AreTurnsLogged entries → Silent entries
turns_silent entries (turns, is, all) = silent_as entries (flat_map (λ t. t) turns) is (each_silent turns all)

fetch_silent : (queue : EndId) (entries : List LogEntry) → IsFetchLogged queue entries → Silent entries
fetch_silent queue entries (turns, last, is, all, inl none) =
    silent_both entries turns last is (turns_silent turns all) (ap messages_put none)
fetch_silent queue entries (turns, last, is, all, inr (epoch, adopted)) =
    silent_both entries turns last is (turns_silent turns all) (ap messages_put adopted)

-- what is written of an action puts what the action may put
logged_put : (action : ActionKind) (entries : List LogEntry) → IsLoggedFor action entries → IsPutFor action (messages_put entries)
logged_put (Post port body transfer) entries logged = post_put transfer body entries logged
logged_put (Send queue body transfer) entries logged = post_put transfer body entries logged
logged_put (Cast member body) entries (all, is, rise, others) = (length all, ap messages_put is ∙ cast_put body all)
logged_put (Close end) entries logged = close_silent end entries logged
logged_put (Wait messages) entries logged = turns_silent entries logged
logged_put (Receive port) entries logged = turns_silent entries logged
logged_put (Fetch queue) entries logged = fetch_silent queue entries logged
logged_put (Start end) entries none = ap messages_put none
logged_put (Loaded queue) entries none = ap messages_put none
logged_put (Order to) entries none = ap messages_put none
logged_put (Event event) entries none = ap messages_put none
logged_put (Hand to) entries none = ap messages_put none

all_put : (all : List ActionKind) (entries : List LogEntry) → AreLoggedFor all entries → ArePutFor all (messages_put entries)
all_put [] entries none = ap messages_put none
all_put (action ∷ later) entries (first, rest, is, logged, behind) =
    (messages_put first, messages_put rest, ap messages_put is ∙ both first rest, logged_put action first logged, all_put later rest behind)

endings_silent : (entries : List LogEntry) → AreEndings entries → Silent entries
endings_silent [] none = refl
endings_silent (Put d ∷ entries) (notice, rest) =
    ap (λ c. cons_option (message_in c) (messages_put entries)) notice ∙ endings_silent entries rest
endings_silent (Closed end ∷ entries) rest = endings_silent entries rest
endings_silent (Got d ∷ entries) never = absurd never
endings_silent (Adopted end epoch ∷ entries) never = absurd never

-- the messages that a log says were put are those of the actions
pub entries_put : (all : List ActionKind) (entries : List LogEntry) → AreEntriesFor all entries → ArePutFor all (messages_put entries)
entries_put all entries (acts, endings, is, logged, ended) =
    subst (λ (ms : List Message). ArePutFor all ms)
    (sym (ap messages_put is ∙ both acts endings ∙ ap (λ (ms : List Message). messages_put acts ++ ms) (endings_silent endings ended) ∙ append-nil (messages_put acts)))
    (all_put all acts logged)
