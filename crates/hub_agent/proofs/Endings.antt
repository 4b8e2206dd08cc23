-- What is written at the end of a loop.
use Rattle.std.proofs.Common.{Bool, true, false, List, [], ◌∷◌, ◌++◌, Option, Some, None, refl}
use Rattle.hub_envelope.specs.declared.ids.EndId.{EndId}
use Rattle.hub_envelope.specs.declared.posted.Posted.{Posted}
use Rattle.hub_logging.specs.Notes.{Notes}
use Rattle.hub_trace.specs.declared.log_entry.LogEntry.{LogEntry}
use Rattle.hub_trace.specs.declared.log_entry.LogEntry.TheVariants.{Put, Got, Adopted, Closed}
use Rattle.hub_agent.specs.Entries.{AreEndings, WritesEntries, ending_entries}
use Rattle.hub_agent.proofs.Writing.{writes_both, writes_same}

endings_both : (xs ys : List LogEntry) → AreEndings xs → AreEndings ys → AreEndings (xs ++ ys)
endings_both [] ys first second = second
endings_both (Put d ∷ xs) ys first second = (first.0, endings_both xs ys first.1 second)
endings_both (Closed end ∷ xs) ys first second = endings_both xs ys first second
endings_both (Got d ∷ xs) ys first second = absurd first
endings_both (Adopted end epoch ∷ xs) ys first second = absurd first

one_ending : (end : EndId) (notice : Option Posted) (is_held : Bool) → AreEndings (ending_entries end notice is_held)
one_ending end None true = tt
one_ending end None false = tt
one_ending end (Some posted) true = (refl, tt)
one_ending end (Some posted) false = (refl, tt)

-- some ends were logged so
abbrev pub Ends : Notes → Notes → Type 0
Ends before after = (entries : List LogEntry) × AreEndings entries × WritesEntries entries before after

pub ends_none : (before : Notes) → Ends before before
ends_none before = ([], tt, writes_same before before refl)

pub ends_more : (end : EndId) (notice : Option Posted) (is_held : Bool) (before now after : Notes) → Ends before now → WritesEntries (ending_entries end notice is_held) now after → Ends before after
ends_more end notice is_held before now after (entries, all, written) more =
    (entries ++ ending_entries end notice is_held, endings_both entries (ending_entries end notice is_held) all (one_ending end notice is_held), writes_both entries (ending_entries end notice is_held) before now after written more)
