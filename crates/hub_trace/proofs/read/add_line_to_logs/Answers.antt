use Rattle.hub_trace.specs.declared.error.LogError.TheVariants.{OutOfMemory}
use Rattle.hub_trace.specs.declared.log_line.LogLine.TheVariants as line
use Rattle.hub_trace.specs.Limits.{AreWithin, IsLogLineWithin}
use Rattle.hub_trace.specs.Read.{with_log_line}
use Rattle.hub_trace.proofs.Versions.{entry_wider}
use Rattle.hub_trace.proofs.Within.{line_within, on_read}
use Rattle.hub_trace.proofs.read.add_line_to_logs.Goals as goal

pub returns-in-Entry-clause-within : goal.returns-in-Entry-clause-within
returns-in-Entry-clause-within c =
    let v = c.args.version in
    let old = c.args.logs.now.items in
    let new = c.add_entry.new.logs.items in
    let entry = c.in-Entry.entry in
    let within : IsLogLineWithin v (line.Entry entry) = rw c.in-Entry.is at c.in_ok-agent.ensures.within in
    on_read OutOfMemory (λ _. new) c.add_entry.result (with_log_line old (line.Entry entry)) (AreWithin v old → AreWithin v new)
    (λ _ added. line_within v old new (line.Entry entry) added within) c.add_entry.ensures.says

pub add_entry-requires-clause-within : goal.add_entry-requires-clause-within
add_entry-requires-clause-within c =
    let within : IsLogLineWithin c.args.version (line.Entry c.in-Entry.entry) = rw c.in-Entry.is at c.in_ok-agent.ensures.within in
    entry_wider c.args.version c.in-Entry.entry within
