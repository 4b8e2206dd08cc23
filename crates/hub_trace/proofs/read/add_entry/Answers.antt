use Rattle.std.proofs.Common.{◌≡◌, ◌+◌, ◌-◌, ◌<◌, length, arith, vec_len, Bool, true, false, not, refl}
use Rattle.std.specs.BTreeSet.{contains}
use Rattle.std.specs.Ordering.{nat_cmp}
use Rattle.hub_trace.specs.Closings.{closes_one}
use Rattle.hub_trace.proofs.Adding.{entry_added, not_in_logs, still_closed}
use Rattle.hub_trace.proofs.Within.{not_closed_by}
use Rattle.hub_trace.proofs.read.add_entry.Goals as goal

told_first : (b r : Bool) → r ≡ not b → r ≡ true → b ≡ false
told_first true r is h = cc
told_first false r is h = refl

pub returns-clause-says : goal.returns-clause-says
returns-clause-says c =
    let logs = c.args.logs.now in
    let some = c.in-Some.ensures.item.3.0 in
    let len : length logs.items ≡ vec_len logs - 1 + 1 = omega (arith, logs.ok.0) in
    let once : closes_one (contains nat_cmp c.args.closed.now) c.args.entry ≡ false = told_first _ _ c.in_ok-insert_end_closed_by_entry.ensures.first (let t = c.if-not-branch.false in cc) in
    entry_added logs.items (vec_len logs - 1) c.in-Some.log.now c.append_entry.new.self c.args.entry (contains nat_cmp c.args.closed.now) c.requires.closed len c.in-Some.ensures.value once c.in_ok-append_entry.ensures.ok

pub returns-clause-closed : goal.returns-clause-closed
returns-clause-closed c =
    let logs = c.args.logs.now in
    let some = c.in-Some.ensures.item.3.0 in
    let len : length logs.items ≡ vec_len logs - 1 + 1 = omega (arith, logs.ok.0) in
    still_closed logs.items (vec_len logs - 1) c.in-Some.log.now c.append_entry.new.self c.args.entry (contains nat_cmp c.args.closed.now) (contains nat_cmp c.insert_end_closed_by_entry.new.closed) c.requires.closed len c.in-Some.ensures.value c.in_ok-append_entry.ensures.ok c.in_ok-insert_end_closed_by_entry.ensures.closed

pub append_entry-requires-clause-first : goal.append_entry-requires-clause-first
append_entry-requires-clause-first c =
    let logs = c.args.logs.now in
    let some = c.in-Some.ensures.item.3.0 in
    let here : vec_len logs - 1 < length logs.items = omega (arith, logs.ok.0) in
    let once : closes_one (contains nat_cmp c.args.closed.now) c.args.entry ≡ false = told_first _ _ c.in_ok-insert_end_closed_by_entry.ensures.first (let t = c.if-not-branch.false in cc) in
    not_closed_by logs.items (vec_len logs - 1) c.in-Some.log.now c.args.entry here c.in-Some.ensures.value (not_in_logs logs.items c.args.entry (contains nat_cmp c.args.closed.now) c.requires.closed once)
