-- What is closed at the end of a loop was held.
use Rattle.std.proofs.Common.{◌≡◌, ◌∙◌, ◌≤◌, ℕ, ◌+◌, ◌==◌, ◌||◌, Bool, true, false, cond, List, [], ◌∷◌, ◌++◌, Option, Some, None, ap, sym, refl, arith}
use Rattle.std.specs.Prelude.{option_to_list}
use Rattle.std.specs.BTreeSet.{insert_key}
use Rattle.std.specs.Set.{remove_key}
use Rattle.std.specs.List.{cons_option, count_by, filter_map, list_any}
use Rattle.std.specs.Ordering.{is_eq, match_ordering, nat_cmp}
use Rattle.std.specs.declared.cmp.Ordering.{Ordering}
use Rattle.std.specs.declared.cmp.Ordering.TheVariants.{Less, Equal, Greater}
use Rattle.std.proofs.lemmas.Cmp.{ranked}
use Rattle.slab.specs.Slab.{Slab, entries_from}
use Rattle.hub_envelope.specs.declared.ids.EndId.{EndId}
use Rattle.hub_envelope.specs.declared.posted.Posted.{Posted}
use Rattle.hub_logging.specs.Notes.{Notes}
use Rattle.hub_loop.specs.Ending.{is_held}
use Rattle.hub_loop.specs.Holding.{end_held, ends_held}
use Rattle.hub_loop.specs.declared.held.Held.{Held}
use Rattle.hub_loop.specs.declared.held.Held.TheVariants as held
use Rattle.hub_trace.specs.Accepted.{AgentLog}
use Rattle.hub_agent.specs.Entries.{WritesEntries, ending_entries}
use Rattle.hub_agent.specs.Owning.{lost, times}
use Rattle.hub_agent.proofs.Brings.{held_in}
use Rattle.hub_agent.proofs.Listed.{times_cons, times_one}
use Rattle.hub_agent.proofs.Owns.{lost_both, times_both}
use Rattle.hub_agent.proofs.Slots.{count_cons}

-- one end more in a set
insert_step : (e : ℕ) (o : Ordering) (k x : EndId) (xs rest : List EndId) → times e rest ≤ times e xs + times e (k ∷ []) → times e (match_ordering o (k ∷ x ∷ xs) (x ∷ xs) (x ∷ rest)) ≤ times e (x ∷ xs) + times e (k ∷ [])
insert_step e Less k x xs rest behind =
    let a = times_cons e k (x ∷ xs) in
    let b = times_one e k in
    omega (arith, a, b)
insert_step e Equal k x xs rest behind = omega arith
insert_step e Greater k x xs rest behind =
    let a = times_cons e x xs in
    let b = times_cons e x rest in
    omega (arith, a, b, behind)

inserted : (cmp : EndId → EndId → Ordering) (e : ℕ) (ks : List EndId) (k : EndId) → times e (insert_key cmp ks k) ≤ times e ks + times e (k ∷ [])
inserted cmp e [] k = omega arith
inserted cmp e (x ∷ xs) k = insert_step e (cmp k x) k x xs (insert_key cmp xs k) (inserted cmp e xs k)

-- one end less
remove_step : (e : ℕ) (end x : EndId) (xs rest : List EndId) (b more : Bool) → (b ≡ true → x.0 ≡ end.0) → (more ≡ true → times e xs ≡ times e rest + times e (end ∷ [])) → (b || more) ≡ true
    → times e (x ∷ xs) ≡ times e (cond b xs (x ∷ rest)) + times e (end ∷ [])
remove_step e end x xs rest true more is behind any =
    let a = times_cons e x xs in
    let b = times_one e end in
    let c : ◌≡◌ {A = ℕ} (cond (x.0 == e) 1 0) (cond (end.0 == e) 1 0) = ap (λ n. cond {A = ℕ} (n == e) 1 0) (is refl) in
    omega (arith, a, b, c)
remove_step e end x xs rest false more is behind any =
    let a = times_cons e x xs in
    let b = times_cons e x rest in
    let c = behind any in
    omega (arith, a, b, c)

removed : (e : ℕ) (end : EndId) (test : EndId → Bool) (xs : List EndId) → ((x : EndId) → test x ≡ true → x.0 ≡ end.0) → list_any test xs ≡ true → times e xs ≡ times e (remove_key test xs) + times e (end ∷ [])
removed e end test [] is any = absurd cc
removed e end test (x ∷ xs) is any = remove_step e end x xs (remove_key test xs) (test x) (list_any test xs) (is x) (removed e end test xs is) any

unremove_step : (b more : Bool) (x : EndId) (xs rest : List EndId) → (more ≡ false → rest ≡ xs) → (b || more) ≡ false → cond b xs (x ∷ rest) ≡ x ∷ xs
unremove_step true more x xs rest behind any = absurd cc
unremove_step false more x xs rest behind any = ap (λ (ends : List EndId). x ∷ ends) (behind any)

not_removed : (test : EndId → Bool) (xs : List EndId) → list_any test xs ≡ false → remove_key test xs ≡ xs
not_removed test [] any = refl
not_removed test (x ∷ xs) any = unremove_step (test x) (list_any test xs) x xs (remove_key test xs) (not_removed test xs) any

-- what is lost where an end was swept
ending_loses : (e : ℕ) (end : EndId) (notice : Option Posted) (is_held : Bool) → lost e (ending_entries end notice is_held) ≡ cond is_held (times e (end ∷ [])) 0
ending_loses e end None true = omega arith
ending_loses e end None false = refl
ending_loses e end (Some posted) true = omega arith
ending_loses e end (Some posted) false = refl

-- Those that are left, and what was closed, are no more than what was held.
abbrev pub Closes : Notes → Notes → List EndId → List EndId → Type 0
Closes before now left ends = (e : ℕ) → lost e now.log.1 + times e left ≤ lost e before.log.1 + times e ends

closes_step : (before now after : Notes) (old new ends : List EndId) (end : EndId) (notice : Option Posted) (is_held : Bool) → Closes before now old ends → WritesEntries (ending_entries end notice is_held) now after
    → ((e : ℕ) → times e old ≡ times e new + cond is_held (times e (end ∷ [])) 0) → Closes before after new ends
closes_step before now after old new ends end notice is_held closes written less e =
    let a = closes e in
    let b = ap (λ (log : AgentLog). lost e log.1) written ∙ lost_both e now.log.1 (ending_entries end notice is_held) in
    let c = ending_loses e end notice is_held in
    let d = less e in
    omega (arith, a, b, c, d)

left_step : (e : ℕ) (end : EndId) (test : EndId → Bool) (old : List EndId) (is_held : Bool) → ((x : EndId) → test x ≡ true → x.0 ≡ end.0) → list_any test old ≡ is_held → times e old ≡ times e (remove_key test old) + cond is_held (times e (end ∷ [])) 0
left_step e end test old true is any = removed e end test old is any
left_step e end test old false is any = let same = ap (times e) (not_removed test old any) in omega (arith, same)

pub closes_more : (before now after : Notes) (old new ends : List EndId) (end : EndId) (notice : Option Posted) (is_held : Bool) (test : EndId → Bool) → Closes before now old ends → WritesEntries (ending_entries end notice is_held) now after
    → is_held ≡ list_any test old → new ≡ remove_key test old → ((x : EndId) → test x ≡ true → x.0 ≡ end.0) → Closes before after new ends
closes_more before now after old new ends end notice is_held test closes written any less is =
    closes_step before now after old new ends end notice is_held closes written (λ e. left_step e end test old is_held is (sym any) ∙ ap (λ (xs : List EndId). times e xs + cond is_held (times e (end ∷ [])) 0) (sym less))

-- a notice closes nothing
pub closes_notice : (before now after : Notes) (left ends : List EndId) (posted : Posted) → Closes before now left ends → WritesEntries (ending_entries (record { 0 = 0 }) (Some posted) false) now after → Closes before after left ends
closes_notice before now after left ends posted closes written =
    closes_step before now after left left ends (record { 0 = 0 }) (Some posted) false closes written (λ e. omega arith)

-- those that are left are no more than those that were held
pub closes_none : (before : Notes) (left ends : List EndId) → ((e : ℕ) → times e left ≤ times e ends) → Closes before before left ends
closes_none before left ends fewer e = let a = fewer e in omega (arith, a)

pub closes_all : (before now : Notes) (left ends : List EndId) → Closes before now left ends → Closes before now [] ends
closes_all before now left ends closes e = let a = closes e in omega (arith, a)

-- the number of an end that is held, where it is one
pub one_held : (e : ℕ) (h : Held) → cond (is_held e (Some h)) 1 0 ≡ times e (option_to_list (end_held h))
one_held e (held.Port p) = sym (times_one e (record { 0 = p.taker.end }))
one_held e (held.Client t) = sym (times_one e (record { 0 = t.end }))
one_held e (held.Worker t) = sym (times_one e (record { 0 = t.end }))
one_held e (held.Member m) = sym (times_one e (record { 0 = m.taker.end }))
one_held e (held.Line l) = refl

some_more : (e : ℕ) (end : Option EndId) (rest : List EndId) → times e (cons_option end rest) ≡ times e (option_to_list end) + times e rest
some_more e None rest = omega arith
some_more e (Some end) rest = let a = times_cons e end rest in let b = times_one e end in omega (arith, a, b)

-- the numbers of the ends that are held are those that are counted
all_held : (e key : ℕ) (slots : List (Option Held)) → times e (filter_map (λ entry. end_held entry.1) (entries_from key slots)) ≡ count_by (is_held e) slots
all_held e key [] = refl
all_held e key (None ∷ rest) = let a = all_held e (key + 1) rest in let b = count_cons (is_held e) None rest in omega (arith, a, b)
all_held e key (Some h ∷ rest) =
    let a = some_more e (end_held h) (filter_map (λ entry. end_held entry.1) (entries_from (key + 1) rest)) in
    let b = one_held e h in
    let c = all_held e (key + 1) rest in
    let d = count_cons (is_held e) (Some h) rest in
    omega (arith, a, b, c, d)

held_times : (e : ℕ) (s : Slab Held) → times e (ends_held s) ≡ held_in s e
held_times e s = all_held e 0 s.slots

-- what the log of an agent says was closed in the end
pub finish_own : (log : AgentLog) (notes old new : Notes) (ends : List EndId) (held had : Slab Held) → log ≡ new.log → old ≡ notes → ends ≡ ends_held held → held ≡ had
    → ((e : ℕ) → lost e new.log.1 ≤ lost e old.log.1 + times e ends) → (e : ℕ) → lost e log.1 ≤ lost e notes.log.1 + held_in had e
finish_own log notes old new ends held had is same all still closes e =
    let a = ap (λ (l : AgentLog). lost e l.1) is in
    let b = ap (λ (n : Notes). lost e n.log.1) same in
    let c = ap (times e) all ∙ held_times e held ∙ ap (λ s. held_in s e) still in
    let d = closes e in
    omega (arith, a, b, c, d)

-- a key at which an end is found is its number
at_step : (a b : ℕ) (o : Ordering) → o ≡ nat_cmp a b → is_eq o ≡ true → b ≡ a
at_step a b Less is found = absurd cc
at_step a b Equal is found = sym (ranked a b Equal is)
at_step a b Greater is found = absurd cc

pub at_end : (a b : ℕ) → is_eq (nat_cmp a b) ≡ true → b ≡ a
at_end a b found = at_step a b (nat_cmp a b) refl found

-- the set has no more than the ends that were put in
pub set_more : (cmp : EndId → EndId → Ordering) (old new ends : List EndId) (end : EndId) (more : List EndId) → new ≡ insert_key cmp old end → more ≡ ends ++ end ∷ [] → ((e : ℕ) → times e old ≤ times e ends) → (e : ℕ) → times e new ≤ times e more
set_more cmp old new ends end more is all fewer e =
    let a = ap (times e) is in
    let b = inserted cmp e old end in
    let c = ap (times e) all ∙ times_both e ends (end ∷ []) in
    let d = fewer e in
    omega (arith, a, b, c, d)
