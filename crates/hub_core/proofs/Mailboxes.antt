-- The mailbox of an end after a legal history shows the history there, and holds what a core keeps.
use Rattle.std.proofs.Common.{◌≡◌, ℕ, ◌+◌, ◌<◌, List, [], ◌∷◌, ◌++◌, replicate, Option, Some, refl, sym, ap, subst, ◌∙◌}
use Rattle.hub_core.proofs.Words.{slice_get, slice_index_or, length-replicate, append_cancel_left, End, Core, Kind, Pair, History, Facts, facts, lines_of, in_queue, Prefix, Sound, Fits, Legal, InOrder, ShowsEnd, Shows, new_queue, Mailbox, new_mailbox, IsMailbox, MailboxEvent, OneRight, events_of, PairsAreEvents, ShowsMailbox, HoldsKept, MailboxesShow, first_mailbox, mailbox, GoesOn, EachShows}
use Rattle.hub_core.proofs.Nexts.{facts_next}
use Rattle.hub_core.proofs.Sounds.{sound_legal, mailbox_one, box_legal}
use Rattle.hub_core.proofs.Headlines.{shows_in_order}
use Rattle.hub_core.proofs.MailboxStepping.{chain_laws, only}
use Rattle.hub_core.proofs.MailboxShown.{of_history, to_history, ShownAt}
use Rattle.hub_core.proofs.MailboxOf.{goes, puts, runs_one, runs_happen, Ordered, runs_ordered, Kept, same_after, new_after, old_end, happen_here}
use Rattle.hub_core.proofs.PairQueues.{got_there_in}

-- ---- histories

pub each_shows : (h : History) → Legal h → EachShows h
each_shows h legal e within = to_history h e (mailbox h e) (box_legal h legal e).shown

pub goes_on : (h : History) (p : Pair) → Legal h → Fits h p → (e : ℕ) → GoesOn h p e
goes_on h p legal fits e =
    let f : Facts = facts h in
    let sound : Sound f = sound_legal h legal in
    let old = old_end f e (mailbox h e) sound p.0.memory_refused p.1 p.0.action fits in
    record {
      happen = λ within. happen_here f e (mailbox h e) sound p.0.memory_refused p.1 p.0.action fits (old within) (box_legal h legal e).shown;
      after = λ within. mailbox_one h p e ∙ same_after f e (mailbox h e) sound p.0.memory_refused p.1 p.0.action fits (old within);
      made = λ past within. mailbox_one h p e ∙ new_after f e (mailbox h e) sound p.0.memory_refused p.1 p.0.action fits past (subst (λ (g : Facts). e < g.ends) (facts_next h p) within)
          ∙ ap (λ (g : Facts). first_mailbox (g.end e).kind) (sym (facts_next h p));
    }

pub pairs_are_events : PairsAreEvents
pairs_are_events h p e m legal fits made shows =
    let f : Facts = facts h in
    let sound : Sound f = sound_legal h legal in
    let events : List (MailboxEvent OneRight) = events_of f e m p.1 p.0.action in
    let lines : ℕ = lines_of (f.end e).kind in
    let done = goes f e m sound (of_history h e m shows) p.0.memory_refused p.1 p.0.action fits (old_end f e m sound p.0.memory_refused p.1 p.0.action fits made) in
    (runs_happen e lines events m done.0 done.1, subst (ShowsMailbox (h ++ p ∷ []) e []) (runs_one e lines events m done.0 done.1) (to_history (h ++ p ∷ []) e done.0 (subst (λ f. ShownAt f e done.0) (sym (facts_next h p)) done.2)))

-- ---- what a core keeps

module _ (core : Core) (h : History) (shows : Shows core h) (e : ℕ) (x : End) (is : slice_get core.ends e ≡ Some x) where
  abbrev f : Facts
  f = facts h

  abbrev m : Mailbox OneRight
  m = mailbox h e

  kept : Kept f e m
  kept = box_legal h shows.2 e

  in_order : Ordered e (lines_of (f.end e).kind) (f.accepted e) m
  in_order =
      let kind : Option Kind = (f.end e).kind in
      let rights : List OneRight = replicate (lines_of kind) tt in
      let order : InOrder h = shows_in_order core h shows in
      subst (λ vs. Ordered e (lines_of kind) vs m) kept.put
      (runs_ordered e (lines_of kind) kept.events (first_mailbox kind) m []
      (subst (λ n. IsMailbox e n (new_mailbox rights)) (length-replicate (lines_of kind) tt) (chain_laws.opened e rights)) kept.runs
      (record { each = only new_queue (λ k q. in_queue k [] ≡ q.got ++ q.held) refl; past = λ _ _. refl })
      (λ k. subst (λ us. Prefix (in_queue k us) (in_queue k (puts kept.events))) (sym kept.shown.got) (subst (λ vs. Prefix (in_queue k (f.taken e ++ f.discarded e)) (in_queue k vs)) (sym kept.put) (order.each e k))))

  pub holds_kept : HoldsKept x m
  holds_kept i q there =
      let k : ℕ = x.taker + i in
      let at = subst (ShowsEnd (f.end e) (f.line e) (f.clear e) (f.accepted e) (f.taken e ++ f.discarded e)) is (shows.0.end e) in
      append_cancel_left q.got q.held (slice_index_or x.queues i [])
      (sym (in_order.each k q there) ∙ at.queues.each i
      ∙ ap (λ us. us ++ slice_index_or x.queues i []) (ap (in_queue k) (sym kept.shown.got) ∙ got_there_in e (lines_of (f.end e).kind) m kept.shown.is_mailbox k q there))

pub mailboxes_show : (core : Core) (h : History) → Shows core h → MailboxesShow core h
mailboxes_show core h shows = λ e x is. (mailbox h e, holds_kept core h shows e x is, to_history h e (mailbox h e) (box_legal h shows.2 e).shown)
