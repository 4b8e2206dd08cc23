-- The words of the proofs, from one place: std's that `Common` lacks, and those of the crate's definitions.
pub use Rattle.std.proofs.Math.Bool.{and-false, or-true, or_assoc}
pub use Rattle.std.proofs.Math.Seq.{drop-append_seam, get_or-append_seam, take-append_seam}
pub use Rattle.std.proofs.lemmas.Bool.{and_from, and_parts, cases_eq, cases_lt, cases_order, eq-eqb, eqb-false, eqb-true, false_from_ne_true, false≢true, le-leb, le-ltb, not-false, not-true, or_cases, or_from, or_left, or_parts, or_right}
pub use Rattle.std.proofs.lemmas.Bool.Decides.{nat_tests}
pub use Rattle.std.proofs.lemmas.Grind.{flat_map-append}
pub use Rattle.std.proofs.lemmas.Iterator.Adapters.{position_from-zero}
pub use Rattle.std.proofs.lemmas.List.{append_cancel_left, ext_get_or, get_or-set_other, get_or-set_same, get_or_append_left, length-map, set-get_or, length-replicate, map-append, map-set}
pub use Rattle.std.proofs.lemmas.List.Elements.{All-from_recursion, All-head, All-nil, All-push, All-same, All-tail, filter-append, recursion_from_All}
pub use Rattle.std.proofs.lemmas.List.Sums.{fold-append, sum_by-cons}
pub use Rattle.std.proofs.lemmas.List.Folds.{flat_map-map, list_any-append}
pub use Rattle.std.proofs.lemmas.Map.Text.{is_eq-slice_cmp}
pub use Rattle.std.proofs.lemmas.Option.{get_or_from_slice_get, slice_get-get_or, slice_get-map, slice_get_cases, slice_get_past, slice_get_read, slice_get_within}
pub use Rattle.std.proofs.lemmas.Slice.Eq.{bytes_eq-Decides}
pub use Rattle.std.specs.BTreeMap.{BTreeMap, WritesThrough}
pub use Rattle.std.specs.Cmp.{nat_cmp_is}
pub use Rattle.std.specs.List.{position_from, zip}
pub use Rattle.std.specs.Map.{lookup}
pub use Rattle.std.specs.Ordering.{is_eq}
pub use Rattle.std.specs.Prelude.{IsSome, IsSomeAnd, OnErr, if◌then◌else◌, ◌==◌}
pub use Rattle.std.specs.Set.{remove_key}
pub use Rattle.std.specs.Vec.{vec_capacity, vec_len}
pub use Rattle.std.specs.declared.cmp.Ordering.TheVariants.{Greater, Less}
pub use Rattle.hub_core.specs.Words.{Acceptance, Action, Agent, AgentId, All, AllByRecursion, Arrived, BTreeSet, Bad, Client, End, EndId, Envelope, Gone, Good, Group, HoldsTarget, InFlight, Inside, IsTrue, Kind, Line, LineId, MAX_AGENTS, MAX_ENDS, MAX_LINES}
pub use Rattle.hub_core.specs.Words.{MAX_MOVES, MAX_PORTS, MatchBool, Member, Ordering, Out, Outcome, Phase, Place, Port, Sender, Step, Swept, Turned, With, Worker, bytes_eq, filter, flat_map, fold, get, insert_key, is_some, list_all, list_any}
pub use Rattle.hub_core.specs.Words.{nat_cmp, option_and_then, option_map, ordering_then, position, slice_cmp, slice_get, slice_index_or, sum_by, unwrap_or}
pub use Rattle.hub_core.specs.Envelopes.{accepted, accepted_by, named_envelope, named_notice, discarded, discarded_by, taken, taken_by}
pub use Rattle.hub_core.specs.Legal.{destinations, destinations_of, is_casting}
pub use Rattle.hub_core.specs.Mailbox.{ChainLaws, Grows, GateAt, IsMailbox, IsNewest, Mailbox, QueueAt, StandsAt, got_from, new_mailbox, put_by, after_event, after_events, gate_after, with_gate_after, with_queue_after, HappensAt, HoldsFirst, HoldsNothing, IsSettled, MailboxEvent}
pub use Rattle.hub_core.specs.Lines.{clear_after, adoptions_after, held_after, hops_after, noticed_after, on_line, passed_after, phase_after}
pub use Rattle.hub_core.specs.Place.{closed_after, enabled_after, arrived, is_named, names, place, place_after}
pub use Rattle.hub_core.specs.CoreState.{CoreState}
pub use Rattle.hub_core.specs.Kept.{ServesAt, line_of, may_put, set_line, core_after, queue_core, TakeServes, accept_ends, adopted_agents, adopted_end, adopting, advanced_end, arrived_ends, at_queue, change_at, change_line, change_owner, closed_end}
pub use Rattle.hub_core.specs.Kept.{end_moved, first_agent, first_free, first_line, front_taken, gone, has_queue, held_by, in_phase, is_anyone_at, is_anyone_from, joined, kept_looked, kept_settled, member_made, moved_ends, new_end, one_less, one_more}
pub use Rattle.hub_core.specs.Kept.{counted, ports_of, posting_at, posting_line, push_outcome, put_end, set_at, sweep_outcome_at, went, seen}
pub use Rattle.hub_core.specs.Legal.{is_queue_of, ends_at, ends_below, has_away, is_away_of, free_line, line_found, has_one}
pub use Rattle.hub_core.specs.Facts.{AgentNow, EndNow, Facts, LineNow, facts}
pub use Rattle.hub_core.specs.Laws.{Fates, same_name, waiting, Headline, IsBusyAt, IsDrainedAt, IsTurned, done_with, is_line, leaves, posts, answered, InOrder, KeepsTheLine, NoticeIsLast, OneAnswer, SameIsJoined, TurnedPutsNothing}
pub use Rattle.hub_core.specs.Legal.{Answers, Fits, Legal, LegalAfter, Same}
pub use Rattle.hub_core.specs.GateMachine.{Gate, IsAt, Reached, Steps, busy, close, closes, enable, enables, enter, finds_closed, finds_moved, gave, gives, gives_rights, goes_in, goes_on, goes_out, is_busy, is_open, is_shut, lets_in, look, opened, opens}
pub use Rattle.hub_core.specs.GateMachine.{retires, says_closed, says_done, says_moved, turns_back, weight, with_flags, with_home, with_none, with_phase}
pub use Rattle.hub_core.specs.GateMachine.{GateMachineLaws, IsGateOf, leaves_right}
pub use Rattle.hub_core.specs.History.{History, Pair}
pub use Rattle.hub_core.specs.KeptRoster.{Joins, is_seated, IsFirst, MemberLeaves, PartLeaves, Parts, SameRoster, group_cmp, group_of, is_in, kept_destinations, numbers_in, numbers_of, numbers_with, others_of, parted, seated_with, seated_without}
pub use Rattle.hub_core.specs.Taking.{FitsTake, found_at, FitsSweep, IsAllWaiting, Sweeps, unsettled, all_settled, any_below, first_failing, is_away_at, is_settled, lookable, looked, someone_at, IsDrained, IsLeft, IsNext, Serves}
pub use Rattle.hub_core.specs.Made.{agents_after, ends, ends_after, is_queue, kind_after, lines_of, maker_of, ordered_after, peer_of, runs_after}
pub use Rattle.hub_core.specs.Mailbox.{MailboxStep, MaySweep, add, adds, advance, advances, at_gate, finds_none, gate_steps, got_in, hop, hops, pop, push, pushes, put_in, sweeps, taken_out, takes, with_gate, with_new, with_queue, with_stand, with_taker, without_first}
pub use Rattle.hub_core.specs.MailboxOf.{EachShows, GoesOn, after_pair, first_mailbox, made_as, mailbox, mailbox_from, Happen, OneRight, PairsAreEvents, busy_at, enabled_of, events_of, finds_busy, finds_busy_at, has_right, leaving, rights_of, sweeping}
pub use Rattle.hub_core.specs.MailboxOf.{HoldsKept, MailboxesShow, ShowsMailbox}
pub use Rattle.hub_core.specs.Taking.{is_arrived, is_released, may_close, may_take_over}
pub use Rattle.hub_core.specs.Sender.{numbers, up_to, Prefix, Rises, by, count_in_queue, in_queue}
pub use Rattle.hub_core.specs.Posting.{name_of, put_there, port_place_allows_notice, holder, is_at, is_distinct, is_empty, is_fitting, is_good, is_here, is_inside, is_out, is_posting, is_with, listing, listing_of, may_enter, may_leave_agent, may_post_on_line}
pub use Rattle.hub_core.specs.Posting.{is_free, is_holder, owner, owner_by, with_agent, phase_of_line, poster, poster_of, push_answer_of, running, speaker}
pub use Rattle.hub_core.specs.QueueMachine.{IsNamed, IsQueue, MayPush, Queue, QueueLaws, new_queue, pop_of, popped, pushed}
pub use Rattle.hub_core.specs.Roster.{CastNow, RosterNow, cast_after, cast_to, source_for, group_named, has_end, is_first, is_of_group, is_same_group, no_roster, roster, roster_after, without}
pub use Rattle.hub_core.specs.Shows.{count_of, FitsAndShows, IsMemberNow, KeepsQueues, Shows, ShowsEnd, ShowsFacts, ShowsPut, ShowsRoster, StillShows, agent_now, count_away, count_with, end_now, kept_away, kept_lines, line_now}
pub use Rattle.hub_core.specs.Sound.{IsOfEnd, Sound, SoundLines, SoundPlaces, SoundWaiting, flights, is_gone, naming, no_end, no_line, total}
pub use Rattle.hub_core.specs.Legal.{changes_nothing, takes_memory}
pub use Rattle.hub_core.specs.Shows.{SameContent}
pub use Rattle.hub_core.specs.declared.machine.Core.{Core}
pub use Rattle.hub_core.specs.declared.roster.Members.{Members}
pub use Rattle.hub_core.specs.declared.roster.Roster.{Roster}
