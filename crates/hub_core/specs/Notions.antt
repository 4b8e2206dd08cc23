-- The notions of a history, from one place.
pub use Rattle.hub_core.specs.History.{History, Pair}
pub use Rattle.hub_core.specs.Sender.{Prefix, Rises, by, count_in_queue, in_queue, numbers, up_to}
pub use Rattle.hub_core.specs.Envelopes.{accepted, discarded, named_envelope, named_notice, taken}
pub use Rattle.hub_core.specs.Made.{ends, is_queue, kind, kind_after, lines_of, maker_of, peer_of}
pub use Rattle.hub_core.specs.Place.{closed, enabled, names, place}
pub use Rattle.hub_core.specs.Lines.{clear, newest, phase, stand, taker_stand}
pub use Rattle.hub_core.specs.Roster.{CastNow, RosterNow, cast_after, cast_to, group_named, has_body, has_end, is_of_group, is_same_group, no_roster, roster, source_for}
pub use Rattle.hub_core.specs.Facts.{AgentNow, EndNow, Facts, LineNow, facts}
