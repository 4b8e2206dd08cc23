-- The names of std, of envelopes and of the crate's own types that the definitions use, from one place.
pub use Rattle.std.specs.BTreeMap.{get}
pub use Rattle.std.specs.BTreeSet.{BTreeSet, insert_key}
pub use Rattle.std.specs.Bool.{MatchBool}
pub use Rattle.std.specs.Cmp.Lexicographic.{slice_cmp}
pub use Rattle.std.specs.Coded.{Coded, code_by, coded_list, coded×}
pub use Rattle.std.specs.List.{AllByRecursion, filter, flat_map, fold, list_all, list_any, position}
pub use Rattle.std.specs.Option.{option_to_list}
pub use Rattle.std.specs.Ordering.{nat_cmp, ordering_then}
pub use Rattle.std.specs.Prelude.{All, Bool, Err, IfSome, IsSomeAnd, IsTrue, List, None, Ok, Option, Result, Some, [], bit_and, bytes_eq, codes, drop, false, is_some, length, map, nat_le, nat_lt, not}
pub use Rattle.std.specs.Prelude.{option_and_then, option_map, refl, replicate, slice_get, slice_index_or, slice_set, suc, sum_by, true, unwrap_or, zero, ℕ}
pub use Rattle.std.specs.declared.cmp.Ordering.{Ordering}
pub use Rattle.hub_envelope.specs.declared.envelope.Envelope.{Envelope}
pub use Rattle.hub_envelope.specs.declared.ids.AgentId.{AgentId}
pub use Rattle.hub_envelope.specs.declared.ids.EndId.{EndId}
pub use Rattle.hub_envelope.specs.declared.ids.LineId.{LineId}
pub use Rattle.hub_envelope.specs.declared.limits.TheConstants.{MAX_AGENTS, MAX_ENDS, MAX_LINES, MAX_MOVES, MAX_PORTS}
pub use Rattle.hub_core.specs.declared.agent.Agent.{Agent}
pub use Rattle.hub_core.specs.declared.end.End.{End}
pub use Rattle.hub_core.specs.declared.end.Place.{Place}
pub use Rattle.hub_core.specs.declared.end.Place.TheVariants.{Arrived, Gone, InFlight, Swept, With}
pub use Rattle.hub_core.specs.declared.roster.Group.{Group}
pub use Rattle.hub_core.specs.declared.kind.Kind.{Kind}
pub use Rattle.hub_core.specs.declared.kind.Kind.TheVariants.{Client, Member, Port, Worker}
pub use Rattle.hub_core.specs.declared.line.Line.{Line}
pub use Rattle.hub_core.specs.declared.line.Phase.{Phase}
pub use Rattle.hub_core.specs.declared.line.Phase.TheVariants.{Inside, Out, Turned}
pub use Rattle.hub_core.specs.declared.step.Listing.{Listing}
pub use Rattle.hub_core.specs.declared.step.Listing.TheVariants.{Bad, Good, HoldsTarget}
pub use Rattle.hub_core.specs.declared.step.Acceptance.{Acceptance}
pub use Rattle.hub_core.specs.declared.step.Outcome.{Outcome}
pub use Rattle.hub_core.specs.declared.step.Sender.{Sender}
pub use Rattle.hub_core.specs.declared.step.Action.{Action}
pub use Rattle.hub_core.specs.declared.step.Step.{Step}
