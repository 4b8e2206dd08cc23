-- What a loop holds.
use Rattle.std.specs.Prelude.{ℕ, List, Option, Some, None, length, filter_map}
use Rattle.slab.specs.Slab.{Slab, entries}
use Rattle.hub_clients.specs.declared.handed.HandedQueue.{HandedQueue}
use Rattle.hub_clients.specs.declared.handed.HandedQueue.TheVariants as handed
use Rattle.hub_envelope.specs.declared.ids.EndId.{EndId}
use Rattle.hub_queue.specs.Standing.{StandSeat}
use Rattle.hub_queue.specs.Taking.{TakerSeat}
use Rattle.hub_loop.specs.declared.held.Held.{Held}
use Rattle.hub_loop.specs.declared.held.Held.TheVariants.{Port, Client, Worker, Member, Line}

-- a queue that was handed, as an end that is held
abbrev pub held_queue : HandedQueue → Held
held_queue (handed.Client t) = Client t
held_queue (handed.Worker t) = Worker t

-- whoever takes from the end; a line is no end
abbrev pub seat_of : Held → Option TakerSeat
seat_of (Port p) = Some p.taker
seat_of (Client t) = Some t
seat_of (Worker t) = Some t
seat_of (Member m) = Some m.taker
seat_of (Line s) = None

-- the same, with this in place of whoever takes from it
abbrev pub with_seat : Held → TakerSeat → Held
with_seat (Port p) t = Port (record p { taker = t })
with_seat (Client s) t = Client t
with_seat (Worker s) t = Worker t
with_seat (Member m) t = Member (record m { taker = t })
with_seat (Line s) t = Line s

-- where the line stands over which it posts: a port's, or the line that it is
abbrev pub stand_held : Held → Option StandSeat
stand_held (Port p) = Some p.poster
stand_held (Client t) = None
stand_held (Worker t) = None
stand_held (Member m) = None
stand_held (Line s) = Some s

-- the same, with its line standing here
abbrev pub at_stand : Held → StandSeat → Held
at_stand (Port p) s = Port (record p { poster = s })
at_stand (Client t) s = Client t
at_stand (Worker t) s = Worker t
at_stand (Member m) s = Member m
at_stand (Line l) s = Line s

-- how many queues of the end are retired, from the taker's on
abbrev pub behind_of : Option TakerSeat → ℕ
behind_of (Some t) = length t.retired
behind_of None = 0

-- the number of the end, or of the end at which the line posts
abbrev pub number_held : Held → EndId
number_held (Port p) = record { 0 = p.taker.end }
number_held (Client t) = record { 0 = t.end }
number_held (Worker t) = record { 0 = t.end }
number_held (Member m) = record { 0 = m.taker.end }
number_held (Line s) = s.name.end

-- the number of the end; a line is no end
abbrev pub end_held : Held → Option EndId
end_held (Line s) = None
end_held (Port p) = Some (number_held (Port p))
end_held (Client t) = Some (number_held (Client t))
end_held (Worker t) = Some (number_held (Worker t))
end_held (Member m) = Some (number_held (Member m))

-- the numbers of the ends that are held, in the order of their keys
abbrev pub ends_held : Slab Held → List EndId
ends_held held = filter_map (λ entry. end_held entry.1) (entries held)
