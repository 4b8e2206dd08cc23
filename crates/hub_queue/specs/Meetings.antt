-- What a meeting of a poster and a taker comes to.
use Rattle.std.specs.Prelude.{◌≡◌, ◌<◌, ◌≤◌, length}
use Rattle.hub_core.specs.Sender.{by, Prefix}
use Rattle.hub_gate.specs.declared.entry.Refusal.{Refusal}
use Rattle.hub_queue.specs.declared.meeting.Meeting.{Meeting}
use Rattle.hub_queue.specs.declared.meeting.Meeting.TheVariants.{Strangers, Turned, Met}
use Rattle.hub_queue.specs.TakerQueues.{TakerQueueSeat}
use Rattle.hub_queue.specs.Posting.{StaysAt, HasSeen}
use Rattle.hub_queue.specs.Standing.{StandSeat, put_of, right_of}
use Rattle.hub_queue.specs.Taking.{TakerSeat, first_queue}

-- the poster stands at the queue of the taker's end and epoch
abbrev pub IsAtTaker : StandSeat → TakerSeat → Type 0
IsAtTaker s t = (s.name.end.0 ≡ t.end) × (s.name.epoch ≡ t.epoch)

-- where end and epoch agree, the poster is of the taker's first queue
abbrev pub AreOfOne : StandSeat → TakerSeat → Type 0
AreOfOne s t = IsAtTaker s t → (right_of s).queue ≡ (first_queue t).queue

-- the poster has gone in and out, or was turned, and has put nothing
pub record IsOutAgain (old new : StandSeat) : Type 0 where
  pub stays : StaysAt old new
  pub put : put_of new ≡ put_of old
  pub entered : old.entry.at.enters < new.entry.at.enters

-- What a meeting at a queue comes to. Turned: the poster has seen MOVED or CLOSED in this call. Met: how many envelopes the line has put and how many of them were taken; what was taken of the line is a prefix of what it has put.
abbrev pub HaveMetAt : StandSeat → StandSeat → TakerQueueSeat → Meeting → Type 0
HaveMetAt old new p Strangers = ⊥
HaveMetAt old new p Turned = StaysAt old new × (put_of new ≡ put_of old) × ((flag : Refusal) × HasSeen new old.entry.at.enters flag)
HaveMetAt old new p (Met put got) = IsOutAgain old new × Prefix (by old.name.line.0 p.at.got) (put_of old).put × (put ≡ length (put_of old).put) × (got ≡ length (by old.name.line.0 p.at.got))

-- Strangers: exactly where end or epoch differ. Else the two meet at the taker's queue. The taker is as it was.
abbrev pub HaveMet : StandSeat → StandSeat → TakerSeat → TakerSeat → Meeting → Type 0
HaveMet old new before after Strangers = (¬ IsAtTaker old before) × (new ≡ old) × (after ≡ before)
HaveMet old new before after met = IsAtTaker old before × HaveMetAt old new (first_queue before) met × (after ≡ before)

-- The poster is of the taker's first queue or of a later one. A poster and a taker that one `Mailbox::open` gave are so, and each post, start and adoption leaves them so, and each take that doesn't leave a queue.
pub record AreTogether (s : StandSeat) (t : TakerSeat) : Type 0 where
  pub of_one : AreOfOne s t
  pub not_before : t.epoch ≤ s.name.epoch
