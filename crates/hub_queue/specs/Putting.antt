-- What becomes of a draft that the pass of a line puts.
use Rattle.std.specs.Prelude.{◌≡◌, ◌⊎◌, ◌≤◌, ℕ, List, [], length, Option, Some, None, Result, Ok, Err}
use Rattle.hub_envelope.specs.declared.envelope.Draft.{Draft}
use Rattle.hub_envelope.specs.declared.envelope.Envelope.{Envelope}
use Rattle.hub_envelope.specs.declared.limits.TheConstants.{MAX_PUT}
use Rattle.hub_envelope.specs.declared.ids.EndId.{EndId}
use Rattle.hub_queue.specs.declared.error.PostError.{PostError}
use Rattle.hub_queue.specs.declared.line_right.Head.{Head}
use Rattle.hub_queue.specs.declared.store.PutView.{PutView}
use Rattle.hub_envelope.specs.declared.posted.Posted.{Posted}
use Rattle.hub_queue.specs.PassSteps.{put_more, refused_more}

-- the name of the next envelope of a line: the end, the epoch and the line of its queue, and as number how many the line has put there
abbrev pub next_name : PutView → Posted
next_name v = record { end = record { 0 = v.end }; epoch = v.epoch; line = record { 0 = v.line }; number = length v.put }

-- the draft under a name
abbrev pub named : Posted → Draft → Envelope
named p d = record { end = p.end; epoch = p.epoch; line = p.line; number = p.number; agent = d.agent; body = d.body; ports = d.ports; notice = d.notice }

-- The line has put nothing: the queue has refused one push more, or the line has put as many envelopes there as it may.
abbrev pub HadNoRoom : PutView → PutView → Type 0
HadNoRoom old new = (new ≡ refused_more old) ⊎ ((new ≡ old) × (MAX_PUT ≤ length old.put))

-- what the line has put is followed by the draft under its next name
abbrev pub IsPut : PutView → PutView → Draft → Posted → Type 0
IsPut old new draft posted = (posted ≡ next_name old) × (new ≡ put_more old (named posted draft))

-- what is lent, for as long as it is there
abbrev pub lent_list : {a : Type 0} → Option (List a) → List a
lent_list (Some list) = list
lent_list None = []

-- the draft with this head, whose body and ports are lent
abbrev pub lent_draft : Head → Option (List ℕ) → Option (List EndId) → Draft
lent_draft head body ports = record { body = lent_list body; ports = lent_list ports; agent = head.agent; notice = head.notice }

-- what was accepted is gone, and what was refused is there as it was
abbrev pub LeavesLent : {a : Type 0} → Result Posted PostError → Option a → Option a → Type 0
LeavesLent (Ok posted) old new = new ≡ None
LeavesLent (Err why) old new = new ≡ old

-- what a post by value answers where this one answers so: a draft that was refused comes back
abbrev pub answer_back : Result Posted PostError → Draft → Result Posted (PostError × Draft)
answer_back (Ok posted) draft = Ok posted
answer_back (Err why) draft = Err (why, draft)
