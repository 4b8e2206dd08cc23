-- One queue of an end as a machine (WHATWG HTML, "Message ports": a port message queue): what each line put there, what
-- waits and what was taken. The core's queues are such machines, and so are the queues of running threads.
use Rattle.std.specs.Prelude.{if◌then◌else◌, ◌++◌, ◌<◌, ◌==◌, ◌∷◌, ◌≡◌, ◌≤◌}
use Rattle.hub_core.specs.Words.{All, Envelope, List, None, Option, Some, [], length, map, ℕ}
use Rattle.hub_core.specs.Notions.{by, Prefix, up_to}

-- for each line what it put; what is held, and what was taken out, both in order
pub record Queue : Type 0 where
  pub put : ℕ → List Envelope
  pub held : List Envelope
  pub got : List Envelope

-- a queue in which nothing was put
abbrev pub new_queue : Queue
new_queue = record { put = λ _. []; held = []; got = [] }

-- the envelope bears the name of the queue k of the end e: that end and epoch, and one of its n lines
pub record IsNamed (e k n : ℕ) (v : Envelope) : Type 0 where
  pub end : v.end.0 ≡ e
  pub epoch : v.epoch ≡ k
  pub line : v.line.0 < n

-- A queue takes an envelope that bears its name and has the next number of its line.
pub record MayPush (e k n : ℕ) (q : Queue) (v : Envelope) : Type 0 where
  pub named : IsNamed e k n v
  pub number : v.number ≡ length (q.put v.line.0)

-- Push appends an envelope to what its line put and to what is held.
abbrev pub pushed : Queue → Envelope → Queue
pushed q v = record {
  put = λ line. if v.line.0 == line then q.put line ++ v ∷ [] else q.put line;
  held = q.held ++ v ∷ [];
  got = q.got;
}

-- Pop moves the first that is held to what was taken, or finds none where nothing is held.
abbrev pub pop_of : Queue → List Envelope → Option (Envelope × Queue)
pop_of q [] = None
pop_of q (v ∷ rest) = Some (v, record { put = q.put; held = rest; got = q.got ++ v ∷ [] })

abbrev pub popped : Queue → Option (Envelope × Queue)
popped q = pop_of q q.held

-- What holds of the queue k of the end e, with n lines, whatever was pushed and popped.
pub record IsQueue (e k n : ℕ) (q : Queue) : Type 0 where
  -- line by line, what was taken followed by what is held is what was put
  pub put : (line : ℕ) → by line (q.got ++ q.held) ≡ q.put line
  -- each envelope bears the name of the queue
  pub named : All (IsNamed e k n) (q.got ++ q.held)
  -- what a line put is numbered 0, 1, 2 and so on
  pub numbered : (line : ℕ) → map (λ v. v.number) (q.put line) ≡ up_to (length (q.put line))

-- The laws of the queue machine.
pub record QueueLaws : Type 0 where
  -- a new queue is one, and each push that it takes and each pop leaves it one
  pub opened : (e k n : ℕ) → IsQueue e k n new_queue
  pub push : (e k n : ℕ) (q : Queue) (v : Envelope) → MayPush e k n q v → IsQueue e k n q → IsQueue e k n (pushed q v)
  pub pop : (e k n : ℕ) (q r : Queue) (v : Envelope) → popped q ≡ Some (v, r) → IsQueue e k n q → IsQueue e k n r
  -- where a pop finds none, everything that was put was taken
  pub none : (e k n : ℕ) (q : Queue) → popped q ≡ None → IsQueue e k n q → (line : ℕ) → by line q.got ≡ q.put line
  -- what was taken of a line is a prefix of what it put
  pub prefix : (e k n : ℕ) (q : Queue) → IsQueue e k n q → (line : ℕ) → Prefix (by line q.got) (q.put line)
  -- a number that is no line of the queue has put nothing
  pub unused : (e k n : ℕ) (q : Queue) → IsQueue e k n q → (line : ℕ) → n ≤ line → q.put line ≡ []
