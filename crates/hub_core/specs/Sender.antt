-- What one sender posts at an end goes by one line: order is stated line by line (this project's own; in
-- WHATWG HTML, "Message ports", a port's one sender is the port that it is entangled with).
use Rattle.std.specs.Prelude.{◌&&◌, ◌++◌, ◌==◌, ◌∷◌, ◌≡◌, ◌≤◌}
use Rattle.hub_core.specs.Words.{AllByRecursion, Envelope, List, [], filter, length, ℕ, map, suc, zero}

-- the envelopes of a line, in order
abbrev pub by : ℕ → List Envelope → List Envelope
by line vs = filter (λ v. v.line.0 == line) vs

-- the envelopes of a queue, in order
abbrev pub in_queue : ℕ → List Envelope → List Envelope
in_queue epoch vs = filter (λ v. v.epoch == epoch) vs

-- the second list is the first, followed by some list
abbrev pub Prefix : List Envelope → List Envelope → Type 0
Prefix front whole = (rest : List Envelope) × (whole ≡ front ++ rest)

-- how many of the envelopes are of this line and this queue
abbrev pub count_in_queue : ℕ → ℕ → List Envelope → ℕ
count_in_queue line epoch vs = length (filter (λ v. v.line.0 == line && v.epoch == epoch) vs)

-- the epochs never fall
abbrev pub Rises : List Envelope → Type 0
Rises [] = Unit {0}
Rises (v ∷ vs) = AllByRecursion (λ u. v.epoch ≤ u.epoch) vs × Rises vs

-- ---- the numbers that envelopes bear (this project's own)

-- the first n numbers: 0, 1, 2 and so on
abbrev pub up_to : ℕ → List ℕ
up_to zero = []
up_to (suc n) = up_to n ++ n ∷ []

-- the numbers of the envelopes of a line in one queue, in order
abbrev pub numbers : ℕ → ℕ → List Envelope → List ℕ
numbers line epoch vs = map (λ v. v.number) (filter (λ v. v.line.0 == line && v.epoch == epoch) vs)
