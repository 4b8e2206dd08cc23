-- The name of an envelope.
use Rattle.std.specs.Prelude.{ℕ, List, ◌++◌, codes}
use Rattle.std.specs.Fmt.{decimal}
use Rattle.hub_envelope.specs.declared.envelope.Envelope.{Envelope}
use Rattle.hub_envelope.specs.declared.posted.Posted.{Posted}

-- the name that the envelope has
abbrev pub posted_of : Envelope → Posted
posted_of e = record { end = e.end; line = e.line; epoch = e.epoch; number = e.number }

-- `E L EP:N`
abbrev pub posted_text : Posted → List ℕ
posted_text p = decimal p.end.0 ++ codes " " ++ decimal p.line.0 ++ codes " " ++ decimal p.epoch ++ codes ":" ++ decimal p.number
