-- The words by which events of a worker's life are named in text.
use Rattle.std.specs.Prelude.{ℕ, List, Option, Some, None, codes, bytes_eq, if◌then◌else◌}
use Rattle.hub_life.specs.declared.life.Event.{Event}
use Rattle.hub_life.specs.declared.life.Event.TheVariants as life

-- the words of the events of a worker's life
abbrev pub event_of : List ℕ → Option Event
event_of word =
    if bytes_eq word (codes "install") then Some life.Install
    else (if bytes_eq word (codes "activate") then Some life.Activate
    else (if bytes_eq word (codes "extend") then Some life.Extend
    else (if bytes_eq word (codes "settle") then Some life.Settle
    else (if bytes_eq word (codes "fail") then Some life.Fail
    else (if bytes_eq word (codes "returned") then Some life.Returned
    else (if bytes_eq word (codes "discard") then Some life.Discard
    else (if bytes_eq word (codes "terminate") then Some life.Terminate else None)))))))
