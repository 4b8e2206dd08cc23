-- What contracts see of a port.
use Rattle.std.specs.Prelude.{◌≡◌, List, [], ◌∷◌, ◌++◌}
use Rattle.hub_line.specs.Ends.{posted, taken, IsLine, SamePoster, SameTaker}
use Rattle.hub_channel.specs.declared.port.ChannelPort.{ChannelPort}
use Rattle.hub_channel.specs.declared.port.PortTaken.{PortTaken}
use Rattle.hub_channel.specs.declared.port.PortTaken.TheVariants.{Message, Empty, Ended, Disabled}

module _ {M : Type 0} where
  -- all that was posted at the peer, in order
  abbrev pub sent : ChannelPort M → List M
  sent p = posted p.to

  -- all that was taken, in order
  abbrev pub got : ChannelPort M → List M
  got p = taken p.from

  -- the two ports of one channel
  abbrev pub ArePeers : ChannelPort M → ChannelPort M → Type 0
  ArePeers a b = IsLine a.to b.from × IsLine b.to a.from

  -- the port is the same one, with the same peer
  abbrev pub SameEnds : ChannelPort M → ChannelPort M → Type 0
  SameEnds old new = SamePoster old.to new.to × SameTaker old.from new.from × (new.name ≡ old.name)

  abbrev pub NothingSent : ChannelPort M → ChannelPort M → Type 0
  NothingSent old new = sent new ≡ sent old

  abbrev pub NothingGot : ChannelPort M → ChannelPort M → Type 0
  NothingGot old new = got new ≡ got old

  -- what was taken before, what came of the take, and what was taken after
  abbrev pub Brought : List M → PortTaken M → List M → Type 0
  Brought old (Message m) new = new ≡ old ++ m ∷ []
  Brought old Empty new = new ≡ old
  Brought old Ended new = new ≡ old
  Brought old Disabled new = new ≡ old
