-- What a handle holds, and what a call makes of it.
use Rattle.std.specs.Prelude.{◌≡◌, ℕ, Bool, true, false, [], ◌∷◌, ◌++◌}
use Rattle.hub_line.specs.Ends.{taken, HasEnded, HasLooked, HasNoneLeft, HasSome, IsInOrder, IsOver, SameTaker}
use Rattle.hub_line.specs.declared.line.LineGrave.{LineGrave}
use Rattle.hub_channel.specs.Ports.{ArePeers, NothingGot, NothingSent, SameEnds, got, sent}
use Rattle.hub_channel.specs.declared.port.ChannelPort.{ChannelPort}
use Rattle.hub_ports_c.specs.declared.resource.Message.{Message}
use Rattle.hub_ports_c.specs.declared.resource.Resource.{Resource}
use Rattle.hub_ports_c.specs.declared.resource.Resource.TheVariants.{Port, Grave}

abbrev pub is_open_port : Resource → Bool
is_open_port (Port p) = true
is_open_port k = false

abbrev pub is_closed_port : Resource → Bool
is_closed_port (Grave g) = true
is_closed_port k = false

-- a port was held, and one is, and this holds of the two
abbrev pub AtPort : (ChannelPort Message → ChannelPort Message → Type 0) → Resource → Resource → Type 0
AtPort P (Port p) (Port q) = P p q
AtPort P k l = ⊥

-- a closed port was held, and one is, and this holds of the two
abbrev pub AtGrave : (LineGrave Message → LineGrave Message → Type 0) → Resource → Resource → Type 0
AtGrave P (Grave g) (Grave h) = P g h
AtGrave P k l = ⊥

-- the port is the same one, and as it was but for what follows
abbrev pub SamePort : ChannelPort Message → ChannelPort Message → Type 0
SamePort p q = SameEnds p q × (q.is_started ≡ p.is_started)

abbrev pub PostsMessage : Message → ChannelPort Message → ChannelPort Message → Type 0
PostsMessage m p q = SamePort p q × (sent q ≡ sent p ++ m ∷ []) × NothingGot p q

abbrev pub PostsNothing : ChannelPort Message → ChannelPort Message → Type 0
PostsNothing p q = SamePort p q × NothingSent p q × NothingGot p q

-- nothing was posted, and nothing can be any more
abbrev pub RefusesClosed : ChannelPort Message → ChannelPort Message → Type 0
RefusesClosed p q = PostsNothing p q × IsOver q.to

abbrev pub TakesMessage : Message → ChannelPort Message → ChannelPort Message → Type 0
TakesMessage m p q = SamePort p q × (got q ≡ got p ++ m ∷ []) × NothingSent p q × IsInOrder q.from

-- the line was looked into, and nothing was found
abbrev pub TakesNone : ChannelPort Message → ChannelPort Message → Type 0
TakesNone p q = PostsNothing p q × HasNoneLeft q.from × HasLooked p.from q.from

-- all that was ever posted was taken
abbrev pub TakesLast : ChannelPort Message → ChannelPort Message → Type 0
TakesLast p q = PostsNothing p q × HasEnded q.from

-- the port is the same one, started or disabled
abbrev pub Becomes : Bool → ChannelPort Message → ChannelPort Message → Type 0
Becomes started p q = SameEnds p q × NothingSent p q × NothingGot p q × (q.is_started ≡ started)

-- the line of the port was looked into, and nothing was found
abbrev pub FindsNone : ChannelPort Message → ChannelPort Message → Type 0
FindsNone p q = HasNoneLeft q.from × HasLooked p.from q.from

-- the line of the port was looked into, and a message or the end is known
abbrev pub FindsSome : ChannelPort Message → ChannelPort Message → Type 0
FindsSome p q = HasSome q.from

-- the port became a closed one, which has taken what the port had
abbrev pub ClosesPort : Resource → Resource → Type 0
ClosesPort (Port p) (Grave g) = SameTaker p.from g.taker × (taken g.taker ≡ got p)
ClosesPort k l = ⊥

abbrev pub HandsBack : Message → LineGrave Message → LineGrave Message → Type 0
HandsBack m g h = SameTaker g.taker h.taker × (taken h.taker ≡ taken g.taker ++ m ∷ []) × IsInOrder h.taker

abbrev pub HandsBackNone : LineGrave Message → LineGrave Message → Type 0
HandsBackNone g h = SameTaker g.taker h.taker × (taken h.taker ≡ taken g.taker) × HasNoneLeft h.taker × HasLooked g.taker h.taker

-- what was taken and handed back is all that was ever posted
abbrev pub HandsBackLast : LineGrave Message → LineGrave Message → Type 0
HandsBackLast g h = SameTaker g.taker h.taker × (taken h.taker ≡ taken g.taker) × HasEnded h.taker

-- nothing is taken of a port that isn't started
abbrev pub Waits : ChannelPort Message → ChannelPort Message → Type 0
Waits p q = PostsNothing p q × (p.is_started ≡ false)

-- two ports that are entangled, over which nothing was sent, and which aren't started
abbrev pub NewPeers : ℕ → Resource → Resource → Type 0
NewPeers name (Port p) (Port q) = ArePeers p q × (sent p ≡ []) × (got p ≡ []) × (sent q ≡ []) × (got q ≡ []) × (p.name ≡ name) × (q.name ≡ name) × (p.is_started ≡ false) × (q.is_started ≡ false)
NewPeers name k l = ⊥

abbrev pub HasName : ℕ → Resource → Type 0
HasName name (Port p) = p.name ≡ name
HasName name k = ⊥
