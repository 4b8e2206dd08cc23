-- What a hub has.
use Rattle.std.specs.Prelude.{◌≡◌, [], Bool, true, false, Option, Some, None}
use base.Fml.{Fml, ftrue}
use Rattle.std.specs.Coded.{Coded, coded_option}
use denote.RawPtr.{Ptr}
use Rattle.std.specs.Box.Ownership.{box_owns}
use Rattle.std.specs.declared.alloc.Global.{Global}
use Rattle.std.specs.contracts.impls.GlobalAllocator.TheImpl.{ghosts}
use Rattle.hub_steps.specs.declared.session.Session.{Session}
use Rattle.hub_steps.specs.contracts.session.Session.{the_row}
use Rattle.hub_steps.specs.Session.{HasRun, is_told, told}

abbrev pub HeldSession : Type 0
HeldSession = Option Session

abbrev pub session_coded : Coded HeldSession
session_coded = coded_option (the_row.coded)

-- the box of the session that is held, if one is
abbrev pub session_owns : Global → Ptr → HeldSession → Fml
session_owns g p None = ftrue
session_owns g p (Some x) = box_owns (ghosts.dealloc_token g) the_row p x

abbrev pub has_session : HeldSession → Bool
has_session None = false
has_session (Some x) = true

abbrev pub is_lost_in : HeldSession → Bool
is_lost_in None = false
is_lost_in (Some s) = s.is_lost

-- whether what was said last wants no more memory
abbrev pub is_told_in : HeldSession → Bool
is_told_in None = false
is_told_in (Some s) = is_told s

-- a session that has run nothing, has said nothing, and isn't lost
abbrev pub IsNewSession : HeldSession → Type 0
IsNewSession None = ⊥
IsNewSession (Some s) = HasRun s [] [] × (told s ≡ []) × (s.is_lost ≡ false)

-- a session was held, and one is, and this holds of the two
abbrev pub BothHeld : (Session → Session → Type 0) → HeldSession → HeldSession → Type 0
BothHeld P (Some s) (Some t) = P s t
BothHeld P h k = ⊥
