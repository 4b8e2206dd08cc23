-- What an engine has written.
use Rattle.std.proofs.Common.{◌≡◌, ℕ, List, Option, Result, Ok, Err, sym, subst}
use Rattle.hub_engine.specs.declared.counted_writer.CountedWriter.{CountedWriter}
use Rattle.hub_engine.specs.declared.status.Device.{Device}
use Rattle.hub_engine.specs.declared.status.ExitStatus.{ExitStatus}
use Rattle.hub_engine.specs.Beginning.{AppendsBeginning}
use Rattle.hub_engine.specs.Engine.{EndsOutput, Says, Writes}

pub writes_weaker : (P Q : ExitStatus → List ℕ → Type 0) (old new : Option (List ℕ)) (r : Result ExitStatus Device) → ((s : ExitStatus) (t : List ℕ) → P s t → Q s t) → Writes P old new r → Writes Q old new r
writes_weaker P Q old new (Ok s) f h = (h.0, f s h.0 h.1, h.2)
writes_weaker P Q old new (Err e) f h = (h.0, h.1, f h.0 h.1 h.2, h.3)

pub ends_weaker : {W : Type 0} (contents : W → Option (List ℕ)) (P Q : ExitStatus → List ℕ → Type 0) (old new : CountedWriter W) (r : Result ExitStatus Device) → ((s : ExitStatus) (t : List ℕ) → P s t → Q s t) → EndsOutput contents P old new r → EndsOutput contents Q old new r
ends_weaker contents P Q old new r f h = record { written = writes_weaker P Q _ _ r f h.written; failures = h.failures; flushed = h.flushed }

pub says_so : (Q : ExitStatus → List ℕ → Type 0) (status : ExitStatus) (text : List ℕ) → Q status text → (s : ExitStatus) (t : List ℕ) → Says status text s t → Q s t
says_so Q status text q s t h = subst (λ u. Q u t) (sym h.0) (subst (Q status) (sym h.1) q)

-- a write that failed stopped in the middle of a text
pub stops : (P : ExitStatus → List ℕ → Type 0) (old new : Option (List ℕ)) (r : Result ExitStatus Device) (e : Device) (s : ExitStatus) (t : List ℕ) → r ≡ Err e → P s t → AppendsBeginning old new t → Writes P old new r
stops P old new r e s t is said begun = subst (Writes P old new) (sym is) (s, t, said, begun)
