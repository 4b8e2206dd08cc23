-- What is looked for is found, where it is held, and started.
use Rattle.std.proofs.Common.{◌≡◌, ◌∙◌, ℕ, Bool, true, false, List, Option, Some, None, refl, ap, subst, ⊎_elim, arith, rules}
use Rattle.std.specs.Prelude.{IfSome, IfNone, ◌↔◌, is_some}
use Rattle.slab.specs.Slab.{Slab, get}
use Rattle.hub_envelope.specs.declared.ids.EndId.{EndId}
use Rattle.hub_ready.specs.declared.ready.Ready.{Ready}
use Rattle.hub_ready.specs.Finding.{LeadsTo, IsKeyOf}
use Rattle.hub_ready.specs.Marking.{mark_of}
use Rattle.hub_queue.specs.Standing.{StandSeat}
use Rattle.hub_loop.specs.declared.held.Held.{Held}
use Rattle.hub_loop.specs.declared.held.Held.TheVariants.{Port, Client, Worker, Member, Line}
use Rattle.hub_loop.specs.declared.held.Sought.{Sought}
use Rattle.hub_loop.specs.declared.held.Sought.TheVariants as kind
use Rattle.hub_loop.specs.Holding.{end_held}
use Rattle.hub_loop.specs.Looking.{Holds, IsEndOf, IsLineTo, IsSlotOf, IsFound}
use Rattle.hub_loop.specs.Reaching.{AreReached}
use Rattle.hub_loop.proofs.Serves.{mark-cases}
use Rattle.hub_loop.specs.Starting.{IsStartedAs, StartsClient, StartsPort}

-- what is of a kind and number is the end of that number
pub kind-end : (k : Sought) (end : EndId) (held : Held) → IsEndOf k end held → end_held held ≡ Some end
kind-end k end (Port p) is = ap Some is.1
kind-end k end (Client t) is = ap Some is.1
kind-end k end (Worker t) is = ap Some is.1
kind-end k end (Member m) is = ap Some is.1
kind-end kind.End end (Line s) is = absurd cc
kind-end kind.Port end (Line s) is = absurd cc
kind-end kind.Client end (Line s) is = absurd cc
kind-end kind.Member end (Line s) is = absurd cc

-- what is held under a key is known
pub slot-of : (Is : Held → Type 0) (slot : Option Held) → IsSlotOf Is slot → (held : Held) × (slot ≡ Some held) × Is held
slot-of Is None is = absurd is
slot-of Is (Some held) is = (held, refl, is)

-- an end that isn't marked is found by its number
unmarked : (slots : Slab Held) (r : Ready) (k : Sought) (end : EndId) (key : ℕ) → AreReached slots r → IsSlotOf (IsEndOf k end) (get slots key) → mark_of r.marks key ≡ 0 → LeadsTo r.listed.items end key
unmarked slots r k end key reached is clear =
    let here = slot-of (IsEndOf k end) (get slots key) is in
    (reached key here.0 here.1).1 end (kind-end k end here.0 here.2) clear

-- the number leads to no such end, and no marked one is such
pub none-found : (slots : Slab Held) (r : Ready) (k : Sought) (end : EndId) → AreReached slots r → ((key : ℕ) → LeadsTo r.listed.items end key → IsSlotOf (IsEndOf k end) (get slots key) → ⊥) → ((key : ℕ) → mark_of r.marks key ≡ 1 → IsSlotOf (IsEndOf k end) (get slots key) → ⊥) → (key : ℕ) → IsSlotOf (IsEndOf k end) (get slots key) → ⊥
none-found slots r k end reached listed marked key is =
    ⊎_elim
    (λ clear. listed key (unmarked slots r k end key reached is clear) is)
    (λ set. marked key set is)
    (mark-cases r.marks key)

-- what a look at the marked ends has found is what is held
pub found-marked : (Is : Held → Type 0) (slots : Slab Held) (r : Option ℕ) → IfSome r (λ key. IsSlotOf Is (get slots key)) → IfNone r ((key : ℕ) → IsSlotOf Is (get slots key) → ⊥) → IsFound Is slots r
found-marked Is slots None some none = none
found-marked Is slots (Some key) some none = some

-- the number leads nowhere, where no key is found
pub nowhere : (listed : List ℕ) (end : EndId) (r : Option ℕ) → IsKeyOf listed end r → ((key : ℕ) → r ≡ Some key → ⊥) → (key : ℕ) → LeadsTo listed end key → ⊥
nowhere listed end None is isnt key leads = absurd (omega (arith, is, leads))
nowhere listed end (Some k) is isnt key leads = isnt k refl

-- the one key to which it leads has no such end
pub not-there : (Is : Held → Type 0) (slots : Slab Held) (listed : List ℕ) (end : EndId) (r : Option ℕ) (found : ℕ) → IsKeyOf listed end r → r ≡ Some found → (IsSlotOf Is (get slots found) → ⊥) → (key : ℕ) → LeadsTo listed end key → IsSlotOf Is (get slots key) → ⊥
not-there Is slots listed end r found is some isnt key leads here =
    let there : LeadsTo listed end found = subst (IsKeyOf listed end) some is in
    let same : key ≡ found = omega (arith, leads, there) in
    isnt (subst (λ k. IsSlotOf Is (get slots k)) same here)

-- what is known where nothing was found
pub if-none : {A : Type 0} {P Q : Type 0} (r : Option A) → IfNone r P → (P → Q) → IfNone r Q
if-none None holds then = then holds
if-none (Some a) holds then = tt

-- a test that failed
pub not-so : {P : Type 0} (b : Bool) → (b ≡ true) ↔ P → b ≡ false → P → ⊥
not-so b iff fails is = absurd (let yes = iff.1 is in cc)

-- a line that posts at the end of a number
line-of : (end : EndId) (held : Held) → IsLineTo end held → (line : StandSeat) × (held ≡ Line line) × (line.name.end ≡ end)
line-of end (Port p) is = absurd is
line-of end (Client t) is = absurd is
line-of end (Worker t) is = absurd is
line-of end (Member m) is = absurd is
line-of end (Line s) is = (s, refl, is)

-- a key that was found is that of such a line
pub line-found : (slots : Slab Held) (end : EndId) (place : Option ℕ) → IsFound (IsLineTo end) slots place → is_some place ≡ true → (line : StandSeat) × Holds slots (Line line) × (line.name.end ≡ end)
line-found slots end None is found = absurd cc
line-found slots end (Some key) is found =
    let (held, there, to) = slot-of (IsLineTo end) (get slots key) is in
    let (line, same, number) = line-of end held to in
    (line, (key, there ∙ ap (λ h. Some h) same), number)

pub starts-port : (old new : Slab Held) (end : EndId) (came : Bool) → IsStartedAs kind.Port old new end came → StartsPort old new end came
starts-port old new end true is = search rules
starts-port old new end false is = search rules

pub starts-client : (old new : Slab Held) (end : EndId) (came : Bool) → IsStartedAs kind.Client old new end came → StartsClient old new end came
starts-client old new end true is = search rules
starts-client old new end false is = search rules
