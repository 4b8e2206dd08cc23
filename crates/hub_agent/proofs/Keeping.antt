-- What is taken out of a loop and held again.
use Rattle.std.proofs.Common.{◌≡◌, ◌≤◌, ℕ, ap, subst, arith}
use Rattle.slab.specs.Slab.{Slab}
use Rattle.hub_loop.specs.Adopting.{HoldsMore}
use Rattle.hub_loop.specs.declared.held.Held.{Held}
use Rattle.hub_agent.proofs.Brings.{count_held, held_in}

-- one end less is held
pub less_so : (old before mid : Slab Held) (h : Held) → old ≡ before → HoldsMore mid old h → (e : ℕ) → held_in mid e ≤ held_in before e
less_so old before mid h same less e =
    let a = count_held e mid old h less in
    let b = ap (λ s. held_in s e) same in
    omega (arith, a, b)

-- it was taken out, and is held again
pub again_so : (old before mid new : Slab Held) (h back : Held) → old ≡ before → HoldsMore mid old h → back ≡ h → HoldsMore mid new back → (e : ℕ) → held_in new e ≤ held_in before e
again_so old before mid new h back same less is more e =
    let a = count_held e mid old h less in
    let b = count_held e mid new h (subst (HoldsMore mid new) is more) in
    let c = ap (λ s. held_in s e) same in
    omega (arith, a, b, c)
