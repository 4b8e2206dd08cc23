-- What was done to a value that was lent.
use Rattle.std.proofs.Common.{◌≡◌, Option, Some, None, IfSome, MutBor, ap, subst}
use Rattle.std.specs.Fn.{FnOnceReturnsAtMut, Once}
use Rattle.std.specs.Option.{option_map}
use Rattle.hub_locked.specs.Lending.{IsDoneIn}

-- where it gives one value of the old one, that is what is shown
pub done_as : {T : Type 0} (f : T → T) (done : T → T → Type 0) → ((was now : T) → done was now → now ≡ f was) → (old new : Option T) → IsDoneIn old new done → new ≡ option_map f old
done_as f done gives None new is = is
done_as f done gives (Some was) None is = absurd is
done_as f done gives (Some was) (Some now) is = ap Some (gives was now is)

-- what was done says more
pub done_more : {T : Type 0} (done more : T → T → Type 0) → ((was now : T) → done was now → more was now) → (old new : Option T) → IsDoneIn old new done → IsDoneIn old new more
done_more done more gives None new is = is
done_more done more gives (Some was) None is = absurd is
done_more done more gives (Some was) (Some now) is = gives was now is

module _ {F T R : Type 0} (g : Once F (MutBor T × Unit {0}) (R × (MutBor T × Unit {0}))) (f : F) (r : R) where
  -- what a call says of the value that it found holds of what was shown
  pub called_of : (P : T → Type 0) → ((a b : MutBor T) → g.post f (a, tt) (r, (b, tt)) → P a.now) → (old new : Option T) → IsDoneIn old new (λ was now. FnOnceReturnsAtMut g f was r now) → IfSome old P
  called_of P gives None new is = tt
  called_of P gives (Some was) None is = absurd is
  called_of P gives (Some was) (Some now) is = subst P is.shows (gives is.shown is.left is.met)
