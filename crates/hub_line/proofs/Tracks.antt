-- Lists of tracks, from their end.
use Rattle.std.specs.Prelude.{is_some}
use Rattle.std.specs.declared.boxed.Box.{Box}
use Rattle.std.proofs.Common.{true, false, Option, None, ◌≡◌, ◌∙◌, sym, Some, List, [], ◌∷◌, ◌++◌, refl, ap, subst, append_assoc}
use Rattle.std.proofs.lemmas.List.{append-nil}
use Rattle.hub_line.specs.Rings.{fed, IsRing}
use Rattle.hub_line.specs.declared.ring.Feed.{Feed}
use Rattle.hub_line.specs.declared.ring.Source.{Source}
use Rattle.hub_line.specs.declared.ring.Track.{Track}
use Rattle.hub_line.specs.declared.ring.Track.TheVariants.{Onward, End}
use Rattle.hub_line.specs.Tracks.{goes_on, last_ring, next_ring, over, settled, in_use, IsLinked, Stands}
use Rattle.hub_line.specs.declared.ring.Chained.{Chained}
use Rattle.rtrb.specs.Ring.{sent}
use Rattle.rtrb.specs.declared.producer.Producer.{Producer}
use Rattle.std.specs.declared.alloc.Global.{Global}

pub some_same : {A : Type 0} (x y : A) → Some x ≡ Some y → x ≡ y
some_same x y e = cc

none_some : {A : Type 0} (x : A) → None ≡ Some x → ⊥
none_some x e = cc

none_is : false ≡ true → ⊥
none_is e = cc

module _ {T : Type 0} where
  pub last_ring-snoc : (xs : List (Track T)) (x : Track T) → last_ring (xs ++ x ∷ []) ≡ next_ring x
  last_ring-snoc [] x = refl
  last_ring-snoc (y ∷ []) x = refl
  last_ring-snoc (y ∷ z ∷ zs) x = last_ring-snoc (z ∷ zs) x

  pub settled-snoc : (xs : List (Track T)) (x : Track T) → settled (xs ++ x ∷ []) ≡ settled xs ++ over x
  settled-snoc [] x = append-nil (over x)
  settled-snoc (y ∷ ys) x = rw (settled-snoc ys x) (rw (← append_assoc) refl)

  -- the line goes on in the new ring
  pub linked_onward : (before after : List (Track T)) (over feed : Feed T) (next : Box (Source T) Global) → after ≡ before ++ Onward over next ∷ [] → IsRing feed next.value → IsLinked feed after
  linked_onward before after over feed next e ring s at =
      let same : next.value ≡ s = some_same _ _ (sym (last_ring-snoc before (Onward over next)) ∙ (sym (ap last_ring e) ∙ at)) in
      subst (λ (d : Source T). IsRing feed d) same ring

  -- what was posted is the same as the line goes on
  pub posted_onward : (before after : List (Track T)) (over feed : Feed T) (next : Box (Source T) Global) → after ≡ before ++ Onward over next ∷ [] → fed feed ≡ [] → settled after ++ fed feed ≡ settled before ++ fed over
  posted_onward before after over feed next e empty = rw (e, settled-snoc before (Onward over next), empty) (append-nil _)

  -- a line that was handed on goes on
  pub onward_goes_on : (before after : List (Track T)) (over : Feed T) (next : Box (Source T) Global) → after ≡ before ++ Onward over next ∷ [] → goes_on after ≡ true
  onward_goes_on before after over next e = ap goes_on e ∙ ap is_some (last_ring-snoc before (Onward over next))

  -- a line that was ended is over
  pub end_over : (before after : List (Track T)) (feed : Feed T) → after ≡ before ++ End feed ∷ [] → goes_on after ≡ false
  end_over before after feed e = ap goes_on e ∙ ap is_some (last_ring-snoc before (End feed))

  -- what was posted is the same as the line ends
  pub posted_end : (before after : List (Track T)) (feed : Feed T) (old new : Option (Feed T)) → after ≡ before ++ End feed ∷ [] → old ≡ Some feed → new ≡ None → settled after ++ in_use new ≡ settled before ++ in_use old
  posted_end before after feed old new e was gone = rw (e, settled-snoc before (End feed), was, gone) (append-nil _)

  -- a line that is over has no ring in use
  pub stands_over : (feed : Option (Feed T)) (rail : Producer (Track T) Global Chained) → feed ≡ None → goes_on (sent rail) ≡ false → Stands feed rail
  stands_over feed rail gone over = (over ∙ sym (ap is_some gone), (λ f is. absurd (none_some f (sym gone ∙ is)), λ is. absurd (none_is (sym (ap is_some gone) ∙ is))))
