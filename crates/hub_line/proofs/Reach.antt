-- How a taker goes on.
use Rattle.std.proofs.Common.{◌≡◌, ◌∙◌, sym, Some, List, [], ◌∷◌, ◌++◌, ◌≤◌, length, refl, ap, subst, arith, append_assoc}
use Rattle.std.proofs.lemmas.List.{append-nil}
use Rattle.std.specs.Prelude.{is_some}
use Rattle.std.specs.declared.alloc.Global.{Global}
use Rattle.std.specs.declared.boxed.Box.{Box}
use Rattle.hub_line.specs.Rings.{fed, given, known, SameSource}
use Rattle.hub_line.specs.declared.ring.Feed.{Feed}
use Rattle.hub_line.specs.declared.ring.Source.{Source}
use Rattle.hub_line.specs.declared.ring.Track.{Track}
use Rattle.hub_line.specs.declared.ring.Track.TheVariants.{Onward, End}
use Rattle.hub_line.specs.declared.ring.Ahead.TheVariants.{Open, Next, Last}
use Rattle.hub_line.specs.Tracks.{goes_on, last_ring, over, settled}
use Rattle.hub_line.specs.Reach.{HasReached, IsAt, IsAllKnown, front, last_over, taken_of}
use Rattle.hub_line.proofs.Tracks.{some_same, last_ring-snoc}

pub no_items : {A : Type 0} (xs : List A) → length xs ≤ 0 → xs ≡ []
no_items [] h = refl
no_items (x ∷ xs) h = absurd (omega arith)

module _ {T : Type 0} where
  last_over-snoc : (xs : List (Track T)) (x : Track T) → last_over (xs ++ x ∷ []) ≡ over x
  last_over-snoc [] x = refl
  last_over-snoc (y ∷ []) x = refl
  last_over-snoc (y ∷ z ∷ zs) x = last_over-snoc (z ∷ zs) x

  front-snoc : (xs : List (Track T)) (x : Track T) → front (xs ++ x ∷ []) ≡ xs
  front-snoc [] x = refl
  front-snoc (y ∷ []) x = refl
  front-snoc (y ∷ z ∷ zs) x = ap (λ ys. y ∷ ys) (front-snoc (z ∷ zs) x)

  pub settled-front : (xs : List (Track T)) → settled xs ≡ settled (front xs) ++ last_over xs
  settled-front [] = refl
  settled-front (x ∷ []) = append-nil (over x)
  settled-front (x ∷ y ∷ ys) = rw (settled-front (y ∷ ys)) (rw (← append_assoc) refl)

  is_at_next : (before after : List (Track T)) (f : Feed T) (next : Box (Source T) Global) → after ≡ before ++ Onward f next ∷ [] → IsAt next.value after
  is_at_next before after f next e =
      let last : last_ring after ≡ Some next.value = ap last_ring e ∙ last_ring-snoc before (Onward f next) in
      (ap is_some last, λ s at. let same : next.value ≡ s = some_same _ _ (sym last ∙ at) in subst (λ (d : Source T). SameSource d next.value) same ((refl, refl, refl, refl), refl))

  -- a ring is over, and the next one is known
  pub onward_reached : (before after : List (Track T)) (f : Feed T) (source : Source T) (next : Box (Source T) Global) → after ≡ before ++ Onward f next ∷ [] → given source ++ known source ≡ fed f → given next.value ≡ [] → HasReached source (Next next) after
  onward_reached before after f source next e all empty =
      (all ∙ sym (ap last_over e ∙ last_over-snoc before (Onward f next)), (is_at_next before after f next e, empty))

  -- the last ring is over
  pub end_reached : (before after : List (Track T)) (f : Feed T) (source : Source T) → after ≡ before ++ End f ∷ [] → given source ++ known source ≡ fed f → HasReached source Last after
  end_reached before after f source e all =
      (all ∙ sym (ap last_over e ∙ last_over-snoc before (End f)), ap goes_on e ∙ ap is_some (last_ring-snoc before (End f)))

  -- nothing was taken as the taker heard more
  pub heard_same : (before after : List (Track T)) (x : Track T) (old new : List T) → after ≡ before ++ x ∷ [] → new ≡ old → settled (front after) ++ new ≡ settled before ++ old
  heard_same before after x old new e same = rw (e, front-snoc before x, same) refl

  -- the ring is over, and all of it was taken
  pub all_of_it : (tracks : List (Track T)) (source : Source T) → IsAllKnown source tracks → known source ≡ [] → settled (front tracks) ++ given source ≡ settled tracks
  all_of_it tracks source all empty =
      let whole : given source ≡ last_over tracks = sym (append-nil (given source)) ∙ (ap (λ (xs : List T). given source ++ xs) (sym empty) ∙ all) in
      ap (λ (xs : List T). settled (front tracks) ++ xs) whole ∙ sym (settled-front tracks)

  -- nothing is taken as the taker goes on in the next ring
  pub hop_same : (tracks : List (Track T)) (source : Source T) (next : Box (Source T) Global) → HasReached source (Next next) tracks → known source ≡ [] → taken_of next.value Open tracks ≡ taken_of source (Next next) tracks
  hop_same tracks source next reached none =
      ap (λ (xs : List T). settled tracks ++ xs) reached.1.1 ∙ (append-nil (settled tracks) ∙ sym (all_of_it tracks source reached.0 none))
