-- What waits in a line of which both ends are at hand.
use Rattle.std.proofs.Common.{◌≡◌, ◌∙◌, sym, ◌<◌, ◌≤◌, Option, List, [], ◌∷◌, ◌++◌, refl, ap, arith, append_assoc}
use Rattle.std.specs.declared.alloc.Global.{Global}
use Rattle.std.specs.declared.boxed.Box.{Box}
use Rattle.rtrb.specs.Ring.{sent, known_free}
use Rattle.rtrb.specs.declared.producer.Producer.{Producer}
use Rattle.hub_line.specs.Rings.{given, known}
use Rattle.hub_line.specs.declared.ring.Feed.{Feed}
use Rattle.hub_line.specs.declared.ring.Source.{Source}
use Rattle.hub_line.specs.declared.ring.Ahead.{Ahead}
use Rattle.hub_line.specs.declared.ring.Ahead.TheVariants.{Open, Next, Last}
use Rattle.hub_line.specs.declared.ring.Chained.{Chained}
use Rattle.hub_line.specs.declared.ring.Track.{Track}
use Rattle.hub_line.specs.Tracks.{goes_on, last_ring, over, settled, in_use, posted_of, Stands}
use Rattle.hub_line.specs.Reach.{HasReached, IsAllKnown, front, taken_of}
use Rattle.hub_line.proofs.Reach.{settled-front}

module _ {T : Type 0} where
  -- a look at the rail changes nothing
  pub stands_looked : (feed : Option (Feed T)) (old new : Producer (Track T) Global Chained) → Stands feed old → sent new ≡ sent old → known_free old ≤ known_free new → Stands feed new
  stands_looked feed old new stands same more =
      (ap goes_on same ∙ stands.0, (λ f is s at. stands.1.0 f is s (sym (ap last_ring same) ∙ at), λ is. let some : 0 < known_free old = stands.1.1 is in omega (arith, some, more)))

  settled-append : (xs ys : List (Track T)) → settled (xs ++ ys) ≡ settled xs ++ settled ys
  settled-append [] ys = refl
  settled-append (x ∷ xs) ys = ap (λ zs. over x ++ zs) (settled-append xs ys) ∙ sym (append_assoc (over x) (settled xs) (settled ys))

  -- what is known of a ring that is over, and all that comes after it
  left_over : (source : Source T) (tracks rest all : List (Track T)) (used : List T) → IsAllKnown source tracks → tracks ++ rest ≡ all → (settled (front tracks) ++ given source) ++ (known source ++ (settled rest ++ used)) ≡ settled all ++ used
  left_over source tracks rest all used reached e =
      let here : (settled (front tracks) ++ given source) ++ known source ≡ settled tracks =
      append_assoc (settled (front tracks)) (given source) (known source) ∙ (ap (λ (xs : List T). settled (front tracks) ++ xs) reached ∙ sym (settled-front tracks)) in
      sym (append_assoc (settled (front tracks) ++ given source) (known source) (settled rest ++ used))
      ∙ (ap (λ (xs : List T). xs ++ (settled rest ++ used)) here
      ∙ (sym (append_assoc (settled tracks) (settled rest) used)
      ∙ ap (λ (xs : List T). xs ++ used) (sym (settled-append tracks rest) ∙ ap settled e)))

  -- what waits where the taker's ring is over
  pub waits_over : (ahead : Ahead T) (source : Source T) (tracks rest : List (Track T)) (feed : Option (Feed T)) (rail : Producer (Track T) Global Chained) → (ahead ≡ Open → ⊥) → HasReached source ahead tracks → tracks ++ rest ≡ sent rail → taken_of source ahead tracks ++ (known source ++ (settled rest ++ in_use feed)) ≡ posted_of feed rail
  waits_over Open source tracks rest feed rail not_open reached e = absurd (not_open refl)
  waits_over (Next next) source tracks rest feed rail not_open reached e = left_over source tracks rest (sent rail) (in_use feed) reached.0 e
  waits_over Last source tracks rest feed rail not_open reached e = left_over source tracks rest (sent rail) (in_use feed) reached.0 e

  pub next_not_open : (ahead : Ahead T) (next : Box (Source T) Global) → ahead ≡ Next next → ahead ≡ Open → ⊥
  next_not_open ahead next is was = cc

  pub last_not_open : (ahead : Ahead T) → ahead ≡ Last → ahead ≡ Open → ⊥
  last_not_open ahead is was = cc
