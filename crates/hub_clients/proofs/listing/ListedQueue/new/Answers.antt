use Rattle.std.proofs.Common.{◌≡◌, ◌∙◌, map, Some, sym, subst, rules}
use Rattle.std.proofs.lemmas.List.{length-map}
use Rattle.hub_clients.specs.Listings.{IsInPlace}
use Rattle.hub_clients.proofs.InPlace.{all_home}
use Rattle.hub_clients.proofs.listing.ListedQueue.new.Goals as goal

pub invariant_of-result : goal.invariant_of-result
invariant_of-result c =
    let is : c.in_ok-lines.lines.items ≡ map (λ p. Some p) c.args.posters.items = search rules in
    subst (λ lines. IsInPlace (record { end = c.args.end; lines = lines })) (sym is) (record {
      count = length-map c.args.posters.items (λ p. Some p) ∙ c.requires.count;
      each = all_home c.args.end c.args.posters.items c.requires.posters;
    })
