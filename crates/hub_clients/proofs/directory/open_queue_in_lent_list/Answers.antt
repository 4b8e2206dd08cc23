use Rattle.std.proofs.Common.{rules, subst}
use Rattle.hub_locked.specs.Lending.{IsDoneIn}
use Rattle.hub_clients.specs.Listings.{ListedSeat, IsListed}
use Rattle.hub_locked.proofs.Doing.{done_more}
use Rattle.hub_clients.proofs.InPlace.{opened_posters, listed_is}
use Rattle.hub_clients.proofs.directory.open_queue_in_lent_list.Goals as goal

pub new-requires-clause-posters : goal.new-requires-clause-posters
new-requires-clause-posters g c = (opened_posters c.in-Some.end 32 c.in_ok-taker.taker c.in_ok-taker.posters.items c.in_ok-taker.ensures).1

pub returns-clause-listed : goal.returns-clause-listed
returns-clause-listed g c =
    let is = listed_is c.in-Some.end c.in_ok-taker.taker c.in_ok-taker.posters.items c.in_ok-listed.listed c.in_ok-taker.ensures c.in_ok-listed.ensures in
    subst (λ (l : ListedSeat). IsDoneIn (g.L.Lends.shown c.args.lender.now) (g.L.Lends.shown c.lend.new.self) (λ was now. IsListed was now l)) is
    (done_more _ (λ was now. IsListed was now c.in_ok-listed.listed) (λ was now d. search rules) _ _ c.in_ok-lend.ensures.shown)
