use Rattle.std.proofs.Common.{◌≡◌, ◌<◌, ◌∙◌, get_or, set, sym, ap, subst, None, IfSome}
use Rattle.std.specs.Prelude.{position, is_some}
use Rattle.hub_envelope.specs.declared.limits.TheConstants.{MAX_LINES}
use Rattle.hub_clients.specs.Lines.{IsTakenOut}
use Rattle.hub_clients.specs.Listings.{ListedSeat, IsInPlace}
use Rattle.hub_clients.proofs.InPlace.{taken_out, first_taken, own_taken}
use Rattle.hub_clients.proofs.listing.ListedQueue.take_first_free_poster.Goals as goal

pub invariant_of-self : goal.invariant_of-self
invariant_of-self c =
    subst (λ now. IsInPlace (record { end = c.self.inside.end; lines = set c.self.inside.lines.items c.in_ok-line.line now })) (sym c.take.ensures.after) (taken_out (record { end = c.self.inside.end; lines = c.self.inside.lines.items }) c.in_ok-line.line c.self.invariant)

pub returns-clause-taken : goal.returns-clause-taken
returns-clause-taken c =
    let lines = c.self.inside.lines.items in
    let line = c.in_ok-line.line in
    let q : ListedSeat = record { end = c.self.inside.end; lines = lines } in
    let is : c.take.result ≡ get_or lines line c.take.result = c.take.ensures.value ∙ c.index_mut.ensures.value ∙ (λ i. get_or lines line (sym c.take.ensures.value i)) in
    let first = ap (position is_some) (sym c.deref.ensures.value) ∙ sym c.in_ok-line.ensures in
    let taken = first_taken q line c.take.result c.self.invariant first is in
    let with_old = subst (λ (old : ListedSeat). IsTakenOut old (record { end = c.self.inside.end; lines = set lines line None }) c.take.result) c.self.view_is taken in
    subst (λ now. IsTakenOut c.args.self.now (record { end = c.self.inside.end; lines = set lines line now }) c.take.result) (sym c.take.ensures.after) with_old

pub returns-clause-own : goal.returns-clause-own
returns-clause-own c =
    let lines = c.self.inside.lines.items in
    let line = c.in_ok-line.line in
    let q : ListedSeat = record { end = c.self.inside.end; lines = lines } in
    let is : c.take.result ≡ get_or lines line c.take.result = c.take.ensures.value ∙ c.index_mut.ensures.value ∙ (λ i. get_or lines line (sym c.take.ensures.value i)) in
    let first = ap (position is_some) (sym c.deref.ensures.value) ∙ sym c.in_ok-line.ensures in
    subst (λ (old : ListedSeat). IfSome c.take.result (λ p. (p.name.end ≡ old.end) × (p.name.line.0 < MAX_LINES))) c.self.view_is (own_taken q line c.take.result c.self.invariant first is)
