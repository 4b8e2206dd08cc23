use Rattle.std.proofs.Common.{rules, ◌≡◌, [], ◌∷◌, ◌++◌, List, ap, ◌∙◌}
use Rattle.rtrb.specs.Ring.{sent}
use Rattle.hub_line.specs.Rings.{fed, IsRing}
use Rattle.hub_line.specs.Tracks.{settled}
use Rattle.hub_line.specs.declared.ring.Track.TheVariants.{Onward}
use Rattle.hub_line.proofs.Tracks.{linked_onward, onward_goes_on, posted_onward}
use Rattle.hub_line.proofs.poster.continue_in_new_ring.Goals as goal

pub returns-clause-linked : goal.returns-clause-linked
returns-clause-linked g c =
    let after : sent c.push_reserved.new.self ≡ sent c.args.rail.now ++ Onward c.replace-over.result c.in-Ok-new.next ∷ [] = search rules in
    let ring : IsRing c.replace-over.new.dest c.in-Ok-new.next.value = search rules in
    linked_onward (sent c.args.rail.now) (sent c.push_reserved.new.self) c.replace-over.result c.replace-over.new.dest c.in-Ok-new.next after ring

pub returns-clause-same : goal.returns-clause-same
returns-clause-same g c =
    let after : sent c.push_reserved.new.self ≡ sent c.args.rail.now ++ Onward c.replace-over.result c.in-Ok-new.next ∷ [] = search rules in
    let empty : fed c.replace-over.new.dest ≡ [] = search rules in
    let kept : fed c.replace-over.result ≡ fed c.args.feed.now = search rules in
    posted_onward (sent c.args.rail.now) (sent c.push_reserved.new.self) c.replace-over.result c.replace-over.new.dest c.in-Ok-new.next after empty ∙ ap (λ (xs : List _). settled (sent c.args.rail.now) ++ xs) kept

pub returns-clause-open : goal.returns-clause-open
returns-clause-open g c =
    let after : sent c.push_reserved.new.self ≡ sent c.args.rail.now ++ Onward c.replace-over.result c.in-Ok-new.next ∷ [] = search rules in
    onward_goes_on (sent c.args.rail.now) (sent c.push_reserved.new.self) c.replace-over.result c.in-Ok-new.next after
