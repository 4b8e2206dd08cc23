use Rattle.std.proofs.Common.{◌≡◌, ◌≢◌, ◌++◌, ◌∷◌, [], List, length, drop, sym, ◌∙◌, subst}
use Rattle.std.specs.List.{All, AllPairs}
use Rattle.std.proofs.lemmas.List.{take_rest}
use Rattle.hub_trace.specs.declared.delivered.SenderLineDeliveries.{SenderLineDeliveries}
use Rattle.hub_trace.specs.declared.received.Incoming.{Incoming}
use Rattle.hub_trace.specs.Deliveries.{IsEarlierLine, names_of, names_under}
use Rattle.hub_trace.specs.Views.{RisesByLine, got_among}
use Rattle.hub_trace.proofs.Lines.{RisesByLine-drop}
use Rattle.hub_trace.proofs.Listing.{IsLater, names_of-arrivals, later_more, rest_is_later, rising_more, some_more, told_more}
use Rattle.hub_trace.proofs.delivered.group_arrivals_by_sender_line.Goals as goal

pub loop-first-preserved : goal.loop-first-preserved
loop-first-preserved c =
    let was = c.loop-first.invariant in
    let lines = c.loop-first.lines.items in
    let rest = c.loop-first.rest.now in
    let first = c.in-Some.first.now in
    let some = c.in-Some.ensures.item.3.0 in
    let is = c.in-Some.ensures.item.1 in
    let got = c.leading_arrivals_of_sender_line-got.result.now in
    let front = c.leading_arrivals_of_sender_line-got.ensures in
    let n = length got in
    let after = drop n rest in
    let same = sym (take_rest rest n) in
    let names = c.in_ok-names.ensures in
    let d : SenderLineDeliveries = record { end = first.posted.end; line = first.posted.line; names = c.in_ok-names.names } in
    let pushed : c.push.new.self.items ≡ lines ++ d ∷ [] = c.in_ok-push.ensures.items in
    record {
      order = subst (RisesByLine (λ (a : Incoming). a.posted)) same (RisesByLine-drop (λ (a : Incoming). a.posted) rest n front.within was.order);
      rising = subst (AllPairs IsEarlierLine) (sym pushed) (rising_more lines rest d first (λ e h. h) was.rising was.later some is);
      none_empty = subst (All (λ (e : SenderLineDeliveries). e.names.items ≢ [])) (sym pushed) (some_more lines d got names front.some was.none_empty);
      later = subst (λ (p : List SenderLineDeliveries × List Incoming). All (λ e. All (IsLater e) p.1) p.0) (λ i. (sym pushed i, same i))
          (later_more lines rest after n d (λ i. after) was.later (rest_is_later rest got after n first front.front (λ i. after) front.line some is was.order));
      told = λ x y. subst (λ (p : List SenderLineDeliveries × List Incoming). names_under x y p.0 ++ names_of (got_among p.1 x y) ≡ names_of (got_among c.args.arrivals.now x y)) (λ i. (sym pushed i, same i))
          (told_more lines rest got after d front.front front.line (names ∙ sym (names_of-arrivals got)) x y ∙ was.told x y);
    }
