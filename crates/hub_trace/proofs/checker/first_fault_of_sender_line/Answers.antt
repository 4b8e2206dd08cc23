use Rattle.std.proofs.Common.{◌≡◌, ◌∙◌, ◌||◌, List, ap, arith, length, length-take, map, subst, sym, take, ℕ}
use Rattle.std.proofs.lemmas.List.{take-map}
use Rattle.hub_trace.specs.Content.{is_notice}
use Rattle.hub_trace.specs.Fault.{IsRight, has_notice, kind_at}
use Rattle.hub_trace.specs.Got.{Receipt}
use Rattle.hub_trace.specs.Views.{delivery_of, receipt_of}
use Rattle.hub_trace.proofs.Faults.{clean_from_right, receipt_at, right_more, all_right, noticed_more}
use Rattle.hub_trace.proofs.checker.first_fault_of_sender_line.Goals as goal

pub fault_kind_of_arrival-kind-requires : goal.fault_kind_of_arrival-kind-requires
fault_kind_of_arrival-kind-requires c = c.loop-place.invariant.noticed ∙ ap has_notice (take-map receipt_of c.loop-place.place c.args.got.now)

pub returns-then-not-is_arrival_right : goal.returns-then-not-is_arrival_right
returns-then-not-is_arrival_right c =
    let got = c.args.got.now in
    let put = map delivery_of c.args.accepted.now in
    let place = c.loop-place.place in
    let at = receipt_of c.index-got-place.result in
    let below = c.loop-place-test.true in
    let noticed = c.loop-place.invariant.noticed in
    let here : length (take place got) ≡ place = omega (arith, length-take place got) in
    record {
      receipt = at;
      at = receipt_at got place c.index-got-place.result below c.index-got-place.is;
      wrong = λ h. let yes = c.is_arrival_right.ensures.1 (h.0, noticed ∙ h.1, h.2) in let no = c.if-not-is_arrival_right.true in cc;
      first = c.loop-place.invariant.right;
      kind_is = c.fault_kind_of_arrival-kind.ensures ∙ ap (λ (l : List Receipt). kind_at put l (length (take place got)) at) (sym (take-map receipt_of place got)) ∙ ap (λ (n : ℕ). kind_at put (take place (map receipt_of got)) n at) here;
    }

pub loop-place-preserved : goal.loop-place-preserved
loop-place-preserved c =
    let got = c.args.got.now in
    let put = map delivery_of c.args.accepted.now in
    let place = c.loop-place.place in
    let a = c.index-got-place.result in
    let below = c.loop-place-test.true in
    let is = c.index-got-place.is in
    let right = subst (λ b. IsRight put b place (receipt_of a)) c.loop-place.invariant.noticed (c.is_arrival_right.ensures.0 c.if-not-is_arrival_right.false) in
    record {
      right = right_more put got place a below is c.loop-place.invariant.right right;
      noticed = c.is_notice-noticed.ensures ∙ sym (noticed_more got place a below is ∙ ap (λ b. b || is_notice a.content.now) right.1);
    }

pub returns : goal.returns
returns c = clean_from_right _ _ (all_right _ c.args.got.now c.loop-place.place c.loop-place-test.false c.loop-place.invariant.right)
