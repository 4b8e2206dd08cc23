use Rattle.std.proofs.Common.{List, length, map, drop, sym, ap, subst}
use Rattle.std.proofs.lemmas.List.{take_rest}
use Rattle.hub_trace.specs.declared.log_entry.Delivery.{Delivery}
use Rattle.hub_trace.specs.declared.received.Incoming.{Incoming}
use Rattle.hub_trace.specs.Got.{Receipt}
use Rattle.hub_trace.specs.Clean.{IsCleanLine}
use Rattle.hub_trace.specs.Fault.{IsFirstFault}
use Rattle.hub_trace.specs.Views.{RisesByLine, delivery_of, receipt_of}
use Rattle.hub_trace.proofs.Lines.{RisesByLine-drop}
use Rattle.hub_trace.proofs.Faults.{IsLeft, step_left, whole_line, gone_is_clean, earlier_line_gone, empty_gone}
use Rattle.hub_trace.proofs.checker.first_fault.Goals as goal

pub returns-in-Some-first_fault_of_sender_line : goal.returns-in-Some-first_fault_of_sender_line
returns-in-Some-first_fault_of_sender_line c =
    let accepted = c.args.accepted.now in
    let arrivals = c.args.arrivals.now in
    let rest = c.loop-first.rest.now in
    let first = c.in-Some.first.now in
    let end = first.posted.end.0 in
    let line = first.posted.line.0 in
    let left = c.loop-first.invariant.left in
    let front = c.leading_arrivals_of_sender_line-got.ensures in (
      subst (λ (p : List Delivery × List Receipt). IsFirstFault p.0 p.1 c.in-Some-first_fault_of_sender_line.place c.in-Some-first_fault_of_sender_line.kind)
          (λ i. (ap (map delivery_of) c.accepted_envelopes_of_sender_line-put.ensures i, whole_line accepted arrivals rest c.leading_arrivals_of_sender_line-got.result.now end line front.line front.some (left end line) i))
          c.in-Some-first_fault_of_sender_line.ensures,
      (λ x y before. gone_is_clean accepted arrivals rest x y (earlier_line_gone rest x y first c.in-Some.ensures.item.3.0 c.in-Some.ensures.item.1 c.loop-first.invariant.order before) (left x y)),
    )

pub loop-first-preserved : goal.loop-first-preserved
loop-first-preserved c =
    let accepted = c.args.accepted.now in
    let arrivals = c.args.arrivals.now in
    let rest = c.loop-first.rest.now in
    let first = c.in-Some.first.now in
    let end = first.posted.end.0 in
    let line = first.posted.line.0 in
    let front = c.leading_arrivals_of_sender_line-got.ensures in
    let n = length c.leading_arrivals_of_sender_line-got.result.now in
    let same = sym (take_rest rest n) in
    let clean = subst (λ (p : List Delivery). IsCleanLine p (map receipt_of c.leading_arrivals_of_sender_line-got.result.now)) (ap (map delivery_of) c.accepted_envelopes_of_sender_line-put.ensures) c.in_default-first_fault_of_sender_line.ensures in
    record {
      order = subst (RisesByLine (λ (a : Incoming). a.posted)) same (RisesByLine-drop (λ (a : Incoming). a.posted) rest n front.within c.loop-first.invariant.order);
      left = λ x y. subst (λ (l : List Incoming). IsLeft accepted arrivals l x y) same (step_left accepted arrivals rest c.leading_arrivals_of_sender_line-got.result.now (drop n rest) end line front.front front.line clean c.loop-first.invariant.left x y);
    }

pub returns : goal.returns
returns c = λ x y. gone_is_clean c.args.accepted.now c.args.arrivals.now c.loop-first.rest.now x y (empty_gone c.loop-first.rest.now x y c.in_default.ensures.item.3) (c.loop-first.invariant.left x y)
