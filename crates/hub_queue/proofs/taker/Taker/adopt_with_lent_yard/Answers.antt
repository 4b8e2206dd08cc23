use Rattle.std.proofs.Common.{◌≡◌, ◌+◌, ◌∙◌, ◌++◌, ◌∷◌, [], length, ap, sym, subst, arith, length-append, Err}
use Rattle.std.specs.Option.{option_map}
use Rattle.hub_depot.specs.Putting.{with_all}
use Rattle.hub_queue.specs.Adopting.{newest_epoch}
use Rattle.hub_queue.specs.Mailboxes.{IsNewTakerQueue, stands_at}
use Rattle.hub_queue.proofs.Chains.{taker_moves}
use Rattle.hub_queue.proofs.NextNames.{keeps_by, keeps_none_by}
use Rattle.hub_queue.proofs.taker.Taker.adopt_with_lent_yard.Goals as goal

pub invariant_of-self-in-Ok : goal.invariant_of-self-in-Ok
invariant_of-self-in-Ok g c =
    let behind = c.behind.ensures ∙ ap (λ t. length t.retired) (sym c.self.view_is) in
    let epoch = c.self.inside.epoch in
    taker_moves _ (record { end = c.self.inside.end.0; epoch = epoch; retired = c.self.inside.retired.items; newest = c.self.inside.newest; left = c.self.inside.left }) c.replace-older.result _ _ c.self.invariant
    (λ same. c.if-moves-eq-MAX_MOVES.false (ap (λ n. epoch + n) behind ∙ same))
    (c.replace-older.ensures.value ∙ c.retire_gate.ensures)
    (c.push_back_reserved.ensures.items ∙ ap (λ l. l ++ c.replace-older.result ∷ []) c.reserve.ensures.items)
    (subst (IsNewTakerQueue c.self.inside.end.0 (epoch + length c.self.inside.retired.items + 1) c.self.inside.lines) (sym c.replace-older.ensures.after) (subst (λ n. IsNewTakerQueue c.self.inside.end.0 (epoch + n + 1) c.self.inside.lines c.in-Ok.queue) behind c.in-Ok.ensures.ok))

pub returns-in-Ok-clause-laid : goal.returns-in-Ok-clause-laid
returns-in-Ok-clause-laid g c =
    let older = c.replace-older.result in
    let queue = c.replace-older.ensures.after in
    let behind = c.behind.ensures ∙ ap (λ t. length t.retired) (sym c.self.view_is) in
    let items = c.push_back_reserved.ensures.items ∙ ap (λ l. l ++ older ∷ []) c.reserve.ensures.items in
    let longer = ap length items ∙ length-append c.self.inside.retired.items (older ∷ []) in
    let epoch : c.self.inside.epoch + c.behind.result + 1 ≡ c.self.inside.epoch + length c.push_back_reserved.new.self.items = omega arith in
    let lines : c.self.inside.lines ≡ c.replace-older.new.dest.at.lines = sym (ap (λ v. v.lines) c.in-Ok.ensures.ok.at) ∙ ap (λ p. p.at.lines) (sym queue) in
    c.in-Ok.ensures.laid ∙ (λ i. option_map (λ kept. with_all (λ s. s.name) kept (stands_at (sym queue i).keeper.gate (sym queue i).queue c.self.inside.end (epoch i) (lines i))) (g.L.Lends.shown c.args.yard.now))

pub returns-in-Ok-clause-free : goal.returns-in-Ok-clause-free
returns-in-Ok-clause-free g c =
    let behind = c.behind.ensures ∙ ap (λ t. length t.retired) (sym c.self.view_is) in
    let end = ap (λ t. record { 0 = t.end }) c.self.view_is in
    let epoch : c.self.inside.epoch + c.behind.result + 1 ≡ newest_epoch c.args.self + 1 = ap (λ n. c.self.inside.epoch + n + 1) behind ∙ ap (λ t. newest_epoch t + 1) c.self.view_is in
    let lines = sym c.self.invariant.lines_are ∙ ap (λ t. t.newest.at.lines) c.self.view_is in
    keeps_none_by (g.L.Lends.shown c.args.yard.now) _ _ _ _ _ _ end epoch lines c.in-Ok.ensures.free

pub returns-clause-taken : goal.returns-clause-taken
returns-clause-taken g c = λ taken.
    let behind = c.behind.ensures ∙ ap (λ t. length t.retired) (sym c.self.view_is) in
    let end = ap (λ t. record { 0 = t.end }) c.self.view_is in
    let epoch : c.self.inside.epoch + c.behind.result + 1 ≡ newest_epoch c.args.self + 1 = ap (λ n. c.self.inside.epoch + n + 1) behind ∙ ap (λ t. newest_epoch t + 1) c.self.view_is in
    let lines = sym c.self.invariant.lines_are ∙ ap (λ t. t.newest.at.lines) c.self.view_is in
    keeps_by (g.L.Lends.shown c.args.yard.now) _ _ _ _ _ _ end epoch lines (c.in-Err.ensures.taken (ap Err taken))
