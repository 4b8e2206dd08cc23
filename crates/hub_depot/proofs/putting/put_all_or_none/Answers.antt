use Rattle.std.proofs.Common.{◌∷◌, ◌++◌, [], ap, sym, ◌∙◌, append_assoc}
use Rattle.std.specs.Vec.Iter.{into_iter_items}
use Rattle.hub_depot.proofs.ManyPut.{put_and_push_key, taken_next}
use Rattle.hub_depot.proofs.putting.put_all_or_none.Goals as goal

pub loop-value-preserved : goal.loop-value-preserved
loop-value-preserved g c = (
  tt,
  tt,
  c.loop-value.invariant.2 ∙ ap (λ xs. c.loop-value.yielded ++ xs) c.in-Some.ensures.steps.0
      ∙ sym (append_assoc c.loop-value.yielded (c.in-Some.value ∷ []) (into_iter_items c.next.new.self)),
  put_and_push_key g.V.Named.name (g.L.Lends.shown c.args.lender.now) (g.L.Lends.shown c.loop-value.lender) (g.L.Lends.shown c.put_and_push_key.new.lender) c.loop-value.yielded
      c.loop-value.names.items c.put_and_push_key.new.names.items c.in-Some.value c.loop-value.invariant.3 c.in_default.ensures.names c.in_default.ensures.ok c.in_default.ensures.free,
)

pub returns-in-Err-clause-taken : goal.returns-in-Err-clause-taken
returns-in-Err-clause-taken g c =
    let split = c.loop-value.invariant.2 ∙ ap (λ xs. c.loop-value.yielded ++ xs) c.in-Some.ensures.steps.0 in
    λ v refused. taken_next g.V.Named.name (g.L.Lends.shown c.args.lender.now) (g.L.Lends.shown c.loop-value.lender) c.args.values.items c.loop-value.yielded
    (into_iter_items c.next.new.self) c.loop-value.names.items c.in-Some.value v c.in-Err.refused c.loop-value.invariant.3 split c.in-Err.ensures.given_back
    c.in-Err.ensures.taken refused
