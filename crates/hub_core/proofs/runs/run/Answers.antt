-- What the core shows at last is legal, and in order.
use Rattle.std.proofs.lemmas.Result.{IfOk-weaker}
use Rattle.hub_core.proofs.Headlines.{headline, fates, shows_in_order}
use Rattle.hub_core.proofs.runs.run.Goals as goal

pub returns : goal.returns
returns c =
    let shows = c.step_all.ensures.shows in
    record {
      each = c.step_all.ensures.each;
      legal = IfOk-weaker c.step_all.result _ _ (λ outcomes s. s.2) shows;
      headline = IfOk-weaker c.step_all.result _ _ (λ outcomes s. headline _ s.2) shows;
      fates = IfOk-weaker c.step_all.result _ _ (λ outcomes s. fates _ s.2) shows;
      in_order = IfOk-weaker c.step_all.result _ _ (λ outcomes s. shows_in_order _ _ s) shows;
    }
