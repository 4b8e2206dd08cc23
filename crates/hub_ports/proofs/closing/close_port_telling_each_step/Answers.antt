use Rattle.std.proofs.Common.{◌≡◌, [], ◌∷◌, ◌++◌, option_map, subst}
use Rattle.hub_queue.specs.Standing.{StandSeat}
use Rattle.hub_queue.specs.Taking.{TakerSeat}
use Rattle.hub_ports.specs.declared.closing.ClosingStep.TheVariants.{Notice, Close}
use Rattle.hub_ports.specs.Closing.{IsNoticed}
use Rattle.hub_ports.proofs.Tellings.{told_both}
use Rattle.hub_ports.proofs.closing.close_port_telling_each_step.Goals as goal

pub returns-clause-notice : goal.returns-clause-notice
returns-clause-notice g c = subst (λ (s : StandSeat). IsNoticed s c.post_notice_and_report_step-noticed.new.poster c.post_notice_and_report_step-noticed.result) c.into_taker_and_poster-taker.ensures.poster c.post_notice_and_report_step-noticed.ensures.notice

pub returns-clause-order : goal.returns-clause-order
returns-clause-order g c =
    let in_order : TakerSeat → Type 0 = λ t. g.H.Hears.told c.close_taker_and_report_step-grave.new.heard ≡ option_map (λ list. list ++ Notice c.post_notice_and_report_step-noticed.result ∷ Close (record { 0 = t.end }) ∷ []) (g.H.Hears.told c.args.heard.now) in
    subst in_order c.into_taker_and_poster-taker.ensures.taker (told_both _ _ _ _ _ c.post_notice_and_report_step-noticed.ensures.told c.close_taker_and_report_step-grave.ensures.told)
