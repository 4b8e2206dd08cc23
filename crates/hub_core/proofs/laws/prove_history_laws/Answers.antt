-- The laws over every legal history.
use Rattle.hub_core.proofs.Sames.{nothing_same}
use Rattle.hub_core.proofs.Sounds.{sound_legal}
use Rattle.hub_core.proofs.Headlines.{headline, keeps_the_line, turned_puts_nothing, same_is_joined, fates, notice_is_last, one_answer}
use Rattle.hub_core.proofs.laws.prove_history_laws.Goals as goal

pub returns-clause-headline : goal.returns-clause-headline
returns-clause-headline c = headline

pub returns-clause-sound : goal.returns-clause-sound
returns-clause-sound c = sound_legal

pub returns-clause-keeps_the_line : goal.returns-clause-keeps_the_line
returns-clause-keeps_the_line c = keeps_the_line

pub returns-clause-turned : goal.returns-clause-turned
returns-clause-turned c = turned_puts_nothing

pub returns-clause-unchanged : goal.returns-clause-unchanged
returns-clause-unchanged c = nothing_same

pub returns-clause-same : goal.returns-clause-same
returns-clause-same c = same_is_joined

pub returns-clause-one_answer : goal.returns-clause-one_answer
returns-clause-one_answer c = one_answer

pub returns-clause-fates : goal.returns-clause-fates
returns-clause-fates c = fates

pub returns-clause-notice_is_last : goal.returns-clause-notice_is_last
returns-clause-notice_is_last c = notice_is_last
