use Rattle.hub_life.proofs.Courses.{sound, forward, failed_install, activation}
use Rattle.hub_life.proofs.life.prove_lifecycle_laws.Goals as goal

pub returns-clause-sound : goal.returns-clause-sound
returns-clause-sound c = sound

pub returns-clause-forward : goal.returns-clause-forward
returns-clause-forward c = forward

pub returns-clause-failed_install : goal.returns-clause-failed_install
returns-clause-failed_install c = failed_install

pub returns-clause-activation : goal.returns-clause-activation
returns-clause-activation c = activation
