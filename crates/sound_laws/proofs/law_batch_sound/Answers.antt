use Rattle.sound_laws.proofs.Meanings.{batch_sound, call_sound, rollback_sound}
use Rattle.sound_laws.proofs.Serving.{task_agrees}
use Rattle.sound_laws.proofs.law_batch_sound.Goals as goal

pub returns-clause-batch : goal.returns-clause-batch
returns-clause-batch c = batch_sound

pub returns-clause-rollback : goal.returns-clause-rollback
returns-clause-rollback c = rollback_sound

pub returns-clause-open : goal.returns-clause-open
returns-clause-open c = task_agrees

pub returns-clause-call : goal.returns-clause-call
returns-clause-call c = call_sound
