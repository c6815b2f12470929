use Rattle.std.proofs.Common.{◌≡◌, true}
use Rattle.batch_meaning.specs.Progress.{Ready}
use Rattle.statement_exec.proofs.ObjectsReading.{Reading}
use Rattle.statement_exec.proofs.objects.read_all.Given as goal

-- what is left of `objects` leads to the whole
abbrev pub invariant-loop-left : goal.invariant-loop-left
invariant-loop-left g l = record {
  ready : Ready l.session (g.P.Port.past l.port);
  begun : l.session.is_open ≡ true;
  reading : Reading (g.P.Port.past l.initial.port) (g.P.Port.past l.port) l.initial.session l.left l.fetch l.definitions.items l.session;
}

abbrev pub decreases-loop-left : goal.decreases-loop-left
decreases-loop-left g l = l.left
