use Rattle.std.proofs.Common.{Ok, ap, inl}
use Rattle.statement_exec.proofs.fired.fired_among.Goals as goal

pub returns-in-Ok : goal.returns-in-Ok
returns-in-Ok c = inl (ap Ok (rw (c.table_written.ensures, c.event_of.ensures) at c.in-Ok.ensures))
