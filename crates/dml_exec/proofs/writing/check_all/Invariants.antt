use Rattle.std.proofs.Common.{◌≡◌, drop}
use Rattle.step_model.specs.Dialog.{Leads}
use Rattle.dml_exec.specs.Asking.{MayWork}
use Rattle.dml_exec.specs.Writing.{checks_all}
use Rattle.dml_exec.proofs.writing.check_all.Given as goal

-- the checks that are left lead to the whole
abbrev pub invariant-loop-read : goal.invariant-loop-read
invariant-loop-read g l = record {
  may : MayWork (g.P.Port.past l.port) l.manner;
  standing : (g.P.Port.past l.port).standing ≡ (g.P.Port.past l.initial.port).standing;
  leads : Leads (g.P.Port.past l.initial.port) (g.P.Port.past l.port) l.manner (checks_all l.shapes l.reads) (checks_all l.shapes (drop l.read-index l.reads));
}
