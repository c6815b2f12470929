use Rattle.std.proofs.Common.{◌≡◌, drop}
use Rattle.step_model.specs.Dialog.{Leads}
use Rattle.dml_exec.specs.Asking.{MayWork}
use Rattle.dml_exec.specs.Planning.{as_found}
use Rattle.dml_exec.specs.Writing.{writes_all}
use Rattle.dml_exec.proofs.writing.write_all.Given as goal

-- the changes that are left lead to the whole, with what was found of them
abbrev pub invariant-loop-change : goal.invariant-loop-change
invariant-loop-change g l = record {
  may : MayWork (g.P.Port.past l.port) l.manner;
  standing : (g.P.Port.past l.port).standing ≡ (g.P.Port.past l.initial.port).standing;
  leads : Leads (g.P.Port.past l.initial.port) (g.P.Port.past l.port) l.manner (writes_all l.shapes (as_found l.changes l.found)) (writes_all l.shapes (as_found (drop l.change-index l.changes) l.rest));
}
