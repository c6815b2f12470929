use Rattle.std.proofs.Common.{◌≡◌, [], drop}
use Rattle.step_model.specs.Dialog.{Leads}
use Rattle.dml_exec.specs.Asking.{MayWork}
use Rattle.dml_exec.specs.Writing.{asks_keys}
use Rattle.dml_exec.proofs.index_keys.ask_keys.Given as goal

-- the changes that are left lead to the whole
abbrev pub invariant-loop-change : goal.invariant-loop-change
invariant-loop-change g l = record {
  may : MayWork (g.P.Port.past l.port) l.manner;
  standing : (g.P.Port.past l.port).standing ≡ (g.P.Port.past l.initial.port).standing;
  leads : Leads (g.P.Port.past l.initial.port) (g.P.Port.past l.port) l.manner (asks_keys l.changes []) (asks_keys (drop l.change-index l.changes) l.found.items);
}
