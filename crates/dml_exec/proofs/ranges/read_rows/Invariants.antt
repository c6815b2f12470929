use Rattle.std.proofs.Common.{◌≡◌, []}
use Rattle.step_model.specs.Dialog.{Leads}
use Rattle.step_model.specs.Ranges.{range_limit}
use Rattle.dml_exec.specs.Asking.{MayWork}
use Rattle.std.specs.Option.{option_map}
use Rattle.dml_exec.specs.Reading.{IsFetch, fits, key_width, rows_from}
use Rattle.dml_exec.proofs.ranges.read_rows.Given as goal

-- what is left of the range leads to the whole
abbrev pub invariant-loop-left : goal.invariant-loop-left
invariant-loop-left g l = record {
  may : MayWork (g.P.Port.past l.port) l.manner;
  fetch : IsFetch l.fetch;
  standing : (g.P.Port.past l.port).standing ≡ (g.P.Port.past l.initial.port).standing;
  leads : Leads (g.P.Port.past l.initial.port) (g.P.Port.past l.port) l.manner
      (rows_from (key_width (option_map (λ of. of.now) l.fn.shape) l.fn.part) (fits (option_map (λ of. of.now) l.fn.shape) l.fn.part) range_limit l.fn.fetch [])
      (rows_from (key_width (option_map (λ of. of.now) l.fn.shape) l.fn.part) (fits (option_map (λ of. of.now) l.fn.shape) l.fn.part) l.left l.fetch l.rows.items);
}

abbrev pub decreases-loop-left : goal.decreases-loop-left
decreases-loop-left g l = l.left
