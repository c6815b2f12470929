-- Own: an answer is the plan that is meant; want of memory says nothing.
use Rattle.std.specs.Prelude.{◌≡◌, Result, Ok, Err}
use Rattle.std.specs.declared.vec.Vec.{Vec}
use Rattle.std.specs.declared.alloc.Global.{Global}
use Rattle.scalar_eval.specs.declared.fault.EvalFault.{EvalFault}
use Rattle.scalar_eval.specs.declared.fault.EvalFault.TheVariants.{Number, Named, Memory}
use Rattle.step_model.specs.declared.change.Planned.{Planned}
use Rattle.dml_exec.specs.Planning.{Plan}

abbrev pub Plans : Result (Vec Planned Global) EvalFault → Plan → Type 0
Plans (Ok changes) plan = plan ≡ Ok changes.items
Plans (Err (Number number)) plan = plan ≡ Err (Number number)
Plans (Err (Named number name)) plan = plan ≡ Err (Named number name)
Plans (Err Memory) plan = Unit {0}
