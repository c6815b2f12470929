use Rattle.std.proofs.Common.{◌≡◌, drop}
use Rattle.query_eval.specs.Found.{setting_at}
use Rattle.query_eval.specs.Phases.{class_row, each}
use Rattle.query_eval.specs.Places.{rows_at_places}
use Rattle.query_eval.proofs.Each.{each_onto}
use Rattle.query_eval.proofs.classes.rows_of_classes.Given as goal

abbrev pub invariant-loop-class : goal.invariant-loop-class
invariant-loop-class l =
    each_onto (λ class. class_row (setting_at l.context) l.width l.sums (rows_at_places l.rows class.items)) l.made.items (drop l.class-index l.found) ≡ each (λ class. class_row (setting_at l.context) l.width l.sums (rows_at_places l.rows class.items)) l.found
