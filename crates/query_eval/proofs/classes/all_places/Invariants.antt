use Rattle.std.proofs.Common.{◌≡◌, take}
use Rattle.query_eval.specs.Places.{rows_at_places}
use Rattle.query_eval.proofs.classes.all_places.Given as goal

abbrev pub invariant-loop-place : goal.invariant-loop-place
invariant-loop-place l = rows_at_places l.rows l.places.items ≡ take l.place l.rows
