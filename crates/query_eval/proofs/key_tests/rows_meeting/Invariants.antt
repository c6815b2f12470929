use Rattle.std.proofs.Common.{◌≡◌, ◌++◌, drop}
use Rattle.std.specs.List.{filter, list_all}
use Rattle.query_eval.specs.KeyTests.{meets}
use Rattle.query_eval.proofs.key_tests.rows_meeting.Given as goal

abbrev pub invariant-loop-row : goal.invariant-loop-row
invariant-loop-row l =
    let kept = filter (λ row. list_all (meets row) l.tests) in
    l.found.items ++ kept (drop l.row-index l.rows) ≡ kept l.rows
