use Rattle.std.proofs.Common.{◌≡◌, length, map}
use Rattle.tsql_grammar.specs.Words.{look_up, capital}
use Rattle.tsql_grammar.proofs.words.look_up.Given as goal

abbrev pub invariant-loop-table : goal.invariant-loop-table
invariant-loop-table l =
    look_up (map (λ row. (row.0.now, row.1)) l.table) (map capital l.word) l.other
    ≡ look_up (map (λ row. (row.0.now, row.1)) l.initial.table) (map capital l.word) l.other

abbrev pub decreases-loop-table : goal.decreases-loop-table
decreases-loop-table l = length l.table
