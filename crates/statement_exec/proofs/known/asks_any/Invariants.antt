use Rattle.std.proofs.Common.{◌≡◌, drop}
use Rattle.tsql_tree.specs.declared.statement.Form.{out-Form}
use Rattle.batch_meaning.specs.Working.{asks_any, known_in}
use Rattle.statement_exec.proofs.known.asks_any.Given as goal

-- the names that are left decide
abbrev pub invariant-loop-name : goal.invariant-loop-name
invariant-loop-name l = asks_any (known_in l.around.fired (out-Form l.form)) l.names ≡ asks_any (known_in l.around.fired (out-Form l.form)) (drop l.name-index l.names)
