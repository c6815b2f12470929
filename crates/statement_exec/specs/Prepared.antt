-- Own: where a statement works, with what it is bound to there.
use Rattle.std.specs.Prelude.{ℕ, false, List, Result, Ok, Err}
use Rattle.tsql_tree.specs.declared.definition.TableTree.{TableTree}
use Rattle.tsql_tree.specs.declared.statement.Statement.{Statement}
use Rattle.bound_tree.specs.declared.write.Bound.{Bound}
use Rattle.binder.specs.Names.{looked_up}
use Rattle.batch_meaning.specs.declared.failure.Failure.{Failure}
use Rattle.batch_meaning.specs.declared.home.Home.{Home}
use Rattle.batch_meaning.specs.Raised.{Around}
use Rattle.batch_meaning.specs.Doing.{Doing, over, ◌then◌}
use Rattle.batch_meaning.specs.Asking.{◌>>=◌, with_room}
use Rattle.batch_meaning.specs.Working.{asks_any, enters, known_by, leaves, prepares}

-- where it is not bound, its transaction ends
abbrev pub kept_at : Home → Result (List TableTree × Bound) Failure → Doing (Result (Home × (List TableTree × Bound)) Failure)
kept_at home (Ok made) = over (Ok (home, made))
kept_at home (Err failure) = leaves home false then λ done. over (Err failure)

-- the statement is bound in the open transaction or one of its own, where it asks anything for these names
unfoldable pub prepares_named : Around → Statement → List (List ℕ) → Doing (Result (Home × (List TableTree × Bound)) Failure)
prepares_named around statement names = do
  home ← enters (asks_any (known_by around statement) names)
  prepares around statement then λ made. kept_at home made

-- for those that it looks up
abbrev pub prepares_home : Around → Statement → Doing (Result (Home × (List TableTree × Bound)) Failure)
prepares_home around statement = with_room (prepares_named around statement (looked_up statement))
