-- USE of a name that the one database has.
use Rattle.std.proofs.Common.{◌≡◌, ℕ, pos, Bool, true, if◌then◌else◌, List, Result, Ok, subst}
use Rattle.tsql_tree.specs.declared.statement.Statement.{Statement, out-Statement}
use Rattle.batch_meaning.specs.declared.failure.Failure.{Failure}
use Rattle.batch_meaning.specs.Raised.{Around}
use Rattle.batch_meaning.specs.Selecting.{Effect}
use Rattle.batch_meaning.specs.Progress.{SessionProgress}
use Rattle.batch_meaning.specs.Asking.{fails_naming, with_room}
use Rattle.batch_meaning.specs.Databases.{context_tokens, is_database, no_database, tells_context, uses_named}
use Rattle.session_state.specs.Parts.{Stepped}

pub stepped_named : (around : Around) (statement : Statement) (name : List ℕ) {p new : SessionProgress} {result : Result Effect Failure} → true ≡ is_database name
    → Stepped (with_room (tells_context (context_tokens around.procedure (pos (out-Statement statement).line)))) p (Ok result) new → Stepped (with_room (uses_named around statement name)) p (Ok result) new
stepped_named around statement name {p = p} {new = new} {result = result} is was =
    subst (λ (b : Bool). Stepped {A = Result Effect Failure} (with_room (if b then tells_context (context_tokens around.procedure (pos (out-Statement statement).line)) else fails_naming no_database name)) p (Ok result) new) is was
