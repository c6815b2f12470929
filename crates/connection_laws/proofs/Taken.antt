-- What a call of a driver is run as has a short text, and so it is of each statement that is kept behind it, since no text of a call is
-- longer than its payload.
use Rattle.std.proofs.Common.{◌≡◌, ℤ, ℕ, zero, suc, ◌≤◌, Bool, true, false, if◌then◌else◌, List, [], ◌∷◌, ◌++◌, length, remove, Option, None, Some, Ok, arith}
use Rattle.std.specs.Prelude.{codes, slice_get}
use Rattle.std.specs.List.{AllByRecursion}
use Rattle.std.specs.Option.{option_and_then, option_map}
use Rattle.value_types.specs.declared.value.Value.{Value}
use Rattle.value_types.specs.declared.value.Value.TheVariants.{Null, Whole, Bit, Text}
use Rattle.table_rows.specs.Definitions.{longest_text}
use Rattle.tds_packets.specs.Stream.{payload_limit}
use Rattle.rpc_requests.specs.declared.call.DriverCall.{DriverCall}
use Rattle.rpc_requests.specs.declared.call.DriverProcedure.{DriverProcedure}
use Rattle.rpc_requests.specs.declared.call.DriverProcedure.TheVariants.{ExecuteSql, Prepare, Execute, PrepExec, Unprepare, Reset}
use Rattle.rpc_requests.specs.declared.call.DriverTarget.{DriverTarget}
use Rattle.rpc_requests.specs.declared.call.DriverTarget.TheVariants.{Named, System}
use Rattle.rpc_requests.specs.declared.call.RpcParameter.{RpcParameter}
use Rattle.rpc_requests.specs.Drivers.{driver_call_of}
use Rattle.rpc_requests.proofs.Sizes.{HasSmall, IsSmall}
use Rattle.rpc_requests.proofs.DriverSizes.{HasShort, driver_small}
use Rattle.batch_meaning.specs.declared.prepared.PreparedStatement.{PreparedStatement}
use Rattle.batch_meaning.specs.Drivers.{KeptStatements, Source, Taken, are_many, are_too_many, by_handle, declared_as, executed, executes, finds_kept, handle_in, handle_of, has_handle, is_batch, keeps, keeps_both, keeps_if, keeps_texts, kept_under, next_handle, optional_text, place_of, prepared_by, prepares, reset_text, served_by, shed, source_by, source_for, sql_source, system_taken, taken, target_taken, text_or_none, unprepared, with_statement, without, without_at, without_sent}
use Rattle.batch_meaning.specs.Rpc.{text_in}
use Rattle.cause_laws.proofs.Clean.{all_both}
use Rattle.text_laws.proofs.Declared.{declared_few}
use Rattle.connection_laws.proofs.Sizes.{AtMostIf, IsShortText, name_short, put_short, value_few, within}

-- ---- what is kept

-- its texts are no longer than a payload
abbrev pub IsShortStatement : PreparedStatement → Type 0
IsShortStatement one = (length one.declarations ≤ payload_limit) × (length one.statement ≤ payload_limit)

abbrev pub AreShortKept : KeptStatements → Type 0
AreShortKept p = AllByRecursion IsShortStatement p.kept

-- what goes leaves the others
shed_short : (kept : List PreparedStatement) → AllByRecursion IsShortStatement kept → AllByRecursion IsShortStatement (shed kept)
unfolding shed
shed_short [] all = tt
shed_short (one ∷ rest) all = by_many (are_many (one ∷ rest)) (shed_short rest all.1)
  where
    by_many : (many : Bool) → AllByRecursion IsShortStatement (shed rest) → AllByRecursion IsShortStatement (if many then shed rest else one ∷ rest)
    by_many true less = less
    by_many false less = all

remove_short : (kept : List PreparedStatement) (place : ℕ) → AllByRecursion IsShortStatement kept → AllByRecursion IsShortStatement (remove kept place)
remove_short [] zero all = tt
remove_short [] (suc place) all = tt
remove_short (one ∷ rest) zero all = all.1
remove_short (one ∷ rest) (suc place) all = (all.0, remove_short rest place all.1)

-- one that is found is short
abbrev FindsShort : Option PreparedStatement → Type 0
FindsShort None = Unit {0}
FindsShort (Some one) = IsShortStatement one

get_short : (kept : List PreparedStatement) (place : ℕ) → AllByRecursion IsShortStatement kept → FindsShort (slice_get kept place)
get_short [] place all = tt
get_short (one ∷ rest) zero all = all.0
get_short (one ∷ rest) (suc place) all = get_short rest place all.1

module _ (p : KeptStatements) (kept : AreShortKept p) where
  with_short : (declarations statement : List ℕ) → length declarations ≤ payload_limit → length statement ≤ payload_limit → AreShortKept (with_statement declarations statement p)
  with_short declarations statement one two =
      let added : PreparedStatement = record { handle = next_handle p; declarations = declarations; statement = statement } in
      shed_short (p.kept ++ added ∷ []) (all_both IsShortStatement p.kept (added ∷ []) kept ((one, two), tt))

  found_short : (handle : ℤ) → FindsShort (kept_under handle p)
  found_short handle = by_place (place_of handle p)
    where
      by_place : (place : Option ℕ) → FindsShort (option_and_then (slice_get p.kept) place)
      by_place None = tt
      by_place (Some place) = get_short p.kept place kept

  without_short : (handle : ℤ) → AreShortKept (without handle p)
  without_short handle = by_place (place_of handle p)
    where
      by_place : (place : Option ℕ) → AreShortKept (without_at p place)
      by_place None = kept
      by_place (Some place) = remove_short p.kept place kept

  sent_short : (sent : Option ℤ) → AreShortKept (without_sent sent p)
  sent_short None = kept
  sent_short (Some handle) = without_short handle

-- ---- what is run

short_text : (text : List ℕ) → length text ≤ payload_limit → length text ≤ longest_text
short_text text few = omega (arith, few)

-- the text of a statement, as a batch or as the body of a procedure
source_short : (own : ℕ) (declarations statement : List ℕ) → length declarations ≤ payload_limit → length statement ≤ payload_limit → length (source_for own declarations statement).1 ≤ longest_text
source_short own declarations statement one two = by_batch (is_batch declarations statement)
  where
    by_batch : (batch : Bool) → length (source_by batch own declarations statement).1 ≤ longest_text
    by_batch true = short_text statement two
    by_batch false = put_short (codes "CREATE PROCEDURE [sp_executesql] ") (codes " AS ") (declared_as declarations) statement (omega arith) (omega (arith, declared_few declarations, one)) two

-- it is short, if there is one
abbrev IsShortSource : Option Source → Type 0
IsShortSource None = Unit {0}
IsShortSource (Some source) = length source.1 ≤ longest_text

executes_short : (parameters : List RpcParameter) (source : Option Source) → IsShortSource source → IsShortText (executes parameters source).text
executes_short parameters None short = tt
executes_short parameters (Some source) short = short

prepared_short : (runs : Bool) (number : ℕ) (parameters : List RpcParameter) (source : Option Source) → IsShortSource source → IsShortText (prepared_by runs number parameters source).text
prepared_short runs number parameters None short = tt
prepared_short runs number parameters (Some source) short = short

-- what is run of a statement is short, and what is kept behind it
abbrev AreBothShort : Option Source × KeptStatements → Type 0
AreBothShort behind = IsShortSource behind.0 × AreShortKept behind.1

-- the text of the errand is short, and what is kept behind it
abbrev pub IsShortTaken : Taken → Type 0
IsShortTaken of = IsShortText of.0.text × AreShortKept of.1

-- ---- procedures of the server

module _ (n : ℕ) (limit : n ≤ payload_limit) where
  sql_short : (parameters : List RpcParameter) → AllByRecursion (HasSmall n) parameters → IsShortSource (sql_source parameters)
  sql_short [] small = tt
  sql_short (statement ∷ []) small = by_body (text_in statement) (value_few n statement.missing statement.value small.0)
    where
      by_body : (body : Option (List ℕ)) → AtMostIf n body → IsShortSource (option_map (source_for 2 []) body)
      by_body None few = tt
      by_body (Some body) few = source_short 2 [] body (omega arith) (within n limit (length body) few)
  sql_short (statement ∷ declarations ∷ others) small =
      by_texts (text_in declarations) (text_in statement) (value_few n declarations.missing declarations.value small.1.0) (value_few n statement.missing statement.value small.0)
    where
      by_texts : (declared body : Option (List ℕ)) → AtMostIf n declared → AtMostIf n body → IsShortSource (option_and_then (λ text. option_map (source_for 2 text) body) declared)
      by_texts None body one two = tt
      by_texts (Some declared) None one two = tt
      by_texts (Some declared) (Some body) one two = source_short 2 declared body (within n limit (length declared) one) (within n limit (length body) two)

  none_few : 0 ≤ n
  none_few = omega arith

  -- a text that may be wanting
  optional_few : (missing : Bool) (value : Value) → IsSmall n value → AtMostIf n (if missing then Some [] else text_or_none value)
  optional_few true value small = none_few
  optional_few false (Text units) small = small
  optional_few false Null small = none_few
  optional_few false (Whole number) small = tt
  optional_few false (Bit bit) small = tt

  module _ (p : KeptStatements) (kept : AreShortKept p) where
    both_short : (sent : Option ℤ) (declarations statement : List ℕ) → length declarations ≤ payload_limit → length statement ≤ payload_limit → AreBothShort (keeps_both p sent declarations statement)
    both_short sent declarations statement one two = by_left (has_handle p)
      where
        by_left : (left : Bool) → AreBothShort (keeps_if left p sent declarations statement)
        by_left true = (source_short 3 declarations statement one two, with_short (without_sent sent p) (sent_short p kept sent) declarations statement one two)
        by_left false = (tt, kept)

    keeps_short : (parameters : List RpcParameter) → AllByRecursion (HasSmall n) parameters → AreBothShort (keeps p parameters)
    keeps_short [] small = (tt, kept)
    keeps_short (handle ∷ []) small = (tt, kept)
    keeps_short (handle ∷ declarations ∷ []) small = (tt, kept)
    keeps_short (handle ∷ declarations ∷ statement ∷ others) small =
        by_texts (optional_text declarations) (text_in statement) (optional_few declarations.missing declarations.value small.1.0) (value_few n statement.missing statement.value small.1.1.0)
      where
        by_texts : (declared body : Option (List ℕ)) → AtMostIf n declared → AtMostIf n body → AreBothShort (keeps_texts p (handle_of handle) declared body)
        by_texts None None one two = (tt, kept)
        by_texts None (Some body) one two = (tt, kept)
        by_texts (Some declared) None one two = (tt, kept)
        by_texts (Some declared) (Some body) one two =
            both_short (handle_of handle) declared body (within n limit (length declared) one) (within n limit (length body) two)

    prepares_short : (runs : Bool) (parameters : List RpcParameter) → AllByRecursion (HasSmall n) parameters → IsShortTaken (prepares runs p parameters)
    prepares_short runs parameters small =
        let behind = keeps_short parameters small in
        (prepared_short runs (next_handle p) parameters (keeps p parameters).0 behind.0, behind.1)

    executed_short : (parameters : List RpcParameter) (handle : ℤ) (one : PreparedStatement) → IsShortStatement one → IsShortTaken (executed p parameters handle one)
    executed_short parameters handle one short =
        (source_short 1 one.declarations one.statement short.0 short.1, all_both IsShortStatement (without handle p).kept (one ∷ []) (without_short p kept handle) (short, tt))

    unprepared_short : (parameters : List RpcParameter) (handle : ℤ) (one : PreparedStatement) → IsShortStatement one → IsShortTaken (unprepared p parameters handle one)
    unprepared_short parameters handle one short = (tt, without_short p kept handle)

    handle_short : (go : ℤ → PreparedStatement → Taken) (parameters : List RpcParameter) → ((handle : ℤ) (one : PreparedStatement) → IsShortStatement one → IsShortTaken (go handle one))
        → (handle : Option ℤ) → IsShortTaken (by_handle go p parameters handle)
    handle_short go parameters goes None = (tt, kept)
    handle_short go parameters goes (Some handle) = by_found (kept_under handle p) (found_short p kept handle)
      where
        by_found : (found : Option PreparedStatement) → FindsShort found → IsShortTaken (finds_kept (go handle) p parameters handle found)
        by_found None short = (tt, kept)
        by_found (Some one) short = goes handle one short

    system_short : (parameters : List RpcParameter) → AllByRecursion (HasSmall n) parameters → (procedure : DriverProcedure) → IsShortTaken (system_taken p parameters procedure)
    system_short parameters small ExecuteSql = (executes_short parameters (sql_source parameters) (sql_short parameters small), kept)
    system_short parameters small Prepare = prepares_short false parameters small
    system_short parameters small PrepExec = prepares_short true parameters small
    system_short parameters small Execute = handle_short (executed p parameters) parameters (executed_short parameters) (handle_in parameters)
    system_short parameters small Unprepare = handle_short (unprepared p parameters) parameters (unprepared_short parameters) (handle_in parameters)
    system_short parameters small Reset = (short_text reset_text (omega arith), tt)

    served_short : (parameters : List RpcParameter) → AllByRecursion (HasSmall n) parameters → (procedure : DriverProcedure) (many : Bool) → IsShortTaken (served_by many p parameters procedure)
    served_short parameters small procedure true = (tt, kept)
    served_short parameters small procedure false = system_short parameters small procedure

    target_short : (parameters : List RpcParameter) → AllByRecursion (HasSmall n) parameters → (target : DriverTarget) → HasShort n target → IsShortTaken (target_taken p parameters target)
    target_short parameters small (Named name) short = (name_short n limit name short, kept)
    target_short parameters small (System procedure) short = served_short parameters small procedure (are_too_many parameters)

-- A call of a driver is run as an errand with a short text, and what is kept behind it is short.
pub taken_short : (payload : List ℕ) (call : DriverCall) (p : KeptStatements) → length payload ≤ payload_limit → driver_call_of payload ≡ Ok call → AreShortKept p → IsShortTaken (taken p call)
taken_short payload call p limit is kept =
    let small = driver_small payload call is in
    target_short (length payload) limit p kept call.parameters small.1 call.target small.0
