-- What is read for a call is short, since no text of a call is longer than its payload.
use Rattle.std.proofs.Common.{◌≡◌, ℕ, ◌+◌, ◌*◌, ◌≤◌, Bool, true, false, List, [], ◌∷◌, ◌++◌, length, length-append, Option, None, Some, Ok, arith}
use Rattle.std.specs.Prelude.{codes, if◌then◌else◌}
use Rattle.std.specs.List.{AllByRecursion}
use Rattle.std.specs.Option.{option_and_then, option_map}
use Rattle.value_types.specs.declared.value.Value.{Value}
use Rattle.value_types.specs.declared.value.Value.TheVariants.{Null, Whole, Bit, Text}
use Rattle.table_rows.specs.Definitions.{longest_text}
use Rattle.tds_packets.specs.Stream.{payload_limit}
use Rattle.rpc_requests.specs.declared.call.RpcCall.{RpcCall}
use Rattle.rpc_requests.specs.declared.call.RpcParameter.{RpcParameter}
use Rattle.rpc_requests.specs.declared.call.RpcTarget.{RpcTarget}
use Rattle.rpc_requests.specs.declared.call.RpcTarget.TheVariants.{Named, ExecuteSql}
use Rattle.rpc_requests.specs.Reading.{rpc_of}
use Rattle.rpc_requests.proofs.Sizes.{HasShort, HasSmall, IsSmall, IsSmallCall, rpc_small}
use Rattle.batch_meaning.specs.Rpc.{is_sql, name_of, rpc_text, sql_in, text_in, text_value}

-- what is no longer than a payload is no longer than any may be; declarations are read as fifteen times as many units at most
pub within : (n : ℕ) → n ≤ payload_limit → (m : ℕ) → m ≤ n → m ≤ payload_limit
within n limit m few = omega (arith, few, limit)

wider : (n : ℕ) → n ≤ payload_limit → (m : ℕ) → m ≤ n → m ≤ 15 * payload_limit
wider n limit m few = omega (arith, few, limit)

-- ---- the text that is read for a call

-- it is short, if there is one
abbrev pub IsShortText : Option (List ℕ) → Type 0
IsShortText None = Unit {0}
IsShortText (Some text) = length text ≤ longest_text

-- of at most so many units, if there is one
abbrev pub AtMostIf : ℕ → Option (List ℕ) → Type 0
AtMostIf n None = Unit {0}
AtMostIf n (Some text) = length text ≤ n

pub value_few : (n : ℕ) (missing : Bool) (value : Value) → IsSmall n value → AtMostIf n (if missing then None else text_value value)
value_few n true value small = tt
value_few n false (Text units) small = small
value_few n false Null small = tt
value_few n false (Whole number) small = tt
value_few n false (Bit bit) small = tt

-- around at most a hundred units of its own
pub put_short : (front middle declared body : List ℕ) → length front + length middle ≤ 100 → length declared ≤ 15 * payload_limit → length body ≤ payload_limit → length (front ++ declared ++ middle ++ body) ≤ longest_text
put_short front middle declared body own one two =
    omega (arith, length-append (front ++ declared ++ middle) body, length-append (front ++ declared) middle, length-append front declared)

sql_short : (n : ℕ) → n ≤ payload_limit → (parameters : List RpcParameter) → AllByRecursion (HasSmall n) parameters → IsShortText (sql_in parameters)
sql_short n limit [] small = tt
sql_short n limit (statement ∷ []) small = by_body (text_in statement) (value_few n statement.missing statement.value small.0)
  where
    by_body : (body : Option (List ℕ)) → AtMostIf n body → IsShortText (option_map (λ text. codes "CREATE PROCEDURE [sp_executesql] " ++ [] ++ codes " AS " ++ text) body)
    by_body None few = tt
    by_body (Some body) few = put_short (codes "CREATE PROCEDURE [sp_executesql] ") (codes " AS ") [] body (omega arith) (omega arith) (within n limit (length body) few)
sql_short n limit (statement ∷ declarations ∷ others) small = by_declared (text_in declarations) (text_in statement) (value_few n declarations.missing declarations.value small.1.0) (value_few n statement.missing statement.value small.0)
  where
    by_declared : (declared body : Option (List ℕ)) → AtMostIf n declared → AtMostIf n body
        → IsShortText (option_and_then (λ text. option_map (λ other. codes "CREATE PROCEDURE [sp_executesql] " ++ text ++ codes " AS " ++ other) body) declared)
    by_declared None body one two = tt
    by_declared (Some declared) None one two = tt
    by_declared (Some declared) (Some body) one two = put_short (codes "CREATE PROCEDURE [sp_executesql] ") (codes " AS ") declared body (omega arith) (wider n limit (length declared) one) (within n limit (length body) two)

pub name_short : (n : ℕ) → n ≤ payload_limit → (name : List ℕ) → length name ≤ n → length (codes "CREATE PROCEDURE " ++ name ++ codes "\nAS") ≤ longest_text
name_short n limit name short = omega (arith, length-append (codes "CREATE PROCEDURE " ++ name) (codes "\nAS"), length-append (codes "CREATE PROCEDURE ") name)

naming_short : (n : ℕ) → n ≤ payload_limit → (target : RpcTarget) → HasShort n target → length (codes "CREATE PROCEDURE " ++ name_of target ++ codes "\nAS") ≤ longest_text
naming_short n limit (Named name) short = name_short n limit name short
naming_short n limit ExecuteSql short = omega arith

text_short : (n : ℕ) → n ≤ payload_limit → (sql : Bool) (call : RpcCall) → IsSmallCall n call → IsShortText (if sql then sql_in call.parameters else Some (codes "CREATE PROCEDURE " ++ name_of call.target ++ codes "\nAS"))
text_short n limit true call small = sql_short n limit call.parameters small.1
text_short n limit false call small = naming_short n limit call.target small.0

pub call_short : (payload : List ℕ) (call : RpcCall) → length payload ≤ payload_limit → rpc_of payload ≡ Ok call → IsShortText (rpc_text call)
call_short payload call limit is = text_short (length payload) limit (is_sql call.target) call (rpc_small payload call is)
