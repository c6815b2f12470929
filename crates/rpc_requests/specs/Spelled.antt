-- Which payloads spell a call, with all that is not looked at: what stands within the headers, the option flags,
-- other bits of a status, a collation, a size of a text of bytes above 4,000, and which number that is not 0 a
-- bit has. `rpc_of` reads from left to right; here each part of a payload is said of the part of the call.
use Rattle.std.specs.Prelude.{◌≡◌, ◌≢◌, ℕ, ◌*◌, ◌^◌, ◌<◌, ◌≤◌, min, true, List, [], ◌∷◌, ◌++◌, length, All}
use Rattle.std.specs.Int.{w16, to_le_bytes}
use Rattle.value_types.specs.declared.sql_type.SqlType.TheVariants.{NText}
use Rattle.value_types.specs.declared.value.Value.{Value}
use Rattle.value_types.specs.declared.value.Value.TheVariants.{Bit, Text}
use Rattle.value_types.specs.Units.{le_bytes_of}
use Rattle.rpc_requests.specs.declared.call.RpcCall.{RpcCall}
use Rattle.rpc_requests.specs.declared.call.RpcParameter.{RpcParameter}
use Rattle.rpc_requests.specs.declared.call.RpcTarget.{RpcTarget}
use Rattle.rpc_requests.specs.declared.call.RpcTarget.TheVariants.{Named, ExecuteSql}
use Rattle.rpc_requests.specs.declared.types.Form.{Form}
use Rattle.rpc_requests.specs.declared.types.Form.TheVariants.{Number, Units, Bytes}
use Rattle.tds_tokens.specs.Spelling.{nvarchartype, type_info, value_bytes}
use Rattle.rpc_requests.specs.Spelling.{bigvarchartype, by_number, target_bytes}
use Rattle.rpc_requests.specs.Fit.{text_limit, IsName, IsOf, AreHeaders}
use Rattle.rpc_requests.specs.Reading.{has_bit, kind_of}

-- the bytes are a type's of the form: a text has any collation, and one of bytes any size up to twice the limit
abbrev pub SpellsType : Form → List ℕ → Type 0
SpellsType (Units size) text = (collation : List ℕ) × (length collation ≡ 5) × (1 ≤ size) × (size ≤ text_limit) × (text ≡ nvarchartype ∷ (to_le_bytes w16 (2 * size) ++ collation))
SpellsType (Bytes size) text =
    (sent : ℕ) × (collation : List ℕ) × (length collation ≡ 5) × (1 ≤ sent) × (sent ≤ 2 * text_limit) × (size ≡ min sent text_limit) × (text ≡ bigvarchartype ∷ (to_le_bytes w16 sent ++ collation))
SpellsType (Number (NText size)) text = ⊥
SpellsType (Number kind) text = text ≡ type_info kind

-- the value is NULL or of the form: a text of bytes is ASCII
abbrev pub IsSent : Form → Value → Type 0
IsSent (Bytes size) (Text units) = (length units ≤ size) × All (λ unit. unit < 128) units
IsSent form value = IsOf (kind_of form) value

-- the bytes are the value's: a bit that is set is any number but 0, and a unit of a text of bytes is one byte
abbrev pub SpellsValue : Form → Value → List ℕ → Type 0
SpellsValue form (Bit true) text = (byte : ℕ) × (byte ≢ 0) × (text ≡ 1 ∷ byte ∷ [])
SpellsValue (Bytes size) (Text units) text = text ≡ to_le_bytes w16 (length units) ++ units
SpellsValue form value text = text ≡ value_bytes (kind_of form) value

-- the bytes are the parameter's
pub record SpellsParameter (parameter : RpcParameter) (text : List ℕ) : Type 0 where
  pub status : ℕ
  pub form : Form
  pub described : List ℕ
  pub valued : List ℕ
  pub parts : text ≡ length parameter.name ∷ (le_bytes_of parameter.name ++ (status ∷ (described ++ valued)))
  pub name : IsName parameter.name
  pub output : has_bit status 1 ≡ parameter.output
  pub missing : has_bit status 2 ≡ parameter.missing
  pub typed : SpellsType form described
  pub kind : kind_of form ≡ parameter.kind
  pub fits : IsSent form parameter.value
  pub value : SpellsValue form parameter.value valued

-- the bytes are the parameters', one after another
abbrev pub SpellsParameters : List RpcParameter → List ℕ → Type 0
SpellsParameters [] text = text ≡ []
SpellsParameters (parameter ∷ parameters) text = (front rest : List ℕ) × SpellsParameter parameter front × SpellsParameters parameters rest × (text ≡ front ++ rest)

-- the procedure's name has units, and fewer than stand for a number
abbrev pub IsCalled : RpcTarget → Type 0
IsCalled (Named name) = (length name < by_number) × All (λ unit. unit < 2 ^ 16) name
IsCalled ExecuteSql = Unit {0}

-- the payload is the call's: headers, the procedure, option flags and the parameters
pub record Spells (call : RpcCall) (payload : List ℕ) : Type 0 where
  pub headers : List ℕ
  pub flags : List ℕ
  pub rest : List ℕ
  pub parts : payload ≡ headers ++ (target_bytes call.target ++ (flags ++ rest))
  pub are_headers : AreHeaders headers
  pub called : IsCalled call.target
  pub two : length flags ≡ 2
  pub parameters : SpellsParameters call.parameters rest
