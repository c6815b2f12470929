-- Own: which calls have a spelling. Names have at most 128 units, texts a size of 1 to 4,000, and each value
-- is NULL or of its parameter's type. The ranges of units are said too, since a law speaks of all numbers.
-- And the parameters of a call as a driver spells it, of which the front ones have texts of any length.
use Rattle.std.specs.Prelude.{ℕ, zero, suc, ◌-◌, ◌^◌, ◌<◌, ◌≤◌, ◌≤ℤ◌, ◌≡◌, pos, List, [], ◌∷◌, length, All, FitsSigned}
use Rattle.std.specs.Int.{w16, w32, w64}
use Rattle.byteorder.specs.Endian.{little_number}
use Rattle.value_types.specs.declared.sql_type.SqlType.{SqlType}
use Rattle.value_types.specs.declared.sql_type.SqlType.TheVariants.{TinyInt, SmallInt, Int, BigInt, Bit as BitType, NText}
use Rattle.value_types.specs.declared.value.Value.{Value}
use Rattle.value_types.specs.declared.value.Value.TheVariants.{Null, Whole, Bit, Text}
use Rattle.rpc_requests.specs.declared.call.RpcCall.{RpcCall}
use Rattle.rpc_requests.specs.declared.call.RpcParameter.{RpcParameter}
use Rattle.rpc_requests.specs.declared.call.RpcTarget.{RpcTarget}
use Rattle.rpc_requests.specs.declared.call.RpcTarget.TheVariants.{Named, ExecuteSql}

-- the most units of a name
abbrev pub name_limit : ℕ
name_limit = 128

-- the most units of a text
abbrev pub text_limit : ℕ
text_limit = 4000

-- a name: at most 128 units of 16 bits
abbrev pub IsName : List ℕ → Type 0
IsName name = (length name ≤ name_limit) × All (λ unit. unit < 2 ^ 16) name

-- the size of a text is one to 4,000
abbrev pub IsKind : SqlType → Type 0
IsKind (NText size) = (1 ≤ size) × (size ≤ text_limit)
IsKind kind = Unit {0}

-- the value is NULL or of the type
abbrev pub IsOf : SqlType → Value → Type 0
IsOf kind Null = Unit {0}
IsOf TinyInt (Whole number) = (pos 0 ≤ℤ number) × (number ≤ℤ pos 255)
IsOf SmallInt (Whole number) = FitsSigned w16 number
IsOf Int (Whole number) = FitsSigned w32 number
IsOf BigInt (Whole number) = FitsSigned w64 number
IsOf BitType (Bit bit) = Unit {0}
IsOf (NText size) (Text units) = (length units ≤ size) × All (λ unit. unit < 2 ^ 16) units
IsOf kind value = ⊥

-- a parameter that has a spelling
pub record IsParameter (parameter : RpcParameter) : Type 0 where
  pub name : IsName parameter.name
  pub kind : IsKind parameter.kind
  pub value : IsOf parameter.kind parameter.value

-- the procedure's name is one
abbrev pub IsTarget : RpcTarget → Type 0
IsTarget (Named name) = IsName name
IsTarget ExecuteSql = Unit {0}

-- a call that has a spelling
pub record IsCall (call : RpcCall) : Type 0 where
  pub target : IsTarget call.target
  pub parameters : All IsParameter call.parameters

-- the value is NULL or of the type, and a text of any length
abbrev pub IsFrontValue : SqlType → Value → Type 0
IsFrontValue (NText size) (Text units) = All (λ unit. unit < 2 ^ 16) units
IsFrontValue kind value = IsOf kind value

-- a parameter of a driver's call, with so many front ones ahead: their texts have any length
abbrev pub IsDriverParameter : ℕ → RpcParameter → Type 0
IsDriverParameter zero parameter = IsParameter parameter
IsDriverParameter (suc ahead) parameter =
    IsName parameter.name × IsKind parameter.kind × IsFrontValue parameter.kind parameter.value

-- parameters of a driver's call, with so many front ones ahead
abbrev pub AreDriverParameters : ℕ → List RpcParameter → Type 0
AreDriverParameters ahead [] = Unit {0}
AreDriverParameters ahead (parameter ∷ rest) = IsDriverParameter ahead parameter × AreDriverParameters (ahead - 1) rest

-- headers that are read: their total length stands in their first four bytes
abbrev pub AreHeaders : List ℕ → Type 0
AreHeaders headers = (4 ≤ length headers) × (little_number 4 headers ≡ length headers)
