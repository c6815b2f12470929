-- The forms of types: which type has which form.
use Rattle.std.proofs.Common.{◌≡◌, ℕ, ◌^◌, ◌<◌, ◌≤◌, List, [], ◌∷◌, All, refl, arith}
use Rattle.std.specs.Prelude.{min}
use Rattle.std.proofs.Math.Nat.{min-le_right, le-min}
use Rattle.std.proofs.lemmas.List.Elements.{All-nil, All-cons, All-head, All-tail}
use Rattle.value_types.specs.declared.sql_type.SqlType.{SqlType}
use Rattle.value_types.specs.declared.sql_type.SqlType.TheVariants.{TinyInt, SmallInt, Int, BigInt, Bit as BitType, NText}
use Rattle.value_types.specs.declared.value.Value.{Value}
use Rattle.value_types.specs.declared.value.Value.TheVariants.{Null, Whole, Bit, Text}
use Rattle.rpc_requests.specs.declared.types.Form.{Form}
use Rattle.rpc_requests.specs.declared.types.Form.TheVariants.{Number, Units, Bytes}
use Rattle.rpc_requests.specs.Fit.{text_limit, IsKind, IsOf}
use Rattle.rpc_requests.specs.Reading.{kind_of}
use Rattle.rpc_requests.specs.Spelled.{SpellsType, IsSent}

-- the form in which a type is written
abbrev pub form_of : SqlType → Form
form_of (NText size) = Units size
form_of kind = Number kind

pub form_again : (kind : SqlType) → kind_of (form_of kind) ≡ kind
form_again TinyInt = refl
form_again SmallInt = refl
form_again Int = refl
form_again BigInt = refl
form_again BitType = refl
form_again (NText size) = refl

-- the size of a text is one to 4,000, and what is no text is a number or a bit
abbrev pub IsForm : Form → Type 0
IsForm (Number (NText size)) = ⊥
IsForm (Number kind) = Unit {0}
IsForm (Units size) = (1 ≤ size) × (size ≤ text_limit)
IsForm (Bytes size) = (1 ≤ size) × (size ≤ text_limit)

pub number_form : (kind : SqlType) → IsForm (Number kind) → form_of kind ≡ Number kind
number_form TinyInt is = refl
number_form SmallInt is = refl
number_form Int is = refl
number_form BigInt is = refl
number_form BitType is = refl
number_form (NText size) is = absurd is

pub number_kind : (kind : SqlType) → IsForm (Number kind) → IsKind kind
number_kind TinyInt is = tt
number_kind SmallInt is = tt
number_kind Int is = tt
number_kind BigInt is = tt
number_kind BitType is = tt
number_kind (NText size) is = absurd is

pub kind_of_form : (form : Form) → IsForm form → IsKind (kind_of form)
kind_of_form (Number kind) is = number_kind kind is
kind_of_form (Units size) is = is
kind_of_form (Bytes size) is = is

number_of_type : (kind : SqlType) (text : List ℕ) → SpellsType (Number kind) text → IsForm (Number kind)
number_of_type TinyInt text s = tt
number_of_type SmallInt text s = tt
number_of_type Int text s = tt
number_of_type BigInt text s = tt
number_of_type BitType text s = tt
number_of_type (NText size) text s = absurd s

-- what bytes spell is a form
pub form_of_type : (form : Form) (text : List ℕ) → SpellsType form text → IsForm form
form_of_type (Number kind) text s = number_of_type kind text s
form_of_type (Units size) text s = (s.2, s.3)
form_of_type (Bytes size) text s =
    let low : 1 ≤ min s.0 text_limit = le-min s.3 (omega arith) in
    (omega (arith, low, s.5), omega (arith, min-le_right s.0 text_limit, s.5))

are_units : (text : List ℕ) → All (λ unit. unit < 128) text → All (λ unit. unit < 2 ^ 16) text
are_units [] all = All-nil (λ unit. unit < 2 ^ 16)
are_units (unit ∷ text) all =
    let low : unit < 128 = All-head (λ u. u < 128) unit text all in
    All-cons (λ u. u < 2 ^ 16) unit text (omega (arith, low)) (are_units text (All-tail (λ u. u < 128) unit text all))

-- a value of a form is one of its type
pub sent_is_of : (form : Form) (value : Value) → IsSent form value → IsOf (kind_of form) value
sent_is_of (Number kind) value is = is
sent_is_of (Units size) value is = is
sent_is_of (Bytes size) Null is = tt
sent_is_of (Bytes size) (Whole number) is = absurd is
sent_is_of (Bytes size) (Bit bit) is = absurd is
sent_is_of (Bytes size) (Text units) is = (is.0, are_units units is.1)
