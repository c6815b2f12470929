-- What a payload spells is read, whatever is not looked at.
use Rattle.std.proofs.Common.{◌≡◌, ◌≢◌, ℕ, zero, suc, ◌+◌, ◌*◌, ◌<◌, ◌≤◌, true, false, eqb, ltb, List, [], ◌∷◌, ◌++◌, length, All, Some, Result, Ok, refl, sym, ap, subst, ◌∙◌, append_assoc, arith}
use Rattle.std.specs.Prelude.{min}
use Rattle.std.specs.Int.{w16, to_le_bytes}
use Rattle.std.proofs.lemmas.Bool.{le-ltb, ne_eqb}
use Rattle.std.proofs.lemmas.List.{length-append}
use Rattle.value_types.specs.declared.sql_type.SqlType.{SqlType}
use Rattle.value_types.specs.declared.sql_type.SqlType.TheVariants.{TinyInt, SmallInt, Int, BigInt, Bit as BitType, NText}
use Rattle.value_types.specs.declared.value.Value.{Value}
use Rattle.value_types.specs.declared.value.Value.TheVariants.{Null, Whole, Bit, Text}
use Rattle.value_types.specs.Units.{le_bytes_of}
use Rattle.rpc_requests.specs.declared.call.RpcCall.{RpcCall}
use Rattle.rpc_requests.specs.declared.call.RpcParameter.{RpcParameter}
use Rattle.rpc_requests.specs.declared.call.RpcTarget.{RpcTarget}
use Rattle.rpc_requests.specs.declared.call.RpcTarget.TheVariants.{Named, ExecuteSql}
use Rattle.rpc_requests.specs.declared.types.Form.{Form}
use Rattle.rpc_requests.specs.declared.types.Form.TheVariants.{Number, Units, Bytes}
use Rattle.rpc_requests.specs.declared.fault.Refusal.{Refusal}
use Rattle.rpc_requests.specs.declared.fault.RpcFault.{RpcFault}
use Rattle.rpc_requests.specs.Spelling.{by_number, target_bytes}
use Rattle.tds_tokens.specs.Spelling.{type_info, value_bytes}
use Rattle.rpc_requests.specs.Fit.{name_limit, text_limit, IsKind, IsOf, IsParameter, IsTarget, IsCall}
use Rattle.std.proofs.lemmas.List.Elements.{All-nil, All-cons}
use Rattle.rpc_requests.specs.Reading.{◌>>=◌, bytes_at, byte_at, units_form, bytes_form, tagged_at, type_at, value_at, named_at, counted_at, parameter_at, parameters_at, target_of, target_at, call_at, behind_headers, whole_call, rpc_of, Answers}
use Rattle.rpc_requests.specs.Spelled.{SpellsType, SpellsValue, IsSent, SpellsParameter, SpellsParameters, IsCalled, Spells}
use Rattle.rpc_requests.proofs.Again.{bytes_again, short_again, units_again, long_sized_again, units_form_again, type_again, filled_again, ascii_again, null_ascii_again, value_again, numbered_again, headers_again}
use Rattle.rpc_requests.proofs.Forms.{form_of, IsForm, number_form, kind_of_form, form_of_type, sent_is_of}

-- ---- types and values

bytes_form_of : (sent : ℕ) → 1 ≤ sent → sent ≤ 2 * text_limit → bytes_form sent ≡ Some (Bytes (min sent text_limit))
bytes_form_of sent low high =
    let some : eqb sent 0 ≡ false = ne_eqb sent 0 (λ same. omega arith) in
    let small : ltb (2 * text_limit) sent ≡ false = le-ltb _ _ high in
    rw (some, small) refl

number_again : (kind : SqlType) (text rest : List ℕ) → text ≡ type_info kind → IsForm (Number kind) → type_at (text ++ rest) ≡ Ok (Number kind, rest)
number_again kind text rest same is =
    ap (λ (t : List ℕ). type_at (t ++ rest)) same ∙ type_again kind rest (kind_of_form (Number kind) is) ∙ ap (λ (form : Form). Ok (form, rest)) (number_form kind is)

spelled_type : (form : Form) (text rest : List ℕ) → SpellsType form text → type_at (text ++ rest) ≡ Ok (form, rest)
unfolding type_at byte_at tagged_at
spelled_type (Number TinyInt) text rest s = number_again TinyInt text rest s tt
spelled_type (Number SmallInt) text rest s = number_again SmallInt text rest s tt
spelled_type (Number Int) text rest s = number_again Int text rest s tt
spelled_type (Number BigInt) text rest s = number_again BigInt text rest s tt
spelled_type (Number BitType) text rest s = number_again BitType text rest s tt
spelled_type (Number (NText size)) text rest s = absurd s
spelled_type (Units size) text rest s =
    ap (λ (t : List ℕ). type_at (t ++ rest)) s.4 ∙ long_sized_again units_form 0xE7 (2 * size) s.0 (Units size) rest s.1 (omega (arith, s.3)) (units_form_again size s.2 s.3)
spelled_type (Bytes size) text rest s =
    ap (λ (t : List ℕ). type_at (t ++ rest)) s.6 ∙ long_sized_again bytes_form 0xA7 s.0 s.1 (Bytes size) rest s.2 (omega (arith, s.4)) (bytes_form_of s.0 s.3 s.4 ∙ ap (λ (n : ℕ). Some (Bytes n)) (sym s.5))

bit_again : (byte : ℕ) (rest : List ℕ) → byte ≢ 0 → value_at (Number BitType) (1 ∷ byte ∷ rest) ≡ Ok (Bit true, rest)
unfolding value_at byte_at
bit_again byte rest some =
    let set : eqb byte 0 ≡ false = ne_eqb byte 0 some in
    filled_again BitType (byte ∷ []) rest (1 ∷ byte ∷ rest) (Bit true) refl refl (rw set refl)

-- a value with the bytes that its type gives it
plain_again : (kind : SqlType) (form : Form) (value : Value) (text rest : List ℕ) → form_of kind ≡ form → IsKind kind → IsOf kind value → text ≡ value_bytes kind value → value_at form (text ++ rest) ≡ Ok (value, rest)
plain_again kind form value text rest same is of s =
    ap (λ (t : List ℕ). value_at form (t ++ rest)) s ∙ ap (λ (f : Form). value_at f (value_bytes kind value ++ rest)) (sym same) ∙ value_again kind value rest is of

spelled_bit : (kind : SqlType) (text rest : List ℕ) → IsOf kind (Bit true) → SpellsValue (Number kind) (Bit true) text → value_at (Number kind) (text ++ rest) ≡ Ok (Bit true, rest)
spelled_bit TinyInt text rest of s = absurd of
spelled_bit SmallInt text rest of s = absurd of
spelled_bit Int text rest of s = absurd of
spelled_bit BigInt text rest of s = absurd of
spelled_bit BitType text rest of s = ap (λ (t : List ℕ). value_at (Number BitType) (t ++ rest)) s.2 ∙ bit_again s.0 rest s.1
spelled_bit (NText size) text rest of s = absurd of

spelled_value : (form : Form) (value : Value) (text rest : List ℕ) → IsForm form → IsSent form value → SpellsValue form value text → value_at form (text ++ rest) ≡ Ok (value, rest)
spelled_value (Number kind) Null text rest is of s = plain_again kind (Number kind) Null text rest (number_form kind is) (kind_of_form (Number kind) is) of s
spelled_value (Number kind) (Whole number) text rest is of s = plain_again kind (Number kind) (Whole number) text rest (number_form kind is) (kind_of_form (Number kind) is) of s
spelled_value (Number kind) (Bit false) text rest is of s = plain_again kind (Number kind) (Bit false) text rest (number_form kind is) (kind_of_form (Number kind) is) of s
spelled_value (Number kind) (Bit true) text rest is of s = spelled_bit kind text rest of s
spelled_value (Number kind) (Text units) text rest is of s = plain_again kind (Number kind) (Text units) text rest (number_form kind is) (kind_of_form (Number kind) is) of s
spelled_value (Units size) Null text rest is of s = plain_again (NText size) (Units size) Null text rest refl is of s
spelled_value (Units size) (Whole number) text rest is of s = absurd of
spelled_value (Units size) (Bit bit) text rest is of s = absurd of
spelled_value (Units size) (Text units) text rest is of s = plain_again (NText size) (Units size) (Text units) text rest refl is of s
spelled_value (Bytes size) Null text rest is of s = ap (λ (t : List ℕ). value_at (Bytes size) (t ++ rest)) s ∙ null_ascii_again size rest
spelled_value (Bytes size) (Whole number) text rest is of s = absurd of
spelled_value (Bytes size) (Bit bit) text rest is of s = absurd of
spelled_value (Bytes size) (Text units) text rest is of s = ap (λ (t : List ℕ). value_at (Bytes size) (t ++ rest)) s ∙ ascii_again size units rest is.1 of.0 of.1

-- ---- parameters

spelled_named : (p : RpcParameter) (text rest : List ℕ) (s : SpellsParameter p text) → named_at p.name ((s.status ∷ (s.described ++ s.valued)) ++ rest) ≡ Ok (p, rest)
unfolding named_at byte_at
spelled_named p text rest s =
    rw (append_assoc s.described s.valued rest, spelled_type s.form s.described (s.valued ++ rest) s.typed, spelled_value s.form p.value s.valued rest (form_of_type s.form s.described s.typed) s.fits s.value, s.output, s.missing, s.kind) refl

spelled_parameter : (p : RpcParameter) (text rest : List ℕ) → SpellsParameter p text → parameter_at (text ++ rest) ≡ Ok (p, rest)
unfolding parameter_at byte_at counted_at
spelled_parameter p text rest s =
    let told = s.status ∷ (s.described ++ s.valued) in
    let small : ltb name_limit (length p.name) ≡ false = le-ltb _ _ s.name.0 in
    rw (s.parts, small, append_assoc (le_bytes_of p.name) told rest, units_again p.name (told ++ rest) s.name.1) (spelled_named p text rest s)

abbrev all_is : List RpcParameter → Result (List RpcParameter) Refusal
all_is ps = Ok ps

one_more : (p : RpcParameter) (ps : List RpcParameter) (text after : List ℕ) (most : ℕ) → parameter_at text ≡ Ok (p, after) → length after < length text → length text ≤ most → ((n : ℕ) → length after ≤ n → parameters_at n after ≡ Ok ps)
    → parameters_at most text ≡ Ok (p ∷ ps)
unfolding parameters_at
one_more p ps [] after most read fewer le others = absurd (omega arith)
one_more p ps (byte ∷ bytes) after zero read fewer le others = absurd (omega arith)
one_more p ps (byte ∷ bytes) after (suc most) read fewer le others =
    ap (λ (r : Result (RpcParameter × List ℕ) Refusal). r >>= λ first. parameters_at most first.1 >>= λ rest. all_is (first.0 ∷ rest)) read
    ∙ ap (λ (r : Result (List RpcParameter) Refusal). r >>= λ rest. all_is (p ∷ rest)) (others most (omega arith))

spelled_parameters : (ps : List RpcParameter) (text : List ℕ) (most : ℕ) → length text ≤ most → SpellsParameters ps text → parameters_at most text ≡ Ok ps
unfolding parameters_at
spelled_parameters [] text zero le s = ap (parameters_at zero) s
spelled_parameters [] text (suc most) le s = ap (parameters_at (suc most)) s
spelled_parameters (p ∷ ps) text most le s =
    let read : parameter_at text ≡ Ok (p, s.1) = ap parameter_at s.4 ∙ spelled_parameter p s.0 s.1 s.2 in
    let begins : length text ≡ length s.0 + length s.1 = ap length s.4 ∙ length-append s.0 s.1 in
    let some : 1 ≤ length s.0 = subst (λ (t : List ℕ). 1 ≤ length t) (sym s.2.parts) (omega arith) in
    one_more p ps text s.1 most read (omega (arith, begins, some)) le (λ n small. spelled_parameters ps s.1 n small s.3)

-- ---- calls

spelled_target : (target : RpcTarget) (rest : List ℕ) → IsCalled target → target_at (target_bytes target ++ rest) ≡ Ok (target, rest)
unfolding target_at target_of
spelled_target (Named name) rest is =
    let other : eqb (length name) by_number ≡ false = ne_eqb (length name) by_number (λ same. omega (arith, is.0, same)) in
    rw (append_assoc (to_le_bytes w16 (length name)) (le_bytes_of name) rest, short_again (length name) (le_bytes_of name ++ rest) (omega (arith, is.0)), other, units_again name rest is.1) refl
spelled_target ExecuteSql rest is = numbered_again rest

abbrev call_of : RpcTarget → List RpcParameter → Result RpcCall Refusal
call_of target parameters = Ok (record { target = target; parameters = parameters })

abbrev behind_target : RpcTarget × List ℕ → Result RpcCall Refusal
behind_target target = bytes_at 2 target.1 >>= λ flags. parameters_at (length flags.1) flags.1 >>= λ parameters. call_of target.0 parameters

behind_again : (target : RpcTarget) (parameters : List RpcParameter) (flags rest : List ℕ) → length flags ≡ 2 → SpellsParameters parameters rest → behind_target (target, flags ++ rest) ≡ call_of target parameters
behind_again target parameters flags rest two s = rw (bytes_again 2 flags rest two, spelled_parameters parameters rest (length rest) (omega arith) s) refl

spelled_call : (payload : List ℕ) (call : RpcCall) → Spells call payload → whole_call payload ≡ Ok call
unfolding whole_call call_at
spelled_call payload call s =
    let front : (behind_headers payload >>= call_at) ≡ call_at (target_bytes call.target ++ (s.flags ++ s.rest)) =
    ap (λ (r : Result (List ℕ) Refusal). r >>= call_at) (ap behind_headers s.parts ∙ headers_again s.headers (target_bytes call.target ++ (s.flags ++ s.rest)) s.are_headers) in
    front ∙ ap (λ (r : Result (RpcTarget × List ℕ) Refusal). r >>= behind_target) (spelled_target call.target (s.flags ++ s.rest) s.called) ∙ behind_again call.target call.parameters s.flags s.rest s.two s.parameters

-- a payload that spells a call says it
pub rpc_again : (payload : List ℕ) (call : RpcCall) → Spells call payload → rpc_of payload ≡ Ok call
unfolding rpc_of
rpc_again payload call s = rw (spelled_call payload call s) refl

pub only : (payload : List ℕ) (r : Result RpcCall RpcFault) → Answers r (rpc_of payload) → (call : RpcCall) → Spells call payload → Answers r (Ok call)
only payload r given call s = subst (Answers r) (rpc_again payload call s) given

-- ---- what is read can be written, where the procedure's name has at most 128 units

parameter_fits : (p : RpcParameter) (text : List ℕ) → SpellsParameter p text → IsParameter p
parameter_fits p text s =
    let kind = subst IsKind s.kind (kind_of_form s.form (form_of_type s.form s.described s.typed)) in
    let value = subst (λ (k : SqlType). IsOf k p.value) s.kind (sent_is_of s.form p.value s.fits) in
    record { name = s.name; kind = kind; value = value }

spelled_fit : (ps : List RpcParameter) (text : List ℕ) → SpellsParameters ps text → All IsParameter ps
spelled_fit [] text s = All-nil IsParameter
spelled_fit (p ∷ ps) text s =
    All-cons IsParameter p ps (parameter_fits p s.0 s.2) (spelled_fit ps s.1 s.3)

pub parameters_fit : (payload : List ℕ) (call : RpcCall) → Spells call payload → All IsParameter call.parameters
parameters_fit payload call s = spelled_fit call.parameters s.rest s.parameters

pub read_fits : (payload : List ℕ) (call : RpcCall) → Spells call payload → IsTarget call.target → IsCall call
read_fits payload call s is = record { target = is; parameters = parameters_fit payload call s }
