-- Values and rows that are read are those that are spelled.
use Rattle.std.proofs.Common.{◌≡◌, ℕ, zero, suc, ◌*◌, ◌%◌, ◌^◌, ◌<◌, ◌≤◌, Bool, true, false, cond, eqb, ltb, leb, List, [], ◌∷◌, ◌++◌, length, All, Some, None, pos, negsuc, refl, sym, ap, subst, ◌∙◌, append_assoc, arith}
use Rattle.std.specs.Int.{w16, to_le_bytes}
use Rattle.std.proofs.lemmas.Bool.{ltb-true, leb-true, le-leb, ne_eqb}
use Rattle.std.proofs.lemmas.Int.{ints}
use Rattle.std.proofs.lemmas.List.Elements.{All-nil, All-cons, All-head, All-tail}
use Rattle.std.proofs.lemmas.Option.{same_Some}
use Rattle.value_types.specs.declared.sql_type.SqlType.{SqlType}
use Rattle.value_types.specs.declared.sql_type.SqlType.TheVariants.{TinyInt, SmallInt, Int, BigInt, Bit as BitType, NText}
use Rattle.value_types.specs.declared.value.Value.{Value}
use Rattle.value_types.specs.declared.value.Value.TheVariants.{Null, Whole, Bit, Text}
use Rattle.value_types.specs.Units.{le_bytes_of}
use Rattle.tds_tokens.specs.declared.columns.ColumnInfo.{ColumnInfo}
use Rattle.tds_tokens.specs.Spelling.{type_info, value_bytes, row_bytes}
use Rattle.tds_tokens.specs.Fit.{FitsKind, FitsType, FitsColumns}
use Rattle.tds_tokens.specs.Ranges.{AreUnits, HasUnits}
use Rattle.tds_tokens.specs.Reading.{◌>>=◌, strip, bit_at, text_at, type_at, filled_at, value_at, typed_at, values_at}
use Rattle.tds_tokens.proofs.Readers.{IsBytes, IsBytes-rest, bind_some, option_or_takes, strip_takes, Reads, Reads-made, Reads-only, Reads-is, made_takes, made_again, Reads-behind, Reads-counted}
use Rattle.tds_tokens.proofs.Numbers.{Reads-byte, Reads-signed16, Reads-signed32, Reads-signed64, Reads-half}
use Rattle.tds_tokens.proofs.Texts.{ReadsCount-units}
use Rattle.tds_tokens.proofs.ColumnLaws.{Reads-type}

-- ---- bits and texts

bit_there : (byte : ℕ) → ltb byte 2 ≡ true → cond (eqb byte 1) 1 0 ≡ byte
bit_there zero lt = refl
bit_there (suc zero) lt = refl
bit_there (suc (suc byte)) lt = absurd (omega (arith, ltb-true (suc (suc byte)) 2 lt))

bit_here : (bit : Bool) → ((cond bit 1 0 < 2 ^ 8) × (ltb (cond bit 1 0) 2 ≡ true)) × (eqb (cond bit 1 0) 1 ≡ bit)
bit_here true = ((omega arith, refl), refl)
bit_here false = ((omega arith, refl), refl)

Reads-bit : Reads (λ bit. cond bit 1 0 ∷ []) (λ bit. Unit {0}) bit_at
unfolding bit_at
Reads-bit =
    Reads-made (λ byte. eqb byte 1) (λ bit. cond bit 1 0) (λ bit. Unit {0}) (λ byte is. (tt, bit_there byte is.1)) (λ bit is. bit_here bit) (Reads-only (λ byte. ltb byte 2) Reads-byte)

abbrev IsTextOf : ℕ → List ℕ → Type 0
IsTextOf size units = ((length units ≤ size) × (2 * length units < 2 ^ 16)) × AreUnits units

Reads-text : (size : ℕ) → Reads (λ units. to_le_bytes w16 (2 * length units) ++ le_bytes_of units) (IsTextOf size) (text_at size)
unfolding text_at
Reads-text size =
    Reads-is (IsTextOf size) (λ units is. ((leb-true (length units) size is.0.1, is.0.0), is.1)) (λ units is. ((is.0.1, le-leb (length units) size is.0.0), is.1))
    (Reads-counted (Reads-only (λ count. leb count size) Reads-half) ReadsCount-units)

-- ---- values

abbrev IsValueOf : SqlType → Value → Type 0
IsValueOf kind value = FitsType kind value × HasUnits value

-- the bytes begin with a value of the type
abbrev BeginsWith : SqlType → List ℕ → Value × List ℕ → Type 0
BeginsWith kind bytes x = (bytes ≡ value_bytes kind x.0 ++ x.1) × IsValueOf kind x.0

null_fits : (kind : SqlType) → IsValueOf kind Null
null_fits TinyInt = (tt, tt)
null_fits SmallInt = (tt, tt)
null_fits Int = (tt, tt)
null_fits BigInt = (tt, tt)
null_fits BitType = (tt, tt)
null_fits (NText size) = (tt, tt)

null_takes : (kind : SqlType) (bytes : List ℕ) (x : Value × List ℕ) → (strip (value_bytes kind Null) bytes >>= λ rest. Some (Null, rest)) ≡ Some x → BeginsWith kind bytes x
null_takes kind bytes x e =
    let a = bind_some (strip (value_bytes kind Null) bytes) (λ rest. Some (Null, rest)) x e in
    let whole : Value × List ℕ = (Null, a.0) in
    subst (BeginsWith kind bytes) (same_Some whole x a.2) (strip_takes (value_bytes kind Null) bytes a.0 a.1, null_fits kind)

tiny_fits : (n : ℕ) → n < 2 ^ 8 → FitsType TinyInt (Whole (pos n))
tiny_fits n lt = (omega (arith, ints), omega (arith, ints))

filled_takes : (kind : SqlType) (bytes : List ℕ) (x : Value × List ℕ) → IsBytes bytes → filled_at kind bytes ≡ Some x → BeginsWith kind bytes x
unfolding filled_at
filled_takes TinyInt bytes x fits e =
    let t = made_takes (λ n. Whole (pos n)) (Reads-behind (1 ∷ []) Reads-byte) bytes x fits e in
    let same : t.0 % 256 ≡ t.0 = omega (arith, t.3) in
    subst (λ (v : Value). (bytes ≡ value_bytes TinyInt v ++ x.1) × IsValueOf TinyInt v) t.1 (t.2 ∙ ap (λ byte. 1 ∷ byte ∷ x.1) (sym same), (tiny_fits t.0 t.3, tt))
filled_takes SmallInt bytes x fits e =
    let t = made_takes Whole (Reads-behind (2 ∷ []) Reads-signed16) bytes x fits e in
    subst (λ (v : Value). (bytes ≡ value_bytes SmallInt v ++ x.1) × IsValueOf SmallInt v) t.1 (t.2, (t.3, tt))
filled_takes Int bytes x fits e =
    let t = made_takes Whole (Reads-behind (4 ∷ []) Reads-signed32) bytes x fits e in
    subst (λ (v : Value). (bytes ≡ value_bytes Int v ++ x.1) × IsValueOf Int v) t.1 (t.2, (t.3, tt))
filled_takes BigInt bytes x fits e =
    let t = made_takes Whole (Reads-behind (8 ∷ []) Reads-signed64) bytes x fits e in
    subst (λ (v : Value). (bytes ≡ value_bytes BigInt v ++ x.1) × IsValueOf BigInt v) t.1 (t.2, (t.3, tt))
filled_takes BitType bytes x fits e =
    let t = made_takes Bit (Reads-behind (1 ∷ []) Reads-bit) bytes x fits e in
    subst (λ (v : Value). (bytes ≡ value_bytes BitType v ++ x.1) × IsValueOf BitType v) t.1 (t.2, (tt, tt))
filled_takes (NText size) bytes x fits e =
    let t = made_takes Text (Reads-text size) bytes x fits e in
    subst (λ (v : Value). (bytes ≡ value_bytes (NText size) v ++ x.1) × IsValueOf (NText size) v) t.1 (t.2, t.3)

value_takes : (kind : SqlType) (bytes : List ℕ) (x : Value × List ℕ) → IsBytes bytes → value_at kind bytes ≡ Some x → BeginsWith kind bytes x
unfolding value_at
value_takes kind bytes x fits e = option_or_takes (BeginsWith kind bytes) (null_takes kind bytes) (λ y given. filled_takes kind bytes y fits given) x e

-- a text's length is even, and NULL's is not
text_is_not_null : (units rest : List ℕ) → strip (0xFF ∷ 0xFF ∷ []) (to_le_bytes w16 (2 * length units) ++ rest) ≡ None
unfolding strip
text_is_not_null units rest =
    let odd : eqb (2 * length units % 256) 255 ≡ false = ne_eqb (2 * length units % 256) 255 (λ same. omega arith) in
    rw odd refl

tiny_again : (n : ℕ) (rest : List ℕ) → FitsType TinyInt (Whole (pos n)) → filled_at TinyInt (1 ∷ n % 256 ∷ rest) ≡ Some (Whole (pos n), rest)
unfolding filled_at
tiny_again n rest fits =
    let lt : n < 2 ^ 8 = omega (arith, ints, fits.1) in
    let same : n % 256 ≡ n = omega arith in
    ap (λ byte. filled_at TinyInt (1 ∷ byte ∷ rest)) same ∙ made_again (λ k. Whole (pos k)) (Reads-behind (1 ∷ []) Reads-byte) n rest lt

text_again : (size : ℕ) (units rest : List ℕ) → IsTextOf size units → value_at (NText size) (value_bytes (NText size) (Text units) ++ rest) ≡ Some (Text units, rest)
unfolding value_at filled_at
text_again size units rest is = rw (text_is_not_null units (le_bytes_of units ++ rest)) (made_again Text (Reads-text size) units rest is)

value_again : (kind : SqlType) (value : Value) (rest : List ℕ) → IsValueOf kind value → value_at kind (value_bytes kind value ++ rest) ≡ Some (value, rest)
unfolding value_at filled_at strip
value_again TinyInt Null rest is = refl
value_again TinyInt (Whole (pos n)) rest is = tiny_again n rest is.0
value_again TinyInt (Whole (negsuc n)) rest is = absurd (omega (arith, ints, is.0.0))
value_again TinyInt (Bit bit) rest is = absurd is.0
value_again TinyInt (Text units) rest is = absurd is.0
value_again SmallInt Null rest is = refl
value_again SmallInt (Whole z) rest is = made_again Whole (Reads-behind (2 ∷ []) Reads-signed16) z rest is.0
value_again SmallInt (Bit bit) rest is = absurd is.0
value_again SmallInt (Text units) rest is = absurd is.0
value_again Int Null rest is = refl
value_again Int (Whole z) rest is = made_again Whole (Reads-behind (4 ∷ []) Reads-signed32) z rest is.0
value_again Int (Bit bit) rest is = absurd is.0
value_again Int (Text units) rest is = absurd is.0
value_again BigInt Null rest is = refl
value_again BigInt (Whole z) rest is = made_again Whole (Reads-behind (8 ∷ []) Reads-signed64) z rest is.0
value_again BigInt (Bit bit) rest is = absurd is.0
value_again BigInt (Text units) rest is = absurd is.0
value_again BitType Null rest is = refl
value_again BitType (Whole z) rest is = absurd is.0
value_again BitType (Bit bit) rest is = made_again Bit (Reads-behind (1 ∷ []) Reads-bit) bit rest tt
value_again BitType (Text units) rest is = absurd is.0
value_again (NText size) Null rest is = refl
value_again (NText size) (Whole z) rest is = absurd is.0
value_again (NText size) (Bit bit) rest is = absurd is.0
value_again (NText size) (Text units) rest is = text_again size units rest is

-- ---- a type, and a value of it

abbrev pub IsTyped : SqlType × Value → Type 0
IsTyped p = FitsKind p.0 × IsValueOf p.0 p.1

abbrev pub typed_bytes : SqlType × Value → List ℕ
typed_bytes p = type_info p.0 ++ value_bytes p.0 p.1

typed_takes : (bytes : List ℕ) (x : (SqlType × Value) × List ℕ) → IsBytes bytes → typed_at bytes ≡ Some x → (bytes ≡ typed_bytes x.0 ++ x.1) × IsTyped x.0
unfolding typed_at
typed_takes bytes x fits e =
    let a = bind_some (type_at bytes) (λ kind. value_at kind.0 kind.1 >>= λ value. Some ((kind.0, value.0), value.1)) x e in
    let b = bind_some (value_at a.0.0 a.0.1) (λ value. Some ((a.0.0, value.0), value.1)) x a.2 in
    let t1 = Reads-type.takes bytes a.0 fits a.1 in
    let t2 = value_takes a.0.0 a.0.1 b.0 (IsBytes-rest (type_info a.0.0) a.0.1 (subst IsBytes t1.0 fits)) b.1 in
    let parts : bytes ≡ typed_bytes (a.0.0, b.0.0) ++ b.0.1 =
    t1.0 ∙ ap (λ l. type_info a.0.0 ++ l) t2.0 ∙ sym (append_assoc (type_info a.0.0) (value_bytes a.0.0 b.0.0) b.0.1) in
    let whole : (SqlType × Value) × List ℕ = ((a.0.0, b.0.0), b.0.1) in
    subst (λ (y : (SqlType × Value) × List ℕ). (bytes ≡ typed_bytes y.0 ++ y.1) × IsTyped y.0) (same_Some whole x b.2) (parts, (t1.1, t2.1))

typed_again : (p : SqlType × Value) (rest : List ℕ) → IsTyped p → typed_at (typed_bytes p ++ rest) ≡ Some (p, rest)
unfolding typed_at
typed_again p rest is =
    ap typed_at (append_assoc (type_info p.0) (value_bytes p.0 p.1) rest)
    ∙ rw (Reads-type.again p.0 (value_bytes p.0 p.1 ++ rest) is.0, value_again p.0 p.1 rest is.1) refl

pub Reads-typed : Reads typed_bytes IsTyped typed_at
Reads-typed = record { takes = typed_takes; again = typed_again }

-- ---- rows

abbrev pub IsRowOf : List ColumnInfo → List Value → Type 0
IsRowOf columns values = FitsColumns columns values × All HasUnits values

values_take : (columns : List ColumnInfo) (bytes : List ℕ) (x : List Value × List ℕ) → IsBytes bytes → values_at columns bytes ≡ Some x → (bytes ≡ row_bytes columns x.0 ++ x.1) × IsRowOf columns x.0
values_take [] bytes x fits e =
    let whole : List Value × List ℕ = ([], bytes) in
    subst (λ (y : List Value × List ℕ). (bytes ≡ row_bytes [] y.0 ++ y.1) × IsRowOf [] y.0) (same_Some whole x e) (refl, (tt, All-nil HasUnits))
values_take (column ∷ columns) bytes x fits e =
    let a = bind_some (value_at column.kind bytes) (λ first. values_at columns first.1 >>= λ others. Some (first.0 ∷ others.0, others.1)) x e in
    let b = bind_some (values_at columns a.0.1) (λ others. Some (a.0.0 ∷ others.0, others.1)) x a.2 in
    let t1 = value_takes column.kind bytes a.0 fits a.1 in
    let t2 = values_take columns a.0.1 b.0 (IsBytes-rest (value_bytes column.kind a.0.0) a.0.1 (subst IsBytes t1.0 fits)) b.1 in
    let parts : bytes ≡ row_bytes (column ∷ columns) (a.0.0 ∷ b.0.0) ++ b.0.1 =
    t1.0 ∙ ap (λ l. value_bytes column.kind a.0.0 ++ l) t2.0 ∙ sym (append_assoc (value_bytes column.kind a.0.0) (row_bytes columns b.0.0) b.0.1) in
    let whole : List Value × List ℕ = (a.0.0 ∷ b.0.0, b.0.1) in
    subst (λ (y : List Value × List ℕ). (bytes ≡ row_bytes (column ∷ columns) y.0 ++ y.1) × IsRowOf (column ∷ columns) y.0) (same_Some whole x b.2)
    (parts, ((t1.1.0, t2.1.0), All-cons HasUnits a.0.0 b.0.0 t1.1.1 t2.1.1))

values_again : (columns : List ColumnInfo) (values : List Value) (rest : List ℕ) → IsRowOf columns values → values_at columns (row_bytes columns values ++ rest) ≡ Some (values, rest)
values_again [] [] rest is = refl
values_again [] (value ∷ values) rest is = absurd is.0
values_again (column ∷ columns) [] rest is = absurd is.0
values_again (column ∷ columns) (value ∷ values) rest is =
    let first : IsValueOf column.kind value = (is.0.0, All-head HasUnits value values is.1) in
    let others : IsRowOf columns values = (is.0.1, All-tail HasUnits value values is.1) in
    ap (values_at (column ∷ columns)) (append_assoc (value_bytes column.kind value) (row_bytes columns values) rest)
    ∙ rw (value_again column.kind value (row_bytes columns values ++ rest) first, values_again columns values rest others) refl

pub Reads-row : (columns : List ColumnInfo) → Reads (row_bytes columns) (IsRowOf columns) (values_at columns)
Reads-row columns = record { takes = values_take columns; again = values_again columns }
