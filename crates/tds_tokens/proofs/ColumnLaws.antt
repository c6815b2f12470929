-- Types and columns that are read are those that are spelled.
use Rattle.std.proofs.Common.{◌≡◌, ℕ, ◌*◌, ◌^◌, ◌<◌, List, [], ◌∷◌, ◌++◌, length, All, Some, refl, subst}
use Rattle.std.specs.Int.{w16, to_le_bytes}
use Rattle.std.specs.List.{flat_map}
use Rattle.std.proofs.lemmas.Option.{same_Some}
use Rattle.value_types.specs.declared.sql_type.SqlType.{SqlType}
use Rattle.value_types.specs.declared.sql_type.SqlType.TheVariants.{TinyInt, SmallInt, Int, BigInt, Bit as BitType, NText}
use Rattle.tds_tokens.specs.declared.columns.ColumnInfo.{ColumnInfo}
use Rattle.tds_tokens.specs.Spelling.{collation, nvarchartype, type_info, column_start, column_bytes}
use Rattle.tds_tokens.specs.Fit.{FitsKind}
use Rattle.tds_tokens.specs.Ranges.{AreUnits}
use Rattle.tds_tokens.specs.Reading.{strip, this_type_at, text_type_at, type_at, column_at, columns_at}
use Rattle.tds_tokens.proofs.Readers.{IsBytes, bind_some, option_or_takes, strip_takes, Reads, Reads-both, Reads-made, made_takes, made_again, Reads-behind, Reads-before, Reads-counted, ReadsCount-times}
use Rattle.tds_tokens.proofs.Numbers.{Reads-16, Reads-half}
use Rattle.tds_tokens.proofs.Texts.{Reads-b_varchar}

-- the bytes begin with the type
abbrev IsTypeOf : List ℕ → SqlType × List ℕ → Type 0
IsTypeOf bytes x = (bytes ≡ type_info x.0 ++ x.1) × FitsKind x.0

this_type_takes : (kind : SqlType) (bytes : List ℕ) → FitsKind kind → (x : SqlType × List ℕ) → this_type_at kind bytes ≡ Some x → IsTypeOf bytes x
this_type_takes kind bytes fits x e =
    let a = bind_some (strip (type_info kind) bytes) (λ rest. Some (kind, rest)) x e in
    let whole : SqlType × List ℕ = (kind, a.0) in
    subst (IsTypeOf bytes) (same_Some whole x a.2) (strip_takes (type_info kind) bytes a.0 a.1, fits)

text_type_takes : (bytes : List ℕ) → IsBytes bytes → (x : SqlType × List ℕ) → text_type_at bytes ≡ Some x → IsTypeOf bytes x
unfolding text_type_at
text_type_takes bytes fits x e =
    let t = made_takes NText (Reads-before collation (Reads-behind (nvarchartype ∷ []) Reads-half)) bytes x fits e in
    subst (λ (kind : SqlType). (bytes ≡ type_info kind ++ x.1) × FitsKind kind) t.1 (t.2, t.3)

text_type_again : (size : ℕ) (rest : List ℕ) → 2 * size < 2 ^ 16 → text_type_at (type_info (NText size) ++ rest) ≡ Some (NText size, rest)
unfolding text_type_at
text_type_again size rest lt = made_again NText (Reads-before collation (Reads-behind (nvarchartype ∷ []) Reads-half)) size rest lt

type_takes : (bytes : List ℕ) (x : SqlType × List ℕ) → IsBytes bytes → type_at bytes ≡ Some x → IsTypeOf bytes x
unfolding type_at
type_takes bytes x fits e =
    let P : SqlType × List ℕ → Type 0 = IsTypeOf bytes in
    option_or_takes P (this_type_takes TinyInt bytes tt)
    (option_or_takes P (this_type_takes SmallInt bytes tt)
    (option_or_takes P (this_type_takes Int bytes tt)
    (option_or_takes P (this_type_takes BigInt bytes tt)
    (option_or_takes P (this_type_takes BitType bytes tt) (text_type_takes bytes fits)))))
    x e

type_again : (kind : SqlType) (rest : List ℕ) → FitsKind kind → type_at (type_info kind ++ rest) ≡ Some (kind, rest)
unfolding type_at strip
type_again TinyInt rest fits = refl
type_again SmallInt rest fits = refl
type_again Int rest fits = refl
type_again BigInt rest fits = refl
type_again BitType rest fits = refl
type_again (NText size) rest fits = text_type_again size rest fits

pub Reads-type : Reads type_info FitsKind type_at
Reads-type = record { takes = type_takes; again = type_again }

abbrev pub IsColumn : ColumnInfo → Type 0
IsColumn column = FitsKind column.kind × ((length column.name < 2 ^ 8) × AreUnits column.name)

Reads-column : Reads column_bytes IsColumn column_at
unfolding column_at
Reads-column =
    Reads-made (λ p. record { kind = p.0; name = p.1 }) (λ column. (column.kind, column.name)) IsColumn (λ p is. (is, refl)) (λ column is. (is, refl)) (Reads-behind column_start (Reads-both Reads-type Reads-b_varchar))

pub Reads-columns : Reads (λ columns. to_le_bytes w16 (length columns) ++ flat_map column_bytes columns) (λ columns. (length columns < 2 ^ 16) × All IsColumn columns) columns_at
unfolding columns_at
Reads-columns = Reads-counted Reads-16 (ReadsCount-times Reads-column)
