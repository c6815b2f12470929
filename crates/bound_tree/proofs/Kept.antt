-- What each node gives is of the type that its node says, whatever its parts gave.
use Rattle.std.proofs.Common.{◌≡◌, refl, sym, ap, subst, ℕ, ◌+◌, ◌≤◌, min, max, List, ◌++◌, take, length, Bool, true, false, ◌&&◌, IsTrue, nat_le, Option, Some, None, Result, Ok, Err, arith, if◌then◌else◌, ℤ, pos, ◌+ℤ◌, ◌-ℤ◌, ◌*ℤ◌, neg_ℤ, int_div, int_rem}
use Rattle.std.specs.Prelude.{codes}
use Rattle.std.specs.Fmt.{signed_decimal}
use Rattle.std.specs.Ordering.{int_eq}
use Rattle.std.proofs.lemmas.Bool.{leb-true, eqb-true}
use Rattle.std.proofs.lemmas.List.{length-append, length-take}
use Rattle.value_types.specs.declared.value.Value.{Value}
use Rattle.value_types.specs.declared.value.Value.TheVariants.{Null, Whole, Bit, Text}
use Rattle.value_types.specs.declared.sql_type.SqlType.{SqlType}
use Rattle.value_types.specs.declared.sql_type.SqlType.TheVariants.{TinyInt, SmallInt, Int, BigInt, Bit as BitType, NText}
use Rattle.value_types.specs.Types.{IsOf, is_in_range, text_limit}
use Rattle.convert_rules.specs.declared.fault.ConvertFault.{ConvertFault}
use Rattle.convert_rules.specs.Reading.{number_in}
use Rattle.convert_rules.specs.Errors.{error_of}
use Rattle.convert_rules.specs.Conversion as rule
use Rattle.convert_rules.specs.Conversion.{cast_of, is_text}
use Rattle.bound_tree.specs.declared.expr.InfixOp.{InfixOp}
use Rattle.bound_tree.specs.declared.expr.InfixOp.TheVariants.{Add, Subtract, Multiply, Divide, Remainder}
use Rattle.bound_tree.specs.Kinds.{are_alike, longer, same_kind}
use Rattle.bound_tree.specs.Outcomes.{Outcome, after, overflow, zero_divisor}
use Rattle.bound_tree.specs.Numbers.{arithmetic_of, computed, fitted, negation_of, value_outcome}
use Rattle.bound_tree.specs.Texts.{count_units, length_of}
use Rattle.bound_tree.specs.Conversions.{cast_outcome, conversion, error_outcome}
use Rattle.bound_tree.specs.Typed.{GivesOf}

pub and_left : (a b : Bool) → IsTrue (a && b) → IsTrue a
and_left true b h = refl
and_left false b h = h

pub and_right : (a b : Bool) → IsTrue (a && b) → IsTrue b
and_right true b h = h
and_right false b h = cc

pub and_true : (a : Bool) → IsTrue a → IsTrue (a && true)
and_true true h = refl
and_true false h = h

-- ---- numbers

-- a result that was fitted is of its type
pub fitted_kept : (kind : SqlType) (number : ℤ) → GivesOf kind (value_outcome (fitted kind number))
fitted_kept kind number = by_test (is_in_range kind number) refl
  where
    by_test : (b : Bool) → is_in_range kind number ≡ b → GivesOf kind (value_outcome (if b then Ok (Some number) else Err overflow))
    by_test true e = e
    by_test false e = tt

unless_zero : (kind : SqlType) (number divisor : ℤ) → GivesOf kind (value_outcome (if int_eq divisor (pos 0) then Err zero_divisor else fitted kind number))
unless_zero kind number divisor = by_test (int_eq divisor (pos 0))
  where
    by_test : (b : Bool) → GivesOf kind (value_outcome (if b then Err zero_divisor else fitted kind number))
    by_test true = tt
    by_test false = fitted_kept kind number

computed_kept : (op : InfixOp) (kind : SqlType) (a b : ℤ) → GivesOf kind (value_outcome (computed op kind a b))
computed_kept Add kind a b = fitted_kept kind (a +ℤ b)
computed_kept Subtract kind a b = fitted_kept kind (a -ℤ b)
computed_kept Multiply kind a b = fitted_kept kind (a *ℤ b)
computed_kept Divide kind a b = unless_zero kind (int_div a b) b
computed_kept Remainder kind a b = unless_zero kind (int_rem a b) b

pub arithmetic_kept : (op : InfixOp) (kind : SqlType) (a b : Outcome (Option ℤ)) → GivesOf kind (value_outcome (arithmetic_of op kind a b))
arithmetic_kept op kind (Err n) b = tt
arithmetic_kept op kind (Ok x) (Err n) = tt
arithmetic_kept op kind (Ok None) (Ok y) = tt
arithmetic_kept op kind (Ok (Some x)) (Ok None) = tt
arithmetic_kept op kind (Ok (Some x)) (Ok (Some y)) = computed_kept op kind x y

pub negation_kept : (kind : SqlType) (a : Outcome (Option ℤ)) → GivesOf kind (value_outcome (negation_of kind a))
negation_kept kind (Err n) = tt
negation_kept kind (Ok None) = tt
negation_kept kind (Ok (Some x)) = fitted_kept kind (neg_ℤ x)

pub length_kept : (a : Outcome Value) → GivesOf Int (value_outcome (after a length_of))
length_kept (Err n) = tt
length_kept (Ok Null) = tt
length_kept (Ok (Whole n)) = tt
length_kept (Ok (Bit b)) = tt
length_kept (Ok (Text u)) = fitted_kept Int (pos (count_units u))

-- ---- conversions

-- a value that the table of conversions gives is of the type
abbrev CastOf : SqlType → Result Value ConvertFault → Type 0
CastOf kind (Ok x) = IsOf kind x
CastOf kind (Err fault) = Unit {0}

whole_kept : (kind : SqlType) (number : ℤ) → CastOf kind (rule.whole_in kind number)
whole_kept kind number = by_test (is_in_range kind number) refl
  where
    by_test : (b : Bool) → is_in_range kind number ≡ b → CastOf kind (if b then Ok (Whole number) else Err ConvertFault.Overflow)
    by_test true e = e
    by_test false e = tt

decimal_kept : (size : ℕ) (number : ℤ) → CastOf (NText size) (rule.decimal_in size number)
decimal_kept size number = by_test (nat_le (length (signed_decimal number)) size) refl
  where
    by_test : (b : Bool) → nat_le (length (signed_decimal number)) size ≡ b → CastOf (NText size) (if b then Ok (Text (signed_decimal number)) else Err ConvertFault.Overflow)
    by_test true e = leb-true _ _ e
    by_test false e = tt

from_whole_kept : (to : SqlType) (number : ℤ) → CastOf to (rule.from_whole to number)
from_whole_kept TinyInt number = whole_kept TinyInt number
from_whole_kept SmallInt number = whole_kept SmallInt number
from_whole_kept Int number = whole_kept Int number
from_whole_kept BigInt number = whole_kept BigInt number
from_whole_kept BitType number = tt
from_whole_kept (NText size) number = decimal_kept size number

read_whole_kept : (kind : SqlType) (read : Option ℤ) → CastOf kind (rule.read_whole kind read)
read_whole_kept kind None = tt
read_whole_kept kind (Some number) = whole_kept kind number

bit_kept : (units : List ℕ) → CastOf BitType (rule.bit_in units)
bit_kept units = by_test (rule.says (codes "true") units) (rule.says (codes "false") units)
  where
    read : (number : Option ℤ) → CastOf BitType (rule.read_bit number)
    read None = tt
    read (Some number) = tt

    by_test : (a b : Bool) → CastOf BitType (if a then Ok (Bit true) else if b then Ok (Bit false) else rule.read_bit (number_in units))
    by_test true b = tt
    by_test false true = tt
    by_test false false = read (number_in units)

cut_kept : (size : ℕ) (units : List ℕ) → length (take size units) ≤ size
cut_kept size units = subst (λ n. n ≤ size) (sym (length-take size units)) (omega arith)

from_text_kept : (to : SqlType) (units : List ℕ) → CastOf to (rule.text_cut to units)
from_text_kept TinyInt units = read_whole_kept TinyInt (number_in units)
from_text_kept SmallInt units = read_whole_kept SmallInt (number_in units)
from_text_kept Int units = read_whole_kept Int (number_in units)
from_text_kept BigInt units = read_whole_kept BigInt (number_in units)
from_text_kept BitType units = bit_kept units
from_text_kept (NText size) units = cut_kept size units

cast_kept : (value : Value) (to : SqlType) → CastOf to (cast_of value to)
cast_kept Null to = tt
cast_kept (Whole number) to = from_whole_kept to number
cast_kept (Bit bit) to = from_whole_kept to (rule.bit_number bit)
cast_kept (Text units) to = from_text_kept to units

pub conversion_kept : (from to : SqlType) (a : Outcome Value) → GivesOf to (after a (conversion from to))
conversion_kept from to (Err n) = tt
conversion_kept from to (Ok x) = of_cast (cast_of x to) (cast_kept x to)
  where
    of_error : (number : Option ℤ) → GivesOf to (error_outcome number)
    of_error None = tt
    of_error (Some number) = tt

    of_cast : (cast : Result Value ConvertFault) → CastOf to cast → GivesOf to (cast_outcome from to cast)
    of_cast (Ok value) e = e
    of_cast (Err fault) e = of_error (error_of fault from to)

-- ---- types

-- two types that are told to be the same are it
pub same_is : (a b : SqlType) → IsTrue (same_kind a b) → a ≡ b
same_is TinyInt TinyInt h = refl
same_is TinyInt SmallInt h = cc
same_is TinyInt Int h = cc
same_is TinyInt BigInt h = cc
same_is TinyInt BitType h = cc
same_is TinyInt (NText m) h = cc
same_is SmallInt TinyInt h = cc
same_is SmallInt SmallInt h = refl
same_is SmallInt Int h = cc
same_is SmallInt BigInt h = cc
same_is SmallInt BitType h = cc
same_is SmallInt (NText m) h = cc
same_is Int TinyInt h = cc
same_is Int SmallInt h = cc
same_is Int Int h = refl
same_is Int BigInt h = cc
same_is Int BitType h = cc
same_is Int (NText m) h = cc
same_is BigInt TinyInt h = cc
same_is BigInt SmallInt h = cc
same_is BigInt Int h = cc
same_is BigInt BigInt h = refl
same_is BigInt BitType h = cc
same_is BigInt (NText m) h = cc
same_is BitType TinyInt h = cc
same_is BitType SmallInt h = cc
same_is BitType Int h = cc
same_is BitType BigInt h = cc
same_is BitType BitType h = refl
same_is BitType (NText m) h = cc
same_is (NText n) TinyInt h = cc
same_is (NText n) SmallInt h = cc
same_is (NText n) Int h = cc
same_is (NText n) BigInt h = cc
same_is (NText n) BitType h = cc
same_is (NText n) (NText m) h = ap NText (eqb-true n m h)

-- a value of a text's type is one of a longer text's type
size_kept : (n m : ℕ) (x : Value) → n ≤ m → IsOf (NText n) x → IsOf (NText m) x
size_kept n m Null le h = tt
size_kept n m (Whole number) le h = h
size_kept n m (Bit bit) le h = absurd h
size_kept n m (Text units) le h = omega (arith, le, h)

pub longer_left : (a b : SqlType) (x : Value) → IsOf a x → IsOf (longer a b) x
longer_left TinyInt b x h = h
longer_left SmallInt b x h = h
longer_left Int b x h = h
longer_left BigInt b x h = h
longer_left BitType b x h = h
longer_left (NText n) TinyInt x h = h
longer_left (NText n) SmallInt x h = h
longer_left (NText n) Int x h = h
longer_left (NText n) BigInt x h = h
longer_left (NText n) BitType x h = h
longer_left (NText n) (NText m) x h = size_kept n (max n m) x (omega arith) h

pub longer_right : (a b : SqlType) (x : Value) → IsTrue (are_alike a b) → IsOf b x → IsOf (longer a b) x
longer_right TinyInt TinyInt x alike h = h
longer_right TinyInt SmallInt x alike h = cc
longer_right TinyInt Int x alike h = cc
longer_right TinyInt BigInt x alike h = cc
longer_right TinyInt BitType x alike h = cc
longer_right TinyInt (NText m) x alike h = cc
longer_right SmallInt TinyInt x alike h = cc
longer_right SmallInt SmallInt x alike h = h
longer_right SmallInt Int x alike h = cc
longer_right SmallInt BigInt x alike h = cc
longer_right SmallInt BitType x alike h = cc
longer_right SmallInt (NText m) x alike h = cc
longer_right Int TinyInt x alike h = cc
longer_right Int SmallInt x alike h = cc
longer_right Int Int x alike h = h
longer_right Int BigInt x alike h = cc
longer_right Int BitType x alike h = cc
longer_right Int (NText m) x alike h = cc
longer_right BigInt TinyInt x alike h = cc
longer_right BigInt SmallInt x alike h = cc
longer_right BigInt Int x alike h = cc
longer_right BigInt BigInt x alike h = h
longer_right BigInt BitType x alike h = cc
longer_right BigInt (NText m) x alike h = cc
longer_right BitType TinyInt x alike h = cc
longer_right BitType SmallInt x alike h = cc
longer_right BitType Int x alike h = cc
longer_right BitType BigInt x alike h = cc
longer_right BitType BitType x alike h = h
longer_right BitType (NText m) x alike h = cc
longer_right (NText n) TinyInt x alike h = cc
longer_right (NText n) SmallInt x alike h = cc
longer_right (NText n) Int x alike h = cc
longer_right (NText n) BigInt x alike h = cc
longer_right (NText n) BitType x alike h = cc
longer_right (NText n) (NText m) x alike h = size_kept m (max n m) x (omega arith) h

-- ---- texts joined

-- two texts of these lengths at most, joined and cut, are of the type of a text of both lengths
pub joined_size : (n m : ℕ) (u v : List ℕ) → length u ≤ n → length v ≤ m → length (take text_limit (u ++ v)) ≤ min text_limit (n + m)
joined_size n m u v left right = subst (λ k. k ≤ min text_limit (n + m)) (sym (length-take text_limit (u ++ v)))
    (subst (λ k. min text_limit k ≤ min text_limit (n + m)) (sym (length-append u v)) (omega (arith, left, right)))
