-- Values as ones of a type, and what is made of them.
use Rattle.std.proofs.Common.{◌≡◌, ℕ, ℤ, pos, negsuc, if◌then◌else◌, ◌≤◌, ◌<◌, ◌&&◌, Bool, true, false, List, [], ◌∷◌, ◌++◌, length, take, length-take, arith, Option, Some, Result, Ok, refl, ap, subst}
use Rattle.std.proofs.lemmas.Bool.{le-leb}
use mir.Syntax.{w32}
use mir.Val.{SFits}
use Rattle.value_types.specs.declared.sql_type.SqlType.{SqlType}
use Rattle.value_types.specs.declared.sql_type.SqlType.TheVariants.{Int, NText, SmallInt}
use Rattle.value_types.specs.declared.value.Value.{Value}
use Rattle.value_types.specs.declared.value.Value.TheVariants.{Whole}
use Rattle.value_types.specs.Types.{IsOf}
use Rattle.convert_rules.specs.declared.fault.ConvertFault.{ConvertFault}
use Rattle.convert_rules.specs.Conversion.{cast_of}
use Rattle.bound_tree.specs.Conversions.{cast_outcome}
use Rattle.bound_tree.specs.Typed.{AreOf, GivesOf, system_kinds}
use Rattle.bound_tree.proofs.Kept.{conversion_kept}
use Rattle.txn_rules.specs.declared.state.TxnState.{TxnState}
use Rattle.txn_rules.specs.State.{is_closed, xact_state}
use Rattle.batch_meaning.specs.declared.raised.Raised.{Raised}
use Rattle.batch_meaning.specs.Progress.{SessionProgress}
use Rattle.batch_meaning.specs.Raised.{error_values, procedure_value}
use Rattle.session_state.specs.Parts.{count_kinds, counts_in, error_kinds}

-- what a cast gives is of the type
pub cast_typed : (to : SqlType) (value given : Value) → cast_of value to ≡ Ok given → IsOf to given
cast_typed to value given is = subst (λ (c : Result Value ConvertFault). GivesOf to (cast_outcome Int to c)) is (conversion_kept Int to (Ok value))

-- ---- the values of the session

-- a number of 32 bits is an INT
int_of : (n : ℤ) → SFits w32 n → IsOf Int (Whole n)
int_of (pos n) fits = le-leb n 2147483647 (let low : n < 2147483648 = fits.sfits in omega arith)
int_of (negsuc n) fits = ap (λ (b : Bool). b && true) (le-leb n 2147483647 (let low : n < 2147483648 = fits.sfits in omega arith))

count_of : (n : ℕ) → n ≤ 2147483647 → IsOf Int (Whole (pos n))
count_of n few = le-leb n 2147483647 few

state_of : (txn : TxnState) → IsOf SmallInt (Whole (xact_state txn))
state_of txn = by_state (is_closed txn) txn.doomed
  where
    by_state : (closed doomed : Bool) → IsOf SmallInt (Whole (if closed then pos 0 else if doomed then negsuc 0 else pos 1))
    by_state true doomed = refl
    by_state false true = refl
    by_state false false = refl

pub counts_typed : (p : SessionProgress) → p.txn.count ≤ 2147483647 → p.row_count ≤ 2147483647 → SFits w32 p.error → SFits w32 p.fetch_status → AreOf count_kinds (counts_in p)
counts_typed p count rows error fetched = (count_of p.txn.count count, (int_of p.error error, (count_of p.row_count rows, (int_of p.fetch_status fetched, (state_of p.txn, tt)))))

short : (text : List ℕ) → length (take 4000 text) ≤ 4000
short text = omega (arith, length-take 4000 text)

named : (name : List ℕ) → length name ≤ 128 → IsOf (NText 128) (procedure_value name)
named [] few = tt
named (unit ∷ units) few = few

pub errors_typed : (raised : Raised) → SFits w32 raised.number → raised.class ≤ 255 → raised.state ≤ 255 → SFits w32 raised.line → length raised.procedure ≤ 128 → AreOf error_kinds (error_values (Some raised))
errors_typed raised number class state line name =
    (int_of raised.number number, (count_of raised.class (omega arith), (count_of raised.state (omega arith), (int_of raised.line line, (short raised.text, (named raised.procedure name, tt))))))

-- both are the values of the session
pub system_typed : (p : SessionProgress) (caught : Option Raised) → AreOf count_kinds (counts_in p) → AreOf error_kinds (error_values caught) → AreOf system_kinds (counts_in p ++ error_values caught)
system_typed p caught counts errors = (counts.0, (counts.1.0, (counts.1.1.0, (counts.1.1.1.0, (counts.1.1.1.1.0, errors)))))
