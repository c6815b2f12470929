-- Worked rows of the statements on cursors; a query is a number here.
use Rattle.std.proofs.Common.{◌≡◌, refl, ℕ, List, [], ◌∷◌, Some, None, Ok, Err}
use Rattle.std.specs.Prelude.{pos}
use Rattle.value_types.specs.declared.sql_type.SqlType.TheVariants.{Int}
use Rattle.value_types.specs.declared.value.Value.{Value}
use Rattle.value_types.specs.declared.value.Value.TheVariants.{Whole}
use Rattle.session_cursors.specs.declared.cursor.Cursor.{Cursor}
use Rattle.session_cursors.specs.declared.fault.CursorFault.TheVariants.{NoSuch, Present, AlreadyFilled, NotFilled}
use Rattle.session_cursors.specs.Cursors.{declare_answer, declared, query_of, kinds_of, fill_answer, filled, next_of, fetched, close_answer, closed, remove_answer, removed}

-- the names c, C, d and e
abbrev c : List ℕ
c = 0x63 ∷ []

abbrev capital : List ℕ
capital = 0x43 ∷ []

abbrev d : List ℕ
d = 0x64 ∷ []

abbrev e : List ℕ
e = 0x65 ∷ []

abbrev row : ℕ → List Value
row n = Whole (pos n) ∷ []

-- DECLARE c, DECLARE d, DECLARE e
abbrev three : List (Cursor ℕ)
three = declared e 3 (declared d 2 (declared c 1 []))

-- OPEN d, with two rows
abbrev open_d : List (Cursor ℕ)
open_d = filled d (Int ∷ []) (row 7 ∷ row 8 ∷ []) three

declared_twice : declare_answer d three ≡ Err Present
declared_twice = refl

-- names are compared with case
declared_with_case : declare_answer capital three ≡ Ok tt
declared_with_case = refl

queries : query_of d open_d ≡ Ok 2
queries = refl

no_query : query_of capital open_d ≡ Err NoSuch
no_query = refl

opened_twice : fill_answer d open_d ≡ Err AlreadyFilled
opened_twice = refl

-- and what is open stays
opened_still : filled d [] [] open_d ≡ open_d
opened_still = refl

not_opened : next_of c open_d ≡ Err NotFilled
not_opened = refl

kinds_known : kinds_of d open_d ≡ Ok (Int ∷ [])
kinds_known = refl

-- FETCH gives the rows in their order, and past the last none, again and again
first_fetch : next_of d open_d ≡ Ok (Some (row 7))
first_fetch = refl

second_fetch : next_of d (fetched d open_d) ≡ Ok (Some (row 8))
second_fetch = refl

third_fetch : next_of d (fetched d (fetched d open_d)) ≡ Ok None
third_fetch = refl

fourth_fetch : next_of d (fetched d (fetched d (fetched d open_d))) ≡ Ok None
fourth_fetch = refl

-- CLOSE, and OPEN anew
closed_again : closed d (fetched d open_d) ≡ three
closed_again = refl

closed_twice : close_answer d three ≡ Err NotFilled
closed_twice = refl

opened_anew : next_of d (filled d (Int ∷ []) (row 9 ∷ []) (closed d open_d)) ≡ Ok (Some (row 9))
opened_anew = refl

-- DEALLOCATE of an open cursor leaves the others in their order
without_d : removed d open_d ≡ declared e 3 (declared c 1 [])
without_d = refl

removed_twice : remove_answer d (removed d open_d) ≡ Err NoSuch
removed_twice = refl
