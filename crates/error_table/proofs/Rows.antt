-- Worked rows of the table, of what an error ends, and of texts.
use Rattle.std.proofs.Common.{◌≡◌, refl, true, false, pos, negsuc, map, Some, None, count_by, nat_le}
use Rattle.std.specs.Prelude.{codes}
use Rattle.std.specs.List.{list_all}
use Rattle.error_table.specs.declared.action.Action.TheVariants.{Statement, Batch, BatchAndTransaction, Doom}
use Rattle.error_table.specs.declared.action.Caught.TheVariants.{LevelUp, No}
use Rattle.error_table.specs.declared.action.RaisedBy.TheVariants.{Engine, Raiserror, Throw}
use Rattle.error_table.specs.Act.{action_of}
use Rattle.error_table.specs.Table.{error_lines, line, row_of}
use Rattle.error_table.specs.Text.{is_open, text_with}

-- ---- the table

-- no number stands twice: each line is that of its number
each_line : map (λ line. row_of line.number) error_lines ≡ map Some error_lines
unfolding error_lines row_of
each_line = refl

-- no text has two placeholders
one_placeholder : list_all (λ line. nat_le (count_by is_open line.text) 1) error_lines ≡ true
unfolding error_lines
one_placeholder = refl

first_line : row_of (pos 102) ≡ Some (line 102 15 Batch LevelUp (codes "Incorrect syntax near '{near}'."))
unfolding error_lines row_of
first_line = refl

last_line : row_of (pos 49014) ≡ Some (line 49014 16 Batch No (codes "The transaction request is not served at byte {name}."))
unfolding error_lines row_of
last_line = refl

below_first : row_of (pos 101) ≡ None
unfolding error_lines row_of
below_first = refl

below_zero : row_of (negsuc 207) ≡ None
unfolding error_lines row_of
below_zero = refl

raiserror_number : row_of (pos 50000) ≡ None
unfolding error_lines row_of
raiserror_number = refl

-- ---- what an error ends: XACT_ABORT, and then whether a TRY stands around

-- 2627 ends its statement
duplicate_key : action_of (pos 2627) Engine false false ≡ Statement
unfolding error_lines row_of
duplicate_key = refl

duplicate_key_abort : action_of (pos 2627) Engine true false ≡ BatchAndTransaction
unfolding error_lines row_of
duplicate_key_abort = refl

duplicate_key_try : action_of (pos 2627) Engine false true ≡ Statement
unfolding error_lines row_of
duplicate_key_try = refl

duplicate_key_abort_try : action_of (pos 2627) Engine true true ≡ Doom
unfolding error_lines row_of
duplicate_key_abort_try = refl

-- 245 ends the transaction, and dooms it inside TRY
conversion : action_of (pos 245) Engine false false ≡ BatchAndTransaction
unfolding error_lines row_of
conversion = refl

conversion_try : action_of (pos 245) Engine false true ≡ Doom
unfolding error_lines row_of
conversion_try = refl

-- 208 ends the batch; a TRY of the same level is none, one of an outer level catches it
unknown_table : action_of (pos 208) Engine false false ≡ Batch
unfolding error_lines row_of
unknown_table = refl

unknown_table_outer_try : action_of (pos 208) Engine false true ≡ Statement
unfolding error_lines row_of
unknown_table_outer_try = refl

-- 49001 and 18456 are caught by no TRY
statement_limit_try : action_of (pos 49001) Engine false true ≡ BatchAndTransaction
unfolding error_lines row_of
statement_limit_try = refl

login_failed_abort_try : action_of (pos 18456) Engine true true ≡ BatchAndTransaction
unfolding error_lines row_of
login_failed_abort_try = refl

-- RAISERROR ends its statement, with XACT_ABORT too
raiserror_abort : action_of (pos 50000) Raiserror true false ≡ Statement
raiserror_abort = refl

raiserror_abort_try : action_of (pos 50000) Raiserror true true ≡ Statement
raiserror_abort_try = refl

-- THROW ends the batch, and when it raises 1205 again too
throw_number : action_of (pos 50001) Throw false false ≡ Batch
throw_number = refl

throw_again : action_of (pos 1205) Throw false false ≡ Batch
throw_again = refl

throw_again_try : action_of (pos 1205) Throw false true ≡ Statement
throw_again_try = refl

throw_abort : action_of (pos 50001) Throw true false ≡ BatchAndTransaction
throw_abort = refl

throw_abort_try : action_of (pos 50001) Throw true true ≡ Doom
throw_abort_try = refl

-- ---- texts

name_filled_in : text_with (codes "Invalid object name '{name}'.") (codes "t") ≡ codes "Invalid object name 't'."
name_filled_in = refl

lexeme_filled_in : text_with (codes "Incorrect syntax near '{near}'.") (codes "{1}") ≡ codes "Incorrect syntax near '{1}'."
lexeme_filled_in = refl

no_placeholder : text_with (codes "Divide by zero error encountered.") (codes "t") ≡ codes "Divide by zero error encountered."
no_placeholder = refl
