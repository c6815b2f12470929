-- Worked rows: calls of a procedure add_item @o INT, @q INT, @n INT OUTPUT, and of others; triggers, and the rows that they see.
use Rattle.std.proofs.Common.{◌≡◌, refl, ℕ, true, false, Bool, List, [], ◌∷◌, Option, Some, None, Ok, Err}
use Rattle.std.specs.Prelude.{pos}
use Rattle.value_types.specs.declared.sql_type.SqlType.{SqlType}
use Rattle.value_types.specs.declared.sql_type.SqlType.TheVariants.{Int, TinyInt, NText}
use Rattle.value_types.specs.declared.value.Value.{Value}
use Rattle.value_types.specs.declared.value.Value.TheVariants.{Whole, Text}
use Rattle.convert_rules.specs.Reading.{digits_in}
use Rattle.session_vars.specs.declared.Variable.{Variable}
use Rattle.tsql_tree.specs.declared.definition.Definition.{Definition}
use Rattle.tsql_tree.specs.declared.definition.Definition.TheVariants.{Procedure, Trigger}
use Rattle.tsql_tree.specs.declared.definition.Event.{Event}
use Rattle.tsql_tree.specs.declared.definition.Event.TheVariants.{Insert, Update, Delete}
use Rattle.tsql_tree.specs.declared.definition.Parameter.{Parameter}
use Rattle.tsql_tree.specs.declared.statement.Argument.{Argument}
use Rattle.tsql_tree.specs.declared.statement.ArgumentValue.TheVariants.{Constant, Variable as Named}
use Rattle.step_model.specs.declared.change.Deed.{Deed}
use Rattle.step_model.specs.declared.change.Deed.TheVariants as deed
use Rattle.step_model.specs.declared.change.Planned.{Planned}
use Rattle.call_rules.specs.Arguments.{argument_values, outputs_of}
use Rattle.call_rules.specs.Triggers.{triggers_for, deleted, inserted}

-- ---- arguments

-- the names @o, @q and @n, and one that is no parameter's
abbrev o : List ℕ
o = 0x40 ∷ 0x6F ∷ []

abbrev q : List ℕ
q = 0x40 ∷ 0x71 ∷ []

abbrev n : List ℕ
n = 0x40 ∷ 0x6E ∷ []

abbrev x : List ℕ
x = 0x40 ∷ 0x78 ∷ []

abbrev parameter : List ℕ → SqlType → Bool → Parameter
parameter name kind output = record { name = name; kind = kind; output = output }

abbrev add_item : List Parameter
add_item = parameter o Int false ∷ parameter q Int false ∷ parameter n Int true ∷ []

-- the caller's variables: @n, which is 4
abbrev vars : List Variable
vars = record { name = n; kind = Int; value = Whole (pos 4) } ∷ []

-- a number, by place or by name, and the variable @n
abbrev number : Option (List ℕ) → ℕ → Argument
number name k = record { name = name; value = Constant (Whole (pos k)); output = false }

abbrev text : List ℕ → Argument
text units = record { name = None; value = Constant (Text units); output = false }

abbrev variable : Option (List ℕ) → Bool → Argument
variable name output = record { name = name; value = Named n; output = output }

-- EXEC add_item 3, 5, @n OUTPUT
by_place : argument_values vars add_item (number None 3 ∷ number None 5 ∷ variable None true ∷ []) ≡ Ok (Whole (pos 3) ∷ Whole (pos 5) ∷ Whole (pos 4) ∷ [])
by_place = refl

by_place_back : outputs_of add_item (number None 3 ∷ number None 5 ∷ variable None true ∷ []) ≡ record { place = 2; variable = n } ∷ []
by_place_back = refl

-- EXEC add_item @n = @n OUTPUT, @q = 5, @o = 3
by_name : argument_values vars add_item (variable (Some n) true ∷ number (Some q) 5 ∷ number (Some o) 3 ∷ []) ≡ Ok (Whole (pos 3) ∷ Whole (pos 5) ∷ Whole (pos 4) ∷ [])
by_name = refl

by_name_back : outputs_of add_item (variable (Some n) true ∷ number (Some q) 5 ∷ number (Some o) 3 ∷ []) ≡ record { place = 2; variable = n } ∷ []
by_name_back = refl

-- EXEC add_item @n = 1, 5, @o = 3: the second argument is for the second parameter
by_both : argument_values vars add_item (number (Some n) 1 ∷ number None 5 ∷ number (Some o) 3 ∷ []) ≡ Ok (Whole (pos 3) ∷ Whole (pos 5) ∷ Whole (pos 1) ∷ [])
by_both = refl

-- without OUTPUT nothing is written back
not_back : outputs_of add_item (number None 3 ∷ number None 5 ∷ variable None false ∷ []) ≡ []
not_back = refl

-- EXEC add_item 3, 5
one_missing : argument_values vars add_item (number None 3 ∷ number None 5 ∷ []) ≡ Err (pos 49012)
one_missing = refl

-- EXEC add_item 3, 5, @n, 7
one_too_many : argument_values vars add_item (number None 3 ∷ number None 5 ∷ variable None false ∷ number None 7 ∷ []) ≡ Err (pos 49012)
one_too_many = refl

-- EXEC add_item 3, 5, 6, @o = 7
one_doubled : argument_values vars add_item (number None 3 ∷ number None 5 ∷ number None 6 ∷ number (Some o) 7 ∷ []) ≡ Err (pos 49012)
one_doubled = refl

-- EXEC add_item 3, 5, @x = 6
one_unknown : argument_values vars add_item (number None 3 ∷ number None 5 ∷ number (Some x) 6 ∷ []) ≡ Err (pos 49012)
one_unknown = refl

-- EXEC add_item 3, 5, 6 OUTPUT
constant_back : argument_values vars add_item (number None 3 ∷ number None 5 ∷ record { name = None; value = Constant (Whole (pos 6)); output = true } ∷ []) ≡ Err (pos 49012)
constant_back = refl

-- EXEC add_item 3, @n OUTPUT, 6
input_back : argument_values vars add_item (number None 3 ∷ variable None true ∷ number None 6 ∷ []) ≡ Err (pos 49012)
input_back = refl

-- a procedure without parameters
no_arguments : argument_values vars [] [] ≡ Ok []
no_arguments = refl

-- @o NVARCHAR(2) with N'abc'
text_cut : argument_values vars (parameter o (NText 2) false ∷ []) (text (0x61 ∷ 0x62 ∷ 0x63 ∷ []) ∷ []) ≡ Ok (Text (0x61 ∷ 0x62 ∷ []) ∷ [])
text_cut = refl

-- @o TINYINT, @q INT with 300, N'x': the first that fails in the order of the parameters
first_failure : argument_values vars (parameter o TinyInt false ∷ parameter q Int false ∷ []) (number None 300 ∷ text (0x78 ∷ []) ∷ []) ≡ Err (pos 220)
first_failure = refl

-- the same with the arguments in the other order
first_of_parameters : argument_values vars (parameter q Int false ∷ parameter o TinyInt false ∷ []) (number (Some o) 300 ∷ record { name = Some q; value = Constant (Text (0x78 ∷ [])); output = false } ∷ []) ≡ Err (pos 245)
unfolding digits_in
first_of_parameters = refl

-- ---- triggers

-- the names a, b and c, and the tables t and u
abbrev trigger : ℕ → ℕ → List Event → Definition
trigger name table events = Trigger (record { name = name ∷ []; table = table ∷ []; events = events; body = [] })

-- b, c and a on t, d on u, and a procedure
abbrev definitions : List Definition
definitions = trigger 0x62 0x74 (Insert ∷ Update ∷ []) ∷ trigger 0x63 0x74 (Delete ∷ []) ∷ trigger 0x64 0x75 (Insert ∷ []) ∷ Procedure (record { name = 0x70 ∷ []; parameters = []; body = [] }) ∷ trigger 0x61 0x74 (Update ∷ Insert ∷ []) ∷ []

inserts : triggers_for (0x74 ∷ []) Insert definitions ≡ 4 ∷ 0 ∷ []
inserts = refl

deletes : triggers_for (0x74 ∷ []) Delete definitions ≡ 1 ∷ []
deletes = refl

others : triggers_for (0x75 ∷ []) Update definitions ≡ []
others = refl

-- ---- rows

-- a row of t (k INT PRIMARY KEY, j INT)
abbrev row : ℕ → ℕ → List Value
row k j = Whole (pos k) ∷ Whole (pos j) ∷ []

abbrev key : ℕ → List Value
key k = Whole (pos k) ∷ []

abbrev change : ℕ → Deed → Planned
change k of = record { table = record { object = 0x74 ∷ []; part = 0 }; key = key k; deed = of }

abbrev rows : List (List Value)
rows = row 1 10 ∷ row 2 20 ∷ row 3 30 ∷ []

-- UPDATE t SET k = k + 1 WHERE k < 3, as if there were no row 3
abbrev moves : List Planned
moves = change 1 deed.Erase ∷ change 2 deed.Erase ∷ change 2 (deed.Insert (row 2 10)) ∷ change 3 (deed.Insert (row 3 20)) ∷ []

moved_away : deleted (0 ∷ []) rows moves ≡ row 1 10 ∷ row 2 20 ∷ []
moved_away = refl

moved_to : inserted moves ≡ row 2 10 ∷ row 3 20 ∷ []
moved_to = refl

-- rows that are replaced, and one that comes in between, in another order than that of the keys
abbrev writes : List Planned
writes = change 3 (deed.Replace (row 3 31)) ∷ change 2 (deed.Insert (row 2 0)) ∷ change 1 (deed.Replace (row 1 11)) ∷ []

replaced : deleted (0 ∷ []) (row 3 30 ∷ row 1 10 ∷ []) writes ≡ row 1 10 ∷ row 3 30 ∷ []
replaced = refl

put_in_order : inserted writes ≡ row 1 11 ∷ row 2 0 ∷ row 3 31 ∷ []
put_in_order = refl

-- DELETE, and no rows at all
erased : inserted (change 1 deed.Erase ∷ []) ≡ []
erased = refl

nothing_deleted : deleted (0 ∷ []) rows (change 4 (deed.Insert (row 4 40)) ∷ []) ≡ []
nothing_deleted = refl
