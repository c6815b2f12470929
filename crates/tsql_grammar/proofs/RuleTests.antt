-- Each rule of the grammar passes its test, which tries every kind of lexeme.
use Rattle.std.specs.Prelude.{◌≡◌, ℕ, zero, suc, Bool, true, false, List, refl}
use Rattle.tsql_grammar.specs.declared.kind.Function.{Function}
use Rattle.tsql_grammar.specs.declared.kind.Function.TheVariants as f
use Rattle.tsql_grammar.specs.declared.rule.Around.{Around}
use Rattle.tsql_grammar.specs.declared.rule.Rule.{Rule}
use Rattle.tsql_grammar.specs.declared.rule.Rule.TheVariants as r
use Rattle.tsql_grammar.specs.Kinds.{kinds}
use Rattle.tsql_grammar.specs.Language.{language}
use Rattle.grammar_laws.proofs.KindTests.{rule_ok}

abbrev IsOk : List ℕ → Rule → Type 0
IsOk text a = rule_ok (language text) kinds a ≡ true

abbrev pub around : Bool → Bool → Around
around x y = record { in_while = x; in_catch = y }

body_ok : (text : List ℕ) (x y : Bool) → IsOk text (r.Body (around x y))
body_ok text true true = refl
body_ok text true false = refl
body_ok text false true = refl
body_ok text false false = refl

statement_ok : (text : List ℕ) (x y : Bool) → IsOk text (r.Statement (around x y))
statement_ok text true true = refl
statement_ok text true false = refl
statement_ok text false true = refl
statement_ok text false false = refl

other_statement_ok : (text : List ℕ) (x y : Bool) → IsOk text (r.OtherStatement (around x y))
other_statement_ok text true true = refl
other_statement_ok text true false = refl
other_statement_ok text false true = refl
other_statement_ok text false false = refl

after_begin_ok : (text : List ℕ) (x y : Bool) → IsOk text (r.AfterBegin (around x y))
after_begin_ok text true true = refl
after_begin_ok text true false = refl
after_begin_ok text false true = refl
after_begin_ok text false false = refl

else_ok : (text : List ℕ) (x y : Bool) → IsOk text (r.Else (around x y))
else_ok text true true = refl
else_ok text true false = refl
else_ok text false true = refl
else_ok text false false = refl

throw_ok : (text : List ℕ) (x y : Bool) → IsOk text (r.ThrowArguments (around x y))
throw_ok text true true = refl
throw_ok text true false = refl
throw_ok text false true = refl
throw_ok text false false = refl

item_function_ok : (text : List ℕ) (a : Function) → IsOk text (r.AfterItemFunction a)
item_function_ok text f.Cast = refl
item_function_ok text _ = refl

function_ok : (text : List ℕ) (a : Function) → IsOk text (r.AfterFunction a)
function_ok text f.Cast = refl
function_ok text _ = refl

arguments_ok : (text : List ℕ) (a : Function) → IsOk text (r.FunctionArguments a)
arguments_ok text f.Cast = refl
arguments_ok text _ = refl

operand_ok : (text : List ℕ) (n : ℕ) → IsOk text (r.Operand n)
operand_ok text zero = refl
operand_ok text (suc n) = refl

compared_ok : (text : List ℕ) (n : ℕ) → IsOk text (r.Compared n)
compared_ok text zero = refl
compared_ok text (suc zero) = refl
compared_ok text (suc (suc n)) = refl

tested_ok : (text : List ℕ) (n : ℕ) → IsOk text (r.Tested n)
tested_ok text zero = refl
tested_ok text (suc zero) = refl
tested_ok text (suc (suc n)) = refl

opened_ok : (text : List ℕ) (n : ℕ) → IsOk text (r.Opened n)
opened_ok text zero = refl
opened_ok text (suc n) = refl

pub ok : (text : List ℕ) (a : Rule) → IsOk text a
ok text (r.Body a) = body_ok text a.in_while a.in_catch
ok text (r.Statement a) = statement_ok text a.in_while a.in_catch
ok text (r.OtherStatement a) = other_statement_ok text a.in_while a.in_catch
ok text (r.AfterBegin a) = after_begin_ok text a.in_while a.in_catch
ok text (r.Else a) = else_ok text a.in_while a.in_catch
ok text (r.ThrowArguments a) = throw_ok text a.in_while a.in_catch
ok text (r.AfterItemFunction a) = item_function_ok text a
ok text (r.AfterFunction a) = function_ok text a
ok text (r.FunctionArguments a) = arguments_ok text a
ok text (r.Opened n) = opened_ok text n
ok text (r.Operand n) = operand_ok text n
ok text (r.Compared n) = compared_ok text n
ok text (r.Tested n) = tested_ok text n
ok text _ = refl
