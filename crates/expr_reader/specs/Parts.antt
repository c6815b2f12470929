-- Transact-SQL reference, expressions and search conditions: what is read behind a first lexeme or tree. Each is a
-- part of a production.
use Rattle.std.specs.Prelude.{ℕ, ◌+◌, Bool, List, ◌∷◌, Some, Result, Ok, Err, if◌then◌else◌, ◌≡◌}
use Rattle.tsql_lexer.specs.declared.lexeme.Sign.TheVariants as s
use Rattle.tsql_tree.specs.declared.query.Aggregate.{Aggregate}
use Rattle.tsql_tree.specs.declared.query.Aggregate.TheVariants as aggregate
use Rattle.tsql_tree.specs.declared.query.Expr.{Expr}
use Rattle.tsql_tree.specs.declared.query.Expr.TheVariants as expr
use Rattle.tsql_tree.specs.declared.query.SystemWord.{SystemWord}
use Rattle.tsql_tree.specs.declared.query.SystemWord.TheVariants as system
use Rattle.tsql_grammar.specs.declared.kind.Function.{Function}
use Rattle.tsql_grammar.specs.declared.kind.Function.TheVariants as f
use Rattle.tsql_grammar.specs.declared.kind.Kind.TheVariants as k
use Rattle.tsql_grammar.specs.declared.kind.Reserved.TheVariants as word
use Rattle.tsql_grammar.specs.declared.rule.Class.TheVariants as c
use Rattle.tsql_grammar.specs.declared.rule.Rule.TheVariants as r
use Rattle.tsql_tree.specs.declared.query.Test.{Test}
use Rattle.tsql_tree.specs.declared.query.Test.TheVariants as test
use Rattle.tsql_grammar.specs.Lookahead.{begins_simple, adds}
use Rattle.tsql_grammar.specs.Terminals.{Terminal}
use Rattle.tsql_grammar.specs.Trees.{with_signs, product, sum, all_of, any_of}
use Rattle.lexeme_reader.specs.declared.fault.ReadFault.{ReadFault}
use Rattle.lexeme_reader.specs.declared.fault.ReadFault.TheVariants.{NoRoom}
use Rattle.lexeme_reader.specs.Reading.{Outcome, read, expect, sees_any, ◌>>=◌, when, applied}

-- CASE and what follows it
abbrev pub case_from : List Terminal → Outcome Expr
case_from w = do
  first ← read r.Arm w
  more ← read r.MoreArms first.1
  other ← read r.CaseElse more.1
  last ← expect (c.One (k.Reserved word.End)) other.1
  Some (expr.Case (first.0 ∷ more.0) other.0, last.1)

-- two operands in parentheses
abbrev pub pair_from : (Expr → Expr → Expr) → List Terminal → Outcome Expr
pair_from make w = do
  open_ ← expect (c.One (k.Sign s.Open)) w
  first ← read r.Expr open_.1
  comma ← expect (c.One (k.Sign s.Comma)) first.1
  second ← read r.Expr comma.1
  last ← expect (c.One (k.Sign s.Close)) second.1
  Some (make first.0 second.0, last.1)

-- COALESCE and what follows it
abbrev pub coalesce_from : List Terminal → Outcome Expr
coalesce_from w = do
  open_ ← expect (c.One (k.Sign s.Open)) w
  exprs ← read r.Exprs open_.1
  last ← expect (c.One (k.Sign s.Close)) exprs.1
  Some (expr.Coalesce exprs.0, last.1)

-- a function without arguments
abbrev pub system_from : SystemWord → List Terminal → Outcome Expr
system_from word w = do
  open_ ← expect (c.One (k.Sign s.Open)) w
  last ← expect (c.One (k.Sign s.Close)) open_.1
  Some (expr.System word, last.1)

-- an aggregate of an operand
abbrev pub aggregate_from : Aggregate → List Terminal → Outcome Expr
aggregate_from of w = do
  open_ ← expect (c.One (k.Sign s.Open)) w
  distinct ← read r.Distinct open_.1
  operand ← read r.Expr distinct.1
  last ← expect (c.One (k.Sign s.Close)) operand.1
  Some (expr.Aggregate of distinct.0 operand.0, last.1)

-- an operand behind a function's word
abbrev pub cast_from : List Terminal → Outcome Expr
cast_from w = do
  open_ ← expect (c.One (k.Sign s.Open)) w
  operand ← read r.Expr open_.1
  word_ ← expect (c.One (k.Reserved word.As)) operand.1
  kind ← read r.Type word_.1
  last ← expect (c.One (k.Sign s.Close)) kind.1
  Some (expr.Cast operand.0 kind.0, last.1)

abbrev pub length_from : List Terminal → Outcome Expr
length_from w = do
  open_ ← expect (c.One (k.Sign s.Open)) w
  operand ← read r.Expr open_.1
  last ← expect (c.One (k.Sign s.Close)) operand.1
  Some (expr.Length operand.0, last.1)

abbrev pub count_from : List Terminal → Outcome Expr
count_from w = do
  open_ ← expect (c.One (k.Sign s.Open)) w
  counted ← read r.CountArguments open_.1
  last ← expect (c.One (k.Sign s.Close)) counted.1
  Some (counted.0, last.1)

-- what follows a function's word
abbrev pub arguments_from : Function → List Terminal → Outcome Expr
arguments_from f.Cast w = cast_from w
arguments_from f.IsNull w = pair_from expr.IsNull w
arguments_from f.Len w = length_from w
arguments_from f.Count w = count_from w
arguments_from f.Sum w = aggregate_from aggregate.Sum w
arguments_from f.Avg w = aggregate_from aggregate.Avg w
arguments_from f.Min w = aggregate_from aggregate.Min w
arguments_from f.Max w = aggregate_from aggregate.Max w
arguments_from f.XactState w = system_from system.XactState w
arguments_from f.ErrorNumber w = system_from system.ErrorNumber w
arguments_from f.ErrorSeverity w = system_from system.ErrorSeverity w
arguments_from f.ErrorState w = system_from system.ErrorState w
arguments_from f.ErrorLine w = system_from system.ErrorLine w
arguments_from f.ErrorMessage w = system_from system.ErrorMessage w
arguments_from f.ErrorProcedure w = system_from system.ErrorProcedure w
arguments_from f.SchemaName w = system_from system.SchemaName w
arguments_from f.DatabaseName w = system_from system.DatabaseName w
arguments_from f.UserName w = system_from system.UserName w

-- signs and an operand
abbrev pub signed_from : List Terminal → Outcome Expr
signed_from w = do
  first ← read r.AddSign w
  more ← read r.MoreSigns first.1
  operand ← read r.Primary more.1
  Some (with_signs (first.0 ∷ more.0) operand.0, operand.1)

-- what is joined to a first operand
abbrev pub chain_from : Expr → List Terminal → Outcome Expr
chain_from first w = do
  factors ← read r.MoreFactors w
  terms ← read r.MoreTerms factors.1
  Some (sum (product first factors.0) terms.0, terms.1)

-- EXISTS and what follows it
abbrev pub exists_from : List Terminal → Outcome Test
exists_from w = do
  open_ ← expect (c.One (k.Sign s.Open)) w
  word_ ← expect (c.One (k.Reserved word.Select)) open_.1
  select ← read r.Select word_.1
  last ← expect (c.One (k.Sign s.Close)) select.1
  Some (test.Exists select.0, last.1)

-- an operand that is in no parenthesis, and what follows it in a test
abbrev pub operand_from : List Terminal → Outcome Test
operand_from w =
    if sees_any begins_simple w then (do x ← read r.SimplePrimary w; applied x.0 (read (r.Operand 0) x.1))
    else (do x ← signed_from w; applied x.0 (read (r.Operand 0) x.1))

-- what is joined to a first test, to the end of the parenthesis that encloses them
abbrev pub closed_from : Test → List Terminal → Outcome Test
closed_from inner w = do
  ands ← read r.MoreAnds w
  ors ← read r.MoreOrs ands.1
  last ← expect (c.One (k.Sign s.Close)) ors.1
  Some (test.Parens (any_of (all_of inner ands.0) ors.0), last.1)

-- a comparison to the end of the parenthesis that encloses it, in n further ones
abbrev pub compared_from : Expr → ℕ → List Terminal → Outcome Test
compared_from left n w = do
  inner ← applied left (read r.Comparison w)
  first ← closed_from inner.0 inner.1
  applied first.0 (read (r.Tested n) first.1)

-- NOT and what follows it, where NOTs and a test stand alone
abbrev pub negated_from : List Terminal → Outcome Test
negated_from w = do
  more ← read r.MoreNots w
  inner ← read r.Basic more.1
  Some (test.Not (more.0 + 1) inner.0, inner.1)

-- What stands behind a parenthesis with n others open before it, where it is no parenthesis: an operand,
-- a sign, SELECT, NOT or EXISTS, behind these words.
abbrev pub simple_from : ℕ → List Terminal → Outcome Test
simple_from n w = do
  first ← read r.SimplePrimary w
  applied first.0 (read (r.Operand (n + 1)) first.1)

abbrev pub enclosed_signed_from : ℕ → List Terminal → Outcome Test
enclosed_signed_from n w = do
  first ← signed_from w
  applied first.0 (read (r.Operand (n + 1)) first.1)

abbrev pub enclosed_select_from : ℕ → List Terminal → Outcome Test
enclosed_select_from n w = do
  select ← read r.Select w
  last ← expect (c.One (k.Sign s.Close)) select.1
  applied (expr.Query select.0) (read (r.Operand n) last.1)

abbrev pub enclosed_not_from : ℕ → List Terminal → Outcome Test
enclosed_not_from n w = do
  negated ← negated_from w
  first ← closed_from negated.0 negated.1
  applied first.0 (read (r.Tested n) first.1)

abbrev pub enclosed_exists_from : ℕ → List Terminal → Outcome Test
enclosed_exists_from n w = do
  exists ← exists_from w
  first ← closed_from exists.0 exists.1
  applied first.0 (read (r.Tested n) first.1)

abbrev pub enclosed_from : ℕ → List Terminal → Outcome Test
enclosed_from n w =
    if sees_any begins_simple w then simple_from n w else
    (if sees_any adds w then enclosed_signed_from n w else
    when (expect (c.One (k.Reserved word.Select)) w) (λ x. enclosed_select_from n x.1)
    (when (expect (c.One (k.Reserved word.Not)) w) (λ x. enclosed_not_from n x.1)
    (do x ← expect (c.One (k.Reserved word.Exists)) w; enclosed_exists_from n x.1)))

-- what stands behind a left operand: IS, BETWEEN or IN with what follows each
abbrev pub is_from : Expr → List Terminal → Outcome Test
is_from left w = do
  negated ← read r.OptionalNot w
  last ← expect (c.One (k.Reserved word.Null)) negated.1
  Some (test.IsNull left negated.0, last.1)

abbrev pub between_from : Expr → Bool → List Terminal → Outcome Test
between_from left negated w = do
  low ← read r.Expr w
  word_ ← expect (c.One (k.Reserved word.And)) low.1
  high ← read r.Expr word_.1
  Some (test.Between left negated low.0 high.0, high.1)

abbrev pub membership_from : Expr → Bool → List Terminal → Outcome Test
membership_from left negated w = do
  x ← read r.Membership w
  Some (x.0 left negated, x.1)

abbrev pub in_list_from : Expr → Bool → List Terminal → Outcome Test
in_list_from left negated w = do
  x ← read r.InList w
  Some (x.0 left negated, x.1)

-- So many parentheses were read, and no further one comes; or there were more than can be counted.
abbrev pub Opens : List Terminal → Result ℕ ReadFault → List Terminal → Type 0
Opens old (Ok n) new = read (r.Opened 0) old ≡ enclosed_from n new
Opens old (Err e) new = e ≡ NoRoom
