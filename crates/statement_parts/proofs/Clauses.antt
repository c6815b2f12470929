-- What reading by descent is at each rule of a statement's parts.
use Rattle.std.specs.Prelude.{◌≡◌, ℕ, Bool, true, false, ◌&&◌, not, List, [], ◌∷◌, ◌++◌, Some, None, if◌then◌else◌, refl}
use Rattle.std.proofs.Common.{ap, ◌∙◌, append-nil, append_assoc}
use Rattle.tsql_lexer.specs.declared.lexeme.Sign.{Sign}
use Rattle.tsql_lexer.specs.declared.lexeme.Sign.TheVariants as s
use Rattle.tsql_tree.specs.declared.query.Expr.{Expr}
use Rattle.tsql_tree.specs.declared.statement.Assignment.{Assignment}
use Rattle.tsql_tree.specs.declared.statement.Declaration.{Declaration}
use Rattle.tsql_tree.specs.declared.option.SessionOption.TheVariants as option
use Rattle.tsql_tree.specs.declared.statement.Form.TheVariants as form
use Rattle.tsql_tree.specs.declared.statement.InsertRows.TheVariants as rows
use Rattle.tsql_grammar.specs.declared.kind.Kind.TheVariants as k
use Rattle.tsql_grammar.specs.declared.kind.Reserved.{Reserved}
use Rattle.tsql_grammar.specs.declared.kind.Reserved.TheVariants as word
use Rattle.tsql_grammar.specs.declared.kind.Word.{Word}
use Rattle.tsql_grammar.specs.declared.kind.Word.TheVariants as v
use Rattle.tsql_grammar.specs.declared.rule.Around.{Around}
use Rattle.tsql_grammar.specs.declared.rule.Class.{Class}
use Rattle.tsql_grammar.specs.declared.rule.Class.TheVariants as c
use Rattle.tsql_grammar.specs.declared.rule.Rule.TheVariants as r
use Rattle.tsql_grammar.specs.Lookahead.{begins_expr}
use Rattle.tsql_grammar.specs.Terminals.{Terminal, units}
use Rattle.lexeme_reader.proofs.Front.{front_bind, front_when, when_bind, bind_assoc}
use Rattle.lexeme_reader.specs.Reading.{read, expect, sees_any, ◌>>=◌, when, applied, front}
use Rattle.statement_parts.specs.Forms.{throw_form, declare_form, declare_cursor_form, set_variable_form}
use Rattle.statement_words.specs.Forms.{fixed_option_form, other_option_form}
use Rattle.lexeme_reader.proofs.Ways.{by_order}

abbrev sign : Sign → Class
sign a = c.One (k.Sign a)

abbrev reserved : Reserved → Class
reserved a = c.One (k.Reserved a)

abbrev plain : Word → Class
plain a = c.One (k.Word a)

abbrev variable : Class
variable = c.One k.Variable

-- ---- statements that write

pub into_is : (w : List Terminal) → read r.Into w ≡ when (expect (reserved word.Into) w) (λ x. Some (tt, x.1)) (Some (tt, w))
into_is w = by_order [] r.Into w refl

pub after_insert_table_on : (table : List ℕ) (w : List Terminal) → applied table (read r.AfterInsertTable w)
    ≡ when (expect (sign s.Open) w) (λ x. do y ← read r.Names x.1; z ← expect (sign s.Close) y.1; given ← read r.InsertRows z.1; Some (form.Insert table y.0 given.0, given.1))
    (do given ← read r.InsertRows w; Some (form.Insert table [] given.0, given.1))
after_insert_table_on table w = ap (applied table) (by_order [] r.AfterInsertTable w refl) ∙ simp (when_bind, bind_assoc)

pub insert_rows_is : (w : List Terminal) → read r.InsertRows w
    ≡ when (expect (reserved word.Values) w) (λ x. do first ← read r.ValueRow x.1; more ← read r.MoreValueRows first.1; Some (rows.Values (first.0 ∷ more.0), more.1))
    (do x ← expect (reserved word.Select) w; y ← read r.Select x.1; Some (rows.Query y.0, y.1))
insert_rows_is w = by_order [] r.InsertRows w refl

pub value_row_is : (w : List Terminal) → read r.ValueRow w ≡ (do x ← expect (sign s.Open) w; y ← read r.Exprs x.1; z ← expect (sign s.Close) y.1; Some (y.0, z.1))
value_row_is w = by_order [] r.ValueRow w refl

pub more_value_rows_on : (done : List (List Expr)) (w : List Terminal) → front done (read r.MoreValueRows w)
    ≡ when (expect (sign s.Comma) w) (λ x. do y ← read r.ValueRow x.1; front (done ++ y.0 ∷ []) (read r.MoreValueRows y.1)) (Some (done, w))
more_value_rows_on done w = ap (front done) (by_order [] r.MoreValueRows w refl) ∙ simp (front_when, front_bind, append_assoc, append-nil)

pub assignment_is : (w : List Terminal) → read r.Assignment w
    ≡ (do x ← expect c.Name w; y ← expect (sign s.Equal) x.1; z ← read r.Expr y.1; Some (record { name = units x.0; value = z.0 }, z.1))
assignment_is w = by_order [] r.Assignment w refl

pub more_assignments_on : (done : List Assignment) (w : List Terminal) → front done (read r.MoreAssignments w)
    ≡ when (expect (sign s.Comma) w) (λ x. do y ← read r.Assignment x.1; front (done ++ y.0 ∷ []) (read r.MoreAssignments y.1)) (Some (done, w))
more_assignments_on done w = ap (front done) (by_order [] r.MoreAssignments w refl) ∙ simp (front_when, front_bind, append_assoc, append-nil)

pub delete_from_is : (w : List Terminal) → read r.DeleteFrom w ≡ when (expect (reserved word.From) w) (λ x. Some (tt, x.1)) (Some (tt, w))
delete_from_is w = by_order [] r.DeleteFrom w refl

-- ---- control

pub optional_expr_is : (w : List Terminal) → read r.OptionalExpr w ≡ (if sees_any begins_expr w then (do x ← read r.Expr w; Some (Some x.0, x.1)) else Some (None, w))
optional_expr_is w = by_order [] r.OptionalExpr w refl

turned : {A : Type 0} (x y : A) (b : Bool) → (if b then x else y) ≡ (if not b then y else x)
turned x y true = refl
turned x y false = refl

throw_by : (x y : Bool) (w : List Terminal) → read (r.ThrowArguments (record { in_while = x; in_catch = y })) w
    ≡ (if y && not (sees_any begins_expr w) then Some (form.ThrowAgain, w) else throw_form w)
throw_by x false w = by_order [] (r.ThrowArguments (record { in_while = x; in_catch = false })) w refl
throw_by x true w = by_order [] (r.ThrowArguments (record { in_while = x; in_catch = true })) w refl ∙ turned (throw_form w) (Some (form.ThrowAgain, w)) (sees_any begins_expr w)

pub throw_arguments_is : (a : Around) (w : List Terminal) → read (r.ThrowArguments a) w
    ≡ (if a.in_catch && not (sees_any begins_expr w) then Some (form.ThrowAgain, w) else throw_form w)
throw_arguments_is a w = throw_by a.in_while a.in_catch w

-- ---- cursors

pub cursor_scope_is : (w : List Terminal) → read r.CursorScope w
    ≡ when (expect (plain v.Local) w) (λ x. Some (tt, x.1)) (when (expect (plain v.Global) w) (λ x. Some (tt, x.1)) (Some (tt, w)))
cursor_scope_is w = by_order [] r.CursorScope w refl

pub cursor_static_is : (w : List Terminal) → read r.CursorStatic w ≡ when (expect (plain v.Static) w) (λ x. Some (tt, x.1)) (Some (tt, w))
cursor_static_is w = by_order [] r.CursorStatic w refl

pub cursor_read_only_is : (w : List Terminal) → read r.CursorReadOnly w ≡ when (expect (plain v.ReadOnly) w) (λ x. Some (tt, x.1)) (Some (tt, w))
cursor_read_only_is w = by_order [] r.CursorReadOnly w refl

-- ---- DECLARE and SET

pub after_declare_is : (w : List Terminal) → read r.AfterDeclare w ≡ (if sees_any (variable ∷ []) w then declare_form w else declare_cursor_form w)
after_declare_is w = by_order [] r.AfterDeclare w refl

pub declaration_is : (w : List Terminal) → read r.Declaration w
    ≡ (do x ← expect variable w; y ← read r.OptionalAs x.1; kind ← read r.Type y.1; z ← read r.Initial kind.1; Some (record { name = units x.0; kind = kind.0; initial = z.0 }, z.1))
declaration_is w = by_order [] r.Declaration w refl

pub more_declarations_on : (done : List Declaration) (w : List Terminal) → front done (read r.MoreDeclarations w)
    ≡ when (expect (sign s.Comma) w) (λ x. do y ← read r.Declaration x.1; front (done ++ y.0 ∷ []) (read r.MoreDeclarations y.1)) (Some (done, w))
more_declarations_on done w = ap (front done) (by_order [] r.MoreDeclarations w refl) ∙ simp (front_when, front_bind, append_assoc, append-nil)

pub optional_as_is : (w : List Terminal) → read r.OptionalAs w ≡ when (expect (reserved word.As) w) (λ x. Some (tt, x.1)) (Some (tt, w))
optional_as_is w = by_order [] r.OptionalAs w refl

pub initial_is : (w : List Terminal) → read r.Initial w ≡ when (expect (sign s.Equal) w) (λ x. do y ← read r.Expr x.1; Some (Some y.0, y.1)) (Some (None, w))
initial_is w = by_order [] r.Initial w refl

pub after_set_is : (w : List Terminal) → read r.AfterSet w
    ≡ when (expect (c.One k.Variable) w) (λ x. set_variable_form (units x.0) x.1)
    (when (expect (plain v.XactAbort) w) (λ x. do on ← read r.OnOff x.1; Some (form.SetOption (option.XactAbort on.0), on.1))
    (when (expect (plain v.NoCount) w) (λ x. do on ← read r.OnOff x.1; Some (form.SetOption (option.NoCount on.0), on.1))
    (when (expect (plain v.ImplicitTransactions) w) (λ x. do on ← read r.OnOff x.1; Some (form.SetOption (option.ImplicitTransactions on.0), on.1))
    (other_option_form w))))
unfolding fixed_option_form
after_set_is w = by_order [] r.AfterSet w refl
