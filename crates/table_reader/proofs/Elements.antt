-- What reading by descent is of a table's elements, where a draft goes along them.
use Rattle.std.specs.Prelude.{◌≡◌, ℕ, Bool, true, false, ◌||◌, List, [], ◌∷◌, Option, Some, None, if◌then◌else◌, refl}
use Rattle.std.proofs.Common.{ap, sym, ◌∙◌}
use Rattle.value_types.specs.declared.sql_type.SqlType.{SqlType}
use Rattle.tsql_lexer.specs.declared.lexeme.Sign.{Sign}
use Rattle.tsql_lexer.specs.declared.lexeme.Sign.TheVariants as s
use Rattle.tsql_tree.specs.declared.definition.ColumnTree.{ColumnTree}
use Rattle.tsql_grammar.specs.declared.kind.Kind.TheVariants as k
use Rattle.tsql_grammar.specs.declared.kind.Reserved.{Reserved}
use Rattle.tsql_grammar.specs.declared.kind.Reserved.TheVariants as word
use Rattle.tsql_grammar.specs.declared.rule.Class.{Class}
use Rattle.tsql_grammar.specs.declared.rule.Class.TheVariants as c
use Rattle.tsql_grammar.specs.declared.rule.Rule.TheVariants as r
use Rattle.tsql_grammar.specs.Lookahead.{first_classes}
use Rattle.tsql_grammar.specs.Productions.{Tree}
use Rattle.tsql_grammar.specs.Terminals.{Terminal, units}
use Rattle.tsql_grammar.specs.Trees.{Draft, Traits, empty_draft, add_column, add_key, add_unique, add_check, add_foreign}
use Rattle.lexeme_reader.proofs.Front.{if_bind, when_bind, bind_assoc}
use Rattle.lexeme_reader.specs.Reading.{Outcome, read, expect, sees_any, ◌>>=◌, when, applied}
use Rattle.table_reader.specs.Drafts.{column_rest, column_from, column_constraint_from, enclosed_names}
use Rattle.lexeme_reader.proofs.Ways.{by_order}

abbrev sign : Sign → Class
sign a = c.One (k.Sign a)

abbrev reserved : Reserved → Class
reserved a = c.One (k.Reserved a)

-- a table, whose elements are read one after another
pub table_is : (w : List Terminal) → read r.Table w
    ≡ (do x ← expect (reserved word.Table) w; name ← read r.Object x.1; y ← expect (sign s.Open) name.1; first ← applied (empty_draft name.0) (read r.Element y.1); more ← applied first.0 (read r.MoreElements first.1); z ← expect (sign s.Close) more.1; Some ((more.0.table, z.0.spanned.end), z.1))
table_is w = by_order [] r.Table w refl ∙ simp bind_assoc

pub more_elements_on : (d : Draft) (w : List Terminal) → applied d (read r.MoreElements w)
    ≡ when (expect (sign s.Comma) w) (λ x. do y ← applied d (read r.Element x.1); applied y.0 (read r.MoreElements y.1)) (Some (d, w))
more_elements_on d w = ap (applied d) (by_order [] r.MoreElements w refl) ∙ simp (when_bind, bind_assoc)

pub element_on : (d : Draft) (w : List Terminal) → applied d (read r.Element w)
    ≡ when (expect c.Name w) (λ x. do kind ← read r.Type x.1; column_from (units x.0) kind.0 d kind.1)
    (when (expect (reserved word.Constraint) w) (λ x. do y ← expect c.Name x.1; z ← read r.TableConstraint y.1; Some (z.0 (Some (units y.0)) d, z.1))
    (do z ← read r.TableConstraint w; Some (z.0 None d, z.1)))
element_on d w = ap (applied d) (by_order [] r.Element w refl) ∙ simp (when_bind, bind_assoc)

pub table_constraint_is : (w : List Terminal) → read r.TableConstraint w
    ≡ when (expect (reserved word.Primary) w) (λ x. do a ← expect (reserved word.Key) x.1; y ← enclosed_names a.1; Some (add_key y.0, y.1))
    (when (expect (reserved word.Unique) w) (λ x. do y ← enclosed_names x.1; Some (add_unique y.0, y.1))
    (when (expect (reserved word.Check) w) (λ x. do b ← expect (sign s.Open) x.1; y ← read r.Test b.1; z ← expect (sign s.Close) y.1; Some (add_check y.0, z.1))
    (do x ← expect (reserved word.Foreign) w; a ← expect (reserved word.Key) x.1; y ← enclosed_names a.1; b ← expect (reserved word.References) y.1; parent ← read r.Object b.1; z ← enclosed_names parent.1; Some (add_foreign y.0 parent.0 z.0, z.1))))
table_constraint_is w = by_order [] r.TableConstraint w refl ∙ simp bind_assoc

-- a constraint of a column, and what is done with it
then_constraint : {X : Type 0} (w : List Terminal) (g : Tree r.ColumnConstraint → List Terminal → Option X)
    → (read r.ColumnConstraint w >>= λ x. g x.0 x.1)
    ≡ when (expect (reserved word.Primary) w) (λ x. do y ← expect (reserved word.Key) x.1; g (λ name column. add_key (column ∷ []) name) y.1)
    (when (expect (reserved word.Unique) w) (λ x. g (λ name column. add_unique (column ∷ []) name) x.1)
    (when (expect (reserved word.Check) w) (λ x. do a ← expect (sign s.Open) x.1; y ← read r.Test a.1; z ← expect (sign s.Close) y.1; g (λ name column. add_check y.0 name) z.1)
    (do x ← expect (reserved word.References) w; y ← read r.Object x.1; z ← read r.ReferencedColumn y.1; g (λ name column. add_foreign (column ∷ []) y.0 z.0 name) z.1)))
then_constraint w g = ap (λ (o : Outcome (Tree r.ColumnConstraint)). o >>= λ x. g x.0 x.1) (by_order [] r.ColumnConstraint w refl) ∙ simp (when_bind, bind_assoc)

pub column_constraint_is : (column : List ℕ) (w : List Terminal) → column_constraint_from column w
    ≡ when (expect (reserved word.Primary) w) (λ x. do y ← expect (reserved word.Key) x.1; Some (add_key (column ∷ []), y.1))
    (when (expect (reserved word.Unique) w) (λ x. Some (add_unique (column ∷ []), x.1))
    (when (expect (reserved word.Check) w) (λ x. do a ← expect (sign s.Open) x.1; y ← read r.Test a.1; z ← expect (sign s.Close) y.1; Some (add_check y.0, z.1))
    (do x ← expect (reserved word.References) w; y ← read r.Object x.1; z ← read r.ReferencedColumn y.1; Some (add_foreign (column ∷ []) y.0 z.0, z.1))))
column_constraint_is column w = then_constraint w (λ own rest. Some (λ name. own name column, rest))

abbrev column_of : List ℕ → SqlType → Bool → ColumnTree
column_of name kind required = record { name = name; kind = kind; required = required }

-- a constraint may be added before the column that it stands behind
add_later : {X : Type 0} (given : Option (List ℕ)) (column : List ℕ) (kind : SqlType) (d : Draft) (w : List Terminal) (h : (Bool → Draft) → List Terminal → Option X)
    → (read r.ColumnConstraint w >>= λ x. h (λ b. x.0 given column (add_column (column_of column kind b) d)) x.1)
    ≡ (read r.ColumnConstraint w >>= λ x. h (λ b. add_column (column_of column kind b) (x.0 given column d)) x.1)
add_later given column kind d w h =
    then_constraint w (λ own rest. h (λ b. own given column (add_column (column_of column kind b) d)) rest)
    ∙ sym (then_constraint w (λ own rest. h (λ b. add_column (column_of column kind b) (own given column d)) rest))

or_true : (b : Bool) → (b || true) ≡ true
or_true true = refl
or_true false = refl

or_same : (b : Bool) → (b || false) ≡ b
or_same true = refl
or_same false = refl

-- what the traits that are read make of the draft
abbrev ended : List ℕ → SqlType → Bool → Draft → Outcome Traits → Outcome Draft
ended name kind required d o = o >>= λ x. Some (x.0.add name (add_column (column_of name kind (required || x.0.required)) d), x.1)

-- a constraint before the traits that follow it
behind_constraint : (given : Option (List ℕ)) (name : List ℕ) (kind : SqlType) (required : Bool) (d : Draft) (w : List Terminal)
    → (read r.ColumnConstraint w >>= λ x. read r.ColumnTraits x.1 >>= λ y. Some (y.0.add name (x.0 given name (add_column (column_of name kind (required || y.0.required)) d)), y.1))
    ≡ (column_constraint_from name w >>= λ x. column_rest name kind required (x.0 given d) x.1)
behind_constraint given name kind required d w =
    add_later given name kind d w (λ f rest. read r.ColumnTraits rest >>= λ y. Some (y.0.add name (f (required || y.0.required)), y.1))
    ∙ sym (bind_assoc (read r.ColumnConstraint w) (λ x. Some (λ name1. x.0 name1 name, x.1)) (λ x. column_rest name kind required (x.0 given d) x.1))

pub column_on : (name : List ℕ) (kind : SqlType) (required : Bool) (d : Draft) (w : List Terminal) → column_rest name kind required d w
    ≡ when (expect (reserved word.Null) w) (λ x. column_rest name kind required d x.1)
    (when (expect (reserved word.Not) w) (λ x. do y ← expect (reserved word.Null) x.1; column_rest name kind true d y.1)
    (when (expect (reserved word.Constraint) w) (λ x. do y ← expect c.Name x.1; z ← column_constraint_from name y.1; column_rest name kind required (z.0 (Some (units y.0)) d) z.1)
    (if sees_any (first_classes r.ColumnConstraint) w then (do z ← column_constraint_from name w; column_rest name kind required (z.0 None d) z.1)
    else Some (add_column (column_of name kind required) d, w))))
column_on name kind required d w =
    ap (ended name kind required d) (by_order [] r.ColumnTraits w refl)
    ∙ simp (when_bind, if_bind, bind_assoc, or_true, or_same, behind_constraint)

pub referenced_column_is : (w : List Terminal) → read r.ReferencedColumn w
    ≡ when (expect (sign s.Open) w) (λ x. do y ← expect c.Name x.1; z ← expect (sign s.Close) y.1; Some (units y.0 ∷ [], z.1)) (Some ([], w))
referenced_column_is w = by_order [] r.ReferencedColumn w refl
