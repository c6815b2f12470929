-- What reading by descent is at each rule of selects.
use Rattle.std.specs.Prelude.{◌≡◌, ℕ, Bool, true, false, ◌||◌, List, [], ◌∷◌, ◌++◌, map, Option, Some, None, if◌then◌else◌, refl}
use Rattle.std.proofs.Common.{inl, inr, ap, ◌∙◌, append-nil, append_assoc}
use Rattle.tsql_lexer.specs.declared.lexeme.Sign.{Sign}
use Rattle.tsql_lexer.specs.declared.lexeme.Sign.TheVariants as s
use Rattle.tsql_tree.specs.declared.query.Expr.TheVariants as expr
use Rattle.tsql_tree.specs.declared.query.FromClause.{roll-FromClause}
use Rattle.tsql_tree.specs.declared.query.Item.{Item}
use Rattle.tsql_tree.specs.declared.query.Item.TheVariants as item
use Rattle.tsql_tree.specs.declared.query.OrderItem.{OrderItem, roll-OrderItem}
use Rattle.tsql_tree.specs.declared.query.Expr.{Expr}
use Rattle.tsql_tree.specs.declared.query.Join.{Join}
use Rattle.tsql_grammar.specs.declared.kind.Function.{Function}
use Rattle.tsql_grammar.specs.declared.kind.Function.TheVariants as f
use Rattle.tsql_grammar.specs.declared.kind.Kind.TheVariants as k
use Rattle.tsql_grammar.specs.declared.kind.Reserved.{Reserved}
use Rattle.tsql_grammar.specs.declared.kind.Reserved.TheVariants as word
use Rattle.tsql_grammar.specs.declared.rule.Class.{Class}
use Rattle.tsql_grammar.specs.declared.rule.Class.TheVariants as c
use Rattle.tsql_grammar.specs.declared.rule.Rule.TheVariants as r
use Rattle.tsql_grammar.specs.Kinds.{functions}
use Rattle.tsql_grammar.specs.Lookahead.{begins_other}
use Rattle.tsql_grammar.specs.Productions.{way}
use Rattle.tsql_grammar.specs.Terminals.{Terminal, kind as kind_at, units, number}
use Rattle.grammar_laws.specs.Grammar.Symbol.{lexeme, rule}
use Rattle.lexeme_reader.proofs.Ways.{by_order, by_certain, ordered, Skips}
use Rattle.lexeme_reader.proofs.Front.{front_bind, front_when, bind_assoc, when_bind, if_bind}
use Rattle.expr_reader.proofs.Equations.{skips_distinct}
use Rattle.expr_reader.specs.Parts.{signed_from, chain_from}
use Rattle.query_reader.specs.Parts.{select_from, items_from, assigns_from, assign_from, join_from}
use Rattle.lexeme_reader.specs.Reading.{Outcome, read, ahead, expect, sees_any, ◌>>=◌, when, applied, front}

abbrev sign : Sign → Class
sign a = c.One (k.Sign a)

abbrev reserved : Reserved → Class
reserved a = c.One (k.Reserved a)

pub top_is : (w : List Terminal) → read r.Top w ≡ when (expect (reserved word.Top) w) (λ x. do y ← read r.TopNumber x.1; Some (Some y.0, y.1)) (Some (None, w))
top_is w = by_order [] r.Top w refl

pub top_number_is : (w : List Terminal) → read r.TopNumber w
    ≡ when (expect (c.One k.Number) w) (λ x. Some (number x.0, x.1)) (do x ← expect (sign s.Open) w; y ← expect (c.One k.Number) x.1; z ← expect (sign s.Close) y.1; Some (number y.0, z.1))
top_number_is w = by_order [] r.TopNumber w refl

skips_top : Skips [] r.Top
unfolding sees_any expect
skips_top [] e = (None, top_is [])
skips_top (t ∷ w) e = (None, top_is (t ∷ w) ∙ rw (or_no _ e) refl)
  where
    or_no : (b : Bool) → (b || false) ≡ false → b ≡ false
    or_no true e = e
    or_no false e = refl

pub select_is : (w : List Terminal) → read r.Select w ≡ select_from w
select_is w = by_certain [] r.Select w (inr (skips_distinct, inr (skips_top, inl refl)), refl)

pub items_is : (w : List Terminal) → read r.Items w
    ≡ when (expect (c.One k.Variable) w) (λ x. applied (units x.0) (read r.AfterFirstVariable x.1))
    (when (expect (sign s.Star) w) (λ x. items_from item.All x.1)
    (if sees_any (c.Name ∷ []) w then (do x ← read r.NamedItem w; items_from x.0 x.1)
    else (do x ← read r.OtherItem w; items_from x.0 x.1)))
items_is w = by_order [] r.Items w refl

pub after_first_variable_is : (name : List ℕ) (w : List Terminal) → applied name (read r.AfterFirstVariable w)
    ≡ when (expect (sign s.Equal) w) (λ x. assigns_from name x.1)
    (do x ← applied (expr.Variable name) (read r.AfterItemOperand w); items_from x.0 x.1)
after_first_variable_is name w = ap (applied name) (by_order [] r.AfterFirstVariable w refl) ∙ simp (when_bind, bind_assoc)

pub more_assigns_on : (done : List Item) (w : List Terminal) → front done (read r.MoreAssigns w)
    ≡ when (expect (sign s.Comma) w) (λ x. do y ← assign_from x.1; front (done ++ y.0 ∷ []) (read r.MoreAssigns y.1)) (Some (done, w))
more_assigns_on done w = ap (front done) (by_order [] r.MoreAssigns w refl) ∙ simp (front_when, front_bind, bind_assoc, append_assoc, append-nil)

pub more_items_on : (done : List Item) (w : List Terminal) → front done (read r.MoreItems w)
    ≡ when (expect (sign s.Comma) w) (λ x. do y ← read r.Item x.1; front (done ++ y.0 ∷ []) (read r.MoreItems y.1)) (Some (done, w))
more_items_on done w = ap (front done) (by_order [] r.MoreItems w refl) ∙ simp (front_when, front_bind, append_assoc, append-nil)

pub item_is : (w : List Terminal) → read r.Item w
    ≡ when (expect (c.One k.Variable) w) (λ x. applied (expr.Variable (units x.0)) (read r.AfterItemOperand x.1))
    (when (expect (sign s.Star) w) (λ x. Some (item.All, x.1))
    (if sees_any (c.Name ∷ []) w then (do x ← read r.NamedItem w; Some (x.0, x.1)) else (do x ← read r.OtherItem w; Some (x.0, x.1))))
item_is w = by_order [] r.Item w refl

-- what is read behind the names of functions
pub item_rest : List Terminal → Outcome Item
item_rest w = ordered [] r.NamedItem (map (λ a. way (lexeme (c.One (k.Function a)) ∷ rule (r.AfterItemFunction a) ∷ []) (λ name after. after (units name))) functions) w

pub named_item_is : (w : List Terminal) → read r.NamedItem w ≡ when (expect c.PlainName w) (λ x. applied (units x.0) (read r.AfterItemName x.1)) (item_rest w)
unfolding item_rest
named_item_is w = by_order [] r.NamedItem w refl

function_at : (a : Function) (t : Terminal) (w : List Terminal) → kind_at t ≡ k.Function a
    → item_rest (t ∷ w) ≡ (do x ← expect (c.One (k.Function a)) (t ∷ w); applied (units x.0) (read (r.AfterItemFunction a) x.1))
unfolding expect item_rest
function_at f.Cast t w e = rw e refl
function_at _ t w e = rw e refl

item_function_is : (a : Function) (w : List Terminal) → ahead w ≡ Some (k.Function a)
    → item_rest w ≡ (do x ← expect (c.One (k.Function a)) w; applied (units x.0) (read (r.AfterItemFunction a) x.1))
item_function_is a [] e = absurd (cc)
item_function_is a (t ∷ w) e = let same : kind_at t ≡ k.Function a = cc in function_at a t w same

-- where no other name comes next, that of a function does
pub named_item_function_is : (a : Function) (w : List Terminal) → expect c.PlainName w ≡ None → ahead w ≡ Some (k.Function a)
    → read r.NamedItem w ≡ (do x ← expect (c.One (k.Function a)) w; applied (units x.0) (read (r.AfterItemFunction a) x.1))
named_item_function_is a w e f = named_item_is w ∙ rw e (item_function_is a w f)

pub after_item_name_is : (name : List ℕ) (w : List Terminal) → applied name (read r.AfterItemName w)
    ≡ when (expect (sign s.Dot) w) (λ x. applied name (read r.AfterItemDot x.1)) (applied (expr.Column None name) (read r.AfterItemOperand w))
after_item_name_is name w = ap (applied name) (by_order [] r.AfterItemName w refl) ∙ simp (when_bind, bind_assoc)

pub after_item_dot_is : (table : List ℕ) (w : List Terminal) → applied table (read r.AfterItemDot w)
    ≡ when (expect (sign s.Star) w) (λ x. Some (item.AllOf table, x.1))
    (do x ← expect c.Name w; applied (expr.Column (Some table) (units x.0)) (read r.AfterItemOperand x.1))
after_item_dot_is table w = ap (applied table) (by_order [] r.AfterItemDot w refl) ∙ simp (when_bind, bind_assoc)

pub after_item_function_is : (name : List ℕ) (a : Function) (w : List Terminal) → applied name (read (r.AfterItemFunction a) w)
    ≡ (if sees_any (sign s.Open ∷ []) w then (do x ← read (r.FunctionArguments a) w; applied x.0 (read r.AfterItemOperand x.1)) else applied name (read r.AfterItemName w))
after_item_function_is name a w = ap (applied name) (by_order [] (r.AfterItemFunction a) w refl) ∙ simp (if_bind, bind_assoc)

pub other_item_is : (w : List Terminal) → read r.OtherItem w
    ≡ (if sees_any begins_other w then (do x ← read r.OtherPrimary w; applied x.0 (read r.AfterItemOperand x.1)) else
    when (expect (sign s.Open) w) (λ x. do a ← read r.Enclosed x.1; b ← expect (sign s.Close) a.1; applied a.0 (read r.AfterItemOperand b.1))
    (do x ← signed_from w; applied x.0 (read r.AfterItemOperand x.1)))
other_item_is w = by_order [] r.OtherItem w refl ∙ simp bind_assoc

pub after_item_operand_is : (first : Expr) (w : List Terminal) → applied first (read r.AfterItemOperand w)
    ≡ (do x ← chain_from first w; y ← read r.Alias x.1; Some (item.Value x.0 y.0, y.1))
after_item_operand_is first w = ap (applied first) (by_order [] r.AfterItemOperand w refl) ∙ simp bind_assoc

pub alias_is : (w : List Terminal) → read r.Alias w
    ≡ when (expect (reserved word.As) w) (λ x. do y ← expect c.Name x.1; Some (Some (units y.0), y.1)) (when (expect c.Name w) (λ x. Some (Some (units x.0), x.1)) (Some (None, w)))
alias_is w = by_order [] r.Alias w refl

pub from_is : (w : List Terminal) → read r.From w
    ≡ when (expect (reserved word.From) w) (λ x. do y ← read r.TableRef x.1; z ← read r.Joins y.1; Some (Some (roll-FromClause (record { first = y.0; joins = z.0 })), z.1)) (Some (None, w))
from_is w = by_order [] r.From w refl

pub table_ref_is : (w : List Terminal) → read r.TableRef w ≡ (do x ← read r.Object w; y ← read r.Alias x.1; Some (record { name = x.0; alias = y.0 }, y.1))
table_ref_is w = by_order [] r.TableRef w refl

-- what follows a table that was joined, or the end of the tables
abbrev pub join_next : List Join → Option Join → List Terminal → Outcome (List Join)
join_next done None w = Some (done, w)
join_next done (Some table) w = front (done ++ table ∷ []) (read r.Joins w)

pub joins_on : (done : List Join) (w : List Terminal) → front done (read r.Joins w) ≡ (do x ← join_from w; join_next done x.0 x.1)
joins_on done w = ap (front done) (by_order [] r.Joins w refl) ∙ simp (front_when, front_bind, when_bind, bind_assoc, append_assoc, append-nil)

pub outer_is : (w : List Terminal) → read r.Outer w ≡ when (expect (reserved word.Outer) w) (λ x. Some (tt, x.1)) (Some (tt, w))
outer_is w = by_order [] r.Outer w refl

pub where_is : (w : List Terminal) → read r.Where w ≡ when (expect (reserved word.Where) w) (λ x. do y ← read r.Test x.1; Some (Some y.0, y.1)) (Some (None, w))
where_is w = by_order [] r.Where w refl

pub group_by_is : (w : List Terminal) → read r.GroupBy w
    ≡ when (expect (reserved word.Group) w) (λ x. do y ← expect (reserved word.By) x.1; z ← read r.Exprs y.1; Some (z.0, z.1)) (Some ([], w))
group_by_is w = by_order [] r.GroupBy w refl

pub having_is : (w : List Terminal) → read r.Having w ≡ when (expect (reserved word.Having) w) (λ x. do y ← read r.Test x.1; Some (Some y.0, y.1)) (Some (None, w))
having_is w = by_order [] r.Having w refl

pub order_by_is : (w : List Terminal) → read r.OrderBy w
    ≡ when (expect (reserved word.Order) w) (λ x. do y ← expect (reserved word.By) x.1; a ← read r.OrderItem y.1; b ← read r.MoreOrderItems a.1; Some (a.0 ∷ b.0, b.1)) (Some ([], w))
order_by_is w = by_order [] r.OrderBy w refl

pub order_item_is : (w : List Terminal) → read r.OrderItem w
    ≡ (do x ← read r.Expr w; y ← read r.Direction x.1; Some (roll-OrderItem (record { expr = x.0; descending = y.0 }), y.1))
order_item_is w = by_order [] r.OrderItem w refl

pub direction_is : (w : List Terminal) → read r.Direction w
    ≡ when (expect (reserved word.Asc) w) (λ x. Some (false, x.1)) (when (expect (reserved word.Desc) w) (λ x. Some (true, x.1)) (Some (false, w)))
direction_is w = by_order [] r.Direction w refl

pub more_order_items_on : (done : List OrderItem) (w : List Terminal) → front done (read r.MoreOrderItems w)
    ≡ when (expect (sign s.Comma) w) (λ x. do y ← read r.OrderItem x.1; front (done ++ y.0 ∷ []) (read r.MoreOrderItems y.1)) (Some (done, w))
more_order_items_on done w = ap (front done) (by_order [] r.MoreOrderItems w refl) ∙ simp (front_when, front_bind, append_assoc, append-nil)
