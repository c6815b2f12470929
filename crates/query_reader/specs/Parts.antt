-- Transact-SQL reference, SELECT: what is read behind a first lexeme or tree. Each is a part of a production.
use Rattle.std.specs.Prelude.{ℕ, List, ◌∷◌, Option, Some, None}
use Rattle.tsql_lexer.specs.declared.lexeme.Sign.TheVariants as s
use Rattle.tsql_grammar.specs.declared.kind.Kind.TheVariants as k
use Rattle.tsql_grammar.specs.declared.kind.Reserved.TheVariants as word
use Rattle.tsql_grammar.specs.declared.rule.Class.TheVariants as c
use Rattle.tsql_grammar.specs.declared.rule.Rule.TheVariants as r
use Rattle.tsql_tree.specs.declared.query.Item.{Item}
use Rattle.tsql_tree.specs.declared.query.Item.TheVariants as item
use Rattle.tsql_tree.specs.declared.query.Join.{Join}
use Rattle.tsql_tree.specs.declared.query.Join.TheVariants as joined
use Rattle.tsql_tree.specs.declared.query.Select.{Select, roll-Select}
use Rattle.tsql_grammar.specs.Terminals.{Terminal, units}
use Rattle.lexeme_reader.specs.Reading.{Outcome, read, expect, ◌>>=◌, when}

-- an item and those that follow it
abbrev pub items_from : Item → List Terminal → Outcome (List Item)
items_from first w = do
  more ← read r.MoreItems w
  Some (first ∷ more.0, more.1)

-- the value of a first variable, and the variables that follow it
abbrev pub assigns_from : List ℕ → List Terminal → Outcome (List Item)
assigns_from name w = do
  value ← read r.Expr w
  more ← read r.MoreAssigns value.1
  Some (item.Assign name value.0 ∷ more.0, more.1)

-- a further variable and its value
abbrev pub assign_from : List Terminal → Outcome Item
assign_from w = do
  name ← expect (c.One k.Variable) w
  sign ← expect (c.One (k.Sign s.Equal)) name.1
  value ← read r.Expr sign.1
  Some (item.Assign (units name.0) value.0, value.1)

-- a table that is joined, behind JOIN, behind LEFT, and with what says how
abbrev pub inner_from : List Terminal → Outcome Join
inner_from w = do
  table ← read r.TableRef w
  word_ ← expect (c.One (k.Reserved word.On)) table.1
  on ← read r.Test word_.1
  Some (joined.Inner table.0 on.0, on.1)

abbrev pub left_from : List Terminal → Outcome Join
left_from w = do
  outer ← read r.Outer w
  join ← expect (c.One (k.Reserved word.Join)) outer.1
  table ← read r.TableRef join.1
  word_ ← expect (c.One (k.Reserved word.On)) table.1
  on ← read r.Test word_.1
  Some (joined.Left table.0 on.0, on.1)

abbrev pub join_from : List Terminal → Outcome (Option Join)
join_from w =
    when (expect (c.One (k.Sign s.Comma)) w) (λ x. do a ← read r.TableRef x.1; Some (Some (joined.Comma a.0), a.1))
    (when (expect (c.One (k.Reserved word.Join)) w) (λ x. do a ← inner_from x.1; Some (Some a.0, a.1))
    (when (expect (c.One (k.Reserved word.Inner)) w) (λ x. do a ← expect (c.One (k.Reserved word.Join)) x.1; b ← inner_from a.1; Some (Some b.0, b.1))
    (when (expect (c.One (k.Reserved word.Left)) w) (λ x. do a ← left_from x.1; Some (Some a.0, a.1))
    (when (expect (c.One (k.Reserved word.Cross)) w) (λ x. do a ← expect (c.One (k.Reserved word.Join)) x.1; b ← read r.TableRef a.1; Some (Some (joined.Cross b.0), b.1))
    (Some (None, w))))))

-- a select behind its word
abbrev pub select_from : List Terminal → Outcome Select
select_from w = do
  distinct ← read r.Distinct w
  top ← read r.Top distinct.1
  items ← read r.Items top.1
  from ← read r.From items.1
  filter ← read r.Where from.1
  groups ← read r.GroupBy filter.1
  having ← read r.Having groups.1
  order ← read r.OrderBy having.1
  Some (
    roll-Select (record {
      distinct = distinct.0;
      top = top.0;
      items = items.0;
      from = from.0;
      filter = filter.0;
      groups = groups.0;
      having = having.0;
      order = order.0;
    }),
    order.1,
  )
