-- Transact-SQL reference, "SELECT": the answer of a query on images, which stand for its
-- references: those of its inner queries first. Inner queries are answered before what they stand
-- in, one after another, also those whose value is not needed; one that stands as a value is
-- refused where it is answered, if it has rows more than one. The statement has one budget of
-- pairs.
use Rattle.std.specs.Prelude.{ℕ, Bool, true, List, [], ◌∷◌, ◌++◌, map, Ok, Err}
use Rattle.std.specs.List.{flat_map}
use Rattle.value_types.specs.declared.value.Value.{Value}
use Rattle.bound_tree.specs.declared.query.BoundQuery.{BoundQuery, out-BoundQuery}
use Rattle.bound_tree.specs.declared.query.BoundQuery.TheOpen.{BoundQuery-F, InnerQuery-F}
use Rattle.bound_tree.specs.declared.query.BoundQuery.TheFolds.{fold-BoundQuery, fold-InnerQuery}
use Rattle.bound_tree.specs.declared.query.InnerQuery.{InnerQuery}
use Rattle.bound_tree.specs.declared.query.Reference.{Reference}
use Rattle.bound_tree.specs.declared.table.Table.{Table}
use Rattle.bound_tree.specs.Outcomes.{Outcome, several_rows}
use Rattle.bound_tree.specs.Setting.{Setting}
use Rattle.join_rows.specs.Joined.{Row}
use Rattle.query_eval.specs.Phases.{◌>>=◌, rows_given}
use Rattle.query_eval.specs.KeyTests.{where_tests}
use Rattle.query_eval.specs.Joining.{FromStock, images_behind, joined_refs}

-- how many pairs a statement may try (own)
abbrev pub pair_limit : ℕ
pair_limit = 10000000

-- the references that images stand for, in their order: those of inner queries, and then a query's
-- own
abbrev pub references_of : BoundQuery → List Reference
references_of =
    fold-BoundQuery (List Reference) (List Reference)
    (λ query. flat_map (λ refs. refs) query.inner ++ query.refs) (λ inner. inner.query)

-- the images behind those of references
abbrev pub images_after : List Reference → List (List Row) → List (List Row)
images_after [] images = images
images_after (ref ∷ refs) images = images_after refs (images_behind images)

-- an inner query's rows, of which there may be one at most where it stands as a value
abbrev pub rows_allowed : Bool → List Row → Outcome (List Row)
rows_allowed true (row ∷ other ∷ rest) = Err several_rows
rows_allowed single rows = Ok rows

-- the inner queries one after another
abbrev pub inner_rows : List (FromStock (List Row)) → FromStock (List (List Row))
inner_rows [] stock = Ok ([], stock)
inner_rows (query ∷ queries) stock = do
  answer ← query stock
  others ← inner_rows queries answer.1
  Ok (answer.0 ∷ others.0, others.1)

-- what is made of a stock: the rows of an answer
abbrev pub Answers : Type 0
Answers = FromStock (List Row)

abbrev pub inner_step : InnerQuery-F Answers Answers → Answers
inner_step inner stock = do
  answer ← inner.query stock
  rows ← rows_allowed inner.single answer.0
  Ok (rows, answer.1)

module _ (vars system : List Value) where
  -- the rows of a query whose inner queries have these rows
  abbrev pub own_rows : {A B : Type 0} → List (List Row) → BoundQuery-F A B → Answers
  own_rows inner query stock = do
    let setting_at : Row → Setting =
        λ row. record { row = row; vars = vars; system = system; inner = inner }
    joined ← joined_refs setting_at (where_tests vars query.filter) query.refs stock
    rows ← rows_given setting_at query joined.0
    Ok (rows, joined.1)

  -- a query whose inner queries are answered so
  abbrev pub query_step : BoundQuery-F Answers Answers → Answers
  query_step query stock = do
    inner ← inner_rows query.inner stock
    own_rows inner.0 query inner.1

  -- the rows that a query answers from a stock, and what is then left
  abbrev pub answer_of : BoundQuery → Answers
  answer_of = fold-BoundQuery Answers Answers query_step inner_step

  -- the same of an inner query
  abbrev pub inner_answer : InnerQuery → Answers
  inner_answer = fold-InnerQuery Answers Answers query_step inner_step

  -- the rows that a query answers on images
  abbrev pub Ans : BoundQuery → List (List Row) → Outcome (List Row)
  Ans query images = do
    answer ← answer_of query (record { images = images; budget = pair_limit })
    Ok answer.0

-- rows with the names and types of a query's items
abbrev pub table_of : BoundQuery → List Row → Table
table_of query rows = record {
  names = map (λ item. item.name) (out-BoundQuery query).items;
  kinds = map (λ item. item.kind) (out-BoundQuery query).items;
  rows = rows;
}
