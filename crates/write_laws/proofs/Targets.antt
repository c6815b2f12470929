-- The rows of a target, of which some are meant.
use Rattle.std.proofs.Common.{◌≡◌, refl, sym, ap, ◌∙◌, ℕ, ◌+◌, List, [], ◌∷◌, length, map, get_or, Option, Some, None, Ok}
use Rattle.std.proofs.lemmas.List.{length-append, length-map}
use Rattle.std.specs.List.{flat_map, list_all, items_where_true}
use Rattle.value_types.specs.declared.value.Value.{Value}
use Rattle.bound_tree.specs.declared.expr.BoundTest.{BoundTest}
use Rattle.bound_tree.specs.declared.query.BoundQuery.{BoundQuery}
use Rattle.bound_tree.specs.declared.query.BoundQuery.TheFolds.{fold_out-InnerQuery}
use Rattle.bound_tree.specs.declared.query.InnerQuery.{InnerQuery, out-InnerQuery}
use Rattle.bound_tree.specs.declared.query.Reference.{Reference}
use Rattle.bound_tree.specs.Meaning.{truth}
use Rattle.bound_tree.specs.Outcomes.{after}
use Rattle.bound_tree.specs.Truths.{is_true}
use Rattle.query_eval.specs.Given.{tables_read}
use Rattle.query_eval.specs.Ans.{images_after, inner_answer, inner_rows, pair_limit, references_of}
use Rattle.query_eval.specs.Joining.{Stock, image_of}
use Rattle.query_eval.specs.KeyTests.{key_tests, meets, where_tests}
use Rattle.query_eval.specs.Phases.{each, rows_where}
use Rattle.query_eval.specs.Targets.{inner_answers, rows_meant, setting_over}
use Rattle.query_eval.proofs.Images.{after_both, by_last, by_steps, inner_images_left}
use Rattle.query_laws.specs.Laws.{AllOf}
use Rattle.query_laws.proofs.Lists.{all_filter, all_where}
use Rattle.dml_exec.specs.Filling.{Row}
use Rattle.dml_exec.specs.Reading.{inner_tables}
use Rattle.write_laws.specs.Planning.{target_image}

-- ---- the image of a target

-- the references of inner queries, in the order of their images
abbrev references_in : List InnerQuery → List Reference
references_in inner = flat_map (λ of. references_of (out-InnerQuery of).query) inner

reads_counted : (query : BoundQuery) → length (tables_read query) ≡ length (references_of query)
reads_counted query = simp length-map refl

-- there is a table that is read for each
as_many : (inner : List InnerQuery) → length (inner_tables inner) ≡ length (references_in inner)
as_many [] = refl
as_many (of ∷ rest) =
    let here = reads_counted (out-InnerQuery of).query in
    let behind = as_many rest in
    simp length-append (ap (λ n. n + length (inner_tables rest)) here ∙ ap (λ n. length (references_of (out-InnerQuery of).query) + n) behind)

image_behind : (refs : List Reference) (images : List (List Row)) → image_of (images_after refs images) ≡ get_or images (length refs) []
image_behind [] [] = refl
image_behind [] (image ∷ images) = refl
image_behind (ref ∷ refs) [] = image_behind refs []
image_behind (ref ∷ refs) (image ∷ images) = image_behind refs images

module _ (vars system : List Value) where
  -- inner queries leave the images behind those of their references
  left_by : (inner : List InnerQuery) (stock : Stock) (z : List (List Row) × Stock) → inner_rows (map (inner_answer vars system) inner) stock ≡ Ok z → z.1.images ≡ images_after (references_in inner) stock.images
  left_by [] stock z e = by_last (λ z. z.1.images ≡ stock.images) ([], stock) refl z e
  left_by (of ∷ rest) stock z e =
      by_steps C (inner_answer vars system of stock) (λ answer. after (inner_rows (map (inner_answer vars system) rest) answer.1) (λ others. Ok (answer.0 ∷ others.0, others.1)))
      (λ answer is. by_steps C (inner_rows (map (inner_answer vars system) rest) answer.1) (λ others. Ok (answer.0 ∷ others.0, others.1))
      (λ others are. by_last C (answer.0 ∷ others.0, others.1)
      (left_by rest answer.1 others are ∙ ap (images_after (references_in rest)) (own_left answer is) ∙ sym (after_both (references_of (out-InnerQuery of).query) (references_in rest) stock.images)))) z e
    where
      C : List (List Row) × Stock → Type 0
      C z = z.1.images ≡ images_after (references_in (of ∷ rest)) stock.images

      own_left : (answer : List Row × Stock) → inner_answer vars system of stock ≡ Ok answer → answer.1.images ≡ images_after (references_of (out-InnerQuery of).query) stock.images
      own_left answer is = inner_images_left vars system of stock answer is ∙ ap (λ refs. images_after refs stock.images) (fold_out-InnerQuery _ _ _ _ of)

  -- the image that is then read is the target's
  pub target_left : (inner : List InnerQuery) (images : List (List Row)) (answers : List (List Row) × List (List Row)) → inner_answers vars system inner images ≡ Ok answers → image_of answers.1 ≡ target_image inner images
  target_left inner images answers e =
      by_steps C (inner_rows (map (inner_answer vars system) inner) stock) (λ z. Ok (z.0, z.1.images)) (λ z is. by_last C (z.0, z.1.images)
      (ap image_of (left_by inner stock z is) ∙ image_behind (references_in inner) images ∙ ap (λ n. get_or images n []) (sym (as_many inner)))) answers e
    where
      stock : Stock
      stock = record { images = images; budget = pair_limit }

      C : List (List Row) × List (List Row) → Type 0
      C z = image_of z.1 ≡ target_image inner images

  -- ---- the rows that are meant

  module _ (P : Row → Type 0) (tables : List (List Row)) where
    where_all : (test : Option BoundTest) (rows olds : List Row) → AllOf P rows → rows_where (setting_over vars system tables) test rows ≡ Ok olds → AllOf P olds
    where_all None rows olds all e = by_last (AllOf P) rows all olds e
    where_all (Some test) rows olds all e =
        by_steps (AllOf P) (each (λ row. truth (setting_over vars system tables row) test) rows) (λ truths. Ok (items_where_true (map is_true truths) rows))
        (λ truths are. by_last (AllOf P) (items_where_true (map is_true truths) rows) (all_where P (map is_true truths) rows all)) olds e

    -- what is true of each row of an image is true of those that are meant
    pub meant_all : (key : List ℕ) (test : Option BoundTest) (image olds : List Row) → AllOf P image → rows_meant vars system tables key test image ≡ Ok olds → AllOf P olds
    meant_all key test image olds all e =
        where_all test _ olds (all_filter P (λ row. list_all (meets row) (key_tests key 0 (where_tests vars test))) image all) e
