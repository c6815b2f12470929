-- A query takes one image for each of its references, those of its inner queries first, by induction over the query.
use Rattle.std.proofs.Common.{◌≡◌, refl, sym, ap, ◌∙◌, subst, ℕ, List, [], ◌∷◌, ◌++◌, map, Bool, Ok, Err}
use Rattle.std.specs.Prelude.{◌+◌}
use Rattle.std.specs.List.{flat_map}
use Rattle.value_types.specs.declared.value.Value.{Value}
use Rattle.bound_tree.specs.declared.query.BoundQuery.{BoundQuery}
use Rattle.bound_tree.specs.declared.query.BoundQuery.TheOpen.{BoundQuery-F, InnerQuery-F}
use Rattle.bound_tree.specs.declared.query.BoundQuery.TheFolds.{fold-InnerQuery, ind-BoundQuery, ind-InnerQuery, map-BoundQuery, fold-roll-BoundQuery, fold-roll-InnerQuery}
use Rattle.bound_tree.specs.declared.query.BoundQuery.TheViews.{roll-BoundQuery, roll-InnerQuery}
use Rattle.bound_tree.specs.declared.query.InnerQuery.{InnerQuery}
use Rattle.bound_tree.specs.declared.query.Reference.{Reference}
use Rattle.bound_tree.specs.Outcomes.{Outcome, after}
use Rattle.bound_tree.specs.Setting.{Setting}
use Rattle.join_rows.specs.Joined.{Row, Join}
use Rattle.query_eval.specs.Phases.{rows_given}
use Rattle.query_eval.specs.declared.key_tests.ColumnTest.{ColumnTest}
use Rattle.query_eval.specs.KeyTests.{rows_read, where_tests}
use Rattle.query_eval.specs.Joining.{Stock, image_of, images_behind, join_more, join_of, joined_refs, on_truth}
use Rattle.query_eval.specs.Ans.{Answers, answer_of, images_after, inner_answer, inner_rows, inner_step, query_step, references_of, rows_allowed}

-- ---- one after another

-- what holds of each outcome of the second step holds of both
pub by_steps : {A B : Type 0} (C : B → Type 0) (a : Outcome A) (next : A → Outcome B) → ((x : A) → a ≡ Ok x → (z : B) → next x ≡ Ok z → C z)
    → (z : B) → after a next ≡ Ok z → C z
by_steps C (Ok x) next holds z h = holds x refl z h
by_steps C (Err number) next holds z h = cc

-- what the last step gives
pub by_last : {B : Type 0} (C : B → Type 0) (x : B) → C x → (z : B) → ◌≡◌ {A = Outcome B} (Ok x) (Ok z) → C z
by_last C x holds z h = let same : x ≡ z = cc in subst C same holds

pub after_both : (refs more : List Reference) (images : List (List Row)) → images_after (refs ++ more) images ≡ images_after more (images_after refs images)
after_both [] more images = refl
after_both (ref ∷ refs) more images = after_both refs more (images_behind images)

-- ---- joins

module _ (setting_at : Row → Setting) (tests : List ColumnTest) where
  more_images : (refs : List Reference) (width : ℕ) (rows : List Row) (stock : Stock) (z : List Row × Stock) → join_more setting_at tests width rows refs stock ≡ Ok z
      → z.1.images ≡ images_after refs stock.images
  more_images [] width rows stock z h = by_last (λ z. z.1.images ≡ stock.images) (rows, stock) refl z h
  more_images (ref ∷ refs) width rows stock z h =
      let join : Join = record { kind = ref.join; width = ref.width; left = rows; right = rows_read ref.key width tests ref.join (image_of stock.images) } in
      by_steps (λ z. z.1.images ≡ images_after refs (images_behind stock.images)) (join_of join (on_truth setting_at ref.join ref.on) stock.budget)
      (λ more. join_more setting_at tests (width + ref.width) more.0 refs (record { images = images_behind stock.images; budget = more.1 }))
      (λ more is z h. more_images refs (width + ref.width) more.0 (record { images = images_behind stock.images; budget = more.1 }) z h) z h

  joined_images : (refs : List Reference) (stock : Stock) (z : List Row × Stock) → joined_refs setting_at tests refs stock ≡ Ok z → z.1.images ≡ images_after refs stock.images
  joined_images [] stock z h = by_last (λ z. z.1.images ≡ stock.images) ([] ∷ [], stock) refl z h
  joined_images (ref ∷ refs) stock z h = more_images refs ref.width _ (record stock { images = images_behind stock.images }) z h

-- ---- queries

module _ (vars system : List Value) where
  abbrev pub inner_references : InnerQuery → List Reference
  inner_references = fold-InnerQuery (List Reference) (List Reference) (λ query. flat_map (λ refs. refs) query.inner ++ query.refs) (λ inner. inner.query)

  abbrev P : BoundQuery → Type 0
  P query = (stock : Stock) (z : List Row × Stock) → answer_of vars system query stock ≡ Ok z → z.1.images ≡ images_after (references_of query) stock.images

  abbrev I : InnerQuery → Type 0
  I inner = (stock : Stock) (z : List Row × Stock) → inner_answer vars system inner stock ≡ Ok z → z.1.images ≡ images_after (inner_references inner) stock.images

  inner_images : (inners : List ((i : InnerQuery) × I i)) (stock : Stock) (z : List (List Row) × Stock) → inner_rows (map (inner_answer vars system) (map (λ i. i.0) inners)) stock ≡ Ok z
      → z.1.images ≡ images_after (flat_map (λ refs. refs) (map inner_references (map (λ i. i.0) inners))) stock.images
  inner_images [] stock z h = by_last (λ z. z.1.images ≡ stock.images) ([], stock) refl z h
  inner_images (inner ∷ inners) stock z h =
      let own = inner_references inner.0 in
      let rest = flat_map (λ refs. refs) (map inner_references (map (λ i. i.0) inners)) in
      let C : List (List Row) × Stock → Type 0 = λ z. z.1.images ≡ images_after (own ++ rest) stock.images in
      by_steps C (inner_answer vars system inner.0 stock) (λ answer. after (inner_rows (map (inner_answer vars system) (map (λ i. i.0) inners)) answer.1) (λ others. Ok (answer.0 ∷ others.0, others.1)))
      (λ answer is. by_steps C (inner_rows (map (inner_answer vars system) (map (λ i. i.0) inners)) answer.1) (λ others. Ok (answer.0 ∷ others.0, others.1))
      (λ others are. by_last C (answer.0 ∷ others.0, others.1)
      (inner_images inners answer.1 others are ∙ ap (images_after rest) (inner.1 stock answer is) ∙ sym (after_both own rest stock.images))))
      z h

  abbrev QueryBelow : Type 0
  QueryBelow = BoundQuery-F ((q : BoundQuery) × P q) ((i : InnerQuery) × I i)

  abbrev queries_below : QueryBelow → BoundQuery-F BoundQuery InnerQuery
  queries_below = map-BoundQuery _ _ BoundQuery InnerQuery (λ q. q.0) (λ i. i.0)

  abbrev answers_below : BoundQuery-F BoundQuery InnerQuery → BoundQuery-F Answers Answers
  answers_below = map-BoundQuery _ _ Answers Answers (answer_of vars system) (inner_answer vars system)

  abbrev references_below : QueryBelow → List Reference
  references_below y = flat_map (λ refs. refs) (map inner_references (map (λ i. i.0) y.inner)) ++ y.refs

  query_images : (y : QueryBelow) (stock : Stock) (z : List Row × Stock) → query_step vars system (answers_below (queries_below y)) stock ≡ Ok z
      → z.1.images ≡ images_after (references_below y) stock.images
  query_images y stock z h =
      let query = answers_below (queries_below y) in
      let inners = flat_map (λ refs. refs) (map inner_references (map (λ i. i.0) y.inner)) in
      let setting_with : List (List Row) → Row → Setting = λ tables row. record { row = row; vars = vars; system = system; inner = tables } in
      let C : List Row × Stock → Type 0 = λ z. z.1.images ≡ images_after (references_below y) stock.images in
      by_steps C (inner_rows query.inner stock)
      (λ inner. after (joined_refs (setting_with inner.0) (where_tests vars query.filter) query.refs inner.1) (λ joined. after (rows_given (setting_with inner.0) query joined.0) (λ rows. Ok (rows, joined.1))))
      (λ inner is. by_steps C (joined_refs (setting_with inner.0) (where_tests vars query.filter) query.refs inner.1)
      (λ joined. after (rows_given (setting_with inner.0) query joined.0) (λ rows. Ok (rows, joined.1)))
      (λ joined are. by_steps C (rows_given (setting_with inner.0) query joined.0) (λ rows. Ok (rows, joined.1))
      (λ rows given. by_last C (rows, joined.1)
      (joined_images (setting_with inner.0) (where_tests vars query.filter) y.refs inner.1 joined are
      ∙ ap (images_after y.refs) (inner_images y.inner stock inner is)
      ∙ sym (after_both inners y.refs stock.images)))))
      z h

  query_layer : (y : QueryBelow) → P (roll-BoundQuery (queries_below y))
  query_layer y stock z h =
      let answers = fold-roll-BoundQuery Answers Answers (query_step vars system) inner_step (queries_below y) in
      let references = fold-roll-BoundQuery (List Reference) (List Reference) (λ query. flat_map (λ refs. refs) query.inner ++ query.refs) (λ inner. inner.query) (queries_below y) in
      query_images y stock z (sym (ap (λ f. f stock) answers) ∙ h) ∙ sym (ap (λ refs. images_after refs stock.images) references)

  inner_layer : (query : BoundQuery) (single : Bool) → P query → I (roll-InnerQuery (record { query = query; single = single }))
  inner_layer query single p stock z h =
      let i : InnerQuery-F BoundQuery InnerQuery = record { query = query; single = single } in
      let answers = fold-roll-InnerQuery Answers Answers (query_step vars system) inner_step i in
      let references = fold-roll-InnerQuery (List Reference) (List Reference) (λ query. flat_map (λ refs. refs) query.inner ++ query.refs) (λ inner. inner.query) i in
      let C : List Row × Stock → Type 0 = λ z. z.1.images ≡ images_after (references_of query) stock.images in
      by_steps C (answer_of vars system query stock) (λ answer. after (rows_allowed single answer.0) (λ rows. Ok (rows, answer.1)))
      (λ answer is. by_steps C (rows_allowed single answer.0) (λ rows. Ok (rows, answer.1)) (λ rows allowed. by_last C (rows, answer.1) (p stock answer is)))
      z (sym (ap (λ f. f stock) answers) ∙ h)
      ∙ sym (ap (λ refs. images_after refs stock.images) references)

  -- an answer leaves the images behind those of the query's references
  pub images_left : (query : BoundQuery) → P query
  images_left = ind-BoundQuery P I
      (λ x y is. subst (λ z. P (roll-BoundQuery z)) is (query_layer y))
      (λ x y is. subst (λ z. I (roll-InnerQuery z)) is (inner_layer y.query.0 y.single y.query.1))

  -- and so does that of an inner query
  pub inner_images_left : (inner : InnerQuery) → I inner
  inner_images_left = ind-InnerQuery P I
      (λ x y is. subst (λ z. P (roll-BoundQuery z)) is (query_layer y))
      (λ x y is. subst (λ z. I (roll-InnerQuery z)) is (inner_layer y.query.0 y.single y.query.1))
