-- Rows beside what the items give for them, of which some that come again are left out.
use Rattle.std.proofs.Common.{◌≡◌, refl, sym, ap, ◌∙◌, subst, ℕ, ◌+◌, ◌<◌, true, List, [], ◌∷◌, ◌++◌, length, get_or, take, drop, Ok, Err}
use Rattle.std.proofs.lemmas.List.{drop_more, take-append-drop}
use Rattle.std.specs.List.{zip}
use Rattle.bound_tree.specs.declared.query.Item.{Item}
use Rattle.bound_tree.specs.Meaning.{value}
use Rattle.bound_tree.specs.Outcomes.{Outcome, after}
use Rattle.bound_tree.specs.Setting.{Setting}
use Rattle.join_rows.specs.Joined.{Row}
use Rattle.group_rows.specs.Equals.{firsts}
use Rattle.group_rows.proofs.Gathering.{firsts-more, same_second, same_second_laws}
use Rattle.query_eval.specs.declared.fault.Stop.{Stop}
use Rattle.query_eval.specs.declared.fault.Stop.TheVariants.{Number, Memory}
use Rattle.query_eval.specs.Phases.{each, with_items}
use Rattle.query_eval.proofs.Each.{FindsFault, fault_first}

-- ---- for each of two lists, one behind the other

module _ {A B : Type 0} (f : A → Outcome B) where
  in_front : (front : List B) (y : B) (rest : Outcome (List B)) → after (after rest (λ ws. Ok (front ++ ws))) (λ ys. Ok (y ∷ ys)) ≡ after rest (λ ws. Ok ((y ∷ front) ++ ws))
  in_front front y (Ok ws) = refl
  in_front front y (Err number) = refl

  -- what is found for the first of them is known
  pub each_front : (xs : List A) (zs : List A) (ys : List B) → each f xs ≡ Ok ys → each f (xs ++ zs) ≡ after (each f zs) (λ ws. Ok (ys ++ ws))
  each_front xs zs ys is = whole xs ∙ ap (λ o. after o (λ ys. after (each f zs) (λ ws. Ok (ys ++ ws)))) is
    where
      none : (rest : Outcome (List B)) → rest ≡ after rest (λ ws. Ok ([] ++ ws))
      none (Ok ws) = refl
      none (Err number) = refl

      behind : (y : B) (first : Outcome (List B)) → after (after first (λ ys. after (each f zs) (λ ws. Ok (ys ++ ws)))) (λ ys. Ok (y ∷ ys)) ≡ after (after first (λ ys. Ok (y ∷ ys))) (λ ys. after (each f zs) (λ ws. Ok (ys ++ ws)))
      behind y (Ok ys) = in_front ys y (each f zs)
      behind y (Err number) = refl

      whole : (xs : List A) → each f (xs ++ zs) ≡ after (each f xs) (λ ys. after (each f zs) (λ ws. Ok (ys ++ ws)))
      whole [] = none (each f zs)
      whole (x ∷ xs) =
          elim (f x) as (λ (o : Outcome B). after o (λ y. after (each f (xs ++ zs)) (λ ys. Ok (y ∷ ys))) ≡ after (after o (λ y. after (each f xs) (λ ys. Ok (y ∷ ys)))) (λ ys. after (each f zs) (λ ws. Ok (ys ++ ws)))) [
            | Ok y ↦ ap (λ (o : Outcome (List B)). after o (λ ys. Ok (y ∷ ys))) (whole xs) ∙ behind y (each f xs)
            | Err number ↦ refl
          ]

-- ---- rows beside what is found for each

module _ (f : Row → Outcome Row) where
  abbrev pub beside : Row → Outcome (Row × Row)
  beside row = after (f row) (λ values. Ok (row, values))

  pub each_beside : (rows : List Row) → each beside rows ≡ after (each f rows) (λ values. Ok (zip rows values))
  each_beside [] = refl
  each_beside (row ∷ rows) =
      elim (f row) as (λ (o : Outcome Row). after (after o (λ values. Ok (row, values))) (λ y. after (each beside rows) (λ ys. Ok (y ∷ ys))) ≡ after (after o (λ y. after (each f rows) (λ ys. Ok (y ∷ ys)))) (λ values. Ok (zip (row ∷ rows) values))) [
        | Ok values ↦ ap (λ (o : Outcome (List (Row × Row))). after o (λ ys. Ok ((row, values) ∷ ys))) (each_beside rows) ∙ one values (each f rows)
        | Err number ↦ refl
      ]
    where
      one : (values : Row) (rest : Outcome (List Row)) → after (after rest (λ more. Ok (zip rows more))) (λ ys. Ok ((row, values) ∷ ys)) ≡ after (after rest (λ ys. Ok (values ∷ ys))) (λ all. Ok (zip (row ∷ rows) all))
      one values (Ok more) = refl
      one values (Err number) = refl

  -- the rows so far have pairs of the same firsts
  abbrev pub Fewer : List Row → List (Row × Row) → Type 0
  Fewer rows pairs = (all : List (Row × Row)) × (each beside rows ≡ Ok all) × (firsts same_second pairs ≡ firsts same_second all)

  pub fewer_none : Fewer [] []
  fewer_none = ([], refl, refl)

  pub fewer_more : (rows : List Row) (pairs later : List (Row × Row)) (row values : Row) → Fewer rows pairs → f row ≡ Ok values → firsts same_second later ≡ firsts same_second (pairs ++ (row, values) ∷ []) → Fewer (rows ++ row ∷ []) later
  fewer_more rows pairs later row values so_far gives adds =
      let here : each beside (row ∷ []) ≡ Ok ((row, values) ∷ []) = ap (λ (o : Outcome Row). after (after o (λ values. Ok (row, values))) (λ y. Ok (y ∷ []))) gives in
      (so_far.0 ++ (row, values) ∷ [], each_front beside rows (row ∷ []) so_far.0 so_far.1 ∙ ap (λ (o : Outcome (List (Row × Row))). after o (λ ws. Ok (so_far.0 ++ ws))) here, adds ∙ firsts-more same_second same_second_laws pairs so_far.0 (row, values) so_far.2)

  pub fewer_fault : (front rest : List Row) (pairs : List (Row × Row)) (row : Row) → Fewer front pairs → (stop : Stop) → FindsFault stop (f row) → FindsFault stop (each beside (front ++ row ∷ rest))
  fewer_fault front rest pairs row so_far Memory gives = tt
  fewer_fault front rest pairs row so_far (Number number) gives =
      each_front beside front (row ∷ rest) so_far.0 so_far.1
      ∙ ap (λ (o : Outcome Row). after (after (after o (λ values. Ok (row, values))) (λ y. after (each beside rest) (λ ys. Ok (y ∷ ys)))) (λ ws. Ok (so_far.0 ++ ws))) gives

-- ---- DISTINCT of them

module _ (setting_at : Row → Setting) (items : List Item) (rows : List Row) where
  abbrev pub gives : Row → Outcome Row
  gives row = each (λ item. value (setting_at row) item.expr) items

  of_beside : with_items setting_at true items rows ≡ after (each (beside gives) rows) (λ pairs. Ok (firsts same_second pairs))
  of_beside = by_outcome (each gives rows) ∙ ap (λ (o : Outcome (List (Row × Row))). after o (λ pairs. Ok (firsts same_second pairs))) (sym (each_beside gives rows))
    where
      by_outcome : (o : Outcome (List Row)) → after o (λ values. Ok (firsts same_second (zip rows values))) ≡ after (after o (λ values. Ok (zip rows values))) (λ pairs. Ok (firsts same_second pairs))
      by_outcome (Ok values) = refl
      by_outcome (Err number) = refl

  pub fewer_given : (pairs : List (Row × Row)) → Fewer gives rows pairs → with_items setting_at true items rows ≡ Ok (firsts same_second pairs)
  fewer_given pairs so_far = of_beside ∙ ap (λ (o : Outcome (List (Row × Row))). after o (λ pairs. Ok (firsts same_second pairs))) so_far.1 ∙ ap Ok (sym so_far.2)

  stop_of : (stop : Stop) → FindsFault stop (each (beside gives) rows) → FindsFault stop (with_items setting_at true items rows)
  stop_of stop is = rw of_beside (fault_first stop (each (beside gives) rows) (λ pairs. Ok (firsts same_second pairs)) is)

  -- the row behind those so far has an error
  pub fewer_stop : (front : List Row) (pairs : List (Row × Row)) (row : Row) → front ≡ take (length front) rows → length front < length rows → row ≡ get_or rows (length front) row → Fewer gives front pairs → (stop : Stop) → FindsFault stop (gives row) → FindsFault stop (with_items setting_at true items rows)
  fewer_stop front pairs row so below is so_far stop fault =
      let i = length front in
      let rest = drop (i + 1) rows in
      let split : rows ≡ front ++ row ∷ rest =
      sym (take-append-drop i rows) ∙ ap (λ l. take i rows ++ l) (drop_more rows i row below) ∙ ap (λ z. take i rows ++ z ∷ rest) (sym is) ∙ ap (λ l. l ++ row ∷ rest) (sym so) in
      stop_of stop (subst (λ l. FindsFault stop (each (beside gives) l)) (sym split) (fewer_fault gives front rest pairs row so_far stop fault))
