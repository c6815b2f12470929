-- Classes as the places of their rows.
use Rattle.std.proofs.Common.{◌≡◌, refl, sym, ap, ◌∙◌, subst, nat_eq, Some, ℕ, zero, suc, ◌+◌, ◌<◌, Bool, true, false, List, [], ◌∷◌, ◌++◌, map, length, get_or, take, replicate, Ok, arith}
use Rattle.std.specs.Global.{Vec}
use Rattle.std.specs.List.{filter, items_where_true, zip}
use Rattle.std.proofs.lemmas.List.{map_push, take_more}
use Rattle.value_types.specs.declared.value.Value.TheVariants.{Null}
use Rattle.bound_tree.specs.declared.expr.BoundExpr.{BoundExpr}
use Rattle.bound_tree.specs.declared.expr.BoundTest.{BoundTest}
use Rattle.bound_tree.specs.declared.query.Sum.{Sum}
use Rattle.bound_tree.specs.declared.truth.Truth.{Truth}
use Rattle.bound_tree.specs.declared.truth.Truth.TheVariants.{False, Unknown, True}
use Rattle.bound_tree.specs.Meaning.{truth, value}
use Rattle.bound_tree.specs.Outcomes.{Outcome, after}
use Rattle.bound_tree.specs.Setting.{Setting}
use Rattle.bound_tree.specs.Truths.{is_true}
use Rattle.join_rows.specs.Joined.{Row}
use Rattle.group_rows.specs.Equals.{classes, same_row}
use Rattle.query_eval.specs.declared.fault.Stop.{Stop}
use Rattle.query_eval.specs.Phases.{class_row, class_rows, classes_of, each, rows_where}
use Rattle.query_eval.specs.Places.{row_at, rows_at_places}
use Rattle.query_eval.proofs.Each.{FindsFault, each_map, fault_first}
use Rattle.query_eval.proofs.Equals.{map_both}

-- within a list it does not matter what stands behind it
pub get_or_any : {X : Type 0} (xs : List X) (i : ℕ) (d e : X) → i < length xs → get_or xs i d ≡ get_or xs i e
get_or_any [] i d e within = absurd (omega (arith, within))
get_or_any (x ∷ xs) zero d e within = refl
get_or_any (x ∷ xs) (suc i) d e within = get_or_any xs i d e (omega (arith, within))

pub nulls_of : (rows : List Row) (places : List ℕ) → map (λ row. Null) (rows_at_places rows places) ≡ replicate (length places) Null
nulls_of rows [] = refl
nulls_of rows (place ∷ places) = ap (λ l. Null ∷ l) (nulls_of rows places)

-- one place more
pub places_more : (rows : List Row) (places : List ℕ) (i : ℕ) → i < length rows → rows_at_places rows places ≡ take i rows → rows_at_places rows (places ++ i ∷ []) ≡ take (i + 1) rows
places_more rows places i within so_far =
    map_push (row_at rows) places i ∙ ap (λ l. l ++ row_at rows i ∷ []) so_far
    ∙ sym (take_more rows i (row_at rows i) within ∙ ap (λ r. take i rows ++ r ∷ []) (get_or_any rows i (row_at rows i) [] within))

-- the rows whose truth is true
pub rows_true_are : {X : Type 0} (xs : List X) (truths : List Truth)
    → map (λ (pair : X × Truth). pair.0) (filter (λ (pair : X × Truth). is_true pair.1) (zip xs truths)) ≡ items_where_true (map is_true truths) xs
rows_true_are [] [] = refl
rows_true_are [] (t ∷ truths) = refl
rows_true_are (x ∷ xs) [] = refl
rows_true_are (x ∷ xs) (True ∷ truths) = ap (λ l. x ∷ l) (rows_true_are xs truths)
rows_true_are (x ∷ xs) (False ∷ truths) = rows_true_are xs truths
rows_true_are (x ∷ xs) (Unknown ∷ truths) = rows_true_are xs truths

module _ (setting_at : Row → Setting) (rows : List Row) where
  abbrev keys_of : List BoundExpr → Outcome (List Row)
  keys_of exprs = each (λ row. each (value (setting_at row)) exprs) rows

  pub groups_fault : (exprs : List BoundExpr) → nat_eq (length exprs) 0 ≡ false → (stop : Stop) → FindsFault stop (keys_of exprs) → FindsFault stop (classes_of setting_at exprs rows)
  groups_fault [] some stop is = absurd (cc)
  groups_fault (expr ∷ exprs) some stop is = fault_first stop (keys_of (expr ∷ exprs)) (λ keys. Ok (map (rows_at_places rows) (classes same_row keys))) is

  pub groups_found : (exprs : List BoundExpr) → nat_eq (length exprs) 0 ≡ false → (keys listed : List Row) (found : List (Vec ℕ)) → keys_of exprs ≡ Ok keys → listed ≡ keys
      → map (λ (class : Vec ℕ). class.items) found ≡ classes same_row listed
      → classes_of setting_at exprs rows ≡ Ok (map (λ (class : Vec ℕ). rows_at_places rows class.items) found)
  groups_found [] some keys listed found is same are = absurd (cc)
  groups_found (expr ∷ exprs) some keys listed found is same are =
      ap (λ o. after o (λ keys. Ok (map (rows_at_places rows) (classes same_row keys)))) is
      ∙ ap (λ l. Ok (map (rows_at_places rows) l)) (ap (classes same_row) (sym same) ∙ sym are)
      ∙ ap Ok (map_both (rows_at_places rows) (λ (class : Vec ℕ). class.items) found)

  -- the rows of classes, where the classes are found
  pub rows_by_classes : (width : ℕ) (exprs : List BoundExpr) (sums : List Sum) (listed found : List (Vec ℕ)) → listed ≡ found
      → classes_of setting_at exprs rows ≡ Ok (map (λ (class : Vec ℕ). rows_at_places rows class.items) found)
      → class_rows setting_at true width exprs sums rows ≡ each (λ (class : Vec ℕ). class_row setting_at width sums (rows_at_places rows class.items)) listed
  rows_by_classes width exprs sums listed found same is =
      ap (λ o. after o (each (class_row setting_at width sums))) is
      ∙ each_map (class_row setting_at width sums) (λ (class : Vec ℕ). rows_at_places rows class.items) found
      ∙ ap (each (λ (class : Vec ℕ). class_row setting_at width sums (rows_at_places rows class.items))) (sym same)

module _ (setting_at : Row → Setting) (test : BoundTest) (rows : List Row) where
  pub where_fault : (listed : List Row) → listed ≡ rows → (stop : Stop) → FindsFault stop (each (λ row. truth (setting_at row) test) listed) → FindsFault stop (rows_where setting_at (Some test) rows)
  where_fault listed same stop is =
      fault_first stop (each (λ row. truth (setting_at row) test) rows) (λ truths. Ok (items_where_true (map is_true truths) rows))
      (subst (λ l. FindsFault stop (each (λ row. truth (setting_at row) test) l)) same is)

  pub where_found : (listed : List Row) → listed ≡ rows → (truths : List Truth) (found : List Row) → each (λ row. truth (setting_at row) test) listed ≡ Ok truths
      → found ≡ map (λ (pair : Row × Truth). pair.0) (filter (λ (pair : Row × Truth). is_true pair.1) (zip rows truths)) → rows_where setting_at (Some test) rows ≡ Ok found
  where_found listed same truths found is are =
      ap (λ o. after o (λ truths. Ok (items_where_true (map is_true truths) rows))) (ap (each (λ row. truth (setting_at row) test)) (sym same) ∙ is)
      ∙ ap Ok (sym (are ∙ rows_true_are rows truths))
