-- The phases one after another, from the joined rows on.
use Rattle.std.proofs.Common.{◌≡◌, sym, ap, ◌∙◌, ℕ, List, sum_by, Ok}
use Rattle.bound_tree.specs.declared.query.BoundQuery.TheOpen.{BoundQuery-F}
use Rattle.bound_tree.specs.Outcomes.{Outcome, after}
use Rattle.bound_tree.specs.Setting.{Setting}
use Rattle.join_rows.specs.Joined.{Row}
use Rattle.query_eval.specs.declared.fault.Stop.{Stop}
use Rattle.query_eval.specs.Phases.{class_rows, in_order_of, rows_given, rows_where, top_of, with_items}
use Rattle.query_eval.proofs.Each.{FindsFault, fault_first}

module _ {A B : Type 0} (setting_at : Row → Setting) (query : BoundQuery-F A B) (joined : List Row) where
  abbrev behind_pairs : List (Row × Row) → Outcome (List Row)
  behind_pairs pairs = after (in_order_of setting_at query.order pairs) (λ rows. Ok (top_of query.top rows))

  abbrev behind_kept : List Row → Outcome (List Row)
  behind_kept kept = after (with_items setting_at query.distinct query.items kept) behind_pairs

  abbrev behind_rows : List Row → Outcome (List Row)
  behind_rows rows = after (rows_where setting_at query.having rows) behind_kept

  abbrev behind_found : ℕ → List Row → Outcome (List Row)
  behind_found width found = after (class_rows setting_at query.grouped width query.groups query.sums found) behind_rows

  module _ (width : ℕ) (found rows kept : List Row) (wide : width ≡ sum_by (λ reference. reference.width) query.refs) (first : rows_where setting_at query.filter joined ≡ Ok found)
      (second : class_rows setting_at query.grouped width query.groups query.sums found ≡ Ok rows) (third : rows_where setting_at query.having rows ≡ Ok kept) where
    given_kept : rows_given setting_at query joined ≡ behind_kept kept
    given_kept =
        ap (λ o. after o (behind_found (sum_by (λ reference. reference.width) query.refs))) first
        ∙ ap (λ n. behind_found n found) (sym wide)
        ∙ ap (λ o. after o behind_rows) second
        ∙ ap (λ o. after o behind_kept) third

    pub items_stop : (stop : Stop) → FindsFault stop (with_items setting_at query.distinct query.items kept) → FindsFault stop (rows_given setting_at query joined)
    items_stop stop is = rw given_kept (fault_first stop (with_items setting_at query.distinct query.items kept) behind_pairs is)

    module _ (pairs : List (Row × Row)) (fourth : with_items setting_at query.distinct query.items kept ≡ Ok pairs) where
      given_pairs : rows_given setting_at query joined ≡ behind_pairs pairs
      given_pairs = given_kept ∙ ap (λ o. after o behind_pairs) fourth

      pub order_stop : (stop : Stop) → FindsFault stop (in_order_of setting_at query.order pairs) → FindsFault stop (rows_given setting_at query joined)
      order_stop stop is = rw given_pairs (fault_first stop (in_order_of setting_at query.order pairs) (λ rows. Ok (top_of query.top rows)) is)

      pub all_given : (in_order given : List Row) → in_order_of setting_at query.order pairs ≡ Ok in_order → given ≡ top_of query.top in_order → rows_given setting_at query joined ≡ Ok given
      all_given in_order given is are = given_pairs ∙ ap (λ o. after o (λ rows. Ok (top_of query.top rows))) is ∙ ap Ok (sym are)
