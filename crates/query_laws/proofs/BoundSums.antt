-- Aggregates are bound to cells behind those of the tables, and gathered as they are well formed over the rows of a class.
use Rattle.std.proofs.lemmas.Bool.{or_parts, ltb-false}
use Rattle.std.proofs.lemmas.List.{append_assoc, map-append, length-append, length-map}
use Rattle.std.proofs.Common.{◌≡◌, inl, inr, refl, sym, ap, subst, true≢false, ℕ, suc, ◌+◌, ◌≤◌, min, List, [], ◌∷◌, ◌++◌, length, slice_get, Bool, true, false, Option, Some, None, Ok, Err, arith}
use Rattle.value_types.specs.declared.sql_type.SqlType.{SqlType}
use Rattle.value_types.specs.declared.sql_type.SqlType.TheVariants.{TinyInt, SmallInt, Int, BigInt, Bit as BitType, NText}
use Rattle.session_vars.specs.declared.Variable.{Variable}
use Rattle.tsql_tree.specs.declared.definition.Definition.{Definition}
use Rattle.tsql_tree.specs.declared.query.Aggregate.{Aggregate}
use Rattle.tsql_tree.specs.declared.query.Aggregate.TheVariants as of
use Rattle.tsql_tree.specs.Places.{max_place}
use Rattle.bound_tree.specs.declared.expr.BoundExpr.TheVariants as bound
use Rattle.bound_tree.specs.declared.query.Sum.{Sum}
use Rattle.bound_tree.specs.declared.query.SumKind.TheVariants.{CountRows}
use Rattle.bound_tree.specs.Typed.{SettingTypes, Found, lone_null, typed, found_at, found_of, is_as, is_found}
use Rattle.typed_nodes.specs.declared.expr.TypedExpr.{TypedExpr}
use Rattle.typed_nodes.specs.Facts.{max_depth, or_int}
use Rattle.typed_nodes.specs.Nodes.{is_kind}
use Rattle.typed_nodes.specs.Refusals.{Outcome, after}
use Rattle.clause_binder.specs.declared.inside.Inside.{Inside}
use Rattle.clause_binder.specs.declared.progress.Progress.{Progress}
use Rattle.clause_binder.specs.Progress.{Binding, Context, beyond_where, is_deep, nothing}
use Rattle.clause_binder.specs.Scope.{behind, width_of}
use Rattle.clause_binder.specs.Operands.{aggregate, aggregate_from, aggregate_kind, extreme_kind, total_kind, count_rows, count_rows_from, placed, sum_kind, sum_of, sum_with, within_sum}
use Rattle.query_laws.specs.Formed.{sum_found}
use Rattle.query_laws.proofs.FoundKinds.{IsReal, real_or_int, HasKind, as_self, trans}
use Rattle.query_laws.proofs.Lists.{all_of_both, all_of_each}
use Rattle.query_laws.proofs.FormedNodes.{found_cell}
use Rattle.query_laws.proofs.Reading.{Binds, Bound, Grows, IsFormedSum, Reads, ReadsRow, cells, grows_not, sum_kinds}
use Rattle.query_laws.proofs.BoundOperands.{FormedAt, at_middle, placed_formed, row_front, width_cells}

-- ---- types of aggregates

of_known : (P : Found → Type 0) (kind : Option SqlType) (found : Found) → HasKind kind found → P lone_null → ((k : SqlType) → kind ≡ Some k → P (typed k)) → P found
of_known P None found e n t = subst P (sym e) n
of_known P (Some k) found (inl e) n t = subst P (sym e) (t k refl)
of_known P (Some k) found (inr e) n t = subst P (sym e.0) n

found_known : (kind : Option SqlType) (found : Found) → HasKind kind found → is_found found ≡ true
found_known kind found h = of_known (λ f. is_found f ≡ true) kind found h refl (λ k e. refl)

abbrev Fits : Aggregate → SqlType → Found → Type 0
Fits agg to found = is_as (sum_found (sum_kind agg) (Some found)) to ≡ true

-- of a lone NULL, or of NULL under a minus, the aggregate is that of an INT
fits_null : (agg : Aggregate) (to : SqlType) → aggregate_kind agg Int ≡ Ok to → Fits agg to lone_null
fits_null of.Count to e = let same : Int ≡ to = cc in subst (λ t. Fits of.Count t lone_null) same refl
fits_null of.Sum to e = let same : Int ≡ to = cc in subst (λ t. Fits of.Sum t lone_null) same refl
fits_null of.Avg to e = let same : Int ≡ to = cc in subst (λ t. Fits of.Avg t lone_null) same refl
fits_null of.Min to e = let same : Int ≡ to = cc in subst (λ t. Fits of.Min t lone_null) same refl
fits_null of.Max to e = let same : Int ≡ to = cc in subst (λ t. Fits of.Max t lone_null) same refl

fits_typed : (agg : Aggregate) (kind to : SqlType) → aggregate_kind agg kind ≡ Ok to → Fits agg to (typed kind)
fits_typed of.Count kind to e = let same : Int ≡ to = cc in subst (λ t. Fits of.Count t (typed kind)) same refl
fits_typed of.Sum TinyInt to e = let same : Int ≡ to = cc in subst (λ t. Fits of.Sum t (typed TinyInt)) same refl
fits_typed of.Sum SmallInt to e = let same : Int ≡ to = cc in subst (λ t. Fits of.Sum t (typed SmallInt)) same refl
fits_typed of.Sum Int to e = let same : Int ≡ to = cc in subst (λ t. Fits of.Sum t (typed Int)) same refl
fits_typed of.Sum BigInt to e = let same : BigInt ≡ to = cc in subst (λ t. Fits of.Sum t (typed BigInt)) same refl
fits_typed of.Sum BitType to e = cc
fits_typed of.Sum (NText n) to e = cc
fits_typed of.Avg TinyInt to e = let same : Int ≡ to = cc in subst (λ t. Fits of.Avg t (typed TinyInt)) same refl
fits_typed of.Avg SmallInt to e = let same : Int ≡ to = cc in subst (λ t. Fits of.Avg t (typed SmallInt)) same refl
fits_typed of.Avg Int to e = let same : Int ≡ to = cc in subst (λ t. Fits of.Avg t (typed Int)) same refl
fits_typed of.Avg BigInt to e = let same : BigInt ≡ to = cc in subst (λ t. Fits of.Avg t (typed BigInt)) same refl
fits_typed of.Avg BitType to e = cc
fits_typed of.Avg (NText n) to e = cc
fits_typed of.Min kind to e = fits_extreme kind to e
  where
    fits_extreme : (kind to : SqlType) → aggregate_kind of.Min kind ≡ Ok to → Fits of.Min to (typed kind)
    fits_extreme TinyInt to e = let same : TinyInt ≡ to = cc in subst (λ t. Fits of.Min t (typed TinyInt)) same refl
    fits_extreme SmallInt to e = let same : SmallInt ≡ to = cc in subst (λ t. Fits of.Min t (typed SmallInt)) same refl
    fits_extreme Int to e = let same : Int ≡ to = cc in subst (λ t. Fits of.Min t (typed Int)) same refl
    fits_extreme BigInt to e = let same : BigInt ≡ to = cc in subst (λ t. Fits of.Min t (typed BigInt)) same refl
    fits_extreme BitType to e = cc
    fits_extreme (NText n) to e = let same : NText n ≡ to = cc in subst (λ t. Fits of.Min t (typed (NText n))) same (as_self (typed (NText n)) (NText n) refl)
fits_typed of.Max kind to e = fits_extreme kind to e
  where
    fits_extreme : (kind to : SqlType) → aggregate_kind of.Max kind ≡ Ok to → Fits of.Max to (typed kind)
    fits_extreme TinyInt to e = let same : TinyInt ≡ to = cc in subst (λ t. Fits of.Max t (typed TinyInt)) same refl
    fits_extreme SmallInt to e = let same : SmallInt ≡ to = cc in subst (λ t. Fits of.Max t (typed SmallInt)) same refl
    fits_extreme Int to e = let same : Int ≡ to = cc in subst (λ t. Fits of.Max t (typed Int)) same refl
    fits_extreme BigInt to e = let same : BigInt ≡ to = cc in subst (λ t. Fits of.Max t (typed BigInt)) same refl
    fits_extreme BitType to e = cc
    fits_extreme (NText n) to e = let same : NText n ≡ to = cc in subst (λ t. Fits of.Max t (typed (NText n))) same (as_self (typed (NText n)) (NText n) refl)

sum_known : (agg : Aggregate) (kind : Option SqlType) (found : Found) (to : SqlType) → HasKind kind found → aggregate_kind agg (or_int kind) ≡ Ok to → Fits agg to found
sum_known agg None found to h e = subst (Fits agg to) (sym h) (fits_null agg to e)
sum_known agg (Some kind) found to (inl h) e = subst (Fits agg to) (sym h) (fits_typed agg kind to e)
sum_known agg (Some kind) found to (inr h) e = subst (Fits agg to) (sym h.0) (fits_null agg to (subst (λ k. aggregate_kind agg k ≡ Ok to) h.1 e))

-- an aggregate has a type that there is
sum_real : (agg : Aggregate) (kind : Option SqlType) (to : SqlType) → IsReal kind → aggregate_kind agg (or_int kind) ≡ Ok to → is_kind to ≡ true
sum_real agg kind to h e = of_kind agg (or_int kind) (real_or_int kind h) e
  where
    total_real : (k : SqlType) → total_kind k ≡ Ok to → is_kind to ≡ true
    total_real TinyInt e = let same : Int ≡ to = cc in subst (λ k. is_kind k ≡ true) same refl
    total_real SmallInt e = let same : Int ≡ to = cc in subst (λ k. is_kind k ≡ true) same refl
    total_real Int e = let same : Int ≡ to = cc in subst (λ k. is_kind k ≡ true) same refl
    total_real BigInt e = let same : BigInt ≡ to = cc in subst (λ k. is_kind k ≡ true) same refl
    total_real BitType e = cc
    total_real (NText n) e = cc

    extreme_real : (k : SqlType) → is_kind k ≡ true → extreme_kind k ≡ Ok to → is_kind to ≡ true
    extreme_real TinyInt h e = let same : TinyInt ≡ to = cc in subst (λ k. is_kind k ≡ true) same refl
    extreme_real SmallInt h e = let same : SmallInt ≡ to = cc in subst (λ k. is_kind k ≡ true) same refl
    extreme_real Int h e = let same : Int ≡ to = cc in subst (λ k. is_kind k ≡ true) same refl
    extreme_real BigInt h e = let same : BigInt ≡ to = cc in subst (λ k. is_kind k ≡ true) same refl
    extreme_real BitType h e = cc
    extreme_real (NText n) h e = let same : NText n ≡ to = cc in subst (λ k. is_kind k ≡ true) same h

    of_kind : (agg : Aggregate) (k : SqlType) → is_kind k ≡ true → aggregate_kind agg k ≡ Ok to → is_kind to ≡ true
    of_kind of.Count k h e = let same : Int ≡ to = cc in subst (λ k. is_kind k ≡ true) same refl
    of_kind of.Sum k h e = total_real k e
    of_kind of.Avg k h e = total_real k e
    of_kind of.Min k h e = extreme_real k h e
    of_kind of.Max k h e = extreme_real k h e

module _ (definitions : List Definition) (vars : List Variable) where
  -- ---- what is noted changes nothing of what may be read

  pub reads_noted : (at : Context) (b : Bool) (done : Progress) (types : SettingTypes) → Reads definitions vars at (beyond_where b done) types → Reads definitions vars at done types
  reads_noted at b done types r = record { row = r.row; variables = r.variables; session = r.session; sound = r.sound; inner = r.inner }

  pub reads_note : (at : Context) (b : Bool) (done : Progress) (types : SettingTypes) → Reads definitions vars at done types → Reads definitions vars at (beyond_where b done) types
  reads_note at b done types r = record { row = r.row; variables = r.variables; session = r.session; sound = r.sound; inner = r.inner }

  pub grows_noted : (at : Context) (inside : Inside) (done new : Progress) (b : Bool) → Grows definitions vars at inside done new → Grows definitions vars at inside done (beyond_where b new)
  grows_noted at inside done new b g = record {
    calm = g.calm;
    first = g.first;
    more_inner = g.more_inner;
    inner = g.inner;
    inner_formed = g.inner_formed;
    inner_count = g.inner_count;
    counted = g.counted;
    more_sums = g.more_sums;
    sums = g.sums;
    sums_formed = all_of_each (IsFormedSum definitions vars at new) (IsFormedSum definitions vars at (beyond_where b new)) g.more_sums (λ sum h types r. h types (reads_noted (within_sum at) b new types r)) g.sums_formed;
    sums_none = g.sums_none;
    sums_only = g.sums_only;
  }

  -- ---- an aggregate that is added

  abbrev with_sum : Progress → Sum → Progress
  with_sum done sum = record done { sums = done.sums ++ sum ∷ [] }

  abbrev summing : Inside → Inside
  summing inside = record inside { summed = true }

  -- rows alone are read as before
  without_sum : (at : Context) (done : Progress) (sum : Sum) (types : SettingTypes) → Reads definitions vars (within_sum at) (with_sum done sum) types → Reads definitions vars (within_sum at) done types
  without_sum at done sum types r = record { row = r.row; variables = r.variables; session = r.session; sound = r.sound; inner = r.inner }

  grows_sum : (at : Context) (from : ℕ) → at.sums_from ≡ Some from → (inside : Inside) (done mid : Progress) (sum : Sum) → Grows definitions vars (within_sum at) inside done mid → IsFormedSum definitions vars at mid sum → Grows definitions vars at (summing inside) done (with_sum mid sum)
  grows_sum at from e inside done mid sum g h = record {
    calm = g.calm;
    first = g.first;
    more_inner = g.more_inner;
    inner = g.inner;
    inner_formed = g.inner_formed;
    inner_count = g.inner_count;
    counted = g.counted;
    more_sums = g.more_sums ++ sum ∷ [];
    sums = trans (ap (λ x. x ++ sum ∷ []) g.sums) (append_assoc done.sums g.more_sums (sum ∷ []));
    sums_formed = all_of_each (IsFormedSum definitions vars at mid) (IsFormedSum definitions vars at (with_sum mid sum)) (g.more_sums ++ sum ∷ []) (λ one f types r. f types (without_sum at mid sum types r))
        (all_of_both (IsFormedSum definitions vars at mid) g.more_sums (sum ∷ []) g.sums_formed (h, tt));
    sums_none = λ e. absurd (true≢false e);
    sums_only = λ n. let no : None ≡ Some from = trans (sym n) e in cc;
  }

  -- what is read of classes is read of their rows too
  row_only : (at : Context) (done : Progress) (b : Bool) (sum : Sum) (types : SettingTypes) → Reads definitions vars at (with_sum (beyond_where b done) sum) types → Reads definitions vars (within_sum at) done types
  row_only at done b sum types r = record { row = row_front definitions vars at.sums_from at.sources (with_sum (beyond_where b done) sum) types.row r.row; variables = r.variables; session = r.session; sound = r.sound; inner = r.inner }

  -- it is a cell behind those of the tables and the aggregates before it
  sum_cell : (at : Context) (from : ℕ) (done : Progress) (sum : Sum) → at.sums_from ≡ Some from → ((types : SettingTypes) → Reads definitions vars at (with_sum done sum) types → is_kind sum.to ≡ true) → FormedAt definitions vars at (with_sum done sum) (placed (behind from (length done.sums)) sum.to bound.Cell)
  sum_cell at from done sum e real types r = placed_formed definitions vars types place sum.to bound.Cell here (real types r)
    where
      place : ℕ
      place = behind from (length done.sums)

      row : ReadsRow definitions vars (Some from) at.sources (done.sums ++ sum ∷ []) types.row
      row = subst (λ f. ReadsRow definitions vars f at.sources (done.sums ++ sum ∷ []) types.row) e r.row

      split : types.row ≡ (cells at.sources ++ sum_kinds done.sums) ++ (sum.to ∷ row.1.0)
      split = trans row.1.1 (trans (ap (λ x. cells at.sources ++ x) (trans (ap (λ x. x ++ row.1.0) (map-append (λ s. s.to) done.sums (sum ∷ []))) (append_assoc (sum_kinds done.sums) (sum.to ∷ []) row.1.0)))
          (sym (append_assoc (cells at.sources) (sum_kinds done.sums) (sum.to ∷ row.1.0))))

      size : place ≤ max_place → length (cells at.sources ++ sum_kinds done.sums) ≡ place
      size le = let l : length (cells at.sources ++ sum_kinds done.sums) ≡ length (cells at.sources) + length (sum_kinds done.sums) = length-append (cells at.sources) (sum_kinds done.sums) in
          let k : length (sum_kinds done.sums) ≡ length done.sums = length-map done.sums (λ s. s.to) in
          let w : width_of at.sources ≡ min (suc max_place) (length (cells at.sources)) = width_cells at.sources in
          let f : from ≡ width_of at.sources = row.0 in omega (arith, l, k, w, f, le)

      here : place ≤ max_place → found_of types (bound.Cell place) ≡ typed sum.to
      here le = trans (found_cell types place) (ap found_at (trans (ap (λ xs. slice_get xs place) split)
          (subst (λ i. slice_get ((cells at.sources ++ sum_kinds done.sums) ++ (sum.to ∷ row.1.0)) i ≡ Some sum.to) (size le) (at_middle (cells at.sources ++ sum_kinds done.sums) sum.to row.1.0))))

  pub count_rows_binds : Binds definitions vars (FormedAt definitions vars) (summing nothing) count_rows
  count_rows_binds at done = by_from at.sums_from refl
    where
      rows : Sum
      rows = record { kind = CountRows; distinct = false; of = None; to = Int }

      by_from : (from : Option ℕ) → at.sums_from ≡ from → Bound definitions vars (FormedAt definitions vars) (summing nothing) at done (count_rows_from from done)
      by_from None e = tt
      by_from (Some from) e = λ calm. (grows_sum at from e nothing done done rows (grows_not definitions vars (within_sum at) done calm) (λ types r. refl), sum_cell at from done rows e (λ types r. refl))

  pub aggregate_binds : (agg : Aggregate) (distinct : Bool) (inside : Inside) (bind : Binding TypedExpr) → Binds definitions vars (FormedAt definitions vars) inside bind → Binds definitions vars (FormedAt definitions vars) (summing inside) (aggregate agg distinct bind)
  aggregate_binds agg distinct inside bind h at done = by_from at.sums_from refl
    where
      by_kind : (from : ℕ) → at.sums_from ≡ Some from → (r : TypedExpr × Progress) (kind : Outcome SqlType) → aggregate_kind agg (or_int r.0.facts.kind) ≡ kind → (r.1.beyond ≡ false → Grows definitions vars (within_sum at) inside done r.1 × FormedAt definitions vars (within_sum at) r.1 r.0)
          → Bound definitions vars (FormedAt definitions vars) (summing inside) at done (after kind (sum_of agg distinct from r.0 r.1))
      by_kind from e r (Err refusal) k g = tt
      by_kind from e r (Ok to) k g = λ calm.
          let both : (r.1.beyond ≡ false) × (is_deep r.0.facts ≡ false) = or_parts r.1.beyond (is_deep r.0.facts) calm in
          let got : Grows definitions vars (within_sum at) inside done r.1 × FormedAt definitions vars (within_sum at) r.1 r.0 = g both.0 in
          let sum : Sum = record { kind = sum_kind agg; distinct = distinct; of = Some r.0.expr; to = to } in (
            grows_sum at from e inside done (beyond_where (is_deep r.0.facts) r.1) sum (grows_noted (within_sum at) inside done r.1 (is_deep r.0.facts) got.0)
                (λ types read. sum_known agg r.0.facts.kind (found_of types r.0.expr) to (got.1 types (reads_noted (within_sum at) (is_deep r.0.facts) r.1 types read) (ltb-false max_depth r.0.facts.depth both.1)).0 k),
            sum_cell at from (beyond_where (is_deep r.0.facts) r.1) sum e (λ types read. sum_real agg r.0.facts.kind to (got.1 types (row_only at r.1 (is_deep r.0.facts) sum types read) (ltb-false max_depth r.0.facts.depth both.1)).1 k),
          )

      of_operand : (from : ℕ) → at.sums_from ≡ Some from → (o : Outcome (TypedExpr × Progress)) → Bound definitions vars (FormedAt definitions vars) inside (within_sum at) done o
          → Bound definitions vars (FormedAt definitions vars) (summing inside) at done (after o (λ r. sum_with agg distinct from r.0 r.1))
      of_operand from e (Ok r) g = by_kind from e r (aggregate_kind agg (or_int r.0.facts.kind)) refl g
      of_operand from e (Err refusal) g = tt

      by_from : (from : Option ℕ) → at.sums_from ≡ from → Bound definitions vars (FormedAt definitions vars) (summing inside) at done (aggregate_from from agg distinct bind at done)
      by_from None e = tt
      by_from (Some from) e = of_operand from e (bind (within_sum at) done) (h (within_sum at) done)
