-- What is bound where, behind what was gathered before: what it may read, and what is gathered with it.
use Rattle.std.proofs.lemmas.Bool.{or_parts}
use Rattle.std.proofs.lemmas.List.{append_assoc, append-nil, map-append, length-append}
use Rattle.std.proofs.Common.{◌≡◌, ◌⊎◌, inl, inr, refl, sym, ap, subst, ℕ, suc, ◌+◌, ◌≤◌, ◌<◌, min, List, [], ◌++◌, map, length, true, false, Option, Some, None, Ok, Err, arith}
use Rattle.value_types.specs.declared.sql_type.SqlType.{SqlType}
use Rattle.session_vars.specs.declared.Variable.{Variable}
use Rattle.tsql_tree.specs.declared.definition.Definition.{Definition}
use Rattle.tsql_tree.specs.Places.{max_place}
use Rattle.bound_tree.specs.declared.query.InnerQuery.{InnerQuery}
use Rattle.bound_tree.specs.declared.query.Sum.{Sum}
use Rattle.bound_tree.specs.Typed.{SettingTypes, system_kinds}
use Rattle.typed_nodes.specs.Refusals.{Outcome, after}
use Rattle.clause_binder.specs.declared.inside.Inside.{Inside}
use Rattle.clause_binder.specs.declared.progress.Progress.{Progress}
use Rattle.clause_binder.specs.Progress.{Binding, Context, Read, and_then, both, given, nothing, pure}
use Rattle.clause_binder.specs.Operands.{within_sum}
use Rattle.clause_binder.specs.Scope.{TableSource, columns_in, max_inner, width_of}
use Rattle.query_laws.specs.Formed.{inner_found, is_formed_sum}
use Rattle.query_laws.specs.Columns.{kinds, tables_in, variable_kinds}
use Rattle.query_laws.specs.Laws.{AllOf}
use Rattle.query_laws.specs.Parts.{AreSound, inner_kinds}
use Rattle.query_laws.proofs.Lists.{all_of_both, all_of_each}
use Rattle.query_laws.proofs.FoundKinds.{trans}

-- the types of the cells of a row of tables
abbrev pub cells : List TableSource → List SqlType
cells sources = kinds (columns_in sources)

abbrev pub sum_kinds : List Sum → List SqlType
sum_kinds sums = map (λ sum. sum.to) sums

module _ (definitions : List Definition) (vars : List Variable) where
  abbrev pub IsFormedInner : InnerQuery → Type 0
  IsFormedInner q = (inner_found (tables_in definitions) (variable_kinds vars) q).0 ≡ true

  -- the cells of the tables, and behind them, where aggregates may stand, those that were gathered
  abbrev pub ReadsRow : Option ℕ → List TableSource → List Sum → List SqlType → Type 0
  ReadsRow None sources sums row = (more : List SqlType) × (row ≡ cells sources ++ more)
  ReadsRow (Some from) sources sums row = (from ≡ width_of sources) × ((more : List SqlType) × (row ≡ cells sources ++ (sum_kinds sums ++ more)))

  -- so many inner queries, and behind them those that were gathered
  abbrev pub ReadsInner : ℕ → List InnerQuery → List (List SqlType) → Type 0
  ReadsInner first inner all = (before : List (List SqlType)) × (more : List (List SqlType)) × (length before ≡ first) × (all ≡ before ++ (inner_kinds definitions vars inner ++ more))

  -- what may be read at a place of a text, behind what was gathered, and whatever is gathered later
  pub record Reads (at : Context) (done : Progress) (types : SettingTypes) : Type 0 where
    pub row : ReadsRow at.sums_from at.sources done.sums types.row
    pub variables : types.vars ≡ variable_kinds vars
    pub session : types.system ≡ system_kinds
    pub sound : AreSound at.sources
    pub inner : ReadsInner done.first done.inner types.inner

  -- ---- what is gathered

  -- an aggregate is well formed over the rows of its class
  abbrev pub IsFormedSum : Context → Progress → Sum → Type 0
  IsFormedSum at done sum = (types : SettingTypes) → Reads (within_sum at) done types → is_formed_sum types sum ≡ true

  -- inner queries and aggregates are added to those that were there, as many as stand in the part of the text
  pub record Grows (at : Context) (inside : Inside) (done new : Progress) : Type 0 where
    pub calm : done.beyond ≡ false
    pub first : new.first ≡ done.first
    pub more_inner : List InnerQuery
    pub inner : new.inner ≡ done.inner ++ more_inner
    pub inner_formed : AllOf IsFormedInner more_inner
    pub inner_count : at.row_alone ≡ false → inside.inners ≡ min (suc max_place) (length more_inner)
    pub counted : (done.count + length more_inner ≤ new.count) ⊎ (max_inner < new.count)
    pub more_sums : List Sum
    pub sums : new.sums ≡ done.sums ++ more_sums
    pub sums_formed : AllOf (IsFormedSum at new) more_sums
    pub sums_none : inside.summed ≡ false → more_sums ≡ []
    pub sums_only : at.sums_from ≡ None → more_sums ≡ []

  -- what is bound has a property by then, unless something is outside a limit
  abbrev pub Bound : {A : Type 0} → (Context → Progress → A → Type 0) → Inside → Context → Progress → Outcome (A × Progress) → Type 0
  Bound P inside at done (Ok r) = r.1.beyond ≡ false → Grows at inside done r.1 × P at r.1 r.0
  Bound P inside at done (Err refusal) = Unit {0}

  abbrev pub Binds : {A : Type 0} → (Context → Progress → A → Type 0) → Inside → Binding A → Type 0
  Binds P inside bind = (at : Context) (done : Progress) → Bound P inside at done (bind at done)

  abbrev pub ReadsAs : {A : Type 0} → (Context → Progress → A → Type 0) → Read A → Type 0
  ReadsAs P read = Binds P read.inside read.bind

  -- ---- growing

  pub inner_grown : (first : ℕ) (inner more : List InnerQuery) (all : List (List SqlType)) → ReadsInner first (inner ++ more) all → ReadsInner first inner all
  inner_grown first inner more all h = (
    h.0,
    inner_kinds definitions vars more ++ h.1,
    h.2,
    trans h.3 (ap (λ x. h.0 ++ x) (trans (ap (λ x. x ++ h.1) (map-append (λ q. (inner_found (tables_in definitions) (variable_kinds vars) q).1) inner more)) (append_assoc (inner_kinds definitions vars inner) (inner_kinds definitions vars more) h.1))),
  )

  row_grown : (from : Option ℕ) (sources : List TableSource) (sums more : List Sum) (row : List SqlType) → ReadsRow from sources (sums ++ more) row → ReadsRow from sources sums row
  row_grown None sources sums more row h = h
  row_grown (Some from) sources sums more row h = (
    h.0,
    (
      sum_kinds more ++ h.1.0,
      trans h.1.1 (ap (λ x. cells sources ++ x) (trans (ap (λ x. x ++ h.1.0) (map-append (λ sum. sum.to) sums more)) (append_assoc (sum_kinds sums) (sum_kinds more) h.1.0))),
    ),
  )

  -- what may be read behind more may be read before it
  pub reads_back : (at : Context) (done new : Progress) (more_inner : List InnerQuery) (more_sums : List Sum) (types : SettingTypes) → new.first ≡ done.first → new.inner ≡ done.inner ++ more_inner → new.sums ≡ done.sums ++ more_sums
      → Reads at new types → Reads at done types
  reads_back at done new more_inner more_sums types f i s r = record {
    row = row_grown at.sums_from at.sources done.sums more_sums types.row (subst (λ sums. ReadsRow at.sums_from at.sources sums types.row) s r.row);
    variables = r.variables;
    session = r.session;
    sound = r.sound;
    inner = inner_grown done.first done.inner more_inner types.inner (subst (λ first. ReadsInner first (done.inner ++ more_inner) types.inner) f (subst (λ inner. ReadsInner new.first inner types.inner) i r.inner));
  }

  -- what may be read later may be read before
  pub reads_before : {at : Context} {inside : Inside} {done new : Progress} {types : SettingTypes} → Grows at inside done new → Reads at new types → Reads at done types
  reads_before {at = at} {done = done} {new = new} {types = types} g r = reads_back at done new g.more_inner g.more_sums types g.first g.inner g.sums r

  -- where nothing is gathered
  pub grows_not : (at : Context) (done : Progress) → done.beyond ≡ false → Grows at nothing done done
  grows_not at done calm = record {
    calm = calm;
    first = refl;
    more_inner = [];
    inner = sym (append-nil done.inner);
    inner_formed = tt;
    inner_count = λ e. refl;
    counted = inl (omega arith);
    more_sums = [];
    sums = sym (append-nil done.sums);
    sums_formed = tt;
    sums_none = λ e. refl;
    sums_only = λ e. refl;
  }

  sum_later : {at : Context} {inside : Inside} {mid new : Progress} → Grows at inside mid new → (sum : Sum) → IsFormedSum at mid sum → IsFormedSum at new sum
  sum_later {at = at} {mid = mid} {new = new} g sum h types r = h types (reads_back (within_sum at) mid new g.more_inner g.more_sums types g.first g.inner g.sums r)

  counted_on : (a b c m n : ℕ) → (a + m ≤ b) ⊎ (max_inner < b) → (b + n ≤ c) ⊎ (max_inner < c) → (a + (m + n) ≤ c) ⊎ (max_inner < c)
  counted_on a b c m n h (inr y) = inr y
  counted_on a b c m n (inl x) (inl y) = inl (omega (arith, x, y))
  counted_on a b c m n (inr x) (inl y) = inr (omega (arith, x, y))

  -- one part behind another
  pub grows_then : {at : Context} {one two : Inside} {done mid new : Progress} → Grows at one done mid → Grows at two mid new → Grows at (both one two) done new
  grows_then {at = at} {one = one} {two = two} {done = done} {mid = mid} {new = new} g h = record {
    calm = g.calm;
    first = trans h.first g.first;
    more_inner = g.more_inner ++ h.more_inner;
    inner = trans h.inner (trans (ap (λ x. x ++ h.more_inner) g.inner) (append_assoc done.inner g.more_inner h.more_inner));
    inner_formed = all_of_both IsFormedInner g.more_inner h.more_inner g.inner_formed h.inner_formed;
    inner_count = λ e. let a : one.inners ≡ min (suc max_place) (length g.more_inner) = g.inner_count e in
        let b : two.inners ≡ min (suc max_place) (length h.more_inner) = h.inner_count e in
        let l : length (g.more_inner ++ h.more_inner) ≡ length g.more_inner + length h.more_inner = length-append g.more_inner h.more_inner in
        omega (arith, a, b, l);
    counted = subst (λ n. (done.count + n ≤ new.count) ⊎ (max_inner < new.count)) (sym (length-append g.more_inner h.more_inner)) (counted_on done.count mid.count new.count (length g.more_inner) (length h.more_inner) g.counted h.counted);
    more_sums = g.more_sums ++ h.more_sums;
    sums = trans h.sums (trans (ap (λ x. x ++ h.more_sums) g.sums) (append_assoc done.sums g.more_sums h.more_sums));
    sums_formed = all_of_both (IsFormedSum at new) g.more_sums h.more_sums (all_of_each (IsFormedSum at mid) (IsFormedSum at new) g.more_sums (sum_later h) g.sums_formed) h.sums_formed;
    sums_none = λ e. let parts : (one.summed ≡ false) × (two.summed ≡ false) = or_parts one.summed two.summed e in
        trans (ap (λ x. x ++ h.more_sums) (g.sums_none parts.0)) (h.sums_none parts.1);
    sums_only = λ e. trans (ap (λ x. x ++ h.more_sums) (g.sums_only e)) (h.sums_only e);
  }

  -- ---- what is bound one after another

  -- what has a property by some time has it later
  abbrev pub Lasts : {A : Type 0} → (Context → Progress → A → Type 0) → Type 0
  Lasts {A = A} P = (at : Context) (inside : Inside) (mid new : Progress) (x : A) → Grows at inside mid new → P at mid x → P at new x

  -- what a part that is bound leads to
  abbrev pub Leads : {A B : Type 0} → (Context → Progress → A → Type 0) → (Context → Progress → B → Type 0) → Inside → (A → Binding B) → Type 0
  Leads {A = A} P Q inside next = (x : A) (at : Context) (mid : Progress) → (mid.beyond ≡ false → P at mid x) → Bound Q inside at mid (next x at mid)

  pub binds_pure : {A : Type 0} (P : Context → Progress → A → Type 0) (x : A) → ((at : Context) (done : Progress) → P at done x) → Binds P nothing (pure x)
  binds_pure P x h at done calm = (grows_not at done calm, h at done)

  pub binds_given : {A : Type 0} (P : Context → Progress → A → Type 0) (outcome : Context → Outcome A) → ((at : Context) (done : Progress) (x : A) → outcome at ≡ Ok x → P at done x) → Binds P nothing (λ at. given (outcome at) at)
  binds_given {A = A} P outcome h at done = of_outcome (outcome at) refl
    where
      of_outcome : (o : Outcome A) → outcome at ≡ o → Bound P nothing at done (given o at done)
      of_outcome (Ok x) e = λ calm. (grows_not at done calm, h at done x e)
      of_outcome (Err refusal) e = tt

  pub binds_then : {A B : Type 0} (P : Context → Progress → A → Type 0) (Q : Context → Progress → B → Type 0) (one two : Inside) (bind : Binding A) (next : A → Binding B)
      → Binds P one bind → Leads P Q two next → Binds Q (both one two) (and_then bind next)
  binds_then {A = A} {B = B} P Q one two bind next h g at done = of_first (bind at done) (h at done)
    where
      of_second : (r : A × Progress) (second : Outcome (B × Progress)) → (r.1.beyond ≡ false → Grows at one done r.1 × P at r.1 r.0) → Bound Q two at r.1 second → Bound Q (both one two) at done second
      of_second r (Ok s) first second = λ calm. (grows_then (first (second calm).0.calm).0 (second calm).0, (second calm).1)
      of_second r (Err refusal) first second = tt

      of_first : (first : Outcome (A × Progress)) → Bound P one at done first → Bound Q (both one two) at done (after first (λ r. next r.0 at r.1))
      of_first (Ok r) first = of_second r (next r.0 at r.1) first (g r.0 at r.1 (λ calm. (first calm).1))
      of_first (Err refusal) first = tt
