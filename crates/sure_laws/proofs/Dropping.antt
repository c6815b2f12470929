-- What DROP asks: the rows of a table were read, its triggers were read and it was found itself, or a procedure or trigger was found; so all that is erased is sure.
use Rattle.std.proofs.Common.{◌≡◌, ℕ, Bool, true, false, ◌&&◌, if◌then◌else◌, List, [], ◌∷◌, ◌++◌, map, Option, Some, None, Result, Ok, Err, refl, sym, ap, ◌∙◌, subst}
use Rattle.std.specs.List.{AllByRecursion, cons_option}
use Rattle.std.specs.Ordering.{is_eq}
use Rattle.std.specs.declared.cmp.Ordering.TheVariants.{Less}
use Rattle.std.specs.Cmp.Lexicographic.{bytes_decides}
use Rattle.value_types.specs.Units.{same_units}
use Rattle.value_types.specs.declared.table_name.TableName.{TableName}
use Rattle.value_types.specs.declared.value.Value.{Value}
use Rattle.value_types.specs.Order.{key_cmp, table_cmp}
use Rattle.value_types.specs.OrderLaws.{key_cmp_total}
use Rattle.tsql_tree.specs.declared.definition.Definition.{Definition}
use Rattle.tsql_tree.specs.declared.definition.Definition.TheVariants.{Table, Procedure, Trigger}
use Rattle.tsql_tree.specs.declared.definition.TableTree.{TableTree}
use Rattle.tsql_tree.specs.declared.statement.DropKind.{DropKind}
use Rattle.tsql_tree.specs.declared.statement.DropKind.TheVariants as drop
use Rattle.tsql_tree.specs.declared.statement.Form.{Form-F}
use Rattle.tsql_tree.specs.declared.statement.Statement.{Statement}
use Rattle.bound_tree.specs.declared.write.Bound.{Bound}
use Rattle.bound_tree.specs.declared.write.Bound.TheVariants as bound
use Rattle.binder.specs.Names.{Layer, form_of}
use Rattle.table_rows.specs.Definitions.{defined_name, is_objects, object_key, objects_name, tables_of}
use Rattle.table_rows.specs.Rows.{rows_table, same_key, shape_of}
use Rattle.step_model.specs.declared.change.Planned.{Planned}
use Rattle.step_model.specs.declared.manner.Manner.{Manner}
use Rattle.step_model.specs.declared.range.Start.TheVariants.{First}
use Rattle.step_model.specs.declared.resource.Span.TheVariants.{Statement as ToItsEnd}
use Rattle.step_model.specs.Database.{allows}
use Rattle.step_model.specs.Exchange.{Exchange}
use Rattle.step_model.specs.Ranges.{Rows}
use Rattle.constraint_check.proofs.Behind.{same_back, same_on}
use Rattle.dml_exec.specs.declared.refusal.Level.TheVariants.{Serializable}
use Rattle.dml_exec.specs.Planning.{Chg}
use Rattle.dml_exec.specs.Reading.{none_given}
use Rattle.batch_meaning.specs.declared.failure.Failure.{Failure}
use Rattle.batch_meaning.specs.Asking.{applies, comes_to, fails_naming, finds_by, reads_at, reads_definitions, with_room}
use Rattle.batch_meaning.specs.Changing.{definition_erased, dropped, dropped_as, not_there, planned_as, triggers_of, unless_referred, whole, with_definitions}
use Rattle.batch_meaning.specs.Doing.{reads}
use Rattle.batch_meaning.specs.Progress.{SessionProgress, system_in, values_of}
use Rattle.batch_meaning.specs.Raised.{Around, Fired}
use Rattle.batch_meaning.specs.Selecting.{Effect, bound_over}
use Rattle.batch_meaning.specs.Working.{asks_any, is_of_trigger, known_by, known_in}
use Rattle.batch_meaning.specs.Writes.{drops, drops_definition, drops_found, drops_table}
use Rattle.statement_paths.proofs.Only.{AnyStep, only_naming}
use Rattle.write_laws.proofs.Elsewhere.{objects_apart}
use Rattle.write_laws.proofs.Plans.{as_planned}
use Rattle.write_laws.proofs.Rewrites.{planned_of}
use Rattle.sound_laws.proofs.Steps.{IsStill}
use Rattle.sound_laws.proofs.Targets.{shape_itself}
use Rattle.sure_laws.proofs.Sures.{Any, sure_behind}
use Rattle.sure_laws.proofs.Writing.{AreSpared, Spares}
use Rattle.sure_laws.proofs.Attempting.{OthersReady}
use Rattle.index_laws.proofs.Behind.{all_more}
use Rattle.sure_laws.proofs.Spared.{elsewhere, spared_both}
use Rattle.sure_laws.proofs.Taking.{plan_ready}
use Rattle.sure_laws.proofs.Trees.{OnOk, Surely, Sures, sures_bind, sures_comes, sures_room}
use Rattle.sure_laws.proofs.Changing.{AreRead, MayAsk, applies_sure, each_bind, level_sure}
use Rattle.sure_laws.proofs.Defining.{own_surely, surely_room, surely_still}
use Rattle.sure_laws.proofs.Finding.{AreAll, AreSureFrom, Found, IsFoundAt, definitions_sure, from_on, look_sure, objects, objects_same, part_sure}

-- ---- keys of names

-- names at keys of which one is below the other are two
names_two : (one other : List ℕ) (key also : List Value) → same_key (object_key one) key ≡ true → same_key (object_key other) also ≡ true → key_cmp key also ≡ Less → same_key (object_key one) (object_key other) ≡ false
names_two one other key also at there below = by_test (same_key (object_key one) (object_key other)) refl
  where
    by_test : (b : Bool) → same_key (object_key one) (object_key other) ≡ b → b ≡ false
    by_test false is = refl
    by_test true is =
        let meets : same_key key also ≡ true = same_on key (object_key one) also (same_back (object_key one) key at) (same_on (object_key one) (object_key other) also is there) in
        let no : false ≡ true = sym (ap is_eq below) ∙ meets in cc

-- so are names of which one is not the other
names_back : (one other : List ℕ) → same_key (object_key one) (object_key other) ≡ false → same_key (object_key other) (object_key one) ≡ false
names_back one other apart = by_test (same_key (object_key other) (object_key one)) refl
  where
    by_test : (b : Bool) → same_key (object_key other) (object_key one) ≡ b → b ≡ false
    by_test false is = refl
    by_test true is = let no : false ≡ true = sym apart ∙ same_back (object_key other) (object_key one) is in cc

erased_two : (one other : List ℕ) → same_key (object_key one) (object_key other) ≡ false → Spares (definition_erased one) (definition_erased other)
erased_two one other apart takes also = ap (λ (b : Bool). b && same_key (object_key one) (object_key other)) objects_same ∙ apart

module _ (manner : Manner) (name : List ℕ) (shape : TableTree) where
  -- names of definitions that are sure, in order, none of which is this name
  abbrev AreSureNames : (List Value → Type 0) → List Exchange → List (List ℕ) → Type 0
  AreSureNames Allowed behind [] = Unit {0}
  AreSureNames Allowed behind (n ∷ ns) =
      (key : List Value) × Allowed key × (same_key (object_key n) key ≡ true) × sure_behind manner behind ToItsEnd objects (object_key n) × (same_key (object_key name) (object_key n) ≡ false) × AreSureNames (λ k. key_cmp key k ≡ Less) behind ns

  names_more : (One Other : List Value → Type 0) (behind : List Exchange) (ns : List (List ℕ)) → ((k : List Value) → One k → Other k) → AreSureNames One behind ns → AreSureNames Other behind ns
  names_more One Other behind [] on are = tt
  names_more One Other behind (n ∷ ns) on are = (are.0, on are.0 are.1, are.2, are.3, are.4, are.5)

  above_more : (key also : List Value) → key_cmp key also ≡ Less → (k : List Value) → key_cmp also k ≡ Less → key_cmp key k ≡ Less
  above_more key also below k above = key_cmp_total.trans key also k below above

  -- such are those of its triggers
  names_from : (Allowed : List Value → Type 0) (behind : List Exchange) (ds : List Definition) → ((key k : List Value) → Allowed key → key_cmp key k ≡ Less → Allowed k)
      → AreSureFrom manner name (Table shape) Allowed behind ds → AreSureNames Allowed behind (triggers_of name ds)
  names_from Allowed behind [] closed are = tt
  names_from Allowed behind (d ∷ ds) closed are =
      by_kind d are.2 (names_from (λ k. key_cmp are.0 k ≡ Less) behind ds (λ also k below above. above_more are.0 also below k above) are.3)
    where
      passed : AreSureNames (λ k. key_cmp are.0 k ≡ Less) behind (triggers_of name ds) → AreSureNames Allowed behind (triggers_of name ds)
      passed rest = names_more (λ k. key_cmp are.0 k ≡ Less) Allowed behind (triggers_of name ds) (λ k above. closed are.0 k are.1 above) rest

      not_it : (of : Definition) → (of ≡ Table shape → ⊥) → (same_key (object_key name) (object_key (defined_name of)) ≡ true → of ≡ Table shape) → same_key (object_key name) (object_key (defined_name of)) ≡ false
      not_it of other one = by_test (same_key (object_key name) (object_key (defined_name of))) refl
        where
          by_test : (b : Bool) → same_key (object_key name) (object_key (defined_name of)) ≡ b → b ≡ false
          by_test true is = absurd (other (one is))
          by_test false is = refl

      by_kind : (of : Definition)
          → (same_key (object_key (defined_name of)) are.0 ≡ true) × sure_behind manner behind ToItsEnd objects (object_key (defined_name of)) × (same_key (object_key name) (object_key (defined_name of)) ≡ true → of ≡ Table shape)
          → AreSureNames (λ k. key_cmp are.0 k ≡ Less) behind (triggers_of name ds) → AreSureNames Allowed behind (triggers_of name (of ∷ ds))
      by_kind (Table table) sure rest = passed rest
      by_kind (Procedure procedure) sure rest = passed rest
      by_kind (Trigger trigger) sure rest = by_test (same_units trigger.table name)
        where
          here : AreSureNames Allowed behind (trigger.name ∷ triggers_of name ds)
          here = (are.0, are.1, sure.0, sure.1, not_it (Trigger trigger) (λ is. let no : Trigger trigger ≡ Table shape = is in absurd (cc)) sure.2, rest)

          by_test : (b : Bool) → AreSureNames Allowed behind (cons_option (if b then Some trigger.name else None) (triggers_of name ds))
          by_test true = here
          by_test false = passed rest

  -- ---- what is erased of definitions

  abbrev erasures : List (List ℕ) → List Planned
  erasures ns = map definition_erased ns ++ definition_erased name ∷ []

  one_apart : (behind : List Exchange) (n : List ℕ) (key : List Value) (ns : List (List ℕ)) → same_key (object_key n) key ≡ true → same_key (object_key name) (object_key n) ≡ false → AreSureNames (λ k. key_cmp key k ≡ Less) behind ns
      → AllByRecursion (Spares (definition_erased n)) (erasures ns)
  one_apart behind n key [] at other are = (erased_two n name (names_back name n other), tt)
  one_apart behind n key (m ∷ ns) at other are = (
    erased_two n m (names_two n m key are.0 at are.2 are.1),
    one_apart behind n key ns at other (names_more (λ k. key_cmp are.0 k ≡ Less) (λ k. key_cmp key k ≡ Less) behind ns (λ k above. above_more key are.0 are.1 k above) are.5),
  )

  erasures_spared : (Allowed : List Value → Type 0) (behind : List Exchange) (ns : List (List ℕ)) → AreSureNames Allowed behind ns → AreSpared (erasures ns)
  erasures_spared Allowed behind [] are = (tt, tt)
  erasures_spared Allowed behind (n ∷ ns) are = (one_apart behind n are.0 ns are.2 are.4 are.5, erasures_spared (λ k. key_cmp are.0 k ≡ Less) behind ns are.5)

  erasures_ready : (Allowed : List Value → Type 0) (behind : List Exchange) (ns : List (List ℕ)) → AreSureNames Allowed behind ns → sure_behind manner behind ToItsEnd objects (object_key name) → OthersReady manner behind (erasures ns)
  erasures_ready Allowed behind [] are sure = ((λ unasked takes. (ToItsEnd, sure)), tt)
  erasures_ready Allowed behind (n ∷ ns) are sure = ((λ unasked takes. (ToItsEnd, are.3)), erasures_ready (λ k. key_cmp are.0 k ≡ Less) behind ns are.5 sure)

  erasures_on : (ns : List (List ℕ)) → AllByRecursion (λ (change : Planned). change.table ≡ objects) (erasures ns)
  erasures_on [] = (refl, tt)
  erasures_on (n ∷ ns) = (refl, erasures_on ns)

  -- the changes of the table's rows are none of definitions
  rows_apart : (changes defined : List Planned) → is_objects name ≡ false → AllByRecursion (λ (change : Planned). change.table.object ≡ name) changes → AllByRecursion (λ (change : Planned). change.table ≡ objects) defined
      → AllByRecursion (λ (change : Planned). AllByRecursion (Spares change) defined) changes
  rows_apart changes defined other named on =
      all_more (λ (change : Planned). change.table.object ≡ name) (λ (change : Planned). AllByRecursion (Spares change) defined) changes
      (λ change is. all_more (λ (of : Planned). of.table ≡ objects) (Spares change) defined
      (λ of at. elsewhere change of (ap (λ (t : TableName). is_eq (table_cmp change.table t)) at ∙ objects_apart change.table objects (ap (λ (n : List ℕ). same_units n objects_name) is ∙ other))) on) named

  -- ---- the plan

  -- all that was found and read before
  abbrev IsKnown : List Definition → List Exchange → Type 0
  IsKnown definitions behind = AreSureFrom manner name (Table shape) (λ k. allows First k ≡ true) behind definitions × IsFoundAt manner name (Table shape) behind

  plan_may : (around : Around) (p : SessionProgress) (definitions : List Definition) (images : List Rows) (planned : List Planned) (before behind : List Exchange) → name ≡ shape.name
      → dropped around p definitions shape name images ≡ Ok planned → IsKnown definitions before → AreRead manner none_given (shape ∷ []) (whole name) before images behind → MayAsk manner planned behind
  plan_may around p definitions images planned before behind same is known read = by_plan (planned_as (Chg (values_of p.vars) (system_in around p) shape [] (whole name) images)) refl is
    where
      known_here : shape_of (rows_table name) (shape ∷ []) ≡ Some shape
      known_here = subst (λ (n : List ℕ). shape_of (rows_table n) (shape ∷ []) ≡ Some shape) (sym same) (shape_itself shape)

      there : List Exchange
      there = before ++ read.2

      names : AreSureNames (λ k. allows First k ≡ true) there (triggers_of name definitions)
      names = names_from (λ k. allows First k ≡ true) there definitions (λ key k may below. refl)
          (from_on manner name (Table shape) (λ k. allows First k ≡ true) before there definitions (λ span t x was. part_sure manner before read.2 span t x read.4 was) known.0)

      by_plan : (o : Result (List Planned) Failure) → planned_as (Chg (values_of p.vars) (system_in around p) shape [] (whole name) images) ≡ o → dropped_as definitions name o ≡ Ok planned → MayAsk manner planned behind
      by_plan (Err failure) plans e = absurd (let no : Err failure ≡ Ok planned = e in cc)
      by_plan (Ok changes) plans e =
          let ready = plan_ready manner read.1 (shape ∷ []) read.0 shape (whole name) images changes before read.2 known_here
          (planned_of (values_of p.vars) (system_in around p) shape [] (whole name) images changes (as_planned _ changes plans)) read.4 read.5 in
          let named : AllByRecursion (λ (change : Planned). change.table.object ≡ name) changes = subst (λ (n : List ℕ). AllByRecursion (λ (change : Planned). change.table.object ≡ n) changes) (sym same) ready.2 in
          let list = erasures (triggers_of name definitions) in
          let may : MayAsk manner (with_definitions definitions name changes) there = (
            spared_both changes list ready.0 (erasures_spared (λ k. allows First k ≡ true) there (triggers_of name definitions) names)
                (rows_apart changes list known.1.other named (erasures_on (triggers_of name definitions))),
            both_ready changes list ready.1 (erasures_ready (λ k. allows First k ≡ true) there (triggers_of name definitions) names (part_sure manner before read.2 ToItsEnd objects (object_key name) read.4 known.1.sure)),
          ) in
          let one : with_definitions definitions name changes ≡ planned = cc in
          subst (λ (l : List Planned). MayAsk manner l behind) one (subst (λ (l : List Exchange). MayAsk manner (with_definitions definitions name changes) l) (sym read.3) may)
        where
          both_ready : (front back : List Planned) → OthersReady manner there front → OthersReady manner there back → OthersReady manner there (front ++ back)
          both_ready [] back first second = second
          both_ready (x ∷ front) back first second = (first.0, both_ready front back first.1 second)

  -- ---- what is asked

  pub table_dropped : (around : Around) (before : List Exchange) → name ≡ shape.name → IsFoundAt manner name (Table shape) before → Sures manner Any before (drops_table around shape name)
  unfolding drops_table
  table_dropped around before same found =
      sures_bind manner (AreAll manner name (Table shape) First [] before) Any before reads_definitions _ (λ failure behind. tt) (definitions_sure manner name (Table shape) before found) (λ definitions defined all.
      let known : IsKnown definitions defined = (subst (AreSureFrom manner name (Table shape) (λ k. allows First k ≡ true) defined) (sym all.1) all.2, all.3) in
      sures_bind manner (λ (free : Unit {0}) behind. IsKnown definitions behind) Any defined (comes_to (unless_referred name (tables_of definitions))) _ (λ failure behind. tt)
      (sures_comes manner (λ (free : Unit {0}) behind. IsKnown definitions behind) defined (unless_referred name (tables_of definitions)) (λ free is. known)) (λ free at now.
      sures_bind manner (AreRead manner none_given (shape ∷ []) (whole name) at) Any at (with_room (reads_at none_given Serializable [] (shape ∷ []) (bound.Write (whole name)))) _ (λ failure behind. tt)
      (sures_room manner (OnOk manner (AreRead manner none_given (shape ∷ []) (whole name) at)) at (reads_at none_given Serializable [] (shape ∷ []) (bound.Write (whole name))) (λ failure. tt) (level_sure manner none_given shape [] (whole name) refl Serializable [] at)) (λ images read are.
      sures_bind manner (MayAsk manner) Any read (reads λ p. comes_to (dropped around p definitions shape name images)) _ (λ failure behind. tt)
      (λ p. sures_comes manner (MayAsk manner) read (dropped around p definitions shape name images) (λ planned is. plan_may around p definitions images planned at read same is now are)) (λ planned at may.
      each_bind manner at (applies [] planned) _ (applies_sure manner [] planned at may) (λ put behind. tt)))))

-- ---- each DROP

-- in a trigger the tables of its rows stand for nothing that is dropped
known_none : (fired : Option Fired) (kind : DropKind) (name n : List ℕ) (found : Option Definition) → known_in fired (Form-F.Drop kind name) n ≡ Some found → found ≡ None
known_none None kind name n found is = absurd (let no : ◌≡◌ {A = Option (Option Definition)} None (Some found) = is in cc)
known_none (Some fired) kind name n found is = by_test (is_of_trigger n) is
  where
    by_test : (b : Bool) → ◌≡◌ {A = Option (Option Definition)} (if b then Some None else None) (Some found) → found ≡ None
    by_test true same = cc
    by_test false same = absurd (let no : ◌≡◌ {A = Option (Option Definition)} None (Some found) = same in cc)

module _ (manner : Manner) (around : Around) where
  finds_sure : (name : List ℕ) (known : Option (Option Definition)) (before : List Exchange) → ((found : Option Definition) → known ≡ Some found → found ≡ None) → Sures manner (OnOk manner (Found manner name)) before (finds_by known name)
  finds_sure name None before none = look_sure manner name before
  finds_sure name (Some found) before none = sures_comes manner (Found manner name) before (Ok found) (λ came same old is named.
      let nothing : found ≡ None = none found refl in
      absurd (let no : None ≡ Some old = sym nothing ∙ (let one : found ≡ came = cc in one) ∙ is in cc))

  nothing_there : (name : List ℕ) → Surely manner {A = Result Effect Failure} (fails_naming not_there name)
  nothing_there name = surely_still manner (fails_naming not_there name) (only_naming AnyStep IsStill Effect not_there name)

  definition_dropped : (name : List ℕ) (old : Definition) (before : List Exchange) → IsFoundAt manner name old before → Sures manner Any before (drops_definition around name)
  unfolding drops_definition
  definition_dropped name old before found =
      each_bind manner before (with_room (applies [] (definition_erased name ∷ []))) _
      (sures_room manner Any before (applies [] (definition_erased name ∷ [])) (λ failure. tt) (applies_sure manner [] (definition_erased name ∷ []) before ((tt, tt), ((λ unasked takes. (ToItsEnd, found.sure)), tt)))) (λ put behind. tt)

  found_dropped : (kind : DropKind) (name : List ℕ) (found : Option Definition) (before : List Exchange) → Found manner name found before → Sures manner Any before (drops_found around kind name found)
  found_dropped drop.Table name (Some (Table table)) before was = by_test (same_units table.name name) refl
    where
      by_test : (b : Bool) → same_units table.name name ≡ b → Sures manner Any before (if b then drops_table around table name else fails_naming not_there name)
      by_test true same = let named : table.name ≡ name = (bytes_decides table.name name).0 same in table_dropped manner name table around before (sym named) (was (Table table) refl named)
      by_test false same = nothing_there name before
  found_dropped drop.Procedure name (Some (Procedure procedure)) before was = by_test (same_units procedure.name name) refl
    where
      by_test : (b : Bool) → same_units procedure.name name ≡ b → Sures manner Any before (if b then drops_definition around name else fails_naming not_there name)
      by_test true same = definition_dropped name (Procedure procedure) before (was (Procedure procedure) refl ((bytes_decides procedure.name name).0 same))
      by_test false same = nothing_there name before
  found_dropped drop.Trigger name (Some (Trigger trigger)) before was = by_test (same_units trigger.name name) refl
    where
      by_test : (b : Bool) → same_units trigger.name name ≡ b → Sures manner Any before (if b then drops_definition around name else fails_naming not_there name)
      by_test true same = definition_dropped name (Trigger trigger) before (was (Trigger trigger) refl ((bytes_decides trigger.name name).0 same))
      by_test false same = nothing_there name before
  found_dropped kind name found before was = nothing_there name before

  pub drops_surely : (statement : Statement) (kind : DropKind) (name : List ℕ) → form_of statement ≡ Form-F.Drop kind name → Surely manner (drops around statement kind name)
  unfolding drops
  drops_surely statement kind name is = surely_room manner _ (own_surely manner (asks_any (known_by around statement) (name ∷ [])) _ (λ before.
      sures_bind manner (Found manner name) Any before (finds_by (known_by around statement name) name) _ (λ failure behind. tt)
      (finds_sure name (known_by around statement name) before (λ found same. known_none around.fired kind name name found (ap (λ (form : Layer). known_in around.fired form name) (sym is) ∙ same))) (λ found at was.
      sures_bind manner (λ (of : Bound) behind. Found manner name found behind) Any at (reads λ p. comes_to (bound_over [] p.vars statement)) _ (λ failure behind. tt)
      (λ p. sures_comes manner (λ (of : Bound) behind. Found manner name found behind) at (bound_over [] p.vars statement) (λ of same. was)) (λ of behind now. found_dropped kind name found behind now))))
