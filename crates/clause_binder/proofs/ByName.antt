-- What is found in maps by name.
use Rattle.std.proofs.Common.{◌≡◌, refl, sym, ap, ◌∙◌, subst, ℕ, suc, ◌+◌, arith, ◌<◌, ◌≤◌, Bool, true, false, cond, List, [], ◌∷◌, ◌++◌, length, drop, get_or, Option, Some, None, Bor, add-one, drop-cons}
use Rattle.std.specs.Prelude.{is_some, option_map, unwrap_or, if◌then◌else◌, ◌||◌}
use Rattle.std.specs.List.{list_any}
use Rattle.std.specs.Ordering.{nat_cmp, is_eq}
use Rattle.std.specs.Cmp.Lexicographic.{slice_cmp, texts_ties}
use Rattle.std.specs.BTreeMap.{BTreeMap, get}
use Rattle.std.specs.List.{position_from}
use Rattle.std.proofs.lemmas.Iterator.Adapters.{position_from-zero}
use Rattle.std.proofs.lemmas.List.{at_drop_all}
use Rattle.std.proofs.lemmas.Slice.Eq.{bytes_eq-Decides}
use Rattle.value_types.specs.Units.{same_units}
use Rattle.tsql_tree.specs.declared.definition.ColumnTree.{ColumnTree}
use Rattle.tsql_tree.specs.declared.definition.Definition.{Definition}
use Rattle.tsql_tree.specs.declared.definition.TableTree.{TableTree}
use Rattle.clause_binder.specs.declared.scope.Matches.{Matches}
use Rattle.clause_binder.specs.declared.scope.Matches.TheVariants as matches
use Rattle.clause_binder.specs.Scope.{as_table, behind, found_at, found_in, found_too, has_name, or_first, table_of}
use Rattle.clause_binder.specs.ByName.{AreAliases, at_name, matches_at, or_place, place_at, table_at}

-- the map has x at a name, and at each other name what it had
abbrev pub SetsAt : {X : Type 0} → BTreeMap (Bor (List ℕ)) X → BTreeMap (Bor (List ℕ)) X → List ℕ → X → Type 0
SetsAt old new name x = (q : List ℕ) → at_name new q ≡ (if same_units q name then Some x else at_name old q)

same_turned : (a b : List ℕ) → same_units a b ≡ same_units b a
same_turned a b = by_test (same_units a b) (same_units b a) refl refl
  where
    by_test : (x y : Bool) → same_units a b ≡ x → same_units b a ≡ y → x ≡ y
    by_test true true e f = refl
    by_test false false e f = refl
    by_test true false e f = sym ((bytes_eq-Decides b a).1 (sym ((bytes_eq-Decides a b).0 e))) ∙ f
    by_test false true e f = sym e ∙ (bytes_eq-Decides a b).1 (sym ((bytes_eq-Decides b a).0 f))

-- what an insertion does, by names
pub sets_at : {X : Type 0} (old new : BTreeMap (Bor (List ℕ)) X) (key : Bor (List ℕ)) (x : X)
    → ((q : Bor (List ℕ)) → get (λ a b. slice_cmp nat_cmp a.now b.now) new q ≡ cond (is_eq (slice_cmp nat_cmp key.now q.now)) (Some x) (get (λ a b. slice_cmp nat_cmp a.now b.now) old q))
    → SetsAt old new key.now x
sets_at {X = X} old new key x updates q =
    updates (record { ref_ptr = (0, 0); now = q }) ∙ by_test (is_eq (slice_cmp nat_cmp key.now q)) (same_units q key.now) (sym (texts_ties key.now q) ∙ same_turned key.now q) (at_name old q)
  where
    by_test : (a b : Bool) → a ≡ b → (y : Option X) → cond a (Some x) y ≡ (if b then Some x else y)
    by_test true true e y = refl
    by_test false false e y = refl
    by_test true false e y = absurd (cc)
    by_test false true e y = absurd (cc)

-- ---- tables

or_none : (a : Option TableTree) → or_first a None ≡ a
or_none None = refl
or_none (Some a) = refl

or_both : (a b c : Option TableTree) → or_first (or_first a b) c ≡ or_first a (or_first b c)
or_both None b c = refl
or_both (Some a) b c = refl

none_of : (o : Option (Bor TableTree)) → is_some o ≡ false → option_map (λ table. table.now) o ≡ None
none_of None e = refl
none_of (Some a) e = absurd (cc)

-- a table of a name that is not there yet
pub table_added : (old new : BTreeMap (Bor (List ℕ)) (Bor TableTree)) (name : List ℕ) (table : Bor TableTree) → SetsAt old new name table → is_some (at_name old name) ≡ false → name ≡ table.now.name
    → (q : List ℕ) → table_at new q ≡ or_first (table_at old q) (if same_units q table.now.name then Some table.now else None)
table_added old new name table sets fresh named q = ap (option_map (λ table. table.now)) (sets q) ∙ subst (λ n. option_map (λ table. table.now) (if same_units q name then Some table else at_name old q) ≡ or_first (table_at old q) (if same_units q n then Some table.now else None)) named (by_test (same_units q name) refl)
  where
    by_test : (b : Bool) → same_units q name ≡ b → option_map (λ table. table.now) (if b then Some table else at_name old q) ≡ or_first (table_at old q) (if b then Some table.now else None)
    by_test true e = let none : table_at old q ≡ None = none_of (at_name old q) (subst (λ n. is_some (at_name old n) ≡ false) (sym ((bytes_eq-Decides q name).0 e)) fresh) in
        rw none refl
    by_test false e = sym (or_none (table_at old q))

-- a table of a name that is there
pub table_kept : (map : BTreeMap (Bor (List ℕ)) (Bor TableTree)) (name : List ℕ) (table : TableTree) → is_some (at_name map name) ≡ true → name ≡ table.name
    → (q : List ℕ) → table_at map q ≡ or_first (table_at map q) (if same_units q table.name then Some table else None)
table_kept map name table there named q = subst (λ n. table_at map q ≡ or_first (table_at map q) (if same_units q n then Some table else None)) named (by_test (same_units q name) refl)
  where
    some_of : (o : Option (Bor TableTree)) → is_some o ≡ true → option_map (λ table. table.now) o ≡ or_first (option_map (λ table. table.now) o) (Some table)
    some_of None e = absurd (cc)
    some_of (Some a) e = refl

    by_test : (b : Bool) → same_units q name ≡ b → table_at map q ≡ or_first (table_at map q) (if b then Some table else None)
    by_test true e = some_of (at_name map q) (subst (λ n. is_some (at_name map n) ≡ true) (sym ((bytes_eq-Decides q name).0 e)) there)
    by_test false e = sym (or_none (table_at map q))

-- one definition more
pub tables_more : (now : List ℕ → Option TableTree) (before : List ℕ → Option TableTree) (definitions : List Definition) (i : ℕ) (d of : Definition) → i < length definitions → of ≡ get_or definitions i d
    → ((name : List ℕ) → now name ≡ or_first (before name) (as_table name of))
    → ((name : List ℕ) → or_first (before name) (table_of name (drop i definitions)) ≡ table_of name definitions)
    → (name : List ℕ) → or_first (now name) (table_of name (drop (i + 1) definitions)) ≡ table_of name definitions
tables_more now before definitions i d of within is added left name =
    let next : drop i definitions ≡ of ∷ drop (i + 1) definitions = rw add-one (rw (drop-cons definitions i d) (rw (← is) refl)) in
    ap (λ t. or_first t (table_of name (drop (i + 1) definitions))) (added name)
    ∙ or_both (before name) (as_table name of) (table_of name (drop (i + 1) definitions))
    ∙ ap (λ (ds : List Definition). or_first (before name) (table_of name ds)) (sym next)
    ∙ left name

pub tables_all : (now : List ℕ → Option TableTree) (definitions : List Definition) (i : ℕ) → length definitions ≤ i
    → ((name : List ℕ) → or_first (now name) (table_of name (drop i definitions)) ≡ table_of name definitions)
    → (name : List ℕ) → now name ≡ table_of name definitions
tables_all now definitions i past left name =
    sym (or_none (now name)) ∙ sym (at_drop_all (λ (ds : List Definition). or_first (now name) (table_of name ds)) definitions i past) ∙ left name

-- ---- columns

-- a further column of a name
pub column_added : (old new : BTreeMap (Bor (List ℕ)) Matches) (name : List ℕ) (found : Matches) (place : ℕ) (column : ColumnTree) → SetsAt old new name found → name ≡ column.name
    → found ≡ found_too (matches_at old name) (record { place = place; kind = column.kind }) → (q : List ℕ) → matches_at new q ≡ found_at q place column (matches_at old q)
column_added old new name found place column sets named is q = ap (λ o. unwrap_or o matches.Nothing) (sets q)
    ∙ subst (λ n. unwrap_or (if same_units q name then Some found else at_name old q) matches.Nothing ≡ (if same_units q n then found_too (matches_at old q) (record { place = place; kind = column.kind }) else matches_at old q)) named (by_test (same_units q name) refl)
  where
    by_test : (b : Bool) → same_units q name ≡ b → unwrap_or (if b then Some found else at_name old q) matches.Nothing ≡ (if b then found_too (matches_at old q) (record { place = place; kind = column.kind }) else matches_at old q)
    by_test true e = is ∙ ap (λ n. found_too (matches_at old n) (record { place = place; kind = column.kind })) (sym ((bytes_eq-Decides q name).0 e))
    by_test false e = refl

pub columns_more : (now : List ℕ → Matches) (before : List ℕ → Matches) (columns : List ColumnTree) (i : ℕ) (d column : ColumnTree) (place : ℕ) → i < length columns → column ≡ get_or columns i d
    → ((name : List ℕ) → now name ≡ found_at name place column (before name))
    → ((name : List ℕ) → found_in name place (drop i columns) (before name) ≡ found_in name 0 columns matches.Nothing)
    → (name : List ℕ) → found_in name (behind place 1) (drop (i + 1) columns) (now name) ≡ found_in name 0 columns matches.Nothing
columns_more now before columns i d column place within is added left name =
    let next : drop i columns ≡ column ∷ drop (i + 1) columns = rw add-one (rw (drop-cons columns i d) (rw (← is) refl)) in
    ap (found_in name (behind place 1) (drop (i + 1) columns)) (added name)
    ∙ ap (λ (cs : List ColumnTree). found_in name place cs (before name)) (sym next)
    ∙ left name

pub columns_all : (now : List ℕ → Matches) (columns : List ColumnTree) (i place : ℕ) → length columns ≤ i
    → ((name : List ℕ) → found_in name place (drop i columns) (now name) ≡ found_in name 0 columns matches.Nothing)
    → (name : List ℕ) → now name ≡ found_in name 0 columns matches.Nothing
columns_all now columns i place past left name =
    sym (at_drop_all (λ (cs : List ColumnTree). found_in name place cs (now name)) columns i past) ∙ left name

abbrev pub is_any : Matches → Bool
is_any matches.Nothing = false
is_any (matches.One found) = true
is_any matches.Several = true

-- something is found where a column has the name
any_found : (name : List ℕ) (columns : List ColumnTree) (place : ℕ) (before : Matches) → is_any (found_in name place columns before) ≡ (is_any before || list_any (λ column. same_units name column.name) columns)
any_found name [] place before = or_false (is_any before)
  where
    or_false : (b : Bool) → b ≡ (b || false)
    or_false true = refl
    or_false false = refl
any_found name (column ∷ rest) place before = any_found name rest (behind place 1) (found_at name place column before) ∙ by_test (same_units name column.name) before
  where
    by_test : (b : Bool) (m : Matches) → (is_any (if b then found_too m (record { place = place; kind = column.kind }) else m) || list_any (λ column. same_units name column.name) rest) ≡ (is_any m || (b || list_any (λ column. same_units name column.name) rest))
    by_test true matches.Nothing = refl
    by_test true (matches.One found) = refl
    by_test true matches.Several = refl
    by_test false m = refl

pub found_any : (name : List ℕ) (columns : List ColumnTree) (found : Matches) (any : Bool) → found ≡ found_in name 0 columns matches.Nothing → any ≡ is_any found → any ≡ list_any (λ column. same_units name column.name) columns
found_any name columns found any is e = e ∙ ap is_any is ∙ any_found name columns 0 matches.Nothing

-- ---- aliases

or_no_place : (a : Option ℕ) → or_place a None ≡ a
or_no_place None = refl
or_no_place (Some a) = refl

-- the place of an alias that is not there yet
pub place_added : (old new : BTreeMap (List ℕ) ℕ) (name : List ℕ) (place : ℕ)
    → ((q : List ℕ) → get (slice_cmp nat_cmp) new q ≡ cond (is_eq (slice_cmp nat_cmp name q)) (Some place) (get (slice_cmp nat_cmp) old q)) → is_some (place_at old name) ≡ false
    → (q : List ℕ) → place_at new q ≡ or_place (place_at old q) (if same_units q name then Some place else None)
place_added old new name place updates fresh q =
    updates q ∙ by_test (is_eq (slice_cmp nat_cmp name q)) (same_units q name) (sym (texts_ties name q) ∙ same_turned name q) refl
  where
    none_at : (o : Option ℕ) → is_some o ≡ false → Some place ≡ or_place o (Some place)
    none_at None e = refl
    none_at (Some a) e = absurd (cc)

    by_test : (a b : Bool) → a ≡ b → same_units q name ≡ b → cond a (Some place) (place_at old q) ≡ or_place (place_at old q) (if b then Some place else None)
    by_test true true e f = none_at (place_at old q) (subst (λ n. is_some (place_at old n) ≡ false) (sym ((bytes_eq-Decides q name).0 f)) fresh)
    by_test false false e f = sym (or_no_place (place_at old q))
    by_test true false e f = absurd (cc)
    by_test false true e f = absurd (cc)

-- the place of an alias that is there
pub place_kept : (map : BTreeMap (List ℕ) ℕ) (name : List ℕ) (place : ℕ) → is_some (place_at map name) ≡ true
    → (q : List ℕ) → place_at map q ≡ or_place (place_at map q) (if same_units q name then Some place else None)
place_kept map name place there q = by_test (same_units q name) refl
  where
    some_at : (o : Option ℕ) → is_some o ≡ true → o ≡ or_place o (Some place)
    some_at None e = absurd (cc)
    some_at (Some a) e = refl

    by_test : (b : Bool) → same_units q name ≡ b → place_at map q ≡ or_place (place_at map q) (if b then Some place else None)
    by_test true e = some_at (place_at map q) (subst (λ n. is_some (place_at map n) ≡ true) (sym ((bytes_eq-Decides q name).0 e)) there)
    by_test false e = sym (or_no_place (place_at map q))

-- no alias has no name
pub place_none : (a : Option ℕ) → a ≡ or_place a None
place_none a = sym (or_no_place a)

position_push : {X : Type 0} (test : X → Bool) (xs : List X) (i : ℕ) (x : X) → position_from test i (xs ++ x ∷ []) ≡ or_place (position_from test i xs) (if test x then Some (i + length xs) else None)
position_push test [] i x = by_test (test x)
  where
    by_test : (b : Bool) → cond b (Some i) None ≡ (if b then Some (i + 0) else None)
    by_test true = let e : i + 0 ≡ i = omega arith in rw e refl
    by_test false = refl
position_push test (y ∷ xs) i x = by_test (test y) (position_push test xs (i + 1) x)
  where
    by_test : (b : Bool) → position_from test (i + 1) (xs ++ x ∷ []) ≡ or_place (position_from test (i + 1) xs) (if test x then Some (i + 1 + length xs) else None)
        → cond b (Some i) (position_from test (i + 1) (xs ++ x ∷ [])) ≡ or_place (cond b (Some i) (position_from test (i + 1) xs)) (if test x then Some (i + suc (length xs)) else None)
    by_test true e = refl
    by_test false e = let same : i + 1 + length xs ≡ i + suc (length xs) = omega arith in subst (λ n. position_from test (i + 1) (xs ++ x ∷ []) ≡ or_place (position_from test (i + 1) xs) (if test x then Some n else None)) same e

-- one alias more
pub alias_more : (old new : BTreeMap (List ℕ) ℕ) (aliases : List (Option (List ℕ))) (alias : Option (List ℕ)) → AreAliases old aliases
    → ((name : List ℕ) → place_at new name ≡ or_place (place_at old name) (if has_name name alias then Some (length aliases) else None)) → AreAliases new (aliases ++ alias ∷ [])
alias_more old new aliases alias are more name =
    let counted : length aliases ≡ 0 + length aliases = omega arith in
    more name
    ∙ ap (λ o. or_place o (if has_name name alias then Some (length aliases) else None)) (are name ∙ position_from-zero (has_name name) aliases)
    ∙ ap (λ n. or_place (position_from (has_name name) 0 aliases) (if has_name name alias then Some n else None)) counted
    ∙ sym (position_push (has_name name) aliases 0 alias)
    ∙ sym (position_from-zero (has_name name) (aliases ++ alias ∷ []))
