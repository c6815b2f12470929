-- The rows of a range, from its first fetch and those behind it.
use Rattle.std.proofs.Common.{◌≡◌, ℕ, Bool, true, false, ◌&&◌, ◌||◌, List, [], ◌∷◌, length, Option, None, Some, is_some, IsTrue, refl, sym, ap, ◌∙◌}
use Rattle.std.specs.Prelude.{IsSome}
use Rattle.std.specs.List.{AllByRecursion, list_any}
use Rattle.std.specs.List.Sorted.{IsStrictlySortedBy}
use Rattle.std.specs.Ordering.{is_eq}
use Rattle.std.specs.declared.cmp.Ordering.{Ordering}
use Rattle.std.specs.declared.cmp.Ordering.TheVariants.{Less, Equal, Greater}
use Rattle.std.proofs.lemmas.List.Elements.{All-from_recursion, recursion_from_All}
use Rattle.value_types.specs.declared.table_name.TableName.{TableName}
use Rattle.value_types.specs.declared.value.Value.{Value}
use Rattle.value_types.specs.Order.{key_cmp}
use Rattle.step_model.specs.declared.range.Start.{Start}
use Rattle.step_model.specs.declared.range.Start.TheVariants.{At, Past}
use Rattle.step_model.specs.declared.range.Stop.{Stop}
use Rattle.step_model.specs.declared.range.Stop.TheVariants.{Within}
use Rattle.step_model.specs.Database.{Database, First, In, allows, includes, is_within}
use Rattle.constraint_check.specs.Laws.{KeysAreOne}
use Rattle.constraint_check.proofs.Lists.{all_more}
use Rattle.history_laws.proofs.Basics.{both}
use Rattle.history_laws.proofs.Ranges.{allows_above}
use Rattle.dml_exec.specs.Reading.{behind_gone}
use Rattle.write_laws.specs.Reads.{KeysHave}
use Rattle.write_laws.proofs.Keys.{above_behind, above_past, behind_above, not_below, one_key, past_above, tied_both, tied_end}

abbrev pub Entry : Type 0
Entry = List Value × List Value

pub none_some : (o : Option (List Value)) → o ≡ None → IsSome o → ⊥
none_some o none some = let no : false ≡ true = sym (ap is_some none) ∙ some in absurd (let h : false ≡ true = no in cc)

pub or_right : (a b : Bool) → b ≡ true → (a || b) ≡ true
or_right true b is = refl
or_right false b is = is

module _ (db : Database) (table : TableName) where
  -- an entry of a range
  abbrev pub Inside : Start → Stop → Entry → Type 0
  Inside start stop at = IsTrue (is_within start stop at.0) × (db table at.0 ≡ Some at.1)

  -- no key of the range has a row
  pub none_in : (start : Start) (stop : Stop) → First db table start stop None → In db table start stop []
  unfolding IsStrictlySortedBy
  none_in start stop none = record {
    sorted = tt;
    rows_of_range = All-from_recursion (Inside start stop) [] tt;
    whole = λ key within some. absurd (none_some (db table key) (none key within) some);
  }

  -- Behind a key the range goes on from a start that allows keys above it alone, and all such that have a row.
  module _ (start : Start) (stop : Stop) (key : List Value) (on : Start) (above : (k : List Value) → allows on k ≡ true → key_cmp key k ≡ Less)
      (all_above : (k : List Value) → IsSome (db table k) → key_cmp k key ≡ Greater → allows on k ≡ true) (rest : List Entry) (more : In db table on stop rest) where
    -- what is there is in the range, where the key is
    inside_on : allows start key ≡ true → (at : Entry) → Inside on stop at → Inside start stop at
    inside_on allowed at inside =
        let parts = both (allows on at.0) (includes stop at.0) inside.0 in
        (rw (allows_above start key at.0 (above at.0 parts.0) allowed, parts.1) refl, inside.1)

    behind : AllByRecursion (Inside on stop) rest
    behind = recursion_from_All (Inside on stop) rest more.rows_of_range

    on_it : (k : List Value) → IsTrue (is_within start stop k) → IsSome (db table k) → key_cmp k key ≡ Greater → IsTrue (is_within on stop k)
    on_it k within some greater = rw (all_above k some greater, (both (allows start k) (includes stop k) within).1) refl

    -- a row, and then those behind its key
    pub row_in : (row : List Value) → First db table start stop (Some key) → db table key ≡ Some row → In db table start stop ((key, row) ∷ rest)
    unfolding IsStrictlySortedBy
    row_in row first there = record {
      sorted = (all_more (Inside on stop) (λ at. key_cmp key at.0 ≡ Less) (λ at inside. above at.0 (both (allows on at.0) (includes stop at.0) inside.0).0) rest behind, more.sorted);
      rows_of_range = All-from_recursion (Inside start stop) ((key, row) ∷ rest) (
        (first.0, there),
        all_more (Inside on stop) (Inside start stop) (inside_on (both (allows start key) (includes stop key) first.0).0) rest behind,
      );
      whole = λ k within some. by_order k within some (key_cmp k key) refl;
    }
      where
        by_order : (k : List Value) → IsTrue (is_within start stop k) → IsSome (db table k) → (o : Ordering) → key_cmp k key ≡ o → IsTrue (list_any (λ (at : Entry). is_eq (key_cmp k at.0)) ((key, row) ∷ rest))
        by_order k within some Less is = absurd (none_some (db table k) (first.2 k within is) some)
        by_order k within some Equal is = rw is refl
        by_order k within some Greater is = or_right (is_eq (key_cmp k key)) (list_any (λ (at : Entry). is_eq (key_cmp k at.0)) rest) (more.whole k (on_it k within some is) some)

    -- a key without a row, and then the rows behind it
    pub gone_in : KeysAreOne db → allows start key ≡ true → db table key ≡ None → ((k : List Value) → IsTrue (allows start k) → key_cmp k key ≡ Less → db table k ≡ None) → In db table start stop rest
    gone_in one allowed gone below = record {
      sorted = more.sorted;
      rows_of_range = All-from_recursion (Inside start stop) rest (all_more (Inside on stop) (Inside start stop) (inside_on allowed) rest behind);
      whole = λ k within some. by_order k within some (key_cmp k key) refl;
    }
      where
        by_order : (k : List Value) → IsTrue (is_within start stop k) → IsSome (db table k) → (o : Ordering) → key_cmp k key ≡ o → IsTrue (list_any (λ (at : Entry). is_eq (key_cmp k at.0)) rest)
        by_order k within some Less is = absurd (none_some (db table k) (below k (both (allows start k) (includes stop k) within).0 is) some)
        by_order k within some Equal is = absurd (none_some (db table k) (one table k key (ap is_eq is) ∙ gone) some)
        by_order k within some Greater is = more.whole k (on_it k within some is) some

  -- ---- a table whose keys that have a row have so many values

  module _ (width : ℕ) (long : KeysHave width db table) (start : Start) (stop : Stop) (key : List Value) (rest : List Entry) where
    -- behind a row
    pub row_on : (row : List Value) → First db table start stop (Some key) → db table key ≡ Some row → In db table (Past key) stop rest → In db table start stop ((key, row) ∷ rest)
    row_on row first there more = row_in start stop key (Past key) (past_above key) (λ k some greater. above_past key k (long k some ∙ sym (long key (rw there refl))) greater) rest more row first there

    -- which is as long as the table's keys are
    pub row_behind : (row : List Value) → First db table start stop (Some key) → db table key ≡ Some row → In db table (behind_gone width key) stop rest → In db table start stop ((key, row) ∷ rest)
    row_behind row first there more = row_in start stop key (behind_gone width key) (behind_above width key) (λ k some greater. above_behind width key k (long k some) greater) rest more row first there

    -- and behind a key that has none
    pub gone_on : KeysAreOne db → allows start key ≡ true → db table key ≡ None → ((k : List Value) → IsTrue (allows start k) → key_cmp k key ≡ Less → db table k ≡ None)
        → In db table (behind_gone width key) stop rest → In db table start stop rest
    gone_on one allowed gone below more = gone_in start stop key (behind_gone width key) (behind_above width key) (λ k some greater. above_behind width key k (long k some) greater) rest more one allowed gone below

  -- ---- a range of one whole key

  module _ (first : List Value) (long : (k : List Value) → IsSome (db table k) → length k ≡ length first) where
    is_first : (k : List Value) → IsTrue (is_within (At first) (Within first) k) → IsSome (db table k) → key_cmp k first ≡ Equal
    is_first k within some = let parts = both (allows (At first) k) (includes (Within first) k) within in one_key first k (long k some) parts.0 parts.1

    pub one_row_in : (key row : List Value) → First db table (At first) (Within first) (Some key) → db table key ≡ Some row → In db table (At first) (Within first) ((key, row) ∷ [])
    unfolding IsStrictlySortedBy
    one_row_in key row lowest there = record {
      sorted = (tt, tt);
      rows_of_range = All-from_recursion (Inside (At first) (Within first)) ((key, row) ∷ []) ((lowest.0, there), tt);
      whole = λ k within some. rw (tied_both first k key (is_first k within some) (is_first key lowest.0 lowest.1)) refl;
    }

    pub one_gone_in : KeysAreOne db → (key : List Value) → allows (At first) key ≡ true → db table key ≡ None → ((k : List Value) → IsTrue (allows (At first) k) → key_cmp k key ≡ Less → db table k ≡ None)
        → In db table (At first) (Within first) []
    unfolding IsStrictlySortedBy
    one_gone_in one key allowed gone below = record {
      sorted = tt;
      rows_of_range = All-from_recursion (Inside (At first) (Within first)) [] tt;
      whole = λ k within some. by_order k within some (key_cmp k key) refl;
    }
      where
        by_order : (k : List Value) → IsTrue (is_within (At first) (Within first) k) → IsSome (db table k) → (o : Ordering) → key_cmp k key ≡ o → IsTrue (list_any (λ (at : Entry). is_eq (key_cmp k at.0)) [])
        by_order k within some Less is = absurd (none_some (db table k) (below k (both (allows (At first) k) (includes (Within first) k) within).0 is) some)
        by_order k within some Equal is = absurd (none_some (db table k) (one table k key (ap is_eq is) ∙ gone) some)
        by_order k within some Greater is = absurd (not_below first k key (is_first k within some) is allowed)

  -- ---- ranges that stop at keys that tie

  module _ (start : Start) (first last : List Value) (tied : key_cmp first last ≡ Equal) where
    within_tied : (k : List Value) → is_within start (Within last) k ≡ is_within start (Within first) k
    within_tied k = ap (λ (b : Bool). allows start k && b) (tied_end first last k tied)

    -- what the one has, the other has
    pub first_tied : (lowest : Option (List Value)) → First db table start (Within last) lowest → First db table start (Within first) lowest
    first_tied None none = λ k within. none k (within_tied k ∙ within)
    first_tied (Some lowest) found = (sym (within_tied lowest) ∙ found.0, found.1, λ k within below. found.2 k (within_tied k ∙ within) below)

    pub in_tied : (entries : List Entry) → In db table start (Within first) entries → In db table start (Within last) entries
    in_tied entries is = record {
      sorted = is.sorted;
      rows_of_range = All-from_recursion (Inside start (Within last)) entries
          (all_more (Inside start (Within first)) (Inside start (Within last)) (λ at inside. (within_tied at.0 ∙ inside.0, inside.1)) entries (recursion_from_All (Inside start (Within first)) entries is.rows_of_range));
      whole = λ k within some. is.whole k (sym (within_tied k) ∙ within) some;
    }
