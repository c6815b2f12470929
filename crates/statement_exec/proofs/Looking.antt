-- Names that are looked up one after another, and whether a transaction is open for that.
use Rattle.std.proofs.Common.{◌≡◌, ℕ, ◌+◌, ◌<◌, ◌≤◌, Bool, if◌then◌else◌, true, false, not, List, [], ◌∷◌, drop, get_or, length, Option, None, Some, Result, Ok, Err, IfOk, refl, sym, ap, ◌∙◌}
use Rattle.std.specs.Prelude.{is_some}
use Rattle.std.proofs.lemmas.List.{drop_all}
use Rattle.tsql_tree.specs.declared.definition.Definition.{Definition}
use Rattle.binder.specs.Names.{Layer}
use Rattle.table_rows.specs.Definitions.{is_objects}
use Rattle.batch_meaning.specs.Asking.{KnownNames, is_table}
use Rattle.batch_meaning.specs.Raised.{Fired}
use Rattle.batch_meaning.specs.Working.{asks_any, asks_first, is_of_trigger, is_read_by, known_in, table_called}
use Rattle.session_state.proofs.Stepping.{next_of}

-- what a name alone asks is asked with others behind it
first_asks : (known : Option (Option Definition)) (name : List ℕ) (others : Bool) → asks_first known name false ≡ true → asks_first known name others ≡ true
first_asks None name others asks = asks
first_asks (Some None) name others asks = asks
first_asks (Some (Some of)) name others asks = absurd (let no : false ≡ true = asks in cc)

pub alone_begun : (known_names : KnownNames) (names : List (List ℕ)) (i : ℕ) (name : List ℕ) (opened : Bool) → name ≡ get_or names i name → i < length names
    → (asks_any known_names (drop i names) ≡ true → opened ≡ true) → asks_any known_names (name ∷ []) ≡ true → opened ≡ true
alone_begun known_names names i name opened is within begun asks =
    begun (ap (asks_any known_names) (next_of names i name is within) ∙ first_asks (known_names name) name (asks_any known_names (drop (i + 1) names)) asks)

table_found : (found : Option Definition) → is_table found ≡ true → is_some found ≡ true
table_found None table = table
table_found (Some of) table = refl

-- behind a table's name the others
pub others_begun : (known_names : KnownNames) (names : List (List ℕ)) (i : ℕ) (name : List ℕ) (found : Option Definition) (opened new : Bool) → name ≡ get_or names i name → i < length names
    → (asks_any known_names (drop i names) ≡ true → opened ≡ true) → is_table found ≡ true
    → (is_some found ≡ true → (others : Bool) → (asks_first (known_names name) name others ≡ true → opened ≡ true) → others ≡ true → new ≡ true)
    → asks_any known_names (drop (i + 1) names) ≡ true → new ≡ true
others_begun known_names names i name found opened new is within begun table more =
    more (table_found found table) (asks_any known_names (drop (i + 1) names)) (λ asks. begun (ap (asks_any known_names) (next_of names i name is within) ∙ asks))

-- a name of a trigger
pub given_more : (known : Option (Option Definition)) (of : Definition) (name : List ℕ) (old new others : Bool) → Some (Some of) ≡ known → new ≡ old → (asks_first known name others ≡ true → old ≡ true) → others ≡ true → new ≡ true
given_more known of name old new others is kept begun asks = kept ∙ begun (ap (λ (k : Option (Option Definition)). asks_first k name others) (sym is) ∙ asks)

-- one that is looked up is not `objects`, where a transaction is wanted for it
pub looked_begun : (known : Option (Option Definition)) (name : List ℕ) (opened : Bool) → None ≡ known → (asks_first known name false ≡ true → opened ≡ true) → is_objects name ≡ false → opened ≡ true
looked_begun known name opened is begun other = begun (ap (λ (k : Option (Option Definition)). asks_first k name false) (sym is) ∙ ap not other)

-- what is looked up and found was looked up in a transaction
pub found_begun : {F : Type 0} (known : Option (Option Definition)) (name : List ℕ) (old new : Bool) (result : Result (Option Definition) F) → IfOk result (λ found. is_some found ≡ true → new ≡ true)
    → IfOk result (λ found. is_some found ≡ true → (others : Bool) → (asks_first known name others ≡ true → old ≡ true) → others ≡ true → new ≡ true)
found_begun known name old new (Ok found) opened = λ some others begun asks. opened some
found_begun known name old new (Err failure) opened = tt

-- ---- what a name stands for

-- outside triggers names are looked up
pub known_outside : (fired : Option Fired) (form : Layer) (name : List ℕ) → None ≡ fired → None ≡ known_in fired form name
known_outside fired form name is = ap (λ (f : Option Fired). known_in f form name) is

module _ (fired : Option Fired) (one : Fired) (form : Layer) (name : List ℕ) (is : Some one ≡ fired) where
  abbrev in_trigger : known_in (Some one) form name ≡ known_in fired form name
  in_trigger = ap (λ (f : Option Fired). known_in f form name) is

  -- in one all but its own tables are
  pub known_other : false ≡ is_of_trigger name → None ≡ known_in fired form name
  known_other other = ap (λ (own : Bool). if own then Some (if is_read_by form name then Some (table_called name one) else None) else None) other ∙ in_trigger

  -- where they are read they stand for its rows
  pub known_read : true ≡ is_of_trigger name → true ≡ is_read_by form name → Some (Some (table_called name one)) ≡ known_in fired form name
  known_read own read = ap (λ (r : Bool). Some (if r then Some (table_called name one) else None)) read
      ∙ ap (λ (o : Bool). if o then Some (if is_read_by form name then Some (table_called name one) else None) else None) own ∙ in_trigger

  -- and else for nothing
  pub known_written : true ≡ is_of_trigger name → false ≡ is_read_by form name → Some None ≡ known_in fired form name
  known_written own read = ap (λ (r : Bool). Some (if r then Some (table_called name one) else None)) read
      ∙ ap (λ (o : Bool). if o then Some (if is_read_by form name then Some (table_called name one) else None) else None) own ∙ in_trigger

-- ---- whether something is asked

module _ (known_names : KnownNames) (names : List (List ℕ)) (i : ℕ) (name : List ℕ) (is : name ≡ get_or names i name) (below : i < length names) (left : asks_any known_names names ≡ asks_any known_names (drop i names)) where
  first_left : asks_first (known_names name) name (asks_any known_names (drop (i + 1) names)) ≡ asks_any known_names names
  first_left = sym (left ∙ ap (asks_any known_names) (next_of names i name is below))

  -- by a name that is looked up
  pub asks_looked : {objects : Bool} → None ≡ known_names name → objects ≡ is_objects name → not objects ≡ asks_any known_names names
  asks_looked looked same = ap not same ∙ ap (λ (k : Option (Option Definition)). asks_first k name (asks_any known_names (drop (i + 1) names))) looked ∙ first_left

  -- behind one that stands for nothing
  pub asks_nothing : Some None ≡ known_names name → false ≡ asks_any known_names names
  asks_nothing nothing = ap (λ (k : Option (Option Definition)). asks_first k name (asks_any known_names (drop (i + 1) names))) nothing ∙ first_left

  -- by those behind one that is given
  pub asks_given : {of : Definition} → Some (Some of) ≡ known_names name → asks_any known_names names ≡ asks_any known_names (drop (i + 1) names)
  asks_given given = sym (ap (λ (k : Option (Option Definition)). asks_first k name (asks_any known_names (drop (i + 1) names))) given ∙ first_left)

-- none was
pub asks_no_more : (known_names : KnownNames) (names : List (List ℕ)) (i : ℕ) → length names ≤ i → asks_any known_names names ≡ asks_any known_names (drop i names) → false ≡ asks_any known_names names
asks_no_more known_names names i past left = sym (left ∙ ap (asks_any known_names) (drop_all i names past))

-- one name alone
pub named_looked : (known : Option (Option Definition)) (name : List ℕ) (objects : Bool) → None ≡ known → objects ≡ is_objects name → not objects ≡ asks_first known name false
named_looked known name objects looked same = ap not same ∙ ap (λ (k : Option (Option Definition)). asks_first k name false) looked

pub named_nothing : (known : Option (Option Definition)) (name : List ℕ) → Some None ≡ known → false ≡ asks_first known name false
named_nothing known name nothing = ap (λ (k : Option (Option Definition)). asks_first k name false) nothing

pub named_given : (known : Option (Option Definition)) (name : List ℕ) (of : Definition) → Some (Some of) ≡ known → false ≡ asks_first known name false
named_given known name of given = ap (λ (k : Option (Option Definition)). asks_first k name false) given
