-- What a row of `objects` defines.
use Rattle.std.proofs.Common.{◌≡◌, ◌≤◌, ◌<◌, ℤ, arith, refl, sym, ◌∙◌, ap, subst, ℕ, Bool, true, false, List, [], ◌∷◌, length, Option, Some, None, Result, Ok, Err, IfOk, if◌then◌else◌}
use Rattle.std.proofs.lemmas.Bool.{false≢true}
use Rattle.std.specs.Cmp.Lexicographic.{bytes_decides}
use Rattle.value_types.specs.Units.{same_units}
use Rattle.value_types.specs.declared.memory.Memory.{Memory}
use Rattle.value_types.specs.declared.value.Value.{Value}
use Rattle.value_types.specs.declared.value.Value.TheVariants.{Null, Whole, Bit, Text}
use Rattle.tsql_tree.specs.declared.definition.Definition.{Definition}
use Rattle.tsql_grammar.specs.declared.fault.ParseFault.{ParseFault}
use Rattle.tsql_grammar.specs.declared.fault.ParseFault.TheVariants as fault
use Rattle.tsql_grammar.specs.Parsed.{DefinitionOf}
use Rattle.tsql_grammar.proofs.OneOutcome.{one_definition as one_outcome}
use Rattle.table_rows.specs.Definitions.{Defines, IsDefinitionIn, IsDefinitionOf, IsOfName, defined_name, longest_text, only_named, own_name, row_of, text_in}
use Rattle.catalog_rows.specs.Laws.{OneDefinition, WrittenRead}

pub written_read : WrittenRead
written_read name text definition defines = (text, refl, defines)

no_truth : true ≡ false → ⊥
no_truth h = false≢true (sym h)

units_same : (a b : List ℕ) → same_units a b ≡ true → a ≡ b
units_same a b = (bytes_decides a b).0

same_itself : (a b : List ℕ) → a ≡ b → same_units a b ≡ true
same_itself a b = (bytes_decides a b).1

-- ---- rows tell their texts apart

abbrev first_of : List Value → Value
first_of [] = Null
first_of (a ∷ rest) = a

abbrev second_of : List Value → Value
second_of (a ∷ b ∷ rest) = b
second_of row = Null

abbrev units_in : Value → List ℕ
units_in (Text units) = units
units_in value = []

same_text : (name text other : List ℕ) → row_of name text ≡ row_of name other → text ≡ other
same_text name text other same = ap (λ (row : List Value). units_in (second_of row)) same

-- ---- a text reads as one definition

abbrev is_read : Result Definition ParseFault → Bool
is_read (Ok definition) = true
is_read (Err e) = false

abbrev or_first : Definition → Result Definition ParseFault → Definition
or_first d (Ok definition) = definition
or_first d (Err e) = d

read_no_memory : (definition : Definition) → Ok definition ≡ Err fault.Memory → ⊥
read_no_memory definition same = no_truth (ap is_read same)

pub one_tree : (text : List ℕ) (a b : Definition) → DefinitionOf text (Ok a) → DefinitionOf text (Ok b) → a ≡ b
one_tree text a b is also = ap (or_first a) (one_outcome text (Ok a) (Ok b) (read_no_memory a) (read_no_memory b) is also)

abbrev is_wanting : Result Definition ParseFault → Bool
is_wanting (Ok definition) = false
is_wanting (Err (fault.Refused number line near)) = false
is_wanting (Err fault.Memory) = true

refused_unread : (text : List ℕ) (number : ℤ) (line : ℕ) (near : List ℕ) (b : Definition) → DefinitionOf text (Err (fault.Refused number line near)) → DefinitionOf text (Ok b) → ⊥
refused_unread text number line near b is also =
    let same : Err (fault.Refused number line near) ≡ Ok b = one_outcome text (Err (fault.Refused number line near)) (Ok b) (λ e. false≢true (ap is_wanting e)) (read_no_memory b) is also in
    false≢true (ap is_read same)

-- ---- what a row of that name and text defines

-- a text that defines nothing for the name
pub none_of_text : (name text : List ℕ) → ((definition : Definition) → Defines name text definition → ⊥) → IsDefinitionOf name (row_of name text) None
none_of_text name text none other definition same defines =
    none definition (subst (λ (t : List ℕ). Defines name t definition) (sym (same_text name text other same)) defines)

pub too_long : (name text : List ℕ) → longest_text < length text → IsDefinitionOf name (row_of name text) None
too_long name text above = none_of_text name text (λ definition defines. let short = defines.short in absurd (omega (arith, above, short)))

pub refused : (name text : List ℕ) (number : ℤ) (line : ℕ) (near : List ℕ) → DefinitionOf text (Err (fault.Refused number line near)) → IsDefinitionOf name (row_of name text) None
refused name text number line near is = none_of_text name text (λ definition defines. refused_unread text number line near definition is defines.reads)

pub read : (name text : List ℕ) (definition : Definition) → length text ≤ longest_text → DefinitionOf text (Ok definition) → IsDefinitionOf name (row_of name text) (only_named name definition)
read name text definition short is = by_name (same_units (defined_name definition) name) refl
  where
    by_name : (b : Bool) → same_units (defined_name definition) name ≡ b → IsDefinitionOf name (row_of name text) (if b then Some definition else None)
    by_name true same = (text, refl, record { short = short; reads = is; named = units_same (defined_name definition) name same })
    by_name false other = none_of_text name text (λ d defines. false≢true (sym other ∙ same_itself (defined_name definition) name (ap defined_name (one_tree text definition d is defines.reads) ∙ defines.named)))

-- ---- rows of another shape

-- what the text that is found in a row says of it
abbrev Told : List ℕ → List Value → Option (List ℕ) → Type 0
Told name row (Some text) = row ≡ row_of name text
Told name row None = (text : List ℕ) → row ≡ row_of name text → ⊥

told_texts : (name own text : List ℕ) (b : Bool) → same_units own name ≡ b → Told name (row_of own text) (if b then Some text else None)
told_texts name own text true same = ap (λ (n : List ℕ). row_of n text) (units_same own name same)
told_texts name own text false other = λ t same. false≢true (sym other ∙ same_itself own name (ap (λ (row : List Value). units_in (first_of row)) same))

abbrev is_pair : List Value → Bool
is_pair [] = false
is_pair (a ∷ []) = false
is_pair (a ∷ b ∷ []) = true
is_pair (a ∷ b ∷ c ∷ rest) = false

abbrev is_text : Value → Bool
is_text (Text units) = true
is_text value = false

told : (name : List ℕ) (row : List Value) → Told name row (text_in name row)
told name [] = λ t same. false≢true (ap is_pair same)
told name (Null ∷ rest) = λ t same. false≢true (ap (λ (row : List Value). is_text (first_of row)) same)
told name (Whole n ∷ rest) = λ t same. false≢true (ap (λ (row : List Value). is_text (first_of row)) same)
told name (Bit b ∷ rest) = λ t same. false≢true (ap (λ (row : List Value). is_text (first_of row)) same)
told name (Text own ∷ []) = λ t same. false≢true (ap is_pair same)
told name (Text own ∷ Null ∷ rest) = λ t same. false≢true (ap (λ (row : List Value). is_text (second_of row)) same)
told name (Text own ∷ Whole n ∷ rest) = λ t same. false≢true (ap (λ (row : List Value). is_text (second_of row)) same)
told name (Text own ∷ Bit b ∷ rest) = λ t same. false≢true (ap (λ (row : List Value). is_text (second_of row)) same)
told name (Text own ∷ Text text ∷ []) = told_texts name own text (same_units own name) refl
told name (Text own ∷ Text text ∷ c ∷ rest) = λ t same. false≢true (ap is_pair same)

-- the row is that of the name and the text that is found in it
pub text_found : (name : List ℕ) (row : List Value) (text : List ℕ) → text_in name row ≡ Some text → row ≡ row_of name text
text_found name row text is = subst (Told name row) is (told name row)

-- a row without a text of the name defines nothing for it
pub nothing_found : (name : List ℕ) (row : List Value) → text_in name row ≡ None → IsDefinitionOf name row None
nothing_found name row is text definition same defines = subst (Told name row) is (told name row) text same

-- ---- a row defines one thing

pub one_definition : OneDefinition
one_definition name row (Some a) (Some b) x y =
    let texts : y.0 ≡ x.0 = same_text name y.0 x.0 (sym y.1 ∙ x.1) in
    ap Some (one_tree x.0 a b x.2.reads (subst (λ (t : List ℕ). DefinitionOf t (Ok b)) texts y.2.reads))
one_definition name row (Some a) None x y = absurd (y x.0 a x.1 x.2)
one_definition name row None (Some b) x y = absurd (x y.0 b y.1 y.2)
one_definition name row None None x y = refl

-- ---- rows by their own names

pub at_name : (name : List ℕ) (key row : List Value) (result : Result (Option Definition) Memory)
    → own_name key row ≡ Some name → IfOk result (λ (found : Option Definition). IsDefinitionOf name row found)
    → IfOk result (λ (found : Option Definition). IsDefinitionIn (key, row) found)
at_name name key row result same is =
    subst (λ (n : Option (List ℕ)). IfOk result (λ (found : Option Definition). IsOfName n row found)) (sym same) is

pub at_none : (key row : List Value) → own_name key row ≡ None → IsDefinitionIn (key, row) None
at_none key row none = subst (λ (n : Option (List ℕ)). IsOfName n row None) (sym none) refl
