-- What reading by descent gives of a text that stands for a tree.
use Rattle.std.specs.Prelude.{◌≡◌, ℕ, true, List, [], Option, Some, None, Result, Ok, Err}
use Rattle.std.proofs.Common.{ap, sym, ◌∙◌, subst}
use Rattle.tsql_lexer.specs.declared.fault.Flaw.{Flaw}
use Rattle.tsql_lexer.specs.declared.lexeme.Spanned.{Spanned}
use Rattle.tsql_lexer.specs.Reading.{lexing_of}
use Rattle.tsql_tree.specs.declared.definition.Definition.{Definition}
use Rattle.tsql_tree.specs.declared.statement.Batch.{Batch}
use Rattle.tsql_grammar.specs.declared.rule.Rule.{Rule}
use Rattle.tsql_grammar.specs.declared.rule.Rule.TheVariants as r
use Rattle.tsql_grammar.specs.Noted.{start}
use Rattle.tsql_grammar.specs.Productions.{Tree}
use Rattle.tsql_grammar.specs.Terminals.{Terminal, terminals}
use Rattle.tsql_grammar.proofs.PlainTexts.{plain_reads}
use Rattle.tsql_grammar.proofs.Readings.{whole}
use Rattle.lexeme_reader.specs.Reading.{Outcome, Gives, applied, read_in}
use Rattle.lexeme_reader.specs.declared.fault.ReadFault.{ReadFault}
use Rattle.lexeme_reader.specs.declared.fault.ReadFault.TheVariants.{Refused}
use Rattle.stmt_parser.proofs.Verdicts.{lexemes_same}
use Rattle.tsql_grammar.specs.Parsed.{lexemes_of, end_of, Stands, BatchOf, DefinitionOf}

descends : (a : Rule) (text : List ℕ) (tree : Tree a) → Stands a text tree None → read_in text a (terminals (lexemes_of text)) ≡ Some (tree, [])
unfolding read_in
descends a text tree s = let r = s.reads in whole text a (terminals (lexemes_of text)) tree (start true) r.0 (plain_reads text a (lexemes_of text) tree (start true) r.0 r.1)

no_value : {A : Type 0} (x : A) → Some x ≡ None → ⊥
no_value x e = absurd (cc)

first_of : {A : Type 0} → A → Outcome A → A
first_of d None = d
first_of d (Some x) = x.0

pub batch_so : (text : List ℕ) (batch : Batch) (rest : List Terminal) → (tree : Tree r.Batch) × Stands r.Batch text tree None
    → applied (end_of (lexemes_of text)) (read_in text r.Batch (terminals (lexemes_of text))) ≡ Some (batch, rest) → BatchOf text (Ok batch)
unfolding first_of
batch_so text batch rest (tree, s) e =
    let found : Some (tree (end_of (lexemes_of text)), []) ≡ Some (batch, rest) = sym (ap (applied (end_of (lexemes_of text))) (descends r.Batch text tree s)) ∙ e in
    (tree, s, sym (ap (first_of batch) found))

pub batch_some : (text : List ℕ) → (tree : Tree r.Batch) × Stands r.Batch text tree None → applied (end_of (lexemes_of text)) (read_in text r.Batch (terminals (lexemes_of text))) ≡ None → ⊥
batch_some text (tree, s) e =
    no_value {A = Batch × List Terminal} (tree (end_of (lexemes_of text)), []) (sym (ap (applied (end_of (lexemes_of text))) (descends r.Batch text tree s)) ∙ e)

pub definition_so : (text : List ℕ) (definition : Definition) (rest : List Terminal) → (tree : Tree r.Definition) × Stands r.Definition text tree None
    → read_in text r.Definition (terminals (lexemes_of text)) ≡ Some (definition, rest) → DefinitionOf text (Ok definition)
unfolding first_of
definition_so text definition rest (tree, s) e =
    let same : tree ≡ definition = ap (first_of tree) (sym (descends r.Definition text tree s) ∙ e) in subst (λ (x : Definition). Stands r.Definition text x None) same s

pub definition_some : (text : List ℕ) → (tree : Tree r.Definition) × Stands r.Definition text tree None → read_in text r.Definition (terminals (lexemes_of text)) ≡ None → ⊥
definition_some text (tree, s) e = no_value {A = Definition × List Terminal} (tree, []) (sym (descends r.Definition text tree s) ∙ e)

-- ---- the same of what the lexer and the reader gave

given : {A : Type 0} (outcome : Outcome A) (result : Result A ReadFault) (rest : List Terminal) (x : A) → Gives outcome result rest → result ≡ Ok x → outcome ≡ Some (x, rest)
given outcome result rest x g e = subst (λ (z : Result _ ReadFault). Gives outcome z rest) e g

denied : {A : Type 0} (outcome : Outcome A) (result : Result A ReadFault) (rest : List Terminal) (f : ReadFault) → Gives outcome result rest → result ≡ Err f → f ≡ Refused → outcome ≡ None
denied outcome result rest f g e r = subst (λ (z : Result _ ReadFault). Gives outcome z rest) e g r

abbrev batch_read : List ℕ → ℕ → List Terminal → Outcome Batch
batch_read text ends v = applied ends (read_in text r.Batch v)

batch_same : (text : List ℕ) (w u : List Spanned) (flaw : Option Flaw) (ends : ℕ) (v : List Terminal) → (w, flaw) ≡ lexing_of text → u ≡ w → v ≡ terminals u → ends ≡ end_of u
    → batch_read text ends v ≡ batch_read text (end_of (lexemes_of text)) (terminals (lexemes_of text))
batch_same text w u flaw ends v l e t n =
    let same : u ≡ lexemes_of text = e ∙ lexemes_same text w flaw l in
    ap (λ (z : ℕ). batch_read text z v) (n ∙ ap end_of same) ∙ ap (λ (z : List Terminal). batch_read text (end_of (lexemes_of text)) z) (t ∙ ap terminals same)

pub batch_given : (text : List ℕ) (w u : List Spanned) (flaw : Option Flaw) (ends : ℕ) (v : List Terminal) (result : Result Batch ReadFault) (rest : List Terminal) (batch : Batch)
    → (w, flaw) ≡ lexing_of text → (tree : Tree r.Batch) × Stands r.Batch text tree None → u ≡ w → v ≡ terminals u → ends ≡ end_of u → Gives (batch_read text ends v) result rest → result ≡ Ok batch → BatchOf text (Ok batch)
batch_given text w u flaw ends v result rest batch l s e t n g h =
    batch_so text batch rest s (sym (batch_same text w u flaw ends v l e t n) ∙ given (batch_read text ends v) result rest batch g h)

pub batch_never : (text : List ℕ) (w u : List Spanned) (flaw : Option Flaw) (ends : ℕ) (v : List Terminal) (result : Result Batch ReadFault) (rest : List Terminal) (f : ReadFault)
    → (w, flaw) ≡ lexing_of text → (tree : Tree r.Batch) × Stands r.Batch text tree None → u ≡ w → v ≡ terminals u → ends ≡ end_of u → Gives (batch_read text ends v) result rest → result ≡ Err f → f ≡ Refused → ⊥
batch_never text w u flaw ends v result rest f l s e t n g h k =
    batch_some text s (sym (batch_same text w u flaw ends v l e t n) ∙ denied (batch_read text ends v) result rest f g h k)

definition_same : (text : List ℕ) (w u : List Spanned) (flaw : Option Flaw) (v : List Terminal) → (w, flaw) ≡ lexing_of text → u ≡ w → v ≡ terminals u → read_in text r.Definition v ≡ read_in text r.Definition (terminals (lexemes_of text))
definition_same text w u flaw v l e t = ap (read_in text r.Definition) (t ∙ ap terminals (e ∙ lexemes_same text w flaw l))

pub definition_given : (text : List ℕ) (w u : List Spanned) (flaw : Option Flaw) (v : List Terminal) (result : Result Definition ReadFault) (rest : List Terminal) (definition : Definition)
    → (w, flaw) ≡ lexing_of text → (tree : Tree r.Definition) × Stands r.Definition text tree None → u ≡ w → v ≡ terminals u → Gives (read_in text r.Definition v) result rest → result ≡ Ok definition → DefinitionOf text (Ok definition)
definition_given text w u flaw v result rest definition l s e t g h =
    definition_so text definition rest s (sym (definition_same text w u flaw v l e t) ∙ given (read_in text r.Definition v) result rest definition g h)

pub definition_never : (text : List ℕ) (w u : List Spanned) (flaw : Option Flaw) (v : List Terminal) (result : Result Definition ReadFault) (rest : List Terminal) (f : ReadFault)
    → (w, flaw) ≡ lexing_of text → (tree : Tree r.Definition) × Stands r.Definition text tree None → u ≡ w → v ≡ terminals u → Gives (read_in text r.Definition v) result rest → result ≡ Err f → f ≡ Refused → ⊥
definition_never text w u flaw v result rest f l s e t g h k =
    definition_some text s (sym (definition_same text w u flaw v l e t) ∙ denied (read_in text r.Definition v) result rest f g h k)
