-- What reading by descent is of batches and definitions.
use Rattle.std.specs.Prelude.{◌≡◌, ℕ, List, [], Some, if◌then◌else◌, refl}
use Rattle.std.proofs.Common.{ap, ◌∙◌}
use Rattle.tsql_tree.specs.declared.statement.Batch.TheVariants as batch
use Rattle.tsql_grammar.specs.declared.kind.Kind.TheVariants as k
use Rattle.tsql_grammar.specs.declared.kind.Reserved.{Reserved}
use Rattle.tsql_grammar.specs.declared.kind.Reserved.TheVariants as word
use Rattle.tsql_grammar.specs.declared.rule.Class.{Class}
use Rattle.tsql_grammar.specs.declared.rule.Class.TheVariants as c
use Rattle.tsql_grammar.specs.declared.rule.Rule.TheVariants as r
use Rattle.tsql_grammar.specs.Productions.{Tree, outside}
use Rattle.tsql_grammar.specs.Terminals.{Terminal, line}
use Rattle.lexeme_reader.proofs.Front.{if_bind, when_bind, bind_assoc, bind_same}
use Rattle.lexeme_reader.specs.Reading.{Outcome, expect, ◌>>=◌, when, applied, read_in}
use Rattle.lexeme_reader.proofs.Ways.{by_order}
use Rattle.statement_reader.specs.Parts.{begins_other_statement, procedure_from, trigger_from, definition_from, behind_from, first_created}

abbrev reserved : Reserved → Class
reserved a = c.One (k.Reserved a)

procedure_is : (text : List ℕ) (w : List Terminal) → read_in text r.Procedure w ≡ procedure_from text w
procedure_is text w = by_order text r.Procedure w refl

trigger_is : (text : List ℕ) (w : List Terminal) → read_in text r.Trigger w ≡ trigger_from text w
trigger_is text w = by_order text r.Trigger w refl ∙ simp bind_assoc

first_create_on : (text : List ℕ) (create : Terminal) (ends : ℕ) (w : List Terminal) → (read_in text r.AfterFirstCreate w >>= λ x. Some (x.0 create ends, x.1))
    ≡ first_created text (line create) create.spanned.start ends w
first_create_on text create ends w =
    ap (λ (o : Outcome (Tree r.AfterFirstCreate)). o >>= λ x. Some (x.0 create ends, x.1)) (by_order text r.AfterFirstCreate w refl)
    ∙ simp (if_bind, bind_assoc, procedure_is text, trigger_is text)

pub batch_on : (text : List ℕ) (ends : ℕ) (w : List Terminal) → applied ends (read_in text r.Batch w)
    ≡ when (expect (reserved word.Create) w) (λ x. first_created text (line x.0) x.0.spanned.start ends x.1)
    (when (expect c.Semicolon w) (λ x. do y ← read_in text (r.Body outside) x.1; Some (batch.Body y.0, y.1))
    (if begins_other_statement w then (do x ← read_in text (r.OtherStatement outside) w; y ← behind_from text x.0 x.1; Some (batch.Body y.0, y.1))
    else Some (batch.Body [], w)))
unfolding begins_other_statement
batch_on text ends w =
    ap (applied ends) (by_order text r.Batch w refl)
    ∙ simp (when_bind, if_bind, bind_assoc, first_create_on text)

after_create_is : (text : List ℕ) (w : List Terminal) → read_in text r.AfterCreate w ≡ definition_from text w
after_create_is text w = by_order text r.AfterCreate w refl ∙ simp (bind_same, procedure_is text, trigger_is text)

pub definition_is : (text : List ℕ) (w : List Terminal) → read_in text r.Definition w ≡ (do x ← expect (reserved word.Create) w; definition_from text x.1)
definition_is text w = by_order text r.Definition w refl ∙ simp (bind_same, after_create_is text)
