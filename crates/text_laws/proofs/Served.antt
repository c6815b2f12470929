-- What a text is read as reads back: over whatever definitions and variables a CREATE TABLE is bound, what it keeps of the text defines its
-- table; and what CREATE PROCEDURE or CREATE TRIGGER keeps defines such a procedure or trigger.
use Rattle.std.specs.Prelude.{◌≡◌, ℕ, ◌≤◌, List, length, Ok, Err}
use Rattle.std.proofs.Common.{sym, subst, arith}
use Rattle.tsql_tree.specs.declared.definition.Definition.TheVariants as definition
use Rattle.tsql_tree.specs.declared.definition.Definition.{Definition as Defined}
use Rattle.tsql_tree.specs.declared.statement.Batch.TheVariants.{Definition, Body}
use Rattle.tsql_grammar.specs.declared.fault.ParseFault.TheVariants as fault
use Rattle.tsql_grammar.specs.Parsed.{BatchOf}
use Rattle.table_rows.specs.Definitions.{defined_name, longest_text}
use Rattle.text_laws.specs.Placeless.{AreLike}
use Rattle.text_laws.specs.Laws.{CallReadsBack, KeepsDefinition, ServedCall, ServedText, TextReadsBack, are_declared}
use Rattle.text_laws.proofs.Alone.{kept_definition}
use Rattle.text_laws.proofs.Batches.{created_text}
use Rattle.text_laws.proofs.Bodies.{defined_batch, statements_back}

-- what is alike has one name
one_name : (of own : Defined) → AreLike of own → defined_name own ≡ defined_name of
one_name (definition.Procedure of) (definition.Procedure own) like = sym like.name
one_name (definition.Trigger of) (definition.Trigger own) like = sym like.name
one_name (definition.Table of) own like = absurd like
one_name (definition.Procedure of) (definition.Table own) like = absurd like
one_name (definition.Procedure of) (definition.Trigger own) like = absurd like
one_name (definition.Trigger of) (definition.Table own) like = absurd like
one_name (definition.Trigger of) (definition.Procedure own) like = absurd like

keeps : (units : List ℕ) (n : ℕ) (of : Defined) (kept : List ℕ) → BatchOf units (Ok (Definition n of kept)) → length units ≤ longest_text → KeepsDefinition of kept
keeps units n of kept reads short =
    let (own, is, like, few) = kept_definition units n of kept reads in
    (own, record { short = omega (arith, short, few); reads = is; named = one_name of own like }, like)

pub served_text : ServedText
served_text units read (Ok (Body body), reads, are) short = subst TextReadsBack (sym are) (statements_back (are_declared body) body (created_text units body reads short))
served_text units read (Ok (Definition n of kept), reads, are) short = subst TextReadsBack (sym are) (keeps units n of kept reads short)
served_text units read (Err (fault.Refused number line near), reads, (code, is, are)) short = subst TextReadsBack (sym are) tt
served_text units read (Err fault.Memory, reads, are) short = absurd are

pub served_call : ServedCall
served_call units read (Ok (Body body), reads, are) short = subst CallReadsBack (sym are) tt
served_call units read (Ok (Definition n of kept), reads, are) short = subst CallReadsBack (sym are) (defined_batch units n of kept reads short)
served_call units read (Err (fault.Refused number line near), reads, (code, is, are)) short = subst CallReadsBack (sym are) tt
served_call units read (Err fault.Memory, reads, are) short = absurd are
