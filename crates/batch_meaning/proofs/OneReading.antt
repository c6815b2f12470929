-- A text is read as one thing.
use Rattle.std.proofs.Common.{◌≡◌, ℕ, pos, List, Result, Ok, Err, sym, ap, ◌∙◌, subst}
use Rattle.tsql_tree.specs.declared.statement.Batch.{Batch}
use Rattle.tsql_grammar.specs.declared.fault.ParseFault.{ParseFault}
use Rattle.tsql_grammar.specs.declared.fault.ParseFault.TheVariants as fault
use Rattle.tsql_grammar.proofs.OneOutcome.{one_batch}
use Rattle.batch_meaning.specs.declared.form.ReadText.{ReadText}
use Rattle.batch_meaning.specs.declared.form.ReadText.TheVariants as text
use Rattle.batch_meaning.specs.Statements.{IsRead, ReadsAs}

-- what is read came to an end
remembered : (outcome : Result Batch ParseFault) (read : ReadText) → IsRead outcome read → outcome ≡ Err fault.Memory → ⊥
remembered outcome read is none = subst (λ (o : Result Batch ParseFault). IsRead o read) none is

one_text : (outcome : Result Batch ParseFault) (x y : ReadText) → IsRead outcome x → IsRead outcome y → x ≡ y
one_text (Ok batch) x y a b = a ∙ sym b
one_text (Err (fault.Refused number line near)) x y a b =
    let code : a.0 ≡ b.0 = (let same : pos a.0 ≡ pos b.0 = sym a.1 ∙ b.1 in cc) in
    a.2 ∙ ap (λ (n : ℕ). text.Refused (pos line) n near) code ∙ sym b.2
one_text (Err fault.Memory) x y a b = absurd a

pub one_reading : (units : List ℕ) (x y : ReadText) → ReadsAs units x → ReadsAs units y → x ≡ y
one_reading units x y a b =
    let same = one_batch units a.0 b.0 (remembered a.0 x a.2) (remembered b.0 y b.2) a.1 b.1 in
    one_text b.0 x y (subst (λ (o : Result Batch ParseFault). IsRead o x) same a.2) b.2
