use Rattle.std.proofs.Common.{sym, ◌∙◌}
use Rattle.tsql_grammar.specs.declared.rule.Mark.TheVariants.{Enter, Leave, Uses, Declares}
use Rattle.tsql_recognizer.proofs.Noting.{goes_past, goes_sound}
use Rattle.tsql_recognizer.proofs.notes.Notes.note.Goals as goal

pub returns-then-is_some-clause-means : goal.returns-then-is_some-clause-means
returns-then-is_some-clause-means c = goes_past c.args.mark c.args.self.now (sym c.is_some.ensures ∙ c.if-is_some.true)

pub returns-in-Enter-clause-means : goal.returns-in-Enter-clause-means
returns-in-Enter-clause-means c =
    goes_sound c.args.mark Enter c.args.self.now c.enter.new.self (sym c.is_some.ensures ∙ c.if-is_some.false) c.in-Enter.is c.enter.ensures.means

pub returns-in-Leave-clause-means : goal.returns-in-Leave-clause-means
returns-in-Leave-clause-means c =
    goes_sound c.args.mark Leave c.args.self.now c.leave.new.self (sym c.is_some.ensures ∙ c.if-is_some.false) c.in-Leave.is c.leave.ensures.means

pub returns-in-Uses-clause-means : goal.returns-in-Uses-clause-means
returns-in-Uses-clause-means c =
    goes_sound c.args.mark Uses c.args.self.now c.judge_use.new.self (sym c.is_some.ensures ∙ c.if-is_some.false) c.in-Uses.is c.judge_use.ensures.means

pub returns-in_ok-declare-in-Declares-clause-means : goal.returns-in_ok-declare-in-Declares-clause-means
returns-in_ok-declare-in-Declares-clause-means c =
    goes_sound c.args.mark Declares c.args.self.now c.declare.new.self (sym c.is_some.ensures ∙ c.if-is_some.false) c.in-Declares.is c.in_ok-declare-in-Declares.ensures.means
