use Rattle.std.specs.Prelude.{refl}
use Rattle.std.proofs.Common.{sym, ◌∙◌}
use Rattle.tsql_grammar.specs.declared.rule.Rule.TheVariants as r
use Rattle.tsql_recognizer.specs.Stack.{symbols_of_rule}
use Rattle.tsql_recognizer.proofs.Leading.{falls_at, not_true, falls_lexeme, falls_rule}
use Rattle.tsql_recognizer.proofs.common.falls_away.Goals as goal

pub returns-in-MoreFactors : goal.returns-in-MoreFactors
returns-in-MoreFactors c h = falls_at c.args.rule r.MoreFactors c.in-MoreFactors.is c.args.kind (falls_rule _ _ (symbols_of_rule r.MoreFactors) (sym c.may_begin.ensures ∙ not_true c.may_begin.result h) refl)

pub returns-in-MoreTerms : goal.returns-in-MoreTerms
returns-in-MoreTerms c h = falls_at c.args.rule r.MoreTerms c.in-MoreTerms.is c.args.kind (falls_rule _ _ (symbols_of_rule r.MoreTerms) (sym c.may_begin-in-MoreTerms.ensures ∙ not_true c.may_begin-in-MoreTerms.result h) refl)

pub returns-in-MoreAnds : goal.returns-in-MoreAnds
returns-in-MoreAnds c h = falls_at c.args.rule r.MoreAnds c.in-MoreAnds.is c.args.kind (falls_lexeme _ _ (symbols_of_rule r.MoreAnds) (sym c.same_kind.ensures ∙ not_true c.same_kind.result h) refl)

pub returns-in-MoreOrs : goal.returns-in-MoreOrs
returns-in-MoreOrs c h = falls_at c.args.rule r.MoreOrs c.in-MoreOrs.is c.args.kind (falls_lexeme _ _ (symbols_of_rule r.MoreOrs) (sym c.same_kind-in-MoreOrs.ensures ∙ not_true c.same_kind-in-MoreOrs.result h) refl)

pub returns-in-MoreExprs : goal.returns-in-MoreExprs
returns-in-MoreExprs c h = falls_at c.args.rule r.MoreExprs c.in-MoreExprs.is c.args.kind (falls_lexeme _ _ (symbols_of_rule r.MoreExprs) (sym c.same_kind-in-MoreExprs.ensures ∙ not_true c.same_kind-in-MoreExprs.result h) refl)

pub returns-in-MoreValueRows : goal.returns-in-MoreValueRows
returns-in-MoreValueRows c h = falls_at c.args.rule r.MoreValueRows c.in-MoreValueRows.is c.args.kind (falls_lexeme _ _ (symbols_of_rule r.MoreValueRows) (sym c.same_kind-in-MoreValueRows.ensures ∙ not_true c.same_kind-in-MoreValueRows.result h) refl)

pub returns-in-MoreItems : goal.returns-in-MoreItems
returns-in-MoreItems c h = falls_at c.args.rule r.MoreItems c.in-MoreItems.is c.args.kind (falls_lexeme _ _ (symbols_of_rule r.MoreItems) (sym c.same_kind-in-MoreItems.ensures ∙ not_true c.same_kind-in-MoreItems.result h) refl)

pub returns-in-MoreArms : goal.returns-in-MoreArms
returns-in-MoreArms c h = falls_at c.args.rule r.MoreArms c.in-MoreArms.is c.args.kind (falls_rule _ _ (symbols_of_rule r.MoreArms) (sym c.may_begin-in-MoreArms.ensures ∙ not_true c.may_begin-in-MoreArms.result h) refl)

pub returns-in-CaseElse : goal.returns-in-CaseElse
returns-in-CaseElse c h = falls_at c.args.rule r.CaseElse c.in-CaseElse.is c.args.kind (falls_lexeme _ _ (symbols_of_rule r.CaseElse) (sym c.same_kind-in-CaseElse.ensures ∙ not_true c.same_kind-in-CaseElse.result h) refl)

pub returns-in-AfterName : goal.returns-in-AfterName
returns-in-AfterName c h = falls_at c.args.rule r.AfterName c.in-AfterName.is c.args.kind (falls_lexeme _ _ (symbols_of_rule r.AfterName) (sym c.same_kind-in-AfterName.ensures ∙ not_true c.same_kind-in-AfterName.result h) refl)
