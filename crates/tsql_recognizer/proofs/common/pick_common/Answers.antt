use Rattle.tsql_grammar.specs.declared.rule.Rule.TheVariants as r
use Rattle.tsql_recognizer.proofs.Leading.{comes_at, comes_one_at}
use Rattle.tsql_recognizer.proofs.common.pick_common.Goals as goal

pub returns-in-MoreValueRows : goal.returns-in-MoreValueRows
returns-in-MoreValueRows c = comes_one_at c.args.rule r.MoreValueRows c.in-MoreValueRows.is c.args.kind c.of_more_value_rows.result c.of_more_value_rows.ensures

pub returns-in-MoreItems : goal.returns-in-MoreItems
returns-in-MoreItems c = comes_one_at c.args.rule r.MoreItems c.in-MoreItems.is c.args.kind c.of_more_items.result c.of_more_items.ensures

pub returns-in-Test : goal.returns-in-Test
returns-in-Test c = comes_at c.args.rule r.Test c.in-Test.is c.args.kind c.test_before.result c.test_before.ensures

pub returns-in-MoreOrs : goal.returns-in-MoreOrs
returns-in-MoreOrs c = comes_one_at c.args.rule r.MoreOrs c.in-MoreOrs.is c.args.kind c.of_more_ors.result c.of_more_ors.ensures

pub returns-in-AndTest : goal.returns-in-AndTest
returns-in-AndTest c = comes_one_at c.args.rule r.AndTest c.in-AndTest.is c.args.kind c.of_and_test.result c.of_and_test.ensures

pub returns-in-MoreAnds : goal.returns-in-MoreAnds
returns-in-MoreAnds c = comes_one_at c.args.rule r.MoreAnds c.in-MoreAnds.is c.args.kind c.of_more_ands.result c.of_more_ands.ensures

pub returns-in-NotTest : goal.returns-in-NotTest
returns-in-NotTest c = comes_one_at c.args.rule r.NotTest c.in-NotTest.is c.args.kind c.of_not_test.result c.of_not_test.ensures

pub returns-in-MoreNots : goal.returns-in-MoreNots
returns-in-MoreNots c = comes_one_at c.args.rule r.MoreNots c.in-MoreNots.is c.args.kind c.of_more_nots.result c.of_more_nots.ensures

pub returns-in-Basic : goal.returns-in-Basic
returns-in-Basic c = comes_one_at c.args.rule r.Basic c.in-Basic.is c.args.kind c.of_basic.result c.of_basic.ensures

pub returns-in-Comparison : goal.returns-in-Comparison
returns-in-Comparison c = comes_at c.args.rule r.Comparison c.in-Comparison.is c.args.kind c.comparison_before.result c.comparison_before.ensures

pub returns-in-CompareSign : goal.returns-in-CompareSign
returns-in-CompareSign c = comes_one_at c.args.rule r.CompareSign c.in-CompareSign.is c.args.kind c.of_compare_sign.result c.of_compare_sign.ensures

pub returns-in-OptionalNot : goal.returns-in-OptionalNot
returns-in-OptionalNot c = comes_one_at c.args.rule r.OptionalNot c.in-OptionalNot.is c.args.kind c.of_optional_not.result c.of_optional_not.ensures

pub returns-in-Membership : goal.returns-in-Membership
returns-in-Membership c = comes_one_at c.args.rule r.Membership c.in-Membership.is c.args.kind c.of_membership.result c.of_membership.ensures

pub returns-in-InList : goal.returns-in-InList
returns-in-InList c = comes_one_at c.args.rule r.InList c.in-InList.is c.args.kind c.of_in_list.result c.of_in_list.ensures

pub returns-in-Expr : goal.returns-in-Expr
returns-in-Expr c = comes_at c.args.rule r.Expr c.in-Expr.is c.args.kind c.expr_before.result c.expr_before.ensures

pub returns-in-MoreTerms : goal.returns-in-MoreTerms
returns-in-MoreTerms c = comes_at c.args.rule r.MoreTerms c.in-MoreTerms.is c.args.kind c.more_terms_before.result c.more_terms_before.ensures

pub returns-in-AddSign : goal.returns-in-AddSign
returns-in-AddSign c = comes_one_at c.args.rule r.AddSign c.in-AddSign.is c.args.kind c.of_add_sign.result c.of_add_sign.ensures

pub returns-in-Product : goal.returns-in-Product
returns-in-Product c = comes_at c.args.rule r.Product c.in-Product.is c.args.kind c.product_before.result c.product_before.ensures

pub returns-in-MoreFactors : goal.returns-in-MoreFactors
returns-in-MoreFactors c = comes_at c.args.rule r.MoreFactors c.in-MoreFactors.is c.args.kind c.more_factors_before.result c.more_factors_before.ensures

pub returns-in-MultiplySign : goal.returns-in-MultiplySign
returns-in-MultiplySign c = comes_one_at c.args.rule r.MultiplySign c.in-MultiplySign.is c.args.kind c.of_multiply_sign.result c.of_multiply_sign.ensures

pub returns-in-Unary : goal.returns-in-Unary
returns-in-Unary c = comes_at c.args.rule r.Unary c.in-Unary.is c.args.kind c.unary_before.result c.unary_before.ensures

pub returns-in-MoreSigns : goal.returns-in-MoreSigns
returns-in-MoreSigns c = comes_one_at c.args.rule r.MoreSigns c.in-MoreSigns.is c.args.kind c.of_more_signs.result c.of_more_signs.ensures

pub returns-in-Primary : goal.returns-in-Primary
returns-in-Primary c = comes_one_at c.args.rule r.Primary c.in-Primary.is c.args.kind c.of_primary.result c.of_primary.ensures

pub returns-in-SimplePrimary : goal.returns-in-SimplePrimary
returns-in-SimplePrimary c = comes_at c.args.rule r.SimplePrimary c.in-SimplePrimary.is c.args.kind c.simple_primary_before.result c.simple_primary_before.ensures

pub returns-in-OtherPrimary : goal.returns-in-OtherPrimary
returns-in-OtherPrimary c = comes_one_at c.args.rule r.OtherPrimary c.in-OtherPrimary.is c.args.kind c.of_other_primary.result c.of_other_primary.ensures

pub returns-in-Enclosed : goal.returns-in-Enclosed
returns-in-Enclosed c = comes_at c.args.rule r.Enclosed c.in-Enclosed.is c.args.kind c.enclosed_before.result c.enclosed_before.ensures

pub returns-in-NamedPrimary : goal.returns-in-NamedPrimary
returns-in-NamedPrimary c = comes_one_at c.args.rule r.NamedPrimary c.in-NamedPrimary.is c.args.kind c.of_named_primary.result c.of_named_primary.ensures

pub returns-in-AfterName : goal.returns-in-AfterName
returns-in-AfterName c = comes_one_at c.args.rule r.AfterName c.in-AfterName.is c.args.kind c.of_after_name.result c.of_after_name.ensures

pub returns-in-Arm : goal.returns-in-Arm
returns-in-Arm c = comes_one_at c.args.rule r.Arm c.in-Arm.is c.args.kind c.of_arm.result c.of_arm.ensures

pub returns-in-MoreArms : goal.returns-in-MoreArms
returns-in-MoreArms c = comes_one_at c.args.rule r.MoreArms c.in-MoreArms.is c.args.kind c.of_more_arms.result c.of_more_arms.ensures

pub returns-in-CaseElse : goal.returns-in-CaseElse
returns-in-CaseElse c = comes_one_at c.args.rule r.CaseElse c.in-CaseElse.is c.args.kind c.of_case_else.result c.of_case_else.ensures

pub returns-in-Exprs : goal.returns-in-Exprs
returns-in-Exprs c = comes_one_at c.args.rule r.Exprs c.in-Exprs.is c.args.kind c.of_exprs.result c.of_exprs.ensures

pub returns-in-MoreExprs : goal.returns-in-MoreExprs
returns-in-MoreExprs c = comes_one_at c.args.rule r.MoreExprs c.in-MoreExprs.is c.args.kind c.of_more_exprs.result c.of_more_exprs.ensures
