use Rattle.std.proofs.Common.{◌≡◌, sym, subst, ◌∙◌, true, false, rules}
use Rattle.typed_nodes.specs.Refusals.{Gives, Outcome}
use Rattle.binder.proofs.Known.{first_unknown, known_more}
use Rattle.binder.proofs.create_table.all_columns.Goals as goal

pub returns-then-not-has : goal.returns-then-not-has
returns-then-not-has c =
    let gone : c.has.result ≡ false = search rules in
    subst (λ (o : Outcome (Unit {0})). Gives c.refused.result o)
    (sym (first_unknown c.args.columns.now c.args.names.now c.loop-name.name-index c.name-item.result c.name-item.result c.loop-name-test.true c.name-item.is (sym c.has.ensures ∙ gone))
    ∙ c.loop-name.invariant)
    c.refused.ensures

pub loop-name-preserved : goal.loop-name-preserved
loop-name-preserved c =
    let there : c.has.result ≡ true = search rules in
    known_more c.args.columns.now c.args.names.now c.loop-name.name-index c.name-item.result c.name-item.result c.loop-name-test.true c.name-item.is (sym c.has.ensures ∙ there)
    ∙ c.loop-name.invariant
