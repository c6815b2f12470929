use Rattle.statement_exec.proofs.DropWays.{all_erased, triggers_more}
use Rattle.statement_exec.proofs.dropping.add_definitions.Goals as goal

pub loop-definition-preserved : goal.loop-definition-preserved
loop-definition-preserved c = triggers_more _ _ _ _ _ _ _ c.definition-item.is c.loop-definition-test.true c.loop-definition.invariant c.in_ok-add_trigger.ensures

pub returns : goal.returns
returns c = all_erased _ _ _ _ _ _ _ c.loop-definition-test.false c.loop-definition.invariant c.add_definition.ensures
