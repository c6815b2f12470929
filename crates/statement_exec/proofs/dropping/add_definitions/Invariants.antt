use Rattle.std.proofs.Common.{◌≡◌, ◌++◌, filter_map, map, take}
use Rattle.batch_meaning.specs.Changing.{definition_erased, trigger_of}
use Rattle.statement_exec.proofs.dropping.add_definitions.Given as goal

-- the triggers so far
abbrev pub invariant-loop-definition : goal.invariant-loop-definition
invariant-loop-definition l = l.planned ≡ l.initial.planned ++ map definition_erased (filter_map (trigger_of l.name) (take l.definition-index l.definitions))
