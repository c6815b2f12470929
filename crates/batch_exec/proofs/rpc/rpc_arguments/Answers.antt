use Rattle.batch_exec.proofs.Parameters.{arguments_are, few_passed, made_is}
use Rattle.batch_exec.proofs.rpc.rpc_arguments.Goals as goal

pub arguments_from-requires : goal.arguments_from-requires
arguments_from-requires c = record { few = few_passed c.args.call.now _ _ _ c.requires.few c.own_in-first.ensures.small c.as_slice.ensures c.passed_by-passed.ensures }

pub returns : goal.returns
returns c = made_is _ _ _ (arguments_are c.args.call.now _ _ _ c.own_in-first.ensures.count c.as_slice.ensures c.passed_by-passed.ensures) c.arguments_from.ensures
