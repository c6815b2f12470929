use Rattle.std.proofs.Common.{arith, sym}
use Rattle.std.proofs.lemmas.List.{drop_all}
use Rattle.batch_exec.proofs.rpc.all_behind.Goals as goal

pub returns-then-parameters-own : goal.returns-then-parameters-own
returns-then-parameters-own c = sym (drop_all c.args.own c.args.parameters.now (omega arith))
