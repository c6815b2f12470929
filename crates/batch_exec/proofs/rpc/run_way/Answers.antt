use Rattle.batch_meaning.specs.Meaning.{mean_of}
use Rattle.batch_meaning.specs.Progress.{statement_limit}
use Rattle.batch_exec.proofs.Requests.{does_way}
use Rattle.batch_exec.proofs.rpc.run_way.Goals as goal

pub returns-in-LooksUp-clause-does : goal.returns-in-LooksUp-clause-does
returns-in-LooksUp-clause-does g c = does_way (λ inner at. mean_of statement_limit inner at) c.args.call.now c.args.read _ c.in-LooksUp.is c.run_named.ensures.does

pub returns-in-RunsRead-clause-does : goal.returns-in-RunsRead-clause-does
returns-in-RunsRead-clause-does g c = does_way (λ inner at. mean_of statement_limit inner at) c.args.call.now c.args.read _ c.in-RunsRead.is c.run_sql.ensures.does

pub returns-in-RunsBatch-clause-does : goal.returns-in-RunsBatch-clause-does
returns-in-RunsBatch-clause-does g c = rw c.letting_go.ensures (does_way (λ inner at. mean_of statement_limit inner at) c.args.call.now c.args.read _ c.in-RunsBatch.is c.run_batch_of-came.ensures.does)

pub returns-in-Tells-clause-does : goal.returns-in-Tells-clause-does
returns-in-Tells-clause-does g c = rw c.letting_go-in-Tells.ensures (does_way (λ inner at. mean_of statement_limit inner at) c.args.call.now c.args.read _ c.in-Tells.is c.tell_unless-came.ensures.does)

pub returns-in-Unmatched-clause-does : goal.returns-in-Unmatched-clause-does
returns-in-Unmatched-clause-does g c = does_way (λ inner at. mean_of statement_limit inner at) c.args.call.now c.args.read _ c.in-Unmatched.is c.fail_unread.ensures.does

pub returns-in-Unknown-clause-does : goal.returns-in-Unknown-clause-does
returns-in-Unknown-clause-does g c = rw c.letting_go-in-Unknown.ensures (does_way (λ inner at. mean_of statement_limit inner at) c.args.call.now c.args.read _ c.in-Unknown.is (c.fail_naming-came.ensures.does c.args.call.now))
