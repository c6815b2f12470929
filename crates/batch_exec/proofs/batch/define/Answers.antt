use Rattle.std.proofs.Common.{◌≡◌, Err, to_z, of_z, rules}
use Rattle.std.specs.Int.{w32}
use Rattle.batch_meaning.specs.declared.exit.Exit.{Exit}
use Rattle.batch_meaning.specs.declared.failure.Failure.{Failure}
use Rattle.batch_meaning.specs.Doing.{Doing}
use Rattle.batch_meaning.specs.Meaning.{defined, defines_object, puts_object}
use Rattle.batch_meaning.proofs.Composed.{leads_to}
use Rattle.batch_exec.proofs.Begun.{did_out, seen_on, unseen_on}
use Rattle.batch_exec.proofs.batch.define.Goals as goal

pub returns-then-not-wants_begin-clause-does : goal.returns-then-not-wants_begin-clause-does
unfolding defines_object
returns-then-not-wants_begin-clause-does g c =
    let same : to_z w32 (of_z w32 c.args.line) ≡ c.args.line = search rules in
    leads_to (seen_on _ (λ failure. defined c.args.line (Err failure)) _ c.if-not-wants_begin.ensures) (rw same at c.put_object.ensures.does)

pub returns-in_err-begin_told-clause-does : goal.returns-in_err-begin_told-clause-does
unfolding defines_object
returns-in_err-begin_told-clause-does g c =
    let fails : Failure → Doing Exit = λ failure. defined c.args.line (Err failure) in
    let next : Doing Exit = puts_object c.args.line c.args.of.now c.args.text.now in
    did_out _ c.from_residual.ensures.0 (leads_to (unseen_on _ fails next c.if-not-wants_begin.ensures) (c.in_err-begin_told.ensures.does fails next))

pub returns-in-None-clause-does : goal.returns-in-None-clause-does
unfolding defines_object
returns-in-None-clause-does g c =
    let same : to_z w32 (of_z w32 c.args.line) ≡ c.args.line = search rules in
    let fails : Failure → Doing Exit = λ failure. defined c.args.line (Err failure) in
    let next : Doing Exit = puts_object c.args.line c.args.of.now c.args.text.now in
    leads_to (unseen_on _ fails next c.if-not-wants_begin.ensures) (leads_to (rw c.in-None.is at c.in_ok-begin_told.ensures.does fails next) (rw same at c.put_object-in-None.ensures.does))

pub returns-in-Some-clause-does : goal.returns-in-Some-clause-does
unfolding defines_object
returns-in-Some-clause-does g c =
    let same : to_z w32 (of_z w32 c.args.line) ≡ c.args.line = search rules in
    let fails : Failure → Doing Exit = λ failure. defined c.args.line (Err failure) in
    let next : Doing Exit = puts_object c.args.line c.args.of.now c.args.text.now in
    leads_to (unseen_on _ fails next c.if-not-wants_begin.ensures) (leads_to (rw c.in-Some.is at c.in_ok-begin_told.ensures.does fails next) (rw same at c.fail_at.ensures.does))
