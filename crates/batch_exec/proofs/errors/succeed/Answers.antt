use Rattle.std.proofs.Common.{pos, refl}
use Rattle.binder.specs.Names.{form_of}
use Rattle.batch_meaning.specs.Meaning.{succeeds}
use Rattle.batch_exec.proofs.Raises.{stays_behind, stays_kept, stays_told}
use Rattle.session_state.proofs.Stepping.{stepped_assigned, stepped_makes, stepped_out, stepped_over}
use Rattle.batch_exec.proofs.Raises.{stepped_counted, stepped_sends}
use Rattle.batch_exec.proofs.errors.succeed.Goals as goal

pub returns-in_err-send_some-clause-came : goal.returns-in_err-send_some-clause-came
unfolding succeeds
returns-in_err-send_some-clause-came c = rw (← c.effect.view_is) (stepped_assigned _ _ c.assign_all.ensures (stepped_counted _ _ _ c.count.ensures (stepped_makes c.tell_error.ensures (stepped_out _ c.from_residual.ensures.0 c.in_err-send_some.ensures.kept))))

pub returns-clause-came : goal.returns-clause-came
unfolding succeeds
returns-clause-came c = rw (← c.effect.view_is) (stepped_assigned _ _ c.assign_all.ensures (stepped_counted _ _ _ c.count.ensures (stepped_makes c.tell_error.ensures (stepped_sends _ _ c.in_ok-send_some.ensures.sent (stepped_over refl)))))

pub assign_all-requires : goal.assign_all-requires
assign_all-requires c = record { fits = rw (← c.effect.view_is) at c.requires.fits }

pub returns-in_err-send_some-clause-left : goal.returns-in_err-send_some-clause-left
returns-in_err-send_some-clause-left c = (stays_kept c.args.session.now c.tell_error.new.self c.send_some.new.session (stays_told c.effect.inside.sets.items (form_of c.args.statement.now) c.effect.inside.rows (pos 0) c.args.session.now c.assign_all.new.self c.count.new.session c.tell_error.new.self c.assign_all.ensures c.count.ensures c.tell_error.ensures) c.in_err-send_some.ensures.kept).0

pub returns-clause-left : goal.returns-clause-left
returns-clause-left c = (stays_behind c.effect.inside.tokens c.args.session.now c.tell_error.new.self c.send_some.new.session (stays_told c.effect.inside.sets.items (form_of c.args.statement.now) c.effect.inside.rows (pos 0) c.args.session.now c.assign_all.new.self c.count.new.session c.tell_error.new.self c.assign_all.ensures c.count.ensures c.tell_error.ensures) c.in_ok-send_some.ensures.sent).0

pub returns-in_err-send_some-clause-kept : goal.returns-in_err-send_some-clause-kept
returns-in_err-send_some-clause-kept c = (stays_kept c.args.session.now c.tell_error.new.self c.send_some.new.session (stays_told c.effect.inside.sets.items (form_of c.args.statement.now) c.effect.inside.rows (pos 0) c.args.session.now c.assign_all.new.self c.count.new.session c.tell_error.new.self c.assign_all.ensures c.count.ensures c.tell_error.ensures) c.in_err-send_some.ensures.kept).1

pub returns-clause-kept : goal.returns-clause-kept
returns-clause-kept c = (stays_behind c.effect.inside.tokens c.args.session.now c.tell_error.new.self c.send_some.new.session (stays_told c.effect.inside.sets.items (form_of c.args.statement.now) c.effect.inside.rows (pos 0) c.args.session.now c.assign_all.new.self c.count.new.session c.tell_error.new.self c.assign_all.ensures c.count.ensures c.tell_error.ensures) c.in_ok-send_some.ensures.sent).1

pub returns-in_err-send_some-clause-txn : goal.returns-in_err-send_some-clause-txn
returns-in_err-send_some-clause-txn c = (stays_kept c.args.session.now c.tell_error.new.self c.send_some.new.session (stays_told c.effect.inside.sets.items (form_of c.args.statement.now) c.effect.inside.rows (pos 0) c.args.session.now c.assign_all.new.self c.count.new.session c.tell_error.new.self c.assign_all.ensures c.count.ensures c.tell_error.ensures) c.in_err-send_some.ensures.kept).2

pub returns-clause-txn : goal.returns-clause-txn
returns-clause-txn c = (stays_behind c.effect.inside.tokens c.args.session.now c.tell_error.new.self c.send_some.new.session (stays_told c.effect.inside.sets.items (form_of c.args.statement.now) c.effect.inside.rows (pos 0) c.args.session.now c.assign_all.new.self c.count.new.session c.tell_error.new.self c.assign_all.ensures c.count.ensures c.tell_error.ensures) c.in_ok-send_some.ensures.sent).2

pub returns-in_err-send_some-clause-settings : goal.returns-in_err-send_some-clause-settings
returns-in_err-send_some-clause-settings c = (stays_kept c.args.session.now c.tell_error.new.self c.send_some.new.session (stays_told c.effect.inside.sets.items (form_of c.args.statement.now) c.effect.inside.rows (pos 0) c.args.session.now c.assign_all.new.self c.count.new.session c.tell_error.new.self c.assign_all.ensures c.count.ensures c.tell_error.ensures) c.in_err-send_some.ensures.kept).3

pub returns-clause-settings : goal.returns-clause-settings
returns-clause-settings c = (stays_behind c.effect.inside.tokens c.args.session.now c.tell_error.new.self c.send_some.new.session (stays_told c.effect.inside.sets.items (form_of c.args.statement.now) c.effect.inside.rows (pos 0) c.args.session.now c.assign_all.new.self c.count.new.session c.tell_error.new.self c.assign_all.ensures c.count.ensures c.tell_error.ensures) c.in_ok-send_some.ensures.sent).3
