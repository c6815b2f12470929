use Rattle.std.proofs.Common.{List, rules, subst, inl, inr, refl, []}
use Rattle.std.specs.Prelude.{◌≡◌, Err}
use Rattle.program_words.specs.declared.fault.WordsFault.{WordsFault}
use Rattle.program_words.specs.declared.fault.WordsFault.TheVariants.{Refused}
use Rattle.program_words.specs.Asked.{Answers}
use Rattle.transfer_load.proofs.OnlyServing.{only_none}
use Rattle.clap.specs.Walk.{Text}
use Rattle.tsqld.specs.Asking.{IsRefused}
use Rattle.tsqld.proofs.Runs.{as_read, only_shown, shown_unrefused, unasked}
use Rattle.tsqld.proofs.program.run_program.Goals as goal

pub returns-in-Ok-clause-pipe : goal.returns-in-Ok-clause-pipe
returns-in-Ok-clause-pipe g c = λ user password bare drivers asks. let did = c.run_command.ensures.pipe user password bare drivers (as_read _ c.in-Ok.command _ c.in-Ok.ensures.answers asks) in (did.0, inl did.1)

pub returns-in-Ok-clause-listen : goal.returns-in-Ok-clause-listen
returns-in-Ok-clause-listen g c = λ port workers rounds user password drivers asks. let did = c.run_command.ensures.listen port workers rounds user password drivers (as_read _ c.in-Ok.command _ c.in-Ok.ensures.answers asks) in (did.0, inl did.1)

pub returns-in-Ok-clause-complete_listen : goal.returns-in-Ok-clause-complete_listen
returns-in-Ok-clause-complete_listen g c = λ port workers rounds user password drivers asks. c.run_command.ensures.complete_listen port workers rounds user password drivers (as_read _ c.in-Ok.command _ c.in-Ok.ensures.answers asks)

pub returns-in-Ok-clause-no_command : goal.returns-in-Ok-clause-no_command
returns-in-Ok-clause-no_command g c = λ other. let shown = only_shown _ _ c.in-Ok.command c.in-Ok.ensures.answers other c.run_command.ensures.shows in
    (shown.1.0, shown.1.1, shown.1.2, inr (shown.2, (shown.0, shown.1.3)))

pub returns-in-Ok-clause-load : goal.returns-in-Ok-clause-load
returns-in-Ok-clause-load g c = λ transfers workers asks. c.run_command.ensures.load transfers workers (as_read _ c.in-Ok.command _ c.in-Ok.ensures.answers asks)

-- the words that were refused
refused : (words : List Text) (fault : WordsFault) → fault ≡ Refused → Answers words (Err fault) → IsRefused words
refused words fault is answers = subst (λ (f : WordsFault). Answers words (Err f)) is answers

pub returns-in-Err-Refused-clause-refused : goal.returns-in-Err-Refused-clause-refused
returns-in-Err-Refused-clause-refused g c = λ two. refused _ _ c.in-Err-Refused.field-0-is c.in-Err-Refused.ensures.answers

pub returns-in-Err-Refused-clause-shown : goal.returns-in-Err-Refused-clause-shown
returns-in-Err-Refused-clause-shown g c = λ alone two. shown_unrefused _ alone (refused _ _ c.in-Err-Refused.field-0-is c.in-Err-Refused.ensures.answers)

pub returns-in-Err-Refused-clause-pipe : goal.returns-in-Err-Refused-clause-pipe
returns-in-Err-Refused-clause-pipe g c = λ user password bare drivers asks. absurd (unasked _ _ (refused _ _ c.in-Err-Refused.field-0-is c.in-Err-Refused.ensures.answers) asks)

pub returns-in-Err-Refused-clause-listen : goal.returns-in-Err-Refused-clause-listen
returns-in-Err-Refused-clause-listen g c = λ port workers rounds user password drivers asks. absurd (unasked _ _ (refused _ _ c.in-Err-Refused.field-0-is c.in-Err-Refused.ensures.answers) asks)

pub returns-in-Err-Refused-clause-steps : goal.returns-in-Err-Refused-clause-steps
returns-in-Err-Refused-clause-steps g c = λ asks. absurd (unasked _ _ (refused _ _ c.in-Err-Refused.field-0-is c.in-Err-Refused.ensures.answers) asks)

pub returns-in-Err-Refused-clause-load : goal.returns-in-Err-Refused-clause-load
returns-in-Err-Refused-clause-load g c = λ transfers workers asks. absurd (unasked _ _ (refused _ _ c.in-Err-Refused.field-0-is c.in-Err-Refused.ensures.answers) asks)

pub returns-in-Err-Refused-clause-complete : goal.returns-in-Err-Refused-clause-complete
returns-in-Err-Refused-clause-complete g c = λ user password bare drivers asks. absurd (unasked _ _ (refused _ _ c.in-Err-Refused.field-0-is c.in-Err-Refused.ensures.answers) asks)

pub returns-in-Err-Refused-clause-complete_steps : goal.returns-in-Err-Refused-clause-complete_steps
returns-in-Err-Refused-clause-complete_steps g c = λ asks. absurd (unasked _ _ (refused _ _ c.in-Err-Refused.field-0-is c.in-Err-Refused.ensures.answers) asks)

pub returns-in-Err-Refused-clause-complete_listen : goal.returns-in-Err-Refused-clause-complete_listen
returns-in-Err-Refused-clause-complete_listen g c = λ port workers rounds user password drivers asks. absurd (unasked _ _ (refused _ _ c.in-Err-Refused.field-0-is c.in-Err-Refused.ensures.answers) asks)

pub returns-in-Err-Refused-clause-complete_load : goal.returns-in-Err-Refused-clause-complete_load
returns-in-Err-Refused-clause-complete_load g c = λ transfers workers asks. absurd (unasked _ _ (refused _ _ c.in-Err-Refused.field-0-is c.in-Err-Refused.ensures.answers) asks)

pub returns-in-Err-Memory-clause-steps : goal.returns-in-Err-Memory-clause-steps
returns-in-Err-Memory-clause-steps g c = λ asks. (refl, refl, ([], record { from_left = search rules; to_given = search rules }, inl (inr refl, refl)))

pub returns-in-Err-Memory-clause-load : goal.returns-in-Err-Memory-clause-load
returns-in-Err-Memory-clause-load g c = λ transfers workers asks. let only = only_none workers c.args.house.now in (refl, refl, inr (refl, refl, (only.each, only.follow, only.others)))
