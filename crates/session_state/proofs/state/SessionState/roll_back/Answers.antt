use Rattle.std.proofs.Common.{sym, ◌∙◌, subst}
use Rattle.step_model.specs.Exchange.{IsPriority}
use Rattle.batch_meaning.specs.declared.settings.Settings.{Settings}
use Rattle.session_state.proofs.Readiness.{ready_asked}
use Rattle.session_state.proofs.state.SessionState.roll_back.Goals as goal

pub ask-requires : goal.ask-requires
ask-requires g c = record {
  allowed =
      (sym c.requires.ready.agree ∙ c.requires.ready.counted c.requires.counted, subst (λ (s : Settings). IsPriority s.manner.priority) (sym c.settings.ensures) c.requires.ready.priority);
}

pub returns-clause-asked : goal.returns-clause-asked
returns-clause-asked g c = (_, record { past = rw c.settings.ensures at c.in-Ended.ensures.past; can = c.in-Ended.ensures.reply; same = c.end.ensures.ended })

pub returns-clause-tokens : goal.returns-clause-tokens
returns-clause-tokens g c = rw c.is_own-is_own.ensures at (c.rolled_back_tokens.ensures c.args.self.now.txn.serial (λ own. (c.end.ensures.kept c.requires.counted (sym c.is_own-is_own.ensures ∙ own))))

pub returns-clause-ready : goal.returns-clause-ready
returns-clause-ready g c = ready_asked c.requires.ready (sym c.requires.ready.agree ∙ c.requires.ready.counted c.requires.counted)
    (record { past = rw c.settings.ensures at c.in-Ended.ensures.past; can = c.in-Ended.ensures.reply; same = c.end.ensures.ended })
