use Rattle.std.proofs.Common.{sym, ap, ◌∙◌, Some, None}
use Rattle.std.specs.Option.{option_copied}
use Rattle.step_model.specs.declared.op.Op.TheVariants.{Fetch}
use Rattle.step_model.specs.State.{Engine}
use Rattle.step_model.specs.Claims.{Claim, with_claim}
use Rattle.history_laws.proofs.StepMoves.{granted_none}
use Rattle.row_store.specs.Rows.{entries_of}
use Rattle.engine_core.proofs.Refused.{refused_step}
use Rattle.engine_core.proofs.Fetches.{fetch_done, claim_is, found_now}
use Rattle.engine_core.proofs.parts.Parts.fetch.Goals as goal

pub returns-in_default-clause-step : goal.returns-in_default-clause-step
returns-in_default-clause-step c =
    fetch_done c.args.self.now c.args.session c.args.table.now c.args.start.now c.args.stop.now c.args.hold c.args.part (option_copied c.next_entry-found.result) (found_now c.args.self.now (entries_of c.self.inside.rows) c.args.table.now c.args.start.now _ (ap (λ (e : Engine). e.entries) c.self.view_is) c.next_entry-found.ensures)
    c.args.manner c.in_ok-reply.reply None c.args.self.now (sym c.in_default.is ∙ c.in_ok-claim.ensures) tt c.in_ok-reply.ensures (sym (granted_none c.args.session c.args.self.now))

pub returns-in-Err-clause-step : goal.returns-in-Err-clause-step
returns-in-Err-clause-step c =
    refused_step c.args.self.now c.args.session c.in-Err.foe.claim c.args.manner c.refuse.new.self (Fetch c.args.table.now c.args.start.now c.args.stop.now c.args.hold c.args.part) c.refuse.result c.refuse.ensures.step
    (sym (claim_is c.args.self.now c.args.session c.args.table.now c.args.start.now c.args.stop.now c.args.hold c.args.part (option_copied c.next_entry-found.result) (found_now c.args.self.now (entries_of c.self.inside.rows) c.args.table.now c.args.start.now _ (ap (λ (e : Engine). e.entries) c.self.view_is) c.next_entry-found.ensures))
    ∙ sym c.in_ok-claim.ensures ∙ c.in-Some.is ∙ ap (λ (a : Claim). Some a) (sym c.in-Err.ensures.asked))

pub returns-in_ok-keep-in-Ok-clause-step : goal.returns-in_ok-keep-in-Ok-clause-step
returns-in_ok-keep-in-Ok-clause-step c =
    fetch_done c.args.self.now c.args.session c.args.table.now c.args.start.now c.args.stop.now c.args.hold c.args.part (option_copied c.next_entry-found.result) (found_now c.args.self.now (entries_of c.self.inside.rows) c.args.table.now c.args.start.now _ (ap (λ (e : Engine). e.entries) c.self.view_is) c.next_entry-found.ensures)
    c.args.manner c.in_ok-reply.reply (Some c.in-Some.claim) c.keep.new.self (sym c.in-Some.is ∙ c.in_ok-claim.ensures) c.in-Ok.ensures.passes c.in_ok-reply.ensures
    (c.in_ok-keep-in-Ok.ensures.ok ∙ ap (λ (a : Claim). with_claim c.args.session (Some a) c.args.self.now) c.in-Ok.ensures.same)
