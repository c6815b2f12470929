use Rattle.std.proofs.Common.{◌≡◌, ℕ, sym, ap, ◌∙◌, true, subst, Some, IsSome, OnOk}
use Rattle.std.specs.Option.{option_copied}
use Rattle.step_model.specs.State.{Engine}
use Rattle.step_model.specs.Entries.{place_on, entry_at}
use Rattle.step_model.specs.Claims.{Passes}
use Rattle.history_laws.specs.Sane.{Sane}
use Rattle.row_store.specs.Rows.{KeepsBelow, KeepsPast}
use Rattle.engine_core.specs.AtKeys.{claim_x}
use Rattle.engine_core.specs.Transactions.{made_in}
use Rattle.engine_core.proofs.Showing.{begun_shown}
use Rattle.engine_core.proofs.Sets.{may_write, well_set, set_ok}
use Rattle.engine_core.proofs.parts.Parts.set.Goals as goal

pub set_locked-requires-clause-may : goal.set_locked-requires-clause-may
set_locked-requires-clause-may c =
    may_write c.self.inside.rows c.self.inside.locks c.self.inside.active.items c.self.inside.log.items c.self.invariant.idle c.self.invariant.held c.args.session
    (subst Sane (sym c.self.view_is) c.requires.sane) c.args.table.now c.args.key.now c.args.on.now
    (c.requires.place ∙ ap (λ (e : Engine). place_on e.entries c.args.table.now c.args.key.now) (sym c.self.view_is))
    (subst (Passes c.args.session (Some (claim_x c.args.on.now))) (sym c.self.view_is) c.requires.passes)
    (subst (λ (e : Engine). IsSome (entry_at e.entries c.args.table.now c.args.key.now)) (sym c.self.view_is) c.requires.there)

pub invariant_of-self : goal.invariant_of-self
invariant_of-self c =
    let level : c.made_in-level.result ≡ made_in c.args.session c.self.inside.active.items = c.made_in-level.ensures ∙ ap (made_in c.args.session) c.deref.ensures.value in
    let parts = well_set c.self.inside.rows c.self.inside.locks c.self.inside.active.items c.self.inside.log.items c.self.invariant.idle c.self.invariant.held c.args.session
    (subst Sane (sym c.self.view_is) c.requires.sane) c.args.table.now c.args.key.now c.args.on.now
    (c.requires.place ∙ ap (λ (e : Engine). place_on e.entries c.args.table.now c.args.key.now) (sym c.self.view_is))
    (subst (Passes c.args.session (Some (claim_x c.args.on.now))) (sym c.self.view_is) c.requires.passes)
    c.set_locked.result (option_copied c.args.row) c.set_locked.new.rows c.set_locked.new.locks
    (begun_shown c.self.inside.rows c.self.inside.locks c.self.inside.active.items c.self.inside.log.items c.args.self.now c.self.view_is c.args.session true c.requires.begun) c.self.invariant.reached
    c.set_locked.ensures.entries c.set_locked.ensures.makers (subst (λ (n : ℕ). OnOk c.set_locked.result (KeepsBelow c.args.session n c.self.inside.rows c.set_locked.new.rows)) level c.set_locked.ensures.below)
    c.set_locked.ensures.locks c.set_locked.ensures.err_rows c.set_locked.ensures.err_locks in
    record { distinct = c.self.invariant.distinct; numbered = c.self.invariant.numbered; idle = parts.0; held = parts.1; reached = parts.2; room = c.self.invariant.room }

pub returns-clause-ok : goal.returns-clause-ok
returns-clause-ok c =
    let level : c.made_in-level.result ≡ made_in c.args.session c.self.inside.active.items = c.made_in-level.ensures ∙ ap (made_in c.args.session) c.deref.ensures.value in
    set_ok c.self.inside.rows c.self.inside.locks c.self.inside.active.items c.self.inside.log.items c.self.invariant.idle c.self.invariant.held c.args.session
    (subst Sane (sym c.self.view_is) c.requires.sane) c.args.table.now c.args.key.now c.args.on.now
    (c.requires.place ∙ ap (λ (e : Engine). place_on e.entries c.args.table.now c.args.key.now) (sym c.self.view_is))
    (subst (Passes c.args.session (Some (claim_x c.args.on.now))) (sym c.self.view_is) c.requires.passes)
    c.set_locked.result (option_copied c.args.row) c.set_locked.new.rows c.set_locked.new.locks c.args.self.now c.self.view_is
    (begun_shown c.self.inside.rows c.self.inside.locks c.self.inside.active.items c.self.inside.log.items c.args.self.now c.self.view_is c.args.session true c.requires.begun)
    c.self.invariant.distinct c.self.invariant.numbered
    c.set_locked.ensures.entries c.set_locked.ensures.makers (subst (λ (n : ℕ). OnOk c.set_locked.result (KeepsPast c.args.session n c.self.inside.rows c.set_locked.new.rows)) level c.set_locked.ensures.past)
    c.set_locked.ensures.locks
