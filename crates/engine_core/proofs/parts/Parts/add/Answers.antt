use Rattle.std.proofs.Common.{◌≡◌, ℕ, sym, ap, ◌∙◌, true, subst, OnOk}
use Rattle.step_model.specs.State.{Engine}
use Rattle.step_model.specs.Locks.{is_range_s, pair_on}
use Rattle.step_model.specs.Entries.{place_on, entry_at}
use Rattle.history_laws.specs.Sane.{Sane}
use Rattle.row_store.specs.Rows.{KeepsBelow, KeepsPast}
use Rattle.lock_table.specs.Table.{of_session}
use Rattle.engine_core.specs.Transactions.{made_in}
use Rattle.engine_core.proofs.Showing.{begun_shown}
use Rattle.engine_core.proofs.Adds.{well_added, added_ok}
use Rattle.engine_core.proofs.parts.Parts.add.Goals as goal

pub invariant_of-self : goal.invariant_of-self
invariant_of-self c =
    let level : c.made_in-level.result ≡ made_in c.args.session c.self.inside.active.items = c.made_in-level.ensures ∙ ap (made_in c.args.session) c.deref.ensures.value in
    let parts = well_added c.self.inside.rows c.self.inside.locks c.self.inside.active.items c.self.inside.log.items c.self.invariant.idle c.self.invariant.held c.args.session
    (subst Sane (sym c.self.view_is) c.requires.sane) c.args.table.now c.args.key.now c.args.row.now
    (ap (λ (e : Engine). entry_at e.entries c.args.table.now c.args.key.now) c.self.view_is ∙ c.requires.absent)
    c.add_locked.result (is_range_s (pair_on c.args.above.now (of_session c.args.session c.self.inside.locks)).range) c.add_locked.new.rows c.add_locked.new.locks
    (begun_shown c.self.inside.rows c.self.inside.locks c.self.inside.active.items c.self.inside.log.items c.args.self.now c.self.view_is c.args.session true c.requires.begun) c.self.invariant.reached
    c.add_locked.ensures.entries c.add_locked.ensures.makers (subst (λ (n : ℕ). OnOk c.add_locked.result (KeepsBelow c.args.session n c.self.inside.rows c.add_locked.new.rows)) level c.add_locked.ensures.below)
    c.add_locked.ensures.locks c.add_locked.ensures.err_rows c.add_locked.ensures.err_locks in
    record { distinct = c.self.invariant.distinct; numbered = c.self.invariant.numbered; idle = parts.0; held = parts.1; reached = parts.2; room = c.self.invariant.room }

pub returns-clause-ok : goal.returns-clause-ok
returns-clause-ok c =
    let level : c.made_in-level.result ≡ made_in c.args.session c.self.inside.active.items = c.made_in-level.ensures ∙ ap (made_in c.args.session) c.deref.ensures.value in
    added_ok c.self.inside.rows c.self.inside.locks c.self.inside.active.items c.self.inside.log.items c.self.invariant.idle c.self.invariant.held c.args.session
    (subst Sane (sym c.self.view_is) c.requires.sane) c.args.table.now c.args.key.now c.args.row.now
    (ap (λ (e : Engine). entry_at e.entries c.args.table.now c.args.key.now) c.self.view_is ∙ c.requires.absent)
    c.args.above.now (c.requires.place ∙ ap (λ (e : Engine). place_on e.entries c.args.table.now c.args.key.now) (sym c.self.view_is))
    c.add_locked.result c.add_locked.new.rows c.add_locked.new.locks c.args.self.now c.self.view_is c.self.invariant.distinct c.self.invariant.numbered
    c.add_locked.ensures.entries (subst (λ (n : ℕ). OnOk c.add_locked.result (KeepsPast c.args.session n c.self.inside.rows c.add_locked.new.rows)) level c.add_locked.ensures.past)
    c.add_locked.ensures.locks
