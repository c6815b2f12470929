-- What OPEN of a cursor has asked where it succeeded.
use Rattle.std.proofs.Common.{◌≡◌, ◌⊎◌, inl, inr, ℕ, List, [], ◌++◌, Result, Ok, Err, refl, sym, ap, ◌∙◌, subst, append-nil}
use Rattle.tsql_tree.specs.declared.definition.TableTree.{TableTree}
use Rattle.tsql_tree.specs.declared.statement.Statement.{Statement}
use Rattle.bound_tree.specs.declared.query.BoundQuery.{BoundQuery}
use Rattle.bound_tree.specs.declared.write.Bound.{Bound}
use Rattle.bound_tree.specs.declared.write.Bound.TheVariants as bound
use Rattle.binder.specs.Names.{looked_up}
use Rattle.table_rows.specs.Definitions.{tables_of}
use Rattle.step_model.specs.Exchange.{Exchange}
use Rattle.step_model.specs.Ranges.{Rows, no_memory}
use Rattle.session_cursors.specs.declared.fault.CursorFault.{CursorFault}
use Rattle.session_cursors.specs.declared.fault.CursorFault.TheVariants.{NoSuch, Present, AlreadyFilled, NotFilled, Memory}
use Rattle.session_cursors.specs.Cursors as list
use Rattle.statement_paths.specs.Asked.{IsFetch}
use Rattle.batch_meaning.specs.declared.failure.Failure.{Failure}
use Rattle.batch_meaning.specs.Raised.{Around}
use Rattle.batch_meaning.specs.Failures.{plain}
use Rattle.batch_meaning.specs.Asking.{comes_to, with_room}
use Rattle.batch_meaning.specs.Cursors.{already_there, already_open, answered, fails_for_cursor, fills_with, kinds_of, no_such_cursor, not_open, opens_bound, opens_cursor, opens_kept, select_statement}
use Rattle.batch_meaning.specs.Doing.{Doing, makes, over, reads, Held}
use Rattle.batch_meaning.specs.Progress.{SessionProgress, fills}
use Rattle.batch_meaning.specs.Selecting.{Effect, bound_over, no_effect}
use Rattle.batch_meaning.specs.Transactions.{bound_first}
use Rattle.batch_meaning.specs.Values.{outside_limits}
use Rattle.batch_meaning.specs.Working.{answers, asks_any, binds, known_by, own, within}
use Rattle.statement_paths.specs.Cursors.{IsFilled, OpenDone}
use Rattle.statement_paths.specs.Paths.{IsAnswered}
use Rattle.statement_paths.proofs.Only.{only_bind}
use Rattle.statement_paths.proofs.Still.{Still, reads_still, still_then}
use Rattle.statement_paths.proofs.Apart.{bind_apart, comes_apart, room_apart}
use Rattle.statement_paths.proofs.Looking.{ok_same}
use Rattle.statement_paths.proofs.Working.{answers_apart, answers_read, error_never, naming_never}
use Rattle.statement_paths.proofs.Works.{prepares_reads}
use Rattle.statement_paths.proofs.Owned.{Owned, Refused, entered, own_held}
use Rattle.statement_paths.proofs.Statements.{begun_still, binds_apart}
use Rattle.statement_paths.proofs.Cursors.{IsLookStep, Looks, looks_own, opens_look, reads_look}

-- ---- its parts

-- it was bound first
pub first_apart : (statement : Statement) (go : SessionProgress → Doing (Result Effect Failure)) (p new : SessionProgress) (exchanges : List Exchange) (effect : Effect) → Held (bound_first statement go) p exchanges (Ok effect) new → Held (go p) p exchanges (Ok effect) new
unfolding Held
first_apart statement go p new exchanges effect held =
    let on = bind_apart (reads λ p. comes_to (bound_over [] p.vars statement)) (λ of. with_room (reads go)) p new exchanges effect held in
    let bind = comes_apart (bound_over [] p.vars statement) p on.3 on.0 on.2 on.5 in
    let whole : on.1 ≡ exchanges = sym (on.4 ∙ ap (λ (l : List Exchange). l ++ on.1) bind.0) in
    subst (λ (q : SessionProgress). Held (go q) q exchanges (Ok effect) new) bind.2 (subst (λ (l : List Exchange). Held (go on.3) on.3 l (Ok effect) new) whole (room_apart (reads go) on.3 new on.1 effect on.6))

fault_never : {A : Type 0} (name : List ℕ) (fault : CursorFault) (p new : SessionProgress) (exchanges : List Exchange) (a : A) → Held (fails_for_cursor name fault) p exchanges (Ok a) new → ⊥
fault_never name Present p new exchanges a held = naming_never already_there name p new exchanges a held
fault_never name NoSuch p new exchanges a held = naming_never no_such_cursor name p new exchanges a held
fault_never name AlreadyFilled p new exchanges a held = error_never (plain already_open) p new exchanges a held
fault_never name NotFilled p new exchanges a held = error_never (plain not_open) p new exchanges a held
fault_never name Memory p new exchanges a held = error_never (plain 701) p new exchanges a held

-- a cursor answered
answered_apart : {A B : Type 0} (name : List ℕ) (go : A → Doing (Result B Failure)) (answer : Result A CursorFault) (p new : SessionProgress) (exchanges : List Exchange) (b : B) → Held (answered name go answer) p exchanges (Ok b) new
    → (a : A) × (answer ≡ Ok a) × Held (go a) p exchanges (Ok b) new
answered_apart name go (Ok a) p new exchanges b held = (a, refl, held)
answered_apart name go (Err fault) p new exchanges b held = absurd (fault_never name fault p new exchanges b held)

-- ---- the work of OPEN

module _ (around : Around) (p0 : SessionProgress) (name : List ℕ) where
  fills_apart : (shapes : List TableTree) (query : BoundQuery) (p new : SessionProgress) (exchanges : List Exchange) (effect : Effect) → Still p0 p → Held (fills_with around name shapes query) p exchanges (Ok effect) new
      → (rows : Rows) × IsAnswered around p0 shapes query rows exchanges × (effect ≡ no_effect) × (new.cursors ≡ list.filled name (kinds_of query) rows p0.cursors)
  unfolding fills_with Held
  fills_apart shapes query p new exchanges effect still held =
      let on = bind_apart (answers around shapes query) (λ rows. with_room (makes (fills name (kinds_of query) rows) (over (Ok no_effect)))) p new exchanges effect held in
      let end = room_apart (makes (fills name (kinds_of query) on.2) (over (Ok no_effect))) on.3 new on.1 effect on.6 in
      let same : Still p0 on.3 = still_then p0 p on.3 still (reads_still p (answers around shapes query) on.3 on.0 (Ok on.2) (answers_read around p0 shapes query) on.5) in (
        on.2,
        subst (λ (l : List Exchange). IsAnswered around p0 shapes query on.2 l) (sym (on.4 ∙ ap (λ (l : List Exchange). on.0 ++ l) end.0 ∙ append-nil on.0)) (answers_apart around p0 shapes query p on.3 on.0 on.2 still on.5),
        ok_same {E = Failure} effect no_effect end.1,
        ap (λ (q : SessionProgress). q.cursors) end.2 ∙ ap (λ (q : SessionProgress). list.filled name (kinds_of query) on.2 q.cursors) same,
      )

  opened_apart : (shapes : List TableTree) (of : Bound) (p new : SessionProgress) (exchanges : List Exchange) (effect : Effect) → Still p0 p → Held (opens_bound around name shapes of) p exchanges (Ok effect) new
      → (query : BoundQuery) × (of ≡ bound.Query query) × ((rows : Rows) × IsAnswered around p0 shapes query rows exchanges × (effect ≡ no_effect) × (new.cursors ≡ list.filled name (kinds_of query) rows p0.cursors))
  opened_apart shapes (bound.Query query) p new exchanges effect still held = (query, refl, fills_apart shapes query p new exchanges effect still held)
  opened_apart shapes (bound.Assign query places) p new exchanges effect still held = absurd (error_never (plain outside_limits) p new exchanges effect held)
  opened_apart shapes (bound.Write write) p new exchanges effect still held = absurd (error_never (plain outside_limits) p new exchanges effect held)
  opened_apart shapes bound.Plain p new exchanges effect still held = absurd (error_never (plain outside_limits) p new exchanges effect held)

-- ---- the whole of it

module _ (around : Around) (p : SessionProgress) (name : List ℕ) (select : Statement) where
  abbrev opened_work : Doing (Result Effect Failure)
  opened_work = binds around select (opens_bound around name)

  opened_looks : Looks opened_work
  unfolding binds
  opened_looks = only_bind IsLookStep IsFetch _ (λ made. opens_bound around name made.0 made.1) (reads_look _ (prepares_reads around select)) (λ made. opens_look around p name made.0 made.1)

  filled_by : (q new : SessionProgress) (worked : List Exchange) (effect : Effect) → Still p q → Held opened_work q worked (Ok effect) new → IsFilled around p name select worked new × (effect ≡ no_effect)
  filled_by q new worked effect still held =
      let on = binds_apart around p select (opens_bound around name) q new worked effect still held in
      let is = opened_apart around p name (tables_of on.definitions) on.of on.mid new on.worked effect on.still on.rest in (
        record {
          definitions = on.definitions;
          query = is.0;
          rows = is.2.0;
          looked = on.looked;
          read = on.worked;
          parts = on.parts;
          looks = on.looks;
          binds = on.binds ∙ ap Ok is.1;
          answered = is.2.1;
          fills = is.2.3;
        },
        is.2.2,
      )

  within_apart : (new : SessionProgress) (exchanges : List Exchange) (effect : Effect) → Held (within around select (opens_bound around name)) p exchanges (Ok effect) new → (owned : Owned (asks_any (known_by around select) (looked_up select)) p.is_open opened_work p (Ok effect) exchanges new) × IsFilled around p name select owned.worked new × (effect ≡ no_effect)
  unfolding within
  within_apart new exchanges effect held = by_ways (own_held opened_work (looks_own opened_work opened_looks) p new exchanges (Ok effect) (asks_any (known_by around select) (looked_up select)) (room_apart (own (asks_any (known_by around select) (looked_up select)) opened_work) p new exchanges effect held))
    where
      by_ways : Refused {A = Effect} p (Ok effect) exchanges new ⊎ Owned (asks_any (known_by around select) (looked_up select)) p.is_open opened_work p (Ok effect) exchanges new
          → (owned : Owned (asks_any (known_by around select) (looked_up select)) p.is_open opened_work p (Ok effect) exchanges new) × IsFilled around p name select owned.worked new × (effect ≡ no_effect)
      by_ways (inl refused) = absurd (let no : Ok effect ≡ Err (plain no_memory) = refused.failed in cc)
      by_ways (inr owned) =
          let is = filled_by (entered (asks_any (known_by around select) (looked_up select)) p.is_open p) owned.mid owned.worked effect (begun_still (asks_any (known_by around select) (looked_up select)) p.is_open p) owned.held in (
            owned,
            record {
              definitions = is.0.definitions;
              query = is.0.query;
              rows = is.0.rows;
              looked = is.0.looked;
              read = is.0.read;
              parts = is.0.parts;
              looks = is.0.looks;
              binds = is.0.binds;
              answered = is.0.answered;
              fills = ap (λ (q : SessionProgress). q.cursors) owned.ended ∙ is.0.fills;
            },
            is.1,
          )

pub open_done : OpenDone
unfolding opens_cursor
open_done around statement name old new exchanges effect held =
    let on = answered_apart name (opens_kept around statement name old) (list.query_of name old.cursors) old new exchanges effect (first_apart statement (λ p. answered name (opens_kept around statement name p) (list.query_of name p.cursors)) old new exchanges effect held) in
    let shut = answered_apart name (λ done. within around (select_statement statement on.0) (opens_bound around name)) (list.fill_answer name old.cursors) old new exchanges effect on.2 in
    let is = within_apart around old name (select_statement statement on.0) new exchanges effect shut.2 in
    record {
      select = on.0;
      kept = on.1;
      shut = shut.1;
      worked = is.0.worked;
      filled = is.1;
      asks = is.0.around;
      tells = is.2;
    }
