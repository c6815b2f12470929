-- What known exchanges leave and commit.
use Rattle.std.proofs.Common.{◌≡◌, inl, inr, ℕ, Bool, true, false, negsuc, List, [], ◌∷◌, ◌++◌, Some, None, Ok, Err, refl, sym, ◌∙◌}
use Rattle.value_types.specs.declared.value.Value.{Value}
use Rattle.table_rows.specs.Definitions.{objects_name, object_key, row_of}
use Rattle.table_rows.specs.Rows.{rows_table}
use Rattle.tsql_tree.specs.declared.definition.TableTree.{TableTree}
use Rattle.tsql_tree.specs.declared.statement.Form.{Form-F}
use Rattle.error_table.specs.declared.action.Action.TheVariants as act
use Rattle.step_model.specs.declared.change.Planned.{Planned}
use Rattle.error_table.specs.Act.{base_caught}
use Rattle.step_model.specs.declared.manner.Manner.{Manner}
use Rattle.step_model.specs.declared.op.Op.TheVariants as ops
use Rattle.step_model.specs.declared.reply.Reply.TheVariants as replies
use Rattle.step_model.specs.Exchange.{Exchange}
use Rattle.step_model.specs.Fits.{commit_of}
use Rattle.step_model.specs.Net.{Net}
use Rattle.step_model.specs.Own.{MarkedAt, Progress as Stand, none_open}
use Rattle.session_cursors.specs.declared.fault.CursorFault.{CursorFault}
use Rattle.txn_rules.specs.State.{after_end, is_closed, no_transaction}
use Rattle.tds_tokens.specs.declared.token.DoneKind.TheVariants.{Done}
use Rattle.batch_meaning.specs.declared.exit.Exit.TheVariants.{On, End}
use Rattle.batch_meaning.specs.declared.failure.Failure.{Failure}
use Rattle.batch_meaning.specs.declared.raised.Raised.{Raised}
use Rattle.batch_meaning.specs.Changing.{created}
use Rattle.batch_meaning.specs.Meaning.{way_of}
use Rattle.batch_meaning.specs.Progress.{SessionProgress, first_progress, made, tells_fetch}
use Rattle.batch_meaning.specs.Raised.{error_token}
use Rattle.batch_meaning.specs.Selecting.{no_effect}
use Rattle.batch_meaning.specs.Tokens.{statement_failed}
use Rattle.batch_meaning.specs.Values.{Assigned, assigned_to}
use Rattle.statement_paths.specs.Paths.{definition_put, replied}
use Rattle.batch_laws.specs.Committing.{is_plain, told_of, IsIdle, Leaves, StrikesBy}
use Rattle.batch_laws.specs.Cursors.{Fetches}
use Rattle.batch_laws.specs.Settled.{IsSteady}
use Rattle.batch_laws.specs.Transactions.{CommitsBy, LeavesAll}

-- a SELECT commits nothing
select_commits : commit_of (Net []) ≡ []
select_commits = refl

-- CREATE TABLE commits one row of `objects`
created_commits : (name text : List ℕ) → commit_of (Net (definition_put name text ∷ [])) ≡ (record { table = rows_table objects_name; key = object_key name; row = Some (row_of name text) } ∷ []) ∷ []
created_commits name text = refl

-- before its first batch a session is idle
first_idle : IsIdle first_progress
first_idle = record { none = record { shut = refl; closed = refl; sound = refl }; seen = refl }

-- and steady
first_steady : IsSteady first_progress
first_steady = (refl, λ closed. refl)

-- one that BEGIN TRANSACTION has opened and that is not open at the port is not
unopened : IsSteady (record first_progress { txn = record no_transaction { count = 1 } }) → ⊥
unopened steady = let no : false ≡ true = steady.0 in absurd (cc)

-- the statements on cursors are not plain
open_names : (name : List ℕ) → is_plain (Form-F.OpenCursor name) ≡ false
open_names name = refl

-- behind the last row FETCH sets @@FETCH_STATUS to -1, and a row that there is not can't be fetched
behind_last : (p : SessionProgress) (name : List ℕ) (variables : List (List ℕ)) → Fetches p name variables (Ok None) (Ok no_effect) (made (tells_fetch (negsuc 0)) p)
behind_last p name variables = (refl, refl)

-- a row whose values can be assigned is not passed where memory is wanting for that
none_passed : (p new : SessionProgress) (name : List ℕ) (variables : List (List ℕ)) (row : List Value) (sets : List Assigned) (failure : Failure)
    → assigned_to p.vars variables row ≡ Ok sets → Fetches p name variables (Ok (Some row)) (Err failure) new → new ≡ p
none_passed p new name variables row sets failure is (inl kept) = kept
none_passed p new name variables row sets failure is (inr passed) = absurd (let no : Ok sets ≡ Err failure = sym is ∙ passed.0 in cc)

none_fetched : (p new : SessionProgress) (name : List ℕ) (variables : List (List ℕ)) (fault : CursorFault) → Fetches p name variables (Err fault) (Ok no_effect) new → ⊥
none_fetched p new name variables fault fetched = fetched

-- CREATE TABLE and RETURN are plain, and a block is not
create_plain : (table : TableTree) (text : List ℕ) → is_plain (Form-F.CreateTable table text) ≡ true
create_plain table text = refl

return_plain : is_plain (Form-F.Return None) ≡ true
return_plain = refl

block_holds : is_plain (Form-F.Block []) ≡ false
block_holds = refl

-- EXEC runs other statements
call_runs : (name : List ℕ) → is_plain (Form-F.Execute None name []) ≡ false
call_runs name = refl

module _ (manner : Manner) (name text : List ℕ) (mark place : ℕ) where
  abbrev put : List Exchange
  put = replied manner ops.Mark (replies.Marked mark) ∷ replied manner (created name text) replies.Done ∷ []

  -- in a transaction of its own it is committed
  own_created : Leaves false false none_open (replied manner ops.Begin replies.Began ∷ put ++ replied manner ops.Relax replies.Done ∷ replied manner ops.Commit (replies.Ended place) ∷ []) (definition_put name text ∷ [])
  own_created = (refl, refl)

  module _ (own : List Planned) (marks : List MarkedAt) where
    abbrev opened : Stand
    opened = record { is_open = true; own = own; marks = marks }

    -- in an open one it stands behind what that had written
    open_created : Leaves true true opened put (definition_put name text ∷ [])
    open_created = (refl, refl, refl)

    -- a transaction that is rolled back commits nothing
    rolled_back : Leaves true false opened (put ++ replied manner ops.Rollback (replies.Ended place) ∷ []) []
    rolled_back = (refl, refl)

    -- what SAVE TRANSACTION has marked stands
    saved : LeavesAll opened (replied manner ops.Mark (replies.Marked mark) ∷ [])
    saved = (refl, refl)

  -- where nothing was written COMMIT commits nothing
  nothing_committed : CommitsBy (Ok true) (Ok no_effect) (record { is_open = true; own = []; marks = [] }) (replied manner ops.Commit (replies.Ended place) ∷ [])
  nothing_committed = (refl, refl)

  -- and else all that was
  all_committed : CommitsBy (Ok true) (Ok no_effect) (record { is_open = true; own = definition_put name text ∷ []; marks = [] }) (replied manner ops.Commit (replies.Ended place) ∷ [])
  all_committed = (refl, refl)

-- an error that ends its statement is told, and the batch goes on
told_on : (p : SessionProgress) (is_open : Bool) (command : ℕ) (raised : Raised) → StrikesBy p false act.Statement is_open (told_of Done false act.Statement command raised) raised On (error_token raised ∷ statement_failed Done command ∷ []) [] p.txn
told_on p is_open command raised = (refl, refl, refl, refl)

-- one that is caught sends nothing
caught_silent : (p : SessionProgress) (is_open : Bool) (command : ℕ) (raised : Raised) → StrikesBy p true act.Statement is_open (told_of Done true act.Statement command raised) raised (way_of (base_caught raised.number raised.by) raised) [] [] p.txn
caught_silent p is_open command raised = (refl, refl, refl, refl)

-- but one that would end the transaction dooms it
caught_dooms : (p : SessionProgress) (is_open : Bool) (raised : Raised) → is_closed p.txn ≡ false → StrikesBy p true act.Doom is_open [] raised (way_of (base_caught raised.number raised.by) raised) [] [] (record p.txn { doomed = true })
caught_dooms p is_open raised is = rw is (refl, refl, refl, refl)

-- one that would end a transaction ends the batch alone where none is open
told_alone : (p : SessionProgress) (command : ℕ) (raised : Raised) → StrikesBy p false act.BatchAndTransaction false (told_of Done false act.BatchAndTransaction command raised) raised End (error_token raised ∷ []) [] p.txn
told_alone p command raised = (refl, refl, refl, refl)

-- the end of a statement's own transaction is not told
own_untold : (p : SessionProgress) (place : ℕ) (raised : Raised) → p.is_own ≡ true → StrikesBy p false act.BatchAndTransaction true (error_token raised ∷ []) raised End (error_token raised ∷ []) (replied p.settings.manner ops.Rollback (replies.Ended place) ∷ []) (after_end p.txn)
own_untold p place raised is = rw is (refl, (place, refl), refl, refl)
