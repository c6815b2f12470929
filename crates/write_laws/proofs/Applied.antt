-- A write that was planned on rows which fetches told, and applied, leaves what was planned.
use Rattle.std.proofs.Common.{◌≡◌, refl, sym, ap, ◌∙◌, subst, ℕ, List, [], ◌∷◌, ◌++◌, length, map, take, Ok, append_assoc}
use Rattle.tsql_tree.specs.declared.definition.TableTree.{TableTree}
use Rattle.step_model.specs.declared.change.Planned.{Planned}
use Rattle.step_model.specs.declared.manner.Manner.{Manner}
use Rattle.step_model.specs.declared.op.Op.TheVariants as ops
use Rattle.step_model.specs.declared.reply.Reply.TheVariants as replies
use Rattle.step_model.specs.Database.{Database, With}
use Rattle.step_model.specs.Dialog.{Held}
use Rattle.step_model.specs.Exchange.{Exchange}
use Rattle.step_model.specs.Fits.{place_of}
use Rattle.step_model.specs.Log.{Commit as Logged, State}
use Rattle.step_model.specs.Own.{Progress, change_of, none_open, progress_of}
use Rattle.constraint_check.specs.Laws.{behind}
use Rattle.table_rows.specs.Rows.{rows_table}
use Rattle.dml_exec.specs.declared.refusal.Level.{Level}
use Rattle.dml_exec.specs.Planning.{all_changes, as_found, is_same_row}
use Rattle.dml_exec.specs.Writing.{asks_keys}
use Rattle.statement_paths.specs.Paths.{AreApplied, replied}
use Rattle.write_laws.specs.Attempted.{AppliedFollows, IsMade, IsToldPlan, plan_of}
use Rattle.write_laws.specs.Indexed.{Indexed, own_rows}
use Rattle.write_laws.specs.Made.{AreMade}
use Rattle.write_laws.specs.Reads.{at_place}
use Rattle.write_laws.specs.Sound.{Firm, IsTableOf}
use Rattle.write_laws.proofs.Attempted.{write_follows}
use Rattle.write_laws.proofs.Made.{writes_make}
use Rattle.write_laws.proofs.Parts.{from_both, own_stays, same_place}
use Rattle.write_laws.proofs.SameRows.{plan_is, same_row_is}
use Rattle.write_laws.proofs.Writes.{checked_fetch, made, made_parts}

module _ (log : List Logged) (mine before part later : List Exchange) (manner : Manner) (shapes : List TableTree) (level : Level) (shape : TableTree) (plan planned : List Planned) (is : mine ≡ before ++ (part ++ later))
    (told : IsToldPlan before level shape plan) (applied : AreApplied manner shapes plan planned part) where
  abbrev mark : Exchange
  mark = replied manner ops.Mark (replies.Marked applied.mark)

  -- what comes behind the changes
  abbrev past : List Exchange
  past = applied.checked ++ later

  abbrev start : List Exchange
  start = (told.front ++ told.reads) ++ told.between

  start_is : start ≡ before
  start_is = append_assoc told.front told.reads told.between ∙ sym told.split

  parts : part ++ later ≡ applied.asked ++ mark ∷ (applied.put ++ past)
  parts =
      ap (λ (xs : List Exchange). xs ++ later) applied.parts ∙ append_assoc applied.asked (mark ∷ (applied.put ++ applied.checked)) later
      ∙ ap (λ (xs : List Exchange). applied.asked ++ mark ∷ xs) (append_assoc applied.put applied.checked later)

  split : mine ≡ told.front ++ (told.reads ++ (told.between ++ (applied.asked ++ mark ∷ (applied.put ++ past))))
  split =
      is ∙ ap (λ (xs : List Exchange). xs ++ (part ++ later)) told.split ∙ append_assoc told.front (told.reads ++ told.between) (part ++ later)
      ∙ ap (λ (xs : List Exchange). told.front ++ xs) (append_assoc told.reads told.between (part ++ later))
      ∙ ap (λ (xs : List Exchange). told.front ++ (told.reads ++ (told.between ++ xs))) parts

  plan_same : plan ≡ plan_of shape is_same_row told.rows ++ told.more
  plan_same = told.plans ∙ ap (λ (l : List Planned). l ++ told.more) (plan_is shape told.rows)

  is_made : IsMade mine told.front told.reads told.between applied.asked applied.put past mark manner level told.taken.range shape is_same_row told.rows told.more applied.found
  is_made = record {
    split = split;
    table = told.taken.table;
    reads_fetch = told.reads_fetch;
    between_fetch = told.between_fetch;
    marks = refl;
    marked = tt;
    taken = told.taken.told;
    apart = told.taken.apart;
    own = told.own;
    asks = subst (λ (l : List Planned). Held manner (asks_keys l []) applied.asked (Ok applied.found)) plan_same applied.asks;
    makes = subst (λ (l : List Planned). AreMade (as_found l applied.found) applied.put) plan_same (writes_make manner shapes (as_found plan applied.found) applied.put applied.puts);
  }

  -- ---- the same place

  past_place : place_of (length log) past ≡ place_of (length log) later
  past_place = same_place (length log) applied.checked later (checked_fetch manner shapes plan planned part applied)

  in_front : at_place log start past ≡ at_place log before later
  in_front = ap (λ (xs : List Exchange). at_place log xs past) start_is ∙ ap (λ (n : ℕ). With (State (take n log)) (map change_of (progress_of before).own)) past_place

  abbrev front : List Exchange
  front = made manner shapes plan planned part applied

  put_is : (start ++ (applied.asked ++ mark ∷ [])) ++ applied.put ≡ before ++ front
  put_is =
      append_assoc start (applied.asked ++ mark ∷ []) applied.put ∙ ap (λ (xs : List Exchange). start ++ xs) (append_assoc applied.asked (mark ∷ []) applied.put)
      ∙ ap (λ (xs : List Exchange). xs ++ front) start_is

  own_same : (progress_of (before ++ part)).own ≡ (progress_of (before ++ front)).own
  own_same =
      ap (λ (xs : List Exchange). (progress_of (before ++ xs)).own) (made_parts manner shapes plan planned part applied)
      ∙ ap (λ (xs : List Exchange). (progress_of xs).own) (sym (append_assoc before front applied.checked))
      ∙ ap (λ (p : Progress). p.own) (from_both none_open (before ++ front) applied.checked)
      ∙ own_stays applied.checked (progress_of (before ++ front)) (checked_fetch manner shapes plan planned part applied)

  in_back : at_place log (before ++ part) later ≡ at_place log ((start ++ (applied.asked ++ mark ∷ [])) ++ applied.put) past
  in_back =
      ap (λ (own : List Planned). With (State (take (place_of (length log) later) log)) (map change_of own)) own_same
      ∙ ap (λ (n : ℕ). With (State (take n log)) (map change_of (progress_of (before ++ front)).own)) (sym past_place)
      ∙ ap (λ (xs : List Exchange). at_place log xs past) (sym put_is)

pub applied_follows : AppliedFollows
applied_follows begin log mine before part later manner shapes level shape plan planned is numbers current ranges inserts targets told applied firm indexed defined =
    let base = in_front log mine before part later manner shapes level shape plan planned is told applied in
    let same = plan_same log mine before part later manner shapes level shape plan planned is told applied in
    let follow =
    write_follows begin log mine told.front told.reads told.between applied.asked applied.put (applied.checked ++ later) (replied manner ops.Mark (replies.Marked applied.mark)) manner level told.taken.range shape is_same_row told.rows
    told.more applied.found numbers current ranges inserts targets (is_made log mine before part later manner shapes level shape plan planned is told applied) same_row_is
    (subst (λ (db : Database). Firm (own_rows db)) (sym base) firm) (subst Indexed (sym base) indexed) (subst (λ (db : Database). IsTableOf db shape) (sym base) defined) in
    let plan_behind : behind (at_place log ((told.front ++ told.reads) ++ told.between) (applied.checked ++ later)) (plan_of shape is_same_row told.rows ++ told.more) ≡ behind (at_place log before later) plan =
    ap (λ (db : Database). behind db (plan_of shape is_same_row told.rows ++ told.more)) base ∙ ap (behind (at_place log before later)) (sym same) in
    let rows_behind : behind (at_place log ((told.front ++ told.reads) ++ told.between) (applied.checked ++ later)) (plan_of shape is_same_row told.rows) ≡ behind (at_place log before later) (all_changes (rows_table shape.name) shape told.rows) =
    ap (λ (db : Database). behind db (plan_of shape is_same_row told.rows)) base ∙ ap (behind (at_place log before later)) (sym (plan_is shape told.rows)) in
    (in_back log mine before part later manner shapes level shape plan planned is told applied ∙ follow.0 ∙ plan_behind, subst Indexed rows_behind follow.1)
