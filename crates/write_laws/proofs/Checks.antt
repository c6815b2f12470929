-- Reads that gave no error.
use Rattle.std.proofs.Common.{◌≡◌, ℤ, Bool, true, false, cond, List, [], ◌∷◌, ◌++◌, length, map, filter, Option, None, Some, IsTrue, Result, Ok, Err, refl, sym, ap, subst, ◌∙◌, append-nil}
use Rattle.std.specs.Prelude.{IsSome}
use Rattle.std.specs.List.{AllByRecursion}
use Rattle.std.proofs.lemmas.List.Elements.{recursion_from_All}
use Rattle.lock_modes.specs.declared.KeyPart.TheVariants.{S}
use Rattle.value_types.specs.declared.table_name.TableName.{TableName}
use Rattle.value_types.specs.declared.value.Value.{Value}
use Rattle.tsql_tree.specs.declared.definition.TableTree.{TableTree}
use Rattle.step_model.specs.declared.manner.Manner.{Manner}
use Rattle.step_model.specs.declared.range.KeyRange.{KeyRange}
use Rattle.step_model.specs.Database.{Database, In, is_within}
use Rattle.step_model.specs.Dialog.{Dialog, over, ◌then◌, Held}
use Rattle.step_model.specs.Exchange.{Exchange}
use Rattle.step_model.specs.Fits.{AnswersIn}
use Rattle.step_model.specs.Ranges.{Rows}
use Rattle.table_rows.specs.Rows.{part_shape}
use Rattle.constraint_check.specs.declared.check_read.CheckRead.{CheckRead}
use Rattle.constraint_check.specs.Judged.{judge}
use Rattle.constraint_check.specs.Laws.{KeysAreOne, Passes}
use Rattle.constraint_check.proofs.Judging.{judged_passes}
use Rattle.constraint_check.proofs.Lists.{all_left, all_right}
use Rattle.dml_exec.specs.declared.refusal.Refusal.{Refusal}
use Rattle.dml_exec.specs.Reading.{fits, is_one_key, key_width}
use Rattle.dml_exec.specs.Writing.{broken, broken_by, checks_all, checks_one, checks_range, halted, no_room, rows_checked}
use Rattle.write_laws.specs.Reading.{ChecksRead}
use Rattle.write_laws.specs.Reads.{at_place, AllFit, KeysHave, HoldsIt}
use Rattle.write_laws.proofs.Dialogs.{held_both, held_ok, held_room, ok_err}
use Rattle.write_laws.proofs.Entries.{Entry}
use Rattle.write_laws.proofs.KeySizes.{fits_wide}
use Rattle.write_laws.proofs.Parts.{Fetches, all_asked, answers, asks_ok, asks_room, asks_then, one_place}
use Rattle.write_laws.proofs.Ranges.{in_fetches, read_in, told_one}

-- ---- all rows are kept

module _ (db : Database) (shapes : List TableTree) (table : TableName) (fit : AllFit db shapes table) where
  pub keys_have : KeysHave (key_width (part_shape table shapes) table.part) db table
  keys_have key some = by_row (db table key) refl some
    where
      by_row : (o : Option (List Value)) → db table key ≡ o → IsSome o → length key ≡ key_width (part_shape table shapes) table.part
      by_row None is some = absurd (let no : false ≡ true = some in cc)
      by_row (Some row) is some = fits_wide (part_shape table shapes) table.part key row (fit key row is)

  all_kept : (entries : List Entry) → AllByRecursion (λ (at : Entry). db table at.0 ≡ Some at.1) entries → filter (fits (part_shape table shapes) table.part) entries ≡ entries
  all_kept [] all = refl
  all_kept (at ∷ entries) all =
      ap (λ (b : Bool). cond b (at ∷ filter (fits (part_shape table shapes) table.part) entries) (filter (fits (part_shape table shapes) table.part) entries)) (fit at.0 at.1 all.0)
      ∙ ap (λ (rest : List Entry). at ∷ rest) (all_kept entries all.1)

-- ---- one read

-- it is read as one whole key
abbrev is_one : List TableTree → KeyRange → Bool
is_one shapes range = is_one_key (key_width (part_shape range.table shapes) range.table.part) range.start range.stop

abbrev reads_of : List TableTree → KeyRange → Dialog (Result Rows Refusal)
reads_of shapes range = checks_range (part_shape range.table shapes) range

module _ (manner : Manner) (shapes : List TableTree) where
  rows_held : (range : KeyRange) (part : List Exchange) (found : Rows) → Held manner (rows_checked shapes range) part (Ok found) → Held manner (reads_of shapes range) part (Ok found)
  unfolding Held rows_checked
  rows_held range part found held =
      let h = held_both manner (reads_of shapes range) halted part (Ok found) (held_room manner no_room (reads_of shapes range then halted) part found held) in
      by_came h.came h.first h.second h.parts h.held h.more
    where
      by_came : (came : Result Rows Refusal) (first second : List Exchange) → part ≡ first ++ second → Held manner (reads_of shapes range) first came → Held manner (halted came) second (Ok found) → Held manner (reads_of shapes range) part (Ok found)
      by_came (Ok rows) first second parts held more =
          let none : second ≡ [] = more.0 in
          let same : rows ≡ found = cc in
          subst (λ (xs : List Exchange). Held manner (reads_of shapes range) xs (Ok found)) (sym (parts ∙ ap (λ (xs : List Exchange). first ++ xs) none ∙ append-nil first))
          (subst (λ (r : Rows). Held manner (reads_of shapes range) first (Ok r)) same held)
      by_came (Err refusal) first second parts held more = absurd (ok_err found _ more.1)

  not_broken : (read : CheckRead) (error : Option ℤ) (part : List Exchange) → Held manner (broken_by read error) part (Ok tt) → error ≡ None
  unfolding Held
  not_broken read None part held = refl
  not_broken read (Some number) part held = absurd (ok_err tt _ (held_room manner no_room (over (Err (broken number read.name))) part tt held).1)

  module _ (db : Database) (one_key : KeysAreOne db) where
    abbrev Answered : List Exchange → Type 0
    Answered part = AllByRecursion (λ x. AnswersIn db x.op x.reply) part

    passed : (read : CheckRead) (part : List Exchange) → AllFit db shapes read.range.table → Answered part → Held manner (checks_one shapes read) part (Ok tt) → Passes db read
    unfolding checks_one
    passed read part fit answered held =
        let h = held_ok manner (rows_checked shapes read.range) (λ found. broken_by read (judge read found)) part tt held in
        let came = read_in db one_key manner (part_shape read.range.table shapes) read.range.table.part (is_one shapes read.range) read.range S h.came h.first
        (all_left (λ (x : Exchange). AnswersIn db x.op x.reply) h.first h.second (subst Answered h.parts answered)) (rows_held read.range h.first h.came h.held)
        (keys_have db shapes read.range.table fit) (told_one (key_width (part_shape read.range.table shapes) read.range.table.part) read.range.start read.range.stop) in
        let same : h.came ≡ map (λ (at : Entry). at.1) came.0 = came.2 ∙ ap (map (λ (at : Entry). at.1)) (all_kept db shapes read.range.table fit came.0 (stand read.range came.0 came.1)) in
        judged_passes db read came.0 one_key came.1 (ap (judge read) (sym same) ∙ not_broken read (judge read h.came) h.second h.more)
      where
        stand : (range : KeyRange) (entries : List Entry) → In db range.table range.start range.stop entries → AllByRecursion (λ (at : Entry). db range.table at.0 ≡ Some at.1) entries
        stand range entries is = more_of entries (recursion_from_All (λ (at : Entry). IsTrue (is_within range.start range.stop at.0) × (db range.table at.0 ≡ Some at.1)) entries is.rows_of_range)
          where
            more_of : (xs : List Entry) → AllByRecursion (λ (at : Entry). IsTrue (is_within range.start range.stop at.0) × (db range.table at.0 ≡ Some at.1)) xs → AllByRecursion (λ (at : Entry). db range.table at.0 ≡ Some at.1) xs
            more_of [] all = tt
            more_of (x ∷ xs) all = (all.0.1, more_of xs all.1)

    pub all_passed : (reads : List CheckRead) (part : List Exchange) → AllByRecursion (λ read. AllFit db shapes read.range.table) reads → Answered part → Held manner (checks_all shapes reads) part (Ok tt) → AllByRecursion (Passes db) reads
    unfolding checks_all
    all_passed [] part fit answered held = tt
    all_passed (read ∷ reads) part fit answered held =
        let h = held_ok manner (checks_one shapes read) (λ done. checks_all shapes reads) part tt held in
        let answered : Answered (h.first ++ h.second) = subst Answered h.parts answered in (
          passed read h.first fit.0 (all_left (λ (x : Exchange). AnswersIn db x.op x.reply) h.first h.second answered) h.held,
          all_passed reads h.second fit.1 (all_right (λ (x : Exchange). AnswersIn db x.op x.reply) h.first h.second answered) h.more,
        )

-- ---- what is asked

module _ (shapes : List TableTree) where
  halted_fetches : (came : Result Rows Refusal) → Fetches (halted came)
  halted_fetches (Ok rows) = tt
  halted_fetches (Err refusal) = tt

  rows_fetches : (range : KeyRange) → Fetches (rows_checked shapes range)
  unfolding rows_checked
  rows_fetches range = asks_room HoldsIt no_room (reads_of shapes range then halted) (asks_then HoldsIt (reads_of shapes range) halted (in_fetches range.table range.stop S (part_shape range.table shapes) range.table.part (is_one shapes range) range.start) halted_fetches)

  broken_fetches : (read : CheckRead) (error : Option ℤ) → Fetches (broken_by read error)
  broken_fetches read None = tt
  broken_fetches read (Some number) = asks_room HoldsIt no_room (over (Err (broken number read.name))) tt

  one_fetches : (read : CheckRead) → Fetches (checks_one shapes read)
  unfolding checks_one
  one_fetches read = asks_ok HoldsIt (rows_checked shapes read.range) (λ found. broken_by read (judge read found)) (rows_fetches read.range) (λ found. broken_fetches read (judge read found))

  pub all_fetches : (reads : List CheckRead) → Fetches (checks_all shapes reads)
  unfolding checks_all
  all_fetches [] = tt
  all_fetches (read ∷ reads) = asks_ok HoldsIt (checks_one shapes read) (λ done. checks_all shapes reads) (one_fetches read) (λ done. all_fetches reads)

pub checks_read : ChecksRead
checks_read log mine before part later manner shapes reads is holds held fit =
    all_passed manner shapes (at_place log before later) (one_place log before later) reads part fit
    (answers log mine before part later is holds (all_asked HoldsIt manner (checks_all shapes reads) part (Ok tt) (all_fetches shapes reads) held)) held
