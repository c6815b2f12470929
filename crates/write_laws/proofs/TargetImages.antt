-- The rows of a target that are read have its table's columns.
use Rattle.std.proofs.Common.{◌≡◌, refl, sym, ap, ◌∙◌, subst, ℕ, zero, suc, ◌+◌, Bool, true, false, if◌then◌else◌, List, [], ◌∷◌, ◌++◌, length, get_or, arith, Option, Some, None, Result, Ok, Err}
use Rattle.std.proofs.lemmas.Bool.{and_parts}
use Rattle.std.proofs.lemmas.List.{length-append}
use Rattle.std.specs.Option.{ForSome}
use Rattle.value_types.specs.declared.value.Value.{Value}
use Rattle.tsql_tree.specs.declared.definition.TableTree.{TableTree}
use Rattle.bound_tree.specs.declared.write.Bound.TheVariants as bound
use Rattle.bound_tree.specs.declared.write.BoundWrite.TheVariants as write
use Rattle.step_model.specs.declared.manner.Manner.{Manner}
use Rattle.step_model.specs.declared.op.Op.{Op}
use Rattle.step_model.specs.declared.op.Op.TheVariants.{Fetch}
use Rattle.step_model.specs.declared.range.Start.{Start}
use Rattle.step_model.specs.declared.range.Start.TheVariants.{Past}
use Rattle.step_model.specs.declared.reply.Reply.{Reply}
use Rattle.step_model.specs.declared.reply.Reply.TheVariants as replies
use Rattle.step_model.specs.Dialog.{Dialog, over, asks, room, never, ◌then◌, Held}
use Rattle.step_model.specs.Exchange.{Exchange}
use Rattle.step_model.specs.Ranges.{Keeps, Rows, range_limit, with_row}
use Rattle.table_rows.specs.Rows.{has_columns, key_of, row_fits, same_key, shape_of}
use Rattle.dml_exec.specs.declared.refusal.Level.{Level}
use Rattle.dml_exec.specs.declared.refusal.Refusal.{Refusal}
use Rattle.dml_exec.specs.declared.refusal.Refusal.TheVariants.{Memory}
use Rattle.dml_exec.specs.Asking.{on_ok, ◌>>=◌, with_room, with_room_if}
use Rattle.dml_exec.specs.Reading.{GivenRows, TableRead, behind_gone, fetches, fits, from, images_from, images_of, inner_reads, inner_tables, is_one_key, is_short, key_width, read_by, reads_on, reads_range, reads_table, rows_from, rows_in, table_fetch, target_read, unless_given}
use Rattle.dml_exec.proofs.ReadTables.{inner_counted}
use Rattle.write_laws.specs.Planning.{HaveColumns, RowsRead}
use Rattle.write_laws.proofs.Changes.{all_both}

-- ---- what comes of a dialog

-- whatever the replies are, this holds of what comes
abbrev Comes : {A : Type 0} → Dialog A → (A → Type 0) → Type 0
Comes (over a) P = P a
Comes (asks op quiet go) P = (reply : Reply) → Comes (go reply) P
Comes (room go) P = (enough : Bool) → Comes (go enough) P
Comes never P = Unit {0}

came : {A : Type 0} (manner : Manner) (dialog : Dialog A) (P : A → Type 0) (exchanges : List Exchange) (result : A) → Comes dialog P → Held manner dialog exchanges result → P result
unfolding Held
came manner (over a) P exchanges result comes held = subst P (sym held.1) comes
came manner (asks op quiet go) P [] result comes held = absurd held
came manner (asks op quiet go) P (x ∷ later) result comes held = came manner (go x.reply) P later result (comes x.reply) held.3
came manner (room go) P exchanges result comes held = came manner (go held.0) P exchanges result (comes held.0) held.1
came manner never P exchanges result comes held = absurd held

-- one behind another
comes_then : {A B : Type 0} (dialog : Dialog A) (go : A → Dialog B) (Q : A → Type 0) (P : B → Type 0) → Comes dialog Q → ((a : A) → Q a → Comes (go a) P) → Comes (dialog then go) P
unfolding ◌then◌
comes_then (over a) go Q P comes on = on a comes
comes_then (asks op quiet next) go Q P comes on = λ reply. comes_then (next reply) go Q P (comes reply) on
comes_then (room next) go Q P comes on = λ enough. comes_then (next enough) go Q P (comes enough) on
comes_then never go Q P comes on = tt

-- of a value, if one comes
abbrev IfWell : {A E : Type 0} → (A → Type 0) → Result A E → Type 0
IfWell P (Ok a) = P a
IfWell P (Err e) = Unit {0}

comes_whatever : {A E : Type 0} (dialog : Dialog (Result A E)) → Comes dialog (IfWell (λ a. Unit {0}))
comes_whatever (over (Ok a)) = tt
comes_whatever (over (Err e)) = tt
comes_whatever (asks op quiet go) = λ reply. comes_whatever (go reply)
comes_whatever (room go) = λ enough. comes_whatever (go enough)
comes_whatever never = tt

comes_on : {A B E : Type 0} (dialog : Dialog (Result A E)) (go : A → Dialog (Result B E)) (Q : A → Type 0) (P : B → Type 0) → Comes dialog (IfWell Q) → ((a : A) → Q a → Comes (go a) (IfWell P)) → Comes (dialog >>= go) (IfWell P)
comes_on {A = A} {B = B} {E = E} dialog go Q P comes on = comes_then dialog (on_ok go) (IfWell Q) (IfWell P) comes by_result
  where
    by_result : (a : Result A E) → IfWell Q a → Comes (on_ok go a) (IfWell P)
    by_result (Ok a) holds = on a holds
    by_result (Err e) holds = tt

comes_room : {A E : Type 0} (wanting : E) (dialog : Dialog (Result A E)) (P : A → Type 0) → Comes dialog (IfWell P) → Comes (with_room wanting dialog) (IfWell P)
comes_room wanting dialog P comes true = comes
comes_room wanting dialog P comes false = tt

comes_room_if : {A E : Type 0} (wants : Bool) (wanting : E) (dialog : Dialog (Result A E)) (P : A → Type 0) → Comes dialog (IfWell P) → Comes (with_room_if wants wanting dialog) (IfWell P)
comes_room_if true wanting dialog P comes = comes_room wanting dialog P comes
comes_room_if false wanting dialog P comes = comes

-- ---- the rows of a table

module _ (shape : TableTree) where
  abbrev Have : Rows → Type 0
  Have = HaveColumns shape

  abbrev keeps : Keeps
  keeps = fits (Some shape) 0

  row_kept : (rows : Rows) (key row : List Value) → Have rows → Have (with_row keeps rows key row)
  row_kept rows key row have = by_test (row_fits shape 0 key row) refl
    where
      by_test : (b : Bool) → row_fits shape 0 key row ≡ b → Have (if b then rows ++ row ∷ [] else rows)
      by_test true fit = all_both (λ row. has_columns shape.columns row ≡ true) rows (row ∷ []) have ((and_parts (has_columns shape.columns row) (same_key (key_of shape row) key) fit).0, tt)
      by_test false fit = have

  abbrev HaveSoFar : Rows × Option Start → Type 0
  HaveSoFar so_far = Have so_far.0

  reply_have : (width : ℕ) (so_far : Rows) → Have so_far → (reply : Reply) → Comes (read_by width keeps so_far reply) (IfWell HaveSoFar)
  reply_have width so_far have (replies.Row key row at) = comes_room Memory (over (Ok (with_row keeps so_far key row, Some (Past key)))) HaveSoFar (row_kept so_far key row have)
  reply_have width so_far have (replies.Gone key at) = comes_room_if (is_short width key) Memory (over (Ok (so_far, Some (behind_gone width key)))) HaveSoFar have
  reply_have width so_far have (replies.End at) = have
  reply_have width so_far have replies.Memory = tt
  reply_have width so_far have (replies.TimedOut holder held asked on) = tt
  reply_have width so_far have (replies.Victim cycle) = tt
  reply_have width so_far have reply = tt

  fetch_have : (width : ℕ) (fetch : Op) (so_far : Rows) → Have so_far → Comes (fetches width keeps fetch so_far) (IfWell HaveSoFar)
  fetch_have width (Fetch table start stop hold part) so_far have = reply_have width so_far have
  fetch_have width op so_far have = tt

  behind_have : (next : Rows → Start → Dialog (Result Rows Refusal)) → ((more : Rows) (start : Start) → Have more → Comes (next more start) (IfWell Have)) → (so_far : Rows × Option Start) → HaveSoFar so_far → Comes (reads_on next so_far) (IfWell Have)
  behind_have next goes (more, None) have = have
  behind_have next goes (more, Some start) have = goes more start have

  range_have : (width : ℕ) (left : ℕ) (fetch : Op) (so_far : Rows) → Have so_far → Comes (rows_from width keeps left fetch so_far) (IfWell Have)
  unfolding rows_from
  range_have width zero fetch so_far have = tt
  range_have width (suc left) fetch so_far have =
      comes_on (fetches width keeps fetch so_far) (reads_on (λ more start. rows_from width keeps left (from start fetch) more)) HaveSoFar Have (fetch_have width fetch so_far have)
      (behind_have (λ more start. rows_from width keeps left (from start fetch) more) (λ more start. range_have width left (from start fetch) more))

  -- or of one whole key
  in_have : (one : Bool) (fetch : Op) → Comes (rows_in (Some shape) 0 one fetch) (IfWell Have)
  unfolding rows_in
  in_have true fetch = comes_on (fetches (key_width (Some shape) 0) keeps fetch []) (λ so_far. over (Ok so_far.0)) HaveSoFar Have (fetch_have (key_width (Some shape) 0) fetch [] tt) (λ so_far have. have)
  in_have false fetch = range_have (key_width (Some shape) 0) range_limit fetch [] tt

  unless_have : (rows_given : Option Rows) (fetched : Dialog (Result Rows Refusal)) → ForSome rows_given Have → Comes fetched (IfWell Have) → Comes (unless_given rows_given fetched) (IfWell Have)
  unless_have None fetched have comes = comes
  unless_have (Some rows) fetched have comes = comes_room Memory (over (Ok rows)) Have (have rows refl)

  module _ (given : GivenRows) (shapes : List TableTree) (level : Level) (target : TableRead) (known : shape_of target.0.table shapes ≡ Some shape) (has : ForSome (given target.0.table) Have) where
    table_have : Comes (reads_table given shapes level target) (IfWell Have)
    unfolding reads_table
    table_have = unless_have (given target.0.table) (reads_range (shape_of target.0.table shapes) level target) has
        (subst (λ (of : Option TableTree). Comes (reads_range of level target) (IfWell Have)) (sym known) (in_have (is_one_key (key_width (Some shape) 0) target.0.start target.0.stop) (table_fetch level target)))

    -- ---- the image of a target

    behind : (images : List Rows) (rows : Rows) → get_or (images ++ rows ∷ []) (length images) [] ≡ rows
    behind [] rows = refl
    behind (image ∷ images) rows = behind images rows

    images_have : (images : List Rows) (reads : List TableRead) (place : ℕ) → place ≡ length images + length reads → Comes (images_from given shapes level images (reads ++ target ∷ [])) (IfWell (λ all. Have (get_or all place [])))
    unfolding images_from
    images_have images [] place is =
        comes_on (reads_table given shapes level target) (λ rows. with_room Memory (images_from given shapes level (images ++ rows ∷ []) [])) Have (λ all. Have (get_or all place [])) table_have
        (λ rows have. comes_room Memory (over (Ok (images ++ rows ∷ []))) (λ all. Have (get_or all place []))
        (subst Have (sym (ap (λ n. get_or (images ++ rows ∷ []) n []) (omega (arith, is)) ∙ behind images rows)) have))
    images_have images (read ∷ reads) place is =
        comes_on (reads_table given shapes level read) (λ rows. with_room Memory (images_from given shapes level (images ++ rows ∷ []) (reads ++ target ∷ []))) (λ rows. Unit {0}) (λ all. Have (get_or all place []))
        (comes_whatever (reads_table given shapes level read))
        (λ rows any. comes_room Memory (images_from given shapes level (images ++ rows ∷ []) (reads ++ target ∷ [])) (λ all. Have (get_or all place []))
        (images_have (images ++ rows ∷ []) reads place (simp length-append (omega (arith, is)))))

pub rows_read : RowsRead
unfolding images_of
rows_read given shapes level vars (write.Insert table places values) shape manner exchanges images known has held = tt
rows_read given shapes level vars (write.Update table sets test inner) shape manner exchanges images known has held =
    let target = target_read vars shapes table test in
    let many : length (inner_reads vars inner) ≡ length (inner_tables inner) = inner_counted vars inner in
    came manner (images_of given shapes level vars (bound.Write (write.Update table sets test inner))) (IfWell (λ all. HaveColumns shape (get_or all (length (inner_tables inner)) []))) exchanges (Ok images)
    (comes_room Memory (images_from given shapes level [] (inner_reads vars inner ++ target ∷ [])) (λ all. HaveColumns shape (get_or all (length (inner_tables inner)) []))
    (images_have shape given shapes level target known has [] (inner_reads vars inner) (length (inner_tables inner)) (omega (arith, many)))) held
rows_read given shapes level vars (write.Delete table test inner) shape manner exchanges images known has held = tt
