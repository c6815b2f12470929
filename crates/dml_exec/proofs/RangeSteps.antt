-- How a range is read, and lists of parts, by a loop: what is left leads to the whole.
use Rattle.std.proofs.Common.{◌≡◌, Bool, if◌then◌else◌, ℕ, zero, suc, ◌+◌, ◌-◌, ◌<◌, ◌≤◌, true, false, List, [], ◌∷◌, ◌++◌, length, drop, get_or, Option, Some, None, Result, Ok, Err, refl, sym, ap, ◌∙◌, subst, arith}
use Rattle.std.proofs.Math.Bool.{or-true}
use Rattle.std.proofs.lemmas.List.{drop_more, length-drop}
use Rattle.std.specs.Prelude.{◌||◌, IfOk, OnErr}
use Rattle.std.specs.List.{list_any}
use Rattle.std.specs.declared.alloc.Global.{Global}
use Rattle.std.specs.declared.vec.Vec.{Vec}
use Rattle.value_types.specs.declared.row.Row.{Row}
use Rattle.tsql_tree.specs.declared.definition.TableTree.{TableTree}
use Rattle.step_model.specs.declared.manner.Manner.{Manner}
use Rattle.step_model.specs.declared.op.Op.{Op}
use Rattle.step_model.specs.declared.op.Op.TheVariants.{Fetch}
use Rattle.step_model.specs.declared.range.Start.{Start}
use Rattle.step_model.specs.declared.reply.Reply.{Reply}
use Rattle.step_model.specs.declared.reply.Reply.TheVariants as replies
use Rattle.step_model.specs.Exchange.{CanReply, IsPartOfFetch, MayCome, Standing}
use Rattle.step_model.specs.Port.{PortPast, GoesOn, standing_after}
use Rattle.step_model.specs.Dialog.{Dialog, over, Leads, Asks}
use Rattle.step_model.specs.Ranges.{Keeps, Rows}
use Rattle.dml_exec.specs.declared.refusal.Refusal.{Refusal}
use Rattle.dml_exec.specs.declared.refusal.Refusal.TheVariants.{Limit, Memory}
use Rattle.dml_exec.specs.declared.refusal.Level.{Level}
use Rattle.dml_exec.specs.declared.written.Halt.{Halt}
use Rattle.dml_exec.specs.Asking.{MayWork, on_ok, seen, ◌>>=◌, with_room, with_room_if}
use Rattle.dml_exec.specs.Reading.{GivenRows, IsFetch, TableRead, fetches, from, images_from, part_of, read_by, reads_on, reads_table, rows_from}
use Rattle.dml_exec.proofs.Held.{asks_behind, asks_failed, asks_one, asks_over, asks_room, leads_then, leads_to}
use Rattle.step_model.proofs.Dialogs.{front_room}
use Rattle.dml_exec.proofs.Pairs.{none_of}

-- ---- a fetch

pub fetched : {before mid after : PortPast} {manner : Manner} (width : ℕ) (keeps : Keeps) (op : Op) (so_far : Rows) (reply : Reply) {result : Result (Rows × Option Start) Refusal}
    → IsFetch op → GoesOn before mid (record { op = op; manner = manner; reply = reply } ∷ []) → CanReply op reply → Asks mid after manner (read_by width keeps so_far reply) result → Asks before after manner (fetches width keeps op so_far) result
fetched width keeps (Fetch table start stop hold part) so_far reply is went can was = asks_one tt (read_by width keeps so_far) reply went can was
fetched width keeps op so_far reply is went can was = absurd is

-- behind a key without a row it is known where to go on, or memory is wanting for a longer key
module _ {now : PortPast} {manner : Manner} {A : Type 0} where
  pub asks_known : (wants : Bool) (dialog : Dialog (Result A Refusal)) {result : Result A Refusal} → Asks now now manner dialog result → Asks now now manner (with_room_if wants Memory dialog) result
  asks_known true dialog was = asks_room true _ was
  asks_known false dialog was = was

  pub asks_unknown : (wants : Bool) (dialog : Dialog (Result A Refusal)) → (wants ≡ false → false ≡ true) → Asks now now manner (with_room_if wants Memory dialog) (Err Memory)
  asks_unknown true dialog wanted = asks_room false _ (asks_over refl)
  asks_unknown false dialog wanted = let is : false ≡ true = wanted refl in absurd (cc)

-- it may come, and leaves the session where it stands
pub fetch_may : (standing : Standing) (op : Op) → IsFetch op → standing.is_open ≡ true → MayCome standing op
fetch_may standing (Fetch table start stop hold part) is begun = (begun, is)
fetch_may standing op is begun = absurd is

pub fetch_stays : (before : Standing) (op : Op) (reply : Reply) → IsFetch op → CanReply op reply → standing_after before op reply ≡ before
fetch_stays before (Fetch table start stop hold part) (replies.Ended place) is can = absurd can
fetch_stays before (Fetch table start stop hold part) reply is can = refl
fetch_stays before op reply is can = absurd is

-- from another start it is a fetch, too
pub from_fetches : (start : Start) (op : Op) → IsFetch op → IsFetch (from start op)
from_fetches start (Fetch table earlier stop hold part) is = is
from_fetches start op is = absurd is

-- where the session stands as before it may go on
pub may_on : {before after : PortPast} {manner : Manner} → MayWork before manner → after.standing ≡ before.standing → MayWork after manner
may_on may same = record { begun = ap (λ (s : Standing). s.is_open) same ∙ may.begun; priority = may.priority }

-- ---- a range

module _ {before now : PortPast} {manner : Manner} {whole : Dialog (Result Rows Refusal)} (width : ℕ) (keeps : Keeps) (fetch : Op) (so_far : Rows) where
  -- no key more is looked at
  pub range_limited : (left : ℕ) → left ≡ 0 → Leads before now manner whole (rows_from width keeps left fetch so_far) → Asks before now manner whole (Err Limit)
  unfolding rows_from
  range_limited zero none leads = leads_to leads (asks_over refl)
  range_limited (suc left) none leads = absurd (omega (arith, none))

  -- it failed
  pub range_failed : {next : PortPast} (left : ℕ) (refusal : Refusal) → 0 < left → Leads before now manner whole (rows_from width keeps left fetch so_far) → Asks now next manner (fetches width keeps fetch so_far) (Err refusal) → Asks before next manner whole (Err refusal)
  unfolding rows_from
  range_failed zero refusal some leads was = absurd (omega (arith, some))
  range_failed (suc left) refusal some leads was = leads_to leads (asks_failed (fetches width keeps fetch so_far) (reads_on (λ more start. rows_from width keeps left (from start fetch) more)) refusal was)

  -- it was answered by the end
  pub range_ended : {next : PortPast} (left : ℕ) (more : Rows) → 0 < left → Leads before now manner whole (rows_from width keeps left fetch so_far) → Asks now next manner (fetches width keeps fetch so_far) (Ok (more, None)) → Asks before next manner whole (Ok more)
  unfolding rows_from
  range_ended zero more some leads was = absurd (omega (arith, some))
  range_ended (suc left) more some leads was =
      leads_to leads (asks_behind (fetches width keeps fetch so_far) (reads_on (λ found start. rows_from width keeps left (from start fetch) found)) (more, None) (Ok more) was (asks_over refl))

  -- it was answered by a key
  pub range_next : {next : PortPast} (left : ℕ) (more : Rows) (start : Start) → 0 < left → Leads before now manner whole (rows_from width keeps left fetch so_far) → Asks now next manner (fetches width keeps fetch so_far) (Ok (more, Some start))
      → Leads before next manner whole (rows_from width keeps (left - 1) (from start fetch) more)
  unfolding rows_from
  range_next zero more start some leads was = absurd (omega (arith, some))
  range_next {next = next} (suc left) more start some leads was =
      let fewer : suc left - 1 ≡ left = omega arith in
      subst (λ n. Leads before next manner whole (rows_from width keeps n (from start fetch) more)) (sym fewer)
      (leads_then (fetches width keeps fetch so_far) (on_ok (reads_on (λ found next. rows_from width keeps left (from next fetch) found))) leads was)

-- ---- parts one after another

module _ {A : Type 0} (part : A → Dialog (Result (Unit {0}) Halt)) (parts : List A → Dialog (Result (Unit {0}) Halt))
    (none : parts [] ≡ over (Ok tt)) (one : (x : A) (xs : List A) → parts (x ∷ xs) ≡ (part x >>= λ done. parts xs))
    {before now : PortPast} {manner : Manner} {whole : Dialog (Result (Unit {0}) Halt)} (xs : List A) (i : ℕ) (leads : Leads before now manner whole (parts (drop i xs))) where
  pub parts_done : length xs ≤ i → Asks before now manner whole (Ok tt)
  parts_done all =
      let left : drop i xs ≡ [] = none_of (drop i xs) (simp length-drop (omega arith)) in
      leads_to (subst (λ (d : Dialog (Result (Unit {0}) Halt)). Leads before now manner whole d) (ap parts left ∙ none) leads) (asks_over refl)

  module _ (x : A) (below : i < length xs) (is : x ≡ get_or xs i x) where
    here : Leads before now manner whole (part x >>= λ done. parts (drop (i + 1) xs))
    here = subst (λ (d : Dialog (Result (Unit {0}) Halt)). Leads before now manner whole d) (ap parts (drop_more xs i x below ∙ ap (λ y. y ∷ drop (i + 1) xs) (sym is)) ∙ one x (drop (i + 1) xs)) leads

    pub parts_failed : {next : PortPast} (halt : Halt) → Asks now next manner (part x) (Err halt) → Asks before next manner whole (Err halt)
    parts_failed halt was = leads_to here (asks_failed (part x) (λ done. parts (drop (i + 1) xs)) halt was)

    pub parts_next : {next : PortPast} → Asks now next manner (part x) (Ok tt) → Leads before next manner whole (parts (drop (i + 1) xs))
    parts_next was = leads_then (part x) (on_ok (λ done. parts (drop (i + 1) xs))) here was

-- ---- tables

-- where one of those that are left is asked for, it may be: the first, and the others where the session stands as before
module _ {A : Type 0} {manner : Manner} (test : A → Bool) (x : A) {all rest : List A} (is : all ≡ x ∷ rest) {before : PortPast} (may : list_any test all ≡ true → MayWork before manner) where
  here_may : list_any test (x ∷ rest) ≡ true → MayWork before manner
  here_may = subst (λ (l : List A). list_any test l ≡ true → MayWork before manner) is may

  pub first_may : test x ≡ true → MayWork before manner
  first_may first = here_may (ap (λ b. b || list_any test rest) first)

  pub rest_may : {after : PortPast} → after.standing ≡ before.standing → list_any test rest ≡ true → MayWork after manner
  rest_may same others = may_on (here_may (ap (λ b. test x || b) others ∙ or-true (test x))) same

pub part_fetches : (is_target : Bool) → IsPartOfFetch (part_of is_target)
part_fetches true = tt
part_fetches false = tt

-- the rows that are given are copied, or memory is wanting for it
pub table_given : {now : PortPast} {manner : Manner} (rows : Rows) (result : Result (Vec Row Global) Refusal) → IfOk result (λ copies. copies.items ≡ rows)
    → OnErr result (result ≡ Err Memory) → Asks now now manner (with_room Memory (over (Ok rows))) (seen result)
table_given rows (Ok copies) copied failed = asks_room true _ (asks_over (ap Ok copied))
table_given rows (Err refusal) copied failed = let is : refusal ≡ Memory = cc in asks_room false _ (asks_over (ap Err is))

module _ {before now : PortPast} {manner : Manner} {whole : Dialog (Result (List Rows) Refusal)} (given : GivenRows) (shapes : List TableTree) (level : Level) (images : List Rows) where
  -- all tables are read
  pub images_done : (reads : List TableRead) → reads ≡ [] → Leads before now manner whole (images_from given shapes level images reads) → Asks before now manner whole (Ok images)
  unfolding images_from
  images_done [] none leads = leads_to leads (asks_over refl)
  images_done (read ∷ reads) none leads = absurd (cc)

  module _ (all : List TableRead) (read : TableRead) (reads : List TableRead) (is : all ≡ read ∷ reads) (leads : Leads before now manner whole (images_from given shapes level images all)) where
    abbrev this : Leads before now manner whole (images_from given shapes level images (read ∷ reads))
    this = subst (λ (l : List TableRead). Leads before now manner whole (images_from given shapes level images l)) is leads

    -- one can't be read
    pub images_failed : {next : PortPast} (refusal : Refusal) → Asks now next manner (reads_table given shapes level read) (Err refusal) → Asks before next manner whole (Err refusal)
    unfolding images_from
    images_failed refusal was = leads_to this (asks_failed (reads_table given shapes level read) (λ rows. with_room Memory (images_from given shapes level (images ++ rows ∷ []) reads)) refusal was)

    -- one is read, and there is no room for it
    pub images_full : {next : PortPast} (rows : Rows) → Asks now next manner (reads_table given shapes level read) (Ok rows) → Asks before next manner whole (Err Memory)
    unfolding images_from
    images_full rows was =
        leads_to this (asks_behind (reads_table given shapes level read) (λ found. with_room Memory (images_from given shapes level (images ++ found ∷ []) reads)) rows (Err Memory) was (asks_room false _ (asks_over refl)))

    -- one is read
    pub images_next : {next : PortPast} (rows : Rows) → Asks now next manner (reads_table given shapes level read) (Ok rows) → Leads before next manner whole (images_from given shapes level (images ++ rows ∷ []) reads)
    unfolding images_from
    images_next rows was =
        front_room true (λ enough. if enough then images_from given shapes level (images ++ rows ∷ []) reads else over (Err Memory))
        (leads_then (reads_table given shapes level read) (on_ok (λ found. with_room Memory (images_from given shapes level (images ++ found ∷ []) reads))) this was)
