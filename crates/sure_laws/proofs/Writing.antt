-- Changes that are asked: each that replaces or erases is of a row that is sure, and none is erased before.
use Rattle.std.proofs.Common.{◌≡◌, Bool, true, false, if◌then◌else◌, List, [], ◌∷◌, ◌++◌, Result, Ok, Err, refl}
use Rattle.std.specs.List.{AllByRecursion}
use Rattle.value_types.specs.declared.table_name.TableName.{TableName}
use Rattle.value_types.specs.declared.value.Value.{Value}
use Rattle.tsql_tree.specs.declared.definition.TableTree.{TableTree}
use Rattle.step_model.specs.declared.change.Deed.{Deed}
use Rattle.step_model.specs.declared.change.Deed.TheVariants as deed
use Rattle.step_model.specs.declared.change.Planned.{Planned}
use Rattle.step_model.specs.declared.manner.Manner.{Manner}
use Rattle.step_model.specs.declared.op.Op.{Op}
use Rattle.step_model.specs.declared.op.Op.TheVariants as ops
use Rattle.step_model.specs.declared.reply.Reply.{Reply}
use Rattle.step_model.specs.declared.reply.Reply.TheVariants as replies
use Rattle.step_model.specs.declared.resource.Span.{Span}
use Rattle.step_model.specs.Database.{is_at}
use Rattle.step_model.specs.Dialog as said
use Rattle.step_model.specs.Exchange.{Exchange}
use Rattle.step_model.specs.Own.{change_of, is_insert, is_own}
use Rattle.step_model.specs.Sure.{LeavesSure}
use Rattle.index_laws.proofs.Behind.{all_both}
use Rattle.dml_exec.specs.declared.refusal.Refusal.TheVariants.{Memory}
use Rattle.dml_exec.specs.Asking.{on_ok, with_room}
use Rattle.dml_exec.specs.Planning.{as_found, as_told, is_asked, unless_there}
use Rattle.dml_exec.specs.Writing.{asks_deed, done_by, no_room, present, writes_all, writes_one}
use Rattle.sure_laws.specs.Asked.{AsksSure, IsSureAt}
use Rattle.sure_laws.proofs.Sures.{Any, SaysSure, says_then, stays_sure, sure_behind, with_one}

-- ---- changes

-- one that replaces or erases
abbrev pub Takes : Planned → Type 0
Takes change = is_insert change.deed ≡ false

-- it does not erase the row of another
abbrev pub Spares : Planned → Planned → Type 0
Spares change other = Takes change → Takes other → is_at (change_of change) other.table other.key ≡ false

-- none does of one behind it
abbrev pub AreSpared : List Planned → Type 0
AreSpared [] = Unit {0}
AreSpared (change ∷ changes) = AllByRecursion (Spares change) changes × AreSpared changes

-- the operation of a change
abbrev pub op_for : TableName → List Value → Deed → Op
op_for table key deed.Erase = ops.Erase table key
op_for table key (deed.Replace row) = ops.Replace table key row
op_for table key (deed.Insert row) = ops.Insert table key row

module _ (manner : Manner) where
  -- the rows that are replaced and erased are sure
  abbrev pub AreReady : List Exchange → List Planned → Type 0
  AreReady before changes = AllByRecursion (λ change. Takes change → IsSureAt (sure_behind manner before) change.table change.key) changes

  -- an operation that leaves sure what is replaced and erased
  abbrev Leaves : Op → List Planned → Type 0
  Leaves op changes = AllByRecursion (λ change. Takes change → (span : Span) → LeavesSure op span change.table change.key) changes

  pub ready_on : (before : List Exchange) (op : Op) (reply : Reply) (changes : List Planned) → Leaves op changes → AreReady before changes → AreReady (with_one manner before op reply) changes
  ready_on before op reply [] leaves ready = tt
  ready_on before op reply (change ∷ changes) leaves ready = (
    (λ takes. let was = ready.0 takes in (was.0, stays_sure manner before op reply was.0 change.table change.key was.1 (leaves.0 takes was.0))),
    ready_on before op reply changes leaves.1 ready.1,
  )

  -- what leaves everything sure
  leaves_all : (op : Op) (changes : List Planned) → ((span : Span) (t : TableName) (x : List Value) → LeavesSure op span t x) → Leaves op changes
  leaves_all op [] on = tt
  leaves_all op (change ∷ changes) on = ((λ takes span. on span change.table change.key), leaves_all op changes on)

  deed_leaves : (table : TableName) (key : List Value) (deed : Deed) (changes : List Planned) → AllByRecursion (Spares (record { table = table; key = key; deed = deed })) changes → Leaves (op_for table key deed) changes
  deed_leaves table key deed.Erase [] spared = tt
  deed_leaves table key deed.Erase (change ∷ changes) spared = ((λ takes span. spared.0 refl takes), deed_leaves table key deed.Erase changes spared.1)
  deed_leaves table key (deed.Replace row) changes spared = leaves_all (ops.Replace table key row) changes (λ span t x. tt)
  deed_leaves table key (deed.Insert row) changes spared = leaves_all (ops.Insert table key row) changes (λ span t x. tt)

  deed_asks : (before : List Exchange) (table : TableName) (key : List Value) (deed : Deed) → (is_insert deed ≡ false → IsSureAt (sure_behind manner before) table key) → AsksSure (sure_behind manner before) (op_for table key deed)
  deed_asks before table key deed.Erase sure = sure refl
  deed_asks before table key (deed.Replace row) sure = sure refl
  deed_asks before table key (deed.Insert row) sure = tt

  -- a change is asked
  says_tried : (before : List Exchange) (op : Op) (quiet : said.IsQuiet op) (changes : List Planned) → AsksSure (sure_behind manner before) op → Leaves op changes → AreReady before changes
      → SaysSure manner (λ (reply : Reply) behind. AreReady behind changes) before (said.tries op quiet said.over)
  unfolding said.tries
  says_tried before op quiet changes sure leaves ready = by_room
    where
      by_room : (enough : Bool) → SaysSure manner (λ (reply : Reply) behind. AreReady behind changes) before (if enough then said.asks op quiet said.over else said.over replies.Memory)
      by_room true = (sure, λ reply can of. ready_on before op reply changes leaves ready)
      by_room false = ready

  says_deed : (before : List Exchange) (table : TableName) (key : List Value) (deed : Deed) (changes : List Planned) → (is_insert deed ≡ false → IsSureAt (sure_behind manner before) table key)
      → AllByRecursion (Spares (record { table = table; key = key; deed = deed })) changes → AreReady before changes → SaysSure manner (λ (reply : Reply) behind. AreReady behind changes) before (asks_deed table key deed)
  says_deed before table key deed.Erase changes sure spared ready = says_tried before (ops.Erase table key) tt changes (sure refl) (deed_leaves table key deed.Erase changes spared) ready
  says_deed before table key (deed.Replace row) changes sure spared ready = says_tried before (ops.Replace table key row) tt changes (sure refl) (deed_leaves table key (deed.Replace row) changes spared) ready
  says_deed before table key (deed.Insert row) changes sure spared ready = says_tried before (ops.Insert table key row) tt changes tt (deed_leaves table key (deed.Insert row) changes spared) ready

  module _ (shapes : List TableTree) where
    says_done : (before : List Exchange) (change : Planned) (reply : Reply) (Post : List Exchange → Type 0) → Post before → SaysSure manner (λ (came : Result (Unit {0}) _) behind. Post behind) before (done_by shapes change reply)
    says_done before change replies.Exists Post holds = by_own (is_own change)
      where
        by_room : (enough : Bool) → SaysSure manner (λ (came : Result (Unit {0}) _) behind. Post behind) before (if enough then said.over (Err (present shapes change.table change.key)) else said.over (Err no_room))
        by_room true = holds
        by_room false = holds

        by_own : (own : Bool) → SaysSure manner (λ (came : Result (Unit {0}) _) behind. Post behind) before (if own then with_room no_room (said.over (Err (present shapes change.table change.key))) else said.over (Ok tt))
        by_own true = by_room
        by_own false = holds
    says_done before change replies.Done Post holds = holds
    says_done before change replies.Missing Post holds = holds
    says_done before change replies.Memory Post holds = holds
    says_done before change (replies.TimedOut holder held asked on) Post holds = holds
    says_done before change (replies.Victim cycle) Post holds = holds
    says_done before change reply Post holds = tt

    behind_one : (changes : List Planned) → ((before : List Exchange) → AreReady before changes → SaysSure manner Any before (writes_all shapes changes)) → (came : Result (Unit {0}) _) (behind : List Exchange) → AreReady behind changes
        → SaysSure manner Any behind (on_ok (λ done. writes_all shapes changes) came)
    behind_one changes rest (Ok done) behind now = rest behind now
    behind_one changes rest (Err why) behind now = tt

    -- one after another
    pub says_writes : (before : List Exchange) (changes : List Planned) → AreSpared changes → AreReady before changes → SaysSure manner Any before (writes_all shapes changes)
    unfolding writes_all writes_one
    says_writes before [] spared ready = tt
    says_writes before (change ∷ changes) spared ready =
        says_then manner (λ (came : Result (Unit {0}) _) behind. AreReady behind changes) Any before (writes_one shapes change) (on_ok (λ done. writes_all shapes changes))
        (says_then manner (λ (reply : Reply) behind. AreReady behind changes) (λ (came : Result (Unit {0}) _) behind. AreReady behind changes) before (asks_deed change.table change.key change.deed) (done_by shapes change)
        (says_deed before change.table change.key change.deed changes ready.0 spared.0 ready.1) (λ reply behind now. says_done behind change reply (λ behind. AreReady behind changes) now))
        (behind_one changes (λ before now. says_writes before changes spared.1 now))

-- ---- as they were found

-- of what is asked as it was found
pub found_all : (P : Planned → Type 0) (changes : List Planned) (found : List Bool) → ((change : Planned) (row : List Value) → P (record { table = change.table; key = change.key; deed = deed.Insert row })) → AllByRecursion P changes → AllByRecursion P (as_found changes found)
found_all P [] found inserts all = tt
found_all P (change ∷ changes) [] inserts all = all
found_all P (change ∷ changes) (there ∷ found) inserts all = by_test (is_asked change) there (found_all P changes found inserts all.1) (found_all P changes (there ∷ found) inserts all.1)
  where
    by_deed : (deed : Deed) → P change → AllByRecursion P (unless_there change deed)
    by_deed deed.Erase here = tt
    by_deed (deed.Replace row) here = (inserts change row, tt)
    by_deed (deed.Insert row) here = (here, tt)

    by_told : (there : Bool) → AllByRecursion P (as_told there change)
    by_told true = (all.0, tt)
    by_told false = by_deed change.deed all.0

    by_test : (b there : Bool) → AllByRecursion P (as_found changes found) → AllByRecursion P (as_found changes (there ∷ found)) → AllByRecursion P (if b then as_told there change ++ as_found changes found else change ∷ as_found changes (there ∷ found))
    by_test true there rest on = all_both P (as_told there change) (as_found changes found) (by_told there) rest
    by_test false there rest on = (all.0, on)

insert_spared : (change other : Planned) (row : List Value) → Spares change (record { table = other.table; key = other.key; deed = deed.Insert row })
insert_spared change other row takes inserts = absurd (let no : true ≡ false = inserts in cc)

none_taken : (table : TableName) (key row : List Value) (rest : List Planned) → AllByRecursion (Spares (record { table = table; key = key; deed = deed.Insert row })) rest
none_taken table key row [] = tt
none_taken table key row (other ∷ rest) = ((λ inserts takes. absurd (let no : true ≡ false = inserts in cc)), none_taken table key row rest)

spared_behind : (change : Planned) (changes : List Planned) (found : List Bool) → AllByRecursion (Spares change) changes → AllByRecursion (Spares change) (as_found changes found)
spared_behind change changes found all = found_all (Spares change) changes found (λ other row. insert_spared change other row) all

-- so none erases the row of one behind it there
pub found_spared : (changes : List Planned) (found : List Bool) → AreSpared changes → AreSpared (as_found changes found)
found_spared [] found spared = tt
found_spared (change ∷ changes) [] spared = spared
found_spared (change ∷ changes) (there ∷ found) spared = by_test (is_asked change) there (found_spared changes found spared.1) (found_spared changes (there ∷ found) spared.1)
  where
    by_deed : (deed : Deed) → AreSpared (as_found changes found) → change.deed ≡ deed → AreSpared (unless_there change deed ++ as_found changes found)
    by_deed deed.Erase rest is = rest
    by_deed (deed.Replace row) rest is = (none_taken change.table change.key row (as_found changes found), rest)
    by_deed (deed.Insert row) rest is = (spared_behind change changes found spared.0, rest)

    by_told : (there : Bool) → AreSpared (as_found changes found) → AreSpared (as_told there change ++ as_found changes found)
    by_told true rest = (spared_behind change changes found spared.0, rest)
    by_told false rest = by_deed change.deed rest refl

    by_test : (b there : Bool) → AreSpared (as_found changes found) → AreSpared (as_found changes (there ∷ found)) → AreSpared (if b then as_told there change ++ as_found changes found else change ∷ as_found changes (there ∷ found))
    by_test true there rest on = by_told there rest
    by_test false there rest on = (spared_behind change changes (there ∷ found) spared.0, on)
