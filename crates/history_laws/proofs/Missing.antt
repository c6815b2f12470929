-- Missing does not come for a key whose row the transaction keeps.
use Rattle.std.proofs.Common.{◌≡◌, ℕ, ◌≤◌, Bool, true, false, if◌then◌else◌, List, [], ◌∷◌, ◌++◌, map, take, length, Option, None, Some, is_some, IsTrue, refl, sym, ap, subst, ◌∙◌, append-nil}
use Rattle.std.specs.Prelude.{IsSome}
use Rattle.std.specs.List.{AllByRecursion, flat_map}
use Rattle.std.specs.Cmp.{Equal-is, alike_right}
use Rattle.std.specs.declared.cmp.Ordering.TheVariants.{Equal}
use Rattle.std.proofs.lemmas.List.{map-append}
use Rattle.std.proofs.Math.Seq.{take-length}
use Rattle.lock_modes.specs.declared.KeyPart.TheVariants.{U}
use Rattle.value_types.specs.declared.table_name.TableName.{TableName}
use Rattle.value_types.specs.declared.value.Value.{Value}
use Rattle.value_types.specs.Order.{key_cmp, table_cmp}
use Rattle.step_model.specs.declared.change.Change.{Change}
use Rattle.step_model.specs.declared.change.Planned.{Planned}
use Rattle.step_model.specs.declared.change.Deed.TheVariants.{Erase as Erases, Replace as Replaces, Insert as Inserts}
use Rattle.step_model.specs.declared.manner.Manner.{Manner}
use Rattle.step_model.specs.declared.op.Hold.TheVariants.{Range, Row as RowAlone}
use Rattle.step_model.specs.declared.op.Op.{Op}
use Rattle.step_model.specs.declared.op.Op.TheVariants.{Begin, Fetch, Insert, Replace, Erase, Mark, BackTo}
use Rattle.step_model.specs.declared.reply.Reply.{Reply}
use Rattle.step_model.specs.declared.reply.Reply.TheVariants.{Began, Row, Done, Missing, Marked, Ended, Victim}
use Rattle.step_model.specs.Database.{Database, With, with_change, is_at, nothing}
use Rattle.step_model.specs.Entries.{row_at}
use Rattle.step_model.specs.Exchange.{Exchange}
use Rattle.step_model.specs.Fits.{all_numbers, AnswersIn, NoneEnds, is_ended, KeepsRow, at_of, without_waits, view}
use Rattle.step_model.specs.Log.{Commit as Logged, State}
use Rattle.step_model.specs.Moves.{without_wait}
use Rattle.step_model.specs.Own.{Progress, progress_after, progress_from, progress_of, none_open, change_of}
use Rattle.step_model.specs.State.{Engine, victim_of}
use Rattle.step_model.specs.Step.{Step, write_reply, StepFrom, Hears, told_first}
use Rattle.step_model.specs.declared.edge.Edge.{Edge}
use Rattle.history_laws.specs.Knows.{Accords}
use Rattle.history_laws.specs.Relies.{KeysOf, is_fetch}
use Rattle.history_laws.specs.Sure.{WritesTo}
use Rattle.step_model.specs.declared.resource.Span.{Span}
use Rattle.history_laws.proofs.EntryOrder.{key_cmp_total}
use Rattle.history_laws.proofs.Databases.{With-local, untouched_state}
use Rattle.history_laws.proofs.FitsGrows.{at_below, numbers_behind}
use Rattle.history_laws.proofs.Splits.{none_above}
use Rattle.history_laws.proofs.OwnChanges.{sees}
use Rattle.history_laws.proofs.OwnMore.{keeps_rely}
use Rattle.history_laws.proofs.Tables.{table_same}
use Rattle.step_model.proofs.Databases.{With-append}

-- an exchange that takes no row from the key, as far as it is asked
abbrev pub Spares : TableName → List Value → Op → Reply → Type 0
Spares t x Begin Began = ⊥
Spares t x (BackTo m) Done = ⊥
Spares t x (Erase table key) Done = is_at (record { table = table; key = key; row = None }) t x ≡ false
Spares t x op reply = Unit {0}

abbrev pub SparesAll : TableName → List Value → List Exchange → Type 0
SparesAll t x between = AllByRecursion (λ exchange. Spares t x exchange.op exchange.reply) between

-- one change more
with_one : (db : Database) (own : List Planned) (planned : Planned) (t : TableName) (x : List Value)
    → With db (map change_of (own ++ planned ∷ [])) t x
    ≡ (if is_at (change_of planned) t x then (change_of planned).row else With db (map change_of own) t x)
with_one db own planned t x =
    ap (λ (cs : List Change). With db cs t x) (map-append change_of own (planned ∷ []))
    ∙ ap (λ (d : Database). d t x) (With-append db (map change_of own) (change_of planned ∷ []))

stays_there : (db : Database) (own : List Planned) (planned : Planned) (t : TableName) (x : List Value)
    → (is_at (change_of planned) t x ≡ true → is_some (change_of planned).row ≡ true)
    → IsSome (With db (map change_of own) t x) → IsSome (With db (map change_of (own ++ planned ∷ [])) t x)
stays_there db own planned t x sets there =
    ap is_some (with_one db own planned t x) ∙ by_test (is_at (change_of planned) t x) refl
  where
    by_test : (b : Bool) → is_at (change_of planned) t x ≡ b
        → is_some (if b then (change_of planned).row else With db (map change_of own) t x) ≡ true
    by_test true is = sets is
    by_test false is = there

same_own : (db : Database) (own : List Planned) (t : TableName) (x : List Value)
    → IsSome (With db (map change_of own) t x) → IsSome (With db (map change_of (own ++ [])) t x)
same_own db own t x there = ap (λ (o : List Planned). is_some (With db (map change_of o) t x)) (append-nil own)
    ∙ there

-- a row that is seen is seen after an exchange that spares it
seen_on : (db : Database) (p : Progress) (op : Op) (reply : Reply) (t : TableName) (x : List Value)
    → Spares t x op reply → is_ended reply ≡ false → IsSome (With db (map change_of p.own) t x)
    → IsSome (With db (map change_of (progress_after p op reply).own) t x)
seen_on db p Begin Began t x spares going there = absurd spares
seen_on db p (BackTo m) Done t x spares going there = absurd spares
seen_on db p (Erase table key) Done t x spares going there =
    stays_there db p.own (record {
      table = table;
      key = key;
      deed = Erases;
    }) t x (λ at. absurd (let h : true ≡ false = sym at ∙ spares in cc)) there
seen_on db p (Insert table key row) Done t x spares going there =
    stays_there db p.own (record { table = table; key = key; deed = Inserts row }) t x (λ at. refl) there
seen_on db p (Replace table key row) Done t x spares going there =
    stays_there db p.own (record { table = table; key = key; deed = Replaces row }) t x (λ at. refl) there
seen_on db p Mark (Marked m) t x spares going there = there
seen_on db p op (Ended place) t x spares going there = cc
seen_on db p op reply t x spares going there = same_own db p.own t x there

seen_through : (db : Database) (p : Progress) (between : List Exchange) (t : TableName) (x : List Value)
    → SparesAll t x between → NoneEnds between → IsSome (With db (map change_of p.own) t x)
    → IsSome (With db (map change_of (progress_from p between).own) t x)
seen_through db p [] t x spares going there = there
seen_through db p (exchange ∷ between) t x spares going there =
    seen_through db (progress_after p exchange.op exchange.reply) between t x spares.1 going.1
    (seen_on db p exchange.op exchange.reply t x spares.0 going.0 there)

progress_behind : (p : Progress) (before later : List Exchange) (exchange : Exchange)
    → progress_from p (before ++ exchange ∷ later)
    ≡ progress_from (progress_after (progress_from p before) exchange.op exchange.reply) later
progress_behind p [] later exchange = refl
progress_behind p (e ∷ before) later exchange =
    progress_behind (progress_after p e.op e.reply) before later exchange

-- a database has one row at keys that tie
With-tied : (db : Database) (changes : List Change) (t : TableName) (x y : List Value) → key_cmp x y ≡ Equal
    → db t x ≡ db t y → With db changes t x ≡ With db changes t y
With-tied db [] t x y tied same = same
With-tied db (c ∷ changes) t x y tied same =
    With-tied (with_change db c) changes t x y tied (rw (alike_right key_cmp_total x y c.key tied, same) refl)

State-tied : (log : List Logged) (t : TableName) (x y : List Value) → key_cmp x y ≡ Equal
    → State log t x ≡ State log t y
State-tied log t x y tied = With-tied nothing (flat_map (λ commit. commit.changes) log) t x y tied refl

-- what a kept row's fetch has seen
row_then : (db : Database) (op : Op) (reply : Reply) (between : List Exchange) (t : TableName) (x : List Value)
    → ((y : List Value) → key_cmp x y ≡ Equal → db t x ≡ db t y) → AnswersIn db op reply
    → KeepsRow op reply between t x
    → IsSome (db t x) × ((p : Progress) → (progress_after p op reply).own ≡ p.own)
row_then db (Fetch table start stop Range part) (Row key row at) between t x ties answers (tables, keys) =
    let same : t ≡ table = table_same t table ((Equal-is (table_cmp t table)).0 tables) in (
      ap is_some (ties key ((Equal-is (key_cmp x key)).0 keys) ∙ ap (λ (u : TableName). db u key) same
          ∙ answers.1),
      λ p. append-nil p.own,
    )
row_then db (Fetch table start stop RowAlone U) (Row key row at) between t x ties answers keeps =
    let same : t ≡ table = table_same t table ((Equal-is (table_cmp t table)).0 keeps.0.0) in (
      ap is_some (ties key ((Equal-is (key_cmp x key)).0 keeps.0.1) ∙ ap (λ (u : TableName). db u key) same
          ∙ answers.1),
      λ p. append-nil p.own,
    )
row_then db op reply between t x ties answers keeps = absurd keeps

not_missing : (o : Option (List Value)) → Missing ≡ write_reply o → is_some o ≡ true → ⊥
not_missing None is there = let h : false ≡ true = there in cc
not_missing (Some row) is there = cc

from_missing : (mid new : Engine) (session : ℕ) (op : Op) (manner : Manner) (t : TableName) (x : List Value)
    → StepFrom mid session op manner Missing new → WritesTo op t x
    → Missing ≡ write_reply (row_at session mid.entries t x)
from_missing mid new session (Replace table key row) manner t x step (tables, keys) =
    rw (← tables, ← keys) step.1.0
from_missing mid new session (Erase table key) manner t x step (tables, keys) = rw (← tables, ← keys) step.1.0
from_missing mid new session op manner t x step targets = absurd targets

missing_there : (old new : Engine) (session : ℕ) (op : Op) (manner : Manner) (t : TableName) (x : List Value)
    → Step old session op manner Missing new → WritesTo op t x
    → Missing ≡ write_reply (row_at session (without_wait session old).entries t x)
missing_there old new session op manner t x step targets =
    by_told (told_first op (victim_of session old)) step
  where
    by_told : (told : Option (List Edge)) → Hears told (without_wait session old) session op manner Missing new
        → Missing ≡ write_reply (row_at session (without_wait session old).entries t x)
    by_told None step = from_missing (without_wait session old) new session op manner t x step targets
    by_told (Some cycle) step = absurd (let h : Missing ≡ Victim cycle = step.0 in cc)

pub law_missing : (old new : Engine) (session : ℕ) (steps : List Exchange) (op : Op) (manner : Manner)
    → Accords old session steps → Step old session op manner Missing new → (t : TableName) (x : List Value)
    → WritesTo op t x
    → (before between : List Exchange) (fetch : Exchange) → without_waits steps ≡ before ++ fetch ∷ between
    → NoneEnds between → SparesAll t x between → KeepsRow fetch.op fetch.reply between t x → ⊥
law_missing old new session steps op manner knows step t x targets before between fetch split going spares
    keeps =
    not_missing (row_at session old.entries t x) (missing_there old new session op manner t x step targets)
    (ap is_some (sym (sees old knows.sane session (progress_of (without_waits steps)).own knows.tied.own t x))
    ∙ now_there)
  where
    log : List Logged
    log = old.log

    low : at_of fetch.reply ≤ length old.log
    low = at_below (length old.log) fetch.reply
        (numbers_behind (λ number. number ≤ length old.log) before between fetch
        (subst (λ (es : List Exchange). AllByRecursion (λ number. number ≤ length old.log) (all_numbers es))
        split (none_above 0 (length old.log) (all_numbers (without_waits steps)) knows.fits.numbers).1)).0

    rely : (span : Span) × KeysOf fetch.op fetch.reply between span t x × IsTrue (is_fetch fetch.op)
    rely = keeps_rely fetch.op fetch.reply between t x keeps

    unchanged : State old.log t x ≡ State (take (at_of fetch.reply) old.log) t x
    unchanged = ap (λ (l : List Logged). State l t x) (sym (take-length old.log))
        ∙ untouched_state old.log (at_of fetch.reply) (length old.log) t x
        (knows.tied.steady before fetch between split going rely.2 rely.0 t x rely.1) low

    then_seen : IsSome (view old.log (at_of fetch.reply) before t x)
        × ((p : Progress) → (progress_after p fetch.op fetch.reply).own ≡ p.own)
    then_seen = row_then (view old.log (at_of fetch.reply) before) fetch.op fetch.reply between t x
        (λ y tied. With-tied (State (take (at_of fetch.reply) old.log))
        (map change_of (progress_of before).own) t x y tied
        (State-tied (take (at_of fetch.reply) old.log) t x y tied))
        (knows.fits.fetches before fetch between split) keeps

    at_fetch : IsSome
        (With (State old.log) (map change_of (progress_after (progress_of before) fetch.op fetch.reply).own) t
        x)
    at_fetch =
        ap is_some (ap (λ (own : List Planned). With (State old.log) (map change_of own) t x)
        (then_seen.1 (progress_of before))
        ∙ With-local (State old.log) (State (take (at_of fetch.reply) old.log))
        (map change_of (progress_of before).own) t x unchanged)
        ∙ then_seen.0

    now_there : IsSome (With (State old.log) (map change_of (progress_of (without_waits steps)).own) t x)
    now_there =
        subst (λ (es : List Exchange). IsSome (With (State old.log) (map change_of (progress_of es).own) t x))
        (sym split)
        (subst (λ (p : Progress). IsSome (With (State old.log) (map change_of p.own) t x))
        (sym (progress_behind none_open before between fetch))
        (seen_through (State old.log) (progress_after (progress_of before) fetch.op fetch.reply) between t x
        spares going at_fetch))
