-- What a write and DROP ask keeps what stands: they plan on what they have read in the database at their transaction's place.
use Rattle.std.proofs.Common.{◌≡◌, ℕ, Bool, true, false, if◌then◌else◌, List, [], ◌∷◌, ◌++◌, length, Option, Some, None, Result, Ok, Err, refl, sym, ap, subst, ◌∙◌, append-nil, append_assoc}
use Rattle.std.specs.Prelude.{nat_lt}
use Rattle.std.specs.Option.{ForSome}
use Rattle.tsql_tree.specs.declared.definition.Definition.{Definition}
use Rattle.value_types.specs.declared.table_name.TableName.{TableName}
use Rattle.value_types.specs.declared.value.Value.{Value}
use Rattle.tsql_tree.specs.declared.definition.TableTree.{TableTree}
use Rattle.tsql_tree.specs.declared.definition.TriggerTree.{TriggerTree}
use Rattle.tsql_tree.specs.Places.{key_places}
use Rattle.bound_tree.specs.declared.write.Bound.{Bound}
use Rattle.bound_tree.specs.declared.write.Bound.TheVariants as bound
use Rattle.bound_tree.specs.declared.write.BoundWrite.{BoundWrite}
use Rattle.step_model.specs.declared.change.Planned.{Planned}
use Rattle.step_model.specs.declared.manner.Manner.{Manner}
use Rattle.step_model.specs.Database.{Database}
use Rattle.step_model.specs.Dialog.{Held as Said}
use Rattle.step_model.specs.Exchange.{CanReply, Exchange}
use Rattle.step_model.specs.Log.{Commit as Logged}
use Rattle.step_model.specs.Ranges.{Rows, no_memory}
use Rattle.constraint_check.specs.Laws.{KeysAreOne, behind}
use Rattle.constraint_check.specs.Reads.{all_rows}
use Rattle.constraint_check.proofs.Lists.{all_more}
use Rattle.table_rows.specs.Definitions.{tables_of}
use Rattle.table_rows.specs.Rows.{rows_table, shape_of}
use Rattle.dml_exec.specs.declared.rewritten.Rewritten.{Rewritten}
use Rattle.dml_exec.specs.declared.refusal.Level.{Level}
use Rattle.dml_exec.specs.declared.refusal.Level.TheVariants.{Serializable}
use Rattle.dml_exec.specs.declared.refusal.Refusal.{Refusal}
use Rattle.dml_exec.specs.Planning.{all_changes, table_written}
use Rattle.dml_exec.specs.Reading.{GivenRows, TableRead, fetches_any, fits, images_of, none_given, reads_of}
use Rattle.dml_exec.proofs.ReadTables.{target_whole}
use Rattle.write_laws.specs.Planning.{HaveColumns, rows_before}
use Rattle.write_laws.proofs.TargetImages.{rows_read}
use Rattle.statement_paths.specs.Asked.{AskOnly, IsFetch}
use Rattle.write_laws.specs.Reads.{AreImages, IsRead, KeysHave, at_place}
use Rattle.write_laws.proofs.Images.{images_fetch, images_read}
use Rattle.batch_meaning.specs.declared.failure.Failure.{Failure}
use Rattle.batch_meaning.specs.Raised.{Around, Fired}
use Rattle.batch_meaning.specs.Asking.{applies, comes_to, fails, reads_at, reads_definitions, reads_images, touches_if, unless_stopped, with_room, ◌>>=◌, ◌gives◌}
use Rattle.batch_meaning.specs.Changing.{definition_erased, dropped, planned_over, told_by, unless_referred, whole}
use Rattle.batch_meaning.specs.Doing.{Doing, over, reads, Held}
use Rattle.batch_meaning.specs.Failures.{plain}
use Rattle.batch_meaning.specs.Progress.{SessionProgress, size_of, system_in, values_of}
use Rattle.batch_meaning.specs.Selecting.{Effect, no_effect, result_full}
use Rattle.batch_meaning.specs.Tokens.{done_kind}
use Rattle.batch_meaning.specs.Working.{given_in, if_it_fits}
use Rattle.batch_meaning.specs.Writes.{Written, changes, drops_definition, drops_table, fired_by, fires_of, shape_or}
use Rattle.statement_paths.proofs.Apart.{comes_apart, gives_apart, room_apart}
use Rattle.statement_paths.proofs.Looking.{definitions_apart, definitions_read, ok_same}
use Rattle.statement_paths.proofs.Only.{AnyStep, IsTouch, only_comes, only_if, only_room}
use Rattle.statement_paths.proofs.Still.{Reads}
use Rattle.statement_paths.proofs.Working.{at_level_reads, images_read as images_fetched}
use Rattle.write_laws.specs.Attempted.{IsToldPlan}
use Rattle.write_laws.specs.Checking.{HasParts}
use Rattle.write_laws.specs.Keeping.{AreDefinitions, IsNoTable, tests_of}
use Rattle.write_laws.specs.Indexed.{Indexed, own_rows}
use Rattle.write_laws.specs.Plans.{IsDropPlanned, IsPlanned}
use Rattle.write_laws.specs.Sound.{IsTableOf}
use Rattle.write_laws.specs.Told.{TargetTold}
use Rattle.write_laws.proofs.Changes.{all_both}
use Rattle.write_laws.proofs.Checking.{has_parts}
use Rattle.write_laws.proofs.DropParts.{drop_told, indexed_drop_planned}
use Rattle.write_laws.proofs.Drops.{firm_drop_planned}
use Rattle.write_laws.proofs.Erased.{firm_erased}
use Rattle.write_laws.proofs.Indexed.{indexed_erased}
use Rattle.write_laws.proofs.KeySizes.{keys_sized}
use Rattle.write_laws.proofs.Owned.{firm_behind, firm_own, passes_behind, read_own, rows_behind, tables_behind}
use Rattle.write_laws.proofs.Parts.{one_place}
use Rattle.write_laws.proofs.PlannedWrites.{chg, firm_planned, plan as plan_written, planned_readable, shape as shape_written, table_is}
use Rattle.write_laws.proofs.Rewrites.{planned_of}
use Rattle.write_laws.proofs.Taken.{plan_taken}
use Rattle.write_laws.proofs.Told.{targets_read}
use Rattle.sound_laws.specs.Stands.{Intact, Brings, Stands}
use Rattle.sound_laws.specs.Tied.{Tied}
use Rattle.sound_laws.proofs.Defined.{definitions_hold}
use Rattle.sound_laws.proofs.Bringing.{brings_bind, brings_mono, brings_over, brings_room}
use Rattle.sound_laws.proofs.Targets.{IsTarget, shape_itself}
use Rattle.sound_laws.proofs.Steps.{IsStill}
use Rattle.sound_laws.proofs.Trees.{StandsBy, StandsWith, WritesNothing, fetch_place, front_place, reads_bind, reads_bind_by}
use Rattle.sound_laws.proofs.Writing.{MayChange, MayWrite, applies_when, changes_when}

pub fits_still : (effect : Effect) → WritesNothing (if_it_fits effect)
unfolding if_it_fits
fits_still effect = λ p. only_if AnyStep IsStill (nat_lt p.bytes_left (size_of effect.tokens)) (fails result_full) (over (Ok effect)) tt tt

fits_fetch : (effect : Effect) → Reads (if_it_fits effect)
unfolding if_it_fits
fits_fetch effect = λ p. only_if IsTouch IsFetch (nat_lt p.bytes_left (size_of effect.tokens)) (fails result_full) (over (Ok effect)) tt tt

-- ---- images

-- where there are tables they were read, but for those whose rows are given
abbrev WereRead : Manner → GivenRows → Level → List Value → List TableTree → Bound → List Exchange → List Rows → Type 0
WereRead manner given level vars [] of exchanges images = Unit {0}
WereRead manner given level vars (shape ∷ shapes) of exchanges images = Said manner (images_of given (shape ∷ shapes) level vars of) exchanges (Ok images)

image_apart : (given : GivenRows) (level : Level) (vars : List Value) (shapes : List TableTree) (of : Bound) (p new : SessionProgress) (exchanges : List Exchange) (images : List Rows) → Held (reads_at given level vars shapes of) p exchanges (Ok images) new → WereRead p.settings.manner given level vars shapes of exchanges images
unfolding reads_at Held
image_apart given level vars [] of p new exchanges images held = tt
image_apart given level vars (shape ∷ shapes) of p new exchanges images held = by_touch (fetches_any given of) held
  where
    Reading : Doing (Result (List Rows) Failure)
    Reading = images_of given (shape ∷ shapes) level vars of gives unless_stopped

    by_came : (p : SessionProgress) (front back : List Exchange) (came : Result (List Rows) Refusal) (mid : SessionProgress) → exchanges ≡ front ++ back → Said p.settings.manner (images_of given (shape ∷ shapes) level vars of) front came → Held (unless_stopped came) mid back (Ok images) new
        → Said p.settings.manner (images_of given (shape ∷ shapes) level vars of) exchanges (Ok images)
    by_came p front back (Ok rows) mid parts was rest =
        subst (λ (l : List Exchange). Said p.settings.manner (images_of given (shape ∷ shapes) level vars of) l (Ok images)) (sym (parts ∙ ap (λ (l : List Exchange). front ++ l) rest.0 ∙ append-nil front))
        (subst (λ (r : List Rows). Said p.settings.manner (images_of given (shape ∷ shapes) level vars of) front (Ok r)) (sym (ok_same {E = Failure} images rows rest.1)) was)
    by_came p front back (Err why) mid parts was rest = absurd (let no : Ok images ≡ Err _ = rest.1 in cc)

    by_gives : (q : SessionProgress) → Held Reading q exchanges (Ok images) new → Said q.settings.manner (images_of given (shape ∷ shapes) level vars of) exchanges (Ok images)
    by_gives q held = let on = gives_apart (images_of given (shape ∷ shapes) level vars of) unless_stopped q new exchanges (Ok images) held in by_came q on.front on.back on.came _ on.parts on.held on.rest

    by_touch : (b : Bool) → Held (touches_if b Reading) p exchanges (Ok images) new → Said p.settings.manner (images_of given (shape ∷ shapes) level vars of) exchanges (Ok images)
    by_touch true held = by_gives (record p { touched = true }) held
    by_touch false held = by_gives p held

-- the rows of a table that is written have its columns
abbrev HaveAll : List TableTree → BoundWrite → List Rows → Type 0
HaveAll shapes write images = (shape : TableTree) → shape_of (table_written write) shapes ≡ Some shape → HaveColumns shape (rows_before write images)

-- they are not given
none_columns : (shape : TableTree) (given : Option Rows) → given ≡ None → ForSome given (HaveColumns shape)
none_columns shape given none = λ rows is. absurd (let no : None ≡ Some rows = sym none ∙ is in cc)

all_columns : (manner : Manner) (given : GivenRows) (level : Level) (vars : List Value) (shapes : List TableTree) (write : BoundWrite) (exchanges : List Exchange) (images : List Rows) → ((shape : TableTree) → shape_of (table_written write) shapes ≡ Some shape → given (table_written write) ≡ None)
    → WereRead manner given level vars shapes (bound.Write write) exchanges images → HaveAll shapes write images
all_columns manner given level vars [] write exchanges images none was shape known = absurd (let no : None ≡ Some shape = known in cc)
all_columns manner given level vars (one ∷ shapes) write exchanges images none was shape known = rows_read given (one ∷ shapes) level vars write shape manner exchanges images known (none_columns shape (given (table_written write)) (none shape known)) was

-- the rows of a table that is dropped are one image
abbrev IsImage : Database → Option TableTree → List ℕ → List Rows → Type 0
IsImage db found name images = (rows : Rows) × (images ≡ rows ∷ []) × IsRead db (fits found 0) (all_rows name) rows

one_image : (db : Database) (named : List TableTree) (name : List ℕ) (images : List Rows) → AreImages none_given db named (reads_of [] named (bound.Write (whole name))) images → IsImage db (shape_of (rows_table name) named) name images
one_image db named name images (rows, rest, is, read, none) = (
  rows,
  is ∙ ap (λ (rest : List Rows). rows ∷ rest) none,
  subst (λ (target : TableRead). IsRead db (fits (shape_of target.0.table named) 0) target.0 rows) (target_whole [] named (rows_table name)) read,
)

-- ---- what was told

-- So it was told among the exchanges so far, and behind that only fetches came.
record ToldIn (Tells : List Exchange → Type 0) (before : List Exchange) : Type 0 where
  pub front : List Exchange
  pub reads : List Exchange
  pub between : List Exchange
  pub split : before ≡ front ++ (reads ++ between)
  pub reads_fetch : AskOnly IsFetch reads
  pub between_fetch : AskOnly IsFetch between
  pub tells : Tells reads

told_last : (Tells : List Exchange → Type 0) (before part : List Exchange) → AskOnly IsFetch part → Tells part → ToldIn Tells (before ++ part)
told_last Tells before part fetches tells =
    record { front = before; reads = part; between = []; split = ap (λ (xs : List Exchange). before ++ xs) (sym (append-nil part)); reads_fetch = fetches; between_fetch = tt; tells = tells }

-- it stays so behind more fetches
more_split : (front fetched between part before : List Exchange) → before ≡ front ++ (fetched ++ between) → before ++ part ≡ front ++ (fetched ++ (between ++ part))
more_split front fetched between part before is =
    ap (λ (xs : List Exchange). xs ++ part) is ∙ append_assoc front (fetched ++ between) part ∙ ap (λ (xs : List Exchange). front ++ xs) (append_assoc fetched between part)

abbrev IsFetched : Exchange → Type 0
IsFetched x = IsFetch x.op × CanReply x.op x.reply

plan_on : (before part : List Exchange) (level : Level) (shape : TableTree) (planned : List Planned) → AskOnly IsFetch part → (told : IsToldPlan before level shape planned) → (more : IsToldPlan (before ++ part) level shape planned) × (more.rows ≡ told.rows)
plan_on before part level shape planned fetches told = (
  record {
    rows = told.rows;
    more = told.more;
    plans = told.plans;
    own = told.own;
    front = told.front;
    reads = told.reads;
    between = told.between ++ part;
    split = more_split told.front told.reads told.between part before told.split;
    reads_fetch = told.reads_fetch;
    between_fetch = all_both IsFetched told.between part told.between_fetch fetches;
    taken = told.taken;
  },
  refl,
)

module _ (session : ℕ) (begin log : List Logged) (mine : List Exchange) (tied : Tied session begin log mine) where
  -- changes that may be made may be behind more fetches
  change_on : (before part later : List Exchange) (shapes : List TableTree) (planned : List Planned) → AskOnly IsFetch part → MayChange before (at_place log before (part ++ later)) shapes planned
      → MayChange (before ++ part) (at_place log (before ++ part) later) shapes planned
  change_on before part later shapes planned fetches may =
      let on = plan_on before part may.level may.shape planned fetches may.told in
      subst (λ (db : Database). MayChange (before ++ part) db shapes planned) (sym (fetch_place log before part later fetches)) (record {
        level = may.level;
        shape = may.shape;
        told = on.0;
        defined = may.defined;
        can = may.can;
        firm = may.firm;
        indexed = λ rows. may.indexed (subst (λ (of : Rewritten). Indexed (behind (at_place log before (part ++ later)) (all_changes (rows_table may.shape.name) may.shape of))) on.1 rows);
      })

  -- that was read in the database at the transaction's place
  whole_read : (before part later : List Exchange) (manner : Manner) (shape : TableTree) (images : List Rows) → mine ≡ before ++ (part ++ later)
      → WereRead manner none_given Serializable [] (shape ∷ []) (bound.Write (whole shape.name)) part images → KeysHave (length (key_places (Some shape))) (at_place log before (part ++ later)) (rows_table shape.name)
      → IsImage (at_place log before (part ++ later)) (Some shape) shape.name images
  whole_read before part later manner shape images is was long =
      let fetches : AskOnly IsFetch part = images_fetch manner none_given (shape ∷ []) Serializable [] (bound.Write (whole shape.name)) part (Ok images) was in
      let there : at_place log before (part ++ later) ≡ at_place log before later = front_place log before part later fetches in
      let image = images_read log mine before part later manner none_given (shape ∷ []) [] (bound.Write (whole shape.name)) images is tied.ranges was
      (subst (λ (o : Option TableTree). KeysHave (length (key_places o)) (at_place log before later) (rows_table shape.name)) (sym itself) (subst (λ (db : Database). KeysHave (length (key_places (Some shape))) db (rows_table shape.name)) there long), tt) in
      subst (λ (o : Option TableTree). IsImage (at_place log before (part ++ later)) o shape.name images) itself
      (subst (λ (db : Database). IsImage db (shape_of (rows_table shape.name) (shape ∷ [])) shape.name images) (sym there) (one_image (at_place log before later) (shape ∷ []) shape.name images image))
    where
      itself : shape_of (rows_table shape.name) (shape ∷ []) ≡ Some shape
      itself = shape_itself shape

  -- ---- what is read for both

  all_defined : (before part later : List Exchange) (p new : SessionProgress) (definitions : List Definition) → mine ≡ before ++ (part ++ later) → Held reads_definitions p part (Ok definitions) new
      → Intact (at_place log before (part ++ later)) → AreDefinitions (own_rows (at_place log before (part ++ later))) definitions
  all_defined before part later p new definitions is held intact =
      definitions_hold log mine before part later p.settings.manner definitions tied.ranges is (definitions_apart p.settings.manner p new part definitions refl held) intact.firm

  -- ---- a write

  module _ (around : Around) (shape : TableTree) (shapes : List TableTree) (write : BoundWrite) where
    abbrev Done : Result Written Failure → List Exchange → List Exchange → Type 0
    Done result = Stands log

    abbrev named : List TableTree
    named = shape ∷ shapes

    abbrev given : GivenRows
    given = given_in around.fired

    abbrev MayPut : List Definition → List Planned → List Exchange → List Exchange → Type 0
    MayPut definitions planned before later = MayChange before (at_place log before later) (tables_of definitions) planned

    -- the rows of its target were told, on which it is planned
    abbrev TellsRows : List Rows → List Exchange → Type 0
    TellsRows images part = (level : Level) × (vars : List Value) × ((of : TableTree) → shape_of (table_written write) named ≡ Some of → TargetTold vars named level write part images)

    -- the table that is written, and all definitions
    abbrev Known : List Definition → Database → Type 0
    Known definitions db = IsTarget around named write db × AreDefinitions (own_rows db) definitions

    may_write : (definitions : List Definition) (images : List Rows) (planned : List Planned) (p : SessionProgress) (before : List Exchange) (db : Database) → Intact db → Known definitions db → HaveAll named write images → ToldIn (TellsRows images) before
        → planned_over around p named write images ≡ Ok planned → MayChange before db (tables_of definitions) planned
    may_write definitions images planned p before db intact known columns told plans =
        let plan : IsPlanned around p (own_rows db) named write images planned = record { defined = λ of found. (known.0 of found).0; read = columns; plans = plans } in
        let readable = planned_readable around p (own_rows db) (tables_of definitions) named write images planned intact.firm known.1.tables plan in
        let of : TableTree = shape_written around p (own_rows db) named write images planned intact.firm plan in
        let found : shape_of (table_written write) named ≡ Some of = (plan_written around p (own_rows db) named write images planned intact.firm plan).1 in
        let rows = planned_of (values_of p.vars) (system_in around p) of (tests_of of) write images planned (chg around p (own_rows db) named write images planned intact.firm plan) in
        let plan_is : planned ≡ all_changes (rows_table of.name) of rows.rows = rows.changes ∙ ap (λ (t : TableName). all_changes t of rows.rows) (table_is around p (own_rows db) named write images planned intact.firm plan) in
        record {
          level = told.tells.0;
          shape = of;
          told = record {
            rows = rows.rows;
            more = [];
            plans = plan_is ∙ sym (append-nil (all_changes (rows_table of.name) of rows.rows));
            own = tt;
            front = told.front;
            reads = told.reads;
            between = told.between;
            split = told.split;
            reads_fetch = told.reads_fetch;
            between_fetch = told.between_fetch;
            taken = plan_taken told.tells.1 named told.tells.0 of write images planned told.reads found rows (told.tells.2 of found);
          };
          defined = (known.0 of found).0;
          can = λ indexed. record {
            each = readable.each;
            rows = rows_behind db planned (tables_of definitions) readable.rows;
            parts = all_more (IsTableOf (behind db planned)) (HasParts (behind db planned)) (λ of is. has_parts (behind db planned) of indexed is) (tables_of definitions) (tables_behind db planned (tables_of definitions) readable.defined);
            parents = readable.parents;
          };
          firm = λ passes. firm_behind db planned (firm_planned around p (own_rows db) (tables_of definitions) named write images planned intact.firm known.1.tables plan (passes_behind db planned (tables_of definitions) passes));
          indexed = λ behind_rows. subst (λ (list : List Planned). Indexed (behind db list)) (sym plan_is) behind_rows;
        }

    abbrev Applying : List Definition → List Planned → Effect → List TriggerTree → Fired → Doing (Result Written Failure)
    Applying definitions planned fitting fires fired = with_room (applies (tables_of definitions) planned) >>= λ mark. over (Ok (record { effect = fitting; mark = mark; fires = fires; fired = fired }))

    abbrev Seeing : List Rows → List Planned → Doing (Result Fired Failure)
    Seeing images planned = comes_to (Ok (fired_by (shape_or shape (shape_of (table_written write) named)) write images planned))

    abbrev Firing : List Definition → Doing (Result (List TriggerTree) Failure)
    Firing definitions = comes_to (Ok (fires_of around definitions write))

    abbrev Telling : List Planned → Doing (Result Effect Failure)
    Telling planned = reads λ p. comes_to (Ok (told_by (done_kind around) p.settings.no_count write planned))

    abbrev Planning : List Rows → Doing (Result (List Planned) Failure)
    Planning images = reads λ p. comes_to (planned_over around p named write images)

    abbrev Reading : Doing (Result (List Rows) Failure)
    Reading = reads_images given named (bound.Write write)

    put_last : (definitions : List Definition) (planned : List Planned) (fitting : Effect) (fires : List TriggerTree) (fired : Fired) → Brings log mine (StandsBy log (MayPut definitions planned)) (Applying definitions planned fitting fires fired) Done
    put_last definitions planned fitting fires fired =
        brings_bind log mine (StandsBy log (MayPut definitions planned)) (with_room (applies (tables_of definitions) planned)) (λ (put : Result ℕ Failure). Stands log)
        (λ mark. over (Ok (record { effect = fitting; mark = mark; fires = fires; fired = fired }))) Done
        (brings_room log mine (StandsBy log (MayPut definitions planned)) (λ enough. if enough then applies (tables_of definitions) planned else fails no_memory) (λ (put : Result ℕ Failure). Stands log) by_room)
        (λ mark. brings_over log mine (Stands log) (Ok (record { effect = fitting; mark = mark; fires = fires; fired = fired })) Done (λ before later is stands. stands)) (λ failure before later is stands. stands)
      where
        by_room : (enough : Bool) → Brings log mine (StandsBy log (MayPut definitions planned)) (if enough then applies (tables_of definitions) planned else fails no_memory) (λ (put : Result ℕ Failure). Stands log)
        by_room true = changes_when session begin log mine tied (tables_of definitions) planned
        by_room false = brings_over log mine (StandsBy log (MayPut definitions planned)) (Err (plain no_memory)) (λ (put : Result ℕ Failure). Stands log) (λ before later is from. from.0)

    -- what only reads on the way leaves that
    on_way : {A : Type 0} (definitions : List Definition) (planned : List Planned) (tree : Doing (Result A Failure)) (go : A → Doing (Result Written Failure)) → Reads tree → ((a : A) → Brings log mine (StandsBy log (MayPut definitions planned)) (go a) Done)
        → Brings log mine (StandsBy log (MayPut definitions planned)) (tree >>= go) Done
    on_way {A} definitions planned tree go only on = reads_bind_by session begin log mine tied (MayPut definitions planned) tree (λ (a : A). MayPut definitions planned) go only
        (λ before part later p new a is held fetches intact may. change_on before part later (tables_of definitions) planned fetches may) on

    abbrev Behind : List Definition → List Rows → List Planned → Doing (Result Written Failure)
    Behind definitions images planned = Telling planned >>= λ effect. if_it_fits effect >>= λ fitting. Firing definitions >>= λ fires. Seeing images planned >>= λ fired. Applying definitions planned fitting fires fired

    on_planned : (definitions : List Definition) (images : List Rows) (planned : List Planned) → Brings log mine (StandsBy log (MayPut definitions planned)) (Behind definitions images planned) Done
    on_planned definitions images planned =
        on_way definitions planned (Telling planned) _ (λ p. only_comes IsTouch IsFetch (Ok (told_by (done_kind around) p.settings.no_count write planned))) (λ effect.
        on_way definitions planned (if_it_fits effect) _ (fits_fetch effect) (λ fitting.
        on_way definitions planned (Firing definitions) _ (only_comes IsTouch IsFetch (Ok (fires_of around definitions write))) (λ fires.
        on_way definitions planned (Seeing images planned) _ (only_comes IsTouch IsFetch (Ok (fired_by (shape_or shape (shape_of (table_written write) named)) write images planned)))
        (λ fired. put_last definitions planned fitting fires fired))))

    -- with what was read of it
    abbrev Seen : List Definition → List Rows → List Exchange → List Exchange → Type 0
    Seen definitions images before later = (Known definitions (at_place log before later) × HaveAll named write images) × ToldIn (TellsRows images) before

    on_images : (definitions : List Definition) (images : List Rows) → Brings log mine (StandsBy log (Seen definitions images)) (Planning images >>= Behind definitions images) Done
    unfolding Held
    on_images definitions images =
        reads_bind_by session begin log mine tied (Seen definitions images) (Planning images) (MayPut definitions) (Behind definitions images)
        (λ p. only_comes IsTouch IsFetch (planned_over around p named write images))
        (λ before part later p new planned is held fetches intact seen.
        change_on before part later (tables_of definitions) planned fetches
        (may_write definitions images planned p before (at_place log before (part ++ later)) intact seen.0.0 seen.0.1 seen.1 (comes_apart (planned_over around p named write images) p new part planned held).1))
        (on_planned definitions images)

    on_definitions : (definitions : List Definition) → Brings log mine (StandsWith log (Known definitions)) (Reading >>= λ images. Planning images >>= Behind definitions images) Done
    unfolding Held reads_images
    on_definitions definitions =
        reads_bind_by session begin log mine tied (λ before later. Known definitions (at_place log before later)) Reading (Seen definitions) (λ images. Planning images >>= Behind definitions images)
        (images_fetched given named (bound.Write write))
        (λ before part later p new images is held fetches intact known.
        let read = image_apart given p.settings.level (values_of p.vars) named (bound.Write write) p new part images held in (
          (subst (Known definitions) (sym (fetch_place log before part later fetches)) known, all_columns p.settings.manner given p.settings.level (values_of p.vars) named write part images (λ of found. (known.0 of found).1) read),
          told_last (TellsRows images) before part fetches
              (p.settings.level, values_of p.vars, λ of found. targets_read p.settings.manner given named p.settings.level (values_of p.vars) write part images (known.0 of found).1 read),
        ))
        (on_images definitions)

    pub changes_bring : Brings log mine (StandsWith log (IsTarget around named write)) (changes around shape shapes write) Done
    unfolding changes
    changes_bring =
        reads_bind session begin log mine tied (IsTarget around named write) reads_definitions Known (λ definitions. Reading >>= λ images. Planning images >>= Behind definitions images)
        definitions_read (λ before part later p new definitions is held intact known. (known, all_defined before part later p new definitions is held intact)) on_definitions

  -- ---- DROP

  abbrev Dropped : Result Effect Failure → List Exchange → List Exchange → Type 0
  Dropped result = Stands log

  -- changes that are checked by no shapes
  abbrev MayDrop : List Planned → List Exchange → List Exchange → Type 0
  MayDrop planned before later = MayChange before (at_place log before later) [] planned

  put_alone : (planned : List Planned) → Brings log mine (StandsBy log (MayDrop planned)) (applies [] planned >>= λ put. over (Ok no_effect)) Dropped
  put_alone planned =
      brings_bind log mine (StandsBy log (MayDrop planned)) (applies [] planned) (λ (put : Result ℕ Failure). Stands log) (λ put. over (Ok no_effect)) Dropped (changes_when session begin log mine tied [] planned)
      (λ put. brings_over log mine (Stands log) (Ok no_effect) Dropped (λ before later is stands. stands)) (λ failure before later is stands. stands)

  module _ (around : Around) (shape : TableTree) where
    -- all definitions, and the table among them
    abbrev There : List Definition → Database → Type 0
    There definitions db = IsTableOf db shape × AreDefinitions (own_rows db) definitions

    -- the rows that were read were told
    abbrev TellsAll : List Rows → List Exchange → Type 0
    TellsAll images part = TargetTold [] (shape ∷ []) Serializable (whole shape.name) part images

    may_drop : (definitions : List Definition) (images : List Rows) (planned : List Planned) (p : SessionProgress) (before : List Exchange) (db : Database) → KeysAreOne db → Intact db → There definitions db
        → unless_referred shape.name (tables_of definitions) ≡ Ok tt → IsImage db (Some shape) shape.name images → ToldIn (TellsAll images) before → dropped around p definitions shape shape.name images ≡ Ok planned → MayChange before db [] planned
    may_drop definitions images planned p before db one_key intact there free image told plans =
        let plan : IsDropPlanned around p (own_rows db) definitions shape image.0 planned = record {
          defined = there.0;
          read = read_own db (fits (Some shape) 0) shape.name image.0 image.2;
          unreferred = free;
          plans = sym (ap (dropped around p definitions shape shape.name) image.1) ∙ plans;
        } in
        record {
          level = Serializable;
          shape = shape;
          told = drop_told around p (own_rows db) definitions shape image.0 planned plan [] (shape ∷ []) Serializable before told.front told.reads told.between (shape_itself shape) told.split told.reads_fetch told.between_fetch
              (subst (λ (list : List Rows). TellsAll list told.reads) image.1 told.tells);
          defined = there.0;
          can = λ indexed. record { each = tt; rows = tt; parts = tt; parents = tt };
          firm = λ passes. firm_behind db planned (firm_drop_planned around p (own_rows db) definitions shape image.0 planned intact.firm there.1 plan);
          indexed = λ behind_rows. indexed_drop_planned around p db definitions shape image.0 planned one_key intact.firm intact.indexed there.1 plan;
        }

    abbrev Fetching : Doing (Result (List Rows) Failure)
    Fetching = with_room (reads_at none_given Serializable [] (shape ∷ []) (bound.Write (whole shape.name)))

    abbrev Dropping : List Definition → List Rows → Doing (Result (List Planned) Failure)
    Dropping definitions images = reads λ p. comes_to (dropped around p definitions shape shape.name images)

    abbrev Free : List Definition → Database → Type 0
    Free definitions db = There definitions db × (unless_referred shape.name (tables_of definitions) ≡ Ok tt)

    -- with all rows of the table, as they were told
    abbrev SeenAll : List Definition → List Rows → List Exchange → List Exchange → Type 0
    SeenAll definitions images before later = (Free definitions (at_place log before later) × IsImage (at_place log before later) (Some shape) shape.name images) × ToldIn (TellsAll images) before

    pub drops_bring : Brings log mine (StandsWith log (λ db. IsTableOf db shape)) (drops_table around shape shape.name) Dropped
    unfolding drops_table Held
    drops_bring =
        reads_bind session begin log mine tied (λ db. IsTableOf db shape) reads_definitions There
        (λ definitions. comes_to (unless_referred shape.name (tables_of definitions)) >>= λ free. Fetching >>= λ images. Dropping definitions images >>= λ planned. applies [] planned >>= λ put. over (Ok no_effect))
        definitions_read (λ before part later p new definitions is held intact known. (known, all_defined before part later p new definitions is held intact)) on_definitions
      where
        on_images : (definitions : List Definition) (images : List Rows) → Brings log mine (StandsBy log (SeenAll definitions images)) (Dropping definitions images >>= λ planned. applies [] planned >>= λ put. over (Ok no_effect)) Dropped
        on_images definitions images =
            reads_bind_by session begin log mine tied (SeenAll definitions images) (Dropping definitions images) MayDrop (λ planned. applies [] planned >>= λ put. over (Ok no_effect))
            (λ p. only_comes IsTouch IsFetch (dropped around p definitions shape shape.name images))
            (λ before part later p new planned is held fetches intact seen.
            change_on before part later [] planned fetches
            (may_drop definitions images planned p before (at_place log before (part ++ later)) (one_place log before (part ++ later)) intact seen.0.0.0 seen.0.0.1 seen.0.1 seen.1
            (comes_apart (dropped around p definitions shape shape.name images) p new part planned held).1))
            put_alone

        on_free : (definitions : List Definition) → Brings log mine (StandsWith log (Free definitions)) (Fetching >>= λ images. Dropping definitions images >>= λ planned. applies [] planned >>= λ put. over (Ok no_effect)) Dropped
        on_free definitions =
            reads_bind_by session begin log mine tied (λ before later. Free definitions (at_place log before later)) Fetching (SeenAll definitions) (λ images. Dropping definitions images >>= λ planned. applies [] planned >>= λ put. over (Ok no_effect))
            (only_room IsTouch IsFetch (reads_at none_given Serializable [] (shape ∷ []) (bound.Write (whole shape.name))) (at_level_reads none_given Serializable [] (shape ∷ []) (bound.Write (whole shape.name))))
            (λ before part later p new images is held fetches intact there.
            let read = image_apart none_given Serializable [] (shape ∷ []) (bound.Write (whole shape.name)) p new part images (room_apart (reads_at none_given Serializable [] (shape ∷ []) (bound.Write (whole shape.name))) p new part images held) in (
              subst (λ (db : Database). Free definitions db × IsImage db (Some shape) shape.name images) (sym (fetch_place log before part later fetches))
                  (there, whole_read before part later p.settings.manner shape images is read ((keys_sized (own_rows (at_place log before (part ++ later))) intact.firm).1 shape there.0.0)),
              told_last (TellsAll images) before part fetches (targets_read p.settings.manner none_given (shape ∷ []) Serializable [] (whole shape.name) part images refl read),
            ))
            (on_images definitions)

        on_definitions : (definitions : List Definition) → Brings log mine (StandsWith log (There definitions)) (comes_to (unless_referred shape.name (tables_of definitions)) >>= λ free. Fetching >>= λ images. Dropping definitions images >>= λ planned. applies [] planned >>= λ put. over (Ok no_effect)) Dropped
        on_definitions definitions =
            reads_bind session begin log mine tied (There definitions) (comes_to (unless_referred shape.name (tables_of definitions))) (λ free. Free definitions) (λ free. Fetching >>= λ images. Dropping definitions images >>= λ planned. applies [] planned >>= λ put. over (Ok no_effect))
            (only_comes IsTouch IsFetch (unless_referred shape.name (tables_of definitions)))
            (λ before part later p new free is held intact there. (there, (comes_apart (unless_referred shape.name (tables_of definitions)) p new part free held).1)) (λ free. on_free definitions)

  -- what is defined as no table
  pub erases_bring : (around : Around) (name : List ℕ) → Brings log mine (StandsWith log (λ db. IsNoTable db name)) (drops_definition around name) Dropped
  unfolding drops_definition
  erases_bring around name =
      brings_bind log mine From (with_room (applies [] (definition_erased name ∷ []))) (λ (put : Result ℕ Failure). Stands log) (λ put. over (Ok no_effect)) Dropped
      (brings_room log mine From (λ enough. if enough then applies [] (definition_erased name ∷ []) else fails no_memory) (λ (put : Result ℕ Failure). Stands log) by_room)
      (λ put. brings_over log mine (Stands log) (Ok no_effect) Dropped (λ before later is stands. stands)) (λ failure before later is stands. stands)
    where
      From : List Exchange → List Exchange → Type 0
      From = StandsWith log (λ db. IsNoTable db name)

      erased_intact : (db : Database) → Intact db → IsNoTable db name → Intact (behind db (definition_erased name ∷ []))
      erased_intact db intact none = record {
        firm = firm_own db (definition_erased name ∷ []) (refl, tt) (firm_erased (own_rows db) name intact.firm none);
        indexed = indexed_erased db name intact.firm intact.indexed none;
      }

      by_room : (enough : Bool) → Brings log mine From (if enough then applies [] (definition_erased name ∷ []) else fails no_memory) (λ (put : Result ℕ Failure). Stands log)
      by_room true = brings_mono log mine (StandsWith log (λ db. MayWrite db [] (definition_erased name ∷ []))) From (applies [] (definition_erased name ∷ [])) (λ (put : Result ℕ Failure). Stands log) (λ (put : Result ℕ Failure). Stands log)
          (λ before later is from. (from.0, λ intact. record { own = (refl, tt); can = record { each = tt; rows = tt; parts = tt; parents = tt }; intact = λ passes. erased_intact (at_place log before later) (from.0 intact).now (from.1 intact) })) (λ a before later is stands. stands)
          (applies_when session begin log mine tied [] (definition_erased name ∷ []))
      by_room false = brings_over log mine From (Err (plain no_memory)) (λ (put : Result ℕ Failure). Stands log) (λ before later is from. from.0)
