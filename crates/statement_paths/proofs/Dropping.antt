-- What DROP has asked within its transaction, by what was found under its name, where it succeeded and where it failed.
use Rattle.std.proofs.Common.{◌≡◌, ◌⊎◌, inl, inr, ℕ, List, [], ◌∷◌, ◌++◌, Option, Some, Result, Ok, Err, refl, sym, ap, ◌∙◌, subst, append-nil}
use Rattle.tsql_tree.specs.declared.definition.Definition.{Definition}
use Rattle.tsql_tree.specs.declared.definition.Definition.TheVariants.{Table, Procedure, Trigger}
use Rattle.tsql_tree.specs.declared.definition.TableTree.{TableTree}
use Rattle.tsql_tree.specs.declared.statement.DropKind.{DropKind}
use Rattle.tsql_tree.specs.declared.statement.DropKind.TheVariants as drop
use Rattle.bound_tree.specs.declared.write.Bound.TheVariants as bound
use Rattle.table_rows.specs.Rows.{rows_table}
use Rattle.table_rows.specs.Definitions.{object_key, objects_name, tables_of}
use Rattle.step_model.specs.declared.change.Planned.{Planned}
use Rattle.step_model.specs.declared.manner.Manner.{Manner}
use Rattle.step_model.specs.Dialog as said
use Rattle.step_model.specs.Exchange.{Exchange}
use Rattle.step_model.specs.Ranges.{Rows}
use Rattle.dml_exec.specs.declared.refusal.Level.TheVariants.{Serializable}
use Rattle.dml_exec.specs.Reading.{images_of, none_given}
use Rattle.statement_paths.specs.Asked.{IsFetch}
use Rattle.batch_meaning.specs.declared.failure.Failure.{Failure}
use Rattle.batch_meaning.specs.Raised.{Around}
use Rattle.batch_meaning.specs.Asking.{applies, fails_naming, reads_at, reads_definitions, with_room}
use Rattle.batch_meaning.specs.Changing.{definition_erased, dropped, not_there, unless_referred, whole}
use Rattle.batch_meaning.specs.Doing.{Doing, over, ◌then◌, Held}
use Rattle.batch_meaning.specs.Progress.{SessionProgress}
use Rattle.batch_meaning.specs.Selecting.{Effect, no_effect}
use Rattle.batch_meaning.specs.Writes.{drops_definition, drops_found, drops_table}
use Rattle.statement_paths.specs.Paths.{IsDefinitionDropped, IsDrop, IsFailed, IsTableDropped}
use Rattle.statement_paths.proofs.Only.{IsTouch, only_naming, only_room}
use Rattle.statement_paths.proofs.Still.{Still}
use Rattle.statement_paths.proofs.Apart.{bind_apart, bind_failed, room_apart}
use Rattle.statement_paths.proofs.Looking.{ok_same, definitions_apart, definitions_read}
use Rattle.statement_paths.proofs.Dialogs.{erased_done}
use Rattle.statement_paths.proofs.Working.{applies_apart, at_level_apart, at_level_reads, bind_reads, comes_on, in_manner, named_held, naming_never}
use Rattle.statement_paths.proofs.Failing.{applies_failed, bind_or, comes_or, failed_more, named_failed, read_failed, reads_failed, room_failed, undone_failed}

module _ (around : Around) (p0 : SessionProgress) where
  abbrev manner : Manner
  manner = p0.settings.manner

  -- ---- where it succeeded

  module _ (shape : TableTree) (name : List ℕ) where
    abbrev read_rows : Doing (Result (List Rows) Failure)
    read_rows = reads_at none_given Serializable [] (shape ∷ []) (bound.Write (whole name))

    drops_apart : (p new : SessionProgress) (exchanges : List Exchange) (effect : Effect) → Still p0 p → Held (drops_table around shape name) p exchanges (Ok effect) new → (planned : List Planned) × IsTableDropped around p0 shape name planned effect exchanges
    unfolding drops_table Held ◌then◌
    drops_apart p new exchanges effect still held =
        bind_reads around p0 reads_definitions _ p new exchanges effect definitions_read still held (λ defined behind definitions q parts defines same rest.
        comes_on around p0 (unless_referred name (tables_of definitions)) _ q new behind effect rest (λ alone free others.
        bind_reads around p0 (with_room read_rows) _ q new behind effect (only_room IsTouch IsFetch read_rows (at_level_reads none_given Serializable [] (shape ∷ []) (bound.Write (whole name)))) same others (λ read later images r more reads so last.
        comes_on around p0 (dropped around r definitions shape name images) _ r new later effect last (λ planned plans work.
        let on = bind_apart (applies [] planned) (λ put. over (Ok no_effect)) r new later effect work in
        let put = applies_apart around p0 [] planned r on.3 on.0 on.2 so on.5 in (
          put.0,
          record {
            definitions = definitions;
            images = images;
            defined = defined;
            read = read;
            applied = on.0;
            parts = parts ∙ ap (λ (l : List Exchange). defined ++ l) (more ∙ ap (λ (l : List Exchange). read ++ l) (on.4 ∙ ap (λ (l : List Exchange). on.0 ++ l) on.6.0 ∙ append-nil on.0));
            defines = definitions_apart manner p q defined definitions (in_manner around p0 p still) defines;
            free = free;
            reads = subst (λ (m : Manner). said.Held m (images_of none_given (shape ∷ []) Serializable [] (bound.Write (whole name))) read (Ok images)) (in_manner around p0 q same)
                (at_level_apart none_given Serializable [] (shape ∷ []) (bound.Write (whole name)) q r read images (room_apart read_rows q r read images reads));
            plan = planned;
            plans = subst (λ (s : SessionProgress). dropped around s definitions shape name images ≡ Ok planned) so plans;
            applies = put.1;
            tells = ok_same {E = Failure} effect no_effect on.6.1;
          },
        )))))

  erases_apart : (name : List ℕ) (p new : SessionProgress) (exchanges : List Exchange) (effect : Effect) → Still p0 p → Held (drops_definition around name) p exchanges (Ok effect) new → (planned : List Planned) × IsDefinitionDropped around p0 name planned effect exchanges
  unfolding drops_definition Held
  erases_apart name p new exchanges effect still held =
      let on = bind_apart (with_room (applies [] (definition_erased name ∷ []))) (λ put. over (Ok no_effect)) p new exchanges effect held in
      let put = applies_apart around p0 [] (definition_erased name ∷ []) p on.3 on.0 on.2 still (room_apart (applies [] (definition_erased name ∷ [])) p on.3 on.0 on.2 on.5) in
      let whole : on.0 ≡ exchanges = sym (on.4 ∙ ap (λ (l : List Exchange). on.0 ++ l) on.6.0 ∙ append-nil on.0) in (
        put.0,
        subst (λ (l : List Exchange). IsDefinitionDropped around p0 name put.0 effect l) whole (record {
          plans = put.1.makes ∙ erased_done manner [] (rows_table objects_name) (object_key name) refl put.1.found put.1.put put.1.puts;
          applies = put.1;
          tells = ok_same {E = Failure} effect no_effect on.6.1;
        }),
      )

  pub drop_apart : (kind : DropKind) (name : List ℕ) (found : Option Definition) (p new : SessionProgress) (exchanges : List Exchange) (effect : Effect) → Still p0 p → Held (drops_found around kind name found) p exchanges (Ok effect) new
      → (planned : List Planned) × IsDrop around p0 kind name found planned effect exchanges
  drop_apart drop.Table name (Some (Table table)) p new exchanges effect still held =
      let on = named_held not_there table.name name (drops_table around table name) p new exchanges effect held in let is = drops_apart table name p new exchanges effect still on.1 in (is.0, (on.0, is.1))
  drop_apart drop.Procedure name (Some (Procedure procedure)) p new exchanges effect still held =
      let on = named_held not_there procedure.name name (drops_definition around name) p new exchanges effect held in let is = erases_apart name p new exchanges effect still on.1 in (is.0, (on.0, is.1))
  drop_apart drop.Trigger name (Some (Trigger trigger)) p new exchanges effect still held =
      let on = named_held not_there trigger.name name (drops_definition around name) p new exchanges effect held in let is = erases_apart name p new exchanges effect still on.1 in (is.0, (on.0, is.1))
  drop_apart kind name found p new exchanges effect still held = absurd (naming_never not_there name p new exchanges effect held)

  -- ---- where it failed

  -- the changes stand, or nothing does
  put_failed : (planned : List Planned) (p new : SessionProgress) (exchanges : List Exchange) (failure : Failure) → Still p0 p
      → Held (applies [] planned) p exchanges (Err failure) new
      ⊎ ((front back : List Exchange) × (mark : ℕ) × (mid : SessionProgress) × (exchanges ≡ front ++ back) × Held (applies [] planned) p front (Ok mark) mid × Held {A = Result Effect Failure} (over (Ok no_effect)) mid back (Err failure) new) → IsFailed manner exchanges
  unfolding Held
  put_failed planned p new exchanges failure still (inl first) = applies_failed p0 [] planned p new exchanges failure still first
  put_failed planned p new exchanges failure still (inr was) = absurd (let no : Err failure ≡ Ok no_effect = was.6.1 in cc)

  drops_failed : (shape : TableTree) (name : List ℕ) (p new : SessionProgress) (exchanges : List Exchange) (failure : Failure) → Still p0 p → Held (drops_table around shape name) p exchanges (Err failure) new → IsFailed manner exchanges
  unfolding drops_table Held ◌then◌
  drops_failed shape name p new exchanges failure still held =
      bind_or p0 reads_definitions _ p new exchanges failure definitions_read still held (λ fetches. read_failed manner exchanges fetches) (λ defined behind definitions q parts defines fetches same rest.
      failed_more manner exchanges defined behind parts fetches
      (comes_or p0 (unless_referred name (tables_of definitions)) _ q new behind failure rest (λ none. read_failed manner behind none) (λ alone free others.
      bind_or p0 (with_room (read_rows shape name)) _ q new behind failure (only_room IsTouch IsFetch (read_rows shape name) (at_level_reads none_given Serializable [] (shape ∷ []) (bound.Write (whole name)))) same others
      (λ more. read_failed manner behind more) (λ read later images r more fetched too so last.
      failed_more manner behind read later more too
      (comes_or p0 (dropped around r definitions shape name images) _ r new later failure last (λ none. read_failed manner later none) (λ planned plans work.
      put_failed planned r new later failure so (bind_failed (applies [] planned) (λ put. over (Ok no_effect)) r new later failure work)))))))

  erases_failed : (name : List ℕ) (p new : SessionProgress) (exchanges : List Exchange) (failure : Failure) → Still p0 p → Held (drops_definition around name) p exchanges (Err failure) new → IsFailed manner exchanges
  unfolding drops_definition Held
  erases_failed name p new exchanges failure still held = by_failed (bind_failed (with_room (applies [] (definition_erased name ∷ []))) (λ put. over (Ok no_effect)) p new exchanges failure held)
    where
      by_failed : Held (with_room (applies [] (definition_erased name ∷ []))) p exchanges (Err failure) new
          ⊎ ((front back : List Exchange) × (mark : ℕ) × (mid : SessionProgress) × (exchanges ≡ front ++ back) × Held (with_room (applies [] (definition_erased name ∷ []))) p front (Ok mark) mid × Held {A = Result Effect Failure} (over (Ok no_effect)) mid back (Err failure) new) → IsFailed manner exchanges
      by_failed (inl first) = room_failed p0 (applies [] (definition_erased name ∷ [])) p new exchanges failure first (λ none. undone_failed manner exchanges (inl none))
          (λ was. applies_failed p0 [] (definition_erased name ∷ []) p new exchanges failure still was)
      by_failed (inr was) = absurd (let no : Err failure ≡ Ok no_effect = was.6.1 in cc)

  pub drop_failed : (kind : DropKind) (name : List ℕ) (found : Option Definition) (p new : SessionProgress) (exchanges : List Exchange) (failure : Failure) → Still p0 p → Held (drops_found around kind name found) p exchanges (Err failure) new → IsFailed manner exchanges
  drop_failed drop.Table name (Some (Table table)) p new exchanges failure still held =
      named_failed manner not_there table.name name (drops_table around table name) p new exchanges failure held (λ was. drops_failed table name p new exchanges failure still was)
  drop_failed drop.Procedure name (Some (Procedure procedure)) p new exchanges failure still held =
      named_failed manner not_there procedure.name name (drops_definition around name) p new exchanges failure held (λ was. erases_failed name p new exchanges failure still was)
  drop_failed drop.Trigger name (Some (Trigger trigger)) p new exchanges failure still held =
      named_failed manner not_there trigger.name name (drops_definition around name) p new exchanges failure held (λ was. erases_failed name p new exchanges failure still was)
  drop_failed kind name found p new exchanges failure still held = reads_failed manner (fails_naming {A = Effect} not_there name) p new exchanges (Err failure) (only_naming IsTouch IsFetch Effect not_there name) held
