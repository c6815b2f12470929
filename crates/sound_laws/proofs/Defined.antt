-- Where all of `objects` was read, its range held, the definitions are those of the database at the transaction's place.
use Rattle.std.proofs.Common.{◌≡◌, List, [], ◌∷◌, ◌++◌, refl, sym, subst}
use Rattle.lock_modes.specs.declared.KeyPart.TheVariants.{S}
use Rattle.value_types.specs.declared.table_name.TableName.{TableName}
use Rattle.tsql_tree.specs.declared.definition.Definition.{Definition}
use Rattle.step_model.specs.declared.manner.Manner.{Manner}
use Rattle.step_model.specs.declared.op.Op.{Op}
use Rattle.step_model.specs.declared.range.Start.{Start}
use Rattle.step_model.specs.declared.range.Start.TheVariants.{First}
use Rattle.step_model.specs.declared.range.Stop.TheVariants.{Last}
use Rattle.step_model.specs.declared.reply.Reply.{Reply}
use Rattle.step_model.specs.declared.reply.Reply.TheVariants as replies
use Rattle.step_model.specs.Database.{Database, In}
use Rattle.step_model.specs.Exchange.{Exchange, CanReply}
use Rattle.step_model.specs.Fits.{ranges_hold}
use Rattle.step_model.specs.Log.{Commit as Logged}
use Rattle.table_rows.specs.Definitions.{objects_name}
use Rattle.table_rows.specs.Rows.{rows_table}
use Rattle.dml_exec.specs.Reading.{behind_gone}
use Rattle.batch_meaning.specs.Asking.{with_found}
use Rattle.statement_paths.specs.Asked.{AskOnly}
use Rattle.write_laws.specs.Reads.{FindsBy, HoldsIt, KeysHave, Walks, at_place}
use Rattle.write_laws.proofs.Walks.{walk_read}
use Rattle.statement_paths.specs.Paths.{AddsBy, AreDefined}
use Rattle.write_laws.specs.Found.{Entry, ReadAs}
use Rattle.write_laws.specs.Keeping.{AreDefinitions}
use Rattle.write_laws.specs.Indexed.{own_rows}
use Rattle.write_laws.specs.Sound.{Firm}
use Rattle.write_laws.proofs.Found.{found_definitions}
use Rattle.write_laws.proofs.KeySizes.{keys_sized}
use Rattle.write_laws.proofs.Owned.{in_own}
use Rattle.sound_laws.proofs.Here.{hold_fetches}
use Rattle.sound_laws.proofs.Trees.{front_place}

abbrev objects : TableName
objects = rows_table objects_name

-- the rows that were found, read as these definitions
pub record Read (start : Start) (so_far : List Definition) (part : List Exchange) (all : List Definition) : Type 0 where
  pub entries : List Entry
  pub walks : Walks 1 objects Last S start part entries
  pub reads : ReadAs so_far entries all

module _ (manner : Manner) (all : List Definition) where
  -- what one reply adds
  pub record Adds (start : Start) (so_far : List Definition) (later : List Exchange) (reply : Reply) : Type 0 where
    pub entries : List Entry
    pub finds : FindsBy (λ key rest. Walks 1 objects Last S (behind_gone 1 key) later rest) later entries reply
    pub reads : ReadAs so_far entries all

  adds_by : (start : Start) (so_far : List Definition) (later : List Exchange) (reply : Reply)
      → ((on : Start) (more : List Definition) → AreDefined manner on more later all → Read on more later all)
      → AddsBy (λ on more. AreDefined manner on more later all) (λ more. (later ≡ []) × (all ≡ more)) so_far reply → Adds start so_far later reply
  adds_by start so_far later (replies.Row key row at) goes (found, is, on) =
      let rest = goes (behind_gone 1 key) (with_found so_far found) on in
      record { entries = (key, row) ∷ rest.entries; finds = (rest.entries, refl, rest.walks); reads = (found, is, rest.reads) }
  adds_by start so_far later (replies.Gone key at) goes on =
      let rest = goes (behind_gone 1 key) so_far on in
      record { entries = rest.entries; finds = rest.walks; reads = rest.reads }
  adds_by start so_far later (replies.End at) goes ends = record { entries = []; finds = (ends.0, refl); reads = ends.1 }
  adds_by start so_far later reply goes adds = absurd adds

  pub all_read : (part : List Exchange) (start : Start) (so_far : List Definition) → AreDefined manner start so_far part all → Read start so_far part all
  all_read [] start so_far is = absurd is
  all_read (x ∷ later) start so_far is =
      let adds = adds_by start so_far later x.reply (λ on more goes. all_read later on more goes) is.1 in
      record {
        entries = adds.entries;
        walks = (is.0.0, subst (λ (op : Op). CanReply op x.reply) (sym is.0.0) is.0.2, adds.finds);
        reads = adds.reads;
      }

  -- each exchange is a fetch that holds its range
  pub defined_holds : (part : List Exchange) (start : Start) (so_far : List Definition) → AreDefined manner start so_far part all → AskOnly HoldsIt part
  defined_holds [] start so_far is = absurd is
  defined_holds (x ∷ later) start so_far is =
      ((subst HoldsIt (sym is.0.0) tt, subst (λ (op : Op). CanReply op x.reply) (sym is.0.0) is.0.2), by_reply x.reply is.1 (λ on more goes. defined_holds later on more goes))
    where
      by_reply : (reply : Reply) → AddsBy (λ on more. AreDefined manner on more later all) (λ more. (later ≡ []) × (all ≡ more)) so_far reply
          → ((on : Start) (more : List Definition) → AreDefined manner on more later all → AskOnly HoldsIt later) → AskOnly HoldsIt later
      by_reply (replies.Row key row at) adds goes = goes (behind_gone 1 key) (with_found so_far adds.0) adds.2
      by_reply (replies.Gone key at) adds goes = goes (behind_gone 1 key) so_far adds
      by_reply (replies.End at) adds goes = subst (AskOnly HoldsIt) (sym adds.0) tt
      by_reply reply adds goes = absurd adds

pub definitions_hold : (log : List Logged) (mine front part rest : List Exchange) (manner : Manner) (all : List Definition) → ranges_hold log mine
    → mine ≡ front ++ (part ++ rest) → AreDefined manner First [] part all → Firm (own_rows (at_place log front (part ++ rest))) → AreDefinitions (own_rows (at_place log front (part ++ rest))) all
definitions_hold log mine front part rest manner all ranges is defined firm =
    let holds = defined_holds manner all part First [] defined in
    let there : at_place log front (part ++ rest) ≡ at_place log front rest = front_place log front part rest (hold_fetches part holds) in
    let read = all_read manner all part First [] defined in
    let rows : In (at_place log front rest) objects First Last read.entries = walk_read log mine front part rest 1 objects First Last S read.entries is ranges read.walks
    (subst (λ (db : Database). KeysHave 1 db objects) there (keys_sized (own_rows (at_place log front (part ++ rest))) firm).0) in
    found_definitions (own_rows (at_place log front (part ++ rest))) read.entries all firm
    (in_own (at_place log front (part ++ rest)) objects_name First Last read.entries (subst (λ (db : Database). In db objects First Last read.entries) (sym there) rows)) read.reads
