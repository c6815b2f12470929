-- Own: what was read of a range, in the database that a transaction has at its place in the log. Of one range all fetches
-- read that same database, since they change nothing.
use Rattle.std.specs.Prelude.{◌≡◌, ℕ, Bool, true, false, List, [], ◌∷◌, length, map, filter, Option, None, Some, IsTrue, IsSome}
use Rattle.std.specs.List.{AllByRecursion}
use Rattle.std.specs.List.Sorted.{IsStrictlySortedBy}
use Rattle.value_types.specs.declared.table_name.TableName.{TableName}
use Rattle.value_types.specs.declared.value.Value.{Value}
use Rattle.value_types.specs.Order.{key_cmp}
use Rattle.tsql_tree.specs.declared.definition.ForeignTree.{ForeignTree}
use Rattle.tsql_tree.specs.declared.definition.TableTree.{TableTree}
use Rattle.tsql_tree.specs.Places.{key_places}
use Rattle.step_model.specs.declared.range.KeyRange.{KeyRange}
use Rattle.step_model.specs.declared.range.Start.{Start}
use Rattle.step_model.specs.declared.range.Start.TheVariants.{At}
use Rattle.step_model.specs.declared.range.Stop.{Stop}
use Rattle.step_model.specs.declared.range.Stop.TheVariants.{Within}
use Rattle.lock_modes.specs.declared.KeyPart.{KeyPart}
use Rattle.step_model.specs.declared.op.Hold.TheVariants.{Range}
use Rattle.step_model.specs.declared.op.Op.{Op}
use Rattle.step_model.specs.declared.op.Op.TheVariants.{Fetch}
use Rattle.step_model.specs.declared.reply.Reply.{Reply}
use Rattle.step_model.specs.declared.reply.Reply.TheVariants.{Row, Gone, End}
use Rattle.step_model.specs.Database.{Database, In, is_within}
use Rattle.step_model.specs.Exchange.{CanReply, Exchange}
use Rattle.step_model.specs.Fits.{place_of, view}
use Rattle.step_model.specs.Log.{Commit as Logged}
use Rattle.step_model.specs.Ranges.{Keeps, Rows}
use Rattle.table_rows.specs.Rows.{part_shape, places_of, row_fits, rows_table, same_key, shape_of}
use Rattle.constraint_check.specs.Integrity.{Stands}
use Rattle.dml_exec.specs.Reading.{GivenRows, TableRead, behind_gone, fits}

-- what the database has at the place of a transaction, of which `later` is left, with its own changes so far
abbrev pub at_place : List Logged → List Exchange → List Exchange → Database
at_place log before later = view log (place_of (length log) later) before

-- the rows of a range that are kept, in order of their keys
abbrev pub IsRead : Database → Keeps → KeyRange → Rows → Type 0
IsRead db keeps range rows = (entries : List (List Value × List Value)) × In db range.table range.start range.stop entries × (rows ≡ map (λ at. at.1) (filter keeps entries))

-- a row that was read alone: it is one of the range, and stood at its key at some number, beside what was written by then
abbrev pub StoodThere : List Logged → List Exchange → KeyRange → List Value × List Value → Type 0
StoodThere log before range at = IsTrue (is_within range.start range.stop at.0) × ((number : ℕ) × (view log number before range.table at.0 ≡ Some at.1))

-- rows of a range that are kept, in order of their keys, each as it was at its own number
abbrev pub WereRead : List Logged → List Exchange → Keeps → KeyRange → Rows → Type 0
WereRead log before keeps range rows = (entries : List (List Value × List Value)) × IsStrictlySortedBy (λ at other. key_cmp at.0 other.0) entries × AllByRecursion (StoodThere log before range) entries
    × (rows ≡ map (λ at. at.1) (filter keeps entries))

-- ---- fetches, one behind another

-- that of a range, which it holds
abbrev pub HoldsIt : Op → Type 0
HoldsIt (Fetch table start stop Range part) = Unit {0}
HoldsIt op = ⊥

-- what is found by a fetch, and by those behind it
abbrev pub FindsBy : (List Value → List (List Value × List Value) → Type 0) → List Exchange → List (List Value × List Value) → Reply → Type 0
FindsBy GoesOn later entries (Row key row at) = (rest : List (List Value × List Value)) × (entries ≡ (key, row) ∷ rest) × GoesOn key rest
FindsBy GoesOn later entries (Gone key at) = GoesOn key entries
FindsBy GoesOn later entries (End at) = (later ≡ []) × (entries ≡ [])
FindsBy GoesOn later entries reply = ⊥

-- A range of a table whose keys have so many values was fetched to its end, each fetch from behind the key that the one before it was
-- told of, and these rows were found.
abbrev pub Walks : ℕ → TableName → Stop → KeyPart → Start → List Exchange → List (List Value × List Value) → Type 0
Walks width table stop lock start [] entries = ⊥
Walks width table stop lock start (exchange ∷ later) entries = (exchange.op ≡ Fetch table start stop Range lock) × CanReply exchange.op exchange.reply
    × FindsBy (λ key rest. Walks width table stop lock (behind_gone width key) later rest) later entries exchange.reply

-- what the reply to the fetch of one whole key says of it
abbrev pub Tells : Database → TableName → List Value → Reply → Type 0
Tells db table key (Row other row at) = db table key ≡ Some row
Tells db table key (Gone other at) = db table key ≡ None
Tells db table key (End at) = db table key ≡ None
Tells db table key reply = Unit {0}

-- ---- how long keys are

-- Behind a row a fetch goes on past its key and all that begin with it, so a key that another one begins would be passed over: all
-- keys of a table that have a row have so many values. Of keys without a row nothing is asked.
abbrev pub KeysHave : ℕ → Database → TableName → Type 0
KeysHave size db table = (key : List Value) → IsSome (db table key) → length key ≡ size

-- a range of one whole key, which starts and stops at keys that compare equal
abbrev pub IsOneKey : ℕ → Start → Stop → Type 0
IsOneKey size (At key) (Within last) = IsTrue (same_key key last) × (length key ≡ size)
IsOneKey size start stop = ⊥

-- where one whole key is read this holds
abbrev pub IfOne : Bool → Type 0 → Type 0
IfOne true P = P
IfOne false P = Unit {0}

-- ---- rows that fit

-- each row of a part fits the shape of its table
abbrev pub AllFit : Database → List TableTree → TableName → Type 0
AllFit db shapes table = (key row : List Value) → db table key ≡ Some row → IsTrue (fits (part_shape table shapes) table.part (key, row))

-- how many values the keys of a table have
abbrev pub key_size : List TableTree → TableName → ℕ
key_size shapes table = length (key_places (shape_of table shapes))

-- each row of a table that is given fits it
abbrev pub RowsFit : Database → TableTree → Type 0
RowsFit db shape = (key row : List Value) → Stands db shape key row → IsTrue (row_fits shape 0 key row)

-- a FOREIGN KEY refers to a table that is there, by as many columns as the key of that has
abbrev pub HasParent : List TableTree → TableTree → ForeignTree → Type 0
HasParent shapes shape foreign = IsSome (shape_of (rows_table foreign.parent) shapes) × (length (places_of shape foreign.columns) ≡ key_size shapes (rows_table foreign.parent))

abbrev pub HaveParents : List TableTree → Type 0
HaveParents shapes = AllByRecursion (λ shape. AllByRecursion (HasParent shapes shape) shape.foreigns) shapes

-- ---- images

-- of a table that is fetched this is so; nothing is said of one that is given
abbrev pub IfFetched : Option Rows → Type 0 → Type 0
IfFetched None P = P
IfFetched (Some given) P = Unit {0}

-- the image of a range of a table is its rows that fit, or those that are given for the table
abbrev pub IsImageOf : Option Rows → Database → List TableTree → KeyRange → Rows → Type 0
IsImageOf None db shapes range rows = IsRead db (fits (shape_of range.table shapes) 0) range rows
IsImageOf (Some given) db shapes range rows = rows ≡ given

-- and so each of those that were read for a statement
abbrev pub AreImages : GivenRows → Database → List TableTree → List TableRead → List Rows → Type 0
AreImages given db shapes [] images = images ≡ []
AreImages given db shapes (read ∷ reads) images = (rows : Rows) × (rest : List Rows) × (images ≡ rows ∷ rest) × IsImageOf (given read.0.table) db shapes read.0 rows × AreImages given db shapes reads rest
