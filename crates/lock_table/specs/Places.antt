-- Own: the pairs that each session's locks make together on a resource, as the code finds them: for each span an
-- ordered map by table, and of each table one by key. Where no session has a lock, mostly nothing is kept.
use Rattle.std.specs.Prelude.{◌≡◌, ◌==◌, ◌&&◌, ℕ, false, List, filter, length, Option, None, Some}
use Rattle.std.specs.BTreeMap.{BTreeMap, get}
use Rattle.std.specs.Ordering.{is_eq}
use Rattle.lock_modes.specs.declared.Pair.{Pair}
use Rattle.lock_modes.specs.Modes.{none}
use Rattle.value_types.specs.declared.table_name.TableName.{TableName}
use Rattle.value_types.specs.declared.value.Value.{Value}
use Rattle.value_types.specs.Order.{table_cmp, key_cmp}
use Rattle.step_model.specs.declared.resource.Place.{Place}
use Rattle.step_model.specs.declared.resource.Place.TheVariants.{At, End}
use Rattle.step_model.specs.declared.resource.Resource.{Resource}
use Rattle.step_model.specs.declared.resource.Span.{Span}
use Rattle.step_model.specs.declared.resource.Span.TheVariants.{Statement, Transaction}
use Rattle.step_model.specs.Locks.{Lock, pair_on, has_lock, same_place, same_resource}
use Rattle.lock_table.specs.Table.{pair_at}
use Rattle.lock_table.specs.BySession.{numbers, list_of, is_of, same_span, changed_if}
use Rattle.lock_table.specs.declared.by_place.ByPlace.{ByPlace}
use Rattle.lock_table.specs.declared.index.Index.{Index}

-- ---- the maps

abbrev pub Keys : Type 0
Keys = BTreeMap (List Value) (List Pair)

abbrev pub Tables : Type 0
Tables = BTreeMap TableName ByPlace

-- the pairs at a place of a table, by session
abbrev pub pairs_at : ByPlace → Place → Option (List Pair)
pairs_at places (At key) = get key_cmp places.keys key
pairs_at places End = Some places.end

abbrev pub pairs_in : Option ByPlace → Place → Option (List Pair)
pairs_in None place = None
pairs_in (Some places) place = pairs_at places place

abbrev pub pairs_on : Tables → Resource → Option (List Pair)
pairs_on tables on = pairs_in (get table_cmp tables on.table) on.place

abbrev pub of_span : Span → Index → Tables
of_span Statement index = index.statement
of_span Transaction index = index.transaction

-- a session's pair among them
abbrev pub pair_in : ℕ → Option (List Pair) → Pair
pair_in session None = none
pair_in session (Some pairs) = pair_at session pairs

-- the pair of a session on a resource, of its locks of a span
abbrev pub pair_found : Index → Span → Resource → ℕ → Pair
pair_found index span on session = pair_in session (pairs_on (of_span span index) on)

-- ---- changes: those of one session in one place, and no others

abbrev pub ChangesAtKey : List Value → ℕ → (Pair → Pair) → Keys → Keys → Type 0
ChangesAtKey key session f old new = (at : List Value) (who : ℕ)
    → pair_in who (get key_cmp new at) ≡ changed_if (is_eq (key_cmp key at) && who == session) f (pair_in who (get key_cmp old at))

abbrev pub ChangesAtPlace : Place → ℕ → (Pair → Pair) → ByPlace → ByPlace → Type 0
ChangesAtPlace place session f old new = (at : Place) (who : ℕ)
    → pair_in who (pairs_at new at) ≡ changed_if (same_place place at && who == session) f (pair_in who (pairs_at old at))

abbrev pub ChangesOn : Resource → ℕ → (Pair → Pair) → Tables → Tables → Type 0
ChangesOn on session f old new = (at : Resource) (who : ℕ)
    → pair_in who (pairs_on new at) ≡ changed_if (same_resource on at && who == session) f (pair_in who (pairs_on old at))

abbrev pub Changes : Span → Resource → ℕ → (Pair → Pair) → Index → Index → Type 0
Changes span on session f old new = (of : Span) (at : Resource) (who : ℕ)
    → pair_found new of at who ≡ changed_if (same_span span of && (same_resource on at && who == session)) f (pair_found old of at who)

-- no pair is changed
abbrev pub KeepsAtKeys : Keys → Keys → Type 0
KeepsAtKeys old new = (at : List Value) (who : ℕ) → pair_in who (get key_cmp new at) ≡ pair_in who (get key_cmp old at)

abbrev pub KeepsAtPlaces : ByPlace → ByPlace → Type 0
KeepsAtPlaces old new = (at : Place) (who : ℕ) → pair_in who (pairs_at new at) ≡ pair_in who (pairs_at old at)

abbrev pub KeepsOn : Tables → Tables → Type 0
KeepsOn old new = (at : Resource) (who : ℕ) → pair_in who (pairs_on new at) ≡ pair_in who (pairs_on old at)

abbrev pub Keeps : Index → Index → Type 0
Keeps old new = (of : Span) (at : Resource) (who : ℕ) → pair_found new of at who ≡ pair_found old of at who

-- no pair of another session is
abbrev pub KeepsOthers : ℕ → Index → Index → Type 0
KeepsOthers session old new = (of : Span) (at : Resource) (who : ℕ) → (who == session) ≡ false → pair_found new of at who ≡ pair_found old of at who

-- the session's pairs of a span are taken away where it has such locks
abbrev pub Forgets : ℕ → List Lock → Span → Index → Index → Type 0
Forgets session locks span old new = (of : Span) (at : Resource) (who : ℕ)
    → pair_found new of at who ≡ changed_if (same_span span of && (has_lock (is_of span) at locks && who == session)) (λ old. none) (pair_found old of at who)

-- where no pair is, none is put
abbrev pub MaySet : Pair → Pair → Type 0
MaySet pair old = old ≡ none → pair ≡ none

-- ---- the table's invariant

-- the session's pairs are those that these locks make, each span's by itself
abbrev pub HasPairsOf : ℕ → List Lock → Index → Type 0
HasPairsOf session locks index = (span : Span) (on : Resource) → pair_found index span on session ≡ pair_on on (filter (is_of span) locks)

-- the pairs are those that the sessions' lists make, each span's by itself
pub record AreOfLists (lists : List (List Lock)) (index : Index) : Type 0 where
  pub long : length lists ≡ numbers
  pub pairs : (span : Span) (on : Resource) (who : ℕ) → pair_found index span on who ≡ pair_on on (filter (is_of span) (list_of who lists))
