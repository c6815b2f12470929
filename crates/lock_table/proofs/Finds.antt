-- What is found on a resource after an entry of a map has changed.
use Rattle.std.proofs.Common.{◌≡◌, ℕ, Bool, true, false, cond, ◌&&◌, ◌==◌, List, Option, None, sym, ap, ◌∙◌}
use Rattle.std.specs.BTreeMap.{BTreeMap, get}
use Rattle.std.specs.Ordering.{is_eq}
use Rattle.std.specs.declared.cmp.Ordering.{Ordering}
use Rattle.lock_modes.specs.declared.Pair.{Pair}
use Rattle.lock_modes.specs.Modes.{none}
use Rattle.value_types.specs.declared.value.Value.{Value}
use Rattle.value_types.specs.declared.table_name.TableName.{TableName}
use Rattle.value_types.specs.Order.{key_cmp, table_cmp}
use Rattle.value_types.specs.OrderLaws.{key_cmp_total, table_cmp_total}
use Rattle.step_model.specs.declared.resource.Place.{Place}
use Rattle.step_model.specs.declared.resource.Resource.{Resource}
use Rattle.step_model.specs.Locks.{same_place}
use Rattle.lock_table.specs.BySession.{changed_if}
use Rattle.lock_table.specs.Places.{Keys, Tables, pair_in, pairs_in, pairs_on, ChangesAtKey, ChangesOn, KeepsAtKeys, KeepsOn, MaySet}
use Rattle.lock_table.specs.declared.by_place.ByPlace.{ByPlace}
use Rattle.lock_table.proofs.Maps.{put, keep, and_assoc, absent_stays}

-- a map has w at a key, and at each other what it had
abbrev pub Sets : {K X : Type 0} → (K → K → Ordering) → BTreeMap K X → BTreeMap K X → K → Option X → Type 0
Sets {K} cmp old new k w = (q : K) → get cmp new q ≡ cond (is_eq (cmp k q)) w (get cmp old q)

-- ---- at keys

pub put_at : (old new : Keys) (key : List Value) (session : ℕ) (f : Pair → Pair) (w : Option (List Pair)) → Sets key_cmp old new key w
    → ((who : ℕ) → pair_in who w ≡ changed_if (who == session) f (pair_in who (get key_cmp old key))) → ChangesAtKey key session f old new
put_at old new key session f w sets is at who = put key_cmp key_cmp_total old new key w sets (pair_in who) (who == session) f (is who) at

pub keep_at : (old new : Keys) (key : List Value) (w : Option (List Pair)) → Sets key_cmp old new key w
    → ((who : ℕ) → pair_in who w ≡ pair_in who (get key_cmp old key)) → KeepsAtKeys old new
keep_at old new key w sets is at who = keep key_cmp key_cmp_total old new key w sets (pair_in who) (is who) at

-- what is put where none is
none_put : (b : Bool) (pair old : Pair) → old ≡ none → pair ≡ none → none ≡ changed_if b (λ p. pair) old
none_put true pair old was is = sym is
none_put false pair old was is = sym was

pub stay_at : (keys : Keys) (key : List Value) (session : ℕ) (pair : Pair) → get key_cmp keys key ≡ None → MaySet pair (pair_in session (get key_cmp keys key)) → ChangesAtKey key session (λ old. pair) keys keys
stay_at keys key session pair absent may =
    put_at keys keys key session (λ old. pair) None (absent_stays key_cmp key_cmp_total keys key absent)
    (λ who. none_put (who == session) pair (pair_in who (get key_cmp keys key)) (ap (pair_in who) absent) (may (ap (pair_in session) absent)))

-- ---- on resources

pub put_on : (old new : Tables) (on : Resource) (session : ℕ) (f : Pair → Pair) (w : Option ByPlace) → Sets table_cmp old new on.table w
    → ((place : Place) (who : ℕ) → pair_in who (pairs_in w place) ≡ changed_if (same_place on.place place && who == session) f (pair_in who (pairs_in (get table_cmp old on.table) place))) → ChangesOn on session f old new
put_on old new on session f w sets is at who =
    put table_cmp table_cmp_total old new on.table w sets (λ o. pair_in who (pairs_in o at.place)) (same_place on.place at.place && who == session) f (is at.place who) at.table
    ∙ ap (λ (b : Bool). changed_if b f (pair_in who (pairs_on old at))) (sym (and_assoc (is_eq (table_cmp on.table at.table)) (same_place on.place at.place) (who == session)))

pub keep_on : (old new : Tables) (table : TableName) (w : Option ByPlace) → Sets table_cmp old new table w
    → ((place : Place) (who : ℕ) → pair_in who (pairs_in w place) ≡ pair_in who (pairs_in (get table_cmp old table) place)) → KeepsOn old new
keep_on old new table w sets is at who = keep table_cmp table_cmp_total old new table w sets (λ o. pair_in who (pairs_in o at.place)) (is at.place who) at.table

pub stay_on : (tables : Tables) (on : Resource) (session : ℕ) (pair : Pair) → get table_cmp tables on.table ≡ None → MaySet pair (pair_in session (pairs_on tables on)) → ChangesOn on session (λ old. pair) tables tables
stay_on tables on session pair absent may =
    put_on tables tables on session (λ old. pair) None (absent_stays table_cmp table_cmp_total tables on.table absent)
    (λ place who. none_put (same_place on.place place && who == session) pair (pair_in who (pairs_in (get table_cmp tables on.table) place))
    (ap (λ (o : Option ByPlace). pair_in who (pairs_in o place)) absent)
    (may (ap (λ (o : Option ByPlace). pair_in session (pairs_in o on.place)) absent)))
