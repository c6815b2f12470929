-- What each call makes of the store: its clauses, and its invariant.
use Rattle.std.proofs.Common.{Bor, ◌≡◌, ℕ, true, List, [], ◌∷◌, filter, map, length, Option, Some, None, Result, Ok, Err, OnOk, OnErr, refl, sym, ap, ◌∙◌, subst}
use Rattle.std.specs.BTreeSet.{BTreeSet}
use Rattle.std.specs.BTreeMap.{get}
use Rattle.std.specs.List.{cons_option, filter_map}
use Rattle.std.specs.Option.{option_copied}
use Rattle.std.specs.Ordering.{nat_cmp}
use Rattle.value_types.specs.declared.table_name.TableName.{TableName}
use Rattle.value_types.specs.declared.value.Value.{Value}
use Rattle.step_model.specs.declared.change.Change.{Change}
use Rattle.step_model.specs.Entries.{entry_at, pending_of, changes_by}
use Rattle.step_model.specs.Moves.{restore, settle, drop_pending}
use Rattle.row_store.specs.declared.owned.Owned.{Owned}
use Rattle.row_store.specs.declared.owned.Spot.{Spot}
use Rattle.row_store.specs.declared.parts.Parts.{Parts}
use Rattle.row_store.specs.Rows.{Stored, Rows, IsWellFormed, MayWrite, entries_of, at_key, pending_before}
use Rattle.row_store.specs.Places.{edit_at, put_in}
use Rattle.row_store.specs.Parts.{AreParts, rows_of}
use Rattle.row_store.specs.Owned.{IsStore, has_in, AreNoted, IsWorkNoted, is_noted, KeepsNoted, KeepsOthersNoted}
use Rattle.row_store.specs.Writes.{settled, dropped, back_stored, settled_left, dropped_left, back_left, change_in, pending_at, is_kept, new_stored, written}
use Rattle.row_store.proofs.Backs.{IsBack, is_back}
use Rattle.row_store.proofs.Ends.{IsEnded}
use Rattle.row_store.proofs.LookUps.{none_stored, some_stored}
use Rattle.row_store.proofs.Noted.{noted_more, noted_put, noted_written, tied_noted}
use Rattle.row_store.proofs.Puts.{place_tied}
use Rattle.row_store.proofs.Sets.{IsNew, IsWritten, is_new, is_written}
use Rattle.row_store.proofs.Steps.{all_edit, edit_found, stays}
use Rattle.row_store.proofs.Sweeping.{kept_map, all_map, noted_settled, noted_dropped, noted_back, back_reached}
use Rattle.row_store.proofs.Sweeps.{all_changes}
use Rattle.row_store.proofs.Walks.{is_settled, is_dropped}

-- ---- the ends of a transaction

module _ (session : ℕ) (old new : Parts) (before after : Owned) (store : IsStore old before) where
  module _ (left : AreParts new) (others : KeepsOthersNoted session before after) where
    pub settled_store : rows_of new ≡ filter_map (settled_left session) (rows_of old) → IsStore new after
    settled_store is =
        let rows : filter is_kept (map (settled session) (rows_of old)) ≡ rows_of new = sym (is ∙ kept_map (settled session) (rows_of old)) in
        record {
          parts = left;
          well_formed = subst IsWellFormed rows (is_settled session (rows_of old) store.well_formed).well_formed;
          noted = subst (AreNoted after) rows (noted_settled session before after others (rows_of old) store.noted);
        }

    pub dropped_store : rows_of new ≡ filter_map (dropped_left session) (rows_of old) → IsStore new after
    dropped_store is =
        let rows : filter is_kept (map (dropped session) (rows_of old)) ≡ rows_of new = sym (is ∙ kept_map (dropped session) (rows_of old)) in
        record {
          parts = left;
          well_formed = subst IsWellFormed rows (is_dropped session (rows_of old) store.well_formed).well_formed;
          noted = subst (AreNoted after) rows (noted_dropped session before after others (rows_of old) store.noted);
        }

  module _ (now : Rows) (same : rows_of old ≡ now) where
    pub settled_rows : rows_of new ≡ filter_map (settled_left session) (rows_of old) → IsEnded session (settle session) now (rows_of new)
    settled_rows is =
        subst (λ (rows : Rows). IsEnded session (settle session) rows (rows_of new)) same
        (subst (IsEnded session (settle session) (rows_of old)) (sym (is ∙ kept_map (settled session) (rows_of old)))
        (is_settled session (rows_of old) store.well_formed))

    pub dropped_rows : rows_of new ≡ filter_map (dropped_left session) (rows_of old) → IsEnded session (drop_pending session) now (rows_of new)
    dropped_rows is =
        subst (λ (rows : Rows). IsEnded session (drop_pending session) rows (rows_of new)) same
        (subst (IsEnded session (drop_pending session) (rows_of old)) (sym (is ∙ kept_map (dropped session) (rows_of old)))
        (is_dropped session (rows_of old) store.well_formed))

    pub changes_are : filter_map (change_in session) (rows_of old) ≡ changes_by session (entries_of now)
    changes_are = all_changes session (rows_of old) store.well_formed.sound ∙ ap (λ (rows : Rows). changes_by session (entries_of rows)) same

-- ---- the way back

module _ (session mark : ℕ) (old new : Parts) (owned : Owned) (store : IsStore old owned) where
  pub back_store : AreParts new → rows_of new ≡ filter_map (back_left session mark) (rows_of old) → IsStore new owned
  back_store left is =
      let rows : map (back_stored session mark) (rows_of old) ≡ rows_of new = sym (is ∙ all_map (back_stored session mark) (rows_of old)) in
      record {
        parts = left;
        well_formed = subst IsWellFormed rows (is_back session mark (rows_of old) store.well_formed).well_formed;
        noted = subst (AreNoted owned) rows (noted_back session mark owned (rows_of old) store.noted);
      }

  pub back_rows : (now : Rows) → rows_of old ≡ now → rows_of new ≡ filter_map (back_left session mark) (rows_of old) → IsBack session mark now (rows_of new)
  back_rows now same is =
      subst (λ (rows : Rows). IsBack session mark rows (rows_of new)) same
      (subst (IsBack session mark (rows_of old)) (sym (is ∙ all_map (back_stored session mark) (rows_of old)))
      (is_back session mark (rows_of old) store.well_formed))

-- where nothing is noted for the session, there is nothing to take back
pub back_none : (session mark : ℕ) (old : Parts) (owned : Owned) → IsStore old owned → (now : Rows) → rows_of old ≡ now
    → (r : Option (Bor (BTreeSet Spot))) → ((spots : Bor (BTreeSet Spot)) → r ≡ Some spots → ⊥) → option_copied r ≡ get nat_cmp owned.by_session session
    → entries_of now ≡ map (restore session (pending_before session mark now)) (entries_of now)
back_none session mark old owned store now same (Some spots) none is = absurd (none spots refl)
back_none session mark old owned store now same None none is =
    let reached = back_reached session owned [] (λ table key. ap (λ o. has_in o table key) is) mark (rows_of old) store.noted in
    ap entries_of (sym same) ∙ (back_rows session mark old old owned store now same (sym (stays (back_left session mark) (rows_of old) reached))).entries

-- ---- what is pending

pending_all : (session : ℕ) (xs : Rows) → filter_map (pending_at session) xs ≡ pending_of session (entries_of xs)
pending_all session [] = refl
pending_all session (x ∷ xs) = ap (cons_option (pending_at session x)) (pending_all session xs)

pub pending_are : (session : ℕ) (rows now : Rows) → rows ≡ now
    → length (filter_map (pending_at session) rows) ≡ length (pending_of session (entries_of now))
pending_are session rows now same =
    ap (λ (cs : List Change). length cs) (pending_all session rows ∙ ap (λ (xs : Rows). pending_of session (entries_of xs)) same)

-- ---- writing

module _ (session level : ℕ) (table : TableName) (key : List Value) (old new : Parts) (before after : Owned) (store : IsStore old before) (noted : is_noted after session table key ≡ true) (keeps : KeepsNoted before after) (left : AreParts new) where
  pub new_store : (row : List Value) → entry_at (entries_of (rows_of old)) table key ≡ None
      → rows_of new ≡ put_in (new_stored session level table key row) (rows_of old) → IsStore new after
  new_store row free is =
      let put = sym is in
      record {
        parts = left;
        well_formed = subst IsWellFormed put (is_new session level table key row (rows_of old) store.well_formed free).well_formed;
        noted = subst (AreNoted after) put (noted_put after (new_stored session level table key row) noted (rows_of old) (noted_more before after keeps (rows_of old) store.noted));
      }

  pub written_store : (row : Option (List Value)) (one : Stored) → at_key (rows_of old) table key ≡ Some one → MayWrite session (rows_of old) table key
      → rows_of new ≡ edit_at (λ o. Some (written session level key row one)) table key (rows_of old) → IsStore new after
  written_store row one found may is =
      let put = sym is in
      let mine : is_noted after session one.table one.key ≡ true =
      sym (tied_noted after session table key one.table one.key (place_tied table key (rows_of old) one found)) ∙ noted in
      record {
        parts = left;
        well_formed = subst IsWellFormed put (is_written session level table key row (rows_of old) one store.well_formed found may).well_formed;
        noted = subst (AreNoted after) put
            (all_edit table key (λ o. IsWorkNoted after o o.work) (λ o. Some (written session level key row one))
            (λ o now tied is before. subst (λ (s : Stored). IsWorkNoted after s s.work) (just is) (noted_written after session level key row one mine)) (rows_of old)
            (noted_more before after keeps (rows_of old) store.noted));
      }
    where
      just : {a b : Stored} → Some a ≡ Some b → a ≡ b
      just is = cc

-- where more is noted alone, it is a store still
pub more_store : (old new : Parts) (before after : Owned) → IsStore old before → KeepsNoted before after → AreParts new → rows_of new ≡ rows_of old
    → IsStore new after
more_store old new before after store keeps left is = record {
  parts = left;
  well_formed = subst IsWellFormed (sym is) store.well_formed;
  noted = subst (AreNoted after) (sym is) (noted_more before after keeps (rows_of old) store.noted);
}

-- ---- writing, whether there is memory or not

module _ (session level : ℕ) (table : TableName) (key : List Value) (old new : Parts) (before : Owned) (now : Rows) (same : rows_of old ≡ now) (store : IsStore old before) where
  module _ (row : List Value) (stored : Stored) (made : stored ≡ new_stored session level table key row) (free : entry_at (entries_of now) table key ≡ None) where
    free_inside : entry_at (entries_of (rows_of old)) table key ≡ None
    free_inside = ap (λ (rows : Rows). entry_at (entries_of rows) table key) same ∙ free

    pub free_there : at_key (rows_of old) stored.table stored.key ≡ None
    free_there = subst (λ (s : Stored). at_key (rows_of old) s.table s.key ≡ None) (sym made) (none_stored (rows_of old) table key free_inside)

    pub new_rows : rows_of new ≡ put_in stored (rows_of old) → IsNew session level table key row now (rows_of new)
    new_rows is =
        subst (λ (rows : Rows). IsNew session level table key row rows (rows_of new)) same
        (subst (IsNew session level table key row (rows_of old)) (sym (is ∙ ap (λ (s : Stored). put_in s (rows_of old)) made))
        (is_new session level table key row (rows_of old) store.well_formed free_inside))

    pub inserted_store : {T E : Type 0} (after : Owned) → is_noted after session table key ≡ true → KeepsNoted before after → AreParts new
        → (result : Result T E) → OnOk result (rows_of new ≡ put_in stored (rows_of old)) → OnErr result (rows_of new ≡ rows_of old) → IsStore new after
    inserted_store after noted keeps left (Ok value) put kept =
        new_store session level table key old new before after store noted keeps left row free_inside (put ∙ ap (λ (s : Stored). put_in s (rows_of old)) made)
    inserted_store after noted keeps left (Err error) put kept = more_store old new before after store keeps left kept

  module _ (row : Option (List Value)) (may : MayWrite session now table key) where
    may_inside : MayWrite session (rows_of old) table key
    may_inside = subst (λ (rows : Rows). MayWrite session rows table key) (sym same) may

    stands : (o : Option Stored) → at_key (rows_of old) table key ≡ o → (P : Type 0) → ((one : Stored) → at_key (rows_of old) table key ≡ Some one → P) → P
    stands None found P go = absurd (some_stored (rows_of old) table key may_inside.stands found)
    stands (Some one) found P go = go one found

    one_written : (one : Stored) → at_key (rows_of old) table key ≡ Some one
        → rows_of new ≡ edit_at (λ o. Some (written session level key row o)) table key (rows_of old)
        → rows_of new ≡ edit_at (λ o. Some (written session level key row one)) table key (rows_of old)
    one_written one found is =
        is ∙ edit_found table key (λ o. Some (written session level key row o)) (λ o. Some (written session level key row one)) (rows_of old) one found refl

    pub written_rows : rows_of new ≡ edit_at (λ o. Some (written session level key row o)) table key (rows_of old)
        → IsWritten session level table key row now (rows_of new)
    written_rows is =
        stands (at_key (rows_of old) table key) refl (IsWritten session level table key row now (rows_of new))
        (λ one found.
        subst (λ (rows : Rows). IsWritten session level table key row rows (rows_of new)) same
        (subst (IsWritten session level table key row (rows_of old)) (sym (one_written one found is))
        (is_written session level table key row (rows_of old) one store.well_formed found may_inside)))

    pub wrote_store : {T E : Type 0} (after : Owned) → is_noted after session table key ≡ true → KeepsNoted before after → AreParts new
        → (result : Result T E) → OnOk result (rows_of new ≡ edit_at (λ o. Some (written session level key row o)) table key (rows_of old))
        → OnErr result (rows_of new ≡ rows_of old) → IsStore new after
    wrote_store after noted keeps left (Ok value) wrote kept =
        stands (at_key (rows_of old) table key) refl (IsStore new after)
        (λ one found. written_store session level table key old new before after store noted keeps left row one found may_inside (one_written one found wrote))
    wrote_store after noted keeps left (Err error) wrote kept = more_store old new before after store keeps left kept
