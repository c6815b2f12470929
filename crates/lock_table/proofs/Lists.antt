-- The table after a call: one session's list is another one, and its pairs are those that this list makes.
use Rattle.std.proofs.Common.{◌≡◌, ◌<◌, ◌==◌, ℕ, Bool, true, false, ◌&&◌, ◌||◌, ◌+◌, if◌then◌else◌, List, [], ◌∷◌, ◌++◌, filter, drop, length, set, get_or, length-set, get_or-set_same, get_or-set_other, Result, Ok, Err, OnOk, OnErr, refl, sym, ap, ◌∙◌, subst, eqb-true, eq-eqb, arith}
use Rattle.std.proofs.lemmas.List.{drop_more}
use Rattle.lock_modes.specs.declared.Pair.{Pair}
use Rattle.lock_modes.specs.Join.{join_pairs}
use Rattle.lock_modes.specs.Modes.{none}
use Rattle.step_model.specs.declared.resource.Resource.{Resource}
use Rattle.step_model.specs.declared.resource.Span.{Span}
use Rattle.step_model.specs.declared.resource.Span.TheVariants.{Statement, Transaction}
use Rattle.step_model.specs.Locks.{Lock, pair_on, has_lock, same_resource}
use Rattle.lock_table.specs.declared.index.Index.{Index}
use Rattle.lock_table.specs.Table.{of_session, ChangesLocks, KeepsLocks}
use Rattle.lock_table.specs.BySession.{numbers, list_of, all_from, is_of, same_span, changed_if}
use Rattle.lock_table.specs.Places.{pair_found, Changes, Keeps, KeepsOthers, Forgets, HasPairsOf, AreOfLists, MaySet}
use Rattle.lock_table.proofs.Fronts.{whole_of}
use Rattle.lock_table.proofs.Joins.{pair_of_both, pair_of_push, pair_same, none_before, forgotten, none_brief, all_whole, has_same}
use Rattle.lock_table.proofs.Numbers.{of_lists}

-- ---- one session's list

own_of : (lists : List (List Lock)) (session : ℕ) (own : List Lock) → session < length lists → list_of session (set lists session own) ≡ own
own_of lists session own within = get_or-set_same lists session own [] within

other_of : (lists : List (List Lock)) (session who : ℕ) (own : List Lock) → (who == session) ≡ false → list_of who (set lists session own) ≡ list_of who lists
other_of lists session who own apart = get_or-set_other lists session who own [] (λ same. absurd (grind (arith, apart, same)))

-- the lists after one has changed
pub lists_changed : (lists : List (List Lock)) (session : ℕ) (own : List Lock) (f : List Lock → List Lock) → session < length lists → own ≡ f (list_of session lists)
    → ChangesLocks session f (all_from 0 lists) (all_from 0 (set lists session own))
lists_changed lists session own f within is who =
    of_lists who (set lists session own) ∙ by_test (who == session) refl
  where
    by_test : (b : Bool) → (who == session) ≡ b → list_of who (set lists session own) ≡ (if b then f (of_session who (all_from 0 lists)) else of_session who (all_from 0 lists))
    by_test true same =
        let here : who ≡ session = eqb-true who session same in
        rw here (own_of lists session own within ∙ is ∙ ap f (sym (of_lists session lists)))
    by_test false apart = other_of lists session who own apart ∙ sym (of_lists who lists)

pub lists_kept : (lists : List (List Lock)) (session : ℕ) (own : List Lock) → session < length lists → own ≡ list_of session lists
    → KeepsLocks (all_from 0 lists) (all_from 0 (set lists session own))
lists_kept lists session own within is who = lists_changed lists session own (λ locks. locks) within is who ∙ by_test (who == session)
  where
    by_test : (b : Bool) → (if b then of_session who (all_from 0 lists) else of_session who (all_from 0 lists)) ≡ of_session who (all_from 0 lists)
    by_test true = refl
    by_test false = refl

-- and the index, where the session's pairs are those of its new list and the others' are as before
pub relisted : (lists : List (List Lock)) (index new : Index) (session : ℕ) (own : List Lock) → session < length lists → AreOfLists lists index
    → HasPairsOf session own new → KeepsOthers session index new
    → AreOfLists (set lists session own) new
relisted lists index new session own within were mine others = record {
  long = length-set lists session own ∙ were.long;
  pairs = λ span on who. by_test span on who (who == session) refl;
}
  where
    by_test : (span : Span) (on : Resource) (who : ℕ) (b : Bool) → (who == session) ≡ b → pair_found new span on who ≡ pair_on on (filter (is_of span) (list_of who (set lists session own)))
    by_test span on who true same =
        let here : who ≡ session = eqb-true who session same in
        rw here (mine span on ∙ ap (λ (ls : List Lock). pair_on on (filter (is_of span) ls)) (sym (own_of lists session own within)))
    by_test span on who false apart = others span on who apart ∙ were.pairs span on who ∙ ap (λ (ls : List Lock). pair_on on (filter (is_of span) ls)) (sym (other_of lists session who own apart))

-- ---- what is changed of one session

not_here : (a b : Bool) (f : Pair → Pair) (old : Pair) → changed_if (a && (b && false)) f old ≡ old
not_here true true f old = refl
not_here true false f old = refl
not_here false b f old = refl

here_only : (a b : Bool) (f : Pair → Pair) (old : Pair) → changed_if (a && (b && true)) f old ≡ changed_if (a && b) f old
here_only true true f old = refl
here_only true false f old = refl
here_only false b f old = refl

itself : (session : ℕ) → (session == session) ≡ true
itself session = eq-eqb session session refl

pub others_kept : (span : Span) (on : Resource) (session : ℕ) (f : Pair → Pair) (old new : Index) → Changes span on session f old new → KeepsOthers session old new
others_kept span on session f old new changes of at who apart = changes of at who ∙ rw apart (not_here (same_span span of) (same_resource on at) f (pair_found old of at who))

own_changed : (span : Span) (on : Resource) (session : ℕ) (f : Pair → Pair) (old new : Index) → Changes span on session f old new
    → (of : Span) (at : Resource) → pair_found new of at session ≡ changed_if (same_span span of && same_resource on at) f (pair_found old of at session)
own_changed span on session f old new changes of at = changes of at session ∙ rw (itself session) (here_only (same_span span of) (same_resource on at) f (pair_found old of at session))

-- ---- after a grant

granted : (lists : List (List Lock)) (index new : Index) (session : ℕ) (lock : Lock) → session < length lists → AreOfLists lists index
    → Changes lock.span lock.on session (λ old. join_pairs old lock.pair) index new → AreOfLists (set lists session (list_of session lists ++ lock ∷ [])) new
granted lists index new session lock within were changes =
    relisted lists index new session (list_of session lists ++ lock ∷ []) within were
    (λ span on. own_changed lock.span lock.on session (λ old. join_pairs old lock.pair) index new changes span on
    ∙ ap (changed_if (same_span lock.span span && same_resource lock.on on) (λ old. join_pairs old lock.pair)) (were.pairs span on session)
    ∙ sym (pair_of_push span on lock (list_of session lists)))
    (others_kept lock.span lock.on session (λ old. join_pairs old lock.pair) index new changes)

kept : (lists : List (List Lock)) (index new : Index) (session : ℕ) → session < length lists → AreOfLists lists index → Keeps index new → AreOfLists (set lists session (list_of session lists)) new
kept lists index new session within were keeps =
    relisted lists index new session (list_of session lists) within were
    (λ span on. keeps span on session ∙ were.pairs span on session)
    (λ span on who apart. keeps span on who)

-- whether it was granted or not
pub granted_or_kept : {A E : Type 0} (result : Result A E) (lists : List (List Lock)) (index new : Index) (session : ℕ) (lock : Lock) (was own : List Lock) → session < length lists → AreOfLists lists index → was ≡ list_of session lists
    → OnOk result (own ≡ was ++ lock ∷ []) → OnOk result (Changes lock.span lock.on session (λ old. join_pairs old lock.pair) index new)
    → OnErr result (own ≡ was) → OnErr result (Keeps index new) → AreOfLists (set lists session own) new
granted_or_kept (Ok a) lists index new session lock was own within were listed is changes _ _ =
    subst (λ (ls : List Lock). AreOfLists (set lists session ls) new) (sym (is ∙ ap (λ (ls : List Lock). ls ++ lock ∷ []) listed)) (granted lists index new session lock within were changes)
granted_or_kept (Err e) lists index new session lock was own within were listed _ _ is keeps =
    subst (λ (ls : List Lock). AreOfLists (set lists session ls) new) (sym (is ∙ listed)) (kept lists index new session within were keeps)

-- ---- after locks are taken away

forgets_others : (session : ℕ) (locks : List Lock) (span : Span) (old new : Index) → Forgets session locks span old new → KeepsOthers session old new
forgets_others session locks span old new forgets of at who apart = forgets of at who ∙ rw apart (not_here (same_span span of) (has_lock (is_of span) at locks) (λ p. none) (pair_found old of at who))

forgets_own : (session : ℕ) (locks : List Lock) (span : Span) (old new : Index) → Forgets session locks span old new
    → (of : Span) (at : Resource) → pair_found new of at session ≡ changed_if (same_span span of && has_lock (is_of span) at locks) (λ p. none) (pair_found old of at session)
forgets_own session locks span old new forgets of at = forgets of at session ∙ rw (itself session) (here_only (same_span span of) (has_lock (is_of span) at locks) (λ p. none) (pair_found old of at session))

-- a walk over other locks takes the same away, where those of the span are the same
pub forgets_same : (session : ℕ) (xs ys : List Lock) (span : Span) (old new : Index) → filter (is_of span) xs ≡ filter (is_of span) ys → Forgets session xs span old new → Forgets session ys span old new
forgets_same session xs ys span old new same forgets of at who =
    forgets of at who
    ∙ ap (λ (b : Bool). changed_if (same_span span of && (b && who == session)) (λ p. none) (pair_found old of at who)) (has_same (is_of span) at xs ys same)

-- a turn of the walk: the lock is of the span, and its pair was taken away; or it is not
pub forget_then : (span : Span) (s w : Bool) (at on : Resource) (xs : List Lock) (i : ℕ) (x : Lock) (old : Pair) → i < length xs → x ≡ get_or xs i x → on ≡ x.on → is_of span x ≡ true
    → changed_if (s && (has_lock (is_of span) at (drop (i + 1) xs) && w)) (λ p. none) (changed_if (s && (same_resource on at && w)) (λ p. none) old) ≡ changed_if (s && (has_lock (is_of span) at (drop i xs) && w)) (λ p. none) old
forget_then span s w at on xs i x old within is there of = rw (drop_more xs i x within, ← is, there, of) (by_test s w (same_resource x.on at) (has_lock (is_of span) at (drop (i + 1) xs)))
  where
    by_test : (s w b h : Bool) → changed_if (s && (h && w)) (λ p. none) (changed_if (s && (b && w)) (λ p. none) old) ≡ changed_if (s && ((b && true || h) && w)) (λ p. none) old
    by_test false w b h = refl
    by_test true false false false = refl
    by_test true false false true = refl
    by_test true false true false = refl
    by_test true false true true = refl
    by_test true true false false = refl
    by_test true true false true = refl
    by_test true true true false = refl
    by_test true true true true = refl

pub forget_else : (span : Span) (s w : Bool) (at : Resource) (xs : List Lock) (i : ℕ) (x : Lock) (old : Pair) → i < length xs → x ≡ get_or xs i x → is_of span x ≡ false
    → changed_if (s && (has_lock (is_of span) at (drop (i + 1) xs) && w)) (λ p. none) old ≡ changed_if (s && (has_lock (is_of span) at (drop i xs) && w)) (λ p. none) old
forget_else span s w at xs i x old within is of = rw (drop_more xs i x within, ← is, of) (by_test (same_resource x.on at) (has_lock (is_of span) at (drop (i + 1) xs)))
  where
    by_test : (b h : Bool) → changed_if (s && (h && w)) (λ p. none) old ≡ changed_if (s && ((b && false || h) && w)) (λ p. none) old
    by_test true h = refl
    by_test false h = refl

pub relaxed : (lists : List (List Lock)) (index new : Index) (session : ℕ) → session < length lists → AreOfLists lists index
    → Forgets session (list_of session lists) Statement index new → AreOfLists (set lists session (whole_of (list_of session lists))) new
relaxed lists index new session within were forgets =
    relisted lists index new session (whole_of own) within were by_span (forgets_others session own Statement index new forgets)
  where
    own : List Lock
    own = list_of session lists

    by_span : (span : Span) (on : Resource) → pair_found new span on session ≡ pair_on on (filter (is_of span) (whole_of own))
    by_span Statement on =
        forgets_own session own Statement index new forgets Statement on
        ∙ ap (changed_if (has_lock (is_of Statement) on own) (λ p. none)) (were.pairs Statement on session)
        ∙ forgotten (is_of Statement) on own
        ∙ ap (pair_on on) (sym (none_brief own))
    by_span Transaction on =
        forgets_own session own Statement index new forgets Transaction on
        ∙ were.pairs Transaction on session
        ∙ ap (pair_on on) (sym (all_whole own))

pub released : (lists : List (List Lock)) (index half new : Index) (session : ℕ) → session < length lists → AreOfLists lists index
    → Forgets session (list_of session lists) Statement index half → Forgets session (list_of session lists) Transaction half new → AreOfLists (set lists session []) new
released lists index half new session within were first second =
    relisted lists index new session [] within were by_span
    (λ of at who apart. forgets_others session own Transaction half new second of at who apart ∙ forgets_others session own Statement index half first of at who apart)
  where
    own : List Lock
    own = list_of session lists

    by_span : (span : Span) (on : Resource) → pair_found new span on session ≡ pair_on on (filter (is_of span) [])
    by_span Statement on =
        forgets_own session own Transaction half new second Statement on
        ∙ forgets_own session own Statement index half first Statement on
        ∙ ap (changed_if (has_lock (is_of Statement) on own) (λ p. none)) (were.pairs Statement on session)
        ∙ forgotten (is_of Statement) on own
    by_span Transaction on =
        forgets_own session own Transaction half new second Transaction on
        ∙ ap (changed_if (has_lock (is_of Transaction) on own) (λ p. none)) (forgets_own session own Statement index half first Transaction on ∙ were.pairs Transaction on session)
        ∙ forgotten (is_of Transaction) on own

-- ---- after the latest lock is taken back

-- the pair that is left of a span on a resource is put where the lock's was
left_there : (a b : Span) (on at : Resource) (ls : List Lock) (test : Bool) → (same_span a b && same_resource on at) ≡ test → (pair : Pair)
    → changed_if test (λ p. pair_on on (filter (is_of a) ls)) (changed_if test (λ old. join_pairs old pair) (pair_on at (filter (is_of b) ls))) ≡ pair_on at (filter (is_of b) ls)
left_there a b on at ls false is pair = refl
left_there Statement Statement on at ls true is pair = pair_same on at is (filter (is_of Statement) ls)
left_there Transaction Transaction on at ls true is pair = pair_same on at is (filter (is_of Transaction) ls)
left_there Statement Transaction on at ls true is pair = absurd (cc)
left_there Transaction Statement on at ls true is pair = absurd (cc)

pub taken_back : (session : ℕ) (left : List Lock) (lock : Lock) (old new : Index) → HasPairsOf session (left ++ lock ∷ []) old
    → Changes lock.span lock.on session (λ p. pair_on lock.on (filter (is_of lock.span) left)) old new → HasPairsOf session left new
taken_back session left lock old new had changes span on =
    own_changed lock.span lock.on session (λ p. pair_on lock.on (filter (is_of lock.span) left)) old new changes span on
    ∙ ap (changed_if (same_span lock.span span && same_resource lock.on on) (λ p. pair_on lock.on (filter (is_of lock.span) left))) (had span on ∙ pair_of_push span on lock left)
    ∙ left_there lock.span span lock.on on left (same_span lock.span span && same_resource lock.on on) refl lock.pair

-- where the pair is none with the lock, it is without
pub may_take_back : (session : ℕ) (left : List Lock) (lock : Lock) (old : Index) → HasPairsOf session (left ++ lock ∷ []) old → MaySet (pair_on lock.on (filter (is_of lock.span) left)) (pair_found old lock.span lock.on session)
may_take_back session left lock old had is =
    none_before (same_span lock.span lock.span && same_resource lock.on lock.on) (pair_on lock.on (filter (is_of lock.span) left)) lock.pair
    (sym (had lock.span lock.on ∙ pair_of_push lock.span lock.on lock left) ∙ is)

-- ---- what is found

-- both spans together
pub pair_listed : (lists : List (List Lock)) (index : Index) → AreOfLists lists index → (on : Resource) (who : ℕ)
    → join_pairs (pair_found index Statement on who) (pair_found index Transaction on who) ≡ pair_on on (of_session who (all_from 0 lists))
pair_listed lists index are on who =
    ap (λ (p : Pair). join_pairs p (pair_found index Transaction on who)) (are.pairs Statement on who)
    ∙ ap (join_pairs (pair_on on (filter (is_of Statement) (list_of who lists)))) (are.pairs Transaction on who)
    ∙ pair_of_both on (list_of who lists)
    ∙ ap (pair_on on) (sym (of_lists who lists))

-- where no session has a lock
pub none_listed : (lists : List (List Lock)) (index : Index) → length lists ≡ numbers → ((who : ℕ) → list_of who lists ≡ []) → ((span : Span) (on : Resource) (who : ℕ) → pair_found index span on who ≡ none) → AreOfLists lists index
none_listed lists index long empty nothing = record {
  long = long;
  pairs = λ span on who. nothing span on who ∙ ap (λ (ls : List Lock). pair_on on (filter (is_of span) ls)) (sym (empty who));
}
