-- Marks, and the way back to one.
use Rattle.std.proofs.Common.{◌≡◌, ℕ, ◌+◌, ◌≤◌, ◌==◌, nat_le, Bool, true, false, ◌||◌, if◌then◌else◌, List, [], ◌∷◌, ◌++◌, map, filter, Option, None, Some, refl, sym, ap, ◌∙◌, subst, eqb-true, eq-eqb, arith}
use Rattle.std.specs.List.{AllByRecursion, list_any}
use Rattle.std.proofs.lemmas.Bool.{leb-true}
use Rattle.std.specs.Option.{option_map}
use Rattle.value_types.specs.declared.value.Value.{Value}
use Rattle.step_model.specs.declared.change.Change.{Change}
use Rattle.step_model.specs.Log.{Commit as LogEntry}
use Rattle.step_model.specs.Entries.{Entry, pending_of}
use Rattle.step_model.specs.State.{Saved, Transaction, saved_of}
use Rattle.step_model.specs.Moves.{with_session_in, with_session, with_mark, after_mark, after_back, upto_mark, state_of_mark, restore, cut_marks as cut_saved}
use Rattle.history_laws.proofs.EntryLists.{all_filter}
use Rattle.row_store.specs.Rows.{Rows, entries_of, pending_before, KeepsMakers, KeepsPast}
use Rattle.lock_table.specs.Table.{SessionLock, of_session}
use Rattle.engine_core.specs.Transactions.{Opened, opened_in, made_of, made_in, marks_in, levels_of, levels_in, with_opened, add_mark, cut_marks, AreDistinct, AreNumbered}
use Rattle.engine_core.specs.Shown.{shown, shown_transaction, saved_at}
use Rattle.engine_core.specs.WellFormed.{IsIdle, IsHeld, AreHeld, IsReached}
use Rattle.engine_core.proofs.Sessions.{active_changed}
use Rattle.engine_core.proofs.Showing.{made_shown, saved_shown}
use Rattle.engine_core.proofs.Past.{AreUpTo, upto_made, past_same}

-- ---- the open transactions

module _ (session : ℕ) (f : Opened → Opened) (keeps : (t : Opened) → (f t).session ≡ t.session) where
  -- the transaction that is found after a change of one
  pub opened_changed : (who : ℕ) (ts : List Opened) → opened_in who (with_opened session f ts) ≡ (if who == session then option_map f (opened_in who ts) else opened_in who ts)
  opened_changed who [] = by_test (who == session)
    where
      by_test : (b : Bool) → ◌≡◌ {A = Option Opened} None (if b then None else None)
      by_test true = refl
      by_test false = refl
  opened_changed who (x ∷ ts) = by_tests (x.session == session) refl (x.session == who) refl (who == session) refl (opened_changed who ts)
    where
      by_tests : (a : Bool) → (x.session == session) ≡ a → (b : Bool) → (x.session == who) ≡ b → (c : Bool) → (who == session) ≡ c
          → opened_in who (with_opened session f ts) ≡ (if c then option_map f (opened_in who ts) else opened_in who ts)
          → opened_in who ((if a then f x else x) ∷ with_opened session f ts) ≡ (if c then option_map f (if b then Some x else opened_in who ts) else (if b then Some x else opened_in who ts))
      by_tests true is true also true third rest = rw (keeps x, also) refl
      by_tests true is true also false third rest = let no : true ≡ false = sym is ∙ ap (λ (n : ℕ). n == session) (eqb-true x.session who also) ∙ third in cc
      by_tests true is false also true third rest = rw (keeps x, also) rest
      by_tests true is false also false third rest = rw (keeps x, also) rest
      by_tests false is true also true third rest = let no : false ≡ true = sym is ∙ ap (λ (n : ℕ). n == session) (eqb-true x.session who also) ∙ third in cc
      by_tests false is true also false third rest = rw also refl
      by_tests false is false also true third rest = rw also rest
      by_tests false is false also false third rest = rw also rest

  -- a change that takes no level away
  pub reached_changed : (rows : Rows) → ((t : Opened) → t.made ≤ (f t).made) → (ts : List Opened) → IsReached rows ts → IsReached rows (with_opened session f ts)
  reached_changed rows grows ts reached who level above = reached who level (by_test (who == session) (rw (opened_changed who ts) at (more who above)))
    where
      more : (who : ℕ) → levels_in who (with_opened session f ts) ≤ level → levels_of (opened_in who (with_opened session f ts)) ≤ level
      more who above = above

      by_found : (o : Option Opened) → levels_of (option_map f o) ≤ level → levels_of o ≤ level
      by_found None above = above
      by_found (Some t) above = let grown = grows t in omega (arith, above, grown)

      by_test : (b : Bool) → levels_of (if b then option_map f (opened_in who ts) else opened_in who ts) ≤ level → levels_in who ts ≤ level
      by_test true above = by_found (opened_in who ts) above
      by_test false above = above

  pub idle_changed : (locks : List SessionLock) (ts : List Opened) → IsIdle locks ts → IsIdle locks (with_opened session f ts)
  idle_changed locks ts idle who closed = idle who (sym (active_changed session f keeps who ts) ∙ closed)

-- ---- one mark more

all_up : (n m : ℕ) → n ≤ m → (marks : List ℕ) → AllByRecursion (λ mark. mark ≤ n) marks → AllByRecursion (λ mark. mark ≤ m) (marks ++ m ∷ [])
all_up n m below [] all = (omega arith, tt)
all_up n m below (x ∷ marks) all = (let here : x ≤ n = all.0 in omega (arith, here, below), all_up n m below marks all.1)

numbered_all : (session upto mark : ℕ) → upto ≤ mark → (ts : List Opened) → AreUpTo session upto ts → AreNumbered ts → AreNumbered (with_opened session (add_mark mark) ts)
numbered_all session upto mark below [] all numbered = tt
numbered_all session upto mark below (x ∷ ts) all numbered = by_test (x.session == session) refl (numbered_all session upto mark below ts all.1 numbered.1)
  where
    by_test : (b : Bool) → (x.session == session) ≡ b → AreNumbered (with_opened session (add_mark mark) ts) → AreNumbered ((if b then add_mark mark x else x) ∷ with_opened session (add_mark mark) ts)
    by_test true is rest = (all_up upto mark below x.marks (all.0 (eqb-true x.session session is)), rest)
    by_test false is rest = (numbered.0, rest)

pub numbered_marked : (session : ℕ) (ts : List Opened) → AreDistinct ts → AreNumbered ts → (mark : ℕ) → mark ≡ made_in session ts + 1 → AreNumbered (with_opened session (add_mark mark) ts)
numbered_marked session ts distinct numbered mark is = numbered_all session (made_in session ts) mark (omega (arith, is)) ts (upto_made session ts distinct numbered) numbered

module _ (rows : Rows) (locks : List SessionLock) (session mark : ℕ) (pending : List Change) (is : pending_before session mark rows ≡ pending) where
  saved_more : (marks : List ℕ) → map (saved_at session rows) (marks ++ mark ∷ []) ≡ map (saved_at session rows) marks ++ record { mark = mark; pending = pending } ∷ []
  saved_more [] = ap (λ (p : List Change). record { mark = mark; pending = p } ∷ []) is
  saved_more (m ∷ marks) = ap (λ (ms : List Saved). saved_at session rows m ∷ ms) (saved_more marks)

  marked_all : (ts : List Opened) → map (shown_transaction rows locks) (with_opened session (add_mark mark) ts) ≡ with_session_in session (with_mark mark pending) (map (shown_transaction rows locks) ts)
  marked_all [] = refl
  marked_all (x ∷ ts) = by_test (x.session == session) refl (marked_all ts)
    where
      by_test : (b : Bool) → (x.session == session) ≡ b → map (shown_transaction rows locks) (with_opened session (add_mark mark) ts) ≡ with_session_in session (with_mark mark pending) (map (shown_transaction rows locks) ts)
          → shown_transaction rows locks (if b then add_mark mark x else x) ∷ map (shown_transaction rows locks) (with_opened session (add_mark mark) ts)
          ≡ (if b then with_mark mark pending (shown_transaction rows locks x) else shown_transaction rows locks x) ∷ with_session_in session (with_mark mark pending) (map (shown_transaction rows locks) ts)
      by_test true here rest =
          let same : session ≡ x.session = sym (eqb-true x.session session here) in
          let more = subst (λ (n : ℕ). map (saved_at n rows) (x.marks ++ mark ∷ []) ≡ map (saved_at n rows) x.marks ++ record { mark = mark; pending = pending } ∷ []) same (saved_more x.marks) in
          λ i. record { session = x.session; made = mark; marks = more i; locks = of_session x.session locks; wait = x.wait; victim = x.victim } ∷ rest i
      by_test false here rest = ap (λ (us : List Transaction). shown_transaction rows locks x ∷ us) rest

-- the model's next mark
pub mark_shown : (rows : Rows) (locks : List SessionLock) (session : ℕ) (ts : List Opened) (log : List LogEntry) (mark : ℕ) → mark ≡ made_in session ts + 1 → pending_before session mark rows ≡ pending_of session (entries_of rows)
    → shown rows locks (with_opened session (add_mark mark) ts) log ≡ after_mark session (shown rows locks ts log)
mark_shown rows locks session ts log mark is pending =
    ap (λ (a : List Transaction). record { entries = entries_of rows; active = a; log = log }) (marked_all rows locks session mark (pending_of session (entries_of rows)) pending ts)
    ∙ ap (λ (n : ℕ). with_session session (with_mark n (pending_of session (entries_of rows))) (shown rows locks ts log)) (is ∙ ap (λ (n : ℕ). n + 1) (sym (made_shown rows locks ts log session)))

-- ---- back to one

-- a live mark is one of those that are saved
pub live_saved : (mark : ℕ) (xs : List Saved) → list_any (λ (s : Saved). s.mark == mark) xs ≡ list_any (λ (n : ℕ). n == mark) (map (λ (s : Saved). s.mark) xs)
live_saved mark [] = refl
live_saved mark (x ∷ xs) = ap (λ (b : Bool). (x.mark == mark) || b) (live_saved mark xs)

module _ (session mark : ℕ) where
  cut_up : (marks : List ℕ) → AllByRecursion (λ m. m ≤ mark) (filter (λ live. nat_le live mark) marks)
  cut_up [] = tt
  cut_up (m ∷ marks) = by_test (nat_le m mark) refl (cut_up marks)
    where
      by_test : (b : Bool) → nat_le m mark ≡ b → AllByRecursion (λ m. m ≤ mark) (filter (λ live. nat_le live mark) marks) → AllByRecursion (λ m. m ≤ mark) (if b then m ∷ filter (λ live. nat_le live mark) marks else filter (λ live. nat_le live mark) marks)
      by_test true is rest = (leb-true m mark is, rest)
      by_test false is rest = rest

  upto_cut : (ts : List Opened) → AreUpTo session mark (with_opened session (cut_marks mark) ts)
  upto_cut [] = tt
  upto_cut (x ∷ ts) = by_test (x.session == session) refl (upto_cut ts)
    where
      by_test : (b : Bool) → (x.session == session) ≡ b → AreUpTo session mark (with_opened session (cut_marks mark) ts) → AreUpTo session mark ((if b then cut_marks mark x else x) ∷ with_opened session (cut_marks mark) ts)
      by_test true is rest = (λ same. cut_up x.marks, rest)
      by_test false is rest = (λ same. absurd (let h : true ≡ false = sym (eq-eqb x.session session same) ∙ is in cc), rest)

  module _ (rows : Rows) (locks : List SessionLock) where
    saved_cut : (who : ℕ) (marks : List ℕ) → map (saved_at who rows) (filter (λ live. nat_le live mark) marks) ≡ upto_mark mark (map (saved_at who rows) marks)
    saved_cut who [] = refl
    saved_cut who (m ∷ marks) = by_test (nat_le m mark) (saved_cut who marks)
      where
        by_test : (b : Bool) → map (saved_at who rows) (filter (λ live. nat_le live mark) marks) ≡ upto_mark mark (map (saved_at who rows) marks)
            → map (saved_at who rows) (if b then m ∷ filter (λ live. nat_le live mark) marks else filter (λ live. nat_le live mark) marks) ≡ (if b then saved_at who rows m ∷ upto_mark mark (map (saved_at who rows) marks) else upto_mark mark (map (saved_at who rows) marks))
        by_test true rest = ap (λ (ms : List Saved). saved_at who rows m ∷ ms) rest
        by_test false rest = rest

    cut_all : (ts : List Opened) → map (shown_transaction rows locks) (with_opened session (cut_marks mark) ts) ≡ with_session_in session (cut_saved mark) (map (shown_transaction rows locks) ts)
    cut_all [] = refl
    cut_all (x ∷ ts) = by_test (x.session == session) (cut_all ts)
      where
        by_test : (b : Bool) → map (shown_transaction rows locks) (with_opened session (cut_marks mark) ts) ≡ with_session_in session (cut_saved mark) (map (shown_transaction rows locks) ts)
            → shown_transaction rows locks (if b then cut_marks mark x else x) ∷ map (shown_transaction rows locks) (with_opened session (cut_marks mark) ts)
            ≡ (if b then cut_saved mark (shown_transaction rows locks x) else shown_transaction rows locks x) ∷ with_session_in session (cut_saved mark) (map (shown_transaction rows locks) ts)
        by_test true rest = λ i. record (shown_transaction rows locks x) { marks = saved_cut x.session x.marks i } ∷ rest i
        by_test false rest = ap (λ (us : List Transaction). shown_transaction rows locks x ∷ us) rest

    numbers_any : (who : ℕ) (marks : List ℕ) → list_any (λ (s : Saved). s.mark == mark) (map (saved_at who rows) marks) ≡ list_any (λ (n : ℕ). n == mark) marks
    numbers_any who [] = refl
    numbers_any who (m ∷ marks) = ap (λ (b : Bool). (m == mark) || b) (numbers_any who marks)

    -- what a live mark has saved
    state_there : (who : ℕ) (marks : List ℕ) → list_any (λ (s : Saved). s.mark == mark) (map (saved_at who rows) marks) ≡ true → state_of_mark mark (map (saved_at who rows) marks) ≡ pending_before who mark rows
    state_there who [] live = cc
    state_there who (m ∷ marks) live = by_others (list_any (λ (s : Saved). s.mark == mark) (map (saved_at who rows) marks)) live (state_there who marks)
      where
        by_others : (b : Bool) → (m == mark) || b ≡ true → (b ≡ true → state_of_mark mark (map (saved_at who rows) marks) ≡ pending_before who mark rows)
            → (if b then state_of_mark mark (map (saved_at who rows) marks) else (if m == mark then pending_before who m rows else [])) ≡ pending_before who mark rows
        by_others true live rest = rest refl
        by_others false live rest = by_first (m == mark) refl live
          where
            by_first : (a : Bool) → (m == mark) ≡ a → a || false ≡ true → (if a then pending_before who m rows else []) ≡ pending_before who mark rows
            by_first true is live = ap (λ (n : ℕ). pending_before who n rows) (eqb-true m mark is)
            by_first false is live = cc

    module _ (newer : Rows) (entries : entries_of newer ≡ map (restore session (pending_before session mark rows)) (entries_of rows)) where
      -- the model's way back
      pub back_shown : (ts : List Opened) (log : List LogEntry) → list_any (λ (s : Saved). s.mark == mark) (saved_of session (shown rows locks ts log)) ≡ true → KeepsPast session mark rows newer
          → shown newer locks (with_opened session (cut_marks mark) ts) log ≡ after_back session mark (shown rows locks ts log)
      back_shown ts log live past = λ i. record {
        entries = (entries ∙ ap (λ (p : List Change). map (restore session p) (entries_of rows)) (sym saved)) i;
        active = (past_same session mark rows newer past locks (with_opened session (cut_marks mark) ts) (upto_cut ts) ∙ cut_all ts) i;
        log = log;
      }
        where
          saved : state_of_mark mark (saved_of session (shown rows locks ts log)) ≡ pending_before session mark rows
          saved = ap (state_of_mark mark) (saved_shown rows locks ts log session)
              ∙ state_there session (marks_in session ts) (ap (list_any (λ (s : Saved). s.mark == mark)) (sym (saved_shown rows locks ts log session)) ∙ live)

      held_all : KeepsMakers rows newer → (es : List Entry) → AreHeld rows locks es → AreHeld newer locks (map (restore session (pending_before session mark rows)) es)
      held_all makers [] all = tt
      held_all makers (e ∷ es) all = (by_row e.committed all.0, held_all makers es all.1)
        where
          by_row : (o : Option (List Value)) → IsHeld rows locks e o → IsHeld newer locks (restore session (pending_before session mark rows) e) o
          by_row None held = λ who. makers who e.table e.key ∙ held who
          by_row (Some r) held = tt

      pub held_back : KeepsMakers rows newer → AreHeld rows locks (entries_of rows) → AreHeld newer locks (entries_of newer)
      held_back makers held = subst (AreHeld newer locks) (sym entries) (held_all makers (entries_of rows) held)

pub numbered_cut : (mark : ℕ) (t : Opened) → AllByRecursion (λ m. m ≤ t.made) t.marks → AllByRecursion (λ m. m ≤ (cut_marks mark t).made) (cut_marks mark t).marks
numbered_cut mark t all = all_filter (λ m. m ≤ t.made) (λ live. nat_le live mark) t.marks all

-- levels after a mark
pub reached_marked : (rows : Rows) (session : ℕ) (ts : List Opened) (mark : ℕ) → mark ≡ made_in session ts + 1 → IsReached rows ts → IsReached rows (with_opened session (add_mark mark) ts)
reached_marked rows session ts mark is reached who level above = reached who level (by_test (who == session) refl (rw (opened_changed session (add_mark mark) (λ t. refl) who ts) at (found above)))
  where
    found : levels_in who (with_opened session (add_mark mark) ts) ≤ level → levels_of (opened_in who (with_opened session (add_mark mark) ts)) ≤ level
    found above = above

    by_found : (o : Option Opened) → mark ≡ made_of o + 1 → levels_of (option_map (add_mark mark) o) ≤ level → levels_of o ≤ level
    by_found None next above = above
    by_found (Some t) next above = omega (arith, next, above)

    by_test : (b : Bool) → (who == session) ≡ b → levels_of (if b then option_map (add_mark mark) (opened_in who ts) else opened_in who ts) ≤ level → levels_in who ts ≤ level
    by_test true same above = by_found (opened_in who ts) (is ∙ ap (λ (n : ℕ). made_in n ts + 1) (sym (eqb-true who session same))) above
    by_test false same above = above
