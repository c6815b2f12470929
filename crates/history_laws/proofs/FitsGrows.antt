-- What the exchanges of a session say of the log, when the log grows and when there is one more of them.
use Rattle.std.proofs.Common.{◌≡◌, ◌⊎◌, inl, inr, ℕ, zero, suc, ◌+◌, ◌-◌, ◌<◌, ◌≤◌, ◌==◌, false, List, [], ◌∷◌, ◌++◌, length, take, map, None, Some, refl, sym, ap, subst, ◌∙◌, append-nil, append_assoc, arith}
use Rattle.std.specs.Prelude.{slice_get}
use Rattle.std.specs.List.{AllByRecursion, filter}
use Rattle.std.proofs.lemmas.List.{take-append-le, length-append, map-append}
use Rattle.std.proofs.lemmas.Bool.{cases_lt}
use Rattle.std.proofs.lemmas.Option.{slice_get_within}
use Rattle.std.proofs.lemmas.List.Elements.{filter-append}
use Rattle.std.proofs.Math.Seq.{take-length, take-append-add}
use Rattle.value_types.specs.declared.table_name.TableName.{TableName}
use Rattle.value_types.specs.declared.value.Value.{Value}
use Rattle.step_model.specs.declared.change.Change.{Change}
use Rattle.step_model.specs.declared.op.Hold.TheVariants.{Range}
use Rattle.step_model.specs.declared.op.Op.{Op}
use Rattle.step_model.specs.declared.op.Op.TheVariants.{Fetch, Insert, Replace, Erase, Commit}
use Rattle.step_model.specs.declared.reply.Reply.{Reply}
use Rattle.step_model.specs.declared.reply.Reply.TheVariants.{Began, Row, Gone, End, Done, Exists, Missing, Marked, Ended, Wait, TimedOut, Victim, Memory}
use Rattle.step_model.specs.declared.resource.Span.TheVariants.{Transaction as Whole}
use Rattle.step_model.specs.Database.{Database, With}
use Rattle.step_model.specs.Entries.{change_at}
use Rattle.step_model.specs.Exchange.{Exchange}
use Rattle.step_model.specs.Fits.{Fits, view, place_of, place_or, is_ended, NoneEnds, all_numbers, numbers_of, NeverFall, at_of, commits_from, committed_by, AnswersIn, FreshIn, HoldsRange, IsLoggedAt, IsCaused, WritesAt, KeepsRow, changes_of_session}
use Rattle.step_model.specs.Log.{Commit as Logged, State}
use Rattle.step_model.specs.Own.{Progress, none_open, progress_of, change_of}
use Rattle.history_laws.specs.Relies.{KeysOf, Relies, Untouched}
use Rattle.history_laws.proofs.Changes.{all_weaker}
use Rattle.history_laws.proofs.Splits.{Split, at_end, within, split_end, each_more, place_more, place_same, open_or_not, open_place, numbers_more, rise_more, none_above, place_below, all_behind, all_front, all_both, commits_more}
use Rattle.history_laws.proofs.Databases.{With-local, State-untouched, answers_local, fresh_local, tied, tied_key, all_take, untouched_state}

-- the numbers of what stands behind a place of a list are among the list's
pub numbers_behind : (P : ℕ → Type 0) (before later : List Exchange) (exchange : Exchange)
    → AllByRecursion P (all_numbers (before ++ exchange ∷ later))
    → AllByRecursion P (numbers_of exchange.reply) × AllByRecursion P (all_numbers later)
numbers_behind P [] later exchange all = (
  all_front P (numbers_of exchange.reply) (all_numbers later) all,
  all_behind P (numbers_of exchange.reply) (all_numbers later) all,
)
numbers_behind P (e ∷ before) later exchange all =
    numbers_behind P before later exchange
    (all_behind P (numbers_of e.reply) (all_numbers (before ++ exchange ∷ later)) all)

-- the number of a reply
pub at_below : (high : ℕ) (reply : Reply) → AllByRecursion (λ number. number ≤ high) (numbers_of reply)
    → at_of reply ≤ high
at_below high (Row key row at) all = all.0
at_below high (Gone key at) all = all.0
at_below high (End at) all = all.0
at_below high Began all = omega arith
at_below high Done all = omega arith
at_below high Exists all = omega arith
at_below high Missing all = omega arith
at_below high (Marked mark) all = omega arith
at_below high (Ended place) all = omega arith
at_below high (Wait holder) all = omega arith
at_below high (TimedOut holder holds_range asked on) all = omega arith
at_below high (Victim cycle) all = omega arith
at_below high Memory all = omega arith

rise_to : (low high more : ℕ) (numbers : List ℕ) → NeverFall low numbers high → high ≤ more
    → NeverFall low numbers more
rise_to low high more [] rise le = omega (arith, rise, le)
rise_to low high more (n ∷ numbers) rise le = (rise.0, rise_to n high more numbers rise.1 le)

-- what is in a list stays there when it grows
get_more : {A : Type 0} (xs more : List A) (i : ℕ) (x : A) → slice_get xs i ≡ Some x
    → slice_get (xs ++ more) i ≡ Some x
get_more [] more zero x is = cc
get_more [] more (suc i) x is = cc
get_more (y ∷ xs) more zero x is = is
get_more (y ∷ xs) more (suc i) x is = get_more xs more i x is

logged_more : (session : ℕ) (log more : List Logged) (commits : List (List Change)) (reply : Reply)
    (later : List Exchange) → IsLoggedAt session log commits reply later
    → IsLoggedAt session (log ++ more) commits reply later
logged_more session log more [] reply later is = tt
logged_more session log more (changes ∷ none) (Ended place) later is =
    (get_more log more place (record { session = session; changes = changes }) is.0, is.1)
logged_more session log more (changes ∷ none) reply later is = tt

-- what a write wrote it relies on
pub writes_rely : (op : Op) (reply : Reply) (later : List Exchange) (t : TableName) (x : List Value)
    → WritesAt op reply t x → KeysOf op reply later Whole t x
writes_rely (Replace table key row) Done later t x (tables, keys) = rw (tables, keys) (tied t, tied_key x)
writes_rely (Erase table key) Done later t x (tables, keys) = rw (tables, keys) (tied t, tied_key x)
writes_rely op reply later t x writes = absurd writes

-- the commits of a session in a longer log
pub changes_more : (session : ℕ) (log more : List Logged)
    → changes_of_session session (log ++ more)
    ≡ changes_of_session session log ++ changes_of_session session more
changes_more session log more =
    ap (map (λ (commit : Logged). commit.changes))
    (filter-append (λ (commit : Logged). commit.session == session) log more)
    ∙ map-append (λ (commit : Logged). commit.changes)
    (filter (λ (commit : Logged). commit.session == session) log)
    (filter (λ (commit : Logged). commit.session == session) more)

-- ---- F-frame: the log grows by others' commits

module _ (session : ℕ) (log more : List Logged) (mine : List Exchange) (fits : Fits session [] log mine)
    (others : changes_of_session session more ≡ [])
    (untouched : (t : TableName) (x : List Value) → Relies mine Whole t x
    → AllByRecursion (λ commit. change_at commit.changes t x ≡ None) more) where
  longer : length log ≤ length (log ++ more)
  longer = rw (length-append log more) (omega arith)

  below : AllByRecursion (λ number. number ≤ length log) (all_numbers mine)
  below = (none_above 0 (length log) (all_numbers mine) fits.numbers).1

  module _ (before later : List Exchange) (exchange : Exchange) (split : mine
      ≡ before ++ exchange ∷ later) where
    parts : AllByRecursion (λ number. number ≤ length log) (numbers_of exchange.reply)
        × AllByRecursion (λ number. number ≤ length log) (all_numbers later)
    parts = numbers_behind (λ number. number ≤ length log) before later exchange
        (subst (λ (es : List Exchange). AllByRecursion (λ number. number ≤ length log) (all_numbers es)) split
        below)

    fetch_kept : view (log ++ more) (at_of exchange.reply) before ≡ view log (at_of exchange.reply) before
    fetch_kept =
        ap (λ (l : List Logged). With (State l) (map change_of (progress_of before).own))
        (take-append-le (at_of exchange.reply) log more (at_below (length log) exchange.reply parts.0))

    -- the place of a closed transaction is as it was
    closed_kept : ((n m : ℕ) → place_of n later ≡ place_of m later)
        → view (log ++ more) (place_of (length (log ++ more)) later) before
        ≡ view log (place_of (length log) later) before
    closed_kept same =
        ap (λ (n : ℕ). view (log ++ more) n before) (same (length (log ++ more)) (length log))
        ∙ ap (λ (l : List Logged). With (State l) (map change_of (progress_of before).own))
        (take-append-le (place_of (length log) later) log more
        (place_below (length log) (length log) later (omega arith) parts.1))

    -- that of an open one has come nearer, and what it relies on has not changed
    open_kept : NoneEnds later → (t : TableName) (x : List Value)
        → KeysOf exchange.op exchange.reply later Whole t x
        → view (log ++ more) (place_of (length (log ++ more)) later) before t x
        ≡ view log (place_of (length log) later) before t x
    open_kept none t x keys =
        ap (λ (l : List Logged). With (State l) (map change_of (progress_of before).own) t x)
        (ap (λ (n : ℕ). take n (log ++ more)) (open_place (length (log ++ more)) later none)
        ∙ take-length (log ++ more))
        ∙ With-local (State (log ++ more)) (State log) (map change_of (progress_of before).own) t x
        (State-untouched log more t x (untouched t x (record {
          before = before;
          exchange = exchange;
          later = later;
          split = split;
          opened = none;
          keys = keys;
        })))
        ∙ ap (λ (l : List Logged). With (State l) (map change_of (progress_of before).own) t x)
        (sym (ap (λ (n : ℕ). take n log) (open_place (length log) later none) ∙ take-length log))

    range_kept : HoldsRange exchange.op
        (AnswersIn (view log (place_of (length log) later) before) exchange.op exchange.reply)
        → HoldsRange exchange.op
        (AnswersIn (view (log ++ more) (place_of (length (log ++ more)) later) before) exchange.op
        exchange.reply)
    range_kept holds_range = by_case (open_or_not later)
      where
        by_case : NoneEnds later ⊎ ((n m : ℕ) → place_of n later ≡ place_of m later)
            → HoldsRange exchange.op
            (AnswersIn (view (log ++ more) (place_of (length (log ++ more)) later) before) exchange.op
            exchange.reply)
        by_case (inl none) =
            answers_local (view log (place_of (length log) later) before)
            (view (log ++ more) (place_of (length (log ++ more)) later) before) exchange.op exchange.reply
            later (open_kept none) holds_range
        by_case (inr same) =
            subst (λ (db : Database). HoldsRange exchange.op (AnswersIn db exchange.op exchange.reply))
            (sym (closed_kept same)) holds_range

    fresh_kept : FreshIn (view log (place_of (length log) later) before) exchange.op exchange.reply
        → FreshIn (view (log ++ more) (place_of (length (log ++ more)) later) before) exchange.op exchange.reply
    fresh_kept holds_range = by_case (open_or_not later)
      where
        by_case : NoneEnds later ⊎ ((n m : ℕ) → place_of n later ≡ place_of m later)
            → FreshIn (view (log ++ more) (place_of (length (log ++ more)) later) before) exchange.op
            exchange.reply
        by_case (inl none) =
            fresh_local (view log (place_of (length log) later) before)
            (view (log ++ more) (place_of (length (log ++ more)) later) before) exchange.op exchange.reply
            later (open_kept none) holds_range
        by_case (inr same) =
            subst (λ (db : Database). FreshIn db exchange.op exchange.reply) (sym (closed_kept same)) holds_range

  target_kept : (before between later : List Exchange) (fetch write : Exchange)
      → mine ≡ before ++ fetch ∷ between ++ write ∷ later → NoneEnds between
      → (t : TableName) (x : List Value) → WritesAt write.op write.reply t x
      → KeepsRow fetch.op fetch.reply between t x
      → (p : ℕ) → at_of fetch.reply ≤ p → p ≤ place_of (length (log ++ more)) later
      → State (take p (log ++ more)) t x ≡ State (take (at_of fetch.reply) (log ++ more)) t x
  target_kept before between later fetch write split none t x writes keeps p low high =
      by_height (cases_lt (length log) p)
    where
      seen_by : AllByRecursion (λ number. number ≤ length log) (numbers_of fetch.reply)
      seen_by = (parts before (between ++ write ∷ later) fetch (split
          ∙ append_assoc before (fetch ∷ between) (write ∷ later))).0

      at_low : at_of fetch.reply ≤ length log
      at_low = at_below (length log) fetch.reply seen_by

      as_before : p ≤ length log → p ≤ place_of (length log) later
          → State (take p (log ++ more)) t x ≡ State (take (at_of fetch.reply) (log ++ more)) t x
      as_before le reach =
          ap (λ (l : List Logged). State l t x) (take-append-le p log more le)
          ∙ fits.targets before between later fetch write split none t x writes keeps p low reach
          ∙ ap (λ (l : List Logged). State l t x) (sym (take-append-le (at_of fetch.reply) log more at_low))

      by_case : p ≤ length log → NoneEnds later ⊎ ((n m : ℕ) → place_of n later ≡ place_of m later)
          → State (take p (log ++ more)) t x ≡ State (take (at_of fetch.reply) (log ++ more)) t x
      by_case le (inl open_still) =
          as_before le (subst (λ (n : ℕ). p ≤ n) (sym (open_place (length log) later open_still)) le)
      by_case le (inr same) =
          as_before le (subst (λ (n : ℕ). p ≤ n) (same (length (log ++ more)) (length log)) high)

      above : length log < p → NoneEnds later ⊎ ((n m : ℕ) → place_of n later ≡ place_of m later)
          → State (take p (log ++ more)) t x ≡ State (take (at_of fetch.reply) (log ++ more)) t x
      above gt (inl open_still) =
          let more_of : p ≡ length log + (p - length log) = omega (arith, gt) in
          let relies = untouched t x (record {
            before = before ++ fetch ∷ between;
            exchange = write;
            later = later;
            split = split;
            opened = open_still;
            keys =
                writes_rely write.op write.reply later t x writes;
          }) in
          ap (λ (l : List Logged). State l t x) (ap (λ (n : ℕ). take n (log ++ more)) more_of
          ∙ take-append-add log more (p - length log))
          ∙ State-untouched log (take (p - length log) more) t x
          (all_take (λ (commit : Logged). change_at commit.changes t x ≡ None) (p - length log) more relies)
          ∙ ap (λ (l : List Logged). State l t x) (sym (take-length log))
          ∙ fits.targets before between later fetch write split none t x writes keeps (length log) at_low
          (subst (λ (n : ℕ). length log ≤ n) (sym (open_place (length log) later open_still)) (omega arith))
          ∙ ap (λ (l : List Logged). State l t x) (sym (take-append-le (at_of fetch.reply) log more at_low))
      above gt (inr same) =
          let place : place_of (length log) later ≤ length log =
          place_below (length log) (length log) later (omega arith)
          (parts (before ++ fetch ∷ between) later write split).1 in
          let is : place_of (length (log ++ more)) later ≡ place_of (length log) later =
          same (length (log ++ more)) (length log) in
          absurd (omega (arith, gt, high, is, place))

      by_height : (length log < p) ⊎ (p ≤ length log)
          → State (take p (log ++ more)) t x ≡ State (take (at_of fetch.reply) (log ++ more)) t x
      by_height (inl gt) = above gt (open_or_not later)
      by_height (inr le) = by_case le (open_or_not later)

  pub fits_grown : Fits session [] (log ++ more) mine
  fits_grown = record {
    prefix = (log ++ more, refl);
    numbers = rise_to 0 (length log) (length (log ++ more)) (all_numbers mine) fits.numbers longer;
    fetches = λ before exchange later split. subst (λ (db : Database). AnswersIn db exchange.op exchange.reply)
        (sym (fetch_kept before later exchange split)) (fits.fetches before exchange later split);
    ranges = λ before exchange later split. range_kept before later exchange split
        (fits.ranges before exchange later split);
    inserts = λ before exchange later split. fresh_kept before later exchange split
        (fits.inserts before exchange later split);
    targets = target_kept;
    commits = (
      λ before exchange later split. logged_more session log more
          (committed_by exchange.op exchange.reply (progress_of before)) exchange.reply later
          (fits.commits.0 before exchange later split),
      changes_more session log more
          ∙ ap (λ (cs : List (List Change)). changes_of_session session log ++ cs) others
          ∙ append-nil (changes_of_session session log) ∙ fits.commits.1,
    );
    refusals = fits.refusals;
  }

pub holds_range : (P : Type 0) (op : Op) → P → HoldsRange op P
holds_range P (Fetch table start stop Range part) answers = answers
holds_range P op answers = tt

pub at_now : (f : ℕ → Database) (n : ℕ) (op : Op) (reply : Reply)
    → AllByRecursion (λ number. number ≡ n) (numbers_of reply) → AnswersIn (f n) op reply
    → AnswersIn (f (at_of reply)) op reply
at_now f n (Fetch table start stop hold part) (Row key row at) all answers =
    subst (λ (m : ℕ). AnswersIn (f m) (Fetch table start stop hold part) (Row key row at)) (sym all.0) answers
at_now f n (Fetch table start stop hold part) (Gone key at) all answers =
    subst (λ (m : ℕ). AnswersIn (f m) (Fetch table start stop hold part) (Gone key at)) (sym all.0) answers
at_now f n (Fetch table start stop hold part) (End at) all answers =
    subst (λ (m : ℕ). AnswersIn (f m) (Fetch table start stop hold part) (End at)) (sym all.0) answers
at_now f n op reply all answers = tt

no_commit : (op : Op) (reply : Reply) (so_far : Progress) → is_ended reply ≡ false
    → committed_by op reply so_far ≡ []
no_commit Commit (Ended place) so_far is = cc
no_commit op reply so_far is = refl

-- the commits that were logged are behind the places of what comes later
logged_later : (session : ℕ) (log : List Logged) (later : List Exchange) (last : Exchange)
    → AllByRecursion (λ number. number ≡ length log) (numbers_of last.reply)
    → (commits : List (List Change)) (reply : Reply) → IsLoggedAt session log commits reply later
    → IsLoggedAt session log commits reply (later ++ last ∷ [])
logged_later session log later last numbered [] reply is = tt
logged_later session log later last numbered (changes ∷ none) (Ended place) is =
    let inside : place < length log =
    slice_get_within log place (record { session = session; changes = changes }) is.0 in (
      is.0,
      subst (AllByRecursion (λ number. place < number)) (sym (numbers_more later last))
          (all_both (λ number. place < number) (all_numbers later) (numbers_of last.reply) is.1
          (all_weaker (λ number. number
          ≡ length log) (λ number. place < number) (λ number same. omega (
            arith,
            same,
            inside,
          )) (numbers_of last.reply) numbered)),
    )
logged_later session log later last numbered (changes ∷ none) reply is = tt

-- ---- F-more: one exchange more, which ends no transaction

module _ (session : ℕ) (log : List Logged) (mine : List Exchange) (last : Exchange)
    (fits : Fits session [] log mine)
    (goes_on : is_ended last.reply ≡ false)
    (numbered : AllByRecursion (λ number. number ≡ length log) (numbers_of last.reply))
    (answers : AnswersIn (With (State log) (map change_of (progress_of mine).own)) last.op last.reply)
    (fresh : FreshIn (With (State log) (map change_of (progress_of mine).own)) last.op last.reply)
    (stable : (before between : List Exchange) (fetch : Exchange) → mine ≡ before ++ fetch ∷ between
    → NoneEnds between
    → (t : TableName) (x : List Value) → WritesAt last.op last.reply t x
    → KeepsRow fetch.op fetch.reply between t x → Untouched log (at_of fetch.reply) t x)
    (caused : IsCaused session last.manner.patience last.reply) where
  now : view log (length log) mine ≡ With (State log) (map change_of (progress_of mine).own)
  now = ap (λ (l : List Logged). With (State l) (map change_of (progress_of mine).own)) (take-length log)

  same_place : (later : List Exchange)
      → place_of (length log) (later ++ last ∷ []) ≡ place_of (length log) later
  same_place later = place_same (length log) later last goes_on

  target_more : (before between later : List Exchange) (fetch write : Exchange)
      → mine ++ last ∷ [] ≡ before ++ fetch ∷ between ++ write ∷ later → NoneEnds between
      → (t : TableName) (x : List Value) → WritesAt write.op write.reply t x
      → KeepsRow fetch.op fetch.reply between t x
      → (p : ℕ) → at_of fetch.reply ≤ p → p ≤ place_of (length log) later
      → State (take p log) t x ≡ State (take (at_of fetch.reply) log) t x
  target_more before between later fetch write split none t x writes keeps p low high =
      by_split (split_end mine last (before ++ fetch ∷ between) write later split)
    where
      by_split : Split mine last (before ++ fetch ∷ between) write later
          → State (take p log) t x ≡ State (take (at_of fetch.reply) log) t x
      by_split (at_end same is empty) =
          untouched_state log (at_of fetch.reply) p t x
          (stable before between fetch (sym same) none t x
          (subst (λ (e : Exchange). WritesAt e.op e.reply t x) is writes) keeps) low
      by_split (within rest same is) =
          fits.targets before between rest fetch write same none t x writes keeps p low
          (subst (λ (n : ℕ). p ≤ n) (ap (place_of (length log)) is ∙ same_place rest) high)

  pub fits_more : Fits session [] log (mine ++ last ∷ [])
  fits_more = record {
    prefix = (log, refl);
    numbers = subst (λ (ns : List ℕ). NeverFall 0 ns (length log)) (sym (numbers_more mine last))
        (rise_more 0 (length log) (length log) (all_numbers mine) (numbers_of last.reply) fits.numbers numbered
        (omega arith));
    fetches = each_more
        (λ before exchange later. AnswersIn (view log (at_of exchange.reply) before) exchange.op
        exchange.reply) mine last fits.fetches
        (at_now (λ n. view log n mine) (length log) last.op last.reply numbered
        (subst (λ (db : Database). AnswersIn db last.op last.reply) (sym now) answers));
    ranges = each_more
        (λ before exchange later. HoldsRange exchange.op
        (AnswersIn (view log (place_of (length log) later) before) exchange.op exchange.reply)) mine last
        (λ before exchange later split. subst
        (λ (n : ℕ). HoldsRange exchange.op (AnswersIn (view log n before) exchange.op exchange.reply))
        (sym (same_place later)) (fits.ranges before exchange later split))
        (holds_range (AnswersIn (view log (length log) mine) last.op last.reply) last.op
        (subst (λ (db : Database). AnswersIn db last.op last.reply) (sym now) answers));
    inserts = each_more
        (λ before exchange later. FreshIn (view log (place_of (length log) later) before) exchange.op
        exchange.reply) mine last
        (λ before exchange later split. subst
        (λ (n : ℕ). FreshIn (view log n before) exchange.op exchange.reply) (sym (same_place later))
        (fits.inserts before exchange later split))
        (subst (λ (db : Database). FreshIn db last.op last.reply) (sym now) fresh);
    targets = target_more;
    commits = (
      each_more (λ before exchange later. IsLoggedAt session log
          (committed_by exchange.op exchange.reply (progress_of before)) exchange.reply later) mine last
          (λ before exchange later split. logged_later session log later last numbered
          (committed_by exchange.op exchange.reply (progress_of before)) exchange.reply
          (fits.commits.0 before exchange later split))
          (rw (no_commit last.op last.reply (progress_of mine) goes_on) tt),
      fits.commits.1 ∙ sym (commits_more none_open mine last
          ∙ ap (λ (cs : List (List Change)). commits_from none_open mine ++ cs)
          (no_commit last.op last.reply (progress_of mine) goes_on) ∙ append-nil (commits_from none_open mine)),
    );
    refusals = each_more (λ before exchange later. IsCaused session exchange.manner.patience exchange.reply)
        mine last fits.refusals caused;
  }

-- ---- F-end: one exchange more, which ends the transaction

ended_answers : (db : Database) (op : Op) (place : ℕ) → AnswersIn db op (Ended place)
ended_answers db (Fetch table start stop hold part) place = tt
ended_answers db op place = tt

ended_fresh : (db : Database) (op : Op) (place : ℕ) → FreshIn db op (Ended place)
ended_fresh db (Insert table key row) place = tt
ended_fresh db op place = tt

ended_writes : (op : Op) (place : ℕ) (t : TableName) (x : List Value) → WritesAt op (Ended place) t x → ⊥
ended_writes (Replace table key row) place t x writes = writes
ended_writes (Erase table key) place t x writes = writes
ended_writes op place t x writes = writes

module _ (session : ℕ) (log more : List Logged) (mine : List Exchange) (last : Exchange)
    (fits : Fits session [] log mine)
    (ends : last.reply ≡ Ended (length log))
    (added : changes_of_session session more ≡ committed_by last.op last.reply (progress_of mine))
    (logged : IsLoggedAt session (log ++ more) (committed_by last.op last.reply (progress_of mine)) last.reply
    []) where
  end_longer : length log ≤ length (log ++ more)
  end_longer = rw (length-append log more) (omega arith)

  end_number : AllByRecursion (λ number. number ≡ length log) (numbers_of last.reply)
  end_number = rw ends (refl, tt)

  end_below : AllByRecursion (λ number. number ≤ length log) (all_numbers mine)
  end_below = (none_above 0 (length log) (all_numbers mine) fits.numbers).1

  -- the places of the old exchanges are as they were
  end_place : (later : List Exchange)
      → place_of (length (log ++ more)) (later ++ last ∷ []) ≡ place_of (length log) later
  end_place later = place_more (length (log ++ more)) later last
      ∙ ap (λ (reply : Reply). place_of (place_or reply (length (log ++ more))) later) ends

  module _ (before later : List Exchange) (exchange : Exchange) (split : mine
      ≡ before ++ exchange ∷ later) where
    end_parts : AllByRecursion (λ number. number ≤ length log) (numbers_of exchange.reply)
        × AllByRecursion (λ number. number ≤ length log) (all_numbers later)
    end_parts = numbers_behind (λ number. number ≤ length log) before later exchange
        (subst (λ (es : List Exchange). AllByRecursion (λ number. number ≤ length log) (all_numbers es)) split
        end_below)

    end_reach : place_of (length log) later ≤ length log
    end_reach = place_below (length log) (length log) later (omega arith) end_parts.1

    end_fetch : view (log ++ more) (at_of exchange.reply) before ≡ view log (at_of exchange.reply) before
    end_fetch = ap (λ (l : List Logged). With (State l) (map change_of (progress_of before).own))
        (take-append-le (at_of exchange.reply) log more (at_below (length log) exchange.reply end_parts.0))

    end_view : view (log ++ more) (place_of (length (log ++ more)) (later ++ last ∷ [])) before
        ≡ view log (place_of (length log) later) before
    end_view =
        ap (λ (n : ℕ). view (log ++ more) n before) (end_place later)
        ∙ ap (λ (l : List Logged). With (State l) (map change_of (progress_of before).own))
        (take-append-le (place_of (length log) later) log more end_reach)

  end_target : (before between later : List Exchange) (fetch write : Exchange)
      → mine ++ last ∷ [] ≡ before ++ fetch ∷ between ++ write ∷ later → NoneEnds between
      → (t : TableName) (x : List Value) → WritesAt write.op write.reply t x
      → KeepsRow fetch.op fetch.reply between t x
      → (p : ℕ) → at_of fetch.reply ≤ p → p ≤ place_of (length (log ++ more)) later
      → State (take p (log ++ more)) t x ≡ State (take (at_of fetch.reply) (log ++ more)) t x
  end_target before between later fetch write split none t x writes keeps p low high =
      by_split (split_end mine last (before ++ fetch ∷ between) write later split)
    where
      by_split : Split mine last (before ++ fetch ∷ between) write later
          → State (take p (log ++ more)) t x ≡ State (take (at_of fetch.reply) (log ++ more)) t x
      by_split (at_end same is empty) =
          absurd (ended_writes last.op (length log) t x
          (subst (λ (reply : Reply). WritesAt last.op reply t x) ends
          (subst (λ (e : Exchange). WritesAt e.op e.reply t x) is writes)))
      by_split (within rest same is) =
          let reach : p ≤ place_of (length log) rest =
          subst (λ (n : ℕ). p ≤ n) (ap (place_of (length (log ++ more))) is ∙ end_place rest) high in
          let top : place_of (length log) rest ≤ length log =
          end_reach (before ++ fetch ∷ between) rest write same in
          ap (λ (l : List Logged). State l t x) (take-append-le p log more (omega (arith, reach, top)))
          ∙ fits.targets before between rest fetch write same none t x writes keeps p low reach
          ∙ ap (λ (l : List Logged). State l t x)
          (sym (take-append-le (at_of fetch.reply) log more (omega (arith, low, reach, top))))

  pub fits_ended : Fits session [] (log ++ more) (mine ++ last ∷ [])
  fits_ended = record {
    prefix = (log ++ more, refl);
    numbers = subst (λ (ns : List ℕ). NeverFall 0 ns (length (log ++ more))) (sym (numbers_more mine last))
        (rise_more 0 (length log) (length (log ++ more)) (all_numbers mine) (numbers_of last.reply)
        fits.numbers end_number end_longer);
    fetches = each_more
        (λ before exchange later. AnswersIn (view (log ++ more) (at_of exchange.reply) before) exchange.op
        exchange.reply) mine last
        (λ before exchange later split. subst (λ (db : Database). AnswersIn db exchange.op exchange.reply)
        (sym (end_fetch before later exchange split)) (fits.fetches before exchange later split))
        (subst (λ (reply : Reply). AnswersIn (view (log ++ more) (at_of reply) mine) last.op reply) (sym ends)
        (ended_answers (view (log ++ more) 0 mine) last.op (length log)));
    ranges = each_more
        (λ before exchange later. HoldsRange exchange.op
        (AnswersIn (view (log ++ more) (place_of (length (log ++ more)) later) before) exchange.op
        exchange.reply)) mine last
        (λ before exchange later split. subst
        (λ (db : Database). HoldsRange exchange.op (AnswersIn db exchange.op exchange.reply))
        (sym (end_view before later exchange split)) (fits.ranges before exchange later split))
        (holds_range (AnswersIn (view (log ++ more) (length (log ++ more)) mine) last.op last.reply) last.op
        (subst (λ (reply : Reply). AnswersIn (view (log ++ more) (length (log ++ more)) mine) last.op
        reply) (sym ends)
        (ended_answers (view (log ++ more) (length (log ++ more)) mine) last.op (length log))));
    inserts = each_more
        (λ before exchange later. FreshIn (view (log ++ more) (place_of (length (log ++ more)) later) before)
        exchange.op exchange.reply) mine last
        (λ before exchange later split. subst (λ (db : Database). FreshIn db exchange.op exchange.reply)
        (sym (end_view before later exchange split)) (fits.inserts before exchange later split))
        (subst (λ (reply : Reply). FreshIn (view (log ++ more) (length (log ++ more)) mine) last.op reply)
        (sym ends) (ended_fresh (view (log ++ more) (length (log ++ more)) mine) last.op (length log)));
    targets = end_target;
    commits = (
      each_more (λ before exchange later. IsLoggedAt session (log ++ more)
          (committed_by exchange.op exchange.reply (progress_of before)) exchange.reply later) mine last
          (λ before exchange later split. logged_more session log more
          (committed_by exchange.op exchange.reply (progress_of before)) exchange.reply
          (later ++ last ∷ [])
          (logged_later session log later last end_number
          (committed_by exchange.op exchange.reply (progress_of before)) exchange.reply
          (fits.commits.0 before exchange later split)))
          logged,
      changes_more session log more
          ∙ ap (λ (cs : List (List Change)). changes_of_session session log ++ cs) added
          ∙ ap (λ (cs : List (List Change)). cs ++ committed_by last.op last.reply (progress_of mine))
          fits.commits.1 ∙ sym (commits_more none_open mine last),
    );
    refusals = each_more (λ before exchange later. IsCaused session exchange.manner.patience exchange.reply)
        mine last fits.refusals (rw ends tt);
  }
