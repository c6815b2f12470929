-- The exchanges since an entry at which the session had no transaction open.
use Rattle.std.proofs.Common.{◌≡◌, ℕ, ◌≤◌, Bool, true, false, List, [], ◌∷◌, ◌++◌, map, drop, take, length, Option, None, Some, is_some, if◌then◌else◌, refl, sym, ap, subst, ◌∙◌, append_assoc}
use Rattle.std.specs.List.{AllByRecursion, AllZip}
use Rattle.std.proofs.Math.Seq.{drop-append_seam}
use Rattle.value_types.specs.declared.table_name.TableName.{TableName}
use Rattle.value_types.specs.declared.value.Value.{Value}
use Rattle.step_model.specs.declared.change.Change.{Change}
use Rattle.step_model.specs.declared.change.Planned.{Planned}
use Rattle.step_model.specs.Database.{Database, With, is_at}
use Rattle.step_model.specs.Exchange.{Exchange, Standing, IsSession, MayAsk}
use Rattle.step_model.specs.Fits.{Fits, Each, place_of, at_of, AnswersIn, FreshIn, HoldsRange, IsLoggedAt, committed_by, commits_from, changes_of_session, all_numbers, numbers_of, NeverFall, without_waits}
use Rattle.step_model.specs.Log.{Commit as Logged, State}
use Rattle.step_model.specs.Own.{standing_at, Progress, MarkedAt, progress_after, progress_from, progress_of, none_open, change_of, last_at, or_else}
use Rattle.step_model.specs.Runs.{MayStep, standing_of}
use Rattle.step_model.specs.State.{Engine, Transaction, Saved, is_open, transaction_in, saved_in, saved_of}
use Rattle.history_laws.specs.Knows.{Accords, SameMark}
use Rattle.step_model.specs.declared.manner.Manner.{Manner}
use Rattle.step_model.specs.declared.op.Op.{Op}
use Rattle.history_laws.proofs.Changes.{at_itself}
use Rattle.history_laws.proofs.FitsGrows.{changes_more}
use Rattle.history_laws.proofs.OwnMoves.{closed_none}
use Rattle.std.proofs.lemmas.Grind.{flat_map-append}

progress_append : (p : Progress) (one other : List Exchange)
    → progress_from p (one ++ other) ≡ progress_from (progress_from p one) other
progress_append p [] other = refl
progress_append p (e ∷ one) other = progress_append (progress_after p e.op e.reply) one other

commits_append : (p : Progress) (one other : List Exchange)
    → commits_from p (one ++ other) ≡ commits_from p one ++ commits_from (progress_from p one) other
commits_append p [] other = refl
commits_append p (e ∷ one) other =
    ap (λ (cs : List (List Change)). committed_by e.op e.reply p ++ cs)
    (commits_append (progress_after p e.op e.reply) one other)
    ∙ sym (append_assoc (committed_by e.op e.reply p) (commits_from (progress_after p e.op e.reply) one)
    (commits_from (progress_from (progress_after p e.op e.reply) one) other))

same_rest : {A : Type 0} (front one other : List A) → front ++ one ≡ front ++ other → one ≡ other
same_rest [] one other same = same
same_rest (x ∷ front) one other same =
    same_rest front one other (let h : front ++ one ≡ front ++ other = cc in h)

-- numbers that rise from zero, and are all at a height or above
rise_above : (low height high : ℕ) (front numbers : List ℕ) → NeverFall low (front ++ numbers) high
    → AllByRecursion (λ number. height ≤ number) numbers → height ≤ high → NeverFall height numbers high
rise_above low height high [] [] rise all le = le
rise_above low height high [] (n ∷ numbers) rise all le = (all.0, rise.1)
rise_above low height high (m ∷ front) numbers rise all le =
    rise_above m height high front numbers rise.1 all le

abbrev With_at : List Logged → ℕ → Progress → Database
With_at log p so_far = With (State (take p log)) (map change_of so_far.own)

module _ (session : ℕ) (begin later log : List Logged) (before mine : List Exchange) (whole : log
    ≡ begin ++ later) (then_fits : Fits session [] begin before) (fits : Fits session [] log (before ++ mine))
    (at_rest : progress_of before ≡ none_open)
    (above : AllByRecursion (λ number. length begin ≤ number) (all_numbers mine))
    (le : length begin ≤ length log) where
  behind : (front : List Exchange) → progress_of (before ++ front) ≡ progress_of front
  behind front = progress_append none_open before front ∙ ap (λ (p : Progress). progress_from p front) at_rest

  split_on : (front rest : List Exchange) (exchange : Exchange) → mine ≡ front ++ exchange ∷ rest
      → before ++ mine ≡ (before ++ front) ++ exchange ∷ rest
  split_on front rest exchange split =
      ap (λ (es : List Exchange). before ++ es) split ∙ sym (append_assoc before front (exchange ∷ rest))

  -- a fact of each exchange by its progress is one of each since the entry
  each_since : (P : Progress → Exchange → List Exchange → Type 0)
      → Each (λ front exchange rest. P (progress_of front) exchange rest) (before ++ mine)
      → Each (λ front exchange rest. P (progress_of front) exchange rest) mine
  each_since P each front exchange rest split =
      subst (λ (p : Progress). P p exchange rest) (behind front)
      (each (before ++ front) exchange rest (split_on front rest exchange split))

  pub fits_since : Fits session begin log mine
  fits_since = record {
    prefix = (later, whole);
    numbers = rise_above 0 (length begin) (length log) (all_numbers before) (all_numbers mine)
        (subst (λ (ns : List ℕ). NeverFall 0 ns (length log))
        (flat_map-append (λ (e : Exchange). numbers_of e.reply) before mine) fits.numbers) above le;
    fetches = each_since
        (λ p exchange rest. AnswersIn (With_at log (at_of exchange.reply) p) exchange.op exchange.reply)
        fits.fetches;
    ranges = each_since
        (λ p exchange rest. HoldsRange exchange.op
        (AnswersIn (With_at log (place_of (length log) rest) p) exchange.op exchange.reply)) fits.ranges;
    inserts = each_since
        (λ p exchange rest. FreshIn (With_at log (place_of (length log) rest) p) exchange.op exchange.reply)
        fits.inserts;
    targets = λ front between rest fetch write split none t x writes keeps p low high.
        fits.targets (before ++ front) between rest fetch write
        (split_on (front ++ fetch ∷ between) rest write split
        ∙ ap (λ (es : List Exchange). es ++ write ∷ rest)
        (sym (append_assoc before front (fetch ∷ between)))) none t x writes keeps p low high;
    commits = (
      each_since (λ p exchange rest. IsLoggedAt session log (committed_by exchange.op exchange.reply p)
          exchange.reply rest) fits.commits.0,
      same_rest (commits_from none_open before) (changes_of_session session (drop (length begin) log))
          (commits_from none_open mine)
          (ap (λ (cs : List (List Change)). cs ++ changes_of_session session (drop (length begin) log))
          (sym then_fits.commits.1)
          ∙ ap (λ (l : List Logged). changes_of_session session begin ++ changes_of_session session l)
          (ap (drop (length begin)) whole ∙ drop-append_seam begin later)
          ∙ sym (changes_more session begin later)
          ∙ ap (changes_of_session session) (sym whole)
          ∙ fits.commits.1
          ∙ commits_append none_open before mine
          ∙ ap (λ (p : Progress). commits_from none_open before ++ commits_from p mine) at_rest),
    );
    refusals = λ front exchange rest split. fits.refusals (before ++ front) exchange rest
        (split_on front rest exchange split);
  }

-- outside a transaction a session's exchanges have led nowhere
no_own : (own : List Planned) → ((t : TableName) (x : List Value) → None ≡ last_at own t x) → own ≡ []
no_own [] none = refl
no_own (p ∷ own) none =
    let rest : own ≡ [] = no_own own (λ t x. by_last (if is_at (change_of p) t x then Some (change_of p)
    else None) (last_at own t x) (none t x)) in
    absurd (let h = none p.table p.key in last_is (last_at own p.table p.key) h)
  where
    by_last : (behind o : Option Change) → None ≡ or_else o behind → None ≡ o
    by_last behind None is = refl
    by_last behind (Some c) is = is

    last_is : (o : Option Change)
        → None ≡ or_else o (if is_at (change_of p) p.table p.key then Some (change_of p) else None) → ⊥
    last_is o is = by_test (is_at (change_of p) p.table p.key) (at_itself (change_of p)) o is
      where
        by_test : (b : Bool) → b ≡ true → (o : Option Change)
            → None ≡ or_else o (if b then Some (change_of p) else None) → ⊥
        by_test true at None is = cc
        by_test true at (Some c) is = cc
        by_test false at o is = cc

pub idle_outside : (engine : Engine) (session : ℕ) (steps : List Exchange) → Accords engine session steps
    → is_open session engine ≡ false → progress_of (without_waits steps) ≡ none_open
idle_outside engine session steps knows not_open =
    by_parts (progress_of (without_waits steps)) is_open own marks
  where
    is_open : (progress_of (without_waits steps)).is_open ≡ false
    is_open = sym knows.tied.is_open ∙ not_open

    own : (progress_of (without_waits steps)).own ≡ []
    own = no_own (progress_of (without_waits steps)).own
        (λ t x. sym (closed_none session engine knows.sane not_open t x) ∙ knows.tied.own t x)

    no_saved : saved_of session engine ≡ []
    no_saved = by_case (transaction_in session engine.active) not_open
      where
        by_case : (o : Option Transaction) → is_some o ≡ false → saved_in o ≡ []
        by_case None is = refl
        by_case (Some t) is = cc

    empty : (saved : List Saved) (marked : List MarkedAt) → saved ≡ []
        → AllZip (SameMark engine.entries) saved marked → marked ≡ []
    empty [] [] is zip = refl
    empty [] (m ∷ marked) is zip = absurd zip
    empty (s ∷ saved) marked is zip = cc

    marks : (progress_of (without_waits steps)).marks ≡ []
    marks = empty (saved_of session engine) (progress_of (without_waits steps)).marks no_saved knows.tied.marks

    by_parts : (p : Progress) → p.is_open ≡ false → p.own ≡ [] → p.marks ≡ [] → p ≡ none_open
    by_parts p one two three = λ i. record { is_open = one i; own = two i; marks = three i }

-- ---- where a session stands can be read off its steps

marks_known : (engine : Engine) (saved : List Saved) (marked : List MarkedAt)
    → AllZip (SameMark engine.entries) saved marked
    → map {A = Saved} {B = ℕ} (λ s. s.mark) saved ≡ map {A = MarkedAt} {B = ℕ} (λ m. m.mark) marked
marks_known engine [] [] zip = refl
marks_known engine [] (m ∷ marked) zip = absurd zip
marks_known engine (s ∷ saved) [] zip = absurd zip
marks_known engine (s ∷ saved) (m ∷ marked) zip = rw (zip.0.mark, marks_known engine saved marked zip.1) refl

pub standing_known : (engine : Engine) (session : ℕ) (steps : List Exchange) → Accords engine session steps
    → standing_of session engine ≡ standing_at (progress_of (without_waits steps))
standing_known engine session steps knows =
    λ i. record {
      is_open = knows.tied.is_open i;
      marks = marks_known engine (saved_of session engine) (progress_of (without_waits steps)).marks
          knows.tied.marks i;
    }

-- so a seat's own condition lets it step
pub may_step : (engine : Engine) (session : ℕ) (steps : List Exchange) (op : Op) (manner : Manner)
    → Accords engine session steps → IsSession session
    → MayAsk (standing_at (progress_of (without_waits steps))) op manner → MayStep engine session op manner
may_step engine session steps op manner knows is may = (
  is,
  subst (λ (standing : Standing). MayAsk standing op manner)
      (sym (standing_known engine session steps knows)) may,
)
