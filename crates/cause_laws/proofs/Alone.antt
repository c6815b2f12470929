-- A statement that runs no other shows the cause of what it tells: where one of its own exchanges is the cause it is found itself, and where none is, it tells no error of a lock, unless it
-- is a THROW of one.
use Rattle.std.proofs.Common.{◌≡◌, ◌⊎◌, inl, inr, refl, sym, ap, ◌∙◌, subst, ℕ, pos, List, [], ◌∷◌, ◌++◌, Option, Some, None, Bool, true, false, if◌then◌else◌, ◌==◌, append-nil, append_assoc}
use Rattle.std.specs.Prelude.{◌||◌}
use Rattle.std.specs.List.{list_any}
use Rattle.std.specs.Ordering.{int_eq}
use Rattle.std.proofs.lemmas.Bool.Decides.{Decides-int_eq}
use Rattle.tsql_tree.specs.declared.statement.Form.{Form-F}
use Rattle.tsql_tree.specs.declared.statement.Statement.{Statement}
use Rattle.binder.specs.Names.{Layer, form_of}
use Rattle.step_model.specs.Exchange.{Exchange}
use Rattle.tds_tokens.specs.declared.token.Token.{Token}
use Rattle.tds_tokens.specs.declared.token.Token.TheVariants.{Error}
use Rattle.batch_meaning.specs.declared.exit.Exit.{Exit}
use Rattle.batch_meaning.specs.declared.raised.Raised.{Raised}
use Rattle.batch_meaning.specs.Doing.{Doing, makes, never, over, Held}
use Rattle.batch_meaning.specs.Failures.{plain}
use Rattle.batch_meaning.specs.Meaning.{begun_unseen, fails_for, line_of, mean_by, mean_of, spends, statements_spent}
use Rattle.batch_meaning.specs.Progress.{SessionProgress, counts}
use Rattle.batch_meaning.specs.Raised.{Around, raised_in}
use Rattle.batch_meaning.specs.Unseen.{is_unseen}
use Rattle.cause_laws.specs.Causes.{LockError, NeverAnswered, is_answer, number_of}
use Rattle.cause_laws.specs.Statements.{Answered, Begun, ComesTo, Raises, Ran, Runs, Sends, Throws, alone, tree_by}
use Rattle.cause_laws.proofs.Usual.{differs}
use Rattle.cause_laws.proofs.Watch.{CaughtBy, Guard, LeavesBy, SaysAll, Watch}
use Rattle.cause_laws.proofs.Clean.{Clean, held_clean}
use Rattle.cause_laws.proofs.Causes.{clean_by, clean_fails, clean_raises, clean_unseen}
use Rattle.cause_laws.proofs.Locks.{lock_watch}
use Rattle.cause_laws.proofs.Passing.{passes_here, then_over}
use Rattle.cause_laws.proofs.Shown.{Found, Ours, Shown, Told, all_each, exits, shown_end}

-- what is looked for where anything may be told
abbrev pub anything : Watch
anything = record {
  Other = λ number. Unit {0};
  Goes = λ status. Unit {0};
  Says = λ reply. Unit {0};
  May = λ enough. Unit {0};
  Fine = λ P tree. Unit {0};
  At = λ P left p look. Unit {0};
  usual = λ number usual. tt;
  wants = λ may. tt;
  lacks = λ may. tt;
  memory = λ says. tt;
  missing = λ says. tt;
  victim = λ cycle says. tt;
  timed = λ holder held wanted on says. tt;
  more = tt;
  counted = tt;
  failed = tt;
  spent = λ P left p look at none. tt;
  none_left = λ P p look at. tt;
  fewer = λ P left p look at. tt;
  full = λ P left p tokens go same fine at. tt;
  many = λ P around shapes query left p look is fails fine at. tt;
  fine_over = λ P a holds. tt;
  fine_reads = λ P left look each. tt;
  fine_makes = λ P step next so fine. tt;
  fine_defines = λ P entry go each. tt;
  fine_asks = λ P op go each. tt;
  fine_room = λ P go each. tt;
  fine_never = λ P. tt;
  behind = λ P Q left p look go fine at. tt;
}

says_anything : (exchanges : List Exchange) → SaysAll anything exchanges
says_anything [] = tt
says_anything (x ∷ later) = (tt, says_anything later)

-- at its beginning
abbrev pub beginning : Watch → Guard
beginning watch = record { watch = watch; left = 1 }

-- a statement tells what it may, where it is no THROW of what may not be told
clean_runs : (watch : Watch) (statement : Statement) (around : Around) → (form_of statement ≡ Form-F.ThrowAgain → CaughtBy watch around.caught) → Clean (beginning watch) (LeavesBy watch) (alone (Runs statement around))
clean_runs watch statement around thrown = λ p at. by_left p (watch.spent (LeavesBy watch) 1 p _ at) (p.statements_left == 0) refl
  where
    by_left : (p : SessionProgress) → ((p.statements_left == 0) ≡ true → watch.Other (pos statements_spent)) → (none : Bool) → (p.statements_left == 0) ≡ none
        → Clean (beginning watch) (LeavesBy watch) (if none then spends statement around else makes counts (begun_unseen (λ q. is_unseen q (form_of statement)) (fails_for around statement) (mean_by (λ inner at. never) statement around)))
    by_left p spent true is = clean_raises (beginning watch) around statement (raised_in around.procedure (line_of statement) (plain statements_spent)) (spent is)
    by_left p spent false is = (
      tt,
      clean_unseen (record { watch = watch; left = 0 }) (λ q. is_unseen q (form_of statement)) (fails_for around statement) (mean_by (λ inner at. never) statement around) (λ failure other. clean_fails (record { watch = watch; left = 0 }) around statement failure other)
          (clean_by (record { watch = watch; left = 0 }) (λ caught. Unit {0}) (λ raised other. tt) (λ inner at. never) (λ inner at is. tt) around statement tt thrown),
    )

over_held : {A : Type 0} (a : A) (p : SessionProgress) → Held (over a) p [] a p
unfolding Held
over_held a p = (refl, refl, refl)

is_again : Layer → Bool
is_again Form-F.ThrowAgain = true
is_again form = false

again_is : (form : Layer) → is_again form ≡ true → form ≡ Form-F.ThrowAgain
unfolding is_again
again_is Form-F.ThrowAgain is = refl
again_is form is = absurd (let no : false ≡ true = is in cc)

is_thrown : (form : Layer) → form ≡ Form-F.ThrowAgain → is_again form ≡ true
unfolding is_again
is_thrown form is = ap is_again is

module _ (error : LockError) where
  -- no exchange is the cause
  unanswered : (exchanges : List Exchange) → list_any (λ (x : Exchange). is_answer error x.reply) exchanges ≡ false → NeverAnswered error exchanges
  unanswered [] is = tt
  unanswered (x ∷ later) is = by_first (λ none. unanswered later none) (is_answer error x.reply) refl is
    where
      by_first : (list_any (λ (x : Exchange). is_answer error x.reply) later ≡ false → NeverAnswered error later) → (first : Bool) → is_answer error x.reply ≡ first → (first || list_any (λ (x : Exchange). is_answer error x.reply) later) ≡ false → NeverAnswered error (x ∷ later)
      by_first rest true so none = absurd (let differ : true ≡ false = none in cc)
      by_first rest false so none = (so, rest none)

  -- it has the cause itself, or it is a THROW of what is caught around it
  abbrev Starts : Option Raised → Begun → List Exchange → Type 0
  Starts caught begun own = Answered error begun own ⊎ ((raised : Raised) × (caught ≡ Some raised) × Ours error raised.number × Throws raised begun own)

  module _ (levels : ℕ) (caught : Option Raised) (Before : Raised → Type 0) (begun : Begun) where
    abbrev Whole : Doing Exit
    Whole = tree_by (λ inner at. mean_of levels inner at) begun

    abbrev ran_whole : (p new : SessionProgress) (exchanges : List Exchange) (exit : Exit) → Held (alone begun) p exchanges exit new → Ran Whole p exchanges exit new
    ran_whole p new exchanges exit held = record {
      begun = begun;
      levels = levels;
      go = λ came. over came;
      own = exchanges;
      behind = [];
      exit = exit;
      mid = new;
      begins = sym (then_over Whole);
      parts = sym (append-nil exchanges);
      runs = held;
      goes_on = over_held exit new;
    }

    starts_found : (To : SessionProgress → Exit → SessionProgress → Type 0) (p new : SessionProgress) (exchanges : List Exchange) (exit : Exit) → Held (alone begun) p exchanges exit new → Starts caught begun exchanges → To p exit new → Found error caught To Whole p exchanges exit new
    unfolding ComesTo
    starts_found To p new exchanges exit held (inl answered) is = (0, inl (passes_here _ Whole p exchanges (ran_whole p new exchanges exit held, answered, is)))
    starts_found To p new exchanges exit held (inr (raised, same, ours, throws)) is = (0, inr (raised, same, ours, passes_here _ Whole p exchanges (ran_whole p new exchanges exit held, throws, is)))

    -- so it shows the cause of what it tells
    starts_shown : (left : ℕ) → Clean (record { watch = anything; left = left }) (LeavesBy anything) (alone begun) → (p new : SessionProgress) (exchanges : List Exchange) (exit : Exit) → Held (alone begun) p exchanges exit new → Starts caught begun exchanges → Shown error caught Before exits Whole p exchanges exit new
    starts_shown left clean p new exchanges exit held starts =
        let came = held_clean anything (LeavesBy anything) left (alone begun) p new exchanges exit (λ enough. tt) (λ few q look. tt) clean (says_anything exchanges) held in
        record {
          sent = came.1.0;
          tokens = came.1.1;
          told = all_each _ p.tokens came.1.0 (λ before after token is. by_token came.1.0 came.1.1 before after token is);
          fine = tt;
          left = λ raised way ours. inl (starts_found (Raises raised) p new exchanges exit held starts way);
        }
      where
        by_token : (sent : List Token) → new.tokens ≡ p.tokens ++ sent → (before after : List Token) (token : Token) → sent ≡ before ++ token ∷ after → Told error caught Whole p exchanges exit new (p.tokens ++ before) token
        by_token sent tokens before after (Error told) is =
            λ ours. starts_found (Sends (p.tokens ++ before) told) p new exchanges exit held starts (before, after, refl, tokens ∙ ap (λ (l : List Token). p.tokens ++ l) is ∙ sym (append_assoc p.tokens before (Error told ∷ after)))
        by_token sent tokens before after token is = tt

    -- one that has no cause, and throws none again, tells none
    other_shown : Clean (beginning (lock_watch error)) (LeavesBy (lock_watch error)) (alone begun) → (p new : SessionProgress) (exchanges : List Exchange) (exit : Exit) → Held (alone begun) p exchanges exit new → NeverAnswered error exchanges → Shown error caught Before exits Whole p exchanges exit new
    other_shown clean p new exchanges exit held none = shown_end error caught Before 1 (alone begun) Whole clean p new exchanges exit held none

    -- by whether one of its own exchanges is the cause
    pub definite_shown : (left : ℕ) → Clean (record { watch = anything; left = left }) (LeavesBy anything) (alone begun) → Clean (beginning (lock_watch error)) (LeavesBy (lock_watch error)) (alone begun)
        → (p new : SessionProgress) (exchanges : List Exchange) (exit : Exit) → Held (alone begun) p exchanges exit new → Shown error caught Before exits Whole p exchanges exit new
    definite_shown left any clean p new exchanges exit held = by_answer (list_any (λ (x : Exchange). is_answer error x.reply) exchanges) refl
      where
        by_answer : (answered : Bool) → list_any (λ (x : Exchange). is_answer error x.reply) exchanges ≡ answered → Shown error caught Before exits Whole p exchanges exit new
        by_answer true is = starts_shown left any p new exchanges exit held (inl is)
        by_answer false is = other_shown clean p new exchanges exit held (unanswered exchanges is)

  -- ---- a statement

  module _ (levels : ℕ) (around : Around) (Before : Raised → Type 0) (statement : Statement) where
    pub runs_shown : (p new : SessionProgress) (exchanges : List Exchange) (exit : Exit) → Held (alone (Runs statement around)) p exchanges exit new → Shown error around.caught Before exits (tree_by (λ inner at. mean_of levels inner at) (Runs statement around)) p exchanges exit new
    runs_shown p new exchanges exit held = by_answer (list_any (λ (x : Exchange). is_answer error x.reply) exchanges) refl
      where
        ShownSo : Type 0
        ShownSo = Shown error around.caught Before exits (tree_by (λ inner at. mean_of levels inner at) (Runs statement around)) p exchanges exit new

        starts : Starts around.caught (Runs statement around) exchanges → ShownSo
        starts so = starts_shown levels around.caught Before (Runs statement around) 1 (clean_runs anything statement around (λ is. any_caught around.caught)) p new exchanges exit held so
          where
            any_caught : (caught : Option Raised) → CaughtBy anything caught
            any_caught None = tt
            any_caught (Some raised) = tt

        none : NeverAnswered error exchanges → (form_of statement ≡ Form-F.ThrowAgain → CaughtBy (lock_watch error) around.caught) → ShownSo
        none unasked thrown = other_shown levels around.caught Before (Runs statement around) (clean_runs (lock_watch error) statement around thrown) p new exchanges exit held unasked

        by_number : (raised : Raised) → around.caught ≡ Some raised → is_again (form_of statement) ≡ true → NeverAnswered error exchanges → (ours : Bool) → int_eq raised.number (pos (number_of error)) ≡ ours → ShownSo
        by_number raised caught again unasked true is = starts (inr (raised, caught, (Decides-int_eq raised.number (pos (number_of error))).0 is, (again_is (form_of statement) again, caught)))
        by_number raised caught again unasked false is = none unasked (λ so. subst (CaughtBy (lock_watch error)) (sym caught) (differs raised.number (pos (number_of error)) is))

        by_caught : (caught : Option Raised) → around.caught ≡ caught → is_again (form_of statement) ≡ true → NeverAnswered error exchanges → ShownSo
        by_caught None caught again unasked = none unasked (λ so. subst (CaughtBy (lock_watch error)) (sym caught) tt)
        by_caught (Some raised) caught again unasked = by_number raised caught again unasked (int_eq raised.number (pos (number_of error))) refl

        by_again : (again : Bool) → is_again (form_of statement) ≡ again → NeverAnswered error exchanges → ShownSo
        by_again true is unasked = by_caught around.caught refl is unasked
        by_again false is unasked = none unasked (λ so. absurd (let no : true ≡ false = sym (is_thrown (form_of statement) so) ∙ is in cc))

        by_answer : (answered : Bool) → list_any (λ (x : Exchange). is_answer error x.reply) exchanges ≡ answered → ShownSo
        by_answer true is = starts (inl is)
        by_answer false is = by_again (is_again (form_of statement)) refl (unanswered exchanges is)
