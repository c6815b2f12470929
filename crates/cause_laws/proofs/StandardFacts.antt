-- What a known reply makes of a look-up, and where the cause of an error is found in batches of known forms.
use Rattle.std.proofs.Common.{◌≡◌, ℕ, suc, pos, true, false, List, [], ◌∷◌, ◌++◌, Err, refl}
use Rattle.tsql_tree.specs.declared.statement.Form.{Form-F}
use Rattle.tsql_tree.specs.declared.statement.Statement.{Statement}
use Rattle.binder.specs.Names.{form_of}
use Rattle.session_vars.specs.declared.Variable.{Variable}
use Rattle.step_model.specs.Exchange.{Exchange}
use Rattle.step_model.specs.declared.edge.Cycle.{Cycle}
use Rattle.step_model.specs.declared.reply.Reply.TheVariants as replies
use Rattle.tds_tokens.specs.declared.notice.Notice.{Notice}
use Rattle.tds_tokens.specs.declared.token.Token.TheVariants.{Error}
use Rattle.batch_meaning.specs.declared.exit.Exit.{Exit}
use Rattle.batch_meaning.specs.declared.exit.Exit.TheVariants.{On, Raise}
use Rattle.batch_meaning.specs.declared.raised.Raised.{Raised}
use Rattle.batch_meaning.specs.declared.settings.Settings.{Settings}
use Rattle.batch_meaning.specs.Asking.{definition_fetch, known, unless_refused}
use Rattle.batch_meaning.specs.Doing.{Doing, asks, never, ◌then◌, Held}
use Rattle.batch_meaning.specs.Failures.{plain}
use Rattle.batch_meaning.specs.Meaning.{Meaning, each_of, goes_on, handled, mean_of, runs_body, tries}
use Rattle.batch_meaning.specs.Progress.{SessionProgress, asked}
use Rattle.batch_meaning.specs.Raised.{Around, in_catch, in_try}
use Rattle.cause_laws.specs.Causes.{Deadlock, LockError, TellsNone, is_answer}
use Rattle.cause_laws.specs.Statements.{Answered, Begun, ComesTo, Finds, Runs, Sends, alone, tree_by}
use Rattle.cause_laws.proofs.Passing.{passes_behind, passes_here, then_then}

-- that the session fell as a deadlock's victim is a cause, and want of memory is none
victim_answered : (cycle : Cycle) → is_answer Deadlock (replies.Victim cycle) ≡ true
victim_answered cycle = refl

memory_unanswered : is_answer Deadlock replies.Memory ≡ false
memory_unanswered = refl

-- its look-up fails by 1205
victim_fails : (p : SessionProgress) (name : List ℕ) (cycle : Cycle) → Held (asks (definition_fetch name) (unless_refused known)) p (record { op = definition_fetch name; manner = p.settings.manner; reply = replies.Victim cycle } ∷ []) (Err (plain 1205)) (asked (definition_fetch name) (replies.Victim cycle) p)
unfolding Held
victim_fails p name cycle = (refl, refl, tt, (refl, refl, refl))

-- which an ERROR of that number tells
victim_told : (told : Notice) → told.number ≡ pos 1205 → TellsNone Deadlock (Error told ∷ []) → ⊥
victim_told told is none = none.0 is

-- ---- where a cause is found

-- of three statements the second has asked what was refused, and tells it: it is found behind the first
second_found : (error : LockError) (levels : ℕ) (around : Around) (first second third : Statement) (told : Notice) (p mid later new : SessionProgress) (before own behind : List Exchange) (exit end : Exit)
    → Held (mean_of (suc levels) first around) p before On mid → Held (alone (Runs second around)) mid own exit later → Held (goes_on (each_of (λ inner at. mean_of (suc levels) inner at) (third ∷ []) around) exit) later behind end new
    → Answered error (Runs second around) own → Sends mid.tokens told mid exit later
    → Finds 0 (Answered error) (Sends mid.tokens told) end new (each_of (λ inner at. mean_of (suc levels) inner at) (first ∷ second ∷ third ∷ []) around) p (before ++ (own ++ behind))
unfolding each_of mean_of ComesTo
second_found error levels around first second third told p mid later new before own behind exit end one two three answered sends =
    passes_behind _ (mean_of (suc levels) first around) (λ exit. goes_on (each_of (λ inner at. mean_of (suc levels) inner at) (second ∷ third ∷ []) around) exit) p mid before (own ++ behind) On one
    (passes_here _ (each_of (λ inner at. mean_of (suc levels) inner at) (second ∷ third ∷ []) around) mid (own ++ behind) (
      record {
        begun = Runs second around;
        levels = levels;
        go = λ exit. goes_on (each_of (λ inner at. mean_of (suc levels) inner at) (third ∷ []) around) exit;
        own = own;
        behind = behind;
        exit = exit;
        mid = later;
        begins = refl;
        parts = refl;
        runs = two;
        goes_on = three;
      },
      answered,
      sends,
    ))

-- one that a TRY has raised, and its CATCH throws again: the THROW is found behind the statement that has asked what was refused
thrown_found : (error : LockError) (levels : ℕ) (around : Around) (work throw : Statement) (raised : Raised) (told : Notice) (p mid later new : SessionProgress) (own again behind : List Exchange) (exit end : Exit)
    → Held (alone (Runs work (in_try around))) p own (Raise raised) mid → Held (alone (Runs throw (in_catch raised around))) mid again exit later
    → Held (goes_on (each_of (λ inner at. mean_of (suc levels) inner at) [] (in_catch raised around)) exit) later behind end new
    → Held (each_of (λ inner at. mean_of (suc levels) inner at) (throw ∷ []) (in_catch raised around)) mid (again ++ behind) end new
    → form_of throw ≡ Form-F.ThrowAgain → Answered error (Runs work (in_try around)) own → Sends mid.tokens told mid exit later
    → Finds 1 (Answered error) (Sends mid.tokens told) end new (tries (λ inner at. mean_of (suc levels) inner at) around (work ∷ []) (throw ∷ [])) p (own ++ (again ++ behind))
unfolding tries each_of mean_of ComesTo ◌then◌
thrown_found error levels around work throw raised told p mid later new own again behind exit end one two three whole is answered sends =
    passes_here _ (tries mean around (work ∷ []) (throw ∷ [])) p (own ++ (again ++ behind)) (
      record {
        begun = Runs work (in_try around);
        levels = levels;
        go = λ exit. goes_on (each_of mean [] (in_try around)) exit then catch;
        own = own;
        behind = again ++ behind;
        exit = Raise raised;
        mid = mid;
        begins = then_then (tree_by (λ inner at. mean_of levels inner at) (Runs work (in_try around))) (λ exit. goes_on (each_of mean [] (in_try around)) exit) catch;
        parts = refl;
        runs = one;
        goes_on = whole;
      },
      answered,
      (
        raised,
        refl,
        passes_here _ (catch (Raise raised)) mid (again ++ behind) (
          record {
            begun = Runs throw (in_catch raised around);
            levels = levels;
            go = λ exit. goes_on (each_of mean [] (in_catch raised around)) exit;
            own = again;
            behind = behind;
            exit = exit;
            mid = later;
            begins = refl;
            parts = refl;
            runs = two;
            goes_on = three;
          },
          (is, refl),
          sends,
        ),
      ),
    )
  where
    mean : Statement → Meaning
    mean inner at = mean_of (suc levels) inner at

    catch : Exit → Doing Exit
    catch exit = handled (λ raised. each_of mean (throw ∷ []) (in_catch raised around)) exit

-- one that has asked nothing has no cause: neither the first and the third, nor a THROW
unasked_none : (error : LockError) (begun : Begun) → Answered error begun [] → ⊥
unasked_none error begun is = let differ : false ≡ true = is in absurd (cc)

-- an EXEC whose procedure has begun is none that runs no other: what its procedure is told is told by a statement in that
body_runs : (vars : List Variable) (settings : Settings → Settings) (first : Statement) (others : List Statement) (around : Around) (p new : SessionProgress) (exchanges : List Exchange) (came : Exit × List Variable)
    → Held (runs_body (λ inner at. never) vars settings (first ∷ others) around) p exchanges came new → ⊥
unfolding runs_body each_of ◌then◌ Held
body_runs vars settings first others around p new exchanges came held = held
