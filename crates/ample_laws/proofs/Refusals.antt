-- 701, 1205 and 1222 are looked for, where each question for room is answered by yes, and no reply is a refusal.
use Rattle.std.proofs.Common.{◌≡◌, refl, sym, subst, ℤ, pos, true, false}
use Rattle.std.specs.Ordering.{int_eq}
use Rattle.batch_meaning.specs.Doing.{◌then◌}
use Rattle.batch_meaning.specs.Meaning.{batch, ends, mean_of, runs_text, vars_in_text}
use Rattle.batch_meaning.specs.Progress.{begins, counts, made, statement_limit}
use Rattle.batch_meaning.specs.Rpc.{ends_rpc, rpc, rpc_vars, runs_rpc}
use Rattle.cause_laws.proofs.Usual.{IsUsual, differs, no_deadlock, no_timeout, no_want}
use Rattle.cause_laws.proofs.UsualValues.{Anything, read_usual}
use Rattle.cause_laws.proofs.Watch.{LeavesBy, Watch}
use Rattle.cause_laws.proofs.Causes.{called_usual, clean_batch, clean_mean, clean_whole_call}
use Rattle.ample_laws.specs.Ample.{Ample, is_refusal}
use Rattle.ample_laws.specs.Telling.{IsNoRefusal, TellsOnly}
use Rattle.ample_laws.specs.Laws.{AmpleBatches, AmpleCalls, AmpleIsHeld, AmpleStatements}
use Rattle.ample_laws.proofs.Amply.{ample_clean, ample_held, caught_only, leaves_only, tells_only}

pub ample_is_held : AmpleIsHeld
ample_is_held = (λ tree old new exchanges exit. ample_held tree old new exchanges exit, λ tree old new exchanges done. ample_held tree old new exchanges done)

-- ---- what is looked for

pub usual_none : (number : ℤ) → IsUsual number → IsNoRefusal number
usual_none number usual = (no_want number usual, no_deadlock number usual, no_timeout number usual)

limit_none : (number : ℤ) → int_eq number (pos 701) ≡ false → int_eq number (pos 1205) ≡ false → int_eq number (pos 1222) ≡ false → IsNoRefusal number
limit_none number one two three = (differs number (pos 701) one, differs number (pos 1205) two, differs number (pos 1222) three)

no_refusal : true ≡ false → ⊥
no_refusal is = absurd (let no : true ≡ false = is in cc)

no_room : false ≡ true → ⊥
no_room is = absurd (let no : false ≡ true = is in cc)

abbrev refusal_watch : Watch
refusal_watch = record {
  Other = IsNoRefusal;
  Goes = λ status. Unit {0};
  Says = λ reply. is_refusal reply ≡ false;
  May = λ enough. enough ≡ true;
  Fine = λ P tree. Unit {0};
  At = λ P left p look. Unit {0};
  usual = usual_none;
  wants = λ may. absurd (no_room may);
  lacks = λ may. absurd (no_room may);
  memory = λ says. absurd (no_refusal says);
  missing = λ says. absurd (no_refusal says);
  victim = λ cycle says. absurd (no_refusal says);
  timed = λ holder held wanted on says. absurd (no_refusal says);
  more = tt;
  counted = tt;
  failed = tt;
  spent = λ P left p look at none. limit_none (pos 49001) refl refl refl;
  none_left = λ P p look at. limit_none (pos 49001) refl refl refl;
  fewer = λ P left p look at. tt;
  full = λ P left p tokens go same fine at. limit_none (pos 49002) refl refl refl;
  many = λ P around shapes query left p look is fails fine at. limit_none (pos 49002) refl refl refl;
  fine_over = λ P a holds. tt;
  fine_reads = λ P left look each. tt;
  fine_makes = λ P step next so fine. tt;
  fine_defines = λ P entry go each. tt;
  fine_asks = λ P op go each. tt;
  fine_room = λ P go each. tt;
  fine_never = λ P. tt;
  behind = λ P Q left p look go fine at. tt;
}

-- ---- the laws

pub ample_statements : AmpleStatements
ample_statements levels around statement old new exchanges exit caught none ample =
    let came = ample_clean refusal_watch (LeavesBy refusal_watch) levels (mean_of levels statement around) old new exchanges exit refl (λ few q look. tt)
    (clean_mean refusal_watch levels statement around (caught_only refusal_watch around.caught caught)) none ample in
    (leaves_only refusal_watch exit came.0, (came.1.0, came.1.1, tells_only refusal_watch came.1.0 came.1.2))

pub ample_batches : AmpleBatches
unfolding batch Ample
ample_batches text read old new exchanges reads_so none ample =
    let came = ample_clean refusal_watch {A = Unit {0}} Anything statement_limit (runs_text read then ends) (made (begins (vars_in_text read)) old) new exchanges tt refl (λ few q look. tt)
    (clean_batch refusal_watch (λ failed. tt) read (read_usual text read reads_so)) none ample in
    subst (TellsOnly IsNoRefusal) (sym came.1.1) (tells_only refusal_watch came.1.0 came.1.2)

pub ample_calls : AmpleCalls
unfolding rpc Ample
ample_calls call read old new exchanges reads_so none ample =
    let came = ample_clean refusal_watch {A = Unit {0}} Anything statement_limit (runs_rpc (λ inner at. mean_of statement_limit inner at) call read then ends_rpc) (made counts (made (begins (rpc_vars call)) old)) new exchanges tt refl (λ few q look. tt)
    (clean_whole_call refusal_watch (λ failed. tt) call read (called_usual call.text read reads_so)) none ample in
    subst (TellsOnly IsNoRefusal) (sym came.1.1) (tells_only refusal_watch came.1.0 came.1.2)
