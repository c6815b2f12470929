-- 49001 is looked for, where statements are left: a batch that begins counts down from what it may begin, and never up.
use Rattle.std.proofs.Common.{◌≡◌, ◌≢◌, refl, sym, ap, subst, ℕ, zero, suc, pred, ◌-◌, ℤ, pos, false, List, [], ◌∷◌, Option, None, Some, ◌≤◌, arith}
use Rattle.std.specs.Ordering.{int_eq}
use Rattle.std.proofs.lemmas.Bool.{eqb-true}
use Rattle.step_model.specs.Exchange.{Exchange}
use Rattle.batch_meaning.specs.declared.raised.Raised.{Raised}
use Rattle.batch_meaning.specs.Doing.{Doing, Held, over, reads, makes, defines, asks, room, never, ◌then◌}
use Rattle.batch_meaning.specs.Meaning.{batch, ends, mean_of, runs_text, vars_in_text}
use Rattle.batch_meaning.specs.Progress.{SessionProgress, SessionStep, asked, begins, counts, made, statement_limit}
use Rattle.batch_meaning.specs.Rpc.{ends_rpc, rpc, rpc_vars, runs_rpc}
use Rattle.cause_laws.proofs.Usual.{differs, no_spending}
use Rattle.cause_laws.proofs.UsualValues.{Anything, read_usual}
use Rattle.cause_laws.proofs.Watch.{CaughtBy, LeavesBy, Watch}
use Rattle.cause_laws.proofs.Clean.{CleanAt, CleanStep, SendsNone, left_behind, sends_both, sends_nothing, sends_step}
use Rattle.cause_laws.proofs.Causes.{called_usual, clean_batch, clean_mean, clean_whole_call}
use Rattle.ample_laws.specs.Laws.{BatchesWithin, CallsWithin, StatementsWithin}
use Rattle.ample_laws.specs.Telling.{IsNoLimit, TellsOnly}
use Rattle.ample_laws.proofs.Amply.{caught_only, done_watch, leaves_only, tells_only}

-- ---- counts

none_at_zero : (n : ℕ) → n ≢ 0 → n ≤ 0 → ⊥
none_at_zero zero some most = some refl
none_at_zero (suc n) some most = omega (arith, most)

le_same : (n : ℕ) → n ≤ n
le_same n = omega arith

le_trans : (a b c : ℕ) → a ≤ b → b ≤ c → a ≤ c
le_trans a b c one two = omega (arith, one, two)

less_one : (n : ℕ) → n - 1 ≡ pred n
less_one zero = refl
less_one (suc n) = let less : suc n - 1 ≡ n = omega arith in less

le_fewer : (n most : ℕ) → n ≤ pred most → n ≤ most
le_fewer n zero is = is
le_fewer n (suc most) is = omega (arith, is)

fewer_le : (n : ℕ) → n - 1 ≤ n
fewer_le n = omega arith

both_pred : (n most : ℕ) → n ≤ most → pred n ≤ pred most
both_pred zero most is = omega arith
both_pred (suc n) zero is = absurd (omega (arith, is))
both_pred (suc n) (suc most) is = omega (arith, is)

both_fewer : (n most : ℕ) → n ≤ most → n - 1 ≤ pred most
both_fewer n most is = subst (λ (m : ℕ). m ≤ pred most) (sym (less_one n)) (both_pred n most is)

-- where some are left behind a moment, some are at it
some_before : (n later : ℕ) → later ≤ n → later ≢ 0 → n ≢ 0
some_before n later most some none = none_at_zero later some (subst (λ (m : ℕ). later ≤ m) none most)

-- ---- what is looked for

limit_other : (number : ℤ) → int_eq number (pos 49001) ≡ false → IsNoLimit number
limit_other number is = differs number (pos 49001) is

abbrev limit_watch : Watch
limit_watch = record {
  Other = IsNoLimit;
  Goes = λ status. Unit {0};
  Says = λ reply. Unit {0};
  May = λ enough. Unit {0};
  Fine = λ P tree. Unit {0};
  At = λ P left p look. (p.statements_left ≢ 0) × (p.statements_left ≤ left);
  usual = no_spending;
  wants = λ may. limit_other (pos 701) refl;
  lacks = λ may. tt;
  memory = λ says. limit_other (pos 701) refl;
  missing = λ says. limit_other (pos 701) refl;
  victim = λ cycle says. limit_other (pos 1205) refl;
  timed = λ holder held wanted on says. limit_other (pos 1222) refl;
  more = tt;
  counted = tt;
  failed = tt;
  spent = λ P left p look at none. absurd (at.0 (eqb-true p.statements_left 0 none));
  none_left = λ P p look at. absurd (none_at_zero p.statements_left at.0 at.1);
  fewer = λ P left p look at. (at.0, le_fewer p.statements_left left at.1);
  full = λ P left p tokens go same fine at. limit_other (pos 49002) refl;
  many = λ P around shapes query left p look is fails fine at. limit_other (pos 49002) refl;
  fine_over = λ P a holds. tt;
  fine_reads = λ P left look each. tt;
  fine_makes = λ P step next so fine. tt;
  fine_defines = λ P entry go each. tt;
  fine_asks = λ P op go each. tt;
  fine_room = λ P go each. tt;
  fine_never = λ P. tt;
  behind = λ P Q left p look go fine at. at;
}

-- nothing is asked
abbrev free_watch : Watch
free_watch = done_watch (λ status. Unit {0}) tt tt tt

free_caught : (caught : Option Raised) → CaughtBy free_watch caught
free_caught None = tt
free_caught (Some raised) = tt

-- ---- no statement more is left

step_falls : (step : SessionStep) (p : SessionProgress) → CleanStep free_watch step → (made step p).statements_left ≤ p.statements_left
step_falls (begins vars) p clean = absurd clean
step_falls counts p clean = fewer_le p.statements_left
step_falls step p clean = le_same p.statements_left

held_falls : {A : Type 0} (P : A → Type 0) (left : ℕ) (tree : Doing A) (p new : SessionProgress) (exchanges : List Exchange) (a : A) → CleanAt free_watch P left tree → Held tree p exchanges a new → new.statements_left ≤ p.statements_left
unfolding Held
held_falls P left (over c) p new exchanges a clean held = subst (λ (q : SessionProgress). q.statements_left ≤ p.statements_left) (sym held.2) (le_same p.statements_left)
held_falls P left (reads look) p new exchanges a clean held = held_falls P left (look p) p new exchanges a (clean p tt) held
held_falls P left (makes step next) p new exchanges a clean held =
    le_trans new.statements_left (made step p).statements_left p.statements_left (held_falls P (left_behind step left) next (made step p) new exchanges a clean.1 held) (step_falls step p clean.0)
held_falls P left (defines entry go) p new exchanges a clean held = held_falls P left (go held.0) p new exchanges a (clean held.0) held.2
held_falls P left (asks op go) p new [] a clean held = absurd held
held_falls P left (asks op go) p new (x ∷ later) a clean held = held_falls P left (go x.reply) (asked op x.reply p) new later a (clean x.reply tt) held.3
held_falls P left (room go) p new exchanges a clean held = held_falls P left (go held.0) p new exchanges a (clean held.0 tt) held.1
held_falls P left never p new exchanges a clean held = absurd held

-- ---- where some are left at the end

step_within : (left : ℕ) (step : SessionStep) (p : SessionProgress) → CleanStep limit_watch step → p.statements_left ≤ left → (made step p).statements_left ≤ left_behind step left
step_within left (begins vars) p clean most = absurd clean
step_within left counts p clean most = both_fewer p.statements_left left most
step_within left step p clean most = most

held_within : {A : Type 0} (P Q : A → Type 0) (left : ℕ) (tree : Doing A) (p new : SessionProgress) (exchanges : List Exchange) (a : A) → CleanAt free_watch Q left tree → CleanAt limit_watch P left tree
    → p.statements_left ≤ left → new.statements_left ≢ 0 → Held tree p exchanges a new → P a × SendsNone limit_watch p new
unfolding Held
held_within P Q left (over c) p new exchanges a free clean most some held = (subst P (sym held.1) clean, sends_nothing limit_watch p new (ap (λ (q : SessionProgress). q.tokens) held.2))
held_within P Q left (reads look) p new exchanges a free clean most some held =
    held_within P Q left (look p) p new exchanges a (free p tt) (clean p (some_before p.statements_left new.statements_left (held_falls Q left (look p) p new exchanges a (free p tt) held) some, most)) most some held
held_within P Q left (makes step next) p new exchanges a free clean most some held =
    let more = held_within P Q (left_behind step left) next (made step p) new exchanges a free.1 clean.1 (step_within left step p clean.0 most) some held in
    (more.0, sends_both limit_watch p (made step p) new (sends_step limit_watch step p clean.0) more.1)
held_within P Q left (defines entry go) p new exchanges a free clean most some held = held_within P Q left (go held.0) p new exchanges a (free held.0) (clean held.0) most some held.2
held_within P Q left (asks op go) p new [] a free clean most some held = absurd held
held_within P Q left (asks op go) p new (x ∷ later) a free clean most some held = held_within P Q left (go x.reply) (asked op x.reply p) new later a (free x.reply tt) (clean x.reply tt) most some held.3
held_within P Q left (room go) p new exchanges a free clean most some held = held_within P Q left (go held.0) p new exchanges a (free held.0 tt) (clean held.0 tt) most some held.1
held_within P Q left never p new exchanges a free clean most some held = absurd held

-- ---- the laws

pub statements_within : StatementsWithin
statements_within levels around statement old new exchanges exit caught most some held =
    let came = held_within (LeavesBy limit_watch) (LeavesBy free_watch) levels (mean_of levels statement around) old new exchanges exit
    (clean_mean free_watch levels statement around (free_caught around.caught)) (clean_mean limit_watch levels statement around (caught_only limit_watch around.caught caught)) most some held in
    (leaves_only limit_watch exit came.0, (came.1.0, came.1.1, tells_only limit_watch came.1.0 came.1.2))

pub batches_within : BatchesWithin
unfolding batch Held
batches_within text read old new exchanges reads_so some held =
    let usual = read_usual text read reads_so in
    let came = held_within {A = Unit {0}} Anything Anything statement_limit (runs_text read then ends) (made (begins (vars_in_text read)) old) new exchanges tt
    (clean_batch free_watch (λ failed. tt) read usual) (clean_batch limit_watch (λ failed. tt) read usual) (le_same statement_limit) some held in
    subst (TellsOnly IsNoLimit) (sym came.1.1) (tells_only limit_watch came.1.0 came.1.2)

pub calls_within : CallsWithin
unfolding rpc Held
calls_within call read old new exchanges reads_so some held =
    let usual = called_usual call.text read reads_so in
    let came = held_within {A = Unit {0}} Anything Anything statement_limit (runs_rpc (λ inner at. mean_of statement_limit inner at) call read then ends_rpc) (made counts (made (begins (rpc_vars call)) old)) new exchanges tt
    (clean_whole_call free_watch (λ failed. tt) call read usual) (clean_whole_call limit_watch (λ failed. tt) call read usual) (fewer_le statement_limit) some held in
    subst (TellsOnly IsNoLimit) (sym came.1.1) (tells_only limit_watch came.1.0 came.1.2)
