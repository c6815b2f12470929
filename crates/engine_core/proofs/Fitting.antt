-- Runs of one session alone: one step more, and what the exchanges say of the log that they lead to.
use Rattle.std.proofs.Common.{◌≡◌, inr, ℕ, true, false, List, [], ◌∷◌, ◌++◌, All, Option, None, Some, IfSome, refl, sym, ap, ◌∙◌, subst, append-nil, append_assoc}
use Rattle.std.specs.List.{AllByRecursion}
use Rattle.std.proofs.lemmas.List.Elements.{All-from_recursion}
use Rattle.value_types.specs.declared.table_name.TableName.{TableName}
use Rattle.value_types.specs.declared.value.Value.{Value}
use Rattle.step_model.specs.declared.manner.Manner.{Manner}
use Rattle.step_model.specs.declared.edge.Edge.{Edge}
use Rattle.step_model.specs.declared.op.Op.{Op}
use Rattle.step_model.specs.declared.reply.Reply.{Reply}
use Rattle.step_model.specs.declared.reply.Reply.TheVariants.{Missing, Wait}
use Rattle.step_model.specs.declared.resource.Span.{Span}
use Rattle.step_model.specs.Exchange.{Exchange}
use Rattle.step_model.specs.Fits.{Fits, is_wait, without_waits}
use Rattle.step_model.specs.Log.{Commit}
use Rattle.step_model.specs.Own.{progress_of, standing_at}
use Rattle.step_model.specs.Port.{TellsAll}
use Rattle.step_model.specs.Runs.{Asked, MayStep, Run, opening, standing_of}
use Rattle.step_model.specs.State.{Engine, victim_of}
use Rattle.step_model.specs.Step.{Step}
use Rattle.history_laws.specs.Knows.{Knows}
use Rattle.history_laws.specs.Sure.{Sure, WritesTo}
use Rattle.history_laws.proofs.Laws.{knows_opening, knows_own}
use Rattle.history_laws.proofs.Since.{standing_known}
use Rattle.history_laws.proofs.SureRows.{sure_not_missing}
use Rattle.engine_core.specs.Solo.{IsRunOf, asked_by, is_refusal}
use Rattle.engine_core.proofs.Alone.{IsAlone, alone_opening, alone_step, passes_alone}

-- ---- one step more

run_more : (old mid new : Engine) (steps : List Asked) (asked : Asked) → Run old steps mid → MayStep mid asked.session asked.exchange.op asked.exchange.manner
    → Step mid asked.session asked.exchange.op asked.exchange.manner asked.exchange.reply new → Run old (steps ++ asked ∷ []) new
run_more old mid new [] asked run may step = (
  new,
  subst (λ (e : Engine). MayStep e asked.session asked.exchange.op asked.exchange.manner) run may,
  subst (λ (e : Engine). Step e asked.session asked.exchange.op asked.exchange.manner asked.exchange.reply new) run step,
  refl,
)
run_more old mid new (first ∷ steps) asked run may step = (run.0, run.1, run.2, run_more run.0 mid new steps asked run.3 may step)

asked_more : (session : ℕ) (exchanges : List Exchange) (exchange : Exchange) → asked_by session (exchanges ++ exchange ∷ []) ≡ asked_by session exchanges ++ record { session = session; exchange = exchange } ∷ []
asked_more session [] exchange = refl
asked_more session (x ∷ xs) exchange = ap (λ (steps : List Asked). record { session = session; exchange = x } ∷ steps) (asked_more session xs exchange)

-- a run of the session alone goes on by one exchange
pub longer : (session : ℕ) (exchanges : List Exchange) (old new : Engine) (exchange : Exchange) → Run opening (asked_by session exchanges) old → MayStep old session exchange.op exchange.manner
    → Step old session exchange.op exchange.manner exchange.reply new → Run opening (asked_by session (exchanges ++ exchange ∷ [])) new
longer session exchanges old new exchange run may step =
    subst (λ (steps : List Asked). Run opening steps new) (sym (asked_more session exchanges exchange))
    (run_more opening old new (asked_by session exchanges) (record { session = session; exchange = exchange }) run may step)

-- what is told stays a run of the session
pub told_more : (session : ℕ) (before after : Option (List Exchange)) (old new : Engine) (exchange : Exchange) → IsRunOf session before old → TellsAll before after (exchange ∷ [])
    → MayStep old session exchange.op exchange.manner → Step old session exchange.op exchange.manner exchange.reply new → IsRunOf session after new
told_more session None None old new exchange run more may step = (run.0 ++ exchange ∷ [], longer session run.0 old new exchange run.1 may step)
told_more session (Some before) None old new exchange run more may step = (before ++ exchange ∷ [], longer session before old new exchange run may step)
told_more session None (Some after) old new exchange run more may step = absurd more
told_more session (Some before) (Some after) old new exchange run more may step =
    subst (λ (exchanges : List Exchange). Run opening (asked_by session exchanges) new) (sym more) (longer session before old new exchange run may step)

-- there is a run of the session that leads to its engine
pub some_run : (session : ℕ) (told : Option (List Exchange)) (engine : Engine) → IsRunOf session told engine → (exchanges : List Exchange) × Run opening (asked_by session exchanges) engine
some_run session None engine run = run
some_run session (Some told) engine run = (told, run)

-- ---- what the engine knows of the session

pub no_wait : (reply : Reply) → is_refusal reply ≡ false → is_wait reply ≡ false
no_wait (Wait holder) passes = cc
no_wait reply passes = refl

-- no exchange was told to wait
abbrev NoneWaits : List Exchange → Type 0
NoneWaits steps = AllByRecursion (λ exchange. is_wait exchange.reply ≡ false) steps

none_last : (before : List Exchange) (last : Exchange) → NoneWaits (before ++ last ∷ []) → is_wait last.reply ≡ false
none_last [] last none = none.0
none_last (x ∷ before) last none = none_last before last none.1

none_more : (before : List Exchange) (last : Exchange) → NoneWaits before → is_wait last.reply ≡ false → NoneWaits (before ++ last ∷ [])
none_more [] last none passes = (passes, tt)
none_more (x ∷ before) last none passes = (none.0, none_more before last none.1 passes)

without_none : (steps : List Exchange) → NoneWaits steps → without_waits steps ≡ steps
without_none [] none = refl
without_none (x ∷ xs) none = rw none.0 (ap (λ (later : List Exchange). x ∷ later) (without_none xs none.1))

-- what is known of an engine in which one session alone has stepped, and was never told to wait
pub record KnowsAlone (session : ℕ) (engine : Engine) (steps : List Exchange) : Type 0 where
  pub knows : Knows engine session steps
  pub alone : IsAlone session engine
  pub none : NoneWaits steps

-- so it is not marked as a victim
pub unmarked : (session : ℕ) (engine : Engine) (steps : List Exchange) → KnowsAlone session engine steps → victim_of session engine ≡ None
unmarked session engine steps known = by_mark (victim_of session engine) refl
  where
    by_mark : (o : Option (List Edge)) → victim_of session engine ≡ o → o ≡ None
    by_mark None is = refl
    by_mark (Some cycle) is =
        let ends = known.knows.halted (inr (rw is refl)) in
        absurd (let h : true ≡ false = sym ends.told ∙ none_last ends.before ends.last (subst NoneWaits ends.split known.none) in cc)

module _ (session : ℕ) where
  knows_more : (old new : Engine) (before exchanges : List Exchange) → KnowsAlone session old before → Run old (asked_by session exchanges) new → KnowsAlone session new (before ++ exchanges)
  knows_more old new before [] known run = rw (run, append-nil before) known
  knows_more old new before (x ∷ xs) known run =
      subst (KnowsAlone session new) (append_assoc before (x ∷ []) xs)
      (knows_more run.0 new (before ++ x ∷ []) xs (record {
        knows = knows_own old run.0 session before x.op x.manner x.reply known.knows run.1 run.2;
        alone = alone_step session old run.0 x.op x.manner x.reply run.1.1 run.2 known.alone;
        none = none_more before x known.none (no_wait x.reply (passes_alone old run.0 session x.op x.manner x.reply known.alone (unmarked session old before known) run.2));
      }) run.3)

-- ---- what the exchanges of a run say of its log

module _ (session : ℕ) (exchanges : List Exchange) (engine : Engine) (run : Run opening (asked_by session exchanges) engine) where
  pub run_known : KnowsAlone session engine exchanges
  run_known = knows_more session opening engine [] exchanges (record { knows = knows_opening session; alone = alone_opening session; none = tt }) run

  run_waits : without_waits exchanges ≡ exchanges
  run_waits = without_none exchanges run_known.none

  -- they fit it
  pub run_fits : Fits session [] engine.log exchanges
  run_fits = subst (Fits session [] engine.log) run_waits run_known.knows.accords.fits

  -- each commit of the log is the session's
  pub run_own : All (λ (commit : Commit). commit.session ≡ session) engine.log
  run_own = All-from_recursion (λ (commit : Commit). commit.session ≡ session) engine.log run_known.alone.log

  -- where the session stands can be read off them
  pub run_standing : standing_of session engine ≡ standing_at (progress_of exchanges)
  run_standing = standing_known engine session exchanges run_known.knows.accords ∙ ap (λ (xs : List Exchange). standing_at (progress_of xs)) run_waits

  -- a row that they have made sure is not missing
  pub run_missing : (new : Engine) (op : Op) (manner : Manner) → Step engine session op manner Missing new → (span : Span) (t : TableName) (x : List Value)
      → WritesTo op t x → Sure exchanges span t x → ⊥
  run_missing new op manner step span t x writes sure =
      sure_not_missing engine new session exchanges op manner run_known.knows.accords step span t x writes (subst (λ (xs : List Exchange). Sure xs span t x) (sym run_waits) sure)

-- so it is with what a port tells; where it tells nothing, there is still a run of its session
pub told_fits : (session : ℕ) (told : Option (List Exchange)) (engine : Engine) → IsRunOf session told engine → IfSome told (λ exchanges. Fits session [] engine.log exchanges)
told_fits session None engine run = tt
told_fits session (Some exchanges) engine run = run_fits session exchanges engine run

pub told_own : (session : ℕ) (told : Option (List Exchange)) (engine : Engine) → IsRunOf session told engine → All (λ (commit : Commit). commit.session ≡ session) engine.log
told_own session told engine run = let some = some_run session told engine run in run_own session some.0 engine some.1
