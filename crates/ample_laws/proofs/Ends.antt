-- DONEs that are the end are looked for: none is told before the last one, which is told always.
use Rattle.std.proofs.Common.{◌≡◌, refl, sym, ap, ◌∙◌, ℕ, pos, Bool, true, false, List, [], ◌∷◌, ◌++◌, append_assoc, if◌then◌else◌}
use Rattle.std.specs.List.{AllByRecursion}
use Rattle.step_model.specs.Exchange.{Exchange}
use Rattle.tds_tokens.specs.declared.token.Token.{Token}
use Rattle.tds_tokens.specs.declared.token.Token.TheVariants.{Finished}
use Rattle.batch_meaning.specs.declared.exit.Exit.{Exit}
use Rattle.batch_meaning.specs.Doing.{Doing, Held, makes, over, ◌then◌}
use Rattle.batch_meaning.specs.Failures.{plain}
use Rattle.batch_meaning.specs.Meaning.{batch, doomed_at_end, ends, ends_doomed, has_failed, mean_of, rolls_back_doomed, rolls_back_told, runs_text, tells_end, vars_in_text}
use Rattle.batch_meaning.specs.Progress.{SessionProgress, begins, counts, made, sends, statement_limit}
use Rattle.batch_meaning.specs.Raised.{error_token, raised_at}
use Rattle.batch_meaning.specs.Rpc.{ends_rpc, ends_rpc_doomed, rpc, rpc_vars, runs_rpc}
use Rattle.batch_meaning.specs.Tokens.{batch_done, rpc_done}
use Rattle.statement_paths.proofs.Apart.{held_apart}
use Rattle.cause_laws.proofs.UsualValues.{Anything, read_usual}
use Rattle.cause_laws.proofs.Watch.{LeavesBy, SaysAll, TellsBy, Watch}
use Rattle.cause_laws.proofs.Clean.{CleanAt, all_both, held_clean}
use Rattle.cause_laws.proofs.Causes.{at_left, called_usual, clean_body_of, clean_call_of, clean_told}
use Rattle.ample_laws.specs.Laws.{BatchesEnd, CallsEnd}
use Rattle.ample_laws.specs.Telling.{EndsWith, MoreFollows, SaysMore}
use Rattle.ample_laws.proofs.Amply.{done_watch}

-- ---- what is looked for

abbrev end_watch : Watch
end_watch = done_watch SaysMore refl refl refl

any_says : (exchanges : List Exchange) → SaysAll end_watch exchanges
any_says [] = tt
any_says (x ∷ exchanges) = (tt, any_says exchanges)

-- tokens behind which more follows
abbrev AllMore : List Token → Type 0
AllMore tokens = AllByRecursion MoreFollows tokens

more_follows : (tokens : List Token) → AllByRecursion (TellsBy end_watch) tokens → AllMore tokens
more_follows [] all = tt
more_follows (token ∷ tokens) all = (by_token token all.0, more_follows tokens all.1)
  where
    by_token : (token : Token) → TellsBy end_watch token → MoreFollows token
    by_token (Finished kind status command rows) more = more
    by_token token more = tt

-- what was sent of a clean tree
abbrev SendsMore : SessionProgress → SessionProgress → Type 0
SendsMore p new = (sent : List Token) × (new.tokens ≡ p.tokens ++ sent) × AllMore sent

held_more : {A : Type 0} (P : A → Type 0) (left : ℕ) (tree : Doing A) (p new : SessionProgress) (exchanges : List Exchange) (a : A) → CleanAt end_watch P left tree → Held tree p exchanges a new → SendsMore p new
held_more P left tree p new exchanges a clean held =
    let came = held_clean end_watch P left tree p new exchanges a (λ enough. tt) (λ few q look. tt) clean (any_says exchanges) held in
    (came.1.0, came.1.1, more_follows came.1.0 came.1.2)

-- ---- the end

-- some tokens behind which more follows, and the last
record Ending (last : Bool → Token) (p new : SessionProgress) : Type 0 where
  pub sent : List Token
  pub failed : Bool
  pub told : new.tokens ≡ p.tokens ++ (sent ++ last failed ∷ [])
  pub more : AllMore sent

module _ (last : Bool → Token) (p new : SessionProgress) (exchanges : List Exchange) where
  doomed_ending : Held (rolls_back_doomed (last true)) p exchanges tt new → Ending last p new
  unfolding Held
  doomed_ending held =
      let error = error_token (raised_at (pos 1) (plain doomed_at_end)) in
      let on = held_apart rolls_back_told (λ done. makes (sends (last true ∷ [])) (over tt)) (made (sends (error ∷ [])) p) new exchanges tt held in
      let back = held_more {A = Unit {0}} Anything 0 rolls_back_told (made (sends (error ∷ [])) p) on.mid on.front on.came (clean_told (at_left end_watch 0)) on.held in
      record {
        sent = error ∷ back.0;
        failed = true;
        told = ap (λ (q : SessionProgress). q.tokens) on.rest.2 ∙ ap (λ (tokens : List Token). tokens ++ last true ∷ []) back.1
            ∙ append_assoc (p.tokens ++ error ∷ []) back.0 (last true ∷ []) ∙ append_assoc p.tokens (error ∷ []) (back.0 ++ last true ∷ []);
        more = (tt, back.2);
      }

  told_ending : (failed : Bool) → Held {A = Unit {0}} (makes (sends (last failed ∷ [])) (over tt)) p exchanges tt new → Ending last p new
  unfolding Held
  told_ending failed held = record { sent = []; failed = failed; told = ap (λ (q : SessionProgress). q.tokens) held.2; more = tt }

  ending : (exit : Exit) → Held (tells_end last (rolls_back_doomed (last true)) exit) p exchanges tt new → Ending last p new
  unfolding Held
  ending exit held = by_doom p.txn.doomed held
    where
      by_doom : (doomed : Bool) → Held {A = Unit {0}} (if doomed then rolls_back_doomed (last true) else makes (sends (last (has_failed exit) ∷ [])) (over tt)) p exchanges tt new → Ending last p new
      by_doom true held = doomed_ending held
      by_doom false held = told_ending (has_failed exit) held

-- behind a body
ends_with : (last : Bool → Token) (old mid new : SessionProgress) → old.tokens ≡ [] → SendsMore old mid → Ending last mid new → EndsWith last new.tokens
ends_with last old mid new none first end = record {
  front = first.0 ++ end.sent;
  failed = end.failed;
  whole = end.told ∙ ap (λ (tokens : List Token). tokens ++ (end.sent ++ last end.failed ∷ [])) (first.1 ∙ ap (λ (tokens : List Token). tokens ++ first.0) none)
      ∙ sym (append_assoc first.0 end.sent (last end.failed ∷ []));
  more = all_both MoreFollows first.0 end.sent first.2 end.more;
}

-- ---- the laws

pub batches_end : BatchesEnd
unfolding batch ends ends_doomed Held
batches_end text read old new exchanges reads_so held =
    let begun = made (begins (vars_in_text read)) old in
    let on = held_apart (runs_text read) ends begun new exchanges tt held in
    let first = held_more (LeavesBy end_watch) statement_limit (runs_text read) begun on.mid on.front on.came (clean_body_of end_watch read (read_usual text read reads_so)) on.held in
    ends_with batch_done begun on.mid new refl first (ending batch_done on.mid new on.back on.came on.rest)

pub calls_end : CallsEnd
unfolding rpc ends_rpc ends_rpc_doomed Held
calls_end call read old new exchanges reads_so held =
    let begun = made counts (made (begins (rpc_vars call)) old) in
    let runs = runs_rpc (λ inner at. mean_of statement_limit inner at) call read in
    let on = held_apart runs ends_rpc begun new exchanges tt held in
    let first = held_more (LeavesBy end_watch) statement_limit runs begun on.mid on.front on.came (clean_call_of end_watch call read (called_usual call.text read reads_so)) on.held in
    ends_with rpc_done begun on.mid new refl first (ending rpc_done on.mid new on.back on.came on.rest)
