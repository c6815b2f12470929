-- The tokens of a refused login, and of what is not served, have bytes.
use Rattle.std.proofs.Common.{[], ◌∷◌, pos, true, Some, Result, Ok, Err, IfOk, ◌≡◌, ℕ, ℤ, sym, subst, arith}
use Rattle.std.specs.Fmt.{decimal}
use Rattle.std.specs.declared.alloc.Global.{Global}
use Rattle.std.specs.declared.vec.Vec.{Vec}
use Rattle.error_table.specs.declared.action.Action.TheVariants.{Batch}
use Rattle.value_types.specs.declared.memory.Memory.{Memory}
use Rattle.tds_tokens.specs.Fit.{FitTokens}
use Rattle.tds_tokens.specs.Numbers.{done_error, command_none}
use Rattle.tds_tokens.specs.declared.token.DoneKind.{DoneKind}
use Rattle.tds_tokens.specs.declared.token.DoneKind.TheVariants.{Done}
use Rattle.tds_tokens.specs.declared.token.Token.{Token}
use Rattle.tds_tokens.specs.declared.token.Token.TheVariants.{Finished}
use Rattle.batch_meaning.specs.Failures.{naming}
use Rattle.batch_meaning.specs.Raised.{error_token, raised_at}
use Rattle.batch_meaning.specs.Tokens.{last_done}
use Rattle.session_state.proofs.Fitting.{done_fit, fit_both, last_done_fit, told_fits}
use Rattle.session_server.specs.Response.{refusal_tokens, unserved}

pub refusal_fits : (number : ℤ) (result : Result (Vec Token Global) Memory) → IfOk result (λ tokens. tokens.items ≡ refusal_tokens number) → IfOk result (λ tokens. FitTokens [] tokens.items)
refusal_fits number (Ok tokens) is = subst (FitTokens []) (sym is) (fit_both (error_token (raised_at (pos 1) (record { number = number; name = Some [] })) ∷ []) (Finished Done done_error command_none 0 ∷ [])
    (told_fits Done Batch command_none (raised_at (pos 1) (record { number = number; name = Some [] })) (omega arith)) (done_fit Done done_error command_none 0) [])
refusal_fits number (Err memory) is = tt

pub unserved_fits : (number at : ℕ) (kind : DoneKind) (result : Result (Vec Token Global) Memory) → IfOk result (λ tokens. tokens.items ≡ unserved number at (last_done kind true)) → IfOk result (λ tokens. FitTokens [] tokens.items)
unserved_fits number at kind (Ok tokens) is = subst (FitTokens []) (sym is) (fit_both (error_token (raised_at (pos 1) (naming number (decimal at))) ∷ []) (last_done kind true ∷ [])
    (told_fits Done Batch command_none (raised_at (pos 1) (naming number (decimal at))) (omega arith)) (last_done_fit kind true) [])
unserved_fits number at kind (Err memory) is = tt
