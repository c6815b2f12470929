-- The tokens that grant a login have a spelling.
use Rattle.std.proofs.Common.{◌<◌, ◌^◌, ℕ, length, [], inl, inr, refl, arith}
use Rattle.std.specs.Fmt.{decimal}
use Rattle.std.proofs.lemmas.Fmt.{length-decimal-le}
use Rattle.tds_tokens.specs.Fit.{FitTokens}
use Rattle.tds_packets.specs.Packets.{default_size}
use Rattle.tds_login.specs.Verdict.{login_reply}

pub login_reply_fits : (size : ℕ) → size < 2 ^ 16 → FitTokens [] (login_reply size)
unfolding FitTokens
login_reply_fits size small =
    let digits = length-decimal-le 5 size (omega arith) (omega arith) (omega arith) in
    let few : length (decimal size) < 2 ^ 8 = omega arith in
    let former = length-decimal-le 5 4096 (omega arith) (omega arith) (omega arith) in
    let few_before : length (decimal default_size) < 2 ^ 8 = omega arith in
    ((inl refl, omega arith, omega arith), ((omega arith, omega arith, omega arith, omega arith), (omega arith, ((inr refl, few, few_before), (tt, tt)))))
