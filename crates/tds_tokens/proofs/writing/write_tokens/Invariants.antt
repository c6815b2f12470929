use Rattle.std.proofs.Common.{◌≡◌, ◌+◌, ◌≤◌, ◌++◌, length, drop, vec_len, vec_capacity}
use Rattle.tds_tokens.specs.Spelling.{TokenBytes, tokens_bytes}
use Rattle.tds_tokens.specs.Fit.{FitTokens}
use Rattle.tds_tokens.proofs.writing.write_tokens.Given as goal

-- what is written, and the tokens that are left, is all of them behind what was there
abbrev pub invariant-loop-token : goal.invariant-loop-token
invariant-loop-token l = record {
  fits : FitTokens l.columns (drop l.token-index l.tokens);
  items : l.out.items ++ tokens_bytes l.columns (drop l.token-index l.tokens) ≡ l.fn.out.items ++ TokenBytes l.tokens;
  room : vec_len l.out + length (tokens_bytes l.columns (drop l.token-index l.tokens)) ≤ vec_capacity l.out;
  capacity : vec_capacity l.out ≡ vec_capacity l.initial.out;
}
