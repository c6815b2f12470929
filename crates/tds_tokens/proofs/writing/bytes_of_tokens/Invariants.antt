use Rattle.std.proofs.Common.{◌≡◌, ◌+◌, ◌-◌, ◌^◌, ◌<◌, length, min, drop}
use Rattle.tds_tokens.specs.Spelling.{TokenBytes, tokens_bytes}
use Rattle.tds_tokens.proofs.writing.bytes_of_tokens.Given as goal

-- the size so far, and that of the tokens that are left, is that of all
abbrev pub invariant-loop-token : goal.invariant-loop-token
invariant-loop-token l = record {
  total :
      min (l.size + length (tokens_bytes l.columns (drop l.token-index l.tokens))) (2 ^ 64 - 1)
      ≡ min (length (TokenBytes l.tokens)) (2 ^ 64 - 1);
  fits : l.size < 2 ^ 64;
}
