use Rattle.std.proofs.Common.{◌≡◌, ◌++◌}
use Rattle.batch_meaning.specs.Tokens.{row_tokens}
use Rattle.session_state.proofs.tokens.push_rows.Given as goal

-- a token for each row so far
abbrev pub invariant-loop-row : goal.invariant-loop-row
invariant-loop-row l = l.tokens.items ≡ l.fn.tokens.items ++ row_tokens l.yielded
