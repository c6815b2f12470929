use Rattle.std.proofs.Common.{◌+◌, ◌++◌, drop, append_assoc, sym, ap, ◌∙◌, arith}
use Rattle.std.proofs.lemmas.List.{append-nil}
use Rattle.tds_tokens.specs.Spelling.{columns_after, token_bytes, tokens_bytes}
use Rattle.tds_tokens.proofs.Tokens.{tokens_bytes-drop, length-tokens_bytes-drop, tokens_bytes-drop_all, FitTokens-drop}
use Rattle.tds_tokens.proofs.writing.write_tokens.Goals as goal

pub put_token-requires-clause-fits : goal.put_token-requires-clause-fits
put_token-requires-clause-fits c =
    (FitTokens-drop c.loop-token.columns.now c.args.tokens.now c.loop-token.token-index c.token-item.result c.loop-token-test.true c.token-item.is c.loop-token.invariant.fits).0

pub put_token-requires-clause-room : goal.put_token-requires-clause-room
put_token-requires-clause-room c =
    omega (arith, length-tokens_bytes-drop c.loop-token.columns.now c.args.tokens.now c.loop-token.token-index c.token-item.result c.loop-token-test.true c.token-item.is)

pub loop-token-preserved : goal.loop-token-preserved
loop-token-preserved c =
    let columns = c.loop-token.columns.now in
    let tokens = c.args.tokens.now in
    let i = c.loop-token.token-index in
    let token = c.token-item.result in
    let first = tokens_bytes-drop columns tokens i token c.loop-token-test.true c.token-item.is in
    let left = tokens_bytes (columns_after columns token) (drop (i + 1) tokens) in
    let len = length-tokens_bytes-drop columns tokens i token c.loop-token-test.true c.token-item.is in
    record {
      fits = rw c.columns_after-columns.ensures (FitTokens-drop columns tokens i token c.loop-token-test.true c.token-item.is c.loop-token.invariant.fits).1;
      items = rw (c.columns_after-columns.ensures, c.put_token.ensures.items) (append_assoc c.loop-token.out.items (token_bytes columns token) left ∙ ap (λ bytes. c.loop-token.out.items ++ bytes) (sym first) ∙ c.loop-token.invariant.items);
      room = rw c.columns_after-columns.ensures (omega (arith, len));
      capacity = c.put_token.ensures.capacity ∙ c.loop-token.invariant.capacity;
    }

pub returns-clause-bytes : goal.returns-clause-bytes
returns-clause-bytes c =
    let none = tokens_bytes-drop_all c.loop-token.columns.now c.args.tokens.now c.loop-token.token-index c.loop-token-test.false in
    sym (append-nil c.loop-token.out.items) ∙ sym (ap (λ bytes. c.loop-token.out.items ++ bytes) none) ∙ c.loop-token.invariant.items
