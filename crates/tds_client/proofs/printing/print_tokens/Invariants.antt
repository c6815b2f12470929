use Rattle.std.proofs.Common.{◌≡◌, take}
use Rattle.tds_client.specs.Printing.{Print}
use Rattle.tds_client.proofs.printing.print_tokens.Given as goal

-- the tokens so far are printed
abbrev pub invariant-loop-token : goal.invariant-loop-token
invariant-loop-token l = l.printed.items ≡ Print (take l.token-index l.tokens)
