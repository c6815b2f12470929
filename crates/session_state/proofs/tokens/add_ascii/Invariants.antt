use Rattle.std.proofs.Common.{◌≡◌, ◌++◌, take}
use Rattle.session_state.proofs.tokens.add_ascii.Given as goal

abbrev pub invariant-loop-byte : goal.invariant-loop-byte
invariant-loop-byte l = l.units.items ≡ l.fn.units.items ++ take l.byte-index l.text
