use Rattle.std.proofs.Common.{◌≡◌, length}
use Rattle.tds_login.specs.Prelogin.{options_of, prelogin_of}
use Rattle.tds_login.proofs.Options.{resumed}
use Rattle.tds_login.proofs.prelogin.read_prelogin.Given as goal

-- what was seen and the options that are left come to what the whole payload says
abbrev pub invariant-loop-rest : goal.invariant-loop-rest
invariant-loop-rest l = prelogin_of l.payload ≡ resumed l.payload l.seen (options_of l.rest)

abbrev pub decreases-loop-rest : goal.decreases-loop-rest
decreases-loop-rest l = length l.rest
