use Rattle.std.proofs.Common.{ℕ, List, inl, inr, refl, rules, subst}
use Rattle.tsqld.specs.Program.{Prints}
use Rattle.tsqld.proofs.program.load_accounts.Goals as goal

pub returns-in-Ok-clause-printed : goal.returns-in-Ok-clause-printed
returns-in-Ok-clause-printed g c =
    let did = c.in-Ok.ensures.loaded in
    inl (did.0, did.2, subst (λ (bytes : List ℕ). Prints (g.K.Sink.written c.args.output.now) (g.K.Sink.written c.print.new.output) bytes 0 6 c.print.result) (search rules) c.print.ensures.printed)

pub returns-clause-printed : goal.returns-clause-printed
returns-clause-printed g c = let only = c.load.ensures.only in inr (refl, refl, (only.each, only.follow, only.others))
