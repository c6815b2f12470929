use Rattle.std.proofs.Common.{nat_lt, refl}
use Rattle.std.proofs.lemmas.Bool.{ltb-true}
use Rattle.std.proofs.lemmas.List.Sums.{AllPass-from_list_all}
use Rattle.clause_binder.specs.Server.{version_text}
use Rattle.clause_binder.proofs.server.version.Goals as goal

pub of_ascii-requires : goal.of_ascii-requires
of_ascii-requires c = λ k d within. ltb-true _ 128 (AllPass-from_list_all (λ byte. nat_lt byte 128) version_text refl k d within)

pub returns : goal.returns
returns c = rw c.in_ok-text.ensures at c.server_text.ensures
