-- Own: the variants of kinds, by which most kinds are told apart.
use Rattle.std.specs.Prelude.{ℕ}
use Rattle.tsql_grammar.specs.declared.kind.Kind.{Kind}
use Rattle.tsql_grammar.specs.declared.kind.Kind.TheVariants as k

-- the place of a kind's variant among all variants
abbrev pub variant_of : Kind → ℕ
variant_of k.Number = 0
variant_of k.Text = 1
variant_of k.Variable = 2
variant_of k.Name = 3
variant_of k.Dbo = 4
variant_of k.OtherSystem = 5
variant_of k.TranCount = 6
variant_of k.Error = 7
variant_of k.RowCount = 8
variant_of k.FetchStatus = 9
variant_of k.Version = 10
variant_of k.ServerName = 11
variant_of k.MaxPrecision = 12
variant_of k.BeforeElse = 13
variant_of (k.Sign a) = 14
variant_of (k.Fixed a) = 15
variant_of (k.Function a) = 16
variant_of (k.Word a) = 17
variant_of (k.Reserved a) = 18
