use Rattle.std.proofs.Common.{◌≡◌, drop}
use Rattle.query_parser.specs.Parsed.{last_line}
use Rattle.query_parser.proofs.place.last_line.Given as goal

abbrev pub invariant-loop-spanned : goal.invariant-loop-spanned
invariant-loop-spanned l = last_line l.line (drop l.spanned-index l.lexemes) ≡ last_line 1 l.lexemes
