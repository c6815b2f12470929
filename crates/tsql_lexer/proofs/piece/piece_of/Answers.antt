use Rattle.std.proofs.Common.{sym, ◌∙◌, arith}
use Rattle.tsql_lexer.proofs.Openings.{two_stand}
use Rattle.tsql_lexer.proofs.piece.piece_of.Goals as goal

pub text_piece-requires-in-NationalText : goal.text_piece-requires-in-NationalText
text_piece-requires-in-NationalText c =
    omega (arith, two_stand c.args.text.now (rw (← c.unit_at.ensures, ← c.unit_at-2.ensures) (sym c.opening_of.ensures ∙ c.in-NationalText.is)))
