use Rattle.std.proofs.Common.{◌≡◌, sym, subst}
use Rattle.tsql_grammar.specs.declared.rule.Mark.TheVariants.{Enter}
use Rattle.tsql_grammar.specs.Noted.{note_sound}
use Rattle.tsql_recognizer.specs.Notes.{Goes}
use Rattle.tsql_recognizer.proofs.Noting.{below, not_below, entered, too_deep}
use Rattle.tsql_recognizer.proofs.notes.Notes.enter.Goals as goal

pub returns-then-self-lt-MAX_DEPTH-clause-means : goal.returns-then-self-lt-MAX_DEPTH-clause-means
returns-then-self-lt-MAX_DEPTH-clause-means c names h = (names, h, entered c.args.self.now names (below c.args.self.now.depth c.if-self-lt-MAX_DEPTH.true))

pub returns-else-self-lt-MAX_DEPTH-clause-means : goal.returns-else-self-lt-MAX_DEPTH-clause-means
returns-else-self-lt-MAX_DEPTH-clause-means c =
    subst (λ z. Goes (λ s t. t ≡ note_sound s Enter) c.args.self.now z) (sym c.blame.ensures)
    (λ names h. (names, h, too_deep c.args.self.now names (not_below c.args.self.now.depth c.if-self-lt-MAX_DEPTH.false)))
