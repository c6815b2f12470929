use Rattle.tsql_recognizer.proofs.Noting.{left}
use Rattle.tsql_recognizer.proofs.notes.Notes.leave.Goals as goal

pub returns-clause-means : goal.returns-clause-means
returns-clause-means c names h = (names, h, left c.args.self.now names c.saturating_sub-self.result c.saturating_sub-self.ensures)
