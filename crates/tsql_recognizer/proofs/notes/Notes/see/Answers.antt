use Rattle.tsql_recognizer.proofs.Noting.{goes_seen}
use Rattle.tsql_recognizer.proofs.notes.Notes.see.Goals as goal

pub returns-clause-means : goal.returns-clause-means
returns-clause-means c names h = (names, h, λ l e. goes_seen c.args.self.now c.args.held l names e)
