use Rattle.error_table.proofs.Texts.{ascii_of}
use Rattle.error_table.proofs.row.row_of.Goals as goal

-- the result is what is found in the table
pub returns-clause-ascii : goal.returns-clause-ascii
returns-clause-ascii c = ascii_of _ _ c.row_among.result c.errors.ensures c.row_among.ensures
