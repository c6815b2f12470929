use Rattle.dml_exec.proofs.images.fetch_range.Goals as goal

pub returns-clause-asks : goal.returns-clause-asks
returns-clause-asks g c = rw (c.is_one_key-one.ensures, c.key_width.ensures, c.shape_of-shape.ensures, c.table_fetch-fetch.ensures) at c.read_range.ensures.asks
