use Rattle.write_laws.proofs.Written.{firm_written, untriggered_written}
use Rattle.write_laws.proofs.law_firm_written.Goals as goal

pub returns-clause-firm : goal.returns-clause-firm
returns-clause-firm c = firm_written

pub returns-clause-untriggered : goal.returns-clause-untriggered
returns-clause-untriggered c = untriggered_written
