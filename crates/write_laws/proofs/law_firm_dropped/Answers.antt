use Rattle.write_laws.proofs.Dropped.{firm_dropped, untriggered_dropped}
use Rattle.write_laws.proofs.law_firm_dropped.Goals as goal

pub returns-clause-firm : goal.returns-clause-firm
returns-clause-firm c = firm_dropped

pub returns-clause-untriggered : goal.returns-clause-untriggered
returns-clause-untriggered c = untriggered_dropped
