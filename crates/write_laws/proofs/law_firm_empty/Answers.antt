use Rattle.write_laws.proofs.Empty.{firm_empty, untriggered_empty}
use Rattle.write_laws.proofs.law_firm_empty.Goals as goal

pub returns-clause-firm : goal.returns-clause-firm
returns-clause-firm c = firm_empty

pub returns-clause-untriggered : goal.returns-clause-untriggered
returns-clause-untriggered c = untriggered_empty
