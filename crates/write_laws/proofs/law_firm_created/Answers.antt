use Rattle.write_laws.proofs.Created.{firm_created, untriggered_created}
use Rattle.write_laws.proofs.law_firm_created.Goals as goal

pub returns-clause-firm : goal.returns-clause-firm
returns-clause-firm c = firm_created

pub returns-clause-untriggered : goal.returns-clause-untriggered
returns-clause-untriggered c = untriggered_created
