use Rattle.write_laws.proofs.PlannedWrites.{firm_planned, untriggered_planned}
use Rattle.write_laws.proofs.law_firm_planned.Goals as goal

pub returns-clause-firm : goal.returns-clause-firm
returns-clause-firm c = firm_planned

pub returns-clause-untriggered : goal.returns-clause-untriggered
returns-clause-untriggered c = untriggered_planned
