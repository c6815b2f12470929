use Rattle.write_laws.proofs.Found.{found_defined, found_definitions, found_tables}
use Rattle.write_laws.proofs.law_found.Goals as goal

pub returns-clause-defined : goal.returns-clause-defined
returns-clause-defined c = found_defined

pub returns-clause-tables : goal.returns-clause-tables
returns-clause-tables c = found_tables

pub returns-clause-definitions : goal.returns-clause-definitions
returns-clause-definitions c = found_definitions
