use Rattle.std.proofs.Common.{Result, Err, ap, subst, ◌∙◌}
use Rattle.tsql_tree.specs.declared.definition.Definition.{Definition}
use Rattle.tsql_grammar.specs.declared.fault.ParseFault.{ParseFault}
use Rattle.tsql_grammar.specs.Parsed.{DefinitionOf}
use Rattle.catalog_rows.proofs.Defining.{refused}
use Rattle.catalog_rows.proofs.definitions.defined.Goals as goal

pub returns-in-Err-Refused : goal.returns-in-Err-Refused
returns-in-Err-Refused c = refused c.args.name.now c.args.text.now _ _ _ (subst (λ (r : Result Definition ParseFault). DefinitionOf c.args.text.now r) (c.in-Err-Refused.is ∙ ap Err c.in-Err-Refused.field-0-is) c.parse_definition.ensures)
