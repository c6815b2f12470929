use Rattle.std.proofs.Common.{sym, ◌∙◌}
use Rattle.tsql_grammar.specs.Terminals.{terminals}
use Rattle.lexeme_reader.proofs.Steps.{sees_none, sees_kind}
use Rattle.lexeme_reader.proofs.cursor.Lexemes.sees_any.Goals as goal

pub returns-in-None : goal.returns-in-None
returns-in-None c = rw (sym c.self.view_is) (sym (sees_none c.args.classes.now (terminals c.self.inside.rest.now) (sym c.self.invariant ∙ c.in-None.is)))

pub returns-in-Some : goal.returns-in-Some
returns-in-Some c = rw (sym c.self.view_is) (c.of_any.ensures ∙ sym (sees_kind c.args.classes.now (terminals c.self.inside.rest.now) c.in-Some.kind (sym c.self.invariant ∙ c.in-Some.is)))
