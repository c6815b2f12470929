use Rattle.std.proofs.Common.{sym, ◌∙◌, refl}
use Rattle.tsql_grammar.specs.Terminals.{terminals}
use Rattle.lexeme_reader.proofs.Steps.{none_next, other_next, first_next}
use Rattle.lexeme_reader.proofs.cursor.Lexemes.take.Goals as goal

pub returns-in_default : goal.returns-in_default
returns-in_default c = (rw (sym c.self.view_is) (none_next c.args.class (terminals c.self.inside.rest.now) (sym c.self.invariant ∙ c.in_default.is)), refl)

pub returns-then-not-admits : goal.returns-then-not-admits
returns-then-not-admits c =
    (rw (sym c.self.view_is) (other_next c.args.class (terminals c.self.inside.rest.now) c.in-Some.kind (sym c.self.invariant ∙ c.in-Some.is) (sym c.admits.ensures ∙ c.if-not-admits.true)), refl)

pub returns : goal.returns
returns c =
    rw (sym c.self.view_is)
    (first_next c.args.class c.self.inside.rest.now c.first-item.result c.in-Some.kind c.in-len1-up.len_at_least c.first-item.is (sym c.self.invariant ∙ c.in-Some.is) (sym c.admits.ensures ∙ c.if-not-admits.false))
