use Rattle.std.proofs.Common.{◌≡◌, ◌∷◌, sym, ◌∙◌, subst}
use Rattle.tsql_grammar.specs.declared.rule.Mark.TheVariants.{Declares}
use Rattle.tsql_grammar.specs.Noted.{note_sound}
use Rattle.tsql_recognizer.specs.Notes.{Goes}
use Rattle.tsql_recognizer.proofs.Noting.{none_of, not_second, both_of, declared_again, declared_first, has_more}
use Rattle.tsql_recognizer.proofs.notes.Notes.declare.Goals as goal
use Rattle.tsql_recognizer.proofs.notes.Notes.declare.Goals.{else-self-via-then-self+else-contains, else-self-via-else-self}

pub returns-then-contains-clause-means : goal.returns-then-contains-clause-means
returns-then-contains-clause-means c =
    subst (λ z. Goes (λ s t. t ≡ note_sound s Declares) c.args.self.now z) (sym c.blame.ensures)
    (λ names h. (names, h, declared_again c.args.self.now names (both_of _ _ c.if-self.true (sym (h c.args.self.now.last) ∙ sym c.contains.ensures ∙ c.if-contains.true))))

pub returns-in_ok-insert-clause-means : goal.returns-in_ok-insert-clause-means
returns-in_ok-insert-clause-means c names h = (
  c.args.self.now.last.now ∷ names,
  has_more c.args.self.now.declared c.insert.new.self c.args.self.now.last names h (c.in_ok-insert.ensures.updates.0),
  declared_first c.args.self.now c.insert.new.self names (elim c.else-self.branch [
    | else-self-via-then-self+else-contains w ↦ not_second _ _ (sym (h c.args.self.now.last) ∙ sym w.contains.ensures ∙ w.if-contains.false)
    | else-self-via-else-self w ↦ none_of _ _ w.if-self.false
  ]),
)
