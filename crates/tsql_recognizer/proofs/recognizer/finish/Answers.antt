use Rattle.std.proofs.Common.{◌≡◌, ◌∷◌, ◌++◌, ◌<◌, ◌-◌, [], take, ap, sym, ◌∙◌, subst, None}
use Rattle.tsql_recognizer.specs.Stack.{symbol_of, expected}
use Rattle.tsql_recognizer.proofs.Feeding.{ends_open, ends_note, ends_all, ends_lexeme, ends_rule}
use Rattle.tsql_recognizer.proofs.Steps.{came_lower, on_top}
use Rattle.tsql_recognizer.proofs.Weights.{lead}
use Rattle.tsql_recognizer.proofs.recognizer.finish.Goals as goal

pub returns-in-Lexeme : goal.returns-in-Lexeme
returns-in-Lexeme c =
    let is = expected c.pop.new.self.items in
    let e = on_top c.loop-symbol.stack.items c.pop.new.self.items c.in-Some.symbol c.in-Some.ensures.items ∙ ap (λ q. symbol_of q ∷ is) c.in-Lexeme.is in
    ends_lexeme (expected c.args.stack.now.items) c.args.notes.now c.loop-symbol.notes (expected c.loop-symbol.stack.items) is c.in-Lexeme.field-0 e c.loop-symbol.invariant

pub loop-symbol-preserved-in_ok-note-in-Mark : goal.loop-symbol-preserved-in_ok-note-in-Mark
loop-symbol-preserved-in_ok-note-in-Mark c =
    let is = expected c.pop.new.self.items in
    let e = on_top c.loop-symbol.stack.items c.pop.new.self.items c.in-Some.symbol c.in-Some.ensures.items ∙ ap (λ q. symbol_of q ∷ is) c.in-Mark.is in
    ends_note (expected c.args.stack.now.items) c.args.notes.now c.loop-symbol.notes (expected c.loop-symbol.stack.items) is
    c.in-Mark.mark c.note.new.self e c.in_ok-note-in-Mark.ensures.means c.loop-symbol.invariant

pub returns-then-not-branch : goal.returns-then-not-branch
returns-then-not-branch c =
    let is = expected c.pop.new.self.items in
    let e = on_top c.loop-symbol.stack.items c.pop.new.self.items c.in-Some.symbol c.in-Some.ensures.items ∙ ap (λ q. symbol_of q ∷ is) c.in-Rule.is in
    ends_rule (expected c.args.stack.now.items) c.args.notes.now c.loop-symbol.notes (expected c.loop-symbol.stack.items) is
    c.in-Rule.rule (expected c.open.new.stack.items) e (rw c.if-not-branch.true at c.in_ok-open-in-Rule.ensures) c.loop-symbol.invariant

pub loop-symbol-smaller : goal.loop-symbol-smaller
loop-symbol-smaller c =
    let is = expected c.pop.new.self.items in
    let e = on_top c.loop-symbol.stack.items c.pop.new.self.items c.in-Some.symbol c.in-Some.ensures.items ∙ ap (λ q. symbol_of q ∷ is) c.in-Rule.is in
    subst (λ z. lead (expected c.open.new.stack.items) < lead z) (sym e)
    (came_lower c.in-Rule.rule None is (expected c.open.new.stack.items) (rw c.if-not-branch.false at c.in_ok-open-in-Rule.ensures))

pub loop-symbol-preserved : goal.loop-symbol-preserved
loop-symbol-preserved c =
    let is = expected c.pop.new.self.items in
    let e = on_top c.loop-symbol.stack.items c.pop.new.self.items c.in-Some.symbol c.in-Some.ensures.items ∙ ap (λ q. symbol_of q ∷ is) c.in-Rule.is in
    ends_open (expected c.args.stack.now.items) c.args.notes.now c.loop-symbol.notes (expected c.loop-symbol.stack.items) is
    c.in-Rule.rule (expected c.open.new.stack.items) e (rw c.if-not-branch.false at c.in_ok-open-in-Rule.ensures) c.loop-symbol.invariant

pub returns : goal.returns
returns c =
    let gone : c.pop.new.self.items ≡ [] = c.in_default.ensures.rest ∙ ap (λ n. take (n - 1) c.loop-symbol.stack.items) c.in_default.ensures.cases.0 in
    let e : expected c.loop-symbol.stack.items ≡ [] = ap expected (c.in_default.ensures.items ∙ ap (λ z. z ++ []) gone) in
    ends_all (expected c.args.stack.now.items) c.args.notes.now c.loop-symbol.notes (expected c.loop-symbol.stack.items) [] e c.loop-symbol.invariant
