use Rattle.std.proofs.Common.{◌≡◌, ◌∷◌, ◌++◌, ◌<◌, ◌-◌, [], take, ap, sym, ◌∙◌, subst}
use Rattle.tsql_recognizer.specs.Stack.{symbol_of, expected}
use Rattle.tsql_recognizer.proofs.Feeding.{feeds_note, feeds_lexeme, stops_lexeme, stops_rule, stops_all}
use Rattle.tsql_recognizer.proofs.Leading.{develops_keep, develops_lower, develops_take, develops_enter, develops_leave, none_opens}
use Rattle.tsql_recognizer.proofs.Steps.{on_top}
use Rattle.tsql_recognizer.proofs.Weights.{lead}
use Rattle.tsql_recognizer.proofs.recognizer.feed.Goals as goal

pub returns-then-not-takes-clause-means : goal.returns-then-not-takes-clause-means
returns-then-not-takes-clause-means c =
    let is = expected c.pop.new.self.items in
    let e = on_top c.loop-symbol.stack.items c.pop.new.self.items c.in-Some.symbol c.in-Some.ensures.items ∙ ap (λ q. symbol_of q ∷ is) c.in-Lexeme.is in
    stops_lexeme (expected c.args.stack.now.items) c.args.kind c.args.held.now c.args.notes.now c.loop-symbol.notes (expected c.loop-symbol.stack.items) is
    c.in-Lexeme.class is e (sym c.takes.ensures ∙ c.if-not-takes.true) c.loop-symbol.invariant.keeps

pub returns-in-Lexeme-clause-means : goal.returns-in-Lexeme-clause-means
returns-in-Lexeme-clause-means c =
    let is = expected c.pop.new.self.items in
    let e = on_top c.loop-symbol.stack.items c.pop.new.self.items c.in-Some.symbol c.in-Some.ensures.items ∙ ap (λ q. symbol_of q ∷ is) c.in-Lexeme.is in
    feeds_lexeme (expected c.args.stack.now.items) c.args.kind c.args.held.now c.args.notes.now c.loop-symbol.notes (expected c.loop-symbol.stack.items) is
    c.in-Lexeme.class c.see.new.self e (sym c.takes.ensures ∙ c.if-not-takes.false) c.see.ensures.means c.loop-symbol.invariant.keeps

pub loop-symbol-preserved-in-Continue-1 : goal.loop-symbol-preserved-in-Continue-1
loop-symbol-preserved-in-Continue-1 c =
    let is = expected c.pop.new.self.items in
    let e = on_top c.loop-symbol.stack.items c.pop.new.self.items c.in-Some.symbol c.in-Some.ensures.items ∙ ap (λ q. symbol_of q ∷ is) c.in-Mark.is in
    record {
      keeps = feeds_note (expected c.args.stack.now.items) c.args.kind c.args.held.now c.args.notes.now c.loop-symbol.notes (expected c.loop-symbol.stack.items) is
          c.in-Mark.mark c.note.new.self e c.in_ok-note-in-Mark.ensures.means c.loop-symbol.invariant.keeps;
      place = c.in_ok-note-in-Mark.ensures.place ∙ c.loop-symbol.invariant.place;
    }

pub returns-in-Stops-clause-means : goal.returns-in-Stops-clause-means
returns-in-Stops-clause-means c =
    let is = expected c.pop.new.self.items in
    let e = on_top c.loop-symbol.stack.items c.pop.new.self.items c.in-Some.symbol c.in-Some.ensures.items ∙ ap (λ q. symbol_of q ∷ is) c.in-Rule.is in
    stops_rule (expected c.args.stack.now.items) c.args.kind c.args.held.now c.args.notes.now c.loop-symbol.notes (expected c.loop-symbol.stack.items) is
    c.in-Rule.rule (expected c.step_before.new.stack.items) (expected c.step_before.new.stack.items) e
    (none_opens c.args.kind c.in-Rule.rule is (expected c.step_before.new.stack.items) (rw c.in-Stops.is at c.in_ok-step_before-in-Rule.ensures)) c.loop-symbol.invariant.keeps

pub loop-symbol-smaller : goal.loop-symbol-smaller
loop-symbol-smaller c =
    let is = expected c.pop.new.self.items in
    let e = on_top c.loop-symbol.stack.items c.pop.new.self.items c.in-Some.symbol c.in-Some.ensures.items ∙ ap (λ q. symbol_of q ∷ is) c.in-Rule.is in
    subst (λ z. lead (expected c.step_before.new.stack.items) < lead z) (sym e)
    (develops_lower c.args.kind c.in-Rule.rule is (expected c.step_before.new.stack.items) (rw c.in-Opens.is at c.in_ok-step_before-in-Rule.ensures))

pub loop-symbol-preserved : goal.loop-symbol-preserved
loop-symbol-preserved c =
    let is = expected c.pop.new.self.items in
    let e = on_top c.loop-symbol.stack.items c.pop.new.self.items c.in-Some.symbol c.in-Some.ensures.items ∙ ap (λ q. symbol_of q ∷ is) c.in-Rule.is in
    record {
      keeps = develops_keep (expected c.args.stack.now.items) c.args.kind c.args.held.now c.args.notes.now c.loop-symbol.notes c.in-Rule.rule is (expected c.loop-symbol.stack.items)
          (expected c.step_before.new.stack.items) e (rw c.in-Opens.is at c.in_ok-step_before-in-Rule.ensures) c.loop-symbol.invariant.keeps;
      place = c.loop-symbol.invariant.place;
    }

pub returns-in-Takes-clause-means : goal.returns-in-Takes-clause-means
returns-in-Takes-clause-means c =
    let is = expected c.pop.new.self.items in
    let e = on_top c.loop-symbol.stack.items c.pop.new.self.items c.in-Some.symbol c.in-Some.ensures.items ∙ ap (λ q. symbol_of q ∷ is) c.in-Rule.is in
    develops_take (expected c.args.stack.now.items) c.args.kind c.args.held.now c.args.notes.now c.loop-symbol.notes c.see-in-Takes.new.self c.in-Rule.rule is (expected c.loop-symbol.stack.items)
    (expected c.step_before.new.stack.items) e (rw c.in-Takes.is at c.in_ok-step_before-in-Rule.ensures) c.see-in-Takes.ensures.means c.loop-symbol.invariant.keeps

pub returns-in-Enters-clause-means : goal.returns-in-Enters-clause-means
returns-in-Enters-clause-means c =
    let is = expected c.pop.new.self.items in
    let e = on_top c.loop-symbol.stack.items c.pop.new.self.items c.in-Some.symbol c.in-Some.ensures.items ∙ ap (λ q. symbol_of q ∷ is) c.in-Rule.is in
    develops_enter (expected c.args.stack.now.items) c.args.kind c.args.held.now c.args.notes.now c.loop-symbol.notes c.see-in-Enters.new.self c.in-Rule.rule is (expected c.loop-symbol.stack.items)
    (expected c.step_before.new.stack.items) c.note-in-Enters.new.self e (rw c.in-Enters.is at c.in_ok-step_before-in-Rule.ensures) c.see-in-Enters.ensures.means c.in_ok-note-in-Enters.ensures.means
    c.loop-symbol.invariant.keeps

pub returns-in-Leaves-clause-means : goal.returns-in-Leaves-clause-means
returns-in-Leaves-clause-means c =
    let is = expected c.pop.new.self.items in
    let e = on_top c.loop-symbol.stack.items c.pop.new.self.items c.in-Some.symbol c.in-Some.ensures.items ∙ ap (λ q. symbol_of q ∷ is) c.in-Rule.is in
    develops_leave (expected c.args.stack.now.items) c.args.kind c.args.held.now c.args.notes.now c.loop-symbol.notes c.see-in-Leaves.new.self c.in-Rule.rule is (expected c.loop-symbol.stack.items)
    (expected c.step_before.new.stack.items) c.note-in-Leaves.new.self e (rw c.in-Leaves.is at c.in_ok-step_before-in-Rule.ensures) c.see-in-Leaves.ensures.means c.in_ok-note-in-Leaves.ensures.means
    c.loop-symbol.invariant.keeps

pub returns-clause-means : goal.returns-clause-means
returns-clause-means c =
    let gone : c.pop.new.self.items ≡ [] = c.in_default.ensures.rest ∙ ap (λ n. take (n - 1) c.loop-symbol.stack.items) c.in_default.ensures.cases.0 in
    let e : expected c.loop-symbol.stack.items ≡ [] = ap expected (c.in_default.ensures.items ∙ ap (λ z. z ++ []) gone) in
    stops_all (expected c.args.stack.now.items) c.args.kind c.args.held.now c.args.notes.now c.loop-symbol.notes (expected c.loop-symbol.stack.items) []
    (expected c.pop.new.self.items) e c.loop-symbol.invariant.keeps
