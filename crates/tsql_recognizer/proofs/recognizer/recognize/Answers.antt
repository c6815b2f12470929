use Rattle.std.proofs.Common.{◌≡◌, ◌+◌, ◌∷◌, ◌++◌, List, [], length, if◌then◌else◌, arith, ap, sym, ◌∙◌, subst, refl}
use Rattle.tsql_lexer.specs.declared.lexeme.Spanned.{Spanned}
use Rattle.tsql_grammar.specs.declared.rule.Rule.{Rule}
use Rattle.tsql_grammar.specs.Noted.{Noted, start}
use Rattle.tsql_grammar.specs.Productions.{Symbols}
use Rattle.tsql_grammar.specs.Terminals.{Terminal, terminals, begins_else}
use Rattle.tsql_recognizer.specs.declared.notes.Notes.{Notes}
use Rattle.tsql_recognizer.specs.declared.symbol.Symbol.TheVariants as code
use Rattle.tsql_recognizer.specs.Notes.{Goes}
use Rattle.tsql_recognizer.specs.Stack.{expected}
use Rattle.tsql_recognizer.proofs.Feeding.{FedAs, FinishedAs}
use Rattle.tsql_recognizer.proofs.Reached.{Reached, length-terminals, reached_more, reached_room, reached_stop, reached_all, reached_end, reached_none}
use Rattle.tsql_recognizer.proofs.recognizer.recognize.Goals as goal

-- a lexeme with these behind it
abbrev terminal : Spanned → List Spanned → Terminal
terminal first more = record { spanned = first; before_else = begins_else more }

-- what is left begins with a lexeme, or is nothing
at_first : (a : Rule) (w : List Terminal) (s0 : Noted) (is : Symbols) (rest : List Spanned) (first : Spanned) (more : List Spanned) (n : Notes)
    → rest ≡ first ∷ more → Reached a w s0 is (terminals rest) n → Reached a w s0 is (terminal first more ∷ terminals more) n
at_first a w s0 is rest first more n e x = subst (λ (z : List Spanned). Reached a w s0 is (terminals z) n) e x

none_left : (w : List Spanned) → length w ≡ 0 → w ≡ []
none_left [] e = refl
none_left (l ∷ w) e = absurd (omega arith)

at_end : (a : Rule) (w : List Terminal) (s0 : Noted) (is : Symbols) (rest : List Spanned) (n : Notes)
    → length rest ≡ 0 → Reached a w s0 is (terminals rest) n → Reached a w s0 is [] n
at_end a w s0 is rest n e x = subst (λ (z : List Spanned). Reached a w s0 is (terminals z) n) (none_left rest e) x

pub loop-spanned-init : goal.loop-spanned-init
loop-spanned-init c =
    let w = terminals c.args.lexemes.now in
    let e = c.in_ok-push.ensures.items ∙ ap (λ z. z ++ code.Rule c.args.rule ∷ []) c.new-stack.ensures.items in
    subst (λ (is : Symbols). Reached c.args.rule w (start c.args.judges) is w c.new-notes.result) (sym (ap expected e))
    (reached_none c.args.rule w (start c.args.judges) c.new-notes.result c.new-notes.ensures.names c.new-notes.ensures.state c.new-notes.ensures.place)

pub feed-requires : goal.feed-requires
feed-requires c =
    let w = terminals c.args.lexemes.now in
    let is = expected c.loop-spanned.stack.items in
    let x = at_first c.args.rule w (start c.args.judges) is c.loop-spanned.rest.now c.in-Some.spanned.now c.in-Some.more.now c.loop-spanned.notes c.in-Some.ensures.cases.0 c.loop-spanned.invariant in
    reached_room c.args.rule w (start c.args.judges) is (terminal c.in-Some.spanned.now c.in-Some.more.now) (terminals c.in-Some.more.now) c.loop-spanned.notes
    c.count_of-count.result x (length-terminals c.args.lexemes.now ∙ sym c.count_of-count.ensures) c.count_of-count.type_inv

pub loop-spanned-preserved : goal.loop-spanned-preserved
loop-spanned-preserved c =
    let w = terminals c.args.lexemes.now in
    let is = expected c.loop-spanned.stack.items in
    let new = expected c.feed.new.stack.items in
    let x = at_first c.args.rule w (start c.args.judges) is c.loop-spanned.rest.now c.in-Some.spanned.now c.in-Some.more.now c.loop-spanned.notes c.in-Some.ensures.cases.0 c.loop-spanned.invariant in
    reached_more c.args.rule w (start c.args.judges) is new (terminal c.in-Some.spanned.now c.in-Some.more.now) c.terminal_kind-kind.result c.units_of.result.now (terminals c.in-Some.more.now)
    c.loop-spanned.notes c.feed.new.notes x (sym c.terminal_kind-kind.ensures) (sym c.units_of.ensures)
    (subst (λ b. Goes (FedAs is c.terminal_kind-kind.result c.units_of.result.now b new) c.loop-spanned.notes c.feed.new.notes) c.if-not-branch.false c.in_ok-feed.ensures.means)
    (subst (λ b. c.feed.new.notes.place ≡ (if b then c.loop-spanned.notes.place + 1 else c.loop-spanned.notes.place)) c.if-not-branch.false c.in_ok-feed.ensures.place)

pub returns-then-not-branch : goal.returns-then-not-branch
returns-then-not-branch c =
    let w = terminals c.args.lexemes.now in
    let is = expected c.loop-spanned.stack.items in
    let new = expected c.feed.new.stack.items in
    let x = at_first c.args.rule w (start c.args.judges) is c.loop-spanned.rest.now c.in-Some.spanned.now c.in-Some.more.now c.loop-spanned.notes c.in-Some.ensures.cases.0 c.loop-spanned.invariant in
    reached_stop c.args.rule w (start c.args.judges) is new (terminal c.in-Some.spanned.now c.in-Some.more.now) c.terminal_kind-kind.result c.units_of.result.now (terminals c.in-Some.more.now)
    c.loop-spanned.notes c.feed.new.notes x (sym c.terminal_kind-kind.ensures) (sym c.units_of.ensures)
    (subst (λ b. Goes (FedAs is c.terminal_kind-kind.result c.units_of.result.now b new) c.loop-spanned.notes c.feed.new.notes) c.if-not-branch.true c.in_ok-feed.ensures.means)
    (subst (λ b. c.feed.new.notes.place ≡ (if b then c.loop-spanned.notes.place + 1 else c.loop-spanned.notes.place)) c.if-not-branch.true c.in_ok-feed.ensures.place)

pub returns-then-branch : goal.returns-then-branch
returns-then-branch c =
    let w = terminals c.args.lexemes.now in
    let is = expected c.loop-spanned.stack.items in
    let x = at_end c.args.rule w (start c.args.judges) is c.loop-spanned.rest.now c.loop-spanned.notes c.in_default.ensures.cases c.loop-spanned.invariant in
    reached_all c.args.rule w (start c.args.judges) is c.loop-spanned.notes c.finish.new.notes x
    (subst (λ b. Goes (FinishedAs is b) c.loop-spanned.notes c.finish.new.notes) c.if-branch.true c.in_ok-finish.ensures)

pub returns : goal.returns
returns c =
    let w = terminals c.args.lexemes.now in
    let is = expected c.loop-spanned.stack.items in
    let x = at_end c.args.rule w (start c.args.judges) is c.loop-spanned.rest.now c.loop-spanned.notes c.in_default.ensures.cases c.loop-spanned.invariant in
    reached_end c.args.rule w (start c.args.judges) is c.loop-spanned.notes c.finish.new.notes c.count_of-count.result x
    (subst (λ b. Goes (FinishedAs is b) c.loop-spanned.notes c.finish.new.notes) c.if-branch.false c.in_ok-finish.ensures)
    (c.count_of-count.ensures ∙ sym (length-terminals c.args.lexemes.now))
