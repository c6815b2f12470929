use Rattle.std.proofs.Common.{◌≡◌, ◌+◌, ◌++◌, ◌∷◌, [], List, Vec, Global, ℕ, length, drop, take, sym, ap, ◌∙◌, arith}
use Rattle.tsql_lexer.specs.declared.lexeme.Lexeme.{Lexeme}
use Rattle.tsql_lexer.specs.declared.lexeme.Spanned.{Spanned}
use Rattle.tsql_lexer.specs.declared.piece.Piece.TheVariants.{Gap, Lexeme as Token, Flaw as Failure}
use Rattle.tsql_lexer.specs.Reading.{piece_of, lexing_of, read_on}
use Rattle.tsql_lexer.proofs.Sizes.{gap_size, token_size}
use Rattle.tsql_lexer.proofs.Passing.{in_front, feeds, gap_step, token_step, flaw_step, end_step, feeds_within}
use Rattle.tsql_lexer.proofs.lexing.lexing_of.Goals as goal
use Rattle.tsql_lexer.proofs.lexing.lexing_of.Goals.{in-Gap, in-Lexeme+in_ok-push-in-Lexeme}

-- a lexeme of so many units from a place on
abbrev spanned : Lexeme → ℕ → ℕ → ℕ → Spanned
spanned lexeme at size line = record { lexeme = lexeme; start = at; end = at + size; line = line }

pub overflow_add-at : goal.overflow_add-at
overflow_add-at c =
    let sized = token_size c.split_at.result.1.now c.in-Lexeme.lexeme c.in-Lexeme.size (omega arith) (sym c.in_ok-size.ensures ∙ c.in-Lexeme.is) in
    omega (arith, sized.1)

pub overflow_cast-at-in-Lexeme : goal.overflow_cast-at-in-Lexeme
overflow_cast-at-in-Lexeme c =
    let sized = token_size c.split_at.result.1.now c.in-Lexeme.lexeme c.in-Lexeme.size (omega arith) (sym c.in_ok-size.ensures ∙ c.in-Lexeme.is) in
    omega (arith, sized.1, ap length c.as_slice-units.ensures, c.requires)

pub returns-in-Flaw : goal.returns-in-Flaw
unfolding lexing_of
returns-in-Flaw c =
    let units = c.as_slice-units.result.now in
    let fails : piece_of (drop c.loop-at.at units) ≡ Failure c.in-Flaw.kind = ap piece_of (sym c.split_at.ensures.back) ∙ sym c.in_ok-size.ensures ∙ c.in-Flaw.is in
    sym (flaw_step units c.loop-at.lexemes.items c.in-Flaw.kind c.loop-at.at c.loop-at.line c.loop-at-test.true fails)
    ∙ c.loop-at.invariant.whole
    ∙ ap (λ (l : List ℕ). read_on l 0 0 1) c.as_slice-units.ensures

pub split_at-requires-in-loop-at : goal.split_at-requires-in-loop-at
split_at-requires-in-loop-at c = elim c.match-branch-2.branch [
  | in-Gap w ↦ omega (arith, w.size-is, (gap_size c.split_at.result.1.now w.in-Gap.size (omega arith) (sym c.in_ok-size.ensures ∙ w.in-Gap.is)).1)
  | in-Lexeme+in_ok-push-in-Lexeme w ↦ omega (arith, w.size-is, (token_size c.split_at.result.1.now w.in-Lexeme.lexeme w.in-Lexeme.size (omega arith) (sym c.in_ok-size.ensures ∙ w.in-Lexeme.is)).1)
]

pub loop-at-smaller : goal.loop-at-smaller
loop-at-smaller c = elim c.match-branch-2.branch [
  | in-Gap w ↦ omega (arith, w.size-is, (gap_size c.split_at.result.1.now w.in-Gap.size (omega arith) (sym c.in_ok-size.ensures ∙ w.in-Gap.is)).0)
  | in-Lexeme+in_ok-push-in-Lexeme w ↦ omega (arith, w.size-is, (token_size c.split_at.result.1.now w.in-Lexeme.lexeme w.in-Lexeme.size (omega arith) (sym c.in_ok-size.ensures ∙ w.in-Lexeme.is)).0)
]

pub loop-at-preserved : goal.loop-at-preserved
loop-at-preserved c =
    let units = c.as_slice-units.result.now in
    let rest = c.split_at.result.1.now in
    let feed : c.count_line_feeds-line.result ≡ feeds (take c.match-branch-2.size (drop c.loop-at.at units)) =
    c.count_line_feeds-line.ensures ∙ ap feeds (c.split_at-in-loop-at.ensures.front ∙ ap (take c.match-branch-2.size) c.split_at.ensures.back) in
    let few = feeds_within c.split_at-in-loop-at.result.0.now in
    let read : piece_of (drop c.loop-at.at units) ≡ c.in_ok-size.field-0 = ap piece_of (sym c.split_at.ensures.back) ∙ sym c.in_ok-size.ensures in
    let behind = read_on (drop (c.loop-at.at + c.match-branch-2.size) units) 0 (c.loop-at.at + c.match-branch-2.size) (c.loop-at.line + c.count_line_feeds-line.result) in
    record {
      within = omega arith;
      low = omega (arith, c.count_line_feeds-line.ensures, few, c.loop-at.invariant.low);
      whole = elim c.match-branch-2.branch [
        | in-Gap w ↦
            let is : piece_of (drop c.loop-at.at units) ≡ Gap c.match-branch-2.size = read ∙ w.in-Gap.is ∙ ap Gap (sym w.size-is) in
            ap (λ (v : Vec Spanned Global). in_front v.items behind) w.lexemes-is
            ∙ sym (gap_step units c.loop-at.lexemes.items c.loop-at.at c.loop-at.line c.match-branch-2.size c.count_line_feeds-line.result c.loop-at-test.true is feed)
            ∙ c.loop-at.invariant.whole
        | in-Lexeme+in_ok-push-in-Lexeme w ↦
            let lexeme = w.in-Lexeme.lexeme in
            let is : piece_of (drop c.loop-at.at units) ≡ Token lexeme c.match-branch-2.size = read ∙ w.in-Lexeme.is ∙ ap (Token lexeme) (sym w.size-is) in
            let one_more : c.match-branch-2.lexemes.items ≡ c.loop-at.lexemes.items ++ spanned lexeme c.loop-at.at c.match-branch-2.size c.loop-at.line ∷ [] =
            ap (λ (v : Vec Spanned Global). v.items) w.lexemes-is ∙ w.in_ok-push-in-Lexeme.ensures.items
            ∙ ap (λ (n : ℕ). c.loop-at.lexemes.items ++ spanned lexeme c.loop-at.at n c.loop-at.line ∷ []) (sym w.size-is) in
            ap (λ (l : List Spanned). in_front l behind) one_more
            ∙ sym (token_step units c.loop-at.lexemes.items lexeme c.loop-at.at c.loop-at.line c.match-branch-2.size c.count_line_feeds-line.result c.loop-at-test.true is feed)
            ∙ c.loop-at.invariant.whole
      ];
    }

pub returns : goal.returns
unfolding lexing_of
returns c =
    sym (end_step c.as_slice-units.result.now c.loop-at.lexemes.items c.loop-at.at c.loop-at.line (omega arith))
    ∙ c.loop-at.invariant.whole
    ∙ ap (λ (l : List ℕ). read_on l 0 0 1) c.as_slice-units.ensures
