-- Going from one part of a text to the next.
use Rattle.std.proofs.Common.{◌≡◌, ℕ, suc, zero, ◌+◌, ◌<◌, ◌≤◌, Bool, true, false, cond, eqb, ◌==◌, Option, None, Some, List, [], ◌∷◌, ◌++◌, length, drop, take, count_by, refl, sym, ap, ◌∙◌, arith, append_assoc, length-drop}
use Rattle.std.proofs.Math.Seq.{drop-nil}
use Rattle.std.proofs.lemmas.List.{drop-drop, drop_all, append-nil}
use Rattle.std.proofs.lemmas.List.Sums.{sum_by-cons, count_by-le-length}
use Rattle.tsql_lexer.specs.declared.lexeme.Lexeme.{Lexeme}
use Rattle.tsql_lexer.specs.declared.lexeme.Spanned.{Spanned}
use Rattle.tsql_lexer.specs.declared.fault.Flaw.{Flaw}
use Rattle.tsql_lexer.specs.declared.fault.LexKind.{LexKind}
use Rattle.tsql_lexer.specs.declared.piece.Piece.TheVariants.{Gap, Lexeme as Token, Flaw as Failure}
use Rattle.tsql_lexer.specs.Classes.{line_feed}
use Rattle.tsql_lexer.proofs.Sizes.{gap_size, token_size}
use Rattle.tsql_lexer.specs.Reading.{piece_of, line_after, put_before, read_on}

-- how many line feeds the units have
abbrev pub feeds : List ℕ → ℕ
feeds units = count_by (λ unit. unit == line_feed) units

pub feeds-cons : (unit : ℕ) (units : List ℕ) → feeds (unit ∷ units) ≡ cond (unit == line_feed) 1 0 + feeds units
feeds-cons unit units = sum_by-cons (λ x. cond (x == line_feed) 1 0) unit units

line_after-feeds : (line unit : ℕ) (units : List ℕ) → line_after line unit + feeds units ≡ line + feeds (unit ∷ units)
line_after-feeds line unit units = by (eqb unit line_feed) ∙ ap (λ (n : ℕ). line + n) (sym (feeds-cons unit units))
  where
    by : (feed : Bool) → cond feed (suc line) line + feeds units ≡ line + (cond feed 1 0 + feeds units)
    by true = omega arith
    by false = omega arith

-- passing over units counts them and their line feeds
pub passed : (units : List ℕ) (passing at line : ℕ) → passing ≤ length units
    → read_on units passing at line ≡ read_on (drop passing units) 0 (at + passing) (line + feeds (take passing units))
unfolding read_on
passed [] passing at line within = sym (ap (λ (l : List ℕ). read_on l 0 (at + passing) (line + feeds (take passing []))) (drop-nil passing))
passed (unit ∷ units) zero at line within =
    ap (λ (n : ℕ). read_on (unit ∷ units) 0 n line) (omega arith)
    ∙ ap (read_on (unit ∷ units) 0 (at + 0)) (omega arith)
passed (unit ∷ units) (suc passing) at line within =
    passed units passing (suc at) (line_after line unit) (omega arith)
    ∙ ap (λ (n : ℕ). read_on (drop passing units) 0 n (line_after line unit + feeds (take passing units))) (omega arith)
    ∙ ap (read_on (drop passing units) 0 (at + suc passing)) (line_after-feeds line unit (take passing units))

-- lexemes, before those that are read behind them
abbrev pub in_front : List Spanned → List Spanned × Option Flaw → List Spanned × Option Flaw
in_front lexemes read = (lexemes ++ read.0, read.1)

pub gap_passed : (text : List ℕ) (size at line : ℕ) → 1 ≤ size → size ≤ length text → piece_of text ≡ Gap size → read_on text 0 at line ≡ read_on text size at line
unfolding read_on
gap_passed [] size at line some within is = absurd (omega arith)
gap_passed (unit ∷ units) zero at line some within is = absurd (omega arith)
gap_passed (unit ∷ units) (suc size) at line some within is = rw is (ap (λ (n : ℕ). read_on units n (suc at) (line_after line unit)) (omega arith))

pub token_passed : (text : List ℕ) (lexeme : Lexeme) (size at line : ℕ) → 1 ≤ size → size ≤ length text → piece_of text ≡ Token lexeme size
    → read_on text 0 at line ≡ put_before (record { lexeme = lexeme; start = at; end = at + size; line = line }) (read_on text size at line)
unfolding read_on
token_passed [] lexeme size at line some within is = absurd (omega arith)
token_passed (unit ∷ units) lexeme zero at line some within is = absurd (omega arith)
token_passed (unit ∷ units) lexeme (suc size) at line some within is =
    rw is (ap (λ (n : ℕ). put_before (record { lexeme = lexeme; start = at; end = at + suc size; line = line }) (read_on units n (suc at) (line_after line unit))) (omega arith))

pub failed : (text : List ℕ) (kind : LexKind) (at line : ℕ) → 0 < length text → piece_of text ≡ Failure kind → read_on text 0 at line ≡ ([], Some (record { at = at; line = line; kind = kind }))
unfolding read_on
failed [] kind at line some is = absurd (omega arith)
failed (unit ∷ units) kind at line some is = rw is refl

pub nothing_read : (passing at line : ℕ) → read_on [] passing at line ≡ ([], None)
unfolding read_on
nothing_read passing at line = refl

-- behind a part of so many units
behind_part : (text : List ℕ) (at line size feed : ℕ) → size ≤ length (drop at text) → feed ≡ feeds (take size (drop at text))
    → read_on (drop at text) size at line ≡ read_on (drop (at + size) text) 0 (at + size) (line + feed)
behind_part text at line size feed within same =
    passed (drop at text) size at line within
    ∙ ap (λ (l : List ℕ). read_on l 0 (at + size) (line + feeds (take size (drop at text)))) (drop-drop size at text)
    ∙ ap (λ (n : ℕ). read_on (drop (at + size) text) 0 (at + size) (line + n)) (sym same)

-- one part more: a gap
pub gap_step : (text : List ℕ) (lexemes : List Spanned) (at line size feed : ℕ) → at < length text → piece_of (drop at text) ≡ Gap size → feed ≡ feeds (take size (drop at text))
    → in_front lexemes (read_on (drop at text) 0 at line) ≡ in_front lexemes (read_on (drop (at + size) text) 0 (at + size) (line + feed))
gap_step text lexemes at line size feed some is same =
    let sized = gap_size (drop at text) size (omega (arith, length-drop at text)) is in
    ap (in_front lexemes) (gap_passed (drop at text) size at line sized.0 sized.1 is ∙ behind_part text at line size feed sized.1 same)

in_front-put_before : (lexemes : List Spanned) (lexeme : Spanned) (read : List Spanned × Option Flaw) → in_front lexemes (put_before lexeme read) ≡ in_front (lexemes ++ lexeme ∷ []) read
in_front-put_before lexemes lexeme read = ap (λ (l : List Spanned). (l, read.1)) (sym (append_assoc lexemes (lexeme ∷ []) read.0))

-- one part more: a lexeme
pub token_step : (text : List ℕ) (lexemes : List Spanned) (lexeme : Lexeme) (at line size feed : ℕ) → at < length text → piece_of (drop at text) ≡ Token lexeme size → feed ≡ feeds (take size (drop at text))
    → in_front lexemes (read_on (drop at text) 0 at line)
    ≡ in_front (lexemes ++ (record { lexeme = lexeme; start = at; end = at + size; line = line }) ∷ []) (read_on (drop (at + size) text) 0 (at + size) (line + feed))
token_step text lexemes lexeme at line size feed some is same =
    let sized = token_size (drop at text) lexeme size (omega (arith, length-drop at text)) is in
    let spanned : Spanned = record { lexeme = lexeme; start = at; end = at + size; line = line } in
    ap (in_front lexemes) (token_passed (drop at text) lexeme size at line sized.0 sized.1 is ∙ ap (put_before spanned) (behind_part text at line size feed sized.1 same))
    ∙ in_front-put_before lexemes spanned (read_on (drop (at + size) text) 0 (at + size) (line + feed))

-- a place where nothing is read
pub flaw_step : (text : List ℕ) (lexemes : List Spanned) (kind : LexKind) (at line : ℕ) → at < length text → piece_of (drop at text) ≡ Failure kind
    → in_front lexemes (read_on (drop at text) 0 at line) ≡ (lexemes, Some (record { at = at; line = line; kind = kind }))
flaw_step text lexemes kind at line some is =
    ap (in_front lexemes) (failed (drop at text) kind at line (omega (arith, length-drop at text)) is)
    ∙ ap (λ (l : List Spanned). (l, Some (record { at = at; line = line; kind = kind }))) (append-nil lexemes)

-- the end of the text
pub end_step : (text : List ℕ) (lexemes : List Spanned) (at line : ℕ) → length text ≤ at → in_front lexemes (read_on (drop at text) 0 at line) ≡ (lexemes, None)
end_step text lexemes at line over =
    ap (λ (l : List ℕ). in_front lexemes (read_on l 0 at line)) (drop_all at text over)
    ∙ ap (in_front lexemes) (nothing_read 0 at line)
    ∙ ap (λ (l : List Spanned). (l, None)) (append-nil lexemes)

pub feeds_within : (units : List ℕ) → feeds units ≤ length units
feeds_within units = count_by-le-length (λ unit. unit == line_feed) units
