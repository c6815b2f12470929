-- A whole text is read as what its parts say, and as nothing else.
use Rattle.std.proofs.Common.{◌≡◌, ℕ, suc, zero, ◌+◌, ◌<◌, ◌≤◌, ◌==◌, Bool, true, cond, Option, None, Some, List, [], ◌∷◌, ◌++◌, length, take, refl, sym, ap, subst, ◌∙◌, arith, append_assoc, length-append}
use Rattle.std.proofs.lemmas.List.{append-nil, take_at, drop_at, nil_from_length}
use Rattle.std.proofs.lemmas.List.Sums.{sum_by-append}
use Rattle.tsql_lexer.specs.declared.lexeme.Lexeme.{Lexeme}
use Rattle.tsql_lexer.specs.declared.lexeme.Spanned.{Spanned}
use Rattle.tsql_lexer.specs.declared.fault.Flaw.{Flaw}
use Rattle.tsql_lexer.specs.declared.fault.LexKind.{LexKind}
use Rattle.tsql_lexer.specs.declared.piece.Piece.{Piece}
use Rattle.tsql_lexer.specs.declared.piece.Piece.TheVariants.{Gap, Lexeme as Token, Flaw as Failure}
use Rattle.tsql_lexer.specs.Classes.{line_feed}
use Rattle.tsql_lexer.specs.Lexemes.{Spells, goes_on, stops, IsLexeme}
use Rattle.tsql_lexer.specs.Parts.{Part, IsPart, text_of, AreParts, BeginsNoPart, line_behind, span_behind, spans_behind, Ends, Lexes}
use Rattle.tsql_lexer.specs.Reading.{piece_of, read_on, lexing_of}
use Rattle.tsql_lexer.proofs.Passing.{feeds, passed, gap_passed, token_passed, failed, nothing_read}
use Rattle.tsql_lexer.proofs.Begins.{piece_for, Begins, begins}
use Rattle.tsql_lexer.proofs.Found.{Stands, Found, found}

-- ---- from a part to what is behind it

line_behind-append : (before units : List ℕ) → line_behind before + feeds units ≡ line_behind (before ++ units)
line_behind-append before units = omega (arith, sum_by-append (λ x. cond (x == line_feed) 1 0) before units)

-- reading on behind the units of a part
moved : (before units behind : List ℕ) → read_on (units ++ behind) (length units) (length before) (line_behind before) ≡ read_on behind 0 (length (before ++ units)) (line_behind (before ++ units))
moved before units behind =
    passed (units ++ behind) (length units) (length before) (line_behind before) (omega (arith, length-append units behind))
    ∙ ap (λ (l : List ℕ). read_on l 0 (length before + length units) (line_behind before + feeds (take (length units) (units ++ behind)))) (drop_at units behind (length units) refl)
    ∙ ap (λ (l : List ℕ). read_on behind 0 (length before + length units) (line_behind before + feeds l)) (take_at units behind (length units) refl)
    ∙ ap (λ (n : ℕ). read_on behind 0 n (line_behind before + feeds units)) (sym (length-append before units))
    ∙ ap (read_on behind 0 (length (before ++ units))) (line_behind-append before units)

-- a lexeme, if there is one, before those that are read behind it
abbrev spanned : List ℕ → List ℕ → Option Lexeme → List Spanned × Option Flaw → List Spanned × Option Flaw
spanned before units lexeme read = (span_behind before units lexeme ++ read.0, read.1)

-- a part is read, and then what is behind it
part_read : (lexeme : Option Lexeme) (before units behind : List ℕ) → Begins lexeme units behind
    → read_on (units ++ behind) 0 (length before) (line_behind before) ≡ spanned before units lexeme (read_on behind 0 (length (before ++ units)) (line_behind (before ++ units)))
part_read None before units behind begins =
    gap_passed (units ++ behind) (length units) (length before) (line_behind before) begins.0 (omega (arith, length-append units behind)) begins.1
    ∙ moved before units behind
part_read (Some lexeme) before units behind begins =
    token_passed (units ++ behind) lexeme (length units) (length before) (line_behind before) begins.0 (omega (arith, length-append units behind)) begins.1
    ∙ ap (λ (read : List Spanned × Option Flaw). spanned before units (Some lexeme) read) (moved before units behind)

-- ---- where no part begins

no_piece_for : (lexeme : Option Lexeme) (size : ℕ) (kind : LexKind) → Failure kind ≡ piece_for lexeme size → ⊥
no_piece_for None size kind same = cc
no_piece_for (Some lexeme) size kind same = cc

no_part : (text : List ℕ) (kind : LexKind) → piece_of text ≡ Failure kind → BeginsNoPart text
no_part text kind fails part behind joined is =
    no_piece_for part.lexeme (length part.units) kind (sym fails ∙ ap piece_of joined ∙ (begins part.lexeme part.units behind is).1)

-- ---- each text has its parts

-- what is read of a text behind other units is said by parts of it
record Parted (before text : List ℕ) (read : List Spanned × Option Flaw) : Type 0 where
  parts : List Part
  tail : List ℕ
  joined : text ≡ text_of parts ++ tail
  right : AreParts parts tail
  spans : read.0 ≡ spans_behind before parts
  end : Ends (before ++ text_of parts) tail read.1

-- one part more in front
part_more : (lexeme : Option Lexeme) (before units behind : List ℕ) → IsPart lexeme units behind
    → Parted (before ++ units) behind (read_on behind 0 (length (before ++ units)) (line_behind (before ++ units)))
    → Parted before (units ++ behind) (read_on (units ++ behind) 0 (length before) (line_behind before))
part_more lexeme before units behind is rest =
    let part : Part = record { lexeme = lexeme; units = units } in
    let read = part_read lexeme before units behind (begins lexeme units behind is) in
    record {
      parts = part ∷ rest.parts;
      tail = rest.tail;
      joined = ap (λ (l : List ℕ). units ++ l) rest.joined ∙ sym (append_assoc units (text_of rest.parts) rest.tail);
      right = (subst (IsPart lexeme units) rest.joined is, rest.right);
      spans = ap (λ (r : List Spanned × Option Flaw). r.0) read ∙ ap (λ (l : List Spanned). span_behind before units lexeme ++ l) rest.spans;
      end = subst (λ (l : List ℕ). Ends l rest.tail (read_on (units ++ behind) 0 (length before) (line_behind before)).1) (append_assoc before units (text_of rest.parts))
          (subst (Ends ((before ++ units) ++ text_of rest.parts) rest.tail) (sym (ap (λ (r : List Spanned × Option Flaw). r.1) read)) rest.end);
    }

-- the same at a text that begins with the part
part_found : (lexeme : Option Lexeme) (size : ℕ) (before text : List ℕ) (stands : Stands text lexeme size)
    → Parted (before ++ stands.units) stands.behind (read_on stands.behind 0 (length (before ++ stands.units)) (line_behind (before ++ stands.units)))
    → Parted before text (read_on text 0 (length before) (line_behind before))
part_found lexeme size before text stands rest =
    subst (λ (l : List ℕ). Parted before l (read_on l 0 (length before) (line_behind before))) (sym stands.joined) (part_more lexeme before stands.units stands.behind stands.is rest)

-- what is behind a part is shorter
shorter : (lexeme : Option Lexeme) (size : ℕ) (text : List ℕ) (stands : Stands text lexeme size) → length stands.behind < length text
shorter lexeme size text stands =
    omega (arith, ap length stands.joined, length-append stands.units stands.behind, (begins lexeme stands.units stands.behind stands.is).0)

parted : (most : ℕ) (before text : List ℕ) → length text ≤ most → Parted before text (read_on text 0 (length before) (line_behind before))
parted most before [] few = subst (Parted before []) (sym (nothing_read 0 (length before) (line_behind before))) (record { parts = []; tail = []; joined = refl; right = tt; spans = refl; end = refl })
parted zero before (unit ∷ units) few = absurd (omega arith)
parted (suc most) before (unit ∷ units) few = by (piece_of (unit ∷ units)) refl (found (unit ∷ units) (omega arith)) (λ b t short. parted most b t short)
  where
    text : List ℕ
    text = unit ∷ units

    by : (piece : Piece) → piece_of (unit ∷ units) ≡ piece → Found (unit ∷ units) piece
        → ((b t : List ℕ) → length t ≤ most → Parted b t (read_on t 0 (length b) (line_behind b)))
        → Parted before (unit ∷ units) (read_on (unit ∷ units) 0 (length before) (line_behind before))
    by (Gap size) is stands rest = part_found None size before (unit ∷ units) stands (rest (before ++ stands.units) stands.behind (omega (arith, shorter None size (unit ∷ units) stands)))
    by (Token lexeme size) is stands rest = part_found (Some lexeme) size before (unit ∷ units) stands (rest (before ++ stands.units) stands.behind (omega (arith, shorter (Some lexeme) size (unit ∷ units) stands)))
    by (Failure kind) is named rest =
        subst (Parted before (unit ∷ units)) (sym (failed (unit ∷ units) kind (length before) (line_behind before) (omega arith) is)) (record {
          parts = [];
          tail = unit ∷ units;
          joined = refl;
          right = tt;
          spans = refl;
          end = subst (λ (l : List ℕ). Ends l (unit ∷ units) (Some (record { at = length before; line = line_behind before; kind = kind }))) (sym (append-nil before))
              (no_part (unit ∷ units) kind is, ap (λ (k : LexKind). Some (record { at = length before; line = line_behind before; kind = k })) named);
        })

-- a text has the lexemes that are read of it, and the flaw
pub text_lexes : (text : List ℕ) → Lexes text (lexing_of text).0 (lexing_of text).1
unfolding lexing_of
text_lexes text = let whole = parted (length text) [] text (omega arith) in record {
  parts = whole.parts;
  tail = whole.tail;
  joined = whole.joined;
  right = whole.right;
  spans = whole.spans;
  end = whole.end;
}

-- ---- and no others

end_read : (before tail : List ℕ) (flaw : Option Flaw) → Ends before tail flaw → read_on tail 0 (length before) (line_behind before) ≡ ([], flaw)
end_read before [] flaw end = nothing_read 0 (length before) (line_behind before) ∙ ap (λ (f : Option Flaw). ([], f)) (sym end)
end_read before (unit ∷ units) flaw end = by (piece_of (unit ∷ units)) refl (found (unit ∷ units) (omega arith))
  where
    by : (piece : Piece) → piece_of (unit ∷ units) ≡ piece → Found (unit ∷ units) piece → read_on (unit ∷ units) 0 (length before) (line_behind before) ≡ ([], flaw)
    by (Gap size) is stands = absurd (end.0 (record { lexeme = None; units = stands.units }) stands.behind stands.joined stands.is)
    by (Token lexeme size) is stands = absurd (end.0 (record { lexeme = Some lexeme; units = stands.units }) stands.behind stands.joined stands.is)
    by (Failure kind) is named =
        failed (unit ∷ units) kind (length before) (line_behind before) (omega arith) is
        ∙ ap (λ (k : LexKind). ([], Some (record { at = length before; line = line_behind before; kind = k }))) named
        ∙ ap (λ (f : Option Flaw). ([], f)) (sym end.1)

parts_read : (before : List ℕ) (parts : List Part) (tail : List ℕ) (flaw : Option Flaw) → AreParts parts tail → Ends (before ++ text_of parts) tail flaw
    → read_on (text_of parts ++ tail) 0 (length before) (line_behind before) ≡ (spans_behind before parts, flaw)
parts_read before [] tail flaw right end = end_read before tail flaw (subst (λ (l : List ℕ). Ends l tail flaw) (append-nil before) end)
parts_read before (part ∷ parts) tail flaw right end =
    ap (λ (l : List ℕ). read_on l 0 (length before) (line_behind before)) (append_assoc part.units (text_of parts) tail)
    ∙ part_read part.lexeme before part.units (text_of parts ++ tail) (begins part.lexeme part.units (text_of parts ++ tail) right.0)
    ∙ ap (spanned before part.units part.lexeme) (parts_read (before ++ part.units) parts tail flaw right.1
    (subst (λ (l : List ℕ). Ends l tail flaw) (sym (append_assoc before part.units (text_of parts))) end))

-- what a text lexes as is what is read of it
pub lexes_once : (text : List ℕ) (lexemes : List Spanned) (flaw : Option Flaw) → Lexes text lexemes flaw → lexing_of text ≡ (lexemes, flaw)
unfolding lexing_of
lexes_once text lexemes flaw lexes =
    ap (λ (l : List ℕ). read_on l 0 0 1) lexes.joined
    ∙ parts_read [] lexes.parts lexes.tail flaw lexes.right lexes.end
    ∙ ap (λ (l : List Spanned). (l, flaw)) (sym lexes.spans)

-- ---- a lexeme is the longest reading of its units

token_sizes : (a b : Lexeme) (size longer : ℕ) → Token a size ≡ Token b longer → size ≡ longer
token_sizes a b size longer same = cc

same_stop : (test : ℕ → Bool) (part rest : List ℕ) → stops test (part ++ rest) ≡ true → stops test part ≡ true
same_stop test [] rest stopped = refl
same_stop test (unit ∷ part) rest stopped = stopped

pub no_longer : (units part rest : List ℕ) (lexeme other : Lexeme) → IsLexeme units (part ++ rest) lexeme → Spells (units ++ part) other → part ≡ []
no_longer units part rest lexeme other is spells =
    let short = (begins (Some lexeme) units part (record { spelled = is.spelled; ended = same_stop (goes_on lexeme units) part rest is.ended })).1 in
    let long = (begins (Some other) (units ++ part) [] (record { spelled = spells; ended = refl })).1 in
    let same : length units ≡ length (units ++ part) = token_sizes lexeme other (length units) (length (units ++ part)) (sym short ∙ ap piece_of (sym (append-nil (units ++ part))) ∙ long) in
    nil_from_length part (omega (arith, same, length-append units part))
