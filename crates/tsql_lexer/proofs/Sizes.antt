-- A piece has at least one unit, and no more than its text.
use Rattle.std.proofs.Common.{◌≡◌, ℕ, ℤ, suc, zero, ◌+◌, ◌-◌, ◌<◌, ◌≤◌, Bool, true, false, cond, ◌&&◌, eqb, nat_lt, nat_le, is_some, Option, None, Some, List, [], ◌∷◌, length, drop, take, slice_index, refl, sym, subst, arith, length-drop, eqb-true, true≢false}
use Rattle.std.specs.List.{prefix_len}
use Rattle.std.proofs.lemmas.Bool.{and_parts}
use Rattle.tsql_lexer.specs.declared.comments.Mark.{Mark}
use Rattle.tsql_lexer.specs.declared.comments.Mark.TheVariants.{Opener, Closer, Plain}
use Rattle.tsql_lexer.specs.declared.fault.LexKind.TheVariants.{OpenName, BadUnit}
use Rattle.tsql_lexer.specs.declared.lexeme.Lexeme.{Lexeme}
use Rattle.tsql_lexer.specs.declared.lexeme.Lexeme.TheVariants as lexemes
use Rattle.tsql_lexer.specs.declared.lexeme.Sign.{Sign}
use Rattle.tsql_lexer.specs.declared.opening.Opening.{Opening}
use Rattle.tsql_lexer.specs.declared.opening.Opening.TheVariants as opens
use Rattle.tsql_lexer.specs.declared.piece.Piece.TheVariants.{Gap, Lexeme as Token, Flaw as Failure}
use Rattle.tsql_lexer.specs.Classes.{is_blank, is_digit, is_word_unit, stays_in_line}
use Rattle.tsql_lexer.specs.Comments.{mark_of, more, size_by, closing_size, comment_size}
use Rattle.tsql_lexer.specs.Quotes.{enclosed, enclosed_by, longer}
use Rattle.tsql_lexer.specs.Lexemes.{is_name}
use Rattle.tsql_lexer.specs.Reading.{opening_of, double_sign, single_sign, at_name_piece, number_of, number_by, number_piece, name_by, name_piece, text_by, text_piece, comment_by, comment_piece, token_of, sign_by, sign_piece, piece_by, piece_of, IsWithin}
use Rattle.tsql_lexer.proofs.Runs.{run_within}
use Rattle.tsql_lexer.proofs.Openings.{Says, says, stands, two_stand}

abbrev pub SizeWithin : ℕ → Option ℕ → Type 0
SizeWithin most None = Unit {0}
SizeWithin most (Some size) = (1 ≤ size) × (size ≤ most)

abbrev ReadWithin : ℕ → Option (List ℕ × ℕ) → Type 0
ReadWithin most None = Unit {0}
ReadWithin most (Some read) = (1 ≤ read.1) × (read.1 ≤ most)

-- ---- comments

more_within : (count most : ℕ) (size : Option ℕ) → SizeWithin most size → SizeWithin (count + most) (more count size)
more_within count most None within = tt
more_within count most (Some size) within = (omega arith, omega arith)

size_by-within : (mark : Mark) (depth most : ℕ) (behind_two behind_one : ℕ → Option ℕ)
    → ((d : ℕ) → SizeWithin most (behind_two d)) → ((d : ℕ) → SizeWithin (suc most) (behind_one d)) → SizeWithin (suc (suc most)) (size_by mark depth behind_two behind_one)
size_by-within Opener depth most behind_two behind_one two one = subst (λ (n : ℕ). SizeWithin n (more 2 (behind_two (suc depth)))) (omega arith) (more_within 2 most (behind_two (suc depth)) (two (suc depth)))
size_by-within Closer depth most behind_two behind_one two one = last (nat_le depth 1)
  where
    last : (outermost : Bool) → SizeWithin (suc (suc most)) (cond outermost (Some 2) (more 2 (behind_two (depth - 1))))
    last true = (omega arith, omega arith)
    last false = subst (λ (n : ℕ). SizeWithin n (more 2 (behind_two (depth - 1)))) (omega arith) (more_within 2 most (behind_two (depth - 1)) (two (depth - 1)))
size_by-within Plain depth most behind_two behind_one two one = subst (λ (n : ℕ). SizeWithin n (more 1 (behind_one depth))) (omega arith) (more_within 1 (suc most) (behind_one depth) (one depth))

pub closing_within : (units : List ℕ) (depth : ℕ) → SizeWithin (length units) (closing_size units depth)
unfolding closing_size
closing_within [] depth = tt
closing_within (unit ∷ []) depth = tt
closing_within (unit ∷ next ∷ units) depth =
    size_by-within (mark_of unit next) depth (length units) (closing_size units) (closing_size (next ∷ units)) (closing_within units) (closing_within (next ∷ units))

-- ---- quotes

longer_within : (unit count most : ℕ) (read : Option (List ℕ × ℕ)) → ReadWithin most read → ReadWithin (count + most) (longer unit count read)
longer_within unit count most None within = tt
longer_within unit count most (Some read) within = (omega (arith, within.0), omega (arith, within.1))

enclosed_by-within : (closes next_closes : Bool) (unit most : ℕ) (behind_two behind_one : Option (List ℕ × ℕ))
    → ReadWithin most behind_two → ReadWithin (suc most) behind_one → ReadWithin (suc (suc most)) (enclosed_by closes next_closes unit behind_two behind_one)
enclosed_by-within false next_closes unit most behind_two behind_one two one = subst (λ (n : ℕ). ReadWithin n (longer unit 1 behind_one)) (omega arith) (longer_within unit 1 (suc most) behind_one one)
enclosed_by-within true true unit most behind_two behind_one two one = subst (λ (n : ℕ). ReadWithin n (longer unit 2 behind_two)) (omega arith) (longer_within unit 2 most behind_two two)
enclosed_by-within true false unit most behind_two behind_one two one = (omega arith, omega arith)

single_within : (closes : Bool) → ReadWithin 1 (cond closes (Some ([], 1)) None)
single_within true = (omega arith, omega arith)
single_within false = tt

pub enclosed_within : (close : ℕ) (units : List ℕ) → ReadWithin (length units) (enclosed close units)
unfolding enclosed
enclosed_within close [] = tt
enclosed_within close (unit ∷ []) = single_within (eqb unit close)
enclosed_within close (unit ∷ next ∷ units) =
    enclosed_by-within (eqb unit close) (eqb next close) unit (length units) (enclosed close units) (enclosed close (next ∷ units)) (enclosed_within close units) (enclosed_within close (next ∷ units))

-- ---- runs

pub run_begins : (test : ℕ → Bool) (text : List ℕ) → 0 < length text → test (slice_index text 0) ≡ true → 1 ≤ prefix_len test text
run_begins test [] some passes = absurd (omega arith)
run_begins test (unit ∷ units) some passes =
    let here : test unit ≡ true = passes in
    rw here (omega arith)

run_size : (test : ℕ → Bool) (text : List ℕ) → 0 < length text → test (slice_index text 0) ≡ true → IsWithin (length text) (Gap (prefix_len test text))
run_size test text some passes = (run_begins test text some passes, run_within test text)

-- ---- pieces by what opens them

number_within : (number : Option ℤ) (size most : ℕ) → 1 ≤ size → size ≤ most → IsWithin most (number_by number size)
number_within None size most some within = tt
number_within (Some value) size most some within = (some, within)

at_name_within : (make : List ℕ → Lexeme) (least : ℕ) (text : List ℕ) → 1 ≤ least → IsWithin (length text) (at_name_piece make least text)
unfolding at_name_piece
at_name_within make least text some = enough (nat_lt (prefix_len is_word_unit text) least) refl
  where
    enough : (few : Bool) → nat_lt (prefix_len is_word_unit text) least ≡ few → IsWithin (length text) (cond few (Failure BadUnit) (token_of make (prefix_len is_word_unit text) text))
    enough true is = tt
    enough false is = (grind arith, run_within is_word_unit text)

name_within : (read : Option (List ℕ × ℕ)) (most : ℕ) → ReadWithin most read → IsWithin (suc most) (name_by read)
name_within None most within = tt
name_within (Some read) most within = judged (is_name read.0)
  where
    judged : (good : Bool) → IsWithin (suc most) (cond good (Token (lexemes.Quoted read.0) (read.1 + 1)) (Failure OpenName))
    judged true = (omega (arith, within.0), omega (arith, within.1))
    judged false = tt

text_within : (front : ℕ) (read : Option (List ℕ × ℕ)) (most : ℕ) → ReadWithin most read → IsWithin (front + most) (text_by front read)
text_within front None most within = tt
text_within front (Some read) most within = (omega (arith, within.0), omega (arith, within.1))

comment_within : (size : Option ℕ) (most : ℕ) → SizeWithin most size → IsWithin most (comment_by size)
comment_within None most within = tt
comment_within (Some size) most within = within

sign_within : (double single : Option Sign) (most : ℕ) → 1 ≤ most → (is_some double ≡ true → 2 ≤ most) → IsWithin most (sign_by double single)
sign_within (Some sign) single most some two = (omega arith, two refl)
sign_within None (Some sign) most some two = (omega arith, some)
sign_within None None most some two = tt

pub and_false : (test : Bool) → (test && false) ≡ false
and_false true = refl
and_false false = refl

-- a sign of two units has a second one
pub double_second : (first second : ℕ) → is_some (double_sign first second) ≡ true → 0 < second
unfolding double_sign
double_second first zero is =
    let absent = rw (and_false (eqb first 0x3C), and_false (eqb first 0x21), and_false (eqb first 0x3E)) at is in
    absurd (true≢false (sym absent))
double_second first (suc second) is = omega arith

-- the text behind its opening units
behind_front : (text : List ℕ) (front : ℕ) → front ≤ length text → front + length (drop front text) ≡ length text
behind_front text front within = omega (arith, length-drop front text)

pub piece_by-within : (opening : Opening) (text : List ℕ) → 0 < length text → opening_of (slice_index text 0) (slice_index text 1) ≡ opening → Says opening (slice_index text 0) (slice_index text 1)
    → IsWithin (length text) (piece_by opening text)
unfolding piece_by number_piece name_piece text_piece comment_piece sign_piece
piece_by-within opens.Blank text some is said = run_size is_blank text some said
piece_by-within opens.LineComment text some is said =
    let dash : slice_index text 0 ≡ 0x2D = eqb-true (slice_index text 0) 0x2D (and_parts _ _ said).0 in
    run_size stays_in_line text some (subst (λ (n : ℕ). stays_in_line n ≡ true) (sym dash) refl)
piece_by-within opens.Comment text some is said = comment_within (comment_size text) (length text) (closing_within text 0)
piece_by-within opens.Word text some is said = run_size is_word_unit text some (rw said.0 refl)
piece_by-within opens.Number text some is said = number_within (number_of (take (prefix_len is_digit text) text)) (prefix_len is_digit text) (length text) (run_begins is_digit text some said) (run_within is_digit text)
piece_by-within opens.Bracket text some is said = subst (λ (n : ℕ). IsWithin n (name_piece 0x5D text)) (omega (arith, length-drop 1 text)) (name_within (enclosed 0x5D (drop 1 text)) (length (drop 1 text)) (enclosed_within 0x5D (drop 1 text)))
piece_by-within opens.DoubleQuote text some is said = subst (λ (n : ℕ). IsWithin n (name_piece 0x22 text)) (omega (arith, length-drop 1 text)) (name_within (enclosed 0x22 (drop 1 text)) (length (drop 1 text)) (enclosed_within 0x22 (drop 1 text)))
piece_by-within opens.Variable text some is said = at_name_within lexemes.Variable 2 text (omega arith)
piece_by-within opens.SystemName text some is said = at_name_within lexemes.SystemName 3 text (omega arith)
piece_by-within opens.Text text some is said = subst (λ (n : ℕ). IsWithin n (text_piece 1 text)) (behind_front text 1 (omega arith)) (text_within 1 (enclosed 0x27 (drop 1 text)) (length (drop 1 text)) (enclosed_within 0x27 (drop 1 text)))
piece_by-within opens.NationalText text some is said = subst (λ (n : ℕ). IsWithin n (text_piece 2 text)) (behind_front text 2 (omega (arith, two_stand text is))) (text_within 2 (enclosed 0x27 (drop 2 text)) (length (drop 2 text)) (enclosed_within 0x27 (drop 2 text)))
piece_by-within opens.Sign text some is said =
    sign_within (double_sign (slice_index text 0) (slice_index text 1)) (single_sign (slice_index text 0)) (length text) (omega arith)
    (λ double. omega (arith, stands text 1 (slice_index text 1) refl (double_second (slice_index text 0) (slice_index text 1) double)))

pub piece_within : (text : List ℕ) → 0 < length text → IsWithin (length text) (piece_of text)
unfolding piece_of
piece_within text some = piece_by-within (opening_of (slice_index text 0) (slice_index text 1)) text some refl (says (slice_index text 0) (slice_index text 1))

pub gap_size : (text : List ℕ) (size : ℕ) → 0 < length text → piece_of text ≡ Gap size → (1 ≤ size) × (size ≤ length text)
gap_size text size some is = subst (IsWithin (length text)) is (piece_within text some)

pub token_size : (text : List ℕ) (lexeme : Lexeme) (size : ℕ) → 0 < length text → piece_of text ≡ Token lexeme size → (1 ≤ size) × (size ≤ length text)
token_size text lexeme size some is = subst (IsWithin (length text)) is (piece_within text some)
