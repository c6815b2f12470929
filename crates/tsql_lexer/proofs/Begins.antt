-- A part of a text, with what stands behind it, is read as that part.
use Rattle.std.proofs.Common.{◌≡◌, ℕ, ℤ, ◌+◌, ◌<◌, ◌≤◌, Bool, true, false, not, ◌&&◌, ◌||◌, eqb, leb, ◌==◌, nat_lt, nat_le, Option, None, Some, List, [], ◌∷◌, ◌++◌, length, take, slice_index, codes, inl, inr, refl, sym, ap, subst, ◌∙◌, arith, append_assoc, length-append, true≢false, ne_eqb, leb-true, leb-false}
use Rattle.std.specs.List.{prefix_len, list_all}
use Rattle.std.proofs.lemmas.Bool.{and_parts}
use Rattle.std.proofs.lemmas.List.{take_at}
use Rattle.std.proofs.lemmas.Bool.Decides.{nat_tests}
use Rattle.value_types.specs.Units.{same_units}
use Rattle.tsql_lexer.specs.declared.lexeme.Lexeme.{Lexeme}
use Rattle.tsql_lexer.specs.declared.lexeme.Lexeme.TheVariants.{Word, Quoted, Variable, SystemName, Number, Text, Sign}
use Rattle.tsql_lexer.specs.declared.lexeme.Sign.{Sign as SignKind}
use Rattle.tsql_lexer.specs.declared.lexeme.Sign.TheVariants as signs
use Rattle.tsql_lexer.specs.declared.opening.Opening.{Opening}
use Rattle.tsql_lexer.specs.declared.opening.Opening.TheVariants as opens
use Rattle.tsql_lexer.specs.declared.piece.Piece.{Piece}
use Rattle.tsql_lexer.specs.declared.piece.Piece.TheVariants.{Gap, Lexeme as Token}
use Rattle.tsql_lexer.specs.Classes.{is_blank, is_digit, is_word_start, is_word_unit, stays_in_line}
use Rattle.tsql_lexer.specs.Signs.{sign_spellings}
use Rattle.tsql_lexer.specs.Quotes.{doubled, enclosed}
use Rattle.tsql_lexer.specs.Comments.{comment_size}
use Rattle.tsql_lexer.specs.Lexemes.{IsWord, IsVariable, IsSystemName, IsNumber, is_name, in_quotes, IsOneOf, Spells, goes_on, stops}
use Rattle.tsql_lexer.specs.Parts.{AreBlanks, IsLineComment, IsComment, IsPart}
use Rattle.tsql_lexer.specs.Reading.{opening_of, double_sign, single_sign, at_name_piece, number_of, number_by, number_piece, name_by, name_piece, text_by, text_piece, comment_by, comment_piece, token_of, sign_piece, piece_by, piece_of}
use Rattle.tsql_lexer.proofs.Stops.{run_stops, run_all, run_some, unlike}
use Rattle.tsql_lexer.proofs.Digits.{fits}
use Rattle.tsql_lexer.proofs.CommentLaws.{closing_front}
use Rattle.tsql_lexer.proofs.Sizes.{and_false}
use Rattle.tsql_lexer.proofs.QuoteLaws.{not_true, enclosed_of}

-- the piece that a part of so many units is
abbrev pub piece_for : Option Lexeme → ℕ → Piece
piece_for None size = Gap size
piece_for (Some lexeme) size = Token lexeme size

-- a part that begins a text
abbrev pub Begins : Option Lexeme → List ℕ → List ℕ → Type 0
Begins lexeme units behind = (1 ≤ length units) × (piece_of (units ++ behind) ≡ piece_for lexeme (length units))

-- a text that is opened so
opened : (text : List ℕ) (opening : Opening) → opening_of (slice_index text 0) (slice_index text 1) ≡ opening → piece_of text ≡ piece_by opening text
unfolding piece_of
opened text opening is = ap (λ (o : Opening). piece_by o text) is

-- ---- blanks and comments

begins_blanks : (units behind : List ℕ) → AreBlanks units behind → Begins None units behind
unfolding piece_by opening_of
begins_blanks [] behind blanks = absurd blanks.0
begins_blanks (unit ∷ units) behind blanks =
    let first : is_blank unit ≡ true = blanks.0.0 in (
      omega arith,
      opened (unit ∷ (units ++ behind)) opens.Blank (rw first refl)
          ∙ ap Gap (run_stops is_blank (unit ∷ units) behind (run_all is_blank (unit ∷ units) blanks.0) blanks.1),
    )

begins_line_comment : (units behind : List ℕ) → IsLineComment units behind → Begins None units behind
unfolding piece_by opening_of
begins_line_comment units behind comment =
    let text : List ℕ = codes "--" ++ comment.0 in
    subst (λ (l : List ℕ). Begins None l behind) (sym comment.1) (
      omega arith,
      opened (text ++ behind) opens.LineComment refl
          ∙ ap Gap (run_stops stays_in_line text behind comment.2 comment.3),
    )

begins_comment : (units behind : List ℕ) → IsComment units → Begins None units behind
unfolding piece_by opening_of comment_piece
begins_comment units behind comment =
    let text : List ℕ = codes "/*" ++ comment.0 in
    let sized : comment_size (text ++ behind) ≡ Some (length text) = subst (λ (l : List ℕ). comment_size (l ++ behind) ≡ Some (length l)) comment.1 (closing_front units behind 0 (length units) comment.2) in
    subst (λ (l : List ℕ). Begins None l behind) (sym comment.1) (
      omega arith,
      opened (text ++ behind) opens.Comment refl
          ∙ ap comment_by sized,
    )

-- ---- names of word units

lt-leb : (a b : ℕ) → b < a → leb a b ≡ false
lt-leb a b below = grind (arith, nat_tests)

-- units above the signs are no blanks
above_blanks : (unit : ℕ) → 0x30 ≤ unit → is_blank unit ≡ false
above_blanks unit above = rw (ne_eqb unit 0x09 (omega arith), ne_eqb unit 0x0A (omega arith), ne_eqb unit 0x0D (omega arith), ne_eqb unit 0x20 (omega arith)) refl

word_above : (unit : ℕ) → is_word_start unit ≡ true → 0x41 ≤ unit
word_above unit starts = by (leb 0x41 unit) refl
  where
    by : (b : Bool) → leb 0x41 unit ≡ b → 0x41 ≤ unit
    by true is = leb-true 0x41 unit is
    by false is =
        let below : unit < 0x41 = leb-false 0x41 unit is in
        let lower : leb 0x61 unit ≡ false = grind (arith, nat_tests) in
        let fails : is_word_start unit ≡ false = rw (is, lower, ne_eqb unit 0x5F (omega arith)) refl in
        absurd (true≢false (sym starts ∙ fails))

-- a unit of words is no quote
no_quote : (unit : ℕ) → is_word_unit unit ≡ true → eqb unit 0x27 ≡ false
no_quote unit passes = ne_eqb unit 0x27 (λ same. true≢false (sym passes ∙ subst (λ (n : ℕ). is_word_unit n ≡ false) (sym same) refl))

-- `N` is no word where a quote is behind it
not_national : (unit : ℕ) (units behind : List ℕ) → list_all is_word_unit units ≡ true → stops (goes_on (Word (unit ∷ units)) (unit ∷ units)) behind ≡ true
    → (eqb unit 0x4E && eqb (slice_index (unit ∷ (units ++ behind)) 1) 0x27) ≡ false
not_national unit [] [] passes stopped = and_false (eqb unit 0x4E)
not_national unit [] (next ∷ behind) passes stopped = by (is_word_unit next) (eqb unit 0x4E) (eqb next 0x27) stopped
  where
    by : (w a b : Bool) → not (w || ((a && true) && b)) ≡ true → (a && b) ≡ false
    by true a b stopped = absurd (true≢false (sym stopped))
    by false true true stopped = absurd (true≢false (sym stopped))
    by false true false stopped = refl
    by false false b stopped = refl
not_national unit (second ∷ units) behind passes stopped =
    rw (no_quote second (and_parts (is_word_unit second) (list_all is_word_unit units) passes).0) (and_false (eqb unit 0x4E))

-- what stops one of two tests stops the first
stops_first : (first second : ℕ → Bool) (behind : List ℕ) → stops (λ n. first n || second n) behind ≡ true → stops first behind ≡ true
stops_first first second [] stopped = refl
stops_first first second (next ∷ behind) stopped = by (first next) (second next) stopped
  where
    by : (a b : Bool) → not (a || b) ≡ true → not a ≡ true
    by true b stopped = stopped
    by false b stopped = refl

-- a lexeme that holds its units
token_whole : (make : List ℕ → Lexeme) (units behind : List ℕ) → prefix_len is_word_unit (units ++ behind) ≡ length units
    → token_of make (prefix_len is_word_unit (units ++ behind)) (units ++ behind) ≡ Token (make units) (length units)
token_whole make units behind whole =
    ap (λ (n : ℕ). token_of make n (units ++ behind)) whole
    ∙ ap (λ (l : List ℕ). Token (make l) (length units)) (take_at units behind (length units) refl)

word_starts : (unit : ℕ) → is_word_start unit ≡ true → is_word_unit unit ≡ true
word_starts unit starts = rw starts refl

begins_word : (units behind : List ℕ) → IsWord units → stops (goes_on (Word units) units) behind ≡ true → Begins (Some (Word units)) units behind
unfolding piece_by opening_of
begins_word [] behind word stopped = absurd word
begins_word (unit ∷ units) behind word stopped =
    let above : 0x41 ≤ unit = word_above unit word.0 in
    let starts : is_word_start unit ≡ true = word.0 in
    let passes : list_all is_word_unit (unit ∷ units) ≡ true = rw (word_starts unit word.0, word.1) refl in
    let stopped_words : stops is_word_unit behind ≡ true = stops_first is_word_unit (λ n. same_units (unit ∷ units) (codes "N") && n == 0x27) behind stopped in (
      omega arith,
      opened (unit ∷ (units ++ behind)) opens.Word (rw (above_blanks unit (omega arith), ne_eqb unit 0x2D (omega arith), ne_eqb unit 0x2F (omega arith), not_national unit units behind word.1 stopped, starts) refl)
          ∙ token_whole Word (unit ∷ units) behind (run_stops is_word_unit (unit ∷ units) behind passes stopped_words),
    )

at_name_whole : (make : List ℕ → Lexeme) (least : ℕ) (units behind : List ℕ) → least ≤ length units → list_all is_word_unit units ≡ true → stops is_word_unit behind ≡ true
    → at_name_piece make least (units ++ behind) ≡ Token (make units) (length units)
unfolding at_name_piece
at_name_whole make least units behind enough passes stopped =
    let whole : prefix_len is_word_unit (units ++ behind) ≡ length units = run_stops is_word_unit units behind passes stopped in
    let many : nat_lt (prefix_len is_word_unit (units ++ behind)) least ≡ false = rw whole (grind (arith, nat_tests)) in
    rw many (token_whole make units behind whole)

begins_variable : (units behind : List ℕ) → IsVariable units → stops is_word_unit behind ≡ true → Begins (Some (Variable units)) units behind
unfolding piece_by opening_of
begins_variable units behind variable stopped =
    let first = variable.0 in
    let text : List ℕ = codes "@" ++ first ∷ variable.1 in
    let other : eqb first 0x40 ≡ false = not_true (eqb first 0x40) variable.4 in
    subst (λ (l : List ℕ). Begins (Some (Variable l)) l behind) (sym variable.2) (
      omega arith,
      opened (text ++ behind) opens.Variable (rw other refl)
          ∙ at_name_whole Variable 2 text behind (omega arith) (run_all is_word_unit (first ∷ variable.1) variable.3) stopped,
    )

begins_system_name : (units behind : List ℕ) → IsSystemName units → stops is_word_unit behind ≡ true → Begins (Some (SystemName units)) units behind
unfolding piece_by opening_of
begins_system_name units behind name stopped =
    let text : List ℕ = codes "@@" ++ name.0 in
    let some : 1 ≤ length name.0 = run_some is_word_unit name.0 name.2 in
    subst (λ (l : List ℕ). Begins (Some (SystemName l)) l behind) (sym name.1) (
      omega arith,
      opened (text ++ behind) opens.SystemName refl
          ∙ at_name_whole SystemName 3 text behind (omega (arith, some)) (run_all is_word_unit name.0 name.2) stopped,
    )

-- ---- numbers

pub digit_bounds : (unit : ℕ) → is_digit unit ≡ true → (0x30 ≤ unit) × (unit ≤ 0x39)
digit_bounds unit digit = let parts = and_parts (nat_le 0x30 unit) (nat_le unit 0x39) digit in (leb-true 0x30 unit parts.0, leb-true unit 0x39 parts.1)

digit_starts_no_word : (unit : ℕ) → is_digit unit ≡ true → is_word_start unit ≡ false
digit_starts_no_word unit digit =
    let bounds = digit_bounds unit digit in
    let upper : leb 0x41 unit ≡ false = lt-leb 0x41 unit (omega (arith, bounds.1)) in
    let lower : leb 0x61 unit ≡ false = lt-leb 0x61 unit (omega (arith, bounds.1)) in
    rw (upper, lower, ne_eqb unit 0x5F (omega (arith, bounds.1))) refl

begins_number : (units behind : List ℕ) (value : ℤ) → IsNumber units value → stops is_digit behind ≡ true → Begins (Some (Number value)) units behind
unfolding piece_by opening_of number_piece
begins_number [] behind value number stopped = absurd number.0
begins_number (unit ∷ units) behind value number stopped =
    let digit : is_digit unit ≡ true = number.0.0 in
    let bounds = digit_bounds unit digit in
    let text : List ℕ = unit ∷ (units ++ behind) in
    let whole : prefix_len is_digit text ≡ length (unit ∷ units) = run_stops is_digit (unit ∷ units) behind (run_all is_digit (unit ∷ units) number.0) stopped in
    let taken : take (prefix_len is_digit text) text ≡ unit ∷ units = ap (λ (n : ℕ). take n text) whole ∙ take_at (unit ∷ units) behind (length (unit ∷ units)) refl in (
      omega arith,
      opened text opens.Number (rw (above_blanks unit bounds.0, ne_eqb unit 0x2D (omega (arith, bounds.0)), ne_eqb unit 0x2F (omega (arith, bounds.0)), ne_eqb unit 0x4E (omega (arith, bounds.1)), digit_starts_no_word unit digit, digit) refl)
          ∙ ap (λ (l : List ℕ). number_by (number_of l) (prefix_len is_digit text)) taken
          ∙ ap (λ (n : Option ℤ). number_by n (prefix_len is_digit text)) (fits (unit ∷ units) number.1 ∙ ap (λ (z : ℤ). Some z) (sym number.2))
          ∙ ap (λ (n : ℕ). Token (Number value) n) whole,
    )

-- ---- names and texts between quotes

-- what is behind the opening quote
inside : (close : ℕ) (value behind : List ℕ) → (doubled close value ++ close ∷ []) ++ behind ≡ doubled close value ++ (close ∷ behind)
inside close value behind = append_assoc (doubled close value) (close ∷ []) behind

read_inside : (close : ℕ) (value behind : List ℕ) → stops (λ n. n == close) behind ≡ true → enclosed close ((doubled close value ++ close ∷ []) ++ behind) ≡ Some (value, length (doubled close value) + 1)
read_inside close value behind stopped = ap (enclosed close) (inside close value behind) ∙ enclosed_of close value behind stopped

-- how many units a value takes with its closing quote
inside_size : (close : ℕ) (value : List ℕ) → length (doubled close value ++ close ∷ []) ≡ length (doubled close value) + 1
inside_size close value = length-append (doubled close value) (close ∷ [])

named : (name : List ℕ) (size : ℕ) → is_name name ≡ true → name_by (Some (name, size)) ≡ Token (Quoted name) (size + 1)
named name size good = rw good refl

begins_bracket : (name behind : List ℕ) → is_name name ≡ true → stops (λ n. n == 0x5D) behind ≡ true → Begins (Some (Quoted name)) (in_quotes (codes "[") 0x5D name) behind
unfolding piece_by opening_of name_piece
begins_bracket name behind good stopped = (
  omega arith,
  opened (in_quotes (codes "[") 0x5D name ++ behind) opens.Bracket refl
      ∙ ap name_by (read_inside 0x5D name behind stopped)
      ∙ named name (length (doubled 0x5D name) + 1) good
      ∙ ap (λ (n : ℕ). Token (Quoted name) n) (omega (arith, inside_size 0x5D name)),
)

begins_double_quote : (name behind : List ℕ) → is_name name ≡ true → stops (λ n. n == 0x22) behind ≡ true → Begins (Some (Quoted name)) (in_quotes (codes "\"") 0x22 name) behind
unfolding piece_by opening_of name_piece
begins_double_quote name behind good stopped = (
  omega arith,
  opened (in_quotes (codes "\"") 0x22 name ++ behind) opens.DoubleQuote refl
      ∙ ap name_by (read_inside 0x22 name behind stopped)
      ∙ named name (length (doubled 0x22 name) + 1) good
      ∙ ap (λ (n : ℕ). Token (Quoted name) n) (omega (arith, inside_size 0x22 name)),
)

begins_text : (text behind : List ℕ) → stops (λ n. n == 0x27) behind ≡ true → Begins (Some (Text text)) (in_quotes (codes "'") 0x27 text) behind
unfolding piece_by opening_of text_piece
begins_text text behind stopped = (
  omega arith,
  opened (in_quotes (codes "'") 0x27 text ++ behind) opens.Text refl
      ∙ ap (text_by 1) (read_inside 0x27 text behind stopped)
      ∙ ap (λ (n : ℕ). Token (Text text) n) (omega (arith, inside_size 0x27 text)),
)

begins_national : (text behind : List ℕ) → stops (λ n. n == 0x27) behind ≡ true → Begins (Some (Text text)) (in_quotes (codes "N'") 0x27 text) behind
unfolding piece_by opening_of text_piece
begins_national text behind stopped = (
  omega arith,
  opened (in_quotes (codes "N'") 0x27 text ++ behind) opens.NationalText refl
      ∙ ap (text_by 2) (read_inside 0x27 text behind stopped)
      ∙ ap (λ (n : ℕ). Token (Text text) n) (omega (arith, inside_size 0x27 text)),
)

-- ---- signs

-- the unit behind a text's first one, where such a unit would go on with a sign
second_other : (first other : ℕ) (sign : SignKind) (behind : List ℕ) → stops (goes_on (Sign sign) (first ∷ [])) behind ≡ true → goes_on (Sign sign) (first ∷ []) other ≡ true → 0 < other
    → eqb (slice_index (first ∷ behind) 1) other ≡ false
second_other first other sign [] stopped goes some = ne_eqb 0 other (omega arith)
second_other first other sign (next ∷ behind) stopped goes some = unlike (goes_on (Sign sign) (first ∷ [])) next other stopped goes

-- a sign whose opening and table rows compute
sign_read : (sign : SignKind) (units behind : List ℕ) → 1 ≤ length units → opening_of (slice_index (units ++ behind) 0) (slice_index (units ++ behind) 1) ≡ opens.Sign
    → sign_piece (slice_index (units ++ behind) 0) (slice_index (units ++ behind) 1) ≡ Token (Sign sign) (length units) → Begins (Some (Sign sign)) units behind
unfolding piece_by
sign_read sign units behind some opening read = (some, opened (units ++ behind) opens.Sign opening ∙ read)

-- the units are the only spelling
only : (P : List ℕ → Type 0) (units text : List ℕ) → IsOneOf (text ∷ []) units → P text → P units
only P units text spelled holds = elim spelled [ inl same ↦ subst P (sym same) holds | inr none ↦ absurd none ]

-- what a sign spelled so begins
abbrev Reads : SignKind → List ℕ → List ℕ → Type 0
Reads sign behind units = stops (goes_on (Sign sign) units) behind ≡ true → Begins (Some (Sign sign)) units behind

begins_sign : (sign : SignKind) (units behind : List ℕ) → IsOneOf (sign_spellings sign) units → Reads sign behind units
unfolding opening_of sign_piece double_sign single_sign
begins_sign signs.Open units behind spelled = only (Reads signs.Open behind) units (codes "(") spelled (λ stopped. sign_read signs.Open (codes "(") behind (omega arith) refl refl)
begins_sign signs.Close units behind spelled = only (Reads signs.Close behind) units (codes ")") spelled (λ stopped. sign_read signs.Close (codes ")") behind (omega arith) refl refl)
begins_sign signs.Comma units behind spelled = only (Reads signs.Comma behind) units (codes ",") spelled (λ stopped. sign_read signs.Comma (codes ",") behind (omega arith) refl refl)
begins_sign signs.Dot units behind spelled = only (Reads signs.Dot behind) units (codes ".") spelled (λ stopped. sign_read signs.Dot (codes ".") behind (omega arith) refl refl)
begins_sign signs.Semicolon units behind spelled = only (Reads signs.Semicolon behind) units (codes ";") spelled (λ stopped. sign_read signs.Semicolon (codes ";") behind (omega arith) refl refl)
begins_sign signs.Plus units behind spelled = only (Reads signs.Plus behind) units (codes "+") spelled (λ stopped. sign_read signs.Plus (codes "+") behind (omega arith) refl refl)
begins_sign signs.Minus units behind spelled = only (Reads signs.Minus behind) units (codes "-") spelled (λ stopped. sign_read signs.Minus (codes "-") behind (omega arith) (rw (second_other 0x2D 0x2D signs.Minus behind stopped refl (omega arith)) refl) refl)
begins_sign signs.Star units behind spelled = only (Reads signs.Star behind) units (codes "*") spelled (λ stopped. sign_read signs.Star (codes "*") behind (omega arith) refl refl)
begins_sign signs.Slash units behind spelled = only (Reads signs.Slash behind) units (codes "/") spelled (λ stopped. sign_read signs.Slash (codes "/") behind (omega arith) (rw (second_other 0x2F 0x2A signs.Slash behind stopped refl (omega arith)) refl) refl)
begins_sign signs.Percent units behind spelled = only (Reads signs.Percent behind) units (codes "%") spelled (λ stopped. sign_read signs.Percent (codes "%") behind (omega arith) refl refl)
begins_sign signs.Equal units behind spelled = only (Reads signs.Equal behind) units (codes "=") spelled (λ stopped. sign_read signs.Equal (codes "=") behind (omega arith) refl refl)
begins_sign signs.LessEqual units behind spelled = only (Reads signs.LessEqual behind) units (codes "<=") spelled (λ stopped. sign_read signs.LessEqual (codes "<=") behind (omega arith) refl refl)
begins_sign signs.GreaterEqual units behind spelled = only (Reads signs.GreaterEqual behind) units (codes ">=") spelled (λ stopped. sign_read signs.GreaterEqual (codes ">=") behind (omega arith) refl refl)
begins_sign signs.Less units behind spelled = only (Reads signs.Less behind) units (codes "<") spelled (λ stopped. sign_read signs.Less (codes "<") behind (omega arith) refl (rw (second_other 0x3C 0x3E signs.Less behind stopped refl (omega arith), second_other 0x3C 0x3D signs.Less behind stopped refl (omega arith)) refl))
begins_sign signs.Greater units behind spelled = only (Reads signs.Greater behind) units (codes ">") spelled (λ stopped. sign_read signs.Greater (codes ">") behind (omega arith) refl (rw (second_other 0x3E 0x3D signs.Greater behind stopped refl (omega arith)) refl))
begins_sign signs.NotEqual units behind spelled = elim spelled [
  | inl same ↦ subst (Reads signs.NotEqual behind) (sym same) (λ stopped. sign_read signs.NotEqual (codes "<>") behind (omega arith) refl refl)
  | inr other ↦ only (Reads signs.NotEqual behind) units (codes "!=") other (λ stopped. sign_read signs.NotEqual (codes "!=") behind (omega arith) refl refl)
]

-- ---- parts

begins_quoted : (name units behind : List ℕ) → Spells units (Quoted name) → stops (goes_on (Quoted name) units) behind ≡ true → Begins (Some (Quoted name)) units behind
begins_quoted name units behind spelled = elim spelled.1 [
  | inl same ↦ subst (λ (l : List ℕ). stops (goes_on (Quoted name) l) behind ≡ true → Begins (Some (Quoted name)) l behind) (sym same) (begins_bracket name behind spelled.0)
  | inr same ↦ subst (λ (l : List ℕ). stops (goes_on (Quoted name) l) behind ≡ true → Begins (Some (Quoted name)) l behind) (sym same) (begins_double_quote name behind spelled.0)
]

begins_lexeme : (lexeme : Lexeme) (units behind : List ℕ) → Spells units lexeme → stops (goes_on lexeme units) behind ≡ true → Begins (Some lexeme) units behind
begins_lexeme (Word name) units behind spelled stopped =
    subst (λ (l : List ℕ). stops (goes_on (Word l) units) behind ≡ true → Begins (Some (Word l)) units behind) spelled.0 (begins_word units behind (subst IsWord (sym spelled.0) spelled.1)) stopped
begins_lexeme (Quoted name) units behind spelled stopped = begins_quoted name units behind spelled stopped
begins_lexeme (Variable name) units behind spelled stopped =
    subst (λ (l : List ℕ). Begins (Some (Variable l)) units behind) spelled.0 (begins_variable units behind (subst IsVariable (sym spelled.0) spelled.1) stopped)
begins_lexeme (SystemName name) units behind spelled stopped =
    subst (λ (l : List ℕ). Begins (Some (SystemName l)) units behind) spelled.0 (begins_system_name units behind (subst IsSystemName (sym spelled.0) spelled.1) stopped)
begins_lexeme (Number value) units behind spelled stopped = begins_number units behind value spelled stopped
begins_lexeme (Text text) units behind spelled stopped = elim spelled [
  | inl same ↦ subst (λ (l : List ℕ). Begins (Some (Text text)) l behind) (sym same) (begins_text text behind stopped)
  | inr same ↦ subst (λ (l : List ℕ). Begins (Some (Text text)) l behind) (sym same) (begins_national text behind stopped)
]
begins_lexeme (Sign sign) units behind spelled stopped = begins_sign sign units behind spelled stopped

-- a part is read as that part, whatever stands behind it
pub begins : (lexeme : Option Lexeme) (units behind : List ℕ) → IsPart lexeme units behind → Begins lexeme units behind
begins None units behind is = elim is [
  | inl blanks ↦ begins_blanks units behind blanks
  | inr comment ↦ elim comment [ inl line ↦ begins_line_comment units behind line | inr nested ↦ begins_comment units behind nested ]
]
begins (Some lexeme) units behind is = begins_lexeme lexeme units behind is.spelled is.ended
