-- What is read at the front of a text is a part of it, or names the rule that fails there.
use Rattle.std.proofs.Common.{◌≡◌, ℕ, pos, suc, ◌+◌, ◌<◌, Bool, true, false, cond, not, ◌&&◌, ◌||◌, eqb, ◌==◌, nat_eq, nat_lt, nat_le, Option, None, Some, List, [], ◌∷◌, ◌++◌, length, take, drop, slice_index, codes, inl, inr, refl, sym, ap, subst, ◌∙◌, arith, append_assoc, length-append, true≢false, eqb-true, ne_eqb, leb-true, eq-eqb, is_some}
use Rattle.std.specs.List.{prefix_len, starts_with}
use Rattle.std.proofs.lemmas.Bool.{and_parts}
use Rattle.std.proofs.lemmas.Bool.Decides.{nat_tests}
use Rattle.std.proofs.lemmas.List.{take-append-drop, length-take-le, take_at}
use Rattle.std.proofs.lemmas.List.Folds.{length-prefix_len}
use Rattle.value_types.specs.Units.{same_units}
use Rattle.tsql_lexer.specs.declared.lexeme.Lexeme.{Lexeme}
use Rattle.tsql_lexer.specs.declared.lexeme.Lexeme.TheVariants.{Word, Quoted, Variable, SystemName, Sign}
use Rattle.tsql_lexer.specs.declared.lexeme.Sign.{Sign as SignKind}
use Rattle.tsql_lexer.specs.declared.lexeme.Sign.TheVariants as signs
use Rattle.tsql_lexer.specs.declared.fault.LexKind.TheVariants.{OpenName, NumberTooBig, BadUnit}
use Rattle.tsql_lexer.specs.declared.opening.Opening.{Opening}
use Rattle.tsql_lexer.specs.declared.opening.Opening.TheVariants as opens
use Rattle.tsql_lexer.specs.declared.piece.Piece.{Piece}
use Rattle.tsql_lexer.specs.declared.piece.Piece.TheVariants.{Gap, Lexeme as Token, Flaw as Failure}
use Rattle.tsql_lexer.specs.Classes.{is_blank, is_digit, is_word_start, is_word_unit, stays_in_line}
use Rattle.tsql_lexer.specs.Signs.{sign_spellings}
use Rattle.tsql_lexer.specs.Numbers.{number_value, number_limit}
use Rattle.tsql_lexer.specs.Quotes.{doubled, enclosed}
use Rattle.tsql_lexer.specs.Comments.{more, closing_size, comment_size}
use Rattle.tsql_lexer.specs.Lexemes.{is_name, in_quotes, IsOneOf, goes_on, stops, IsLexeme}
use Rattle.tsql_lexer.specs.Parts.{IsPart, kind_at}
use Rattle.tsql_lexer.specs.Reading.{opening_of, double_sign, single_sign, at_name_piece, number_of, number_by, number_piece, name_by, name_piece, text_by, text_piece, comment_by, comment_piece, token_of, word_piece, sign_by, sign_piece, piece_by, piece_of}
use Rattle.tsql_lexer.proofs.Runs.{run_passes}
use Rattle.tsql_lexer.proofs.Stops.{run_stopped, is_run}
use Rattle.tsql_lexer.proofs.Begins.{digit_bounds}
use Rattle.tsql_lexer.proofs.CommentLaws.{closing_take}
use Rattle.tsql_lexer.proofs.Openings.{Says, says, IsOther}
use Rattle.tsql_lexer.proofs.Sizes.{SizeWithin, and_false, closing_within, run_begins, double_second}
use Rattle.tsql_lexer.proofs.QuoteLaws.{Spelled, enclosed_spells}

-- the text begins with this part
pub record Stands (text : List ℕ) (lexeme : Option Lexeme) (size : ℕ) : Type 0 where
  pub units : List ℕ
  pub behind : List ℕ
  pub joined : text ≡ units ++ behind
  pub size_is : size ≡ length units
  pub is : IsPart lexeme units behind

-- the piece is a part that begins the text, or the rule that fails
abbrev pub Found : List ℕ → Piece → Type 0
Found text (Gap size) = Stands text None size
Found text (Token lexeme size) = Stands text (Some lexeme) size
Found text (Failure kind) = kind ≡ kind_at text

-- ---- the first units of a text

first_unit : (text : List ℕ) (a : ℕ) → 0 < length text → slice_index text 0 ≡ a → text ≡ a ∷ drop 1 text
first_unit [] a some is = absurd (omega arith)
first_unit (unit ∷ units) a some is = ap (λ (n : ℕ). n ∷ units) is

first_two : (text : List ℕ) (a b : ℕ) → 1 < length text → slice_index text 0 ≡ a → slice_index text 1 ≡ b → text ≡ a ∷ b ∷ drop 2 text
first_two [] a b some is next_is = absurd (omega arith)
first_two (unit ∷ []) a b some is next_is = absurd (omega arith)
first_two (unit ∷ next ∷ units) a b some is next_is = ap (λ (n : ℕ). n ∷ next ∷ units) is ∙ ap (λ (n : ℕ). a ∷ n ∷ units) next_is

run_length : (test : ℕ → Bool) (text : List ℕ) → length (take (prefix_len test text) text) ≡ prefix_len test text
run_length test text = length-prefix_len test text

-- ---- blanks and comments

found_blanks : (text : List ℕ) → 0 < length text → is_blank (slice_index text 0) ≡ true → Stands text None (prefix_len is_blank text)
found_blanks text some first = record {
  units = take (prefix_len is_blank text) text;
  behind = drop (prefix_len is_blank text) text;
  joined = sym (take-append-drop (prefix_len is_blank text) text);
  size_is = sym (run_length is_blank text);
  is = inl (is_run is_blank (take (prefix_len is_blank text) text) (omega (arith, run_length is_blank text, run_begins is_blank text some first)) (run_passes is_blank text), run_stopped is_blank text);
}

found_line_comment : (units : List ℕ) → Stands (0x2D ∷ 0x2D ∷ units) None (prefix_len stays_in_line (0x2D ∷ 0x2D ∷ units))
found_line_comment units = record {
  units = 0x2D ∷ 0x2D ∷ take (prefix_len stays_in_line units) units;
  behind = drop (prefix_len stays_in_line units) units;
  joined = ap (λ (l : List ℕ). 0x2D ∷ 0x2D ∷ l) (sym (take-append-drop (prefix_len stays_in_line units) units));
  size_is = omega (arith, run_length stays_in_line units);
  is = inr (inl (take (prefix_len stays_in_line units) units, refl, run_passes stays_in_line units, run_stopped stays_in_line units));
}

found_comment : (units : List ℕ) → Found (0x2F ∷ 0x2A ∷ units) (comment_by (comment_size (0x2F ∷ 0x2A ∷ units)))
unfolding closing_size
found_comment units = by (closing_size units 1) refl (closing_within units 1)
  where
    by : (size : Option ℕ) → closing_size units 1 ≡ size → SizeWithin (length units) size → Found (0x2F ∷ 0x2A ∷ units) (comment_by (more 2 size))
    by None is within = refl
    by (Some size) is within = record {
      units = 0x2F ∷ 0x2A ∷ take size units;
      behind = drop size units;
      joined = ap (λ (l : List ℕ). 0x2F ∷ 0x2A ∷ l) (sym (take-append-drop size units));
      size_is = omega (arith, length-take-le size units within.1);
      is = inr (inr (take size units, refl, ap (more 2) (closing_take units 1 size is) ∙ ap (λ (n : ℕ). Some n) (omega (arith, length-take-le size units within.1))));
    }

-- ---- numbers

-- a first unit that is none of those that the text would begin with
starts_other : (unit other : ℕ) (units rest : List ℕ) → eqb unit other ≡ false → starts_with nat_eq (unit ∷ units) (other ∷ rest) ≡ false
starts_other unit other units rest differs = rw (ne_eqb other unit (λ same. true≢false (sym (eq-eqb unit other (sym same)) ∙ differs))) refl

digit_kind : (unit : ℕ) (units : List ℕ) → is_digit unit ≡ true → NumberTooBig ≡ kind_at (unit ∷ units)
digit_kind unit units digit =
    let bounds = digit_bounds unit digit in
    rw (
      starts_other unit 0x2F units (codes "*") (ne_eqb unit 0x2F (omega (arith, bounds.0))),
      starts_other unit 0x27 units [] (ne_eqb unit 0x27 (omega (arith, bounds.0))),
      starts_other unit 0x4E units (codes "'") (ne_eqb unit 0x4E (omega (arith, bounds.1))),
      starts_other unit 0x5B units [] (ne_eqb unit 0x5B (omega (arith, bounds.1))),
      starts_other unit 0x22 units [] (ne_eqb unit 0x22 (omega (arith, bounds.0))),
      digit,
    ) refl

found_number : (unit : ℕ) (units : List ℕ) → is_digit unit ≡ true → Found (unit ∷ units) (number_piece (unit ∷ units))
unfolding number_piece number_of
found_number unit units digit = by (nat_le (number_value (take (prefix_len is_digit (unit ∷ units)) (unit ∷ units))) number_limit) refl
  where
    by : (fits : Bool) → nat_le (number_value (take (prefix_len is_digit (unit ∷ units)) (unit ∷ units))) number_limit ≡ fits
        → Found (unit ∷ units) (number_by (cond fits (Some (pos (number_value (take (prefix_len is_digit (unit ∷ units)) (unit ∷ units))))) None) (prefix_len is_digit (unit ∷ units)))
    by true is = record {
      units = take (prefix_len is_digit (unit ∷ units)) (unit ∷ units);
      behind = drop (prefix_len is_digit (unit ∷ units)) (unit ∷ units);
      joined = sym (take-append-drop (prefix_len is_digit (unit ∷ units)) (unit ∷ units));
      size_is = sym (run_length is_digit (unit ∷ units));
      is = record {
        spelled = (
          is_run is_digit (take (prefix_len is_digit (unit ∷ units)) (unit ∷ units)) (omega (arith, run_length is_digit (unit ∷ units), run_begins is_digit (unit ∷ units) (omega arith) digit)) (run_passes is_digit (unit ∷ units)),
          leb-true _ _ is,
          refl,
        );
        ended = run_stopped is_digit (unit ∷ units);
      };
    }
    by false is = digit_kind unit units digit

-- ---- between quotes

found_bracket : (units : List ℕ) → Found (0x5B ∷ units) (name_by (enclosed 0x5D units))
found_bracket units = by (enclosed 0x5D units) (λ name size read. enclosed_spells 0x5D units name size read)
  where
    by : (read : Option (List ℕ × ℕ)) → ((name : List ℕ) (size : ℕ) → read ≡ Some (name, size) → Spelled 0x5D units name size) → Found (0x5B ∷ units) (name_by read)
    by None spells = refl
    by (Some read) spells = judged (is_name read.0) refl (spells read.0 read.1 refl)
      where
        judged : (good : Bool) → is_name read.0 ≡ good → Spelled 0x5D units read.0 read.1 → Found (0x5B ∷ units) (cond good (Token (Quoted read.0) (read.1 + 1)) (Failure OpenName))
        judged true good spelled = record {
          units = in_quotes (codes "[") 0x5D read.0;
          behind = spelled.behind;
          joined = ap (λ (l : List ℕ). 0x5B ∷ l) (spelled.joined ∙ sym (append_assoc (doubled 0x5D read.0) (0x5D ∷ []) spelled.behind));
          size_is = omega (arith, spelled.size_is, length-append (doubled 0x5D read.0) (0x5D ∷ []));
          is = record { spelled = (good, inl refl); ended = spelled.stopped };
        }
        judged false good spelled = refl

found_double_quote : (units : List ℕ) → Found (0x22 ∷ units) (name_by (enclosed 0x22 units))
found_double_quote units = by (enclosed 0x22 units) (λ name size read. enclosed_spells 0x22 units name size read)
  where
    by : (read : Option (List ℕ × ℕ)) → ((name : List ℕ) (size : ℕ) → read ≡ Some (name, size) → Spelled 0x22 units name size) → Found (0x22 ∷ units) (name_by read)
    by None spells = refl
    by (Some read) spells = judged (is_name read.0) refl (spells read.0 read.1 refl)
      where
        judged : (good : Bool) → is_name read.0 ≡ good → Spelled 0x22 units read.0 read.1 → Found (0x22 ∷ units) (cond good (Token (Quoted read.0) (read.1 + 1)) (Failure OpenName))
        judged true good spelled = record {
          units = in_quotes (codes "\"") 0x22 read.0;
          behind = spelled.behind;
          joined = ap (λ (l : List ℕ). 0x22 ∷ l) (spelled.joined ∙ sym (append_assoc (doubled 0x22 read.0) (0x22 ∷ []) spelled.behind));
          size_is = omega (arith, spelled.size_is, length-append (doubled 0x22 read.0) (0x22 ∷ []));
          is = record { spelled = (good, inr refl); ended = spelled.stopped };
        }
        judged false good spelled = refl

found_text : (units : List ℕ) → Found (0x27 ∷ units) (text_by 1 (enclosed 0x27 units))
found_text units = by (enclosed 0x27 units) (λ text size read. enclosed_spells 0x27 units text size read)
  where
    by : (read : Option (List ℕ × ℕ)) → ((text : List ℕ) (size : ℕ) → read ≡ Some (text, size) → Spelled 0x27 units text size) → Found (0x27 ∷ units) (text_by 1 read)
    by None spells = refl
    by (Some read) spells = let spelled = spells read.0 read.1 refl in record {
      units = in_quotes (codes "'") 0x27 read.0;
      behind = spelled.behind;
      joined = ap (λ (l : List ℕ). 0x27 ∷ l) (spelled.joined ∙ sym (append_assoc (doubled 0x27 read.0) (0x27 ∷ []) spelled.behind));
      size_is = omega (arith, spelled.size_is, length-append (doubled 0x27 read.0) (0x27 ∷ []));
      is = record { spelled = inl refl; ended = spelled.stopped };
    }

found_national : (units : List ℕ) → Found (0x4E ∷ 0x27 ∷ units) (text_by 2 (enclosed 0x27 units))
found_national units = by (enclosed 0x27 units) (λ text size read. enclosed_spells 0x27 units text size read)
  where
    by : (read : Option (List ℕ × ℕ)) → ((text : List ℕ) (size : ℕ) → read ≡ Some (text, size) → Spelled 0x27 units text size) → Found (0x4E ∷ 0x27 ∷ units) (text_by 2 read)
    by None spells = refl
    by (Some read) spells = let spelled = spells read.0 read.1 refl in record {
      units = in_quotes (codes "N'") 0x27 read.0;
      behind = spelled.behind;
      joined = ap (λ (l : List ℕ). 0x4E ∷ 0x27 ∷ l) (spelled.joined ∙ sym (append_assoc (doubled 0x27 read.0) (0x27 ∷ []) spelled.behind));
      size_is = omega (arith, spelled.size_is, length-append (doubled 0x27 read.0) (0x27 ∷ []));
      is = record { spelled = inr refl; ended = spelled.stopped };
    }

-- ---- names of word units

-- a lexeme that holds its units
found_name : (make : List ℕ → Lexeme) (size : ℕ) (text units behind : List ℕ) → text ≡ units ++ behind → size ≡ length units → IsLexeme units behind (make units) → Stands text (Some (make (take size text))) size
found_name make size text units behind joined size_is is =
    let taken : take size text ≡ units = ap (take size) joined ∙ take_at units behind size (sym size_is) in
    record {
      units = units;
      behind = behind;
      joined = joined;
      size_is = size_is;
      is = subst (λ (l : List ℕ). IsLexeme units behind (make l)) (sym taken) is;
    }

found_variable : (units : List ℕ) → eqb (slice_index (0x40 ∷ units) 1) 0x40 ≡ false → Found (0x40 ∷ units) (at_name_piece Variable 2 (0x40 ∷ units))
unfolding at_name_piece
found_variable [] other = refl
found_variable (unit ∷ units) other = by (is_word_unit unit) refl
  where
    by : (b : Bool) → is_word_unit unit ≡ b → Found (0x40 ∷ unit ∷ units) (cond (nat_lt (1 + cond b (1 + prefix_len is_word_unit units) 0) 2) (Failure BadUnit) (token_of Variable (1 + cond b (1 + prefix_len is_word_unit units) 0) (0x40 ∷ unit ∷ units)))
    by false is = refl
    by true is =
        let enough : nat_lt (1 + (1 + prefix_len is_word_unit units)) 2 ≡ false = grind (arith, nat_tests) in
        rw enough (found_name Variable (1 + (1 + prefix_len is_word_unit units)) (0x40 ∷ unit ∷ units) (0x40 ∷ unit ∷ take (prefix_len is_word_unit units) units) (drop (prefix_len is_word_unit units) units)
        (ap (λ (l : List ℕ). 0x40 ∷ unit ∷ l) (sym (take-append-drop (prefix_len is_word_unit units) units)))
        (omega (arith, run_length is_word_unit units))
        (record { spelled = (refl, (unit, take (prefix_len is_word_unit units) units, refl, (is, run_passes is_word_unit units), rw other refl)); ended = run_stopped is_word_unit units }))

found_system_name : (units : List ℕ) → Found (0x40 ∷ 0x40 ∷ units) (at_name_piece SystemName 3 (0x40 ∷ 0x40 ∷ units))
unfolding at_name_piece
found_system_name [] = refl
found_system_name (unit ∷ units) = by (is_word_unit unit) refl
  where
    by : (b : Bool) → is_word_unit unit ≡ b → Found (0x40 ∷ 0x40 ∷ unit ∷ units) (cond (nat_lt (1 + (1 + cond b (1 + prefix_len is_word_unit units) 0)) 3) (Failure BadUnit) (token_of SystemName (1 + (1 + cond b (1 + prefix_len is_word_unit units) 0)) (0x40 ∷ 0x40 ∷ unit ∷ units)))
    by false is = refl
    by true is =
        let enough : nat_lt (1 + (1 + (1 + prefix_len is_word_unit units))) 3 ≡ false = grind (arith, nat_tests) in
        rw enough (found_name SystemName (1 + (1 + (1 + prefix_len is_word_unit units))) (0x40 ∷ 0x40 ∷ unit ∷ units) (0x40 ∷ 0x40 ∷ unit ∷ take (prefix_len is_word_unit units) units) (drop (prefix_len is_word_unit units) units)
        (ap (λ (l : List ℕ). 0x40 ∷ 0x40 ∷ unit ∷ l) (sym (take-append-drop (prefix_len is_word_unit units) units)))
        (omega (arith, run_length is_word_unit units))
        (record { spelled = (refl, (unit ∷ take (prefix_len is_word_unit units) units, refl, (is, run_passes is_word_unit units))); ended = run_stopped is_word_unit units }))

-- what stops a test stops it beside one that nothing passes
stops_both : (first second : ℕ → Bool) (behind : List ℕ) → stops first behind ≡ true → ((n : ℕ) → second n ≡ false) → stops (λ n. first n || second n) behind ≡ true
stops_both first second [] stopped never = refl
stops_both first second (next ∷ behind) stopped never = rw (never next) (by (first next) stopped)
  where
    by : (a : Bool) → not a ≡ true → not (a || false) ≡ true
    by true stopped = stopped
    by false stopped = refl

no_more : (word national quote : Bool) → word ≡ false → (national && quote) ≡ false → not (word || ((national && true) && quote)) ≡ true
no_more true national quote stopped other = absurd (true≢false stopped)
no_more false true true stopped other = absurd (true≢false other)
no_more false true false stopped other = refl
no_more false false quote stopped other = refl

and_false_and : (a b : Bool) → ((a && false) && b) ≡ false
and_false_and true b = refl
and_false_and false b = refl

word_ended : (unit : ℕ) (units : List ℕ) → (eqb unit 0x4E && eqb (slice_index (unit ∷ units) 1) 0x27) ≡ false
    → stops (λ next. is_word_unit next || (same_units (unit ∷ take (prefix_len is_word_unit units) units) (codes "N") && next == 0x27)) (drop (prefix_len is_word_unit units) units) ≡ true
word_ended unit [] other = refl
word_ended unit (next ∷ units) other = by (is_word_unit next) refl
  where
    by : (b : Bool) → is_word_unit next ≡ b
        → stops (λ n. is_word_unit n || (same_units (unit ∷ take (cond b (1 + prefix_len is_word_unit units) 0) (next ∷ units)) (codes "N") && n == 0x27)) (drop (cond b (1 + prefix_len is_word_unit units) 0) (next ∷ units)) ≡ true
    by false is = no_more (is_word_unit next) (eqb unit 0x4E) (eqb next 0x27) is other
    by true is =
        let one : suc (prefix_len is_word_unit units) ≡ 1 + prefix_len is_word_unit units = omega arith in
        subst (λ (size : ℕ). stops (λ n. is_word_unit n || (same_units (unit ∷ take size (next ∷ units)) (codes "N") && n == 0x27)) (drop size (next ∷ units)) ≡ true) one
        (stops_both is_word_unit (λ n. (eqb unit 0x4E && false) && n == 0x27) (drop (prefix_len is_word_unit units) units) (run_stopped is_word_unit units) (λ n. and_false_and (eqb unit 0x4E) (eqb n 0x27)))

found_word : (unit : ℕ) (units : List ℕ) → is_word_start unit ≡ true → (eqb unit 0x4E && eqb (slice_index (unit ∷ units) 1) 0x27) ≡ false → Found (unit ∷ units) (word_piece (unit ∷ units))
found_word unit units starts other =
    let passes : is_word_unit unit ≡ true = rw starts refl in
    let size : prefix_len is_word_unit (unit ∷ units) ≡ length (unit ∷ take (prefix_len is_word_unit units) units) = rw passes (omega (arith, run_length is_word_unit units)) in
    found_name Word (prefix_len is_word_unit (unit ∷ units)) (unit ∷ units) (unit ∷ take (prefix_len is_word_unit units) units) (drop (prefix_len is_word_unit units) units)
    (ap (λ (l : List ℕ). unit ∷ l) (sym (take-append-drop (prefix_len is_word_unit units) units)))
    size
    (record { spelled = (refl, (starts, run_passes is_word_unit units)); ended = word_ended unit units other })

-- ---- signs

pick : (P : Option SignKind → Type 0) (test : Bool) (a b : Option SignKind) → (test ≡ true → P a) → (test ≡ false → P b) → P (cond test a b)
pick P true a b passed failed = passed refl
pick P false a b passed failed = failed refl

at_pair : (P : ℕ → ℕ → Type 0) (first second a b : ℕ) → (eqb first a && eqb second b) ≡ true → P a b → P first second
at_pair P first second a b is holds =
    let parts = and_parts (eqb first a) (eqb second b) is in
    subst (λ (n : ℕ). P n second) (sym (eqb-true first a parts.0)) (subst (P a) (sym (eqb-true second b parts.1)) holds)

at_one : (P : ℕ → Type 0) (first a : ℕ) → eqb first a ≡ true → P a → P first
at_one P first a is holds = subst P (sym (eqb-true first a is)) holds

-- the two units are no sign of two units
record NoDouble (first second : ℕ) : Type 0 where
  unequal : (eqb first 0x3C && eqb second 0x3E) ≡ false
  less : (eqb first 0x3C && eqb second 0x3D) ≡ false
  greater : (eqb first 0x3E && eqb second 0x3D) ≡ false

-- the two units spell the sign, and nothing goes on with it
abbrev SpellsDouble : SignKind → ℕ → ℕ → Type 0
SpellsDouble sign first second = IsOneOf (sign_spellings sign) (first ∷ second ∷ []) × ((next : ℕ) → goes_on (Sign sign) (first ∷ second ∷ []) next ≡ false)

abbrev DoubleSays : ℕ → ℕ → Option SignKind → Type 0
DoubleSays first second None = NoDouble first second
DoubleSays first second (Some sign) = SpellsDouble sign first second

double_says : (first second : ℕ) → DoubleSays first second (double_sign first second)
unfolding double_sign
double_says first second = let P = λ (s : Option SignKind). DoubleSays first second s in
    pick P _ _ _ (λ is. at_pair (SpellsDouble signs.NotEqual) first second 0x3C 0x3E is (inl refl, λ next. refl)) (λ unequal.
    pick P _ _ _ (λ is. at_pair (SpellsDouble signs.NotEqual) first second 0x21 0x3D is (inr (inl refl), λ next. refl)) (λ exclaimed.
    pick P _ _ _ (λ is. at_pair (SpellsDouble signs.LessEqual) first second 0x3C 0x3D is (inl refl, λ next. refl)) (λ less.
    pick P _ _ _ (λ is. at_pair (SpellsDouble signs.GreaterEqual) first second 0x3E 0x3D is (inl refl, λ next. refl)) (λ greater.
    record { unequal = unequal; less = less; greater = greater }))))

abbrev SingleSays : ℕ → Option SignKind → Type 0
SingleSays first None = Unit {0}
SingleSays first (Some sign) = IsOneOf (sign_spellings sign) (first ∷ [])

abbrev SpellsSingle : SignKind → ℕ → Type 0
SpellsSingle sign first = IsOneOf (sign_spellings sign) (first ∷ [])

single_says : (unit : ℕ) → SingleSays unit (single_sign unit)
unfolding single_sign
single_says unit = let P = λ (s : Option SignKind). SingleSays unit s in
    pick P _ _ _ (λ is. at_one (SpellsSingle signs.Open) unit 0x28 is (inl refl)) (λ n1.
    pick P _ _ _ (λ is. at_one (SpellsSingle signs.Close) unit 0x29 is (inl refl)) (λ n2.
    pick P _ _ _ (λ is. at_one (SpellsSingle signs.Comma) unit 0x2C is (inl refl)) (λ n3.
    pick P _ _ _ (λ is. at_one (SpellsSingle signs.Dot) unit 0x2E is (inl refl)) (λ n4.
    pick P _ _ _ (λ is. at_one (SpellsSingle signs.Semicolon) unit 0x3B is (inl refl)) (λ n5.
    pick P _ _ _ (λ is. at_one (SpellsSingle signs.Plus) unit 0x2B is (inl refl)) (λ n6.
    pick P _ _ _ (λ is. at_one (SpellsSingle signs.Minus) unit 0x2D is (inl refl)) (λ n7.
    pick P _ _ _ (λ is. at_one (SpellsSingle signs.Star) unit 0x2A is (inl refl)) (λ n8.
    pick P _ _ _ (λ is. at_one (SpellsSingle signs.Slash) unit 0x2F is (inl refl)) (λ n9.
    pick P _ _ _ (λ is. at_one (SpellsSingle signs.Percent) unit 0x25 is (inl refl)) (λ n10.
    pick P _ _ _ (λ is. at_one (SpellsSingle signs.Equal) unit 0x3D is (inl refl)) (λ n11.
    pick P _ _ _ (λ is. at_one (SpellsSingle signs.Less) unit 0x3C is (inl refl)) (λ n12.
    pick P _ _ _ (λ is. at_one (SpellsSingle signs.Greater) unit 0x3E is (inl refl)) (λ n13. tt)))))))))))))

-- a test of two units, as texts are compared
as_text : (a b : Bool) → (a && b) ≡ false → (a && (b && true)) ≡ false
as_text true true other = absurd (true≢false other)
as_text true false other = refl
as_text false b other = refl

swap_eqb : (a b : ℕ) → eqb a b ≡ eqb b a
swap_eqb a b = grind (arith, nat_tests)

-- nothing that the rules know begins with these units
other_kind : (first second : ℕ) (units : List ℕ) → IsOther first second → BadUnit ≡ kind_at (first ∷ second ∷ units)
other_kind first second units other =
    let comment : starts_with nat_eq (first ∷ second ∷ units) (codes "/*") ≡ false = as_text (eqb 0x2F first) (eqb 0x2A second) (rw (swap_eqb 0x2F first, swap_eqb 0x2A second) other.comment) in
    let national : starts_with nat_eq (first ∷ second ∷ units) (codes "N'") ≡ false = as_text (eqb 0x4E first) (eqb 0x27 second) (rw (swap_eqb 0x4E first, swap_eqb 0x27 second) other.national) in
    rw (comment, starts_other first 0x27 (second ∷ units) [] other.quote, national, starts_other first 0x5B (second ∷ units) [] other.bracket, starts_other first 0x22 (second ∷ units) [] other.double_quote, other.digit) refl

other_last : (first : ℕ) → IsOther first 0 → BadUnit ≡ kind_at (first ∷ [])
other_last first other =
    let comment : starts_with nat_eq (first ∷ []) (codes "/*") ≡ false = and_false (eqb 0x2F first) in
    let national : starts_with nat_eq (first ∷ []) (codes "N'") ≡ false = and_false (eqb 0x4E first) in
    rw (comment, starts_other first 0x27 [] [] other.quote, national, starts_other first 0x5B [] [] other.bracket, starts_other first 0x22 [] [] other.double_quote, other.digit) refl

found_last : (first : ℕ) → IsOther first 0 → Found (first ∷ []) (sign_piece first 0)
unfolding sign_piece
found_last first other = by (double_sign first 0) (single_sign first) (double_second first 0) (single_says first)
  where
    by : (double single : Option SignKind) → (is_some double ≡ true → 0 < 0) → SingleSays first single → Found (first ∷ []) (sign_by double single)
    by (Some sign) single some spelled = absurd (omega (arith, some refl))
    by None (Some sign) some spelled = record { units = first ∷ []; behind = []; joined = refl; size_is = refl; is = record { spelled = spelled; ended = refl } }
    by None None some spelled = other_last first other

found_sign : (first second : ℕ) (units : List ℕ) → IsOther first second → Found (first ∷ second ∷ units) (sign_piece first second)
unfolding sign_piece
found_sign first second units other = by (double_sign first second) (single_sign first) (double_says first second) (single_says first)
  where
    ended_by : (sign : SignKind) (behind : List ℕ) → ((next : ℕ) → goes_on (Sign sign) (first ∷ second ∷ []) next ≡ false) → stops (goes_on (Sign sign) (first ∷ second ∷ [])) behind ≡ true
    ended_by sign [] never = refl
    ended_by sign (next ∷ behind) never = ap not (never next)

    by : (double single : Option SignKind) → DoubleSays first second double → SingleSays first single → Found (first ∷ second ∷ units) (sign_by double single)
    by (Some sign) single double_is single_is = record { units = first ∷ second ∷ []; behind = units; joined = refl; size_is = refl; is = record { spelled = double_is.0; ended = ended_by sign units double_is.1 } }
    by None (Some sign) double_is single_is = record { units = first ∷ []; behind = second ∷ units; joined = refl; size_is = refl; is = record { spelled = single_is; ended = rw (as_text _ _ double_is.unequal, as_text _ _ double_is.less, as_text _ _ double_is.greater, as_text _ _ other.dashes, as_text _ _ other.comment) refl } }
    by None None double_is single_is = other_kind first second units other

-- ---- every piece

found_by : (opening : Opening) (text : List ℕ) → 0 < length text → opening_of (slice_index text 0) (slice_index text 1) ≡ opening → Says opening (slice_index text 0) (slice_index text 1) → Found text (piece_by opening text)
unfolding piece_by name_piece text_piece comment_piece
found_by opening [] some is said = absurd (omega arith)
found_by opens.Blank (unit ∷ units) some is said = found_blanks (unit ∷ units) some said
found_by opens.LineComment (unit ∷ []) some is said = absurd (true≢false (sym said ∙ and_false (eqb unit 0x2D)))
found_by opens.LineComment (unit ∷ next ∷ units) some is said = at_pair (λ a b. Found (a ∷ b ∷ units) (Gap (prefix_len stays_in_line (a ∷ b ∷ units)))) unit next 0x2D 0x2D said (found_line_comment units)
found_by opens.Comment (unit ∷ []) some is said = absurd (true≢false (sym said ∙ and_false (eqb unit 0x2F)))
found_by opens.Comment (unit ∷ next ∷ units) some is said = at_pair (λ a b. Found (a ∷ b ∷ units) (comment_by (comment_size (a ∷ b ∷ units)))) unit next 0x2F 0x2A said (found_comment units)
found_by opens.Word (unit ∷ units) some is said = found_word unit units said.0 said.1
found_by opens.Number (unit ∷ units) some is said = found_number unit units said
found_by opens.Bracket (unit ∷ units) some is said = at_one (λ a. Found (a ∷ units) (name_by (enclosed 0x5D units))) unit 0x5B said (found_bracket units)
found_by opens.DoubleQuote (unit ∷ units) some is said = at_one (λ a. Found (a ∷ units) (name_by (enclosed 0x22 units))) unit 0x22 said (found_double_quote units)
found_by opens.Variable (unit ∷ units) some is said =
    at_one (λ a. eqb (slice_index (a ∷ units) 1) 0x40 ≡ false → Found (a ∷ units) (at_name_piece Variable 2 (a ∷ units))) unit 0x40 said.0 (found_variable units) (rw said.0 at said.1)
found_by opens.SystemName (unit ∷ []) some is said = absurd (true≢false (sym said ∙ and_false (eqb unit 0x40)))
found_by opens.SystemName (unit ∷ next ∷ units) some is said = at_pair (λ a b. Found (a ∷ b ∷ units) (at_name_piece SystemName 3 (a ∷ b ∷ units))) unit next 0x40 0x40 said (found_system_name units)
found_by opens.Text (unit ∷ units) some is said = at_one (λ a. Found (a ∷ units) (text_by 1 (enclosed 0x27 units))) unit 0x27 said (found_text units)
found_by opens.NationalText (unit ∷ []) some is said = absurd (true≢false (sym said ∙ and_false (eqb unit 0x4E)))
found_by opens.NationalText (unit ∷ next ∷ units) some is said = at_pair (λ a b. Found (a ∷ b ∷ units) (text_by 2 (enclosed 0x27 units))) unit next 0x4E 0x27 said (found_national units)
found_by opens.Sign (unit ∷ []) some is said = found_last unit said
found_by opens.Sign (unit ∷ next ∷ units) some is said = found_sign unit next units said

pub found : (text : List ℕ) → 0 < length text → Found text (piece_of text)
unfolding piece_of
found text some = found_by (opening_of (slice_index text 0) (slice_index text 1)) text some refl (says (slice_index text 0) (slice_index text 1))
