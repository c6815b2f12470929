-- What declarations are read as is not much longer than they are: each lexeme has a unit, and is read as at most fourteen more.
use Rattle.std.proofs.Common.{◌≡◌, ℤ, pos, ℕ, ◌+◌, ◌-◌, ◌*◌, ◌≤◌, ◌&&◌, Bool, true, false, if◌then◌else◌, Option, None, Some, List, [], ◌∷◌, ◌++◌, length, map, drop, codes, min, refl, sym, ap, ◌∙◌, subst, arith, length-append, length-drop, length-take}
use Rattle.std.specs.Prelude.{int_le}
use Rattle.value_types.specs.Units.{same_units}
use Rattle.tsql_lexer.specs.declared.lexeme.Lexeme.{Lexeme}
use Rattle.tsql_lexer.specs.declared.lexeme.Lexeme.TheVariants.{Word, Quoted, Variable, SystemName, Number, Text, Sign}
use Rattle.tsql_lexer.specs.declared.lexeme.Spanned.{Spanned}
use Rattle.tsql_lexer.specs.Parts.{Part, IsPart, text_of, AreParts, line_behind, span_behind, spans_behind}
use Rattle.tsql_lexer.proofs.Begins.{begins}
use Rattle.tsql_lexer.proofs.Whole.{text_lexes}
use Rattle.tsql_grammar.specs.Trees.{slice}
use Rattle.tsql_grammar.specs.Words.{capital}
use Rattle.batch_meaning.specs.Drivers.{declared_as, declared_from, is_open, longest_for, number_for, or_own, stands_for, type_for}

-- ---- what a lexeme is read as

-- it has at most fourteen units, if there is one
abbrev Few : Option (List ℕ) → Type 0
Few None = Unit {0}
Few (Some text) = length text ≤ 14

some_few : (text : List ℕ) → length text ≤ 14 → Few (Some text)
some_few text few = few

few_if : (test : Bool) (one other : Option (List ℕ)) → Few one → Few other → Few (if test then one else other)
few_if true one other first second = first
few_if false one other first second = second

type_few : (word : List ℕ) → Few (type_for word)
type_few word =
    few_if (same_units (codes "VARCHAR") word) _ _ (some_few (codes "NVARCHAR") (omega arith))
    (few_if (same_units (codes "CHAR") word) _ _ (some_few (codes "NVARCHAR") (omega arith))
    (few_if (same_units (codes "NCHAR") word) _ _ (some_few (codes "NVARCHAR") (omega arith))
    (few_if (same_units (codes "TEXT") word) _ _ (some_few (codes "NVARCHAR(4000)") (omega arith))
    (few_if (same_units (codes "NTEXT") word) _ _ (some_few (codes "NVARCHAR(4000)") (omega arith)) tt))))

longest_few : (word : List ℕ) → Few (longest_for word)
longest_few word = few_if (same_units (codes "MAX") word) _ _ (some_few (codes "4000") (omega arith)) tt

number_few : (number : ℤ) → Few (number_for number)
number_few number = few_if (int_le (pos 4001) number && int_le number (pos 8000)) _ _ (some_few (codes "4000") (omega arith)) tt

lexeme_few : (opened : Bool) (lexeme : Lexeme) → Few (stands_for opened lexeme)
lexeme_few true (Word word) = longest_few (map capital word)
lexeme_few true (Number number) = number_few number
lexeme_few true (Quoted name) = tt
lexeme_few true (Variable name) = tt
lexeme_few true (SystemName name) = tt
lexeme_few true (Text text) = tt
lexeme_few true (Sign sign) = tt
lexeme_few false (Word word) = type_few (map capital word)
lexeme_few false (Number number) = tt
lexeme_few false (Quoted name) = tt
lexeme_few false (Variable name) = tt
lexeme_few false (SystemName name) = tt
lexeme_few false (Text text) = tt
lexeme_few false (Sign sign) = tt

goes_behind : (start size : ℕ) → start ≤ start + size
goes_behind start size = omega arith

other_few : (own other : ℕ) → other ≤ 14 → other ≤ own + 14
other_few own other few = omega (arith, few)

own_few : (own : List ℕ) (other : Option (List ℕ)) → Few other → length (or_own own other) ≤ length own + 14
own_few own None few = goes_behind (length own) 14
own_few own (Some other) few = other_few (length own) (length other) few

-- ---- slices

module _ (text : List ℕ) (from to : ℕ) where
  slice_size : length (slice text from to) ≡ min (to - from) (length text - from)
  slice_size = length-take (to - from) (drop from text) ∙ ap (min (to - from)) (length-drop from text)

  slice_fits : length (slice text from to) ≤ to - from
  slice_fits = omega (arith, slice_size)

  slice_ends : length (slice text from to) ≤ length text - from
  slice_ends = omega (arith, slice_size)

-- ---- all lexemes

-- what stands in front of a lexeme, what that is read as, and what is behind it
joined_few : (front read rest units others : List ℕ) (own size from start stop : ℕ) → from ≤ start → start ≤ stop → 1 ≤ length units → length front ≤ start - from → length front ≤ size - from
    → own ≤ stop - start → own ≤ size - start → length read ≤ own + 14 → length rest ≤ (size - stop) + 14 * length others → length (front ++ read ++ rest) ≤ (size - from) + 14 * length (units ++ others)
joined_few front read rest units others own size from start stop here on some front_fits front_ends own_fits own_ends few behind =
    omega (arith, length-append (front ++ read) rest, length-append front read, length-append units others)

-- what is no lexeme adds nothing
none_more : (n most : ℕ) (units others : List ℕ) → n ≤ most + 14 * length others → n ≤ most + 14 * length (units ++ others)
none_more n most units others few = omega (arith, length-append units others)

-- the end of the text is left
ends_few : (n most : ℕ) (others : List ℕ) → n ≡ most → n ≤ most + 14 * length others
ends_few n most others is = omega (arith, is)

whole_few : (n size parts tail : ℕ) → n ≤ (size - 0) + 14 * parts → size ≡ parts + tail → n ≤ 15 * size
whole_few n size parts tail few is = omega (arith, few, is)

module _ (text : List ℕ) where
  from_none : (at : ℕ) (opened : Bool) → length (declared_from text at opened []) ≡ length text - at
  unfolding declared_from
  from_none at opened = length-drop at text

  from_first : (at : ℕ) (opened : Bool) (l : Spanned) (rest : List Spanned)
      → declared_from text at opened (l ∷ rest) ≡ slice text at l.start ++ or_own (slice text l.start l.end) (stands_for opened l.lexeme) ++ declared_from text l.end (is_open l.lexeme) rest
  unfolding declared_from
  from_first at opened l rest = refl

  -- a lexeme of these units
  first_few : (at : ℕ) (opened : Bool) (l : Spanned) (rest : List Spanned) (units others : List ℕ) → at ≤ l.start → l.start ≤ l.end → 1 ≤ length units
      → length (declared_from text l.end (is_open l.lexeme) rest) ≤ (length text - l.end) + 14 * length others → length (declared_from text at opened (l ∷ rest)) ≤ (length text - at) + 14 * length (units ++ others)
  first_few at opened l rest units others here on some behind =
      subst (λ (read : List ℕ). length read ≤ (length text - at) + 14 * length (units ++ others)) (sym (from_first at opened l rest))
      (joined_few (slice text at l.start) (or_own (slice text l.start l.end) (stands_for opened l.lexeme)) (declared_from text l.end (is_open l.lexeme) rest) units others (length (slice text l.start l.end)) (length text) at l.start l.end here on some
      (slice_fits text at l.start) (slice_ends text at l.start) (slice_fits text l.start l.end) (slice_ends text l.start l.end) (own_few (slice text l.start l.end) (stands_for opened l.lexeme) (lexeme_few opened l.lexeme)) behind)

  parts_few : (parts : List Part) (tail before : List ℕ) (at : ℕ) (opened : Bool) → AreParts parts tail → at ≤ length before
      → length (declared_from text at opened (spans_behind before parts)) ≤ (length text - at) + 14 * length (text_of parts)
  parts_few [] tail before at opened are here = ends_few (length (declared_from text at opened [])) (length text - at) (text_of []) (from_none at opened)
  parts_few (part ∷ parts) tail before at opened are here = by_part part.lexeme are.0 (λ from opened behind. parts_few parts tail (before ++ part.units) from opened are.1 behind)
    where
      by_part : (lexeme : Option Lexeme) → IsPart lexeme part.units (text_of parts ++ tail)
          → ((from : ℕ) (opened : Bool) → from ≤ length (before ++ part.units) → length (declared_from text from opened (spans_behind (before ++ part.units) parts)) ≤ (length text - from) + 14 * length (text_of parts))
          → length (declared_from text at opened (span_behind before part.units lexeme ++ spans_behind (before ++ part.units) parts)) ≤ (length text - at) + 14 * length (part.units ++ text_of parts)
      by_part None is others = none_more _ (length text - at) part.units (text_of parts) (others at opened (omega (arith, here, length-append before part.units)))
      by_part (Some lexeme) is others =
          first_few at opened (record { lexeme = lexeme; start = length before; end = length before + length part.units; line = line_behind before }) (spans_behind (before ++ part.units) parts) part.units (text_of parts)
          here (goes_behind (length before) (length part.units)) (begins (Some lexeme) part.units (text_of parts ++ tail) is).0
          (others (length before + length part.units) (is_open lexeme) (omega (arith, length-append before part.units)))

pub declared_few : (text : List ℕ) → length (declared_as text) ≤ 15 * length text
declared_few text =
    let lexes = text_lexes text in
    subst (λ (lexemes : List Spanned). length (declared_from text 0 false lexemes) ≤ 15 * length text) (sym lexes.spans)
    (whole_few _ (length text) (length (text_of lexes.parts)) (length lexes.tail) (parts_few text lexes.parts lexes.tail [] 0 false lexes.right (omega arith)) (ap length lexes.joined ∙ length-append (text_of lexes.parts) lexes.tail))
