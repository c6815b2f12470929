-- What an opening says of the first two units of its text.
use Rattle.std.proofs.Common.{◌≡◌, ℕ, Bool, true, false, cond, ◌&&◌, eqb, List, length, slice_index, ◌<◌, refl, subst, eqb-true, arith}
use Rattle.std.proofs.lemmas.List.{get_or_past}
use Rattle.std.proofs.lemmas.Bool.{and_parts}
use Rattle.tsql_lexer.specs.declared.opening.Opening.{Opening}
use Rattle.tsql_lexer.specs.declared.opening.Opening.TheVariants as opens
use Rattle.tsql_lexer.specs.Classes.{is_blank, is_digit, is_word_start}
use Rattle.tsql_lexer.specs.Reading.{opening_of}

-- whichever way a test goes
pub either : (P : Opening → Type 0) (test : Bool) (a b : Opening) → (test ≡ true → P a) → (test ≡ false → P b) → P (cond test a b)
either P true a b passed failed = passed refl
either P false a b passed failed = failed refl

-- nothing that begins a part other than a sign
pub record IsOther (first second : ℕ) : Type 0 where
  pub blank : is_blank first ≡ false
  pub dashes : (eqb first 0x2D && eqb second 0x2D) ≡ false
  pub comment : (eqb first 0x2F && eqb second 0x2A) ≡ false
  pub national : (eqb first 0x4E && eqb second 0x27) ≡ false
  pub word : is_word_start first ≡ false
  pub digit : is_digit first ≡ false
  pub bracket : eqb first 0x5B ≡ false
  pub double_quote : eqb first 0x22 ≡ false
  pub quote : eqb first 0x27 ≡ false
  pub at : eqb first 0x40 ≡ false

abbrev pub Says : Opening → ℕ → ℕ → Type 0
Says opens.Blank first second = is_blank first ≡ true
Says opens.LineComment first second = (eqb first 0x2D && eqb second 0x2D) ≡ true
Says opens.Comment first second = (eqb first 0x2F && eqb second 0x2A) ≡ true
Says opens.NationalText first second = (eqb first 0x4E && eqb second 0x27) ≡ true
Says opens.Word first second = (is_word_start first ≡ true) × ((eqb first 0x4E && eqb second 0x27) ≡ false)
Says opens.Number first second = is_digit first ≡ true
Says opens.Bracket first second = eqb first 0x5B ≡ true
Says opens.DoubleQuote first second = eqb first 0x22 ≡ true
Says opens.Text first second = eqb first 0x27 ≡ true
Says opens.SystemName first second = (eqb first 0x40 && eqb second 0x40) ≡ true
Says opens.Variable first second = (eqb first 0x40 ≡ true) × ((eqb first 0x40 && eqb second 0x40) ≡ false)
Says opens.Sign first second = IsOther first second

pub says : (first second : ℕ) → Says (opening_of first second) first second
unfolding opening_of
says first second = let P = λ (o : Opening). Says o first second in
    either P _ _ _ (λ h. h) (λ blank. either P _ _ _ (λ h. h) (λ dashes. either P _ _ _ (λ h. h) (λ comment. either P _ _ _ (λ h. h) (λ national.
    either P _ opens.Word _ (λ h. (h, national)) (λ word. either P _ _ _ (λ h. h) (λ digit. either P _ _ _ (λ h. h) (λ bracket. either P _ _ _ (λ h. h) (λ double_quote.
    either P _ _ _ (λ h. h) (λ quote. either P _ _ _ (λ h. h) (λ at_both. either P _ opens.Variable opens.Sign (λ h. (h, at_both)) (λ at. record {
      blank = blank;
      dashes = dashes;
      comment = comment;
      national = national;
      word = word;
      digit = digit;
      bracket = bracket;
      double_quote = double_quote;
      quote = quote;
      at = at;
    })))))))))))

-- a unit other than 0 stands in the text
pub stands : (text : List ℕ) (place unit : ℕ) → slice_index text place ≡ unit → 0 < unit → place < length text
stands text place unit is some = grind (arith, is, get_or_past text place 0)

-- where `N'` opens a text there are two units
pub two_stand : (text : List ℕ) → opening_of (slice_index text 0) (slice_index text 1) ≡ opens.NationalText → 1 < length text
two_stand text is =
    let said : (eqb (slice_index text 0) 0x4E && eqb (slice_index text 1) 0x27) ≡ true =
    subst (λ (o : Opening). Says o (slice_index text 0) (slice_index text 1)) is (says (slice_index text 0) (slice_index text 1)) in
    stands text 1 0x27 (eqb-true (slice_index text 1) 0x27 (and_parts _ _ said).1) (omega arith)
