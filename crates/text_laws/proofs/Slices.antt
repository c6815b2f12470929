-- A slice of a text, from a lexeme to a lexeme, has the parts between, and so the lexemes.
use Rattle.std.proofs.Common.{◌≡◌, ℕ, ◌+◌, ◌-◌, ◌==◌, Bool, true, cond, Option, None, Some, List, [], ◌∷◌, ◌++◌, length, take, drop, map, refl, sym, ap, subst, ◌∙◌, arith, inl, inr, append_assoc, length-append}
use Rattle.std.proofs.lemmas.List.{append-nil, take_at, drop_at}
use Rattle.std.proofs.lemmas.List.Sums.{sum_by-append}
use Rattle.std.proofs.lemmas.Grind.{flat_map-append}
use Rattle.tsql_lexer.specs.declared.lexeme.Lexeme.{Lexeme}
use Rattle.tsql_lexer.specs.declared.lexeme.Spanned.{Spanned}
use Rattle.tsql_lexer.specs.Classes.{line_feed, is_blank, stays_in_line}
use Rattle.tsql_lexer.specs.Lexemes.{goes_on, stops}
use Rattle.tsql_lexer.specs.Parts.{Part, IsPart, text_of, AreParts, line_behind, span_behind, spans_behind, Lexes}
use Rattle.tsql_lexer.specs.Reading.{lexing_of}
use Rattle.tsql_lexer.proofs.Whole.{text_lexes, lexes_once}
use Rattle.tsql_grammar.specs.Trees.{slice}
use Rattle.text_laws.specs.Slices.{moved_by, end_behind}
use Rattle.text_laws.specs.Laws.{SliceLexes}

-- ---- parts with less behind them

-- what stops before more stops before less
stops_short : (test : ℕ → Bool) (near far : List ℕ) → stops test (near ++ far) ≡ true → stops test near ≡ true
stops_short test [] far stopped = refl
stops_short test (unit ∷ near) far stopped = stopped

part_short : (lexeme : Option Lexeme) (units near far : List ℕ) → IsPart lexeme units (near ++ far) → IsPart lexeme units near
part_short None units near far is = elim is [
  | inl blanks ↦ inl (blanks.0, stops_short is_blank near far blanks.1)
  | inr comment ↦ elim comment [
    | inl line ↦ inr (inl (line.0, line.1, line.2, stops_short stays_in_line near far line.3))
    | inr block ↦ inr (inr block)
  ]
]
part_short (Some lexeme) units near far is = record { spelled = is.spelled; ended = stops_short (goes_on lexeme units) near far is.ended }

text_append : (xs ys : List Part) → text_of (xs ++ ys) ≡ text_of xs ++ text_of ys
text_append xs ys = flat_map-append (λ part. part.units) xs ys

-- parts in front of others, with nothing behind them
parts_short : (xs ys : List Part) (tail : List ℕ) → AreParts (xs ++ ys) tail → AreParts xs []
parts_short [] ys tail are = tt
parts_short (part ∷ xs) ys tail are =
    let behind : text_of (xs ++ ys) ++ tail ≡ (text_of xs ++ []) ++ (text_of ys ++ tail) =
    ap (λ (l : List ℕ). l ++ tail) (text_append xs ys) ∙ append_assoc (text_of xs) (text_of ys) tail ∙ ap (λ (l : List ℕ). l ++ (text_of ys ++ tail)) (sym (append-nil (text_of xs))) in
    (part_short part.lexeme part.units (text_of xs ++ []) (text_of ys ++ tail) (subst (IsPart part.lexeme part.units) behind are.0), parts_short xs ys tail are.1)

-- parts behind others
parts_behind : (xs ys : List Part) (tail : List ℕ) → AreParts (xs ++ ys) tail → AreParts ys tail
parts_behind [] ys tail are = are
parts_behind (part ∷ xs) ys tail are = parts_behind xs ys tail are.1

-- ---- where lexemes stand among the parts

abbrev span : List ℕ → Part → Lexeme → Spanned
span before part lexeme = record { lexeme = lexeme; start = length before; end = length before + length part.units; line = line_behind before }

-- A lexeme that has these others in front of it and behind it is that of a part.
record Begun (before : List ℕ) (parts : List Part) (first : Spanned) (more : List Spanned) : Type 0 where
  ahead : List Part
  part : Part
  behind : List Part
  lexeme : Lexeme
  joined : parts ≡ ahead ++ (part ∷ behind)
  named : part.lexeme ≡ Some lexeme
  is : first ≡ span (before ++ text_of ahead) part lexeme
  on : more ≡ spans_behind ((before ++ text_of ahead) ++ part.units) behind

-- one part more in front
begun_more : (before : List ℕ) (one : Part) (parts : List Part) (first : Spanned) (more : List Spanned) → Begun (before ++ one.units) parts first more → Begun before (one ∷ parts) first more
begun_more before one parts first more b =
    let same : (before ++ one.units) ++ text_of b.ahead ≡ before ++ (one.units ++ text_of b.ahead) = append_assoc before one.units (text_of b.ahead) in
    record {
      ahead = one ∷ b.ahead;
      part = b.part;
      behind = b.behind;
      lexeme = b.lexeme;
      joined = ap (λ (l : List Part). one ∷ l) b.joined;
      named = b.named;
      is = b.is ∙ ap (λ (l : List ℕ). span l b.part b.lexeme) same;
      on = b.on ∙ ap (λ (l : List ℕ). spans_behind (l ++ b.part.units) b.behind) same;
    }

no_more : {A : Type 0} (front : List A) (first : A) (more : List A) → [] ≡ front ++ (first ∷ more) → ⊥
no_more [] first more e = cc
no_more (a ∷ front) first more e = cc

begun : (before : List ℕ) (parts : List Part) (front : List Spanned) (first : Spanned) (more : List Spanned) → spans_behind before parts ≡ front ++ (first ∷ more) → Begun before parts first more
begun before [] front first more e = absurd (no_more front first more e)
begun before (one ∷ parts) front first more e = by one.lexeme refl front e (λ front e. begun (before ++ one.units) parts front first more e)
  where
    by : (lexeme : Option Lexeme) → one.lexeme ≡ lexeme → (front : List Spanned) → span_behind before one.units one.lexeme ++ spans_behind (before ++ one.units) parts ≡ front ++ (first ∷ more)
        → ((front : List Spanned) → spans_behind (before ++ one.units) parts ≡ front ++ (first ∷ more) → Begun (before ++ one.units) parts first more) → Begun before (one ∷ parts) first more
    by None is front e on =
        begun_more before one parts first more (on front
        (subst (λ (x : Option Lexeme). span_behind before one.units x ++ spans_behind (before ++ one.units) parts ≡ front ++ (first ∷ more)) is e))
    by (Some lexeme) is [] e on =
        let at : span before one lexeme ∷ spans_behind (before ++ one.units) parts ≡ first ∷ more =
        subst (λ (x : Option Lexeme). span_behind before one.units x ++ spans_behind (before ++ one.units) parts ≡ first ∷ more) is e in
        let here : first ≡ span before one lexeme = cc in
        let rest : more ≡ spans_behind (before ++ one.units) parts = cc in
        record {
          ahead = [];
          part = one;
          behind = parts;
          lexeme = lexeme;
          joined = refl;
          named = is;
          is = here ∙ ap (λ (l : List ℕ). span l one lexeme) (sym (append-nil before));
          on = rest ∙ ap (λ (l : List ℕ). spans_behind (l ++ one.units) parts) (sym (append-nil before));
        }
    by (Some lexeme) is (a ∷ front) e on =
        let at : span before one lexeme ∷ spans_behind (before ++ one.units) parts ≡ a ∷ (front ++ (first ∷ more)) =
        subst (λ (x : Option Lexeme). span_behind before one.units x ++ spans_behind (before ++ one.units) parts ≡ a ∷ (front ++ (first ∷ more))) is e in
        let rest : spans_behind (before ++ one.units) parts ≡ front ++ (first ∷ more) = cc in
        begun_more before one parts first more (on front rest)

-- The first lexemes are those of the first parts, which end where the last of them does.
record Fronted (before : List ℕ) (parts : List Part) (front : List Spanned) : Type 0 where
  near : List Part
  far : List Part
  joined : parts ≡ near ++ far
  spans : spans_behind before near ≡ front
  ends : end_behind (length before) front ≡ length (before ++ text_of near)

length_behind : (before units : List ℕ) (parts : List Part) → length ((before ++ units) ++ text_of parts) ≡ length (before ++ (units ++ text_of parts))
length_behind before units parts = ap length (append_assoc before units (text_of parts))

fronted : (before : List ℕ) (parts : List Part) (front back : List Spanned) → spans_behind before parts ≡ front ++ back → Fronted before parts front
fronted before parts [] back e = record { near = []; far = parts; joined = refl; spans = refl; ends = ap length (sym (append-nil before)) }
fronted before [] (l ∷ front) back e = absurd (no_more [] l (front ++ back) e)
fronted before (one ∷ parts) (l ∷ front) back e = by one.lexeme refl (λ front e. fronted (before ++ one.units) parts front back e)
  where
    by : (lexeme : Option Lexeme) → one.lexeme ≡ lexeme → ((front : List Spanned) → spans_behind (before ++ one.units) parts ≡ front ++ back → Fronted (before ++ one.units) parts front)
        → Fronted before (one ∷ parts) (l ∷ front)
    by None is on =
        let rest = on (l ∷ front)
        (subst (λ (x : Option Lexeme). span_behind before one.units x ++ spans_behind (before ++ one.units) parts ≡ l ∷ (front ++ back)) is e) in
        record {
          near = one ∷ rest.near;
          far = rest.far;
          joined = ap (λ (z : List Part). one ∷ z) rest.joined;
          spans = ap (λ (x : Option Lexeme). span_behind before one.units x ++ spans_behind (before ++ one.units) rest.near) is ∙ rest.spans;
          ends = rest.ends ∙ length_behind before one.units rest.near;
        }
    by (Some lexeme) is on =
        let at : span before one lexeme ∷ spans_behind (before ++ one.units) parts ≡ l ∷ (front ++ back) =
        subst (λ (x : Option Lexeme). span_behind before one.units x ++ spans_behind (before ++ one.units) parts ≡ l ∷ (front ++ back)) is e in
        let here : span before one lexeme ≡ l = cc in
        let more : spans_behind (before ++ one.units) parts ≡ front ++ back = cc in
        let rest = on front more in
        record {
          near = one ∷ rest.near;
          far = rest.far;
          joined = ap (λ (z : List Part). one ∷ z) rest.joined;
          spans = ap (λ (x : Option Lexeme). span_behind before one.units x ++ spans_behind (before ++ one.units) rest.near) is
              ∙ ap (λ (z : List Spanned). span before one lexeme ∷ z) rest.spans ∙ ap (λ (z : Spanned). z ∷ front) here;
          ends = ap (λ (z : Spanned). end_behind z.end front) (sym here) ∙ ap (λ (n : ℕ). end_behind n front) (sym (length-append before one.units)) ∙ rest.ends
              ∙ length_behind before one.units rest.near;
        }

-- ---- places within the slice

-- what is moved back by so many units and lines
abbrev moved_behind : List ℕ → Spanned → Spanned
moved_behind ahead l = record { lexeme = l.lexeme; start = l.start - length ahead; end = l.end - length ahead; line = (l.line - line_behind ahead) + 1 }

moved_span : (ahead before : List ℕ) (part : Part) (lexeme : Lexeme) → moved_behind ahead (span (ahead ++ before) part lexeme) ≡ span before part lexeme
moved_span ahead before part lexeme =
    let starts : length (ahead ++ before) - length ahead ≡ length before = omega (arith, length-append ahead before) in
    let ends : (length (ahead ++ before) + length part.units) - length ahead ≡ length before + length part.units = omega (arith, length-append ahead before) in
    let lines : (line_behind (ahead ++ before) - line_behind ahead) + 1 ≡ line_behind before = omega (arith, sum_by-append (λ x. cond (x == line_feed) 1 0) ahead before) in
    λ i. record { lexeme = lexeme; start = starts i; end = ends i; line = lines i }

spans_moved : (ahead before : List ℕ) (parts : List Part) → map (moved_behind ahead) (spans_behind (ahead ++ before) parts) ≡ spans_behind before parts
spans_moved ahead before [] = refl
spans_moved ahead before (part ∷ parts) =
    by part.lexeme (ap (λ (l : List ℕ). map (moved_behind ahead) (spans_behind l parts)) (append_assoc ahead before part.units) ∙ spans_moved ahead (before ++ part.units) parts)
  where
    by : (x : Option Lexeme) → map (moved_behind ahead) (spans_behind ((ahead ++ before) ++ part.units) parts) ≡ spans_behind (before ++ part.units) parts
        → map (moved_behind ahead) (span_behind (ahead ++ before) part.units x ++ spans_behind ((ahead ++ before) ++ part.units) parts) ≡ span_behind before part.units x ++ spans_behind (before ++ part.units) parts
    by None rest = rest
    by (Some lexeme) rest = λ i. moved_span ahead before part lexeme i ∷ rest i

-- ---- the slice

sliced : (ahead inside behind : List ℕ) (text : List ℕ) (from to : ℕ) → text ≡ ahead ++ (inside ++ behind) → from ≡ length ahead → to ≡ length (ahead ++ inside) → slice text from to ≡ inside
sliced ahead inside behind text from to joined begins ends =
    ap (λ (l : List ℕ). take (to - from) (drop from l)) joined
    ∙ ap (take (to - from)) (drop_at ahead (inside ++ behind) from (sym begins))
    ∙ take_at inside behind (to - from) (omega (arith, begins, ends, length-append ahead inside))

pub slice_lexes : SliceLexes
slice_lexes text front more back first e =
    let whole = text_lexes text in
    let b = begun [] whole.parts front first (more ++ back) (sym whole.spans ∙ e) in
    let f = fronted (text_of b.ahead ++ b.part.units) b.behind more back (sym b.on) in
    let ahead : List ℕ = text_of b.ahead in
    let parts : List Part = b.part ∷ f.near in
    let inside : List ℕ = text_of parts in
    let behind : List ℕ = text_of f.far ++ whole.tail in
    let all : whole.parts ≡ b.ahead ++ (parts ++ f.far) = b.joined ∙ ap (λ (l : List Part). b.ahead ++ (b.part ∷ l)) f.joined in
    let joined : text ≡ ahead ++ (inside ++ behind) =
    whole.joined ∙ ap (λ (l : List Part). text_of l ++ whole.tail) all ∙ ap (λ (l : List ℕ). l ++ whole.tail) (text_append b.ahead (parts ++ f.far)) ∙ append_assoc ahead (text_of (parts ++ f.far)) whole.tail
    ∙ ap (λ (l : List ℕ). ahead ++ (l ++ whole.tail)) (text_append parts f.far) ∙ ap (λ (l : List ℕ). ahead ++ l) (append_assoc inside (text_of f.far) whole.tail) in
    let begins : first.start ≡ length ahead = ap (λ (l : Spanned). l.start) b.is in
    let first_ends : first.end ≡ length (ahead ++ b.part.units) = ap (λ (l : Spanned). l.end) b.is ∙ sym (length-append ahead b.part.units) in
    let ends : end_behind first.end more ≡ length (ahead ++ inside) = ap (λ (n : ℕ). end_behind n more) first_ends ∙ f.ends ∙ length_behind ahead b.part.units f.near in
    let right : AreParts parts [] =
    parts_short parts f.far whole.tail (parts_behind b.ahead (parts ++ f.far) whole.tail (subst (λ (l : List Part). AreParts l whole.tail) all whole.right)) in
    let spans : spans_behind ahead parts ≡ first ∷ more =
    ap (λ (x : Option Lexeme). span_behind ahead b.part.units x ++ spans_behind (ahead ++ b.part.units) f.near) b.named
    ∙ (λ i. sym b.is i ∷ f.spans i) in
    let line : first.line ≡ line_behind ahead = ap (λ (l : Spanned). l.line) b.is in
    let moved : moved_behind ahead ≡ moved_by first =
    λ i. λ l. record { lexeme = l.lexeme; start = l.start - sym begins i; end = l.end - sym begins i; line = (l.line - sym line i) + 1 } in
    let lexemes : map (moved_by first) (first ∷ more) ≡ spans_behind [] parts =
    ap (λ (f : Spanned → Spanned). map f (first ∷ more)) (sym moved) ∙ ap (map (moved_behind ahead)) (sym spans)
    ∙ ap (λ (l : List ℕ). map (moved_behind ahead) (spans_behind l parts)) (sym (append-nil ahead)) ∙ spans_moved ahead [] parts in
    let lexes : Lexes inside (map (moved_by first) (first ∷ more)) None = record { parts = parts; tail = []; joined = sym (append-nil inside); right = right; spans = lexemes; end = refl } in
    ap lexing_of (sliced ahead inside behind text first.start (end_behind first.end more) joined begins ends) ∙ lexes_once inside (map (moved_by first) (first ∷ more)) None lexes
