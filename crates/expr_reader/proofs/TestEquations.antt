-- What reading by descent is at each rule of tests.
use Rattle.std.specs.Prelude.{◌≡◌, ℕ, zero, suc, ◌+◌, ◌-◌, ◌<◌, ◌≤◌, Bool, true, false, ◌||◌, List, [], ◌∷◌, ◌++◌, Some, None, if◌then◌else◌, refl}
use Rattle.std.proofs.Common.{inl, inr, ap, ◌∙◌, append-nil, append_assoc, add-one, arith}
use Rattle.tsql_lexer.specs.declared.lexeme.Sign.{Sign}
use Rattle.tsql_lexer.specs.declared.lexeme.Sign.TheVariants as s
use Rattle.tsql_tree.specs.declared.query.CompareSign.TheVariants as compare
use Rattle.tsql_tree.specs.declared.query.Expr.{Expr}
use Rattle.tsql_tree.specs.declared.query.Expr.TheVariants as expr
use Rattle.tsql_tree.specs.declared.query.Test.{Test}
use Rattle.tsql_tree.specs.declared.query.Test.TheVariants as test
use Rattle.tsql_grammar.specs.declared.kind.Kind.TheVariants as k
use Rattle.tsql_grammar.specs.declared.kind.Reserved.{Reserved}
use Rattle.tsql_grammar.specs.declared.kind.Reserved.TheVariants as word
use Rattle.tsql_grammar.specs.declared.rule.Class.{Class}
use Rattle.tsql_grammar.specs.declared.rule.Class.TheVariants as c
use Rattle.tsql_grammar.specs.declared.rule.Rule.TheVariants as r
use Rattle.tsql_grammar.specs.Lookahead.{compares}
use Rattle.tsql_grammar.specs.Terminals.{Terminal}
use Rattle.tsql_grammar.specs.Trees.{any_of, all_of, product, sum}
use Rattle.lexeme_reader.proofs.Ways.{bound, by_order, by_certain, Skips}
use Rattle.lexeme_reader.proofs.Front.{front_bind, front_when, bind_assoc, when_bind, if_bind, bind_same, counted, counted_suc}
use Rattle.expr_reader.specs.Parts.{operand_from, chain_from, exists_from, closed_from, compared_from, enclosed_from, is_from, between_from, membership_from, in_list_from}
use Rattle.lexeme_reader.specs.Reading.{Outcome, read, expect, sees_any, ◌>>=◌, when, applied, front}

abbrev sign : Sign → Class
sign a = c.One (k.Sign a)

abbrev reserved : Reserved → Class
reserved a = c.One (k.Reserved a)

pub test_is : (w : List Terminal) → read r.Test w ≡ (do x ← read r.AndTest w; y ← read r.MoreOrs x.1; Some (any_of x.0 y.0, y.1))
test_is w = by_order [] r.Test w refl

pub more_ors_on : (done : List Test) (w : List Terminal) → front done (read r.MoreOrs w)
    ≡ when (expect (reserved word.Or) w) (λ x. do y ← read r.AndTest x.1; front (done ++ y.0 ∷ []) (read r.MoreOrs y.1)) (Some (done, w))
more_ors_on done w = ap (front done) (by_order [] r.MoreOrs w refl) ∙ simp (front_when, front_bind, append_assoc, append-nil)

pub and_test_is : (w : List Terminal) → read r.AndTest w ≡ (do x ← read r.NotTest w; y ← read r.MoreAnds x.1; Some (all_of x.0 y.0, y.1))
and_test_is w = by_order [] r.AndTest w refl

pub more_ands_on : (done : List Test) (w : List Terminal) → front done (read r.MoreAnds w)
    ≡ when (expect (reserved word.And) w) (λ x. do y ← read r.NotTest x.1; front (done ++ y.0 ∷ []) (read r.MoreAnds y.1)) (Some (done, w))
more_ands_on done w = ap (front done) (by_order [] r.MoreAnds w refl) ∙ simp (front_when, front_bind, append_assoc, append-nil)

pub not_test_is : (w : List Terminal) → read r.NotTest w
    ≡ when (expect (reserved word.Not) w) (λ x. do y ← read r.MoreNots x.1; z ← read r.Basic y.1; Some (test.Not (y.0 + 1) z.0, z.1)) (do x ← read r.Basic w; Some (x.0, x.1))
not_test_is w =
    by_order [] r.NotTest w refl
    ∙ simp add-one

pub more_nots_on : (n : ℕ) (w : List Terminal) → counted n (read r.MoreNots w)
    ≡ when (expect (reserved word.Not) w) (λ x. counted (n + 1) (read r.MoreNots x.1)) (Some (n + 0, w))
more_nots_on n w = ap (counted n) (by_order [] r.MoreNots w refl) ∙ simp (when_bind, counted_suc)

-- EXISTS, a test in parentheses or what they enclose, or an operand
pub basic_is : (w : List Terminal) → read r.Basic w
    ≡ when (expect (reserved word.Exists) w) (λ x. exists_from x.1)
    (when (expect (sign s.Open) w) (λ x. read (r.Opened 0) x.1) (operand_from w))
basic_is w = by_order [] r.Basic w refl ∙ simp (bind_assoc, bind_same)

opened_suc : (n : ℕ) (w : List Terminal) → read (r.Opened n) w
    ≡ when (expect (sign s.Open) w) (λ x. do y ← read (r.Opened (suc n)) x.1; Some (y.0, y.1)) (enclosed_from n w)
opened_suc n w = by_order [] (r.Opened n) w refl ∙ simp (bind_assoc, add-one)

pub opened_is : (n : ℕ) (w : List Terminal) → read (r.Opened n) w
    ≡ when (expect (sign s.Open) w) (λ x. read (r.Opened (n + 1)) x.1) (enclosed_from n w)
opened_is n w = opened_suc n w ∙ simp (add-one, bind_same)

skips_factors : Skips [] r.MoreFactors
skips_factors w e = ([], by_order [] r.MoreFactors w refl ∙ rw e refl)

skips_terms : Skips [] r.MoreTerms
skips_terms w e = ([], by_order [] r.MoreTerms w refl ∙ rw e refl)

unseen_one : (a : Class) (w : List Terminal) → sees_any (a ∷ []) w ≡ false → expect a w ≡ None
unfolding sees_any expect
unseen_one a [] e = refl
unseen_one a (t ∷ w) e = rw (or_no _ e) refl
  where
    or_no : (b : Bool) → (b || false) ≡ false → b ≡ false
    or_no true e = e
    or_no false e = refl

skips_ands : Skips [] r.MoreAnds
skips_ands w e = ([], by_order [] r.MoreAnds w refl ∙ rw (unseen_one (reserved word.And) w e) refl)

skips_ors : Skips [] r.MoreOrs
skips_ors w e = ([], by_order [] r.MoreOrs w refl ∙ rw (unseen_one (reserved word.Or) w e) refl)

operand_at : (n : ℕ) (w : List Terminal) → read (r.Operand n) w
    ≡ (do x ← read r.MoreFactors w; y ← read r.MoreTerms x.1; z ← read (r.Compared n) y.1; Some ((λ first. z.0 (sum (product first x.0) y.0)), z.1))
operand_at zero w = by_certain [] (r.Operand zero) w ((inr (skips_factors, inr (skips_terms, inl refl))), refl)
operand_at (suc n) w = by_certain [] (r.Operand (suc n)) w ((inr (skips_factors, inr (skips_terms, inl refl))), refl)

-- behind an operand
operand_is : (first : Expr) (n : ℕ) (w : List Terminal) → applied first (read (r.Operand n) w)
    ≡ (do x ← chain_from first w; applied x.0 (read (r.Compared n) x.1))
operand_is first n w = ap (applied first) (operand_at n w) ∙ simp bind_assoc

compared_none : (left : Expr) (w : List Terminal) → applied left (read (r.Compared 0) w) ≡ applied left (read r.Comparison w)
compared_none left w = ap (applied left) (by_order [] (r.Compared 0) w refl) ∙ simp bind_assoc

compared_some : (left : Expr) (n m : ℕ) (w : List Terminal) → m ≡ n + 1 → applied left (read (r.Compared m) w)
    ≡ when (expect (sign s.Close) w) (λ x. applied (expr.Parens left) (read (r.Operand n) x.1)) (compared_from left n w)
compared_some left n m w e =
    ap (λ (m : ℕ). applied left (read (r.Compared m) w)) (e ∙ add-one n)
    ∙ ap (applied left) (by_order [] (r.Compared (suc n)) w refl)
    ∙ simp (when_bind, bind_assoc)

pub operand_none : (first : Expr) (m : ℕ) (w : List Terminal) → m ≤ 0 → applied first (read (r.Operand m) w)
    ≡ (do x ← chain_from first w; applied x.0 (read r.Comparison x.1))
operand_none first m w e =
    let same : m ≡ 0 = omega (arith, e) in
    ap (λ (n : ℕ). applied first (read (r.Operand n) w)) same
    ∙ operand_is first 0 w
    ∙ bound (chain_from first w) _ _ (λ x. compared_none x.0 x.1)

pub operand_on : (first : Expr) (m : ℕ) (w : List Terminal) → 0 < m → applied first (read (r.Operand m) w)
    ≡ (do x ← chain_from first w; when (expect (sign s.Close) x.1) (λ y. applied (expr.Parens x.0) (read (r.Operand (m - 1)) y.1)) (compared_from x.0 (m - 1) x.1))
operand_on first m w e =
    let same : m ≡ m - 1 + 1 = omega (arith, e) in
    operand_is first m w ∙ bound (chain_from first w) _ _ (λ x. compared_some x.0 (m - 1) m x.1 same)

pub tested_none : (inner : Test) (m : ℕ) (w : List Terminal) → m ≤ 0 → applied inner (read (r.Tested m) w) ≡ Some (inner, w)
tested_none inner m w e =
    let same : m ≡ 0 = omega (arith, e) in
    ap (λ (n : ℕ). applied inner (read (r.Tested n) w)) same
    ∙ ap (applied inner) (by_order [] (r.Tested 0) w refl)

tested_some : (inner : Test) (n m : ℕ) (w : List Terminal) → m ≡ n + 1 → applied inner (read (r.Tested m) w)
    ≡ (do x ← closed_from inner w; applied x.0 (read (r.Tested n) x.1))
tested_some inner n m w e =
    ap (λ (m : ℕ). applied inner (read (r.Tested m) w)) (e ∙ add-one n)
    ∙ ap (applied inner) (by_certain [] (r.Tested (suc n)) w ((inr (skips_ands, inr (skips_ors, tt))), refl))
    ∙ simp bind_assoc

pub tested_on : (inner : Test) (m : ℕ) (w : List Terminal) → 0 < m → applied inner (read (r.Tested m) w)
    ≡ (do x ← closed_from inner w; applied x.0 (read (r.Tested (m - 1)) x.1))
tested_on inner m w e = let same : m ≡ m - 1 + 1 = omega (arith, e) in tested_some inner (m - 1) m w same

pub comparison_is : (left : Expr) (w : List Terminal) → applied left (read r.Comparison w)
    ≡ (if sees_any compares w then (do x ← read r.CompareSign w; y ← read r.Expr x.1; Some (test.Compare left x.0 y.0, y.1)) else
    when (expect (reserved word.Is) w) (λ x. is_from left x.1)
    (when (expect (reserved word.Not) w) (λ x. membership_from left true x.1) (membership_from left false w)))
comparison_is left w = ap (applied left) (by_order [] r.Comparison w refl) ∙ simp (if_bind, when_bind, bind_assoc)

pub membership_is : (left : Expr) (negated : Bool) (w : List Terminal) → membership_from left negated w
    ≡ when (expect (reserved word.Between) w) (λ x. between_from left negated x.1)
    (do x ← expect (reserved word.In) w; o ← expect (sign s.Open) x.1; a ← in_list_from left negated o.1; y ← expect (sign s.Close) a.1; Some (a.0, y.1))
membership_is left negated w =
    ap (λ (o : Outcome (Expr → Bool → Test)). do x ← o; Some (x.0 left negated, x.1)) (by_order [] r.Membership w refl)
    ∙ simp (when_bind, bind_assoc)

pub in_list_is : (left : Expr) (negated : Bool) (w : List Terminal) → in_list_from left negated w
    ≡ when (expect (reserved word.Select) w) (λ x. do a ← read r.Select x.1; Some (test.InQuery left negated a.0, a.1))
    (do a ← read r.Exprs w; Some (test.InList left negated a.0, a.1))
in_list_is left negated w =
    ap (λ (o : Outcome (Expr → Bool → Test)). do x ← o; Some (x.0 left negated, x.1)) (by_order [] r.InList w refl)
    ∙ simp (when_bind, bind_assoc)

pub optional_not_is : (w : List Terminal) → read r.OptionalNot w ≡ when (expect (reserved word.Not) w) (λ x. Some (true, x.1)) (Some (false, w))
optional_not_is w = by_order [] r.OptionalNot w refl

pub compare_sign_is : (w : List Terminal) → read r.CompareSign w
    ≡ when (expect (sign s.Equal) w) (λ x. Some (compare.Equal, x.1))
    (when (expect (sign s.NotEqual) w) (λ x. Some (compare.NotEqual, x.1))
    (when (expect (sign s.Less) w) (λ x. Some (compare.Less, x.1))
    (when (expect (sign s.LessEqual) w) (λ x. Some (compare.LessEqual, x.1))
    (when (expect (sign s.Greater) w) (λ x. Some (compare.Greater, x.1))
    (do x ← expect (sign s.GreaterEqual) w; Some (compare.GreaterEqual, x.1))))))
compare_sign_is w = by_order [] r.CompareSign w refl
