-- Keys behind a key, and keys of one length.
use Rattle.std.proofs.Common.{◌≡◌, ℕ, zero, suc, ◌≤◌, Bool, true, false, not, if◌then◌else◌, List, [], ◌∷◌, ◌++◌, length, take, refl, sym, ap, ◌∙◌, arith, ltb-false}
use Rattle.std.specs.Ordering.{is_lt, is_gt, ordering_then, ordering_reverse}
use Rattle.std.specs.Cmp.{alike_right}
use Rattle.std.specs.declared.cmp.Ordering.{Ordering}
use Rattle.std.specs.declared.cmp.Ordering.TheVariants.{Less, Equal, Greater}
use Rattle.std.proofs.lemmas.List.{take_all}
use Rattle.value_types.specs.declared.value.Value.{Value}
use Rattle.value_types.specs.declared.value.Value.TheVariants.{Null, Whole, Bit, Text}
use Rattle.value_types.specs.Order.{key_cmp, value_order}
use Rattle.value_types.specs.OrderLaws.{key_cmp_total}
use Rattle.step_model.specs.declared.range.Start.TheVariants.{At, Past}
use Rattle.step_model.specs.declared.range.Stop.TheVariants.{Within}
use Rattle.step_model.specs.Database.{allows, includes}
use Rattle.dml_exec.specs.Reading.{behind_gone, is_short}

-- whose front is above a key is above it
front_gt : (n : ℕ) (k key : List Value) → is_gt (key_cmp (take n k) key) ≡ true → is_gt (key_cmp k key) ≡ true
front_gt zero [] [] above = above
front_gt zero [] (y ∷ key) above = above
front_gt zero (x ∷ k) [] above = refl
front_gt zero (x ∷ k) (y ∷ key) above = cc
front_gt (suc n) [] key above = above
front_gt (suc n) (x ∷ k) [] above = refl
front_gt (suc n) (x ∷ k) (y ∷ key) above = by_order (value_order x y) above (front_gt n k key)
  where
    by_order : (o : Ordering) → is_gt (ordering_then o (key_cmp (take n k) key)) ≡ true
        → (is_gt (key_cmp (take n k) key) ≡ true → is_gt (key_cmp k key) ≡ true)
        → is_gt (ordering_then o (key_cmp k key)) ≡ true
    by_order Less above rest = above
    by_order Equal above rest = rest above
    by_order Greater above rest = above

is_above : (o : Ordering) → is_gt o ≡ true → ordering_reverse o ≡ Less
is_above Less above = cc
is_above Equal above = cc
is_above Greater above = refl

-- what is past a key is above it
pub past_above : (key k : List Value) → allows (Past key) k ≡ true → key_cmp key k ≡ Less
past_above key k allowed = key_cmp_total.antisymm key k ∙ is_above (key_cmp k key) (front_gt (length key) k key allowed)

-- what is above a key that is as long, or longer, is past it
longer_past : (key k : List Value) → length k ≤ length key → key_cmp k key ≡ Greater → allows (Past key) k ≡ true
longer_past key k long above = ap (λ (x : List Value). is_gt (key_cmp x key)) (take_all (length key) k (omega (arith, long))) ∙ ap is_gt above

pub above_past : (key k : List Value) → length k ≡ length key → key_cmp k key ≡ Greater → allows (Past key) k ≡ true
above_past key k long above = longer_past key k (omega (arith, long)) above

-- ---- from a key and NULL on

-- NULL is the lowest value, and a key is below those that begin with it: so what is not below a key and NULL is what is above it
longer_gt : (key k : List Value) → not (is_lt (key_cmp k (key ++ Null ∷ []))) ≡ true → is_gt (key_cmp k key) ≡ true
longer_gt [] [] from = absurd (let no : false ≡ true = from in cc)
longer_gt [] (y ∷ k) from = refl
longer_gt (x ∷ key) [] from = absurd (let no : false ≡ true = from in cc)
longer_gt (x ∷ key) (y ∷ k) from = by_order (value_order y x) from (longer_gt key k)
  where
    by_order : (o : Ordering) → not (is_lt (ordering_then o (key_cmp k (key ++ Null ∷ [])))) ≡ true → (not (is_lt (key_cmp k (key ++ Null ∷ []))) ≡ true → is_gt (key_cmp k key) ≡ true)
        → is_gt (ordering_then o (key_cmp k key)) ≡ true
    by_order Less from rest = absurd (let no : false ≡ true = from in cc)
    by_order Equal from rest = rest from
    by_order Greater from rest = refl

not_below_null : (y : Value) (k : List Value) → not (is_lt (key_cmp (y ∷ k) (Null ∷ []))) ≡ true
not_below_null Null [] = refl
not_below_null Null (z ∷ k) = refl
not_below_null (Whole number) k = refl
not_below_null (Bit bit) k = refl
not_below_null (Text units) k = refl

gt_longer : (key k : List Value) → is_gt (key_cmp k key) ≡ true → not (is_lt (key_cmp k (key ++ Null ∷ []))) ≡ true
gt_longer [] [] above = absurd (let no : false ≡ true = above in cc)
gt_longer [] (y ∷ k) above = not_below_null y k
gt_longer (x ∷ key) [] above = absurd (let no : false ≡ true = above in cc)
gt_longer (x ∷ key) (y ∷ k) above = by_order (value_order y x) above (gt_longer key k)
  where
    by_order : (o : Ordering) → is_gt (ordering_then o (key_cmp k key)) ≡ true → (is_gt (key_cmp k key) ≡ true → not (is_lt (key_cmp k (key ++ Null ∷ []))) ≡ true)
        → not (is_lt (ordering_then o (key_cmp k (key ++ Null ∷ [])))) ≡ true
    by_order Less above rest = absurd (let no : false ≡ true = above in cc)
    by_order Equal above rest = rest above
    by_order Greater above rest = refl

-- where a range goes on behind a key without a row is above that key
pub behind_above : (width : ℕ) (key k : List Value) → allows (behind_gone width key) k ≡ true → key_cmp key k ≡ Less
behind_above width key k allowed = by_test (is_short width key) allowed
  where
    by_test : (b : Bool) → allows (if b then At (key ++ Null ∷ []) else Past key) k ≡ true → key_cmp key k ≡ Less
    by_test true allowed = key_cmp_total.antisymm key k ∙ is_above (key_cmp k key) (longer_gt key k allowed)
    by_test false allowed = past_above key k allowed

-- and no key of that many values that is above it is passed over
pub above_behind : (width : ℕ) (key k : List Value) → length k ≡ width → key_cmp k key ≡ Greater → allows (behind_gone width key) k ≡ true
above_behind width key k long above = by_test (is_short width key) refl
  where
    by_test : (b : Bool) → is_short width key ≡ b → allows (if b then At (key ++ Null ∷ []) else Past key) k ≡ true
    by_test true is = gt_longer key k (ap is_gt above)
    by_test false is = let as_long : width ≤ length key = ltb-false (length key) width is in longer_past key k (omega (arith, long, as_long)) above

-- keys of one length that begin a range of one key are that key
pub one_key : (key k : List Value) → length k ≡ length key → allows (At key) k ≡ true → includes (Within key) k ≡ true → key_cmp k key ≡ Equal
one_key key k long allowed included = by_order (key_cmp k key) allowed (sym (ap (λ (x : List Value). not (is_gt (key_cmp x key))) (take_all (length key) k (omega (arith, long)))) ∙ included)
  where
    by_order : (o : Ordering) → not (is_lt o) ≡ true → not (is_gt o) ≡ true → o ≡ Equal
    by_order Less one other = cc
    by_order Equal one other = refl
    by_order Greater one other = cc

-- what ties with one key
pub tied_both : (key a b : List Value) → key_cmp a key ≡ Equal → key_cmp b key ≡ Equal → key_cmp a b ≡ Equal
tied_both key a b one other = alike_right key_cmp_total b key a other ∙ one

-- what ties with the first key of a range is not above another one of the range
pub not_below : (first k key : List Value) → key_cmp k first ≡ Equal → key_cmp k key ≡ Greater → allows (At first) key ≡ true → ⊥
not_below first k key tied above allowed =
    let high : key_cmp first key ≡ Greater = sym (key_cmp_total.congr k first key tied) ∙ above in
    let low : key_cmp key first ≡ Less = key_cmp_total.antisymm key first ∙ ap ordering_reverse high in
    let no : false ≡ true = sym (ap (λ (o : Ordering). not (is_lt o)) low) ∙ allowed in absurd (let h : false ≡ true = no in cc)

-- keys that tie have as many values
pub tied_long : (a b : List Value) → key_cmp a b ≡ Equal → length a ≡ length b
tied_long [] [] tied = refl
tied_long [] (y ∷ b) tied = cc
tied_long (x ∷ a) [] tied = cc
tied_long (x ∷ a) (y ∷ b) tied = by_order (value_order x y) tied (tied_long a b)
  where
    by_order : (o : Ordering) → ordering_then o (key_cmp a b) ≡ Equal → (key_cmp a b ≡ Equal → length a ≡ length b) → length (x ∷ a) ≡ length (y ∷ b)
    by_order Less tied rest = cc
    by_order Equal tied rest = let long : length a ≡ length b = rest tied in omega (arith, long)
    by_order Greater tied rest = cc

-- a range stops at a key as at one that ties with it
pub tied_end : (first last k : List Value) → key_cmp first last ≡ Equal → includes (Within last) k ≡ includes (Within first) k
tied_end first last k tied =
    ap (λ (n : ℕ). not (is_gt (key_cmp (take n k) last))) (sym (tied_long first last tied))
    ∙ ap (λ (o : Ordering). not (is_gt o)) (sym (alike_right key_cmp_total first last (take (length first) k) tied))
