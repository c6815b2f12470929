-- What of a map is changed by one entry: what is read at keys that are equal to it, and at no others.
use Rattle.std.proofs.Common.{◌≡◌, Bool, true, false, cond, ◌&&◌, List, [], ◌∷◌, Option, Some, None, refl, sym, ap, ◌∙◌}
use Rattle.std.specs.BTreeMap.{BTreeMap, get, is_at}
use Rattle.std.specs.Cmp.{IsTotalOrder}
use Rattle.std.specs.Map.{lookup}
use Rattle.std.specs.Ordering.{is_eq}
use Rattle.std.specs.declared.cmp.Ordering.{Ordering}
use Rattle.std.specs.declared.cmp.Ordering.TheVariants.{Less, Equal, Greater}
use Rattle.lock_modes.specs.declared.Pair.{Pair}
use Rattle.lock_table.specs.BySession.{changed_if}

pub and_assoc : (a b c : Bool) → ((a && b) && c) ≡ (a && (b && c))
and_assoc true b c = refl
and_assoc false b c = refl

pub equal_of : (o : Ordering) → is_eq o ≡ true → o ≡ Equal
equal_of Equal is = refl
equal_of Less is = absurd (cc)
equal_of Greater is = absurd (cc)

-- keys that are equal find the same
lookup_same : {K X : Type 0} {cmp : K → K → Ordering} (o : IsTotalOrder cmp) (k q : K) → cmp k q ≡ Equal → (es : List (K × X)) → lookup (is_at (cmp q)) es ≡ lookup (is_at (cmp k)) es
lookup_same o k q same [] = refl
lookup_same {K} {X} {cmp} o k q same (e ∷ es) = rw (o.congr k q e.0 same) (by_test (is_eq (cmp q e.0)) (lookup_same o k q same es))
  where
    by_test : (b : Bool) → lookup (is_at (cmp q)) es ≡ lookup (is_at (cmp k)) es → cond b (Some e.1) (lookup (is_at (cmp q)) es) ≡ cond b (Some e.1) (lookup (is_at (cmp k)) es)
    by_test true rest = refl
    by_test false rest = rest

module _ {K X : Type 0} (cmp : K → K → Ordering) (o : IsTotalOrder cmp) (m n : BTreeMap K X) (k : K) (w : Option X) (sets : (q : K) → get cmp n q ≡ cond (is_eq (cmp k q)) w (get cmp m q)) where
  pub put : (read : Option X → Pair) (here : Bool) (f : Pair → Pair) → read w ≡ changed_if here f (read (get cmp m k)) → (q : K) → read (get cmp n q) ≡ changed_if (is_eq (cmp k q) && here) f (read (get cmp m q))
  put read here f is q = ap read (sets q) ∙ by_test (is_eq (cmp k q)) refl
    where
      by_test : (b : Bool) → is_eq (cmp k q) ≡ b → read (cond b w (get cmp m q)) ≡ changed_if (b && here) f (read (get cmp m q))
      by_test true same = is ∙ ap (λ (x : Option X). changed_if here f (read x)) (sym (lookup_same o k q (equal_of (cmp k q) same) m.entries))
      by_test false same = refl

  pub keep : (read : Option X → Pair) → read w ≡ read (get cmp m k) → (q : K) → read (get cmp n q) ≡ read (get cmp m q)
  keep read is q = put read false (λ p. p) is q ∙ by_test (is_eq (cmp k q))
    where
      by_test : (b : Bool) → changed_if (b && false) (λ p. p) (read (get cmp m q)) ≡ read (get cmp m q)
      by_test true = refl
      by_test false = refl

-- where a key is absent, taking it away changes nothing
pub absent_stays : {K X : Type 0} (cmp : K → K → Ordering) → IsTotalOrder cmp → (m : BTreeMap K X) (k : K) → get cmp m k ≡ None → (q : K) → get cmp m q ≡ cond (is_eq (cmp k q)) None (get cmp m q)
absent_stays {K} {X} cmp o m k absent q = by_test (is_eq (cmp k q)) refl
  where
    by_test : (b : Bool) → is_eq (cmp k q) ≡ b → get cmp m q ≡ cond b None (get cmp m q)
    by_test true same = lookup_same o k q (equal_of (cmp k q) same) m.entries ∙ absent
    by_test false same = refl
