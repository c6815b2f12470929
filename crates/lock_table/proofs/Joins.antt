-- What locks make together on a resource: the join in any order, one lock more, those of each span by themselves,
-- and what is left where some are taken away.
use Rattle.std.proofs.Common.{◌≡◌, Bool, true, false, not, ◌&&◌, ◌||◌, if◌then◌else◌, ℕ, ◌+◌, ◌<◌, List, [], ◌∷◌, ◌++◌, filter, drop, length, get_or, refl, sym, ap, ◌∙◌, arith, rules}
use Rattle.std.proofs.lemmas.List.{drop_more}
use Rattle.std.proofs.lemmas.Map.Views.{any-filter_same}
use Rattle.std.specs.Cmp.{IsTotalOrder}
use Rattle.std.specs.Ordering.{is_eq, ordering_reverse}
use Rattle.std.specs.declared.cmp.Ordering.{Ordering}
use Rattle.std.specs.declared.cmp.Ordering.TheVariants.{Equal}
use Rattle.lock_modes.specs.declared.Pair.{Pair}
use Rattle.lock_modes.specs.declared.RangePart.{RangePart}
use Rattle.lock_modes.specs.declared.KeyPart.{KeyPart}
use Rattle.lock_modes.specs.Join.{join_pairs, join_ranges, join_keys}
use Rattle.lock_modes.specs.Modes.{none}
use Rattle.lock_modes.proofs.JoinedParts.{join_ranges_assoc, join_keys_assoc}
use Rattle.step_model.specs.declared.resource.Resource.{Resource}
use Rattle.step_model.specs.declared.resource.Span.{Span}
use Rattle.step_model.specs.declared.resource.Span.TheVariants.{Statement, Transaction}
use Rattle.step_model.specs.declared.resource.Place.{Place}
use Rattle.step_model.specs.declared.resource.Place.TheVariants.{At, End}
use Rattle.step_model.specs.Locks.{Lock, pair_on, has_lock, same_place, same_resource, is_whole}
use Rattle.value_types.specs.Order.{key_cmp, table_cmp}
use Rattle.value_types.specs.OrderLaws.{key_cmp_total, table_cmp_total}
use Rattle.lock_table.proofs.Maps.{equal_of}
use Rattle.lock_table.specs.BySession.{is_of, same_span, changed_if}

-- ---- the join

pub join_none : (p : Pair) → join_pairs p none ≡ p
join_none p = grind arith

pub join_assoc : (a b c : Pair) → join_pairs (join_pairs a b) c ≡ join_pairs a (join_pairs b c)
join_assoc a b c = rw (join_ranges_assoc a.range b.range c.range, join_keys_assoc a.key b.key c.key) refl

ranges_turned : (p q : RangePart) → join_ranges p q ≡ join_ranges q p
ranges_turned p q = search rules

keys_turned : (p q : KeyPart) → join_keys p q ≡ join_keys q p
keys_turned p q = search rules

pub join_turned : (a b : Pair) → join_pairs a b ≡ join_pairs b a
join_turned a b = rw (ranges_turned a.range b.range, keys_turned a.key b.key) refl

range_left : (p q : RangePart) → join_ranges p q ≡ none.range → p ≡ none.range
range_left p q is = search rules

key_left : (p q : KeyPart) → join_keys p q ≡ none.key → p ≡ none.key
key_left p q is = search rules

same_pair : (a b : Pair) → a.range ≡ b.range → a.key ≡ b.key → a ≡ b
same_pair a b range key = ap (λ (r : RangePart). record { range = r; key = a.key }) range ∙ ap (λ (k : KeyPart). record { range = b.range; key = k }) key

pub none_of_join : (a b : Pair) → join_pairs a b ≡ none → a ≡ none
none_of_join a b is = same_pair a none (range_left a.range b.range (ap (λ (p : Pair). p.range) is)) (key_left a.key b.key (ap (λ (p : Pair). p.key) is))

-- ---- one lock more

pub is_of_same : (span : Span) (lock : Lock) → is_of span lock ≡ same_span lock.span span
is_of_same span lock = by_span span lock.span refl
  where
    by_span : (a b : Span) → lock.span ≡ b → is_of a lock ≡ same_span b a
    by_span Statement Statement is = rw is refl
    by_span Statement Transaction is = rw is refl
    by_span Transaction Statement is = rw is refl
    by_span Transaction Transaction is = rw is refl

pub pair_push : (on : Resource) (l : Lock) (ls : List Lock) → pair_on on (ls ++ l ∷ []) ≡ changed_if (same_resource l.on on) (λ old. join_pairs old l.pair) (pair_on on ls)
pair_push on l [] = by_test (same_resource l.on on)
  where
    by_test : (b : Bool) → (if b then join_pairs l.pair none else none) ≡ changed_if b (λ old. join_pairs old l.pair) none
    by_test true = join_none l.pair
    by_test false = refl
pair_push on l (x ∷ ls) = by_test (same_resource x.on on) (same_resource l.on on) (pair_push on l ls)
  where
    by_test : (b c : Bool) → pair_on on (ls ++ l ∷ []) ≡ changed_if c (λ old. join_pairs old l.pair) (pair_on on ls)
        → (if b then join_pairs x.pair (pair_on on (ls ++ l ∷ [])) else pair_on on (ls ++ l ∷ [])) ≡ changed_if c (λ old. join_pairs old l.pair) (if b then join_pairs x.pair (pair_on on ls) else pair_on on ls)
    by_test true true rest = ap (join_pairs x.pair) rest ∙ sym (join_assoc x.pair (pair_on on ls) l.pair)
    by_test true false rest = ap (join_pairs x.pair) rest
    by_test false c rest = rest

filter_push : (test : Lock → Bool) (l : Lock) (ls : List Lock) → filter test (ls ++ l ∷ []) ≡ (if test l then filter test ls ++ l ∷ [] else filter test ls)
filter_push test l [] = refl
filter_push test l (x ∷ ls) = by_test (test x) (test l) (filter_push test l ls)
  where
    by_test : (b c : Bool) → filter test (ls ++ l ∷ []) ≡ (if c then filter test ls ++ l ∷ [] else filter test ls)
        → (if b then x ∷ filter test (ls ++ l ∷ []) else filter test (ls ++ l ∷ [])) ≡ (if c then (if b then x ∷ filter test ls else filter test ls) ++ l ∷ [] else (if b then x ∷ filter test ls else filter test ls))
    by_test true true rest = ap (λ (ms : List Lock). x ∷ ms) rest
    by_test true false rest = ap (λ (ms : List Lock). x ∷ ms) rest
    by_test false true rest = rest
    by_test false false rest = rest

-- of a span
pub pair_of_push : (span : Span) (on : Resource) (l : Lock) (ls : List Lock)
    → pair_on on (filter (is_of span) (ls ++ l ∷ [])) ≡ changed_if (same_span l.span span && same_resource l.on on) (λ old. join_pairs old l.pair) (pair_on on (filter (is_of span) ls))
pair_of_push span on l ls = ap (pair_on on) (filter_push (is_of span) l ls) ∙ by_test (is_of span l) (same_span l.span span) (is_of_same span l)
  where
    by_test : (b c : Bool) → b ≡ c → pair_on on (if b then filter (is_of span) ls ++ l ∷ [] else filter (is_of span) ls) ≡ changed_if (c && same_resource l.on on) (λ old. join_pairs old l.pair) (pair_on on (filter (is_of span) ls))
    by_test true true is = pair_push on l (filter (is_of span) ls)
    by_test false false is = refl
    by_test true false is = absurd (cc)
    by_test false true is = absurd (cc)

-- where the pair is none with a lock more, it is without
pub none_before : (b : Bool) (old pair : Pair) → changed_if b (λ old. join_pairs old pair) old ≡ none → old ≡ none
none_before true old pair is = none_of_join old pair is
none_before false old pair is = is

-- ---- one resource

right_same : {K : Type 0} {cmp : K → K → Ordering} → IsTotalOrder cmp → (a b x : K) → cmp a b ≡ Equal → cmp x a ≡ cmp x b
right_same o a b x same = o.antisymm x a ∙ ap ordering_reverse (o.congr a b x same) ∙ sym (o.antisymm x b)

place_same : (a b x : Place) → same_place a b ≡ true → same_place x a ≡ same_place x b
place_same End End x is = refl
place_same (At a) (At b) End is = refl
place_same (At a) (At b) (At x) is = ap is_eq (right_same key_cmp_total a b x (equal_of (key_cmp a b) is))
place_same End (At b) x is = absurd (cc)
place_same (At a) End x is = absurd (cc)

and_left : (a b : Bool) → (a && b) ≡ true → a ≡ true
and_left true b is = refl
and_left false b is = is

and_right : (a b : Bool) → (a && b) ≡ true → b ≡ true
and_right true b is = is
and_right false b is = absurd (cc)

resource_same : (a b x : Resource) → same_resource a b ≡ true → same_resource x a ≡ same_resource x b
resource_same a b x is =
    ap (λ (o : Ordering). is_eq o && same_place x.place a.place) (right_same table_cmp_total a.table b.table x.table (equal_of (table_cmp a.table b.table) (and_left (is_eq (table_cmp a.table b.table)) (same_place a.place b.place) is)))
    ∙ ap (λ (p : Bool). is_eq (table_cmp x.table b.table) && p) (place_same a.place b.place x.place (and_right (is_eq (table_cmp a.table b.table)) (same_place a.place b.place) is))

-- on two resources that are one the pair is the same
pub pair_same : (a b : Resource) → same_resource a b ≡ true → (ls : List Lock) → pair_on a ls ≡ pair_on b ls
pair_same a b is [] = refl
pair_same a b is (x ∷ ls) = rw (resource_same a b x.on is) (by_test (same_resource x.on b) (pair_same a b is ls))
  where
    by_test : (c : Bool) → pair_on a ls ≡ pair_on b ls → (if c then join_pairs x.pair (pair_on a ls) else pair_on a ls) ≡ (if c then join_pairs x.pair (pair_on b ls) else pair_on b ls)
    by_test true rest = ap (join_pairs x.pair) rest
    by_test false rest = rest

-- ---- both spans

pub pair_of_both : (on : Resource) (ls : List Lock) → join_pairs (pair_on on (filter (is_of Statement) ls)) (pair_on on (filter (is_of Transaction) ls)) ≡ pair_on on ls
pair_of_both on [] = refl
pair_of_both on (x ∷ ls) = by_test (is_whole x.span) (same_resource x.on on) refl (pair_of_both on ls)
  where
    brief : Pair
    brief = pair_on on (filter (is_of Statement) ls)

    whole : Pair
    whole = pair_on on (filter (is_of Transaction) ls)

    by_test : (b c : Bool) → same_resource x.on on ≡ c → join_pairs brief whole ≡ pair_on on ls
        → join_pairs (pair_on on (if not b then x ∷ filter (is_of Statement) ls else filter (is_of Statement) ls)) (pair_on on (if b then x ∷ filter (is_of Transaction) ls else filter (is_of Transaction) ls)) ≡ (if c then join_pairs x.pair (pair_on on ls) else pair_on on ls)
    by_test true true same rest = rw same
        (sym (join_assoc brief x.pair whole) ∙ ap (λ (p : Pair). join_pairs p whole) (join_turned brief x.pair) ∙ join_assoc x.pair brief whole ∙ ap (join_pairs x.pair) rest)
    by_test true false same rest = rw same rest
    by_test false true same rest = rw same (join_assoc x.pair brief whole ∙ ap (join_pairs x.pair) rest)
    by_test false false same rest = rw same rest

-- ---- some taken away

-- where the session has such a lock there, its pair is taken away; elsewhere it has none
pub forgotten : (test : Lock → Bool) (on : Resource) (ls : List Lock) → changed_if (has_lock test on ls) (λ old. none) (pair_on on (filter test ls)) ≡ none
forgotten test on [] = refl
forgotten test on (x ∷ ls) = by_test (same_resource x.on on) (test x) refl (forgotten test on ls)
  where
    by_test : (b c : Bool) → same_resource x.on on ≡ b → changed_if (has_lock test on ls) (λ old. none) (pair_on on (filter test ls)) ≡ none
        → changed_if (b && c || has_lock test on ls) (λ old. none) (pair_on on (if c then x ∷ filter test ls else filter test ls)) ≡ none
    by_test true true same rest = refl
    by_test true false same rest = rest
    by_test false true same rest = rw same rest
    by_test false false same rest = rest

-- where lists have the same such locks they have them on the same resources
pub has_same : (test : Lock → Bool) (on : Resource) (xs ys : List Lock) → filter test xs ≡ filter test ys → has_lock test on xs ≡ has_lock test on ys
has_same test on xs ys same = sym (of_filter xs) ∙ ap (has_lock test on) same ∙ of_filter ys
  where
    of_filter : (ls : List Lock) → has_lock test on (filter test ls) ≡ has_lock test on ls
    of_filter ls = any-filter_same (λ (lock : Lock). same_resource lock.on on && test lock) test true (λ lock is. and_right (same_resource lock.on on) (test lock) is) ls

-- what stays of the locks of each span, where those of the statement are taken away
pub none_brief : (ls : List Lock) → filter (is_of Statement) (filter (λ lock. is_whole lock.span) ls) ≡ []
none_brief [] = refl
none_brief (x ∷ ls) = by_test (is_whole x.span) refl (none_brief ls)
  where
    by_test : (b : Bool) → is_whole x.span ≡ b → filter (is_of Statement) (filter (λ lock. is_whole lock.span) ls) ≡ []
        → filter (is_of Statement) (if b then x ∷ filter (λ lock. is_whole lock.span) ls else filter (λ lock. is_whole lock.span) ls) ≡ []
    by_test true is rest = rw is rest
    by_test false is rest = rest

pub all_whole : (ls : List Lock) → filter (is_of Transaction) (filter (λ lock. is_whole lock.span) ls) ≡ filter (is_of Transaction) ls
all_whole [] = refl
all_whole (x ∷ ls) = by_test (is_whole x.span) refl (all_whole ls)
  where
    by_test : (b : Bool) → is_whole x.span ≡ b → filter (is_of Transaction) (filter (λ lock. is_whole lock.span) ls) ≡ filter (is_of Transaction) ls
        → filter (is_of Transaction) (if b then x ∷ filter (λ lock. is_whole lock.span) ls else filter (λ lock. is_whole lock.span) ls) ≡ (if b then x ∷ filter (is_of Transaction) ls else filter (is_of Transaction) ls)
    by_test true is rest = rw is (ap (λ (ms : List Lock). x ∷ ms) rest)
    by_test false is rest = rest

-- ---- a walk

-- one lock more is looked at
pub join_next : (span : Span) (on : Resource) (xs : List Lock) (i : ℕ) (x : Lock) (so_far : Pair) → i < length xs → x ≡ get_or xs i x
    → join_pairs so_far (pair_on on (filter (is_of span) (drop i xs)))
    ≡ join_pairs (if is_of span x && same_resource x.on on then join_pairs so_far x.pair else so_far) (pair_on on (filter (is_of span) (drop (i + 1) xs)))
join_next span on xs i x so_far within is = rw (drop_more xs i x within, ← is) (by_test (is_of span x) (same_resource x.on on) refl)
  where
    rest : List Lock
    rest = filter (is_of span) (drop (i + 1) xs)

    by_test : (b c : Bool) → same_resource x.on on ≡ c → join_pairs so_far (pair_on on (if b then x ∷ rest else rest)) ≡ join_pairs (if b && c then join_pairs so_far x.pair else so_far) (pair_on on rest)
    by_test true true same = rw same (sym (join_assoc so_far x.pair (pair_on on rest)))
    by_test true false same = rw same refl
    by_test false c same = refl
