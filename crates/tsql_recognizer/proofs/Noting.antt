-- What is read and a mark behind it mean to the notes of the code.
use Rattle.std.specs.Prelude.{◌≡◌, ℕ, ◌+◌, ◌-◌, ◌<◌, ◌≤◌, Bool, true, false, cond, not, ◌&&◌, ◌||◌, nat_lt, List, ◌∷◌, Option, Some, None, is_some, if◌then◌else◌, refl}
use Rattle.std.proofs.Common.{Bor, arith, ap, sym, ◌∙◌, subst}
use Rattle.std.proofs.lemmas.Bool.Decides.{nat_tests}
use Rattle.std.specs.BTreeSet.{BTreeSet, contains}
use Rattle.std.specs.Cmp.Lexicographic.{slice_cmp, texts_ties}
use Rattle.std.specs.Ordering.{nat_cmp, is_eq}
use Rattle.tsql_grammar.specs.declared.noted.TextFault.{TextFault}
use Rattle.tsql_grammar.specs.declared.noted.TextFault.TheVariants.{TooDeep, NotDeclared, DeclaredTwice}
use Rattle.tsql_grammar.specs.declared.rule.Mark.{Mark}
use Rattle.tsql_grammar.specs.declared.rule.Mark.TheVariants.{Enter, Leave, Uses, Declares}
use Rattle.tsql_grammar.specs.Noted.{Noted, see, note, note_sound, note_where, has_name, blame}
use Rattle.tsql_grammar.specs.Terminals.{Terminal, units}
use Rattle.tsql_recognizer.specs.declared.notes.Notes.{Notes}
use Rattle.tsql_recognizer.specs.Notes.{seen, HasNames, Goes}

-- behind the first fault nothing is noted
pub goes_past : (m : Mark) (n : Notes) → is_some n.fault ≡ true → Goes (λ s t. t ≡ note s m) n n
goes_past m n e names h = (names, h, go n.fault e)
  where
    go : (f : Option (TextFault × ℕ)) → is_some f ≡ true → seen n names ≡ note_where f (seen n names) m
    go (Some f) e = refl
    go None e = absurd (cc)

-- before it a mark means what it means to a sound text
pub goes_sound : (m a : Mark) (old new : Notes) → is_some old.fault ≡ false → m ≡ a → Goes (λ s t. t ≡ note_sound s a) old new → Goes (λ s t. t ≡ note s m) old new
goes_sound m a old new e same g = subst (λ b. Goes (λ s t. t ≡ note s b) old new) (sym same) (λ names h. let x = g names h in (x.0, x.1, go old.fault e (seen old names) (seen new x.0) x.2))
  where
    go : (f : Option (TextFault × ℕ)) → is_some f ≡ false → (s t : Noted) → t ≡ note_sound s a → t ≡ note_where f s a
    go (Some f) e s t h = absurd (cc)
    go None e s t h = h

-- a lexeme was read
pub goes_seen : (n : Notes) (held : Bor (List ℕ)) (l : Terminal) (names : List (List ℕ)) → units l ≡ held.now
    → seen (record n { place = n.place + 1; last = held }) names ≡ see (seen n names) l
goes_seen n held l names e i = record { judges = n.judges; place = n.place + 1; last = sym e i; depth = n.depth; declared = names; fault = n.fault }

pub left : (n : Notes) (names : List (List ℕ)) (d : ℕ) → d ≡ n.depth - 1 → seen (record n { depth = d }) names ≡ note_sound (seen n names) Leave
left n names d e i = record { judges = n.judges; place = n.place; last = n.last.now; depth = e i; declared = names; fault = n.fault }

pub below : (n : ℕ) → n < 128 → nat_lt n 128 ≡ true
below n h = grind (arith, nat_tests)

pub not_below : (n : ℕ) → 128 ≤ n → nat_lt n 128 ≡ false
not_below n h = grind (arith, nat_tests)

pub none_of : (b c : Bool) → b ≡ false → (b && c) ≡ false
none_of false c e = refl
none_of true c e = absurd (cc)

pub not_second : (b c : Bool) → c ≡ false → (b && c) ≡ false
not_second false c e = refl
not_second true c e = e

pub none_not : (b c : Bool) → c ≡ true → (b && not c) ≡ false
none_not false c e = refl
none_not true c e = ap not e

pub both_of : (b c : Bool) → b ≡ true → c ≡ true → (b && c) ≡ true
both_of true c e f = f
both_of false c e f = absurd (cc)

pub entered : (n : Notes) (names : List (List ℕ)) → nat_lt n.depth 128 ≡ true → seen (record n { depth = n.depth + 1 }) names ≡ note_sound (seen n names) Enter
entered n names e = rw e refl

pub too_deep : (n : Notes) (names : List (List ℕ)) → nat_lt n.depth 128 ≡ false
    → seen (record n { fault = Some (TooDeep, n.place - 1) }) names ≡ note_sound (seen n names) Enter
too_deep n names e = rw e refl

pub used_first : (n : Notes) (names : List (List ℕ)) → n.judges ≡ true → has_name names n.last.now ≡ false
    → seen (record n { fault = Some (NotDeclared, n.place - 1) }) names ≡ note_sound (seen n names) Uses
used_first n names e f = go n.judges (has_name names n.last.now) e f
  where
    go : (b c : Bool) → b ≡ true → c ≡ false
        → seen (record n { fault = Some (NotDeclared, n.place - 1) }) names ≡ (if b && not c then blame (seen n names) NotDeclared else seen n names)
    go true false e f = refl
    go true true e f = absurd (cc)
    go false c e f = absurd (cc)

pub used_well : (n : Notes) (names : List (List ℕ)) → (n.judges && not (has_name names n.last.now)) ≡ false → seen n names ≡ note_sound (seen n names) Uses
used_well n names e = rw e refl

pub declared_again : (n : Notes) (names : List (List ℕ)) → (n.judges && has_name names n.last.now) ≡ true
    → seen (record n { fault = Some (DeclaredTwice, n.place - 1) }) names ≡ note_sound (seen n names) Declares
declared_again n names e = rw e refl

pub declared_first : (n : Notes) (set : BTreeSet (Bor (List ℕ))) (names : List (List ℕ)) → (n.judges && has_name names n.last.now) ≡ false
    → seen (record n { declared = set }) (n.last.now ∷ names) ≡ note_sound (seen n names) Declares
declared_first n set names e = rw e refl

-- the set with one name more has the list with it
pub has_more : (set new : BTreeSet (Bor (List ℕ))) (key : Bor (List ℕ)) (names : List (List ℕ)) → HasNames set names
    → ((q : Bor (List ℕ)) → contains (λ x y. slice_cmp nat_cmp x.now y.now) new q
    ≡ cond (is_eq (slice_cmp nat_cmp key.now q.now)) true (contains (λ x y. slice_cmp nat_cmp x.now y.now) set q))
    → HasNames new (key.now ∷ names)
has_more set new key names h u q = u q ∙ go _ _ _ _ (texts_ties key.now q.now) (h q)
  where
    go : (a b x y : Bool) → a ≡ b → x ≡ y → cond b true x ≡ (a || y)
    go true true x y e f = refl
    go true false x y e f = absurd (cc)
    go false true x y e f = absurd (cc)
    go false false x y e f = f

-- one step after another
pub goes_then : (P Q R : Noted → Noted → Type 0) (a b c : Notes) → ((s t u : Noted) → P s t → Q t u → R s u) → Goes P a b → Goes Q b c → Goes R a c
goes_then P Q R a b c step p q names h =
    let x = p names h in let y = q x.0 x.1 in (y.0, y.1, step (seen a names) (seen b x.0) (seen c y.0) x.2 y.2)

pub goes_map : (P Q : Noted → Noted → Type 0) (a b : Notes) → ((s t : Noted) → P s t → Q s t) → Goes P a b → Goes Q a b
goes_map P Q a b step p names h = let x = p names h in (x.0, x.1, step (seen a names) (seen b x.0) x.2)

pub goes_here : (P : Noted → Noted → Type 0) (a : Notes) → ((s : Noted) → P s s) → Goes P a a
goes_here P a p names h = (names, h, p (seen a names))
