-- The tables of the code are those of the definitions, and a word is looked for among those of its letter.
use Rattle.std.specs.Prelude.{◌≡◌, ℕ, ◌==◌, ◌-◌, nat_eq, Bool, true, false, List, [], ◌∷◌, map, min, refl}
use Rattle.std.specs.List.{filter}
use Rattle.std.proofs.Common.{ap, sym, ◌∙◌, subst, arith}
use Rattle.std.proofs.lemmas.Bool.Decides.{nat_tests}
use Rattle.grammar_laws.proofs.Booleans.{and_true}
use Rattle.value_types.specs.Units.{same_units}
use Rattle.tsql_grammar.specs.declared.kind.Kind.{Kind}
use Rattle.tsql_grammar.specs.declared.words.TheConstants.{OF_NONE, OF_A, OF_B, OF_C, OF_D, OF_E, OF_F, OF_G, OF_H, OF_I, OF_J, OF_K, OF_L, OF_M, OF_N, OF_O, OF_P, OF_Q, OF_R, OF_S, OF_T, OF_U, OF_V, OF_W, OF_X, SYSTEM_SPELLINGS, DATE_ORDERS, LANGUAGES}
use Rattle.tsql_grammar.specs.Words.{date_orders, languages, look_up, spellings, system_spellings}
use Rattle.tsql_grammar.specs.WordLetters.{place_of, is_at, words_at}

pub systems_same : map (λ row. (row.0.now, row.1)) SYSTEM_SPELLINGS ≡ system_spellings
systems_same = refl

pub orders_same : map (λ word. word.now) DATE_ORDERS ≡ date_orders
orders_same = refl

pub languages_same : map (λ word. word.now) LANGUAGES ≡ languages
languages_same = refl

pub same_0 : map (λ row. (row.0.now, row.1)) OF_A ≡ words_at 0
unfolding words_at
same_0 = refl

pub same_1 : map (λ row. (row.0.now, row.1)) OF_B ≡ words_at 1
unfolding words_at
same_1 = refl

pub same_2 : map (λ row. (row.0.now, row.1)) OF_C ≡ words_at 2
unfolding words_at
same_2 = refl

pub same_3 : map (λ row. (row.0.now, row.1)) OF_D ≡ words_at 3
unfolding words_at
same_3 = refl

pub same_4 : map (λ row. (row.0.now, row.1)) OF_E ≡ words_at 4
unfolding words_at
same_4 = refl

pub same_5 : map (λ row. (row.0.now, row.1)) OF_F ≡ words_at 5
unfolding words_at
same_5 = refl

pub same_6 : map (λ row. (row.0.now, row.1)) OF_G ≡ words_at 6
unfolding words_at
same_6 = refl

pub same_7 : map (λ row. (row.0.now, row.1)) OF_H ≡ words_at 7
unfolding words_at
same_7 = refl

pub same_8 : map (λ row. (row.0.now, row.1)) OF_I ≡ words_at 8
unfolding words_at
same_8 = refl

pub same_9 : map (λ row. (row.0.now, row.1)) OF_J ≡ words_at 9
unfolding words_at
same_9 = refl

pub same_10 : map (λ row. (row.0.now, row.1)) OF_K ≡ words_at 10
unfolding words_at
same_10 = refl

pub same_11 : map (λ row. (row.0.now, row.1)) OF_L ≡ words_at 11
unfolding words_at
same_11 = refl

pub same_12 : map (λ row. (row.0.now, row.1)) OF_M ≡ words_at 12
unfolding words_at
same_12 = refl

pub same_13 : map (λ row. (row.0.now, row.1)) OF_N ≡ words_at 13
unfolding words_at
same_13 = refl

pub same_14 : map (λ row. (row.0.now, row.1)) OF_O ≡ words_at 14
unfolding words_at
same_14 = refl

pub same_15 : map (λ row. (row.0.now, row.1)) OF_P ≡ words_at 15
unfolding words_at
same_15 = refl

pub same_16 : map (λ row. (row.0.now, row.1)) OF_Q ≡ words_at 16
unfolding words_at
same_16 = refl

pub same_17 : map (λ row. (row.0.now, row.1)) OF_R ≡ words_at 17
unfolding words_at
same_17 = refl

pub same_18 : map (λ row. (row.0.now, row.1)) OF_S ≡ words_at 18
unfolding words_at
same_18 = refl

pub same_19 : map (λ row. (row.0.now, row.1)) OF_T ≡ words_at 19
unfolding words_at
same_19 = refl

pub same_20 : map (λ row. (row.0.now, row.1)) OF_U ≡ words_at 20
unfolding words_at
same_20 = refl

pub same_21 : map (λ row. (row.0.now, row.1)) OF_V ≡ words_at 21
unfolding words_at
same_21 = refl

pub same_22 : map (λ row. (row.0.now, row.1)) OF_W ≡ words_at 22
unfolding words_at
same_22 = refl

pub same_23 : map (λ row. (row.0.now, row.1)) OF_X ≡ words_at 23
unfolding words_at
same_23 = refl

pub same_24 : map (λ row. (row.0.now, row.1)) OF_NONE ≡ words_at 24
unfolding words_at
same_24 = refl

equal_so : (x y : ℕ) → nat_eq x y ≡ true → x ≡ y
equal_so x y e = grind (arith, nat_tests)

same_place : (a b : List ℕ) → same_units a b ≡ true → place_of a ≡ place_of b
same_place [] [] e = refl
same_place [] (y ∷ b) e = absurd (cc)
same_place (x ∷ a) [] e = absurd (cc)
same_place (x ∷ a) (y ∷ b) e = ap (λ n. n - 65) (equal_so x y (and_true (nat_eq x y) (same_units a b) e).0)

equal_to_itself : (n : ℕ) → (n == n) ≡ true
equal_to_itself n = grind (arith, nat_tests)

-- a word is found among those of its letter, or nowhere
among : (n : ℕ) (table : List (List ℕ × Kind)) (word : List ℕ) (other : Kind) → n ≡ min (place_of word) 24
    → look_up (filter (λ row. is_at n row.0) table) word other ≡ look_up table word other
among n [] word other e = refl
among n (row ∷ more) word other e = by_cases (among n more word other e) (is_at n row.0) (same_units row.0 word) refl refl
  where
    by_cases : look_up (filter (λ row. is_at n row.0) more) word other ≡ look_up more word other → (x y : Bool) → is_at n row.0 ≡ x → same_units row.0 word ≡ y
        → look_up (filter (λ row. is_at n row.0) (row ∷ more)) word other ≡ look_up (row ∷ more) word other
    by_cases rest true true f g = rw (f, g) refl
    by_cases rest true false f g = rw (f, g) rest
    by_cases rest false true f g =
        let there : is_at n row.0 ≡ true = subst (λ (m : ℕ). (min (place_of row.0) 24 == m) ≡ true) (ap (λ p. min p 24) (same_place row.0 word g) ∙ sym e) (equal_to_itself (min (place_of row.0) 24)) in
        absurd (cc)
    by_cases rest false false f g = rw (f, g) rest

pub among_its_letter : (word : List ℕ) (other : Kind) (n : ℕ) → n ≡ min (place_of word) 24 → look_up (words_at n) word other ≡ look_up spellings word other
unfolding words_at
among_its_letter word other n e = among n spellings word other e
