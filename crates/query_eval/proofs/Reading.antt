-- The key tests among tests, one after another.
use Rattle.std.proofs.Common.{◌≡◌, refl, sym, ap, ◌∙◌, ℕ, ◌+◌, ◌<◌, Bool, true, false, List, [], ◌∷◌, ◌++◌, map, length, get_or, drop, if◌then◌else◌}
use Rattle.std.specs.List.{filter}
use Rattle.std.proofs.lemmas.List.{drop_more}
use Rattle.query_eval.specs.declared.key_tests.ColumnTest.{ColumnTest}
use Rattle.query_eval.specs.KeyTests.{is_of_key, key_tests, own_test}

-- what a test gives where it is one of the key
abbrev pub own_if : Bool → ℕ → ColumnTest → List ColumnTest
own_if true first test = own_test first test ∷ []
own_if false first test = []

-- those from a place on are the one there, if it is of the key, and those behind it
pub key_tests_next : (key : List ℕ) (first : ℕ) (tests : List ColumnTest) (i : ℕ) (test : ColumnTest) → i < length tests → test ≡ get_or tests i test
    → key_tests key first (drop i tests) ≡ own_if (is_of_key key first test) first test ++ key_tests key first (drop (i + 1) tests)
key_tests_next key first tests i test below is =
    ap (key_tests key first) (drop_more tests i test below ∙ ap (λ t. t ∷ drop (i + 1) tests) (sym is)) ∙ by_key (is_of_key key first test)
  where
    by_key : (b : Bool) → map (own_test first) (if b then test ∷ filter (is_of_key key first) (drop (i + 1) tests) else filter (is_of_key key first) (drop (i + 1) tests))
        ≡ own_if b first test ++ map (own_test first) (filter (is_of_key key first) (drop (i + 1) tests))
    by_key true = refl
    by_key false = refl
