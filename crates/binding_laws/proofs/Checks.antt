-- The CHECKs of a table are bound to what is well formed over its row alone.
use Rattle.std.proofs.lemmas.Bool.{or_parts}
use Rattle.std.proofs.lemmas.List.{append-nil}
use Rattle.std.proofs.Common.{◌≡◌, refl, sym, ap, ◌∙◌, subst, List, [], ◌∷◌, ◌++◌, map, Bool, true, false, nat_lt, Ok, Err}
use Rattle.tsql_tree.specs.declared.definition.CheckTree.{CheckTree}
use Rattle.tsql_tree.specs.declared.definition.TableTree.{TableTree}
use Rattle.bound_tree.specs.declared.expr.BoundTest.{BoundTest}
use Rattle.bound_tree.specs.Typed.{SettingTypes, is_formed_test, row_types}
use Rattle.typed_nodes.specs.Refusals.{Outcome, after}
use Rattle.clause_binder.specs.declared.progress.Progress.{Progress}
use Rattle.clause_binder.specs.Progress.{Binding, Context, Read, bind_of, begin_at, each_onto, each_read}
use Rattle.clause_binder.specs.Scope.{max_inner}
use Rattle.clause_binder.specs.Clauses.{noted_test}
use Rattle.clause_binder.specs.Bind.{test_of}
use Rattle.binder.specs.Limits.{is_beyond, within_limits}
use Rattle.binder.specs.Tables.{checks_onto, row_context}
use Rattle.binder.specs.Writes.{test_whole}
use Rattle.query_laws.specs.Columns.{kinds}
use Rattle.query_laws.specs.Laws.{AllOf}
use Rattle.query_laws.specs.Parts.{inner_kinds}
use Rattle.query_laws.proofs.Reading.{Bound, Grows, Reads, ReadsAs}
use Rattle.query_laws.proofs.BoundNodes.{AllAt, each_binds}
use Rattle.binding_laws.specs.Formed.{types_of}
use Rattle.binding_laws.specs.Laws.{ChecksFormed, IsSoundTable}
use Rattle.binding_laws.proofs.Alike.{AlikeTest, SameTest}
use Rattle.binding_laws.proofs.Lists.{after_same, all_mapped, all_of_two}
use Rattle.binding_laws.proofs.Parts.{PassesAt, lasts_passing, reads_of, whole_binds}
use Rattle.binding_laws.proofs.RowAlone.{Gives, GivesAlone, alone_each, gives_after, tests_alike}

-- a CHECK
abbrev check_read : CheckTree → Read BoundTest
check_read check = record { inside = (test_of [] [] check.test).inside; bind = test_whole [] [] check.test }

abbrev parts : List CheckTree → List (Read BoundTest)
parts checks = map check_read checks

checks_is : (checks : List CheckTree) (before : List BoundTest) (at : Context) (done : Progress) → checks_onto [] [] before checks at done ≡ each_onto before (map bind_of (parts checks)) at done
checks_is [] before at done = refl
checks_is (check ∷ rest) before at done = after_same (test_whole [] [] check.test at done) (λ r. checks_onto [] [] (before ++ r.0 ∷ []) rest at r.1) (λ r. each_onto (before ++ r.0 ∷ []) (map bind_of (parts rest)) at r.1)
    (λ r. checks_is rest (before ++ r.0 ∷ []) at r.1)

check_alike : (one two : SettingTypes) → one.row ≡ two.row → (check : CheckTree) → GivesAlone (SameTest one two) (test_whole [] [] check.test)
check_alike one two same check at alone done = gives_after (AlikeTest one two) (SameTest one two) ((test_of [] [] check.test).bind at done) (λ r. Ok (noted_test r.0 r.1)) (tests_alike one two same [] [] check.test at alone done) (λ r h. h)

alike_all : (one two : SettingTypes) → one.row ≡ two.row → (checks : List CheckTree) → AllOf (λ (b : Binding BoundTest). GivesAlone (SameTest one two) b) (map bind_of (parts checks))
alike_all one two same [] = tt
alike_all one two same (check ∷ rest) = (check_alike one two same check, alike_all one two same rest)

module _ (table : TableTree) (sound : IsSoundTable table) where
  abbrev at : Context
  at = row_context table

  abbrev types : SettingTypes
  types = row_types (kinds table.columns)

  abbrev Formed : BoundTest → Type 0
  Formed test = is_formed_test types test ≡ true

  -- what each is bound to is well formed over whatever may be read, and over the row alone the same is found
  ends : (r : List BoundTest × Progress) → each_onto [] (map bind_of (parts table.checks)) at (begin_at 0) ≡ Ok r → r.1.beyond ≡ false → AllOf Formed r.0
  ends r e calm = all_of_two (PassesAt [] [] is_formed_test at r.1) (SameTest whole types) Formed r.0 (λ test h g. sym g ∙ h whole reads) got.1 alike
    where
      -- with the variables, the values of the session and the inner queries that are there
      whole : SettingTypes
      whole = types_of [] [] (kinds table.columns) r.1.inner

      got : Grows [] [] at (each_read (parts table.checks)).inside (begin_at 0) r.1 × AllAt [] [] (PassesAt [] [] is_formed_test) at r.1 r.0
      got = subst (Bound [] [] (AllAt [] [] (PassesAt [] [] is_formed_test)) (each_read (parts table.checks)).inside at (begin_at 0)) e
          (each_binds [] [] (PassesAt [] [] is_formed_test) (parts table.checks) (lasts_passing [] [] is_formed_test)
          (all_mapped check_read (λ (a : Read BoundTest). ReadsAs [] [] (PassesAt [] [] is_formed_test) a) (λ check. whole_binds [] [] check.test) table.checks) at (begin_at 0)) calm

      alike : AllOf (SameTest whole types) r.0
      alike = subst (Gives (AllOf (SameTest whole types))) e (alone_each (SameTest whole types) (map bind_of (parts table.checks)) [] tt (alike_all whole types refl table.checks) at (record { alone = refl; no_sums = refl }) (begin_at 0))

      reads : Reads [] [] at r.1 whole
      reads = reads_of [] [] at r.1 (kinds table.columns) r.1.inner refl (ap kinds (sym (append-nil table.columns))) sound
          ([], [], sym got.0.first, sym (append-nil (inner_kinds [] [] r.1.inner)))

  of_checks : (tests : List BoundTest) (o : Outcome (List BoundTest × Progress)) → each_onto [] (map bind_of (parts table.checks)) at (begin_at 0) ≡ o → after o (λ checks. within_limits (is_beyond checks.1) checks.0) ≡ Ok tests
      → AllOf Formed tests
  of_checks tests (Ok r) e d = by_limits (is_beyond r.1) refl d
    where
      by_limits : (b : Bool) → is_beyond r.1 ≡ b → within_limits b r.0 ≡ Ok tests → AllOf Formed tests
      by_limits true f d = cc
      by_limits false f d = let same : r.0 ≡ tests = cc in subst (AllOf Formed) same (ends r e (or_parts r.1.beyond (nat_lt max_inner r.1.count) f).0)
  of_checks tests (Err refusal) e d = cc

pub checks_formed : ChecksFormed
checks_formed table tests sound e = of_checks table sound tests (checks_onto [] [] [] table.checks (row_context table) (begin_at 0)) (sym (checks_is table.checks [] (row_context table) (begin_at 0))) e
