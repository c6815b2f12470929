use Rattle.std.specs.Prelude.{min}
use Rattle.std.proofs.Common.{ap, sym, ◌∙◌, ◌≡◌, arith}
use Rattle.tsql_grammar.specs.WordLetters.{words_at}
use Rattle.tsql_grammar.proofs.Spellings.{same_0, same_1, same_2, same_3, same_4, same_5, same_6, same_7, same_8, same_9, same_10, same_11, same_12, same_13, same_14, same_15, same_16, same_17, same_18, same_19, same_20, same_21, same_22, same_23, same_24}
use Rattle.tsql_grammar.proofs.words.words_at.Goals as goal

pub returns-in-0 : goal.returns-in-0
returns-in-0 c = same_0 ∙ ap (λ n. words_at (min n 24)) (sym c.in-0.is)

pub returns-in-1 : goal.returns-in-1
returns-in-1 c = same_1 ∙ ap (λ n. words_at (min n 24)) (sym c.in-1.is)

pub returns-in-2 : goal.returns-in-2
returns-in-2 c = same_2 ∙ ap (λ n. words_at (min n 24)) (sym c.in-2.is)

pub returns-in-3 : goal.returns-in-3
returns-in-3 c = same_3 ∙ ap (λ n. words_at (min n 24)) (sym c.in-3.is)

pub returns-in-4 : goal.returns-in-4
returns-in-4 c = same_4 ∙ ap (λ n. words_at (min n 24)) (sym c.in-4.is)

pub returns-in-5 : goal.returns-in-5
returns-in-5 c = same_5 ∙ ap (λ n. words_at (min n 24)) (sym c.in-5.is)

pub returns-in-6 : goal.returns-in-6
returns-in-6 c = same_6 ∙ ap (λ n. words_at (min n 24)) (sym c.in-6.is)

pub returns-in-7 : goal.returns-in-7
returns-in-7 c = same_7 ∙ ap (λ n. words_at (min n 24)) (sym c.in-7.is)

pub returns-in-8 : goal.returns-in-8
returns-in-8 c = same_8 ∙ ap (λ n. words_at (min n 24)) (sym c.in-8.is)

pub returns-in-9 : goal.returns-in-9
returns-in-9 c = same_9 ∙ ap (λ n. words_at (min n 24)) (sym c.in-9.is)

pub returns-in-10 : goal.returns-in-10
returns-in-10 c = same_10 ∙ ap (λ n. words_at (min n 24)) (sym c.in-10.is)

pub returns-in-11 : goal.returns-in-11
returns-in-11 c = same_11 ∙ ap (λ n. words_at (min n 24)) (sym c.in-11.is)

pub returns-in-12 : goal.returns-in-12
returns-in-12 c = same_12 ∙ ap (λ n. words_at (min n 24)) (sym c.in-12.is)

pub returns-in-13 : goal.returns-in-13
returns-in-13 c = same_13 ∙ ap (λ n. words_at (min n 24)) (sym c.in-13.is)

pub returns-in-14 : goal.returns-in-14
returns-in-14 c = same_14 ∙ ap (λ n. words_at (min n 24)) (sym c.in-14.is)

pub returns-in-15 : goal.returns-in-15
returns-in-15 c = same_15 ∙ ap (λ n. words_at (min n 24)) (sym c.in-15.is)

pub returns-in-16 : goal.returns-in-16
returns-in-16 c = same_16 ∙ ap (λ n. words_at (min n 24)) (sym c.in-16.is)

pub returns-in-17 : goal.returns-in-17
returns-in-17 c = same_17 ∙ ap (λ n. words_at (min n 24)) (sym c.in-17.is)

pub returns-in-18 : goal.returns-in-18
returns-in-18 c = same_18 ∙ ap (λ n. words_at (min n 24)) (sym c.in-18.is)

pub returns-in-19 : goal.returns-in-19
returns-in-19 c = same_19 ∙ ap (λ n. words_at (min n 24)) (sym c.in-19.is)

pub returns-in-20 : goal.returns-in-20
returns-in-20 c = same_20 ∙ ap (λ n. words_at (min n 24)) (sym c.in-20.is)

pub returns-in-21 : goal.returns-in-21
returns-in-21 c = same_21 ∙ ap (λ n. words_at (min n 24)) (sym c.in-21.is)

pub returns-in-22 : goal.returns-in-22
returns-in-22 c = same_22 ∙ ap (λ n. words_at (min n 24)) (sym c.in-22.is)

pub returns-in-23 : goal.returns-in-23
returns-in-23 c = same_23 ∙ ap (λ n. words_at (min n 24)) (sym c.in-23.is)

pub returns-in_default : goal.returns-in_default
returns-in_default c =
    let many : 24 ≡ min c.args.place 24 = omega (arith, c.in_default) in
    same_24 ∙ ap words_at many
