use Rattle.std.specs.Prelude.{min}
use Rattle.std.proofs.Common.{◌∙◌, map, ap}
use Rattle.tsql_grammar.specs.Words.{capital, look_up, name_kind, word_kind}
use Rattle.tsql_grammar.specs.WordLetters.{place_of}
use Rattle.tsql_grammar.proofs.Spellings.{among_its_letter}
use Rattle.tsql_grammar.proofs.words.word_kind.Goals as goal

pub returns : goal.returns
unfolding word_kind
returns c =
    c.look_up.ensures ∙ (λ i. look_up (c.words_at.ensures i) (map capital (c.as_slice-units.ensures i)) (c.name_kind.ensures i))
    ∙ among_its_letter (map capital c.args.word.now) (name_kind c.args.word.now) (min c.place_of.result 24)
    (ap (λ n. min n 24) (c.place_of.ensures ∙ ap (λ u. place_of (map capital u)) c.as_slice-units.ensures))
