-- What reading by descent is of the options of SET whose known settings change nothing.
use Rattle.std.specs.Prelude.{◌≡◌, List, [], ◌∷◌, Some, Result, refl}
use Rattle.std.proofs.Common.{sym, subst}
use Rattle.tsql_tree.specs.declared.option.FixedOption.{FixedOption}
use Rattle.tsql_tree.specs.declared.option.FixedOption.TheVariants as o
use Rattle.tsql_tree.specs.declared.statement.Form.{Form}
use Rattle.tsql_grammar.specs.declared.kind.Kind.TheVariants as k
use Rattle.tsql_grammar.specs.Terminals.{Terminal, kind as kind_at}
use Rattle.lexeme_reader.specs.Reading.{Outcome, ahead, expect, Gives}
use Rattle.lexeme_reader.specs.declared.fault.ReadFault.{ReadFault}
use Rattle.statement_words.specs.Forms.{fixed_option_form, known_option_form}

fixed_at : (a : FixedOption) (t : Terminal) (w : List Terminal) → kind_at t ≡ k.Fixed a → fixed_option_form (t ∷ w) ≡ known_option_form a (t ∷ w)
unfolding expect fixed_option_form
fixed_at o.AnsiNulls t w e = rw e refl
fixed_at _ t w e = rw e refl

fixed_is : (a : FixedOption) (w : List Terminal) → ahead w ≡ Some (k.Fixed a) → fixed_option_form w ≡ known_option_form a w
fixed_is a [] e = absurd (cc)
fixed_is a (t ∷ w) e = let same : kind_at t ≡ k.Fixed a = cc in fixed_at a t w same

pub fixed_gives : (a : FixedOption) (w : List Terminal) (result : Result Form ReadFault) (rest : List Terminal) → ahead w ≡ Some (k.Fixed a) → Gives (known_option_form a w) result rest → Gives (fixed_option_form w) result rest
fixed_gives a w result rest e g = subst (λ (o : Outcome Form). Gives o result rest) (sym (fixed_is a w e)) g
