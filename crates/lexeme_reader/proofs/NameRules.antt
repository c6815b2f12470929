-- What reading by descent is of the names of objects and of types.
use Rattle.std.specs.Prelude.{◌≡◌, ℕ, List, [], Some, refl}
use Rattle.std.proofs.Common.{ap, ◌∙◌}
use Rattle.value_types.specs.declared.sql_type.SqlType.TheVariants as kind
use Rattle.tsql_lexer.specs.declared.lexeme.Sign.{Sign}
use Rattle.tsql_lexer.specs.declared.lexeme.Sign.TheVariants as s
use Rattle.tsql_grammar.specs.declared.kind.Kind.TheVariants as k
use Rattle.tsql_grammar.specs.declared.kind.Word.{Word}
use Rattle.tsql_grammar.specs.declared.kind.Word.TheVariants as v
use Rattle.tsql_grammar.specs.declared.rule.Class.{Class}
use Rattle.tsql_grammar.specs.declared.rule.Class.TheVariants as c
use Rattle.tsql_grammar.specs.declared.rule.Rule.TheVariants as r
use Rattle.tsql_grammar.specs.Terminals.{Terminal, units, size}
use Rattle.lexeme_reader.proofs.Front.{when_bind, bind_assoc}
use Rattle.lexeme_reader.proofs.Ways.{by_order}
use Rattle.lexeme_reader.specs.Reading.{read, expect, ◌>>=◌, when, applied}

abbrev sign : Sign → Class
sign a = c.One (k.Sign a)

abbrev plain : Word → Class
plain a = c.One (k.Word a)

pub object_is : (w : List Terminal) → read r.Object w
    ≡ when (expect c.OtherName w) (λ x. Some (units x.0, x.1)) (do x ← expect (c.One k.Dbo) w; y ← read r.AfterDbo x.1; Some (y.0 (units x.0), y.1))
object_is w = by_order [] r.Object w refl

pub after_dbo_is : (dbo : List ℕ) (w : List Terminal) → applied dbo (read r.AfterDbo w)
    ≡ when (expect (sign s.Dot) w) (λ x. do y ← expect c.Name x.1; Some (units y.0, y.1)) (Some (dbo, w))
after_dbo_is dbo w = ap (applied dbo) (by_order [] r.AfterDbo w refl) ∙ simp (when_bind, bind_assoc)

pub sql_type_is : (w : List Terminal) → read r.Type w
    ≡ when (expect (plain v.TinyInt) w) (λ x. Some (kind.TinyInt, x.1))
    (when (expect (plain v.SmallInt) w) (λ x. Some (kind.SmallInt, x.1))
    (when (expect (plain v.Int) w) (λ x. Some (kind.Int, x.1))
    (when (expect (plain v.BigInt) w) (λ x. Some (kind.BigInt, x.1))
    (when (expect (plain v.Bit) w) (λ x. Some (kind.Bit, x.1))
    (do x ← expect (plain v.NVarChar) w; y ← expect (sign s.Open) x.1; z ← expect (c.One k.Number) y.1; a ← expect (sign s.Close) z.1; Some (kind.NText (size z.0), a.1))))))
sql_type_is w = by_order [] r.Type w refl
