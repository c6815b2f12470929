use Rattle.std.proofs.Common.{◌≡◌, ℕ, ◌++◌, ◌∷◌, [], None, List, map, Vec, Global, All, ap, sym, subst, ◌∙◌, arith, rules, is_some, false, Option, Some}
use Rattle.session_vars.specs.declared.Variable.{Variable}
use Rattle.std.proofs.lemmas.List.Elements.{All-push}
use Rattle.session_vars.specs.Variables.{HasItsType, place_of, fresh}
use Rattle.session_vars.proofs.Named.{names_more}
use Rattle.session_vars.proofs.Vars.declare.Goals as goal

is_none : (place : Option ℕ) → is_some place ≡ false → place ≡ None
is_none None h = search rules
is_none (Some place) h = cc

pub invariant_of-self-2 : goal.invariant_of-self-2
invariant_of-self-2 c =
    let keys = c.self.inside.names.keys in
    let items = c.self.inside.variables.items in
    let absent : c.find.result ≡ None = is_none c.find.result (search rules) in
    let none : place_of c.args.name items ≡ None = ap (λ (variables : List Variable). place_of c.args.name variables) c.self.view_is ∙ sym c.find.ensures ∙ absent in
    let pushed : c.push.new.self.items ≡ items ++ fresh c.args.name c.args.kind ∷ [] = c.in_ok-push.ensures.items ∙ ap (λ (variables : List Variable). variables ++ fresh c.args.name c.args.kind ∷ []) c.in_ok-reserve.ensures.items in
    let more = names_more keys items c.in_ok-key.key (fresh c.args.name c.args.kind) c.self.invariant.0 (c.in_ok-key.ensures.items ∙ c.as_slice.ensures) none in (
      ap (λ (ks : List (Vec ℕ Global)). map (λ key. key.items) ks) c.in_ok-insert.ensures.keys ∙ more ∙ ap (λ (variables : List Variable). map (λ variable. variable.name) variables) (sym pushed),
      grind (arith, c.in_ok-push.ensures.len, c.in_ok-reserve.ensures.len, c.self.view_is, c.requires),
      subst (All HasItsType) (sym pushed) (All-push HasItsType items (fresh c.args.name c.args.kind) c.self.invariant.2 tt),
    )
