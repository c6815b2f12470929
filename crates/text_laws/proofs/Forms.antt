-- The statements of a batch by their forms: what each CREATE TABLE keeps, and what stands in the forms that hold statements.
use Rattle.std.specs.Prelude.{◌≡◌, ℕ, zero, suc, Bool, true, false, List, Some, None, refl}
use Rattle.std.proofs.Common.{ap, sym, ◌∙◌, subst}
use Rattle.tsql_tree.specs.declared.statement.Form.{Form, Form-F, roll-Form, out-Form, out-roll-Form}
use Rattle.tsql_tree.specs.declared.statement.Form.TheVariants as form
use Rattle.tsql_tree.specs.declared.statement.Statement.{Statement, roll-Statement, out-roll-Statement}
use Rattle.tsql_grammar.specs.declared.rule.Rule.TheVariants as r
use Rattle.tsql_grammar.specs.Noted.{Noted}
use Rattle.tsql_grammar.specs.Terminals.{Terminal}
use Rattle.tsql_grammar.proofs.RuleTests.{around}
use Rattle.grammar_laws.specs.BySymbols.{Within}
use Rattle.binder.specs.Names.{Layer, form_of}
use Rattle.text_laws.specs.Laws.{EachIn, Everywhere, KeptReads, KeptReadsAs}
use Rattle.text_laws.proofs.Everywhere.{everywhere_by}
use Rattle.text_laws.proofs.Calm.{not_so}
use Rattle.text_laws.proofs.Alike.{P}

-- ---- forms and their layers

pub layer_at : (n : ℕ) (f : Form) → form_of (roll-Statement (record { line = n; form = f })) ≡ out-Form f
layer_at n f = ap (λ z. out-Form z.form) (out-roll-Statement (record { line = n; form = f }))

pub layer_rolled : (layer : Layer) (f : Form) → roll-Form layer ≡ f → out-Form f ≡ layer
layer_rolled layer f rolls = ap out-Form (sym rolls) ∙ out-roll-Form layer

-- a form that creates a table, or holds statements
abbrev nests : Layer → Bool
nests (Form-F.CreateTable table kept) = true
nests (Form-F.If test so otherwise) = true
nests (Form-F.While test body) = true
nests (Form-F.Block body) = true
nests (Form-F.TryCatch body handler) = true
nests form = false

-- of a text of so many units, in which variables are declared, or not
module _ (most : ℕ) (declared : Bool) where
  abbrev pub Keeps : Statement → Type 0
  Keeps of = KeptReads most declared of

  -- what such a form keeps, and what stands in it
  pub record Kept (f : Form) : Type 0 where
    pub keeps : KeptReadsAs most declared (out-Form f)
    pub inner : EachIn (Everywhere Keeps) (out-Form f)

  pub kept_of : (layer : Layer) (f : Form) → roll-Form layer ≡ f → KeptReadsAs most declared layer → EachIn (Everywhere Keeps) layer → Kept f
  kept_of layer f rolls keeps inner = record {
    keeps = subst (KeptReadsAs most declared) (sym (layer_rolled layer f rolls)) keeps;
    inner = subst (EachIn (Everywhere Keeps)) (sym (layer_rolled layer f rolls)) inner;
  }

  plain_keeps : (layer : Layer) → nests layer ≡ false → KeptReadsAs most declared layer × EachIn (Everywhere Keeps) layer
  plain_keeps (Form-F.CreateTable table kept) e = absurd (not_so (sym e))
  plain_keeps (Form-F.If test so otherwise) e = absurd (not_so (sym e))
  plain_keeps (Form-F.While test body) e = absurd (not_so (sym e))
  plain_keeps (Form-F.Block body) e = absurd (not_so (sym e))
  plain_keeps (Form-F.TryCatch body handler) e = absurd (not_so (sym e))
  plain_keeps _ e = (tt, tt)

  pub made : (layer : Layer) (f : Form) → roll-Form layer ≡ f → nests layer ≡ false → Kept f
  made layer f rolls e = let plain = plain_keeps layer e in kept_of layer f rolls plain.0 plain.1

  pub put : (n : ℕ) (f : Form) → Kept f → Everywhere Keeps (roll-Statement (record { line = n; form = f }))
  put n f kept = everywhere_by Keeps (roll-Statement (record { line = n; form = f })) (out-Form f) (layer_at n f) (subst (KeptReadsAs most declared) (sym (layer_at n f)) kept.keeps) kept.inner

  pub kept_by : (f g : Form) → f ≡ g → Kept g → Kept f
  kept_by f g e kept = subst Kept (sym e) kept

module _ (text : List ℕ) (most : ℕ) (declared : Bool) where
  -- ---- forms that are rules of their own

  pub insert_kept : (h : ℕ) (w : List Terminal) (v : List ℕ → Form) (s t : Noted) → Within (P text) h r.AfterInsertTable w v s t → (table : List ℕ) → Kept most declared (v table)
  insert_kept zero w v s t d table = absurd d
  insert_kept (suc h) w v s t (None, vs, e, d) table = kept_by most declared _ _ (ap (λ z. z table) e) (made most declared _ _ (form.rolls-Insert _ _ _) refl)
  insert_kept (suc h) w v s t (Some None, vs, e, d) table = kept_by most declared _ _ (ap (λ z. z table) e) (made most declared _ _ (form.rolls-Insert _ _ _) refl)
  insert_kept (suc h) w v s t (Some (Some p), vs, e, d) table = absurd p

  pub throw_kept : (h : ℕ) (x y : Bool) (w : List Terminal) (f : Form) (s t : Noted) → Within (P text) h (r.ThrowArguments (around x y)) w f s t → Kept most declared f
  throw_kept zero x y w f s t d = absurd d
  throw_kept (suc h) x y w f s t (None, vs, e, d) = kept_by most declared _ _ e (made most declared _ _ (form.rolls-Throw _ _ _) refl)
  throw_kept (suc h) x true w f s t (Some None, vs, e, d) = kept_by most declared _ _ e (made most declared _ _ form.rolls-ThrowAgain refl)
  throw_kept (suc h) x true w f s t (Some (Some p), vs, e, d) = absurd p
  throw_kept (suc h) x false w f s t (Some p, vs, e, d) = absurd p

  pub set_kept : (h : ℕ) (w : List Terminal) (f : Form) (s t : Noted) → Within (P text) h r.AfterSet w f s t → Kept most declared f
  set_kept zero w f s t d = absurd d
  set_kept (suc h) w f s t (None, vs, e, d) = kept_by most declared _ _ e (made most declared _ _ (form.rolls-SetVariable _ _) refl)
  set_kept (suc h) w f s t (Some None, vs, e, d) = kept_by most declared _ _ e (made most declared _ _ (form.rolls-SetOption _) refl)
  set_kept (suc h) w f s t (Some (Some None), vs, e, d) = kept_by most declared _ _ e (made most declared _ _ (form.rolls-SetOption _) refl)
  set_kept (suc h) w f s t (Some (Some (Some None)), vs, e, d) = kept_by most declared _ _ e (made most declared _ _ (form.rolls-SetOption _) refl)
  set_kept (suc h) w f s t (Some (Some (Some (Some None))), vs, e, d) = kept_by most declared _ _ e (made most declared _ _ (form.rolls-SetOption _) refl)
  set_kept (suc h) w f s t (Some (Some (Some (Some (Some None)))), vs, e, d) = kept_by most declared _ _ e (made most declared _ _ (form.rolls-SetOption _) refl)
  set_kept (suc h) w f s t (Some (Some (Some (Some (Some (Some None))))), vs, e, d) = kept_by most declared _ _ e (made most declared _ _ (form.rolls-SetOption _) refl)
  set_kept (suc h) w f s t (Some (Some (Some (Some (Some (Some (Some None)))))), vs, e, d) = kept_by most declared _ _ e (made most declared _ _ (form.rolls-SetOption _) refl)
  set_kept (suc h) w f s t (Some (Some (Some (Some (Some (Some (Some (Some None))))))), vs, e, d) = kept_by most declared _ _ e (made most declared _ _ (form.rolls-SetOption _) refl)
  set_kept (suc h) w f s t (Some (Some (Some (Some (Some (Some (Some (Some (Some None)))))))), vs, e, d) = kept_by most declared _ _ e (made most declared _ _ (form.rolls-SetOption _) refl)
  set_kept (suc h) w f s t (Some (Some (Some (Some (Some (Some (Some (Some (Some (Some None))))))))), vs, e, d) = kept_by most declared _ _ e (made most declared _ _ (form.rolls-SetOption _) refl)
  set_kept (suc h) w f s t (Some (Some (Some (Some (Some (Some (Some (Some (Some (Some (Some None)))))))))), vs, e, d) = kept_by most declared _ _ e (made most declared _ _ (form.rolls-SetOption _) refl)
  set_kept (suc h) w f s t (Some (Some (Some (Some (Some (Some (Some (Some (Some (Some (Some (Some None))))))))))), vs, e, d) = kept_by most declared _ _ e (made most declared _ _ (form.rolls-SetOption _) refl)
  set_kept (suc h) w f s t (Some (Some (Some (Some (Some (Some (Some (Some (Some (Some (Some (Some (Some None)))))))))))), vs, e, d) = kept_by most declared _ _ e (made most declared _ _ (form.rolls-SetOption _) refl)
  set_kept (suc h) w f s t (Some (Some (Some (Some (Some (Some (Some (Some (Some (Some (Some (Some (Some (Some None))))))))))))), vs, e, d) = kept_by most declared _ _ e (made most declared _ _ (form.rolls-SetOption _) refl)
  set_kept (suc h) w f s t (Some (Some (Some (Some (Some (Some (Some (Some (Some (Some (Some (Some (Some (Some (Some None)))))))))))))), vs, e, d) = kept_by most declared _ _ e (made most declared _ _ (form.rolls-SetOption _) refl)
  set_kept (suc h) w f s t (Some (Some (Some (Some (Some (Some (Some (Some (Some (Some (Some (Some (Some (Some (Some (Some None))))))))))))))), vs, e, d) = kept_by most declared _ _ e (made most declared _ _ (form.rolls-SetOption _) refl)
  set_kept (suc h) w f s t (Some (Some (Some (Some (Some (Some (Some (Some (Some (Some (Some (Some (Some (Some (Some (Some (Some None)))))))))))))))), vs, e, d) = kept_by most declared _ _ e (made most declared _ _ (form.rolls-SetOption _) refl)
  set_kept (suc h) w f s t (Some (Some (Some (Some (Some (Some (Some (Some (Some (Some (Some (Some (Some (Some (Some (Some (Some (Some None))))))))))))))))), vs, e, d) = kept_by most declared _ _ e (made most declared _ _ (form.rolls-SetOption _) refl)
  set_kept (suc h) w f s t (Some (Some (Some (Some (Some (Some (Some (Some (Some (Some (Some (Some (Some (Some (Some (Some (Some (Some (Some None)))))))))))))))))), vs, e, d) = kept_by most declared _ _ e (made most declared _ _ (form.rolls-SetOption _) refl)
  set_kept (suc h) w f s t (Some (Some (Some (Some (Some (Some (Some (Some (Some (Some (Some (Some (Some (Some (Some (Some (Some (Some (Some (Some None))))))))))))))))))), vs, e, d) = kept_by most declared _ _ e (made most declared _ _ (form.rolls-SetOption _) refl)
  set_kept (suc h) w f s t (Some (Some (Some (Some (Some (Some (Some (Some (Some (Some (Some (Some (Some (Some (Some (Some (Some (Some (Some (Some (Some None)))))))))))))))))))), vs, e, d) = kept_by most declared _ _ e (made most declared _ _ (form.rolls-SetOption _) refl)
  set_kept (suc h) w f s t (Some (Some (Some (Some (Some (Some (Some (Some (Some (Some (Some (Some (Some (Some (Some (Some (Some (Some (Some (Some (Some (Some p))))))))))))))))))))), vs, e, d) = absurd p

  pub execute_kept : (h : ℕ) (w : List Terminal) (f : Form) (s t : Noted) → Within (P text) h r.AfterExecute w f s t → Kept most declared f
  execute_kept zero w f s t d = absurd d
  execute_kept (suc h) w f s t (None, vs, e, d) = kept_by most declared _ _ e (made most declared _ _ (form.rolls-Execute _ _ _) refl)
  execute_kept (suc h) w f s t (Some None, vs, e, d) = kept_by most declared _ _ e (made most declared _ _ (form.rolls-Execute _ _ _) refl)
  execute_kept (suc h) w f s t (Some (Some p), vs, e, d) = absurd p
