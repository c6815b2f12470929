-- A text has one outcome.
use Rattle.std.specs.Prelude.{◌≡◌, ◌≤◌, ◌⊎◌, ℕ, zero, suc, ℤ, true, List, [], ◌∷◌, ◌++◌, take, Option, Some, None, Result, Ok, Err, refl}
use Rattle.std.proofs.Common.{ap, sym, ◌∙◌, subst, arith, inl, inr, append_assoc}
use Rattle.tsql_lexer.specs.declared.lexeme.Spanned.{Spanned}
use Rattle.tsql_tree.specs.declared.definition.Definition.{Definition}
use Rattle.tsql_tree.specs.declared.statement.Batch.{Batch}
use Rattle.tsql_grammar.specs.declared.noted.TextFault.{TextFault}
use Rattle.tsql_grammar.specs.declared.rule.Rule.{Rule}
use Rattle.tsql_grammar.specs.declared.rule.Rule.TheVariants as r
use Rattle.tsql_grammar.specs.Noted.{Noted, start}
use Rattle.tsql_grammar.specs.PlainText.{IsPlainText}
use Rattle.tsql_grammar.specs.Productions.{Tree}
use Rattle.tsql_grammar.specs.Terminals.{terminals}
use Rattle.tsql_grammar.proofs.PlainTexts.{plain_reads}
use Rattle.tsql_grammar.proofs.Readings.{one_reading}
use Rattle.tsql_grammar.specs.declared.fault.ParseFault.{ParseFault}
use Rattle.tsql_grammar.specs.declared.fault.ParseFault.TheVariants as fault
use Rattle.tsql_grammar.specs.Parsed.{lexemes_of, end_of, Stands, BeginsText, StopsText, line_in, near_in, shown_of, number_of, IsUnread, IsWrong, BatchOf, DefinitionOf}

one_tree : (a : Rule) (text : List ℕ) (x y : Tree a) (f g : Option (TextFault × ℕ)) → Stands a text x f → Stands a text y g → (x ≡ y) × (f ≡ g)
one_tree a text x y f g s u =
    let p = s.reads in
    let q = u.reads in
    let same = one_reading text a (terminals (lexemes_of text)) x y (start true) p.0 q.0 (plain_reads text a (lexemes_of text) x (start true) p.0 p.1) (plain_reads text a (lexemes_of text) y (start true) q.0 q.1) in
    (same.0, sym p.2 ∙ ap (λ (t : Noted). t.fault) same.1 ∙ q.2)

-- a front of a longer front
shorter : (w : List Spanned) (n m : ℕ) → n ≤ m → (rest : List Spanned) × (take m w ≡ take n w ++ rest)
shorter w zero m h = (take m w, refl)
shorter w (suc n) zero h = absurd (omega arith)
shorter [] (suc n) (suc m) h = ([], refl)
shorter (x ∷ w) (suc n) (suc m) h =
    let lower : n ≤ m = omega arith in
    let s = shorter w n m lower in
    (s.0, ap (λ (z : List Spanned). x ∷ z) s.1)

begins_shorter : (a : Rule) (text : List ℕ) (n m : ℕ) → n ≤ m → BeginsText a text (take m (lexemes_of text)) → BeginsText a text (take n (lexemes_of text))
begins_shorter a text n m h b =
    let s = shorter (lexemes_of text) n m h in
    let same : take m (lexemes_of text) ++ b.0 ≡ take n (lexemes_of text) ++ (s.0 ++ b.0) = ap (λ (z : List Spanned). z ++ b.0) s.1 ∙ append_assoc (take n (lexemes_of text)) s.0 b.0 in
    (s.0 ++ b.0, b.1, subst (λ (z : List Spanned). IsPlainText text a z (start true) b.1) same b.2)

abbrev Compared : ℕ → ℕ → Type 0
Compared n m = (suc n ≤ m) ⊎ ((n ≡ m) ⊎ (suc m ≤ n))

compare : (n m : ℕ) → Compared n m
compare zero zero = inr (inl refl)
compare zero (suc m) = inl (omega arith)
compare (suc n) zero = inr (inr (omega arith))
compare (suc n) (suc m) = elim (compare n m) [
  | inl h ↦ inl (omega arith)
  | inr e ↦ elim e [
    | inl s ↦ inr (inl (ap suc s))
    | inr h ↦ inr (inr (omega arith))
  ]
]

one_place : (a : Rule) (text : List ℕ) (n m : ℕ) → StopsText a text n → StopsText a text m → n ≡ m
one_place a text n m s u = elim (compare n m) [
  | inl h ↦ absurd (s.further (let w = u.within in omega arith) (begins_shorter a text (suc n) m h u.begins))
  | inr e ↦ elim e [
    | inl same ↦ same
    | inr h ↦ absurd (u.further (let w = s.within in omega arith) (begins_shorter a text (suc m) n h s.begins))
  ]
]

-- the place and the fault of what is wrong
fault_of : TextFault → Option (TextFault × ℕ) → TextFault
fault_of d None = d
fault_of d (Some x) = x.0

place_of : ℕ → Option (TextFault × ℕ) → ℕ
place_of d None = d
place_of d (Some x) = x.1

one_fault : (a : Rule) (text : List ℕ) (n m : ℤ) (l k : ℕ) (u v : List ℕ) → IsUnread a text n l u ⊎ IsWrong a text n l u → IsUnread a text m k v ⊎ IsWrong a text m k v
    → fault.Refused n l u ≡ fault.Refused m k v
unfolding fault_of place_of
one_fault a text n m l k u v x y = elim x [
  | inl p ↦ elim y [
    | inl q ↦
        let at = one_place a text p.at q.at p.stops q.stops in
        let number : n ≡ m = p.number_is ∙ sym q.number_is in
        let line : l ≡ k = p.line_is ∙ ap (line_in text) at ∙ sym q.line_is in
        let near : u ≡ v = p.near_is ∙ ap (near_in text) at ∙ sym q.near_is in
        cc
    | inr q ↦ absurd (p.stops.unread q.tree (Some (q.fault, q.at)) q.stands)
  ]
  | inr p ↦ elim y [
    | inl q ↦ absurd (q.stops.unread p.tree (Some (p.fault, p.at)) p.stands)
    | inr q ↦
        let same = (one_tree a text p.tree q.tree (Some (p.fault, p.at)) (Some (q.fault, q.at)) p.stands q.stands).1 in
        let f : p.fault ≡ q.fault = ap (fault_of p.fault) same in
        let at : p.at ≡ q.at = ap (place_of p.at) same in
        let number : n ≡ m = p.number_is ∙ ap number_of f ∙ sym q.number_is in
        let line : l ≡ k = p.line_is ∙ ap (line_in text) at ∙ sym q.line_is in
        let near : u ≡ v = p.near_is ∙ ap (λ (g : TextFault). shown_of g text p.at) f ∙ ap (shown_of q.fault text) at ∙ sym q.near_is in
        cc
  ]
]

sound : (a : Rule) (text : List ℕ) (tree : Tree a) (n : ℤ) (l : ℕ) (u : List ℕ) → Stands a text tree None → IsUnread a text n l u ⊎ IsWrong a text n l u → ⊥
sound a text tree n l u s x = elim x [
  | inl p ↦ p.stops.unread tree None s
  | inr p ↦ let same = (one_tree a text tree p.tree None (Some (p.fault, p.at)) s p.stands).1 in absurd (cc)
]

pub one_batch : (text : List ℕ) (x y : Result Batch ParseFault) → (x ≡ Err fault.Memory → ⊥) → (y ≡ Err fault.Memory → ⊥) → BatchOf text x → BatchOf text y → x ≡ y
one_batch text (Ok b) (Ok c) h g s u =
    let same = (one_tree r.Batch text s.0 u.0 None None s.1 u.1).0 in
    let one : b ≡ c = s.2 ∙ ap (λ (t : Tree r.Batch). t (end_of (lexemes_of text))) same ∙ sym u.2 in
    ap Ok one
one_batch text (Ok b) (Err fault.Memory) h g s u = absurd (g refl)
one_batch text (Ok b) (Err (fault.Refused n l v)) h g s u = absurd (sound r.Batch text s.0 n l v s.1 u)
one_batch text (Err fault.Memory) y h g s u = absurd (h refl)
one_batch text (Err (fault.Refused n l v)) (Ok b) h g s u = absurd (sound r.Batch text u.0 n l v u.1 s)
one_batch text (Err (fault.Refused n l v)) (Err fault.Memory) h g s u = absurd (g refl)
one_batch text (Err (fault.Refused n l v)) (Err (fault.Refused m k w)) h g s u = ap Err (one_fault r.Batch text n m l k v w s u)

pub one_definition : (text : List ℕ) (x y : Result Definition ParseFault) → (x ≡ Err fault.Memory → ⊥) → (y ≡ Err fault.Memory → ⊥) → DefinitionOf text x → DefinitionOf text y → x ≡ y
one_definition text (Ok b) (Ok c) h g s u = ap Ok (one_tree r.Definition text b c None None s u).0
one_definition text (Ok b) (Err fault.Memory) h g s u = absurd (g refl)
one_definition text (Ok b) (Err (fault.Refused n l v)) h g s u = absurd (sound r.Definition text b n l v s u)
one_definition text (Err fault.Memory) y h g s u = absurd (h refl)
one_definition text (Err (fault.Refused n l v)) (Ok b) h g s u = absurd (sound r.Definition text b n l v u s)
one_definition text (Err (fault.Refused n l v)) (Err fault.Memory) h g s u = absurd (g refl)
one_definition text (Err (fault.Refused n l v)) (Err (fault.Refused m k w)) h g s u = ap Err (one_fault r.Definition text n m l k v w s u)
