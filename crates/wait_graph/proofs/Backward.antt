-- Where a trail has all that wait for the session, and all that wait for these, a cycle through the session has
-- put the session onto it.
use Rattle.std.proofs.Common.{◌≡◌, inl, inr, ℕ, ◌==◌, ◌||◌, Bool, true, false, List, [], ◌∷◌, refl, sym, ◌∙◌, subst, eqb-true}
use Rattle.std.specs.List.{AllByRecursion, Contains}
use Rattle.step_model.specs.declared.edge.Edge.{Edge}
use Rattle.step_model.specs.Cycles.{Conflicts, Leads, is_waiter, HasNoCycle}
use Rattle.wait_graph.specs.Lists.{AreAmong}
use Rattle.wait_graph.specs.Trails.{Known, HasWaiters}

module _ (all : List Edge) (session : ℕ) (edges : List Edge) (closed : (who : ℕ) → Known who session edges → HasWaiters all who edges) where
  -- who waits for one that is known waits by the trail
  one_back : (edge : Edge) → Contains all edge → Conflicts edge → Known edge.holder session edges → is_waiter edge.waiter edges ≡ true
  one_back edge among conflicts known = closed edge.holder known edge among conflicts refl

  -- so is the first of those that lead to one that is known
  leads_known : (first last : ℕ) (some : List Edge) → Leads first some last → AreAmong some all → AllByRecursion Conflicts some → Known last session edges → Known first session edges
  leads_known first last [] leads among conflict known = subst (λ (n : ℕ). Known n session edges) (sym leads) known
  leads_known first last (edge ∷ some) leads among conflict known =
      subst (λ (n : ℕ). Known n session edges) leads.0 (inr (one_back edge among.0 conflict.0 (leads_known edge.holder last some leads.1 among.1 conflict.1 known)))

  -- the first of those that lead past the session is known
  first_known : (first last : ℕ) (some : List Edge) → Leads first some last → AreAmong some all → AllByRecursion Conflicts some → is_waiter session some ≡ true → Known first session edges
  first_known first last [] leads among conflict waits = absurd (let h : false ≡ true = waits in cc)
  first_known first last (edge ∷ some) leads among conflict waits = by_test (session == edge.waiter) refl waits (first_known edge.holder last some leads.1 among.1 conflict.1)
    where
      by_test : (b : Bool) → (session == edge.waiter) ≡ b → (b || is_waiter session some) ≡ true → (is_waiter session some ≡ true → Known edge.holder session edges) → Known first session edges
      by_test true is there rest = inl (sym leads.0 ∙ sym (eqb-true session edge.waiter is))
      by_test false is there rest = subst (λ (n : ℕ). Known n session edges) leads.0 (inr (one_back edge among.0 conflict.0 (rest there)))

  -- where they lead past the session to one that is known, the session waits by the trail
  session_waits : (first last : ℕ) (some : List Edge) → Leads first some last → AreAmong some all → AllByRecursion Conflicts some → Known last session edges → is_waiter session some ≡ true → is_waiter session edges ≡ true
  session_waits first last [] leads among conflict known waits = absurd (let h : false ≡ true = waits in cc)
  session_waits first last (edge ∷ some) leads among conflict known waits = by_test (session == edge.waiter) refl waits (session_waits edge.holder last some leads.1 among.1 conflict.1 known)
    where
      by_test : (b : Bool) → (session == edge.waiter) ≡ b → (b || is_waiter session some) ≡ true → (is_waiter session some ≡ true → is_waiter session edges ≡ true) → is_waiter session edges ≡ true
      by_test true is there rest =
          subst (λ (n : ℕ). is_waiter n edges ≡ true) (sym (eqb-true session edge.waiter is)) (one_back edge among.0 conflict.0 (leads_known edge.holder last some leads.1 among.1 conflict.1 known))
      by_test false is there rest = rest there

  pub none_through : is_waiter session edges ≡ false → HasNoCycle (Contains all) session
  none_through none [] cycle among waits = cycle
  none_through none (edge ∷ some) cycle among waits =
      let leads : Leads edge.waiter (edge ∷ some) edge.waiter = (refl, cycle.2) in
      let known = first_known edge.waiter edge.waiter (edge ∷ some) leads among cycle.0 waits in
      let there = session_waits edge.waiter edge.waiter (edge ∷ some) leads among cycle.0 known waits in
      let h : true ≡ false = sym there ∙ none in cc
