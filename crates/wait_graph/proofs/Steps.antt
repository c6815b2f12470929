-- One edge more: at the front of a trail, and at the end of a way back.
use Rattle.std.proofs.Common.{◌≡◌, ◌≢◌, ℕ, ◌<◌, ◌==◌, Bool, true, false, List, [], ◌∷◌, ◌++◌, map, reverse, length, get_or, refl, sym, ap, ◌∙◌, if◌then◌else◌, Bor, eqb-true, eq-eqb, append-nil}
use Rattle.std.proofs.lemmas.List.{map-append, get_or-map, length-map, length-reverse, reverse-append, reverse-reverse}
use Rattle.step_model.specs.declared.edge.Edge.{Edge}
use Rattle.wait_graph.specs.Trails.{back_from, waiter_at}

-- who is wanted behind these edges
abbrev pub back_end : ℕ → List Edge → ℕ
back_end who [] = who
back_end who (edge ∷ edges) = if edge.waiter == who then back_end edge.holder edges else back_end who edges

pub back_more : (who : ℕ) (edges : List Edge) (last : Edge) → back_from who (edges ++ last ∷ []) ≡ back_from who edges ++ (if last.waiter == back_end who edges then last ∷ [] else [])
back_more who [] last = refl
back_more who (edge ∷ edges) last = by_test (edge.waiter == who) (back_more edge.holder edges last) (back_more who edges last)
  where
    by_test : (b : Bool) → back_from edge.holder (edges ++ last ∷ []) ≡ back_from edge.holder edges ++ (if last.waiter == back_end edge.holder edges then last ∷ [] else [])
        → back_from who (edges ++ last ∷ []) ≡ back_from who edges ++ (if last.waiter == back_end who edges then last ∷ [] else [])
        → (if b then edge ∷ back_from edge.holder (edges ++ last ∷ []) else back_from who (edges ++ last ∷ [])) ≡ (if b then edge ∷ back_from edge.holder edges else back_from who edges) ++ (if last.waiter == (if b then back_end edge.holder edges else back_end who edges) then last ∷ [] else [])
    by_test true here past = ap (λ (es : List Edge). edge ∷ es) here
    by_test false here past = past

pub end_more : (who : ℕ) (edges : List Edge) (last : Edge) → back_end who (edges ++ last ∷ []) ≡ (if last.waiter == back_end who edges then last.holder else back_end who edges)
end_more who [] last = refl
end_more who (edge ∷ edges) last = by_test (edge.waiter == who) (end_more edge.holder edges last) (end_more who edges last)
  where
    by_test : (b : Bool) → back_end edge.holder (edges ++ last ∷ []) ≡ (if last.waiter == back_end edge.holder edges then last.holder else back_end edge.holder edges)
        → back_end who (edges ++ last ∷ []) ≡ (if last.waiter == back_end who edges then last.holder else back_end who edges)
        → (if b then back_end edge.holder (edges ++ last ∷ []) else back_end who (edges ++ last ∷ [])) ≡ (if last.waiter == (if b then back_end edge.holder edges else back_end who edges) then last.holder else (if b then back_end edge.holder edges else back_end who edges))
    by_test true here past = here
    by_test false here past = past

-- what the steps of a walk are
abbrev pub walked : List (Bor (Bor Edge)) → List Edge
walked steps = map (λ (step : Bor (Bor Edge)). step.now.now) steps

-- the edge that is wanted is taken
pub took : (who wanted : ℕ) (steps : List (Bor (Bor Edge))) (step : Bor (Bor Edge)) (so_far new : List Edge) (copy : Edge) → so_far ≡ back_from who (walked steps) → wanted ≡ back_end who (walked steps)
    → step.now.now.waiter ≡ wanted → copy ≡ step.now.now → new ≡ so_far ++ copy ∷ []
    → (new ≡ back_from who (walked (steps ++ step ∷ []))) × (step.now.now.holder ≡ back_end who (walked (steps ++ step ∷ [])))
took who wanted steps step so_far new copy edges wants is copied pushed =
    let test : (step.now.now.waiter == back_end who (walked steps)) ≡ true = eq-eqb step.now.now.waiter (back_end who (walked steps)) (is ∙ wants) in (
      pushed ∙ ap (λ (es : List Edge). es ++ copy ∷ []) edges ∙ ap (λ (e : Edge). back_from who (walked steps) ++ e ∷ []) copied ∙ sym (ap (back_from who) (map-append (λ (step : Bor (Bor Edge)). step.now.now) steps (step ∷ [])) ∙ back_more who (walked steps) step.now.now ∙ ap (λ (b : Bool). back_from who (walked steps) ++ (if b then step.now.now ∷ [] else [])) test),
      sym (ap (back_end who) (map-append (λ (step : Bor (Bor Edge)). step.now.now) steps (step ∷ [])) ∙ end_more who (walked steps) step.now.now ∙ ap (λ (b : Bool). if b then step.now.now.holder else back_end who (walked steps)) test),
    )

-- every other is passed
pub passed : (who wanted : ℕ) (steps : List (Bor (Bor Edge))) (step : Bor (Bor Edge)) (so_far : List Edge) → so_far ≡ back_from who (walked steps) → wanted ≡ back_end who (walked steps)
    → step.now.now.waiter ≢ wanted → (so_far ≡ back_from who (walked (steps ++ step ∷ []))) × (wanted ≡ back_end who (walked (steps ++ step ∷ [])))
passed who wanted steps step so_far edges wants differ =
    let test : (step.now.now.waiter == back_end who (walked steps)) ≡ false = by_test (step.now.now.waiter == back_end who (walked steps)) refl in (
      edges ∙ sym (ap (back_from who) (map-append (λ (step : Bor (Bor Edge)). step.now.now) steps (step ∷ [])) ∙ back_more who (walked steps) step.now.now ∙ ap (λ (b : Bool). back_from who (walked steps) ++ (if b then step.now.now ∷ [] else [])) test ∙ append-nil (back_from who (walked steps))),
      wants ∙ sym (ap (back_end who) (map-append (λ (step : Bor (Bor Edge)). step.now.now) steps (step ∷ [])) ∙ end_more who (walked steps) step.now.now ∙ ap (λ (b : Bool). if b then step.now.now.holder else back_end who (walked steps)) test),
    )
  where
    by_test : (b : Bool) → (step.now.now.waiter == back_end who (walked steps)) ≡ b → b ≡ false
    by_test true same = absurd (differ (eqb-true step.now.now.waiter (back_end who (walked steps)) same ∙ sym wants))
    by_test false same = refl

pub map_reverse : {A B : Type 0} → (f : A → B) (xs : List A) → map f (reverse xs) ≡ reverse (map f xs)
map_reverse {A} {B} f [] = refl
map_reverse {A} {B} f (x ∷ xs) =
    ap (map f) (reverse-append (x ∷ []) xs) ∙ map-append f (reverse xs) (x ∷ []) ∙ ap (λ (ys : List B). ys ++ f x ∷ []) (map_reverse f xs) ∙ sym (reverse-append (f x ∷ []) (map f xs))

-- behind all steps, from the last to the first
pub came_back : (who : ℕ) (walk : List (Bor (Bor Edge))) (steps : List (Bor Edge)) (edges : List Edge) → map (λ (step : Bor (Bor Edge)). step.now) walk ≡ reverse steps → edges ≡ back_from who (walked walk)
    → edges ≡ back_from who (reverse (map (λ (step : Bor Edge). step.now) steps))
came_back who walk steps edges all is = is ∙ ap (back_from who) (twice walk ∙ ap (map (λ (step : Bor Edge). step.now)) all ∙ map_reverse (λ (step : Bor Edge). step.now) steps)
  where
    twice : (walk : List (Bor (Bor Edge))) → walked walk ≡ map (λ (step : Bor Edge). step.now) (map (λ (step : Bor (Bor Edge)). step.now) walk)
    twice [] = refl
    twice (step ∷ walk) = ap (λ (es : List Edge). step.now.now ∷ es) (twice walk)

-- the waiter at a place
pub waiter_is : (place : ℕ) (steps : List (Bor Edge)) (step : Bor Edge) → place < length steps → step ≡ get_or steps place step → step.now.waiter ≡ waiter_at place (reverse (map (λ (step : Bor Edge). step.now) steps))
waiter_is place steps step below is =
    sym (ap (λ (es : List Edge). get_or (map (λ (edge : Edge). edge.waiter) es) place 0) (reverse-reverse (map (λ (step : Bor Edge). step.now) steps))
    ∙ get_or-map (λ (edge : Edge). edge.waiter) (map (λ (step : Bor Edge). step.now) steps) place step.now 0 (rw length-map below)
    ∙ ap (λ (edge : Edge). edge.waiter) (get_or-map (λ (step : Bor Edge). step.now) steps place step step.now below ∙ ap (λ (step : Bor Edge). step.now) (sym is)))

pub place_below : (place : ℕ) (steps : List (Bor Edge)) → place < length (reverse (map (λ (step : Bor Edge). step.now) steps)) → place < length steps
place_below place steps below = rw (length-reverse, length-map) at below
