-- What is appended part by part, as the parts in their order.
use Rattle.std.proofs.Common.{◌≡◌, ℕ, List, ◌++◌, ap, ◌∙◌, append_assoc}

-- a part behind a front
pub put_behind : (old mid new front part : List ℕ) → mid ≡ old ++ front → new ≡ mid ++ part → new ≡ old ++ (front ++ part)
put_behind old mid new front part before more = more ∙ ap (λ (s : List ℕ). s ++ part) before ∙ append_assoc old front part
