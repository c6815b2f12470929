-- What is appended piece by piece is appended as a whole.
use Rattle.std.proofs.Common.{◌≡◌, ℕ, List, ◌++◌, ap, ◌∙◌, append_assoc}

-- first a and then b, which is also d
pub and_then : (o a b d : List ℕ) {p q : List ℕ} → p ≡ o ++ a → q ≡ p ++ b → b ≡ d → q ≡ o ++ (a ++ d)
and_then o a b d first second same =
    second ∙ (ap (λ (x : List ℕ). x ++ b) first ∙ (append_assoc o a b ∙ ap (λ (x : List ℕ). o ++ (a ++ x)) same))
