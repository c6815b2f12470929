-- Batches that were sent one behind another.
use Rattle.std.proofs.Common.{◌≡◌, ℕ, ◌+◌, List, [], ◌∷◌, ◌++◌, ap, ◌∙◌, sym, append-nil, add-one}
use Rattle.std.proofs.lemmas.Grind.{flat_map-append}
use Rattle.std.proofs.lemmas.List.{map-append}
use Rattle.tds_packets.specs.Packets.{count_up}
use Rattle.transfer_load.specs.Batches.{batch_bytes, batches_bytes, payee, payer, transfer_text, worker_texts}

-- one more
pub one_sent : (texts : List (List ℕ)) (text : List ℕ) → batches_bytes (texts ++ text ∷ []) ≡ batches_bytes texts ++ batch_bytes text
one_sent texts text = flat_map-append batch_bytes texts (text ∷ []) ∙ ap (λ (s : List ℕ). batches_bytes texts ++ s) (append-nil (batch_bytes text))

-- two in all
pub two_sent : (first second none some all text : List ℕ) → none ≡ [] → some ≡ none ++ batch_bytes first → text ≡ second → all ≡ some ++ batch_bytes text
    → all ≡ batches_bytes (first ∷ second ∷ [])
two_sent first second none some all text is one same two =
    two ∙ ap (λ (s : List ℕ). s ++ batch_bytes text) (one ∙ ap (λ (s : List ℕ). s ++ batch_bytes first) is)
    ∙ ap (λ (s : List ℕ). batch_bytes first ++ s) (ap batch_bytes same ∙ sym (append-nil (batch_bytes second)))

-- the texts of one transfer more
texts_more : (transfers worker : ℕ) → worker_texts (transfers + 1) worker ≡ worker_texts transfers worker ++ transfer_text (payer worker transfers) (payee worker transfers) ∷ []
texts_more transfers worker = rw add-one (map-append (λ (k : ℕ). transfer_text (payer worker k) (payee worker k)) (count_up transfers) (transfers ∷ []))

pub transfer_sent : (transfers worker : ℕ) (old new text : List ℕ) → old ≡ batches_bytes (worker_texts transfers worker) → text ≡ transfer_text (payer worker transfers) (payee worker transfers)
    → new ≡ old ++ batch_bytes text → new ≡ batches_bytes (worker_texts (transfers + 1) worker)
transfer_sent transfers worker old new text before same more =
    more ∙ ap (λ (s : List ℕ). s ++ batch_bytes text) before
    ∙ ap (λ (t : List ℕ). batches_bytes (worker_texts transfers worker) ++ batch_bytes t) same
    ∙ sym (one_sent (worker_texts transfers worker) (transfer_text (payer worker transfers) (payee worker transfers)))
    ∙ ap batches_bytes (sym (texts_more transfers worker))
