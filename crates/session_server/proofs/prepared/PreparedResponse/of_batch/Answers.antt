use Rattle.std.proofs.Common.{ℕ, List, [], ◌∷◌, ◌++◌, sym, ap, ◌∙◌}
use Rattle.tds_tokens.specs.Spelling.{TokenBytes}
use Rattle.session_server.proofs.Once.{bytes_done, fit_done, fit_front}
use Rattle.session_server.proofs.prepared.PreparedResponse.of_batch.Goals as goal

pub write_tokens-requires : goal.write_tokens-requires
write_tokens-requires c = fit_front c.args.tokens.now c.in-Some.front.now c.in-Some.ensures.front.0 c.in-Some.ensures.front.1 c.requires.fit

pub write_tokens-requires-2 : goal.write_tokens-requires-2
write_tokens-requires-2 c = fit_done c.in-Some.done c.in-Some.ensures.done

pub returns-clause-payload : goal.returns-clause-payload
returns-clause-payload c =
    let front = c.in-Some.front.now in
    let done = c.in-Some.done in
    let first = c.in_ok-write_tokens.ensures.bytes ∙ ap (λ (l : List ℕ). l ++ TokenBytes front) c.new-payload.ensures.items in
    c.in_ok-write_tokens-2.ensures.bytes ∙ ap (λ (l : List ℕ). l ++ TokenBytes (done ∷ [])) first ∙ sym (bytes_done front done c.in-Some.ensures.done) ∙ ap TokenBytes (sym c.in-Some.ensures.once)
