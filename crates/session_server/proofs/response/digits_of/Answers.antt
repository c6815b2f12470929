use Rattle.std.proofs.Common.{◌≡◌, arith, ◌∙◌}
use Rattle.std.specs.Fmt.{decimal}
use Rattle.std.proofs.lemmas.Fmt.{IsAscii-decimal}
use Rattle.std.proofs.lemmas.List.{get_or_default}
use Rattle.session_server.proofs.response.digits_of.Goals as goal

pub of_ascii-requires : goal.of_ascii-requires
of_ascii-requires c =
    let digits : c.as_bytes.result.now ≡ decimal c.args.at = c.as_bytes.ensures.value ∙ c.in_ok-digits.ensures.ok in
    λ k d lt. rw (get_or_default c.as_bytes.result.now k d 0 lt, digits) (IsAscii-decimal c.args.at (omega arith) k)
