use Rattle.std.proofs.Common.{◌≡◌, ℤ, to_z, of_z, Err, refl, ap, ◌∙◌, arith}
use Rattle.std.specs.Int.{w32}
use Rattle.std.proofs.lemmas.Int.{to_z-of_z}
use Rattle.tds_packets.specs.Packets.{default_size}
use Rattle.tds_tokens.specs.Spelling.{TokenBytes}
use Rattle.session_server.specs.declared.end.End.TheVariants.{LoginRefused}
use Rattle.session_server.specs.Response.{tabular, refusal_tokens}
use Rattle.session_server.proofs.Handled.{bears_tokens}
use Rattle.session_server.proofs.message.refuse.Goals as goal

pub returns : goal.returns
returns c =
    let number : to_z w32 (of_z w32 c.args.number) ≡ c.args.number = to_z-of_z w32 c.args.number c.ranges.number in
    let tokens = c.deref.ensures.value ∙ c.in_ok-tokens.ensures.tokens ∙ ap refusal_tokens number in
    record {
      answered = λ state. (
        tabular default_size (refusal_tokens c.args.number),
        refl,
        bears_tokens c.args.spid default_size (refusal_tokens c.args.number) c.in_ok-response.response (c.in_ok-response.ensures.channel ∙ c.first_channel.ensures) (c.in_ok-response.ensures.payload ∙ ap TokenBytes tokens) (omega arith, omega arith),
        ap (λ (n : ℤ). Err (LoginRefused n)) number,
      );
    }
