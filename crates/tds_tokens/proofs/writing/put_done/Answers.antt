use Rattle.std.proofs.Common.{◌∷◌, [], ◌++◌, refl, ap, ◌∙◌}
use Rattle.std.specs.Int.{w16, w64, to_le_bytes}
use Rattle.tds_tokens.specs.Numbers.{done_tag}
use Rattle.tds_tokens.proofs.Joins.{and_then}
use Rattle.tds_tokens.proofs.writing.put_done.Goals as goal

pub returns-clause-items : goal.returns-clause-items
returns-clause-items c =
    let out = c.args.out.now.items in
    let a = done_tag c.args.kind ∷ [] in
    let b = a ++ to_le_bytes w16 c.args.status in
    let d = b ++ to_le_bytes w16 c.args.command in
    let tag = c.append.ensures.items ∙ ap (λ byte. out ++ byte ∷ []) c.tag_of.ensures in
    let status = and_then out a (to_le_bytes w16 c.args.status) _ tag c.put_u16.ensures.items refl in
    let command = and_then out b (to_le_bytes w16 c.args.command) _ status c.put_u16-2.ensures.items refl in
    and_then out d (to_le_bytes w64 c.args.rows) _ command c.put_u64.ensures.items refl
