use Rattle.std.proofs.Common.{◌≡◌, ◌∷◌, [], ◌++◌, length, refl, ap, arith}
use Rattle.std.specs.Int.{w16, to_le_bytes}
use Rattle.tds_tokens.specs.Spelling.{notice_bytes}
use Rattle.tds_tokens.proofs.Joins.{and_then}
use Rattle.tds_tokens.proofs.writing.put_notice.Goals as goal

pub returns-clause-items : goal.returns-clause-items
returns-clause-items c =
    let out = c.args.out.now.items in
    let body = notice_bytes c.args.notice.now in
    let size : c.notice_size.result ≡ length body = omega arith in
    let a = c.args.tag ∷ [] in
    let b = a ++ to_le_bytes w16 (length body) in
    let count = and_then out a _ (to_le_bytes w16 (length body)) c.append.ensures.items c.put_u16.ensures.items (ap (to_le_bytes w16) size) in
    and_then out b body _ count c.put_notice_body.ensures.items refl
