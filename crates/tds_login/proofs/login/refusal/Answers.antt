use Rattle.std.proofs.Common.{None, Some, ◌∙◌}
use Rattle.tds_login.specs.Login.{fields}
use Rattle.tds_login.proofs.Refusals.{refused_outside}
use Rattle.tds_login.proofs.login.refusal.Goals as goal

pub returns-in_err-field : goal.returns-in_err-field
unfolding fields
returns-in_err-field c =
    c.from_residual.ensures
    ∙ refused_outside c.args.payload.now None c.long_at-length.result c.long_at-version.result c.long_at-length.ensures c.long_at-version.ensures c.if-payload-lt-FIXED_LEN.false c.if-length-lt-FIXED_LEN.false c.if-payload-length.false c.if-version-ne-TDS_7_4.false c.in_err-field.ensures

pub returns : goal.returns
unfolding fields
returns c =
    refused_outside c.args.payload.now (Some c.in_ok-field.field) c.long_at-length.result c.long_at-version.result c.long_at-length.ensures c.long_at-version.ensures c.if-payload-lt-FIXED_LEN.false c.if-length-lt-FIXED_LEN.false c.if-payload-length.false c.if-version-ne-TDS_7_4.false c.in_ok-field.ensures
