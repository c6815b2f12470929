use Rattle.std.proofs.Common.{◌≡◌, drop}
use Rattle.std.specs.List.{find}
use Rattle.tds_login.specs.Login.{is_outside}
use Rattle.tds_login.proofs.login.first_outside.Given as goal

-- none of the fields so far is outside
abbrev pub invariant-loop-field : goal.invariant-loop-field
invariant-loop-field l = find (is_outside l.payload) l.fields ≡ find (is_outside l.payload) (drop l.field-index l.fields)
