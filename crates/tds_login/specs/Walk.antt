-- Own: what is kept while the options of a PRELOGIN are walked over; no public clause cites it.
use Rattle.std.specs.Prelude.{ℕ, if◌then◌else◌, List, slice_index, Option, None, Some, Result, Ok, Err}
use Rattle.tds_login.specs.declared.prelogin.Prelogin.{Prelogin}
use Rattle.tds_login.specs.declared.prelogin.PreloginFault.{PreloginFault}
use Rattle.tds_login.specs.declared.prelogin.PreloginFault.TheVariants.{Range}
use Rattle.tds_login.specs.declared.prelogin.Seen.{Seen}
use Rattle.tds_login.specs.Prelogin.{PreloginOption, has_encryption, is_outside}

-- the value of an ENCRYPTION that has one, where none was seen before
abbrev pub encryption_after : List ℕ → Option ℕ → PreloginOption → Option ℕ
encryption_after payload (Some value) option = Some value
encryption_after payload None option = if has_encryption option then Some (slice_index payload option.offset) else None

-- what is seen with one more option, where none was refused before
abbrev pub look_on : List ℕ → Option ℕ → PreloginOption → Seen
look_on payload encryption option =
    if is_outside payload option then record { refused = Some option.token; encryption = encryption }
    else record { refused = None; encryption = encryption_after payload encryption option }

-- the same, where one may have been refused: nothing behind that one is looked at
abbrev pub look_unless : List ℕ → Option ℕ → Option ℕ → PreloginOption → Seen
look_unless payload (Some token) encryption option = record { refused = Some token; encryption = encryption }
look_unless payload None encryption option = look_on payload encryption option

-- what is seen with one more option
unfoldable pub look_at : List ℕ → Seen → PreloginOption → Seen
look_at payload seen option = look_unless payload seen.refused seen.encryption option

-- what is said once all were seen: a refusal, or the value
abbrev pub judge_by : Option ℕ → Option ℕ → Result Prelogin PreloginFault
judge_by (Some token) encryption = Err (Range token)
judge_by None encryption = Ok (record { encryption = encryption })

-- what is said, by what was seen
unfoldable pub judge : Seen → Result Prelogin PreloginFault
judge seen = judge_by seen.refused seen.encryption
