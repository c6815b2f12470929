-- Own: who may log in, and what is answered. Texts are compared unit by unit; the code compares them so.
use Rattle.std.specs.Prelude.{ℕ, ℤ, pos, ◌&&◌, ◌||◌, Bool, nat_le, if◌then◌else◌, List, [], ◌∷◌, Result, Ok, Err, codes}
use Rattle.std.specs.Fmt.{decimal}
use Rattle.value_types.specs.Units.{same_units}
use Rattle.tds_tokens.specs.declared.token.DoneKind.TheVariants.{Done}
use Rattle.tds_tokens.specs.declared.token.Token.{Token}
use Rattle.tds_tokens.specs.declared.token.Token.TheVariants.{LoginAck, EnvText, EnvBytes, Finished}
use Rattle.tds_packets.specs.Packets.{least_size, most_size, default_size}
use Rattle.tds_tokens.specs.Numbers.{env_database, env_packet_size, env_collation, done_final, command_none}
use Rattle.tds_tokens.specs.Spelling.{collation, server_name}
use Rattle.tds_login.specs.declared.config.Config.{Config}
use Rattle.tds_login.specs.declared.login.Login.{Login}
use Rattle.tds_login.specs.Login.{served_version}

-- the user and the password are the configuration's
abbrev pub has_credentials : Login → Config → Bool
has_credentials login config = same_units login.user config.user && same_units login.password config.password

-- the name of the one database
abbrev pub main_database : List ℕ
main_database = codes "main"

-- its other name
abbrev pub master_database : List ℕ
master_database = codes "master"

-- the database is the one that there is, by one of its names, or none is named
abbrev pub is_known : List ℕ → Bool
is_known database = same_units database [] || same_units database main_database || same_units database master_database

-- the packet size that a client asks for, where packets may have it
abbrev pub size_for : ℕ → ℕ
size_for asked = if nat_le least_size asked && nat_le asked most_size then asked else default_size

-- the number of the error where user or password is another (SQL Server's)
abbrev pub login_failed : ℤ
login_failed = pos 18456

-- the number of the error where there is no such database (own)
abbrev pub unknown_database : ℤ
unknown_database = pos 49011

-- the packet size, or the number of the error that refuses the login: the user is judged first
unfoldable pub judge_login : Login → Config → Result ℕ ℤ
judge_login login config =
    if has_credentials login config then if is_known login.database then Ok (size_for login.packet_size) else Err unknown_database
    else Err login_failed

-- LOGINACK's release of the server (own)
abbrev pub release : ℕ
release = 0x0F000000

-- The tokens that grant a login with packets of this size: the database, the collation, the
-- acknowledgement, the packet size, and the end.
abbrev pub login_reply : ℕ → List Token
login_reply size =
    EnvText env_database main_database []
    ∷ EnvBytes env_collation collation []
    ∷ LoginAck served_version server_name release
    ∷ EnvText env_packet_size (decimal size) (decimal default_size)
    ∷ Finished Done done_final command_none 0
    ∷ []
