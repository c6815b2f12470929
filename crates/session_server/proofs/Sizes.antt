-- Packets have a size that they may have, in every state.
use Rattle.std.proofs.Common.{◌≡◌, ℕ, ◌&&◌, Bool, true, false, if◌then◌else◌, Ok, Err, refl, subst, arith}
use Rattle.std.specs.Prelude.{nat_le}
use Rattle.std.proofs.lemmas.Bool.{leb-true}
use Rattle.tds_packets.specs.Packets.{IsPacketSize}
use Rattle.tds_login.specs.declared.config.Config.{Config}
use Rattle.tds_login.specs.declared.config.Entry.{Entry}
use Rattle.tds_login.specs.declared.config.Entry.TheVariants as entries
use Rattle.tds_login.specs.declared.login.Login.{Login}
use Rattle.tds_login.specs.Verdict.{judge_login, has_credentials, is_known, size_for, login_failed, unknown_database}
use Rattle.session_server.specs.Parts.{IsSized}
use Rattle.session_server.specs.Talk.{first_in, first_state}

-- a granted size is one that packets may have
size_for_is : (asked : ℕ) → IsPacketSize (size_for asked)
size_for_is asked = by_test (nat_le 512 asked) (nat_le asked 32767) refl refl
  where
    by_test : (least most : Bool) → nat_le 512 asked ≡ least → nat_le asked 32767 ≡ most → IsPacketSize (if least && most then asked else 4096)
    by_test true true least most = (leb-true 512 asked least, leb-true asked 32767 most)
    by_test true false least most = (omega arith, omega arith)
    by_test false most least none = (omega arith, omega arith)

pub judged_size : (login : Login) (config : Config) (size : ℕ) → judge_login login config ≡ Ok size → IsPacketSize size
unfolding judge_login
judged_size login config size is = by_test (has_credentials login config) (is_known login.database) is
  where
    by_test : (granted known : Bool) → (if granted then if known then Ok (size_for login.packet_size) else Err unknown_database else Err login_failed) ≡ Ok size → IsPacketSize size
    by_test true true is = let same : size_for login.packet_size ≡ size = cc in subst IsPacketSize same (size_for_is login.packet_size)
    by_test true false is = absurd (let no : ⊥ = cc in no)
    by_test false known is = absurd (let no : ⊥ = cc in no)

-- where a connection begins, its size is one that packets may have
pub first_sized : (config : Config) → IsSized (first_state config)
first_sized config = by_entry config.entry
  where
    by_entry : (entry : Entry) → IsSized (first_in config entry)
    by_entry entries.Login = tt
    by_entry entries.Bare = (omega arith, omega arith)
