-- Own: where the code may read a field; no public clause cites it.
use Rattle.std.specs.Prelude.{◌≡◌, ◌+◌, ◌*◌, ◌≤◌, ◌⊎◌, ◌&&◌, Bool, nat_le, None, ℕ, List, length}
use Rattle.tds_login.specs.declared.login.Field.{Field}
use Rattle.tds_login.specs.Login.{fixed_length, short_at, user_place, password_place, database_place, login_by, login_of}

-- a field's offset and count stand in the fixed part, and its unit is a byte or two
abbrev pub is_placed : Field → Bool
is_placed field = nat_le (field.place + 4) fixed_length && nat_le field.unit 2

-- a field of characters has nothing, or ends within the payload
abbrev pub IsInside : List ℕ → ℕ → Type 0
IsInside payload place = (short_at payload (place + 2) ≡ 0) ⊎ (short_at payload place + 2 * short_at payload (place + 2) ≤ length payload)

-- a payload that is not refused
pub record IsServed (payload : List ℕ) : Type 0 where
  pub long : fixed_length ≤ length payload
  pub user : IsInside payload user_place
  pub password : IsInside payload password_place
  pub database : IsInside payload database_place
  pub said : login_of payload ≡ login_by payload None
