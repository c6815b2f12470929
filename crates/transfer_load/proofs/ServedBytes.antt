-- What the first seat has served, of the bytes of a line in memory.
use Rattle.std.proofs.Common.{◌≡◌, ℕ, List, [], ◌∷◌, Option, Some, subst}
use Rattle.outside_io.specs.Bytes.{Takes}
use Rattle.outside_io.specs.Memory.{SourceState, told_given, told_left}
use Rattle.tds_login.specs.declared.config.Config.{Config}
use Rattle.session_server.specs.declared.end.End.{End}
use Rattle.session_server.specs.declared.end.End.TheVariants.{Closed}
use Rattle.shared_port.specs.Asked.{EngineSeat}
use Rattle.seat_server.specs.Served.{ServedConnection}
use Rattle.seat_server.specs.House.{ServesFirst}
use Rattle.transfer_load.specs.Load.{ServesBytes}

module _ (config : Config) (bytes written : List ℕ) (first last : SourceState) (source : (first.left ≡ bytes) × (first.given ≡ [])) where
  abbrev Serves : Option (List ℕ) → Option (List ℕ) → End → EngineSeat → EngineSeat → Type 0
  Serves before after end old new = ServedConnection config (Takes told_left told_given first last) (told_left last) before after old new end

  pub bytes_served : (before after : List ℕ) (end : End) (olds news : List EngineSeat) → before ≡ [] → after ≡ written → end ≡ Closed → ServesFirst (Serves (Some before) (Some after) end) olds news
      → ServesFirst (ServesBytes config bytes written) olds news
  bytes_served before after end [] news none all closed served = absurd served
  bytes_served before after end (old ∷ olds) [] none all closed served = absurd served
  bytes_served before after end (old ∷ olds) (new ∷ news) none all closed served =
      let empty = subst (λ (b : List ℕ). Serves (Some b) (Some after) end old new) none served.0 in
      let whole = subst (λ (b : List ℕ). Serves (Some []) (Some b) end old new) all empty in
      (record { first = first; last = last; source = source; served = subst (λ (e : End). Serves (Some []) (Some written) e old new) closed whole }, served.1)
