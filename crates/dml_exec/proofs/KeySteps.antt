-- How index rows are asked for, and changes as they were found, by a loop: what is left leads to the whole.
use Rattle.std.proofs.Common.{◌≡◌, Bool, if◌then◌else◌, true, false, ℕ, ◌+◌, ◌<◌, ◌≤◌, List, [], ◌∷◌, ◌++◌, length, drop, get_or, Some, None, Result, Ok, Err, refl, sym, ap, ◌∙◌, subst, arith}
use Rattle.std.proofs.lemmas.List.{drop_more, length-drop}
use Rattle.tsql_tree.specs.declared.definition.TableTree.{TableTree}
use Rattle.step_model.specs.declared.change.Deed.{Deed}
use Rattle.step_model.specs.declared.change.Deed.TheVariants.{Erase, Replace, Insert}
use Rattle.step_model.specs.declared.change.Planned.{Planned}
use Rattle.step_model.specs.declared.manner.Manner.{Manner}
use Rattle.step_model.specs.declared.op.Op.{Op}
use Rattle.step_model.specs.declared.op.Op.TheVariants.{Fetch}
use Rattle.step_model.specs.declared.reply.Reply.{Reply}
use Rattle.step_model.specs.declared.reply.Reply.TheVariants as replies
use Rattle.step_model.specs.Exchange.{CanReply}
use Rattle.step_model.specs.Port.{PortPast}
use Rattle.step_model.specs.Dialog.{Asks, Dialog, Leads, over, ◌then◌}
use Rattle.step_model.proofs.Dialogs.{front_room}
use Rattle.dml_exec.specs.declared.refusal.Refusal.{Refusal}
use Rattle.dml_exec.specs.declared.refusal.Refusal.TheVariants.{Memory}
use Rattle.dml_exec.specs.declared.written.Halt.{Halt}
use Rattle.dml_exec.specs.Asking.{on_ok, ◌>>=◌, with_room}
use Rattle.dml_exec.specs.Indexes.{IsRowReply, TellsRow, found_behind, found_of, writes_told, writes_unless}
use Rattle.dml_exec.specs.Planning.{as_found, as_told, is_asked, unless_there}
use Rattle.dml_exec.specs.Reading.{IsFetch}
use Rattle.dml_exec.specs.Writing.{asks_key, asks_keys, row_told, writes_all}
use Rattle.dml_exec.proofs.Held.{asks_behind, asks_failed, asks_over, asks_room, leads_then, leads_to}
use Rattle.dml_exec.proofs.Pairs.{none_of}

-- ---- what is left of a list

pub left_is : {A : Type 0} (xs : List A) (i : ℕ) (x : A) → i < length xs → x ≡ get_or xs i x → drop i xs ≡ x ∷ drop (i + 1) xs
left_is xs i x below is = drop_more xs i x below ∙ ap (λ y. y ∷ drop (i + 1) xs) (sym is)

pub none_left : {A : Type 0} (xs : List A) (i : ℕ) → length xs ≤ i → drop i xs ≡ []
none_left xs i all = none_of (drop i xs) (simp length-drop (omega (arith, all)))

-- ---- a key that is asked for

-- what a fetch may reply
pub key_reply : (op : Op) → IsFetch op → (reply : Reply) → CanReply op reply → IsRowReply reply
key_reply (Fetch table start stop hold part) is (replies.Row key row at) can = tt
key_reply (Fetch table start stop hold part) is (replies.Gone key at) can = tt
key_reply (Fetch table start stop hold part) is (replies.End at) can = tt
key_reply (Fetch table start stop hold part) is replies.Memory can = tt
key_reply (Fetch table start stop hold part) is (replies.TimedOut holder held asked on) can = tt
key_reply (Fetch table start stop hold part) is (replies.Victim cycle) can = tt
key_reply (Fetch table start stop hold part) is reply can = absurd can
key_reply op is reply can = absurd is

-- and what that tells
pub row_is : {now : PortPast} {manner : Manner} (reply : Reply) (result : Result Bool Refusal) → TellsRow reply result → Asks now now manner (row_told reply) result
row_is (replies.Row key row at) result told = asks_over told
row_is (replies.Gone key at) result told = asks_over told
row_is (replies.End at) result told = asks_over told
row_is replies.Memory result told = asks_over told
row_is (replies.TimedOut holder held asked on) result told = asks_over told
row_is (replies.Victim cycle) result told = asks_over told
row_is reply result told = absurd told

-- ---- index rows

module _ {before now : PortPast} {manner : Manner} {whole : Dialog (Result (List Bool) Refusal)} (so_far : List Bool) where
  -- all are asked for
  pub keys_done : (changes : List Planned) → changes ≡ [] → Leads before now manner whole (asks_keys changes so_far) → Asks before now manner whole (Ok so_far)
  unfolding asks_keys
  keys_done [] none leads = leads_to leads (asks_over refl)
  keys_done (change ∷ changes) none leads = absurd (cc)

  module _ (all : List Planned) (change : Planned) (changes : List Planned) (is : all ≡ change ∷ changes) (leads : Leads before now manner whole (asks_keys all so_far)) where
    abbrev next : Bool → Dialog (Result (List Bool) Refusal)
    next there = with_room Memory (asks_keys changes (so_far ++ there ∷ []))

    here : (asked : Bool) → is_asked change ≡ asked → Leads before now manner whole (if asked then (asks_key change.table change.key >>= next) else asks_keys changes so_far)
    unfolding asks_keys
    here asked same =
        subst (λ (b : Bool). Leads before now manner whole (if b then (asks_key change.table change.key >>= next) else asks_keys changes so_far)) same
        (subst (λ (list : List Planned). Leads before now manner whole (asks_keys list so_far)) is leads)

    -- the first is not
    pub keys_passed : is_asked change ≡ false → Leads before now manner whole (asks_keys changes so_far)
    keys_passed same = here false same

    module _ (asked : is_asked change ≡ true) where
      -- it can't be asked for
      pub keys_failed : {later : PortPast} (refusal : Refusal) → Asks now later manner (asks_key change.table change.key) (Err refusal) → Asks before later manner whole (Err refusal)
      keys_failed refusal was = leads_to (here true asked) (asks_failed (asks_key change.table change.key) next refusal was)

      -- there is no room for what is found
      pub keys_full : {later : PortPast} (there : Bool) → Asks now later manner (asks_key change.table change.key) (Ok there) → Asks before later manner whole (Err Memory)
      keys_full there was = leads_to (here true asked) (asks_behind (asks_key change.table change.key) next there (Err Memory) was (asks_room false _ (asks_over refl)))

      -- it is found, or not
      pub keys_next : {later : PortPast} (there : Bool) → Asks now later manner (asks_key change.table change.key) (Ok there) → Leads before later manner whole (asks_keys changes (so_far ++ there ∷ []))
      keys_next there was =
          front_room true (λ enough. if enough then asks_keys changes (so_far ++ there ∷ []) else over (Err Memory))
          (leads_then (asks_key change.table change.key) (on_ok next) (here true asked) was)

-- ---- changes

module _ (shapes : List TableTree) where
  abbrev Writes : Type 0
  Writes = Dialog (Result (Unit {0}) Halt)

  unless_parts : (change : Planned) (deed : Deed) (rest : List Planned) → writes_all shapes (unless_there change deed ++ rest) ≡ (writes_unless shapes change deed >>= λ done. writes_all shapes rest)
  unfolding writes_all ◌then◌
  unless_parts change Erase rest = refl
  unless_parts change (Replace row) rest = refl
  unless_parts change (Insert row) rest = refl

  told_parts : (there : Bool) (change : Planned) (rest : List Planned) → writes_all shapes (as_told there change ++ rest) ≡ (writes_told shapes (Some there) change >>= λ done. writes_all shapes rest)
  unfolding writes_all
  told_parts true change rest = refl
  told_parts false change rest = unless_parts change change.deed rest

  found_none : (changes : List Planned) → changes ≡ as_found changes []
  found_none [] = refl
  found_none (change ∷ changes) = refl

  -- a change, and those behind it
  found_parts : (change : Planned) (changes : List Planned) (found : List Bool)
      → writes_all shapes (as_found (change ∷ changes) found) ≡ (writes_told shapes (found_of change found) change >>= λ done. writes_all shapes (as_found changes (found_behind change found)))
  unfolding writes_all
  found_parts change changes [] = ap (λ (list : List Planned). writes_all shapes (change ∷ list)) (found_none changes)
  found_parts change changes (there ∷ found) = by_asked (is_asked change)
    where
      by_asked : (b : Bool) → writes_all shapes (if b then as_told there change ++ as_found changes found else change ∷ as_found changes (there ∷ found))
          ≡ (writes_told shapes (if b then Some there else None) change >>= λ done. writes_all shapes (as_found changes (if b then found else there ∷ found)))
      by_asked true = told_parts there change (as_found changes found)
      by_asked false = refl

  module _ {before now : PortPast} {manner : Manner} {whole : Writes} (found : List Bool) where
    pub changes_done : (changes : List Planned) → changes ≡ [] → Leads before now manner whole (writes_all shapes (as_found changes found)) → Asks before now manner whole (Ok tt)
    unfolding writes_all
    changes_done [] none leads = leads_to leads (asks_over refl)
    changes_done (change ∷ changes) none leads = absurd (cc)

    module _ (all : List Planned) (change : Planned) (changes : List Planned) (is : all ≡ change ∷ changes) (leads : Leads before now manner whole (writes_all shapes (as_found all found))) where
      abbrev rest : Unit {0} → Writes
      rest done = writes_all shapes (as_found changes (found_behind change found))

      first : Leads before now manner whole (writes_told shapes (found_of change found) change >>= rest)
      first =
          subst (λ (tree : Writes). Leads before now manner whole tree) (found_parts change changes found)
          (subst (λ (list : List Planned). Leads before now manner whole (writes_all shapes (as_found list found))) is leads)

      pub change_failed : {later : PortPast} (halt : Halt) → Asks now later manner (writes_told shapes (found_of change found) change) (Err halt) → Asks before later manner whole (Err halt)
      change_failed halt was = leads_to first (asks_failed (writes_told shapes (found_of change found) change) rest halt was)

      pub change_next : {later : PortPast} → Asks now later manner (writes_told shapes (found_of change found) change) (Ok tt) → Leads before later manner whole (writes_all shapes (as_found changes (found_behind change found)))
      change_next was = leads_then (writes_told shapes (found_of change found) change) (on_ok rest) first was
