-- One exchange more of a session, beside what the state knows of it.
use Rattle.std.proofs.Common.{◌≡◌, ℕ, true, false, List, [], ◌∷◌, ◌++◌, length, IsTrue, refl, sym, ap, subst, ◌∙◌}
use Rattle.std.specs.List.{AllZip}
use Rattle.lock_modes.specs.declared.KeyPart.TheVariants.{N, S, U, X}
use Rattle.value_types.specs.declared.table_name.TableName.{TableName}
use Rattle.value_types.specs.declared.value.Value.{Value}
use Rattle.step_model.specs.declared.op.Hold.TheVariants.{Range, Row as RowAlone}
use Rattle.step_model.specs.declared.op.Op.{Op}
use Rattle.step_model.specs.declared.op.Op.TheVariants.{Fetch, Insert, Replace, Erase}
use Rattle.step_model.specs.declared.reply.Reply.{Reply}
use Rattle.step_model.specs.declared.reply.Reply.TheVariants.{Row, Gone, End, Done, Exists, Ended}
use Rattle.step_model.specs.declared.resource.Span.{Span}
use Rattle.step_model.specs.declared.resource.Span.TheVariants.{Statement, Transaction as Whole}
use Rattle.step_model.specs.Entries.{change_at, pending_of}
use Rattle.step_model.specs.Exchange.{Exchange}
use Rattle.step_model.specs.Fits.{NoneEnds, is_ended, is_relax, at_of, KeepsRow}
use Rattle.step_model.specs.Log.{Commit as Logged}
use Rattle.step_model.specs.Own.{Progress, progress_of, progress_after, none_open, last_at}
use Rattle.step_model.specs.State.{Engine, saved_of, is_open}
use Rattle.history_laws.specs.Guarded.{Guarded}
use Rattle.history_laws.specs.Knows.{Tied, FirstsFit, SameMark}
use Rattle.history_laws.specs.Relies.{Relies, Untouched, KeysOf, is_fetch}
use Rattle.history_laws.proofs.Splits.{Split, at_end, within, split_end, all_front, all_behind, progress_more}

-- with one exchange more behind it, an exchange relies on no other keys
keys_less : (op : Op) (reply : Reply) (rest : List Exchange) (last : Exchange) (span : Span) (t : TableName)
    (x : List Value) → KeysOf op reply (rest ++ last ∷ []) span t x
    → KeysOf op reply rest span t x × (span ≡ Statement → is_relax last.op ≡ false)
keys_less (Fetch table start stop Range part) (Row key row at) rest last Whole t x keys = (keys, λ is. cc)
keys_less (Fetch table start stop Range part) (Gone key at) rest last Whole t x keys = (keys, λ is. cc)
keys_less (Fetch table start stop Range part) (End at) rest last Whole t x keys = (keys, λ is. cc)
keys_less (Fetch table start stop RowAlone U) (Row key row at) rest last Statement t x keys = (
  (keys.0, all_front (λ exchange. is_relax exchange.op ≡ false) rest (last ∷ []) keys.1),
  λ is. (all_behind (λ exchange. is_relax exchange.op ≡ false) rest (last ∷ []) keys.1).0,
)
keys_less (Insert table key row) Done rest last Whole t x keys = (keys, λ is. cc)
keys_less (Insert table key row) Exists rest last Whole t x keys = (keys, λ is. cc)
keys_less (Replace table key row) Done rest last Whole t x keys = (keys, λ is. cc)
keys_less (Erase table key) Done rest last Whole t x keys = (keys, λ is. cc)
keys_less op reply rest last span t x keys = absurd keys

-- what keeps a row relies on it
pub keeps_rely : (op : Op) (reply : Reply) (between : List Exchange) (t : TableName) (x : List Value)
    → KeepsRow op reply between t x → (span : Span) × KeysOf op reply between span t x × IsTrue (is_fetch op)
keeps_rely (Fetch table start stop Range part) (Row key row at) between t x (tables, keys) =
    (Whole, (tables, rw keys refl), refl)
keeps_rely (Fetch table start stop RowAlone U) (Row key row at) between t x keeps = (Statement, keeps, refl)
keeps_rely op reply between t x keeps = absurd keeps

ended_keys : (op : Op) (place : ℕ) (later : List Exchange) (span : Span) (t : TableName) (x : List Value)
    → KeysOf op (Ended place) later span t x → ⊥
ended_keys (Fetch table start stop RowAlone N) place later span t x keys = keys
ended_keys (Fetch table start stop RowAlone S) place later span t x keys = keys
ended_keys (Fetch table start stop RowAlone U) place later span t x keys = keys
ended_keys (Fetch table start stop RowAlone X) place later span t x keys = keys
ended_keys (Fetch table start stop Range part) place later span t x keys = keys
ended_keys op place later span t x keys = keys

untouched_now : (log : List Logged) (t : TableName) (x : List Value) → Untouched log (length log) t x
untouched_now [] t x = tt
untouched_now (commit ∷ log) t x = untouched_now log t x

module _ (session : ℕ) (mid new : Engine) (mine : List Exchange) (last : Exchange)
    (tied : Tied mid session mine) where
  pub record After : Type 0 where
    pub is_open : is_open session new ≡ (progress_after (progress_of mine) last.op last.reply).is_open
    pub own : (t : TableName) (x : List Value)
        → change_at (pending_of session new.entries) t x
        ≡ last_at (progress_after (progress_of mine) last.op last.reply).own t x
    pub first : FirstsFit new.entries (progress_after (progress_of mine) last.op last.reply).own
    pub marks : AllZip (SameMark new.entries) (saved_of session new)
        (progress_after (progress_of mine) last.op last.reply).marks

  module _ (after : After) where
    -- an exchange that ends no transaction
    pub tied_more : (log : new.log ≡ mid.log)
        → ((span : Span) (t : TableName) (x : List Value) → (span ≡ Statement → is_relax last.op ≡ false)
        → Guarded span session t x mid → Guarded span session t x new)
        → ((span : Span) (t : TableName) (x : List Value) → KeysOf last.op last.reply [] span t x
        → Guarded span session t x new)
        → (IsTrue (is_fetch last.op) → (span : Span) (t : TableName) (x : List Value)
        → KeysOf last.op last.reply [] span t x → at_of last.reply ≡ length mid.log)
        → Tied new session (mine ++ last ∷ [])
    tied_more log guarded now at = record {
      is_open = after.is_open ∙ ap (λ (p : Progress). p.is_open) (sym (progress_more none_open mine last));
      own = λ t x. after.own t x
          ∙ ap (λ (p : Progress). last_at p.own t x) (sym (progress_more none_open mine last));
      first = subst (λ (p : Progress). FirstsFit new.entries p.own) (sym (progress_more none_open mine last))
          after.first;
      marks = subst (λ (p : Progress). AllZip (SameMark new.entries) (saved_of session new) p.marks)
          (sym (progress_more none_open mine last)) after.marks;
      relied = λ span t x relies. by_relied span t x relies
          (split_end mine last relies.before relies.exchange relies.later relies.split);
      steady = λ before exchange later split none fetches span t x keys. by_steady before exchange later none
          fetches span t x keys (split_end mine last before exchange later split);
    }
      where
        by_relied : (span : Span) (t : TableName) (x : List Value)
            (relies : Relies (mine ++ last ∷ []) span t x)
            → Split mine last relies.before relies.exchange relies.later → Guarded span session t x new
        by_relied span t x relies (at_end same is none) =
            now span t x
            (subst (λ (later : List Exchange). KeysOf last.op last.reply later span t x) none
            (subst (λ (e : Exchange). KeysOf e.op e.reply relies.later span t x) is relies.keys))
        by_relied span t x relies (within rest same is) =
            let keys = keys_less relies.exchange.op relies.exchange.reply rest last span t x
            (subst (λ (later : List Exchange). KeysOf relies.exchange.op relies.exchange.reply later span t
            x) is relies.keys) in
            let still : NoneEnds rest = all_front (λ exchange. is_ended exchange.reply
            ≡ false) rest (last ∷ []) (subst NoneEnds is relies.opened) in
            guarded span t x keys.1 (tied.relied span t x (record {
              before = relies.before;
              exchange = relies.exchange;
              later = rest;
              split = same;
              opened = still;
              keys = keys.0;
            }))

        by_steady : (before : List Exchange) (exchange : Exchange) (later : List Exchange) → NoneEnds later
            → IsTrue (is_fetch exchange.op) → (span : Span) (t : TableName) (x : List Value)
            → KeysOf exchange.op exchange.reply later span t x → Split mine last before exchange later
            → Untouched new.log (at_of exchange.reply) t x
        by_steady before exchange later none fetches span t x keys (at_end same is empty) =
            let at_now : at_of last.reply ≡ length mid.log =
            at (subst (λ (e : Exchange). IsTrue (is_fetch e.op)) is fetches) span t x
            (subst (λ (later : List Exchange). KeysOf last.op last.reply later span t x) empty
            (subst (λ (e : Exchange). KeysOf e.op e.reply later span t x) is keys)) in
            rw (log, is, at_now) (untouched_now mid.log t x)
        by_steady before exchange later none fetches span t x keys (within rest same is) =
            let less = keys_less exchange.op exchange.reply rest last span t x
            (subst (λ (later : List Exchange). KeysOf exchange.op exchange.reply later span t x) is keys) in
            let still : NoneEnds rest = all_front (λ exchange. is_ended exchange.reply
            ≡ false) rest (last ∷ []) (subst NoneEnds is none) in
            rw log (tied.steady before exchange rest same still fetches span t x less.0)

    -- one that ends it: nothing is relied on
    pub tied_ended : (place : ℕ) → last.reply ≡ Ended place → Tied new session (mine ++ last ∷ [])
    tied_ended place ends = record {
      is_open = after.is_open ∙ ap (λ (p : Progress). p.is_open) (sym (progress_more none_open mine last));
      own = λ t x. after.own t x
          ∙ ap (λ (p : Progress). last_at p.own t x) (sym (progress_more none_open mine last));
      first = subst (λ (p : Progress). FirstsFit new.entries p.own) (sym (progress_more none_open mine last))
          after.first;
      marks = subst (λ (p : Progress). AllZip (SameMark new.entries) (saved_of session new) p.marks)
          (sym (progress_more none_open mine last)) after.marks;
      relied = λ span t x relies. absurd
          (never relies.before relies.exchange relies.later relies.opened span t x relies.keys
          (split_end mine last relies.before relies.exchange relies.later relies.split));
      steady = λ before exchange later split none fetches span t x keys. absurd
          (never before exchange later none span t x keys (split_end mine last before exchange later split));
    }
      where
        never : (before : List Exchange) (exchange : Exchange) (later : List Exchange) → NoneEnds later
            → (span : Span) (t : TableName) (x : List Value) → KeysOf exchange.op exchange.reply later span t x
            → Split mine last before exchange later → ⊥
        never before exchange later none span t x keys (at_end same is empty) =
            ended_keys last.op place later span t x
            (subst (λ (reply : Reply). KeysOf last.op reply later span t x) ends
            (subst (λ (e : Exchange). KeysOf e.op e.reply later span t x) is keys))
        never before exchange later none span t x keys (within rest same is) =
            let last_not : is_ended last.reply ≡ false =
            (all_behind (λ exchange. is_ended exchange.reply
            ≡ false) rest (last ∷ []) (subst NoneEnds is none)).0 in
            let h : true ≡ false = sym (ap is_ended ends) ∙ last_not in
            cc
