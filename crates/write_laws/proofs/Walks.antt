-- Rows that were found one fetch behind another, and one whole key.
use Rattle.std.proofs.Common.{◌≡◌, ℕ, true, false, not, List, [], ◌∷◌, length, None, IsTrue, refl, sym, ap, subst, ◌∙◌, arith}
use Rattle.std.specs.List.{AllByRecursion}
use Rattle.std.specs.Cmp.{tied_itself}
use Rattle.std.specs.Ordering.{is_eq, is_lt}
use Rattle.std.specs.declared.cmp.Ordering.{Ordering}
use Rattle.std.specs.declared.cmp.Ordering.TheVariants.{Less, Equal, Greater}
use Rattle.std.proofs.lemmas.List.{take_all}
use Rattle.lock_modes.specs.declared.KeyPart.{KeyPart}
use Rattle.value_types.specs.declared.table_name.TableName.{TableName}
use Rattle.value_types.specs.declared.value.Value.{Value}
use Rattle.value_types.specs.Order.{key_cmp}
use Rattle.value_types.specs.OrderLaws.{key_cmp_total}
use Rattle.step_model.specs.declared.op.Hold.TheVariants.{Range}
use Rattle.step_model.specs.declared.op.Op.{Op}
use Rattle.step_model.specs.declared.op.Op.TheVariants.{Fetch}
use Rattle.step_model.specs.declared.range.Start.{Start}
use Rattle.step_model.specs.declared.range.Start.TheVariants.{At}
use Rattle.step_model.specs.declared.range.Stop.{Stop}
use Rattle.step_model.specs.declared.range.Stop.TheVariants.{Within}
use Rattle.step_model.specs.declared.reply.Reply.{Reply}
use Rattle.step_model.specs.declared.reply.Reply.TheVariants.{Row, Gone, End}
use Rattle.step_model.specs.Database.{Database, In, allows, includes, is_within}
use Rattle.step_model.specs.Exchange.{CanReply, Exchange}
use Rattle.step_model.specs.Fits.{AnswersIn}
use Rattle.constraint_check.specs.Laws.{KeysAreOne}
use Rattle.history_laws.proofs.Basics.{both}
use Rattle.dml_exec.specs.Reading.{behind_gone}
use Rattle.write_laws.specs.Reading.{KeyTold, WalkRead}
use Rattle.statement_paths.specs.Asked.{AskOnly}
use Rattle.write_laws.specs.Reads.{at_place, FindsBy, HoldsIt, KeysHave, Tells, Walks}
use Rattle.write_laws.proofs.Entries.{Entry, gone_on, none_in, row_behind}
use Rattle.write_laws.proofs.Keys.{one_key}
use Rattle.write_laws.proofs.Parts.{answers, one_place}

module _ (db : Database) (one : KeysAreOne db) (table : TableName) (stop : Stop) (lock : KeyPart) (width : ℕ) (long : KeysHave width db table) where
  abbrev fetch : Start → Op
  fetch start = Fetch table start stop Range lock

  walked : (part : List Exchange) (start : Start) (entries : List Entry) → Walks width table stop lock start part entries → AllByRecursion (λ x. AnswersIn db x.op x.reply) part → In db table start stop entries
  walked [] start entries walks answered = absurd walks
  walked (x ∷ later) start entries walks answered =
      by_reply x.reply (subst (λ (op : Op). CanReply op x.reply) walks.0 walks.1) (subst (λ (op : Op). AnswersIn db op x.reply) walks.0 answered.0) walks.2
      (λ key rest walks. walked later (behind_gone width key) rest walks answered.1)
    where
      by_reply : (reply : Reply) → CanReply (fetch start) reply → AnswersIn db (fetch start) reply → FindsBy (λ key rest. Walks width table stop lock (behind_gone width key) later rest) later entries reply
          → ((key : List Value) (rest : List Entry) → Walks width table stop lock (behind_gone width key) later rest → In db table (behind_gone width key) stop rest) → In db table start stop entries
      by_reply (Row key row at) can answer finds goes =
          subst (λ (all : List Entry). In db table start stop all) (sym finds.1) (row_behind db table width long start stop key finds.0 row answer.0 answer.1 (goes key finds.0 finds.2))
      by_reply (Gone key at) can answer finds goes =
          gone_on db table width long start stop key entries one (both (allows start key) (includes stop key) can).0 answer.0 answer.1 (goes key entries finds)
      by_reply (End at) can answer finds goes = subst (λ (all : List Entry). In db table start stop all) (sym finds.1) (none_in db table start stop answer)
      by_reply reply can answer finds goes = absurd finds

-- each of them fetches a range that it holds
walk_asks : (width : ℕ) (table : TableName) (stop : Stop) (lock : KeyPart) (part : List Exchange) (start : Start) (entries : List Entry) → Walks width table stop lock start part entries → AskOnly HoldsIt part
walk_asks width table stop lock [] start entries walks = tt
walk_asks width table stop lock (x ∷ later) start entries walks = ((subst HoldsIt (sym walks.0) tt, walks.1), by_reply x.reply walks.2 (λ key rest walks. walk_asks width table stop lock later (behind_gone width key) rest walks))
  where
    by_reply : (reply : Reply) → FindsBy (λ key rest. Walks width table stop lock (behind_gone width key) later rest) later entries reply → ((key : List Value) (rest : List Entry) → Walks width table stop lock (behind_gone width key) later rest → AskOnly HoldsIt later) → AskOnly HoldsIt later
    by_reply (Row key row at) finds goes = goes key finds.0 finds.2
    by_reply (Gone key at) finds goes = goes key entries finds
    by_reply (End at) finds goes = subst (AskOnly HoldsIt) (sym finds.0) tt
    by_reply reply finds goes = absurd finds

pub walk_read : WalkRead
walk_read log mine before part later width table start stop lock entries is holds walks long =
    walked (at_place log before later) (one_place log before later) table stop lock width long part start entries walks
    (answers log mine before part later is holds (walk_asks width table stop lock part start entries walks))

-- ---- one whole key

module _ (db : Database) (one : KeysAreOne db) (table : TableName) (key : List Value) (lock : KeyPart) (long : KeysHave (length key) db table) where
  itself : IsTrue (is_within (At key) (Within key) key)
  itself = rw (take_all (length key) key (omega arith), tied_itself key_cmp_total key) refl

  pub key_told : (reply : Reply) → CanReply (Fetch table (At key) (Within key) Range lock) reply → AnswersIn db (Fetch table (At key) (Within key) Range lock) reply → Tells db table key reply
  key_told (Row other row at) can answer =
      let parts = both (allows (At key) other) (includes (Within key) other) can in
      sym (one table other key (ap is_eq (one_key key other (long other (rw answer.1 refl)) parts.0 parts.1))) ∙ answer.1
  key_told (Gone other at) can answer = by_order (key_cmp other key) refl
    where
      by_order : (o : Ordering) → key_cmp other key ≡ o → db table key ≡ None
      by_order Less is = absurd (let no : false ≡ true = sym (ap (λ (o : Ordering). not (is_lt o)) is) ∙ (both (allows (At key) other) (includes (Within key) other) can).0 in cc)
      by_order Equal is = sym (one table other key (ap is_eq is)) ∙ answer.0
      by_order Greater is = answer.1 key (both (allows (At key) key) (includes (Within key) key) itself).0 (key_cmp_total.antisymm key other ∙ rw is refl)
  key_told (End at) can answer = answer key itself
  key_told reply can answer = tt

pub key_is_told : KeyTold
key_is_told log mine before later exchange table key lock is holds asks can long =
    let read = (answers log mine before (exchange ∷ []) later is holds ((subst HoldsIt (sym asks) tt, can), tt)).0 in
    key_told (at_place log before later) (one_place log before later) table key lock long exchange.reply (subst (λ (op : Op). CanReply op exchange.reply) asks can) (subst (λ (op : Op). AnswersIn (at_place log before later) op exchange.reply) asks read)
