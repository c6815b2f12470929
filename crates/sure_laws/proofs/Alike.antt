-- What is told twice with its range held is of one database, where only fetches come between.
use Rattle.std.proofs.Common.{◌≡◌, ℕ, true, List, [], ◌∷◌, ◌++◌, length, false, Some, refl, sym, ap, ◌∙◌, subst, append_assoc}
use Rattle.std.specs.Prelude.{IsTrue, nat_eq}
use Rattle.std.specs.List.{AllByRecursion}
use Rattle.std.specs.Ordering.{is_eq}
use Rattle.lock_modes.specs.declared.KeyPart.{KeyPart}
use Rattle.lock_modes.specs.declared.KeyPart.TheVariants.{U}
use Rattle.value_types.specs.declared.table_name.TableName.{TableName}
use Rattle.value_types.specs.declared.value.Value.{Value}
use Rattle.value_types.specs.Order.{key_cmp}
use Rattle.step_model.specs.declared.op.Hold.TheVariants.{Range}
use Rattle.step_model.specs.declared.op.Op.{Op}
use Rattle.step_model.specs.declared.op.Op.TheVariants as ops
use Rattle.step_model.specs.declared.range.Start.{Start}
use Rattle.step_model.specs.declared.range.Start.TheVariants.{At}
use Rattle.step_model.specs.declared.range.Stop.{Stop}
use Rattle.step_model.specs.declared.range.Stop.TheVariants.{Within}
use Rattle.step_model.specs.declared.reply.Reply.{Reply}
use Rattle.step_model.specs.declared.reply.Reply.TheVariants.{Row}
use Rattle.step_model.specs.Database.{Database, allows, includes}
use Rattle.step_model.specs.Exchange.{CanReply, Exchange}
use Rattle.step_model.specs.Fits.{AnswersIn, HoldsRange, ranges_hold}
use Rattle.step_model.specs.Log.{Commit as Logged}
use Rattle.statement_paths.specs.Asked.{AskOnly, IsFetch}
use Rattle.write_laws.specs.Reads.{KeysHave, at_place}
use Rattle.write_laws.proofs.Keys.{one_key}
use Rattle.history_laws.proofs.Basics.{both}
use Rattle.constraint_check.proofs.Behind.{same_back}
use Rattle.write_laws.proofs.Parts.{one_place}
use Rattle.sound_laws.proofs.Trees.{fetch_place, front_place}
use Rattle.sure_laws.specs.Asked.{IsAlike, IsOfKey}
use Rattle.sure_laws.proofs.Finding.{both_fetch}
use Rattle.sure_laws.specs.Laws.{ToldAlike, ToldOfKey}

-- a fetch that holds its range, told a row
told_row : (db : Database) (op : Op) (reply : Reply) (table : TableName) (start : Start) (stop : Stop) (lock : KeyPart) (key row : List Value) (number : ℕ) → op ≡ ops.Fetch table start stop Range lock → reply ≡ Row key row number
    → HoldsRange op (AnswersIn db op reply) → AnswersIn db (ops.Fetch table start stop Range lock) (Row key row number)
told_row db op reply table start stop lock key row number asked told holds =
    subst (λ (r : Reply). AnswersIn db (ops.Fetch table start stop Range lock) r) told (subst (λ (o : Op). HoldsRange o (AnswersIn db o reply)) asked holds)

fetched : (op : Op) (reply : Reply) (table : TableName) (start : Start) (stop : Stop) (lock : KeyPart) (key row : List Value) (number : ℕ) → op ≡ ops.Fetch table start stop Range lock → reply ≡ Row key row number
    → CanReply op reply → IsFetch op
fetched op reply table start stop lock key row number asked told can = subst IsFetch (sym asked) tt

-- one of these
abbrev IsAmong : List Exchange → Exchange → Type 0
IsAmong exchanges x = (front back : List Exchange) × (exchanges ≡ front ++ x ∷ back)

all_among : (exchanges : List Exchange) → AllByRecursion (λ x. CanReply x.op x.reply) exchanges → (x : Exchange) → IsAmong exchanges x → CanReply x.op x.reply
all_among exchanges can x (front, back, split) = at front (subst (AllByRecursion (λ x. CanReply x.op x.reply)) split can)
  where
    at : (front : List Exchange) → AllByRecursion (λ x. CanReply x.op x.reply) (front ++ x ∷ back) → CanReply x.op x.reply
    at [] all = all.0
    at (y ∷ front) all = at front all.1

module _ (log : List Logged) (mine : List Exchange) (holds : ranges_hold log mine) where
  one_row : (table : TableName) (start first : Start) (stop last : Stop) (part lock : KeyPart) (own row key base : List Value) (at number : ℕ) (front between later : List Exchange) (x y : Exchange)
      → mine ≡ (front ++ x ∷ between) ++ y ∷ later → AskOnly IsFetch between → CanReply x.op x.reply → CanReply y.op y.reply → y.op ≡ ops.Fetch table start stop Range part → y.reply ≡ Row own row at
      → x.op ≡ ops.Fetch table first last Range lock → x.reply ≡ Row key base number → IsTrue (is_eq (key_cmp key own)) → base ≡ row
  one_row table start first stop last part lock own row key base at number front between later x y is fetch can may asks tells asked told same =
      let x_fetch : AskOnly IsFetch (x ∷ between) = ((fetched x.op x.reply table first last lock key base number asked told can, can), fetch) in
      let y_fetch : AskOnly IsFetch (between ++ y ∷ []) = both_fetch between (y ∷ []) fetch ((fetched y.op y.reply table start stop part own row at asks tells may, may), tt) in
      let db : Database = at_place log front later in
      let by_y : at_place log (front ++ x ∷ between) later ≡ db = fetch_place log front (x ∷ between) later x_fetch ∙ front_place log front (x ∷ between) later x_fetch in
      let by_x : at_place log front (between ++ y ∷ later) ≡ db = ap (at_place log front) (sym (append_assoc between (y ∷ []) later)) ∙ front_place log front (between ++ y ∷ []) later y_fetch in
      let one = told_row db x.op x.reply table first last lock key base number asked told
      (subst (λ (d : Database). HoldsRange x.op (AnswersIn d x.op x.reply)) by_x (holds front x (between ++ y ∷ later) (is ∙ append_assoc front (x ∷ between) (y ∷ later)))) in
      let two = told_row db y.op y.reply table start stop part own row at asks tells (subst (λ (d : Database). HoldsRange y.op (AnswersIn d y.op y.reply)) by_y (holds (front ++ x ∷ between) y later is)) in
      let both : Some base ≡ Some row = sym one.1 ∙ one_place log front later table key own same ∙ two.1 in
      cc

  alike_at : (earlier before later : List Exchange) (y : Exchange) (op : Op) (reply : Reply) → mine ≡ (earlier ++ before) ++ y ∷ later → y.op ≡ op → y.reply ≡ reply → CanReply op reply → ((x : Exchange) → IsAmong before x → CanReply x.op x.reply) → IsAlike before op reply
  alike_at earlier before later y (ops.Fetch table start stop Range part) (Row own row at) is asks tells can all = λ front between x first last lock key base number split fetch asked told same.
      one_row table start first stop last part lock own row key base at number (earlier ++ front) between later x y
      (is ∙ ap (λ (l : List Exchange). l ++ y ∷ later) (ap (λ (l : List Exchange). earlier ++ l) split ∙ sym (append_assoc earlier front (x ∷ between)))) fetch (all x (front, between, split))
      (subst (λ (o : Op). CanReply o y.reply) (sym asks) (subst (λ (r : Reply). CanReply (ops.Fetch table start stop Range part) r) (sym tells) can)) asks tells asked told same
  alike_at earlier before later y op reply is asks tells can all = tt

pub told_alike : ToldAlike
told_alike log mine earlier before y later holds is can may = alike_at log mine holds earlier before later y y.op y.reply is refl refl may (all_among before can)

-- ---- whole keys

module _ (db : Database) where
  of_key : (op : Op) (reply : Reply) → CanReply op reply → HoldsRange op (AnswersIn db op reply)
      → ((table : TableName) (key : List Value) → op ≡ ops.Fetch table (At key) (Within key) Range U → nat_eq table.part 0 ≡ false → KeysHave (length key) db table) → IsOfKey op reply
  of_key (ops.Fetch table (At key) (Within last) Range U) (Row own row at) can answer long = λ part is.
      let parts = both (allows (At key) own) (includes (Within last) own) can in
      let same : last ≡ key = is in
      same_back own key (ap is_eq (one_key key own (long table key (ap (λ (l : List Value). ops.Fetch table (At key) (Within l) Range U) same) part own (rw answer.1 refl)) parts.0
      (subst (λ (l : List Value). includes (Within l) own ≡ true) same parts.1)))
  of_key op reply can answer long = tt

pub told_of_key : ToldOfKey
told_of_key log mine before x later holds is can long = of_key (at_place log before later) x.op x.reply can (holds before x later is) long
