-- A definition that was looked up is sure; so are all definitions where all were read, in order of their names, and the one of a name that was looked up
-- is the same.
use Rattle.std.proofs.lemmas.Bool.{and_parts}
use Rattle.std.proofs.Common.{◌≡◌, ◌⊎◌, inl, inr, ℕ, zero, suc, Bool, true, false, if◌then◌else◌, List, [], ◌∷◌, ◌++◌, Option, Some, None, Result, Ok, Err, refl, sym, ap, ◌∙◌, subst, append-nil, append_assoc}
use Rattle.std.specs.Prelude.{IsTrue}
use Rattle.std.specs.Ordering.{is_eq}
use Rattle.std.specs.Cmp.{tied_itself}
use Rattle.std.specs.declared.cmp.Ordering.TheVariants.{Less}
use Rattle.lock_modes.specs.declared.KeyPart.{KeyPart}
use Rattle.lock_modes.specs.declared.KeyPart.TheVariants.{S}
use Rattle.value_types.specs.declared.table_name.TableName.{TableName}
use Rattle.value_types.specs.declared.value.Value.{Value}
use Rattle.value_types.specs.declared.value.Value.TheVariants.{Null, Whole, Bit, Text}
use Rattle.value_types.specs.Order.{key_cmp, table_cmp}
use Rattle.value_types.specs.OrderLaws.{table_cmp_total}
use Rattle.tsql_tree.specs.declared.definition.Definition.{Definition}
use Rattle.table_rows.specs.Definitions.{IsDefinitionIn, IsDefinitionOf, IsOfName, defined_name, is_objects, object_key, objects_name}
use Rattle.table_rows.specs.Rows.{rows_table, same_key}
use Rattle.step_model.specs.declared.manner.Manner.{Manner}
use Rattle.step_model.specs.declared.op.Hold.TheVariants.{Range}
use Rattle.step_model.specs.declared.op.Op.{Op}
use Rattle.step_model.specs.declared.op.Op.TheVariants as ops
use Rattle.step_model.specs.declared.range.Start.{Start}
use Rattle.step_model.specs.declared.range.Start.TheVariants.{First}
use Rattle.step_model.specs.declared.range.Stop.{Stop}
use Rattle.step_model.specs.declared.range.Stop.TheVariants.{Last}
use Rattle.step_model.specs.declared.reply.Reply.{Reply}
use Rattle.step_model.specs.declared.reply.Reply.TheVariants as replies
use Rattle.step_model.specs.declared.resource.Span.{Span}
use Rattle.step_model.specs.declared.resource.Span.TheVariants.{Statement}
use Rattle.step_model.specs.Database.{allows, includes, is_within}
use Rattle.step_model.specs.Exchange.{CanReply, Exchange}
use Rattle.step_model.specs.Ranges.{no_memory, range_limit}
use Rattle.constraint_check.proofs.Behind.{same_back, same_on}
use Rattle.dml_exec.specs.Reading.{behind_gone}
use Rattle.history_laws.proofs.Ranges.{allows_above}
use Rattle.batch_meaning.specs.declared.failure.Failure.{Failure}
use Rattle.batch_meaning.specs.Asking.{defined_by, defined_from, defined_on, definition_fetch, fails, known, look_up, objects_fetch, reads_definitions, unless_refused, with_found, with_room}
use Rattle.batch_meaning.specs.Doing.{asks, defines, over}
use Rattle.statement_paths.specs.Asked.{AskOnly, IsFetch}
use Rattle.statement_paths.specs.Paths.{replied}
use Rattle.write_laws.proofs.Defined.{one_name, one_thing}
use Rattle.write_laws.proofs.Keys.{behind_above}
use Rattle.sure_laws.specs.Asked.{IsTold, none_sure}
use Rattle.sure_laws.proofs.Sures.{becomes_sure, fetches_leave, stays_sure, sure_behind, sure_both, with_one}
use Rattle.sure_laws.proofs.Trees.{OnOk, Sures, sures_bind, sures_more, sures_room}

-- ---- what a row of `objects` defines

-- it stands at the key of a name, and defines that
record IsNamed (key row : List Value) (definition : Definition) : Type 0 where
  pub name : List ℕ
  pub at : same_key (object_key name) key ≡ true
  pub defines : IsDefinitionOf name row (Some definition)
  pub named : defined_name definition ≡ name

named_in : (key row : List Value) (definition : Definition) → IsDefinitionIn (key, row) (Some definition) → IsNamed key row definition
named_in key (Text name ∷ rest) definition is = by_test (same_key (object_key name) key) refl is
  where
    by_test : (b : Bool) → same_key (object_key name) key ≡ b → IsOfName (if b then Some name else None) (Text name ∷ rest) (Some definition) → IsNamed key (Text name ∷ rest) definition
    by_test true at of = record { name = name; at = at; defines = of; named = of.2.named }
    by_test false at of = absurd (let no : Some definition ≡ None = of in cc)
named_in key [] definition is = absurd (let no : Some definition ≡ None = is in cc)
named_in key (Null ∷ rest) definition is = absurd (let no : Some definition ≡ None = is in cc)
named_in key (Whole number ∷ rest) definition is = absurd (let no : Some definition ≡ None = is in cc)
named_in key (Bit bit ∷ rest) definition is = absurd (let no : Some definition ≡ None = is in cc)

-- at the key of its own name
own_at : (key row : List Value) (definition : Definition) → IsDefinitionIn (key, row) (Some definition) → same_key (object_key (defined_name definition)) key ≡ true
own_at key row definition is = let of = named_in key row definition is in subst (λ (n : List ℕ). same_key (object_key n) key ≡ true) (sym of.named) of.at

-- one row defines one thing
one_row : (key other row base : List Value) (c d : Definition) → row ≡ base → IsDefinitionIn (key, row) (Some c) → IsDefinitionIn (other, base) (Some d) → c ≡ d
one_row key other row base c d same x y =
    let one = named_in key row c x in
    let two = named_in other base d y in
    let also : IsDefinitionOf two.name row (Some d) = subst (λ (r : List Value). IsDefinitionOf two.name r (Some d)) (sym same) two.defines in
    one_thing row two.name c d (subst (λ (n : List ℕ). IsDefinitionOf n row (Some c)) (one_name row one.name two.name c d one.defines also) one.defines) also

abbrev pub objects : TableName
objects = rows_table objects_name

pub objects_same : IsTrue (is_eq (table_cmp objects objects))
objects_same = ap is_eq (tied_itself table_cmp_total objects)

-- fetches behind fetches
pub both_fetch : (one other : List Exchange) → AskOnly IsFetch one → AskOnly IsFetch other → AskOnly IsFetch (one ++ other)
both_fetch [] other first second = second
both_fetch (x ∷ one) other first second = (first.0, both_fetch one other first.1 second)

module _ (manner : Manner) where
  -- what was sure is, behind one fetch more
  fetch_sure : (before : List Exchange) (op : Op) (reply : Reply) (span : Span) (t : TableName) (x : List Value) → IsFetch op → sure_behind manner before span t x → sure_behind manner (with_one manner before op reply) span t x
  fetch_sure before (ops.Fetch table start stop hold part) reply span t x fetch was = stays_sure manner before (ops.Fetch table start stop hold part) reply span t x was tt
  fetch_sure before op reply span t x fetch was = absurd fetch

  -- and behind more of them
  pub part_sure : (before part : List Exchange) (span : Span) (t : TableName) (x : List Value) → AskOnly IsFetch part → sure_behind manner before span t x → sure_behind manner (before ++ part) span t x
  part_sure before part span t x fetch was = sure_both none_sure before part span t x (fetches_leave part (sure_behind manner before) span t x fetch was)

  -- ---- a look-up

  -- this was found under the name, and only fetches came since
  pub record IsFoundAt (name : List ℕ) (old : Definition) (behind : List Exchange) : Type 0 where
    pub front : List Exchange
    pub between : List Exchange
    pub x : Exchange
    pub first : Start
    pub last : Stop
    pub lock : KeyPart
    pub key : List Value
    pub row : List Value
    pub number : ℕ
    pub split : behind ≡ front ++ x ∷ between
    pub fetches : AskOnly IsFetch between
    pub asked : x.op ≡ ops.Fetch objects first last Range lock
    pub told : x.reply ≡ replies.Row key row number
    pub defines : IsDefinitionIn (key, row) (Some old)
    pub at : same_key (object_key name) key ≡ true
    pub other : is_objects name ≡ false
    pub sure : sure_behind manner behind Statement objects (object_key name)

  found_on : (name : List ℕ) (old : Definition) (before : List Exchange) (op : Op) (reply : Reply) → IsFetch op → CanReply op reply → IsFoundAt name old before → IsFoundAt name old (with_one manner before op reply)
  found_on name old before op reply fetch can found = record {
    front = found.front;
    between = found.between ++ replied manner op reply ∷ [];
    x = found.x;
    first = found.first;
    last = found.last;
    lock = found.lock;
    key = found.key;
    row = found.row;
    number = found.number;
    split = ap (λ (l : List Exchange). l ++ replied manner op reply ∷ []) found.split ∙ append_assoc found.front (found.x ∷ found.between) (replied manner op reply ∷ []);
    fetches = both_fetch found.between (replied manner op reply ∷ []) found.fetches ((fetch, can), tt);
    asked = found.asked;
    told = found.told;
    defines = found.defines;
    at = found.at;
    other = found.other;
    sure = fetch_sure before op reply Statement objects (object_key name) fetch found.sure;
  }

  -- where something of the name was found, it is so
  abbrev pub Found : List ℕ → Option Definition → List Exchange → Type 0
  Found name found behind = (old : Definition) → found ≡ Some old → defined_name old ≡ name → IsFoundAt name old behind

  pub look_sure : (name : List ℕ) (before : List Exchange) → Sures manner (OnOk manner (Found name)) before (look_up name)
  unfolding look_up
  look_sure name before = by_test (is_objects name) refl
    where
      nothing : (behind : List Exchange) → Found name None behind
      nothing behind old is named = absurd (let no : None ≡ Some old = is in cc)

      by_row : is_objects name ≡ false → (key row : List Value) (at : ℕ) (enough : Bool)
          → Sures manner (OnOk manner (Found name)) (with_one manner before (definition_fetch name) (replies.Row key row at)) (if enough then defines (key, row) (λ found. over (Ok found)) else fails no_memory)
      by_row other key row at true = λ found is old same named.
          let defined : IsDefinitionIn (key, row) (Some old) = subst (λ (f : Option Definition). IsDefinitionIn (key, row) f) same is in
          let here : same_key (object_key name) key ≡ true = subst (λ (n : List ℕ). same_key (object_key n) key ≡ true) named (own_at key row old defined) in
          record {
            front = before;
            between = [];
            x = replied manner (definition_fetch name) (replies.Row key row at);
            first = _;
            last = _;
            lock = S;
            key = key;
            row = row;
            number = at;
            split = refl;
            fetches = tt;
            asked = refl;
            told = refl;
            defines = defined;
            at = here;
            other = other;
            sure = becomes_sure manner before (definition_fetch name) (replies.Row key row at) Statement objects (object_key name) (objects_same, here);
          }
      by_row other key row at false = tt

      by_reply : is_objects name ≡ false → (reply : Reply) → CanReply (definition_fetch name) reply → Sures manner (OnOk manner (Found name)) (with_one manner before (definition_fetch name) reply) (unless_refused known reply)
      by_reply other (replies.Row key row at) can = λ enough. by_row other key row at enough
      by_reply other (replies.Gone key at) can = nothing _
      by_reply other (replies.End at) can = nothing _
      by_reply other replies.Memory can = tt
      by_reply other (replies.TimedOut holder held wanted on) can = tt
      by_reply other (replies.Victim cycle) can = tt
      by_reply other reply can = absurd can

      by_test : (b : Bool) → is_objects name ≡ b → Sures manner (OnOk manner (Found name)) before (if b then over (Ok None) else with_room (asks (definition_fetch name) (unless_refused known)))
      by_test true is = nothing before
      by_test false is = sures_room manner (OnOk manner (Found name)) before (asks (definition_fetch name) (unless_refused known)) (λ failure. tt) (tt, λ reply can told. by_reply is reply can)

  -- ---- all definitions

  module _ (name : List ℕ) (old : Definition) where
    -- what was told of a definition: it is sure, and the one of this name is the one that was found
    abbrev IsSureDefinition : List Exchange → List Value → Definition → Type 0
    IsSureDefinition behind key d =
        (same_key (object_key (defined_name d)) key ≡ true) × sure_behind manner behind Statement objects (object_key (defined_name d)) × (same_key (object_key name) (object_key (defined_name d)) ≡ true → d ≡ old)

    -- definitions in strict order of their keys, the first at one that is allowed
    abbrev pub AreSureFrom : (List Value → Type 0) → List Exchange → List Definition → Type 0
    AreSureFrom Allowed behind [] = Unit {0}
    AreSureFrom Allowed behind (d ∷ ds) = (key : List Value) × Allowed key × IsSureDefinition behind key d × AreSureFrom (λ k. key_cmp key k ≡ Less) behind ds

    from_more : (One Other : List Value → Type 0) (behind : List Exchange) (ds : List Definition) → ((k : List Value) → One k → Other k) → AreSureFrom One behind ds → AreSureFrom Other behind ds
    from_more One Other behind [] on are = tt
    from_more One Other behind (d ∷ ds) on are = (are.0, on are.0 are.1, are.2, are.3)

    abbrev pub Grows : List Exchange → List Exchange → Type 0
    Grows before behind = (span : Span) (t : TableName) (x : List Value) → sure_behind manner before span t x → sure_behind manner behind span t x

    pub from_on : (Allowed : List Value → Type 0) (before behind : List Exchange) (ds : List Definition) → Grows before behind → AreSureFrom Allowed before ds → AreSureFrom Allowed behind ds
    from_on Allowed before behind [] grows are = tt
    from_on Allowed before behind (d ∷ ds) grows are =
        (are.0, are.1, (are.2.0, grows Statement objects (object_key (defined_name d)) are.2.1, are.2.2), from_on (λ k. key_cmp are.0 k ≡ Less) before behind ds grows are.3)

    -- what one reply adds
    abbrev Adds : Start → List Definition → List Definition × Option (List Value) → List Exchange → Type 0
    Adds start so_far (so, None) behind = so ≡ so_far
    Adds start so_far (so, Some key) behind = (allows start key ≡ true) × ((so ≡ so_far) ⊎ ((d : Definition) × (so ≡ so_far ++ d ∷ []) × IsSureDefinition behind key d))

    abbrev Step : Start → List Definition → List Exchange → List Definition × Option (List Value) → List Exchange → Type 0
    Step start so_far before came behind = Adds start so_far came behind × IsFoundAt name old behind × Grows before behind

    fetch_grows : (before : List Exchange) (start : Start) (reply : Reply) → Grows before (with_one manner before (objects_fetch start) reply)
    fetch_grows before start reply span t x was = fetch_sure before (objects_fetch start) reply span t x tt was

    step_sure : (start : Start) (so_far : List Definition) (before : List Exchange) → IsFoundAt name old before → Sures manner (OnOk manner (Step start so_far before)) before (asks (objects_fetch start) (unless_refused (defined_by so_far)))
    step_sure start so_far before found = (tt, λ reply can told. by_reply reply can told)
      where
        allowed : (key : List Value) → IsTrue (is_within start Last key) → allows start key ≡ true
        allowed key within = (and_parts (allows start key) (includes Last key) within).0

        by_found : (key row : List Value) (at : ℕ) → IsTrue (is_within start Last key) → IsTold before (objects_fetch start) (replies.Row key row at) → (one : Option Definition) → IsDefinitionIn (key, row) one
            → Adds start so_far (with_found so_far one, Some key) (with_one manner before (objects_fetch start) (replies.Row key row at))
        by_found key row at can told None is = (allowed key can, inl refl)
        by_found key row at can told (Some d) is =
            let here = own_at key row d is in (
              allowed key can,
              inr (
                d,
                refl,
                (
                  here,
                  becomes_sure manner before (objects_fetch start) (replies.Row key row at) Statement objects (object_key (defined_name d)) (objects_same, here),
                  (λ same. one_row key found.key row found.row d old
                      (sym (told.1 found.front found.between found.x found.first found.last found.lock found.key found.row found.number found.split found.fetches found.asked found.told
                      (same_on found.key (object_key name) key (same_back (object_key name) found.key found.at) (same_on (object_key name) (object_key (defined_name d)) key same here)))) is found.defines),
                ),
              ),
            )

        by_row : (key row : List Value) (at : ℕ) → IsTrue (is_within start Last key) → IsTold before (objects_fetch start) (replies.Row key row at) → (enough : Bool)
            → Sures manner (OnOk manner (Step start so_far before)) (with_one manner before (objects_fetch start) (replies.Row key row at))
            (if enough then defines (key, row) (λ one. with_room (over (Ok (with_found so_far one, Some key)))) else fails no_memory)
        by_row key row at can told true = λ one is enough. by_room one is enough
          where
            by_room : (one : Option Definition) → IsDefinitionIn (key, row) one → (enough : Bool)
                → Sures manner (OnOk manner (Step start so_far before)) (with_one manner before (objects_fetch start) (replies.Row key row at)) (if enough then over (Ok (with_found so_far one, Some key)) else fails no_memory)
            by_room one is true = (by_found key row at can told one is, found_on name old before (objects_fetch start) (replies.Row key row at) tt can found, fetch_grows before start (replies.Row key row at))
            by_room one is false = tt
        by_row key row at can told false = tt

        by_reply : (reply : Reply) → CanReply (objects_fetch start) reply → IsTold before (objects_fetch start) reply
            → Sures manner (OnOk manner (Step start so_far before)) (with_one manner before (objects_fetch start) reply) (unless_refused (defined_by so_far) reply)
        by_reply (replies.Row key row at) can told = λ enough. by_row key row at can told enough
        by_reply (replies.Gone key at) can told = ((allowed key can, inl refl), found_on name old before (objects_fetch start) (replies.Gone key at) tt can found, fetch_grows before start (replies.Gone key at))
        by_reply (replies.End at) can told = (refl, found_on name old before (objects_fetch start) (replies.End at) tt can found, fetch_grows before start (replies.End at))
        by_reply replies.Memory can told = tt
        by_reply (replies.TimedOut holder held wanted on) can told = tt
        by_reply (replies.Victim cycle) can told = tt
        by_reply reply can told = absurd can

    -- the rest of them
    abbrev pub AreAll : Start → List Definition → List Exchange → List Definition → List Exchange → Type 0
    AreAll start so_far before all behind = (more : List Definition) × (all ≡ so_far ++ more) × AreSureFrom (λ k. allows start k ≡ true) behind more × IsFoundAt name old behind × Grows before behind

    goes_on : (start : Start) (so_far so all : List Definition) (key : List Value) (before mid behind : List Exchange) → Step start so_far before (so, Some key) mid → AreAll (behind_gone 1 key) so mid all behind → AreAll start so_far before all behind
    goes_on start so_far so all key before mid behind step rest = by_added step.0.1
      where
        grows : Grows before behind
        grows span t x was = rest.4 span t x (step.2 span t x was)

        by_added : ((so ≡ so_far) ⊎ ((d : Definition) × (so ≡ so_far ++ d ∷ []) × IsSureDefinition mid key d)) → AreAll start so_far before all behind
        by_added (inl none) = (
          rest.0,
          rest.1 ∙ ap (λ (l : List Definition). l ++ rest.0) none,
          from_more (λ k. allows (behind_gone 1 key) k ≡ true) (λ k. allows start k ≡ true) behind rest.0 (λ k may. allows_above start key k (behind_above 1 key k may) step.0.0) rest.2,
          rest.3,
          grows,
        )
        by_added (inr (d, one, sure)) = (
          d ∷ rest.0,
          rest.1 ∙ ap (λ (l : List Definition). l ++ rest.0) one ∙ append_assoc so_far (d ∷ []) rest.0,
          (
            key,
            step.0.0,
            (sure.0, rest.4 Statement objects (object_key (defined_name d)) sure.1, sure.2),
            from_more (λ k. allows (behind_gone 1 key) k ≡ true) (λ k. key_cmp key k ≡ Less) behind rest.0 (behind_above 1 key) rest.2,
          ),
          rest.3,
          grows,
        )

    rest_sure : (left : ℕ) (start : Start) (so_far : List Definition) (before : List Exchange) → IsFoundAt name old before → Sures manner (OnOk manner (AreAll start so_far before)) before (defined_from left start so_far)
    unfolding defined_from
    rest_sure zero start so_far before found = tt
    rest_sure (suc left) start so_far before found =
        sures_bind manner (Step start so_far before) (OnOk manner (AreAll start so_far before)) before (asks (objects_fetch start) (unless_refused (defined_by so_far))) (defined_on (λ more key. defined_from left (behind_gone 1 key) more))
        (λ failure behind. tt) (step_sure start so_far before found) (by_came (λ more key mid now. rest_sure left (behind_gone 1 key) more mid now))
      where
        by_came : ((more : List Definition) (key : List Value) (mid : List Exchange) → IsFoundAt name old mid → Sures manner (OnOk manner (AreAll (behind_gone 1 key) more mid)) mid (defined_from left (behind_gone 1 key) more))
            → (came : List Definition × Option (List Value)) (mid : List Exchange) → Step start so_far before came mid → Sures manner (OnOk manner (AreAll start so_far before)) mid (defined_on (λ more key. defined_from left (behind_gone 1 key) more) came)
        by_came rest (so, None) mid step = ([], step.0 ∙ sym (append-nil so_far), tt, step.1, step.2)
        by_came rest (so, Some key) mid step =
            sures_more manner (OnOk manner (AreAll (behind_gone 1 key) so mid)) (OnOk manner (AreAll start so_far before)) mid (defined_from left (behind_gone 1 key) so) (on_rest) (rest so key mid step.1)
          where
            on_rest : (came : Result (List Definition) Failure) (behind : List Exchange) → OnOk manner (AreAll (behind_gone 1 key) so mid) came behind → OnOk manner (AreAll start so_far before) came behind
            on_rest (Ok all) behind are = goes_on start so_far so all key before mid behind step are
            on_rest (Err failure) behind are = tt

    pub definitions_sure : (before : List Exchange) → IsFoundAt name old before → Sures manner (OnOk manner (AreAll First [] before)) before reads_definitions
    unfolding reads_definitions
    definitions_sure before found = sures_room manner (OnOk manner (AreAll First [] before)) before (defined_from range_limit First []) (λ failure. tt) (rest_sure range_limit First [] before found)
