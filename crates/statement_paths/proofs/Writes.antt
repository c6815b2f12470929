-- INSERT, UPDATE and DELETE: what they have asked without triggers, and up to where their triggers run.
use Rattle.std.proofs.Common.{◌≡◌, ◌⊎◌, inl, inr, Bool, true, false, if◌then◌else◌, List, [], ◌∷◌, ◌++◌, Result, Ok, Err, refl, sym, ap, ◌∙◌, subst, append-nil, append_assoc}
use Rattle.std.specs.Prelude.{◌≢◌}
use Rattle.tsql_tree.specs.declared.definition.TableTree.{TableTree}
use Rattle.tsql_tree.specs.declared.definition.TriggerTree.{TriggerTree}
use Rattle.tsql_tree.specs.declared.statement.Form.{Form-F}
use Rattle.tsql_tree.specs.declared.statement.Statement.{Statement}
use Rattle.bound_tree.specs.declared.write.Bound.{Bound}
use Rattle.binder.specs.Names.{Layer, form_of, looked_up}
use Rattle.table_rows.specs.Definitions.{tables_of}
use Rattle.step_model.specs.declared.change.Planned.{Planned}
use Rattle.step_model.specs.declared.op.Op.TheVariants as ops
use Rattle.step_model.specs.declared.reply.Reply.{Reply}
use Rattle.step_model.specs.declared.reply.Reply.TheVariants as replies
use Rattle.step_model.specs.Dialog.{IsQuiet}
use Rattle.step_model.specs.Exchange.{Exchange, CanReply}
use Rattle.step_model.specs.Ranges.{no_memory}
use Rattle.batch_meaning.specs.declared.failure.Failure.{Failure}
use Rattle.batch_meaning.specs.declared.home.Home.{Home}
use Rattle.batch_meaning.specs.declared.home.Home.TheVariants.{Open, Own}
use Rattle.batch_meaning.specs.declared.stop.Stop.{Stop}
use Rattle.batch_meaning.specs.declared.stop.Stop.TheVariants as stop
use Rattle.batch_meaning.specs.Asking.{◌>>=◌, on_ok, unless_refused, where_begun, with_room}
use Rattle.batch_meaning.specs.Doing.{Doing, over, asks, never, ◌then◌, Held, Left}
use Rattle.batch_meaning.specs.Failures.{plain}
use Rattle.batch_meaning.specs.Meaning.{Meaning, fires, writes, writes_in, written_in, written_with}
use Rattle.batch_meaning.specs.Progress.{SessionProgress, asked}
use Rattle.batch_meaning.specs.Raised.{Around}
use Rattle.batch_meaning.specs.Selecting.{Effect}
use Rattle.batch_meaning.specs.Working.{asks_any, binds, enters, known_by, leaves, own, within}
use Rattle.batch_meaning.specs.Writes.{Written, change_bound}
use Rattle.statement_paths.specs.Paths.{replied, IsBound, IsChange, IsChanged, IsDone, IsDoneAs, IsEntered, IsFailed, IsFired, asks_for, asks_of, changes_of, is_write}
use Rattle.statement_paths.proofs.Only.{only_bind}
use Rattle.statement_paths.proofs.Still.{Still}
use Rattle.statement_paths.proofs.Apart.{Apart, bind_apart, bind_failed, held_apart, held_then, left_apart, left_front, left_then}
use Rattle.statement_paths.proofs.Dialogs.{is_replied}
use Rattle.statement_paths.proofs.Changing.{change_apart, change_failed}
use Rattle.statement_paths.proofs.Looking.{ok_same}
use Rattle.statement_paths.proofs.Works.{IsWorkStep, Works, Worked, binds_work, change_works, works_leave}
use Rattle.statement_paths.proofs.Owned.{Behind, behind, entered}
use Rattle.statement_paths.proofs.Statements.{HasCome, WasLeft, begun_still, binds_apart, bound_comes, bound_failed, roomed_left}
use Rattle.statement_paths.proofs.Unasked.{found_none, write_unknown}

module _ (around : Around) (p : SessionProgress) (statement : Statement) where
  abbrev pub Asks : Bool
  Asks = asks_any (known_by around statement) (looked_up statement)

  abbrev pub work : Doing (Result Written Failure)
  work = binds around statement (change_bound around)

  abbrev pub ChangeBy : List TableTree → Bound → Written → List Exchange → Type 0
  ChangeBy shapes of done exchanges = (planned : List Planned) × IsChange around p shapes of planned done exchanges

  abbrev pub IsChangedAs : Written → List Exchange → Type 0
  IsChangedAs done exchanges = IsBound around p statement (λ shapes of worked. ChangeBy shapes of done worked) exchanges

  change_done : (shapes : List TableTree) (of : Bound) (q new : SessionProgress) (exchanges : List Exchange) (done : Written) → Still p q → Held (change_bound around shapes of) q exchanges (Ok done) new → ChangeBy shapes of done exchanges
  change_done shapes of q new exchanges done still held = (change_apart around p shapes of q new exchanges done still held).0

  -- ---- without triggers

  pub changes_come : (came : Result Written Failure) (new : SessionProgress) (exchanges : List Exchange) → Held (changes_of around statement) p exchanges came new → HasCome p IsChangedAs Asks came exchanges × Behind p new
  unfolding changes_of within
  changes_come came new exchanges held = bound_comes around p statement (change_bound around) ChangeBy (change_works around p) change_done (change_failed around p) came new exchanges held

  -- with what it planned
  pub changed_as : (done : Written) (exchanges : List Exchange) → IsChangedAs done exchanges → (planned : List Planned) × IsChanged around p statement planned done exchanges
  changed_as done exchanges is = (is.works.0, record { definitions = is.definitions; of = is.of; looked = is.looked; worked = is.worked; parts = is.parts; looks = is.looks; binds = is.binds; works = is.works.1 })

  -- ---- with those that it fires

  -- where they run the session is as it was where the work began, but for its locks
  work_still : (q new : SessionProgress) (exchanges : List Exchange) (done : Written) → Still p q → Held work q exchanges (Ok done) new → IsChangedAs done exchanges × Still p new
  work_still q new exchanges done still held =
      let on = binds_apart around p statement (change_bound around) q new exchanges done still held in
      let is = change_apart around p (tables_of on.definitions) on.of on.mid new on.worked done on.still on.rest in
      (record { definitions = on.definitions; of = on.of; looked = on.looked; worked = on.worked; parts = on.parts; looks = on.looks; binds = on.binds; works = is.0 }, is.1)

  works : Works work
  works = binds_work around statement (change_bound around) (change_works around p)

  -- ---- where they begin

  -- in which transaction it works
  abbrev IsHome : Bool → Home → List Exchange → SessionProgress → Type 0
  IsHome is_open home exchanges mid = IsEntered is_open p.settings.manner exchanges home × (mid ≡ entered true is_open p)

  home_same : (home other : Home) → ◌≡◌ {A = Result Home Failure} (Ok home) (Ok other) → home ≡ other
  home_same home other is = cc

  entered_held : (exchanges : List Exchange) (home : Home) (mid : SessionProgress) → Held (enters true) p exchanges (Ok home) mid → IsHome p.is_open home exchanges mid
  unfolding enters Held
  entered_held exchanges home mid held = by_open p.is_open held
    where
      by_begin : (xs : List Exchange) → Held (asks ops.Begin (unless_refused (where_begun (over (Ok Own))))) p xs (Ok home) mid → IsHome false home xs mid
      by_begin [] was = absurd was
      by_begin (x ∷ later) was = by_reply x.reply refl was.2 was.3
        where
          by_reply : (reply : Reply) → x.reply ≡ reply → CanReply ops.Begin reply → Held {A = Result Home Failure} (unless_refused (where_begun (over (Ok Own))) reply) (asked ops.Begin reply p) later (Ok home) mid → IsHome false home (x ∷ later) mid
          by_reply replies.Began told can so = (
            (ap (λ (y : Exchange). y ∷ later) (is_replied x p.settings.manner ops.Begin replies.Began was.0 was.1 told) ∙ ap (λ (l : List Exchange). replied p.settings.manner ops.Begin replies.Began ∷ l) so.0, home_same home Own so.1),
            so.2,
          )
          by_reply replies.Memory told can so = absurd (let no : Ok home ≡ Err (plain no_memory) = so.1 in cc)
          by_reply reply told can so = absurd can

      by_open : (is_open : Bool) → Held (if is_open then over (Ok Open) else asks ops.Begin (unless_refused (where_begun (over (Ok Own))))) p exchanges (Ok home) mid → IsHome is_open home exchanges mid
      by_open true was = ((was.0, home_same home Open was.1), was.2)
      by_open false was = by_begin exchanges was

  begun_open : (is_open : Bool) → p.is_open ≡ is_open → (entered true is_open p).is_open ≡ true
  begun_open true is = is
  begun_open false is = refl

  -- ---- the same without its triggers

  -- what its end leads to does not matter
  ended_same : {A B : Type 0} (home : Home) (succeeded : Bool) (a c : A) (b : B) (mid new : SessionProgress) (exchanges : List Exchange) → Held (leaves home succeeded then λ done. over a) mid exchanges c new
      → (c ≡ a) × Held (leaves home succeeded then λ done. over b) mid exchanges b new
  unfolding Held
  ended_same {A = A} {B = B} home succeeded a c b mid new exchanges held =
      let on = held_apart (leaves home succeeded) (λ done. over a) mid new exchanges c held in (
        on.rest.1,
        subst (λ (l : List Exchange). Held (leaves home succeeded then λ done. over b) mid l b new) (sym on.parts)
            (held_then (leaves home succeeded) (λ done. over b) mid on.mid new on.front on.back on.came b on.held (on.rest.0, refl, on.rest.2)),
      )

  left_same : {A B : Type 0} (home : Home) (succeeded : Bool) (a : A) (b : B) (mid new : SessionProgress) (exchanges : List Exchange) → Left (leaves home succeeded then λ done. over a) mid exchanges new
      → Left (leaves home succeeded then λ done. over b) mid exchanges new
  unfolding Left
  left_same {A = A} {B = B} home succeeded a b mid new exchanges left = by_left (left_apart (leaves home succeeded) (λ done. over a) mid new exchanges left)
    where
      by_left : Left (leaves home succeeded) mid exchanges new ⊎ Apart (leaves home succeeded) mid exchanges (λ done q back. Left (over a) q back new) → Left (leaves home succeeded then λ done. over b) mid exchanges new
      by_left (inl here) = left_front (leaves home succeeded) (λ done. over b) mid new exchanges here
      by_left (inr on) = subst (λ (l : List Exchange). Left (leaves home succeeded then λ done. over b) mid l new) (sym on.parts)
          (left_then (leaves home succeeded) (λ done. over b) mid on.mid new on.front on.back on.came on.held on.rest)

  -- its parts are put together
  composed : (front middle last exchanges : List Exchange) (home : Home) (q mid new : SessionProgress) (result : Result Written Failure) → exchanges ≡ front ++ (middle ++ last) → Held (enters Asks) p front (Ok home) q → Held work q middle result mid
      → Held (behind home result) mid last result new → Held (changes_of around statement) p exchanges result new
  unfolding changes_of own Held
  composed front middle last exchanges home q mid new result parts first second third =
      subst (λ (l : List Exchange). Held (changes_of around statement) p l result new) (sym parts)
      (true, held_then (enters Asks) (on_ok (λ home. work then behind home)) p q new front (middle ++ last) (Ok home) result first (held_then work (behind home) q mid new middle last result result second third))

  -- it fires some
  pub record Fires (Goes : Home → Written → SessionProgress → List Exchange → Type 0) (exchanges : List Exchange) : Type 0 where
    pub first : List Exchange
    pub worked : List Exchange
    pub last : List Exchange
    pub home : Home
    pub begun : SessionProgress
    pub mid : SessionProgress
    pub done : Written
    pub parts : exchanges ≡ first ++ (worked ++ last)
    pub enters_so : Held (enters Asks) p first (Ok home) begun
    pub works_so : Held work begun worked (Ok done) mid
    pub some : done.fires ≢ []
    pub goes : Goes home done mid last

  fires_some : (done : Written) (trigger : TriggerTree) (triggers : List TriggerTree) → done.fires ≡ trigger ∷ triggers → done.fires ≢ []
  fires_some done trigger triggers is none = let no : trigger ∷ triggers ≡ [] = sym is ∙ none in absurd (cc)

  module _ (one : Statement → Meaning) where
    -- it failed, or it fires none, or some
    abbrev pub Ways : Result Effect Stop → SessionProgress → List Exchange → Type 0
    Ways came new exchanges = ((failure : Failure) × (came ≡ Err (stop.Failed failure)) × Held (changes_of around statement) p exchanges (Err failure) new)
        ⊎ (((done : Written) × (done.fires ≡ []) × (came ≡ Ok done.effect) × Held (changes_of around statement) p exchanges (Ok done) new)
        ⊎ Fires (λ home done mid last. Held (fires one around home done) mid last came new) exchanges)

    pub writes_apart : (came : Result Effect Stop) (new : SessionProgress) (exchanges : List Exchange) → Held (writes one around statement) p exchanges came new → Ways came new exchanges
    unfolding writes changes_of own ◌then◌ Held
    writes_apart came new exchanges held = by_room held.0 held.1
      where
        by_fires : (front middle last : List Exchange) (home : Home) (q mid : SessionProgress) (done : Written) → exchanges ≡ front ++ (middle ++ last) → Held (enters Asks) p front (Ok home) q → Held work q middle (Ok done) mid
            → (triggers : List TriggerTree) → done.fires ≡ triggers → Held (written_with one around home done triggers) mid last came new → Ways came new exchanges
        by_fires front middle last home q mid done parts first second [] none rest =
            let end = ended_same home true (Ok done.effect) came (Ok done) mid new last rest in inr (inl (done, none, end.0, composed front middle last exchanges home q mid new (Ok done) parts first second end.1))
        by_fires front middle last home q mid done parts first second (trigger ∷ triggers) some rest =
            inr (inr (record { first = front; worked = middle; last = last; home = home; begun = q; mid = mid; done = done; parts = parts; enters_so = first; works_so = second; some = fires_some done trigger triggers some; goes = rest }))

        by_done : (front middle last : List Exchange) (home : Home) (q mid : SessionProgress) (result : Result Written Failure) → exchanges ≡ front ++ (middle ++ last) → Held (enters Asks) p front (Ok home) q → Held work q middle result mid
            → Held (written_in one around home result) mid last came new → Ways came new exchanges
        by_done front middle last home q mid (Err failure) parts first second rest =
            let end = ended_same home false (Err (stop.Failed failure)) came (Err failure) mid new last rest in inl (failure, end.0, composed front middle last exchanges home q mid new (Err failure) parts first second end.1)
        by_done front middle last home q mid (Ok done) parts first second rest = by_fires front middle last home q mid done parts first second done.fires refl rest

        by_home : (front back : List Exchange) (home : Result Home Failure) (q : SessionProgress) → exchanges ≡ front ++ back → Held (enters Asks) p front home q → Held (writes_in one around statement home) q back came new → Ways came new exchanges
        by_home front back (Err failure) q parts first rest =
            inl (
              failure,
              rest.1,
              subst (λ (l : List Exchange). Held (changes_of around statement) p l (Err failure) new) (sym parts)
                  (true, held_then (enters Asks) (on_ok (λ home. work then behind home)) p q new front back (Err failure) (Err failure) first (rest.0, refl, rest.2)),
            )
        by_home front back (Ok home) q parts first rest =
            let on = held_apart work (written_in one around home) q new back came rest in
            by_done front on.front on.back home q on.mid on.came (parts ∙ ap (λ (l : List Exchange). front ++ l) on.parts) first on.held on.rest

        by_room : (enough : Bool) → Held (if enough then (enters Asks then writes_in one around statement) else over (Err (stop.Failed (plain no_memory)))) p exchanges came new → Ways came new exchanges
        by_room true was =
            let on = held_apart (enters Asks) (writes_in one around statement) p new exchanges came was in by_home on.front on.back on.came on.mid on.parts on.held on.rest
        by_room false was = inl (plain no_memory, was.1, (false, (was.0, refl, was.2)))

  -- ---- where it was left

  -- what fires none
  abbrev pub unfired_by : Written → List TriggerTree → Doing (Result Written Failure)
  unfired_by done [] = over (Ok done)
  unfired_by done (trigger ∷ triggers) = never

  abbrev pub unfired : Written → Doing (Result Written Failure)
  unfired done = unfired_by done done.fires

  abbrev pub alone_work : Doing (Result Written Failure)
  alone_work = work >>= unfired

  abbrev pub alone_of : Doing (Result Written Failure)
  alone_of = with_room (own Asks alone_work)

  abbrev pub IsAlone : Written → List Exchange → Type 0
  IsAlone done exchanges = IsChangedAs done exchanges × (done.fires ≡ [])

  alone_works : Works alone_work
  alone_works = only_bind IsWorkStep IsQuiet work unfired works (λ done. by_fires done done.fires)
    where
      by_fires : (done : Written) (triggers : List TriggerTree) → Works (unfired_by done triggers)
      by_fires done [] = tt
      by_fires done (trigger ∷ triggers) = tt

  alone_done : (q new : SessionProgress) (exchanges : List Exchange) (done : Written) → Still p q → Held alone_work q exchanges (Ok done) new → IsAlone done exchanges
  unfolding Held
  alone_done q new exchanges done still held =
      let on = bind_apart work unfired q new exchanges done held in by_fires on.0 on.1 on.2 on.3 on.4 on.5 on.2.fires refl on.6
    where
      by_fires : (front back : List Exchange) (came : Written) (mid : SessionProgress) → exchanges ≡ front ++ back → Held work q front (Ok came) mid → (triggers : List TriggerTree) → came.fires ≡ triggers → Held (unfired_by came triggers) mid back (Ok done) new → IsAlone done exchanges
      by_fires front back came mid parts was [] none rest =
          let same : came ≡ done = sym (ok_same {E = Failure} done came rest.1) in
          subst (λ (l : List Exchange). IsAlone done l) (sym (parts ∙ ap (λ (l : List Exchange). front ++ l) rest.0 ∙ append-nil front))
          (subst (λ (d : Written). IsAlone d front) same ((work_still q mid front came still was).0, none))
      by_fires front back came mid parts was (trigger ∷ triggers) some rest = absurd rest

  alone_failed : (q new : SessionProgress) (exchanges : List Exchange) (failure : Failure) → Still p q → Held alone_work q exchanges (Err failure) new → IsFailed p.settings.manner exchanges
  unfolding Held
  alone_failed q new exchanges failure still held = by_failed (bind_failed work unfired q new exchanges failure held)
    where
      never_fails : (done : Written) (triggers : List TriggerTree) (mid : SessionProgress) (back : List Exchange) → Held (unfired_by done triggers) mid back (Err failure) new → ⊥
      never_fails done [] mid back rest = let no : Err failure ≡ Ok done = rest.1 in absurd (cc)
      never_fails done (trigger ∷ triggers) mid back rest = rest

      by_failed : Held work q exchanges (Err failure) new ⊎ ((front back : List Exchange) × (done : Written) × (mid : SessionProgress) × (exchanges ≡ front ++ back) × Held work q front (Ok done) mid × Held (unfired done) mid back (Err failure) new) → IsFailed p.settings.manner exchanges
      by_failed (inl first) = bound_failed around p statement (change_bound around) ChangeBy (change_works around p) change_done (change_failed around p) q new exchanges failure still first
      by_failed (inr on) = absurd (never_fails on.2 on.2.fires on.3 on.1 on.6)

  pub alone_left : (new : SessionProgress) (exchanges : List Exchange) → Left alone_of p exchanges new → WasLeft p IsAlone Asks exchanges
  alone_left new exchanges left = roomed_left p IsAlone alone_work alone_works alone_done alone_failed Asks new exchanges left

  -- work that came to this, without triggers
  alone_held : (q mid : SessionProgress) (exchanges : List Exchange) (failure : Failure) → Held work q exchanges (Err failure) mid → Held alone_work q exchanges (Err failure) mid
  unfolding Held
  alone_held q mid exchanges failure held =
      subst (λ (l : List Exchange). Held alone_work q l (Err failure) mid) (append-nil exchanges) (held_then work (on_ok unfired) q mid mid exchanges [] (Err failure) (Err failure) held (refl, refl, refl))

  alone_kept : (q mid : SessionProgress) (exchanges : List Exchange) (done : Written) → done.fires ≡ [] → Held work q exchanges (Ok done) mid → Held alone_work q exchanges (Ok done) mid
  unfolding Held
  alone_kept q mid exchanges done none held =
      subst (λ (l : List Exchange). Held alone_work q l (Ok done) mid) (append-nil exchanges) (held_then work (on_ok unfired) q mid mid exchanges [] (Ok done) (Ok done) held
      (subst (λ (triggers : List TriggerTree). Held (unfired_by done triggers) mid [] (Ok done) mid) (sym none) (refl, refl, refl)))

  module _ (one : Statement → Meaning) (new : SessionProgress) (exchanges : List Exchange) where
    abbrev LeftWays : Type 0
    LeftWays = Left alone_of p exchanges new ⊎ Fires (λ home done mid last. Left (fires one around home done) mid last new) exchanges

    -- within its transaction
    alone_behind : (front back : List Exchange) (home : Home) (q : SessionProgress) → exchanges ≡ front ++ back → Held (enters Asks) p front (Ok home) q → Left (alone_work then behind home) q back new → LeftWays
    unfolding own Left
    alone_behind front back home q parts first left = inl (subst (λ (l : List Exchange). Left alone_of p l new) (sym parts) (true, left_then (enters Asks) (on_ok (λ home. alone_work then behind home)) p q new front back (Ok home) first left))

    pub writes_left : Left (writes one around statement) p exchanges new → LeftWays
    unfolding writes own ◌then◌ Left
    writes_left left = by_room left.0 left.1
      where
        by_fires : (front back middle last : List Exchange) (home : Home) (q mid : SessionProgress) (done : Written) → exchanges ≡ front ++ back → back ≡ middle ++ last → Held (enters Asks) p front (Ok home) q → Held work q middle (Ok done) mid
            → (triggers : List TriggerTree) → done.fires ≡ triggers → Left (written_with one around home done triggers) mid last new → LeftWays
        by_fires front back middle last home q mid done parts more first second [] none rest =
            alone_behind front back home q parts first (subst (λ (l : List Exchange). Left (alone_work then behind home) q l new) (sym more)
            (left_then alone_work (behind home) q mid new middle last (Ok done) (alone_kept q mid middle done none second) (left_same home true (Ok done.effect) (Ok done) mid new last rest)))
        by_fires front back middle last home q mid done parts more first second (trigger ∷ triggers) some rest =
            inr (record { first = front; worked = middle; last = last; home = home; begun = q; mid = mid; done = done; parts = parts ∙ ap (λ (l : List Exchange). front ++ l) more; enters_so = first; works_so = second; some = fires_some done trigger triggers some; goes = rest })

        by_done : (front back middle last : List Exchange) (home : Home) (q mid : SessionProgress) (result : Result Written Failure) → exchanges ≡ front ++ back → back ≡ middle ++ last → Held (enters Asks) p front (Ok home) q → Held work q middle result mid
            → Left (written_in one around home result) mid last new → LeftWays
        by_done front back middle last home q mid (Err failure) parts more first second rest =
            alone_behind front back home q parts first (subst (λ (l : List Exchange). Left (alone_work then behind home) q l new) (sym more)
            (left_then alone_work (behind home) q mid new middle last (Err failure) (alone_held q mid middle failure second) (left_same home false (Err (stop.Failed failure)) (Err failure) mid new last rest)))
        by_done front back middle last home q mid (Ok done) parts more first second rest = by_fires front back middle last home q mid done parts more first second done.fires refl rest

        by_work : (front back : List Exchange) (home : Home) (q : SessionProgress) → exchanges ≡ front ++ back → Held (enters Asks) p front (Ok home) q
            → Left work q back new ⊎ Apart work q back (λ result mid last. Left (written_in one around home result) mid last new) → LeftWays
        by_work front back home q parts first (inl here) = alone_behind front back home q parts first (left_front alone_work (behind home) q new back (left_front work (on_ok unfired) q new back here))
        by_work front back home q parts first (inr on) = by_done front back on.front on.back home q on.mid on.came parts on.parts first on.held on.rest

        by_home : (front back : List Exchange) (home : Result Home Failure) (q : SessionProgress) → exchanges ≡ front ++ back → Held (enters Asks) p front home q → Left (writes_in one around statement home) q back new → LeftWays
        by_home front back (Err failure) q parts first rest =
            inl (subst (λ (l : List Exchange). Left alone_of p l new) (sym parts) (true, left_then (enters Asks) (on_ok (λ home. alone_work then behind home)) p q new front back (Err failure) first rest))
        by_home front back (Ok home) q parts first rest = by_work front back home q parts first (left_apart work (written_in one around home) q new back rest)

        by_enters : Left (enters Asks) p exchanges new ⊎ Apart (enters Asks) p exchanges (λ home q back. Left (writes_in one around statement home) q back new) → LeftWays
        by_enters (inl here) = inl (true, left_front (enters Asks) (on_ok (λ home. alone_work then behind home)) p new exchanges here)
        by_enters (inr on) = by_home on.front on.back on.came on.mid on.parts on.held on.rest

        by_room : (enough : Bool) → Left (if enough then (enters Asks then writes_in one around statement) else over (Err (stop.Failed (plain no_memory)))) p exchanges new → LeftWays
        by_room true was = by_enters (left_apart (enters Asks) (writes_in one around statement) p new exchanges was)
        by_room false was = inl (false, was)

  -- ---- in the words of the paths

  module _ (is : is_write (form_of statement) ≡ true) where
    -- where nothing is looked up nothing is changed
    changed_never : (done : Written) (exchanges : List Exchange) → Asks ≡ false → IsChangedAs done exchanges → ⊥
    changed_never done exchanges none changed =
        let nothing : tables_of changed.definitions ≡ [] = ap tables_of (found_none (known_by around statement) p.settings.manner (looked_up statement) [] changed.looked changed.definitions (write_unknown around statement is) none changed.looks) in
        (subst (λ (l : List TableTree). ChangeBy l changed.of done changed.worked) nothing changed.works).1

    pub asks_write : asks_of around statement ≡ Asks
    asks_write = by_form (form_of statement) is
      where
        by_form : (form : Layer) → is_write form ≡ true → asks_for around statement form ≡ Asks
        by_form (Form-F.Insert table columns rows) is = refl
        by_form (Form-F.Update table sets filter) is = refl
        by_form (Form-F.Delete table filter) is = refl
        by_form form is = absurd (let no : false ≡ true = is in cc)

    pub alone_as : (planned : List Planned) (done : Written) (exchanges : List Exchange) → done.fires ≡ [] → IsChanged around p statement planned done exchanges → IsDone around p statement planned done.effect exchanges
    alone_as planned done exchanges none changed = by_form (form_of statement) is
      where
        by_form : (form : Layer) → is_write form ≡ true → IsDoneAs around p form statement planned done.effect exchanges
        by_form (Form-F.Insert table columns rows) is = record { definitions = changed.definitions; of = changed.of; looked = changed.looked; worked = changed.worked; parts = changed.parts; looks = changed.looks; binds = changed.binds; works = (done, changed.works, none, refl) }
        by_form (Form-F.Update table sets filter) is = record { definitions = changed.definitions; of = changed.of; looked = changed.looked; worked = changed.worked; parts = changed.parts; looks = changed.looks; binds = changed.binds; works = (done, changed.works, none, refl) }
        by_form (Form-F.Delete table filter) is = record { definitions = changed.definitions; of = changed.of; looked = changed.looked; worked = changed.worked; parts = changed.parts; looks = changed.looks; binds = changed.binds; works = (done, changed.works, none, refl) }
        by_form form is = absurd (let no : false ≡ true = is in cc)

    module _ (Goes : Home → Written → SessionProgress → List Exchange → Type 0) (exchanges : List Exchange) where
      pub fired_as : Fires Goes exchanges → IsFired around p statement Goes exchanges
      unfolding enters Held
      fired_as f = by_asks Asks refl f.enters_so
        where
          nowhere : Asks ≡ false → f.begun ≡ p → IsFired around p statement Goes exchanges
          nowhere none same = absurd (changed_never f.done f.worked none (work_still f.begun f.mid f.worked f.done (subst (Still p) (sym same) refl) f.works_so).0)

          there : Asks ≡ true → IsHome p.is_open f.home f.first f.begun → IsFired around p statement Goes exchanges
          there asks_it home =
              let still : Still p f.begun = subst (Still p) (sym home.1) (begun_still true p.is_open p) in
              let on = work_still f.begun f.mid f.worked f.done still f.works_so in
              let changed = changed_as f.done f.worked on.0 in
              let leaves : Worked f.begun f.mid = works_leave f.begun work f.mid f.worked (Ok f.done) works f.works_so in
              let is_open : f.mid.is_open ≡ true = ap (λ (q : SessionProgress). q.is_open) leaves ∙ ap (λ (q : SessionProgress). q.is_open) home.1 ∙ begun_open p.is_open refl in
              record {
                planned = changed.0;
                done = f.done;
                came = f.home;
                mid = f.mid;
                front = f.first ++ f.worked;
                behind = f.last;
                parts = f.parts ∙ sym (append_assoc f.first f.worked f.last);
                writes = record { entered = f.first; worked = f.worked; parts = refl; asks = asks_write ∙ asks_it; enters = home.0; changes = changed.1 };
                some = f.some;
                still = on.1 ∙ ap (λ (b : Bool). record p { is_open = b; touched = f.mid.touched }) is_open;
                goes = f.goes;
              }

          by_asks : (asks_some : Bool) → Asks ≡ asks_some → Held (enters asks_some) p f.first (Ok f.home) f.begun → IsFired around p statement Goes exchanges
          by_asks false none was = nowhere none was.2
          by_asks true asks_it was = there asks_it (entered_held f.first f.home f.begun was)
