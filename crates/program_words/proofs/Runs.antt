-- The walk of `clap` over all that is given.
use Rattle.std.proofs.Common.{◌≡◌, ◌∙◌, ◌&&◌, ◌||◌, ℕ, Bool, not, true, false, refl, sym, ap, subst, List, [], ◌∷◌, ◌++◌, map, Option, Some, None, codes, true≢false, append-nil, append_assoc}
use Rattle.std.specs.Prelude.{⊤}
use Rattle.std.specs.List.{fold, list_all, list_any}
use Rattle.std.specs.Str.{bytes_eq}
use Rattle.clap.specs.Walk.{Row, Rule, Text, Walk, arg_by_id, has_row, reading_by, settled_rows, used, walked}
use Rattle.clap.specs.Simple.{Shape}
use Rattle.clap.specs.Takes.{settle_passes, use_passes, value_passes, walk_passes}
use Rattle.clap.proofs.WalkLemmas.{both}
use Rattle.program_words.specs.Spelled.{Called, Name, Use, all_written, apart, are_distinct, flag, has_flag, has_name, has_option, joined, may_stand, name_of, placed, stands_alone, text_of, value_of, written}
use Rattle.program_words.specs.Spelled.{pipe, listen, steps, load, user, password, bare, drivers, port, workers, rounds, transfers}
use Rattle.program_words.proofs.Steps.{Goes, apart_goes, flag_goes, held, joined_goes, new_row, place_goes, plain_word, row, state}
use Rattle.program_words.proofs.Leaves.{flag_of, has_value, leaf, no_override, option_of, rule, transfers_of_load, value_passes_in}

-- what stands between two things that are given: what waits passes, and makes these rows
pub record IsReady (s : Shape) (rows : List Row) (pending : Option (Text × List Text)) (total : List Row) : Type 0 where
  pub settles : settle_passes s.rules false (held rows pending) ≡ true
  pub are : settled_rows s.rules pending rows ≡ total

-- N is the first value without a name, where it is not given yet
abbrev pub IsFirstPlace : ℕ → List Row → Type 0
IsFirstPlace position total = has_row (text_of transfers) total ≡ false → position ≡ 1

-- the words lead to these rows
pub record Reaches (s : Shape) (from : Walk) (words : List Text) (total : List Row) : Type 0 where
  pub rows : List Row
  pub pending : Option (Text × List Text)
  pub position : ℕ
  pub goes : Goes s from words (state rows pending position)
  pub ready : IsReady s rows pending total
  pub place : IsFirstPlace position total

abbrev pub row_for : Use → Row
row_for given = row (text_of (name_of given)) (reading_by (rule (name_of given))) (value_of given)

-- ---- rows

pub has_more : (id : Text) (rows : List Row) (r : Row) → has_row id (rows ++ r ∷ []) ≡ (has_row id rows || bytes_eq r.id id)
has_more id [] r = go (bytes_eq r.id id)
  where
    go : (b : Bool) → (b || false) ≡ b
    go true = refl
    go false = refl
has_more id (x ∷ xs) r = go (bytes_eq x.id id) (has_more id xs r)
  where
    go : (b : Bool) → has_row id (xs ++ r ∷ []) ≡ (has_row id xs || bytes_eq r.id id) → (b || has_row id (xs ++ r ∷ [])) ≡ ((b || has_row id xs) || bytes_eq r.id id)
    go true e = refl
    go false e = e

neither : (a b : Bool) → (a || b) ≡ false → a ≡ false
neither false b e = refl
neither true b e = absurd (true≢false e)

-- a place stays the first where no more N is given
still_first : (q : ℕ) (total : List Row) (r : Row) → IsFirstPlace q total → IsFirstPlace q (total ++ r ∷ [])
still_first q total r place none =
    place (neither (has_row (text_of transfers) total) (bytes_eq r.id (text_of transfers)) (sym (has_more (text_of transfers) total r) ∙ none))

-- ---- one thing that is given

-- the use of an option with a value
module _ (s : Shape) (a : Rule) (value : Text) (total : List Row)
    (passes : use_passes false a (value ∷ []) total ≡ ((not (has_row a.id total) || false) && (value_passes a value && true)))
    (makes : total ++ row a.id (reading_by a) value ∷ [] ≡ used a (value ∷ []) total)
    (new : has_row a.id total ≡ false) (fits : value_passes a value ≡ true) where
  use_fits : use_passes false a (value ∷ []) total ≡ true
  use_fits = passes ∙ rw (new, fits) refl

  -- it waits
  waits_ready : arg_by_id s.rules a.id ≡ Some a → IsReady s total (Some (a.id, value ∷ [])) (total ++ row a.id (reading_by a) value ∷ [])
  waits_ready by_id = record { settles = rw (by_id, use_fits) refl; are = rw by_id (sym makes) }

  -- it is done
  done_ready : IsReady s (used a (value ∷ []) total) None (total ++ row a.id (reading_by a) value ∷ [])
  done_ready = record { settles = refl; are = sym makes }

module _ (called : Called) (rows : List Row) (pending : Option (Text × List Text)) (q : ℕ) (total : List Row)
    (ready : IsReady (leaf called) rows pending total) (place : IsFirstPlace q total) where
  apart_step : (name : Name) (value : Text) → has_option called name ≡ true → stands_alone value ≡ true → value_passes (rule name) value ≡ true
      → has_row (rule name).id total ≡ false
      → Reaches (leaf called) (state rows pending q) (written (apart name value)) (total ++ row (rule name).id (reading_by (rule name)) value ∷ [])
  apart_step name value is alone fits new =
      let has = option_of called name is in
      let a = rule name in
      let makes = sym (has.uses value total ∙ new_row a.id (reading_by a) value total new) in
      record {
        rows = settled_rows (leaf called).rules pending rows;
        pending = Some (a.id, value ∷ []);
        position = q;
        goes = apart_goes (leaf called) (no_override called) (text_of name) a has rows pending q value ready.settles (plain_word value alone);
        ready = subst (λ rs. IsReady (leaf called) rs (Some (a.id, value ∷ [])) (total ++ row a.id (reading_by a) value ∷ [])) (sym ready.are)
            (waits_ready (leaf called) a value total (has.passes value total) makes new fits has.by_id);
        place = still_first q total (row a.id (reading_by a) value) place;
      }

  joined_step : (name : Name) (value : Text) → has_option called name ≡ true → value_passes (rule name) value ≡ true
      → has_row (rule name).id total ≡ false
      → Reaches (leaf called) (state rows pending q) (written (joined name value)) (total ++ row (rule name).id (reading_by (rule name)) value ∷ [])
  joined_step name value is fits new =
      let has = option_of called name is in
      let a = rule name in
      let makes = sym (has.uses value total ∙ new_row a.id (reading_by a) value total new) in
      let passes = use_fits (leaf called) a value total (has.passes value total) makes new fits in
      record {
        rows = used a (value ∷ []) (settled_rows (leaf called).rules pending rows);
        pending = None;
        position = q;
        goes = joined_goes (leaf called) (no_override called) (text_of name) a has rows pending q value ready.settles
            (subst (λ rs. use_passes false a (value ∷ []) rs ≡ true) (sym ready.are) passes);
        ready = subst (λ rs. IsReady (leaf called) (used a (value ∷ []) rs) None (total ++ row a.id (reading_by a) value ∷ [])) (sym ready.are)
            (done_ready (leaf called) a value total (has.passes value total) makes new fits);
        place = still_first q total (row a.id (reading_by a) value) place;
      }

  flag_step : (name : Name) → has_flag called name ≡ true → has_row (rule name).id total ≡ false
      → Reaches (leaf called) (state rows pending q) (written (flag name)) (total ++ row (rule name).id (reading_by (rule name)) (codes "true") ∷ [])
  flag_step name is new =
      let has = flag_of called name is in
      let a = rule name in
      let made = row a.id (reading_by a) (codes "true") in
      let makes : total ++ made ∷ [] ≡ used a [] total = sym (has.uses total ∙ new_row a.id (reading_by a) (codes "true") total new) in
      let passes : use_passes false a [] total ≡ true = has.passes total ∙ rw new refl in
      record {
        rows = used a [] (settled_rows (leaf called).rules pending rows);
        pending = None;
        position = q;
        goes = flag_goes (leaf called) (no_override called) (text_of name) a has rows pending q ready.settles
            (subst (λ rs. use_passes false a [] rs ≡ true) (sym ready.are) passes);
        ready = subst (λ rs. IsReady (leaf called) (used a [] rs) None (total ++ made ∷ [])) (sym ready.are) (record { settles = refl; are = sym makes });
        place = still_first q total made place;
      }

module _ (rows : List Row) (pending : Option (Text × List Text)) (q : ℕ) (total : List Row) where
  place_step : (value : Text) → IsReady (leaf load) rows pending total → IsFirstPlace q total → stands_alone value ≡ true → value_passes (rule transfers) value ≡ true
      → has_row (text_of transfers) total ≡ false
      → Reaches (leaf load) (state rows pending q) (written (placed transfers value)) (total ++ row_for (placed transfers value) ∷ [])
  place_step value ready place alone fits new =
      let has = transfers_of_load in
      let a = rule transfers in
      let makes = sym (has.uses value total ∙ new_row a.id (reading_by a) value total new) in
      let first : 1 ≡ q = sym (place new) in
      record {
        rows = settled_rows (leaf load).rules pending rows;
        pending = Some (a.id, value ∷ []);
        position = 2;
        goes = subst (λ k. Goes (leaf load) (state rows pending k) (value ∷ []) (state (settled_rows (leaf load).rules pending rows) (Some (a.id, value ∷ [])) 2)) first
            (place_goes (leaf load) (no_override load) a has rows pending value (plain_word value alone) ready.settles);
        ready = subst (λ rs. IsReady (leaf load) rs (Some (a.id, value ∷ [])) (total ++ row_for (placed transfers value) ∷ [])) (sym ready.are)
            (waits_ready (leaf load) a value total (has.passes value total) makes new fits has.by_id);
        place = λ none. absurd (true≢false (sym (is_last total) ∙ none));
      }
    where
      or_true : (b : Bool) → (b || true) ≡ true
      or_true true = refl
      or_true false = refl

      is_last : (xs : List Row) → has_row (text_of transfers) (xs ++ row_for (placed transfers value) ∷ []) ≡ true
      is_last xs = has_more (text_of transfers) xs (row_for (placed transfers value)) ∙ or_true (has_row (text_of transfers) xs)

id_of : (name : Name) → (rule name).id ≡ text_of name
id_of user = refl
id_of password = refl
id_of bare = refl
id_of drivers = refl
id_of port = refl
id_of workers = refl
id_of rounds = refl
id_of transfers = refl

option_has_value : (called : Called) (name : Name) → has_option called name ≡ true → has_value name ≡ true
option_has_value called user e = refl
option_has_value called password e = refl
option_has_value pipe bare e = e
option_has_value listen bare e = e
option_has_value steps bare e = e
option_has_value load bare e = e
option_has_value pipe drivers e = e
option_has_value listen drivers e = e
option_has_value steps drivers e = e
option_has_value load drivers e = e
option_has_value called port e = refl
option_has_value called workers e = refl
option_has_value called rounds e = refl
option_has_value called transfers e = refl

step : (called : Called) (given : Use) (rows : List Row) (pending : Option (Text × List Text)) (q : ℕ) (total : List Row) → may_stand called given ≡ true
    → IsReady (leaf called) rows pending total → IsFirstPlace q total → has_row (text_of (name_of given)) total ≡ false
    → Reaches (leaf called) (state rows pending q) (written given) (total ++ row_for given ∷ [])
step called (apart name value) rows pending q total may ready place new =
    let outer = both (has_option called name) _ may in
    let inner = both (stands_alone value) _ outer.1 in
    let fits = value_passes_in name value inner.1 (option_has_value called name outer.0) in
    let new_id : has_row (rule name).id total ≡ false = subst (λ i. has_row i total ≡ false) (sym (id_of name)) new in
    subst (λ i. Reaches (leaf called) (state rows pending q) (written (apart name value)) (total ++ row i (reading_by (rule name)) value ∷ [])) (id_of name)
    (apart_step called rows pending q total ready place name value outer.0 inner.0 fits new_id)
step called (joined name value) rows pending q total may ready place new =
    let outer = both (has_option called name) _ may in
    let fits = value_passes_in name value outer.1 (option_has_value called name outer.0) in
    let new_id : has_row (rule name).id total ≡ false = subst (λ i. has_row i total ≡ false) (sym (id_of name)) new in
    subst (λ i. Reaches (leaf called) (state rows pending q) (written (joined name value)) (total ++ row i (reading_by (rule name)) value ∷ [])) (id_of name)
    (joined_step called rows pending q total ready place name value outer.0 fits new_id)
step called (flag name) rows pending q total may ready place new =
    let new_id : has_row (rule name).id total ≡ false = subst (λ i. has_row i total ≡ false) (sym (id_of name)) new in
    subst (λ i. Reaches (leaf called) (state rows pending q) (written (flag name)) (total ++ row i (reading_by (rule name)) (codes "true") ∷ [])) (id_of name)
    (flag_step called rows pending q total ready place name may new_id)
step pipe (placed user value) rows pending q total may ready place new = absurd (true≢false (sym may))
step pipe (placed password value) rows pending q total may ready place new = absurd (true≢false (sym may))
step pipe (placed bare value) rows pending q total may ready place new = absurd (true≢false (sym may))
step pipe (placed drivers value) rows pending q total may ready place new = absurd (true≢false (sym may))
step pipe (placed port value) rows pending q total may ready place new = absurd (true≢false (sym may))
step pipe (placed workers value) rows pending q total may ready place new = absurd (true≢false (sym may))
step pipe (placed rounds value) rows pending q total may ready place new = absurd (true≢false (sym may))
step pipe (placed transfers value) rows pending q total may ready place new = absurd (true≢false (sym may))
step listen (placed user value) rows pending q total may ready place new = absurd (true≢false (sym may))
step listen (placed password value) rows pending q total may ready place new = absurd (true≢false (sym may))
step listen (placed bare value) rows pending q total may ready place new = absurd (true≢false (sym may))
step listen (placed drivers value) rows pending q total may ready place new = absurd (true≢false (sym may))
step listen (placed port value) rows pending q total may ready place new = absurd (true≢false (sym may))
step listen (placed workers value) rows pending q total may ready place new = absurd (true≢false (sym may))
step listen (placed rounds value) rows pending q total may ready place new = absurd (true≢false (sym may))
step listen (placed transfers value) rows pending q total may ready place new = absurd (true≢false (sym may))
step steps (placed user value) rows pending q total may ready place new = absurd (true≢false (sym may))
step steps (placed password value) rows pending q total may ready place new = absurd (true≢false (sym may))
step steps (placed bare value) rows pending q total may ready place new = absurd (true≢false (sym may))
step steps (placed drivers value) rows pending q total may ready place new = absurd (true≢false (sym may))
step steps (placed port value) rows pending q total may ready place new = absurd (true≢false (sym may))
step steps (placed workers value) rows pending q total may ready place new = absurd (true≢false (sym may))
step steps (placed rounds value) rows pending q total may ready place new = absurd (true≢false (sym may))
step steps (placed transfers value) rows pending q total may ready place new = absurd (true≢false (sym may))
step load (placed user value) rows pending q total may ready place new = absurd (true≢false (sym may))
step load (placed password value) rows pending q total may ready place new = absurd (true≢false (sym may))
step load (placed bare value) rows pending q total may ready place new = absurd (true≢false (sym may))
step load (placed drivers value) rows pending q total may ready place new = absurd (true≢false (sym may))
step load (placed port value) rows pending q total may ready place new = absurd (true≢false (sym may))
step load (placed workers value) rows pending q total may ready place new = absurd (true≢false (sym may))
step load (placed rounds value) rows pending q total may ready place new = absurd (true≢false (sym may))
step load (placed transfers value) rows pending q total may ready place new =
    let parts = both (stands_alone value) _ may in
    place_step rows pending q total value ready place parts.0 (value_passes_in transfers value parts.1 refl) new

-- ---- all that is given

goes_on : (s : Shape) (w middle after : Walk) (xs ys : List Text) → Goes s w xs middle → Goes s middle ys after → Goes s w (xs ++ ys) after
goes_on s w middle after xs ys first second = record {
  passes = λ rest. ap (walk_passes s [] w) (append_assoc xs ys rest) ∙ (first.passes (ys ++ rest) ∙ second.passes rest);
  walks = λ rest. ap (fold (walked s.rules []) w) (append_assoc xs ys rest) ∙ (first.walks (ys ++ rest) ∙ second.walks rest);
}

-- none of these is given yet
abbrev pub AreNew : List Use → List Row → Type 0
AreNew [] total = ⊤
AreNew (first ∷ rest) total = (has_row (text_of (name_of first)) total ≡ false) × AreNew rest total

-- names are equal in both directions
same_both : (a b : Name) → bytes_eq (text_of a) (text_of b) ≡ bytes_eq (text_of b) (text_of a)
same_both user user = refl
same_both user password = refl
same_both user bare = refl
same_both user drivers = refl
same_both user port = refl
same_both user workers = refl
same_both user rounds = refl
same_both user transfers = refl
same_both password user = refl
same_both password password = refl
same_both password bare = refl
same_both password drivers = refl
same_both password port = refl
same_both password workers = refl
same_both password rounds = refl
same_both password transfers = refl
same_both bare user = refl
same_both bare password = refl
same_both bare bare = refl
same_both bare drivers = refl
same_both bare port = refl
same_both bare workers = refl
same_both bare rounds = refl
same_both bare transfers = refl
same_both drivers user = refl
same_both drivers password = refl
same_both drivers bare = refl
same_both drivers drivers = refl
same_both drivers port = refl
same_both drivers workers = refl
same_both drivers rounds = refl
same_both drivers transfers = refl
same_both port user = refl
same_both port password = refl
same_both port bare = refl
same_both port drivers = refl
same_both port port = refl
same_both port workers = refl
same_both port rounds = refl
same_both port transfers = refl
same_both workers user = refl
same_both workers password = refl
same_both workers bare = refl
same_both workers drivers = refl
same_both workers port = refl
same_both workers workers = refl
same_both workers rounds = refl
same_both workers transfers = refl
same_both rounds user = refl
same_both rounds password = refl
same_both rounds bare = refl
same_both rounds drivers = refl
same_both rounds port = refl
same_both rounds workers = refl
same_both rounds rounds = refl
same_both rounds transfers = refl
same_both transfers user = refl
same_both transfers password = refl
same_both transfers bare = refl
same_both transfers drivers = refl
same_both transfers port = refl
same_both transfers workers = refl
same_both transfers rounds = refl
same_both transfers transfers = refl

still_new : (given : Use) (rest : List Use) (total : List Row) → list_any (has_name (text_of (name_of given))) rest ≡ false → AreNew rest total
    → AreNew rest (total ++ row_for given ∷ [])
still_new given [] total none new = tt
still_new given (x ∷ xs) total none new =
    let other = neither (has_name (text_of (name_of given)) x) (list_any (has_name (text_of (name_of given))) xs) none in
    let later : list_any (has_name (text_of (name_of given))) xs ≡ false = rw other at none in
    let not_same : bytes_eq (text_of (name_of given)) (text_of (name_of x)) ≡ false = same_both (name_of given) (name_of x) ∙ other in
    (has_more (text_of (name_of x)) total (row_for given) ∙ rw (new.0, not_same) refl, still_new given xs total later new.1)

pub run : (called : Called) (uses : List Use) (rows : List Row) (pending : Option (Text × List Text)) (q : ℕ) (total : List Row) → list_all (may_stand called) uses ≡ true
    → are_distinct uses ≡ true → AreNew uses total → IsReady (leaf called) rows pending total → IsFirstPlace q total
    → Reaches (leaf called) (state rows pending q) (all_written uses) (total ++ map row_for uses)
run called [] rows pending q total stand distinct new ready place =
    subst (λ rs. Reaches (leaf called) (state rows pending q) [] rs) (sym (append-nil total))
    (record { rows = rows; pending = pending; position = q; goes = record { passes = λ rest. refl; walks = λ rest. refl }; ready = ready; place = place })
run called (given ∷ uses) rows pending q total stand distinct new ready place =
    let may = both (may_stand called given) _ stand in
    let apart_from = both (not (list_any (has_name (text_of (name_of given))) uses)) _ distinct in
    let one = step called given rows pending q total may.0 ready place new.0 in
    let more = run called uses one.rows one.pending one.position (total ++ row_for given ∷ []) may.1 apart_from.1
    (still_new given uses total (not_true (list_any (has_name (text_of (name_of given))) uses) apart_from.0) new.1) one.ready one.place in
    subst (λ rs. Reaches (leaf called) (state rows pending q) (written given ++ all_written uses) rs) (append_assoc total (row_for given ∷ []) (map row_for uses))
    (record {
      rows = more.rows;
      pending = more.pending;
      position = more.position;
      goes = goes_on (leaf called) (state rows pending q) (state one.rows one.pending one.position) (state more.rows more.pending more.position)
          (written given) (all_written uses) one.goes more.goes;
      ready = more.ready;
      place = more.place;
    })
  where
    not_true : (b : Bool) → not b ≡ true → b ≡ false
    not_true false e = refl
    not_true true e = sym e
