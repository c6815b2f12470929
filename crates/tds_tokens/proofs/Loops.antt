-- Reading values one after another, as a loop does.
use Rattle.std.proofs.Common.{◌≡◌, ℕ, suc, ◌+◌, ◌-◌, ◌<◌, ◌≤◌, List, [], ◌∷◌, ◌++◌, length, get_or, drop, Option, Some, None, refl, sym, ap, ◌∙◌, append_assoc, arith}
use Rattle.std.proofs.lemmas.List.{append-nil, at_drop_more, at_drop_all}
use Rattle.value_types.specs.declared.value.Value.{Value}
use Rattle.tds_tokens.specs.declared.columns.ColumnInfo.{ColumnInfo}
use Rattle.tds_tokens.specs.declared.fault.ReadFault.{ReadFault}
use Rattle.tds_tokens.specs.declared.fault.ReadFault.TheVariants as faults
use Rattle.tds_tokens.specs.Reading.{◌>>=◌, Fails, times, value_at, values_at}

-- what was read before, and what is still read
abbrev pub with_front : {A : Type 0} → List A → Option (List A × List ℕ) → Option (List A × List ℕ)
with_front front read = read >>= λ x. Some (front ++ x.0, x.1)

with_front-cons : {A : Type 0} (front : List A) (first : A) (read : Option (List A × List ℕ)) → with_front front (read >>= λ others. Some (first ∷ others.0, others.1)) ≡ with_front (front ++ first ∷ []) read
with_front-cons front first None = refl
with_front-cons front first (Some x) = ap (λ all. Some (all, x.1)) (simp append_assoc)

with_front-nil : {A : Type 0} (front : List A) (bytes : List ℕ) → with_front front (Some ([], bytes)) ≡ Some (front, bytes)
with_front-nil front bytes = ap (λ all. Some (all, bytes)) (append-nil front)

-- ---- so many values

pub times-one : {A : Type 0} (read : List ℕ → Option (A × List ℕ)) (front : List A) (count i : ℕ) (bytes : List ℕ) (first : A) (after : List ℕ) (whole : Option (List A × List ℕ)) → i < count
    → read bytes ≡ Some (first, after) → with_front front (times (count - i) read bytes) ≡ whole → with_front (front ++ first ∷ []) (times (count - (i + 1)) read after) ≡ whole
times-one read front count i bytes first after whole lt given so_far =
    let more : count - i ≡ suc (count - (i + 1)) = omega arith in
    let step : with_front front (times (count - i) read bytes) ≡ with_front (front ++ first ∷ []) (times (count - (i + 1)) read after) = rw (more, given) (with_front-cons front first (times (count - (i + 1)) read after)) in
    sym step ∙ so_far

pub times-fails : {A : Type 0} (fault : ReadFault) (read : List ℕ → Option (A × List ℕ)) (front : List A) (count i : ℕ) (bytes : List ℕ) (whole : Option (List A × List ℕ)) → i < count
    → Fails fault (read bytes) → with_front front (times (count - i) read bytes) ≡ whole → Fails fault whole
times-fails faults.Memory read front count i bytes whole lt given so_far = tt
times-fails faults.Absent read front count i bytes whole lt given so_far =
    let more : count - i ≡ suc (count - (i + 1)) = omega arith in
    let step : with_front front (times (count - i) read bytes) ≡ None = rw (more, given) refl in
    sym so_far ∙ step

pub times-end : {A : Type 0} (read : List ℕ → Option (A × List ℕ)) (front : List A) (count i : ℕ) (bytes : List ℕ) (whole : Option (List A × List ℕ)) → count ≤ i
    → with_front front (times (count - i) read bytes) ≡ whole → whole ≡ Some (front, bytes)
times-end read front count i bytes whole le so_far =
    let none : count - i ≡ 0 = omega arith in
    let step : with_front front (times (count - i) read bytes) ≡ Some (front, bytes) = rw none (with_front-nil front bytes) in
    sym so_far ∙ step

-- ---- a value for each column

pub values_at-one : (front : List Value) (columns : List ColumnInfo) (i : ℕ) (column : ColumnInfo) (bytes : List ℕ) (first : Value) (after : List ℕ) (whole : Option (List Value × List ℕ)) → i < length columns
    → column ≡ get_or columns i column → value_at column.kind bytes ≡ Some (first, after) → with_front front (values_at (drop i columns) bytes) ≡ whole
    → with_front (front ++ first ∷ []) (values_at (drop (i + 1) columns) after) ≡ whole
values_at-one front columns i column bytes first after whole lt is given so_far =
    let more : drop i columns ≡ column ∷ drop (i + 1) columns = at_drop_more (λ left. left) columns i column lt ∙ ap (λ here. here ∷ drop (i + 1) columns) (sym is) in
    let step : with_front front (values_at (drop i columns) bytes) ≡ with_front (front ++ first ∷ []) (values_at (drop (i + 1) columns) after) = rw (more, given) (with_front-cons front first (values_at (drop (i + 1) columns) after)) in
    sym step ∙ so_far

pub values_at-fails : (fault : ReadFault) (front : List Value) (columns : List ColumnInfo) (i : ℕ) (column : ColumnInfo) (bytes : List ℕ) (whole : Option (List Value × List ℕ)) → i < length columns
    → column ≡ get_or columns i column → Fails fault (value_at column.kind bytes) → with_front front (values_at (drop i columns) bytes) ≡ whole → Fails fault whole
values_at-fails faults.Memory front columns i column bytes whole lt is given so_far = tt
values_at-fails faults.Absent front columns i column bytes whole lt is given so_far =
    let more : drop i columns ≡ column ∷ drop (i + 1) columns = at_drop_more (λ left. left) columns i column lt ∙ ap (λ here. here ∷ drop (i + 1) columns) (sym is) in
    let step : with_front front (values_at (drop i columns) bytes) ≡ None = rw (more, given) refl in
    sym so_far ∙ step

pub values_at-end : (front : List Value) (columns : List ColumnInfo) (i : ℕ) (bytes : List ℕ) (whole : Option (List Value × List ℕ)) → length columns ≤ i
    → with_front front (values_at (drop i columns) bytes) ≡ whole → whole ≡ Some (front, bytes)
values_at-end front columns i bytes whole le so_far =
    let none : drop i columns ≡ [] = at_drop_all (λ left. left) columns i le in
    let step : with_front front (values_at (drop i columns) bytes) ≡ Some (front, bytes) = rw none (with_front-nil front bytes) in
    sym so_far ∙ step
