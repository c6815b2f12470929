-- What is read between quotes, one unit or one doubled quote after another.
use Rattle.std.proofs.Common.{◌≡◌, ◌≢◌, ℕ, suc, ◌+◌, ◌<◌, ◌≤◌, true, false, eqb, Option, None, Some, List, [], ◌∷◌, ◌++◌, length, drop, get_or, refl, ap, ◌∙◌, arith, append_assoc, drop-cons, add-one, eq-eqb, ne_eqb}
use Rattle.std.proofs.lemmas.List.{drop_all, append-nil}
use Rattle.tsql_lexer.specs.Quotes.{enclosed, longer}

-- a value and so many units, before what is read behind them
abbrev pub prepended : List ℕ → ℕ → Option (List ℕ × ℕ) → Option (List ℕ × ℕ)
prepended value count None = None
prepended value count (Some read) = Some (value ++ read.0, count + read.1)

pub prepended-longer : (value : List ℕ) (at unit count : ℕ) (read : Option (List ℕ × ℕ)) → prepended value at (longer unit count read) ≡ prepended (value ++ unit ∷ []) (at + count) read
prepended-longer value at unit count None = refl
prepended-longer value at unit count (Some read) = rw (append_assoc value (unit ∷ []) read.0) (ap (λ (size : ℕ). Some (value ++ (unit ∷ read.0), size)) (omega arith))

pub enclosed_plain : (close unit : ℕ) (units : List ℕ) → eqb unit close ≡ false → enclosed close (unit ∷ units) ≡ longer unit 1 (enclosed close units)
unfolding enclosed
enclosed_plain close unit [] other = rw other refl
enclosed_plain close unit (next ∷ units) other = rw other refl

pub enclosed_doubled : (close unit next : ℕ) (units : List ℕ) → eqb unit close ≡ true → eqb next close ≡ true → enclosed close (unit ∷ next ∷ units) ≡ longer unit 2 (enclosed close units)
unfolding enclosed
enclosed_doubled close unit next units first second = rw (first, second) refl

pub enclosed_end : (close unit : ℕ) → eqb unit close ≡ true → enclosed close (unit ∷ []) ≡ Some ([], 1)
unfolding enclosed
enclosed_end close unit first = rw first refl

pub enclosed_closed : (close unit next : ℕ) (units : List ℕ) → eqb unit close ≡ true → eqb next close ≡ false → enclosed close (unit ∷ next ∷ units) ≡ Some ([], 1)
unfolding enclosed
enclosed_closed close unit next units first second = rw (first, second) refl

-- ---- at a place of the whole text

-- two units at a place
pub two_units : (text : List ℕ) (at : ℕ) → at + 1 < length text → drop at text ≡ get_or text at 0 ∷ get_or text (at + 1) 0 ∷ drop (at + 2) text
two_units text at within =
    let first : drop at text ≡ get_or text at 0 ∷ drop (suc at) text = drop-cons text at 0 (omega arith) in
    let second : drop (suc at) text ≡ get_or text (suc at) 0 ∷ drop (suc (suc at)) text = drop-cons text (suc at) 0 (omega arith) in
    first ∙ ap (λ (l : List ℕ). get_or text at 0 ∷ l) (second ∙ grind arith)

-- a unit that closes nothing
pub plain_at : (close : ℕ) (text value : List ℕ) (at : ℕ) → at < length text → get_or text at 0 ≢ close
    → prepended value at (enclosed close (drop at text)) ≡ prepended (value ++ get_or text at 0 ∷ []) (at + 1) (enclosed close (drop (at + 1) text))
plain_at close text value at within other =
    ap (λ (l : List ℕ). prepended value at (enclosed close l)) (drop-cons text at 0 within)
    ∙ ap (prepended value at) (enclosed_plain close (get_or text at 0) (drop (suc at) text) (ne_eqb _ _ other))
    ∙ prepended-longer value at (get_or text at 0) 1 (enclosed close (drop (suc at) text))
    ∙ rw add-one refl

-- a quote that is doubled
pub doubled_at : (close : ℕ) (text value : List ℕ) (at : ℕ) → at + 1 < length text → get_or text at 0 ≡ close → get_or text (at + 1) 0 ≡ close
    → prepended value at (enclosed close (drop at text)) ≡ prepended (value ++ get_or text at 0 ∷ []) (at + 2) (enclosed close (drop (at + 2) text))
doubled_at close text value at within first second =
    ap (λ (l : List ℕ). prepended value at (enclosed close l)) (two_units text at within)
    ∙ ap (prepended value at) (enclosed_doubled close (get_or text at 0) (get_or text (at + 1) 0) (drop (at + 2) text) (eq-eqb _ _ first) (eq-eqb _ _ second))
    ∙ prepended-longer value at (get_or text at 0) 2 (enclosed close (drop (at + 2) text))

-- a quote that closes the value at the end of the text
pub end_at : (close : ℕ) (text value : List ℕ) (at : ℕ) → at + 1 ≡ length text → get_or text at 0 ≡ close
    → prepended value at (enclosed close (drop at text)) ≡ Some (value, at + 1)
end_at close text value at last first =
    let none_behind : drop (suc at) text ≡ [] = drop_all (suc at) text (omega arith) in
    ap (λ (l : List ℕ). prepended value at (enclosed close l)) (drop-cons text at 0 (omega arith) ∙ ap (λ (l : List ℕ). get_or text at 0 ∷ l) none_behind)
    ∙ ap (prepended value at) (enclosed_end close (get_or text at 0) (eq-eqb _ _ first))
    ∙ ap (λ (l : List ℕ). Some (l, at + 1)) (append-nil value)

-- a quote that closes the value
pub closed_at : (close : ℕ) (text value : List ℕ) (at : ℕ) → at + 1 < length text → get_or text at 0 ≡ close → get_or text (at + 1) 0 ≢ close
    → prepended value at (enclosed close (drop at text)) ≡ Some (value, at + 1)
closed_at close text value at within first second =
    ap (λ (l : List ℕ). prepended value at (enclosed close l)) (two_units text at within)
    ∙ ap (prepended value at) (enclosed_closed close (get_or text at 0) (get_or text (at + 1) 0) (drop (at + 2) text) (eq-eqb _ _ first) (ne_eqb _ _ second))
    ∙ ap (λ (l : List ℕ). Some (l, at + 1)) (append-nil value)

-- nothing is read behind the end
pub beyond : (close : ℕ) (text value : List ℕ) (at : ℕ) → length text ≤ at → prepended value at (enclosed close (drop at text)) ≡ None
unfolding enclosed
beyond close text value at over = ap (λ (l : List ℕ). prepended value at (enclosed close l)) (drop_all at text over)
