-- What is read is spelled so: types, values, parameters and calls.
use Rattle.std.proofs.Common.{◌≡◌, ℕ, zero, suc, ◌+◌, ◌*◌, ◌/◌, ◌%◌, ◌^◌, ◌<◌, ◌≤◌, ◌⊎◌, inl, inr, Bool, true, false, cond, eqb, ltb, List, [], ◌∷◌, ◌++◌, length, Option, Some, None, Result, Ok, ◌+ℤ◌, refl, sym, ap, subst, ◌∙◌, append_assoc, arith}
use Rattle.std.specs.Prelude.{FitsSigned, min, ◌||◌}
use Rattle.std.specs.Int.{w16, w32, w64, to_le_bytes, from_le_bytes, cast_signed}
use Rattle.std.proofs.lemmas.Bool.{ltb-false, eqb-true, eqb-false, ne_eqb}
use Rattle.std.proofs.lemmas.Int.{ints, of_z-to_z, wrapping_add-bits, SFits-int_wrap}
use Rattle.std.proofs.lemmas.Nat.{le_bytes_2, le_bytes_4, le_bytes_8}
use Rattle.value_types.specs.declared.sql_type.SqlType.{SqlType}
use Rattle.value_types.specs.declared.sql_type.SqlType.TheVariants.{TinyInt, SmallInt, Int, BigInt, Bit as BitType, NText}
use Rattle.value_types.specs.declared.value.Value.{Value}
use Rattle.value_types.specs.declared.value.Value.TheVariants.{Null, Text}
use Rattle.value_types.specs.Units.{le_bytes_of}
use Rattle.rpc_requests.specs.declared.types.Form.{Form}
use Rattle.rpc_requests.specs.declared.types.Form.TheVariants.{Number, Units, Bytes}
use Rattle.rpc_requests.specs.declared.fault.Refusal.{Refusal}
use Rattle.rpc_requests.specs.declared.fault.RpcKind.TheVariants as kinds
use Rattle.tds_tokens.specs.Spelling.{intntype, bitntype, nvarchartype}
use Rattle.rpc_requests.specs.Spelling.{bigvarchartype, charbin_null}
use Rattle.rpc_requests.specs.Fit.{text_limit, IsOf}
use Rattle.rpc_requests.specs.Reading.{◌>>=◌, refuse, bytes_at, byte_at, short_at, units_at, whole_form, bit_form, units_form, bytes_form, sized_at, long_sized_at, tagged_at, type_at, ntext_of, is_ascii, ascii_text, ascii_of, size_of, filled, filled_of, value_at}
use Rattle.rpc_requests.specs.Spelled.{SpellsType, SpellsValue, IsSent}
use Rattle.rpc_requests.proofs.Texts.{are_ascii}
use Rattle.rpc_requests.proofs.Forms.{IsForm}
use Rattle.rpc_requests.proofs.Takes.{IsBytes, bind_ok, done, ok_is, passed, needed, either, neither, bytes_take, byte_takes, short_takes, units_take, sized_takes, long_sized_takes}

some_is : {A : Type 0} (x y : A) → Some x ≡ Some y → x ≡ y
some_is x y e = cc

-- ---- types

-- a type of these first bytes was read
abbrev pub Typed : List ℕ → Form × List ℕ → Type 0
Typed bytes x = (text : List ℕ) × (bytes ≡ text ++ x.1) × SpellsType x.0 text × IsBytes x.1

same_tag : (a b : ℕ) (x y : List ℕ) → a ∷ x ≡ b ∷ y → a ≡ b
same_tag a b x y e = cc

abbrev no_form : Option Form
no_form = None

none_is : (form : Form) → no_form ≡ Some form → ⊥
none_is form e = absurd cc

pick : {A : Type 0} (test : Bool) (a : A) (r : Option A) (k : A) → cond test (Some a) r ≡ Some k → ((test ≡ true) × (a ≡ k)) ⊎ ((test ≡ false) × (r ≡ Some k))
pick true a r k e = inl (refl, some_is a k e)
pick false a r k e = inr (refl, e)

of_size : (tag n size : ℕ) (a form : Form) → eqb size n ≡ true → a ≡ form → SpellsType a (tag ∷ n ∷ []) → SpellsType form (tag ∷ size ∷ [])
of_size tag n size a form e same h = subst (λ (f : Form). SpellsType f (tag ∷ size ∷ [])) same (subst (λ (m : ℕ). SpellsType a (tag ∷ m ∷ [])) (sym (eqb-true size n e)) h)

whole_form_is : (size : ℕ) (form : Form) → whole_form size ≡ Some form → SpellsType form (intntype ∷ size ∷ [])
whole_form_is size form e =
    elim (pick (eqb size 1) (Number TinyInt) (cond (eqb size 2) (Some (Number SmallInt)) (cond (eqb size 4) (Some (Number Int)) (cond (eqb size 8) (Some (Number BigInt)) None))) form e) [
      | inl h ↦ of_size intntype 1 size (Number TinyInt) form h.0 h.1 refl
      | inr h1 ↦ elim (pick (eqb size 2) (Number SmallInt) (cond (eqb size 4) (Some (Number Int)) (cond (eqb size 8) (Some (Number BigInt)) None)) form h1.1) [
        | inl h ↦ of_size intntype 2 size (Number SmallInt) form h.0 h.1 refl
        | inr h2 ↦ elim (pick (eqb size 4) (Number Int) (cond (eqb size 8) (Some (Number BigInt)) None) form h2.1) [
          | inl h ↦ of_size intntype 4 size (Number Int) form h.0 h.1 refl
          | inr h3 ↦ elim (pick (eqb size 8) (Number BigInt) None form h3.1) [
            | inl h ↦ of_size intntype 8 size (Number BigInt) form h.0 h.1 refl
            | inr h4 ↦ absurd (none_is form h4.1)
          ]
        ]
      ]
    ]

bit_form_is : (size : ℕ) (form : Form) → bit_form size ≡ Some form → SpellsType form (bitntype ∷ size ∷ [])
bit_form_is size form e =
    elim (pick (eqb size 1) (Number BitType) None form e) [
      | inl h ↦ of_size bitntype 1 size (Number BitType) form h.0 h.1 refl
      | inr h ↦ absurd (none_is form h.1)
    ]

guard_none : {A : Type 0} (test : Bool) (x y : A) → cond test None (Some x) ≡ Some y → (test ≡ false) × (x ≡ y)
guard_none true x y e = absurd cc
guard_none false x y e = (refl, some_is x y e)

units_form_is : (size : ℕ) (form : Form) (collation : List ℕ) → length collation ≡ 5 → units_form size ≡ Some form → SpellsType form (nvarchartype ∷ (to_le_bytes w16 size ++ collation))
units_form_is size form collation five e =
    let g = guard_none ((eqb (size % 2) 1 || eqb size 0) || ltb (2 * text_limit) size) (Units (size / 2)) form e in
    let a = neither (eqb (size % 2) 1 || eqb size 0) (ltb (2 * text_limit) size) g.0 in
    let b = neither (eqb (size % 2) 1) (eqb size 0) a.0 in
    let odd = eqb-false (size % 2) 1 b.0 in
    let some = eqb-false size 0 b.1 in
    let small : size ≤ 2 * text_limit = ltb-false _ _ a.1 in
    let twice : 2 * (size / 2) ≡ size = grind (arith, odd) in
    subst (λ (f : Form). SpellsType f (nvarchartype ∷ (to_le_bytes w16 size ++ collation))) g.1
    (collation, five, grind (arith, twice, some), omega (arith, twice, small), ap (λ (n : ℕ). nvarchartype ∷ (to_le_bytes w16 n ++ collation)) (sym twice))

bytes_form_is : (size : ℕ) (form : Form) (collation : List ℕ) → length collation ≡ 5 → bytes_form size ≡ Some form → SpellsType form (bigvarchartype ∷ (to_le_bytes w16 size ++ collation))
bytes_form_is size form collation five e =
    let g = guard_none (eqb size 0 || ltb (2 * text_limit) size) (Bytes (min size text_limit)) form e in
    let a = neither (eqb size 0) (ltb (2 * text_limit) size) g.0 in
    let some = eqb-false size 0 a.0 in
    subst (λ (f : Form). SpellsType f (bigvarchartype ∷ (to_le_bytes w16 size ++ collation))) g.1
    (size, collation, five, grind (arith, some), ltb-false _ _ a.1, refl, refl)

sized_is : (tag : ℕ) (formed : ℕ → Option Form) (more : List ℕ) (x : Form × List ℕ) → ((size : ℕ) (form : Form) → formed size ≡ Some form → SpellsType form (tag ∷ size ∷ []))
    → IsBytes (tag ∷ more) → sized_at formed (tag ∷ more) ≡ Ok x → Typed (tag ∷ more) x
sized_is tag formed more x spelled fits e =
    let t = sized_takes formed (tag ∷ more) x fits e in
    let same : tag ≡ t.0 = same_tag tag t.0 more (t.1 ∷ x.1) t.2 in
    (tag ∷ t.1 ∷ [], t.2 ∙ ap (λ (b : ℕ). b ∷ t.1 ∷ x.1) (sym same), spelled t.1 x.0 t.3, t.4)

long_sized_is : (tag : ℕ) (formed : ℕ → Option Form) (more : List ℕ) (x : Form × List ℕ)
    → ((size : ℕ) (form : Form) (collation : List ℕ) → length collation ≡ 5 → formed size ≡ Some form → SpellsType form (tag ∷ (to_le_bytes w16 size ++ collation)))
    → IsBytes (tag ∷ more) → long_sized_at formed (tag ∷ more) ≡ Ok x → Typed (tag ∷ more) x
long_sized_is tag formed more x spelled fits e =
    let t = long_sized_takes formed (tag ∷ more) x fits e in
    let same : tag ≡ t.0 = same_tag tag t.0 more ((to_le_bytes w16 t.1 ++ t.2) ++ x.1) t.3 in
    (tag ∷ (to_le_bytes w16 t.1 ++ t.2), t.3 ∙ ap (λ (b : ℕ). (b ∷ (to_le_bytes w16 t.1 ++ t.2)) ++ x.1) (sym same), spelled t.1 x.0 t.2 t.4 t.5, t.6)

-- a test of the first byte
by_tag : (test : ℕ) (tag : ℕ) (more : List ℕ) (x : Form × List ℕ) (r s : Result (Form × List ℕ) Refusal) → (test ≡ tag → r ≡ Ok x → Typed (tag ∷ more) x) → (s ≡ Ok x → Typed (tag ∷ more) x)
    → cond (eqb tag test) r s ≡ Ok x → Typed (tag ∷ more) x
by_tag test tag more x r s here other e =
    elim (either (eqb tag test) r s x e) [
      | inl h ↦ here (sym (eqb-true tag test h.0)) h.1
      | inr h ↦ other h.1
    ]

pub type_takes : (bytes : List ℕ) (x : Form × List ℕ) → IsBytes bytes → type_at bytes ≡ Ok x → Typed bytes x
unfolding type_at byte_at tagged_at
type_takes [] x fits e = absurd cc
type_takes (tag ∷ more) x fits e =
    by_tag intntype tag more x (sized_at whole_form (tag ∷ more)) _ (λ same h. sized_is tag whole_form more x (λ size form g. subst (λ (b : ℕ). SpellsType form (b ∷ size ∷ [])) same (whole_form_is size form g)) fits h)
    (λ e1. by_tag bitntype tag more x (sized_at bit_form (tag ∷ more)) _ (λ same h. sized_is tag bit_form more x (λ size form g. subst (λ (b : ℕ). SpellsType form (b ∷ size ∷ [])) same (bit_form_is size form g)) fits h)
    (λ e2. by_tag nvarchartype tag more x (long_sized_at units_form (tag ∷ more)) _ (λ same h. long_sized_is tag units_form more x (λ size form c five g. subst (λ (b : ℕ). SpellsType form (b ∷ (to_le_bytes w16 size ++ c))) same (units_form_is size form c five g)) fits h)
    (λ e3. by_tag bigvarchartype tag more x (long_sized_at bytes_form (tag ∷ more)) _ (λ same h. long_sized_is tag bytes_form more x (λ size form c five g. subst (λ (b : ℕ). SpellsType form (b ∷ (to_le_bytes w16 size ++ c))) same (bytes_form_is size form c five g)) fits h)
    (λ e4. absurd cc) e3) e2) e1) e

-- ---- values

-- a value of the form was read
abbrev pub Valued : Form → List ℕ → Value × List ℕ → Type 0
Valued form bytes x = (text : List ℕ) × (bytes ≡ text ++ x.1) × SpellsValue form x.0 text × IsSent form x.0 × IsBytes x.1

-- what a number's or a bit's reader took: NULL, or the bytes
abbrev Filled : SqlType → ℕ → List ℕ → Value × List ℕ → Type 0
Filled kind count rest x = ((count ≡ 0) × (x.0 ≡ Null) × (rest ≡ x.1)) ⊎ ((part : List ℕ) × (count ≡ size_of kind) × (rest ≡ part ++ x.1) × (length part ≡ size_of kind) × IsBytes part × (filled kind part ≡ x.0) × IsBytes x.1)

filled_takes : (kind : SqlType) (count : ℕ) (start rest : List ℕ) (x : Value × List ℕ) → IsBytes rest → filled_of kind count start rest ≡ Ok x → Filled kind count rest x
unfolding filled_of
filled_takes kind count start rest x fits e =
    let told : List ℕ × List ℕ → Result (Value × List ℕ) Refusal = λ part. Ok (filled kind part.0, part.1) in
    elim (either (eqb count 0) (done (Null, rest)) (cond (eqb count (size_of kind)) (bytes_at (size_of kind) rest >>= told) (refuse kinds.Value start)) x e) [
      | inl h ↦ let same = ok_is (Null, rest) x h.1 in inl (eqb-true count 0 h.0, sym (ap (λ (y : Value × List ℕ). y.0) same), ap (λ (y : Value × List ℕ). y.1) same)
      | inr h ↦
          let g = needed (eqb count (size_of kind)) _ (bytes_at (size_of kind) rest >>= told) x h.1 in
          let a = bind_ok (bytes_at (size_of kind) rest) told x g.1 in
          let t = bytes_take (size_of kind) rest a.0 fits a.1 in
          let same = ok_is (filled kind a.0.0, a.0.1) x a.2 in
          let after = ap (λ (y : Value × List ℕ). y.1) same in
          inr (a.0.0, eqb-true count (size_of kind) g.0, t.0 ∙ ap (λ (l : List ℕ). a.0.0 ++ l) after, t.1, t.2, ap (λ (y : Value × List ℕ). y.0) same, subst IsBytes after t.3)
    ]

signed16 : (n : ℕ) → n < 2 ^ 16 → FitsSigned w16 (cast_signed w16 n)
signed16 n lt =
    let same : (n + 0) % 2 ^ 16 ≡ n = omega arith in
    subst (FitsSigned w16) (sym (wrapping_add-bits w16 n 0 lt (omega arith)) ∙ ap (cast_signed w16) same) (SFits-int_wrap w16 (cast_signed w16 n +ℤ cast_signed w16 0))

signed32 : (n : ℕ) → n < 2 ^ 32 → FitsSigned w32 (cast_signed w32 n)
signed32 n lt =
    let same : (n + 0) % 2 ^ 32 ≡ n = omega arith in
    subst (FitsSigned w32) (sym (wrapping_add-bits w32 n 0 lt (omega arith)) ∙ ap (cast_signed w32) same) (SFits-int_wrap w32 (cast_signed w32 n +ℤ cast_signed w32 0))

signed64 : (n : ℕ) → n < 2 ^ 64 → FitsSigned w64 (cast_signed w64 n)
signed64 n lt =
    let same : (n + 0) % 2 ^ 64 ≡ n = omega arith in
    subst (FitsSigned w64) (sym (wrapping_add-bits w64 n 0 lt (omega arith)) ∙ ap (cast_signed w64) same) (SFits-int_wrap w64 (cast_signed w64 n +ℤ cast_signed w64 0))

-- the bytes of a kind are the value's that they make
part_spells : (kind : SqlType) (part : List ℕ) → length part ≡ size_of kind → IsBytes part → eqb (size_of kind) 0 ≡ false → SpellsValue (Number kind) (filled kind part) (size_of kind ∷ part) × IsOf kind (filled kind part)
part_spells TinyInt [] len fits some = absurd (omega arith)
part_spells TinyInt (a ∷ b ∷ part) len fits some = absurd (omega arith)
part_spells TinyInt (a ∷ []) len fits some =
    let same : a % 256 ≡ a = omega (arith, fits 0) in
    (ap (λ (b : ℕ). 1 ∷ b ∷ []) (sym same), (omega (arith, ints), omega (arith, ints, fits 0)))
part_spells SmallInt part len fits some =
    let lt : from_le_bytes w16 part < 2 ^ 16 = omega (arith, fits 0, fits 1) in
    let back : to_le_bytes w16 (from_le_bytes w16 part) ≡ part = le_bytes_2 part _ len fits refl in
    (ap (λ (l : List ℕ). 2 ∷ l) (sym (ap (to_le_bytes w16) (of_z-to_z w16 (from_le_bytes w16 part) lt) ∙ back)), signed16 (from_le_bytes w16 part) lt)
part_spells Int part len fits some =
    let lt : from_le_bytes w32 part < 2 ^ 32 = omega (arith, fits 0, fits 1, fits 2, fits 3) in
    let back : to_le_bytes w32 (from_le_bytes w32 part) ≡ part = le_bytes_4 part _ len fits refl in
    (ap (λ (l : List ℕ). 4 ∷ l) (sym (ap (to_le_bytes w32) (of_z-to_z w32 (from_le_bytes w32 part) lt) ∙ back)), signed32 (from_le_bytes w32 part) lt)
part_spells BigInt part len fits some =
    let lt : from_le_bytes w64 part < 2 ^ 64 = omega (arith, fits 0, fits 1, fits 2, fits 3, fits 4, fits 5, fits 6, fits 7) in
    let back : to_le_bytes w64 (from_le_bytes w64 part) ≡ part = le_bytes_8 part _ len fits refl in
    (ap (λ (l : List ℕ). 8 ∷ l) (sym (ap (to_le_bytes w64) (of_z-to_z w64 (from_le_bytes w64 part) lt) ∙ back)), signed64 (from_le_bytes w64 part) lt)
part_spells BitType [] len fits some = absurd (omega arith)
part_spells BitType (zero ∷ []) len fits some = (refl, tt)
part_spells BitType (suc a ∷ []) len fits some =
    let set : eqb (suc a) 0 ≡ false = ne_eqb (suc a) 0 (λ none. omega arith) in
    rw set ((suc a, (λ none. omega arith), refl), tt)
part_spells BitType (a ∷ b ∷ part) len fits some = absurd (omega arith)
part_spells (NText size) part len fits some = absurd cc

-- NULL of a number or a bit
null_spells : (kind : SqlType) → eqb (size_of kind) 0 ≡ false → SpellsValue (Number kind) Null (0 ∷ []) × IsOf kind Null
null_spells TinyInt some = (refl, tt)
null_spells SmallInt some = (refl, tt)
null_spells Int some = (refl, tt)
null_spells BigInt some = (refl, tt)
null_spells BitType some = (refl, tt)
null_spells (NText size) some = absurd cc

-- the value of a number's or a bit's kind
sized_value_takes : (kind : SqlType) (bytes : List ℕ) (x : Value × List ℕ) → eqb (size_of kind) 0 ≡ false → IsBytes bytes → (byte_at bytes >>= λ count. filled_of kind count.0 bytes count.1) ≡ Ok x → Valued (Number kind) bytes x
sized_value_takes kind bytes x some fits e =
    let c = bind_ok (byte_at bytes) (λ count. filled_of kind count.0 bytes count.1) x e in
    let t = byte_takes bytes c.0 fits c.1 in
    elim (filled_takes kind c.0.0 bytes c.0.1 x t.2 c.2) [
      | inl h ↦
          let n = null_spells kind some in
          (0 ∷ [], t.0 ∙ ap (λ (b : ℕ). b ∷ c.0.1) h.0 ∙ ap (λ (l : List ℕ). 0 ∷ l) h.2, subst (λ (v : Value). SpellsValue (Number kind) v (0 ∷ [])) (sym h.1) n.0, subst (IsOf kind) (sym h.1) n.1, subst IsBytes h.2 t.2)
      | inr h ↦
          let p = part_spells kind h.0 h.3 h.4 some in
          (size_of kind ∷ h.0, t.0 ∙ ap (λ (b : ℕ). b ∷ c.0.1) h.1 ∙ ap (λ (l : List ℕ). size_of kind ∷ l) h.2, subst (λ (v : Value). SpellsValue (Number kind) v (size_of kind ∷ h.0)) h.5 p.0, subst (IsOf kind) h.5 p.1, h.6)
    ]

texts_length : (size count : ℕ) (units : List ℕ) → length units ≡ count / 2 → ltb (2 * size) count ≡ false → length units ≤ size
texts_length size count units len small = omega (arith, ltb-false (2 * size) count small)

ntext_takes : (size : ℕ) (bytes : List ℕ) (x : Value × List ℕ) → IsBytes bytes → value_at (Units size) bytes ≡ Ok x → Valued (Units size) bytes x
unfolding value_at ntext_of
ntext_takes size bytes x fits e =
    let c = bind_ok (short_at bytes) (λ count. ntext_of size count.0 bytes count.1) x e in
    let t = short_takes bytes c.0 fits c.1 in
    let told : List ℕ × List ℕ → Result (Value × List ℕ) Refusal = λ text. Ok (Text text.0, text.1) in
    elim (either (eqb c.0.0 charbin_null) (done (Null, c.0.1)) (cond (eqb (c.0.0 % 2) 1 || ltb (2 * size) c.0.0) (refuse kinds.Value bytes) (units_at (c.0.0 / 2) c.0.1 >>= told)) x c.2) [
      | inl h ↦
          let same = ok_is (Null, c.0.1) x h.1 in
          subst (Valued (Units size) bytes) same (to_le_bytes w16 charbin_null, t.0 ∙ ap (λ (n : ℕ). to_le_bytes w16 n ++ c.0.1) (eqb-true c.0.0 charbin_null h.0), refl, tt, t.2)
      | inr h ↦
          let g = passed (eqb (c.0.0 % 2) 1 || ltb (2 * size) c.0.0) _ (units_at (c.0.0 / 2) c.0.1 >>= told) x h.1 in
          let a = neither (eqb (c.0.0 % 2) 1) (ltb (2 * size) c.0.0) g.0 in
          let odd = eqb-false (c.0.0 % 2) 1 a.0 in
          let u = bind_ok (units_at (c.0.0 / 2) c.0.1) told x g.1 in
          let v = units_take (c.0.0 / 2) c.0.1 u.0 t.2 u.1 in
          let twice : c.0.0 ≡ 2 * length u.0.0 = grind (arith, odd, v.1) in
          let text = to_le_bytes w16 (2 * length u.0.0) ++ le_bytes_of u.0.0 in
          let parts : bytes ≡ text ++ u.0.1 =
          t.0 ∙ ap (λ (n : ℕ). to_le_bytes w16 n ++ c.0.1) twice ∙ ap (λ (l : List ℕ). to_le_bytes w16 (2 * length u.0.0) ++ l) v.0 ∙ sym (append_assoc (to_le_bytes w16 (2 * length u.0.0)) (le_bytes_of u.0.0) u.0.1) in
          subst (Valued (Units size) bytes) (ok_is (Text u.0.0, u.0.1) x u.2) (text, parts, refl, (texts_length size c.0.0 u.0.0 v.1 a.1, v.2), v.3)
    ]

ascii_takes : (size : ℕ) (bytes : List ℕ) (x : Value × List ℕ) → IsBytes bytes → value_at (Bytes size) bytes ≡ Ok x → Valued (Bytes size) bytes x
unfolding value_at ascii_of
ascii_takes size bytes x fits e =
    let c = bind_ok (short_at bytes) (λ count. ascii_of size count.0 bytes count.1) x e in
    let t = short_takes bytes c.0 fits c.1 in
    let told : List ℕ × List ℕ → Result (Value × List ℕ) Refusal = λ text. ascii_text c.0.1 text.0 text.1 in
    elim (either (eqb c.0.0 charbin_null) (done (Null, c.0.1)) (cond (ltb size c.0.0) (refuse kinds.Value bytes) (bytes_at c.0.0 c.0.1 >>= told)) x c.2) [
      | inl h ↦
          let same = ok_is (Null, c.0.1) x h.1 in
          subst (Valued (Bytes size) bytes) same (to_le_bytes w16 charbin_null, t.0 ∙ ap (λ (n : ℕ). to_le_bytes w16 n ++ c.0.1) (eqb-true c.0.0 charbin_null h.0), refl, tt, t.2)
      | inr h ↦
          let g = passed (ltb size c.0.0) _ (bytes_at c.0.0 c.0.1 >>= told) x h.1 in
          let small : c.0.0 ≤ size = ltb-false _ _ g.0 in
          let u = bind_ok (bytes_at c.0.0 c.0.1) told x g.1 in
          let v = bytes_take c.0.0 c.0.1 u.0 t.2 u.1 in
          let w = needed (is_ascii u.0.0) _ (done (Text u.0.0, u.0.1)) x u.2 in
          let text = to_le_bytes w16 (length u.0.0) ++ u.0.0 in
          let parts : bytes ≡ text ++ u.0.1 =
          t.0 ∙ ap (λ (n : ℕ). to_le_bytes w16 n ++ c.0.1) (sym v.1) ∙ ap (λ (l : List ℕ). to_le_bytes w16 (length u.0.0) ++ l) v.0 ∙ sym (append_assoc (to_le_bytes w16 (length u.0.0)) u.0.0 u.0.1) in
          subst (Valued (Bytes size) bytes) (ok_is (Text u.0.0, u.0.1) x w.1) (text, parts, refl, (omega (arith, v.1, small), are_ascii u.0.0 w.0), v.3)
    ]

some_bytes : (kind : SqlType) → IsForm (Number kind) → eqb (size_of kind) 0 ≡ false
some_bytes TinyInt is = refl
some_bytes SmallInt is = refl
some_bytes Int is = refl
some_bytes BigInt is = refl
some_bytes BitType is = refl
some_bytes (NText size) is = absurd is

pub value_takes : (form : Form) (bytes : List ℕ) (x : Value × List ℕ) → IsForm form → IsBytes bytes → value_at form bytes ≡ Ok x → Valued form bytes x
unfolding value_at
value_takes (Number kind) bytes x is fits e = sized_value_takes kind bytes x (some_bytes kind is) fits e
value_takes (Units size) bytes x is fits e = ntext_takes size bytes x fits e
value_takes (Bytes size) bytes x is fits e = ascii_takes size bytes x fits e
