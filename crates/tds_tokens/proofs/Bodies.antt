-- What stands behind a token's tag, read and spelled.
use Rattle.std.proofs.Common.{◌≡◌, ℕ, ◌^◌, ◌<◌, ◌≤◌, ◌⊎◌, inl, inr, Bool, true, false, cond, eqb, leb, ◌&&◌, ◌||◌, List, [], ◌∷◌, ◌++◌, length, Some, ℤ, refl, sym, ap, subst, ◌∙◌, append_assoc, length-append, arith}
use Rattle.std.specs.Prelude.{FitsSigned}
use Rattle.std.specs.Int.{w16, w32, w64, to_le_bytes, cast_unsigned}
use Rattle.std.proofs.lemmas.Bool.{eqb-true, eq-eqb, ne_eqb, leb-true, le-leb, or_cases, or_left, or_right, or_from, and_parts, and_from}
use Rattle.std.proofs.lemmas.List.{append-nil}
use Rattle.value_types.specs.Units.{le_bytes_of}
use Rattle.value_types.specs.declared.sql_type.SqlType.{SqlType}
use Rattle.value_types.specs.declared.value.Value.{Value}
use Rattle.tds_tokens.specs.declared.columns.ColumnInfo.{ColumnInfo}
use Rattle.tds_tokens.specs.declared.notice.Notice.{Notice}
use Rattle.tds_tokens.specs.declared.token.DoneKind.{DoneKind}
use Rattle.tds_tokens.specs.declared.token.Token.{Token}
use Rattle.tds_tokens.specs.declared.token.Token.TheVariants.{LoginAck, EnvText, EnvBytes, ReturnValue, Finished}
use Rattle.tds_tokens.specs.Numbers.{done_tag}
use Rattle.tds_tokens.specs.Spelling.{with_length, server_name, sql_tsql, b_varchar, b_varbyte, us_varchar, type_info, value_bytes, return_value_start, return_value_bytes, login_ack_bytes, notice_bytes, token_bytes}
use Rattle.tds_tokens.specs.Fit.{FitsNotice}
use Rattle.tds_tokens.specs.Ranges.{AreUnits, AreOctets, IsNotice, IsToken}
use Rattle.tds_tokens.specs.Reading.{made, both, behind, framed, typed_at, return_value_at, byte_at, number_at, b_varchar_at, b_varbyte_at, login_ack_at, said_at, notice_at, env_of, env_at, finished_at}
use Rattle.tds_tokens.proofs.Lengths.{length-login_ack, length-env_text}
use Rattle.tds_tokens.proofs.Readers.{IsBytes, IsBytes-rest, bind_some, Reads, Reads-both, Reads-made, Reads-is, made_takes, made_again, Reads-behind, framed_takes, framed_again, Reads-framed}
use Rattle.tds_tokens.proofs.Numbers.{Reads-byte, Reads-16, Reads-64, Reads-32_big, Reads-signed32}
use Rattle.tds_tokens.proofs.ValueLaws.{IsTyped, typed_bytes, Reads-typed}
use Rattle.tds_tokens.proofs.Texts.{Reads-body, Reads-b_varchar, Reads-b_varbyte, Reads-us_varchar}

-- the tag and the bytes are those of the token that was read, and of what is left
abbrev pub IsTokenOf : List ColumnInfo → ℕ → List ℕ → Token × List ℕ → Type 0
IsTokenOf columns tag bytes x = (tag ∷ bytes ≡ token_bytes columns x.0 ++ x.1) × IsToken columns x.0

-- a token whose body was read is that body's
abbrev IsBodyOf : List ColumnInfo → ℕ → List ℕ → Token → Type 0
IsBodyOf columns tag body token = (tag ∷ with_length body ≡ token_bytes columns token) × IsToken columns token

body_is : (columns : List ColumnInfo) (tag : ℕ) (body bytes : List ℕ) (x : Token × List ℕ) → bytes ≡ with_length body ++ x.1 → IsBodyOf columns tag body x.0 → IsTokenOf columns tag bytes x
body_is columns tag body bytes x parts is = (ap (λ l. tag ∷ l) parts ∙ ap (λ l. l ++ x.1) is.0, is.1)

-- ---- LOGINACK

abbrev LoginParts : Type 0
LoginParts = ℕ × (List ℕ × ℕ)

abbrev IsLogin : LoginParts → Type 0
IsLogin p = (p.0 < 2 ^ 32) × (((length p.1.0 < 2 ^ 8) × AreUnits p.1.0) × (p.1.1 < 2 ^ 32))

login_ack_takes : (columns : List ColumnInfo) (body : List ℕ) (token : Token) → IsBytes body → login_ack_at body ≡ Some (token, []) → IsBodyOf columns 0xAD body token
unfolding login_ack_at
login_ack_takes columns body token fits e =
    let t = made_takes (λ p. LoginAck p.0 p.1.0 p.1.1) (Reads-behind (sql_tsql ∷ []) (Reads-both Reads-32_big (Reads-both Reads-b_varchar Reads-32_big))) body (token, []) fits e in
    let p = t.0 in
    let whole : login_ack_bytes p.0 p.1.0 p.1.1 ≡ body = sym (t.2 ∙ append-nil (login_ack_bytes p.0 p.1.0 p.1.1)) in
    subst (IsBodyOf columns 0xAD body) t.1 (ap (λ l. 0xAD ∷ with_length l) (sym whole), (t.3.1.0.0, (t.3.0, t.3.1.0.1, t.3.1.1)))

login_ack_again : (version : ℕ) (program : List ℕ) (release : ℕ) → IsLogin (version, (program, release)) → login_ack_at (login_ack_bytes version program release) ≡ Some (LoginAck version program release, [])
unfolding login_ack_at
login_ack_again version program release is =
    let reads = Reads-behind (sql_tsql ∷ []) (Reads-both Reads-32_big (Reads-both Reads-b_varchar Reads-32_big)) in
    ap login_ack_at (sym (append-nil (login_ack_bytes version program release))) ∙ made_again (λ p. LoginAck p.0 p.1.0 p.1.1) reads (version, (program, release)) [] is

pub login_ack_tagged : (columns : List ColumnInfo) (bytes : List ℕ) (x : Token × List ℕ) → IsBytes bytes → framed login_ack_at bytes ≡ Some x → IsTokenOf columns 0xAD bytes x
login_ack_tagged columns bytes x fits e =
    let t = framed_takes login_ack_at Reads-body bytes x fits e in
    body_is columns 0xAD t.0 bytes x t.2 (login_ack_takes columns t.0 x.0 t.3 t.1)

pub login_ack_framed : (columns : List ColumnInfo) (version : ℕ) (program : List ℕ) (release : ℕ) (rest : List ℕ) → IsToken columns (LoginAck version program release)
    → framed login_ack_at (with_length (login_ack_bytes version program release) ++ rest) ≡ Some (LoginAck version program release, rest)
login_ack_framed columns version program release rest is =
    let parts : IsLogin (version, (program, release)) = (is.1.0, ((is.0, is.1.1), is.1.2)) in
    let short : length (login_ack_bytes version program release) < 2 ^ 16 = omega (arith, is.0, length-login_ack columns version program release) in
    framed_again login_ack_at Reads-body (login_ack_bytes version program release) (LoginAck version program release) rest short (login_ack_again version program release parts)

-- ---- ERROR and INFO

abbrev IsSaid : List ℕ × (List ℕ × ℤ) → Type 0
IsSaid p = ((length p.0 < 2 ^ 16) × AreUnits p.0) × (((length p.1.0 < 2 ^ 8) × AreUnits p.1.0) × FitsSigned w32 p.1.1)

Reads-said : Reads (λ p. us_varchar p.0 ++ (b_varchar server_name ++ (b_varchar p.1.0 ++ to_le_bytes w32 (cast_unsigned w32 p.1.1)))) IsSaid said_at
unfolding said_at
Reads-said = Reads-both Reads-us_varchar (Reads-behind (b_varchar server_name) (Reads-both Reads-b_varchar Reads-signed32))

abbrev IsNoted : Notice → Type 0
IsNoted notice = FitsSigned w32 notice.number × ((notice.state < 2 ^ 8) × ((notice.class < 2 ^ 8) × IsSaid (notice.text, (notice.procedure, notice.line))))

-- a notice's bytes, grouped from behind
abbrev noted : Notice → List ℕ
noted notice = to_le_bytes w32 (cast_unsigned w32 notice.number) ++ ((notice.state ∷ []) ++ ((notice.class ∷ []) ++ (us_varchar notice.text ++ (b_varchar server_name ++ (b_varchar notice.procedure ++ to_le_bytes w32 (cast_unsigned w32 notice.line))))))

from_behind : (text name procedure line : List ℕ) → ((text ++ name) ++ procedure) ++ line ≡ text ++ (name ++ (procedure ++ line))
from_behind text name procedure line = append_assoc (text ++ name) procedure line ∙ append_assoc text name (procedure ++ line)

notice_bytes-noted : (notice : Notice) → notice_bytes notice ≡ noted notice
notice_bytes-noted notice =
    ap (λ l. to_le_bytes w32 (cast_unsigned w32 notice.number) ++ ((notice.state ∷ notice.class ∷ to_le_bytes w16 (length notice.text)) ++ l))
    (from_behind (le_bytes_of notice.text) (b_varchar server_name) (b_varchar notice.procedure) (to_le_bytes w32 (cast_unsigned w32 notice.line)))

Reads-noted : Reads notice_bytes IsNoted notice_at
unfolding notice_at
Reads-noted =
    let reads : Reads noted IsNoted notice_at =
    Reads-made
    (λ p. record { number = p.0; state = p.1.0; class = p.1.1.0; text = p.1.1.1.0; procedure = p.1.1.1.1.0; line = p.1.1.1.1.1 })
    (λ notice. (notice.number, (notice.state, (notice.class, (notice.text, (notice.procedure, notice.line))))))
    IsNoted (λ p is. (is, refl)) (λ notice is. (is, refl))
    (Reads-both Reads-signed32 (Reads-both Reads-byte (Reads-both Reads-byte Reads-said))) in
    record {
      takes = λ bytes x fits e. let t = reads.takes bytes x fits e in (t.0 ∙ ap (λ l. l ++ x.1) (sym (notice_bytes-noted x.0)), t.1);
      again = λ notice rest is. ap (λ l. notice_at (l ++ rest)) (notice_bytes-noted notice) ∙ reads.again notice rest is;
    }

notice_from : (notice : Notice) → (length (notice_bytes notice) < 2 ^ 16) × IsNoted notice → FitsNotice notice × IsNotice notice
notice_from notice is =
    let said = is.1.1.1.1 in
    (record { text = said.0.0; procedure = said.1.0.0; whole = is.0 }, record { number = is.1.0; state = is.1.1.0; class = is.1.1.1.0; text = said.0.1; procedure = said.1.0.1; line = said.1.1 })

notice_to : (notice : Notice) → FitsNotice notice × IsNotice notice → (length (notice_bytes notice) < 2 ^ 16) × IsNoted notice
notice_to notice is =
    let fits = is.0 in
    let range = is.1 in
    (fits.whole, (range.number, (range.state, (range.class, ((fits.text, range.text), ((fits.procedure, range.procedure), range.line))))))

-- a notice behind its length
pub Reads-notice : Reads (λ notice. with_length (notice_bytes notice)) (λ notice. FitsNotice notice × IsNotice notice) (framed notice_at)
Reads-notice = Reads-is (λ notice. FitsNotice notice × IsNotice notice) notice_from notice_to (Reads-framed Reads-body Reads-noted)

-- ---- ENVCHANGE

env_text_takes : (columns : List ColumnInfo) (kind : ℕ) (bytes : List ℕ) (token : Token) → IsBytes bytes → (eqb kind 1 || eqb kind 4) ≡ true → made (λ p. EnvText kind p.0 p.1) (both b_varchar_at b_varchar_at) bytes ≡ Some (token, [])
    → IsBodyOf columns 0xE3 (kind ∷ bytes) token
env_text_takes columns kind bytes token fits is e =
    let t = made_takes (λ p. EnvText kind p.0 p.1) (Reads-both Reads-b_varchar Reads-b_varchar) bytes (token, []) fits e in
    let p = t.0 in
    let whole : bytes ≡ b_varchar p.0 ++ b_varchar p.1 = t.2 ∙ append-nil (b_varchar p.0 ++ b_varchar p.1) in
    let one : (kind ≡ 1) ⊎ (kind ≡ 4) = elim (or_cases (eqb kind 1) (eqb kind 4) is) [ inl h ↦ inl (eqb-true kind 1 h) | inr h ↦ inr (eqb-true kind 4 h) ] in
    subst (IsBodyOf columns 0xE3 (kind ∷ bytes)) t.1 (ap (λ l. 0xE3 ∷ with_length (kind ∷ l)) whole, ((one, t.3.0.0, t.3.1.0), (t.3.0.1, t.3.1.1)))

env_bytes_takes : (columns : List ColumnInfo) (kind : ℕ) (bytes : List ℕ) (token : Token) → IsBytes bytes → (leb 7 kind && leb kind 10) ≡ true → made (λ p. EnvBytes kind p.0 p.1) (both b_varbyte_at b_varbyte_at) bytes ≡ Some (token, [])
    → IsBodyOf columns 0xE3 (kind ∷ bytes) token
env_bytes_takes columns kind bytes token fits is e =
    let t = made_takes (λ p. EnvBytes kind p.0 p.1) (Reads-both Reads-b_varbyte Reads-b_varbyte) bytes (token, []) fits e in
    let p = t.0 in
    let whole : bytes ≡ b_varbyte p.0 ++ b_varbyte p.1 = t.2 ∙ append-nil (b_varbyte p.0 ++ b_varbyte p.1) in
    let within = and_parts (leb 7 kind) (leb kind 10) is in
    subst (IsBodyOf columns 0xE3 (kind ∷ bytes)) t.1
    (ap (λ l. 0xE3 ∷ with_length (kind ∷ l)) whole, ((leb-true 7 kind within.0, leb-true kind 10 within.1, t.3.0.0, t.3.1.0), (t.3.0.1, t.3.1.1)))

-- the branch that was taken
chosen : {A : Type 0} {P : Type 0} (b : Bool) (x y z : A) → (b ≡ true → x ≡ z → P) → (b ≡ false → y ≡ z → P) → cond b x y ≡ z → P
chosen true x y z first second e = first refl e
chosen false x y z first second e = second refl e

env_of_takes : (columns : List ColumnInfo) (kind : ℕ) (bytes : List ℕ) (token : Token) → IsBytes bytes → env_of kind bytes ≡ Some (token, []) → IsBodyOf columns 0xE3 (kind ∷ bytes) token
unfolding env_of
env_of_takes columns kind bytes token fits e =
    chosen (eqb kind 1 || eqb kind 4) _ _ _ (λ is given. env_text_takes columns kind bytes token fits is given)
    (λ is_not left. chosen (leb 7 kind && leb kind 10) _ _ _ (λ is given. env_bytes_takes columns kind bytes token fits is given) (λ nor given. absurd cc) left)
    e

env_takes : (columns : List ColumnInfo) (body : List ℕ) (token : Token) → IsBytes body → env_at body ≡ Some (token, []) → IsBodyOf columns 0xE3 body token
unfolding env_at
env_takes columns body token fits e =
    let a = bind_some (byte_at body) (λ kind. env_of kind.0 kind.1) (token, []) e in
    let t = Reads-byte.takes body a.0 fits a.1 in
    let whole : body ≡ a.0.0 ∷ a.0.1 = t.0 in
    subst (λ (l : List ℕ). IsBodyOf columns 0xE3 l token) (sym whole) (env_of_takes columns a.0.0 a.0.1 token (IsBytes-rest (a.0.0 ∷ []) a.0.1 (subst IsBytes whole fits)) a.2)

pub env_tagged : (columns : List ColumnInfo) (bytes : List ℕ) (x : Token × List ℕ) → IsBytes bytes → framed env_at bytes ≡ Some x → IsTokenOf columns 0xE3 bytes x
env_tagged columns bytes x fits e =
    let t = framed_takes env_at Reads-body bytes x fits e in
    body_is columns 0xE3 t.0 bytes x t.2 (env_takes columns t.0 x.0 t.3 t.1)

env_text_again : (kind : ℕ) (fresh former : List ℕ) → (eqb kind 1 || eqb kind 4) ≡ true → ((length fresh < 2 ^ 8) × AreUnits fresh) × ((length former < 2 ^ 8) × AreUnits former)
    → env_at (kind ∷ b_varchar fresh ++ b_varchar former) ≡ Some (EnvText kind fresh former, [])
unfolding env_at env_of byte_at
env_text_again kind fresh former is fit =
    let made_of = made_again (λ p. EnvText kind p.0 p.1) (Reads-both Reads-b_varchar Reads-b_varchar) (fresh, former) [] fit in
    ap (λ l. env_at (kind ∷ l)) (sym (append-nil (b_varchar fresh ++ b_varchar former))) ∙ rw is made_of

env_bytes_again : (kind : ℕ) (fresh former : List ℕ) → (eqb kind 1 || eqb kind 4) ≡ false → (leb 7 kind && leb kind 10) ≡ true → ((length fresh < 2 ^ 8) × AreOctets fresh) × ((length former < 2 ^ 8) × AreOctets former)
    → env_at (kind ∷ b_varbyte fresh ++ b_varbyte former) ≡ Some (EnvBytes kind fresh former, [])
unfolding env_at env_of byte_at
env_bytes_again kind fresh former is_not is fit =
    let made_of = made_again (λ p. EnvBytes kind p.0 p.1) (Reads-both Reads-b_varbyte Reads-b_varbyte) (fresh, former) [] fit in
    ap (λ l. env_at (kind ∷ l)) (sym (append-nil (b_varbyte fresh ++ b_varbyte former))) ∙ rw (is_not, is) made_of

pub env_text_framed : (columns : List ColumnInfo) (kind : ℕ) (fresh former rest : List ℕ) → IsToken columns (EnvText kind fresh former)
    → framed env_at (with_length (kind ∷ b_varchar fresh ++ b_varchar former) ++ rest) ≡ Some (EnvText kind fresh former, rest)
env_text_framed columns kind fresh former rest is =
    let test : (eqb kind 1 || eqb kind 4) ≡ true = elim is.0.0 [ inl h ↦ or_left (eqb kind 1) (eqb kind 4) (eq-eqb kind 1 h) | inr h ↦ or_right (eqb kind 1) (eqb kind 4) (eq-eqb kind 4 h) ] in
    let short : length (kind ∷ b_varchar fresh ++ b_varchar former) < 2 ^ 16 = omega (arith, is.0.1, is.0.2, length-env_text columns kind fresh former) in
    framed_again env_at Reads-body (kind ∷ b_varchar fresh ++ b_varchar former) (EnvText kind fresh former) rest short (env_text_again kind fresh former test ((is.0.1, is.1.0), (is.0.2, is.1.1)))

pub env_bytes_framed : (columns : List ColumnInfo) (kind : ℕ) (fresh former rest : List ℕ) → IsToken columns (EnvBytes kind fresh former)
    → framed env_at (with_length (kind ∷ b_varbyte fresh ++ b_varbyte former) ++ rest) ≡ Some (EnvBytes kind fresh former, rest)
env_bytes_framed columns kind fresh former rest is =
    let low : 7 ≤ kind = is.0.0 in
    let neither : (eqb kind 1 || eqb kind 4) ≡ false = or_from (eqb kind 1) (eqb kind 4) (ne_eqb kind 1 (λ h. omega arith)) (ne_eqb kind 4 (λ h. omega arith)) in
    let within : (leb 7 kind && leb kind 10) ≡ true = and_from (leb 7 kind) (leb kind 10) (le-leb 7 kind is.0.0) (le-leb kind 10 is.0.1) in
    let short : length (kind ∷ b_varbyte fresh ++ b_varbyte former) < 2 ^ 16 = omega (arith, is.0.2, is.0.3, length-append fresh (b_varbyte former)) in
    framed_again env_at Reads-body (kind ∷ b_varbyte fresh ++ b_varbyte former) (EnvBytes kind fresh former) rest short (env_bytes_again kind fresh former neither within ((is.0.2, is.1.0), (is.0.3, is.1.1)))

-- ---- RETURNVALUE

abbrev ReturnParts : Type 0
ReturnParts = ℕ × (List ℕ × (SqlType × Value))

abbrev IsReturned : ReturnParts → Type 0
IsReturned p = (p.0 < 2 ^ 16) × (((length p.1.0 < 2 ^ 8) × AreUnits p.1.0) × IsTyped p.1.1)

-- the bytes behind the tag, grouped from behind
abbrev returned : ReturnParts → List ℕ
returned p = to_le_bytes w16 p.0 ++ (b_varchar p.1.0 ++ (return_value_start ++ typed_bytes p.1.1))

Reads-returned : Reads returned IsReturned (both (number_at w16) (both b_varchar_at (behind return_value_start typed_at)))
Reads-returned = Reads-both Reads-16 (Reads-both Reads-b_varchar (Reads-behind return_value_start Reads-typed))

return_value_bytes-returned : (ordinal : ℕ) (name : List ℕ) (kind : SqlType) (value : Value) → return_value_bytes ordinal name kind value ≡ returned (ordinal, (name, (kind, value)))
return_value_bytes-returned ordinal name kind value =
    ap (λ l. to_le_bytes w16 ordinal ++ (length name ∷ l)) (from_behind (le_bytes_of name) return_value_start (type_info kind) (value_bytes kind value))

pub return_value_tagged : (columns : List ColumnInfo) (bytes : List ℕ) (x : Token × List ℕ) → IsBytes bytes → return_value_at bytes ≡ Some x → IsTokenOf columns 0xAC bytes x
unfolding return_value_at
return_value_tagged columns bytes x fits e =
    let t = made_takes (λ p. ReturnValue p.0 p.1.0 p.1.1.0 p.1.1.1) Reads-returned bytes x fits e in
    let p = t.0 in
    let is = t.3 in
    let parts : bytes ≡ return_value_bytes p.0 p.1.0 p.1.1.0 p.1.1.1 ++ x.1 = t.2 ∙ ap (λ l. l ++ x.1) (sym (return_value_bytes-returned p.0 p.1.0 p.1.1.0 p.1.1.1)) in
    subst (λ (token : Token). IsTokenOf columns 0xAC bytes (token, x.1)) t.1
    (ap (λ l. 0xAC ∷ l) parts, ((is.1.0.0, is.1.1.0, is.1.1.1.0), (is.0, is.1.0.1, is.1.1.1.1)))

pub return_value_again : (columns : List ColumnInfo) (ordinal : ℕ) (name : List ℕ) (kind : SqlType) (value : Value) (rest : List ℕ) → IsToken columns (ReturnValue ordinal name kind value)
    → return_value_at (return_value_bytes ordinal name kind value ++ rest) ≡ Some (ReturnValue ordinal name kind value, rest)
unfolding return_value_at
return_value_again columns ordinal name kind value rest is =
    ap (λ l. return_value_at (l ++ rest)) (return_value_bytes-returned ordinal name kind value)
    ∙ made_again (λ p. ReturnValue p.0 p.1.0 p.1.1.0 p.1.1.1) Reads-returned (ordinal, (name, (kind, value))) rest (is.1.0, ((is.0.0, is.1.1), (is.0.1, (is.0.2, is.1.2))))

-- ---- DONE, DONEPROC and DONEINPROC

abbrev FinishedParts : Type 0
FinishedParts = ℕ × (ℕ × ℕ)

Reads-finished : Reads (λ (p : FinishedParts). to_le_bytes w16 p.0 ++ (to_le_bytes w16 p.1.0 ++ to_le_bytes w64 p.1.1)) (λ (p : FinishedParts). (p.0 < 2 ^ 16) × ((p.1.0 < 2 ^ 16) × (p.1.1 < 2 ^ 64))) (both (number_at w16) (both (number_at w16) (number_at w64)))
Reads-finished = Reads-both Reads-16 (Reads-both Reads-16 Reads-64)

pub finished_tagged : (columns : List ColumnInfo) (kind : DoneKind) (bytes : List ℕ) (x : Token × List ℕ) → IsBytes bytes → finished_at kind bytes ≡ Some x → IsTokenOf columns (done_tag kind) bytes x
unfolding finished_at
finished_tagged columns kind bytes x fits e =
    let t = made_takes (λ p. Finished kind p.0 p.1.0 p.1.1) Reads-finished bytes x fits e in
    subst (λ (token : Token). (done_tag kind ∷ bytes ≡ token_bytes columns token ++ x.1) × IsToken columns token) t.1 (ap (λ l. done_tag kind ∷ l) t.2, (tt, (t.3.0, t.3.1.0, t.3.1.1)))

pub finished_again : (kind : DoneKind) (status command rows : ℕ) (rest : List ℕ) → (status < 2 ^ 16) × (command < 2 ^ 16) × (rows < 2 ^ 64)
    → finished_at kind ((to_le_bytes w16 status ++ to_le_bytes w16 command ++ to_le_bytes w64 rows) ++ rest) ≡ Some (Finished kind status command rows, rest)
unfolding finished_at
finished_again kind status command rows rest is = made_again (λ p. Finished kind p.0 p.1.0 p.1.1) Reads-finished (status, (command, rows)) rest (is.0, (is.1, is.2))
