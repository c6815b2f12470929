-- A token that is read is the one that is spelled.
use Rattle.std.proofs.Common.{◌≡◌, ℕ, ◌^◌, ◌<◌, Bool, true, false, cond, eqb, List, [], ◌∷◌, ◌++◌, length, All, Option, Some, refl, sym, ap, subst, ◌∙◌}
use Rattle.std.proofs.lemmas.Bool.{eqb-true}
use Rattle.std.proofs.lemmas.List.Elements.{All-weaker}
use Rattle.std.proofs.lemmas.Option.{same_Some, some_pair_parts}
use Rattle.tds_tokens.specs.declared.columns.ColumnInfo.{ColumnInfo}
use Rattle.tds_tokens.specs.declared.reading.tag.Tag.{Tag}
use Rattle.tds_tokens.specs.declared.reading.tag.Tag.TheVariants as kinds
use Rattle.tds_tokens.specs.declared.token.DoneKind.TheVariants.{Done, Proc, InProc}
use Rattle.tds_tokens.specs.declared.token.Token.{Token}
use Rattle.tds_tokens.specs.declared.token.Token.TheVariants.{LoginAck, Error, Info, EnvText, EnvBytes, Columns, Row, ReturnStatus, ReturnValue, Finished}
use Rattle.tds_tokens.specs.Spelling.{token_bytes}
use Rattle.tds_tokens.specs.Fit.{FitsKind}
use Rattle.tds_tokens.specs.Ranges.{AreUnits, IsToken}
use Rattle.tds_tokens.specs.Reading.{tag_byte, ◌>>=◌, byte_at, tags, look_up, tag_at, tagged_at, token_at}
use Rattle.tds_tokens.proofs.Readers.{IsBytes, IsBytes-rest, bind_some, made_takes, made_again}
use Rattle.tds_tokens.proofs.Numbers.{Reads-byte, Reads-signed32}
use Rattle.tds_tokens.proofs.ColumnLaws.{IsColumn, Reads-columns}
use Rattle.tds_tokens.proofs.ValueLaws.{Reads-row}
use Rattle.tds_tokens.proofs.Bodies.{IsTokenOf, login_ack_tagged, login_ack_framed, Reads-notice, env_tagged, env_text_framed, env_bytes_framed, return_value_tagged, return_value_again, finished_tagged, finished_again}

-- ---- tags

-- the tag that was found, or one behind it
look_up_step : (byte : ℕ) (first : Tag) (later : Option Tag) (tag : Tag) (same : Bool) → eqb byte (tag_byte first) ≡ same → (later ≡ Some tag → byte ≡ tag_byte tag) → cond same (Some first) later ≡ Some tag
    → byte ≡ tag_byte tag
look_up_step byte first later tag true is others e = eqb-true byte (tag_byte first) is ∙ ap tag_byte (same_Some first tag e)
look_up_step byte first later tag false is others e = others e

look_up_is : (byte : ℕ) (among : List Tag) (tag : Tag) → look_up byte among ≡ Some tag → byte ≡ tag_byte tag
look_up_is byte [] tag e = absurd cc
look_up_is byte (first ∷ among) tag e =
    look_up_step byte first (look_up byte among) tag (eqb byte (tag_byte first)) refl (look_up_is byte among tag) e

tag_takes : (bytes : List ℕ) (x : Tag × List ℕ) → IsBytes bytes → tag_at bytes ≡ Some x → bytes ≡ tag_byte x.0 ∷ x.1
unfolding tag_at
tag_takes bytes x fits e =
    let a = bind_some (byte_at bytes) (λ first. look_up first.0 tags >>= λ tag. Some (tag, first.1)) x e in
    let b = bind_some (look_up a.0.0 tags) (λ tag. Some (tag, a.0.1)) x a.2 in
    let t = Reads-byte.takes bytes a.0 fits a.1 in
    let first = look_up_is a.0.0 tags b.0 b.1 in
    let whole : Tag × List ℕ = (b.0, a.0.1) in
    subst (λ (y : Tag × List ℕ). bytes ≡ tag_byte y.0 ∷ y.1) (same_Some whole x b.2) (t.0 ∙ ap (λ byte. byte ∷ a.0.1) first)

tag_again : (tag : Tag) (rest : List ℕ) → tag_at (tag_byte tag ∷ rest) ≡ Some (tag, rest)
unfolding tag_at byte_at
tag_again kinds.LoginAck rest = refl
tag_again kinds.Error rest = refl
tag_again kinds.Info rest = refl
tag_again kinds.Env rest = refl
tag_again kinds.Columns rest = refl
tag_again kinds.Row rest = refl
tag_again kinds.ReturnStatus rest = refl
tag_again kinds.ReturnValue rest = refl
tag_again (kinds.Finished Done) rest = refl
tag_again (kinds.Finished Proc) rest = refl
tag_again (kinds.Finished InProc) rest = refl

-- ---- tokens

columns_from : (columns : List ColumnInfo) → All IsColumn columns → All (λ column. FitsKind column.kind × (length column.name < 2 ^ 8)) columns × All (λ column. AreUnits column.name) columns
columns_from columns all =
    (All-weaker IsColumn (λ column. FitsKind column.kind × (length column.name < 2 ^ 8)) (λ column is. (is.0, is.1.0)) columns all, All-weaker IsColumn (λ column. AreUnits column.name) (λ column is. is.1.1) columns all)

columns_to : (columns : List ColumnInfo) → All (λ column. FitsKind column.kind × (length column.name < 2 ^ 8)) columns × All (λ column. AreUnits column.name) columns → All IsColumn columns
columns_to columns both = λ k d lt. let fit = both.0 k d lt in (fit.0, (fit.1, both.1 k d lt))

tagged_takes : (columns : List ColumnInfo) (tag : Tag) (bytes : List ℕ) (x : Token × List ℕ) → IsBytes bytes → tagged_at columns tag bytes ≡ Some x → IsTokenOf columns (tag_byte tag) bytes x
unfolding tagged_at
tagged_takes columns kinds.LoginAck bytes x fits e = login_ack_tagged columns bytes x fits e
tagged_takes columns kinds.Error bytes x fits e =
    let t = made_takes Error Reads-notice bytes x fits e in
    subst (λ (token : Token). IsTokenOf columns 0xAA bytes (token, x.1)) t.1 (ap (λ l. 0xAA ∷ l) t.2, t.3)
tagged_takes columns kinds.Info bytes x fits e =
    let t = made_takes Info Reads-notice bytes x fits e in
    subst (λ (token : Token). IsTokenOf columns 0xAB bytes (token, x.1)) t.1 (ap (λ l. 0xAB ∷ l) t.2, t.3)
tagged_takes columns kinds.Env bytes x fits e = env_tagged columns bytes x fits e
tagged_takes columns kinds.Columns bytes x fits e =
    let t = made_takes Columns Reads-columns bytes x fits e in
    let parts = columns_from t.0 t.3.1 in
    subst (λ (token : Token). IsTokenOf columns 0x81 bytes (token, x.1)) t.1 (ap (λ l. 0x81 ∷ l) t.2, ((t.3.0, parts.0), parts.1))
tagged_takes columns kinds.Row bytes x fits e =
    let t = made_takes Row (Reads-row columns) bytes x fits e in
    subst (λ (token : Token). IsTokenOf columns 0xD1 bytes (token, x.1)) t.1 (ap (λ l. 0xD1 ∷ l) t.2, t.3)
tagged_takes columns kinds.ReturnStatus bytes x fits e =
    let t = made_takes ReturnStatus Reads-signed32 bytes x fits e in
    subst (λ (token : Token). IsTokenOf columns 0x79 bytes (token, x.1)) t.1 (ap (λ l. 0x79 ∷ l) t.2, (tt, t.3))
tagged_takes columns kinds.ReturnValue bytes x fits e = return_value_tagged columns bytes x fits e
tagged_takes columns (kinds.Finished kind) bytes x fits e = finished_tagged columns kind bytes x fits e

pub token_takes : (columns : List ColumnInfo) (bytes : List ℕ) (x : Token × List ℕ) → IsBytes bytes → token_at columns bytes ≡ Some x → (bytes ≡ token_bytes columns x.0 ++ x.1) × IsToken columns x.0
unfolding token_at
token_takes columns bytes x fits e =
    let a = bind_some (tag_at bytes) (λ tag. tagged_at columns tag.0 tag.1) x e in
    let first = tag_takes bytes a.0 fits a.1 in
    let t = tagged_takes columns a.0.0 a.0.1 x (IsBytes-rest (tag_byte a.0.0 ∷ []) a.0.1 (subst IsBytes first fits)) a.2 in
    (first ∙ t.0, t.1)

-- what stands behind the tag tells the token
token_step : (columns : List ColumnInfo) (tag : Tag) (bytes : List ℕ) → token_at columns (tag_byte tag ∷ bytes) ≡ tagged_at columns tag bytes
unfolding token_at
token_step columns tag bytes = rw (tag_again tag bytes) refl

pub token_again : (columns : List ColumnInfo) (token : Token) (rest : List ℕ) → IsToken columns token → token_at columns (token_bytes columns token ++ rest) ≡ Some (token, rest)
unfolding tagged_at
token_again columns (LoginAck version program release) rest is = token_step columns kinds.LoginAck _ ∙ login_ack_framed columns version program release rest is
token_again columns (Error notice) rest is = token_step columns kinds.Error _ ∙ made_again Error Reads-notice notice rest is
token_again columns (Info notice) rest is = token_step columns kinds.Info _ ∙ made_again Info Reads-notice notice rest is
token_again columns (EnvText kind fresh former) rest is = token_step columns kinds.Env _ ∙ env_text_framed columns kind fresh former rest is
token_again columns (EnvBytes kind fresh former) rest is = token_step columns kinds.Env _ ∙ env_bytes_framed columns kind fresh former rest is
token_again columns (Columns described) rest is =
    token_step columns kinds.Columns _ ∙ made_again Columns Reads-columns described rest (is.0.0, columns_to described (is.0.1, is.1))
token_again columns (Row values) rest is = token_step columns kinds.Row _ ∙ made_again Row (Reads-row columns) values rest is
token_again columns (ReturnStatus status) rest is = token_step columns kinds.ReturnStatus _ ∙ made_again ReturnStatus Reads-signed32 status rest is.1
token_again columns (ReturnValue ordinal name kind value) rest is =
    token_step columns kinds.ReturnValue _ ∙ return_value_again columns ordinal name kind value rest is
token_again columns (Finished kind status command rows) rest is = token_step columns (kinds.Finished kind) _ ∙ finished_again kind status command rows rest is.1

-- no token's bytes begin another's
pub token_alone : (columns : List ColumnInfo) (a b : Token) (x y : List ℕ) → IsToken columns a → IsToken columns b → token_bytes columns a ++ x ≡ token_bytes columns b ++ y → (a ≡ b) × (x ≡ y)
token_alone columns a b x y is_a is_b same =
    some_pair_parts a b x y (sym (token_again columns a x is_a) ∙ ap (token_at columns) same ∙ token_again columns b y is_b)
