-- A batch's tokens with one DONE at their end: what holds of each still does, and they are whole as before.
use Rattle.std.proofs.Common.{◌≡◌, ℕ, ◌-◌, ◌%◌, ◌&&◌, Bool, true, false, if◌then◌else◌, List, [], ◌∷◌, ◌++◌, refl, sym, ap, ◌∙◌, subst, arith, eqb-true}
use Rattle.std.proofs.lemmas.Bool.{and_parts}
use Rattle.std.proofs.lemmas.Grind.{and_numeral}
use Rattle.std.specs.Prelude.{bit_and}
use Rattle.std.specs.List.{AllByRecursion}
use Rattle.tds_tokens.specs.Numbers.{done_more}
use Rattle.tds_tokens.specs.declared.token.DoneKind.TheVariants.{Done, InProc, Proc}
use Rattle.tds_tokens.specs.declared.token.Token.{Token}
use Rattle.tds_tokens.specs.declared.notice.Notice.{Notice}
use Rattle.tds_tokens.specs.declared.token.Token.TheVariants.{Error, Finished}
use Rattle.ample_laws.specs.Telling.{MoreFollows, SaysMore}
use Rattle.session_server.specs.Response.{ended_once, is_final, is_followed, unfollowed}
use Rattle.connection_laws.specs.Ample.{AreWhole, IsEnd}

-- ---- each token

module _ (Such : Token → Type 0) (unfollowed_such : (token : Token) → Such token → Such (unfollowed token)) where
  merged_such : (test : Bool) (first last : Token) → Such first → Such last → AllByRecursion Such (if test then unfollowed first ∷ [] else first ∷ last ∷ [])
  merged_such true first last one two = (unfollowed_such first one, tt)
  merged_such false first last one two = (one, (two, tt))

  once_such : (tokens : List Token) → AllByRecursion Such tokens → AllByRecursion Such (ended_once tokens)
  unfolding ended_once
  once_such [] all = tt
  once_such (token ∷ []) all = all
  once_such (first ∷ last ∷ []) all = merged_such (is_followed first && is_final last) first last all.0 all.1.0
  once_such (first ∷ second ∷ third ∷ rest) all = (all.0, once_such (second ∷ third ∷ rest) all.1)

  -- where drivers are served, and where they aren't
  pub once_if : (test : Bool) (tokens : List Token) → AllByRecursion Such tokens → AllByRecursion Such (if test then ended_once tokens else tokens)
  once_if true tokens all = once_such tokens all
  once_if false tokens all = all

-- ---- where an ERROR stands

module _ (told : Notice) where
  -- behind as many as it does in all of them
  abbrev Place : List Token → List Token → Type 0
  Place tokens front = (behind : List Token) × (tokens ≡ front ++ Error told ∷ behind)

  merged_place : (first last : Token) (front behind : List Token) (test : Bool) → (is_followed first && is_final last) ≡ test → (if test then unfollowed first ∷ [] else first ∷ last ∷ []) ≡ front ++ Error told ∷ behind → Place (first ∷ last ∷ []) front
  merged_place first last front behind false same is = (behind, is)
  merged_place first last [] behind true same is = absurd (not_error first (and_parts (is_followed first) (is_final last) same).0 (let so : unfollowed first ≡ Error told = cc in so))
    where
      not_error : (token : Token) → is_followed token ≡ true → unfollowed token ≡ Error told → ⊥
      not_error (Finished kind status command rows) followed so = let differ : Finished kind (status - done_more) command rows ≡ Error told = so in absurd (cc)
      not_error token followed so = absurd (let differ : false ≡ true = followed in cc)
  merged_place first last (token ∷ front) behind true same is = absurd (not_nil front (let so : [] ≡ front ++ Error told ∷ behind = cc in so))
    where
      not_nil : (front : List Token) → [] ≡ front ++ Error told ∷ behind → ⊥
      not_nil [] so = absurd (cc)
      not_nil (one ∷ front) so = absurd (cc)

  ended_place : (tokens front behind : List Token) → ended_once tokens ≡ front ++ Error told ∷ behind → Place tokens front
  unfolding ended_once
  ended_place [] front behind is = (behind, is)
  ended_place (token ∷ []) front behind is = (behind, is)
  ended_place (first ∷ last ∷ []) front behind is = merged_place first last front behind (is_followed first && is_final last) refl is
  ended_place (first ∷ second ∷ third ∷ rest) [] behind is = (second ∷ third ∷ rest, ap (λ (t : Token). t ∷ second ∷ third ∷ rest) (let so : first ≡ Error told = cc in so))
  ended_place (first ∷ second ∷ third ∷ rest) (token ∷ front) behind is =
      let same : first ≡ token = cc in
      let on = ended_place (second ∷ third ∷ rest) front behind (let so : ended_once (second ∷ third ∷ rest) ≡ front ++ Error told ∷ behind = cc in so) in
      (on.0, ap (λ (t : Token). t ∷ second ∷ third ∷ rest) same ∙ ap (λ (l : List Token). token ∷ l) on.1)

pub once_place : (test : Bool) (tokens front behind : List Token) (told : Notice) → (if test then ended_once tokens else tokens) ≡ front ++ Error told ∷ behind → (more : List Token) × (tokens ≡ front ++ Error told ∷ more)
once_place true tokens front behind told is = ended_place told tokens front behind is
once_place false tokens front behind told is = (behind, is)

-- ---- whole tokens

-- a status that said that more follows says so no more
odd_less : (status : ℕ) → status % 2 ≡ 1 → SaysMore (status - done_more) → ⊥
odd_less status odd more =
    let says : bit_and (status - 1) 1 ≡ 1 = more in
    let low : bit_and (status - 1) 1 ≡ (status - 1) % 2 = and_numeral (status - 1) 0 refl in
    omega (arith, odd, says, low)

-- what stands in the place of a DONE behind which more follows is the end
unfollowed_ends : (first : Token) → is_followed first ≡ true → IsEnd (unfollowed first)
unfollowed_ends (Finished Done status command rows) is = odd_less status (eqb-true (status % 2) 1 is)
unfollowed_ends (Finished InProc status command rows) is = absurd (let no : false ≡ true = is in cc)
unfollowed_ends (Finished Proc status command rows) is = absurd (let no : false ≡ true = is in cc)
unfollowed_ends token is = absurd (let no : false ≡ true = is in cc)

-- the last alone
pub whole_last : (last : Token) → IsEnd last → AreWhole (last ∷ [])
whole_last last end = record { front = []; last = last; whole = refl; more = tt; end = end }

-- one token more in front
pub whole_behind : (first : Token) (tokens : List Token) → MoreFollows first → AreWhole tokens → AreWhole (first ∷ tokens)
whole_behind first tokens more are = record { front = first ∷ are.front; last = are.last; whole = ap (λ (l : List Token). first ∷ l) are.whole; more = (more, are.more); end = are.end }

merged_whole : (first last : Token) → MoreFollows first → IsEnd last → (test : Bool) → (is_followed first && is_final last) ≡ test → AreWhole (if test then unfollowed first ∷ [] else first ∷ last ∷ [])
merged_whole first last more end true is = whole_last (unfollowed first) (unfollowed_ends first (and_parts (is_followed first) (is_final last) is).0)
merged_whole first last more end false is = whole_behind first (last ∷ []) more (whole_last last end)

ended_whole : (front : List Token) (last : Token) → AllByRecursion MoreFollows front → IsEnd last → AreWhole (ended_once (front ++ last ∷ []))
unfolding ended_once
ended_whole [] last more end = whole_last last end
ended_whole (first ∷ []) last more end = merged_whole first last more.0 end (is_followed first && is_final last) refl
ended_whole (first ∷ second ∷ []) last more end = whole_behind first _ more.0 (ended_whole (second ∷ []) last more.1 end)
ended_whole (first ∷ second ∷ third ∷ front) last more end = whole_behind first _ more.0 (ended_whole (second ∷ third ∷ front) last more.1 end)

pub once_whole : (test : Bool) (tokens : List Token) → AreWhole tokens → AreWhole (if test then ended_once tokens else tokens)
once_whole true tokens are = subst (λ (l : List Token). AreWhole (ended_once l)) (sym are.whole) (ended_whole are.front are.last are.more are.end)
once_whole false tokens are = are
