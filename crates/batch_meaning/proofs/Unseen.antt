-- Where a transaction is begun unseen none is open.
use Rattle.std.proofs.Common.{◌≡◌, ◌&&◌, not, Bool, true, false, refl}
use Rattle.binder.specs.Names.{Layer}
use Rattle.batch_meaning.specs.Progress.{SessionProgress}
use Rattle.batch_meaning.specs.Unseen.{begins_unseen, is_unseen, wants_begin}

pub wanted_shut : (p : SessionProgress) → wants_begin p ≡ true → p.is_open ≡ false
wanted_shut p is = by_tests p.settings.implicit p.is_open is
  where
    by_tests : (implicit is_open : Bool) → (implicit && not is_open) ≡ true → is_open ≡ false
    by_tests implicit false is = refl
    by_tests true true is = absurd (let no : false ≡ true = is in cc)
    by_tests false true is = absurd (let no : false ≡ true = is in cc)

pub unseen_wanted : (p : SessionProgress) (form : Layer) → is_unseen p form ≡ true → wants_begin p ≡ true
unseen_wanted p form is = by_test (wants_begin p) is
  where
    by_test : (wants : Bool) → (wants && begins_unseen form) ≡ true → wants ≡ true
    by_test true is = refl
    by_test false is = is

pub unseen_shut : (p : SessionProgress) (form : Layer) → is_unseen p form ≡ true → p.is_open ≡ false
unseen_shut p form is = wanted_shut p (unseen_wanted p form is)
