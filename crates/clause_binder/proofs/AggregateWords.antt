-- The units of the words of aggregates are their codes.
use Rattle.std.proofs.Common.{◌≡◌, codes, refl}
use Rattle.std.specs.Str.{chars}
use Rattle.value_types.specs.Units.{utf16_of}

pub count_units : utf16_of (codes "COUNT") ≡ codes "COUNT"
unfolding chars
count_units = refl

pub sum_units : utf16_of (codes "SUM") ≡ codes "SUM"
unfolding chars
sum_units = refl

pub avg_units : utf16_of (codes "AVG") ≡ codes "AVG"
unfolding chars
avg_units = refl

pub min_units : utf16_of (codes "MIN") ≡ codes "MIN"
unfolding chars
min_units = refl

pub max_units : utf16_of (codes "MAX") ≡ codes "MAX"
unfolding chars
max_units = refl
