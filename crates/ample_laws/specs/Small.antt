-- Own: `Small`: what a session does where no result is more than its limit. `Held` of batch_meaning takes what is left of a batch's bytes as it is; here each
-- part would have gone the same way with whatever more bytes left, so that nowhere tokens were kept back; and each SELECT was answered with no more rows than
-- a result may have.
use Rattle.std.specs.Prelude.{◌≡◌, ◌≤◌, ℕ, Bool, List, [], ◌∷◌, ◌++◌, length, Option, Result, Ok}
use Rattle.tsql_tree.specs.declared.definition.Definition.{Definition}
use Rattle.tsql_tree.specs.declared.definition.TableTree.{TableTree}
use Rattle.bound_tree.specs.declared.query.BoundQuery.{BoundQuery}
use Rattle.table_rows.specs.Definitions.{IsDefinitionIn}
use Rattle.step_model.specs.Exchange.{Exchange, CanReply}
use Rattle.step_model.specs.Ranges.{Rows}
use Rattle.batch_meaning.specs.declared.failure.Failure.{Failure}
use Rattle.batch_meaning.specs.Doing.{Doing, Held, over, reads, makes, defines, asks, room, never, ◌then◌}
use Rattle.batch_meaning.specs.Progress.{SessionProgress, made, asked}
use Rattle.batch_meaning.specs.Raised.{Around}
use Rattle.batch_meaning.specs.Selecting.{Effect}
use Rattle.batch_meaning.specs.Working.{answers, selects}

-- ---- the limit

-- how many bytes a batch may send, of which its end has so many, and how many rows a result may have; they are not taken from what the laws judge
abbrev pub most_bytes : ℕ
most_bytes = 134217728

abbrev pub end_bytes : ℕ
end_bytes = 13

abbrev pub most_rows : ℕ
most_rows = 1000000

-- ---- what was done

-- A SELECT that begins here has no more rows than a result may have, if it is answered by the first of these exchanges.
abbrev pub IsFew : {A : Type 0} → Doing A → SessionProgress → List Exchange → Type 0
IsFew {A} tree p exchanges = (around : Around) (shapes : List TableTree) (query : BoundQuery) (go : Result Effect Failure → Doing A)
    → tree ≡ (selects around shapes query then go) → (front back : List Exchange) (rows : Rows) (mid : SessionProgress) → exchanges ≡ front ++ back
    → Held (answers around shapes query) p front (Ok rows) mid → length rows ≤ most_rows

-- these exchanges are all of it: from this progress it came to this result, with this progress, and nothing was more than the limit
unfoldable pub Small : {A : Type 0} → Doing A → SessionProgress → List Exchange → A → SessionProgress → Type 0
Small (over a) p exchanges result new = (exchanges ≡ []) × (result ≡ a) × (new ≡ p)
Small (reads look) p exchanges result new = IsFew (reads look) p exchanges
    × ((bytes : ℕ) → p.bytes_left ≤ bytes → Small (look (record p { bytes_left = bytes })) p exchanges result new)
Small (makes step next) p exchanges result new = Small next (made step p) exchanges result new
Small (defines entry go) p exchanges result new = (found : Option Definition) × IsDefinitionIn entry found × Small (go found) p exchanges result new
Small (asks op go) p [] result new = ⊥
Small (asks op go) p (x ∷ later) result new = (x.op ≡ op) × (x.manner ≡ p.settings.manner) × CanReply op x.reply
    × Small (go x.reply) (asked op x.reply p) later result new
Small (room go) p exchanges result new = (enough : Bool) × Small (go enough) p exchanges result new
Small never p exchanges result new = ⊥
