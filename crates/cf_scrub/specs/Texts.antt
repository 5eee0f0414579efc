-- The text of a judgement.
use Rattle.std.specs.Prelude.{ℕ, List, [], ◌∷◌, ◌++◌, codes}
use Rattle.std.specs.List.{flat_map}
use Rattle.std.specs.Fmt.{decimal}
use Rattle.cf_scrub.specs.declared.damages.Damage.{Damage}
use Rattle.cf_scrub.specs.declared.damages.DamageKind.{DamageKind}
use Rattle.cf_scrub.specs.declared.damages.DamageKind.TheVariants as kind
use Rattle.cf_scrub.specs.declared.judgements.Judgement.{Judgement}
use Rattle.cf_scrub.specs.declared.judgements.Judgement.TheVariants.{Clean, Damaged}

abbrev pub kind_word : DamageKind → List ℕ
kind_word kind.Size = codes "size"
kind_word kind.NoSlot = codes "noslot"
kind_word kind.Image = codes "image"
kind_word kind.Record = codes "record"
kind_word kind.Large = codes "large"
kind_word kind.Tree = codes "tree"
kind_word kind.Row = codes "row"
kind_word kind.Runs = codes "runs"
kind_word kind.Extents = codes "extents"
kind_word kind.Cluster = codes "cluster"

abbrev pub line_of : Damage → List ℕ
line_of d = codes "damage " ++ (kind_word d.kind ++ (32 ∷ decimal d.at ++ 10 ∷ []))

abbrev pub clean_line : ℕ → ℕ → List ℕ
clean_line count epoch = codes "clean " ++ (decimal count ++ (32 ∷ decimal epoch ++ 10 ∷ []))

abbrev pub text_of : Judgement → List ℕ
text_of (Clean count epoch) = clean_line count epoch
text_of (Damaged v) = flat_map line_of v.items
