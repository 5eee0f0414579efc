use Rattle.std.proofs.Common.{◌≡◌, ◌||◌, ◌&&◌, ℕ, List, length}
use Rattle.std.specs.List.{list_any}
use Rattle.std.specs.Prelude.{All, is_some}
use Rattle.cf_volume_image.specs.Contents.{record_at}
use Rattle.cf_volume_image.specs.RecordLists.{IsShort}
use Rattle.cf_model.specs.Words.{same}
use Rattle.cf_volume_commit.proofs.differences.put_keys.Given as goal

abbrev pub invariant-loop-aux : goal.invariant-loop-aux
invariant-loop-aux l = record {
  puts : (k : List ℕ) → (is_some (record_at l.keys k) || (is_some (record_at l.now k) && list_any (λ r. same r.key k) l.items))
      ≡ (is_some (record_at l.fn.keys k) || (is_some (record_at l.now k) && list_any (λ r. same r.key k) l.noted));
  short : All IsShort l.items;
}

abbrev pub decreases-loop-aux : goal.decreases-loop-aux
decreases-loop-aux l = length l.items
