use Rattle.std.proofs.Common.{◌≡◌, ◌||◌, ℕ, List, drop}
use Rattle.std.specs.List.{list_any}
use Rattle.std.specs.Option.{is_some}
use Rattle.cf_volume_image.specs.Contents.{record_at}
use Rattle.cf_model.specs.Words.{same}
use Rattle.cf_volume_changes.specs.Keys.{seen_key}
use Rattle.cf_volume_changes.proofs.room.records.keys_taken.Given as goal

abbrev pub invariant-loop-id : goal.invariant-loop-id
invariant-loop-id l = (key : List ℕ) → list_any (λ id. same (seen_key id) key) l.gone ≡ (is_some (record_at l.keys key) || list_any (λ id. same (seen_key id) key) (drop l.id-index l.gone))
