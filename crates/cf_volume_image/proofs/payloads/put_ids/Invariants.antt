use Rattle.std.proofs.Common.{◌≡◌, ◌++◌, drop}
use Rattle.std.specs.List.{flat_map}
use Rattle.cf_model.specs.Formats.{spell_id}
use Rattle.cf_volume_image.proofs.payloads.put_ids.Given as goal

abbrev pub invariant-loop-id : goal.invariant-loop-id
invariant-loop-id l = l.out ++ flat_map spell_id (drop l.id-index l.ids) ≡ l.fn.out ++ flat_map spell_id l.ids
