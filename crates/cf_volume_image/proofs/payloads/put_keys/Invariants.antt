use Rattle.std.proofs.Common.{◌≡◌, ◌++◌, drop}
use Rattle.std.specs.List.{flat_map}
use Rattle.cf_model.specs.Formats.{spell_key}
use Rattle.cf_volume_image.proofs.payloads.put_keys.Given as goal

abbrev pub invariant-loop-key : goal.invariant-loop-key
invariant-loop-key l = l.out ++ flat_map spell_key (drop l.key-index l.keys) ≡ l.fn.out ++ flat_map spell_key l.keys
