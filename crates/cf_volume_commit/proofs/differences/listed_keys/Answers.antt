use Rattle.std.proofs.Common.{◌∙◌, refl}
use Rattle.cf_table.proofs.TableMeans.{if_ok_map}
use Rattle.cf_volume_commit.proofs.MergedKeys.{merged}
use Rattle.cf_volume_commit.proofs.differences.listed_keys.Goals as goal

pub returns : goal.returns
returns c = if_ok_map c.keys_of.result _ _ (λ v are.
    are
    ∙ merged c.args.then.now c.args.now.now c.args.keys.now c.put_keys-2.new.keys c.args.then.now.made c.args.then.now.records c.image_len.ensures.rise c.image_len-2.ensures.rise c.requires refl refl c.put_keys.new.keys c.in_ok-put_keys.ensures c.in_ok-put_keys-2.ensures) c.keys_of.ensures
