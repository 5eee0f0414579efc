use Rattle.std.proofs.Common.{length, ap, arith}
use Rattle.std.proofs.lemmas.Bool.{le-leb, leb-true}
use Rattle.cf_volume.proofs.written_rows.can_be_written.Goals as goal

pub returns : goal.returns
returns c =
    let rows = c.as_slice-rows.ensures.value in (
      λ yes. record {
        room = c.requires;
        few = let long = ap length rows in omega (arith, long, c.if-rows-gt-MOST_ROWS.false);
        short = let h = leb-true _ _ yes in omega (arith, c.image_len-2.ensures, h);
      },
      λ can. le-leb _ _ (omega (arith, c.image_len-2.ensures, can.short)),
    )
