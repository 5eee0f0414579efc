use Rattle.std.proofs.Common.{inr}
use Rattle.cf_table.proofs.ReadExit.{exits}
use Rattle.cf_volume_image.proofs.part_reads.read_header.Goals as goal

pub returns-in_err-clock-clause-fault : goal.returns-in_err-clock-clause-fault
returns-in_err-clock-clause-fault c =
    exits _ _ _ c.from_residual-in_err-clock.ensures.1
    (inr (record {
      part = c.in_ok-last.last;
      is_part = c.in_ok-last.ensures.fits;
      mid = _;
      takes = c.in_ok-last.ensures.took;
      fault =
          inr (record {
            part = c.in_ok-count.count;
            is_part = (c.in_ok-count.ensures.fits, tt);
            mid = _;
            takes = c.in_ok-count.ensures.took;
            fault =
                inr (record {
                  part = c.in_ok-next.next;
                  is_part = (c.in_ok-next.ensures.fits, tt);
                  mid = _;
                  takes = c.in_ok-next.ensures.took;
                  fault =
                      c.in_err-clock.ensures.fault;
                });
          });
    }))
