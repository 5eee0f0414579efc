use Rattle.std.proofs.Common.{inl, inr}
use Rattle.cf_table.proofs.ReadExit.{exits}
use Rattle.cf_table.proofs.Taken.{takes_both}
use Rattle.cf_table.proofs.set_reads.read_sets.Goals as goal

pub returns-in_err-modified-clause-fault : goal.returns-in_err-modified-clause-fault
returns-in_err-modified-clause-fault c =
    exits _ _ _ c.from_residual-in_err-modified.ensures.1
    (inr (record {
      part = c.in_ok-here.here;
      is_part = c.in_ok-here.ensures.fits;
      mid = _;
      takes = c.in_ok-here.ensures.took;
      fault =
          inr (record {
            part = c.in_ok-valid.valid;
            is_part = c.in_ok-valid.ensures.fits;
            mid = _;
            takes = c.in_ok-valid.ensures.took;
            fault =
                inl c.in_err-modified.ensures.fault;
          });
    }))

pub returns-in_err-modified_since-clause-fault : goal.returns-in_err-modified_since-clause-fault
returns-in_err-modified_since-clause-fault c =
    exits _ _ _ c.from_residual-in_err-modified_since.ensures.1
    (inr (record {
      part = c.in_ok-here.here;
      is_part = c.in_ok-here.ensures.fits;
      mid = _;
      takes = c.in_ok-here.ensures.took;
      fault =
          inr (record {
            part = c.in_ok-valid.valid;
            is_part = c.in_ok-valid.ensures.fits;
            mid = _;
            takes = c.in_ok-valid.ensures.took;
            fault =
                inr (record {
                  part = c.in_ok-modified.modified;
                  is_part = c.in_ok-modified.ensures.fits;
                  mid = _;
                  takes = c.in_ok-modified.ensures.took;
                  fault =
                      inl c.in_err-modified_since.ensures.fault;
                });
          });
    }))

pub returns-in_err-extents-clause-fault : goal.returns-in_err-extents-clause-fault
returns-in_err-extents-clause-fault c =
    exits _ _ _ c.from_residual-in_err-extents.ensures.1
    (inr (record {
      part = c.in_ok-here.here;
      is_part = c.in_ok-here.ensures.fits;
      mid = _;
      takes = c.in_ok-here.ensures.took;
      fault =
          inr (record {
            part = c.in_ok-valid.valid;
            is_part = c.in_ok-valid.ensures.fits;
            mid = _;
            takes = c.in_ok-valid.ensures.took;
            fault =
                inr (record {
                  part = c.in_ok-modified.modified;
                  is_part = c.in_ok-modified.ensures.fits;
                  mid = _;
                  takes = c.in_ok-modified.ensures.took;
                  fault =
                      inr (record {
                        part = c.in_ok-modified_since.modified_since;
                        is_part = c.in_ok-modified_since.ensures.fits;
                        mid = _;
                        takes = c.in_ok-modified_since.ensures.took;
                        fault =
                            c.in_err-extents.ensures.fault;
                      });
                });
          });
    }))

pub returns-in_err-here-clause-fault : goal.returns-in_err-here-clause-fault
returns-in_err-here-clause-fault c = exits _ _ _ c.from_residual.ensures.1 (inl c.in_err-here.ensures.fault)

pub returns-in_err-valid-clause-fault : goal.returns-in_err-valid-clause-fault
returns-in_err-valid-clause-fault c =
    exits _ _ _ c.from_residual-in_err-valid.ensures.1
    (inr (record {
      part = c.in_ok-here.here;
      is_part = c.in_ok-here.ensures.fits;
      mid = _;
      takes = c.in_ok-here.ensures.took;
      fault =
          inl c.in_err-valid.ensures.fault;
    }))

pub returns-clause-took : goal.returns-clause-took
returns-clause-took c = takes_both (takes_both (takes_both (takes_both c.in_ok-here.ensures.took c.in_ok-valid.ensures.took) c.in_ok-modified.ensures.took) c.in_ok-modified_since.ensures.took) c.in_ok-extents.ensures.took
