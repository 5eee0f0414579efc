use Rattle.std.proofs.Common.{inl, inr}
use Rattle.cf_table.proofs.NoRow.{at_end}
use Rattle.cf_table.proofs.ReadExit.{exits}
use Rattle.cf_volume_image.specs.Contents.{read_header_of}
use Rattle.cf_volume_image.proofs.WholeTexts.{payload_taken}
use Rattle.cf_volume_image.proofs.payload_reads.changes_in.Goals as goal

pub returns-in_err-removed-clause-fault : goal.returns-in_err-removed-clause-fault
returns-in_err-removed-clause-fault c =
    exits _ _ _ c.from_residual-in_err-removed.ensures.1
    (inr (record {
      part = read_header_of c.in_ok-header.header;
      is_part = c.in_ok-header.ensures.fits;
      mid = _;
      takes = c.in_ok-header.ensures.took;
      fault =
          inl c.in_err-removed.ensures.fault;
    }))

pub returns-in_err-rows-clause-fault : goal.returns-in_err-rows-clause-fault
returns-in_err-rows-clause-fault c =
    exits _ _ _ c.from_residual-in_err-rows.ensures.1
    (inr (record {
      part = read_header_of c.in_ok-header.header;
      is_part = c.in_ok-header.ensures.fits;
      mid = _;
      takes = c.in_ok-header.ensures.took;
      fault =
          inr (record {
            part = _;
            is_part = c.in_ok-removed.ensures.fits;
            mid = _;
            takes = c.in_ok-removed.ensures.took;
            fault =
                inl c.in_err-rows.ensures.fault;
          });
    }))

pub returns-in_err-removed_keys-clause-fault : goal.returns-in_err-removed_keys-clause-fault
returns-in_err-removed_keys-clause-fault c =
    exits _ _ _ c.from_residual-in_err-removed_keys.ensures.1
    (inr (record {
      part = read_header_of c.in_ok-header.header;
      is_part = c.in_ok-header.ensures.fits;
      mid = _;
      takes = c.in_ok-header.ensures.took;
      fault =
          inr (record {
            part = _;
            is_part = c.in_ok-removed.ensures.fits;
            mid = _;
            takes = c.in_ok-removed.ensures.took;
            fault =
                inr (record {
                  part = _;
                  is_part = c.in_ok-rows.ensures.fits;
                  mid = _;
                  takes = c.in_ok-rows.ensures.took;
                  fault =
                      inl c.in_err-removed_keys.ensures.fault;
                });
          });
    }))

pub returns-in_err-records-clause-fault : goal.returns-in_err-records-clause-fault
returns-in_err-records-clause-fault c =
    exits _ _ _ c.from_residual-in_err-records.ensures.1
    (inr (record {
      part = read_header_of c.in_ok-header.header;
      is_part = c.in_ok-header.ensures.fits;
      mid = _;
      takes = c.in_ok-header.ensures.took;
      fault =
          inr (record {
            part = _;
            is_part = c.in_ok-removed.ensures.fits;
            mid = _;
            takes = c.in_ok-removed.ensures.took;
            fault =
                inr (record {
                  part = _;
                  is_part = c.in_ok-rows.ensures.fits;
                  mid = _;
                  takes = c.in_ok-rows.ensures.took;
                  fault =
                      inr (record {
                        part = _;
                        is_part = c.in_ok-removed_keys.ensures.fits;
                        mid = _;
                        takes = c.in_ok-removed_keys.ensures.took;
                        fault =
                            inl c.in_err-records.ensures.fault;
                      });
                });
          });
    }))

pub returns-in_err-end-clause-fault : goal.returns-in_err-end-clause-fault
returns-in_err-end-clause-fault c =
    exits _ _ _ c.from_residual-in_err-end.ensures.1
    (inr (record {
      part = read_header_of c.in_ok-header.header;
      is_part = c.in_ok-header.ensures.fits;
      mid = _;
      takes = c.in_ok-header.ensures.took;
      fault =
          inr (record {
            part = _;
            is_part = c.in_ok-removed.ensures.fits;
            mid = _;
            takes = c.in_ok-removed.ensures.took;
            fault =
                inr (record {
                  part = _;
                  is_part = c.in_ok-rows.ensures.fits;
                  mid = _;
                  takes = c.in_ok-rows.ensures.took;
                  fault =
                      inr (record {
                        part = _;
                        is_part = c.in_ok-removed_keys.ensures.fits;
                        mid = _;
                        takes = c.in_ok-removed_keys.ensures.took;
                        fault =
                            inr (record {
                              part = _;
                              is_part = c.in_ok-records.ensures.fits;
                              mid = _;
                              takes = c.in_ok-records.ensures.took;
                              fault =
                                  at_end _ _ c.in_err-end.ensures;
                            });
                      });
                });
          });
    }))

pub returns-clause-took : goal.returns-clause-took
returns-clause-took c =
    payload_taken c.args.format _ _ _ _ _ _ _ c.in_ok-header.ensures.took c.in_ok-removed.ensures.took c.in_ok-rows.ensures.took c.in_ok-removed_keys.ensures.took c.in_ok-records.ensures.took c.in_ok-end.ensures
