use Rattle.std.proofs.Common.{inl, inr, refl, subst, sym}
use Rattle.cf_table.specs.Faults.{AtEnd}
use Rattle.cf_table.specs.declared.failures.RowError.{RowError}
use Rattle.cf_table.proofs.NoRow.{at_end}
use Rattle.cf_table.proofs.ReadExit.{exits}
use Rattle.cf_volume_image.specs.Contents.{read_header_of}
use Rattle.cf_volume_image.specs.Spelled.{format_byte}
use Rattle.cf_volume_image.proofs.WholeTexts.{image_taken}
use Rattle.cf_volume_image.proofs.images.image_in.Goals as goal

pub returns-in_err-header-clause-fault : goal.returns-in_err-header-clause-fault
returns-in_err-header-clause-fault c =
    exits _ _ _ c.from_residual-in_err-header.ensures.1
    (inr (record {
      part = format_byte c.args.format;
      is_part = refl;
      mid = _;
      takes = c.in_ok-read_format.ensures.took;
      fault =
          inl c.in_err-header.ensures.fault;
    }))

pub returns-in_err-rows-clause-fault : goal.returns-in_err-rows-clause-fault
returns-in_err-rows-clause-fault c =
    exits _ _ _ c.from_residual-in_err-rows.ensures.1
    (inr (record {
      part = format_byte c.args.format;
      is_part = refl;
      mid = _;
      takes = c.in_ok-read_format.ensures.took;
      fault =
          inr (record {
            part = read_header_of c.in_ok-header.header;
            is_part = c.in_ok-header.ensures.fits;
            mid = _;
            takes = c.in_ok-header.ensures.took;
            fault =
                inl c.in_err-rows.ensures.fault;
          });
    }))

pub returns-in-Err-clause-fault : goal.returns-in-Err-clause-fault
returns-in-Err-clause-fault c =
    inr (record {
      part = format_byte c.args.format;
      is_part = refl;
      mid = _;
      takes = c.in_ok-read_format.ensures.took;
      fault =
          inr (record {
            part = read_header_of c.in_ok-header.header;
            is_part = c.in_ok-header.ensures.fits;
            mid = _;
            takes = c.in_ok-header.ensures.took;
            fault =
                inr (record {
                  part = _;
                  is_part = c.in_ok-rows.ensures.fits;
                  mid = _;
                  takes = c.in_ok-rows.ensures.took;
                  fault =
                      inl c.in-Err.ensures.fault;
                });
          });
    })

pub returns-in-Err-end-clause-fault : goal.returns-in-Err-end-clause-fault
returns-in-Err-end-clause-fault c =
    inr (record {
      part = format_byte c.args.format;
      is_part = refl;
      mid = _;
      takes = c.in_ok-read_format.ensures.took;
      fault =
          inr (record {
            part = read_header_of c.in_ok-header.header;
            is_part = c.in_ok-header.ensures.fits;
            mid = _;
            takes = c.in_ok-header.ensures.took;
            fault =
                inr (record {
                  part = _;
                  is_part = c.in_ok-rows.ensures.fits;
                  mid = _;
                  takes = c.in_ok-rows.ensures.took;
                  fault =
                      inr (record {
                        part = _;
                        is_part = c.in-Ok.ensures.fits;
                        mid = _;
                        takes = c.in-Ok.ensures.took;
                        fault =
                            subst (λ (e : RowError). AtEnd c.read_records.new.r e) (sym c.from.ensures) (at_end _ _ c.in-Err-end.ensures);
                      });
                });
          });
    })

pub returns-in-Ok-end-clause-room : goal.returns-in-Ok-end-clause-room
returns-in-Ok-end-clause-room c = c.in_ok-rows.ensures.room

pub returns-in-Ok-end-clause-took : goal.returns-in-Ok-end-clause-took
returns-in-Ok-end-clause-took c =
    image_taken c.args.format _ (read_header_of c.in_ok-header.header) _ _ _ _ _ refl
    c.in_ok-read_format.ensures.took c.in_ok-header.ensures.took c.in_ok-rows.ensures.took c.in-Ok.ensures.took c.in-Ok-end.ensures
