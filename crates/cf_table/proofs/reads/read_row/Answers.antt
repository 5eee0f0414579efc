use Rattle.std.proofs.Common.{inl, inr}
use Rattle.cf_table.proofs.ReadExit.{exits}
use Rattle.cf_table.proofs.RowTaken.{row_taken}
use Rattle.cf_table.proofs.reads.read_row.Goals as goal

pub returns-in_err-identity-clause-fault : goal.returns-in_err-identity-clause-fault
returns-in_err-identity-clause-fault c =
    exits _ _ _ c.from_residual-in_err-identity.ensures.1
    (inr (record {
      part = c.in_ok-head.head;
      is_part = c.in_ok-head.ensures.fits;
      mid = _;
      takes = c.in_ok-head.ensures.took;
      fault =
          inr (record {
            part = c.in_ok-name.name;
            is_part = c.in_ok-name.ensures.fits;
            mid = _;
            takes = c.in_ok-name.ensures.took;
            fault =
                inl c.in_err-identity.ensures.fault;
          });
    }))

pub returns-in_err-sets-clause-fault : goal.returns-in_err-sets-clause-fault
returns-in_err-sets-clause-fault c =
    exits _ _ _ c.from_residual-in_err-sets.ensures.1
    (inr (record {
      part = c.in_ok-head.head;
      is_part = c.in_ok-head.ensures.fits;
      mid = _;
      takes = c.in_ok-head.ensures.took;
      fault =
          inr (record {
            part = c.in_ok-name.name;
            is_part = c.in_ok-name.ensures.fits;
            mid = _;
            takes = c.in_ok-name.ensures.took;
            fault =
                inr (record {
                  part = c.in_ok-identity.identity;
                  is_part = c.in_ok-identity.ensures.fits;
                  mid = _;
                  takes = c.in_ok-identity.ensures.took;
                  fault =
                      c.in_err-sets.ensures.fault;
                });
          });
    }))

pub returns-clause-took : goal.returns-clause-took
returns-clause-took c =
    row_taken c.args.format c.row_of.result c.in_ok-head.head c.in_ok-name.name c.in_ok-identity.identity c.in_ok-sets.sets _ _ _ _ _ c.row_of.ensures c.in_ok-head.ensures.fits.basics
    c.in_ok-head.ensures.took c.in_ok-name.ensures.took c.in_ok-identity.ensures.took c.in_ok-sets.ensures.took

pub returns-in_err-head-clause-fault : goal.returns-in_err-head-clause-fault
returns-in_err-head-clause-fault c = exits _ _ _ c.from_residual.ensures.1 (inl c.in_err-head.ensures.fault)

pub returns-in_err-name-clause-fault : goal.returns-in_err-name-clause-fault
returns-in_err-name-clause-fault c =
    exits _ _ _ c.from_residual-in_err-name.ensures.1
    (inr (record {
      part = c.in_ok-head.head;
      is_part = c.in_ok-head.ensures.fits;
      mid = _;
      takes = c.in_ok-head.ensures.took;
      fault =
          inl c.in_err-name.ensures.fault;
    }))
