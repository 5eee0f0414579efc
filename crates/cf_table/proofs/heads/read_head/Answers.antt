use Rattle.std.proofs.Common.{inl, inr}
use Rattle.cf_table.proofs.ReadExit.{exits}
use Rattle.cf_table.proofs.Taken.{takes_both}
use Rattle.cf_table.proofs.heads.read_head.Goals as goal

pub returns-clause-took : goal.returns-clause-took
returns-clause-took c = takes_both (takes_both c.in_ok-who.ensures.took c.in_ok-basics.ensures.took) c.in_ok-numbers.ensures.took

pub returns-clause-fits : goal.returns-clause-fits
returns-clause-fits c = record { who = c.in_ok-who.ensures.fits; basics = c.in_ok-basics.ensures.fits; numbers = c.in_ok-numbers.ensures.fits }

pub returns-in_err-who-clause-fault : goal.returns-in_err-who-clause-fault
returns-in_err-who-clause-fault c = exits _ _ _ c.from_residual.ensures.1 (inl c.in_err-who.ensures.fault)

pub returns-in_err-basics-clause-fault : goal.returns-in_err-basics-clause-fault
returns-in_err-basics-clause-fault c =
    exits _ _ _ c.from_residual-in_err-basics.ensures.1
    (inr (record {
      part = c.in_ok-who.who;
      is_part = c.in_ok-who.ensures.fits;
      mid = _;
      takes = c.in_ok-who.ensures.took;
      fault =
          inl c.in_err-basics.ensures.fault;
    }))

pub returns-in_err-numbers-clause-fault : goal.returns-in_err-numbers-clause-fault
returns-in_err-numbers-clause-fault c =
    exits _ _ _ c.from_residual-in_err-numbers.ensures.1
    (inr (record {
      part = c.in_ok-who.who;
      is_part = c.in_ok-who.ensures.fits;
      mid = _;
      takes = c.in_ok-who.ensures.took;
      fault =
          inr (record {
            part = c.in_ok-basics.basics;
            is_part = c.in_ok-basics.ensures.fits;
            mid = _;
            takes = c.in_ok-basics.ensures.took;
            fault = c.in_err-numbers.ensures.fault;
          });
    }))
