use Rattle.cf_journal.proofs.WhatWasRead.{found_none, opened_settled}
use Rattle.cf_journal.proofs.journals.Journal.open.Goals as goal

pub returns-in-None-clause-none : goal.returns-in-None-clause-none
returns-in-None-clause-none g c = λ _ x stands. found_none c.in_ok-found.found (g.D.Disk.state c.args.disk.now).seen c.in_ok-found.ensures.found c.in-None.ensures x stands

pub returns-in-Some-clause-found : goal.returns-in-Some-clause-found
returns-in-Some-clause-found g c =
    opened_settled c.in_ok-found.found c.in-Some.opened (g.D.Disk.state c.args.disk.now) (g.D.Disk.state c.read.new.disk) c.in_ok-found.ensures.found c.in-Some.ensures.0 c.in-Some.ensures.1 c.read.ensures.reads.keeps.seen c.in_ok-found.ensures.durable c.requires
