use Rattle.cf_journal.proofs.WhatWasRead.{opened_settled}
use Rattle.cf_volume_commit.proofs.FoundParts.{found_cause}
use Rattle.cf_volume_commit.proofs.findings.read_volume.Goals as goal

pub returns-in-Err-clause-cause : goal.returns-in-Err-clause-cause
returns-in-Err-clause-cause g c =
    found_cause c.one_content.ensures (g.D.Disk.state c.args.disk.now) (g.D.Disk.state c.journal_of.new.disk) c.in_ok-found.found c.clusters_of_disk-clusters.result c.in-Err.error c.in_ok-found.ensures.found c.clusters_of_disk-clusters.ensures c.in-Err.ensures.cause

pub returns-in-Ok-clause-opened : goal.returns-in-Ok-clause-opened
returns-in-Ok-clause-opened g c =
    opened_settled c.in_ok-found.found c.opened.result.0 (g.D.Disk.state c.args.disk.now) (g.D.Disk.state c.journal_of.new.disk) c.in_ok-found.ensures.found c.in-Ok.ensures.whole c.opened.ensures.journal c.journal_of.ensures.reads.keeps.seen c.in_ok-found.ensures.durable c.requires
