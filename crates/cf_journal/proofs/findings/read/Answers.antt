use Rattle.std.proofs.Common.{List, ℕ, ◌+◌, ◌<◌, ◌∙◌, ap, arith, length, subst}
use Rattle.cf_disk.specs.Disk.{part}
use Rattle.cf_journal.specs.Format.{Chosen}
use Rattle.cf_journal.proofs.Opening.{reads_then}
use Rattle.cf_journal.proofs.WhatWasRead.{at_some, found_is, image_chosen, image_read, image_stands, journal_read, journal_stands}
use Rattle.cf_journal.proofs.findings.read.Goals as goal

pub returns-clause-found : goal.returns-clause-found
returns-clause-found g c =
    let chosen = at_some c.in_ok-find.field-0 c.in-Some.volume (λ v. Chosen v.1 (g.D.Disk.state c.args.disk.now).seen v.0 v.2 v.3) c.in-Some.is c.in_ok-find.ensures.found in
    let image = c.from_vec.ensures ∙ c.in_ok-image.ensures.got ∙ ap (λ (l : List ℕ). part (c.base_of-base.result + 4096) c.in-Some.volume.3 l) c.find.ensures.reads.keeps.seen in
    found_is _ (g.D.Disk.state c.args.disk.now).seen
    (image_chosen (g.D.Disk.state c.args.disk.now).seen c.in-Some.volume.0 c.in-Some.volume.1 c.in-Some.volume.2 c.in-Some.volume.3 c.base_of-base.result chosen c.base_of-base.ensures c.requires.0 c.from_vec.result image)
    (image_read (g.D.Disk.state c.args.disk.now).seen c.in-Some.volume.0 c.in-Some.volume.1 c.in-Some.volume.2 c.in-Some.volume.3 c.base_of-base.result chosen c.base_of-base.ensures c.requires.0 c.from_vec.result image)
    (part (c.base_of-base.result + c.journal_at_of-at.result) c.journal_len_of.result (g.D.Disk.state c.load.new.disk).seen)
    (journal_read (g.D.Disk.state c.args.disk.now).seen c.in-Some.volume.0 c.in-Some.volume.1 c.base_of-base.result c.journal_at_of-at.result c.journal_len_of.result (part (c.base_of-base.result + c.journal_at_of-at.result) c.journal_len_of.result (g.D.Disk.state c.load.new.disk).seen)
    (ap (λ (l : List ℕ). part (c.base_of-base.result + c.journal_at_of-at.result) c.journal_len_of.result l) (c.load.ensures.reads.keeps.seen ∙ c.find.ensures.reads.keeps.seen))
    c.base_of-base.ensures c.journal_at_of-at.ensures c.journal_len_of.ensures)
    c.in_ok-front.front.payloads.items c.from_vec-2.ensures c.in_ok-front.ensures.whole c.in_ok-front.ensures.torn c.in_ok-front.ensures.end
    (subst (λ (n : ℕ). c.in_ok-front.front.end < n) c.journal_len_of.ensures c.in_ok-front.ensures.low)

pub load-requires : goal.load-requires
load-requires g c =
    image_stands c.in-Some.volume.0 c.in-Some.volume.1 c.in-Some.volume.2 c.in-Some.volume.3 c.base_of-base.result (g.D.Disk.state c.args.disk.now).seen (g.D.Disk.state c.find.new.disk).seen
    (at_some c.in_ok-find.field-0 c.in-Some.volume (λ v. Chosen v.1 (g.D.Disk.state c.args.disk.now).seen v.0 v.2 v.3) c.in-Some.is c.in_ok-find.ensures.found)
    c.base_of-base.ensures c.requires.0 c.find.ensures.reads.keeps.seen

pub records-requires-clause-room : goal.records-requires-clause-room
records-requires-clause-room g c =
    journal_stands c.in-Some.volume.0 c.in-Some.volume.1 c.base_of-base.result c.journal_at_of-at.result c.journal_len_of.result c.base_of-base.ensures c.journal_at_of-at.ensures c.journal_len_of.ensures

pub records-requires-clause-size : goal.records-requires-clause-size
records-requires-clause-size g c = omega (arith, c.requires.0, ap length (c.load.ensures.reads.keeps.seen ∙ c.find.ensures.reads.keeps.seen))

pub returns-in_err-image-clause-reads : goal.returns-in_err-image-clause-reads
returns-in_err-image-clause-reads g c = reads_then (g.D.Disk.state c.args.disk.now) (g.D.Disk.state c.find.new.disk) (g.D.Disk.state c.load.new.disk) c.find.ensures.reads c.load.ensures.reads

pub returns-in_err-front-clause-reads : goal.returns-in_err-front-clause-reads
returns-in_err-front-clause-reads g c = reads_then (g.D.Disk.state c.args.disk.now) (g.D.Disk.state c.load.new.disk) (g.D.Disk.state c.records.new.disk) (reads_then (g.D.Disk.state c.args.disk.now) (g.D.Disk.state c.find.new.disk) (g.D.Disk.state c.load.new.disk) c.find.ensures.reads c.load.ensures.reads) c.records.ensures.reads

pub returns-clause-reads : goal.returns-clause-reads
returns-clause-reads g c = reads_then (g.D.Disk.state c.args.disk.now) (g.D.Disk.state c.load.new.disk) (g.D.Disk.state c.records.new.disk) (reads_then (g.D.Disk.state c.args.disk.now) (g.D.Disk.state c.find.new.disk) (g.D.Disk.state c.load.new.disk) c.find.ensures.reads c.load.ensures.reads) c.records.ensures.reads
