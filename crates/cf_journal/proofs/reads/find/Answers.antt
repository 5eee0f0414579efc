use Rattle.std.proofs.Common.{List, ℕ, ◌∙◌, subst}
use Rattle.cf_journal.proofs.Opening.{reads_call, reads_then}
use Rattle.cf_journal.proofs.Choosing.{Some_at, None_at, choice_found, choice_none}
use Rattle.cf_journal.proofs.reads.find.Goals as goal

pub returns-in_err-sync-clause-reads : goal.returns-in_err-sync-clause-reads
returns-in_err-sync-clause-reads g c = (reads_call c.sync.result (g.D.Disk.state c.args.disk.now) (g.D.Disk.state c.sync.new.self) c.sync.ensures.keeps c.sync.ensures.goes c.sync.ensures.counts c.sync.ensures.cause)

pub returns-in_err-a-clause-reads : goal.returns-in_err-a-clause-reads
returns-in_err-a-clause-reads g c = (reads_then (g.D.Disk.state c.args.disk.now) (g.D.Disk.state c.sync.new.self) (g.D.Disk.state c.read_slot.new.disk) (reads_call c.sync.result (g.D.Disk.state c.args.disk.now) (g.D.Disk.state c.sync.new.self) c.sync.ensures.keeps c.sync.ensures.goes c.sync.ensures.counts c.sync.ensures.cause) c.read_slot.ensures.reads)

pub returns-in_err-b-clause-reads : goal.returns-in_err-b-clause-reads
returns-in_err-b-clause-reads g c = (reads_then (g.D.Disk.state c.args.disk.now) (g.D.Disk.state c.read_slot.new.disk) (g.D.Disk.state c.read_slot-2.new.disk) (reads_then (g.D.Disk.state c.args.disk.now) (g.D.Disk.state c.sync.new.self) (g.D.Disk.state c.read_slot.new.disk) (reads_call c.sync.result (g.D.Disk.state c.args.disk.now) (g.D.Disk.state c.sync.new.self) c.sync.ensures.keeps c.sync.ensures.goes c.sync.ensures.counts c.sync.ensures.cause) c.read_slot.ensures.reads) c.read_slot-2.ensures.reads)

pub returns-clause-reads : goal.returns-clause-reads
returns-clause-reads g c = (reads_then (g.D.Disk.state c.args.disk.now) (g.D.Disk.state c.read_slot.new.disk) (g.D.Disk.state c.read_slot-2.new.disk) (reads_then (g.D.Disk.state c.args.disk.now) (g.D.Disk.state c.sync.new.self) (g.D.Disk.state c.read_slot.new.disk) (reads_call c.sync.result (g.D.Disk.state c.args.disk.now) (g.D.Disk.state c.sync.new.self) c.sync.ensures.keeps c.sync.ensures.goes c.sync.ensures.counts c.sync.ensures.cause) c.read_slot.ensures.reads) c.read_slot-2.ensures.reads)

pub returns-clause-found : goal.returns-clause-found
returns-clause-found g c = choice_found (g.D.Disk.state c.args.disk.now).seen c.in_ok-a.a c.in_ok-b.b c.choose.result (subst (λ (xs : List ℕ). Some_at xs 0 c.in_ok-a.a) c.sync.ensures.keeps.seen c.in_ok-a.ensures.found) (subst (λ (xs : List ℕ). None_at xs 0 c.in_ok-a.a) c.sync.ensures.keeps.seen c.in_ok-a.ensures.none) (subst (λ (xs : List ℕ). Some_at xs 1572864 c.in_ok-b.b) (c.read_slot.ensures.reads.keeps.seen ∙ c.sync.ensures.keeps.seen) c.in_ok-b.ensures.found) (subst (λ (xs : List ℕ). None_at xs 1572864 c.in_ok-b.b) (c.read_slot.ensures.reads.keeps.seen ∙ c.sync.ensures.keeps.seen) c.in_ok-b.ensures.none) c.choose.ensures

pub returns-clause-none : goal.returns-clause-none
returns-clause-none g c = choice_none (g.D.Disk.state c.args.disk.now).seen c.in_ok-a.a c.in_ok-b.b c.choose.result (subst (λ (xs : List ℕ). None_at xs 0 c.in_ok-a.a) c.sync.ensures.keeps.seen c.in_ok-a.ensures.none) (subst (λ (xs : List ℕ). None_at xs 1572864 c.in_ok-b.b) (c.read_slot.ensures.reads.keeps.seen ∙ c.sync.ensures.keeps.seen) c.in_ok-b.ensures.none) c.choose.ensures

pub returns-clause-durable : goal.returns-clause-durable
returns-clause-durable g c = λ image left. c.in_ok-sync.ensures.durable image (c.read_slot.ensures.reads.keeps.crash image (c.read_slot-2.ensures.reads.keeps.crash image left))
