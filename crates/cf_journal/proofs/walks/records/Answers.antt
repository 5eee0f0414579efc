use Rattle.std.proofs.Common.{arith, subst, sym, ap, ◌∙◌, ◌+◌, ◌-◌, ◌++◌, ◌∷◌, [], List, ℕ}
use Rattle.cf_journal.specs.Records.{IsRecord}
use Rattle.cf_journal.specs.declared.walks.Record.{Record}
use Rattle.cf_journal.proofs.Opening.{reads_then}
use Rattle.cf_journal.proofs.Walking.{WalkedOn, walked_next, walked_to_end, walked_to_overrun}
use Rattle.cf_journal.proofs.walks.records.Goals as goal

pub records-preserved : goal.records-preserved
records-preserved g c =
    let found = subst (λ (r : Record). IsRecord r (c.args.at + c.records.end) (c.args.len - c.records.end) (g.D.Disk.state c.records.disk).seen) c.in-Payload.is c.in_ok-next_record.ensures.found in
    subst (λ (ps : List (List ℕ)). WalkedOn c.args.at c.args.len ps (c.records.end + (5 + c.len.result)) (g.D.Disk.state c.args.disk.now) (g.D.Disk.state c.next_record.new.disk))
    (ap (λ (p : List ℕ). c.records.payloads.items ++ p ∷ []) (sym c.from_vec.ensures) ∙ sym c.in_ok-push-in-Payload.ensures.items)
    (subst (λ (n : ℕ). WalkedOn c.args.at c.args.len (c.records.payloads.items ++ c.in-Payload.payload.items ∷ []) (c.records.end + (5 + n)) (g.D.Disk.state c.args.disk.now) (g.D.Disk.state c.next_record.new.disk)) (sym (c.len.ensures ∙ c.in-Payload.payload.ok.0))
    (walked_next c.args.at c.args.len c.records.end found.0 c.records.payloads.items c.in-Payload.payload.items (g.D.Disk.state c.args.disk.now) (g.D.Disk.state c.records.disk) (g.D.Disk.state c.next_record.new.disk) (omega (arith, c.requires.room, c.requires.size)) c.records.invariant c.next_record.ensures.reads found.1 found.2 found.3 found.4))

pub returns-in-End-clause-whole : goal.returns-in-End-clause-whole
returns-in-End-clause-whole g c = λ whole.
    let found = subst (λ (r : Record). IsRecord r (c.args.at + c.records.end) (c.args.len - c.records.end) (g.D.Disk.state c.records.disk).seen) c.in-End.is c.in_ok-next_record.ensures.found in
    walked_to_end c.args.at c.args.len c.records.end c.records.payloads.items found.0 (g.D.Disk.state c.args.disk.now) (g.D.Disk.state c.records.disk) c.records.invariant found.1

pub returns-in-Overrun-clause-torn : goal.returns-in-Overrun-clause-torn
returns-in-Overrun-clause-torn g c = λ torn.
    walked_to_overrun c.args.at c.args.len c.records.end c.records.payloads.items (g.D.Disk.state c.args.disk.now) (g.D.Disk.state c.records.disk) c.records.invariant (subst (λ (r : Record). IsRecord r (c.args.at + c.records.end) (c.args.len - c.records.end) (g.D.Disk.state c.records.disk).seen) c.in-Overrun.is c.in_ok-next_record.ensures.found)

pub returns-in_err-next_record-clause-reads : goal.returns-in_err-next_record-clause-reads
returns-in_err-next_record-clause-reads g c = reads_then (g.D.Disk.state c.args.disk.now) (g.D.Disk.state c.records.disk) (g.D.Disk.state c.next_record.new.disk) c.records.invariant.reads c.next_record.ensures.reads

pub returns-in-End-clause-reads : goal.returns-in-End-clause-reads
returns-in-End-clause-reads g c = reads_then (g.D.Disk.state c.args.disk.now) (g.D.Disk.state c.records.disk) (g.D.Disk.state c.next_record.new.disk) c.records.invariant.reads c.next_record.ensures.reads

pub returns-in-Overrun-clause-reads : goal.returns-in-Overrun-clause-reads
returns-in-Overrun-clause-reads g c = reads_then (g.D.Disk.state c.args.disk.now) (g.D.Disk.state c.records.disk) (g.D.Disk.state c.next_record.new.disk) c.records.invariant.reads c.next_record.ensures.reads

pub returns-in_err-push-in-Payload-clause-reads : goal.returns-in_err-push-in-Payload-clause-reads
returns-in_err-push-in-Payload-clause-reads g c = reads_then (g.D.Disk.state c.args.disk.now) (g.D.Disk.state c.records.disk) (g.D.Disk.state c.next_record.new.disk) c.records.invariant.reads c.next_record.ensures.reads
