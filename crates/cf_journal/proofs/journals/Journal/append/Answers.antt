use Rattle.std.proofs.Common.{◌+◌, arith, refl, sym, ◌∙◌}
use Rattle.cf_journal.proofs.AppendCrash.{record_crash, gate_crash, opened_ready, append_rest, ready_second, leaves_second, appended_ready}
use Rattle.cf_journal.proofs.Records.{size-push}
use Rattle.cf_journal.proofs.journals.Journal.append.Goals as goal

pub returns-in_err-put_record-clause-crash : goal.returns-in_err-put_record-clause-crash
returns-in_err-put_record-clause-crash g c = λ x settled. leaves_second (g.D.Disk.state c.args.disk.now) _ x c.args.payload.now (sym settled.format ∙ c.requires.room.0) (record_crash (g.D.Disk.state c.args.disk.now) (g.D.Disk.state c.put_record.new.disk) (g.D.Disk.state c.put_record.new.disk) c.args.self.now.side c.args.self.now.generation c.args.self.now.end (c.base_of.result + 1310720 + c.args.self.now.end) x.image x.payloads c.args.payload.now (record { reads_one = g.met.D.Disk.reads_one c.args.disk.now; same_size = g.met.D.Disk.same_size c.args.disk.now }) (ready_second (g.D.Disk.state c.args.disk.now) c.args.self.now.side c.args.self.now.generation x (sym settled.format ∙ c.requires.room.0) settled.ready) settled.end c.requires.room.1 (omega (arith, c.base_of.ensures)) c.put_record.ensures.crash)

pub returns-in_err-put-clause-crash : goal.returns-in_err-put-clause-crash
returns-in_err-put-clause-crash g c = λ x settled. leaves_second (g.D.Disk.state c.args.disk.now) _ x c.args.payload.now (sym settled.format ∙ c.requires.room.0) (gate_crash (g.D.Disk.state c.args.disk.now) (g.D.Disk.state c.put_record.new.disk) (g.D.Disk.state c.put.new.disk) c.args.self.now.side c.args.self.now.generation c.args.self.now.end (c.base_of.result + 1310720 + c.args.self.now.end) x.image x.payloads c.args.payload.now (record { reads_one = g.met.D.Disk.reads_one c.args.disk.now; same_size = g.met.D.Disk.same_size c.args.disk.now }) (ready_second (g.D.Disk.state c.args.disk.now) c.args.self.now.side c.args.self.now.generation x (sym settled.format ∙ c.requires.room.0) settled.ready) settled.end c.requires.room.1 (omega (arith, c.base_of.ensures)) c.in_ok-put_record.ensures.written c.in_ok-put_record.ensures.durable c.put_record.ensures.crash c.put.ensures.crash)

pub returns-clause-crash : goal.returns-clause-crash
returns-clause-crash g c = λ x settled. leaves_second (g.D.Disk.state c.args.disk.now) _ x c.args.payload.now (sym settled.format ∙ c.requires.room.0) (gate_crash (g.D.Disk.state c.args.disk.now) (g.D.Disk.state c.put_record.new.disk) (g.D.Disk.state c.put.new.disk) c.args.self.now.side c.args.self.now.generation c.args.self.now.end (c.base_of.result + 1310720 + c.args.self.now.end) x.image x.payloads c.args.payload.now (record { reads_one = g.met.D.Disk.reads_one c.args.disk.now; same_size = g.met.D.Disk.same_size c.args.disk.now }) (ready_second (g.D.Disk.state c.args.disk.now) c.args.self.now.side c.args.self.now.generation x (sym settled.format ∙ c.requires.room.0) settled.ready) settled.end c.requires.room.1 (omega (arith, c.base_of.ensures)) c.in_ok-put_record.ensures.written c.in_ok-put_record.ensures.durable c.put_record.ensures.crash c.put.ensures.crash)

pub returns-clause-ok : goal.returns-clause-ok
returns-clause-ok g c = λ x settled. record {
  usable = refl;
  ready = appended_ready _ c.args.self.now.side c.args.self.now.generation x c.args.payload.now (sym settled.format ∙ c.requires.room.0) (opened_ready (g.D.Disk.state c.args.disk.now) (g.D.Disk.state c.put_record.new.disk) (g.D.Disk.state c.put.new.disk) c.args.self.now.side c.args.self.now.generation c.args.self.now.end (c.base_of.result + 1310720 + c.args.self.now.end) x.image x.payloads c.args.payload.now (record { reads_one = g.met.D.Disk.reads_one c.args.disk.now; same_size = g.met.D.Disk.same_size c.args.disk.now }) (ready_second (g.D.Disk.state c.args.disk.now) c.args.self.now.side c.args.self.now.generation x (sym settled.format ∙ c.requires.room.0) settled.ready) settled.end c.requires.room.1 (omega (arith, c.base_of.ensures)) c.in_ok-put_record.ensures.written c.in_ok-put_record.ensures.durable c.in_ok-put.ensures.written c.in_ok-put.ensures.durable);
  format = settled.format;
  end = omega (arith, settled.end, size-push x.payloads c.args.payload.now);
}

pub returns-clause-rest : goal.returns-clause-rest
returns-clause-rest g c = append_rest c.args.self.now.side c.args.self.now.end (c.base_of.result + 1310720 + c.args.self.now.end) c.args.payload.now (g.D.Disk.state c.args.disk.now).seen (g.D.Disk.state c.put_record.new.disk).seen (g.D.Disk.state c.put.new.disk).seen (omega (arith, c.base_of.ensures)) c.requires.room.1 c.requires.size.0 c.in_ok-put_record.ensures.written c.in_ok-put.ensures.written
