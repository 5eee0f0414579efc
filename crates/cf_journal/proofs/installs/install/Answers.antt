use Rattle.std.proofs.Common.{◌∙◌, ap}
use Rattle.cf_journal.specs.Format.{base}
use Rattle.cf_journal.proofs.RewriteCalls.{close_at, stage_at, open_at, install_at}
use Rattle.cf_journal.proofs.FormatCalls.{close_fresh_at, stage_fresh_at, open_fresh_at}
use Rattle.cf_journal.proofs.installs.install.Goals as goal

pub returns-in_err-close-clause-crash : goal.returns-in_err-close-clause-crash
returns-in_err-close-clause-crash g c = λ gen x ready is. close_at (g.D.Disk.state c.args.disk.now) (g.D.Disk.state c.close.new.disk) (g.D.Disk.state c.close.new.disk) (g.D.Disk.state c.close.new.disk) c.args.side c.base_of-at.result c.args.image.now (c.base_of-at.ensures ∙ ap base c.other_of.ensures) gen x (record { reads_one = g.met.D.Disk.reads_one c.args.disk.now; same_size = g.met.D.Disk.same_size c.args.disk.now }) ready c.close.ensures.crash

pub returns-in_err-stage-clause-crash : goal.returns-in_err-stage-clause-crash
returns-in_err-stage-clause-crash g c = λ gen x ready is. stage_at (g.D.Disk.state c.args.disk.now) (g.D.Disk.state c.close.new.disk) (g.D.Disk.state c.stage.new.disk) (g.D.Disk.state c.stage.new.disk) c.args.side c.base_of-at.result c.args.image.now (c.base_of-at.ensures ∙ ap base c.other_of.ensures) gen x (record { reads_one = g.met.D.Disk.reads_one c.args.disk.now; same_size = g.met.D.Disk.same_size c.args.disk.now }) ready c.in_ok-close.ensures.closed c.in_ok-close.ensures.durable c.close.ensures.crash c.stage.ensures.crash

pub returns-in_err-put-clause-crash : goal.returns-in_err-put-clause-crash
returns-in_err-put-clause-crash g c = λ gen x ready is. open_at (g.D.Disk.state c.args.disk.now) (g.D.Disk.state c.close.new.disk) (g.D.Disk.state c.stage.new.disk) (g.D.Disk.state c.put.new.disk) c.args.side c.base_of-at.result c.args.image.now (c.base_of-at.ensures ∙ ap base c.other_of.ensures) gen x (record { reads_one = g.met.D.Disk.reads_one c.args.disk.now; same_size = g.met.D.Disk.same_size c.args.disk.now }) ready c.header_bytes-header.result c.args.generation c.size-size.result c.header_bytes-header.ensures c.size-size.ensures is c.requires.short c.in_ok-close.ensures.closed c.in_ok-close.ensures.durable c.in_ok-stage.ensures.staged c.in_ok-stage.ensures.durable c.close.ensures.crash c.stage.ensures.crash c.put.ensures.crash

pub returns-clause-crash : goal.returns-clause-crash
returns-clause-crash g c = λ gen x ready is. open_at (g.D.Disk.state c.args.disk.now) (g.D.Disk.state c.close.new.disk) (g.D.Disk.state c.stage.new.disk) (g.D.Disk.state c.put.new.disk) c.args.side c.base_of-at.result c.args.image.now (c.base_of-at.ensures ∙ ap base c.other_of.ensures) gen x (record { reads_one = g.met.D.Disk.reads_one c.args.disk.now; same_size = g.met.D.Disk.same_size c.args.disk.now }) ready c.header_bytes-header.result c.args.generation c.size-size.result c.header_bytes-header.ensures c.size-size.ensures is c.requires.short c.in_ok-close.ensures.closed c.in_ok-close.ensures.durable c.in_ok-stage.ensures.staged c.in_ok-stage.ensures.durable c.close.ensures.crash c.stage.ensures.crash c.put.ensures.crash

pub returns-clause-installed : goal.returns-clause-installed
returns-clause-installed g c = install_at (g.D.Disk.state c.args.disk.now) (g.D.Disk.state c.close.new.disk) (g.D.Disk.state c.stage.new.disk) (g.D.Disk.state c.put.new.disk) c.args.side c.base_of-at.result c.args.image.now (c.base_of-at.ensures ∙ ap base c.other_of.ensures) c.header_bytes-header.result c.args.generation c.size-size.result c.header_bytes-header.ensures c.size-size.ensures c.requires.positive c.ranges.generation.fits c.requires.short c.requires.size.0 c.in_ok-close.ensures.closed c.in_ok-stage.ensures.staged c.in_ok-put.ensures.written

pub returns-in_err-close-clause-fresh : goal.returns-in_err-close-clause-fresh
returns-in_err-close-clause-fresh g c = λ near far only.
    close_fresh_at (g.D.Disk.state c.args.disk.now) (g.D.Disk.state c.close.new.disk) (g.D.Disk.state c.close.new.disk) (g.D.Disk.state c.close.new.disk) c.args.side c.base_of-at.result c.args.generation c.args.image.now
    (c.base_of-at.ensures ∙ ap base c.other_of.ensures) near far only c.close.ensures.crash

pub returns-in_err-stage-clause-fresh : goal.returns-in_err-stage-clause-fresh
returns-in_err-stage-clause-fresh g c = λ near far only.
    stage_fresh_at (g.D.Disk.state c.args.disk.now) (g.D.Disk.state c.close.new.disk) (g.D.Disk.state c.stage.new.disk) (g.D.Disk.state c.stage.new.disk) c.args.side c.base_of-at.result c.args.generation c.args.image.now
    (c.base_of-at.ensures ∙ ap base c.other_of.ensures) near far only c.close.ensures.crash c.in_ok-close.ensures.closed c.in_ok-close.ensures.durable c.stage.ensures.crash

pub returns-in_err-put-clause-fresh : goal.returns-in_err-put-clause-fresh
returns-in_err-put-clause-fresh g c = λ near far only.
    open_fresh_at (g.D.Disk.state c.args.disk.now) (g.D.Disk.state c.close.new.disk) (g.D.Disk.state c.stage.new.disk) (g.D.Disk.state c.put.new.disk) c.args.side c.base_of-at.result c.args.generation c.args.image.now
    (c.base_of-at.ensures ∙ ap base c.other_of.ensures) near far only c.close.ensures.crash c.in_ok-close.ensures.closed c.in_ok-close.ensures.durable c.stage.ensures.crash
    c.header_bytes-header.result c.size-size.result c.header_bytes-header.ensures c.size-size.ensures c.requires.positive c.ranges.generation.fits c.requires.short c.requires.size.0
    c.in_ok-stage.ensures.staged c.in_ok-stage.ensures.durable c.put.ensures.crash

pub returns-clause-fresh : goal.returns-clause-fresh
returns-clause-fresh g c = λ near far only.
    open_fresh_at (g.D.Disk.state c.args.disk.now) (g.D.Disk.state c.close.new.disk) (g.D.Disk.state c.stage.new.disk) (g.D.Disk.state c.put.new.disk) c.args.side c.base_of-at.result c.args.generation c.args.image.now
    (c.base_of-at.ensures ∙ ap base c.other_of.ensures) near far only c.close.ensures.crash c.in_ok-close.ensures.closed c.in_ok-close.ensures.durable c.stage.ensures.crash
    c.header_bytes-header.result c.size-size.result c.header_bytes-header.ensures c.size-size.ensures c.requires.positive c.ranges.generation.fits c.requires.short c.requires.size.0
    c.in_ok-stage.ensures.staged c.in_ok-stage.ensures.durable c.put.ensures.crash
