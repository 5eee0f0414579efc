use Rattle.std.proofs.Common.{option_copied}
use Rattle.cf_filter.proofs.Called.{seen_from}
use Rattle.cf_filter.proofs.Recorded.{record_stays, record_told, seen_same}
use Rattle.cf_filter.specs.Recording.{PutsRecord}
use Rattle.cf_filter_machine.specs.Entering.{held}
use Rattle.cf_filter.proofs.records.put_aux.Goals as goal

pub returns-clause-does : goal.returns-clause-does
returns-clause-does g c = λ f.
    seen_from c.machine.view_is
    (record_told g.G.Ground.state c.args.key.now (option_copied c.args.value) f c.machine.inside.volume c.aux_put-put.new.self c.machine.inside.desk c.aux_put-put.result c.aux_put-put.ensures.why c.has_room.result c.has_room.ensures c.aux_put-put.ensures.disk c.aux_put-put.ensures.usable c.aux_put-put.ensures.ok)

pub returns-clause-same : goal.returns-clause-same
returns-clause-same g c = λ f.
    seen_same g.G.Ground.state (PutsRecord c.args.key.now (option_copied c.args.value) f) c.has_room.result (held c.aux_put-put.new.self c.machine.inside.desk) c.machine.view_is
    (record_stays g.G.Ground.state c.args.key.now (option_copied c.args.value) f c.machine.inside.volume c.aux_put-put.new.self c.machine.inside.desk c.aux_put-put.result c.aux_put-put.ensures.why c.has_room.result c.has_room.ensures)
