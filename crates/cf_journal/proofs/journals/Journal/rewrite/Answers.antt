use Rattle.std.proofs.Common.{refl}
use Rattle.cf_journal.specs.Format.{other}
use Rattle.cf_journal.proofs.InstalledReady.{installed_ready, installed_rest}
use Rattle.cf_journal.proofs.journals.Journal.rewrite.Goals as goal

pub returns-clause-ok : goal.returns-clause-ok
returns-clause-ok g c = λ x settled. record {
  usable = refl;
  ready = installed_ready (g.D.Disk.state c.args.disk.now) (g.D.Disk.state c.install.new.disk) c.args.self.now.side c.other_of-self.result c.args.self.now.generation c.generation_after-generation.result x c.args.image.now settled.ready c.generation_after-generation.ensures c.other_of-self.ensures c.in_ok-install.ensures.installed c.in_ok-install.ensures.durable;
  format = refl;
  end = refl;
}

pub returns-clause-rest : goal.returns-clause-rest
returns-clause-rest g c = installed_rest (other c.args.self.now.side) c.generation_after-generation.result c.args.image.now (g.D.Disk.state c.args.disk.now).seen (g.D.Disk.state c.install.new.disk).seen c.in_ok-install.ensures.installed

pub returns-clause-crash : goal.returns-clause-crash
returns-clause-crash g c = λ x settled. c.install.ensures.crash c.args.self.now.generation x settled.ready c.generation_after-generation.ensures
