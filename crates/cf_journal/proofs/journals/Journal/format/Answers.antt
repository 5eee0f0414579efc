use Rattle.std.proofs.Common.{◌≡◌, ℕ, get_or, sym, ◌∙◌, refl, subst}
use Rattle.cf_journal.specs.declared.sides.Side.TheVariants.{A}
use Rattle.cf_journal.specs.Content.{rewritten}
use Rattle.cf_journal.specs.Settled.{IsFitSize}
use Rattle.cf_journal.proofs.FormatCrash.{gates_formatting, then_formatting}
use Rattle.cf_journal.proofs.Formatted.{formatted}
use Rattle.cf_journal.proofs.InstalledReady.{installed_rest}
use Rattle.cf_journal.proofs.journals.Journal.format.Goals as goal

pub returns-clause-ok : goal.returns-clause-ok
returns-clause-ok g c = record {
  usable = refl;
  ready = formatted (g.D.Disk.state c.close_both.new.disk) (g.D.Disk.state c.install.new.disk) c.args.image.now
      (subst (λ (k : ℕ). get_or (g.D.Disk.state c.close_both.new.disk).seen k 0 ≡ 0) c.base_of-2.ensures c.in_ok-close_both.ensures.gates.1)
      (subst (λ (n : ℕ). IsFitSize n) (sym c.close_both.ensures.same_size) c.requires.size) c.in_ok-install.ensures.installed c.in_ok-install.ensures.durable;
  format = refl;
  end = refl;
}

pub returns-clause-rest : goal.returns-clause-rest
returns-clause-rest g c = installed_rest A 1 c.args.image.now (g.D.Disk.state c.close_both.new.disk).seen (g.D.Disk.state c.install.new.disk).seen c.in_ok-install.ensures.installed ∙ c.in_ok-close_both.ensures.rest

pub returns-in_err-close_both-clause-crash : goal.returns-in_err-close_both-clause-crash
returns-in_err-close_both-clause-crash g c =
    gates_formatting (g.D.Disk.state c.args.disk.now) (g.D.Disk.state c.close_both.new.disk) c.base_of.result c.base_of-2.result (rewritten c.args.image.now) c.base_of.ensures c.base_of-2.ensures c.close_both.ensures.crash

pub returns-in_err-install-clause-crash : goal.returns-in_err-install-clause-crash
returns-in_err-install-clause-crash g c =
    then_formatting (g.D.Disk.state c.args.disk.now) (g.D.Disk.state c.close_both.new.disk) (g.D.Disk.state c.install.new.disk) c.base_of.result c.base_of-2.result (rewritten c.args.image.now) c.base_of.ensures c.base_of-2.ensures
    c.in_ok-close_both.ensures.rest c.close_both.ensures.crash
    (c.install.ensures.fresh (subst (λ (k : ℕ). get_or (g.D.Disk.state c.close_both.new.disk).seen k 0 ≡ 0) c.base_of-2.ensures c.in_ok-close_both.ensures.gates.1)
    (subst (λ (k : ℕ). get_or (g.D.Disk.state c.close_both.new.disk).seen k 0 ≡ 0) c.base_of.ensures c.in_ok-close_both.ensures.gates.0) c.in_ok-close_both.ensures.durable)

pub returns-clause-crash : goal.returns-clause-crash
returns-clause-crash g c =
    then_formatting (g.D.Disk.state c.args.disk.now) (g.D.Disk.state c.close_both.new.disk) (g.D.Disk.state c.install.new.disk) c.base_of.result c.base_of-2.result (rewritten c.args.image.now) c.base_of.ensures c.base_of-2.ensures
    c.in_ok-close_both.ensures.rest c.close_both.ensures.crash
    (c.install.ensures.fresh (subst (λ (k : ℕ). get_or (g.D.Disk.state c.close_both.new.disk).seen k 0 ≡ 0) c.base_of-2.ensures c.in_ok-close_both.ensures.gates.1)
    (subst (λ (k : ℕ). get_or (g.D.Disk.state c.close_both.new.disk).seen k 0 ≡ 0) c.base_of.ensures c.in_ok-close_both.ensures.gates.0) c.in_ok-close_both.ensures.durable)

pub returns-clause-powers : goal.returns-clause-powers
returns-clause-powers g c = c.install.ensures.powers ∙ c.close_both.ensures.powers

pub returns-clause-settings : goal.returns-clause-settings
returns-clause-settings g c = c.install.ensures.settings ∙ c.close_both.ensures.settings
