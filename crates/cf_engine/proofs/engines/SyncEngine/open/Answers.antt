use Rattle.std.proofs.Common.{◌≡◌, ◌+◌, ◌⊎◌, refl, sym, subst}
use Rattle.cf_base.specs.declared.codes.Code.TheVariants.{Exhausted, NotAVolume}
use Rattle.cf_disk.specs.Disk.{Leaves}
use Rattle.cf_engine.proofs.Fitting.{image_there, no_cause, not_exhausted, of_engine, of_none, only_of}
use Rattle.cf_engine.proofs.Opened.{opened_by}
use Rattle.cf_engine.specs.Actors.{new_engine}
use Rattle.cf_engine.specs.Engines.{IsSyncing, on_volume}
use Rattle.cf_engine.specs.Openings.{FitsKnown, IsOfEngine}
use Rattle.cf_filter_events.specs.Pasts.{Past}
use Rattle.cf_filter_machine.proofs.ReadSteps.{err_map}
use Rattle.cf_filter_steps.proofs.Laws.{ok_map}
use Rattle.cf_model.specs.Formats.{Image}
use Rattle.cf_model.specs.Numbers.{most}
use Rattle.cf_volume.specs.Calls.{IsCause, IsMemory, IsRefused, StopsOnly}
use Rattle.cf_volume_commit.specs.Loaded.{HoldsImage, StandsOrWas}
use Rattle.cf_volume_points.specs.Standing.{clusters_for, opened}
use Rattle.cf_engine.proofs.engines.SyncEngine.open.Goals as goal

pub returns-in-Ok-clause-ok : goal.returns-in-Ok-clause-ok
returns-in-Ok-clause-ok g c = λ l epoch log b linked standing kept.
    ok_map c.on_opened.result (λ e. e ≡ record { filter = c.in-Ok.filter; actor = new_engine c.args.link }) (λ e. (past : Past) → past.told ≡ (g.D.Disk.state c.args.disk).powers → IsSyncing g.D.Disk.state g.R.Remote.told past e (on_volume c.args.policy l (opened (epoch + 1) log b (clusters_for (g.D.Disk.state c.args.disk)))))
    (λ e is past powers. opened_by g.D.Disk.state g.R.Remote.told c.args.disk c.in-Ok.filter e c.args.link l past c.args.policy (opened (epoch + 1) log b (clusters_for (g.D.Disk.state c.args.disk))) c.requires c.in-Ok.ensures.runs refl (c.in-Ok.ensures.ok epoch log b standing kept) is linked powers) c.on_opened.ensures.ok

pub returns-in-Ok-clause-found : goal.returns-in-Ok-clause-found
returns-in-Ok-clause-found g c =
    ok_map c.on_opened.result (λ e. FitsKnown c.in-Ok.filter.known) (λ e. (i : Image) × HoldsImage (g.D.Disk.state c.args.disk).seen i × IsOfEngine i)
    (λ e fits. of_engine c.one_content.ensures (g.D.Disk.state c.args.disk).seen c.in-Ok.filter.known c.in-Ok.ensures.found fits) c.on_opened.ensures.fits

pub returns-in-Ok-clause-absent : goal.returns-in-Ok-clause-absent
returns-in-Ok-clause-absent g c =
    err_map c.on_opened.result (λ e. IsRefused e.2 NotAVolume → FitsKnown c.in-Ok.filter.known → ⊥) (λ e. IsRefused e.2 NotAVolume → (i : Image) → HoldsImage (g.D.Disk.state c.args.disk).seen i → IsOfEngine i → ⊥)
    (λ e unfit refused. of_none c.one_content.ensures (g.D.Disk.state c.args.disk).seen c.in-Ok.filter.known c.in-Ok.ensures.found (unfit refused)) c.on_opened.ensures.unfit

pub returns-in-Ok-clause-none : goal.returns-in-Ok-clause-none
returns-in-Ok-clause-none g c = λ epoch log b stands ours.
    err_map c.on_opened.result (λ e. IsRefused e.2 NotAVolume → FitsKnown c.in-Ok.filter.known → ⊥) (λ e. IsRefused e.2 NotAVolume → ⊥)
    (λ e unfit refused. of_none c.one_content.ensures (g.D.Disk.state c.args.disk).seen c.in-Ok.filter.known c.in-Ok.ensures.found (unfit refused) stands.image (image_there epoch (g.D.Disk.state c.args.disk).seen log b stands) ours) c.on_opened.ensures.unfit

pub returns-in-Ok-clause-last : goal.returns-in-Ok-clause-last
returns-in-Ok-clause-last g c = λ epoch log b stands.
    err_map c.on_opened.result (λ e. IsMemory e.2 ⊎ IsRefused e.2 NotAVolume) (λ e. IsRefused e.2 Exhausted → epoch ≡ most)
    (λ e only last. absurd (not_exhausted e.2 only last)) c.on_opened.ensures.only

pub returns-in-Ok-clause-crash : goal.returns-in-Ok-clause-crash
returns-in-Ok-clause-crash g c = λ epoch log b stands.
    err_map c.on_opened.result (λ e. e.0 ≡ c.in-Ok.filter.disk) (λ e. Leaves (g.D.Disk.state c.args.disk) (g.D.Disk.state e.0) (StandsOrWas epoch log b (g.D.Disk.state c.args.disk)))
    (λ e same. subst (λ (d : g.row.D.Denot). Leaves (g.D.Disk.state c.args.disk) (g.D.Disk.state d) (StandsOrWas epoch log b (g.D.Disk.state c.args.disk))) (sym same) (c.in-Ok.ensures.crash epoch log b stands)) c.on_opened.ensures.disk

pub returns-in-Ok-clause-only : goal.returns-in-Ok-clause-only
returns-in-Ok-clause-only g c =
    err_map c.on_opened.result (λ e. IsMemory e.2 ⊎ IsRefused e.2 NotAVolume) (λ e. StopsOnly e.2 ⊎ (IsRefused e.2 NotAVolume ⊎ IsRefused e.2 Exhausted)) (λ e only. only_of e.2 only) c.on_opened.ensures.only

pub returns-in-Ok-clause-cause : goal.returns-in-Ok-clause-cause
returns-in-Ok-clause-cause g c =
    err_map c.on_opened.result (λ e. IsMemory e.2 ⊎ IsRefused e.2 NotAVolume) (λ e. IsCause e.2 (g.D.Disk.state c.args.disk) (g.D.Disk.state e.0)) (λ e only. no_cause e.2 (g.D.Disk.state c.args.disk) (g.D.Disk.state e.0) only) c.on_opened.ensures.only

pub returns-in-Err-clause-absent : goal.returns-in-Err-clause-absent
returns-in-Err-clause-absent g c = λ refused i held ours. c.in-Err.ensures.absent refused i held

pub returns-in-Err-clause-none : goal.returns-in-Err-clause-none
returns-in-Err-clause-none g c = λ epoch log b stands ours refused. c.in-Err.ensures.none epoch log b stands refused
