use Rattle.std.proofs.Common.{◌≡◌, ap, Err, refl}
use Rattle.cf_world_devices.proofs.Adding.{adds_nothing}
use Rattle.cf_world_plays.proofs.OfTexts.{read_text, unread_text}
use Rattle.cf_world.proofs.sources.sourced.Goals as goal

pub returns-in-Ok-clause-text : goal.returns-in-Ok-clause-text
returns-in-Ok-clause-text g c =
    let same : c.deref.result.now ≡ c.in-Ok.text.items = c.deref.ensures.value in (
      c.deref.result.now,
      rw same c.in-Ok.ensures.ok,
      read_text g.D.Disk.state g.R.Remote.told c.args.output c.args.mode c.args.disk c.args.remote (g.K.Sink.held c.args.sink.now) (g.K.Sink.held c.scripted.new.sink) _ _ _ _ _ _ c.scripted.result.status c.scripted.result.disk c.scripted.result.remote
          (rw same c.in-Ok.ensures.small) c.scripted.ensures.only c.scripted.ensures.writes c.scripted.ensures.bad c.scripted.ensures.unfit c.scripted.ensures.complete,
    )

pub returns-in-Err-clause-text : goal.returns-in-Err-clause-text
returns-in-Err-clause-text g c = rw c.unscripted.ensures (
    unread_text g.D.Disk.state g.R.Remote.told c.args.output c.args.mode c.args.disk c.args.remote (g.K.Sink.held c.args.sink.now) (g.K.Sink.held c.args.sink.now) _ _ _ _ _ (g.S.Source.left c.args.source.now) c.in-Err.fail
    (λ e. c.in-Err.ensures.too_long (ap (λ x. Err x) e)) (λ e. c.in-Err.ensures.fault (ap (λ x. Err x) e)) (adds_nothing _) refl)
