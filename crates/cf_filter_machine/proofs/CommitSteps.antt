-- Commits of a filter.
use Rattle.std.proofs.Common.{◌≡◌, inl, false, refl, sym, ◌∙◌, ap, subst}
use Rattle.std.proofs.lemmas.Result.{err_from_is_err_and}
use Rattle.std.specs.Prelude.{Err, Ok, Result}
use Rattle.std.specs.Result.{IsErrAnd}
use Rattle.cf_volume_room.proofs.Aimed.{sure_aimed}
use Rattle.cf_base.specs.declared.codes.CallError.{CallError}
use Rattle.cf_base.specs.declared.codes.CallError.TheVariants.{OutOfMemory, No}
use Rattle.cf_disk.specs.Disk.{Leaves, State}
use Rattle.cf_disk.specs.Leaving.{leaves_weaker}
use Rattle.cf_filter_machine.proofs.Keepable.{keepable}
use Rattle.cf_filter_machine.proofs.Shown.{shows_begun, stays_shown}
use Rattle.cf_filter_machine.proofs.PointSteps.{either_begun, either_between, grows_begun, grows_sure, sure_kept, sure_points}
use Rattle.cf_filter_desk.specs.Desks.{Desk}
use Rattle.cf_filter_machine.specs.Held.{Held}
use Rattle.cf_filter_machine.specs.Lasting.{IsBetween, Lasts}
use Rattle.cf_filter_machine.specs.Lasts.{grows_not}
use Rattle.cf_filter_machine.specs.Sensing.{Stands, sense}
use Rattle.cf_model.specs.Arrows.{unit}
use Rattle.cf_model.specs.Points.{commit, with_point_begun, with_sure_point}
use Rattle.cf_model.specs.State.{Filter, Volume, in_volume, with_volume}
use Rattle.cf_volume_points.proofs.Points.{Fair}
use Rattle.cf_volume_points.specs.At.{At, StandsEither}
use Rattle.cf_volume_points.specs.Known.{Known}
use Rattle.cf_volume_points.specs.Sound.{IsKeepable}
use Rattle.cf_volume_points.specs.Standing.{clusters_on}
use Rattle.cf_filter_steps.specs.Answering.{Answers, Any}
use Rattle.cf_volume.specs.Calls.{IsCause, Runs, StopsOnly}
use Rattle.cf_volume.specs.Written.{contents_in}

module _ {D : Type 0} (state : D → State) (x : Held D) (d : D) (k : Known) (e : Desk) (same : e ≡ x.desk) (fair : Fair (state d))
    (crash : (v : Volume) → At (state x.disk) x.known v → IsKeepable v → Leaves (state x.disk) (state d) (StandsEither v)) (runs : Runs (state x.disk) (state d)) where
  leaves : (s : Filter) → Stands state x s → Leaves (state x.disk) (state d) (StandsEither s.volume)
  leaves s h = crash s.volume h.volume (keepable s.volume h.kept)

  pub committed : k.broken ≡ false → ((v : Volume) → At (state x.disk) x.known v → IsKeepable v → At (state d) k (with_sure_point v)) → Answers (sense state) Any (in_volume commit) x (Ok unit) (record { disk = d; known = k; desk = e })
  committed usable ok = record {
    leads = λ s h p. (
      with_volume (with_sure_point s.volume) s,
      (refl, refl),
      record { runs = runs; grows = grows_sure s.volume; leaves = leaves_weaker (state x.disk) (state d) (StandsEither s.volume) (IsBetween s.volume (with_sure_point s.volume)) (leaves s h) (either_between s.volume h.volume.now.of_log h.kept h.points) },
      record {
        fair = fair;
        volume = ok s.volume h.volume (keepable s.volume h.kept);
        desk = same ∙ h.desk;
        whole = usable;
        good = record { volume = (sure_kept s.volume h.kept).good; files = h.good.files; numbered = h.good.numbered; reads = h.good.reads };
        kept = sure_kept s.volume h.kept;
        points = sure_points s.volume h.volume.now.of_log h.kept;
        aimed = sure_aimed (state d).settings.aim s.volume h.volume.now.of_log.0;
      },
    );
  }

  lasts : (s : Filter) → Stands state x s → Lasts (state d) (with_point_begun s.volume)
  lasts s h c left = either_begun s.volume h.volume.now.of_log h.kept h.points c ((leaves s h).now c left)

  begun : (s : Filter) → Stands state x s → Leaves (state x.disk) (state d) (IsBetween s.volume (with_point_begun s.volume))
  begun s h = leaves_weaker (state x.disk) (state d) (StandsEither s.volume) (IsBetween s.volume (with_point_begun s.volume)) (leaves s h)
      (λ c l. record { mid = with_point_begun s.volume; after = grows_begun s.volume; before = grows_not (with_point_begun s.volume); stands = either_begun s.volume h.volume.now.of_log h.kept h.points c l })

  not_committed : (f : CallError) → contents_in k ≡ contents_in x.known → ((v : Volume) → At (state x.disk) x.known v → IsKeepable v → x.known.broken ≡ false → StopsOnly f) → IsCause f (state x.disk) (state d) → Answers (sense state) Any (in_volume commit) x (Err f) (record { disk = d; known = k; desk = e })
  not_committed (No c) still only cause = record {
    leads = λ s h p. (
      with_volume (with_point_begun s.volume) s,
      (only s.volume h.volume (keepable s.volume h.kept) h.whole, inl refl),
      record { runs = runs; grows = grows_begun s.volume; leaves = begun s h },
      (
        record {
          notes = ap (λ (z : Desk). z.notes) (same ∙ h.desk);
          policy = ap (λ (z : Desk). z.policy) (same ∙ h.desk);
          connected = ap (λ (z : Desk). z.connected) (same ∙ h.desk);
          shows = shows_begun (clusters_on (state d).seen) k s.volume (stays_shown state x d k s runs still h);
          lasts = lasts s h;
        },
        cause (only s.volume h.volume (keepable s.volume h.kept) h.whole),
      ),
    );
  }
  not_committed OutOfMemory still only cause = record { leads = λ s h p. (with_volume (with_point_begun s.volume) s, record {}, record { runs = runs; grows = grows_begun s.volume; leaves = begun s h }, lasts s h) }

  pub commit_stops : (f : CallError) (r : Result (Unit {0}) CallError) → IsErrAnd r (λ z. z ≡ f) → contents_in k ≡ contents_in x.known → ((v : Volume) → At (state x.disk) x.known v → IsKeepable v → x.known.broken ≡ false → StopsOnly f) → IsCause f (state x.disk) (state d)
      → Answers (sense state) Any (in_volume commit) x r (record { disk = d; known = k; desk = e })
  commit_stops f r is still only cause =
      let p = err_from_is_err_and r is in
      subst (λ (q : Result (Unit {0}) CallError). Answers (sense state) Any (in_volume commit) x q (record { disk = d; known = k; desk = e })) (sym (p.1 ∙ ap (λ (z : CallError). Err z) p.2)) (not_committed f still only cause)
