-- What is known of the remote in each state of a run, and at each point that a restart may open.
use Rattle.std.specs.Prelude.{Some, ◌≡◌}
use Rattle.cf_base.specs.declared.ids.Rid.{Rid}
use Rattle.cf_base.specs.declared.ids.Version.{Version}
use Rattle.cf_model.specs.Store.{RecordedDone, recorded_at}
use Rattle.cf_model_laws.specs.Invariant.{All}
use Rattle.cf_model_convergence.specs.Lasting.{Fact}
use Rattle.cf_model_convergence.specs.Passed.{ArePassedRight}
use Rattle.cf_model_agreement.specs.Messages.{IsLate}

-- What the remote did of an upload on its way, it did after the cursor.
abbrev pub AreDoneLate : Fact
AreDoneLate r items b = All (λ e. (rid : Rid) (version : Version) → recorded_at r.tokens e.token ≡ Some (RecordedDone rid version) → IsLate r b.cursor rid) b.entries

abbrev pub AreKnown : Fact
AreKnown r items b = ArePassedRight r items b × AreDoneLate r items b
