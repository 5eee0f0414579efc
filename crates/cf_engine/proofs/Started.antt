-- An engine of a volume that was just made, and the remote that comes back.
use Rattle.std.proofs.Common.{◌≡◌, ℕ, refl, sym, subst}
use Rattle.cf_base.specs.declared.policies.Mode.TheVariants as mode
use Rattle.cf_engine.specs.Actors.{Holds, Stands, Syncing, new_engine}
use Rattle.cf_link.specs.Linked.{IsLink, IsRemote, Linked}
use Rattle.cf_model.specs.State.{State, new_link, start}
use Rattle.cf_model.specs.Store.{Held}
use Rattle.cf_remote.specs.Told.{Told}

module _ {R : Type 0} (told : R → Told) where
  pub begins_at : (l : Linked R) (x : Syncing R) (held : Held) (clusters : ℕ) → x ≡ new_engine l → IsLink told l (new_link held) → Stands told x (start mode.Replay held clusters)
  begins_at l x held clusters is link = subst (λ (z : Syncing R). Stands told z (start mode.Replay held clusters)) (sym is) (record { held = record { link = link; next = refl }; volatile = refl })

  pub remote_back : (x : Syncing R) (r : R) (s : State) → r ≡ x.engine.agent.link.remote → Holds told x s → IsRemote (told r) s.link
  remote_back x r s is h = subst (λ (o : R). IsRemote (told o) s.link) (sym is) (record { held = h.link.held; asks = h.link.asks; honest = h.link.honest })
