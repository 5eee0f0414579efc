-- Items that are like their targets.
use Rattle.std.specs.Prelude.{true, false, [], Some, unwrap_or, ◌≡◌}
use Rattle.cf_model.specs.Identities.{content, target_of}
use Rattle.cf_model.specs.Items.{Item}
use Rattle.cf_model.specs.Settled.{local_names, remote_names, same_names}
use Rattle.cf_model.specs.State.{State, items_now}
use Rattle.cf_model.specs.Store.{Stored, bytes_of, latest, stored_at}

-- The target is live, of the item's kind and at its path; a file has no local writes, and its content is the bytes of the target's latest version.
pub record IsLikeTarget (s : State) (i : Item) : Type 0 where
  pub stored : Stored
  pub found : stored_at s.link.remote.items (target_of i) ≡ Some stored
  pub in_sync : i.in_sync ≡ true
  pub live : stored.live ≡ true
  pub kind : stored.directory ≡ i.directory
  pub path : same_names (local_names (items_now s) i.id) (remote_names s.link.remote stored.rid) ≡ true
  pub clean : i.directory ≡ false → i.writes ≡ []
  pub bytes : i.directory ≡ false → content s.link.remote i ≡ unwrap_or (bytes_of s.link.remote stored.rid (record { 0 = latest stored })) []
