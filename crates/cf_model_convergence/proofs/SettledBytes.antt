-- What stands here in a settled state: each item is its target, and a file has the latest bytes.
use Rattle.std.proofs.Common.{◌≡◌, Bool, true, false, List, [], ◌∷◌, refl, sym, ◌∙◌, ap, ℕ, map}
use Rattle.std.specs.Prelude.{Option, Some, None, not, unwrap_or, ◌&&◌, ◌||◌, ◌==◌}
use Rattle.std.specs.Bool.{beq}
use Rattle.std.specs.List.{list_all}
use Rattle.std.proofs.lemmas.Bool.{eqb-true}
use Rattle.cf_model.specs.Identities.{base_bytes, base_rid, base_version, content, target_of}
use Rattle.cf_model.specs.Items.{Item, is_dirty}
use Rattle.cf_model.specs.LookUp.{is_excluded}
use Rattle.cf_model.specs.Overlay.{Written, over}
use Rattle.cf_model.specs.Settled.{has_one_local, is_alike, is_latest, is_settled, is_settled_item, local_names, remote_names, same_names}
use Rattle.cf_model.specs.Skips.{in_use}
use Rattle.cf_model.specs.State.{State, book_now, items_now}
use Rattle.cf_model.specs.Store.{Stored, bytes_of, latest, stored_at, version_bytes}
use Rattle.cf_model.specs.Words.{is_empty, says}
use Rattle.cf_model_laws.proofs.Gathered.{all_found}
use Rattle.cf_model_laws.proofs.RightItems.{no_way}
use Rattle.cf_model_laws.proofs.SoundSettles.{left_true, right_true}
use Rattle.cf_model_convergence.specs.Alike.{IsLikeTarget}
use Rattle.cf_model_convergence.specs.Matching.{IsBelow}
use Rattle.cf_model_convergence.proofs.KnownByTests.{neither, second}
use Rattle.cf_model_convergence.proofs.SettledItems.{passed}

no_writes : (ws : List Written) → not (not (is_empty ws)) ≡ true → ws ≡ []
no_writes [] e = refl
no_writes (w ∷ ws) e = no_way e

alike_target : (s : State) (i : Item) (r : Stored) → stored_at s.link.remote.items (target_of i) ≡ Some r → i.in_sync ≡ true → is_alike s i r ≡ true → IsLikeTarget s i
alike_target s i r stored synced e =
    let x : ((r.live && beq r.directory i.directory) && same_names (local_names (items_now s) i.id) (remote_names s.link.remote r.rid)) ≡ true = left_true ((r.live && beq r.directory i.directory) && same_names (local_names (items_now s) i.id) (remote_names s.link.remote r.rid)) (i.directory || is_latest i r) e in
    let y : (r.live && beq r.directory i.directory) ≡ true = left_true (r.live && beq r.directory i.directory) (same_names (local_names (items_now s) i.id) (remote_names s.link.remote r.rid)) x in
    let z : i.directory ≡ false → is_latest i r ≡ true = λ file. second i.directory (is_latest i r) (right_true ((r.live && beq r.directory i.directory) && same_names (local_names (items_now s) i.id) (remote_names s.link.remote r.rid)) (i.directory || is_latest i r) e) (λ d. no_way (sym file ∙ d)) in
    record {
      stored = r;
      found = stored;
      in_sync = synced;
      live = left_true r.live (beq r.directory i.directory) y;
      kind = alike r.directory i.directory (right_true r.live (beq r.directory i.directory) y);
      path = right_true (r.live && beq r.directory i.directory) (same_names (local_names (items_now s) i.id) (remote_names s.link.remote r.rid)) x;
      clean = λ file. no_writes i.writes (unwritten (z file));
      bytes = λ file. bytes (z file);
    }
  where
    alike : (a b : Bool) → beq a b ≡ true → a ≡ b
    alike true true e = refl
    alike true false e = no_way e
    alike false true e = no_way e
    alike false false e = refl

    unwritten : is_latest i r ≡ true → not (is_dirty i) ≡ true
    unwritten q = left_true (not (is_dirty i)) ((base_rid i).0 == r.rid.0) (left_true (not (is_dirty i) && ((base_rid i).0 == r.rid.0)) ((base_version i).0 == latest r) q)

    bytes : is_latest i r ≡ true → content s.link.remote i ≡ unwrap_or (bytes_of s.link.remote r.rid (record { 0 = latest r })) []
    bytes q =
        let rid : (base_rid i).0 ≡ r.rid.0 = eqb-true (base_rid i).0 r.rid.0 (right_true (not (is_dirty i)) ((base_rid i).0 == r.rid.0) (left_true (not (is_dirty i) && ((base_rid i).0 == r.rid.0)) ((base_version i).0 == latest r) q)) in
        let version : (base_version i).0 ≡ latest r = eqb-true (base_version i).0 (latest r) (right_true (not (is_dirty i) && ((base_rid i).0 == r.rid.0)) ((base_version i).0 == latest r) q) in
        ap (λ (ws : List Written). over (base_bytes s.link.remote i) (map (λ w. w.write) ws)) (no_writes i.writes (unwritten q))
        ∙ ap (λ (n : ℕ). unwrap_or (version_bytes (stored_at s.link.remote.items (record { 0 = n })) (base_version i).0) []) rid
        ∙ ap (λ (n : ℕ). unwrap_or (version_bytes (stored_at s.link.remote.items r.rid) n) []) version

pub settled_like : (s : State) (i : Item) → is_settled false s ≡ true → IsBelow s i → is_excluded (items_now s) i.id ≡ false → in_use s i.id ≡ false → IsLikeTarget s i
settled_like s i e below inside idle =
    let each : list_all (is_settled_item s) (items_now s) ≡ true = right_true (is_empty (book_now s).tombstones) (list_all (is_settled_item s) (items_now s)) (left_true (is_empty (book_now s).tombstones && list_all (is_settled_item s) (items_now s)) (not false || list_all (has_one_local s) s.link.remote.items) e) in
    let own : is_settled_item s i ≡ true = (all_found (λ j. is_settled_item s j ≡ true) (λ j. j.id.0 == i.id.0) (items_now s) i below.0 (passed (is_settled_item s) (items_now s) each)).0 in
    let both : (i.in_sync && says (is_alike s i) (stored_at s.link.remote.items (target_of i))) ≡ true = second ((i.id.0 == 1) || is_excluded (items_now s) i.id || in_use s i.id) _ own
    (neither ((i.id.0 == 1) || is_excluded (items_now s) i.id) (in_use s i.id) (neither (i.id.0 == 1) (is_excluded (items_now s) i.id) (λ z. below.1 (eqb-true i.id.0 1 z)) (λ z. no_way (sym inside ∙ z))) (λ z. no_way (sym idle ∙ z))) in
    by (stored_at s.link.remote.items (target_of i)) refl (left_true i.in_sync _ both) (right_true i.in_sync _ both) where
      by : (o : Option Stored) → stored_at s.link.remote.items (target_of i) ≡ o → i.in_sync ≡ true → says (is_alike s i) o ≡ true → IsLikeTarget s i
      by None q synced z = no_way z
      by (Some r) q synced z = alike_target s i r q synced z
