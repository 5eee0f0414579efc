-- Devices that are settled as a whole on one remote compare equal.
use Rattle.std.proofs.Common.{◌≡◌, ℕ, Bool, true, false, not, List, [], ◌∷◌, refl, sym, ◌∙◌, ap, subst, eq-eqb}
use Rattle.std.specs.Prelude.{Option, Some, None, filter, nat_lt, unwrap_or, ◌==◌}
use Rattle.std.proofs.lemmas.Bool.{eqb-true}
use Rattle.cf_base.specs.declared.codes.Code.{Code}
use Rattle.cf_base.specs.declared.ids.Rid.{Rid}
use Rattle.cf_model.specs.Identities.{base_rid, base_version, content, target_of}
use Rattle.cf_model.specs.Items.{Item, item_of, writes_of}
use Rattle.cf_model.specs.Overlay.{over}
use Rattle.cf_model.specs.Settled.{local_names, remote_names}
use Rattle.cf_model.specs.State.{State, items_now}
use Rattle.cf_model.specs.Store.{Held, Stored, stored_at, version_bytes}
use Rattle.cf_model_laws.specs.Invariant.{All, Among}
use Rattle.cf_model_laws.proofs.Gathered.{all_map, all_passed}
use Rattle.cf_model_laws.proofs.RightItems.{no_way}
use Rattle.cf_model_convergence.specs.Alike.{IsLikeTarget}
use Rattle.cf_model_convergence.specs.Matching.{IsBelow}
use Rattle.cf_model_convergence.proofs.FedKnown.{find_among}
use Rattle.cf_model_convergence.proofs.FeedsTold.{among_filter, among_map}
use Rattle.cf_model_convergence.proofs.Lines.{same_rid}
use Rattle.cf_model_convergence.proofs.TidyItems.{found_rid}
use Rattle.cf_pair_compare.specs.First.{AgreeAt, AreAlike, IsFirst, row_at}
use Rattle.cf_pair_compare.specs.declared.path_rows.PathRow.{PathRow}
use Rattle.cf_pair_events.specs.declared.answers.PairAnswer.TheVariants as answer
use Rattle.cf_pair_events.specs.declared.comparisons.Comparison.{Comparison}
use Rattle.cf_pair_events.specs.declared.comparisons.Comparison.TheVariants as comparison
use Rattle.cf_pair_model.specs.Seen.{held_seen}
use Rattle.cf_pair_model.specs.declared.devices.Device.TheVariants as device
use Rattle.cf_pair_traces.proofs.EqualTrees.{contents_agree}
use Rattle.cf_pair_traces.specs.Pairs.{Compares, ComparesBy, Pair, facing, no_comparison, path_row, path_rows}
use Rattle.cf_pair_settled.specs.Settled.{AreSettled, IsOrderly, SaysEqual, is_settled_whole}
use Rattle.cf_pair_settled.proofs.Agreement.{HasLike, HasLikeFor, agree}
use Rattle.cf_pair_settled.proofs.Paths.{joined, names_alike, next_names, path_joined, same_list}
use Rattle.cf_pair_settled.proofs.Twins.{Shows, like, shown_here, shows}

alike_back : (a b : PathRow) → AreAlike a b → AreAlike b a
alike_back a b h = (sym h.0, (sym h.1.0, sym h.1.1, h.1.3, h.1.2))

abbrev is_lower : Item → Bool
is_lower i = not (i.id.0 == 1)

-- each row of the one has one like it at the other

module _ (s t : State) (same : s.link.remote.items ≡ t.link.remote.items) (o : IsOrderly s) (q : IsOrderly t) (ours : is_settled_whole s ≡ true) (theirs : is_settled_whole t ≡ true) where
  rows_like : (r : Stored) (i j : Item) → Shows s r i → Shows t r j → AreAlike (path_row (items_now s) i) (path_row (items_now t) j)
  rows_like r i j x y = (
    path_joined (items_now s) o.found o.trees 33 i x.below.0 ∙ ap (joined 33) (x.names ∙ names_alike s.link.remote t.link.remote r.rid same ∙ sym y.names) ∙ sym (path_joined (items_now t) q.found q.trees 33 j y.below.0),
    (x.kind ∙ sym y.kind, x.identity ∙ sym y.identity, x.clean, y.clean),
  )

  has_twin : (i : Item) → IsBelow s i → (j : Item) × Among j (items_now t) × IsBelow t j × AreAlike (path_row (items_now s) i) (path_row (items_now t) j)
  has_twin i below =
      let r : Stored = l.stored in
      let there : stored_at t.link.remote.items r.rid ≡ Some r = subst (λ (items : List Stored). stored_at items r.rid ≡ Some r) same (subst (λ (rid : Rid). stored_at s.link.remote.items rid ≡ Some r) (same_rid (target_of i) r.rid target) l.found) in
      let among : Among r t.link.remote.items = find_among (λ x. x.rid.0 == r.rid.0) t.link.remote.items r there in
      let k = shown_here t q theirs r among there l.live unnamed in
      (k.1.0, k.1.1, k.1.2.below, rows_like r i k.1.0 (shows s o ours i below (ap (λ (n : ℕ). nat_lt 0 n) target ∙ k.0)) k.1.2)
    where
      l : IsLikeTarget s i
      l = like s o ours i below

      target : (target_of i).0 ≡ l.stored.rid.0
      target = sym (found_rid s.link.remote.items (target_of i) l.stored l.found)

      none : (n : List ℕ) (ns : List (List ℕ)) → n ∷ ns ≡ [] → ⊥
      none n ns z = cc

      unnamed : remote_names t.link.remote l.stored.rid ≡ [] → ⊥
      unnamed z =
          let p = next_names (items_now s) o.found o.trees i below.0 below.1 in
          none i.name (local_names (items_now s) p.0.id) (sym p.1.2 ∙ same_list (local_names (items_now s) i.id) (remote_names s.link.remote l.stored.rid) l.path ∙ names_alike s.link.remote t.link.remote l.stored.rid same ∙ z)

  lower : (state : State) (i : Item) → is_lower i ≡ true → item_of (items_now state) i.id ≡ Some i → IsBelow state i
  lower state i e there = (there, λ z. no_way (sym (ap (λ (b : Bool). not b) (eq-eqb i.id.0 1 z)) ∙ e))

  is_low : (i : Item) → (i.id.0 ≡ 1 → ⊥) → is_lower i ≡ true
  is_low i below = one (i.id.0 == 1) refl where
    one : (b : Bool) → (i.id.0 == 1) ≡ b → not b ≡ true
    one true e = absurd (below (eqb-true i.id.0 1 e))
    one false e = refl

  row_twin : (i : Item) → IsBelow s i → HasLike (path_rows t) (path_row (items_now s) i)
  row_twin i below =
      let j = has_twin i below in
      (path_row (items_now t) j.0, among_map (path_row (items_now t)) j.0 (filter is_lower (items_now t)) (among_filter is_lower j.0 (items_now t) (is_low j.0 j.2.1) j.1), j.3)

  pub rows_have : All (HasLike (path_rows t)) (path_rows s)
  rows_have =
      all_map (IsBelow s) (HasLike (path_rows t)) (path_row (items_now s)) row_twin (filter is_lower (items_now s))
      (all_passed (λ i. item_of (items_now s) i.id ≡ Some i) (IsBelow s) is_lower (λ i e there. lower s i e there) (items_now s) o.found)

turned : (as' bs : List PathRow) → All (HasLike as') bs → All (HasLikeFor as') bs
turned as' [] h = tt
turned as' (b ∷ bs) h = ((h.0.0, h.0.1, alike_back b h.0.0 h.0.2), turned as' bs h.1)

-- comparisons

pub rows_agree : (s t : State) → s.link.remote.items ≡ t.link.remote.items → IsOrderly s → IsOrderly t → is_settled_whole s ≡ true → is_settled_whole t ≡ true → (path : List ℕ) → AgreeAt (path_rows s) (path_rows t) path
rows_agree s t same o q ours theirs =
    agree (path_rows s) (path_rows t) q.apart (rows_have s t same o q ours theirs) (turned (path_rows s) (path_rows t) (rows_have t s (sym same) q o theirs ours))

one_says : (as' bs : List PathRow) → IsFirst as' bs None → (c : Comparison) → ComparesBy None as' bs c → c ≡ comparison.Equal
one_says as' bs h comparison.Equal k = refl
one_says as' bs h (comparison.Unequal path) k = absurd (k.0 (h path))
one_says as' bs h (comparison.Refused c) k = absurd k

pub says_equal : (s t : State) → s.link.remote.items ≡ t.link.remote.items → IsOrderly s → IsOrderly t → is_settled_whole s ≡ true → is_settled_whole t ≡ true → no_comparison s.power t.power ≡ None → Compares s t comparison.Equal
says_equal s t same o q ours theirs on = subst (λ (x : Option Code). ComparesBy x (path_rows s) (path_rows t) comparison.Equal) (sym on) (rows_agree s t same o q ours theirs)

pub says_only_equal : (s t : State) (c : Comparison) → s.link.remote.items ≡ t.link.remote.items → IsOrderly s → IsOrderly t → is_settled_whole s ≡ true → is_settled_whole t ≡ true → no_comparison s.power t.power ≡ None → Compares s t c → c ≡ comparison.Equal
says_only_equal s t c same o q ours theirs on h =
    one_says (path_rows s) (path_rows t) (rows_agree s t same o q ours theirs) c (subst (λ (x : Option Code). ComparesBy x (path_rows s) (path_rows t) c) on h)

pub contents_equal : (s t : State) (path : List ℕ) (i j : Item) → s.link.remote.items ≡ t.link.remote.items → IsOrderly s → IsOrderly t → is_settled_whole s ≡ true → is_settled_whole t ≡ true → no_comparison s.power t.power ≡ None
    → row_at (path_rows s) path ≡ Some (path_row (items_now s) i) → row_at (path_rows t) path ≡ Some (path_row (items_now t) j)
    → i.directory ≡ false → j.directory ≡ false → content s.link.remote i ≡ content t.link.remote j
contents_equal s t path i j same o q ours theirs on ri rj di dj =
    contents_agree s.link.remote s t path i j (says_equal s t same o q ours theirs on) ri rj di dj
    ∙ ap (λ (items : List Stored). over (part_bytes items) (writes_of j)) same
  where
    part_bytes : List Stored → List ℕ
    part_bytes items = unwrap_or (version_bytes (stored_at items (base_rid j)) (base_version j).0) []

-- two that share a remote

-- it is so whatever the remote holds
facing_orderly : (held : Held) (s : State) → IsOrderly s → IsOrderly (facing held s)
facing_orderly held s o = record { found = o.found; trees = o.trees; apart = o.apart; plain = o.plain; named = o.named }

module _ (p : Pair) (o : IsOrderly p.first) (q : IsOrderly p.second) where
  first_orderly : IsOrderly (facing p.held p.first)
  first_orderly = facing_orderly p.held p.first o

  second_orderly : IsOrderly (facing (held_seen device.Second p.held) p.second)
  second_orderly = facing_orderly (held_seen device.Second p.held) p.second q

  pub pair_says_equal : AreSettled p → no_comparison p.first.power p.second.power ≡ None → Compares p.first p.second comparison.Equal
  pair_says_equal settled on = says_equal (facing p.held p.first) (facing (held_seen device.Second p.held) p.second) refl first_orderly second_orderly settled.0 settled.1 on

  pub pair_says_only : (c : Comparison) → Compares p.first p.second c → SaysEqual (answer.Comparison c) p
  pair_says_only c h = λ settled on. says_only_equal (facing p.held p.first) (facing (held_seen device.Second p.held) p.second) c refl first_orderly second_orderly settled.0 settled.1 on h
