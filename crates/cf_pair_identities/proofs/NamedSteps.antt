-- Steps that are not made of others keep identities named.
use Rattle.std.proofs.Common.{◌+◌, Bool, true, false, List, [], ◌∷◌, ap, sym, ◌∙◌, subst, if◌then◌else◌}
use Rattle.cf_base.specs.declared.answers.Shown.TheVariants as shown
use Rattle.cf_base.specs.declared.changes.Change.{Change}
use Rattle.cf_base.specs.declared.codes.Code.{Code}
use Rattle.cf_base.specs.declared.ids.ItemId.{ItemId}
use Rattle.cf_base.specs.declared.ids.WaitId.{WaitId}
use Rattle.cf_base.specs.declared.policies.Policy.{Policy}
use Rattle.cf_base.specs.declared.waits.Cause.{Cause}
use Rattle.cf_base.specs.declared.waits.Cause.TheVariants as cause
use Rattle.cf_base.specs.declared.waits.End.{End}
use Rattle.cf_model.specs.Arrows.{Arrow, each, noted, Preserves, reading, unit}
use Rattle.cf_model.specs.Books.{Book}
use Rattle.cf_model.specs.Changes.{apply, change, change_with, changes, may_need_room, next_number, put_after_room, put_with_book, same_book, tell_change}
use Rattle.cf_model.specs.Effects.{effect}
use Rattle.cf_model.specs.Items.{Item, root}
use Rattle.cf_model.specs.Missing.{Wait}
use Rattle.cf_model.specs.Points.{commit, with_point_begun, with_room_point}
use Rattle.cf_model.specs.Requests.{Deed, Told, Waiting}
use Rattle.cf_model.specs.Settling.{accessed, end_of, end_wait, is_access, is_own, settle, tell, tell_end, told_at, with_asks_told, with_ended, with_waiting}
use Rattle.cf_model.specs.Skips.{skip_line, skipped}
use Rattle.cf_model.specs.State.{Filter, in_filter, in_volume, State, Volume, with_filter, with_volume}
use Rattle.cf_model.specs.Trees.{Asked, bind, Fork, Keeps, Ret, Step, Tree}
use Rattle.cf_model.specs.Waits.{accessed_now, all_down, begin_now, begun, Need, own_id, with_own}
use Rattle.cf_model.proofs.ArrowLaws.{keeps_each, keeps_one, keeps_ret, keeps_then}
use Rattle.cf_model.proofs.TreeLaws.{keeps_bind, keeps_mapped}
use Rattle.cf_model_laws.specs.Invariant.{All}
use Rattle.cf_pair_identities.specs.Named.{AreNamed, Gives, GivesOver, Named, NamedIn, NamedVolume, StandsAs}
use Rattle.cf_pair_identities.proofs.NamedItems.{after_one_more, along_more, along_now, effect_named, gives_over}

-- trees

-- what is known between two parts may be more than what the whole keeps
pub keeps_on : {S A B : Type 0} (P Q : S → Type 0) (p : Tree S A) (g : A → S → Tree S B) → ((s : S) → P s → Q s) → Keeps P p → ((a : A) (s : S) → P s → Keeps Q (g a s)) → Keeps Q (bind p g)
keeps_on P Q (Ret a s) g less h k = k a s h
keeps_on P Q (Step s p) g less h k = (less s h.0, keeps_on P Q p g less h.1 k)
keeps_on P Q (Fork p q) g less h k = (keeps_on P Q p g less h.0 k, keeps_on P Q q g less h.1 k)
keeps_on P Q (Asked f) g less h k = λ x. keeps_on P Q (f x) g less (h x) k

-- changes

-- A change: what is known of the volume before it does not hang on its points.
pub change_by : (V W : Volume → Type 0) (Q : Policy → Type 0) (f : Book → Book) (c : Change) → ((v : Volume) → V v → V (with_point_begun v) × V (with_room_point v)) → ((v : Volume) → V v → W v) → ((v : Volume) → V v → W (put_with_book f c v))
    → (x : Filter) → V x.volume → Q x.policy → Keeps (λ y. W y.volume × Q y.policy) (change_with f c x)
change_by V W Q f c points less put x h q =
    keeps_bind (λ y. W y.volume × Q y.policy) (in_volume (apply f c) x) (λ n y. tell_change c n y)
    (keeps_mapped W (λ y. W y.volume × Q y.policy) (λ v. with_volume v x) (apply f c x.volume) (λ v k. (k, q)) (by (may_need_room c x.volume))) (λ n y k. k)
  where
    by : (room : Bool) → Keeps W (put_after_room f c room x.volume)
    by false = (less x.volume h, put x.volume h)
    by true =
        let p = points x.volume h in
        ((less x.volume h, put x.volume h), (less (with_point_begun x.volume) p.0, (less (with_room_point x.volume) p.1, put (with_room_point x.volume) p.1)))

-- over these items
pub put_named : (full : Bool) (f : Book → Book) (c : Change) (v : Volume) → GivesOver full v.items c → NamedVolume full v → NamedVolume full (put_with_book f c v)
put_named full f c v g h =
    let now : AreNamed full v.items = subst (AreNamed full) (sym h.1) (along_now full (root ∷ []) v.log h.0) in
    let next : AreNamed full (effect v.items c (next_number v)) = effect_named full v.items c (next_number v) g now in (
      along_more full (root ∷ []) v.log (next_number v) c (subst (λ (items : List Item). AreNamed full (effect items c (next_number v))) h.1 next) h.0,
      ap (λ (items : List Item). effect items c (next_number v)) h.1 ∙ sym (after_one_more (root ∷ []) v.log (next_number v) c),
    )

pub change_over : (full : Bool) (f : Book → Book) (c : Change) (x : Filter) → GivesOver full x.volume.items c → NamedIn full x → Keeps (NamedIn full) (change_with f c x)
change_over full f c x g h =
    change_by (λ v. GivesOver full v.items c × NamedVolume full v) (NamedVolume full) (λ p. StandsAs full p.population) f c (λ v k. (k, k)) (λ v k. k.1) (λ v k. put_named full f c v k.0 k.1) x (g, h.0) h.1

pub change_keeps : (full : Bool) (f : Book → Book) (c : Change) → Gives full c → Preserves (NamedIn full) (change_with f c)
change_keeps full f c g = record { keeps = λ x h. change_over full f c x (gives_over full x.volume.items c g) h }

pub changes_keeps : (full : Bool) (cs : List Change) → All (Gives full) cs → Preserves (NamedIn full) (changes cs)
changes_keeps full [] g = keeps_ret (NamedIn full) unit
changes_keeps full (c ∷ cs) g = keeps_then (NamedIn full) (change c) (changes cs) (change_keeps full same_book c g.0) (changes_keeps full cs g.1)

-- other steps of the filter

tell_end_named : (full : Bool) (id : WaitId) (e : End) (own : Bool) (x : Filter) → NamedIn full x → NamedIn full (tell_end id e own x)
tell_end_named full id e true x h = h
tell_end_named full id e false x h = h

access_named : (full : Bool) (item : ItemId) (is : Bool) (x : Filter) → NamedIn full x → NamedIn full (if is then accessed item x else x)
access_named full item true x h = h
access_named full item false x h = h

ended_named : (full : Bool) (e : Wait × Cause) (x : Filter) → NamedIn full x → NamedIn full (with_ended e x)
ended_named full e x h =
    access_named full e.0.item (is_access e.0.kind e.1) (tell_end e.0.id (end_of x.volume.items e.0 e.1) (is_own e.0.id x) x)
    (tell_end_named full e.0.id (end_of x.volume.items e.0 e.1) (is_own e.0.id x) x h)

told_named : (full : Bool) (x : Filter) (r : Told × Waiting) → NamedIn full x → Keeps (NamedIn full) (tell r x)
told_named full x r h =
    (keeps_then (NamedIn full) (each end_wait r.0.ended) (noted (with_asks_told r.0))
    (keeps_each (NamedIn full) end_wait r.0.ended (λ e. keeps_one (NamedIn full) (with_ended e) (ended_named full e))) (record { keeps = λ y k. k })).keeps (with_waiting r.1 x) h

pub settled_named : (full : Bool) (item : ItemId) (d : Deed) → Preserves (NamedIn full) (settle item d)
settled_named full item d = record { keeps = λ x h. told_named full x (told_at item d x) h }

pub begins_named : (full : Bool) (n : Need) → Preserves (NamedIn full) (reading (begun n) (begin_now n))
begins_named full n = record {
  keeps = λ x h.
      keeps_bind (NamedIn full) (tell (begun n x) (with_own n x)) (λ _ t. Ret (shown.Pending (own_id n x)) t) (told_named full (with_own n x) (begun n x) h) (λ a t j. j);
}

pub downs_named : (full : Bool) → Preserves (NamedIn full) (reading all_down tell)
downs_named full = record { keeps = λ x h. told_named full x (all_down x) h }

pub commits_named : (full : Bool) → Preserves (NamedIn full) (in_volume commit)
commits_named full = record { keeps = λ x h. (h, h) }

pub accessed_now_named : (full : Bool) (n : Need) (x : Filter) → NamedIn full x → NamedIn full (accessed_now n x)
accessed_now_named full n x h = access_named full n.item (is_access n.kind cause.Met) x h

-- of the whole

pub in_filter_keeps : (full : Bool) {A : Type 0} (f : Arrow Filter A) → Preserves (NamedIn full) f → Preserves (Named full) (in_filter f)
in_filter_keeps full f k = record { keeps = λ s h. keeps_mapped (NamedIn full) (Named full) (λ x. with_filter x s) (f s.filter) (λ x j. (j, h.1)) (k.keeps s.filter h.0) }

pub skipped_named : (full : Bool) (c : Code) (s : State) → Named full s → Named full (skipped c s)
skipped_named full c s h = by s.running.shows_skips where
  by : (b : Bool) → Named full (skip_line b c (record s { running = record s.running { skips = s.running.skips + 1 } }))
  by true = h
  by false = h
