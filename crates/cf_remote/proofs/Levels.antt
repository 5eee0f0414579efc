-- What a feed tells, level by level.
use Rattle.std.proofs.Common.{◌≡◌, inl, inr, ℕ, zero, suc, ◌+◌, ◌<◌, Bool, true, false, not, cond, List, [], ◌∷◌, ◌++◌, length, map, take, get_or, refl, sym, ap, ◌∙◌, arith, append-nil, append_assoc, option_map, ◌==◌, ◌&&◌}
use Rattle.std.specs.Prelude.{Option, Some, None, filter}
use Rattle.std.specs.List.{cons_option, filter_map, flat_map}
use Rattle.std.proofs.lemmas.List.{map-append, take_more}
use Rattle.std.proofs.lemmas.List.Elements.{filter-append, filter_map-append}
use Rattle.cf_base.specs.declared.messages.Entry.{Entry}
use Rattle.cf_model.specs.Growth.{CountsFrom}
use Rattle.cf_model.specs.Store.{Stored, entry_told, stored_at}
use Rattle.cf_model.specs.Words.{counting}
use Rattle.cf_remote.specs.Depths.{depth_in}
use Rattle.cf_remote.specs.Feeds.{feed_in, is_seen, same_level, seen_as, told_level, told_live}
use Rattle.cf_remote.specs.Order.{Has}
use Rattle.cf_remote.specs.declared.seen.Seen.{Seen}
use Rattle.cf_remote.proofs.Members.{filter_has, stored_has}

-- the steps of the loops

module _ (items : List Stored) (after i : ℕ) (d : Stored) (lt : i < length items) where
  taken : filter (is_seen after) (take (i + 1) items) ≡ filter (is_seen after) (take i items) ++ cond (is_seen after (get_or items i d)) (get_or items i d ∷ []) []
  taken = ap (filter (is_seen after)) (take_more items i d lt) ∙ filter-append (is_seen after) (take i items) (get_or items i d ∷ [])

module _ (items : List Stored) (level : Option ℕ) (seen : List Seen) (i : ℕ) (d : Seen) (lt : i < length seen) where
  told : filter_map (told_level items level) (take (i + 1) seen) ≡ filter_map (told_level items level) (take i seen) ++ filter_map (told_level items level) (get_or seen i d ∷ [])
  told = ap (filter_map (told_level items level)) (take_more seen i d lt) ∙ filter_map-append (told_level items level) (take i seen) (get_or seen i d ∷ [])

  pub level_not : same_level (get_or seen i d).level level ≡ false → filter_map (told_level items level) (take i seen) ≡ filter_map (told_level items level) (take (i + 1) seen)
  level_not e = sym (told ∙ rw e (append-nil (filter_map (told_level items level) (take i seen))))

  pub level_none : None ≡ stored_at items (get_or seen i d).rid → filter_map (told_level items level) (take i seen) ≡ filter_map (told_level items level) (take (i + 1) seen)
  level_none e = sym (told ∙ rw (← e) (one (same_level (get_or seen i d).level level))) where
    one : (b : Bool) → filter_map (told_level items level) (take i seen) ++ cons_option (cond b None None) [] ≡ filter_map (told_level items level) (take i seen)
    one true = append-nil (filter_map (told_level items level) (take i seen))
    one false = append-nil (filter_map (told_level items level) (take i seen))

  pub level_one : (s : Stored) → same_level (get_or seen i d).level level ≡ true → Some s ≡ stored_at items (get_or seen i d).rid
      → filter_map (told_level items level) (take i seen) ++ entry_told s ∷ [] ≡ filter_map (told_level items level) (take (i + 1) seen)
  level_one s e h = sym (told ∙ rw (e, ← h) refl)

pub counting_more : (i n m : ℕ) → n ≡ m + 1 → counting i n ≡ i ∷ counting (i + 1) m
counting_more i zero m e = absurd (omega arith)
counting_more i (suc n) m e = ap (λ (k : ℕ). i ∷ counting (i + 1) k) (let j : n ≡ m = omega arith in j)

-- one more depth
pub live_step : (items : List Stored) (seen : List Seen) (start before after : List Entry) (depth left less most : ℕ) → left ≡ less + 1
    → before ++ flat_map (told_live items seen) (counting depth left) ≡ start ++ flat_map (told_live items seen) (counting 1 most)
    → after ≡ before ++ filter_map (told_level items (Some depth)) seen
    → after ++ flat_map (told_live items seen) (counting (depth + 1) less) ≡ start ++ flat_map (told_live items seen) (counting 1 most)
live_step items seen start before after depth left less most e h k =
    ap (λ (es : List Entry). es ++ flat_map (told_live items seen) (counting (depth + 1) less)) k
    ∙ append_assoc before (told_live items seen depth) (flat_map (told_live items seen) (counting (depth + 1) less))
    ∙ ap (λ (ns : List ℕ). before ++ flat_map (told_live items seen) ns) (sym (counting_more depth left less e)) ∙ h

-- what is told of each level is told of the items at it

module _ (items : List Stored) (counted : CountsFrom 1 items) where
  level_is : (d : ℕ) (ss : List Stored) → ((s : Stored) → Has ss s → Has items s) → told_live items (map (seen_as items) ss) d ≡ map entry_told (filter (λ s. s.live && (depth_in items s.rid == d)) ss)
  level_is d [] h = refl
  level_is d (s ∷ ss) h = one s.live (depth_in items s.rid) (depth_in items s.rid == d) refl (stored_at items s.rid) (stored_has 1 items counted s (h s (inl refl)))
      (told_live items (map (seen_as items) ss) d) (filter (λ x. x.live && (depth_in items x.rid == d)) ss) (level_is d ss (λ t k. h t (inr k))) where
        one : (b : Bool) (n : ℕ) (c : Bool) → (n == d) ≡ c → (o : Option Stored) → o ≡ Some s → (others : List Entry) (more : List Stored) → others ≡ map entry_told more
            → cons_option (cond (same_level (cond b (Some n) None) (Some d)) (option_map entry_told o) None) others ≡ map entry_told (cond (b && (n == d)) (s ∷ more) more)
        one true n true e o there others more r = rw (e, there) (ap (λ (es : List Entry). entry_told s ∷ es) r)
        one true n false e o there others more r = rw e r
        one false n c e o there others more r = r

  pub dead_is : (ss : List Stored) → ((s : Stored) → Has ss s → Has items s) → filter_map (told_level items None) (map (seen_as items) ss) ≡ map entry_told (filter (λ s. not s.live) ss)
  dead_is [] h = refl
  dead_is (s ∷ ss) h = one s.live (depth_in items s.rid) (stored_at items s.rid) (stored_has 1 items counted s (h s (inl refl)))
      (filter_map (told_level items None) (map (seen_as items) ss)) (filter (λ x. not x.live) ss) (dead_is ss (λ t k. h t (inr k))) where
        one : (b : Bool) (n : ℕ) (o : Option Stored) → o ≡ Some s → (others : List Entry) (more : List Stored) → others ≡ map entry_told more
            → cons_option (cond (same_level (cond b (Some n) None) None) (option_map entry_told o) None) others ≡ map entry_told (cond (not b) (s ∷ more) more)
        one true n o there others more r = r
        one false n o there others more r = rw there (ap (λ (es : List Entry). entry_told s ∷ es) r)

  pub live_is : (ss : List Stored) → ((s : Stored) → Has ss s → Has items s) → (ds : List ℕ)
      → flat_map (told_live items (map (seen_as items) ss)) ds ≡ map entry_told (flat_map (λ d. filter (λ s. s.live && (depth_in items s.rid == d)) ss) ds)
  live_is ss h [] = refl
  live_is ss h (d ∷ ds) =
      (λ i. level_is d ss h i ++ live_is ss h ds i)
      ∙ sym (map-append entry_told (filter (λ s. s.live && (depth_in items s.rid == d)) ss) (flat_map (λ d. filter (λ s. s.live && (depth_in items s.rid == d)) ss) ds))

  pub feed_is : (after : ℕ) (seen : List Seen) → seen ≡ map (seen_as items) (filter (is_seen after) items)
      → flat_map (told_live items seen) (counting 1 32) ++ filter_map (told_level items None) seen ≡ feed_in items after
  feed_is after seen e =
      let ss : List Stored = filter (is_seen after) items in
      let here : (s : Stored) → Has ss s → Has items s = λ s h. (filter_has (is_seen after) items s h).0 in
      ap (λ (xs : List Seen). flat_map (told_live items xs) (counting 1 32) ++ filter_map (told_level items None) xs) e
      ∙ (λ i. live_is ss here (counting 1 32) i ++ dead_is ss here i)
      ∙ sym (map-append entry_told (flat_map (λ d. filter (λ s. s.live && (depth_in items s.rid == d)) ss) (counting 1 32)) (filter (λ s. not s.live) ss))
