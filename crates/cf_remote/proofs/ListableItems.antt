-- Each request leaves items that a listing can tell, and the listing of a directory fits.
use Rattle.std.proofs.Common.{◌≡◌, ◌<◌, ◌≤◌, ◌+◌, ◌-◌, inl, inr, ℕ, Bool, true, false, not, cond, List, [], ◌∷◌, ◌++◌, length, map, max, refl, sym, ap, ◌∙◌, subst, arith, ◌==◌, ◌&&◌, ◌||◌}
use Rattle.std.specs.Prelude.{Option, Some, None, filter, nat_le, nat_lt}
use Rattle.std.specs.List.{AllByRecursion, list_all}
use Rattle.std.proofs.lemmas.Bool.{and_from, and_parts, eqb-true}
use Rattle.std.proofs.lemmas.Bool.Decides.{nat_tests}
use Rattle.std.proofs.lemmas.List.{length-append}
use Rattle.cf_base.specs.declared.ids.Rid.{Rid}
use Rattle.cf_base.specs.declared.ids.Token.{Token}
use Rattle.cf_base.specs.declared.ids.Version.{Version}
use Rattle.cf_base.specs.declared.messages.Entry.{Entry}
use Rattle.cf_base.specs.declared.messages.Reply.TheVariants as reply
use Rattle.cf_base.specs.declared.messages.Request.{Request}
use Rattle.cf_base.specs.declared.messages.Request.TheVariants as request
use Rattle.cf_base.specs.declared.messages.Why.{Why}
use Rattle.cf_model.specs.Fits.{are_entries, is_entry, is_listing}
use Rattle.cf_model.specs.Growth.{CountsFrom}
use Rattle.cf_model.specs.Numbers.{no_key}
use Rattle.cf_model.specs.Peers.{is_fit, list_of}
use Rattle.cf_model.specs.Store.{Held, Mutation, Recorded, Stored, at_rid, decide, empty_remote, entry_told, is_live, is_live_dir, is_live_file, is_under, keep_last, latest, len_of, listing_of, make_dir, move_to, mutate, next_rid, put_new, put_version, recorded_at, remote_step, remove_at, settle, stored_at, trimmed, why_move, why_new_dir, why_new_file, why_version, with_new}
use Rattle.cf_model.specs.Texts.{is_name}
use Rattle.cf_model.specs.Words.{last_of, says}
use Rattle.cf_model.proofs.StoreLaws.{step_counts}
use Rattle.cf_remote.specs.Listable.{AreApart, AreListable, IsListable}
use Rattle.cf_remote.specs.Order.{Has}
use Rattle.cf_remote.proofs.Accepted.{not_false, or_false, skipped, within}
use Rattle.cf_remote.proofs.Children.{entries_all}
use Rattle.cf_remote.proofs.Listings.{In, has_told, in_sorted}
use Rattle.cf_remote.proofs.Members.{all_from, all_has, filter_has, from_low, has_stored, map_has, more_has, stored_has}

-- what an entry says that can be

parts : (a b c k e : Bool) → (a && b && c && k && e) ≡ true → (a ≡ true) × (b ≡ true) × (c ≡ true) × (k ≡ true) × (e ≡ true)
parts true true true true true h = (refl, refl, refl, refl, refl)
parts true true true true false h = cc
parts true true true false e h = cc
parts true true false k e h = cc
parts true false c k e h = cc
parts false b c k e h = cc

whole : (a b c e : Bool) → a ≡ true → b ≡ true → c ≡ true → e ≡ true → (a && b && c && true && e) ≡ true
whole a b c e h i j k = rw (h, i, j, k) refl

abbrev has_versions : Stored → Bool
has_versions s = cond s.directory ((latest s == 0) && (len_of s.versions == 0)) (nat_le 1 (latest s) && nat_le (len_of s.versions) 16777216)

entry_parts : (s : Stored) → is_entry [] (entry_told s) ≡ true → (nat_lt 1 s.rid.0 ≡ true) × (not (s.rid.0 == s.parent.0) ≡ true) × (is_name s.name ≡ true) × (true ≡ true) × (has_versions s ≡ true)
entry_parts s h = parts (nat_lt 1 s.rid.0) (not (s.rid.0 == s.parent.0)) (is_name s.name) true (has_versions s) h

entry_whole : (s : Stored) → nat_lt 1 s.rid.0 ≡ true → not (s.rid.0 == s.parent.0) ≡ true → is_name s.name ≡ true → has_versions s ≡ true → is_entry [] (entry_told s) ≡ true
entry_whole s a b c e = whole (nat_lt 1 s.rid.0) (not (s.rid.0 == s.parent.0)) (is_name s.name) (has_versions s) a b c e

-- numbers and tests

low_lt : (n : ℕ) → 1 ≤ n → nat_lt 1 (n + 1) ≡ true
low_lt n h = grind (arith, nat_tests)

unlike : (m n : ℕ) → m < n → not (n == m) ≡ true
unlike m n h = grind (arith, nat_tests)

turned : (m n : ℕ) → (m == n) ≡ false → not (n == m) ≡ true
turned m n h = grind (arith, nat_tests)

not_one : (n : ℕ) → (n == 1) ≡ false → n ≡ 1 → ⊥
not_one n h e = grind (arith, nat_tests)

le_is : (m n : ℕ) → m ≤ n → nat_le m n ≡ true
le_is m n h = grind (arith, nat_tests)

said : {A : Type 0} (f : A → Bool) (o : Option A) → says f o ≡ true → (x : A) × (o ≡ Some x) × (f x ≡ true)
said f None h = cc
said f (Some x) h = (x, refl, h)

in_range : (n : ℕ) (ss : List Stored) → CountsFrom n ss → (s : Stored) → Has ss s → s.rid.0 < n + length ss
in_range n [] c s h = absurd h
in_range n (t ∷ ts) c s (inl e) = omega (arith, c.0, ap (λ (x : Stored). x.rid.0) e)
in_range n (t ∷ ts) c s (inr k) = omega (arith, in_range (n + 1) ts c.1 s k)

-- an item that is there has a rid from 1 on that is not above the number of items
there : (held : Held) (rid : Rid) (f : Stored → Bool) → CountsFrom 1 held.items → says f (stored_at held.items rid) ≡ true → (1 ≤ rid.0) × (rid.0 < length held.items + 1)
there held rid f c h =
    let s = said f (stored_at held.items rid) h in
    let k = has_stored held.items rid s.0 s.1 in
    (omega (arith, k.1, from_low 1 held.items c s.0 k.0), omega (arith, k.1, in_range 1 held.items c s.0 k.0))

last_put : (x y : List ℕ) (vs : List (List ℕ)) → last_of x (vs ++ y ∷ []) ≡ y
last_put x y [] = refl
last_put x y (v ∷ vs) = last_put v y vs

longer : (y : List ℕ) (vs : List (List ℕ)) → 1 ≤ length (vs ++ y ∷ [])
longer y vs = omega (arith, length-append vs (y ∷ []))

-- items that are changed

mapped : (P : Stored → Type 0) (g : Stored → Stored) (ss : List Stored) → ((s : Stored) → Has ss s → P (g s)) → AllByRecursion P (map g ss)
mapped P g ss h = all_from P (map g ss) (λ s k. let m = map_has g ss s k in subst P (sym m.2) (h m.0 m.1))

one_at : (rid : Rid) (f : Stored → Stored) (ss : List Stored) → AllByRecursion IsListable ss → ((s : Stored) → Has ss s → s.rid.0 ≡ rid.0 → IsListable s → IsListable (f s)) → AllByRecursion IsListable (at_rid rid f ss)
one_at rid f ss all h = mapped IsListable (λ s. cond (s.rid.0 == rid.0) (f s) s) ss (λ s k. by s k (s.rid.0 == rid.0) refl) where
  by : (s : Stored) → Has ss s → (b : Bool) → (s.rid.0 == rid.0) ≡ b → IsListable (cond b (f s) s)
  by s k true e = h s k (eqb-true s.rid.0 rid.0 e) (all_has IsListable ss all s k)
  by s k false e = all_has IsListable ss all s k

trimmed_too : (keep : Option ℕ) (s : Stored) → IsListable s → IsListable (trimmed keep s)
trimmed_too None s h = h
trimmed_too (Some n) s h = by s.directory where
  by : (b : Bool) → IsListable (cond b s (record s { least = max s.least (latest s + 1 - n) }))
  by true = h
  by false = h

dead_too : (clock : ℕ) (s : Stored) → IsListable s → IsListable (record s { live = false; changed = clock })
dead_too clock s h = h

module _ (held : Held) (all : AreListable held) where
  added : (parent : Rid) (name : List ℕ) (directory : Bool) (versions : List (List ℕ)) → is_live_dir held parent ≡ true → is_name name ≡ true
      → cond directory ((length versions == 0) && (len_of versions == 0)) (nat_le 1 (length versions) && nat_le (len_of versions) 16777216) ≡ true
      → AllByRecursion IsListable (with_new held parent name directory versions)
  added parent name directory versions up named sized = all_from IsListable (with_new held parent name directory versions) (λ s k. elim (more_has held.items made s k) [
    | inl h ↦ all_has IsListable held.items all.items s h
    | inr e ↦ subst IsListable (sym e) (inr is)
  ]) where
    made : Stored
    made = record { rid = next_rid held; parent = parent; name = name; directory = directory; live = true; versions = versions; least = 1; changed = held.clock + 1 }

    is : is_entry [] (entry_told made) ≡ true
    is =
        let up' = there held parent (λ s. s.live && s.directory) all.counted up in
        entry_whole made (low_lt (length held.items) (omega (arith, up'.0, up'.1))) (unlike parent.0 (length held.items + 1) up'.1) named sized

  moved : (rid parent : Rid) (name : List ℕ) → (rid.0 == 1) ≡ false → (parent.0 == rid.0) ≡ false → is_name name ≡ true
      → AllByRecursion IsListable (at_rid rid (λ s. record s { parent = parent; name = name; changed = held.clock + 1 }) held.items)
  moved rid parent name low apart named = one_at rid (λ s. record s { parent = parent; name = name; changed = held.clock + 1 }) held.items all.items by where
    by : (s : Stored) → Has held.items s → s.rid.0 ≡ rid.0 → IsListable s → IsListable (record s { parent = parent; name = name; changed = held.clock + 1 })
    by s k e (inl root) = absurd (not_one rid.0 low (sym e ∙ root.0))
    by s k e (inr h) =
        let p = entry_parts s h in
        inr (entry_whole (record s { parent = parent; name = name; changed = held.clock + 1 }) p.0 (turned parent.0 s.rid.0 (ap (λ (n : ℕ). parent.0 == n) e ∙ apart)) named p.4)

  grows : (rid : Rid) (bytes : List ℕ) → is_live_file held rid ≡ true → length bytes ≤ 16777216
      → AllByRecursion IsListable (at_rid rid (λ s. trimmed held.keep (record s { versions = s.versions ++ bytes ∷ []; changed = held.clock + 1 })) held.items)
  grows rid bytes file small = one_at rid (λ s. trimmed held.keep (more s)) held.items all.items (λ s k e h. trimmed_too held.keep (more s) (by s (is_file s k e) h)) where
    more : Stored → Stored
    more s = record s { versions = s.versions ++ bytes ∷ []; changed = held.clock + 1 }

    of_file : (a b : Bool) → (a && not b) ≡ true → b ≡ false
    of_file true false e = refl
    of_file true true e = cc
    of_file false b e = cc

    is_file : (s : Stored) → Has held.items s → s.rid.0 ≡ rid.0 → s.directory ≡ false
    is_file s k e =
        let found : stored_at held.items rid ≡ Some s = ap (λ (n : ℕ). stored_at held.items (record { 0 = n })) (sym e) ∙ stored_has 1 held.items all.counted s k in
        of_file s.live s.directory (ap (says (λ t. t.live && not t.directory)) (sym found) ∙ file)

    sized : (s : Stored) → s.directory ≡ false → has_versions (more s) ≡ true
    sized s e =
        let len : nat_le (len_of (s.versions ++ bytes ∷ [])) 16777216 ≡ true = ap (λ (x : List ℕ). nat_le (length x) 16777216) (last_put [] bytes s.versions) ∙ le_is (length bytes) 16777216 small in
        let count : nat_le 1 (length (s.versions ++ bytes ∷ [])) ≡ true = le_is 1 (length (s.versions ++ bytes ∷ [])) (longer bytes s.versions) in
        ap (λ (b : Bool). cond b ((latest (more s) == 0) && (len_of (more s).versions == 0)) (nat_le 1 (latest (more s)) && nat_le (len_of (more s).versions) 16777216)) e
        ∙ and_from (nat_le 1 (latest (more s))) (nat_le (len_of (more s).versions) 16777216) count len

    by : (s : Stored) → s.directory ≡ false → IsListable s → IsListable (more s)
    by s e (inl root) = inl root
    by s e (inr h) = let p = entry_parts s h in inr (entry_whole (more s) p.0 p.1 p.2 (sized s e))

-- requests

abbrev Listed : Held → Type 0
Listed held = AllByRecursion IsListable held.items

decided : (held : Held) (token : Token) (m : Mutation) (w : Option Why) → Listed held → (w ≡ None → AllByRecursion IsListable m.items) → Listed (decide held token m w).1
decided held token m (Some w) h done = h
decided held token m None h done = done refl

mutated : (held : Held) (token : Token) (m : Mutation) (o : Option Recorded) → Listed held → (m.refusal ≡ None → AllByRecursion IsListable m.items) → Listed (mutate held token m o).1
mutated held token m (Some r) h done = h
mutated held token m None h done = decided held token m m.refusal h done

settled : (held : Held) (token : Token) (o : Option Recorded) → Listed held → Listed (settle held token o).1
settled held token (Some r) h = h
settled held token None h = h

kept : (held : Held) (token : Token) (count : ℕ) (o : Option Recorded) → Listed held → Listed (keep_last held token count o).1
kept held token count (Some r) h = h
kept held token count None h = mapped IsListable (trimmed (Some count)) held.items (λ s k. trimmed_too (Some count) s (all_has IsListable held.items h s k))

module _ (held : Held) (all : AreListable held) where
  put_listed : (parent : Rid) (name bytes : List ℕ) → why_new_file held parent name bytes ≡ None → AllByRecursion IsListable (put_new held parent name bytes).items
  put_listed parent name bytes e =
      let a = skipped _ _ _ e in
      let b = skipped _ _ _ a.1 in
      let c = skipped _ _ _ b.1 in
      added held all parent name false (bytes ∷ []) (not_false (is_live_dir held parent) a.0) (not_false (is_name name) b.0) (le_is (length bytes) 16777216 (within 16777216 (length bytes) c.0))

  version_listed : (rid : Rid) (expect : Version) (bytes : List ℕ) → why_version held rid expect bytes ≡ None → AllByRecursion IsListable (put_version held rid expect bytes).items
  version_listed rid expect bytes e =
      let a = skipped _ _ _ e in
      let b = skipped _ _ _ a.1 in
      grows held all rid bytes (not_false (is_live_file held rid) a.0) (within 16777216 (length bytes) b.0)

  dir_listed : (parent : Rid) (name : List ℕ) → why_new_dir held parent name ≡ None → AllByRecursion IsListable (make_dir held parent name).items
  dir_listed parent name e =
      let a = skipped _ _ _ e in
      let b = skipped _ _ _ a.1 in
      added held all parent name true [] (not_false (is_live_dir held parent) a.0) (not_false (is_name name) b.0) refl

  move_listed : (rid parent : Rid) (name : List ℕ) → why_move held rid parent name ≡ None → AllByRecursion IsListable (move_to held rid parent name).items
  move_listed rid parent name e =
      let a = skipped _ _ _ e in
      let b = skipped _ _ _ a.1 in
      let c = skipped _ _ _ b.1 in
      moved held all rid parent name (or_false (rid.0 == 1) (not (is_live held rid)) (or_false ((rid.0 == 1) || not (is_live held rid)) (not (is_live_dir held parent)) a.0).0).0
      (or_false (parent.0 == rid.0) (is_under held parent rid) c.0).0 (not_false (is_name name) b.0)

  dead_listed : (rid : Rid) (expect : Version) → AllByRecursion IsListable (remove_at held rid expect).items
  dead_listed rid expect = one_at rid (λ s. record s { live = false; changed = held.clock + 1 }) held.items all.items (λ s k e h. dead_too (held.clock + 1) s h)

  put_any : (token : Token) (rid : Rid) (expect : Version) (parent : Rid) (name bytes : List ℕ) (new : Bool)
      → Listed (mutate held token (elim new as (λ _. Mutation) [ true ↦ put_new held parent name bytes | false ↦ put_version held rid expect bytes ]) (recorded_at held.tokens token)).1
  put_any token rid expect parent name bytes true = mutated held token (put_new held parent name bytes) (recorded_at held.tokens token) all.items (put_listed parent name bytes)
  put_any token rid expect parent name bytes false = mutated held token (put_version held rid expect bytes) (recorded_at held.tokens token) all.items (version_listed rid expect bytes)

  step_items : (q : Request) → Listed (remote_step held q).1
  step_items (request.Feed round after) = all.items
  step_items (request.List key rid) = all.items
  step_items (request.Fetch key rid version start len) = all.items
  step_items (request.Put token rid expect parent name bytes) = put_any token rid expect parent name bytes (rid.0 == 0)
  step_items (request.MakeDir token parent name) = mutated held token (make_dir held parent name) (recorded_at held.tokens token) all.items (dir_listed parent name)
  step_items (request.Move token rid parent name) = mutated held token (move_to held rid parent name) (recorded_at held.tokens token) all.items (move_listed rid parent name)
  step_items (request.Remove token rid expect) = mutated held token (remove_at held rid expect) (recorded_at held.tokens token) all.items (λ e. dead_listed rid expect)
  step_items (request.Settle token) = settled held token (recorded_at held.tokens token) all.items
  step_items (request.Keep token count) = kept held token count (recorded_at held.tokens token) all.items

  pub step_listable : (q : Request) → AreListable (remote_step held q).1
  step_listable q = record { counted = step_counts held q all.counted; items = step_items q }

pub empty_listable : AreListable empty_remote
empty_listable = record { counted = (refl, tt); items = (inl (refl, refl), tt) }

-- the listing of a directory

module _ (held : Held) (all : AreListable held) (rid : Rid) (dir : is_live_dir held rid ≡ true) where
  abbrev is_child : Stored → Bool
  is_child s = s.live && (s.parent.0 == rid.0)

  abbrev listed : List Entry
  listed = listing_of held rid

  of_child : (e : Entry) → In listed e → (s : Stored) × Has held.items s × (is_child s ≡ true) × (e ≡ entry_told s)
  of_child e h =
      let s = has_told (filter is_child held.items) e (in_sorted e (map entry_told (filter is_child held.items)) h) in
      let k = filter_has is_child held.items s.0 s.1 in
      (s.0, k.0, k.1, s.2)

  can_be : (e : Entry) → In listed e → is_entry [] e ≡ true
  can_be e h = let s = of_child e h in subst (λ (x : Entry). is_entry [] x ≡ true) (sym s.3) (by s.0 s.2 (all_has IsListable held.items all.items s.0 s.1)) where
    by : (s : Stored) → is_child s ≡ true → IsListable s → is_entry [] (entry_told s) ≡ true
    by s c (inl root) = absurd (omega (arith, root.1, eqb-true s.parent.0 rid.0 (and_parts s.live (s.parent.0 == rid.0) c).1, (there held rid (λ t. t.live && t.directory) all.counted dir).0))
    by s c (inr h) = h

  pub listed_names : (e : Entry) → In listed e → is_name e.name ≡ true
  listed_names e h = (parts (nat_lt 1 e.rid.0) (not (e.rid.0 == e.parent.0)) (is_name e.name) true (cond e.dir ((e.version.0 == 0) && (e.len == 0)) (nat_le 1 e.version.0 && nat_le e.len 16777216)) (can_be e h)).2

  pub listing_fits : AreApart listed → is_fit (list_of rid) (reply.Listing no_key listed) ≡ true
  listing_fits apart =
      let entries : are_entries [] listed ≡ true = and_from (list_all (is_entry []) listed) _ (entries_all (is_entry []) listed can_be) apart.rids in
      let own : is_listing rid listed ≡ true = and_from (list_all (λ e. e.live && (e.parent.0 == rid.0)) listed) _
      (entries_all (λ e. e.live && (e.parent.0 == rid.0)) listed (λ e h. let s = of_child e h in subst (λ (x : Entry). (x.live && (x.parent.0 == rid.0)) ≡ true) (sym s.3) s.2)) apart.names in
      rw (entries, own) refl
