-- The other changes, and what a change makes of all items.
use Rattle.std.proofs.Common.{◌≡◌, ℕ, zero, suc, ◌+◌, ◌<◌, ◌≤◌, Bool, true, false, ◌||◌, cond, List, [], ◌∷◌, ◌++◌, length, min, refl, sym, ap, ◌∙◌, subst, arith, Option, Some, None}
use Rattle.std.specs.Prelude.{replicate, not, unwrap_or, ◌==◌}
use Rattle.std.proofs.lemmas.Bool.Decides.{nat_tests}
use Rattle.cf_base.specs.declared.changes.Change.{Change}
use Rattle.cf_base.specs.declared.changes.Change.TheVariants as change
use Rattle.cf_base.specs.declared.ids.ItemId.{ItemId}
use Rattle.cf_base.specs.declared.ids.Usn.{Usn}
use Rattle.cf_base.specs.declared.items.Kind.{Kind}
use Rattle.cf_base.specs.declared.items.Kind.TheVariants as kind
use Rattle.cf_base.specs.declared.items.Pin.{Pin}
use Rattle.cf_model.specs.Effects.{changed, converted, copied, copies, effect, kept, later_than, made, marked, moved, pinned, populated, rebased, reverted, took, unmarked, without}
use Rattle.cf_model.specs.Items.{Item, bytes_held, item_of, pin_of, root, size_of}
use Rattle.cf_model.specs.Numbers.{above, is_no_usn}
use Rattle.cf_model.specs.Overlay.{Put, Resize, Written, is_covered}
use Rattle.cf_model.specs.Soundness.{AllLater, AllSound, AreUpTo, Each, IsBare, IsLater, IsPlain, IsSound, MadeNeeds, Needs}
use Rattle.cf_model.specs.Words.{passes_at}
use Rattle.cf_model.proofs.SoundItems.{above-refl, covered-more, got_sound, in-span, left_sound, sized_sound, upto-later, upto-more, validated_sound, wrote_sound}

-- Revert

length-bytes : (held : List (Option ℕ)) → length (bytes_held held) ≡ length held
length-bytes [] = refl
length-bytes (h ∷ hs) = λ i. suc (length-bytes hs i)

abbrev whole_put : Usn → Item → Written
whole_put n i = record { number = n; before = length i.held; write = Put 0 (bytes_held i.held) }

pub reverted_sound : (n : Usn) (i : Item) → IsSound i → is_no_usn n ≡ false → IsSound (reverted n i)
reverted_sound n i s given = record {
  as_long = s.as_long;
  valid = s.valid;
  past_base = λ p h k. past i.directory refl p k;
  numbers = upto i.directory;
  directory = λ d. let b : IsBare i = s.directory d in (b.0, rw d refl, refl);
  file = s.file;
  in_sync = λ e. cc;
  plain = λ e. (refl, refl, refl, refl);
  kept = λ e. cc;
} where
  past : (d : Bool) → i.directory ≡ d → (p : ℕ) → p < length i.held → is_covered (cond d [] (whole_put n i ∷ [])) p ≡ true
  past true e p k = let b : IsBare i = s.directory e in let z : length i.held ≡ 0 = ap (λ (xs : List (Option ℕ)). length xs) b.0 in absurd (omega (arith, z, k))
  past false e p k = rw (in-span (min 0 (length i.held)) (0 + length (bytes_held i.held)) p (omega arith) (omega (arith, k, length-bytes i.held))) refl

  upto : (d : Bool) → AreUpTo n (cond d [] (whole_put n i ∷ []))
  upto true = tt
  upto false = (above-refl n, given, tt)

-- Rebase

upto-filter : (n at : Usn) (ws : List Written) → AreUpTo n ws → AreUpTo n (later_than at ws)
upto-filter n at [] u = tt
upto-filter n at (w ∷ ws) u = by (above w.number at) (upto-filter n at ws u.2) where
  by : (b : Bool) → AreUpTo n (later_than at ws) → AreUpTo n (cond b (w ∷ later_than at ws) (later_than at ws))
  by true k = (u.0, u.1, k)
  by false k = k

above-none : (m at : Usn) → is_no_usn m ≡ false → is_no_usn at ≡ true → above m at ≡ true
above-none m at h k = grind (arith, nat_tests, h, k)

later-all : (n at : Usn) (ws : List Written) → is_no_usn at ≡ true → AreUpTo n ws → later_than at ws ≡ ws
later-all n at [] k u = refl
later-all n at (w ∷ ws) k u = rw (above-none w.number at u.1 k) (λ i. w ∷ later-all n at ws k u.2 i)

pub rebased_sound : (identity : List ℕ) (len : ℕ) (at : Usn) (i : Item) → IsSound i → i.placeholder ≡ true → (is_no_usn at ≡ false → len ≡ size_of i) → IsSound (rebased identity len at i)
rebased_sound identity len at i s place whole = record {
  as_long = s.as_long;
  valid = s.valid;
  past_base = past i.directory (is_no_usn at) refl refl;
  numbers = upto-filter i.number at i.writes s.numbers;
  directory = λ d. let b : IsBare i = s.directory d in (b.0, ap (later_than at) b.1, base d b.2);
  file = s.file;
  in_sync = λ e. ap (later_than at) (s.in_sync e);
  plain = λ e. let z : true ≡ false = sym place ∙ e in cc;
  kept = s.kept;
} where
  base : i.directory ≡ true → i.base ≡ None → cond (i.directory || is_no_usn at) i.base (Some len) ≡ None
  base d e = rw d e

  past : (d z : Bool) → i.directory ≡ d → is_no_usn at ≡ z → (p : ℕ) → unwrap_or (cond (d || z) i.base (Some len)) 0 ≤ p → p < length i.held → is_covered (later_than at i.writes) p ≡ true
  past true z e f p h k = let b : IsBare i = s.directory e in let q : length i.held ≡ 0 = ap (λ (xs : List (Option ℕ)). length xs) b.0 in absurd (omega (arith, q, k))
  past false true e f p h k = ap (λ (ws : List Written). is_covered ws p) (later-all i.number at i.writes f s.numbers) ∙ s.past_base p h k
  past false false e f p h k = absurd (omega (arith, whole f, h, k))

-- Take and Mark

length-replicate : {A : Type 0} (n : ℕ) (x : A) → length (replicate n x) ≡ n
length-replicate zero x = refl
length-replicate (suc n) x = λ i. suc (length-replicate n x i)

none-valid : (n p : ℕ) → passes_at (λ b. b) (replicate n false) p ≡ true → false ≡ true
none-valid zero p h = h
none-valid (suc n) zero h = h
none-valid (suc n) (suc p) h = none-valid n p h

pub took_sound : (identity : List ℕ) (size : ℕ) (n : Usn) (i : Item) → IsSound i → i.placeholder ≡ true → i.directory ≡ false → IsSound (took identity size n i)
took_sound identity size n i s place file = record {
  as_long = length-replicate size false ∙ sym (length-replicate {A = Option ℕ} size None);
  valid = λ p h. let z : false ≡ true = none-valid size p h in cc;
  past_base = λ p h k. absurd (omega (arith, h, k, length-replicate {A = Option ℕ} size None));
  numbers = tt;
  directory = λ d. let z : true ≡ false = sym d ∙ file in cc;
  file = s.file;
  in_sync = λ e. refl;
  plain = λ e. let z : true ≡ false = sym place ∙ e in cc;
  kept = s.kept;
}

pub marked_sound : (i : Item) → IsSound i → i.placeholder ≡ true → IsSound (marked i)
marked_sound i s place = record {
  as_long = s.as_long;
  valid = s.valid;
  past_base = past i.directory refl;
  numbers = tt;
  directory = λ d. let b : IsBare i = s.directory d in (b.0, refl, rw d refl);
  file = s.file;
  in_sync = λ e. refl;
  plain = λ e. let z : true ≡ false = sym place ∙ e in cc;
  kept = s.kept;
} where
  past : (d : Bool) → i.directory ≡ d → (p : ℕ) → unwrap_or (cond d None (Some (length i.held))) 0 ≤ p → p < length i.held → is_covered [] p ≡ true
  past true e p h k = let b : IsBare i = s.directory e in let q : length i.held ≡ 0 = ap (λ (xs : List (Option ℕ)). length xs) b.0 in absurd (omega (arith, q, k))
  past false e p h k = absurd (omega (arith, h, k))

-- flags, names and pins

pub moved_sound : (parent : ItemId) (name : List ℕ) (pin : Pin) (n : Usn) (i : Item) → IsSound i → IsLater n i → IsSound (moved parent name pin n i)
moved_sound parent name pin n i s later = record {
  as_long = s.as_long;
  valid = s.valid;
  past_base = s.past_base;
  numbers = upto-later i.number n i.writes later s.numbers;
  directory = s.directory;
  file = s.file;
  in_sync = λ e. cc;
  plain = λ e. let q : IsPlain i = s.plain e in (q.0, q.1, refl, q.3);
  kept = s.kept;
}

pub pinned_sound : (pin : Pin) (i : Item) → IsSound i → IsSound (pinned pin i)
pinned_sound pin i s = record {
  as_long = s.as_long;
  valid = s.valid;
  past_base = s.past_base;
  numbers = s.numbers;
  directory = s.directory;
  file = s.file;
  in_sync = s.in_sync;
  plain = s.plain;
  kept = s.kept;
}

pub unmarked_sound : (i : Item) → IsSound i → IsSound (unmarked i)
unmarked_sound i s = record {
  as_long = s.as_long;
  valid = s.valid;
  past_base = s.past_base;
  numbers = s.numbers;
  directory = s.directory;
  file = s.file;
  in_sync = λ e. cc;
  plain = λ e. let q : IsPlain i = s.plain e in (q.0, q.1, refl, q.3);
  kept = s.kept;
}

pub converted_sound : (identity : List ℕ) (n : Usn) (i : Item) → IsSound i → IsLater n i → IsSound (converted identity n i)
converted_sound identity n i s later = record {
  as_long = s.as_long;
  valid = s.valid;
  past_base = s.past_base;
  numbers = upto-later i.number n i.writes later s.numbers;
  directory = s.directory;
  file = s.file;
  in_sync = λ e. cc;
  plain = λ e. cc;
  kept = s.kept;
}

pub populated_sound : (i : Item) → IsSound i → i.directory ≡ true → IsSound (populated i)
populated_sound i s d = record {
  as_long = s.as_long;
  valid = s.valid;
  past_base = s.past_base;
  numbers = s.numbers;
  directory = s.directory;
  file = λ e. let z : true ≡ false = sym d ∙ e in cc;
  in_sync = s.in_sync;
  plain = s.plain;
  kept = s.kept;
}

pub kept_sound : (on : Bool) (i : Item) → IsSound i → i.placeholder ≡ true → i.directory ≡ false → IsSound (kept on i)
kept_sound on i s place file = record {
  as_long = s.as_long;
  valid = s.valid;
  past_base = s.past_base;
  numbers = s.numbers;
  directory = s.directory;
  file = s.file;
  in_sync = s.in_sync;
  plain = λ e. let z : true ≡ false = sym place ∙ e in cc;
  kept = λ e. file;
}

-- new items

pub made_sound : (id parent : ItemId) (name : List ℕ) (k : Kind) (size : ℕ) (identity : List ℕ) (pin : Pin) (n : Usn) → is_no_usn n ≡ false → MadeNeeds k identity → IsSound (made id parent name k size identity pin n)
made_sound id parent name kind.File size identity pin n given fit = record {
  as_long = refl;
  valid = λ p h. cc;
  past_base = λ p h k. absurd (omega (arith, k));
  numbers = (above-refl n, given, tt);
  directory = λ d. cc;
  file = λ e. refl;
  in_sync = λ e. cc;
  plain = λ e. (fit, refl, refl, refl);
  kept = λ e. cc;
}
made_sound id parent name kind.Dir size identity pin n given fit = record {
  as_long = refl;
  valid = λ p h. cc;
  past_base = λ p h k. absurd (omega (arith, k));
  numbers = tt;
  directory = λ d. (refl, refl, refl);
  file = λ e. cc;
  in_sync = λ e. cc;
  plain = λ e. (fit, refl, refl, refl);
  kept = λ e. cc;
}
made_sound id parent name kind.PlaceholderFile size identity pin n given fit = record {
  as_long = length-replicate size false ∙ sym (length-replicate {A = Option ℕ} size None);
  valid = λ p h. let z : false ≡ true = none-valid size p h in cc;
  past_base = λ p h k. absurd (omega (arith, h, k, length-replicate {A = Option ℕ} size None));
  numbers = tt;
  directory = λ d. cc;
  file = λ e. refl;
  in_sync = λ e. cc;
  plain = λ e. cc;
  kept = λ e. cc;
}
made_sound id parent name kind.PlaceholderDir size identity pin n given fit = record {
  as_long = refl;
  valid = λ p h. cc;
  past_base = λ p h k. absurd (omega (arith, k));
  numbers = tt;
  directory = λ d. (refl, refl, refl);
  file = λ e. cc;
  in_sync = λ e. cc;
  plain = λ e. cc;
  kept = λ e. cc;
}
made_sound id parent name kind.UnpopulatedDir size identity pin n given fit = record {
  as_long = refl;
  valid = λ p h. cc;
  past_base = λ p h k. absurd (omega (arith, k));
  numbers = tt;
  directory = λ d. (refl, refl, refl);
  file = λ e. cc;
  in_sync = λ e. cc;
  plain = λ e. cc;
  kept = λ e. cc;
}

pub copied_sound : (id parent : ItemId) (name : List ℕ) (pin : Pin) (n : Usn) (i : Item) → IsSound i → IsLater n i → is_no_usn n ≡ false → i.directory ≡ false → IsSound (copied id parent name pin n i)
copied_sound id parent name pin n i s later given file = record {
  as_long = s.as_long;
  valid = s.valid;
  past_base = λ p h k. covered-more i.writes _ p (s.past_base p h k);
  numbers = upto-more n i.writes (record { number = n; before = length i.held; write = Resize (length i.held) }) (above-refl n) given (upto-later i.number n i.writes later s.numbers);
  directory = λ d. let z : true ≡ false = sym d ∙ file in cc;
  file = s.file;
  in_sync = λ e. cc;
  plain = λ e. cc;
  kept = λ e. cc;
}

-- all items

changed-sound : (id : ItemId) (n : Usn) (f : Item → Item) (P : Item → Type 0) → ((i : Item) → IsSound i → IsLater n i → P i → IsSound (f i))
    → (items : List Item) → AllSound items → AllLater n items → Each id P items → AllSound (changed id f items)
changed-sound id n f P h [] a l e = tt
changed-sound id n f P h (i ∷ is) a l e = (by (i.id.0 == id.0) e.0, changed-sound id n f P h is a.1 l.1 e.1) where
  by : (b : Bool) → (b ≡ true → P i) → IsSound (cond b (f i) i)
  by true k = h i a.0 l.0 (k refl)
  by false k = a.0

anyhow : (id : ItemId) (items : List Item) → Each id (λ i. Unit {0}) items
anyhow id [] = tt
anyhow id (i ∷ is) = (λ e. tt, anyhow id is)

append-sound : (items : List Item) (i : Item) → AllSound items → IsSound i → AllSound (items ++ i ∷ [])
append-sound [] i a s = (s, tt)
append-sound (j ∷ is) i a s = (a.0, append-sound is i a.1 s)

without-sound : (id : ItemId) (items : List Item) → AllSound items → AllSound (without id items)
without-sound id [] a = tt
without-sound id (i ∷ is) a = by (not (i.id.0 == id.0)) (without-sound id is a.1) where
  by : (b : Bool) → AllSound (without id is) → AllSound (cond b (i ∷ without id is) (without id is))
  by true k = (a.0, k)
  by false k = k

pub record Copyable (n : Usn) (i : Item) : Type 0 where
  pub sound : IsSound i
  pub later : IsLater n i
  pub file : i.directory ≡ false

abbrev IfCopyable : Usn → Option Item → Type 0
IfCopyable n None = Unit {0}
IfCopyable n (Some i) = Copyable n i

found : (from : ItemId) (n : Usn) (items : List Item) → AllSound items → AllLater n items → Each from (λ i. i.directory ≡ false) items → (i : Item) → item_of items from ≡ Some i → Copyable n i
found from n [] a l e i h = cc
found from n (j ∷ is) a l e i h = by (j.id.0 == from.0) e.0 (found from n is a.1 l.1 e.1 i) h where
  by : (b : Bool) → (b ≡ true → j.directory ≡ false) → (item_of is from ≡ Some i → Copyable n i) → cond b (Some j) (item_of is from) ≡ Some i → Copyable n i
  by true k q h = subst (IfCopyable n) h (record { sound = a.0; later = l.0; file = k refl })
  by false k q h = q h

nothing-more : (items : List Item) → AllSound items → AllSound (items ++ [])
nothing-more [] a = tt
nothing-more (i ∷ is) a = (a.0, nothing-more is a.1)

copies-sound : (id from parent : ItemId) (name : List ℕ) (pin : Pin) (n : Usn) (items : List Item) → AllSound items → AllLater n items → is_no_usn n ≡ false
    → Each from (λ i. i.directory ≡ false) items → AllSound (items ++ copies id parent name pin n (item_of items from))
copies-sound id from parent name pin n items a l given e = by (item_of items from) refl where
  by : (o : Option Item) → item_of items from ≡ o → AllSound (items ++ copies id parent name pin n o)
  by None h = nothing-more items a
  by (Some i) h = let c : Copyable n i = found from n items a l e i h in append-sound items (copied id parent name pin n i) a (copied_sound id parent name pin n i c.sound c.later given c.file)

pub effect_sound : (items : List Item) (c : Change) (n : Usn) → is_no_usn n ≡ false → AllLater n items → Needs c items → AllSound items → AllSound (effect items c n)
effect_sound items (change.Make item parent name k size identity) n g l e a = append-sound items _ a (made_sound item parent name k size identity (pin_of items parent) n g e)
effect_sound items (change.Remove item) n g l e a = without-sound item items a
effect_sound items (change.Move item parent name) n g l e a = changed-sound item n _ (λ i. Unit {0}) (λ i s t u. moved_sound parent name (pin_of items parent) n i s t) items a l (anyhow item items)
effect_sound items (change.Write item at bytes) n g l e a = changed-sound item n _ _ (λ i s t u. wrote_sound at bytes n i s t g u) items a l e
effect_sound items (change.Size item size) n g l e a = changed-sound item n _ _ (λ i s t u. sized_sound size n i s t g u) items a l e
effect_sound items (change.Filled item start bytes) n g l e a = changed-sound item n _ (λ i. Unit {0}) (λ i s t u. got_sound start bytes i s) items a l (anyhow item items)
effect_sound items (change.Validated item start len) n g l e a = changed-sound item n _ (λ i. Unit {0}) (λ i s t u. validated_sound start len i s) items a l (anyhow item items)
effect_sound items (change.Emptied item start len) n g l e a = changed-sound item n _ (λ i. Unit {0}) (λ i s t u. left_sound start len i s) items a l (anyhow item items)
effect_sound items (change.SetPin item pin) n g l e a = changed-sound item n _ (λ i. Unit {0}) (λ i s t u. pinned_sound pin i s) items a l (anyhow item items)
effect_sound items (change.Mark item number) n g l e a = changed-sound item n _ _ (λ i s t u. marked_sound i s u) items a l e
effect_sound items (change.Clear item) n g l e a = changed-sound item n _ (λ i. Unit {0}) (λ i s t u. unmarked_sound i s) items a l (anyhow item items)
effect_sound items (change.Convert item identity) n g l e a = changed-sound item n _ (λ i. Unit {0}) (λ i s t u. converted_sound identity n i s t) items a l (anyhow item items)
effect_sound items (change.Revert item) n g l e a = changed-sound item n _ (λ i. Unit {0}) (λ i s t u. reverted_sound n i s g) items a l (anyhow item items)
effect_sound items (change.Rebase item identity len at) n g l e a = changed-sound item n _ _ (λ i s t u. rebased_sound identity len at i s u.0 u.1) items a l e
effect_sound items (change.Take item identity size) n g l e a = changed-sound item n _ _ (λ i s t u. took_sound identity size n i s u.0 u.1) items a l e
effect_sound items (change.Copy item from parent name) n g l e a = copies-sound item from parent name (pin_of items parent) n items a l g e
effect_sound items (change.Populated item) n g l e a = changed-sound item n _ _ (λ i s t u. populated_sound i s u) items a l e
effect_sound items (change.Keep item on) n g l e a = changed-sound item n _ _ (λ i s t u. kept_sound on i s u.0 u.1) items a l e

pub root_sound : AllSound (root ∷ [])
root_sound = (
  record {
    as_long = refl;
    valid = λ p h. cc;
    past_base = λ p h k. absurd (omega (arith, k));
    numbers = tt;
    directory = λ d. (refl, refl, refl);
    file = λ e. cc;
    in_sync = λ e. cc;
    plain = λ e. (refl, refl, refl, refl);
    kept = λ e. cc;
  },
  tt,
)
