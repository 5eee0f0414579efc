-- Each kind of change keeps contents as what is held over the base.
use Rattle.std.proofs.Common.{List, [], ◌∷◌, ◌++◌, refl, ◌≡◌, ◌∙◌, sym, ap, subst, arith, ℕ, Bool, true, false, ◌+◌, ◌-◌, length}
use Rattle.std.specs.Prelude.{Option, Some, None, zero, suc, take, drop, map, cond, not, unwrap_or, is_some, ◌==◌}
use Rattle.std.specs.List.{list_all}
use Rattle.cf_base.specs.declared.changes.Change.{Change}
use Rattle.cf_base.specs.declared.changes.Change.TheVariants as change
use Rattle.cf_base.specs.declared.ids.ItemId.{ItemId}
use Rattle.cf_base.specs.declared.ids.Usn.{Usn}
use Rattle.cf_base.specs.declared.items.Kind.{Kind}
use Rattle.cf_base.specs.declared.items.Kind.TheVariants as kind
use Rattle.cf_base.specs.declared.items.Pin.{Pin}
use Rattle.cf_model.specs.Contents.{AllTrueTo, IsTrueTo, StaysBy, Suits, base_named, laid}
use Rattle.cf_model.specs.Effects.{changed, converted, copied, copies, effect, got, kept, later_than, left_out, made, marked, moved, pinned, populated, rebased, reverted, size_made, sized, took, unmarked, untargeted, validated_in, without, wrote}
use Rattle.cf_model.specs.Identities.{base_bytes, content}
use Rattle.cf_model.specs.Items.{Item, bytes_held, item_of, pin_of, writes_of}
use Rattle.cf_model.specs.Numbers.{no_rid}
use Rattle.cf_model.specs.Overlay.{Put, Resize, Written, over, patched, resized}
use Rattle.cf_model.specs.Soundness.{Each}
use Rattle.cf_model.specs.Store.{Held, Stored, bytes_of, stored_at, version_bytes}
use Rattle.cf_model.specs.Words.{number_of}
use Rattle.cf_model.proofs.Laying.{drop-none, laid-emptied, laid-filled, laid-full, laid-length, laid-nones, laid-patched, laid-resized, map-append, over-append}

-- of one item

pub wrote-true : (r : Held) (at : ℕ) (bytes : List ℕ) (n : Usn) (i : Item) → IsTrueTo r i → IsTrueTo r (wrote at bytes n i)
wrote-true r at bytes n i e =
    ap (over (base_bytes r i)) (map-append (λ w. w.write) i.writes (record { number = n; before = length i.held; write = Put at bytes }))
    ∙ over-append (base_bytes r i) (writes_of i) (Put at bytes)
    ∙ ap (λ (x : List ℕ). patched 0 at bytes x) e
    ∙ sym (laid-patched at bytes i.held (base_bytes r i))

pub sized-true : (r : Held) (size : ℕ) (n : Usn) (i : Item) → IsTrueTo r i → IsTrueTo r (sized size n i)
sized-true r size n i e =
    ap (over (base_bytes r i)) (map-append (λ w. w.write) i.writes (record { number = n; before = length i.held; write = Resize size }))
    ∙ over-append (base_bytes r i) (writes_of i) (Resize size)
    ∙ ap (λ (x : List ℕ). resized 0 size x) e
    ∙ sym (laid-resized size i.held (base_bytes r i))

pub got-true : (r : Held) (start : ℕ) (bytes : List ℕ) (i : Item) → take (length bytes) (drop start (base_bytes r i)) ≡ bytes → IsTrueTo r i → IsTrueTo r (got start bytes i)
got-true r start bytes i is e = e ∙ sym (laid-filled start bytes i.held (base_bytes r i) is)

pub clean-content : (r : Held) (i : Item) → i.writes ≡ [] → content r i ≡ base_bytes r i
clean-content r i is = ap (λ (ws : List Written). over (base_bytes r i) (map (λ w. w.write) ws)) is

pub left_out-true : (r : Held) (start len : ℕ) (i : Item) → i.writes ≡ [] → IsTrueTo r i → IsTrueTo r (left_out start len i)
left_out-true r start len i is e = clean-content r i is ∙ laid-emptied _ 0 i.held (base_bytes r i) (sym (clean-content r i is) ∙ e)

pub marked-true : (r : Held) (i : Item) → i.writes ≡ [] → IsTrueTo r i → IsTrueTo r (marked i)
marked-true r i is e = sym (clean-content r i is) ∙ e

pub converted-true : (r : Held) (identity : List ℕ) (n : Usn) (i : Item) → base_named r identity ≡ base_bytes r i → IsTrueTo r i → IsTrueTo r (converted identity n i)
converted-true r identity n i is e = ap (λ (b : List ℕ). over b (writes_of i)) is ∙ e ∙ ap (λ (b : List ℕ). laid i.held b) (sym is)

pub rebased-true : (r : Held) (identity : List ℕ) (len : ℕ) (at : Usn) (i : Item) → StaysBy (base_bytes r i) (base_named r identity) (later_than at i.writes) i → IsTrueTo r i → IsTrueTo r (rebased identity len at i)
rebased-true r identity len at i is e = is.0 ∙ e ∙ sym is.1

pub took-true : (r : Held) (identity : List ℕ) (size : ℕ) (n : Usn) (i : Item) → length (base_named r identity) ≡ size → IsTrueTo r i → IsTrueTo r (took identity size n i)
took-true r identity size n i is e = sym (laid-nones size (base_named r identity) is)

pub no-version : (s : Option Stored) → version_bytes s 0 ≡ None
no-version None = refl
no-version (Some s) = refl

pub no-identity : (r : Held) → base_named r [] ≡ []
no-identity r = ap (λ (b : Option (List ℕ)). unwrap_or b []) (no-version (stored_at r.items no_rid))

pub take-self : (xs : List ℕ) (n : ℕ) → length xs ≡ n → resized 0 n xs ≡ xs
take-self [] zero e = refl
take-self [] (suc n) e = cc
take-self (x ∷ xs) zero e = cc
take-self (x ∷ xs) (suc n) e =
    let k : length xs ≡ n = omega arith in let m : suc n - suc (length xs) ≡ n - length xs = omega arith in rw m (ap (λ (ys : List ℕ). x ∷ ys) (take-self xs n k))

pub put-all : (bs : List ℕ) → patched 0 0 bs [] ≡ bs
put-all bs = ap (λ (ys : List ℕ). bs ++ ys) (drop-none (0 + length bs)) ∙ append-nil bs where
  append-nil : (xs : List ℕ) → xs ++ [] ≡ xs
  append-nil [] = refl
  append-nil (x ∷ xs) = ap (λ (ys : List ℕ). x ∷ ys) (append-nil xs)

pub reverted-true : (r : Held) (n : Usn) (i : Item) → (list_all is_some i.held ≡ true) × (i.directory ≡ true → i.held ≡ []) → IsTrueTo r i → IsTrueTo r (reverted n i)
reverted-true r n i is e =
    let none : base_named r [] ≡ [] = no-identity r in
    ap (λ (b : List ℕ). over b (writes_of (reverted n i))) none ∙ by i.directory is.1 ∙ ap (λ (b : List ℕ). laid i.held b) (sym none) where
      by : (d : Bool) → (d ≡ true → i.held ≡ []) → over [] (map (λ (w : Written). w.write) (cond d [] (record { number = n; before = length i.held; write = Put 0 (bytes_held i.held) } ∷ []))) ≡ laid i.held []
      by true h = sym (ap (λ (hs : List (Option ℕ)). laid hs []) (h refl))
      by false h = put-all (bytes_held i.held) ∙ sym (laid-full i.held [] is.0)

pub made-true : (r : Held) (id parent : ItemId) (name : List ℕ) (k : Kind) (size : ℕ) (identity : List ℕ) (pin : Pin) (n : Usn)
    → length (base_named r identity) ≡ size_made k size → IsTrueTo r (made id parent name k size identity pin n)
made-true r id parent name kind.File size identity pin n is = refl
made-true r id parent name kind.Dir size identity pin n is = sym (laid-nones 0 (base_named r identity) is)
made-true r id parent name kind.PlaceholderFile size identity pin n is = sym (laid-nones size (base_named r identity) is)
made-true r id parent name kind.PlaceholderDir size identity pin n is = sym (laid-nones 0 (base_named r identity) is)
made-true r id parent name kind.UnpopulatedDir size identity pin n is = sym (laid-nones 0 (base_named r identity) is)

pub drop-more : (n : ℕ) (xs : List ℕ) → drop 8 (drop n xs) ≡ drop (n + 8) xs
drop-more zero xs = refl
drop-more (suc n) [] = let e : suc n + 8 ≡ suc (n + 8) = omega arith in rw e refl
drop-more (suc n) (x ∷ xs) = let e : suc n + 8 ≡ suc (n + 8) = omega arith in rw e (drop-more n xs)

pub untargeted-base : (r : Held) (identity : List ℕ) → base_named r (untargeted identity) ≡ base_named r identity
untargeted-base r identity =
    ap (λ (v : List ℕ). unwrap_or (bytes_of r (record { 0 = number_of (take 8 (drop 8 identity)) }) (record { 0 = number_of v })) []) (drop-more 8 identity)

pub copied-true : (r : Held) (id parent : ItemId) (name : List ℕ) (pin : Pin) (n : Usn) (i : Item) → IsTrueTo r i → IsTrueTo r (copied id parent name pin n i)
copied-true r id parent name pin n i e =
    let size : ℕ = length i.held in
    let w : Written = record { number = n; before = length i.held; write = Resize (length i.held) } in
    let same : base_named r (untargeted i.identity) ≡ base_bytes r i = untargeted-base r i.identity in
    ap (λ (b : List ℕ). over b (map (λ w. w.write) (i.writes ++ w ∷ []))) same
    ∙ ap (over (base_bytes r i)) (map-append (λ w. w.write) i.writes w)
    ∙ over-append (base_bytes r i) (writes_of i) (Resize (length i.held))
    ∙ ap (λ (x : List ℕ). resized 0 (length i.held) x) e
    ∙ take-self (laid i.held (base_bytes r i)) (length i.held) (laid-length i.held (base_bytes r i))
    ∙ ap (λ (b : List ℕ). laid i.held b) (sym same)

-- of all

pub changed-true : (r : Held) (id : ItemId) (f : Item → Item) (P : Item → Type 0) → ((i : Item) → P i → IsTrueTo r i → IsTrueTo r (f i))
    → (items : List Item) → Each id P items → AllTrueTo r items → AllTrueTo r (changed id f items)
changed-true r id f P h [] p a = tt
changed-true r id f P h (i ∷ is) p a = (one (i.id.0 == id.0) p.0, changed-true r id f P h is p.1 a.1) where
  one : (b : Bool) → (b ≡ true → P i) → IsTrueTo r (cond b (f i) i)
  one true q = h i (q refl) a.0
  one false q = a.0

pub each-any : (id : ItemId) (items : List Item) → Each id (λ i. Unit {0}) items
each-any id [] = tt
each-any id (i ∷ is) = (λ e. tt, each-any id is)

pub plain-true : (r : Held) (id : ItemId) (f : Item → Item) → ((i : Item) → IsTrueTo r i → IsTrueTo r (f i))
    → (items : List Item) → AllTrueTo r items → AllTrueTo r (changed id f items)
plain-true r id f h items a = changed-true r id f (λ i. Unit {0}) (λ i u e. h i e) items (each-any id items) a

pub without-true : (r : Held) (id : ItemId) (items : List Item) → AllTrueTo r items → AllTrueTo r (without id items)
without-true r id [] a = tt
without-true r id (i ∷ is) a = one (not (i.id.0 == id.0)) (without-true r id is a.1) where
  one : (b : Bool) → AllTrueTo r (without id is) → AllTrueTo r (cond b (i ∷ without id is) (without id is))
  one true h = (a.0, h)
  one false h = h

pub append-true : (r : Held) (items more : List Item) → AllTrueTo r items → AllTrueTo r more → AllTrueTo r (items ++ more)
append-true r [] more a b = b
append-true r (i ∷ is) more a b = (a.0, append-true r is more a.1 b)

pub item_of-true : (r : Held) (id : ItemId) (items : List Item) (i : Item) → AllTrueTo r items → item_of items id ≡ Some i → IsTrueTo r i
item_of-true r id [] i a e = cc
item_of-true r id (j ∷ js) i a e = one (j.id.0 == id.0) (item_of-true r id js i a.1) e where
  one : (b : Bool) → (item_of js id ≡ Some i → IsTrueTo r i) → cond b (Some j) (item_of js id) ≡ Some i → IsTrueTo r i
  one true h e = subst (λ (x : Item). IsTrueTo r x) (let k : j ≡ i = cc in k) a.0
  one false h e = h e

pub copies-true : (r : Held) (id from parent : ItemId) (name : List ℕ) (pin : Pin) (n : Usn) (items : List Item) → AllTrueTo r items → AllTrueTo r (copies id parent name pin n (item_of items from))
copies-true r id from parent name pin n items a = one (item_of items from) (λ i e. item_of-true r from items i a e) where
  one : (o : Option Item) → ((i : Item) → o ≡ Some i → IsTrueTo r i) → AllTrueTo r (copies id parent name pin n o)
  one None h = tt
  one (Some i) h = (copied-true r id parent name pin n i (h i refl), tt)

pub effect_true : (r : Held) (items : List Item) (c : Change) (n : Usn) → AllTrueTo r items → Suits r c items → AllTrueTo r (effect items c n)
effect_true r items (change.Make item parent name kind size identity) n a h = append-true r items _ a (made-true r item parent name kind size identity (pin_of items parent) n h, tt)
effect_true r items (change.Remove item) n a h = without-true r item items a
effect_true r items (change.Move item parent name) n a h = plain-true r item (moved parent name (pin_of items parent) n) (λ i e. e) items a
effect_true r items (change.Write item at bytes) n a h = plain-true r item (wrote at bytes n) (wrote-true r at bytes n) items a
effect_true r items (change.Size item size) n a h = plain-true r item (sized size n) (sized-true r size n) items a
effect_true r items (change.Filled item start bytes) n a h = changed-true r item (got start bytes) _ (got-true r start bytes) items h a
effect_true r items (change.Validated item start len) n a h = plain-true r item (validated_in start len) (λ i e. e) items a
effect_true r items (change.Emptied item start len) n a h = changed-true r item (left_out start len) _ (left_out-true r start len) items h a
effect_true r items (change.SetPin item pin) n a h = plain-true r item (pinned pin) (λ i e. e) items a
effect_true r items (change.Mark item number) n a h = changed-true r item marked _ (marked-true r) items h a
effect_true r items (change.Clear item) n a h = plain-true r item unmarked (λ i e. e) items a
effect_true r items (change.Convert item identity) n a h = changed-true r item (converted identity n) _ (converted-true r identity n) items h a
effect_true r items (change.Revert item) n a h = changed-true r item (reverted n) _ (reverted-true r n) items h a
effect_true r items (change.Rebase item identity len at) n a h = changed-true r item (rebased identity len at) _ (rebased-true r identity len at) items h a
effect_true r items (change.Take item identity size) n a h = changed-true r item (took identity size n) _ (took-true r identity size n) items h a
effect_true r items (change.Copy item from parent name) n a h = append-true r items _ a (copies-true r item from parent name (pin_of items parent) n items a)
effect_true r items (change.Populated item) n a h = plain-true r item populated (λ i e. e) items a
effect_true r items (change.Keep item on) n a h = plain-true r item (kept on) (λ i e. e) items a
