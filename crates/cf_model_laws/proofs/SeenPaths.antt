-- What a path that comes to be seen leaves, and what the last change is.
use Rattle.std.proofs.Common.{◌≡◌, ℕ, Bool, true, false, List, [], ◌∷◌, ◌++◌, refl, sym, ◌∙◌, ap, subst, inl, inr, eq-eqb}
use Rattle.std.specs.Prelude.{Option, Some, cond, filter, find, nat_lt, not, ◌==◌}
use Rattle.std.proofs.lemmas.Bool.{eqb-true}
use Rattle.cf_base.specs.declared.changes.Change.{Change}
use Rattle.cf_base.specs.declared.changes.Change.TheVariants as change
use Rattle.cf_base.specs.declared.ids.ItemId.{ItemId}
use Rattle.cf_base.specs.declared.ids.Usn.{Usn}
use Rattle.cf_base.specs.declared.items.SeenPath.{SeenPath}
use Rattle.cf_model.specs.Books.{Book, seen_of, with_seen, without_seen}
use Rattle.cf_model.specs.Identities.{stands_at_path}
use Rattle.cf_model.specs.Items.{Item}
use Rattle.cf_model.specs.State.{State}
use Rattle.cf_model.specs.Words.{put_in, says}
use Rattle.cf_model_laws.specs.Fitting.{IsNaming}
use Rattle.cf_model_laws.specs.Marks.{IsMadeLast, IsMarkedLast, StandsAtSeen}
use Rattle.cf_model_laws.proofs.FoundItems.{found_id}
use Rattle.cf_model_laws.proofs.Guarded.{IsNamedLast, StandsAtPath, StandsStill}
use Rattle.cf_model_laws.proofs.SkipsGuarded.{Led}
use Rattle.cf_model_laws.proofs.SoundSettles.{same_item}

-- what is found

find_past : {A : Type 0} (test : A → Bool) (before : A → A → Bool) (x : A) (xs : List A) → test x ≡ false → find test (put_in before x xs) ≡ find test xs
find_past test before x [] e = rw e refl
find_past test before x (y ∷ ys) e = by (before y x) (find_past test before x ys e) where
  by : (b : Bool) → find test (put_in before x ys) ≡ find test ys → find test (cond b (y ∷ put_in before x ys) (x ∷ y ∷ ys)) ≡ find test (y ∷ ys)
  by true h = ap (λ (o : Option _). cond (test y) (Some y) o) h
  by false h = rw e refl

abbrev NoneOf : {A : Type 0} → (A → Bool) → List A → Type 0
NoneOf test [] = Unit {0}
NoneOf test (x ∷ xs) = (test x ≡ false) × NoneOf test xs

find_put : {A : Type 0} (test : A → Bool) (before : A → A → Bool) (x : A) (xs : List A) → test x ≡ true → NoneOf test xs → find test (put_in before x xs) ≡ Some x
find_put test before x [] e h = rw e refl
find_put test before x (y ∷ ys) e h = by (before y x) (find_put test before x ys e h.1) where
  by : (b : Bool) → find test (put_in before x ys) ≡ Some x → find test (cond b (y ∷ put_in before x ys) (x ∷ y ∷ ys)) ≡ Some x
  by true g = rw h.0 g
  by false g = rw e refl

none_left : {A : Type 0} (out : A → Bool) (xs : List A) → NoneOf out (filter (λ x. not (out x)) xs)
none_left out [] = tt
none_left out (x ∷ xs) = by (out x) refl (none_left out xs) where
  by : (b : Bool) → out x ≡ b → NoneOf out (filter (λ x. not (out x)) xs) → NoneOf out (cond (not b) (x ∷ filter (λ x. not (out x)) xs) (filter (λ x. not (out x)) xs))
  by true q h = h
  by false q h = (q, h)

find_left : {A : Type 0} (test out : A → Bool) (xs : List A) → ((x : A) → out x ≡ true → test x ≡ false) → find test (filter (λ x. not (out x)) xs) ≡ find test xs
find_left test out [] k = refl
find_left test out (x ∷ xs) k = by (out x) refl (find_left test out xs k) where
  by : (b : Bool) → out x ≡ b → find test (filter (λ x. not (out x)) xs) ≡ find test xs → find test (cond (not b) (x ∷ filter (λ x. not (out x)) xs) (filter (λ x. not (out x)) xs)) ≡ find test (x ∷ xs)
  by true q h = rw (k x q) h
  by false q h = ap (λ (o : Option _). cond (test x) (Some x) o) h

-- paths

abbrev first_seen : SeenPath → SeenPath → Bool
first_seen x y = nat_lt x.item.0 y.item.0

-- the path of another item
pub seen_past : (p : SeenPath) (b : Book) (id : ItemId) → (p.item.0 == id.0) ≡ false → seen_of (with_seen p b) id ≡ seen_of b id
seen_past p b id e =
    find_past (λ q. q.item.0 == id.0) first_seen p (without_seen p.item b.seen) e
    ∙ find_left (λ q. q.item.0 == id.0) (λ q. q.item.0 == p.item.0) b.seen (λ q z. subst (λ (n : ℕ). (n == id.0) ≡ false) (sym (eqb-true q.item.0 p.item.0 z)) e)

pub seen_put : (p : SeenPath) (b : Book) → seen_of (with_seen p b) p.item ≡ Some p
seen_put p b = find_put (λ q. q.item.0 == p.item.0) first_seen p (without_seen p.item b.seen) (eq-eqb p.item.0 p.item.0 refl) (none_left (λ q. q.item.0 == p.item.0) b.seen)

-- a path that is seen is seen
pub sees_own : (p : SeenPath) (items : List Item) (b : Book) → StandsAtPath items p.item p → StandsAtSeen items (with_seen p b) p.item
sees_own p items b h =
    (h.0, h.1, subst (λ (n : ℕ). says (stands_at_path items h.0) (find (λ q. q.item.0 == n) (with_seen p b).seen) ≡ true) (sym (found_id p.item items h.0 h.1)) (subst (λ (o : Option SeenPath). says (stands_at_path items h.0) o ≡ true) (sym (seen_put p b)) h.2))

-- an item stays where it stands, where the path that comes to be seen is its own or of another item
pub sees_still : (p : SeenPath) (items : List Item) (b : Book) (item : ItemId) → ((p.item.0 == item.0) ≡ true → StandsAtPath items item p) → StandsStill items b (with_seen p b) item
sees_still p items b item own = by (p.item.0 == item.0) refl where
  by : (c : Bool) → (p.item.0 == item.0) ≡ c → StandsStill items b (with_seen p b) item
  by true e =
      let same : p.item ≡ item = same_item p.item item (eqb-true p.item.0 item.0 e) in
      let stands : StandsAtSeen items (with_seen p b) item = subst (λ (x : ItemId). StandsAtSeen items (with_seen p b) x) same (sees_own p items b (subst (λ (x : ItemId). StandsAtPath items x p) (sym same) (own e))) in (λ h. stands, λ h. inl stands)
  by false e = (
    λ h. (h.0, h.1, subst (λ (o : Option SeenPath). says (stands_at_path items h.0) o ≡ true) (sym (seen_past p b h.0.id (subst (λ (n : ℕ). (p.item.0 == n) ≡ false) (sym (found_id item items h.0 h.1)) e))) h.2),
    λ h. inr (seen_past p b item e ∙ h),
  )

-- the last change

abbrev pub last_or : (Usn × Change) → List (Usn × Change) → Usn × Change
last_or d [] = d
last_or d (c ∷ cs) = last_or c cs

last_added : (d : Usn × Change) (log : List (Usn × Change)) (c : Usn × Change) → last_or d (log ++ c ∷ []) ≡ c
last_added d [] c = refl
last_added d (e ∷ log) c = last_added e log c

abbrev all_but_last : List (Usn × Change) → List (Usn × Change)
all_but_last [] = []
all_but_last (c ∷ []) = []
all_but_last (c ∷ d ∷ cs) = c ∷ all_but_last (d ∷ cs)

but_added : (log : List (Usn × Change)) (c : Usn × Change) → all_but_last (log ++ c ∷ []) ≡ log
but_added [] c = refl
but_added (d ∷ []) c = refl
but_added (d ∷ e ∷ log) c = ap (λ (cs : List (Usn × Change)). d ∷ cs) (but_added (e ∷ log) c)

-- where one more change makes a Mark the last, it is that change
pub marked_by : (log front : List (Usn × Change)) (n : Usn) (c : Change) (item : ItemId) → IsMarkedLast (log ++ (n, c) ∷ []) front item → (number : Usn) × (c ≡ change.Mark item number) × (log ≡ front)
marked_by log front n c item m = (
  m.1,
  ap (λ (d : Usn × Change). d.1) (sym (last_added (n, c) log (n, c)) ∙ ap (last_or (n, c)) m.2 ∙ last_added (n, c) front (m.0, change.Mark item m.1)),
  sym (but_added log (n, c)) ∙ ap all_but_last m.2 ∙ but_added front (m.0, change.Mark item m.1),
)

pub made_by : (log : List (Usn × Change)) (n : Usn) (c : Change) (item : ItemId) (m : IsMadeLast (log ++ (n, c) ∷ []) item) → c ≡ change.Make item m.2 m.3 m.4 m.5 m.6
made_by log n c item m = ap (λ (d : Usn × Change). d.1) (sym (last_added (n, c) log (n, c)) ∙ ap (last_or (n, c)) m.7 ∙ last_added (n, c) m.0 (m.1, change.Make item m.2 m.3 m.4 m.5 m.6))

-- after another change neither a Mark nor a Make is the last
pub led_unnamed : (c : Change) (s t : State) → (IsNaming c → ⊥) → Led c s t → (item : ItemId) → IsNamedLast t.filter.volume.log item → ⊥
led_unnamed c s t other led item (inl m) =
    let k = marked_by s.filter.volume.log m.0 _ c item (m.1.0, m.1.1, sym led.after.log ∙ m.1.2) in
    other (subst IsNaming (sym k.1) tt)
led_unnamed c s t other led item (inr m) = other (subst IsNaming (sym (made_by s.filter.volume.log _ c item (m.0, m.1, m.2, m.3, m.4, m.5, m.6, sym led.after.log ∙ m.7))) tt)
