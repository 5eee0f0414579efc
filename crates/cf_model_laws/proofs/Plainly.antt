-- Changes that meet nothing, and what a change leaves of the filter.
use Rattle.std.proofs.Common.{◌≡◌, ◌⊎◌, ◌+◌, ℕ, Bool, true, false, List, [], ◌∷◌, ◌++◌, refl, sym, ◌∙◌, ap, subst, inl, inr, max}
use Rattle.std.specs.Prelude.{Option, Some, None, cond}
use Rattle.cf_base.specs.declared.answers.Shown.{Shown}
use Rattle.cf_base.specs.declared.answers.Shown.TheVariants as shown
use Rattle.cf_base.specs.declared.changes.Change.{Change}
use Rattle.cf_base.specs.declared.codes.Code.{Code}
use Rattle.cf_base.specs.declared.ids.ItemId.{ItemId}
use Rattle.cf_model.specs.Arrows.{Arrow, Preserves, each, unless}
use Rattle.cf_model.specs.Books.{Book, book_after}
use Rattle.cf_model.specs.Changes.{change, change_with, changes, next_number, put_with_book, same_book}
use Rattle.cf_model.specs.Effects.{effect}
use Rattle.cf_model.specs.Items.{Item}
use Rattle.cf_model.specs.Logs.{next_by}
use Rattle.cf_model.specs.Operations.{checked}
use Rattle.cf_model.specs.Points.{with_room_point}
use Rattle.cf_model.specs.State.{Filter, Link, Volume, with_volume}
use Rattle.cf_model.specs.Store.{Held}
use Rattle.cf_model.specs.Trees.{Asked, Fork, Keeps, Ret, Step, Tree, bind}
use Rattle.cf_model.specs.Words.{first_of}
use Rattle.cf_model.proofs.TreeLaws.{keeps_bind}
use Rattle.cf_model_laws.specs.Fitting.{Fits, Touches}
use Rattle.cf_model_laws.specs.Invariant.{All}
use Rattle.cf_model_laws.proofs.Guarded.{GuardedFilter, KeepsCursor}
use Rattle.cf_model_laws.proofs.Leading.{Leads}
use Rattle.cf_model_laws.proofs.SoundChanges.{KeepsEntries, same_entries, same_cursor}
use Rattle.cf_model_laws.proofs.SoundFilters.{change_leads}
use Rattle.cf_model_laws.specs.Taken.{Knowledge, IsNamedBy, LosesOn, Nothing}
use Rattle.cf_model_laws.proofs.SinceKept.{unnamed_change}

-- a change that fits wherever it is made, and brings neither bytes nor a target
pub record IsPlain (c : Change) : Type 0 where
  pub fits : (r : Held) (x : Filter) → Fits r x c
  pub free : (id : ItemId) → Touches c id → ⊥
  pub unnamed : IsNamedBy Nothing Nothing c
  pub holds : (items : List Item) → LosesOn Nothing items c

pub plain_keeps : {On : Knowledge} (l : Link) (tokens : ℕ) (P : Filter → Type 0) → GuardedFilter On l tokens P → (c : Change) → IsPlain c → Preserves P (change c)
plain_keeps {On} l tokens P closed c plain = record { keeps = λ x h. closed.change same_book c x (λ b. refl) (λ fair. ((λ z b. refl), (λ k. k), λ b. refl)) plain.free (λ e. plain.fits l.remote x) (λ e. unnamed_change On x c plain.unnamed (plain.holds x.volume.items)) h }

pub plains_keep : {On : Knowledge} (l : Link) (tokens : ℕ) (P : Filter → Type 0) → GuardedFilter On l tokens P → (cs : List Change) → All IsPlain cs → Preserves P (changes cs)
plains_keep l tokens P closed [] h = record { keeps = λ x k. k }
plains_keep l tokens P closed (c ∷ cs) h = record {
  keeps = λ x k. keeps_bind P (change c x) (λ _ t. each change cs t) ((plain_keeps l tokens P closed c h.0).keeps x k) (λ a t j. (plains_keep l tokens P closed cs h.1).keeps t j);
}

-- a call that is checked first
pub checked_at : (P : Filter → Type 0) (tests : Filter → List (Bool × Code)) (f : Arrow Filter Shown) (x : Filter) → P x → (first_of (tests x) ≡ None → Keeps P (f x)) → Keeps P (checked tests f x)
checked_at P tests f x h k = by (first_of (tests x)) refl where
  by : (o : Option Code) → first_of (tests x) ≡ o → Keeps P (unless shown.Refused o f x)
  by None e = k e
  by (Some c) e = h

-- where none of the tests holds, the first does not
abbrev pub HeadFalse : List (Bool × Code) → Type 0
HeadFalse [] = Unit {0}
HeadFalse (t ∷ ts) = t.0 ≡ false

abbrev pub tail_of : List (Bool × Code) → List (Bool × Code)
tail_of [] = []
tail_of (t ∷ ts) = ts

none_there : (c : Code) → ◌≡◌ {A = Option Code} (Some c) None → ⊥
none_there c e = cc

pub head_false : (ts : List (Bool × Code)) → first_of ts ≡ None → HeadFalse ts
head_false [] e = tt
head_false (t ∷ ts) e = by t.0 e where
  by : (b : Bool) → cond b (Some t.1) (first_of ts) ≡ None → b ≡ false
  by true e = absurd (none_there t.1 e)
  by false e = refl

pub tail_none : (ts : List (Bool × Code)) → first_of ts ≡ None → first_of (tail_of ts) ≡ None
tail_none [] e = e
tail_none (t ∷ ts) e = by t.0 e where
  by : (b : Bool) → cond b (Some t.1) (first_of ts) ≡ None → first_of ts ≡ None
  by true e = absurd (none_there t.1 e)
  by false e = e

-- what a change leaves
pub record After (f : Book → Book) (c : Change) (x t : Filter) : Type 0 where
  pub items : t.volume.items ≡ effect x.volume.items c (next_number x.volume)
  pub log : t.volume.log ≡ x.volume.log ++ (next_number x.volume, c) ∷ []
  pub next : t.volume.next_item.0 ≡ max x.volume.next_item.0 (next_by c)
  pub epoch : t.volume.epoch ≡ x.volume.epoch
  pub place : t.volume.place ≡ x.volume.place + 1
  pub entries : KeepsEntries f → t.volume.book.entries ≡ x.volume.book.entries
  pub cursor : KeepsCursor f → t.volume.book.cursor ≡ x.volume.book.cursor
  pub book : t.volume.book ≡ f (book_after c x.volume.book)
  pub waiting : t.waiting ≡ x.waiting
  pub policy : t.policy ≡ x.policy

after_changed : (f : Book → Book) (c : Change) (x : Filter) (v : Volume) → (v ≡ x.volume) ⊎ (v ≡ with_room_point x.volume) → After f c x (with_volume (put_with_book f c v) x)
after_changed f c x v (inl e) = subst (λ (w : Volume). After f c x (with_volume (put_with_book f c w) x)) (sym e) (record { items = refl; log = refl; next = refl; epoch = refl; place = refl; entries = λ k. k _ ∙ same_entries c x.volume.book; cursor = λ k. k _ ∙ same_cursor c x.volume.book; book = refl; waiting = refl; policy = refl })
after_changed f c x v (inr e) = subst (λ (w : Volume). After f c x (with_volume (put_with_book f c w) x)) (sym e) (record { items = refl; log = refl; next = refl; epoch = refl; place = refl; entries = λ k. k _ ∙ same_entries c x.volume.book; cursor = λ k. k _ ∙ same_cursor c x.volume.book; book = refl; waiting = refl; policy = refl })

noted_after : (f : Book → Book) (c : Change) (x y t : Filter) → t.volume ≡ y.volume → t.waiting ≡ y.waiting → t.policy ≡ y.policy → After f c x y → After f c x t
noted_after f c x y t e w p h = record {
  items = ap (λ (v : Volume). v.items) e ∙ h.items;
  log = ap (λ (v : Volume). v.log) e ∙ h.log;
  next = ap (λ (v : Volume). v.next_item.0) e ∙ h.next;
  epoch = ap (λ (v : Volume). v.epoch) e ∙ h.epoch;
  place = ap (λ (v : Volume). v.place) e ∙ h.place;
  entries = λ k. ap (λ (v : Volume). v.book.entries) e ∙ h.entries k;
  cursor = λ k. ap (λ (v : Volume). v.book.cursor) e ∙ h.cursor k;
  book = ap (λ (v : Volume). v.book) e ∙ h.book;
  waiting = w ∙ h.waiting;
  policy = p ∙ h.policy;
}

abbrev Any : Filter → Type 0
Any x = Unit {0}

pub change_after : (f : Book → Book) (c : Change) (x : Filter) → Leads Any (λ u t. After f c x t) (change_with f c x)
change_after f c x = change_leads Any (After f c x) f c x tt tt tt (λ v is. noted_after f c x (with_volume (put_with_book f c v) x) _ refl refl refl (after_changed f c x v is))

-- both what is kept and what is led to
pub kept_with : {S A : Type 0} (P : S → Type 0) (Q : A → S → Type 0) (p : Tree S A) → Keeps P p → Leads (λ s. Unit {0}) Q p → Leads P (λ a s. P s × Q a s) p
kept_with P Q (Ret a s) h k = (h, k)
kept_with P Q (Step s p) h k = (h.0, kept_with P Q p h.1 k.1)
kept_with P Q (Fork p q) h k = (kept_with P Q p h.0 k.0, kept_with P Q q h.1 k.1)
kept_with P Q (Asked g) h k = λ x. kept_with P Q (g x) (h x) (k x)

-- what is kept of a part whose result leads on
pub keeps_led : {S A B : Type 0} (P : S → Type 0) (Q : A → S → Type 0) (p : Tree S A) (g : A → S → Tree S B) → Keeps P p → Leads (λ s. Unit {0}) Q p → ((a : A) (s : S) → P s → Q a s → Keeps P (g a s)) → Keeps P (bind p g)
keeps_led P Q (Ret a s) g h k m = m a s h k
keeps_led P Q (Step s p) g h k m = (h.0, keeps_led P Q p g h.1 k.1 m)
keeps_led P Q (Fork p q) g h k m = (keeps_led P Q p g h.0 k.0 m, keeps_led P Q q g h.1 k.1 m)
keeps_led P Q (Asked f) g h k m = λ x. keeps_led P Q (f x) g (h x) (k x) m
