-- What is done to uploads is done to the values that the definitions have of them.
use Rattle.std.proofs.Common.{◌≡◌, Bool, not, List, [], ◌∷◌, map, filter, Option, inl, inr, refl, sym, ap, ◌∙◌}
use Rattle.std.proofs.lemmas.Bool.{cases_Bool}
use Rattle.std.specs.Prelude.{find, option_map}
use Rattle.cf_base.specs.declared.ids.Token.{Token}
use Rattle.cf_base.specs.declared.ids.Usn.{Usn}
use Rattle.cf_model.specs.Books as model
use Rattle.cf_model.specs.Books.{Book, entry_of, no_book, tombstone_of, with_entry, with_tombstone, without_entry, without_tombstone}
use Rattle.cf_model.specs.Words.{put_in}
use Rattle.cf_engine_queue.specs.Books.{ComesLast, added, book_of, entry_rank, entry_value, token_rank, tombstone_rank, tombstone_value}
use Rattle.cf_engine_queue.specs.Order.{is_above, is_same}
use Rattle.cf_engine_queue.specs.declared.uploads.QueueEntry.{QueueEntry}
use Rattle.cf_engine_queue.specs.declared.uploads.Tombstone.{Tombstone}
use Rattle.cf_engine_queue.proofs.InOrder.{all_not, put_last}

find_map : {A B : Type 0} (f : A → B) (p : B → Bool) (xs : List A) → find p (map f xs) ≡ option_map f (find (λ x. p (f x)) xs)
find_map f p [] = refl
find_map f p (x ∷ xs) = elim (cases_Bool (p (f x))) [
  | inl e ↦ rw e refl
  | inr e ↦ rw e (find_map f p xs)
]

filter_map : {A B : Type 0} (f : A → B) (p : B → Bool) (xs : List A) → filter p (map f xs) ≡ map f (filter (λ x. p (f x)) xs)
filter_map f p [] = refl
filter_map f p (x ∷ xs) = elim (cases_Bool (p (f x))) [
  | inl e ↦ rw e (ap (λ (ys : List _). f x ∷ ys) (filter_map f p xs))
  | inr e ↦ rw e (filter_map f p xs)
]

put_map : {A B : Type 0} (f : A → B) (before : B → B → Bool) (x : A) (xs : List A) → put_in before (f x) (map f xs) ≡ map f (put_in (λ a b. before (f a) (f b)) x xs)
put_map f before x [] = refl
put_map f before x (y ∷ ys) = elim (cases_Bool (before (f y) (f x))) [
  | inl e ↦ rw e (ap (λ (zs : List _). f y ∷ zs) (put_map f before x ys))
  | inr e ↦ rw e refl
]

-- look-ups

pub live_is : (es : List QueueEntry) (ts : List Tombstone) (t : Token) (o : Option QueueEntry) → o ≡ find (λ e. is_same (entry_rank e) (t.0.epoch, t.0.number)) es → option_map entry_value o ≡ entry_of (book_of es ts) t
live_is es ts t o h = ap (option_map entry_value) h ∙ sym (find_map entry_value (λ e. is_same (token_rank e) (t.0.epoch, t.0.number)) es)

pub buried_is : (es : List QueueEntry) (ts : List Tombstone) (n : Usn) (o : Option Tombstone) → o ≡ find (λ t. is_same (tombstone_rank t) (n.epoch, n.place)) ts → option_map tombstone_value o ≡ tombstone_of (book_of es ts) n
buried_is es ts n o h = ap (option_map tombstone_value) h ∙ sym (find_map tombstone_value (λ t. is_same (t.number.epoch, t.number.place) (n.epoch, n.place)) ts)

-- changes

pub ended : (es left : List QueueEntry) (ts : List Tombstone) (t : Token) → left ≡ filter (λ e. not (is_same (entry_rank e) (t.0.epoch, t.0.number))) es → book_of left ts ≡ without_entry t (book_of es ts)
ended es left ts t h =
    ap (λ (l : List QueueEntry). book_of l ts) h
    ∙ ap (λ (l : List model.QueueEntry). record no_book { entries = l; tombstones = map tombstone_value ts }) (sym (filter_map entry_value (λ e. not (is_same (token_rank e) (t.0.epoch, t.0.number))) es))

pub dropped : (es : List QueueEntry) (ts left : List Tombstone) (n : Usn) → left ≡ filter (λ t. not (is_same (tombstone_rank t) (n.epoch, n.place))) ts → book_of es left ≡ without_tombstone n (book_of es ts)
dropped es ts left n h =
    ap (λ (l : List Tombstone). book_of es l) h
    ∙ ap (λ (l : List model.Tombstone). record no_book { entries = map entry_value es; tombstones = l }) (sym (filter_map tombstone_value (λ t. not (is_same (t.number.epoch, t.number.place) (n.epoch, n.place))) ts))

pub placed : (es after : List QueueEntry) (ts : List Tombstone) (e : QueueEntry) → after ≡ put_in (λ x y. not (is_above (entry_rank x) (entry_rank y))) e es → book_of after ts ≡ added (entry_value e) (book_of es ts)
placed es after ts e h =
    ap (λ (l : List QueueEntry). book_of l ts) h
    ∙ ap (λ (l : List model.QueueEntry). record no_book { entries = l; tombstones = map tombstone_value ts }) (sym (put_map entry_value (λ x y. not (is_above (token_rank x) (token_rank y))) e es))

pub buried : (es : List QueueEntry) (ts after : List Tombstone) (t : Tombstone) → after ≡ put_in (λ x y. is_above (tombstone_rank y) (tombstone_rank x)) t ts → book_of es after ≡ with_tombstone (tombstone_value t) (book_of es ts)
buried es ts after t h =
    ap (λ (l : List Tombstone). book_of es l) h
    ∙ ap (λ (l : List model.Tombstone). record no_book { entries = map entry_value es; tombstones = l }) (sym (put_map tombstone_value (λ x y. is_above (y.number.epoch, y.number.place) (x.number.epoch, x.number.place)) t ts))

-- an entry whose token no other is above comes last
pub added_last : (e : model.QueueEntry) (b : Book) → ComesLast e b → added e b ≡ with_entry e b
added_last e b h = ap (λ (l : List model.QueueEntry). record b { entries = l }) (put_last (λ x y. not (is_above (token_rank x) (token_rank y))) e b.entries (all_not (λ x. is_above (token_rank x) (token_rank e)) b.entries h))
