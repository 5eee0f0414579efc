-- What is tested of the book before a record is put or dropped, and why then each state meets what the step asks.
use Rattle.std.specs.Prelude.{◌≡◌, Bool, true, false, List, [], ◌∷◌, ℕ, None, nat_lt}
use Rattle.cf_base.specs.declared.answers.AuxRecord.{AuxRecord}
use Rattle.cf_base.specs.declared.ids.ItemId.{ItemId}
use Rattle.cf_base.specs.declared.ids.Usn.{Usn}
use Rattle.cf_engine_host.specs.BookSteps.{HasNumber, PutsBeside}
use Rattle.cf_engine_queue.specs.Records.{FitsUsn}
use Rattle.cf_filter_steps.specs.Answering.{Sense}
use Rattle.cf_model.specs.Books.{Book, tombstone_of}
use Rattle.cf_model.specs.Changes.{next_number}
use Rattle.cf_model.specs.Items.{Item}
use Rattle.cf_model.specs.Numbers.{above}
use Rattle.cf_model.specs.State.{Filter}

-- in each state the new book differs by this record alone, which it has
pub record PutsIf {X : Type 0} (S : Sense X) (r : AuxRecord) (f : Book → Book) (x : X) : Type 0 where
  pub puts : (s : Filter) → S.means x s → PutsBeside r f s

-- where the test holds, the number was given in each state
pub record GivenIf {X : Type 0} (S : Sense X) (number : Usn) (x : X) (b : Bool) : Type 0 where
  pub given : b ≡ true → FitsUsn number → (s : Filter) → S.means x s → above (next_number s.volume) number ≡ true

-- the item is there in each state, with this number, which is not 0.0
pub record NumberIf {X : Type 0} (S : Sense X) (item : ItemId) (number : Usn) (x : X) : Type 0 where
  pub has : (s : Filter) → S.means x s → (i : Item) × HasNumber item i s × (i.number ≡ number)

-- where the test holds, no tombstone has the number in each state
pub record NewIf {X : Type 0} (S : Sense X) (number : Usn) (x : X) (b : Bool) : Type 0 where
  pub new : b ≡ true → (s : Filter) → S.means x s → tombstone_of s.volume.book number ≡ None

-- a key behind those of all entries, by its first byte
abbrev pub comes_after_entries : List ℕ → Bool
comes_after_entries [] = false
comes_after_entries (k ∷ ks) = nat_lt 113 k
