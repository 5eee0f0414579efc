-- Changes of the volume, and why a list of them is refused.
use Rattle.std.specs.Prelude.{ℕ, Bool, true, false, List, [], ◌∷◌, ◌++◌, length, max, nat_lt, ◌+◌, ◌&&◌, ◌||◌, Option}
use Rattle.std.specs.List.{list_any}
use Rattle.cf_base.specs.declared.changes.Change.{Change}
use Rattle.cf_base.specs.declared.changes.Change.TheVariants as kinds
use Rattle.cf_base.specs.declared.codes.Code.{Code}
use Rattle.cf_base.specs.declared.codes.Code.TheVariants as code
use Rattle.cf_base.specs.declared.ids.Usn.{Usn}
use Rattle.cf_base.specs.declared.notices.Notice.TheVariants as notice
use Rattle.cf_model.specs.Arrows.{Arrow, each, either, noted, reading, seq, then_do}
use Rattle.cf_model.specs.Blocks.{is_full, passes_clusters, puts_into}
use Rattle.cf_model.specs.Books.{Book, book_after}
use Rattle.cf_model.specs.Effects.{effect}
use Rattle.cf_model.specs.Images.{is_table_full}
use Rattle.cf_model.specs.Logs.{next_by}
use Rattle.cf_model.specs.Numbers.{most_items, passes_most, usn_after}
use Rattle.cf_model.specs.Points.{commit_for_room}
use Rattle.cf_model.specs.State.{Filter, Volume, in_volume, with_notes}
use Rattle.cf_model.specs.Trees.{Ret, Step}
use Rattle.cf_model.specs.Words.{first_of}

-- the number that the next change gets
abbrev pub next_number : Volume → Usn
next_number v = usn_after v.epoch v.place

-- the volume with one more change
abbrev pub put_change : Change → Volume → Volume
put_change c v = record v {
  log = v.log ++ (next_number v, c) ∷ [];
  items = effect v.items c (next_number v);
  next_item = record { 0 = max v.next_item.0 (next_by c) };
  place = v.place + 1;
  put_since = v.put_since + length (puts_into v.items c);
  book = book_after c v.book;
}

-- A change that puts bytes may make a commit for room before it, where the blocks at the last point, those that the
-- changes since put bytes into and its own pass the clusters.
abbrev pub may_need_room : Change → Volume → Bool
may_need_room c v = nat_lt 0 (length (puts_into v.items c)) && passes_clusters v.clusters v.items_then (v.put_since + length (puts_into v.items c))

-- the volume with one more change, and in the same step another book
abbrev pub put_with_book : (Book → Book) → Change → Volume → Volume
put_with_book f c v = record (put_change c v) { book = f (put_change c v).book }

-- the change as a step; gives its number
abbrev pub put_now : (Book → Book) → Change → Arrow Volume Usn
put_now f c v = Step v (Ret (next_number v) (put_with_book f c v))

abbrev pub put_after_room : (Book → Book) → Change → Bool → Arrow Volume Usn
put_after_room f c false = put_now f c
put_after_room f c true = either (put_now f c) (then_do commit_for_room (put_now f c))

abbrev pub apply : (Book → Book) → Change → Arrow Volume Usn
apply f c = reading (may_need_room c) (put_after_room f c)

abbrev pub same_book : Book → Book
same_book b = b

-- the change with its line, and in the same step another book
abbrev pub tell_change : Change → Usn → Arrow Filter (Unit {0})
tell_change c n = noted (with_notes (notice.Change n c ∷ []))

abbrev pub change_with : (Book → Book) → Change → Arrow Filter (Unit {0})
change_with f c = seq (in_volume (apply f c)) (tell_change c)

abbrev pub change : Change → Arrow Filter (Unit {0})
change c = change_with same_book c

abbrev pub changes : List Change → Arrow Filter (Unit {0})
changes cs = each change cs

-- refusals of changes that are made in order, tested before the first of them

abbrev pub no_places : Volume → ℕ → Bool
no_places v n = passes_most v.place n

-- the new item would have an id past the greatest
abbrev pub needs_id : Change → Bool
needs_id (kinds.Make item parent name kind size identity) = nat_lt most_items item.0
needs_id (kinds.Copy item from parent name) = nat_lt most_items item.0
needs_id _ = false

-- no places are left in the epoch, or no ids
abbrev pub lacks_numbers : Volume → List Change → Bool
lacks_numbers v cs = no_places v (length cs) || list_any needs_id cs

abbrev pub no_table : Volume → List Change → Bool
no_table v [] = false
no_table v (c ∷ cs) = is_table_full c (put_change c v).items (put_change c v).book || no_table (put_change c v) cs

abbrev pub no_blocks : Volume → List Change → Bool
no_blocks v [] = false
no_blocks v (c ∷ cs) = is_full v.clusters v.items c || no_blocks (put_change c v) cs

-- the volume once the changes are made, but for commits between them
abbrev pub put_changes : List Change → Volume → Volume
put_changes [] v = v
put_changes (c ∷ cs) v = put_changes cs (put_change c v)

abbrev pub why_no_room : List Change → Volume → Option Code
why_no_room cs v = first_of ((lacks_numbers v cs, code.Exhausted) ∷ (no_table v cs, code.TableFull) ∷ (no_blocks v cs, code.Full) ∷ [])
