-- Changes are sure where they have room: where they put no bytes, or where that was tested.
use Rattle.std.proofs.Common.{◌≡◌, ◌∙◌, ◌||◌, Bool, true, false, List, [], ◌∷◌, ◌++◌, refl, sym, ap}
use Rattle.std.specs.Prelude.{Option, Some, None}
use Rattle.cf_base.specs.declared.changes.Change.{Change}
use Rattle.cf_base.specs.declared.codes.Code.{Code}
use Rattle.cf_base.specs.declared.codes.Code.TheVariants as code
use Rattle.cf_base.specs.declared.answers.Shown.{Shown}
use Rattle.cf_base.specs.declared.answers.Shown.TheVariants as shown
use Rattle.cf_model.specs.Arrows.{Arrow, ret, unit}
use Rattle.cf_model.specs.Blocks.{is_full, puts_into}
use Rattle.cf_model.specs.Books.{Book}
use Rattle.cf_model.specs.Calls.{room_tests, test_of}
use Rattle.cf_model.specs.Changes.{change, change_with, changes, lacks_numbers, no_blocks, no_table, put_change, put_with_book, same_book, why_no_room}
use Rattle.cf_model.specs.Items.{Item}
use Rattle.cf_model.specs.Operations.{changes_with, checked}
use Rattle.cf_model.specs.State.{Filter, Volume}
use Rattle.cf_model.specs.Trees.{Ends}
use Rattle.cf_model.specs.Words.{first_of}
use Rattle.cf_model.proofs.GivenLaws.{never_full}
use Rattle.cf_check_ways.specs.Ways.{IsSure, IsSureFrom, Reads, of_filter}
use Rattle.cf_check_ways.proofs.RoomReads.{same_blocks}
use Rattle.cf_check_ways.proofs.Sure.{sure_anywhere, sure_known, sure_ret, sure_seq_from, sure_then, sure_unless_from}
use Rattle.cf_check_ways.proofs.VolumeSteps.{HasRoom, change_leaves, change_sure_from}

-- changes that put no bytes

abbrev pub PutsNothing : Change → Type 0
PutsNothing c = (items : List Item) → puts_into items c ≡ []

abbrev pub PutNothing : List Change → Type 0
PutNothing [] = Unit {0}
PutNothing (c ∷ cs) = PutsNothing c × PutNothing cs

pub both_put_nothing : (cs ds : List Change) → PutNothing cs → PutNothing ds → PutNothing (cs ++ ds)
both_put_nothing [] ds h k = k
both_put_nothing (c ∷ cs) ds h k = (h.0, both_put_nothing cs ds h.1 k)

pub change_sure : (f : Book → Book) (c : Change) → PutsNothing c → IsSure of_filter (change_with f c)
change_sure f c none = sure_known of_filter (λ s. HasRoom c s.volume) (λ s. Unit {0}) (change_with f c) (λ s more. never_full s.volume.clusters s.volume.items c (none s.volume.items)) (change_sure_from f c)

pub changes_with_sure : (f : Book → Book) (cs : List Change) → PutNothing cs → IsSure of_filter (changes_with f cs)
changes_with_sure f [] none = sure_ret of_filter (record {})
changes_with_sure f (c ∷ []) none = change_sure f c none.0
changes_with_sure f (c ∷ d ∷ cs) none = sure_then of_filter (change c) (changes_with f (d ∷ cs)) (change_sure same_book c none.0) (changes_with_sure f (d ∷ cs) none.1)

-- changes of which it was tested, all before the first of them

abbrev pub HaveRoom : List Change → Volume → Type 0
HaveRoom cs v = no_blocks v cs ≡ false

neither : (a b : Bool) → (a || b) ≡ false → (a ≡ false) × (b ≡ false)
neither false b e = (refl, e)
neither true b e = let z : true ≡ false = e in absurd cc

pub first_room : (c : Change) (cs : List Change) (v : Volume) → HaveRoom (c ∷ cs) v → HasRoom c v
first_room c cs v h = (neither (is_full v.clusters v.items c) (no_blocks (put_change c v) cs) h).0

-- the others have it once the first is done
later_room : (c : Change) (cs : List Change) (s : Filter) → HaveRoom (c ∷ cs) s.volume → (a : Unit {0}) (t : Filter) → Ends (change c s) a t → HaveRoom cs t.volume
later_room c cs s h a t ends =
    same_blocks t.volume cs ∙ ap (λ (v : Volume). no_blocks v cs) (change_leaves same_book c s a t ends) ∙ sym (same_blocks (put_with_book same_book c s.volume) cs)
    ∙ (neither (is_full s.volume.clusters s.volume.items c) (no_blocks (put_change c s.volume) cs) h).1

pub changes_sure_from : (cs : List Change) → IsSureFrom of_filter (λ s. HaveRoom cs s.volume) (changes cs)
changes_sure_from [] = sure_anywhere of_filter (λ s. HaveRoom [] s.volume) (ret unit) (sure_ret of_filter unit)
changes_sure_from (c ∷ cs) =
    sure_seq_from of_filter (λ s. HaveRoom (c ∷ cs) s.volume) (λ s. HaveRoom cs s.volume) (change c) (λ _. changes cs) (λ s h a t ends. later_room c cs s h a t ends)
    (sure_known of_filter (λ s. HasRoom c s.volume) (λ s. HaveRoom (c ∷ cs) s.volume) (change c) (λ s h. first_room c cs s.volume h) (change_sure_from same_book c)) (λ a. changes_sure_from cs)

nothing_fits : (cs : List Change) (v : Volume) → PutNothing cs → HaveRoom cs v
nothing_fits [] v none = refl
nothing_fits (c ∷ cs) v none = rw (never_full v.clusters v.items c (none.0 v.items)) (nothing_fits cs (put_change c v) none.1)

pub changes_sure : (cs : List Change) → PutNothing cs → IsSure of_filter (changes cs)
changes_sure cs none = sure_known of_filter (λ s. HaveRoom cs s.volume) (λ s. Unit {0}) (changes cs) (λ s more. nothing_fits cs s.volume none) (changes_sure_from cs)

-- what the tests tell

pub passes_first : (refused : Bool) (c : Code) (tests : List (Bool × Code)) → first_of ((refused, c) ∷ tests) ≡ None → (refused ≡ false) × (first_of tests ≡ None)
passes_first false c tests h = (refl, h)
passes_first true c tests h = let z : Some c ≡ None = h in absurd cc

pub room_so : (cs : List Change) (v : Volume) → why_no_room cs v ≡ None → HaveRoom cs v
room_so cs v h =
    let x = passes_first (lacks_numbers v cs) code.Exhausted ((no_table v cs, code.TableFull) ∷ (no_blocks v cs, code.Full) ∷ []) h in
    let y = passes_first (no_table v cs) code.TableFull ((no_blocks v cs, code.Full) ∷ []) x.1 in
    (passes_first (no_blocks v cs) code.Full [] y.1).0

passed_test : (o : Option Code) → first_of (test_of o) ≡ None → o ≡ None
passed_test None h = refl
passed_test (Some c) h = h

pub tested_room : (cs : List Change) (s : Filter) → first_of (room_tests cs s) ≡ None → HaveRoom cs s.volume
tested_room cs s h = room_so cs s.volume (passed_test (why_no_room cs s.volume) h)

-- what is done where the tests pass
pub checked_sure_from : (tests : (Filter → List (Bool × Code))) (f : Arrow Filter Shown) → Reads of_filter tests → IsSureFrom of_filter (λ s. first_of (tests s) ≡ None) f → IsSure of_filter (checked tests f)
checked_sure_from tests f same h = sure_unless_from of_filter (λ s. first_of (tests s)) shown.Refused f (λ s o e. ap first_of (same s o e)) h
