-- What an engine keeps beside the items.
use Rattle.std.specs.Prelude.{cond}
use Rattle.cf_base.specs.declared.ids.ItemId.{ItemId}
use Rattle.cf_base.specs.declared.ids.Usn.{Usn}
use Rattle.cf_model.specs.Books.{Book, with_anchor}
use Rattle.cf_model.specs.Numbers.{is_no_usn}

-- The number becomes the anchor of the item. 0.0, that of an item that never changed, is none.
abbrev pub anchored_at : ItemId → Usn → Book → Book
anchored_at id number b = cond (is_no_usn number) b (with_anchor id number b)
