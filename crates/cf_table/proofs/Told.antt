-- What is said of an item, as one value, so that a change of it is one step.
use Rattle.std.proofs.Common.{◌≡◌, ℕ, Bool, List, Option, ap}
use Rattle.cf_base.specs.declared.ids.ItemId.{ItemId}
use Rattle.cf_base.specs.declared.ids.Usn.{Usn}
use Rattle.cf_base.specs.declared.items.Pin.{Pin}
use Rattle.cf_model.specs.Items.{Item}
use Rattle.cf_table.specs.Means.{HasBytes, Means}
use Rattle.cf_table.specs.declared.rows.Row.{Row}

pub record Told : Type 0 where
  pub id : ItemId
  pub parent : ItemId
  pub name : List ℕ
  pub directory : Bool
  pub placeholder : Bool
  pub populated : Bool
  pub in_sync : Bool
  pub keep : Bool
  pub pin : Pin
  pub base : Option ℕ
  pub number : Usn
  pub identity : List ℕ

abbrev pub told_by_row : Row → Told
told_by_row r = record {
  id = r.id;
  parent = r.parent;
  name = r.name;
  directory = r.dir;
  placeholder = r.placeholder;
  populated = r.populated;
  in_sync = r.in_sync;
  keep = r.keep;
  pin = r.pin;
  base = r.base;
  number = r.number;
  identity = r.identity;
}

abbrev pub told_by_item : Item → Told
told_by_item i = record {
  id = i.id;
  parent = i.parent;
  name = i.name;
  directory = i.directory;
  placeholder = i.placeholder;
  populated = i.populated;
  in_sync = i.in_sync;
  keep = i.keep;
  pin = i.pin;
  base = i.base;
  number = i.number;
  identity = i.identity;
}

pub told : (row : Row) (i : Item) → Means row i → told_by_row row ≡ told_by_item i
told row i m = λ j. record {
  id = m.id j;
  parent = m.parent j;
  name = m.name j;
  directory = m.directory j;
  placeholder = m.placeholder j;
  populated = m.populated j;
  in_sync = m.in_sync j;
  keep = m.keep j;
  pin = m.pin j;
  base = m.base j;
  number = m.number j;
  identity = m.identity j;
}

pub means : (row : Row) (i : Item) → told_by_row row ≡ told_by_item i → HasBytes row i → Means row i
means row i t b = record {
  id = ap (λ x. x.id) t;
  parent = ap (λ x. x.parent) t;
  name = ap (λ x. x.name) t;
  directory = ap (λ x. x.directory) t;
  placeholder = ap (λ x. x.placeholder) t;
  populated = ap (λ x. x.populated) t;
  in_sync = ap (λ x. x.in_sync) t;
  keep = ap (λ x. x.keep) t;
  pin = ap (λ x. x.pin) t;
  base = ap (λ x. x.base) t;
  number = ap (λ x. x.number) t;
  identity = ap (λ x. x.identity) t;
  bytes = b;
}
