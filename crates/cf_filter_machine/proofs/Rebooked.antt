-- A volume that is kept stays so with another book.
use Rattle.std.specs.Prelude.{◌≤◌}
use Rattle.cf_filter_machine.specs.Keeping.{IsKeptBook, IsKeptVolume}
use Rattle.cf_model.specs.Books.{Book}
use Rattle.cf_model.specs.Changes.{next_number}
use Rattle.cf_model.specs.Images.{image_len, most_image}
use Rattle.cf_model.specs.State.{Volume}

pub rebooked : (v : Volume) (b : Book) → image_len v.items b ≤ most_image → IsKeptBook (next_number v) v.items b → IsKeptVolume v → IsKeptVolume (record v { book = b })
rebooked v b short book h = record {
  good = record {
    tree = h.good.tree;
    opened = h.good.opened;
    sound = h.good.sound;
    small = h.good.small;
    later = h.good.later;
    below = h.good.below;
    pins = h.good.pins;
    few = h.good.few;
    short = short;
  };
  items = h.items;
  given = h.given;
  book = book;
}
