-- The state now is that of each disk that reads alike.
use Rattle.cf_disk.specs.Disk.{State}
use Rattle.cf_model.specs.State.{Volume}
use Rattle.cf_volume_points.specs.Holding.{Holds}
use Rattle.cf_volume_points.specs.Known.{Known}
use Rattle.cf_volume_changes.specs.Now.{IsNow}

pub now_is : (s : State) (k : Known) (v : Volume) → Holds s k v → IsNow s.seen k v
now_is s k v now = record {
  rows = now.rows;
  owns = now.owns;
  of_log = now.of_log;
  next = now.next;
  count = now.count;
  epoch = now.epoch;
  place = now.place;
  clock = now.clock;
  records = now.records;
  book = now.book;
  clusters = now.clusters;
  within = now.within;
  fits = now.fits;
  used = now.used;
  load = now.load;
  exact = now.exact;
}
