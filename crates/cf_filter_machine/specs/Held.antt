-- What a program has of a filter: a disk, what it knows of the volume on it, and what stands in memory alone.
use Rattle.cf_filter_desk.specs.Desks.{Desk}
use Rattle.cf_volume_points.specs.Known.{Known}

pub record Held (D : Type 0) : Type 0 where
  pub disk : D
  pub known : Known
  pub desk : Desk
