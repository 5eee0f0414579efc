-- A disk in memory as a disk.
use Rattle.std.specs.Prelude.{◌≡◌, ℕ, List, length, None, Some}
use Rattle.cf_disk.specs.declared.mem_disks.MemDisk.{MemDisk}
use Rattle.cf_disk.specs.Disk.{State, size_of}
use Rattle.cf_disk.specs.Images.{IsImage}

-- it tells its armed number, and neither its past nor its power cuts
abbrev pub mem_state : MemDisk → State
mem_state d = record {
  seen = d.medium.bytes;
  may_leave = IsImage d.medium;
  moment = 0;
  left_since = λ t c. ⊥;
  tells = λ t. ⊥;
  powers = None;
  written = d.written;
  faults = d.faults;
  armed = Some d.armed;
  settings = record { quota = d.quota; aim = d.aim };
}

pub one_size : (d : MemDisk) (c : List ℕ) → (mem_state d).may_leave c → length c ≡ size_of (mem_state d)
one_size d c image = same _ _ _ image.size d.whole.reads_one.size
  where
    same : (a b m : ℕ) → a ≡ m → b ≡ m → a ≡ b
    same a b m p q = cc
