-- The last part of the test of an entry.
use Rattle.std.specs.Prelude.{Bool, cond, nat_le, ◌&&◌, ◌==◌}
use Rattle.cf_base.specs.declared.limits.TheConstants.{MOST_FILE_BYTES}
use Rattle.cf_base.specs.declared.messages.Entry.{Entry}

-- a directory has neither version nor size, and a file has both
abbrev pub has_sizes : Entry → Bool
has_sizes e = cond e.dir ((e.version.0 == 0) && (e.len == 0)) (nat_le 1 e.version.0 && nat_le e.len MOST_FILE_BYTES)
