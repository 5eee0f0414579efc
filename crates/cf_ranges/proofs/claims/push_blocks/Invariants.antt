use Rattle.std.proofs.Common.{◌≡◌, ◌-◌, ◌++◌, length}
use Rattle.cf_ranges.specs.Owned.{counting}
use Rattle.cf_ranges.proofs.claims.push_blocks.Given as goal

abbrev pub invariant-loop-block : goal.invariant-loop-block
invariant-loop-block l = record {
  pushed : l.owned.items ≡ l.fn.owned.items ++ counting l.fn.blocks.start (l.block - l.fn.blocks.start);
  len : l.len ≡ length l.fn.owned.items;
}
