use Rattle.std.proofs.Common.{◌≡◌, ◌⊎◌, ℕ, ◌<◌, get_or}
use Rattle.cf_disk.proofs.old_pages.free_slots.Given as goal

abbrev pub invariant-loop-page : goal.invariant-loop-page
invariant-loop-page l = record {
  freed : (k : ℕ) → k < l.page-index → get_or l.slots (get_or l.pages k 0) 0 ≡ 0;
  others : (p : ℕ) → (get_or l.slots p 0 ≡ 0) ⊎ (get_or l.slots p 0 ≡ get_or l.fn.slots p 0);
}
