-- A fresh volume.
use Rattle.std.proofs.Common.{◌≡◌, ℕ, List, get_or, take, sym, ◌∙◌, ap, arith}
use Rattle.cf_disk.specs.Disk.{State, Only, size_of}
use Rattle.cf_journal.specs.declared.sides.Side.TheVariants.{A}
use Rattle.cf_journal.specs.Content.{rewritten}
use Rattle.cf_journal.specs.Settled.{Ready, Installs, IsFitSize}

pub formatted : (closed new : State) (image : List ℕ) → get_or closed.seen 1572864 0 ≡ 0 → IsFitSize (size_of closed) → Installs A 1 image closed.seen new.seen → Only new.seen new → Ready new A 1 (rewritten image)
formatted closed new image gate size installs only = record {
  stands = record {
    chosen = record { slot = installs.slot; newest = λ f h l slot. absurd (slot.gate (installs.same.after 1572864 (omega arith) ∙ gate)) };
    image = sym installs.image_is;
    payloads = installs.payloads;
  };
  durable = λ d left. ap (λ (l : List ℕ). take 3145728 l) (only d left);
  size = (omega (arith, size.0, installs.same.size), omega (arith, size.1, installs.same.size));
}
