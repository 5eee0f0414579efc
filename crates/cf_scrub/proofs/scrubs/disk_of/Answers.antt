use Rattle.std.proofs.Common.{◌≡◌, ◌+◌, ◌++◌, ◌∙◌, ◌∷◌, [], List, ℕ, ap, append-nil, arith, drop, length, refl, take}
use Rattle.std.specs.Prelude.{replicate}
use Rattle.std.proofs.lemmas.List.{length-replicate}
use Rattle.cf_disk.specs.Disk.{Holds}
use Rattle.cf_volume_image.proofs.Loops.{drop_end}
use Rattle.cf_scrub.proofs.scrubs.disk_of.Goals as goal

none_taken : (xs : List ℕ) → take 0 xs ≡ []
none_taken [] = refl
none_taken (x ∷ xs) = refl

-- all of a disk written
all_written : (bytes old new : List ℕ) (n : ℕ) → Holds 0 bytes old new → old ≡ replicate n 0 → n ≡ length bytes → new ≡ bytes
all_written bytes old new n holds zeros len =
    holds ∙ ap (λ t. t ++ bytes ++ drop (0 + length bytes) old) (none_taken old) ∙ ap (λ d. bytes ++ d) (drop_end old (0 + length bytes) (omega (arith, ap length zeros, length-replicate {A = ℕ} n 0, len))) ∙ append-nil bytes

pub returns-in-Ok : goal.returns-in-Ok
returns-in-Ok c = all_written c.args.image.now _ _ (length c.args.image.now) c.in-Ok.ensures.written c.in_ok-disk.ensures.zeros (omega arith)
