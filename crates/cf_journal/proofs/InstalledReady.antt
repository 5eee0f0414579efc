-- After a rewrite the new slot is the volume.
use Rattle.std.proofs.Common.{◌≡◌, ℕ, List, length, take, sym, ◌∙◌, ap, subst, arith}
use Rattle.cf_disk.specs.Disk.{State, Only}
use Rattle.cf_journal.specs.declared.sides.Side.{Side}
use Rattle.cf_journal.specs.Format.{base, other, HasSlot, Beats}
use Rattle.cf_journal.specs.Content.{Content, StandsAt, rewritten, clusters}
use Rattle.cf_journal.specs.Settled.{Ready, Installs, next_of}
use Rattle.cf_journal.specs.Halves.{half_slot, half_apart, base_low, clusters_same}
use Rattle.cf_journal.proofs.Rewrite.{other-other, header_generation, next_beats}

pub installed_stands : (side : Side) (g generation : ℕ) (x : Content) (image old new : List ℕ) → StandsAt old side g x → generation ≡ next_of g → Installs (other side) generation image old new → StandsAt new (other side) generation (rewritten image)
installed_stands side g generation x image old new stands is installs = record {
  chosen = record {
    slot = installs.slot;
    newest = λ f h l slot.
        let theirs : HasSlot f new (base side) h l = subst (λ (s : Side). HasSlot f new (base s) h l) (other-other side) slot in
        let mine : HasSlot x.format new (base side) g (length x.image) = half_slot x.format (base side) old new g (length x.image) (half_apart side (base (other side)) 1572864 old new installs.same (omega arith) (omega arith)) stands.chosen.slot in
        let same_g : g ≡ h = header_generation x.format f g (length x.image) (length new) (length new) h l mine.fits theirs.fits (sym mine.header_is ∙ theirs.header_is) in
        let beats : Beats (other side) (next_of g) h = subst (λ (k : ℕ). Beats (other side) (next_of g) k) same_g (next_beats side g stands.chosen.slot.positive stands.chosen.slot.fits) in
        subst (λ (k : ℕ). Beats (other side) k h) (sym is) beats;
  };
  image = sym installs.image_is;
  payloads = installs.payloads;
}

pub installed_ready : (old new : State) (side to : Side) (g generation : ℕ) (x : Content) (image : List ℕ) → Ready old side g x → generation ≡ next_of g → to ≡ other side → Installs (other side) generation image old.seen new.seen → Only new.seen new → Ready new to generation (rewritten image)
installed_ready old new side to g generation x image ready is to_is installs only = record {
  stands = subst (λ (s : Side). StandsAt new.seen s generation (rewritten image)) (sym to_is) (installed_stands side g generation x image old.seen new.seen ready.stands is installs);
  durable = λ d left. ap (λ (l : List ℕ). take 3145728 l) (only d left);
  size = (omega (arith, ready.size.0, installs.same.size), omega (arith, ready.size.1, installs.same.size));
}

pub installed_rest : (side : Side) (generation : ℕ) (image old new : List ℕ) → Installs side generation image old new → clusters new ≡ clusters old
installed_rest side generation image old new installs = clusters_same (base side) 1572864 old new installs.same (base_low side)
