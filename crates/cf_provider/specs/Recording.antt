-- What a port that only records keeps.
use Rattle.std.specs.Prelude.{List, [], ◌++◌, map, ◌≡◌, refl}
use Rattle.std.proofs.Common.{sym, ap, ◌∙◌, append-nil, append_assoc}
use Rattle.cf_base.specs.declared.answers.Shown.TheVariants as shown
use Rattle.cf_provider.specs.Sights.{Sight}
use Rattle.cf_provider.specs.declared.recorders.Kept.{Kept}
use Rattle.cf_provider.specs.declared.recorders.Kept.TheVariants as kept
use Rattle.cf_model.specs.Ports.{Act, Did, Noted}

pub record Recorded : Type 0 where
  pub kept : List Kept
  pub sight : Sight

-- each operation was answered as done
abbrev pub act_of : Kept → Act
act_of (kept.Done op seen) = Did seen op shown.Done
act_of (kept.Note n) = Noted n

-- so many acts were kept, and what is seen stays
abbrev pub Records : Recorded → List Act → Recorded → Type 0
Records old acts new = (map act_of new.kept ≡ map act_of old.kept ++ acts) × (new.sight ≡ old.sight)

pub records_none : (p : Recorded) → Records p [] p
records_none p = (sym (append-nil (map act_of p.kept)), refl)

pub records_more : (p q r : Recorded) (acts more : List Act) → Records p acts q → Records q more r → Records p (acts ++ more) r
records_more p q r acts more h k = (k.0 ∙ ap (λ v. v ++ more) h.0 ∙ append_assoc (map act_of p.kept) acts more, k.1 ∙ h.1)
