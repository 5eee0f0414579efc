-- The engine's single steps, of what keeps all of the machine.
use Rattle.std.specs.Prelude.{Some, ◌≡◌}
use Rattle.cf_base.specs.declared.codes.Code.{Code}
use Rattle.cf_model.specs.Arrows.{Preserves}
use Rattle.cf_model.specs.Items.{Item, item_of}
use Rattle.cf_model.specs.Skips.{skip, to_conflict}
use Rattle.cf_model.specs.State.{State, items_now}
use Rattle.cf_model.specs.Trees.{Keeps}
use Rattle.cf_model_laws.specs.Premises.{IsFair}
use Rattle.cf_model_laws.proofs.Guarded.{Guarded}
use Rattle.cf_model_laws.proofs.SkipsGuarded as steps
use Rattle.cf_model_laws.proofs.SkipsGuarded.{Unnamed, guarded_skipping}

pub skip_keeps : (P : State → Type 0) → Guarded P → (c : Code) → Preserves P (skip c)
skip_keeps P closed c = steps.skip_keeps Unnamed P (guarded_skipping P closed) c

pub to_conflict_at : (P : State → Type 0) → Guarded P → (i : Item) (s : State) → (IsFair s.link → item_of (items_now s) i.id ≡ Some i) → P s → Keeps P (to_conflict i s)
to_conflict_at P closed i s there h = steps.to_conflict_at Unnamed P (guarded_skipping P closed) (λ a b c. tt) i s there h
