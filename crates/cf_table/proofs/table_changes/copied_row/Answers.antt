use Rattle.std.proofs.Common.{◌≡◌, ◌≤◌, ℕ, List, Ok, Err, Result, ap, arith, get_or, length}
use Rattle.std.specs.Prelude.{IfOk}
use Rattle.cf_base.specs.declared.ids.ItemId.{ItemId}
use Rattle.cf_base.specs.declared.ids.Usn.{Usn}
use Rattle.cf_model.specs.Effects.{untargeted}
use Rattle.cf_table.specs.Applied.{IsSpellable}
use Rattle.cf_table.specs.declared.rows.Row.{Row}
use Rattle.cf_table.proofs.StayingRows.{untargeted_len}
use Rattle.cf_table.proofs.table_changes.copied_row.Goals as goal

spellable : {E : Type 0} (r : Result Row E) (id : ItemId) (name identity : List ℕ) (number : Usn) → length name ≤ 255 → length identity ≤ 65535 → IfOk r (λ x. (x.id ≡ id) × (x.name ≡ name) × (x.identity ≡ identity) × (x.number ≡ number)) → IfOk r IsSpellable
spellable (Ok x) id name identity number h k t = record { name = omega (arith, ap length t.1, h); identity = omega (arith, ap length t.2, k) }
spellable (Err e) id name identity number h k t = t

pub returns-clause-spellable : goal.returns-clause-spellable
returns-clause-spellable c =
    let same : length c.index-rows-source.result.identity ≡ length (get_or c.args.rows.now c.args.source c.index-rows-source.result).identity = ap (λ (r : Row). length r.identity) c.index-rows-source.is in
    spellable c.copied.result c.args.place.id c.args.place.name (untargeted c.index-rows-source.result.identity) c.args.place.number c.requires.name
    (omega (arith, same, untargeted_len c.index-rows-source.result.identity (omega (arith, same, c.requires.identity c.index-rows-source.result)), c.requires.spellable c.index-rows-source.result)) c.copied.ensures.texts
