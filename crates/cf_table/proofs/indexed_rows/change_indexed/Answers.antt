use Rattle.std.proofs.Common.{◌≤◌, ◌∙◌, get_or, length, subst, sym}
use Rattle.cf_base.specs.declared.changes.Change.{Change}
use Rattle.cf_table.specs.Applied.{FitsRow}
use Rattle.cf_table.proofs.Indexed.{kept_indexed, of_some}
use Rattle.cf_table.proofs.indexed_rows.change_indexed.Goals as goal

pub returns-then-not-moves-clause-indexed : goal.returns-then-not-moves-clause-indexed
returns-then-not-moves-clause-indexed c =
    kept_indexed c.change_at.result c.args.change.now c.args.pin c.args.number c.args.place c.args.len c.args.rows.now c.change_at.new.rows c.args.index.now c.requires.indexed c.requires.place (sym c.moves.ensures ∙ c.if-not-moves.true) c.change_at.ensures.table c.change_at.ensures.sets

pub move_indexed-requires-clause-name : goal.move_indexed-requires-clause-name
move_indexed-requires-clause-name c =
    of_some (length c.in-Move.name ≤ 255) c.args.rows.now c.args.place c.requires.place
    (λ d. subst (λ (ch : Change). FitsRow ch (get_or c.args.rows.now c.args.place d)) c.in-Move.is (c.requires.fits d))
