use Rattle.std.proofs.Common.{ap, sym, subst, ◌∙◌, length, ◌≤◌}
use Rattle.cf_model.specs.Numbers.{above}
use Rattle.cf_table.specs.Means.{IsLater}
use Rattle.cf_table.specs.declared.new_rows.Place.{Place}
use Rattle.cf_volume_changes.proofs.CopiedRows.{copied_spells, source_identity}
use Rattle.cf_volume_changes.proofs.Puts.{found_of, found_table}
use Rattle.cf_volume_changes.proofs.new_rows.plan_copied.Goals as goal

pub copied-requires-clause-later : goal.copied-requires-clause-later
copied-requires-clause-later c =
    ap (λ (p : Place). above p.number c.in-Some.row.now.number) c.in_ok-place.ensures
    ∙ (found_of (λ x. IsLater c.args.number x) c.args.rows.now.rows c.args.from c.in-Some.row.now c.requires.later (sym c.in-Some.ensures)).number

pub returns-clause-spellable : goal.returns-clause-spellable
returns-clause-spellable c =
    copied_spells c.copied.result c.in_ok-place.place c.in-Some.row.now c.copied.ensures.texts (subst (λ (p : Place). length p.name ≤ 255) (sym c.in_ok-place.ensures) c.requires.name)
    (source_identity c.args.rows.now.rows c.args.from c.in-Some.row.now c.requires.source (sym c.in-Some.ensures)) (found_table c.args.rows.now.rows c.args.from c.in-Some.row.now c.image_len.ensures.kept (sym c.in-Some.ensures)).spellable
