use Rattle.std.proofs.Common.{ℕ, ◌∙◌, ◌||◌, ap, not, length, subst}
use Rattle.std.specs.List.{list_any}
use Rattle.std.specs.Prelude.{MatchOption, Option, []}
use Rattle.cf_model.specs.Changes.{needs_id, no_blocks, no_table}
use Rattle.cf_model.specs.Numbers.{passes_most}
use Rattle.cf_volume_changes.proofs.DraftFlags.{flag_is, none_of}
use Rattle.cf_volume_changes.specs.Tallies.{Counts}
use Rattle.cf_volume_changes.specs.declared.room.tallies.Tally.{Tally}
use Rattle.cf_volume_changes.proofs.room.changes.room_in_turn.Goals as goal

pub returns-in-None : goal.returns-in-None
returns-in-None c = λ seen v at fits. absurd (subst (λ (o : Option Tally). MatchOption o ⊥ (λ t. Counts c.args.parts.now.contents c.args.parts.now.limit t [] c.args.list.now v)) c.in-None.is (c.in_ok-tally_of.ensures seen v at fits))

pub returns-in-Some : goal.returns-in-Some
returns-in-Some c = λ seen v at fits.
    let done = subst (λ (o : Option Tally). MatchOption o ⊥ (λ t. Counts c.args.parts.now.contents c.args.parts.now.limit t [] c.args.list.now v)) c.in-Some.is (c.in_ok-tally_of.ensures seen v at fits) in
    record {
      places = c.has_numbers.ensures ∙ none_of (passes_most c.args.parts.now.contents.last.place (length c.args.list.now)) (list_any needs_id c.args.list.now)
          ∙ ap (λ (n : ℕ). not (passes_most n (length c.args.list.now) || list_any needs_id c.args.list.now)) at.place;
      table = flag_is c.in-Some.so_far.table (no_table v c.args.list.now) done.table;
      blocks = flag_is c.in-Some.so_far.blocks (no_blocks v c.args.list.now) done.full;
    }
