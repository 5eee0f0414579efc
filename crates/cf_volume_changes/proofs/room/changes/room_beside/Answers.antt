use Rattle.std.proofs.Common.{ℕ, ◌∙◌, ◌&&◌, ◌||◌, ap, not, length, subst}
use Rattle.std.specs.List.{list_any}
use Rattle.std.specs.Prelude.{MatchOption, Option, []}
use Rattle.cf_model.specs.Changes.{needs_id, no_blocks, no_table, put_changes}
use Rattle.cf_model.specs.Images.{table_full}
use Rattle.cf_model.specs.Numbers.{passes_most}
use Rattle.cf_model.specs.State.{Volume as model}
use Rattle.cf_model.specs.Words.{is_empty}
use Rattle.cf_volume_changes.proofs.DraftFlags.{flag_is, none_of}
use Rattle.cf_volume_changes.specs.Drafts.{Drafts}
use Rattle.cf_volume_changes.specs.Tallies.{Counts}
use Rattle.cf_volume_changes.specs.declared.room.tallies.Tally.{Tally}
use Rattle.cf_volume_changes.proofs.room.changes.room_beside.Goals as goal

pub returns-in-None : goal.returns-in-None
returns-in-None c = λ seen v b at fits has. absurd (subst (λ (o : Option Tally). MatchOption o ⊥ (λ t. Counts c.args.parts.now.contents c.args.parts.now.limit t [] c.args.list.now v)) c.in-None.is (c.in_ok-tally_of.ensures seen v at fits))

pub returns-in_ok-full-in-Some : goal.returns-in_ok-full-in-Some
returns-in_ok-full-in-Some c = λ seen v b at fits has.
    let done = subst (λ (o : Option Tally). MatchOption o ⊥ (λ t. Counts c.args.parts.now.contents c.args.parts.now.limit t [] c.args.list.now v)) c.in-Some.is (c.in_ok-tally_of.ensures seen v at fits) in
    let drafts = subst (λ (w : model). Drafts c.args.parts.now.contents c.in-Some.so_far.draft w) done.ends done.drafts in
    let full = c.in_ok-full-in-Some.ensures (put_changes c.args.list.now v) b drafts has in
    record {
      places = c.has_numbers.ensures ∙ none_of (passes_most c.args.parts.now.contents.last.place (length c.args.list.now)) (list_any needs_id c.args.list.now)
          ∙ ap (λ (n : ℕ). not (passes_most n (length c.args.list.now) || list_any needs_id c.args.list.now)) at.place;
      table = c.and_not.ensures ∙ (λ j. flag_is c.in-Some.so_far.table (no_table v c.args.list.now) done.table j && not (full j)) ∙ none_of (no_table v c.args.list.now) (not (is_empty c.args.list.now) && table_full (put_changes c.args.list.now v).items b);
      blocks = flag_is c.in-Some.so_far.blocks (no_blocks v c.args.list.now) done.full;
    }
