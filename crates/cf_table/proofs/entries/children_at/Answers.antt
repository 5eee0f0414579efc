use Rattle.std.proofs.Common.{◌++◌, ◌∙◌, [], List, ap, refl, subst, sym}
use Rattle.std.specs.Prelude.{filter}
use Rattle.cf_base.specs.declared.ids.ItemId.{ItemId}
use Rattle.cf_table.specs.Index.{entry_at, entry_ids, is_entry_in}
use Rattle.cf_table.specs.declared.entries.Entry.{Entry}
use Rattle.cf_table.proofs.EntryPlaces.{AreLeft, children_there, left_behind, no_more, split}
use Rattle.cf_table.proofs.NamedEntries.{all_told, not_not}
use Rattle.cf_table.proofs.entries.children_at.Goals as goal

pub from-items-requires : goal.from-items-requires
from-items-requires c = split (entry_at c.args.parent [] (record { 0 = 0 })) c.args.entries.now c.requires

pub loop-entry-init : goal.loop-entry-init
loop-entry-init c = record {
  left = subst (λ (l : List Entry). AreLeft (entry_at c.args.parent [] (record { 0 = 0 })) l) (sym c.from-items.ensures) (left_behind (entry_at c.args.parent [] (record { 0 = 0 })) c.args.entries.now c.requires);
  ids = ap (λ (l : List ItemId). l ++ entry_ids (filter (is_entry_in c.args.parent) c.from-items.result)) c.new-ids.ensures.items
      ∙ ap (λ (l : List Entry). entry_ids (filter (is_entry_in c.args.parent) l)) c.from-items.ensures
      ∙ ap (λ (l : List Entry). entry_ids l) (children_there c.args.parent (record { 0 = 0 }) c.args.entries.now refl);
}

pub returns-then-ne : goal.returns-then-ne
returns-then-ne c =
    all_told c.loop-entry.ids.items _ _
    (ap (λ (l : List Entry). entry_ids (filter (is_entry_in c.args.parent) l)) c.in-Some.ensures
    ∙ ap (λ (l : List Entry). entry_ids l) (no_more c.args.parent (record { 0 = 0 }) c.in-Some.entry.now c.next.new.self
    (subst (λ (l : List Entry). AreLeft (entry_at c.args.parent [] (record { 0 = 0 })) l) c.in-Some.ensures c.loop-entry.invariant.left)
    (not_not (is_entry_in c.args.parent c.in-Some.entry.now) (sym c.if-ne.true ∙ c.ne.ensures))))
    c.loop-entry.invariant.ids
