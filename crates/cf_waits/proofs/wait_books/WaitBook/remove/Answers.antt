use Rattle.std.proofs.Common.{◌∙◌, List, refl, subst, sym}
use Rattle.cf_model.specs.Missing.{Wait}
use Rattle.cf_waits.proofs.Booked.{in_order, waits_fewer, waits_kept, waits_removed}
use Rattle.cf_waits.specs.Books.{wait_entry}
use Rattle.cf_waits.specs.Lines.{InLine}
use Rattle.cf_waits.specs.Rising.{wait_key}
use Rattle.cf_waits.proofs.wait_books.WaitBook.remove.Goals as goal

pub invariant_of-self : goal.invariant_of-self
invariant_of-self c = waits_kept c.args.id.0 c.self.inside.waits.items c.take_wait.new.waits.items c.self.inside.index.items c.self.inside.plain c.self.inside.line c.self.invariant (sym c.take_wait.ensures.found ∙ c.in_default.is) c.take_wait.ensures.left

pub remove_entry-requires : goal.remove_entry-requires
remove_entry-requires c = in_order wait_entry wait_key (λ w. refl) c.self.inside.waits.items c.self.inside.index.items c.self.inside.index.items c.self.invariant.rising c.self.invariant.index refl

pub overflow_sub-self : goal.overflow_sub-self
overflow_sub-self c = waits_fewer c.args.id.0 c.self.inside.waits.items c.self.inside.index.items c.self.inside.plain c.plain_count.result c.self.inside.line c.in-Some.w c.self.invariant (sym c.take_wait.ensures.found ∙ c.in-Some.is) c.plain_count.ensures

pub invariant_of-self-2 : goal.invariant_of-self-2
invariant_of-self-2 c =
    waits_removed c.args.id.0 c.self.inside.waits.items c.take_wait.new.waits.items c.self.inside.index.items c.remove_entry.new.entries.items c.self.inside.plain c.plain_count.result c.self.inside.line c.line_left-self-inside.result c.in-Some.w c.entry_of.result
    c.self.invariant (sym c.take_wait.ensures.found ∙ c.in-Some.is) c.take_wait.ensures.left c.entry_of.ensures c.remove_entry.ensures.items c.plain_count.ensures
    (λ p ws h is. subst (λ (l : List Wait). InLine c.line_left-self-inside.result l) c.deref.ensures.value (c.line_left-self-inside.ensures p ws h (c.deref.ensures.value ∙ is)))
