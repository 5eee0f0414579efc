use Rattle.std.proofs.Common.{sym, ◌∙◌, arith}
use Rattle.std.proofs.lemmas.Bool.{both_ways}
use Rattle.cf_journal.specs.Format.{header}
use Rattle.cf_journal.proofs.SlotText.{names_generation, names_length}
use Rattle.cf_journal.proofs.slots.spelled_in.Goals as goal

pub returns-then-generation-eq0-clause-none : goal.returns-then-generation-eq0-clause-none
returns-then-generation-eq0-clause-none c = λ g l slot. omega (arith, slot.positive, c.if-generation-eq0.true, c.from_be_bytes-generation.ensures ∙ names_generation c.args.format c.args.text.now g l c.args.size slot)

pub returns-then-len-most_image_of-clause-none : goal.returns-then-len-most_image_of-clause-none
returns-then-len-most_image_of-clause-none c = λ g l slot. omega (arith, slot.short, c.if-len-most_image_of.true, c.most_image_of.ensures, c.from_be_bytes-len.ensures ∙ names_length c.args.format c.args.text.now g l c.args.size slot)

pub returns-then-not-is_same-clause-none : goal.returns-then-not-is_same-clause-none
returns-then-not-is_same-clause-none c = λ g l slot.
    let gen = c.from_be_bytes-generation.ensures ∙ names_generation c.args.format c.args.text.now g l c.args.size slot in
    let len = c.from_be_bytes-len.ensures ∙ names_length c.args.format c.args.text.now g l c.args.size slot in
    both_ways c.is_same.result c.if-not-is_same.true (c.is_same.ensures.1 (c.split_at.ensures.back ∙ slot.header_is ∙ sym (c.header_bytes-header.ensures ∙ (λ i. header c.args.format (gen i) (len i) c.args.size))))

pub returns-clause-found : goal.returns-clause-found
returns-clause-found c = record {
  gate = c.if-text-eq0.false;
  header_is = sym c.split_at.ensures.back ∙ c.is_same.ensures.0 c.if-not-is_same.false ∙ c.header_bytes-header.ensures;
  positive = omega (arith, c.if-generation-eq0.false);
  fits = c.from_be_bytes-generation.type_inv;
  short = omega (arith, c.if-len-most_image_of.false, c.most_image_of.ensures);
}
