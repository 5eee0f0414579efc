use Rattle.std.proofs.Common.{List, ap, false, refl}
use Rattle.cf_base.specs.declared.spans.Span.{Span}
use Rattle.cf_table.proofs.MarkMeans.{anchored_bytes}
use Rattle.cf_table.proofs.Told.{means, told}
use Rattle.cf_table.proofs.rows.Row.set_anchor.Goals as goal

pub returns : goal.returns
returns c = record {
  means = λ i m. means _ _ (told c.args.self.now i m) (anchored_bytes c.args.self.now _ i m.number refl refl refl refl refl refl refl c.new.ensures m.bytes);
  rest = ap (λ (s : List Span). record c.args.self.now { anchor = c.args.self.now.number; dirty_since = false; modified_since = s }) c.new.ensures;
}
