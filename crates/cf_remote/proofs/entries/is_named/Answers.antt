use Rattle.std.proofs.Common.{List, ap, sym, ◌∙◌, ℕ}
use Rattle.std.specs.Prelude.{bytes_eq}
use Rattle.std.proofs.lemmas.Map.Text.{is_eq-slice_cmp}
use Rattle.cf_remote.proofs.Taken.{same_names}
use Rattle.cf_remote.proofs.entries.is_named.Goals as goal

pub returns : goal.returns
returns c = c.eq.ensures ∙ ap (λ (l : List ℕ). bytes_eq l c.args.name.now) c.as_slice.ensures ∙ sym (is_eq-slice_cmp c.args.entry.now.name c.args.name.now) ∙ same_names c.args.entry.now.name c.args.name.now
