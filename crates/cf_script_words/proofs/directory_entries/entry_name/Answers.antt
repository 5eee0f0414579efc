use Rattle.std.proofs.Common.{sym, ◌∙◌}
use Rattle.cf_script_words.proofs.PathMeans.{not_name, name_reads}
use Rattle.cf_script_words.proofs.directory_entries.entry_name.Goals as goal

pub returns-in-Err : goal.returns-in-Err
returns-in-Err c =
    let written = rw c.in-Some.is at c.in_ok-name.ensures in
    not_name c.args.word.now c.in-Some.name c.as_slice.result.now (sym c.as_bytes.ensures.value ∙ written.0) c.as_slice.ensures c.in-Err.ensures.cases.0

pub returns-in-Ok : goal.returns-in-Ok
returns-in-Ok c = name_reads c.args.word.now c.in-Some.name (rw c.as_bytes.ensures.value at (rw c.in-Some.is at c.in_ok-name.ensures)) (rw c.as_slice.ensures at c.in-Ok.ensures.cases.1)

pub returns-in_default : goal.returns-in_default
returns-in_default c = λ x is. (rw c.in_default.is at c.in_ok-name.ensures) x (c.as_bytes.ensures.value ∙ is.1)
