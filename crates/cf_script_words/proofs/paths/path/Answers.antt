use Rattle.std.proofs.Common.{◌≡◌, sym, ◌∙◌}
use Rattle.cf_script_words.proofs.PathMeans.{not_path, path_reads}
use Rattle.cf_script_words.proofs.paths.path.Goals as goal

pub returns : goal.returns
returns c =
    let written = rw (c.in-Ok-Some.is, c.in-Ok-Some.field-0-is) at c.unescaped.ensures in
    not_path c.args.word.now c.in-Ok-Some.path c.as_slice-2.result.now (sym c.as_bytes.ensures.value ∙ written.0) c.as_slice-2.ensures c.in-Err-from_utf8.ensures.cases.0

pub returns-in-Ok : goal.returns-in-Ok
returns-in-Ok c =
    let same : c.in_ok-from_str-in-Ok.field-0 ≡ c.in-Ok-Some.path = c.in_ok-from_str-in-Ok.ensures ∙ c.in-Ok.ensures.cases.0 ∙ c.as_slice-2.ensures in
    path_reads c.args.word.now c.in-Ok-Some.path c.in_ok-from_str-in-Ok.field-0 (rw c.as_bytes.ensures.value at (rw (c.in-Ok-Some.is, c.in-Ok-Some.field-0-is) at c.unescaped.ensures)) same (rw (same, ← c.as_slice-2.ensures) c.in-Ok.ensures.cases.1) (rw (same, ← c.as_slice.ensures) (sym c.has_slash.ensures ∙ c.if-not-has_slash.false))

pub returns-in-Ok-None : goal.returns-in-Ok-None
returns-in-Ok-None c = λ x is. (rw c.in-Ok-None.field-0-is at c.in-Ok-None.ensures) x (c.as_bytes.ensures.value ∙ is.2)
