use Rattle.std.proofs.Common.{◌++◌, ◌∙◌, ◌∷◌, [], ap, cond, List, subst, ℕ}
use Rattle.cf_model.specs.Frames.{flag, name_bytes}
use Rattle.cf_model.specs.Words.{in_bytes}
use Rattle.cf_wire.specs.Spelled.{FitsName}
use Rattle.cf_wire.proofs.Bytes.{joined}
use Rattle.cf_wire.proofs.spelled_replies.put_entry.Goals as goal

pub returns-clause-ok : goal.returns-clause-ok
returns-clause-ok c =
    let o = c.args.out.now in
    let e = c.args.entry.now in
    let ids = in_bytes 8 e.rid.0 ++ in_bytes 8 e.parent.0 in
    let marks = cond e.dir 1 2 ∷ flag e.live ∷ [] in
    let name = c.in_ok-put_name.ensures.ok ∙ ap (λ (n : List ℕ). c.put_8-2.new.out ++ name_bytes n) c.as_slice-name.ensures in
    let first = joined o c.put_8.new.out c.put_8-2.new.out (in_bytes 8 e.rid.0) (in_bytes 8 e.parent.0) c.in_ok-put_8.ensures.ok c.in_ok-put_8-2.ensures.ok in
    let second = joined o c.put_8-2.new.out c.put_name.new.out ids (name_bytes e.name) first name in
    let third = joined o c.put_name.new.out c.put_marks.new.out (ids ++ name_bytes e.name) marks second c.in_ok-put_marks.ensures.ok in
    let fourth = joined o c.put_marks.new.out c.put_8-3.new.out (ids ++ name_bytes e.name ++ marks) (in_bytes 8 e.version.0) third c.in_ok-put_8-3.ensures.ok in
    let fifth = joined o c.put_8-3.new.out c.put_4.new.out (ids ++ name_bytes e.name ++ marks ++ in_bytes 8 e.version.0) (in_bytes 4 e.len) fourth c.in_ok-put_4.ensures.ok in
    joined o c.put_4.new.out c.put_8-4.new.out (ids ++ name_bytes e.name ++ marks ++ in_bytes 8 e.version.0 ++ in_bytes 4 e.len) (in_bytes 8 e.changed) fifth c.in_ok-put_8-4.ensures.ok

pub returns-clause-fits : goal.returns-clause-fits
returns-clause-fits c = record {
  rid = c.in_ok-put_8.ensures.fits;
  parent = c.in_ok-put_8-2.ensures.fits;
  name = subst FitsName c.as_slice-name.ensures c.in_ok-put_name.ensures.fits;
  version = c.in_ok-put_8-3.ensures.fits;
  len = c.in_ok-put_4.ensures.fits;
  changed = c.in_ok-put_8-4.ensures.fits;
}
