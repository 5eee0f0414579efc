use Rattle.std.proofs.Common.{◌≡◌, ◌++◌, ◌-◌, ◌∙◌, ap, arith, drop, length, sym, take}
use Rattle.std.specs.Prelude.{string_bytes}
use Rattle.std.proofs.lemmas.Str.{IsUtf8-string_bytes}
use Rattle.std.proofs.lemmas.Result.{IfOk-weaker}
use Rattle.cf_model.specs.ConflictNames.{cut_text, with_number}
use Rattle.cf_model.proofs.NameLaws.{name_is}
use Rattle.cf_tree.proofs.NumberedNames.{numbered_is, numbered_name}
use Rattle.cf_tree.proofs.conflicts.numbered.Goals as goal

pub name_of-requires : goal.name_of-requires
name_of-requires c =
    let room : c.saturating_sub-room.result ≡ 255 - length (string_bytes c.in_ok-mark.mark) - length (drop c.extension_at.result c.args.name.now) =
    omega (arith, c.saturating_sub-room.ensures, c.saturating_sub.ensures, c.len.ensures, c.as_bytes.ensures, ap length c.as_bytes.ensures.value, ap length c.split_at.ensures.back) in
    let whole : c.as_slice.result.now ≡ (cut_text c.saturating_sub-room.result (take c.extension_at.result c.args.name.now) ++ string_bytes c.in_ok-mark.mark) ++ drop c.extension_at.result c.args.name.now =
    cc (c.as_slice.ensures.value, c.in_ok-extend_from_slice-2.ensures.items, c.in_ok-extend_from_slice.ensures.items, c.in_ok-bytes.ensures.items, c.cut.ensures, c.as_bytes.ensures.value, c.split_at.ensures.front, c.split_at.ensures.back) in
    sym (name_is c.as_slice.result.now) ∙ numbered_name c.args.name.now (string_bytes c.in_ok-mark.mark) c.as_slice.result.now c.extension_at.result c.saturating_sub-room.result c.args.number (name_is c.args.name.now ∙ c.requires) (omega arith) c.extension_at.ensures.in_range c.extension_at.ensures.short
    c.extension_at.ensures.boundary c.in_ok-mark.ensures (IsUtf8-string_bytes c.in_ok-mark.mark) room whole

pub returns : goal.returns
returns c =
    let room : c.saturating_sub-room.result ≡ 255 - length (string_bytes c.in_ok-mark.mark) - length (drop c.extension_at.result c.args.name.now) =
    omega (arith, c.saturating_sub-room.ensures, c.saturating_sub.ensures, c.len.ensures, c.as_bytes.ensures, ap length c.as_bytes.ensures.value, ap length c.split_at.ensures.back) in
    let whole : c.as_slice.result.now ≡ (cut_text c.saturating_sub-room.result (take c.extension_at.result c.args.name.now) ++ string_bytes c.in_ok-mark.mark) ++ drop c.extension_at.result c.args.name.now =
    cc (c.as_slice.ensures.value, c.in_ok-extend_from_slice-2.ensures.items, c.in_ok-extend_from_slice.ensures.items, c.in_ok-bytes.ensures.items, c.cut.ensures, c.as_bytes.ensures.value, c.split_at.ensures.front, c.split_at.ensures.back) in
    let is = numbered_is c.args.name.now (string_bytes c.in_ok-mark.mark) c.as_slice.result.now c.extension_at.result c.saturating_sub-room.result c.args.number c.extension_at.ensures.value c.in_ok-mark.ensures room whole in
    IfOk-weaker c.name_of.result (λ n. n ≡ c.as_slice.result.now) (λ n. n ≡ with_number c.args.name.now c.args.number) (λ n h. h ∙ is) c.name_of.ensures
