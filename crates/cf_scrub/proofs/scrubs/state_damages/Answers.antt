use Rattle.std.proofs.Common.{◌-◌, ◌/◌, ℕ, List, ap, subst}
use Rattle.cf_scrub.proofs.Judged.{if_ok, is_some, is_state}
use Rattle.cf_volume_image.specs.Contents.{image_of}
use Rattle.cf_volume_image.specs.States.{TellsIn}
use Rattle.cf_scrub.proofs.scrubs.state_damages.Goals as goal

pub returns-clause-list : goal.returns-clause-list
returns-clause-list c =
    let told = subst (λ (b : List ℕ). TellsIn c.in-Ok.found.format b c.in-Ok.found.payloads (image_of c.in_ok-contents.contents)) c.as_slice.ensures
    (subst (λ (ps : List (List ℕ)). TellsIn c.in-Ok.found.format c.as_slice.result.now ps (image_of c.in_ok-contents.contents)) c.as_slice-2.ensures c.in_ok-contents.ensures) in
    if_ok c.damages_of-list.result (λ v h. is_state c.in-Ok.found c.args.disk.now.medium.bytes (image_of c.in_ok-contents.contents) v.items _ c.in-Ok.ensures.found c.if-found.false told (ap (λ (n : ℕ). (n - 3145728) / 4096) c.size.ensures) h)
    c.damages_of-list.ensures.list

pub returns-clause-some : goal.returns-clause-some
returns-clause-some c =
    let told = subst (λ (b : List ℕ). TellsIn c.in-Ok.found.format b c.in-Ok.found.payloads (image_of c.in_ok-contents.contents)) c.as_slice.ensures
    (subst (λ (ps : List (List ℕ)). TellsIn c.in-Ok.found.format c.as_slice.result.now ps (image_of c.in_ok-contents.contents)) c.as_slice-2.ensures c.in_ok-contents.ensures) in
    if_ok c.damages_of-list.result (λ v h. is_some c.in-Ok.found c.args.disk.now.medium.bytes (image_of c.in_ok-contents.contents) v.items _ c.in-Ok.ensures.found c.if-found.false told (ap (λ (n : ℕ). (n - 3145728) / 4096) c.size.ensures) h
    (c.no_damage_is_a_volume.ensures.sound c.in-Ok.found.format _ c.in_ok-contents.contents c.damages_of-list.ensures.rise c.damages_of-list.ensures.kept) c.requires.none)
    c.damages_of-list.ensures.list
