-- A refusal as RemoteFault is told from every other, and from what the remote answered.
use Rattle.std.proofs.Common.{◌≡◌, true, false, refl}
use Rattle.cf_base.specs.declared.answers.Shown.TheVariants as shown
use Rattle.cf_base.specs.declared.codes.Code.{Code}
use Rattle.cf_base.specs.declared.codes.Code.TheVariants as code
use Rattle.cf_base.specs.declared.ids.Rid.{Rid}
use Rattle.cf_base.specs.declared.ids.Version.{Version}
use Rattle.cf_report.specs.Texts.{result_line}
use Rattle.cf_check_text.specs.Fronts.{Meet, clash, is_remote_fault}
use Rattle.cf_check_text.proofs.Clashes.{clash_no_meet}

other_code : (c : Code) → is_remote_fault c ≡ false → clash (result_line (shown.Refused code.RemoteFault)) (result_line (shown.Refused c)) ≡ true
other_code code.RemoteFault h = let z : true ≡ false = h in absurd cc
other_code _ h = refl

pub fault_or_refusal : (c : Code) → is_remote_fault c ≡ false → Meet (result_line (shown.Refused code.RemoteFault)) (result_line (shown.Refused c)) → ⊥
fault_or_refusal c h = clash_no_meet (result_line (shown.Refused code.RemoteFault)) (result_line (shown.Refused c)) (other_code c h)

pub fault_or_answer : (rid : Rid) (version : Version) → Meet (result_line (shown.Refused code.RemoteFault)) (result_line (shown.Remote rid version)) → ⊥
fault_or_answer rid version = clash_no_meet (result_line (shown.Refused code.RemoteFault)) (result_line (shown.Remote rid version)) refl
