-- The check is the front of an operation's refusals.
use Rattle.std.proofs.Common.{◌≡◌, Bool, true, false, cond, Option, Some, None, ◌||◌, List, length, not, eqb, is_some, ap}
use Rattle.std.specs.List.{list_all}
use Rattle.cf_base.specs.declared.answers.Shown.{Shown}
use Rattle.cf_base.specs.declared.answers.Shown.TheVariants as shown
use Rattle.cf_base.specs.declared.codes.Code.{Code}
use Rattle.cf_base.specs.declared.codes.Code.TheVariants as code
use Rattle.cf_base.specs.declared.operations.Operation.{Operation}
use Rattle.cf_base.specs.declared.operations.Operation.TheVariants as operation
use Rattle.cf_base.specs.declared.changes.Change.{Change}
use Rattle.cf_base.specs.declared.changes.Change.TheVariants as change
use Rattle.cf_base.specs.declared.waits.Cause.TheVariants as cause
use Rattle.cf_provider.specs.Checks.{base_at, check_on}
use Rattle.cf_model.specs.Arrows.{reading, then_do, unless}
use Rattle.cf_model.specs.Blocks.{blocks_of}
use Rattle.cf_model.specs.Books.{Book}
use Rattle.cf_model.specs.Changes.{change as change_by, changes}
use Rattle.cf_model.specs.Operations.{ack_change, ack_deed, ack_tests, changes_listed, changes_with, consent_changes, consent_deed, consent_tests, done, entries_deed, entries_tests, held_in, is_misaligned, is_outside, on_live, restart_by, restart_change, restart_tests, retrieve_by, retrieve_tests, second_verdict, transfer_by, transfer_tests}
use Rattle.cf_model.specs.Requests.{Fails, Live, is_fetch, is_validate}
use Rattle.cf_model.specs.Settling.{settle}
use Rattle.cf_model.specs.State.{Filter}
use Rattle.cf_model.specs.Trees.{Tree, Ret}
use Rattle.cf_model.specs.Words.{first_of}

one_more : (w : Bool) (x c : Code) (rest : Option Code) → cond w (Some x) None ≡ Some c → cond w (Some x) rest ≡ Some c
one_more true x c rest h = h
one_more false x c rest h = cc

three : (w m o : Bool) (x y z c : Code) (rest : Option Code) → cond w (Some x) (cond m (Some y) (cond o (Some z) None)) ≡ Some c → cond w (Some x) (cond m (Some y) (cond o (Some z) rest)) ≡ Some c
three true m o x y z c rest h = h
three false true o x y z c rest h = h
three false false o x y z c rest h = one_more o z c rest h

either : (w o p q : Bool) (x z c : Code) → cond w (Some x) (cond o (Some z) None) ≡ Some c → cond w (Some x) (cond (o || p || q) (Some z) None) ≡ Some c
either true o p q x z c h = h
either false true p q x z c h = h
either false false p q x z c h = cc

pub refused_first : (f : Book → Book) (op : Operation) (o : Option Live) (s : Filter) (c : Code) → check_on op (base_at o s) o ≡ Some c → on_live f op o s ≡ Ret (shown.Refused c) s
refused_first f op None s c h = let T : Option Code → Tree Filter Shown = λ o. unless shown.Refused o done s in ap T h
refused_first f (operation.Transfer key at bytes) (Some a) s c h =
    let e : first_of (transfer_tests a (change.Filled a.ask.item at bytes) at (length bytes) s) ≡ Some c = three (not (is_fetch a.ask.kind)) (is_misaligned s a at (length bytes)) (is_outside a at (length bytes)) code.WrongKind code.Misaligned code.OutsideAsk c _ h in
    ap (λ (o : Option Code). unless shown.Refused o (transfer_by a (change.Filled a.ask.item at bytes) (blocks_of at (length bytes))) s) e
refused_first f (operation.Refuse key asked status) (Some a) s c h =
    ap (λ (o : Option Code). unless shown.Refused o (then_do (settle a.ask.item (Fails a.ask.key (blocks_of asked.start asked.len) (cause.Failed status))) done) s) h
refused_first f (operation.Retrieve key asked) (Some a) s c h =
    let e : first_of (retrieve_tests a asked s) ≡ Some c = either (not (is_validate a.ask.kind)) (is_outside a asked.start asked.len) (not (eqb (length (held_in a asked s)) asked.len)) (not (list_all is_some (held_in a asked s))) code.WrongKind code.OutsideAsk c h in
    ap (λ (o : Option Code). unless shown.Refused o (reading (held_in a asked) (retrieve_by a)) s) e
refused_first f (operation.Ack key asked good) (Some a) s c h =
    let e : first_of (ack_tests a asked good s) ≡ Some c = three (not (is_validate a.ask.kind)) (is_misaligned s a asked.start asked.len) (is_outside a asked.start asked.len) code.WrongKind code.Misaligned code.OutsideAsk c _ h in
    ap (λ (o : Option Code). unless shown.Refused o (then_do (change_by (ack_change a asked good)) (then_do (settle a.ask.item (ack_deed a asked good)) done)) s) e
refused_first f (operation.Restart key) (Some a) s c h =
    let e : first_of (restart_tests a s) ≡ Some c = one_more _ _ c _ h in
    ap (λ (o : Option Code). unless shown.Refused o (reading (restart_change a) (restart_by a)) s) e
refused_first f (operation.Entries key list good) (Some a) s c h =
    let cs : List Change = changes_listed a list good s in
    let e : first_of (entries_tests f a list cs s) ≡ Some c = one_more _ _ c _ h in
    ap (λ (o : Option Code). unless shown.Refused o (then_do (changes_with f cs) (then_do (settle a.ask.item (entries_deed a good)) done)) s) e
refused_first f (operation.AckDehydrate key good) (Some a) s c h =
    let r : Option Code = second_verdict a s in
    let e : first_of (consent_tests a (consent_changes a good r) s) ≡ Some c = one_more _ _ c _ h in
    ap (λ (o : Option Code). unless shown.Refused o (then_do (changes (consent_changes a good r)) (then_do (settle a.ask.item (consent_deed a good r)) done)) s) e
